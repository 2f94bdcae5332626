use Rattle.std.proofs.Common.{◌≡◌, ◌+◌, ℕ, Some, None, IsSomeAnd, map, nat_eq, sym, subst}
use Rattle.indexmap.specs.IndexMap.{get}
use Rattle.lin_history.specs.Refusals.{first_that_holds}
use Rattle.lin_history.specs.Recorder.Events.{returns_, replied}
use Rattle.lin_history.specs.Recorder.Recording.{index_named, end_refusals}
use Rattle.lin_history.specs.Recorder.Found.{IsFound}
use Rattle.lin_history.specs.Recorder.Views.{object_view}
use Rattle.lin_history.specs.Recorder.BuilderState.{recorded}
use Rattle.lin_history.specs.Recorder.NextEvents.{Adds, CannotFollow}
use Rattle.lin_history.proofs.RecorderLemmas.NextEventLemmas.{return_ends, no_end-ended, no_end-none, no_end-elsewhere, end_refused}
use Rattle.lin_history.proofs.RecorderLemmas.EndLemmas.{IsEnded, IsPendingAt, pending_at, has_returned}
use Rattle.lin_history.proofs.recorder.builder.Builder.ret_on.Goals as goal

pub invariant_of-self : goal.invariant_of-self
invariant_of-self c =
    let at : IsPendingAt (map object_view c.self.inside.objects.entries) c.self.inside.calls.items c.args.process c.args.found.name.now c.in-Ok.call = pending_at (map object_view c.self.inside.objects.entries) c.self.inside.calls.items c.self.inside.events c.args.process c.args.found c.in-Ok.call (subst (λ h. IsFound h c.args.found) (sym c.self.view_is) c.requires) (rw c.as_slice.ensures.value at c.in-Ok.ensures.ok) in
    let step : IsEnded (map object_view c.self.inside.objects.entries) c.self.inside.calls.items c.self.inside.events (get nat_eq c.self.inside.last) c.self.inside.counts.items c.args.process c.args.found.name.now (λ o. returns_ c.args.process o c.args.reply) (replied (c.self.inside.events + 1) c.args.reply) c.complete.new.calls.items (c.self.inside.events + 1) = has_returned (map object_view c.self.inside.objects.entries) c.self.inside.calls.items c.self.inside.events (get nat_eq c.self.inside.last) c.self.inside.counts.items c.self.invariant c.args.process c.args.found.name.now c.in-Ok.call at c.args.reply c.complete.new.calls.items c.complete.ensures.calls in
    rw c.complete.ensures.events (step.kept)

pub returns-in-Ok-clause-sound : goal.returns-in-Ok-clause-sound
returns-in-Ok-clause-sound c =
    let at : IsPendingAt (map object_view c.self.inside.objects.entries) c.self.inside.calls.items c.args.process c.args.found.name.now c.in-Ok.call = pending_at (map object_view c.self.inside.objects.entries) c.self.inside.calls.items c.self.inside.events c.args.process c.args.found c.in-Ok.call (subst (λ h. IsFound h c.args.found) (sym c.self.view_is) c.requires) (rw c.as_slice.ensures.value at c.in-Ok.ensures.ok) in
    let step : IsEnded (map object_view c.self.inside.objects.entries) c.self.inside.calls.items c.self.inside.events (get nat_eq c.self.inside.last) c.self.inside.counts.items c.args.process c.args.found.name.now (λ o. returns_ c.args.process o c.args.reply) (replied (c.self.inside.events + 1) c.args.reply) c.complete.new.calls.items (c.self.inside.events + 1) = has_returned (map object_view c.self.inside.objects.entries) c.self.inside.calls.items c.self.inside.events (get nat_eq c.self.inside.last) c.self.inside.counts.items c.self.invariant c.args.process c.args.found.name.now c.in-Ok.call at c.args.reply c.complete.new.calls.items c.complete.ensures.calls in
    subst (λ h. first_that_holds (end_refusals h c.args.process c.args.found.name.now) ≡ None) c.self.view_is step.sound

pub returns-in-Ok-clause-ok : goal.returns-in-Ok-clause-ok
returns-in-Ok-clause-ok c =
    let at : IsPendingAt (map object_view c.self.inside.objects.entries) c.self.inside.calls.items c.args.process c.args.found.name.now c.in-Ok.call = pending_at (map object_view c.self.inside.objects.entries) c.self.inside.calls.items c.self.inside.events c.args.process c.args.found c.in-Ok.call (subst (λ h. IsFound h c.args.found) (sym c.self.view_is) c.requires) (rw c.as_slice.ensures.value at c.in-Ok.ensures.ok) in
    let step : IsEnded (map object_view c.self.inside.objects.entries) c.self.inside.calls.items c.self.inside.events (get nat_eq c.self.inside.last) c.self.inside.counts.items c.args.process c.args.found.name.now (λ o. returns_ c.args.process o c.args.reply) (replied (c.self.inside.events + 1) c.args.reply) c.complete.new.calls.items (c.self.inside.events + 1) = has_returned (map object_view c.self.inside.objects.entries) c.self.inside.calls.items c.self.inside.events (get nat_eq c.self.inside.last) c.self.inside.counts.items c.self.invariant c.args.process c.args.found.name.now c.in-Ok.call at c.args.reply c.complete.new.calls.items c.complete.ensures.calls in
    rw (← c.self.view_is, c.complete.ensures.events) step.same

pub returns-in-Ok-clause-history : goal.returns-in-Ok-clause-history
returns-in-Ok-clause-history c =
    let at : IsPendingAt (map object_view c.self.inside.objects.entries) c.self.inside.calls.items c.args.process c.args.found.name.now c.in-Ok.call = pending_at (map object_view c.self.inside.objects.entries) c.self.inside.calls.items c.self.inside.events c.args.process c.args.found c.in-Ok.call (subst (λ h. IsFound h c.args.found) (sym c.self.view_is) c.requires) (rw c.as_slice.ensures.value at c.in-Ok.ensures.ok) in
    let step : IsEnded (map object_view c.self.inside.objects.entries) c.self.inside.calls.items c.self.inside.events (get nat_eq c.self.inside.last) c.self.inside.counts.items c.args.process c.args.found.name.now (λ o. returns_ c.args.process o c.args.reply) (replied (c.self.inside.events + 1) c.args.reply) c.complete.new.calls.items (c.self.inside.events + 1) = has_returned (map object_view c.self.inside.objects.entries) c.self.inside.calls.items c.self.inside.events (get nat_eq c.self.inside.last) c.self.inside.counts.items c.self.invariant c.args.process c.args.found.name.now c.in-Ok.call at c.args.reply c.complete.new.calls.items c.complete.ensures.calls in
    subst (λ h. IsSomeAnd (index_named h c.args.found.name.now) (λ object. Adds h (returns_ c.args.process object c.args.reply) (recorded (map object_view c.self.inside.objects.entries) c.complete.new.calls.items c.complete.new.events))) c.self.view_is (rw c.complete.ensures.events (step.added))

pub returns-in-Err-clause-err : goal.returns-in-Err-clause-err
returns-in-Err-clause-err c =
    let old = recorded (map object_view c.self.inside.objects.entries) c.self.inside.calls.items c.self.inside.events in
    let refused : first_that_holds (end_refusals old c.args.process c.args.found.name.now) ≡ Some c.in-Err.fault = end_refused old c.args.process c.args.found c.in-Err.fault (subst (λ h. IsFound h c.args.found) (sym c.self.view_is) c.requires) (rw c.as_slice.ensures.value at c.in-Err.ensures.err) in
    subst (λ h. first_that_holds (end_refusals h c.args.process c.args.found.name.now) ≡ Some c.in-Err.fault) c.self.view_is refused

pub returns-in-Err-clause-ended : goal.returns-in-Err-clause-ended
returns-in-Err-clause-ended c is =
    let old = recorded (map object_view c.self.inside.objects.entries) c.self.inside.calls.items c.self.inside.events in
    let refused : first_that_holds (end_refusals old c.args.process c.args.found.name.now) ≡ Some c.in-Err.fault = end_refused old c.args.process c.args.found c.in-Err.fault (subst (λ h. IsFound h c.args.found) (sym c.self.view_is) c.requires) (rw c.as_slice.ensures.value at c.in-Err.ensures.err) in
    subst (λ h. (object : ℕ) → CannotFollow h (returns_ c.args.process object c.args.reply)) c.self.view_is (no_end-ended (λ o. returns_ c.args.process o c.args.reply) c.args.process (return_ends c.args.process c.args.reply) old c.args.found.name.now c.in-Err.fault refused is)

pub returns-in-Err-clause-no_call : goal.returns-in-Err-clause-no_call
returns-in-Err-clause-no_call c is =
    let old = recorded (map object_view c.self.inside.objects.entries) c.self.inside.calls.items c.self.inside.events in
    let refused : first_that_holds (end_refusals old c.args.process c.args.found.name.now) ≡ Some c.in-Err.fault = end_refused old c.args.process c.args.found c.in-Err.fault (subst (λ h. IsFound h c.args.found) (sym c.self.view_is) c.requires) (rw c.as_slice.ensures.value at c.in-Err.ensures.err) in
    subst (λ h. (object : ℕ) → CannotFollow h (returns_ c.args.process object c.args.reply)) c.self.view_is (no_end-none (λ o. returns_ c.args.process o c.args.reply) c.args.process (return_ends c.args.process c.args.reply) old c.args.found.name.now c.in-Err.fault refused is)

pub returns-in-Err-clause-other_object : goal.returns-in-Err-clause-other_object
returns-in-Err-clause-other_object c is =
    let old = recorded (map object_view c.self.inside.objects.entries) c.self.inside.calls.items c.self.inside.events in
    let refused : first_that_holds (end_refusals old c.args.process c.args.found.name.now) ≡ Some c.in-Err.fault = end_refused old c.args.process c.args.found c.in-Err.fault (subst (λ h. IsFound h c.args.found) (sym c.self.view_is) c.requires) (rw c.as_slice.ensures.value at c.in-Err.ensures.err) in
    subst (λ h. IsSomeAnd (index_named h c.args.found.name.now) (λ object. CannotFollow h (returns_ c.args.process object c.args.reply))) c.self.view_is (no_end-elsewhere (λ o. returns_ c.args.process o c.args.reply) c.args.process (return_ends c.args.process c.args.reply) old c.args.found.name.now c.in-Err.fault refused is)
