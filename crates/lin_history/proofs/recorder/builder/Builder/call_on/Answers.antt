use Rattle.std.proofs.Common.{◌≡◌, ◌<◌, true, Some, None, IsSomeAnd, map, length, slice_get, nat_eq, is_some, sym, subst, ◌∙◌, rules, refl}
use Rattle.std.proofs.lemmas.Option.{slice_get_read}
use Rattle.indexmap.specs.IndexMap.{get}
use Rattle.lin_history.specs.declared.limits.TheConstants.{MAX_CALLS, MAX_CALLS_ON_OBJECT}
use Rattle.lin_history.specs.declared.recorder.fault.BuildFault.TheVariants.{TooManyCalls}
use Rattle.lin_history.specs.Refusals.{first_that_holds}
use Rattle.lin_history.specs.Recorder.Events.{calls}
use Rattle.lin_history.specs.Recorder.Recording.{last_call, index_named, is_full, call_refusals, with_call}
use Rattle.lin_history.specs.Recorder.Found.{IsFound}
use Rattle.lin_history.specs.Recorder.Views.{object_view}
use Rattle.lin_history.specs.Recorder.BuilderState.{recorded}
use Rattle.lin_history.specs.Recorder.NextEvents.{Adds, CannotFollow}
use Rattle.lin_history.proofs.RecorderLemmas.OutcomeLemmas.{not_err, is_err-on_err}
use Rattle.lin_history.proofs.RecorderLemmas.NextEventLemmas.{adds-call, no_call_while, call_refused}
use Rattle.lin_history.proofs.RecorderLemmas.BuilderLemmas.{kept-last, kept-call, recorded-call}
use Rattle.lin_history.proofs.recorder.builder.Builder.call_on.Goals as goal

pub returns-in-Some-clause-err : goal.returns-in-Some-clause-err
returns-in-Some-clause-err c not_memory =
    let old = recorded (map object_view c.self.inside.objects.entries) c.self.inside.calls.items c.self.inside.events in
    let is : IsFound old c.args.found = subst (λ h. IsFound h c.args.found) (sym c.self.view_is) c.requires in
    subst (λ h. first_that_holds (call_refusals h c.args.process c.args.found.name.now) ≡ Some c.in-Some.fault) c.self.view_is
    (call_refused old c.args.process c.args.found.name.now c.args.found.index c.in-Some.fault is.valid is.named (sym (rw c.as_slice.ensures.value at c.in-Some.ensures.fault)))

pub returns-in-Some-clause-ended : goal.returns-in-Some-clause-ended
returns-in-Some-clause-ended c is object =
    let old = recorded (map object_view c.self.inside.objects.entries) c.self.inside.calls.items c.self.inside.events in
    let busy : is_some (last_call old c.args.process) ≡ true = rw c.as_slice.ensures.value at c.in-Some.ensures.busy in
    subst (λ h. CannotFollow h (calls c.args.process object c.args.op)) c.self.view_is (no_call_while old c.args.process object c.args.op busy)

pub returns-in-Some-clause-busy : goal.returns-in-Some-clause-busy
returns-in-Some-clause-busy c is object =
    let old = recorded (map object_view c.self.inside.objects.entries) c.self.inside.calls.items c.self.inside.events in
    let busy : is_some (last_call old c.args.process) ≡ true = rw c.as_slice.ensures.value at c.in-Some.ensures.busy in
    subst (λ h. CannotFollow h (calls c.args.process object c.args.op)) c.self.view_is (no_call_while old c.args.process object c.args.op busy)

pub invariant_of-self : goal.invariant_of-self
invariant_of-self c =
    let idle = rw c.as_slice.ensures.value at c.in_default.ensures.idle in
    let failed = sym c.is_err.ensures.value ∙ c.if-is_err.true in
    rw (is_err-on_err c.add.result _ c.add.ensures.same failed, is_err-on_err c.add.result _ c.add.ensures.same_counts failed, is_err-on_err c.add.result _ c.add.ensures.same_events failed)
    (kept-last (map object_view c.self.inside.objects.entries) c.self.inside.calls.items c.self.inside.events (get nat_eq c.self.inside.last) c.self.inside.counts.items c.self.invariant c.args.process (get nat_eq c.add.new.last) idle (rw c.next_call-call.ensures.call at c.add.ensures.others))

pub invariant_of-self-2 : goal.invariant_of-self-2
invariant_of-self-2 c =
    let idle = rw c.as_slice.ensures.value at c.in_default.ensures.idle in
    let done = sym c.is_err.ensures.value ∙ c.if-is_err.false in
    let kept = kept-last (map object_view c.self.inside.objects.entries) c.self.inside.calls.items c.self.inside.events (get nat_eq c.self.inside.last) c.self.inside.counts.items c.self.invariant c.args.process (get nat_eq c.add.new.last) idle (rw c.next_call-call.ensures.call at c.add.ensures.others) in
    let counted : slice_get c.self.inside.counts.items c.args.found.index ≡ Some c.next_call-call.result.number = rw c.as_slice-4.ensures.value at c.next_call-call.ensures.number in
    let room : length c.self.inside.calls.items < MAX_CALLS = rw c.as_slice-2.ensures.value at (c.is_full.ensures.room c.if-is_full.false) in
    let room_on : c.next_call-call.result.number < MAX_CALLS_ON_OBJECT = rw (c.as_slice-3.ensures.value, counted) at (c.is_full.ensures.room_on c.if-is_full.false) in
    rw (not_err c.add.result _ c.add.ensures.calls done, not_err c.add.result _ c.add.ensures.counts done, not_err c.add.result _ c.add.ensures.events done, c.next_call-call.ensures.call)
    (kept-call (map object_view c.self.inside.objects.entries) c.self.inside.calls.items c.self.inside.events (get nat_eq c.add.new.last) c.self.inside.counts.items kept c.args.process c.args.found.index c.next_call-call.result.number c.args.op idle counted room room_on (rw c.next_call-call.ensures.call at (not_err c.add.result _ c.add.ensures.own done)))

pub returns-clause-ok : goal.returns-clause-ok
returns-clause-ok c =
    let done = sym c.is_err.ensures.value ∙ c.if-is_err.false in
    let old = recorded (map object_view c.self.inside.objects.entries) c.self.inside.calls.items c.self.inside.events in
    let is : IsFound old c.args.found = subst (λ h. IsFound h c.args.found) (sym c.self.view_is) c.requires in
    let new = recorded (map object_view c.self.inside.objects.entries) c.add.new.calls.items c.add.new.events in
    let called : new ≡ with_call old c.args.process c.args.found.index c.args.op =
    rw (not_err c.add.result _ c.add.ensures.calls done, not_err c.add.result _ c.add.ensures.events done, c.next_call-call.ensures.call)
    (recorded-call (map object_view c.self.inside.objects.entries) c.self.inside.calls.items c.self.inside.events c.args.process c.args.found.index c.next_call-call.result.number c.args.op) in
    subst (λ h. IsSomeAnd (index_named h c.args.found.name.now) (λ object. new ≡ with_call h c.args.process object c.args.op)) c.self.view_is
    (subst (λ r. IsSomeAnd r (λ object. new ≡ with_call old c.args.process object c.args.op)) (sym is.named) called)

pub returns-clause-history : goal.returns-clause-history
returns-clause-history c =
    let idle = rw c.as_slice.ensures.value at c.in_default.ensures.idle in
    let done = sym c.is_err.ensures.value ∙ c.if-is_err.false in
    let old = recorded (map object_view c.self.inside.objects.entries) c.self.inside.calls.items c.self.inside.events in
    let is : IsFound old c.args.found = subst (λ h. IsFound h c.args.found) (sym c.self.view_is) c.requires in
    let new = recorded (map object_view c.self.inside.objects.entries) c.add.new.calls.items c.add.new.events in
    let called : new ≡ with_call old c.args.process c.args.found.index c.args.op =
    rw (not_err c.add.result _ c.add.ensures.calls done, not_err c.add.result _ c.add.ensures.events done, c.next_call-call.ensures.call)
    (recorded-call (map object_view c.self.inside.objects.entries) c.self.inside.calls.items c.self.inside.events c.args.process c.args.found.index c.next_call-call.result.number c.args.op) in
    let within : c.args.found.index < length (map object_view c.self.inside.objects.entries) = search rules in
    let added : Adds old (calls c.args.process c.args.found.index c.args.op) new =
    subst (λ h. Adds old (calls c.args.process c.args.found.index c.args.op) h) (sym called) (adds-call old c.args.process c.args.found.index c.args.op idle within) in
    subst (λ h. IsSomeAnd (index_named h c.args.found.name.now) (λ object. Adds h (calls c.args.process object c.args.op) new)) c.self.view_is
    (subst (λ r. IsSomeAnd r (λ object. Adds old (calls c.args.process object c.args.op) new)) (sym is.named) added)

pub returns-then-is_full-clause-err : goal.returns-then-is_full-clause-err
returns-then-is_full-clause-err c not_memory =
    let old = recorded (map object_view c.self.inside.objects.entries) c.self.inside.calls.items c.self.inside.events in
    let is : IsFound old c.args.found = subst (λ h. IsFound h c.args.found) (sym c.self.view_is) c.requires in
    let named : index_named old c.args.found.name.now ≡ Some c.args.found.index = is.named in
    let valid = is.valid in
    let idle : last_call old c.args.process ≡ None = rw c.as_slice.ensures.value at c.in_default.ensures.idle in
    let full : is_full old (Some c.args.found.index) ≡ true = rw c.as_slice-2.ensures.value at (sym c.is_full.ensures.full ∙ c.if-is_full.true) in
    subst (λ h. first_that_holds (call_refusals h c.args.process c.args.found.name.now) ≡ Some TooManyCalls) c.self.view_is
    (rw (valid, named, idle, full) refl)

pub add-requires-clause-room : goal.add-requires-clause-room
add-requires-clause-room c =
    let counted : slice_get c.self.inside.counts.items c.args.found.index ≡ Some c.next_call-call.result.number = search (rules, slice_get_read) in
    rw (c.as_slice-3.ensures.value, counted) at (c.is_full.ensures.room_on c.if-is_full.false)

pub returns-then-is_full-clause-memory : goal.returns-then-is_full-clause-memory
returns-then-is_full-clause-memory c not_memory = search rules depth 3
