use Rattle.std.proofs.Common.{◌≡◌, ◌<◌, length, map, nat_eq, sym, subst, ◌∙◌, rules}
use Rattle.std.proofs.lemmas.List.{length-map}
use Rattle.indexmap.specs.IndexMap.{get}
use Rattle.lin_history.specs.declared.limits.TheConstants.{MAX_OBJECTS}
use Rattle.lin_history.specs.Recorder.RecordedHistory.{DeclaredObject}
use Rattle.lin_history.specs.Recorder.Views.{object_view}
use Rattle.lin_history.specs.Recorder.BuilderState.{recorded}
use Rattle.lin_history.specs.Recorder.NextEvents.{AddsNone}
use Rattle.lin_history.proofs.RecorderLemmas.OutcomeLemmas.{not_err}
use Rattle.lin_history.proofs.RecorderLemmas.NextEventLemmas.{adds-object}
use Rattle.lin_history.proofs.RecorderLemmas.BuilderLemmas.{kept-object}
use Rattle.lin_history.proofs.recorder.builder.Builder.declare.Goals as goal

pub invariant_of-self-2 : goal.invariant_of-self-2
invariant_of-self-2 c =
    let new : DeclaredObject = record { name = c.args.name.now; kind = c.args.kind; start = c.args.start } in
    let declared : c.new-declaration.result ≡ record { kind = c.args.kind; start = c.args.start } = search rules in
    let ok = sym c.is_err.ensures.value ∙ c.if-is_err.false in
    let room : length (map object_view c.self.inside.objects.entries) < MAX_OBJECTS = subst (λ n. n < MAX_OBJECTS) (sym (length-map c.self.inside.objects.entries object_view)) c.in_default.ensures.room in
    rw (not_err c.put.result _ c.put.ensures.objects ok, not_err c.put.result _ c.put.ensures.counts ok, declared)
    (kept-object (map object_view c.self.inside.objects.entries) c.self.inside.calls.items c.self.inside.events (get nat_eq c.self.inside.last) c.self.inside.counts.items c.self.invariant new c.in_default.ensures.valid room)

pub returns-clause-history : goal.returns-clause-history
returns-clause-history c =
    let declared : c.new-declaration.result ≡ record { kind = c.args.kind; start = c.args.start } = search rules in
    let ok = sym c.is_err.ensures.value ∙ c.if-is_err.false in
    let old = recorded (map object_view c.self.inside.objects.entries) c.self.inside.calls.items c.self.inside.events in
    let added : AddsNone old (recorded (map object_view c.put.new.objects.entries) c.self.inside.calls.items c.self.inside.events) =
    rw (not_err c.put.result _ c.put.ensures.objects ok, declared) (adds-object old c.args.name.now c.args.kind c.args.start) in
    rw (← c.self.view_is) added

pub returns-clause-ok : goal.returns-clause-ok
returns-clause-ok c = search rules depth 3
