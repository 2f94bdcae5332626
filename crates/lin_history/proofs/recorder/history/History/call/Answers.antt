use Rattle.std.proofs.Common.{◌≡◌, ◌<◌, ◌∙◌, Some, length, map, ap, refl, arith}
use Rattle.std.proofs.lemmas.List.{length-map, take-map}
use Rattle.std.proofs.lemmas.Option.{slice_get_read, slice_get-map}
use Rattle.std.specs.Option.{option_map}
use Rattle.lin_history.specs.Recorder.RecordedHistory.{RecordedHistory}
use Rattle.lin_history.specs.Recorder.Views.{call_view}
use Rattle.std.specs.List.{slice_get}
use Rattle.lin_history.proofs.recorder.history.History.call.Goals as goal

pub returns-clause-number : goal.returns-clause-number
returns-clause-number c =
    let calls : map call_view c.self.inside.calls.items ≡ c.args.self.now.calls = ap (λ (h : RecordedHistory). h.calls) c.self.view_is in
    let count : length (map call_view c.self.inside.calls.items) ≡ length c.args.self.now.calls = ap length calls in
    let within : c.args.call < length c.self.inside.calls.items = omega (arith, c.requires, count, length-map c.self.inside.calls.items call_view) in
    let there = slice_get_read c.self.inside.calls.items (length c.self.inside.calls.items) c.args.call c.index.result.now refl within c.index.ensures in
    rw (← calls, take-map) (c.self.invariant.1 c.args.call c.index.result.now there).0

pub returns-clause-unmarked : goal.returns-clause-unmarked
returns-clause-unmarked c =
    let calls : map call_view c.self.inside.calls.items ≡ c.args.self.now.calls = ap (λ (h : RecordedHistory). h.calls) c.self.view_is in
    let count : length (map call_view c.self.inside.calls.items) ≡ length c.args.self.now.calls = ap length calls in
    let within : c.args.call < length c.self.inside.calls.items = omega (arith, c.requires, count, length-map c.self.inside.calls.items call_view) in
    let there = slice_get_read c.self.inside.calls.items (length c.self.inside.calls.items) c.args.call c.index.result.now refl within c.index.ensures in
    (c.self.invariant.1 c.args.call c.index.result.now there).1

pub returns-clause-declared : goal.returns-clause-declared
returns-clause-declared c =
    let calls : map call_view c.self.inside.calls.items ≡ c.args.self.now.calls = ap (λ (h : RecordedHistory). h.calls) c.self.view_is in
    let count : length (map call_view c.self.inside.calls.items) ≡ length c.args.self.now.calls = ap length calls in
    let within : c.args.call < length c.self.inside.calls.items = omega (arith, c.requires, count, length-map c.self.inside.calls.items call_view) in
    let there : slice_get (map call_view c.self.inside.calls.items) c.args.call ≡ Some (call_view c.index.result.now) = slice_get-map call_view c.self.inside.calls.items c.args.call ∙ ap (option_map call_view) (slice_get_read c.self.inside.calls.items (length c.self.inside.calls.items) c.args.call c.index.result.now refl within c.index.ensures) in
    rw (← c.self.view_is) (c.self.invariant.0.1.declared c.args.call (call_view c.index.result.now) there)
