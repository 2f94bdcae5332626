use Rattle.std.proofs.Common.{arith, ap, ◌∙◌, Some}
use Rattle.std.proofs.lemmas.Option.{slice_get-get_or}
use Rattle.lin_history.specs.declared.problems.timeline.ProblemEvent.{ProblemEvent}
use Rattle.lin_history.specs.declared.problems.timeline.ProblemEvent.TheVariants.{Call}
use Rattle.lin_search.proofs.CallEntriesLemmas.{places_called, places_returned, places_all}
use Rattle.lin_search.proofs.call_entries.CallEntries.of.Goals as goal
use Rattle.lin_search.proofs.call_entries.CallEntries.of.Goals.{in-Call, in-Return}

pub loop-place-preserved : goal.loop-place-preserved
loop-place-preserved c =
    elim c.match-events-place.branch [
      | in-Call w ↦ (
          let there = slice_get-get_or c.args.events.now c.loop-place.place (Call 0) c.loop-place-test.true ∙ ap (λ (e : ProblemEvent). Some e) w.in-Call.is in
          rw (w.called-is, w.returned-is) (places_called c.args.calls c.args.events.now c.requires.once c.loop-place.place c.loop-place.called.items c.loop-place.returned.items c.loop-place.invariant w.in-Call.call there (c.requires.called c.loop-place.place w.in-Call.call there))
          )
      | in-Return w ↦ (
          let there = slice_get-get_or c.args.events.now c.loop-place.place (Call 0) c.loop-place-test.true ∙ ap (λ (e : ProblemEvent). Some e) w.in-Return.is in
          rw (w.called-is, w.returned-is) (places_returned c.args.calls c.args.events.now c.requires.once c.loop-place.place c.loop-place.called.items c.loop-place.returned.items c.loop-place.invariant w.in-Return.call there (c.requires.returned c.loop-place.place w.in-Return.call there))
          )
    ]

pub returns : goal.returns
returns c = places_all c.args.calls c.args.events.now c.loop-place.place (record { called = c.loop-place.called.items; returned = c.loop-place.returned.items }) (omega arith) c.loop-place.invariant
