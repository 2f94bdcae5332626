use Rattle.std.proofs.Common.{◌∙◌, sym}
use Rattle.lincheck.specs.declared.fault.RunFault.TheVariants.{Memory}
use Rattle.lincheck.proofs.PrintLemmas.{ran_ended, ran_nothing, no_read, is_written}
use Rattle.lincheck.proofs.SoundLemmas.{sound_run}
use Rattle.lincheck.proofs.pipeline.run_with.Goals as goal

pub returns-in-Err-clause-ran : goal.returns-in-Err-clause-ran
returns-in-Err-clause-ran g c = ran_nothing c.args.options.now c.args.form _ _ _ c.in-Err.ensures.fault

pub returns-in_default-clause-ran : goal.returns-in_default-clause-ran
returns-in_default-clause-ran g c = ran_nothing c.args.options.now c.args.form _ _ Memory (λ e. cc)

pub returns-clause-ran : goal.returns-clause-ran
returns-clause-ran g c =
    let prints = c.in-Ok-answer.ensures in
    let ok = rw c.as_slice.ensures.value at c.write_answer-written.ensures.ok in
    let prefix = rw c.as_slice.ensures.value at c.write_answer-written.ensures.prefix in
    rw c.ended.ensures (ran_ended c.args.options.now c.args.form _ _ _ c.in-Ok.text.items c.in-Ok-answer.status c.in-Ok-answer.answer.items c.write_answer-written.result c.in-Ok.ensures.text prints ok prefix)

pub returns-clause-source : goal.returns-clause-source
returns-clause-source g c = rw c.ended.ensures (c.in-Ok.ensures.failed ∙ sym (no_read c.in-Ok-answer.status c.write_answer-written.result))

pub returns-clause-sink : goal.returns-clause-sink
returns-clause-sink g c = rw c.ended.ensures (rw c.requires.sink at c.write_answer-written.ensures.failed ∙ sym (is_written c.in-Ok-answer.status c.write_answer-written.result))

pub returns-clause-sound : goal.returns-clause-sound
returns-clause-sound g c = sound_run c.locality_law.ensures c.args.options.now c.args.form _ _ _ _ (returns-clause-ran g c)
