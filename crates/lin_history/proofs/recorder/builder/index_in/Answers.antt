use Rattle.std.proofs.Common.{◌∙◌, sym}
use Rattle.lin_history.proofs.RecorderLemmas.ObjectLemmas.{position-seen}
use Rattle.lin_history.proofs.recorder.builder.index_in.Goals as goal

pub returns : goal.returns
returns c = c.get_index_of.ensures.index ∙ sym (position-seen c.args.name.now c.args.objects.now.entries)
