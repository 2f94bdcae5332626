use Rattle.lin_text.proofs.MeaningLemmas.{meaning_law}
use Rattle.lin_text.proofs.laws.meaning_law.Goals as goal

pub returns : goal.returns
returns c = meaning_law
