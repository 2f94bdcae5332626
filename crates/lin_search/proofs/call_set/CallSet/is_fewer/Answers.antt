use Rattle.std.proofs.Common.{◌/◌, arith, inl, inr}
use Rattle.std.proofs.lemmas.Bool.{cases_lt}
use Rattle.lin_search.proofs.FewerLemmas.{none_fewer}
use Rattle.lin_search.proofs.call_set.CallSet.is_fewer.Goals as goal

pub returns : goal.returns
returns c = λ yes k. elim (cases_lt (k / 64) c.loop-index.index) [
  | inl h ↦ c.loop-index.invariant k h
  | inr h ↦ none_fewer c.args.self.now c.args.other.now c.args.of.now k
      (c.count_words.ensures k (let a = c.max-words.ensures in let b = c.loop-index-test.false in omega (arith, h, a, b)))
      (c.count_words-2.ensures k (let a = c.max-words.ensures in let b = c.loop-index-test.false in omega (arith, h, a, b)))
]
