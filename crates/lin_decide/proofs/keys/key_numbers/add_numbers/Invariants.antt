use Rattle.std.proofs.Common.{◌≡◌, length}
use Rattle.lin_decide.proofs.keys.NumberLemmas.{AreApart, AreKeyed}
use Rattle.lin_decide.proofs.keys.key_numbers.add_numbers.Given as goal

-- the calls so far have the numbers of their keys
abbrev pub invariant-loop-c : goal.invariant-loop-c
invariant-loop-c l = record {
  distinct : AreApart l.keys.keys;
  count : length l.numbers.items ≡ l.c;
  keyed : AreKeyed l.problem l.c l.keys.keys l.numbers.items;
}
