-- Calls of which each needs the other, by their numbers (this project's own).
use Rattle.std.specs.Prelude.{◌&&◌, ◌||◌, ℕ, Bool, false, List, [], ◌∷◌, nat_lt, if◌then◌else◌}
use Rattle.std.specs.List.{list_any}
use Rattle.lin_ahead.specs.declared.values.needed_pairs.CallNumbers.{CallNumbers}

-- Each of the two has a number 'by' that is less than the other's number 'from'.
abbrev pub need_each_other : CallNumbers → CallNumbers → Bool
need_each_other a b = nat_lt a.by b.from && nat_lt b.by a.from

-- Some two of these calls need each other.
abbrev pub some_pair : List CallNumbers → Bool
some_pair [] = false
some_pair (c ∷ cs) = list_any (need_each_other c) cs || some_pair cs

-- Those of these calls that need others.
abbrev pub with_needs : List CallNumbers → List CallNumbers
with_needs [] = []
with_needs (c ∷ cs) = if nat_lt 0 c.from then c ∷ with_needs cs else with_needs cs

-- Where a call is in the order of the numbers 'by'.
abbrev pub number_by : CallNumbers → ℕ
number_by c = c.by

-- Of two calls in that order the later one, where its own number 'by' is less than its number 'from'; else the earlier one.
abbrev pub last_of : CallNumbers → CallNumbers → CallNumbers
last_of last next = if nat_lt next.by next.from then next else last
