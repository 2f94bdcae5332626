-- Maps in small cases: what the table and the words of the law say of them, and what they do not say.
use Rattle.std.proofs.Common.{◌≡◌, true, false, Some, None, [], ◌∷◌, refl}
use Rattle.std.specs.Prelude.{pos}
use Rattle.std.specs.List.Sorted.{IsStrictlySortedBy}
use Rattle.std.specs.declared.cmp.Ordering.TheVariants.{Less, Greater}
use Rattle.lin_object.specs.declared.op.Op.TheVariants.{Put, Lookup, Delete}
use Rattle.lin_object.specs.declared.pairs.Pair.{Pair}
use Rattle.lin_object.specs.declared.reply.Reply.{Reply}
use Rattle.lin_object.specs.declared.reply.Reply.TheVariants.{Okay, Int, Flag, Empty}
use Rattle.lin_object.specs.declared.state.ObjState.TheVariants.{Map}
use Rattle.lin_object.specs.Runs.{Step}
use Rattle.lin_object.specs.Kinds.Map.{map_step, value_after, HasKeysInOrder}
use Rattle.lin_object.proofs.AnswerLemmas.{Gives, reply_given}

-- 10 at key 1, and 5 at key 0
abbrev one : Pair
one = record { key = pos 1; value = pos 10 }

abbrev lower : Pair
lower = record { key = pos 0; value = pos 5 }

-- a put in an empty map, over a value, and in front of a greater key
first_put : Gives (map_step [] (Put (pos 1) (pos 10))) (Map (one ∷ [])) Okay
first_put = refl

put_over : Gives (map_step (record { key = pos 1; value = pos 7 } ∷ []) (Put (pos 1) (pos 10))) (Map (one ∷ [])) Okay
put_over = refl

put_in_front : Gives (map_step (one ∷ []) (Put (pos 0) (pos 5))) (Map (lower ∷ one ∷ [])) Okay
put_in_front = refl

put_behind : Gives (map_step (lower ∷ []) (Put (pos 1) (pos 10))) (Map (lower ∷ one ∷ [])) Okay
put_behind = refl

-- a get of a key that is there, and of one that is not
get_there : Gives (map_step (lower ∷ one ∷ []) (Lookup (pos 1))) (Map (lower ∷ one ∷ [])) (Int (pos 10))
get_there = refl

get_absent : Gives (map_step (lower ∷ one ∷ []) (Lookup (pos 2))) (Map (lower ∷ one ∷ [])) Empty
get_absent = refl

-- a delete of a key that is there, and of one that is not
delete_there : Gives (map_step (lower ∷ one ∷ []) (Delete (pos 0))) (Map (one ∷ [])) (Flag true)
delete_there = refl

delete_absent : Gives (map_step (one ∷ []) (Delete (pos 0))) (Map (one ∷ [])) (Flag false)
delete_absent = refl

-- a delete of a key that is not there does not answer true
not_deleted : Gives (map_step (one ∷ []) (Delete (pos 0))) (Map (one ∷ [])) (Flag true) → ⊥
not_deleted e = let flags : ◌≡◌ {A = Reply} (Flag false) (Flag true) = reply_given e in absurd (cc)

-- the value that a key has after a put, and after a delete behind it
abbrev put_by_1 : Step
put_by_1 = record { process = 1; op = Put (pos 1) (pos 10); reply = Okay }

abbrev delete_by_2 : Step
delete_by_2 = record { process = 2; op = Delete (pos 1); reply = Flag true }

after_put : value_after (pos 1) None (put_by_1 ∷ []) ≡ Some (pos 10)
after_put = refl

after_delete : value_after (pos 1) None (put_by_1 ∷ delete_by_2 ∷ []) ≡ None
after_delete = refl

after_both : value_after (pos 1) None (delete_by_2 ∷ put_by_1 ∷ []) ≡ Some (pos 10)
after_both = refl

other_key : value_after (pos 2) None (put_by_1 ∷ []) ≡ None
other_key = refl

-- the keys of these pairs stand in order, and the other way round they do not
in_order : HasKeysInOrder (lower ∷ one ∷ [])
unfolding IsStrictlySortedBy
in_order = ((refl, tt), (tt, tt))

out_of_order : HasKeysInOrder (one ∷ lower ∷ []) → ⊥
unfolding IsStrictlySortedBy
out_of_order e = let bad : Greater ≡ Less = e.0.0 in absurd (cc)
