-- How much is stored at most, by value, computed: contracts cite the constants of the code.
use Rattle.std.proofs.Common.{◌≡◌, refl}
use Rattle.lin_table.specs.declared.hand.TheConstants.{MAX_STORED}
use Rattle.lin_table.specs.declared.table.TheConstants.{STORED_BOUND}

most_of_a_hand : MAX_STORED ≡ 140737488355328
most_of_a_hand = refl

bound_of_all_hands : STORED_BOUND ≡ 18014398509481984
bound_of_all_hands = refl
