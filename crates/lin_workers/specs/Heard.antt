-- What a seat hears of tasks that were found while its worker searches (this project's own).
use Rattle.std.specs.Prelude.{◌≡◌, ℕ, ◌<◌, List, [], ◌++◌, Contains}
use Rattle.std.proofs.Common.{refl, sym, ◌∙◌, append-nil, append_assoc}
use Rattle.lin_board.specs.Facts.{SeatFacts}

-- The seat was told more, and has claimed and found what it had.
pub record HasHeard (old new : SeatFacts) : Type 0 where
  pub board : new.board ≡ old.board
  pub claimed : new.claimed ≡ old.claimed
  pub found : new.found ≡ old.found
  pub ended : new.ended ≡ old.ended
  pub more : (told : List ℕ) × (new.told ≡ old.told ++ told)

-- The seat was told of this task, which is smaller than its own.
abbrev pub IsTold : ℕ → SeatFacts → ℕ → Type 0
IsTold task seat told = (told < task) × Contains seat.told told

-- The seat told the board of these tasks too, and nothing else has changed.
pub record HasFound (old new : SeatFacts) (tasks : List ℕ) : Type 0 where
  pub board : new.board ≡ old.board
  pub claimed : new.claimed ≡ old.claimed
  pub found : new.found ≡ old.found ++ tasks
  pub told : new.told ≡ old.told
  pub ended : new.ended ≡ old.ended

pub heard_itself : (a : SeatFacts) → HasHeard a a
heard_itself a = record { board = refl; claimed = refl; found = refl; ended = refl; more = ([], sym (append-nil a.told)) }

pub heard_twice : (a b c : SeatFacts) → HasHeard a b → HasHeard b c → HasHeard a c
heard_twice a b c h k =
    let x = h.more in let y = k.more in
    record {
      board = k.board ∙ h.board;
      claimed = k.claimed ∙ h.claimed;
      found = k.found ∙ h.found;
      ended = k.ended ∙ h.ended;
      more = (x.0 ++ y.0, rw (y.1, x.1) (append_assoc a.told x.0 y.0));
    }
