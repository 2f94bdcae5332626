-- How the views of all seats become one.
use Rattle.std.specs.Prelude.{◌≡◌, ℕ, ◌+◌, List, length, All, Contains}
use Rattle.lin_board.specs.declared.rule.View.{View}
use Rattle.lin_board.specs.Facts.{SeatFacts}
use Rattle.lin_board.specs.Lists.Totals.{one_if, total, times}

-- the view of one seat
pub record IsViewOf (v : View) (s : SeatFacts) : Type 0 where
  pub parts : v.parts ≡ 1
  pub ends : v.ends ≡ one_if s.ended
  pub claimed : v.claimed ≡ s.claimed
  pub found : v.found ≡ s.found
  pub told : v.told ≡ s.told

-- how many of the seats ended
abbrev pub ended_seats : List SeatFacts → ℕ
ended_seats = total (λ (s : SeatFacts). one_if s.ended)

-- how many tasks the seats claimed
abbrev pub claim_count : List SeatFacts → ℕ
claim_count = total (λ (s : SeatFacts). length s.claimed)

-- how often the seats claimed x
abbrev pub claims_in : ℕ → List SeatFacts → ℕ
claims_in x = total (λ (s : SeatFacts). times x s.claimed)

-- how often the seats found x
abbrev pub finds_in : ℕ → List SeatFacts → ℕ
finds_in x = total (λ (s : SeatFacts). times x s.found)

-- how often the seats were told x
abbrev pub tells_in : ℕ → List SeatFacts → ℕ
tells_in x = total (λ (s : SeatFacts). times x s.told)

-- each seat claimed what it found
abbrev pub FindAmongClaims : List SeatFacts → Type 0
FindAmongClaims seats = All (λ (s : SeatFacts). All (Contains s.claimed) s.found) seats

-- the view u and the seats left have together what the view v and all seats had
pub record Gathered (v : View) (all : List SeatFacts) (u : View) (left : List SeatFacts) : Type 0 where
  pub parts : u.parts + length left ≡ v.parts + length all
  pub ends : u.ends + ended_seats left ≡ v.ends + ended_seats all
  pub count : length u.claimed + claim_count left ≡ length v.claimed + claim_count all
  pub claimed : (x : ℕ) → times x u.claimed + claims_in x left ≡ times x v.claimed + claims_in x all
  pub found : (x : ℕ) → times x u.found + finds_in x left ≡ times x v.found + finds_in x all
  pub told : (x : ℕ) → times x u.told + tells_in x left ≡ times x v.told + tells_in x all
  pub among : FindAmongClaims left → FindAmongClaims all
