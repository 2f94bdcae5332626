-- What a write of the standard library says of the piece that it was given (this project's own).
use Rattle.std.specs.Prelude.{ℕ, zero, suc, List, [], ◌∷◌, Option, Some, None, Result, Ok, Err}

-- How many bytes of the piece were taken: a write that took none of a piece that is not empty has failed.
abbrev pub count_taken : {E : Type 0} → List ℕ → Result ℕ E → Option ℕ
count_taken from (Err e) = None
count_taken [] (Ok n) = Some n
count_taken (b ∷ bs) (Ok zero) = None
count_taken (b ∷ bs) (Ok (suc n)) = Some (suc n)
