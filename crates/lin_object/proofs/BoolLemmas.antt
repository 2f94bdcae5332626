-- What follows from a truth value.
use Rattle.std.proofs.Common.{◌≡◌, Bool, true, false}

-- none is both true and false
pub not_both : (b : Bool) → b ≡ true → b ≡ false → ⊥
not_both b e f = cc
