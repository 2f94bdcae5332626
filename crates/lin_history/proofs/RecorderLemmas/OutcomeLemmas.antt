-- What holds of an outcome that is not the other one.
use Rattle.std.proofs.Common.{◌≡◌, true, false, Result, Ok, Err, OnOk, OnErr, is_err}

pub not_err : {A B : Type 0} (r : Result A B) (P : Type 0) → OnOk r P → is_err r ≡ false → P
not_err (Ok x) P p e = p
not_err (Err x) P p e = absurd (cc)

pub is_err-on_err : {A B : Type 0} (r : Result A B) (P : Type 0) → OnErr r P → is_err r ≡ true → P
is_err-on_err (Ok x) P p e = absurd (cc)
is_err-on_err (Err x) P p e = p
