-- When a line is JSON.
use Rattle.std.proofs.Common.{◌≡◌, ℕ, Bool, true, false, List, Option, Some, None, IsUtf8, cond, refl}
use Rattle.std.proofs.lemmas.Str.{IsUtf8-from_is_utf8, is_utf8-from_IsUtf8}
use Rattle.std.specs.Str.{is_utf8}
use Rattle.serde_json.specs.Data.{Data}
use Rattle.serde_json.specs.Read.{read}
use Rattle.lin_text.specs.Line.{json}

pub json_some : (bytes : List ℕ) (d : Data) → IsUtf8 bytes → read bytes ≡ Some d → json bytes ≡ Some d
unfolding json
json_some bytes d text e = rw (is_utf8-from_IsUtf8 bytes text) e

none_by : (b : Bool) (x : Option Data) → (b ≡ true → x ≡ None) → cond b x None ≡ None
none_by true x h = h refl
none_by false x h = refl

pub json_none : (bytes : List ℕ) → (IsUtf8 bytes → read bytes ≡ None) → json bytes ≡ None
unfolding json
json_none bytes h = none_by (is_utf8 bytes) (read bytes) (λ e. h (IsUtf8-from_is_utf8 bytes e))
