-- Names of objects (this project's own).
use Rattle.std.specs.Prelude.{ℕ, ◌==◌, ◌&&◌, ◌||◌, Bool, List, length, nat_le}
use Rattle.std.specs.List.{list_all}
use Rattle.lin_history.specs.declared.limits.TheConstants.{MAX_NAME_BYTES}

-- A letter or digit of ASCII, or one of `_ . / : -`.
abbrev pub is_name_byte : ℕ → Bool
is_name_byte b = (nat_le 65 b && nat_le b 90) || (nat_le 97 b && nat_le b 122) || (nat_le 48 b && nat_le b 57) || (b == 95) || (b == 46) || (b == 47) || (b == 58) || (b == 45)

-- 1 to 64 such bytes.
abbrev pub is_name : List ℕ → Bool
is_name s = nat_le 1 (length s) && nat_le (length s) MAX_NAME_BYTES && list_all is_name_byte s
