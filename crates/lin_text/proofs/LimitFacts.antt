-- The limits on a text by value, computed: the definitions cite the constants of the code.
use Rattle.std.proofs.Common.{◌≡◌, refl}
use Rattle.lin_text.specs.declared.text.TheConstants.{MAX_LINE_BYTES, MAX_INPUT_BYTES}

most_line_bytes : MAX_LINE_BYTES ≡ 65536
most_line_bytes = refl

most_text_bytes : MAX_INPUT_BYTES ≡ 67108864
most_text_bytes = refl
