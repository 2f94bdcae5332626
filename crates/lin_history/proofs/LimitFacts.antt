-- The limits on a history by value, computed: the definitions cite the constants of the code.
use Rattle.std.proofs.Common.{◌≡◌, refl}
use Rattle.lin_history.specs.declared.limits.TheConstants.{MAX_OBJECTS, MAX_CALLS, MAX_CALLS_ON_OBJECT, MAX_NAME_BYTES}

most_objects : MAX_OBJECTS ≡ 1024
most_objects = refl

most_calls : MAX_CALLS ≡ 262144
most_calls = refl

most_calls_on_an_object : MAX_CALLS_ON_OBJECT ≡ 16384
most_calls_on_an_object = refl

most_name_bytes : MAX_NAME_BYTES ≡ 64
most_name_bytes = refl
