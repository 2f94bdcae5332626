-- The last level of a cut by value, computed: contracts cite the constant of the code.
use Rattle.std.proofs.Common.{◌≡◌, refl}
use Rattle.lin_workers.specs.declared.tasks.cutting.TheConstants.{LAST_LEVEL}

last_level : LAST_LEVEL ≡ 8
last_level = refl
