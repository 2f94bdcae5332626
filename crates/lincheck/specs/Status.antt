-- The exit statuses of the program (this project's own).
use Rattle.std.specs.Prelude.{ℕ, Result, Ok, Err}
use Rattle.lincheck.specs.declared.status.Status.{Status}
use Rattle.lincheck.specs.declared.status.Status.TheVariants.{Yes, No, Undecided, Refused}
use Rattle.lincheck.specs.declared.fault.RunFault.{RunFault}

-- The exit status of an answer.
abbrev pub exit_status : Result Status RunFault → ℕ
exit_status (Ok Yes) = 0
exit_status (Ok No) = 1
exit_status (Ok Refused) = 2
exit_status (Ok Undecided) = 3
exit_status (Err fault) = 4
