use Rattle.std.proofs.Common.{◌≡◌, take}
use Rattle.lin_parts.specs.Parts.{named}
use Rattle.lin_parts.proofs.call_lists.own_names.Given as goal

abbrev pub invariant-loop-c : goal.invariant-loop-c
invariant-loop-c l = l.names.items ≡ named l.kept (take l.c-index l.calls)
