use Rattle.std.proofs.Common.{map, take}
use Rattle.lincheck.specs.CommandLine.{HasOptions, option_of}
use Rattle.lincheck.proofs.request.line_with.Given as goal

-- the options so far
abbrev pub invariant-loop-row : goal.invariant-loop-row
invariant-loop-row l = HasOptions (map option_of (take l.row-index l.rows)) l.line
