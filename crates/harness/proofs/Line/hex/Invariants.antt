use mathlib.Core.Path.{◌≡◌}
use lib.ListN.{take}
use Rattle.harness.specs.Printing.{hexadecimal, followed}
use Rattle.harness.proofs.Line.hex.Given as goal

abbrev pub invariant-loop-b : goal.invariant-loop-b
invariant-loop-b l = l.line ≡ followed l.initial.line (hexadecimal (take l.b-index l.bytes))
