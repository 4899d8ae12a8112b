-- The bytes of a part of the message. Assumes nothing.
use Prim.Native.Nat.{ℕ}
use mathlib.Core.Path.{◌≡◌}
use mathlib.Core.List.{List}
use native.Mathlib.Omega.{arith}
use lib.ListN.{length, drop, length-drop}
use lib.Seq.{length-take-le}
use Rattle.message.specs.Request.{bytes_of, Inside}
use Rattle.message.specs.declared.Part.{Part}

pub part_length : (m : List ℕ) (p : Part) → Inside m p → length (bytes_of m p) ≡ p.len
unfolding bytes_of
part_length m p fits = length-take-le p.len (drop p.start m) (simp length-drop (omega arith))
