use Rattle.std.proofs.Common.{◌≡◌, ◌-◌, ◌*◌, ◌≤◌, length, take, sym, refl, ap, ◌∙◌, arith, take_all, rules}
use Rattle.base.specs.Bytes.{in_bytes}
use Rattle.base.proofs.Bytes.{in_bytes_more}
use Rattle.hash.specs.Sha256.{digest}
use Rattle.hash.proofs.Sha256.digest.Given as goal

abbrev pub invariant-loop-i : goal.invariant-loop-i
invariant-loop-i l = (l.i ≤ 8) × (length l.bytes ≡ 32) × (take (4 * l.i) l.bytes ≡ in_bytes 4 (take l.i l.words))

abbrev pub decreases-loop-i : goal.decreases-loop-i
decreases-loop-i l = 8 - l.i
