use Rattle.text.proofs.PartLaws.{Parted}
use Rattle.address.proofs.WrittenLaws.{octet_parts}
use Rattle.address.proofs.put_a.Given as goal

abbrev pub invariant-loop-i : goal.invariant-loop-i
invariant-loop-i l = Parted l.initial.to l.at 46 (octet_parts l.bytes) l.to l.end l.i
