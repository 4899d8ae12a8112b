use Rattle.text.proofs.PartLaws.{Parted}
use Rattle.address.specs.Address.{four_digits}
use Rattle.address.proofs.put_aaaa.Given as goal

abbrev pub invariant-loop-i : goal.invariant-loop-i
invariant-loop-i l = Parted l.initial.to l.at 58 (four_digits l.bytes) l.to l.end l.i
