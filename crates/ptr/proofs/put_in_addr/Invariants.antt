use Rattle.slots.specs.declared.Family.TheVariants.{V4}
use Rattle.ptr.proofs.PutLaws.{Begun}
use Rattle.ptr.proofs.put_in_addr.Given as goal

abbrev pub invariant-loop-octet : goal.invariant-loop-octet
invariant-loop-octet l = Begun V4 l.initial.out l.address l.out l.end l.octet-iterator.iter.rest.now
