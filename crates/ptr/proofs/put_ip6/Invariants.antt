use Rattle.slots.specs.declared.Family.TheVariants.{V6}
use Rattle.ptr.proofs.PutLaws.{Begun}
use Rattle.ptr.proofs.put_ip6.Given as goal

abbrev pub invariant-loop-b : goal.invariant-loop-b
invariant-loop-b l = Begun V6 l.initial.out l.address l.out l.end l.b-iterator.iter.rest.now
