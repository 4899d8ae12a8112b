use mathlib.Core.Path.{refl, sym}
use native.Mathlib.Omega.{arith}
use Rattle.base.specs.Bytes.{ascii}
use Rattle.name.specs.Name.{wire}
use Rattle.ptr.specs.Ptr.{nibbles, ptr_labels, ptr_name}
use Rattle.ptr.proofs.LabelLaws.{lasts_nibbles}
use Rattle.ptr.proofs.PutLaws.{begun_none, room, begun_more, suffix_room, begun_all}
use Rattle.ptr.proofs.put_ip6.Goals as goal

pub loop-b-init : goal.loop-b-init
loop-b-init c =
    rw (c.into_iter-b-iterator.ensures.into_iter_gives, c.rev-b-items.ensures.source, c.iter.ensures.rest) (begun_none _ _ _ c.requires)

pub put_nibbles-requires : goal.put_nibbles-requires
put_nibbles-requires c = room _ _ _ c.requires _ _ _ c.loop-b.invariant _ _ c.in-Some.ensures.steps _ (sym (lasts_nibbles _))

pub overflow_add-end : goal.overflow_add-end
overflow_add-end c = omega (arith, room _ _ _ c.requires _ _ _ c.loop-b.invariant _ _ c.in-Some.ensures.steps _ (sym (lasts_nibbles _)))

pub loop-b-preserved : goal.loop-b-preserved
loop-b-preserved c = begun_more _ _ _ c.requires _ _ _ c.loop-b.invariant _ _ c.in-Some.ensures.steps _ (sym (lasts_nibbles _)) _ _ refl c.put_nibbles.ensures

pub put-requires : goal.put-requires
unfolding ptr_name ptr_labels nibbles wire ascii
put-requires c = suffix_room _ _ _ c.requires _ _ _ c.loop-b.invariant c.in-None.ensures.steps.0 _ refl

pub returns : goal.returns
unfolding ptr_name ptr_labels nibbles wire ascii
returns c = begun_all _ _ _ c.requires _ _ _ c.loop-b.invariant c.in-None.ensures.steps.0 _ refl _ c.put.ensures
