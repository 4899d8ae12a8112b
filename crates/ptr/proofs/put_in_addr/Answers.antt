use mathlib.Core.Path.{refl}
use native.Mathlib.Omega.{arith}
use Rattle.base.specs.Bytes.{ascii}
use Rattle.name.specs.Name.{wire}
use Rattle.ptr.specs.Ptr.{ptr_labels, ptr_name}
use Rattle.ptr.proofs.LabelLaws.{octet_label}
use Rattle.ptr.proofs.PutLaws.{begun_none, room, begun_more, suffix_room, begun_all}
use Rattle.ptr.proofs.put_in_addr.Goals as goal

pub loop-octet-init : goal.loop-octet-init
loop-octet-init c =
    rw (c.into_iter-octet-iterator.ensures.into_iter_gives, c.rev-octet-items.ensures.source, c.iter.ensures.rest) (begun_none _ _ _ c.requires)

pub put_label-requires-clause-label_in_bounds : goal.put_label-requires-clause-label_in_bounds
put_label-requires-clause-label_in_bounds c =
    let label = octet_label _ _ _ c.decimal-len.ensures in
    omega (arith, room _ _ _ c.requires _ _ _ c.loop-octet.invariant _ _ c.in-Some.ensures.steps _ label.0)

pub overflow_add-end-in-loop-octet : goal.overflow_add-end-in-loop-octet
overflow_add-end-in-loop-octet c =
    let label = octet_label _ _ _ c.decimal-len.ensures in
    omega (arith, label.1, room _ _ _ c.requires _ _ _ c.loop-octet.invariant _ _ c.in-Some.ensures.steps _ label.0)

pub loop-octet-preserved : goal.loop-octet-preserved
loop-octet-preserved c =
    let label = octet_label _ _ _ c.decimal-len.ensures in
    begun_more _ _ _ c.requires _ _ _ c.loop-octet.invariant _ _ c.in-Some.ensures.steps _ label.0 _ _ (omega (arith, label.1)) c.put_label.ensures

pub put-requires : goal.put-requires
unfolding ptr_name ptr_labels wire ascii
put-requires c = suffix_room _ _ _ c.requires _ _ _ c.loop-octet.invariant c.in-None.ensures.steps.0 _ refl

pub returns : goal.returns
unfolding ptr_name ptr_labels wire ascii
returns c = begun_all _ _ _ c.requires _ _ _ c.loop-octet.invariant c.in-None.ensures.steps.0 _ refl _ c.put.ensures
