use mathlib.Core.Path.{◌∙◌}
use native.Mathlib.Omega.{arith}
use borrow.Author.Rules.{rules}
use lib.ListN.{length-set}
use Rattle.writer.proofs.PartLaws.{length_rest, rest_written}
use Rattle.writer.proofs.put_rest.Goals as goal

pub put_type-requires : goal.put_type-requires
put_type-requires c =
    omega (arith, length_rest c.args.rtype c.args.rdata.now)

pub overflow_add-at : goal.overflow_add-at
overflow_add-at c =
    omega (arith, c.type_length.ensures, length_rest c.args.rtype c.args.rdata.now)

pub put_data-end-requires : goal.put_data-end-requires
put_data-end-requires c =
    record { rdata_len = c.requires.rdata_len; rdata_in_bounds = omega (arith, c.type_length.ensures, c.put_type.auto.to, length_rest c.args.rtype c.args.rdata.now) }

pub bounds-to-end : goal.bounds-to-end
bounds-to-end c =
    omega (
      arith,
      c.put_data-end.ensures.value,
      c.put_data-end.auto.to,
      c.type_length.ensures,
      c.put_type.auto.to,
      length_rest c.args.rtype c.args.rdata.now,
    )

pub shape_of-to : goal.shape_of-to
shape_of-to c =
    length-set c.put_data-end.new.to c.put_data-end.result _ ∙ c.put_data-end.auto.to ∙ c.put_type.auto.to

pub returns : goal.returns
returns c =
    let long = length_rest c.args.rtype c.args.rdata.now in
    rest_written c.args.rtype c.args.rdata.now c.args.to.now _ _ c.args.at _ _ (omega arith) c.put_type.ensures
    (omega (arith, c.type_length.ensures)) c.put_data-end.ensures.to_after c.put_data-end.ensures.value
    (omega (arith, c.put_data-end.ensures.value, c.put_data-end.auto.to, c.type_length.ensures, c.put_type.auto.to, long))
