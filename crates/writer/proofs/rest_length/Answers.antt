use native.Mathlib.Omega.{arith}
use Rattle.writer.proofs.PartLaws.{length_type, length_rdata, length_rest}
use borrow.Author.Rules.{rules}
use Rattle.writer.proofs.rest_length.Goals as goal

pub overflow_add-result : goal.overflow_add-result
overflow_add-result c =
    let a = c.args in
    omega (arith, c.type_length.ensures, c.data_length.ensures, length_type a.rtype, length_rdata a.rtype a.rdata.now c.requires)

pub overflow_add-result-2 : goal.overflow_add-result-2
overflow_add-result-2 c =
    let a = c.args in
    omega (arith, c.type_length.ensures, c.data_length.ensures, length_type a.rtype, length_rdata a.rtype a.rdata.now c.requires)

pub returns : goal.returns
returns c =
    let a = c.args in
    omega (arith, c.type_length.ensures, c.data_length.ensures, length_rest a.rtype a.rdata.now)
