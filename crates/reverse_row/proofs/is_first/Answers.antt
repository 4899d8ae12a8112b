use Prim.Native.Nat.{◌<◌}
use mathlib.Core.Path.{◌≡◌, sym, ◌∙◌}
use native.Mathlib.Omega.{arith}
use borrow.Author.Rules.{rules}
use borrow.Author.Tests.{eqb-true, eqb-false}
use Rattle.reverse_row.proofs.KeyLaws.{key_part}
use Rattle.reverse_row.proofs.is_first.Goals as goal

pub returns : goal.returns
returns c =
    let b = c.args.reverse.now in
    let i = c.args.i in
    let r = c.first_with.result in
    let first = c.first_with.ensures in
    record {
      if_true = λ last j lt same. first.before j (let all : r ≡ i = eqb-true _ _ last in omega (arith, lt, all)) (same ∙ key_part b i);
      if_false = λ earlier apart. let lt : r < i = omega (arith, first.low, eqb-false r i earlier) in apart r lt (first.there lt ∙ sym (key_part b i));
    }
