use mathlib.Core.Path.{sym, ap, ◌∙◌}
use native.Mathlib.Omega.{arith}
use Rattle.base.specs.Bytes.{overlay}
use Rattle.update.proofs.LengthLaws.{length_rr}
use Rattle.update.proofs.RestLaws.{three, section_three}
use borrow.Author.Rules.{rules}
use Rattle.update.proofs.section.put_bare.Goals as goal

pub returns : goal.returns
returns c =
    let q1 = c.put_record-at in
    let q2 = c.put_record-at-2 in
    let q3 = c.put_record-at-3 in record {
      value = omega (arith, q1.ensures.value, q2.ensures.value, q3.ensures.value, c.requires.dhcid_len);
      to_after = three c.args.to.now _ _ _ _ _ _ _ _ (q1.ensures.value ∙ sym (length_rr _)) (q2.ensures.value ∙ sym (length_rr _)) (omega (arith, q1.ensures.value, q2.ensures.value, c.requires.dhcid_len, c.requires.owner_in_bounds))
          q1.ensures.to_after q2.ensures.to_after q3.ensures.to_after
          ∙ ap (overlay _ 0) (section_three _ _ _);
    }
