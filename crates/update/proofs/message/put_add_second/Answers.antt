use mathlib.Core.Path.{sym, ap, ◌∙◌}
use native.Mathlib.Omega.{arith}
use Rattle.base.specs.Bytes.{overlay}
use Rattle.update.specs.Updates.{add_second}
use Rattle.update.proofs.LengthLaws.{head_long, length_rr}
use Rattle.update.proofs.RestLaws.{three, one_prerequisite}
use borrow.Author.Rules.{rules}
use Rattle.update.proofs.message.put_add_second.Goals as goal

pub returns : goal.returns
unfolding add_second
returns c =
    let q1 = c.put_head-at in
    let q2 = c.put_record-at in
    let q3 = c.put_replaced-at in record {
      value = omega (arith, q1.ensures.value, q2.ensures.value, q3.ensures.value, c.requires.dhcid_len);
      out_after = three c.args.out.now _ _ _ _ _ _ _ _ (q1.ensures.value ∙ sym (head_long _ _ _ _)) (q2.ensures.value ∙ sym (length_rr _)) (omega (arith, q1.ensures.value, q2.ensures.value, c.requires.dhcid_len, c.requires.address_in_bounds))
          q1.ensures.to_after q2.ensures.to_after q3.ensures.to_after
          ∙ ap (overlay _ 0) (one_prerequisite _ _ _ _);
    }
