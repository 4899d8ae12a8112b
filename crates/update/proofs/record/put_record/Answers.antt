use Prim.Native.Nat.{ℕ, ◌+◌}
use mathlib.Core.Path.{refl, sym, ap, ◌∙◌}
use lib.ListN.{length}
use Rattle.base.specs.Bytes.{overlay}
use Rattle.update.specs.Message.{rr_bytes}
use Rattle.update.proofs.LengthLaws.{length_fixed}
use Rattle.update.proofs.RestLaws.{parts}
use borrow.Author.Rules.{rules}
use Rattle.update.proofs.record.put_record.Goals as goal

pub returns : goal.returns
unfolding rr_bytes
returns c =
    let a = c.args in
    let f = c.fixed-middle in
    record { value = refl; to_after = parts a.to.now _ _ _ _ _ _ _ _ refl (ap (λ (k : ℕ). length a.owner.now + k) (sym (length_fixed _ _ _ _))) c.put.ensures (c.put-2.ensures ∙ ap (overlay _ _) f.ensures) c.put-3.ensures }
