use Prim.Native.Nat.{ℕ}
use mathlib.Core.Bool.{false≢true}
use mathlib.Core.Path.{◌≡◌, sym, ap, ap₂, ◌∙◌}
use mathlib.Core.List.{List, ◌∷◌}
use native.Mathlib.Omega.{arith}
use lib.ListN.{length, take, drop, get_or, length-drop}
use lib.Seq.{take_all, drop-cons}
use borrow.Author.Rules.{rules}
use Rattle.base.proofs.Tests.{no_by, eq_bytes_true, eq_eq_bytes}
use Rattle.reverse.specs.Sizes.{address_room, key_size}
use Rattle.reverse_row.proofs.same_key.Goals as goal

pub returns-then-a-b : goal.returns-then-a-b
returns-then-a-b c = no_by (λ e. c.if-a-b.true (ap (λ (k : List ℕ). get_or k 0 0) e))

-- a key is its first byte and the others
cut : (k : List ℕ) → length k ≡ key_size → k ≡ get_or k 0 0 ∷ take address_room (drop 1 k)
cut k size = drop-cons k 0 0 (omega arith) ∙ ap (◌∷◌ (get_or k 0 0)) (sym (take_all address_room (drop 1 k) (simp length-drop (omega arith))))

pub returns : goal.returns
returns c =
    let a = c.args.a.now in
    let b = c.args.b.now in
    record {
      if_true = λ t. cut a c.requires.0 ∙ ap₂ ◌∷◌ c.if-a-b.false (eq_bytes_true _ _ (sym c.same.ensures ∙ t)) ∙ sym (cut b c.requires.1);
      if_false = λ f e. false≢true (sym f ∙ c.same.ensures ∙ eq_eq_bytes _ _ (ap (λ (k : List ℕ). take address_room (drop 1 k)) e));
    }
