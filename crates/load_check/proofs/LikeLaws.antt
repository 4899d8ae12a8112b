-- Which records are like another: of its owner, and of its type or of any. Assumes nothing.
use Prim.Native.Nat.{ℕ, ◌≤◌}
use mathlib.Core.Bool.{Bool, true, false, ◌&&◌, ◌||◌, true≢false, false≢true}
use mathlib.Core.Path.{◌≡◌, refl, sym, ap, ap₂, subst, ◌∙◌}
use mathlib.Core.Logic.{◌⊎◌, inl, inr}
use mathlib.Core.List.{List, []}
use native.Mathlib.Omega.{arith}
use lib.Dec.{eqb}
use lib.ListN.{length, take}
use borrow.Author.Tests.{eqb-true, eq-eqb}
use Rattle.base.specs.Bytes.{eq_bytes}
use Rattle.base.proofs.Tests.{and_left, and_right, eq_bytes_true, eq_eq_bytes, ne_eq_bytes}
use Rattle.entry.specs.Held.{type_number, held, empty_record}
use Rattle.entry.specs.declared.Record.{Record}
use Rattle.grammar.specs.Listing.{ResourceRecord}
use Rattle.writer.proofs.PlaceLaws.{name_in, name_held}
use Rattle.load_check.specs.Loading.{Entered}
use Rattle.load_check.specs.Walking.{is_like, Like}

either : (a b : Bool) → (a || b) ≡ true → (a ≡ true) ⊎ (b ≡ true)
either true b e = inl refl
either false b e = inr e

either_left : (a b : Bool) → a ≡ true → (a || b) ≡ true
either_left a b e = ap (λ (x : Bool). x || b) e

either_right : (a b : Bool) → b ≡ true → (a || b) ≡ true
either_right true b e = refl
either_right false b e = e

module _ (p : Record) (n : List ℕ) (k : ℕ) where
  -- an entry with no record is like none
  pub none_like : p ≡ empty_record → 1 ≤ length n → is_like p n k ≡ false
  unfolding is_like empty_record
  none_like h some =
      let other : eq_bytes (name_in p) n ≡ false = ne_eq_bytes (name_in p) n (λ e. omega (arith, ap length (sym (ap name_in h) ∙ e))) in
      ap (λ (b : Bool). b && (eqb k 0 || eqb p.rtype k)) other

  module _ (at : ℕ) (r : ResourceRecord) (h : p ≡ held r) where
    abbrev x : Entered
    x = record { offset = at; «record» = r }

    type_held : p.rtype ≡ type_number r.rtype
    unfolding held
    type_held = ap (λ (q : Record). q.rtype) h

    pub like_held : is_like p n k ≡ true → Like n k x
    unfolding is_like Like
    like_held t =
        let owner = eq_bytes_true (name_in p) n (and_left (eq_bytes (name_in p) n) (eqb k 0 || eqb p.rtype k) t) in
        (sym (name_held p r h) ∙ owner, type (either (eqb k 0) (eqb p.rtype k) (and_right (eq_bytes (name_in p) n) (eqb k 0 || eqb p.rtype k) t)))
      where
        type : (eqb k 0 ≡ true) ⊎ (eqb p.rtype k ≡ true) → (k ≡ 0) ⊎ (type_number r.rtype ≡ k)
        type (inl e) = inl (eqb-true k 0 e)
        type (inr e) = inr (sym type_held ∙ eqb-true p.rtype k e)

    pub not_like_held : is_like p n k ≡ false → Like n k x → ⊥
    unfolding is_like Like
    not_like_held f (owner, type) =
        true≢false (sym (ap₂ ◌&&◌ (eq_eq_bytes (name_in p) n (name_held p r h ∙ owner)) (any type)) ∙ f)
      where
        any : (k ≡ 0) ⊎ (type_number r.rtype ≡ k) → (eqb k 0 || eqb p.rtype k) ≡ true
        any (inl e) = either_left (eqb k 0) (eqb p.rtype k) (eq-eqb k 0 e)
        any (inr e) = either_right (eqb k 0) (eqb p.rtype k) (eq-eqb p.rtype k (type_held ∙ e))
