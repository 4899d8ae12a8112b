-- What a text comes to, with records and bytes before it. Assumes nothing.
use Prim.Native.Nat.{ℕ, ◌+◌, ◌-◌, ◌≤◌}
use mathlib.Core.Path.{◌≡◌, refl, sym, ap, ◌∙◌}
use mathlib.Core.List.{List, [], ◌∷◌, ◌++◌, append_assoc}
use native.Mathlib.Nat.{add-sub_of_le, zero-add, add_assoc}
use Rattle.grammar.specs.Listing.{ResourceRecord}
use Rattle.grammar.specs.Reader.{Verdict, right, wrong, after, shifted}

-- with records before
abbrev pub prepended : List ResourceRecord → Verdict → Verdict
prepended rs (right qs) = right (rs ++ qs)
prepended rs (wrong qs n p) = wrong (rs ++ qs) n p

pub shifted_none : (v : Verdict) → shifted 0 v ≡ v
shifted_none (right rs) = refl
shifted_none (wrong rs n p) = ap (wrong rs n) (zero-add p)

pub prepended_none : (v : Verdict) → prepended [] v ≡ v
prepended_none (right rs) = refl
prepended_none (wrong rs n p) = refl

-- bytes before bytes
pub shifted_on : (at m : ℕ) (v : Verdict) → shifted at (shifted m v) ≡ shifted (at + m) v
shifted_on at m (right rs) = refl
shifted_on at m (wrong rs n p) = ap (wrong rs n) (sym (add_assoc at m p))

-- a record goes over to the records before
pub prepended_on : (rs : List ResourceRecord) (r : ResourceRecord) (v : Verdict) → prepended rs (after r v) ≡ prepended (rs ++ r ∷ []) v
prepended_on rs r (right qs) = ap right (sym (append_assoc rs (r ∷ []) qs))
prepended_on rs r (wrong qs n p) = ap (λ (l : List ResourceRecord). wrong l n p) (sym (append_assoc rs (r ∷ []) qs))

pub shifted_after : (m : ℕ) (r : ResourceRecord) (v : Verdict) → shifted m (after r v) ≡ after r (shifted m v)
shifted_after m r (right qs) = refl
shifted_after m r (wrong qs n p) = refl

-- from at on, and then up to next
pub shifted_to : (at next : ℕ) (v : Verdict) → at ≤ next → shifted at (shifted (next - at) v) ≡ shifted next v
shifted_to at next v h = shifted_on at (next - at) v ∙ ap (λ (m : ℕ). shifted m v) (add-sub_of_le h)
