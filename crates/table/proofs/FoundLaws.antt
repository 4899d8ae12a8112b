-- What the look-up and the changes of a list of entries come to, by where the name stands. Assumes nothing.
use Prim.Native.Nat.{ℕ, suc}
use mathlib.Core.Bool.{Bool, true, false, cond}
use mathlib.Core.Path.{◌≡◌, refl, ap, ◌∙◌}
use mathlib.Core.List.{List, [], ◌∷◌, ◌++◌}
use mathlib.Core.Option.{none, some}
use lib.ListN.{length}
use Rattle.base.specs.Bytes.{eq_bytes}
use Rattle.slots.specs.Entry.{Entry, position}
use Rattle.table.specs.Steps.{find, changed, without}

module _ {H : Type 0} where
  -- the name n stands nowhere in t, or at one entry, with p before it and r after it
  pub data Standing (n : List ℕ) (t : List (Entry H)) : Type 0 where
    nowhere : position n t ≡ length t → find n t ≡ none → Standing n t
    at : (p : List (Entry H)) (e : Entry H) (r : List (Entry H)) → t ≡ p ++ e ∷ r → position n t ≡ length p → find n t ≡ some e
        → ((f : Entry H → Entry H) → changed n f t ≡ p ++ f e ∷ r) → without n t ≡ p ++ r → Standing n t

  -- one entry more before
  module _ (n : List ℕ) (e : Entry H) (t : List (Entry H)) where
    same_name : eq_bytes e.name n ≡ true → Standing n (e ∷ t)
    unfolding position find changed without
    same_name s =
        Standing.at [] e t refl (ap (λ (b : Bool). cond b 0 (suc (position n t))) s) (ap (λ (b : Bool). cond b (some e) (find n t)) s)
        (λ f. ap (λ (b : Bool). cond b (f e ∷ t) (e ∷ changed n f t)) s) (ap (λ (b : Bool). cond b t (e ∷ without n t)) s)

    other_name : eq_bytes e.name n ≡ false → Standing n t → Standing n (e ∷ t)
    unfolding position find changed without
    other_name s (Standing.nowhere p f) =
        Standing.nowhere (ap (λ (b : Bool). cond b 0 (suc (position n t))) s ∙ ap suc p) (ap (λ (b : Bool). cond b (some e) (find n t)) s ∙ f)
    other_name s (Standing.at p d r cut here found change gone) =
        Standing.at (e ∷ p) d r (ap (◌∷◌ e) cut) (ap (λ (b : Bool). cond b 0 (suc (position n t))) s ∙ ap suc here)
        (ap (λ (b : Bool). cond b (some e) (find n t)) s ∙ found)
        (λ f. ap (λ (b : Bool). cond b (f e ∷ t) (e ∷ changed n f t)) s ∙ ap (◌∷◌ e) (change f))
        (ap (λ (b : Bool). cond b t (e ∷ without n t)) s ∙ ap (◌∷◌ e) gone)

  by_name : (n : List ℕ) (e : Entry H) (t : List (Entry H)) (b : Bool) → eq_bytes e.name n ≡ b → Standing n t → Standing n (e ∷ t)
  by_name n e t true s rest = same_name n e t s
  by_name n e t false s rest = other_name n e t s rest

  nowhere_in_none : (n : List ℕ) → Standing n []
  unfolding position find
  nowhere_in_none n = Standing.nowhere refl refl

  pub standing : (n : List ℕ) (t : List (Entry H)) → Standing n t
  standing n [] = nowhere_in_none n
  standing n (e ∷ t) = by_name n e t (eq_bytes e.name n) refl (standing n t)
