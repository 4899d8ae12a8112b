-- The three effects of a step, and the note that is then written for the name: it replays the step. Assumes nothing.
use Prim.Native.Nat.{ℕ}
use mathlib.Core.Path.{◌≡◌, refl, sym, ap, subst, ◌∙◌}
use mathlib.Core.List.{List, [], ◌∷◌, ◌++◌}
use mathlib.Core.Option.{Option, none, some, none-ne-some}
use Rattle.slots.specs.Entry.{names, Distinct}
use Rattle.slots.specs.Form.{TableEntry}
use Rattle.table.specs.Steps.{find, changed, without}
use Rattle.table.proofs.FoundLaws.{Standing, standing}
use Rattle.table.proofs.OthersLaws.{find_changed, find_last, find_without}
use Rattle.book.specs.Notes.{standing_by, noted, note_by, note_of}
use Rattle.book.specs.Blocks.{Follows}

-- from t to u something happened to the name n, and the note that is written for it from u says just that: where t stands, it gives u, every name in its place
pub record ToldBy (n : List ℕ) (t u : List TableEntry) : Type 0 where
  pub follows : Follows (note_of n u) t
  pub replays : noted (note_of n u) t ≡ u

module _ (n : List ℕ) (t u : List TableEntry) where
  -- by what is then found under the name
  as_found : (o : Option TableEntry) → find n u ≡ o → Follows (note_by n o) t → noted (note_by n o) t ≡ u → ToldBy n t u
  unfolding note_of
  as_found o found f e =
      record {
        follows = subst (λ (p : Option TableEntry). Follows (note_by n p) t) (sym found) f;
        replays = ap (λ (p : Option TableEntry). noted (note_by n p) t) found ∙ e;
      }

-- a new name, last
pub told_appended : (n : List ℕ) (e : TableEntry) (t : List TableEntry) → find n t ≡ none → e.name ≡ n → ToldBy n t (t ++ e ∷ [])
unfolding noted
told_appended n e t unused named =
    as_found n t (t ++ e ∷ []) (some e) (find_last n t e unused named) tt
    (ap (λ (m : List ℕ). standing_by (find m t) e t) named ∙ ap (λ (o : Option TableEntry). standing_by o e t) unused)

-- a name that stands in another state, its place in the order kept
pub told_changed : (n : List ℕ) (f : TableEntry → TableEntry) (t : List TableEntry) (e : TableEntry) → ((d : TableEntry) → (f d).name ≡ d.name) → find n t ≡ some e → e.name ≡ n
    → ToldBy n t (changed n f t)
unfolding noted
told_changed n f t e keeps stood own =
    let named : (f e).name ≡ n = keeps e ∙ own in
    as_found n t (changed n f t) (some (f e)) (find_changed n f keeps t e stood) tt
    (ap (λ (m : List ℕ). standing_by (find m t) (f e) t) named ∙ ap (λ (o : Option TableEntry). standing_by o (f e) t) stood
    ∙ ap (λ (m : List ℕ). changed m (λ _. f e) t) named ∙ go (standing n t))
  where
    go : Standing n t → changed n (λ _. f e) t ≡ changed n f t
    go (Standing.nowhere p g) = absurd (none-ne-some e (sym g ∙ stood))
    go (Standing.at p d r cut here there change left) = change (λ _. f e) ∙ ap (λ (o : Option TableEntry). p ++ or_else o ∷ r) (sym stood ∙ there) ∙ sym (change f)
      where
        or_else : Option TableEntry → TableEntry
        or_else none = f e
        or_else (some x) = f x

-- a name gone; later ones move up
pub told_gone : (n : List ℕ) (t : List TableEntry) (e : TableEntry) → Distinct (names t) → find n t ≡ some e → ToldBy n t (without n t)
unfolding noted
told_gone n t e distinct stood = as_found n t (without n t) none (find_without n t distinct) (e, stood) refl
