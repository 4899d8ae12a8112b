-- A name that went with its last address can be had again, since its place is free. Assumes nothing.
use Prim.Native.Nat.{ℕ, ◌<◌}
use mathlib.Core.Bool.{false, true≢false}
use mathlib.Core.Path.{◌≡◌, refl, sym, ap, ◌∙◌}
use mathlib.Core.Logic.{inl, inr}
use mathlib.Core.List.{List, [], ◌∷◌, ◌++◌}
use mathlib.Core.Option.{none, some, some-injective, none-ne-some}
use native.Mathlib.Omega.{arith}
use lib.ListN.{length, length-append}
use borrow.Author.Tests.{lt-ltb}
use Rattle.base.specs.Bytes.{eq_bytes}
use Rattle.base.specs.Order.{Test, AllHold}
use Rattle.base.specs.declared.Answer.{Answer}
use Rattle.base.specs.declared.Answer.TheVariants.{Accepted}
use Rattle.base.proofs.AnswerLaws.{accepted≢refused}
use Rattle.slots.specs.Effect.{entered, deleted, has_address}
use Rattle.slots.specs.Entry.{Entry, names, Distinct}
use Rattle.slots.specs.Form.{TableEntry}
use Rattle.slots.specs.declared.Family.{Family}
use Rattle.table.specs.Steps.{StepOutcome, find, without, accepted_with, add}
use Rattle.table.specs.Calls.{Called}
use Rattle.table.specs.Demand2.{others, LeftOf, Deleted}
use Rattle.table.proofs.FoundLaws.{Standing, standing}
use Rattle.table.proofs.OthersLaws.{others_without, find_without, gone_others}

-- an accepted call had sound arguments
pub had_sound : (limit : ℕ) (ts : List Test) (b : List ℕ) (step : List TableEntry → StepOutcome (List ℕ)) (r : Answer) (left : List ℕ) (v : ℕ) → Called limit ts b step r left → r ≡ Accepted v
    → AllHold ts
had_sound limit ts b step r left v (inl f) e = absurd (accepted≢refused (sym e ∙ f.answer))
had_sound limit ts b step r left v (inr s) e = s.all_hold

module _ {H : Type 0} (n : List ℕ) (t : List (Entry H)) (c : Entry H) (stood : find n t ≡ some c) where
  fewer_without : length (without n t) < length t
  fewer_without = go (standing n t)
    where
      go : Standing n t → length (without n t) < length t
      go (Standing.nowhere last f) = absurd (none-ne-some c (sym f ∙ stood))
      go (Standing.at p e r cut here f change gone) = omega (arith, ap length cut, ap length gone, length-append p (e ∷ r), length-append p r)

  -- the others of a name that stands are fewer than all
  pub fewer_others : Distinct (names t) → length (others n t) < length t
  fewer_others d = omega (arith, ap length (gone_others n t (without n t) (find_without n t d) (others_without n t)), fewer_without)

-- where that was the last address, the others are left, and no more
pub last_gone : {t u : List TableEntry} {n d : List ℕ} {f : Family} {x : List ℕ} (c : TableEntry) → Deleted t u n d f x → find n t ≡ some c → has_address (deleted f c) ≡ false
    → (find n u ≡ none) × (u ≡ others n t)
last_gone {t} {u} {n} {f = f} c h stood last = go h.left
  where
    go : LeftOf t u n f h.entry → (find n u ≡ none) × (u ≡ others n t)
    go (LeftOf.kept more found order) = absurd (true≢false (sym more ∙ ap (λ (y : TableEntry). has_address (deleted f y)) (some-injective h.entry c (sym h.stood ∙ stood)) ∙ last))
    go (LeftOf.gone no_more absent) = (absent, gone_others n t u absent h.else_same)

-- an add of a name that nobody has, with a place free
pub add_unused : (limit : ℕ) (t : List TableEntry) (n d : List ℕ) (f : Family) (x : List ℕ) (policy : ℕ) → find n t ≡ none → length t < limit
    → add limit eq_bytes t n d f x policy ≡ accepted_with 0 (t ++ entered n d f x ∷ [])
unfolding add
add_unused limit t n d f x policy found room = rw (found, lt-ltb (length t) limit room) refl
