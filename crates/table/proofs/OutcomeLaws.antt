-- What an add or a clear answers and leaves is the outcome of the step; of a remove: RemovalLaws.antt. Assumes nothing.
use Prim.Native.Nat.{ℕ}
use mathlib.Core.Bool.{Bool, true, false, cond}
use mathlib.Core.Path.{◌≡◌, refl, sym, ap, ◌∙◌}
use mathlib.Core.List.{List, ◌∷◌, ◌++◌}
use mathlib.Core.Option.{none}
use lib.Dec.{eqb}
use lib.ListN.{length}
use borrow.Author.Tests.{lt-ltb, le-ltb}
use Rattle.base.specs.Bytes.{eq_bytes, closed_up}
use Rattle.base.specs.declared.Answer.{Answer}
use Rattle.base.specs.declared.Answer.TheVariants.{Accepted, Refused}
use Rattle.slots.specs.Effect.{entered, refreshed, taken_over}
use Rattle.slots.specs.Form.{TableEntry, slot_bytes, table_bytes, IsTable}
use Rattle.slots.specs.Promise.{holding}
use Rattle.slots.specs.Sizes.{slot_size}
use Rattle.slots.specs.declared.Family.{Family}
use Rattle.slots.specs.declared.Holding.{Holding}
use Rattle.slots.specs.declared.Holding.TheVariants.{ByHand, ByThis, ByAnother}
use Rattle.table.specs.Steps.{StepOutcome, find, adding, accepted_with, refused_with, add, clear}
use Rattle.table.specs.Promise.{AtEntry, in_slot, LeavesSlot, added_at, Results}
use Rattle.table.proofs.StepLaws.{HeldAt, FreeAt, FullUp}

-- the outcome o is that of a step at the entry between p and r
pub record Between (p r : List TableEntry) (o : StepOutcome (List ℕ)) (a : AtEntry) : Type 0 where
  pub answer : o.answer ≡ a.answer
  pub table : o.table ≡ p ++ a.entry ∷ r

module _ (p r : List TableEntry) (e : TableEntry) (t : List TableEntry) (cut : t ≡ p ++ e ∷ r) where
  contested_at : (taken : TableEntry) (u : List TableEntry) → u ≡ p ++ taken ∷ r → (b : Bool)
      → Between p r (cond b (refused_with 30 t) (accepted_with 2 u)) (cond b (record { answer = Refused 30 0; entry = e }) (record { answer = Accepted 2; entry = taken }))
  contested_at taken u is true = record { answer = refl; table = cut }
  contested_at taken u is false = record { answer = refl; table = is }

  adding_at : (h : Holding) (policy : ℕ) (same taken : TableEntry) (s u : List TableEntry) → s ≡ p ++ same ∷ r → u ≡ p ++ taken ∷ r
      → Between p r (adding h policy t s u) (added_at h policy e same taken)
  adding_at ByHand policy same taken s u is it = record { answer = refl; table = cut }
  adding_at ByThis policy same taken s u is it = record { answer = refl; table = is }
  adding_at ByAnother policy same taken s u is it = contested_at taken u it (eqb policy 0)

module _ (k : ℕ) (n : List ℕ) (t : List TableEntry) (b : List ℕ) (r : Answer) (left : List ℕ) where
  at_results : (at : ℕ) (h : HeldAt k n t b at) (o : StepOutcome (List ℕ)) (a : AtEntry) → Between h.before h.after o a → LeavesSlot b at a r left → Results k o r left
  at_results at h o a m l = record { answer = l.answered ∙ sym m.answer; table = l.table ∙ h.put a.entry ∙ ap (table_bytes k) (sym m.table) }

  -- nothing changed
  pub unchanged_results : (num : ℕ) → IsTable k t b → r ≡ Refused num 0 → left ≡ b → Results k (refused_with num t) r left
  unchanged_results num h a e = record { answer = a; table = e ∙ h.form }

  module _ (d : List ℕ) (f : Family) (x : List ℕ) (policy : ℕ) where
    pub add_held_results : (at : ℕ) (h : HeldAt k n t b at)
        → LeavesSlot b at (added_at (holding eq_bytes h.entry.holder d) policy h.entry (refreshed f x h.entry) (taken_over d f x h.entry)) r left
        → Results k (add k eq_bytes t n d f x policy) r left
    unfolding add
    add_held_results at h l =
        rw h.found
        (at_results at h _ _
        (adding_at h.before h.after h.entry t h.cut (holding eq_bytes h.entry.holder d) policy (refreshed f x h.entry) (taken_over d f x h.entry) _ _
        (h.change (refreshed f x)) (h.change (taken_over d f x))) l)

    pub add_free_results : (at : ℕ) → FreeAt k n t b at → r ≡ Accepted 0 → left ≡ in_slot b at (slot_bytes (entered n d f x)) → Results k (add k eq_bytes t n d f x policy) r left
    unfolding add
    add_free_results at h a e = rw (h.found, lt-ltb (length t) k h.room) (record { answer = a; table = e ∙ h.put (entered n d f x) })

    pub add_full_results : FullUp k n t b → IsTable k t b → r ≡ Refused 32 0 → left ≡ b → Results k (add k eq_bytes t n d f x policy) r left
    unfolding add
    add_full_results h table a e = rw (h.found, le-ltb (length t) k h.full) (unchanged_results 32 table a e)

  pub clear_held_results : (at : ℕ) → HeldAt k n t b at → r ≡ Accepted 0 → left ≡ closed_up slot_size b at → Results k (clear t n) r left
  unfolding clear
  clear_held_results at h a e = rw (h.found, h.gone) (record { answer = a; table = e ∙ h.out })

  pub clear_none_results : find n t ≡ none → IsTable k t b → r ≡ Refused 33 0 → left ≡ b → Results k (clear t n) r left
  unfolding clear
  clear_none_results f' table a e = rw f' (unchanged_results 33 table a e)
