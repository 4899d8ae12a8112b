-- What an add comes to at one entry, by who holds it. Assumes nothing.
use Prim.Native.Nat.{ℕ}
use mathlib.Core.Bool.{Bool, true, false, cond}
use mathlib.Core.Path.{◌≡◌, sym, subst}
use mathlib.Core.List.{List}
use lib.Dec.{eqb}
use borrow.Author.Tests.{eq-eqb, ne_eqb}
use Rattle.base.specs.declared.Answer.{Answer}
use Rattle.base.specs.declared.Answer.TheVariants.{Accepted, Refused}
use Rattle.slots.specs.Form.{TableEntry, slot_bytes}
use Rattle.slots.specs.declared.Holding.{Holding}
use Rattle.slots.specs.declared.Holding.TheVariants.{ByHand, ByThis, ByAnother}
use Rattle.table.specs.Promise.{LeavesEntry, added_at}

module _ (e : TableEntry) (h : Holding) (r : Answer) (left : List ℕ) where
  module _ (policy : ℕ) (same taken : TableEntry) where
    pub add_by_hand : h ≡ ByHand → r ≡ Refused 31 0 → left ≡ slot_bytes e → LeavesEntry (added_at h policy e same taken) r left
    add_by_hand k a s = subst (λ (x : Holding). LeavesEntry (added_at x policy e same taken) r left) (sym k) (record { answered = a; slot = s })

    pub add_same : h ≡ ByThis → r ≡ Accepted 1 → left ≡ slot_bytes same → LeavesEntry (added_at h policy e same taken) r left
    add_same k a s = subst (λ (x : Holding). LeavesEntry (added_at x policy e same taken) r left) (sym k) (record { answered = a; slot = s })

    contested_by : (b : Bool) → eqb policy 0 ≡ b → LeavesEntry (cond b (record { answer = Refused 30 0; entry = e }) (record { answer = Accepted 2; entry = taken })) r left
        → LeavesEntry (added_at ByAnother policy e same taken) r left
    contested_by b p l = subst (λ (x : Bool). LeavesEntry (cond x (record { answer = Refused 30 0; entry = e }) (record { answer = Accepted 2; entry = taken })) r left) (sym p) l

    pub add_first_wins : h ≡ ByAnother → policy ≡ 0 → r ≡ Refused 30 0 → left ≡ slot_bytes e → LeavesEntry (added_at h policy e same taken) r left
    add_first_wins k p a s =
        subst (λ (x : Holding). LeavesEntry (added_at x policy e same taken) r left) (sym k) (contested_by true (eq-eqb policy 0 p) (record { answered = a; slot = s }))

    pub add_latest_wins : h ≡ ByAnother → (policy ≡ 0 → ⊥) → r ≡ Accepted 2 → left ≡ slot_bytes taken → LeavesEntry (added_at h policy e same taken) r left
    add_latest_wins k p a s =
        subst (λ (x : Holding). LeavesEntry (added_at x policy e same taken) r left) (sym k) (contested_by false (ne_eqb policy 0 p) (record { answered = a; slot = s }))
