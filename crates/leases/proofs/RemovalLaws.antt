-- A remove is refused or accepted, and the same remove again. Assumes nothing.
use Prim.Native.Nat.{ℕ}
use mathlib.Core.Bool.{Bool, cond}
use mathlib.Core.Path.{◌≡◌, refl, sym, ap, ◌∙◌}
use mathlib.Core.List.{List}
use mathlib.Core.Option.{Option, none, some}
use Rattle.base.specs.Bytes.{eq_bytes}
use Rattle.base.proofs.Tests.{eq_eq_bytes, eq_bytes_true}
use Rattle.slots.specs.Entry.{names, Distinct, address_of}
use Rattle.slots.specs.Effect.{deleted}
use Rattle.slots.specs.Form.{TableEntry}
use Rattle.slots.specs.Promise.{holding, is_address}
use Rattle.slots.specs.declared.Family.{Family}
use Rattle.slots.specs.declared.Holding.TheVariants.{ByThis, ByAnother}
use Rattle.table.specs.Steps.{StepOutcome, find, changed, without, accepted_with, refused_with, removing, removed, removed_from, remove}
use Rattle.table.proofs.CaseLaws.{Removing, remove_case}
use Rattle.table.proofs.OthersLaws.{find_changed, find_without}
use Rattle.table.proofs.SoundLaws.{keeps_name, deleted_address, deleted_holder}

-- the same remove again, where u was left: 34 where the name stands, 33 where it is gone
pub data Afterwards (u : List TableEntry) (n d : List ℕ) (f : Family) (x : List ℕ) : Type 0 where
  kept : (c : TableEntry) → find n u ≡ some c → remove eq_bytes u n d f x ≡ refused_with 34 u → Afterwards u n d f x
  gone : find n u ≡ none → remove eq_bytes u n d f x ≡ refused_with 33 u → Afterwards u n d f x

module _ (t : List TableEntry) (n d : List ℕ) (f : Family) (x : List ℕ) where
  -- of a name that does not stand
  remove_none : find n t ≡ none → remove eq_bytes t n d f x ≡ refused_with 33 t
  unfolding remove
  remove_none found = rw found

  -- of an address that the client does not have
  remove_missing : (e : TableEntry) → find n t ≡ some e → e.holder ≡ some d → address_of f e ≡ none → remove eq_bytes t n d f x ≡ refused_with 34 t
  unfolding remove
  remove_missing e found holder missing =
      ap (λ (o : Option TableEntry). removed_from o eq_bytes t n d f x) found
      ∙ ap (λ (o : Option (List ℕ)). removing (holding eq_bytes o d) (is_address (address_of f e) x) t (removed n f e t)) holder
      ∙ ap (λ (b : Bool). removing (cond b ByThis ByAnother) (is_address (address_of f e) x) t (removed n f e t)) (eq_eq_bytes d d refl)
      ∙ ap (λ (o : Option (List ℕ)). removing ByThis (is_address o x) t (removed n f e t)) missing

module _ (t : List TableEntry) (n d : List ℕ) (f : Family) (x : List ℕ) where
  again_kept : (e : TableEntry) → find n t ≡ some e → e.holder ≡ some d → Afterwards (changed n (deleted f) t) n d f x
  again_kept e found holder =
      let still = find_changed n (deleted f) (keeps_name f none) t e found in
      Afterwards.kept (deleted f e) still (remove_missing (changed n (deleted f) t) n d f x (deleted f e) still (deleted_holder f e ∙ holder) (deleted_address f e))

  again_gone : Distinct (names t) → Afterwards (without n t) n d f x
  again_gone apart = let absent = find_without n t apart in Afterwards.gone absent (remove_none (without n t) n d f x absent)

  -- refused, and the table stays; or accepted with 0
  pub data Removed (o : StepOutcome (List ℕ)) : Type 0 where
    refused : (m : ℕ) → o ≡ refused_with m t → Removed o
    accepted : (u : List TableEntry) → o ≡ accepted_with 0 u → (Distinct (names t) → Afterwards u n d f x) → Removed o

  removed_by : (o : StepOutcome (List ℕ)) → Removing eq_bytes t n d f x o → Removed o
  removed_by o (Removing.not_held found e) = Removed.refused 33 e
  removed_by o (Removing.by_hand c found holder e) = Removed.refused 31 e
  removed_by o (Removing.another c k found holder other e) = Removed.refused 30 e
  removed_by o (Removing.differs c k found holder s a e) = Removed.refused 34 e
  removed_by o (Removing.kept c k found holder s a l e) = Removed.accepted (changed n (deleted f) t) e (λ _. again_kept c found (holder ∙ ap some (eq_bytes_true k d s)))
  removed_by o (Removing.gone c k found holder s a l e) = Removed.accepted (without n t) e again_gone

  pub removal : Removed (remove eq_bytes t n d f x)
  removal = removed_by (remove eq_bytes t n d f x) (remove_case eq_bytes t n d f x)
