-- The steps case by case, one for each sentence of document 01 (docs/RULES.md, 7.3 to 7.5). Assumes nothing.
use Prim.Native.Nat.{ℕ, ◌≤◌, ◌<◌}
use mathlib.Core.Bool.{Bool, true, false, cond}
use mathlib.Core.Path.{◌≡◌, refl}
use mathlib.Core.List.{List, [], ◌∷◌, ◌++◌}
use mathlib.Core.Option.{Option, none, some}
use lib.Dec.{ltb, eqb}
use lib.ListN.{length}
use borrow.Author.Tests.{ltb-true, ltb-false, eqb-true, eqb-false}
use Rattle.slots.specs.Effect.{entered, refreshed, taken_over, deleted, has_address}
use Rattle.slots.specs.Entry.{Entry, address_of}
use Rattle.slots.specs.Promise.{holding, is_address}
use Rattle.slots.specs.declared.Family.{Family}
use Rattle.slots.specs.declared.Holding.TheVariants.{ByThis, ByAnother}
use Rattle.table.specs.Steps.{StepOutcome, find, changed, without, refused_with, accepted_with, adding, added_to, add, removing, removed, removed_from, remove, cleared_from, clear}

module _ {H : Type 0} (same : H → H → Bool) (t : List (Entry H)) (n : List ℕ) (h : H) (f : Family) (x : List ℕ) where
  module _ (limit policy : ℕ) where
    pub data Adding (o : StepOutcome H) : Type 0 where
      put_last : find n t ≡ none → length t < limit → o ≡ accepted_with 0 (t ++ entered n h f x ∷ []) → Adding o
      full : find n t ≡ none → limit ≤ length t → o ≡ refused_with 32 t → Adding o
      by_hand : (e : Entry H) → find n t ≡ some e → e.holder ≡ none → o ≡ refused_with 31 t → Adding o
      same_client : (e : Entry H) (k : H) → find n t ≡ some e → e.holder ≡ some k → same k h ≡ true → o ≡ accepted_with 1 (changed n (refreshed f x) t) → Adding o
      first_wins : (e : Entry H) (k : H) → find n t ≡ some e → e.holder ≡ some k → same k h ≡ false → policy ≡ 0 → o ≡ refused_with 30 t → Adding o
      latest_wins : (e : Entry H) (k : H) → find n t ≡ some e → e.holder ≡ some k → same k h ≡ false → (policy ≡ 0 → ⊥) → o ≡ accepted_with 2 (changed n (taken_over h f x) t) → Adding o

    by_policy : (e : Entry H) (k : H) → find n t ≡ some e → e.holder ≡ some k → same k h ≡ false → (b : Bool) → eqb policy 0 ≡ b
        → Adding (cond b (refused_with 30 t) (accepted_with 2 (changed n (taken_over h f x) t)))
    by_policy e k found holder other true p = Adding.first_wins e k found holder other (eqb-true policy 0 p) refl
    by_policy e k found holder other false p = Adding.latest_wins e k found holder other (λ z. eqb-false policy 0 p z) refl

    by_same : (e : Entry H) (k : H) → find n t ≡ some e → e.holder ≡ some k → (b : Bool) → same k h ≡ b
        → Adding (adding (cond b ByThis ByAnother) policy t (changed n (refreshed f x) t) (changed n (taken_over h f x) t))
    by_same e k found holder true s = Adding.same_client e k found holder s refl
    by_same e k found holder false s = by_policy e k found holder s (eqb policy 0) refl

    by_holder : (e : Entry H) → find n t ≡ some e → (o : Option H) → e.holder ≡ o
        → Adding (adding (holding same o h) policy t (changed n (refreshed f x) t) (changed n (taken_over h f x) t))
    by_holder e found none holder = Adding.by_hand e found holder refl
    by_holder e found (some k) holder = by_same e k found holder (same k h) refl

    by_room : find n t ≡ none → (b : Bool) → ltb (length t) limit ≡ b → Adding (cond b (accepted_with 0 (t ++ entered n h f x ∷ [])) (refused_with 32 t))
    by_room found true r = Adding.put_last found (ltb-true (length t) limit r) refl
    by_room found false r = Adding.full found (ltb-false (length t) limit r) refl

    by_found : (o : Option (Entry H)) → find n t ≡ o → Adding (added_to o limit same t n h f x policy)
    by_found none found = by_room found (ltb (length t) limit) refl
    by_found (some e) found = by_holder e found e.holder refl

    pub add_case : Adding (add limit same t n h f x policy)
    unfolding add
    add_case = by_found (find n t) refl

  pub data Removing (o : StepOutcome H) : Type 0 where
    not_held : find n t ≡ none → o ≡ refused_with 33 t → Removing o
    by_hand : (e : Entry H) → find n t ≡ some e → e.holder ≡ none → o ≡ refused_with 31 t → Removing o
    another : (e : Entry H) (k : H) → find n t ≡ some e → e.holder ≡ some k → same k h ≡ false → o ≡ refused_with 30 t → Removing o
    differs : (e : Entry H) (k : H) → find n t ≡ some e → e.holder ≡ some k → same k h ≡ true → is_address (address_of f e) x ≡ false → o ≡ refused_with 34 t → Removing o
    kept : (e : Entry H) (k : H) → find n t ≡ some e → e.holder ≡ some k → same k h ≡ true → is_address (address_of f e) x ≡ true → has_address (deleted f e) ≡ true
        → o ≡ accepted_with 0 (changed n (deleted f) t)
        → Removing o
    gone : (e : Entry H) (k : H) → find n t ≡ some e → e.holder ≡ some k → same k h ≡ true → is_address (address_of f e) x ≡ true → has_address (deleted f e) ≡ false
        → o ≡ accepted_with 0 (without n t)
        → Removing o

  from_left : (e : Entry H) (k : H) → find n t ≡ some e → e.holder ≡ some k → same k h ≡ true → is_address (address_of f e) x ≡ true → (b : Bool) → has_address (deleted f e) ≡ b
      → Removing (accepted_with 0 (cond b (changed n (deleted f) t) (without n t)))
  from_left e k found holder s a true l = Removing.kept e k found holder s a l refl
  from_left e k found holder s a false l = Removing.gone e k found holder s a l refl

  from_address : (e : Entry H) (k : H) → find n t ≡ some e → e.holder ≡ some k → same k h ≡ true → (b : Bool) → is_address (address_of f e) x ≡ b
      → Removing (cond b (accepted_with 0 (removed n f e t)) (refused_with 34 t))
  from_address e k found holder s true a = from_left e k found holder s a (has_address (deleted f e)) refl
  from_address e k found holder s false a = Removing.differs e k found holder s a refl

  from_same : (e : Entry H) (k : H) → find n t ≡ some e → e.holder ≡ some k → (b : Bool) → same k h ≡ b
      → Removing (removing (cond b ByThis ByAnother) (is_address (address_of f e) x) t (removed n f e t))
  from_same e k found holder true s = from_address e k found holder s (is_address (address_of f e) x) refl
  from_same e k found holder false s = Removing.another e k found holder s refl

  from_holder : (e : Entry H) → find n t ≡ some e → (o : Option H) → e.holder ≡ o → Removing (removing (holding same o h) (is_address (address_of f e) x) t (removed n f e t))
  from_holder e found none holder = Removing.by_hand e found holder refl
  from_holder e found (some k) holder = from_same e k found holder (same k h) refl

  from_found : (o : Option (Entry H)) → find n t ≡ o → Removing (removed_from o same t n h f x)
  from_found none found = Removing.not_held found refl
  from_found (some e) found = from_holder e found e.holder refl

  pub remove_case : Removing (remove same t n h f x)
  unfolding remove
  remove_case = from_found (find n t) refl

module _ {H : Type 0} (t : List (Entry H)) (n : List ℕ) where
  pub data Clearing (o : StepOutcome H) : Type 0 where
    not_held : find n t ≡ none → o ≡ refused_with 33 t → Clearing o
    cleared : (e : Entry H) → find n t ≡ some e → o ≡ accepted_with 0 (without n t) → Clearing o

  by_entry : (o : Option (Entry H)) → find n t ≡ o → Clearing (cleared_from o t n)
  by_entry none found = Clearing.not_held found refl
  by_entry (some e) found = Clearing.cleared e found refl

  pub clear_case : Clearing (clear t n)
  unfolding clear
  clear_case = by_entry (find n t) refl
