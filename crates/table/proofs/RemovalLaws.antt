-- A remove in two steps: what it comes to, and then that, is the remove. Assumes nothing.
use Prim.Native.Nat.{ℕ, ◌*◌}
use mathlib.Core.Bool.{Bool, true, false, cond}
use mathlib.Core.Path.{◌≡◌, refl, sym, ap, subst, ◌∙◌}
use mathlib.Core.List.{List}
use mathlib.Core.Option.{Option, none, some}
use native.Mathlib.Omega.{arith}
use lib.ListN.{length}
use Rattle.base.specs.Bytes.{eq_bytes}
use Rattle.base.specs.declared.Answer.{Answer}
use Rattle.slots.specs.Effect.{deleted, has_address}
use Rattle.slots.specs.Entry.{position, address_of}
use Rattle.slots.specs.Form.{TableEntry, IsSlot, table_bytes, IsTable}
use Rattle.slots.specs.Promise.{holding, is_address, removal}
use Rattle.slots.specs.Sizes.{slot_size}
use Rattle.slots.specs.declared.Family.{Family}
use Rattle.slots.specs.declared.Holding.{Holding}
use Rattle.slots.specs.declared.Holding.TheVariants.{ByHand, ByThis, ByAnother}
use Rattle.table.specs.Steps.{StepOutcome, find, changed, without, refused_with, accepted_with, removing, removed_from, remove}
use Rattle.table.specs.Promise.{slot_by, slot_for, removal_at, removal_by, removal_for, CanCarryOut, CarriesOut, Results}
use Rattle.table.specs.declared.step.RemovalFor.{RemovalFor}
use Rattle.table.specs.declared.step.RemovalFor.TheVariants as comes
use Rattle.table.proofs.StepLaws.{HeldAt, held_at}

module _ (t : List TableEntry) (n d : List ℕ) (f : Family) (x : List ℕ) where
  -- ---- what it comes to, by the place of the name

  pub held_removal : {k : ℕ} {b : List ℕ} {at : ℕ} (h : HeldAt k n t b at)
      → removal_at (removal (holding eq_bytes h.entry.holder d) (is_address (address_of f h.entry) x) (has_address (deleted f h.entry))) at ≡ removal_for t n d f x
  unfolding removal_for
  held_removal h =
      let said = removal (holding eq_bytes h.entry.holder d) (is_address (address_of f h.entry) x) (has_address (deleted f h.entry)) in
      rw h.found (ap (removal_at said) h.offset)

  pub none_removal : find n t ≡ none → comes.Refused 33 ≡ removal_for t n d f x
  unfolding removal_for
  none_removal found = rw found refl

  -- ---- the outcome, before anything is written

  -- what a remove comes to, m, and its outcome, o: case by case
  pub data Coming (m : RemovalFor) (o : StepOutcome (List ℕ)) : Type 0 where
    refused : (number : ℕ) → m ≡ comes.Refused number → o ≡ refused_with number t → Coming m o
    kept : (e : TableEntry) → find n t ≡ some e → m ≡ comes.Address (slot_size * position n t) → o ≡ accepted_with 0 (changed n (deleted f) t) → Coming m o
    gone : (e : TableEntry) → find n t ≡ some e → m ≡ comes.Name (slot_size * position n t) → o ≡ accepted_with 0 (without n t) → Coming m o

  by_holding : (e : TableEntry) → find n t ≡ some e → (h : Holding) (there more : Bool)
      → Coming (removal_at (removal h there more) (slot_size * position n t)) (removing h there t (cond more (changed n (deleted f) t) (without n t)))
  by_holding e found ByHand there more = Coming.refused _ refl refl
  by_holding e found ByThis true true = Coming.kept e found refl refl
  by_holding e found ByThis true false = Coming.gone e found refl refl
  by_holding e found ByThis false more = Coming.refused _ refl refl
  by_holding e found ByAnother there more = Coming.refused _ refl refl

  by_entry : (o : Option TableEntry) → find n t ≡ o → Coming (removal_by o (slot_size * position n t) d f x) (removed_from o eq_bytes t n d f x)
  by_entry none found = Coming.refused _ refl refl
  by_entry (some e) found = by_holding e found (holding eq_bytes e.holder d) (is_address (address_of f e) x) (has_address (deleted f e))

  pub coming : (m : RemovalFor) → m ≡ removal_for t n d f x → Coming m (remove eq_bytes t n d f x)
  unfolding removal_for remove
  coming m is = subst (λ (y : RemovalFor). Coming y (removed_from (find n t) eq_bytes t n d f x)) (sym is) (by_entry (find n t) refl)

  -- the remove is refused with that number
  pub refused_outcome : (number : ℕ) → comes.Refused number ≡ removal_for t n d f x → remove eq_bytes t n d f x ≡ refused_with number t
  refused_outcome number is = go (coming (comes.Refused number) is)
    where
      go : {o : StepOutcome (List ℕ)} → Coming (comes.Refused number) o → o ≡ refused_with number t
      go (Coming.refused i e s) = s ∙ ap (λ (j : ℕ). refused_with j t) (let same : i ≡ number = cc in same)
      go (Coming.kept c found e s) = absurd (let z : ◌≡◌ {A = ℕ} 0 1 = cc in omega arith)
      go (Coming.gone c found e s) = absurd (let z : ◌≡◌ {A = ℕ} 0 1 = cc in omega arith)

  -- or accepted: the address is deleted, or the name is gone
  pub address_outcome : (at : ℕ) → comes.Address at ≡ removal_for t n d f x → remove eq_bytes t n d f x ≡ accepted_with 0 (changed n (deleted f) t)
  address_outcome at is = go (coming (comes.Address at) is)
    where
      go : {o : StepOutcome (List ℕ)} → Coming (comes.Address at) o → o ≡ accepted_with 0 (changed n (deleted f) t)
      go (Coming.refused i e s) = absurd (let z : ◌≡◌ {A = ℕ} 0 1 = cc in omega arith)
      go (Coming.kept c found e s) = s
      go (Coming.gone c found e s) = absurd (let z : ◌≡◌ {A = ℕ} 0 1 = cc in omega arith)

  pub name_outcome : (at : ℕ) → comes.Name at ≡ removal_for t n d f x → remove eq_bytes t n d f x ≡ accepted_with 0 (without n t)
  name_outcome at is = go (coming (comes.Name at) is)
    where
      go : {o : StepOutcome (List ℕ)} → Coming (comes.Name at) o → o ≡ accepted_with 0 (without n t)
      go (Coming.refused i e s) = absurd (let z : ◌≡◌ {A = ℕ} 0 1 = cc in omega arith)
      go (Coming.kept c found e s) = absurd (let z : ◌≡◌ {A = ℕ} 0 1 = cc in omega arith)
      go (Coming.gone c found e s) = s

  -- whichever of the two it is
  pub accepted_outcome : (m : RemovalFor) → m ≡ removal_for t n d f x → ((number : ℕ) → m ≡ comes.Refused number → ⊥) → (u : List TableEntry) × (remove eq_bytes t n d f x ≡ accepted_with 0 u)
  accepted_outcome m is accepted = go (coming m is)
    where
      go : {o : StepOutcome (List ℕ)} → Coming m o → (u : List TableEntry) × (o ≡ accepted_with 0 u)
      go (Coming.refused i e s) = absurd (accepted i e)
      go (Coming.kept c found e s) = (changed n (deleted f) t, s)
      go (Coming.gone c found e s) = (without n t, s)

  -- ---- in the table's bytes

  module _ (k : ℕ) (b : List ℕ) (h : IsTable k t b) (m : RemovalFor) (is : m ≡ removal_for t n d f x) where
    held : (e : TableEntry) → find n t ≡ some e → HeldAt k n t b (slot_size * position n t)
    unfolding slot_for
    held e found = held_at k n t b h (slot_size * position n t) (sym (ap (λ (o : Option TableEntry). slot_by o k (position n t) (length t)) found))

    -- it can be carried out
    pub can_carry_out : CanCarryOut m b
    unfolding IsSlot
    can_carry_out = go (coming m is)
      where
        go : {o : StepOutcome (List ℕ)} → Coming m o → CanCarryOut m b
        go (Coming.refused i e s) = subst (λ (y : RemovalFor). CanCarryOut y b) (sym e) tt
        go (Coming.kept c found e s) = let at = held c found in subst (λ (y : RemovalFor). CanCarryOut y b) (sym e) (at.fits, (at.entry, at.well_formed, at.slot))
        go (Coming.gone c found e s) = subst (λ (y : RemovalFor). CanCarryOut y b) (sym e) (held c found).fits

    -- and then the answer and the bytes are the remove's
    pub carried_out : (r : Answer) (left : List ℕ) → CarriesOut m f b r left → Results k (remove eq_bytes t n d f x) r left
    carried_out r left done = go (coming m is)
      where
        go : {o : StepOutcome (List ℕ)} → Coming m o → Results k o r left
        go (Coming.refused i e s) =
            let l = subst (λ (y : RemovalFor). CarriesOut y f b r left) e done in
            rw s (record { answer = l.answered; table = l.bytes ∙ h.form })
        go (Coming.kept c found e s) =
            let at = held c found in
            let l = subst (λ (y : RemovalFor). CarriesOut y f b r left) e done at.entry at.well_formed at.slot in
            rw s (record { answer = l.answered; table = l.bytes ∙ at.put (deleted f at.entry) ∙ ap (table_bytes k) (sym (at.change (deleted f))) })
        go (Coming.gone c found e s) =
            let at = held c found in
            let l = subst (λ (y : RemovalFor). CarriesOut y f b r left) e done in
            rw s (record { answer = l.answered; table = l.bytes ∙ at.out ∙ ap (table_bytes k) (sym at.gone) })
