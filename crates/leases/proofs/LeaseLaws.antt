-- Both calls on bytes: each write leaves sound sides, so the same again mends a cut; and what the forward step is. Assumes nothing.
use Prim.Native.Nat.{ℕ, zero, suc}
use mathlib.Core.Bool.{Bool, true, false, cond}
use mathlib.Core.Path.{◌≡◌, refl, sym, ap, subst, ◌∙◌}
use mathlib.Core.Logic.{◌⊎◌, inl, inr}
use mathlib.Core.List.{List, [], ◌∷◌}
use native.Mathlib.Omega.{arith}
use lib.ListN.{length}
use Rattle.base.specs.Bytes.{eq_bytes}
use Rattle.base.specs.Family.{KnownFamily}
use Rattle.base.specs.Order.{Test, AllHold, FirstFault}
use Rattle.base.specs.Refusal.{reverse_full}
use Rattle.base.specs.declared.Answer.{Answer}
use Rattle.base.specs.declared.Answer.TheVariants.{Accepted, Refused}
use Rattle.name.specs.Name.{Proper, canonical}
use Rattle.name.proofs.Theorems.{canonical_form}
use Rattle.slots.specs.Entry.{family_of, address_size}
use Rattle.slots.specs.Form.{TableEntry, table_bytes, Sound}
use Rattle.slots.specs.declared.Family.{Family}
use Rattle.table.specs.Steps.{StepOutcome, add, remove}
use Rattle.table.specs.Calls.{KnownPolicy, argument_tests, Called, Adds, Removes}
use Rattle.table.proofs.DemandLaws.{add_leaves, remove_leaves}
use Rattle.table.proofs.SoundLaws.{SoundEntries}
use Rattle.reverse.specs.Entry.{ReverseEntry, has_place, placed, taken}
use Rattle.reverse.specs.Form.{WellFormed, reverse_bytes, SoundReverse}
use Rattle.reverse.proofs.EntryLaws.{every_placed, every_taken, room_placed, length_taken, single_placed, single_taken}
use Rattle.leases.specs.Plan.{Sides, Plan, written_first, written_all, after, uncut, lease_plan, end_plan}
use Rattle.leases.specs.Calls.{sides_of, sides_tests, lease_tests, end_tests, Leases, Ends}
use Rattle.leases.proofs.HoldLaws.{again_hold}
use Rattle.leases.proofs.PlanCases.{sides, lease_first, end_first}
use Rattle.leases.proofs.PlanLaws.{Leasing, leasing, lease_full, lease_forward, lease_mends, lease_both, refused_stays, Ending, ending, end_forward, end_mends, end_both, end_stays}
use Rattle.leases.proofs.RunLaws.{SoundSides, Mendable, was_planned}

-- the lists of sound sides are sound
pub as_found : {limit places : ℕ} {b c : List ℕ} (t : Sound limit b) (u : SoundReverse places c) → SoundSides limit places (sides_of t u)
as_found t u = record { table = record { each = t.slots.each; room = t.slots.room; distinct = t.distinct }; each = u.slots.each; room = u.slots.room; single = u.single }

-- the same at other lists
pub sound_at : {limit places : ℕ} {s w : Sides} → w ≡ s → SoundSides limit places s → SoundSides limit places w
sound_at {limit} {places} e h = subst (SoundSides limit places) (sym e) h

module _ {limit places : ℕ} {s : Sides} (h : SoundSides limit places s) where
  with_table : (u : List TableEntry) → SoundEntries limit u → SoundSides limit places (sides u s.names)
  with_table u e = record { table = e; each = h.each; room = h.room; single = h.single }

  with_placed : (f : Family) (x n : List ℕ) → WellFormed (record { family = f; address = x; name = n }) → has_place places f x s.names ≡ true → SoundSides limit places (sides s.table (placed f x n s.names))
  with_placed f x n w has =
      record { table = h.table; each = every_placed f x n s.names w h.each; room = room_placed f x n places s.names has h.room; single = single_placed f x n s.names h.single }

  with_taken : (f : Family) (x n : List ℕ) → SoundSides limit places (sides s.table (taken f x n s.names))
  with_taken f x n =
      record { table = h.table; each = every_taken f x n s.names h.each; room = omega (arith, length_taken f x n s.names, h.room); single = single_taken f x n s.names h.single }

-- ---- what is tested is of both sides, and of nothing else that a run changes

module _ (limit places : ℕ) (Known : Type 0) (name dhcid : List ℕ) (family : ℕ) (address : List ℕ) where
  -- the forward step's own tests, where the reverse side is sound
  forward_hold : (b c : List ℕ) → AllHold (sides_tests limit places Known b c name dhcid family address) → AllHold (argument_tests limit Known b name dhcid family address)
  forward_hold b c h = (h.0, (h.1.0.0, h.1.1))

  forward_fault : (b c : List ℕ) (n : ℕ) → SoundReverse places c → FirstFault (sides_tests limit places Known b c name dhcid family address) n → FirstFault (argument_tests limit Known b name dhcid family address) n
  forward_fault b c n u (inl f) = inl f
  forward_fault b c n u (inr (known, inl f)) = inr (known, inl ((λ t. f.0 (t, u)), f.1))
  forward_fault b c n u (inr (known, inr (both, f))) = inr (known, inr (both.0, f))

-- ---- a lease

module _ (limit places : ℕ) (name dhcid : List ℕ) (family : ℕ) (address : List ℕ) (policy : ℕ) where
  module _ (b c : List ℕ) (hold : AllHold (lease_tests limit places b c name dhcid family address policy)) (t : Sound limit b) (u : SoundReverse places c) where
    entry_fits : WellFormed (record { family = family_of family; address = address; name = canonical name })
    entry_fits = let f = canonical_form name hold.1.1.0 in record { sized = hold.1.1.1.1.0; proper = f.proper; lower = f.again }

    add_sound : SoundEntries limit (add limit eq_bytes t.table (canonical name) dhcid (family_of family) address policy).table
    add_sound =
        let f = canonical_form name hold.1.1.0 in
        (add_leaves limit b t (canonical name) dhcid (family_of family) address policy f.proper f.again hold.1.1.1.0 hold.1.1.1.1.0).sound

    lease_sound : (k : ℕ) → SoundSides limit places (after k (lease_plan limit places (canonical name) dhcid (family_of family) address policy (sides_of t u)) (sides_of t u))
    unfolding written_first
    lease_sound k = go (leasing limit places (canonical name) dhcid (family_of family) address policy (sides_of t u)) k
      where
        go : Leasing limit places (canonical name) dhcid (family_of family) address policy (sides_of t u) → (j : ℕ)
            → SoundSides limit places (after j (lease_plan limit places (canonical name) dhcid (family_of family) address policy (sides_of t u)) (sides_of t u))
        go (Leasing.refused m e) j = sound_at (refused_stays limit places (canonical name) dhcid (family_of family) address policy (sides_of t u) m j e) (as_found t u)
        go (Leasing.accepted v w has a h e) zero = as_found t u
        go (Leasing.accepted v w has a h e) (suc zero) =
            let table = subst (λ (o : StepOutcome (List ℕ)). SoundEntries limit o.table) a add_sound in
            sound_at (lease_first limit places (canonical name) dhcid (family_of family) address policy (sides_of t u) v w e) (with_table (as_found t u) w table)
        go (Leasing.accepted v w has a h e) (suc (suc j)) =
            let table = subst (λ (o : StepOutcome (List ℕ)). SoundEntries limit o.table) a add_sound in
            sound_at (lease_both limit places (canonical name) dhcid (family_of family) address policy (sides_of t u) v w e j)
            (with_placed (with_table (as_found t u) w table) (family_of family) address (canonical name) entry_fits has)

  pub lease_mendable : Mendable limit places (λ b c. lease_tests limit places b c name dhcid family address policy) (lease_plan limit places (canonical name) dhcid (family_of family) address policy)
  lease_mendable =
      record {
        sound_table = λ b c h. h.1.0.0;
        sound_reverse = λ b c h. h.1.0.1;
        hold_again = λ b c b' c' h t u. again_hold limit places (KnownFamily family × KnownPolicy policy) name dhcid family address b c b' c' h t u;
        stays_sound = λ b c h t u k. lease_sound b c h t u k;
        mends = λ b c t u. lease_mends limit places (canonical name) dhcid (family_of family) address policy (sides_of t u);
      }

-- ---- an ended lease

module _ (limit places : ℕ) (name dhcid : List ℕ) (family : ℕ) (address : List ℕ) where
  module _ (b c : List ℕ) (hold : AllHold (end_tests limit places b c name dhcid family address)) (t : Sound limit b) (u : SoundReverse places c) where
    remove_sound : SoundEntries limit (remove eq_bytes t.table (canonical name) dhcid (family_of family) address).table
    remove_sound = (remove_leaves limit b t (canonical name) dhcid (family_of family) address).sound

    end_sound : (k : ℕ) → SoundSides limit places (after k (end_plan (canonical name) dhcid (family_of family) address (sides_of t u)) (sides_of t u))
    unfolding written_first
    end_sound k = go (ending (canonical name) dhcid (family_of family) address (sides_of t u)) k
      where
        go : Ending (canonical name) dhcid (family_of family) address (sides_of t u) → (j : ℕ) → SoundSides limit places (after j (end_plan (canonical name) dhcid (family_of family) address (sides_of t u)) (sides_of t u))
        go (Ending.refused m e) j = sound_at (end_stays (canonical name) dhcid (family_of family) address (sides_of t u) m j e) (as_found t u)
        go (Ending.accepted w a e after_it) zero = as_found t u
        go (Ending.accepted w a e after_it) (suc zero) =
            sound_at (end_first (canonical name) dhcid (family_of family) address (sides_of t u) w e) (with_taken (as_found t u) (family_of family) address (canonical name))
        go (Ending.accepted w a e after_it) (suc (suc j)) =
            let table = subst (λ (o : StepOutcome (List ℕ)). SoundEntries limit o.table) a remove_sound in
            sound_at (end_both (canonical name) dhcid (family_of family) address (sides_of t u) w e j)
            (with_taken (with_table (as_found t u) w table) (family_of family) address (canonical name))

  pub end_mendable : Mendable limit places (λ b c. end_tests limit places b c name dhcid family address) (end_plan (canonical name) dhcid (family_of family) address)
  end_mendable =
      record {
        sound_table = λ b c h. h.1.0.0;
        sound_reverse = λ b c h. h.1.0.1;
        hold_again = λ b c b' c' h t u. again_hold limit places (KnownFamily family) name dhcid family address b c b' c' h t u;
        stays_sound = λ b c h t u k. end_sound b c h t u k;
        mends = λ b c t u. end_mends (canonical name) dhcid (family_of family) address (sides_of t u) (record { table = t.distinct; names = u.single });
      }

-- ---- the forward step, where the reverse side is sound

module _ (limit places : ℕ) (b c name dhcid : List ℕ) (family : ℕ) (address : List ℕ) (r : Answer) (b' c' : List ℕ) where
  -- a lease is refused with 46, or answers and leaves of the table what an add does
  pub lease_adds : (policy : ℕ) → Leases limit places b c name dhcid family address policy r b' c' → (u : SoundReverse places c)
      → (AllHold (lease_tests limit places b c name dhcid family address policy) × (has_place places (family_of family) address u.names ≡ false) × (r ≡ Refused reverse_full 0))
      ⊎ Adds limit b name dhcid family address policy r b'
  unfolding Leases Adds written_all
  lease_adds policy (inl f) u =
      inr (inl (record { number = f.number; fault = forward_fault limit places (KnownFamily family × KnownPolicy policy) name dhcid family address b c f.number u f.fault; answer = f.answer; unchanged = f.table }))
  lease_adds policy (inr g) u = go (has_place places (family_of family) address u.names) refl
    where
      w : (r ≡ (lease_plan limit places (canonical name) dhcid (family_of family) address policy (sides_of g.sound u)).answer)
          × (b' ≡ table_bytes limit (uncut (lease_plan limit places (canonical name) dhcid (family_of family) address policy (sides_of g.sound u)) (sides_of g.sound u)).table)
          × (c' ≡ reverse_bytes places (uncut (lease_plan limit places (canonical name) dhcid (family_of family) address policy (sides_of g.sound u)) (sides_of g.sound u)).names)
      w = was_planned limit places (lease_tests limit places b c name dhcid family address policy) b c _ r b' c' (inr g) g.all_hold g.sound u

      go : (h : Bool) → has_place places (family_of family) address u.names ≡ h
          → (AllHold (lease_tests limit places b c name dhcid family address policy) × (has_place places (family_of family) address u.names ≡ false) × (r ≡ Refused reverse_full 0))
          ⊎ Called limit (argument_tests limit (KnownFamily family × KnownPolicy policy) b name dhcid family address) b (λ t. add limit eq_bytes t (canonical name) dhcid (family_of family) address policy) r b'
      go true has =
          let f = lease_forward limit places (canonical name) dhcid (family_of family) address policy (sides_of g.sound u) has in
          inr (inr (record {
            all_hold = forward_hold limit places (KnownFamily family × KnownPolicy policy) name dhcid family address b c g.all_hold;
            sound = g.sound;
            answer = w.0 ∙ f.0;
            table = w.1 ∙ ap (table_bytes limit) f.1;
          }))
      go false has =
          inl (g.all_hold, has, w.0 ∙ ap (λ (p : Plan). p.answer) (lease_full limit places (canonical name) dhcid (family_of family) address policy (sides_of g.sound u) has))

  pub end_removes : Ends limit places b c name dhcid family address r b' c' → SoundReverse places c → Removes limit b name dhcid family address r b'
  unfolding Ends Removes
  end_removes (inl f) u =
      inl (record { number = f.number; fault = forward_fault limit places (KnownFamily family) name dhcid family address b c f.number u f.fault; answer = f.answer; unchanged = f.table })
  end_removes (inr g) u =
      let f = end_forward (canonical name) dhcid (family_of family) address (sides_of g.sound g.sound_reverse) in
      inr (record {
        all_hold = forward_hold limit places (KnownFamily family) name dhcid family address b c g.all_hold;
        sound = g.sound;
        answer = g.answer ∙ f.0;
        table = g.table ∙ ap (table_bytes limit) f.1;
      })
