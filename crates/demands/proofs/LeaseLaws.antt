-- Demand 1, of the PTR name, the lease and its end; and what is stored after a cut run and after the same again. Assumes nothing.
use Prim.Native.Nat.{ℕ, zero, suc, ◌<◌}
use mathlib.Core.Bool.{Bool, true, false, ◌||◌, true≢false, false≢true}
use mathlib.Core.Path.{◌≡◌, refl, sym, ap, subst, ◌∙◌}
use mathlib.Core.Logic.{inl, inr}
use mathlib.Core.List.{List, [], ◌∷◌, ◌++◌}
use native.Mathlib.Omega.{arith}
use lib.Dec.{ltb}
use lib.ListN.{length}
use borrow.Author.Tests.{ltb-true, lt-ltb}
use Rattle.base.specs.Answer.{Tells}
use Rattle.base.specs.Bytes.{eq_bytes, overlay}
use Rattle.base.specs.Order.{Test, AllHold}
use Rattle.base.specs.declared.Answer.{Answer}
use Rattle.base.specs.declared.Answer.TheVariants.{Refused}
use Rattle.base.proofs.Bytes.{overlay_to_end}
use Rattle.base.proofs.OrderLaws.{fault_before_lem}
use Rattle.base.proofs.Tests.{by_ltb}
use Rattle.name.specs.Name.{canonical}
use Rattle.slots.specs.Entry.{family_of}
use Rattle.slots.specs.Sizes.{most_names}
use Rattle.slots.specs.declared.Family.{Family}
use Rattle.table.proofs.CaseLaws.{add_case, remove_case}
use Rattle.ptr.specs.Ptr.{ptr_name, ptr_tests, PtrWritten}
use Rattle.reverse.specs.Entry.{ReverseEntry, stands_at, has_place}
use Rattle.reverse.specs.Form.{SoundReverse}
use Rattle.reverse.specs.Sizes.{most_addresses}
use Rattle.reverse.proofs.Theorems.{one_sound_reverse}
use Rattle.leases.specs.Plan.{Plan, lease_plan}
use Rattle.leases.specs.Calls as leases
use Rattle.leases.specs.Calls.{sides_of, Leases, Ends}
use Rattle.leases.specs.Cuts.{LeaseCut, SecondLease, EndCut, SecondEnd}
use Rattle.leases.proofs.PlanLaws.{lease_forward, lease_full, end_forward}
use Rattle.leases.proofs.AgainLaws.{lease_none_stored, lease_one_stored, lease_both_stored, end_none_stored, end_one_stored, end_both_stored}
use Rattle.leases.proofs.Theorems.{again_lease, again_end}
use Rattle.demands.specs.Faults.{OfReverse, add_step_tests, remove_step_tests, place_tests, lease_tests, end_tests}
use Rattle.demands.specs.Told.{LeaseCutOff, EndCutOff, LeaseMended, EndMended}
use Rattle.demands.proofs.AnswerLaws.{InRow, after}
use Rattle.demands.proofs.TableLaws.{stepped, removed}

-- ---- the PTR name

pub ptr_in_row : (family : ℕ) (x out : List ℕ) (a : Answer) (left : List ℕ) → PtrWritten family x out a left → InRow a (ptr_tests family x out)
ptr_in_row family x out a left (PtrWritten.faulty {n = n} f e l) = InRow.failed n e f
ptr_in_row family x out a left (PtrWritten.written h e l) = InRow.passed (length (ptr_name (family_of family) x)) e h

-- ---- refusal 46

module _ (f : Family) (x : List ℕ) (rs : List ReverseEntry) where
  by_stands : (b : Bool) → stands_at f x rs ≡ b → has_place most_addresses f x rs ≡ true → length rs ≡ most_addresses → stands_at f x rs ≡ true
  unfolding has_place
  by_stands true e has full = e
  by_stands false e has full =
      let room : ltb (length rs) most_addresses ≡ true = sym (ap (λ (y : Bool). y || ltb (length rs) most_addresses) e) ∙ has in
      absurd (omega (arith, full, ltb-true (length rs) most_addresses room))

  -- where there is a place, a full side has the address
  place_there : has_place most_addresses f x rs ≡ true → length rs ≡ most_addresses → stands_at f x rs ≡ true
  place_there has full = by_stands (stands_at f x rs) refl has full

  -- and where there is none, it is full and does not
  place_none : has_place most_addresses f x rs ≡ false → stands_at f x rs ≡ true → ⊥
  unfolding has_place
  place_none has stands = true≢false (sym (ap (λ (y : Bool). y || ltb (length rs) most_addresses) stands) ∙ has)

  full_then : has_place most_addresses f x rs ≡ false → stands_at f x rs ≡ false → length rs < most_addresses → ⊥
  unfolding has_place
  full_then has stands room = true≢false (sym (lt-ltb (length rs) most_addresses room) ∙ sym (ap (λ (y : Bool). y || ltb (length rs) most_addresses) stands) ∙ has)

-- ---- the calls

module _ (b c name dhcid : List ℕ) (family : ℕ) (address : List ℕ) where
  module _ (policy : ℕ) (a : Answer) (b' c' : List ℕ) where
    abbrev Placed : List ReverseEntry → Type 0
    Placed rs = length rs ≡ most_addresses → stands_at (family_of family) address rs ≡ true

    pub lease_in_row : Leases most_names most_addresses b c name dhcid family address policy a b' c' → InRow a (lease_tests b c name dhcid family address policy)
    unfolding Leases
    lease_in_row (inl f) =
        InRow.failed f.number f.answer
        (fault_before_lem (leases.lease_tests most_names most_addresses b c name dhcid family address policy) (place_tests c family address ++ add_step_tests b name dhcid policy) f.number f.fault)
    lease_in_row (inr g) =
        after (leases.lease_tests most_names most_addresses b c name dhcid family address policy) (place_tests c family address ++ add_step_tests b name dhcid policy) g.all_hold
        (by_place (has_place most_addresses (family_of family) address g.sound_reverse.names) refl)
      where
        by_place : (h : Bool) → has_place most_addresses (family_of family) address g.sound_reverse.names ≡ h → InRow a (place_tests c family address ++ add_step_tests b name dhcid policy)
        by_place true has =
            let f = lease_forward most_names most_addresses (canonical name) dhcid (family_of family) address policy (sides_of g.sound g.sound_reverse) has in
            after (place_tests c family address) (add_step_tests b name dhcid policy)
            ((λ u. subst Placed (one_sound_reverse most_addresses c g.sound_reverse u) (place_there (family_of family) address g.sound_reverse.names has)), tt)
            (stepped b name dhcid family address policy a b' g.sound (g.answer ∙ f.0) (add_case eq_bytes g.sound.table (canonical name) dhcid (family_of family) address most_names policy))
        by_place false has =
            InRow.failed 46 (g.answer ∙ ap (λ (p : Plan). p.answer) (lease_full most_names most_addresses (canonical name) dhcid (family_of family) address policy (sides_of g.sound g.sound_reverse) has))
            (inl ((λ test. not_placed (test g.sound_reverse)), refl))
          where
            not_placed : Placed g.sound_reverse.names → ⊥
            not_placed test = go (stands_at (family_of family) address g.sound_reverse.names) refl
              where
                go : (s : Bool) → stands_at (family_of family) address g.sound_reverse.names ≡ s → ⊥
                go true e = place_none (family_of family) address g.sound_reverse.names has e
                go false e =
                    by_ltb (length g.sound_reverse.names) most_addresses (λ room. full_then (family_of family) address g.sound_reverse.names has e room)
                    (λ full. false≢true (sym e ∙ test (omega (arith, full, g.sound_reverse.slots.room))))

  module _ (a : Answer) (b' c' : List ℕ) where
    pub end_in_row : Ends most_names most_addresses b c name dhcid family address a b' c' → InRow a (end_tests b c name dhcid family address)
    unfolding Ends
    end_in_row (inl f) =
        InRow.failed f.number f.answer (fault_before_lem (leases.end_tests most_names most_addresses b c name dhcid family address) (remove_step_tests b name dhcid family address) f.number f.fault)
    end_in_row (inr g) =
        let f = end_forward (canonical name) dhcid (family_of family) address (sides_of g.sound g.sound_reverse) in
        after (leases.end_tests most_names most_addresses b c name dhcid family address) (remove_step_tests b name dhcid family address) g.all_hold
        (removed b name dhcid family address a b' g.sound (g.answer ∙ f.0) (remove_case eq_bytes g.sound.table (canonical name) dhcid (family_of family) address))

-- ---- a cut run, and the same again

-- bytes of one length, written over others
pub all_over : (to from : List ℕ) → length to ≡ length from → overlay to 0 from ≡ from
all_over to from same = overlay_to_end to 0 from (omega (arith, same))

module _ (h g name dhcid : List ℕ) (family : ℕ) (address : List ℕ) (policy r : ℕ) (b c : List ℕ) (told : Tells r (λ a. Leases most_names most_addresses h g name dhcid family address policy a b c)) where
  pub lease_cut_none : LeaseCutOff h g name dhcid family address policy 0 h g
  unfolding Tells
  lease_cut_none =
      record { answer = told.0; table = b; reverse = c; uncut = told.3; cut = lease_none_stored most_names most_addresses h g name dhcid family address policy told.0 b c told.3 }

  pub lease_cut_one : LeaseCutOff h g name dhcid family address policy 1 b g
  unfolding Tells
  lease_cut_one =
      record { answer = told.0; table = b; reverse = c; uncut = told.3; cut = lease_one_stored most_names most_addresses h g name dhcid family address policy told.0 b c told.3 }

  pub lease_cut_both : (k : ℕ) → LeaseCutOff h g name dhcid family address policy (suc (suc k)) b c
  unfolding Tells
  lease_cut_both k =
      record { answer = told.0; table = b; reverse = c; uncut = told.3; cut = lease_both_stored most_names most_addresses h g name dhcid family address policy told.0 b c told.3 k }

pub lease_mended : (h g name dhcid : List ℕ) (family : ℕ) (address : List ℕ) (policy k : ℕ) (h₁ g₁ : List ℕ) → LeaseCutOff h g name dhcid family address policy k h₁ g₁ → (r : ℕ) (b c : List ℕ)
    → Tells r (λ a. Leases most_names most_addresses h₁ g₁ name dhcid family address policy a b c) → LeaseMended h g name dhcid family address policy k r b c
unfolding Tells
lease_mended h g name dhcid family address policy k h₁ g₁ o r b c told =
    let a = again_lease most_names most_addresses h g name dhcid family address policy o.answer o.table o.reverse o.uncut k h₁ g₁ o.cut told.0 b c told.3 in
    record {
      answer = o.answer;
      uncut = subst (λ (y : List ℕ). Leases most_names most_addresses h g name dhcid family address policy o.answer b y) (sym a.1)
          (subst (λ (y : List ℕ). Leases most_names most_addresses h g name dhcid family address policy o.answer y o.reverse) (sym a.0) o.uncut);
      second = (told.0, told.1, told.2, a.2);
    }

module _ (h g name dhcid : List ℕ) (family : ℕ) (address : List ℕ) (r : ℕ) (b c : List ℕ) (told : Tells r (λ a. Ends most_names most_addresses h g name dhcid family address a b c)) where
  pub end_cut_none : EndCutOff h g name dhcid family address 0 h g
  unfolding Tells
  end_cut_none = record { answer = told.0; table = b; reverse = c; uncut = told.3; cut = end_none_stored most_names most_addresses h g name dhcid family address told.0 b c told.3 }

  pub end_cut_one : EndCutOff h g name dhcid family address 1 h c
  unfolding Tells
  end_cut_one = record { answer = told.0; table = b; reverse = c; uncut = told.3; cut = end_one_stored most_names most_addresses h g name dhcid family address told.0 b c told.3 }

  pub end_cut_both : (k : ℕ) → EndCutOff h g name dhcid family address (suc (suc k)) b c
  unfolding Tells
  end_cut_both k = record { answer = told.0; table = b; reverse = c; uncut = told.3; cut = end_both_stored most_names most_addresses h g name dhcid family address told.0 b c told.3 k }

pub end_mended : (h g name dhcid : List ℕ) (family : ℕ) (address : List ℕ) (k : ℕ) (h₁ g₁ : List ℕ) → EndCutOff h g name dhcid family address k h₁ g₁ → (r : ℕ) (b c : List ℕ)
    → Tells r (λ a. Ends most_names most_addresses h₁ g₁ name dhcid family address a b c) → EndMended h g name dhcid family address k r b c
unfolding Tells
end_mended h g name dhcid family address k h₁ g₁ o r b c told =
    let a = again_end most_names most_addresses h g name dhcid family address o.answer o.table o.reverse o.uncut k h₁ g₁ o.cut told.0 b c told.3 in
    record {
      answer = o.answer;
      uncut = subst (λ (y : List ℕ). Ends most_names most_addresses h g name dhcid family address o.answer b y) (sym a.1)
          (subst (λ (y : List ℕ). Ends most_names most_addresses h g name dhcid family address o.answer y o.reverse) (sym a.0) o.uncut);
      second = (told.0, told.1, told.2, subst (λ (y : List ℕ). SecondEnd most_names (canonical name) y k o.answer told.0) (sym a.0) a.2);
    }
