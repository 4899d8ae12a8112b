-- A lease and an ended lease as plans on both lists, cut anywhere and run again. Assumes nothing.
use Prim.Native.Nat.{ℕ, zero, suc, ◌≤◌}
use mathlib.Core.Bool.{Bool, true, false, cond}
use mathlib.Core.Path.{◌≡◌, refl, sym, ap, subst, ◌∙◌}
use mathlib.Core.List.{List, [], ◌∷◌}
use mathlib.Core.Option.{none, some}
use native.Mathlib.Omega.{arith}
use lib.ListN.{length}
use Rattle.base.specs.Bytes.{eq_bytes}
use Rattle.base.specs.Refusal.{reverse_full}
use Rattle.base.specs.declared.Answer.{Answer}
use Rattle.base.specs.declared.Answer.TheVariants.{Accepted, Refused}
use Rattle.base.proofs.AnswerLaws.{accepted≢refused}
use Rattle.slots.specs.Entry.{address_of, Distinct}
use Rattle.slots.specs.Entry.{names as names_of}
use Rattle.slots.specs.Form.{TableEntry}
use Rattle.slots.specs.declared.Family.{Family}
use Rattle.table.specs.Steps.{StepOutcome, find, add, remove, accepted_with, refused_with}
use Rattle.reverse.specs.Entry.{ReverseEntry, behind, has_place, placed, taken, others_at, Single}
use Rattle.reverse.proofs.EntryLaws.{placed_again, placed_place, placed_behind, placed_others, single_placed, room_placed, taken_again, taken_behind, taken_kept, taken_others, single_taken, length_taken}
use Rattle.leases.specs.Plan.{Sides, Write, Plan, written_first, written_all, after, uncut, refused_plan, lease_by, end_by, lease_plan, end_plan}
use Rattle.leases.proofs.AddLaws.{Holds, holds_address, add_holder, Added, added}
use Rattle.leases.proofs.RemovalLaws.{Afterwards, Removed, removal}
use Rattle.leases.proofs.CutLaws.{OneOf, Two, one_of, both_done, Mends, mended}
use Rattle.leases.proofs.PlanCases.{sides, lease_by_lem, lease_first, end_by_lem, end_first}

-- ==== a lease

module _ (limit places : ℕ) (n d : List ℕ) (f : Family) (x : List ℕ) (policy : ℕ) where
  -- refused with no write; or accepted: the table forward, in which the client holds the name with that address, and then the reverse side
  pub data Leasing (s : Sides) : Type 0 where
    refused : (m : ℕ) → lease_plan limit places n d f x policy s ≡ refused_plan m → Leasing s
    accepted : (v : ℕ) (u : List TableEntry) → has_place places f x s.names ≡ true → add limit eq_bytes s.table n d f x policy ≡ accepted_with v u → Holds u n d f x
        → lease_plan limit places n d f x policy s ≡ lease_by (accepted_with v u) (placed f x n s.names) → Leasing s

  pub lease_full : (s : Sides) → has_place places f x s.names ≡ false → lease_plan limit places n d f x policy s ≡ refused_plan reverse_full
  unfolding lease_plan
  lease_full s has = rw has

  -- the forward step is add's, where the address has a place
  pub lease_forward : (s : Sides) → has_place places f x s.names ≡ true
      → ((lease_plan limit places n d f x policy s).answer ≡ (add limit eq_bytes s.table n d f x policy).answer) × ((uncut (lease_plan limit places n d f x policy s) s).table ≡ (add limit eq_bytes s.table n d f x policy).table)
  unfolding written_all
  lease_forward s has = go (added limit s.table n d f x policy)
    where
      go : Added s.table n d f x (add limit eq_bytes s.table n d f x policy)
          → ((lease_plan limit places n d f x policy s).answer ≡ (add limit eq_bytes s.table n d f x policy).answer) × ((uncut (lease_plan limit places n d f x policy s) s).table ≡ (add limit eq_bytes s.table n d f x policy).table)
      go (Added.refused m e) =
          let p = lease_by_lem limit places n d f x policy s (refused_with m s.table) has e in
          (ap (λ (q : Plan). q.answer) p ∙ sym (ap (λ (o : StepOutcome (List ℕ)). o.answer) e), ap (λ (q : Plan). (uncut q s).table) p ∙ sym (ap (λ (o : StepOutcome (List ℕ)). o.table) e))
      go (Added.accepted v u e h) =
          let p = lease_by_lem limit places n d f x policy s (accepted_with v u) has e in
          (ap (λ (q : Plan). q.answer) p ∙ sym (ap (λ (o : StepOutcome (List ℕ)). o.answer) e), ap (λ (q : Plan). (uncut q s).table) p ∙ sym (ap (λ (o : StepOutcome (List ℕ)). o.table) e))

  pub leasing : (s : Sides) → Leasing s
  leasing s = by_place (has_place places f x s.names) refl
    where
      by_add : has_place places f x s.names ≡ true → Added s.table n d f x (add limit eq_bytes s.table n d f x policy) → Leasing s
      by_add has (Added.refused m e) = Leasing.refused m (lease_by_lem limit places n d f x policy s (refused_with m s.table) has e)
      by_add has (Added.accepted v u e h) = Leasing.accepted v u has e h (lease_by_lem limit places n d f x policy s (accepted_with v u) has e)

      by_place : (b : Bool) → has_place places f x s.names ≡ b → Leasing s
      by_place true has = by_add has (added limit s.table n d f x policy)
      by_place false has = Leasing.refused reverse_full (lease_full s has)

  pub lease_two : (s : Sides) → Leasing s → Two (lease_plan limit places n d f x policy s)
  lease_two s (Leasing.refused m e) = Two.none (ap (λ (p : Plan). p.writes) e)
  lease_two s (Leasing.accepted v u has a h e) = Two.two _ _ (ap (λ (p : Plan). p.writes) e)

  -- the same again where the client holds the name with that address: 1, and the table stays
  held_again : (u : List TableEntry) (rs : List ReverseEntry) → has_place places f x rs ≡ true → Holds u n d f x
      → lease_plan limit places n d f x policy (sides u rs) ≡ lease_by (accepted_with 1 u) (placed f x n rs)
  held_again u rs has h = lease_by_lem limit places n d f x policy (sides u rs) (accepted_with 1 u) has (add_holder limit u n d f x policy h)

  -- the three states of an accepted lease
  module _ (s : Sides) (v : ℕ) (u : List TableEntry) (e : lease_plan limit places n d f x policy s ≡ lease_by (accepted_with v u) (placed f x n s.names)) where
    pub lease_all : uncut (lease_plan limit places n d f x policy s) s ≡ sides u (placed f x n s.names)
    unfolding written_all
    lease_all = ap (λ (p : Plan). uncut p s) e

    pub lease_both : (k : ℕ) → after (suc (suc k)) (lease_plan limit places n d f x policy s) s ≡ sides u (placed f x n s.names)
    unfolding written_all
    lease_both k = ap (λ (p : Plan). after (suc (suc k)) p s) e ∙ both_done k _ _ s

  lease_mends_by : (s : Sides) → Leasing s → Mends (lease_plan limit places n d f x policy) s
  unfolding written_first written_all
  lease_mends_by s (Leasing.refused m e) =
      let one : after 1 (lease_plan limit places n d f x policy s) s ≡ s = ap (λ (p : Plan). after 1 p s) e in
      let all : uncut (lease_plan limit places n d f x policy s) s ≡ s = ap (λ (p : Plan). uncut p s) e in
      record {
        size = λ w. lease_two w (leasing w);
        between_whole = ap (λ (w : Sides). uncut (lease_plan limit places n d f x policy w) w) one;
        between_cut = ap (λ (w : Sides). after 1 (lease_plan limit places n d f x policy w) w) one;
        done_whole = ap (λ (w : Sides). uncut (lease_plan limit places n d f x policy w) w) all;
        done_cut = ap (λ (w : Sides). after 1 (lease_plan limit places n d f x policy w) w) all ∙ one ∙ sym all;
      }
  lease_mends_by s (Leasing.accepted v u has a h e) =
      let rs = s.names in
      let one = lease_first limit places n d f x policy s v u e in
      let all = lease_all s v u e in
      let again = held_again u rs has h in
      let still = held_again u (placed f x n rs) (placed_place f x n places rs) h in
      record {
        size = λ w. lease_two w (leasing w);
        between_whole = ap (λ (w : Sides). uncut (lease_plan limit places n d f x policy w) w) one ∙ lease_all (sides u rs) 1 u again ∙ sym all;
        between_cut = ap (λ (w : Sides). after 1 (lease_plan limit places n d f x policy w) w) one ∙ lease_first limit places n d f x policy (sides u rs) 1 u again ∙ sym one;
        done_whole = ap (λ (w : Sides). uncut (lease_plan limit places n d f x policy w) w) all ∙ lease_all (sides u (placed f x n rs)) 1 u still ∙ ap (sides u) (placed_again f x n rs) ∙ sym all;
        done_cut = ap (λ (w : Sides). after 1 (lease_plan limit places n d f x policy w) w) all ∙ lease_first limit places n d f x policy (sides u (placed f x n rs)) 1 u still ∙ sym all;
      }

  pub lease_mends : (s : Sides) → Mends (lease_plan limit places n d f x policy) s
  lease_mends s = lease_mends_by s (leasing s)

  -- a lease cut after any number of its writes, and then run again, ends as the uncut one; sound or not
  pub lease_mended : (s : Sides) (k : ℕ)
      → uncut (lease_plan limit places n d f x policy (after k (lease_plan limit places n d f x policy s) s)) (after k (lease_plan limit places n d f x policy s) s) ≡ uncut (lease_plan limit places n d f x policy s) s
  lease_mended s k =
      mended (lease_plan limit places n d f x policy) s (lease_mends s) (after k (lease_plan limit places n d f x policy s) s)
      (one_of (lease_plan limit places n d f x policy s) s (lease_two s (leasing s)) k)

  pub refused_stays : (s : Sides) (m : ℕ) (k : ℕ) → lease_plan limit places n d f x policy s ≡ refused_plan m → after k (lease_plan limit places n d f x policy s) s ≡ s
  unfolding written_first
  refused_stays s m zero e = refl
  refused_stays s m (suc k) e = ap (λ (p : Plan). after (suc k) p s) e

  -- what the second run answers: of a refused one the same,
  pub second_lease_refused : (s : Sides) (m o : ℕ) → (lease_plan limit places n d f x policy s).answer ≡ Refused m o → (k : ℕ)
      → (lease_plan limit places n d f x policy (after k (lease_plan limit places n d f x policy s) s)).answer ≡ Refused m o
  second_lease_refused s m o a k = go (leasing s)
    where
      go : Leasing s → (lease_plan limit places n d f x policy (after k (lease_plan limit places n d f x policy s) s)).answer ≡ Refused m o
      go (Leasing.refused j e) = ap (λ (w : Sides). (lease_plan limit places n d f x policy w).answer) (refused_stays s j k e) ∙ a
      go (Leasing.accepted v u has b h e) = absurd (accepted≢refused (ap (λ (p : Plan). p.answer) (sym e) ∙ a))

  -- of an accepted one 1, once its first write is done
  pub second_lease_held : (s : Sides) (v : ℕ) → (lease_plan limit places n d f x policy s).answer ≡ Accepted v → (k : ℕ)
      → (lease_plan limit places n d f x policy (after (suc k) (lease_plan limit places n d f x policy s) s)).answer ≡ Accepted 1
  second_lease_held s v a k = go (leasing s) k
    where
      go : Leasing s → (j : ℕ) → (lease_plan limit places n d f x policy (after (suc j) (lease_plan limit places n d f x policy s) s)).answer ≡ Accepted 1
      go (Leasing.refused m e) j = absurd (accepted≢refused (sym a ∙ ap (λ (p : Plan). p.answer) e))
      go (Leasing.accepted w u has b h e) zero =
          ap (λ (y : Sides). (lease_plan limit places n d f x policy y).answer) (lease_first limit places n d f x policy s w u e) ∙ ap (λ (p : Plan). p.answer) (held_again u s.names has h)
      go (Leasing.accepted w u has b h e) (suc j) =
          ap (λ (y : Sides). (lease_plan limit places n d f x policy y).answer) (lease_both s w u e j)
          ∙ ap (λ (p : Plan). p.answer) (held_again u (placed f x n s.names) (placed_place f x n places s.names) h)

  -- what stands when one step of an accepted lease is done: add's table and the old reverse side; and in every state from then on the name has the address
  pub lease_between : (s : Sides) (v : ℕ) → (lease_plan limit places n d f x policy s).answer ≡ Accepted v
      → after 1 (lease_plan limit places n d f x policy s) s ≡ sides (add limit eq_bytes s.table n d f x policy).table s.names
  lease_between s v a = go (leasing s)
    where
      go : Leasing s → after 1 (lease_plan limit places n d f x policy s) s ≡ sides (add limit eq_bytes s.table n d f x policy).table s.names
      go (Leasing.refused m e) = absurd (accepted≢refused (sym a ∙ ap (λ (p : Plan). p.answer) e))
      go (Leasing.accepted w u has b h e) = lease_first limit places n d f x policy s w u e ∙ ap (λ (o : StepOutcome (List ℕ)). sides o.table s.names) (sym b)

  pub lease_has_address : (s : Sides) (v k : ℕ) → (lease_plan limit places n d f x policy s).answer ≡ Accepted v
      → (c : TableEntry) × (find n (after (suc k) (lease_plan limit places n d f x policy s) s).table ≡ some c) × (address_of f c ≡ some x)
  lease_has_address s v k a = go (leasing s) k
    where
      go : Leasing s → (j : ℕ) → (c : TableEntry) × (find n (after (suc j) (lease_plan limit places n d f x policy s) s).table ≡ some c) × (address_of f c ≡ some x)
      go (Leasing.refused m e) j = absurd (accepted≢refused (sym a ∙ ap (λ (p : Plan). p.answer) e))
      go (Leasing.accepted w u has b h e) zero = (h.entry, ap (λ (y : Sides). find n y.table) (lease_first limit places n d f x policy s w u e) ∙ h.found, holds_address u n d f x h)
      go (Leasing.accepted w u has b h e) (suc j) = (h.entry, ap (λ (y : Sides). find n y.table) (lease_both s w u e j) ∙ h.found, holds_address u n d f x h)

  -- and once both steps are done the name is behind the address
  pub lease_behind : (s : Sides) (v k : ℕ) → (lease_plan limit places n d f x policy s).answer ≡ Accepted v → behind f x (after (suc (suc k)) (lease_plan limit places n d f x policy s) s).names ≡ some n
  lease_behind s v k a = go (leasing s)
    where
      go : Leasing s → behind f x (after (suc (suc k)) (lease_plan limit places n d f x policy s) s).names ≡ some n
      go (Leasing.refused m e) = absurd (accepted≢refused (sym a ∙ ap (λ (p : Plan). p.answer) e))
      go (Leasing.accepted w u has b h e) = ap (λ (y : Sides). behind f x y.names) (lease_both s w u e k) ∙ placed_behind f x n s.names

-- ==== an ended lease

-- no name stands twice in the table, and no address in the reverse side: that, of soundness, which the second run tests before it does anything
pub record Apart (s : Sides) : Type 0 where
  pub table : Distinct (names_of s.table)
  pub names : Single s.names

module _ (n d : List ℕ) (f : Family) (x : List ℕ) where
  -- refused with no write; or accepted: the reverse side first, then the table, without the address or without the name
  pub data Ending (s : Sides) : Type 0 where
    refused : (m : ℕ) → end_plan n d f x s ≡ refused_plan m → Ending s
    accepted : (u : List TableEntry) → remove eq_bytes s.table n d f x ≡ accepted_with 0 u → end_plan n d f x s ≡ end_by (accepted_with 0 u) (taken f x n s.names)
        → (Distinct (names_of s.table) → Afterwards u n d f x) → Ending s

  -- the forward step is remove's
  pub end_forward : (s : Sides) → ((end_plan n d f x s).answer ≡ (remove eq_bytes s.table n d f x).answer) × ((uncut (end_plan n d f x s) s).table ≡ (remove eq_bytes s.table n d f x).table)
  unfolding written_all
  end_forward s = go (removal s.table n d f x)
    where
      go : Removed s.table n d f x (remove eq_bytes s.table n d f x)
          → ((end_plan n d f x s).answer ≡ (remove eq_bytes s.table n d f x).answer) × ((uncut (end_plan n d f x s) s).table ≡ (remove eq_bytes s.table n d f x).table)
      go (Removed.refused m e) =
          let p = end_by_lem n d f x s (refused_with m s.table) e in
          (ap (λ (q : Plan). q.answer) p ∙ sym (ap (λ (o : StepOutcome (List ℕ)). o.answer) e), ap (λ (q : Plan). (uncut q s).table) p ∙ sym (ap (λ (o : StepOutcome (List ℕ)). o.table) e))
      go (Removed.accepted u e later) =
          let p = end_by_lem n d f x s (accepted_with 0 u) e in
          (ap (λ (q : Plan). q.answer) p ∙ sym (ap (λ (o : StepOutcome (List ℕ)). o.answer) e), ap (λ (q : Plan). (uncut q s).table) p ∙ sym (ap (λ (o : StepOutcome (List ℕ)). o.table) e))

  pub ending : (s : Sides) → Ending s
  ending s = by_remove (removal s.table n d f x)
    where
      by_remove : Removed s.table n d f x (remove eq_bytes s.table n d f x) → Ending s
      by_remove (Removed.refused m e) = Ending.refused m (end_by_lem n d f x s (refused_with m s.table) e)
      by_remove (Removed.accepted u e later) = Ending.accepted u e (end_by_lem n d f x s (accepted_with 0 u) e) later

  pub end_two : (s : Sides) → Ending s → Two (end_plan n d f x s)
  end_two s (Ending.refused m e) = Two.none (ap (λ (p : Plan). p.writes) e)
  end_two s (Ending.accepted u a e after_it) = Two.two _ _ (ap (λ (p : Plan). p.writes) e)

  module _ (s : Sides) (u : List TableEntry) (e : end_plan n d f x s ≡ end_by (accepted_with 0 u) (taken f x n s.names)) where
    pub end_all : uncut (end_plan n d f x s) s ≡ sides u (taken f x n s.names)
    unfolding written_all
    end_all = ap (λ (p : Plan). uncut p s) e

    pub end_both : (k : ℕ) → after (suc (suc k)) (end_plan n d f x s) s ≡ sides u (taken f x n s.names)
    unfolding written_all
    end_both k = ap (λ (p : Plan). after (suc (suc k)) p s) e ∙ both_done k _ _ s

  -- a refused one leaves everything, cut or not
  pub end_stays : (s : Sides) (m : ℕ) (k : ℕ) → end_plan n d f x s ≡ refused_plan m → after k (end_plan n d f x s) s ≡ s
  unfolding written_first
  end_stays s m zero e = refl
  end_stays s m (suc k) e = ap (λ (p : Plan). after (suc k) p s) e

  pub end_stays_whole : (s : Sides) (m : ℕ) → end_plan n d f x s ≡ refused_plan m → uncut (end_plan n d f x s) s ≡ s
  unfolding written_all
  end_stays_whole s m e = ap (λ (p : Plan). uncut p s) e

  -- the same again, after both writes: 33 or 34
  end_again : (u : List TableEntry) (rs : List ReverseEntry) → Afterwards u n d f x → (m : ℕ) × (end_plan n d f x (sides u rs) ≡ refused_plan m)
  end_again u rs (Afterwards.kept c found r) = (34, end_by_lem n d f x (sides u rs) (refused_with 34 u) r)
  end_again u rs (Afterwards.gone found r) = (33, end_by_lem n d f x (sides u rs) (refused_with 33 u) r)

  end_mends_by : (s : Sides) → Apart s → Ending s → Mends (end_plan n d f x) s
  end_mends_by s apart (Ending.refused m e) =
      let one : after 1 (end_plan n d f x s) s ≡ s = end_stays s m 1 e in
      let all : uncut (end_plan n d f x s) s ≡ s = end_stays_whole s m e in
      record {
        size = λ w. end_two w (ending w);
        between_whole = ap (λ (w : Sides). uncut (end_plan n d f x w) w) one;
        between_cut = ap (λ (w : Sides). after 1 (end_plan n d f x w) w) one;
        done_whole = ap (λ (w : Sides). uncut (end_plan n d f x w) w) all;
        done_cut = ap (λ (w : Sides). after 1 (end_plan n d f x w) w) all ∙ one ∙ sym all;
      }
  end_mends_by s apart (Ending.accepted u a e after_it) =
      let t = s.table in
      let rs = s.names in
      let one = end_first n d f x s u e in
      let all = end_all s u e in
      let twice = taken_again f x n rs apart.names in
      let again = end_by_lem n d f x (sides t (taken f x n rs)) (accepted_with 0 u) a in
      let still = end_again u (taken f x n rs) (after_it apart.table) in
      record {
        size = λ w. end_two w (ending w);
        between_whole = ap (λ (w : Sides). uncut (end_plan n d f x w) w) one ∙ end_all (sides t (taken f x n rs)) u again ∙ ap (sides u) twice ∙ sym all;
        between_cut = ap (λ (w : Sides). after 1 (end_plan n d f x w) w) one ∙ end_first n d f x (sides t (taken f x n rs)) u again ∙ ap (sides t) twice ∙ sym one;
        done_whole = ap (λ (w : Sides). uncut (end_plan n d f x w) w) all ∙ end_stays_whole (sides u (taken f x n rs)) still.0 still.1 ∙ sym all;
        done_cut = ap (λ (w : Sides). after 1 (end_plan n d f x w) w) all ∙ end_stays (sides u (taken f x n rs)) still.0 1 still.1 ∙ sym all;
      }

  pub end_mends : (s : Sides) → Apart s → Mends (end_plan n d f x) s
  end_mends s apart = end_mends_by s apart (ending s)

  -- an ended lease cut after any number of its writes, and then run again, ends as the uncut one
  pub end_mended : (s : Sides) → Apart s → (k : ℕ) → uncut (end_plan n d f x (after k (end_plan n d f x s) s)) (after k (end_plan n d f x s) s) ≡ uncut (end_plan n d f x s) s
  end_mended s apart k = mended (end_plan n d f x) s (end_mends s apart) (after k (end_plan n d f x s) s) (one_of (end_plan n d f x s) s (end_two s (ending s)) k)

  -- what the second run answers: of a refused one the same,
  pub second_end_refused : (s : Sides) (m o : ℕ) → (end_plan n d f x s).answer ≡ Refused m o → (k : ℕ) → (end_plan n d f x (after k (end_plan n d f x s) s)).answer ≡ Refused m o
  second_end_refused s m o a k = go (ending s)
    where
      go : Ending s → (end_plan n d f x (after k (end_plan n d f x s) s)).answer ≡ Refused m o
      go (Ending.refused j e) = ap (λ (w : Sides). (end_plan n d f x w).answer) (end_stays s j k e) ∙ a
      go (Ending.accepted u b e after_it) = absurd (accepted≢refused (ap (λ (p : Plan). p.answer) (sym e) ∙ a))

  -- of an accepted one 0 after the first write,
  pub second_end_between : (s : Sides) (v : ℕ) → (end_plan n d f x s).answer ≡ Accepted v → (end_plan n d f x (after 1 (end_plan n d f x s) s)).answer ≡ Accepted 0
  second_end_between s v a = go (ending s)
    where
      go : Ending s → (end_plan n d f x (after 1 (end_plan n d f x s) s)).answer ≡ Accepted 0
      go (Ending.refused m e) = absurd (accepted≢refused (sym a ∙ ap (λ (p : Plan). p.answer) e))
      go (Ending.accepted u b e after_it) =
          ap (λ (w : Sides). (end_plan n d f x w).answer) (end_first n d f x s u e) ∙ ap (λ (p : Plan). p.answer) (end_by_lem n d f x (sides s.table (taken f x n s.names)) (accepted_with 0 u) b)

  -- and after both 33 if the name is gone, 34 if it stands
  pub data SecondAnswer (s : Sides) (r : Answer) : Type 0 where
    gone : find n (uncut (end_plan n d f x s) s).table ≡ none → r ≡ Refused 33 0 → SecondAnswer s r
    kept : (c : TableEntry) → find n (uncut (end_plan n d f x s) s).table ≡ some c → r ≡ Refused 34 0 → SecondAnswer s r

  pub second_end_done : (s : Sides) → Apart s → (v : ℕ) → (end_plan n d f x s).answer ≡ Accepted v → (k : ℕ)
      → SecondAnswer s (end_plan n d f x (after (suc (suc k)) (end_plan n d f x s) s)).answer
  second_end_done s apart v a k = go (ending s)
    where
      by_name : (u : List TableEntry) → end_plan n d f x s ≡ end_by (accepted_with 0 u) (taken f x n s.names) → Afterwards u n d f x
          → SecondAnswer s (end_plan n d f x (after (suc (suc k)) (end_plan n d f x s) s)).answer
      by_name u e (Afterwards.kept c found r) =
          SecondAnswer.kept c (ap (λ (w : Sides). find n w.table) (end_all s u e) ∙ found)
          (ap (λ (w : Sides). (end_plan n d f x w).answer) (end_both s u e k) ∙ ap (λ (p : Plan). p.answer) (end_by_lem n d f x (sides u (taken f x n s.names)) (refused_with 34 u) r))
      by_name u e (Afterwards.gone found r) =
          SecondAnswer.gone (ap (λ (w : Sides). find n w.table) (end_all s u e) ∙ found)
          (ap (λ (w : Sides). (end_plan n d f x w).answer) (end_both s u e k) ∙ ap (λ (p : Plan). p.answer) (end_by_lem n d f x (sides u (taken f x n s.names)) (refused_with 33 u) r))

      go : Ending s → SecondAnswer s (end_plan n d f x (after (suc (suc k)) (end_plan n d f x s) s)).answer
      go (Ending.refused m e) = absurd (accepted≢refused (sym a ∙ ap (λ (p : Plan). p.answer) e))
      go (Ending.accepted u b e after_it) = by_name u e (after_it apart.table)

  -- what stands when one step of an accepted ended lease is done: the old table, and the reverse side without the name; and in every state from then on the name is not behind the address
  pub end_between : (s : Sides) (v : ℕ) → (end_plan n d f x s).answer ≡ Accepted v → after 1 (end_plan n d f x s) s ≡ sides s.table (taken f x n s.names)
  end_between s v a = go (ending s)
    where
      go : Ending s → after 1 (end_plan n d f x s) s ≡ sides s.table (taken f x n s.names)
      go (Ending.refused m e) = absurd (accepted≢refused (sym a ∙ ap (λ (p : Plan). p.answer) e))
      go (Ending.accepted u b e after_it) = end_first n d f x s u e

  pub end_not_behind : (s : Sides) → Single s.names → (v k : ℕ) → (end_plan n d f x s).answer ≡ Accepted v → behind f x (after (suc k) (end_plan n d f x s) s).names ≡ some n → ⊥
  end_not_behind s single v k a = go (ending s) k
    where
      go : Ending s → (j : ℕ) → behind f x (after (suc j) (end_plan n d f x s) s).names ≡ some n → ⊥
      go (Ending.refused m e) j b = accepted≢refused (sym a ∙ ap (λ (p : Plan). p.answer) e)
      go (Ending.accepted u c e after_it) zero b = taken_behind f x n s.names single (sym (ap (λ (w : Sides). behind f x w.names) (end_first n d f x s u e)) ∙ b)
      go (Ending.accepted u c e after_it) (suc j) b = taken_behind f x n s.names single (sym (ap (λ (w : Sides). behind f x w.names) (end_both s u e j)) ∙ b)

-- ==== no other reverse name changes, cut or not

pub data LeaseNames (f : Family) (x n : List ℕ) (rs us : List ReverseEntry) : Type 0 where
  same : us ≡ rs → LeaseNames f x n rs us
  put : us ≡ placed f x n rs → LeaseNames f x n rs us

pub data EndNames (f : Family) (x n : List ℕ) (rs us : List ReverseEntry) : Type 0 where
  same : us ≡ rs → EndNames f x n rs us
  out : us ≡ taken f x n rs → EndNames f x n rs us

nothing_done : (p : Plan) (s : Sides) → after 0 p s ≡ s
unfolding written_first
nothing_done p s = refl

module _ (limit places : ℕ) (n d : List ℕ) (f : Family) (x : List ℕ) (policy : ℕ) (s : Sides) where
  pub lease_names : (k : ℕ) → LeaseNames f x n s.names (after k (lease_plan limit places n d f x policy s) s).names
  lease_names k = go (leasing limit places n d f x policy s) k
    where
      go : Leasing limit places n d f x policy s → (j : ℕ) → LeaseNames f x n s.names (after j (lease_plan limit places n d f x policy s) s).names
      go (Leasing.refused m e) j = LeaseNames.same (ap (λ (w : Sides). w.names) (refused_stays limit places n d f x policy s m j e))
      go (Leasing.accepted v u has b h e) zero = LeaseNames.same (ap (λ (w : Sides). w.names) (nothing_done (lease_plan limit places n d f x policy s) s))
      go (Leasing.accepted v u has b h e) (suc zero) = LeaseNames.same (ap (λ (w : Sides). w.names) (lease_first limit places n d f x policy s v u e))
      go (Leasing.accepted v u has b h e) (suc (suc j)) = LeaseNames.put (ap (λ (w : Sides). w.names) (lease_both limit places n d f x policy s v u e j))

module _ (n d : List ℕ) (f : Family) (x : List ℕ) (s : Sides) where
  pub end_names : (k : ℕ) → EndNames f x n s.names (after k (end_plan n d f x s) s).names
  end_names k = go (ending n d f x s) k
    where
      go : Ending n d f x s → (j : ℕ) → EndNames f x n s.names (after j (end_plan n d f x s) s).names
      go (Ending.refused m e) j = EndNames.same (ap (λ (w : Sides). w.names) (end_stays n d f x s m j e))
      go (Ending.accepted u b e after_it) zero = EndNames.same (ap (λ (w : Sides). w.names) (nothing_done (end_plan n d f x s) s))
      go (Ending.accepted u b e after_it) (suc zero) = EndNames.out (ap (λ (w : Sides). w.names) (end_first n d f x s u e))
      go (Ending.accepted u b e after_it) (suc (suc j)) = EndNames.out (ap (λ (w : Sides). w.names) (end_both n d f x s u e j))

  -- where the name is not behind the address, the names stay
  pub end_leaves : (k : ℕ) → (behind f x s.names ≡ some n → ⊥) → (after k (end_plan n d f x s) s).names ≡ s.names
  end_leaves k other = go (end_names k)
    where
      go : EndNames f x n s.names (after k (end_plan n d f x s) s).names → (after k (end_plan n d f x s) s).names ≡ s.names
      go (EndNames.same e) = e
      go (EndNames.out e) = e ∙ taken_kept f x n s.names other

-- the entries of every other address, whole and in order
module _ (f : Family) (x n : List ℕ) (rs us : List ReverseEntry) where
  pub lease_others : LeaseNames f x n rs us → others_at f x us ≡ others_at f x rs
  lease_others (LeaseNames.same e) = ap (others_at f x) e
  lease_others (LeaseNames.put e) = ap (others_at f x) e ∙ placed_others f x n rs

  pub end_others : EndNames f x n rs us → others_at f x us ≡ others_at f x rs
  end_others (EndNames.same e) = ap (others_at f x) e
  end_others (EndNames.out e) = ap (others_at f x) e ∙ taken_others f x n rs

  -- and no address comes to stand twice
  pub lease_single : LeaseNames f x n rs us → Single rs → Single us
  lease_single (LeaseNames.same e) h = subst Single (sym e) h
  lease_single (LeaseNames.put e) h = subst Single (sym e) (single_placed f x n rs h)

  pub end_single : EndNames f x n rs us → Single rs → Single us
  end_single (EndNames.same e) h = subst Single (sym e) h
  end_single (EndNames.out e) h = subst Single (sym e) (single_taken f x n rs h)

  -- nor more than there are places for
  pub end_room : EndNames f x n rs us → (places : ℕ) → length rs ≤ places → length us ≤ places
  end_room (EndNames.same e) places h = subst (λ (l : List ReverseEntry). length l ≤ places) (sym e) h
  end_room (EndNames.out e) places h = omega (arith, ap length e, length_taken f x n rs, h)

-- the room of a lease: where it is accepted there was a place
module _ (limit places : ℕ) (n d : List ℕ) (f : Family) (x : List ℕ) (policy : ℕ) (s : Sides) where
  pub lease_room : (k : ℕ) → length s.names ≤ places → length (after k (lease_plan limit places n d f x policy s) s).names ≤ places
  lease_room k h = go (leasing limit places n d f x policy s) k
    where
      fits : (w : Sides) (rs : List ReverseEntry) → w.names ≡ rs → length rs ≤ places → length w.names ≤ places
      fits w rs e l = subst (λ (us : List ReverseEntry). length us ≤ places) (sym e) l

      go : Leasing limit places n d f x policy s → (j : ℕ) → length (after j (lease_plan limit places n d f x policy s) s).names ≤ places
      go (Leasing.refused m e) j = fits (after j (lease_plan limit places n d f x policy s) s) s.names (ap (λ (w : Sides). w.names) (refused_stays limit places n d f x policy s m j e)) h
      go (Leasing.accepted v u has b c e) zero = fits (after 0 (lease_plan limit places n d f x policy s) s) s.names (ap (λ (w : Sides). w.names) (nothing_done (lease_plan limit places n d f x policy s) s)) h
      go (Leasing.accepted v u has b c e) (suc zero) =
          fits (after 1 (lease_plan limit places n d f x policy s) s) s.names (ap (λ (w : Sides). w.names) (lease_first limit places n d f x policy s v u e)) h
      go (Leasing.accepted v u has b c e) (suc (suc j)) =
          fits (after (suc (suc j)) (lease_plan limit places n d f x policy s) s) (placed f x n s.names) (ap (λ (w : Sides). w.names) (lease_both limit places n d f x policy s v u e j))
          (room_placed f x n places s.names has h)
