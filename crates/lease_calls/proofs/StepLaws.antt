-- What the steps of a lease and of its end come to together: the plan, carried out. Assumes nothing.
use Prim.Native.Nat.{ℕ, ◌≤◌, ◌<◌}
use mathlib.Core.Bool.{true, false}
use mathlib.Core.Path.{◌≡◌, refl, sym, ap, subst, ◌∙◌}
use mathlib.Core.List.{List}
use lib.ListN.{length}
use borrow.Author.Tests.{lt-ltb, le-ltb}
use native.Mathlib.Omega.{arith}
use Rattle.base.specs.Bytes.{eq_bytes}
use Rattle.base.specs.Refusal.{reverse_full}
use Rattle.base.specs.declared.Answer.{Answer}
use Rattle.base.specs.declared.Answer.TheVariants.{Refused}
use Rattle.slots.specs.Form.{TableEntry, table_bytes, IsTable}
use Rattle.slots.specs.declared.Family.{Family}
use Rattle.table.specs.Steps.{StepOutcome, add, remove, accepted_with, refused_with}
use Rattle.table.specs.Promise.{Results}
use Rattle.table.specs.declared.step.RemovalFor.TheVariants as comes
use Rattle.reverse.specs.Entry.{ReverseEntry, has_place, placed, taken}
use Rattle.reverse.specs.Form.{reverse_bytes, IsReverse}
use Rattle.reverse.specs.Promise.{place}
use Rattle.reverse.proofs.SideLaws.{has_place_lem}
use Rattle.leases.specs.Plan.{Sides, Plan, written_all, uncut, refused_plan, lease_by, end_by, lease_plan, end_plan}
use Rattle.leases.proofs.AddLaws.{Added, added}
use Rattle.leases.proofs.PlanCases.{sides, lease_by_lem, end_by_lem}
use Rattle.leases.proofs.PlanLaws.{lease_full}
use Rattle.lease_calls.specs.Promise.{CarriedOut, behind_add}

-- a remove that is decided to be carried out is not refused
pub address_not_refused : (at number : ℕ) → comes.Address at ≡ comes.Refused number → ⊥
address_not_refused at number e = let z : ◌≡◌ {A = ℕ} 0 1 = cc in omega arith

pub name_not_refused : (at number : ℕ) → comes.Name at ≡ comes.Refused number → ⊥
name_not_refused at number e = let z : ◌≡◌ {A = ℕ} 0 1 = cc in omega arith

-- the bytes of a reverse side are those of its entries
pub side_form : (k : ℕ) (rs : List ReverseEntry) (c : List ℕ) → IsReverse k rs c → c ≡ reverse_bytes k rs
unfolding reverse_bytes
side_form k rs c h = h.form

module _ (limit places : ℕ) (n d : List ℕ) (f : Family) (x : List ℕ) (t : List TableEntry) (rs : List ReverseEntry) (b c : List ℕ) (table : IsTable limit t b) (side : IsReverse places rs c) where
  -- a plan that is refused leaves both sides
  refused_out : (plan : Sides → Plan) (m : ℕ) (r : Answer) → plan (sides t rs) ≡ refused_plan m → r ≡ Refused m 0 → CarriedOut limit places plan t rs r b c
  unfolding written_all
  refused_out plan m r p a =
      record {
        answer = a ∙ sym (ap (λ (q : Plan). q.answer) p);
        table = table.form ∙ sym (ap (λ (q : Plan). table_bytes limit (uncut q (sides t rs)).table) p);
        reverse = side_form places rs c side ∙ sym (ap (λ (q : Plan). reverse_bytes places (uncut q (sides t rs)).names) p);
      }

  -- ---- a lease

  module _ (policy : ℕ) where
    -- 46: the address has no place
    pub lease_refused_full : (i : ℕ) (r : Answer) → i ≡ place f x rs → i ≡ places → r ≡ Refused reverse_full 0 → CarriedOut limit places (lease_plan limit places n d f x policy) t rs r b c
    lease_refused_full i r is full a =
        let none_free : has_place places f x rs ≡ false = has_place_lem f x places rs side.room ∙ le-ltb (place f x rs) places (omega (arith, is, full)) in
        refused_out (lease_plan limit places n d f x policy) reverse_full r (lease_full limit places n d f x policy (sides t rs) none_free) a

    -- the forward step, and then the reverse step
    module _ (i : ℕ) (r : Answer) (b' c' : List ℕ) (is : i ≡ place f x rs) (free : i < places) (forward : Results limit (add limit eq_bytes t n d f x policy) r b')
        (reverse : c' ≡ reverse_bytes places (behind_add r (placed f x n rs) rs)) where
      has : has_place places f x rs ≡ true
      has = has_place_lem f x places rs side.room ∙ lt-ltb (place f x rs) places (omega (arith, is, free))

      by_outcome : (o : StepOutcome (List ℕ)) → add limit eq_bytes t n d f x policy ≡ o → Added t n d f x o → CarriedOut limit places (lease_plan limit places n d f x policy) t rs r b' c'
      unfolding written_all
      by_outcome o e (Added.refused m out) =
          let p = lease_by_lem limit places n d f x policy (sides t rs) (refused_with m t) has (e ∙ out) in
          let a : r ≡ Refused m 0 = forward.answer ∙ ap (λ (y : StepOutcome (List ℕ)). y.answer) (e ∙ out) in
          record {
            answer = a ∙ sym (ap (λ (q : Plan). q.answer) p);
            table = forward.table ∙ ap (λ (y : StepOutcome (List ℕ)). table_bytes limit y.table) (e ∙ out) ∙ sym (ap (λ (q : Plan). table_bytes limit (uncut q (sides t rs)).table) p);
            reverse = reverse ∙ ap (λ (y : Answer). reverse_bytes places (behind_add y (placed f x n rs) rs)) a ∙ sym (ap (λ (q : Plan). reverse_bytes places (uncut q (sides t rs)).names) p);
          }
      by_outcome o e (Added.accepted v u out holds) =
          let p = lease_by_lem limit places n d f x policy (sides t rs) (accepted_with v u) has (e ∙ out) in
          let a = forward.answer ∙ ap (λ (y : StepOutcome (List ℕ)). y.answer) (e ∙ out) in
          record {
            answer = a ∙ sym (ap (λ (q : Plan). q.answer) p);
            table = forward.table ∙ ap (λ (y : StepOutcome (List ℕ)). table_bytes limit y.table) (e ∙ out) ∙ sym (ap (λ (q : Plan). table_bytes limit (uncut q (sides t rs)).table) p);
            reverse = reverse ∙ ap (λ (y : Answer). reverse_bytes places (behind_add y (placed f x n rs) rs)) a ∙ sym (ap (λ (q : Plan). reverse_bytes places (uncut q (sides t rs)).names) p);
          }

      pub lease_carried_out : CarriedOut limit places (lease_plan limit places n d f x policy) t rs r b' c'
      lease_carried_out = by_outcome (add limit eq_bytes t n d f x policy) refl (added limit t n d f x policy)

  -- ---- an ended lease

  -- a remove that would be refused
  pub end_refused : (m : ℕ) (r : Answer) → remove eq_bytes t n d f x ≡ refused_with m t → r ≡ Refused m 0 → CarriedOut limit places (end_plan n d f x) t rs r b c
  end_refused m r out a = refused_out (end_plan n d f x) m r (end_by_lem n d f x (sides t rs) (refused_with m t) out) a

  -- the reverse step, and then the forward step
  pub end_carried_out : (u : List TableEntry) (r : Answer) (b' c' : List ℕ) → remove eq_bytes t n d f x ≡ accepted_with 0 u → Results limit (remove eq_bytes t n d f x) r b'
      → c' ≡ reverse_bytes places (taken f x n rs) → CarriedOut limit places (end_plan n d f x) t rs r b' c'
  unfolding written_all
  end_carried_out u r b' c' out forward reverse =
      let p = end_by_lem n d f x (sides t rs) (accepted_with 0 u) out in
      record {
        answer = forward.answer ∙ ap (λ (y : StepOutcome (List ℕ)). y.answer) out ∙ sym (ap (λ (q : Plan). q.answer) p);
        table = forward.table ∙ ap (λ (y : StepOutcome (List ℕ)). table_bytes limit y.table) out ∙ sym (ap (λ (q : Plan). table_bytes limit (uncut q (sides t rs)).table) p);
        reverse = reverse ∙ sym (ap (λ (q : Plan). reverse_bytes places (uncut q (sides t rs)).names) p);
      }
