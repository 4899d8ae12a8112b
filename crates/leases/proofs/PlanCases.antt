-- The plans of a lease and of its end by the step that they take of the table, and what the first write leaves: these laws repeat the definitions, and the wrong ones of
-- must-fail/ change them with these.
use Prim.Native.Nat.{ℕ}
use mathlib.Core.Bool.{Bool, true, cond}
use mathlib.Core.Path.{◌≡◌, ap, ◌∙◌}
use mathlib.Core.List.{List}
use Rattle.base.specs.Bytes.{eq_bytes}
use Rattle.base.specs.Refusal.{reverse_full}
use Rattle.slots.specs.Form.{TableEntry}
use Rattle.slots.specs.declared.Family.{Family}
use Rattle.table.specs.Steps.{StepOutcome, add, remove, accepted_with}
use Rattle.reverse.specs.Entry.{ReverseEntry, has_place, placed, taken}
use Rattle.leases.specs.Plan.{Sides, Plan, written_first, after, refused_plan, lease_by, end_by, lease_plan, end_plan}

abbrev pub sides : List TableEntry → List ReverseEntry → Sides
sides t rs = record { table = t; names = rs }

module _ (limit places : ℕ) (n d : List ℕ) (f : Family) (x : List ℕ) (policy : ℕ) where
  -- where there is a place, by the add
  pub lease_by_lem : (s : Sides) (o : StepOutcome (List ℕ)) → has_place places f x s.names ≡ true → add limit eq_bytes s.table n d f x policy ≡ o
      → lease_plan limit places n d f x policy s ≡ lease_by o (placed f x n s.names)
  unfolding lease_plan
  lease_by_lem s o has e =
      ap (λ (b : Bool). cond b (lease_by (add limit eq_bytes s.table n d f x policy) (placed f x n s.names)) (refused_plan reverse_full)) has
      ∙ ap (λ (w : StepOutcome (List ℕ)). lease_by w (placed f x n s.names)) e

  module _ (s : Sides) (v : ℕ) (u : List TableEntry) (e : lease_plan limit places n d f x policy s ≡ lease_by (accepted_with v u) (placed f x n s.names)) where
    pub lease_first : after 1 (lease_plan limit places n d f x policy s) s ≡ sides u s.names
    unfolding written_first
    lease_first = ap (λ (p : Plan). after 1 p s) e

module _ (n d : List ℕ) (f : Family) (x : List ℕ) where
  pub end_by_lem : (s : Sides) (o : StepOutcome (List ℕ)) → remove eq_bytes s.table n d f x ≡ o → end_plan n d f x s ≡ end_by o (taken f x n s.names)
  unfolding end_plan
  end_by_lem s o e = ap (λ (w : StepOutcome (List ℕ)). end_by w (taken f x n s.names)) e

  module _ (s : Sides) (u : List TableEntry) (e : end_plan n d f x s ≡ end_by (accepted_with 0 u) (taken f x n s.names)) where
    pub end_first : after 1 (end_plan n d f x s) s ≡ sides s.table (taken f x n s.names)
    unfolding written_first
    end_first = ap (λ (p : Plan). after 1 p s) e
