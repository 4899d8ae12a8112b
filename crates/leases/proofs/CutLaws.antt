-- Any call of no write or two: if the same again mends a cut after the first write and changes nothing after both, then it mends any number of cuts. Assumes nothing.
use Prim.Native.Nat.{ℕ, zero, suc}
use mathlib.Core.Path.{◌≡◌, refl, sym, ap, subst, ◌∙◌}
use mathlib.Core.List.{List, [], ◌∷◌}
use Rattle.leases.specs.Plan.{Sides, Write, written, Plan, written_first, written_all, after, uncut}

-- the state u is one of three: as before the call, with its first write alone, or as an uncut run leaves it
pub data OneOf (p : Plan) (s u : Sides) : Type 0 where
  before : u ≡ s → OneOf p s u
  between : u ≡ after 1 p s → OneOf p s u
  done : u ≡ uncut p s → OneOf p s u

pub data Two (p : Plan) : Type 0 where
  none : p.writes ≡ [] → Two p
  two : (a b : Write) → p.writes ≡ a ∷ b ∷ [] → Two p

first_none : (k : ℕ) (s : Sides) → written_first k [] s ≡ s
unfolding written_first
first_none zero s = refl
first_none (suc k) s = refl

-- both writes done are all
pub both_done : (k : ℕ) (a b : Write) (s : Sides) → written_first (suc (suc k)) (a ∷ b ∷ []) s ≡ written_all (a ∷ b ∷ []) s
unfolding written_first written_all
both_done k a b s = first_none k (written b (written a s))

cut_two : (p : Plan) (s : Sides) (a b : Write) → p.writes ≡ a ∷ b ∷ [] → (k : ℕ) → OneOf p s (after k p s)
unfolding written_first
cut_two p s a b w zero = OneOf.before refl
cut_two p s a b w (suc zero) = OneOf.between refl
cut_two p s a b w (suc (suc k)) = OneOf.done (ap (λ (ws : List Write). written_first (suc (suc k)) ws s) w ∙ both_done k a b s ∙ ap (λ (ws : List Write). written_all ws s) (sym w))

pub one_of : (p : Plan) (s : Sides) → Two p → (k : ℕ) → OneOf p s (after k p s)
one_of p s (Two.none w) k = OneOf.before (ap (λ (ws : List Write). written_first k ws s) w ∙ first_none k s)
one_of p s (Two.two a b w) k = cut_two p s a b w k

-- from each state: the same again ends as the uncut run, and cut after its first write it leaves one of the three
pub record Mends (plan : Sides → Plan) (s : Sides) : Type 0 where
  pub size : (u : Sides) → Two (plan u)
  pub between_whole : uncut (plan (after 1 (plan s) s)) (after 1 (plan s) s) ≡ uncut (plan s) s
  pub between_cut : after 1 (plan (after 1 (plan s) s)) (after 1 (plan s) s) ≡ after 1 (plan s) s
  pub done_whole : uncut (plan (uncut (plan s) s)) (uncut (plan s) s) ≡ uncut (plan s) s
  pub done_cut : after 1 (plan (uncut (plan s) s)) (uncut (plan s) s) ≡ uncut (plan s) s

module _ (plan : Sides → Plan) (s : Sides) (h : Mends plan s) where
  -- the same again from each of the three
  pub mended : (u : Sides) → OneOf (plan s) s u → uncut (plan u) u ≡ uncut (plan s) s
  mended u (OneOf.before e) = ap (λ (v : Sides). uncut (plan v) v) e
  mended u (OneOf.between e) = ap (λ (v : Sides). uncut (plan v) v) e ∙ h.between_whole
  mended u (OneOf.done e) = ap (λ (v : Sides). uncut (plan v) v) e ∙ h.done_whole

  from_between : (v : Sides) → OneOf (plan (after 1 (plan s) s)) (after 1 (plan s) s) v → OneOf (plan s) s v
  from_between v (OneOf.before e) = OneOf.between e
  from_between v (OneOf.between e) = OneOf.between (e ∙ h.between_cut)
  from_between v (OneOf.done e) = OneOf.done (e ∙ h.between_whole)

  from_done : (v : Sides) → OneOf (plan (uncut (plan s) s)) (uncut (plan s) s) v → OneOf (plan s) s v
  from_done v (OneOf.before e) = OneOf.done e
  from_done v (OneOf.between e) = OneOf.done (e ∙ h.done_cut)
  from_done v (OneOf.done e) = OneOf.done (e ∙ h.done_whole)

  -- and cut again
  pub cut_again : (u : Sides) → OneOf (plan s) s u → (k : ℕ) → OneOf (plan s) s (after k (plan u) u)
  cut_again u (OneOf.before e) k = subst (λ (v : Sides). OneOf (plan s) s (after k (plan v) v)) (sym e) (one_of (plan s) s (h.size s) k)
  cut_again u (OneOf.between e) k =
      subst (λ (v : Sides). OneOf (plan s) s (after k (plan v) v)) (sym e)
      (from_between (after k (plan (after 1 (plan s) s)) (after 1 (plan s) s)) (one_of (plan (after 1 (plan s) s)) (after 1 (plan s) s) (h.size (after 1 (plan s) s)) k))
  cut_again u (OneOf.done e) k =
      subst (λ (v : Sides). OneOf (plan s) s (after k (plan v) v)) (sym e)
      (from_done (after k (plan (uncut (plan s) s)) (uncut (plan s) s)) (one_of (plan (uncut (plan s) s)) (uncut (plan s) s) (h.size (uncut (plan s) s)) k))
