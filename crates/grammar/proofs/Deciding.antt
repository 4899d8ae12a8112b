-- Functions that decide a relation: they find what is related, and nothing else; and the tests that they are made of (specs/Deciding.antt). Assumes nothing.
use mathlib.Core.Bool.{Bool, true, false, ◌&&◌}
use mathlib.Core.Path.{◌≡◌, refl, sym, ap, ap₂, ◌∙◌}
use mathlib.Core.Option.{Option, none, some, none-ne-some}
use mathlib.Core.List.{List, [], ◌∷◌}
use Rattle.base.specs.Logic.{Every}
use Rattle.base.proofs.Tests.{and_left, and_right}
use Rattle.grammar.specs.Deciding.{provided, all}

-- f finds just what R gives
pub record Reads {A B : Type 0} (f : A → Option B) (R : A → B → Type 0) : Type 0 where
  pub finds : (a : A) (b : B) → R a b → f a ≡ some b
  pub is : (a : A) (b : B) → f a ≡ some b → R a b

-- what it does not find, R does not give
pub not_found : {A B : Type 0} {f : A → Option B} {R : A → B → Type 0} → Reads f R → (a : A) → f a ≡ none → (b : B) → R a b → ⊥
not_found reads a e b r = none-ne-some b (sym e ∙ reads.finds a b r)

-- and what R does not give, it does not find
pub none_found : {A B : Type 0} {f : A → Option B} {R : A → B → Type 0} → Reads f R → (a : A) → ((b : B) → R a b → ⊥) → f a ≡ none
none_found {B = B} {f = f} reads a never = go (f a) refl
  where
    go : (r : Option B) → f a ≡ r → r ≡ none
    go none e = refl
    go (some b) e = absurd (never b (reads.is a b e))

-- ---- an answer under a condition

module _ {A : Type 0} where
  -- the test passes, so the answer is r
  pub provided_by : {t : Bool} {r : Option A} → t ≡ true → provided t r ≡ r
  unfolding provided
  provided_by {t} {r} h = ap (λ (x : Bool). provided x r) h

  -- there is an answer, so the test passed
  pub provided_is : {t : Bool} {r : Option A} {a : A} → provided t r ≡ some a → (t ≡ true) × (r ≡ some a)
  unfolding provided
  provided_is {t = true} e = (refl, e)
  provided_is {t = false} {r} {a} e = absurd (none-ne-some a e)

-- ---- each element passes a test

module _ {A : Type 0} {P : A → Type 0} (p : A → Bool) where
  pub all_true : ((a : A) → p a ≡ true → P a) → (l : List A) → all p l ≡ true → Every P l
  unfolding all
  all_true g [] e = Every.none
  all_true g (a ∷ l) e = Every.more (g a (and_left (p a) (all p l) e)) (all_true g l (and_right (p a) (all p l) e))

  pub every_all : ((a : A) → P a → p a ≡ true) → (l : List A) → Every P l → all p l ≡ true
  unfolding all
  every_all g [] Every.none = refl
  every_all g (a ∷ l) (Every.more h hs) = ap₂ ◌&&◌ (g a h) (every_all g l hs)
