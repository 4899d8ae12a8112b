-- Notions that every definition above may use. Nothing here is about bytes.
use Rattle.std.specs.Prelude.{Bool, true, false, ◌≡◌, List, [], ◌∷◌}
use Rattle.std.proofs.Math.Option.{Option, none as nothing, some}

-- each element of a list has the property P
pub data Every {A : Type 0} (P : A → Type 0) : List A → Type 0 where
  none : Every P []
  more : {a : A} {l : List A} → P a → Every P l → Every P (a ∷ l)

-- two lists are as long as each other, and R holds of their elements one by one
pub data Pairwise {A B : Type 0} (R : A → B → Type 0) : List A → List B → Type 0 where
  none : Pairwise R [] []
  more : {a : A} {b : B} {l : List A} {m : List B} → R a b → Pairwise R l m → Pairwise R (a ∷ l) (b ∷ m)

-- what there may be has the property P, if it is there
abbrev pub IfSome : {A : Type 0} → (A → Type 0) → Option A → Type 0
IfSome P nothing = Unit {0}
IfSome P (some a) = P a

-- the first, if there is one
abbrev pub first_of : {A : Type 0} → List A → Option A
first_of [] = nothing
first_of (a ∷ l) = some a

-- an answer b, true or false, decides the statement P
pub record Decides (b : Bool) (P : Type 0) : Type 0 where
  pub if_true : b ≡ true → P
  pub if_false : b ≡ false → P → ⊥
