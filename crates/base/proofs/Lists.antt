-- Laws on lists and on the notions of specs/Logic.antt. Assumes nothing.
use Prim.Native.Nat.{ℕ, zero, suc, ◌+◌, ◌-◌, ◌<◌}
use mathlib.Core.Bool.{Bool, true, false, true≢false}
use mathlib.Core.Path.{◌≡◌, refl, sym, ap, ap₂, subst, ◌∙◌}
use mathlib.Core.List.{List, [], ◌∷◌, ◌++◌, map, nil≢cons, cons≢nil, head-eq_of_cons-eq, tail-eq_of_cons-eq}
use native.Mathlib.Nat.{add-zero}
use native.Mathlib.Numerals.{add-one}
use native.Mathlib.Omega.{arith}
use lib.ListN.{length, get_or, take, drop, take-append-drop}
use lib.Seq.{take_at, drop_at, take-nil, take-suc, drop-drop, get_or-drop}
use Rattle.base.specs.Logic.{Every, Pairwise}

-- ---- two parts

module _ {A : Type 0} where
  -- two lists whose first parts are as long as each other are equal part by part
  pub append_split : {a b c d : List A} → length a ≡ length b → a ++ c ≡ b ++ d → (a ≡ b) × (c ≡ d)
  append_split {a} {b} {c} {d} long e = (
    sym (take_at a c (length a) refl) ∙ ap (take (length a)) e ∙ take_at b d (length a) (sym long),
    sym (drop_at a c (length a) refl) ∙ ap (drop (length a)) e ∙ drop_at b d (length a) (sym long),
  )

  pub no_elements : (l : List A) → length l ≡ 0 → l ≡ []
  no_elements [] e = refl
  no_elements (a ∷ l) e = absurd (omega arith)

  pub nil≢append : (l : List A) (x : A) (r : List A) → [] ≡ l ++ x ∷ r → ⊥
  nil≢append [] x r e = nil≢cons e
  nil≢append (a ∷ l) x r e = nil≢cons e

  -- and so are two lists that begin with the longest run of elements of one kind
  module _ (kind : A → Bool) {x y : A} {r s : List A} (ends : kind x ≡ false) (ends' : kind y ≡ false) where
    pub run_split : (l m : List A) → Every (λ a. kind a ≡ true) l → Every (λ a. kind a ≡ true) m → l ++ x ∷ r ≡ m ++ y ∷ s → (l ≡ m) × (x ∷ r ≡ y ∷ s)
    run_split [] [] h k e = (refl, e)
    run_split [] (b ∷ m) h (Every.more kb k) e = absurd (true≢false (sym kb ∙ ap kind (sym (head-eq_of_cons-eq e)) ∙ ends))
    run_split (a ∷ l) [] (Every.more ha h) k e = absurd (true≢false (sym ha ∙ ap kind (head-eq_of_cons-eq e) ∙ ends'))
    run_split (a ∷ l) (b ∷ m) (Every.more ha h) (Every.more kb k) e =
        let rest = run_split l m h k (tail-eq_of_cons-eq e) in
        ((λ i. head-eq_of_cons-eq e i ∷ rest.0 i), rest.1)

-- what stands at the head of the rest of a list from index i on stands at i
pub drop_head : (l : List ℕ) (i x : ℕ) (r : List ℕ) → drop i l ≡ x ∷ r → get_or l i 0 ≡ x
drop_head l i x r e = ap (λ (k : ℕ). get_or l k 0) (sym (add-zero i)) ∙ sym (get_or-drop i l 0 0) ∙ ap (λ (t : List ℕ). get_or t 0 0) e

pub drop_next : {A : Type 0} (l : List A) (i : ℕ) (x : A) (r : List A) → drop i l ≡ x ∷ r → drop (i + 1) l ≡ r
drop_next l i x r e = sym (drop-drop 1 i l) ∙ ap (drop 1) e

pub drop_take : (n k : ℕ) (l : List ℕ) → drop n (take k l) ≡ take (k - n) (drop n l)
drop_take zero k l = let same : k ≡ k - 0 = omega arith in ap (λ (j : ℕ). take j l) same
drop_take (suc n) zero l = let none_left : 0 ≡ 0 - suc n = omega arith in ap (λ (j : ℕ). take j (drop (suc n) l)) none_left
drop_take (suc n) (suc k) [] = sym (take-nil (suc k - suc n))
drop_take (suc n) (suc k) (x ∷ l) = let less : k - n ≡ suc k - suc n = omega arith in drop_take n k l ∙ ap (λ (j : ℕ). take j (drop n l)) less

-- two lists that agree in their first i elements and in the next agree in one element more
pub take_more : (l m : List ℕ) (i : ℕ) → take i l ≡ take i m → get_or l i 0 ≡ get_or m i 0 → i < length l → i < length m → take (i + 1) l ≡ take (i + 1) m
take_more l m i e same hl hm =
    rw add-one (take-suc l i 0 hl ∙ ap₂ (λ (t : List ℕ) (x : ℕ). t ++ (x ∷ [])) e same ∙ sym (take-suc m i 0 hm))

-- ---- each element

module _ {A : Type 0} {P : A → Type 0} where
  pub every_append : (l m : List A) → Every P l → Every P m → Every P (l ++ m)
  every_append [] m hl hm = hm
  every_append (a ∷ l) m (Every.more h hl) hm = Every.more h (every_append l m hl hm)

  -- the element between two parts
  pub every_middle : (l m : List A) (a : A) → Every P (l ++ a ∷ m) → P a
  every_middle [] m a (Every.more h hl) = h
  every_middle (b ∷ l) m a (Every.more h hl) = every_middle l m a hl

  -- the parts
  pub every_left : (l m : List A) → Every P (l ++ m) → Every P l
  every_left [] m h = Every.none
  every_left (a ∷ l) m (Every.more p h) = Every.more p (every_left l m h)

  pub every_right : (l m : List A) → Every P (l ++ m) → Every P m
  every_right [] m h = h
  every_right (a ∷ l) m (Every.more p h) = every_right l m h

  pub every_take : (n : ℕ) (l : List A) → Every P l → Every P (take n l)
  every_take n l h = every_left (take n l) (drop n l) (subst (Every P) (sym (take-append-drop n l)) h)

  -- one property for another
  pub every_by : {Q : A → Type 0} → ((a : A) → P a → Q a) → {l : List A} → Every P l → Every Q l
  every_by g Every.none = Every.none
  every_by g (Every.more {a} p h) = Every.more (g a p) (every_by g h)

pub pairwise_on : {A B : Type 0} {R : A → B → Type 0} (l : List A) (m : List B) (a : A) (b : B) → Pairwise R l m → R a b → Pairwise R (l ++ a ∷ []) (m ++ b ∷ [])
pairwise_on [] [] a b Pairwise.none r = Pairwise.more r Pairwise.none
pairwise_on (x ∷ l) (y ∷ m) a b (Pairwise.more h hs) r = Pairwise.more h (pairwise_on l m a b hs r)
pairwise_on {A = A} {B = B} {R = R} [] (y ∷ m) a b x4 r = elim x4 [ ]
pairwise_on {A = A} {B = B} {R = R} (x ∷ l) [] a b x5 r = elim x5 [ ]

pub pairwise_append : {A B : Type 0} {R : A → B → Type 0} {l : List A} {m : List B} {l' : List A} {m' : List B} → Pairwise R l m → Pairwise R l' m' → Pairwise R (l ++ l') (m ++ m')
pairwise_append Pairwise.none k = k
pairwise_append (Pairwise.more h hs) k = Pairwise.more h (pairwise_append hs k)

-- what stands at an index has what each element has
pub every_at : {P : ℕ → Type 0} (l : List ℕ) → Every P l → (i : ℕ) → i < length l → P (get_or l i 0)
every_at [] h i lt = absurd (omega arith)
every_at (a ∷ l) (Every.more p h) zero lt = p
every_at (a ∷ l) (Every.more p h) (suc i) lt = every_at l h i (omega arith)

-- and what holds at every index holds of each
pub every_from : {P : ℕ → Type 0} (l : List ℕ) → ((i : ℕ) → P (get_or l i 0)) → Every P l
every_from [] h = Every.none
every_from (a ∷ l) h = Every.more (h 0) (every_from l (λ i. h (suc i)))

-- one relation for another, of each two
pub pairwise_by : {A B : Type 0} {R S : A → B → Type 0} → ((a : A) (b : B) → R a b → S a b) → {l : List A} {m : List B} → Pairwise R l m → Pairwise S l m
pairwise_by g Pairwise.none = Pairwise.none
pairwise_by g (Pairwise.more {a} {b} h hs) = Pairwise.more (g a b h) (pairwise_by g hs)

-- what holds of each two says of the second
pub pairwise_second : {A B : Type 0} {R : A → B → Type 0} {P : B → Type 0} → ((a : A) (b : B) → R a b → P b) → {l : List A} {m : List B} → Pairwise R l m → Every P m
pairwise_second g Pairwise.none = Every.none
pairwise_second g (Pairwise.more {a} {b} h hs) = Every.more (g a b h) (pairwise_second g hs)

module _ {A B : Type 0} (f : A → B) where
  pub map_append : (l m : List A) → map f (l ++ m) ≡ map f l ++ map f m
  map_append [] m = refl
  map_append (a ∷ l) m = ap (λ (t : List B). f a ∷ t) (map_append l m)

  pub every_map : {P : A → Type 0} {Q : B → Type 0} → ((a : A) → P a → Q (f a)) → (l : List A) → Every P l → Every Q (map f l)
  every_map g [] Every.none = Every.none
  every_map g (a ∷ l) (Every.more p ps) = Every.more (g a p) (every_map g l ps)

  -- two lists agree one by one under f exactly if their images are equal
  module _ {R : A → A → Type 0} where
    pub map_pairwise : ((a b : A) → R a b → f a ≡ f b) → (l m : List A) → Pairwise R l m → map f l ≡ map f m
    map_pairwise g [] [] Pairwise.none = refl
    map_pairwise g (a ∷ l) (b ∷ m) (Pairwise.more h hs) = ap₂ ◌∷◌ (g a b h) (map_pairwise g l m hs)
    map_pairwise g [] (b ∷ m) x'' = elim x'' [ ]
    map_pairwise g (a ∷ l) [] x3 = elim x3 [ ]

    pub pairwise_map : ((a b : A) → f a ≡ f b → R a b) → (l m : List A) → map f l ≡ map f m → Pairwise R l m
    pairwise_map g [] [] e = Pairwise.none
    pairwise_map g [] (b ∷ m) e = absurd (nil≢cons e)
    pairwise_map g (a ∷ l) [] e = absurd (cons≢nil e)
    pairwise_map g (a ∷ l) (b ∷ m) e = Pairwise.more (g a b (head-eq_of_cons-eq e)) (pairwise_map g l m (tail-eq_of_cons-eq e))
