-- The reverse side as a list: a name placed or taken twice is so once, nothing else changes, no address comes to stand twice, and there is room. Assumes nothing.
use Prim.Native.Nat.{ℕ, suc, ◌≤◌, ◌<◌}
use mathlib.Core.Bool.{Bool, true, false, cond, ◌&&◌, ◌||◌, true≢false, false≢true}
use mathlib.Core.Path.{◌≡◌, refl, sym, ap, ap₂, subst, ◌∙◌}
use mathlib.Core.List.{List, [], ◌∷◌}
use mathlib.Core.Option.{Option, none, some, none-ne-some, some-injective}
use native.Mathlib.Omega.{arith}
use lib.Dec.{ltb}
use lib.ListN.{length}
use borrow.Author.Tests.{ltb-true}
use Rattle.base.specs.Bytes.{eq_bytes}
use Rattle.base.specs.Logic.{Every}
use Rattle.base.proofs.Tests.{and_left, and_right, eq_eq_bytes, eq_bytes_true, ne_eq_bytes}
use Rattle.slots.specs.declared.Family.{Family}
use Rattle.slots.specs.declared.Family.TheVariants.{V4, V6}
use Rattle.reverse.specs.Entry.{ReverseEntry, same_family, is_at, entry_at, behind, stands_at, has_place, placed, taken, others_at, Single}
use Rattle.reverse.proofs.EntryCases.{placed_here, placed_later, taken_here, taken_later}

-- ---- one entry

own_family : (f : Family) → same_family f f ≡ true
own_family V4 = refl
own_family V6 = refl

one_family : (g f : Family) → same_family g f ≡ true → g ≡ f
one_family V4 V4 e = refl
one_family V4 V6 e = absurd (false≢true e)
one_family V6 V4 e = absurd (false≢true e)
one_family V6 V6 e = refl

at_itself : (f : Family) (x n : List ℕ) → is_at f x (entry_at f x n) ≡ true
unfolding is_at
at_itself f x n = ap (λ (b : Bool). b && eq_bytes x x) (own_family f) ∙ eq_eq_bytes x x refl

-- an entry at an address has that address, of that family
pub at_family : (f : Family) (x : List ℕ) (r : ReverseEntry) → is_at f x r ≡ true → r.family ≡ f
unfolding is_at
at_family f x r e = one_family r.family f (and_left (same_family r.family f) (eq_bytes r.address x) e)

pub at_address : (f : Family) (x : List ℕ) (r : ReverseEntry) → is_at f x r ≡ true → r.address ≡ x
unfolding is_at
at_address f x r e = eq_bytes_true r.address x (and_right (same_family r.family f) (eq_bytes r.address x) e)

module _ (f : Family) (x : List ℕ) (r : ReverseEntry) (rs : List ReverseEntry) where
  behind_here : is_at f x r ≡ true → behind f x (r ∷ rs) ≡ some r.name
  unfolding behind
  behind_here e = ap (λ (b : Bool). cond b (some r.name) (behind f x rs)) e

  behind_later : is_at f x r ≡ false → behind f x (r ∷ rs) ≡ behind f x rs
  unfolding behind
  behind_later e = ap (λ (b : Bool). cond b (some r.name) (behind f x rs)) e

  others_here : is_at f x r ≡ true → others_at f x (r ∷ rs) ≡ others_at f x rs
  unfolding others_at
  others_here e = ap (λ (b : Bool). cond b (others_at f x rs) (r ∷ others_at f x rs)) e

  others_later : is_at f x r ≡ false → others_at f x (r ∷ rs) ≡ r ∷ others_at f x rs
  unfolding others_at
  others_later e = ap (λ (b : Bool). cond b (others_at f x rs) (r ∷ others_at f x rs)) e

  pub stands_here : is_at f x r ≡ true → stands_at f x (r ∷ rs) ≡ true
  unfolding stands_at
  stands_here e = ap (λ (b : Bool). b || stands_at f x rs) e

  pub stands_later : is_at f x r ≡ false → stands_at f x (r ∷ rs) ≡ stands_at f x rs
  unfolding stands_at
  stands_later e = ap (λ (b : Bool). b || stands_at f x rs) e

-- by whether the first entry is at the address
pub by_at : {P : Type 0} (f : Family) (x : List ℕ) (r : ReverseEntry) → (is_at f x r ≡ true → P) → (is_at f x r ≡ false → P) → P
by_at {P} f x r here later = go (is_at f x r) refl
  where
    go : (b : Bool) → is_at f x r ≡ b → P
    go true e = here e
    go false e = later e

-- ---- placed

module _ (f : Family) (x n : List ℕ) where
  pub placed_none : placed f x n [] ≡ entry_at f x n ∷ []
  unfolding placed
  placed_none = refl

  -- twice is once, sound or not
  pub placed_again : (rs : List ReverseEntry) → placed f x n (placed f x n rs) ≡ placed f x n rs
  placed_again [] = ap (placed f x n) placed_none ∙ placed_here f x n (entry_at f x n) [] (at_itself f x n) ∙ sym placed_none
  placed_again (r ∷ rs) =
      let ih = placed_again rs in
      by_at f x r
      (λ e. ap (placed f x n) (placed_here f x n r rs e) ∙ placed_here f x n (entry_at f x n) rs (at_itself f x n) ∙ sym (placed_here f x n r rs e))
      (λ e. ap (placed f x n) (placed_later f x n r rs e) ∙ placed_later f x n r (placed f x n rs) e ∙ ap (◌∷◌ r) ih ∙ sym (placed_later f x n r rs e))

  pub placed_stands : (rs : List ReverseEntry) → stands_at f x (placed f x n rs) ≡ true
  placed_stands [] = ap (stands_at f x) placed_none ∙ stands_here f x (entry_at f x n) [] (at_itself f x n)
  placed_stands (r ∷ rs) =
      let ih = placed_stands rs in
      by_at f x r
      (λ e. ap (stands_at f x) (placed_here f x n r rs e) ∙ stands_here f x (entry_at f x n) rs (at_itself f x n))
      (λ e. ap (stands_at f x) (placed_later f x n r rs e) ∙ stands_later f x r (placed f x n rs) e ∙ ih)

  -- an address that has been placed has a place
  pub placed_place : (limit : ℕ) (rs : List ReverseEntry) → has_place limit f x (placed f x n rs) ≡ true
  unfolding has_place
  placed_place limit rs = rw (placed_stands rs)

  -- the name is behind the address
  pub placed_behind : (rs : List ReverseEntry) → behind f x (placed f x n rs) ≡ some n
  placed_behind [] = ap (behind f x) placed_none ∙ behind_here f x (entry_at f x n) [] (at_itself f x n)
  placed_behind (r ∷ rs) =
      let ih = placed_behind rs in
      by_at f x r
      (λ e. ap (behind f x) (placed_here f x n r rs e) ∙ behind_here f x (entry_at f x n) rs (at_itself f x n))
      (λ e. ap (behind f x) (placed_later f x n r rs e) ∙ behind_later f x r (placed f x n rs) e ∙ ih)

  -- nothing else changes: the entries of other addresses, whole and in order
  pub placed_others : (rs : List ReverseEntry) → others_at f x (placed f x n rs) ≡ others_at f x rs
  placed_others [] = ap (others_at f x) placed_none ∙ others_here f x (entry_at f x n) [] (at_itself f x n)
  placed_others (r ∷ rs) =
      let ih = placed_others rs in
      by_at f x r
      (λ e. ap (others_at f x) (placed_here f x n r rs e) ∙ others_here f x (entry_at f x n) rs (at_itself f x n) ∙ sym (others_here f x r rs e))
      (λ e. ap (others_at f x) (placed_later f x n r rs e) ∙ others_later f x r (placed f x n rs) e ∙ ap (◌∷◌ r) ih ∙ sym (others_later f x r rs e))

  -- what each has
  pub every_placed : {P : ReverseEntry → Type 0} (rs : List ReverseEntry) → P (entry_at f x n) → Every P rs → Every P (placed f x n rs)
  every_placed {P} [] new h = subst (Every P) (sym placed_none) (Every.more new Every.none)
  every_placed {P} (r ∷ rs) new (Every.more p h) =
      let ih = every_placed rs new h in
      by_at f x r (λ e. subst (Every P) (sym (placed_here f x n r rs e)) (Every.more new h)) (λ e. subst (Every P) (sym (placed_later f x n r rs e)) (Every.more p ih))

  -- ---- taken

  pub taken_none : taken f x n [] ≡ []
  unfolding taken
  taken_none = refl

  -- an address that stands nowhere
  taken_absent : (rs : List ReverseEntry) → Every (λ q. is_at f x q ≡ false) rs → taken f x n rs ≡ rs
  taken_absent [] h = taken_none
  taken_absent (r ∷ rs) (Every.more e h) = taken_later f x n r rs e ∙ ap (◌∷◌ r) (taken_absent rs h)

  behind_none : behind f x [] ≡ none
  unfolding behind
  behind_none = refl

  behind_absent : (rs : List ReverseEntry) → Every (λ q. is_at f x q ≡ false) rs → behind f x rs ≡ none
  behind_absent [] h = behind_none
  behind_absent (r ∷ rs) (Every.more e h) = behind_later f x r rs e ∙ behind_absent rs h

  -- after an entry of this address none is, where none stands twice
  no_more : (r : ReverseEntry) (rs : List ReverseEntry) → is_at f x r ≡ true → Every (λ q. is_at r.family r.address q ≡ false) rs → Every (λ q. is_at f x q ≡ false) rs
  no_more r rs e h = subst (λ (g : Family). Every (λ q. is_at g x q ≡ false) rs) (at_family f x r e) (subst (λ (y : List ℕ). Every (λ q. is_at r.family y q ≡ false) rs) (at_address f x r e) h)

  -- by whether the name behind it is this one
  by_behind : (P : List ReverseEntry → Type 0) (r : ReverseEntry) (rs : List ReverseEntry) → is_at f x r ≡ true → (eq_bytes r.name n ≡ true → P rs) → (eq_bytes r.name n ≡ false → P (r ∷ rs))
      → P (taken f x n (r ∷ rs))
  by_behind P r rs e own other = subst P (sym (taken_here f x n r rs e)) (go (eq_bytes r.name n) refl)
    where
      go : (b : Bool) → eq_bytes r.name n ≡ b → P (cond b rs (r ∷ rs))
      go true s = own s
      go false s = other s

  -- twice is once where no address stands twice
  pub taken_again : (rs : List ReverseEntry) → Single rs → taken f x n (taken f x n rs) ≡ taken f x n rs
  taken_again [] s = ap (taken f x n) taken_none
  taken_again (r ∷ rs) (Single.more apart s) =
      let ih = taken_again rs s in
      by_at f x r
      (λ e. by_behind (λ (l : List ReverseEntry). taken f x n l ≡ l) r rs e (λ same. taken_absent rs (no_more r rs e apart)) (λ other. taken_here f x n r rs e ∙ ap (λ (b : Bool). cond b rs (r ∷ rs)) other))
      (λ e. ap (taken f x n) (taken_later f x n r rs e) ∙ taken_later f x n r (taken f x n rs) e ∙ ap (◌∷◌ r) ih ∙ sym (taken_later f x n r rs e))

  -- the name is no longer behind the address
  pub taken_behind : (rs : List ReverseEntry) → Single rs → behind f x (taken f x n rs) ≡ some n → ⊥
  taken_behind [] s b = none-ne-some n (sym (ap (behind f x) taken_none ∙ behind_none) ∙ b)
  taken_behind (r ∷ rs) (Single.more apart s) b =
      let ih = taken_behind rs s in
      by_at f x r
      (λ e. by_behind (λ (l : List ReverseEntry). behind f x l ≡ some n → ⊥) r rs e (λ same c. none-ne-some n (sym (behind_absent rs (no_more r rs e apart)) ∙ c))
      (λ other c. true≢false (sym (eq_eq_bytes r.name n (some-injective r.name n (sym (behind_here f x r rs e) ∙ c))) ∙ other)) b)
      (λ e. ih (sym (ap (behind f x) (taken_later f x n r rs e) ∙ behind_later f x r (taken f x n rs) e) ∙ b))

  -- and where it was not, nothing is taken
  pub taken_kept : (rs : List ReverseEntry) → (behind f x rs ≡ some n → ⊥) → taken f x n rs ≡ rs
  taken_kept [] other = taken_none
  taken_kept (r ∷ rs) other =
      let ih = taken_kept rs in
      by_at f x r
      (λ e. by_behind (λ (l : List ReverseEntry). l ≡ r ∷ rs) r rs e (λ same. absurd (other (behind_here f x r rs e ∙ ap some (eq_bytes_true r.name n same)))) (λ different. refl))
      (λ e. taken_later f x n r rs e ∙ ap (◌∷◌ r) (ih (λ b. other (behind_later f x r rs e ∙ b))))

  pub taken_others : (rs : List ReverseEntry) → others_at f x (taken f x n rs) ≡ others_at f x rs
  taken_others [] = ap (others_at f x) taken_none
  taken_others (r ∷ rs) =
      let ih = taken_others rs in
      by_at f x r
      (λ e. by_behind (λ (l : List ReverseEntry). others_at f x l ≡ others_at f x (r ∷ rs)) r rs e (λ same. sym (others_here f x r rs e)) (λ other. refl))
      (λ e. ap (others_at f x) (taken_later f x n r rs e) ∙ others_later f x r (taken f x n rs) e ∙ ap (◌∷◌ r) ih ∙ sym (others_later f x r rs e))

  pub every_taken : {P : ReverseEntry → Type 0} (rs : List ReverseEntry) → Every P rs → Every P (taken f x n rs)
  every_taken {P} [] h = subst (Every P) (sym taken_none) Every.none
  every_taken {P} (r ∷ rs) (Every.more p h) =
      let ih = every_taken rs h in
      by_at f x r
      (λ e. by_behind (Every P) r rs e (λ same. h) (λ other. Every.more p h))
      (λ e. subst (Every P) (sym (taken_later f x n r rs e)) (Every.more p ih))

  -- ---- soundness is kept

  pub single_taken : (rs : List ReverseEntry) → Single rs → Single (taken f x n rs)
  single_taken [] s = subst Single (sym taken_none) s
  single_taken (r ∷ rs) (Single.more apart s) =
      let ih = single_taken rs s in
      by_at f x r
      (λ e. by_behind Single r rs e (λ same. s) (λ other. Single.more apart s))
      (λ e. subst Single (sym (taken_later f x n r rs e)) (Single.more (every_taken rs apart) ih))

  pub single_placed : (rs : List ReverseEntry) → Single rs → Single (placed f x n rs)
  single_placed [] s = subst Single (sym placed_none) (Single.more Every.none Single.empty)
  single_placed (r ∷ rs) (Single.more apart s) =
      let ih = single_placed rs s in
      by_at f x r
      (λ e. subst Single (sym (placed_here f x n r rs e)) (Single.more (no_more r rs e apart) s))
      (λ e. subst Single (sym (placed_later f x n r rs e)) (Single.more (every_placed rs (not_at r e) apart) ih))
    where
      not_at : (q : ReverseEntry) → is_at f x q ≡ false → is_at q.family q.address (entry_at f x n) ≡ false
      not_at q e = go (is_at q.family q.address (entry_at f x n)) refl
        where
          go : (b : Bool) → is_at q.family q.address (entry_at f x n) ≡ b → b ≡ false
          go false k = refl
          go true k = absurd (true≢false (sym (there k) ∙ e))
            where
              there : is_at q.family q.address (entry_at f x n) ≡ true → is_at f x q ≡ true
              there h = ap₂ (λ (g : Family) (y : List ℕ). is_at g y q) (at_family q.family q.address (entry_at f x n) h) (at_address q.family q.address (entry_at f x n) h) ∙ at_itself q.family q.address q.name

  -- and the room
  pub length_taken : (rs : List ReverseEntry) → length (taken f x n rs) ≤ length rs
  length_taken [] = omega (arith, ap length taken_none)
  length_taken (r ∷ rs) =
      let ih = length_taken rs in
      by_at f x r
      (λ e. by_behind (λ (l : List ReverseEntry). length l ≤ suc (length rs)) r rs e (λ same. omega arith) (λ other. omega arith))
      (λ e. omega (arith, ap length (taken_later f x n r rs e)))

  length_placed : (rs : List ReverseEntry) → length (placed f x n rs) ≤ suc (length rs)
  length_placed [] = omega (arith, ap length placed_none)
  length_placed (r ∷ rs) =
      let ih = length_placed rs in
      by_at f x r (λ e. omega (arith, ap length (placed_here f x n r rs e))) (λ e. omega (arith, ap length (placed_later f x n r rs e)))

  length_replaced : (rs : List ReverseEntry) → stands_at f x rs ≡ true → length (placed f x n rs) ≡ length rs
  unfolding stands_at
  length_replaced [] s = absurd (false≢true s)
  length_replaced (r ∷ rs) s =
      let ih = length_replaced rs in
      by_at f x r
      (λ e. ap length (placed_here f x n r rs e))
      (λ e. ap length (placed_later f x n r rs e) ∙ ap suc (ih (sym (stands_later f x r rs e) ∙ s)))

  pub room_placed : (limit : ℕ) (rs : List ReverseEntry) → has_place limit f x rs ≡ true → length rs ≤ limit → length (placed f x n rs) ≤ limit
  unfolding has_place
  room_placed limit rs has room = go (stands_at f x rs) refl has
    where
      go : (b : Bool) → stands_at f x rs ≡ b → (b || ltb (length rs) limit) ≡ true → length (placed f x n rs) ≤ limit
      go true s h = omega (arith, length_replaced rs s, room)
      go false s h = omega (arith, length_placed rs, ltb-true (length rs) limit h)
