-- The bytes of a reverse side: what stands in slot i, where an address stands, what a name placed or taken leaves, and whether an address stands twice. Assumes
-- nothing.
use Prim.Native.Nat.{ℕ, zero, suc, ◌+◌, ◌-◌, ◌*◌, ◌≤◌, ◌<◌}
use mathlib.Core.Bool.{Bool, true, false, cond, ◌||◌, true≢false, false≢true}
use mathlib.Core.Path.{◌≡◌, refl, sym, ap, ap₂, subst, ◌∙◌}
use mathlib.Core.List.{List, [], ◌∷◌, ◌++◌, append_assoc, head-eq_of_cons-eq}
use native.Mathlib.Nat.{add-zero, zero-add}
use native.Mathlib.Omega.{arith}
use lib.Dec.{ltb}
use lib.ListN.{length, take, drop, get_or, replicate, length-append, get_or-replicate, take-append-drop, length-drop}
use lib.Seq.{take-take, get_or-take, get_or-drop, length-take-le}
use borrow.Author.Tests.{lt-ltb, ltb-true}
use Rattle.base.specs.Bytes.{eq_bytes, closed_up}
use Rattle.base.specs.Logic.{Every}
use Rattle.base.proofs.Lists.{append_split, every_middle}
use Rattle.base.proofs.Tests.{by_ltb}
use Rattle.base.proofs.RowLaws.{slot_there, replaced, taken_out, unused_from, unused_there, appended, length_row}
use Rattle.slots.specs.Entry.{address_size}
use Rattle.slots.specs.declared.Family.{Family}
use Rattle.reverse.specs.Entry.{ReverseEntry, is_at, entry_at, stands_at, has_place, placed, taken, Single}
use Rattle.reverse.specs.Form.{key_bytes, slot_bytes, WellFormed, reverse_bytes, IsReverse}
use Rattle.reverse.specs.Promise.{key_at, FirstKey, place}
use Rattle.reverse.specs.Sizes.{key_size, reverse_slot_size}
use Rattle.reverse.proofs.EntryCases.{placed_here, placed_later, taken_here, taken_later}
use Rattle.reverse.proofs.EntryLaws.{by_at, placed_none, taken_none, stands_here, stands_later, at_family, at_address}
use Rattle.reverse.proofs.SlotLaws.{at_key, key_at_lem, slot_key, length_slot, slot_marked}

-- ---- where an address stands: nowhere, or at an entry

pub data Standing (f : Family) (x : List ℕ) (rs : List ReverseEntry) : Type 0 where
  nowhere : place f x rs ≡ length rs → stands_at f x rs ≡ false → ((n : List ℕ) → placed f x n rs ≡ rs ++ entry_at f x n ∷ []) → ((n : List ℕ) → taken f x n rs ≡ rs) → Standing f x rs
  at : (p : List ReverseEntry) (r : ReverseEntry) (q : List ReverseEntry) → rs ≡ p ++ r ∷ q → place f x rs ≡ length p → stands_at f x rs ≡ true → is_at f x r ≡ true
      → ((n : List ℕ) → placed f x n rs ≡ p ++ entry_at f x n ∷ q) → ((n : List ℕ) → taken f x n rs ≡ cond (eq_bytes r.name n) (p ++ q) (p ++ r ∷ q)) → Standing f x rs

module _ (f : Family) (x : List ℕ) where
  place_here : (r : ReverseEntry) (rs : List ReverseEntry) → is_at f x r ≡ true → place f x (r ∷ rs) ≡ 0
  unfolding place
  place_here r rs e = ap (λ (b : Bool). cond b 0 (suc (place f x rs))) e

  place_later : (r : ReverseEntry) (rs : List ReverseEntry) → is_at f x r ≡ false → place f x (r ∷ rs) ≡ suc (place f x rs)
  unfolding place
  place_later r rs e = ap (λ (b : Bool). cond b 0 (suc (place f x rs))) e

  no_place : place f x [] ≡ 0
  unfolding place
  no_place = refl

  no_standing : stands_at f x [] ≡ false
  unfolding stands_at
  no_standing = refl

  -- the same in front of the others
  kept_first : (r : ReverseEntry) (b : Bool) (p q : List ReverseEntry) → ◌≡◌ {A = List ReverseEntry} (r ∷ cond b p q) (cond b (r ∷ p) (r ∷ q))
  kept_first r true p q = refl
  kept_first r false p q = refl

  pub standing : (rs : List ReverseEntry) → Standing f x rs
  standing [] = Standing.nowhere no_place no_standing (λ n. placed_none f x n) (λ n. taken_none f x n)
  standing (r ∷ rs) =
      let below = standing rs in
      by_at f x r
      (λ e. Standing.at [] r rs refl (place_here r rs e) (stands_here f x r rs e) e (λ n. placed_here f x n r rs e) (λ n. taken_here f x n r rs e))
      (λ e. go e below)
    where
      go : is_at f x r ≡ false → Standing f x rs → Standing f x (r ∷ rs)
      go e (Standing.nowhere all stands new gone) =
          Standing.nowhere (place_later r rs e ∙ ap suc all) (stands_later f x r rs e ∙ stands)
          (λ n. placed_later f x n r rs e ∙ ap (λ (l : List ReverseEntry). r ∷ l) (new n)) (λ n. taken_later f x n r rs e ∙ ap (λ (l : List ReverseEntry). r ∷ l) (gone n))
      go e (Standing.at p c q cut where_is stands here new gone) =
          Standing.at (r ∷ p) c q (ap (λ (l : List ReverseEntry). r ∷ l) cut) (place_later r rs e ∙ ap suc where_is) (stands_later f x r rs e ∙ stands) here
          (λ n. placed_later f x n r rs e ∙ ap (λ (l : List ReverseEntry). r ∷ l) (new n))
          (λ n. taken_later f x n r rs e ∙ ap (λ (l : List ReverseEntry). r ∷ l) (gone n) ∙ kept_first r (eq_bytes c.name n) (p ++ q) (p ++ c ∷ q))

  -- refusal 46's test by the place
  pub has_place_lem : (k : ℕ) (rs : List ReverseEntry) → length rs ≤ k → has_place k f x rs ≡ ltb (place f x rs) k
  unfolding has_place
  has_place_lem k rs room = go (standing rs)
    where
      go : Standing f x rs → (stands_at f x rs || ltb (length rs) k) ≡ ltb (place f x rs) k
      go (Standing.nowhere all stands new gone) = ap (λ (b : Bool). b || ltb (length rs) k) stands ∙ ap (λ (n : ℕ). ltb n k) (sym all)
      go (Standing.at p r q cut where_is stands here new gone) =
          ap (λ (b : Bool). b || ltb (length rs) k) stands ∙ sym (lt-ltb (place f x rs) k (omega (arith, where_is, ap length cut, length-append p (r ∷ q), room)))

  pub place_low : (rs : List ReverseEntry) → place f x rs ≤ length rs
  place_low rs = go (standing rs)
    where
      go : Standing f x rs → place f x rs ≤ length rs
      go (Standing.nowhere all stands new gone) = omega (arith, all)
      go (Standing.at p r q cut where_is stands here new gone) = omega (arith, where_is, ap length cut, length-append p (r ∷ q))

-- an entry of the address stands no earlier than the address
place_most : (f : Family) (x : List ℕ) (p : List ReverseEntry) (r : ReverseEntry) (q : List ReverseEntry) → is_at f x r ≡ true → place f x (p ++ r ∷ q) ≤ length p
place_most f x [] r q here = omega (arith, place_here f x r q here)
place_most f x (c ∷ p) r q here =
    let below = place_most f x p r q here in
    by_at f x c (λ e. omega (arith, place_here f x c (p ++ r ∷ q) e)) (λ e. omega (arith, place_later f x c (p ++ r ∷ q) e))

-- ---- no address twice, by two entries of which one stands behind the other

apart_later : (p : List ReverseEntry) (e : ReverseEntry) (l : List ReverseEntry) → Single (p ++ e ∷ l) → Every (λ q. is_at e.family e.address q ≡ false) l
apart_later [] e l (Single.more h s) = h
apart_later (r ∷ p) e l (Single.more h s) = apart_later p e l s

every_cut : {P : ReverseEntry → Type 0} (l : List ReverseEntry) → ((m : List ReverseEntry) (c : ReverseEntry) (q : List ReverseEntry) → l ≡ m ++ c ∷ q → P c) → Every P l
every_cut [] h = Every.none
every_cut (r ∷ l) h = Every.more (h [] r l refl) (every_cut l (λ m c q cut. h (r ∷ m) c q (ap (◌∷◌ r) cut)))

not-true : (b : Bool) → (b ≡ true → ⊥) → b ≡ false
not-true true h = absurd (h refl)
not-true false h = refl

single_from : (rs : List ReverseEntry)
    → ((p : List ReverseEntry) (e : ReverseEntry) (m : List ReverseEntry) (c : ReverseEntry) (q : List ReverseEntry) → rs ≡ p ++ e ∷ (m ++ c ∷ q) → is_at e.family e.address c ≡ true → ⊥) → Single rs
single_from [] h = Single.empty
single_from (r ∷ rs) h =
    Single.more
    (every_cut rs (λ m c q cut. not-true (is_at r.family r.address c) (λ here. h [] r m c q (ap (◌∷◌ r) cut) here)))
    (single_from rs (λ p e m c q cut here. h (r ∷ p) e m c q (ap (◌∷◌ r) cut) here))

-- ---- the slots

-- a list cut at an index below its length
at_index : {A : Type 0} (l : List A) (i : ℕ) → i < length l → (a : A) × (r : List A) × (l ≡ take i l ++ a ∷ r) × (length (take i l) ≡ i)
at_index [] i lt = absurd (omega arith)
at_index (a ∷ l) zero lt = (a, l, refl, refl)
at_index (a ∷ l) (suc i) lt =
    let below = at_index l i (omega arith) in
    (below.0, below.1, ap (◌∷◌ a) below.2, ap suc below.3)

module _ (k : ℕ) (rs : List ReverseEntry) (b : List ℕ) (h : IsReverse k rs b) where
  pub length_side : length b ≡ reverse_slot_size * k
  length_side = length_row slot_bytes reverse_slot_size WellFormed length_slot k rs b h

  -- the entry in slot i
  pub record InSlot (i : ℕ) : Type 0 where
    pub entry : ReverseEntry
    pub later : List ReverseEntry
    pub cut : rs ≡ take i rs ++ entry ∷ later
    pub before : length (take i rs) ≡ i
    pub well_formed : WellFormed entry
    pub slot : take reverse_slot_size (drop (reverse_slot_size * i) b) ≡ slot_bytes entry
    pub key : key_at b i ≡ key_bytes entry.family entry.address

  slot_at : (p : List ReverseEntry) (r : ReverseEntry) (q : List ReverseEntry) (i : ℕ) → rs ≡ p ++ r ∷ q → length p ≡ i → take reverse_slot_size (drop (reverse_slot_size * i) b) ≡ slot_bytes r
  slot_at p r q i cut long =
      ap (λ (n : ℕ). take reverse_slot_size (drop (reverse_slot_size * n) b)) (sym long)
      ∙ slot_there slot_bytes reverse_slot_size WellFormed length_slot k p r q b (subst (λ (l : List ReverseEntry). IsReverse k l b) cut h)

  well_at : (p : List ReverseEntry) (r : ReverseEntry) (q : List ReverseEntry) → rs ≡ p ++ r ∷ q → WellFormed r
  well_at p r q cut = every_middle p q r (subst (Every WellFormed) cut h.each)

  key_of_slot : (i : ℕ) (r : ReverseEntry) → WellFormed r → take reverse_slot_size (drop (reverse_slot_size * i) b) ≡ slot_bytes r → key_at b i ≡ key_bytes r.family r.address
  unfolding key_at
  key_of_slot i r w slot = sym (take-take key_size reverse_slot_size (drop (reverse_slot_size * i) b) (omega arith)) ∙ ap (take key_size) slot ∙ slot_key r w

  pub in_slot : (i : ℕ) → i < length rs → InSlot i
  in_slot i lt =
      let c = at_index rs i lt in
      let well = well_at (take i rs) c.0 c.1 c.2 in
      let there = slot_at (take i rs) c.0 c.1 i c.2 c.3 in
      record { entry = c.0; later = c.1; cut = c.2; before = c.3; well_formed = well; slot = there; key = key_of_slot i c.0 well there }

  first_is : (i : ℕ) → get_or b (reverse_slot_size * i) 0 ≡ get_or (take reverse_slot_size (drop (reverse_slot_size * i) b)) 0 0
  first_is i =
      ap (λ (n : ℕ). get_or b n 0) (sym (add-zero (reverse_slot_size * i))) ∙ sym (get_or-drop (reverse_slot_size * i) b 0 0)
      ∙ sym (get_or-take reverse_slot_size (drop (reverse_slot_size * i) b) 0 0 (omega arith))

  -- the first byte says whether a slot is used
  pub used_slot : (i : ℕ) → i < length rs → get_or b (reverse_slot_size * i) 0 ≡ 0 → ⊥
  used_slot i lt z = let s = in_slot i lt in slot_marked s.entry s.well_formed (sym (first_is i ∙ ap (λ (t : List ℕ). get_or t 0 0) s.slot) ∙ z)

  pub unused_slot : length rs < k → take reverse_slot_size (drop (reverse_slot_size * length rs) b) ≡ replicate reverse_slot_size 0
  unused_slot room = unused_there slot_bytes reverse_slot_size WellFormed length_slot k rs b h room

  pub unused_first_byte : length rs < k → get_or b (reverse_slot_size * length rs) 0 ≡ 0
  unused_first_byte room = first_is (length rs) ∙ ap (λ (t : List ℕ). get_or t 0 0) (unused_slot room)

  -- ---- a name placed, and a name taken

  module _ (f : Family) (x : List ℕ) where
    pub placed_bytes : (n : List ℕ) (i : ℕ) → i ≡ place f x rs → i < k
        → take (reverse_slot_size * i) b ++ slot_bytes (entry_at f x n) ++ drop (reverse_slot_size * i + reverse_slot_size) b ≡ reverse_bytes k (placed f x n rs)
    unfolding reverse_bytes
    placed_bytes n i is lt = go (standing f x rs)
      where
        put : ℕ → List ℕ
        put j = take (reverse_slot_size * j) b ++ slot_bytes (entry_at f x n) ++ drop (reverse_slot_size * j + reverse_slot_size) b

        go : Standing f x rs → put i ≡ reverse_bytes k (placed f x n rs)
        go (Standing.nowhere all stands new gone) =
            let last : i ≡ length rs = is ∙ all in
            ap put last ∙ appended slot_bytes reverse_slot_size WellFormed length_slot k rs b h (omega (arith, last)) (entry_at f x n) ∙ ap (reverse_bytes k) (sym (new n))
        go (Standing.at p r q cut where_is stands here new gone) =
            ap put (is ∙ where_is)
            ∙ replaced slot_bytes reverse_slot_size WellFormed length_slot k p r q b (subst (λ (l : List ReverseEntry). IsReverse k l b) cut h) (entry_at f x n)
            ∙ ap (reverse_bytes k) (sym (new n))

    -- nothing stands at the address
    pub taken_nowhere : (n : List ℕ) → place f x rs ≡ length rs → b ≡ reverse_bytes k (taken f x n rs)
    unfolding reverse_bytes
    taken_nowhere n all = go (standing f x rs)
      where
        go : Standing f x rs → b ≡ reverse_bytes k (taken f x n rs)
        go (Standing.nowhere _ stands new gone) = h.form ∙ ap (reverse_bytes k) (sym (gone n))
        go (Standing.at p r q cut where_is stands here new gone) = absurd (omega (arith, all, where_is, ap length cut, length-append p (r ∷ q)))

    module _ (i : ℕ) (is : i ≡ place f x rs) (lt : i < length rs) where
      -- the entry there
      cut_there : (p : List ReverseEntry) (r : ReverseEntry) (q : List ReverseEntry) → rs ≡ p ++ r ∷ q → place f x rs ≡ length p → (in_slot i lt).entry ≡ r
      cut_there p r q cut where_is =
          let s = in_slot i lt in
          one (take i rs) p s.entry r s.later q (s.before ∙ is ∙ where_is) (sym s.cut ∙ cut)
        where
          one : (p o : List ReverseEntry) (e r : ReverseEntry) (l q : List ReverseEntry) → length p ≡ length o → p ++ e ∷ l ≡ o ++ r ∷ q → e ≡ r
          one p o e r l q long same = head_of (append_split {a = p} {b = o} long same).1
            where
              head_of : e ∷ l ≡ r ∷ q → e ≡ r
              head_of z = head-eq_of_cons-eq z

      -- another name stands there, or this one
      pub taken_other : (n : List ℕ) → eq_bytes (in_slot i lt).entry.name n ≡ false → b ≡ reverse_bytes k (taken f x n rs)
      unfolding reverse_bytes
      taken_other n other = go (standing f x rs)
        where
          go : Standing f x rs → b ≡ reverse_bytes k (taken f x n rs)
          go (Standing.nowhere all stands new gone) = h.form ∙ ap (reverse_bytes k) (sym (gone n))
          go (Standing.at p r q cut where_is stands here new gone) =
              let same = ap (λ (e : ReverseEntry). eq_bytes e.name n) (cut_there p r q cut where_is) in
              h.form ∙ ap (reverse_bytes k) (cut ∙ sym (ap (λ (t : Bool). cond t (p ++ q) (p ++ r ∷ q)) (sym same ∙ other)) ∙ sym (gone n))

      pub taken_this : (n : List ℕ) → eq_bytes (in_slot i lt).entry.name n ≡ true → closed_up reverse_slot_size b (reverse_slot_size * i) ≡ reverse_bytes k (taken f x n rs)
      unfolding reverse_bytes
      taken_this n own = go (standing f x rs)
        where
          go : Standing f x rs → closed_up reverse_slot_size b (reverse_slot_size * i) ≡ reverse_bytes k (taken f x n rs)
          go (Standing.nowhere all stands new gone) = absurd (omega (arith, all, is))
          go (Standing.at p r q cut where_is stands here new gone) =
              let same = ap (λ (e : ReverseEntry). eq_bytes e.name n) (cut_there p r q cut where_is) in
              ap (λ (j : ℕ). closed_up reverse_slot_size b (reverse_slot_size * j)) (is ∙ where_is)
              ∙ taken_out slot_bytes reverse_slot_size WellFormed length_slot k p r q b (subst (λ (l : List ReverseEntry). IsReverse k l b) cut h)
              ∙ ap (reverse_bytes k) (sym (ap (λ (t : Bool). cond t (p ++ q) (p ++ r ∷ q)) (sym same ∙ own)) ∙ sym (gone n))

    -- ---- the search by keys finds the place

    module _ (size : length x ≡ address_size f) (r : ℕ) (first : FirstKey b (key_bytes f x) (length rs) r) where
      not_later : place f x rs ≤ r
      not_later = by_ltb r (length rs) found (λ ge. omega (arith, place_low f x rs))
        where
          found : r < length rs → place f x rs ≤ r
          found lt =
              let s = in_slot r lt in
              let here = at_key f x s.entry size s.well_formed (sym s.key ∙ first.there lt) in
              omega (arith, place_most f x (take r rs) s.entry s.later here, ap (place f x) s.cut, s.before)

      not_earlier : r ≤ place f x rs
      not_earlier = go (standing f x rs)
        where
          go : Standing f x rs → r ≤ place f x rs
          go (Standing.nowhere all stands new gone) = omega (arith, all, first.low)
          go (Standing.at p c q cut where_is stands here new gone) =
              by_ltb (length p) r (λ lt. absurd (first.before (length p) lt (key_of_slot (length p) c (well_at p c q cut) (slot_at p c q (length p) cut refl) ∙ key_at_lem f x c here))) (λ ge. omega (arith, where_is))

      pub first_key_place : r ≡ place f x rs
      first_key_place = omega (arith, not_later, not_earlier)

  -- ---- no address twice

  -- two entries, one behind the other, by the keys of their slots
  module _ (p : List ReverseEntry) (e : ReverseEntry) (m : List ReverseEntry) (c : ReverseEntry) (q : List ReverseEntry) (cut : rs ≡ p ++ e ∷ (m ++ c ∷ q)) where
    first_of_two : key_at b (length p) ≡ key_bytes e.family e.address
    first_of_two = key_of_slot (length p) e (well_at p e (m ++ c ∷ q) cut) (slot_at p e (m ++ c ∷ q) (length p) cut refl)

    regrouped : rs ≡ (p ++ e ∷ m) ++ c ∷ q
    regrouped = cut ∙ sym (append_assoc p (e ∷ m) (c ∷ q))

    second_of_two : (i : ℕ) → length p + suc (length m) ≡ i → key_at b i ≡ key_bytes c.family c.address
    second_of_two i is = key_of_slot i c (well_at (p ++ e ∷ m) c q regrouped) (slot_at (p ++ e ∷ m) c q i regrouped (length-append p (e ∷ m) ∙ is))

  pub single_apart : Single rs → (i j : ℕ) → i < length rs → j < i → key_at b j ≡ key_at b i → ⊥
  single_apart single i j lt before same =
      let s = in_slot j (omega arith) in
      let long : length rs ≡ j + suc (length s.later) = ap length s.cut ∙ length-append (take j rs) (s.entry ∷ s.later) ∙ ap (λ (n : ℕ). n + suc (length s.later)) s.before in
      let c = at_index s.later (i - suc j) (omega arith) in
      let m = take (i - suc j) s.later in
      let cut : rs ≡ take j rs ++ s.entry ∷ (m ++ c.0 ∷ c.1) = s.cut ∙ ap (λ (l : List ReverseEntry). take j rs ++ s.entry ∷ l) c.2 in
      let key : key_at b i ≡ key_bytes c.0.family c.0.address = second_of_two (take j rs) s.entry m c.0 c.1 cut i (omega (arith, s.before, c.3)) in
      let well = well_at (take j rs ++ s.entry ∷ m) c.0 c.1 (regrouped (take j rs) s.entry m c.0 c.1 cut) in
      let here = at_key s.entry.family s.entry.address c.0 s.well_formed.sized well (sym key ∙ sym same ∙ s.key) in
      true≢false (sym here ∙ every_middle m c.1 c.0 (apart_later (take j rs) s.entry (m ++ c.0 ∷ c.1) (subst Single cut single)))

  pub apart_single : ((i j : ℕ) → i < length rs → j < i → key_at b j ≡ key_at b i → ⊥) → Single rs
  apart_single apart =
      single_from rs
      (λ p e m c q cut here.
      apart (length p + suc (length m)) (length p) (omega (arith, ap length cut, length-append p (e ∷ (m ++ c ∷ q)), length-append m (c ∷ q))) (omega arith)
      (first_of_two p e m c q cut ∙ sym (key_at_lem e.family e.address c here) ∙ sym (second_of_two p e m c q cut (length p + suc (length m)) refl)))
