-- The bytes of a row of slots, slot by slot: what stands at an index, what the row is with another entry there, with one more or with one less, and that bytes
-- determine the entries. One law for every size of a slot and every number of places. Assumes nothing.
use Prim.Native.Nat.{ℕ, zero, suc, ◌+◌, ◌-◌, ◌*◌, ◌≤◌, ◌<◌}
use mathlib.Core.Bool.{Bool}
use mathlib.Core.Path.{◌≡◌, refl, sym, ap, ap₂, subst, ◌∙◌}
use mathlib.Core.List.{List, [], ◌∷◌, ◌++◌, append_assoc, append-nil}
use native.Mathlib.Nat.{add-zero, mul-zero, mul-suc, mul-add, suc-ne-zero}
use native.Mathlib.Omega.{arith}
use lib.ListN.{length, take, drop, get_or, replicate, length-append, length-drop, length-replicate, get_or-replicate, take-append-drop, drop_of_length-le, replicate-append-replicate}
use lib.Seq.{take_at, drop_at, drop-drop, get_or-take, get_or-drop, length-take-le}
use Rattle.base.specs.Bytes.{closed_up}
use Rattle.base.specs.Logic.{Every, Decides}
use Rattle.base.specs.Rows.{in_slots, row_bytes, IsRow}
use Rattle.base.proofs.Bytes.{take_replicate, drop_replicate}
use Rattle.base.proofs.Lists.{every_left, every_middle, every_right}

-- how many bytes so many slots have, and one more
more_slots : (size k : ℕ) → size * suc k ≡ size + size * k
more_slots size k = mul-suc size k ∙ omega arith

module _ {E : Type 0} (slot : E → List ℕ) (size : ℕ) where
  pub row_none : (k : ℕ) → row_bytes slot size k [] ≡ replicate (size * k) 0
  unfolding row_bytes in_slots
  row_none k = let all : k - 0 ≡ k = omega arith in ap (λ (j : ℕ). replicate (size * j) 0) all

  pub row_more : (k : ℕ) (e : E) (es : List E) → row_bytes slot size (suc k) (e ∷ es) ≡ slot e ++ row_bytes slot size k es
  unfolding row_bytes in_slots
  row_more k e es =
      let less : suc k - suc (length es) ≡ k - length es = omega arith in
      append_assoc (slot e) (in_slots slot es) (replicate (size * (suc k - suc (length es))) 0)
      ∙ ap (λ (j : ℕ). slot e ++ (in_slots slot es ++ replicate (size * j) 0)) less

  slots_append : (p r : List E) → in_slots slot (p ++ r) ≡ in_slots slot p ++ in_slots slot r
  unfolding in_slots
  slots_append [] r = refl
  slots_append (e ∷ p) r = ap (λ (b : List ℕ). slot e ++ b) (slots_append p r) ∙ sym (append_assoc (slot e) (in_slots slot p) (in_slots slot r))

  -- the slots of p, and then a smaller row
  pub row_split : (k : ℕ) (p r : List E) → row_bytes slot size k (p ++ r) ≡ in_slots slot p ++ row_bytes slot size (k - length p) r
  unfolding row_bytes
  row_split k p r =
      let left : k - length (p ++ r) ≡ k - length p - length r = omega (arith, length-append p r) in
      ap₂ (λ (b : List ℕ) (n : ℕ). b ++ replicate (size * n) 0) (slots_append p r) left
      ∙ append_assoc (in_slots slot p) (in_slots slot r) (replicate (size * (k - length p - length r)) 0)

module _ {E : Type 0} (slot : E → List ℕ) (size : ℕ) (WellFormed : E → Type 0) (sized : (e : E) → WellFormed e → length (slot e) ≡ size) where
  pub length_slots : (es : List E) → Every WellFormed es → length (in_slots slot es) ≡ size * length es
  unfolding in_slots
  length_slots [] Every.none = sym (mul-zero size)
  length_slots (e ∷ es) (Every.more w each) =
      length-append (slot e) (in_slots slot es) ∙ ap₂ ◌+◌ (sized e w) (length_slots es each) ∙ sym (more_slots size (length es))

  -- ---- cut at an index

  module _ (k : ℕ) (p r : List E) (b : List ℕ) (h : IsRow slot size WellFormed k (p ++ r) b) where
    front_size : length (in_slots slot p) ≡ size * length p
    front_size = length_slots p (every_left p r h.each)

    cut : b ≡ in_slots slot p ++ row_bytes slot size (k - length p) r
    cut = h.form ∙ row_split slot size k p r

    before : take (size * length p) b ≡ in_slots slot p
    before = ap (take (size * length p)) cut ∙ take_at (in_slots slot p) (row_bytes slot size (k - length p) r) (size * length p) front_size

    after : drop (size * length p) b ≡ row_bytes slot size (k - length p) r
    after = ap (drop (size * length p)) cut ∙ drop_at (in_slots slot p) (row_bytes slot size (k - length p) r) (size * length p) front_size

    behind_slot : drop (size * length p + size) b ≡ drop size (row_bytes slot size (k - length p) r)
    behind_slot = sym (drop-drop size (size * length p) b) ∙ ap (drop size) after

    -- another slot there, and in what stands behind it the entries q
    put_slot : (e : E) (q : List E) → length p < k → drop size (row_bytes slot size (k - length p) r) ≡ row_bytes slot size (k - length p - 1) q
        → take (size * length p) b ++ slot e ++ drop (size * length p + size) b ≡ row_bytes slot size k (p ++ e ∷ q)
    put_slot e q room rest =
        let less : suc (k - length p - 1) ≡ k - length p = omega arith in
        ap₂ (λ (u v : List ℕ). u ++ slot e ++ v) before (behind_slot ∙ rest)
        ∙ append_assoc (in_slots slot p) (slot e) (row_bytes slot size (k - length p - 1) q)
        ∙ ap (λ (v : List ℕ). in_slots slot p ++ v) (sym (row_more slot size (k - length p - 1) e q) ∙ ap (λ (n : ℕ). row_bytes slot size n (e ∷ q)) less)
        ∙ sym (row_split slot size k p (e ∷ q))

  -- the entries from one on
  pub rest_row : (i k : ℕ) (es : List E) (b : List ℕ) → IsRow slot size WellFormed k es b → i ≤ length es → IsRow slot size WellFormed (k - i) (drop i es) (drop (size * i) b)
  rest_row i k es b h low =
      let whole_list : take i es ++ drop i es ≡ es = take-append-drop i es in
      let g = subst (λ (l : List E). IsRow slot size WellFormed k l b) (sym whole_list) h in
      let long : length (take i es) ≡ i = length-take-le i es low in
      record {
        each = every_right (take i es) (drop i es) g.each;
        room = omega (arith, h.room, length-drop i es);
        form = ap (λ (n : ℕ). drop (size * n) b) (sym long) ∙ after k (take i es) (drop i es) b g ∙ ap (λ (n : ℕ). row_bytes slot size (k - n) (drop i es)) long;
      }

  -- at an entry
  module _ (k : ℕ) (p : List E) (e : E) (r : List E) (b : List ℕ) (h : IsRow slot size WellFormed k (p ++ e ∷ r) b) where
    entry_well_formed : WellFormed e
    entry_well_formed = every_middle p r e h.each

    within : length p < k
    within = omega (arith, h.room, length-append p (e ∷ r))

    split : row_bytes slot size (k - length p) (e ∷ r) ≡ slot e ++ row_bytes slot size (k - length p - 1) r
    split =
        let less : k - length p ≡ suc (k - length p - 1) = omega (arith, within) in
        ap (λ (n : ℕ). row_bytes slot size n (e ∷ r)) less ∙ row_more slot size (k - length p - 1) e r

    rest_behind : drop size (row_bytes slot size (k - length p) (e ∷ r)) ≡ row_bytes slot size (k - length p - 1) r
    rest_behind = ap (drop size) split ∙ drop_at (slot e) (row_bytes slot size (k - length p - 1) r) size (sized e entry_well_formed)

    pub slot_there : take size (drop (size * length p) b) ≡ slot e
    slot_there = ap (take size) (after k p (e ∷ r) b h ∙ split) ∙ take_at (slot e) (row_bytes slot size (k - length p - 1) r) size (sized e entry_well_formed)

    pub replaced : (f : E) → take (size * length p) b ++ slot f ++ drop (size * length p + size) b ≡ row_bytes slot size k (p ++ f ∷ r)
    replaced f = put_slot k p (e ∷ r) b h f r within rest_behind

    pub taken_out : closed_up size b (size * length p) ≡ row_bytes slot size k (p ++ r)
    unfolding closed_up row_bytes
    taken_out =
        let j = k - length p - 1 in
        let rest : drop (size * length p + size) b ≡ in_slots slot r ++ replicate (size * (j - length r)) 0 = behind_slot k p (e ∷ r) b h ∙ rest_behind in
        let count : k - length p - length r ≡ suc (j - length r) = omega (arith, h.room, length-append p (e ∷ r)) in
        let more : size * (j - length r) + size ≡ size * (k - length p - length r) = sym (mul-suc size (j - length r)) ∙ ap (λ (n : ℕ). size * n) (sym count) in
        ap₂ (λ (u v : List ℕ). u ++ v ++ replicate size 0) (before k p (e ∷ r) b h) rest
        ∙ append_assoc (in_slots slot p) (in_slots slot r ++ replicate (size * (j - length r)) 0) (replicate size 0)
        ∙ ap (λ (v : List ℕ). in_slots slot p ++ v)
        (append_assoc (in_slots slot r) (replicate (size * (j - length r)) 0) (replicate size 0)
        ∙ ap (λ (v : List ℕ). in_slots slot r ++ v) (replicate-append-replicate (size * (j - length r)) size 0 ∙ ap (λ (n : ℕ). replicate n 0) more))
        ∙ sym (row_split slot size k p r)

  -- behind the last entry
  module _ (k : ℕ) (es : List E) (b : List ℕ) (h : IsRow slot size WellFormed k es b) where
    whole : IsRow slot size WellFormed k (es ++ []) b
    whole = rw append-nil h

    pub unused_from : drop (size * length es) b ≡ replicate (size * (k - length es)) 0
    unused_from = after k es [] b whole ∙ row_none slot size (k - length es)

    pub length_row : length b ≡ size * k
    unfolding row_bytes
    length_row =
        let all : length es + (k - length es) ≡ k = omega (arith, h.room) in
        ap length h.form ∙ length-append (in_slots slot es) (replicate (size * (k - length es)) 0)
        ∙ ap₂ ◌+◌ (length_slots es h.each) (length-replicate {A = ℕ} (size * (k - length es)) 0)
        ∙ sym (mul-add size (length es) (k - length es)) ∙ ap (λ (n : ℕ). size * n) all

    module _ (room : length es < k) where
      one_less : size * (k - length es) ≡ size + size * (k - length es - 1)
      one_less = let less : k - length es ≡ suc (k - length es - 1) = omega arith in ap (λ (n : ℕ). size * n) less ∙ more_slots size (k - length es - 1)

      pub unused_there : take size (drop (size * length es) b) ≡ replicate size 0
      unused_there = ap (take size) unused_from ∙ take_replicate size (size * (k - length es)) 0 (omega (arith, one_less))

      pub appended : (e : E) → take (size * length es) b ++ slot e ++ drop (size * length es + size) b ≡ row_bytes slot size k (es ++ e ∷ [])
      appended e =
          let less : size * (k - length es) - size ≡ size * (k - length es - 1) = omega (arith, one_less) in
          put_slot k es [] b whole e [] room
          (ap (drop size) (row_none slot size (k - length es)) ∙ drop_replicate size (size * (k - length es)) 0 ∙ ap (λ (n : ℕ). replicate n 0) less ∙ sym (row_none slot size (k - length es - 1)))

-- ---- the first byte of a slot, which an entry's does not have 0, says whether it is used

module _ {E : Type 0} (slot : E → List ℕ) (size : ℕ) (WellFormed : E → Type 0) (sized : (e : E) → WellFormed e → length (slot e) ≡ size)
    (some : 1 ≤ size) (marked : (e : E) → WellFormed e → get_or (slot e) 0 0 ≡ 0 → ⊥) where
  -- P holds of the entries whose row is b
  abbrev Row : ℕ → List E → List ℕ → Type 0
  Row = IsRow slot size WellFormed

  -- what stands first: zeros, or a slot with the rest of the row behind it
  data Front (k : ℕ) (b : List ℕ) : List E → Type 0 where
    unused : b ≡ replicate (size * k) 0 → Front k b []
    used : {e : E} {es : List E} (j : ℕ) → k ≡ suc j → WellFormed e → take size b ≡ slot e → Row j es (drop size b) → Front k b (e ∷ es)

  front_at : (k : ℕ) (es : List E) (b : List ℕ) → Every WellFormed es → length es ≤ k → b ≡ row_bytes slot size k es → Front k b es
  front_at k [] b each room form = Front.unused (form ∙ row_none slot size k)
  front_at zero (e ∷ es) b each room form = absurd (omega arith)
  front_at (suc k) (e ∷ es) b (Every.more w each) room form =
      let cut_there = form ∙ row_more slot size k e es in
      Front.used k refl w
      (ap (take size) cut_there ∙ take_at (slot e) (row_bytes slot size k es) size (sized e w))
      (record { each = each; room = omega arith; form = ap (drop size) cut_there ∙ drop_at (slot e) (row_bytes slot size k es) size (sized e w) })

  front : (k : ℕ) (es : List E) (b : List ℕ) → Row k es b → Front k b es
  front k es b h = front_at k es b h.each h.room h.form

  pub behind_first : (k : ℕ) (e : E) (es : List E) (b : List ℕ) → WellFormed e → take size b ≡ slot e → Row k es (drop size b) → Row (suc k) (e ∷ es) b
  behind_first k e es b w first rest =
      record {
        each = Every.more w rest.each;
        room = omega (arith, rest.room);
        form = sym (take-append-drop size b) ∙ ap₂ ◌++◌ first rest.form ∙ sym (row_more slot size k e es);
      }

  pub nothing_in : (k : ℕ) (b : List ℕ) → b ≡ replicate (size * k) 0 → Row k [] b
  nothing_in k b zeros = record { each = Every.none; room = omega arith; form = zeros ∙ sym (row_none slot size k) }

  zero_first : (k : ℕ) (b : List ℕ) → 0 < k → b ≡ replicate (size * k) 0 → get_or b 0 0 ≡ 0
  zero_first zero b more e = absurd (omega arith)
  zero_first (suc k) b more e = ap (λ (s : List ℕ). get_or s 0 0) e ∙ get_or-replicate (size * suc k) 0 0 0 (omega (arith, more_slots size k, some))

  first_of : (e : E) (b : List ℕ) → take size b ≡ slot e → get_or b 0 0 ≡ get_or (slot e) 0 0
  first_of e b first = sym (get_or-take size b 0 0 (omega (arith, some))) ∙ ap (λ (s : List ℕ). get_or s 0 0) first

  module _ (k : ℕ) (b : List ℕ) where
    pub unused_first : get_or b 0 0 ≡ 0 → (es : List E) → Row k es b → (es ≡ []) × (b ≡ replicate (size * k) 0)
    unused_first z es h = go es (front k es b h)
      where
        go : (es : List E) → Front k b es → (es ≡ []) × (b ≡ replicate (size * k) 0)
        go [] (Front.unused e) = (refl, e)
        go (e ∷ es) (Front.used j eq w first rest) = absurd (marked e w (sym (first_of e b first) ∙ z))

    pub record UsedFirst (es : List E) : Type 0 where
      pub entry : E
      pub later : List E
      pub order : es ≡ entry ∷ later
      pub well_formed : WellFormed entry
      pub first : take size b ≡ slot entry
      pub left : ℕ
      pub limit : k ≡ suc left
      pub rest : Row left later (drop size b)

    pub used_first : (0 < k) → (get_or b 0 0 ≡ 0 → ⊥) → (es : List E) → Row k es b → UsedFirst es
    used_first more nz es h = go es (front k es b h)
      where
        go : (es : List E) → Front k b es → UsedFirst es
        go [] (Front.unused e) = absurd (nz (zero_first k b more e))
        go (e ∷ es) (Front.used j eq w first rest) = record { entry = e; later = es; order = refl; well_formed = w; first = first; left = j; limit = eq; rest = rest }

  -- ---- a loop that looks at each slot

  -- some entries are those of the row
  abbrev pub SomeRow : ℕ → List ℕ → Type 0
  SomeRow k b = (es : List E) × Row k es b

  -- what is a row from slot i on makes all of it one, and the other way round
  pub record RowReached (k : ℕ) (b : List ℕ) (i : ℕ) : Type 0 where
    pub low : i ≤ k
    pub forth : SomeRow (k - i) (drop (size * i) b) → SomeRow k b
    pub back : SomeRow k b → SomeRow (k - i) (drop (size * i) b)

  same_limit : (j k : ℕ) (b c : List ℕ) → j ≡ k → b ≡ c → SomeRow j b → SomeRow k c
  same_limit j k b c e f h = subst (λ (n : ℕ). SomeRow n c) e (subst (SomeRow j) f h)

  none_dropped : (b : List ℕ) → drop (size * 0) b ≡ b
  none_dropped b = ap (λ (n : ℕ). drop n b) (mul-zero size)

  pub row_reached_none : (k : ℕ) (b : List ℕ) → RowReached k b 0
  row_reached_none k b =
      let all : k - 0 ≡ k = omega arith in
      record { low = omega arith; forth = λ h. same_limit (k - 0) k _ _ all (none_dropped b) h; back = λ h. same_limit k (k - 0) _ _ (sym all) (sym (none_dropped b)) h }

  module _ (k : ℕ) (b : List ℕ) (i : ℕ) (r : RowReached k b i) (more : i < k) where
    next_is : drop size (drop (size * i) b) ≡ drop (size * (i + 1)) b
    next_is = let e : size * i + size ≡ size * (i + 1) = sym (mul-suc size i) ∙ ap (λ (n : ℕ). size * n) (omega arith) in drop-drop size (size * i) b ∙ ap (λ (n : ℕ). drop n b) e

    first_here : get_or b (size * i) 0 ≡ get_or (drop (size * i) b) 0 0
    first_here = ap (λ (n : ℕ). get_or b n 0) (sym (add-zero (size * i))) ∙ sym (get_or-drop (size * i) b 0 0)

    module _ (nz : get_or b (size * i) 0 ≡ 0 → ⊥) where
      used_here : (h : SomeRow k b) → UsedFirst (k - i) (drop (size * i) b) (r.back h).0
      used_here h = let g = r.back h in used_first (k - i) (drop (size * i) b) (omega arith) (λ z. nz (first_here ∙ z)) g.0 g.1

      pub row_reached_more : (e : E) → WellFormed e → take size (drop (size * i) b) ≡ slot e → RowReached k b (i + 1)
      row_reached_more e w there =
          let less : k - i ≡ suc (k - (i + 1)) = omega arith in
          record {
            low = omega arith;
            forth = λ h.
                r.forth
                (same_limit (suc (k - (i + 1))) (k - i) _ _ (sym less) refl
                (e ∷ h.0, behind_first (k - (i + 1)) e h.0 (drop (size * i) b) w there (subst (Row (k - (i + 1)) h.0) (sym next_is) h.1)));
            back = λ h.
                let u = used_here h in
                let left : u.left ≡ k - (i + 1) = omega (arith, u.limit) in
                same_limit u.left (k - (i + 1)) _ _ left next_is (u.later, u.rest);
          }

      -- a used slot that is none
      pub row_no_slot : ((e : E) → WellFormed e → take size (drop (size * i) b) ≡ slot e → ⊥) → SomeRow k b → ⊥
      row_no_slot none_here h = let u = used_here h in none_here u.entry u.well_formed u.first

    -- an unused slot: whether the rest is zeros decides
    pub row_unused_decides : get_or b (size * i) 0 ≡ 0 → length b ≡ size * k → (d : Bool) (rest : List ℕ) → rest ≡ drop (size * i) b → Decides d (rest ≡ replicate (length rest) 0) → Decides d (SomeRow k b)
    row_unused_decides z long d rest e decides =
        let all : i + (k - i) ≡ k = omega (arith, r.low) in
        let cut_size : size * k ≡ size * i + size * (k - i) = ap (λ (n : ℕ). size * n) (sym all) ∙ mul-add size i (k - i) in
        let rest_size : length rest ≡ size * (k - i) = ap length e ∙ length-drop (size * i) b ∙ omega (arith, long, cut_size) in
        let zeros : replicate {A = ℕ} (length rest) 0 ≡ replicate (size * (k - i)) 0 = ap (λ (n : ℕ). replicate n 0) rest_size in
        record {
          if_true = λ t. r.forth ([], nothing_in (k - i) (drop (size * i) b) (sym e ∙ decides.if_true t ∙ zeros));
          if_false = λ f h. let g = r.back h in decides.if_false f (e ∙ (unused_first (k - i) (drop (size * i) b) (sym first_here ∙ z) g.0 g.1).1 ∙ sym zeros);
        }

  pub row_reached_all : (k : ℕ) (b : List ℕ) (i : ℕ) → RowReached k b i → k ≤ i → length b ≡ size * k → SomeRow k b
  row_reached_all k b i r all long =
      let here : i ≡ k = omega (arith, r.low) in
      let none_left : k - i ≡ 0 = omega arith in
      r.forth (
        [],
        nothing_in (k - i) (drop (size * i) b)
            (drop_of_length-le b {i = size * i} (omega (arith, long, ap (λ (n : ℕ). size * n) here)) ∙ sym (ap (λ (n : ℕ). replicate n 0) (ap (λ (n : ℕ). size * n) none_left ∙ mul-zero size))),
      )

  -- ---- bytes determine the entries, if those of a slot determine its entry

  module _ (same : (e f : E) → WellFormed e → WellFormed f → slot e ≡ slot f → e ≡ f) where
    pub one_row : (k : ℕ) (es fs : List E) (b : List ℕ) → Row k es b → Row k fs b → es ≡ fs
    one_row zero es fs b h g = drop_of_length-le es {i = 0} h.room ∙ sym (drop_of_length-le fs {i = 0} g.room)
    one_row (suc k) es fs b h g = go (get_or b 0 0) refl (λ s r. one_row k s r (drop size b))
      where
        go : (v : ℕ) → get_or b 0 0 ≡ v → ((s r : List E) → Row k s (drop size b) → Row k r (drop size b) → s ≡ r) → es ≡ fs
        go zero z below = (unused_first (suc k) b z es h).0 ∙ sym (unused_first (suc k) b z fs g).0
        go (suc v) z below =
            let nz : get_or b 0 0 ≡ 0 → ⊥ = λ y. suc-ne-zero v (sym z ∙ y) in
            let x = used_first (suc k) b (omega arith) nz es h in
            let y = used_first (suc k) b (omega arith) nz fs g in
            let left : x.left ≡ k = omega (arith, x.limit) in
            let left' : y.left ≡ k = omega (arith, y.limit) in
            x.order
            ∙ ap₂ ◌∷◌ (same x.entry y.entry x.well_formed y.well_formed (sym x.first ∙ y.first))
            (below x.later y.later (subst (λ (n : ℕ). Row n x.later (drop size b)) left x.rest) (subst (λ (n : ℕ). Row n y.later (drop size b)) left' y.rest))
            ∙ sym y.order
