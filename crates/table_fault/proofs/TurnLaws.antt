-- One record more in a sweep: its name is kept already, is kept now, or cannot be. Assumes nothing.
use Prim.Native.Nat.{ℕ, ◌+◌, ◌/◌, ◌%◌, ◌≤◌, ◌<◌}
use mathlib.Core.Bool.{Bool, true, false, true≢false}
use mathlib.Core.Path.{◌≡◌, refl, sym, ap, subst, subst₂, ◌∙◌}
use mathlib.Core.Logic.{⊎_elim}
use mathlib.Core.List.{List, [], ◌∷◌, ◌++◌, append_assoc, append-nil}
use native.Mathlib.Nat.{zero-add, eq-or-lt_of_le}
use native.Mathlib.Omega.{arith}
use lib.Dec.{eqb}
use lib.ListN.{length, drop, get_or, set, length-set, length-append, get_or-append}
use lib.Seq.{get_or-set_same, get_or-set_other, get_or_at, append_snoc}
use borrow.Author.Tests.{eqb-true, eqb-false}
use Rattle.grammar.specs.Listing.{RecordType, ResourceRecord}
use Rattle.entry.specs.Held.{type_number}
use Rattle.listing.specs.Giving.{Last, Gives}
use Rattle.records.specs.Gathered.{data_of, owners}
use Rattle.records.proofs.OwnerLaws.{among, owners_known, owners_new, owners_distinct, no_data}
use Rattle.slots.specs.Sizes.{most_names, most_records}
use Rattle.table_fault.specs.Judging.{IndexOf, Placed}
use Rattle.table_fault.specs.Sweeping.{mark, type_bit, BeginsWith, MarkedAt, AllMarked, Met, SameFrom}
use Rattle.table_fault.specs.declared.Swept.{Swept}
use Rattle.table_fault.proofs.IndexLaws.{at_among, distinct_at}
use Rattle.table_fault.proofs.TypeLaws.{Flagged, flagged_none, flagged_more, flagged_other}
use Rattle.table_fault.proofs.PlacedLaws.{placed_more}
use Rattle.table_fault.proofs.SweepLaws.{index_known, index_new, Left, all_kept, some_left, SweptTo}

-- no flag is set in 0
unset : (k : RecordType) → 0 / type_bit (type_number k) % 2 ≡ 1 → ⊥
unset RecordType.A e = omega arith
unset RecordType.AAAA e = omega arith
unset RecordType.DHCID e = omega arith

-- one more seen
moved_on : (a b : List ResourceRecord) (r : ResourceRecord) (l ahead : List ResourceRecord) → a ≡ b ++ ahead → ahead ≡ r ∷ l → a ≡ b ++ r ∷ [] ++ l
moved_on a b r l ahead e o = e ∙ ap (λ (x : List ResourceRecord). b ++ x) o ∙ sym (append_snoc b r l)

-- an entry that is no record
pub swept_still : (t : List ℕ) (from : ℕ) (l : Last) (ps₀ : List ℕ) {rs : List ResourceRecord} {starts marks types : List ℕ} {used rest at : ℕ} {ps : List ℕ} {count : ℕ} (w : SweptTo t from l ps₀ rs starts marks types used rest at ps count)
    (next : ℕ) → at < next → Gives t next w.ahead l → SweptTo t from l ps₀ rs starts marks types used rest next ps count
swept_still t from l ps₀ w next further g =
    record {
      seen = w.seen;
      ahead = w.ahead;
      before = w.before;
      after = w.after;
      order = w.order;
      parts = w.parts;
      gives = g;
      kept = w.kept;
      long = w.long;
      room = w.room;
      flags = w.flags;
      on = omega (arith, w.on);
      moved = λ some. omega (arith, w.on);
      left = w.left;
      starts_size = w.starts_size;
      marks_size = w.marks_size;
      types_size = w.types_size;
      counted = w.counted;
      few = omega (arith, w.few);
      placed = w.placed;
      behind = w.behind;
      slots_size = w.slots_size;
    }

module _ (t : List ℕ) (from : ℕ) (l : Last) (ps₀ : List ℕ) {rs : List ResourceRecord} {starts marks types : List ℕ} {used rest at : ℕ} {ps : List ℕ} {count : ℕ} (w : SweptTo t from l ps₀ rs starts marks types used rest at ps count)
    (s : Swept) (further : at < s.next) (m : Met t at (owners w.before) w.ahead l s) (ps' : List ℕ) (n : ℕ) (noted : ps' ≡ set ps count s.index) (one_more : n ≡ count + 1) where
  abbrev r : ResourceRecord
  r = m.head

  abbrev ns : List (List ℕ)
  ns = owners w.before

  abbrev seen' : List ResourceRecord
  seen' = w.seen ++ r ∷ []

  order' : rs ≡ seen' ++ m.later
  order' = moved_on rs w.seen r m.later w.ahead w.order m.order

  -- the record goes behind those that are left
  parts_left : seen' ≡ w.before ++ (w.after ++ r ∷ [])
  parts_left = ap (λ (x : List ResourceRecord). x ++ r ∷ []) w.parts ∙ append_assoc w.before w.after (r ∷ [])

  later_left : (rest : ℕ) → Gives t rest (w.after ++ w.ahead) l → Gives t rest (w.after ++ r ∷ [] ++ m.later) l
  later_left rest g = subst (λ (x : List ResourceRecord). Gives t rest x l) (moved_on (w.after ++ w.ahead) w.after r m.later w.ahead refl m.order) g

  -- or behind those whose names are kept
  parts_kept : w.after ≡ [] → seen' ≡ w.before ++ r ∷ [] ++ []
  parts_kept none =
      ap (λ (x : List ResourceRecord). x ++ r ∷ []) (w.parts ∙ ap (λ (x : List ResourceRecord). w.before ++ x) none ∙ append-nil w.before) ∙ sym (append-nil (w.before ++ r ∷ []))

  -- where its name stands was noted
  count_more : n ≡ length seen'
  count_more = omega (arith, w.counted, length-append w.seen (r ∷ []))

  behind_still : SameFrom n ps₀ ps'
  unfolding SameFrom
  behind_still j le =
      let other : j ≡ count → ⊥ = λ e. omega arith in
      ap (λ (x : List ℕ). get_or x j 0) noted ∙ get_or-set_other ps count j s.index 0 other ∙ w.behind j (omega arith)

  size_still : length ps' ≡ most_records
  size_still = ap length noted ∙ length-set ps count s.index ∙ w.slots_size

  placed_on : rest ≡ length t → w.after ≡ [] → length seen' ≤ most_records → Placed seen' ps'
  placed_on whole none fits =
      let before : w.before ≡ w.seen = sym (w.parts ∙ ap (λ (x : List ResourceRecord). w.before ++ x) none ∙ append-nil w.before) in
      subst (Placed seen') (sym noted)
      (placed_more w.seen r ps s.index count w.counted (omega (arith, count_more, w.counted, w.slots_size)) (w.placed whole (omega (arith, count_more, w.counted)))
      (subst (λ (x : List ResourceRecord). IndexOf (owners x) r.owner s.index) before m.there))

  gives_here : Gives t at (r ∷ m.later) l
  gives_here = subst (λ (x : List ResourceRecord). Gives t at x l) m.order w.gives

  -- ---- the name is kept already, and has no record of that type

  module _ (lt : s.index < used) (free : get_or types s.index 0 / s.bit % 2 ≡ 1 → ⊥) where
    abbrev i : ℕ
    i = s.index

    abbrev types' : List ℕ
    types' = set types i (get_or types i 0 + s.bit)

    own : get_or ns i [] ≡ r.owner
    own = index_known ns r.owner i m.there (omega (arith, w.long))

    known : among r.owner ns ≡ true
    known = at_among r.owner ns i (omega (arith, w.long)) own

    flags_own : Flagged (get_or ns i []) seen' (get_or types' i 0)
    flags_own =
        let f = flagged_more (get_or ns i []) w.seen r (sym own) (w.flags i lt) (λ e. free (ap (λ (b : ℕ). get_or types i 0 / b % 2) m.bit ∙ e)) in
        let v : get_or types i 0 + type_bit (type_number r.rtype) ≡ get_or types' i 0 =
        sym (get_or-set_same types i (get_or types i 0 + s.bit) 0 (omega (arith, w.room, w.types_size)) ∙ ap (λ (b : ℕ). get_or types i 0 + b) m.bit) in
        subst (Flagged (get_or ns i []) seen') v f

    flags_else : (j : ℕ) → j < used → (j ≡ i → ⊥) → Flagged (get_or ns j []) seen' (get_or types' j 0)
    flags_else j lj d =
        let other : r.owner ≡ get_or ns j [] → ⊥ = λ e. d (sym (distinct_at ns (owners_distinct w.before) i j (omega (arith, w.long)) (omega (arith, w.long)) (own ∙ e))) in
        subst (Flagged (get_or ns j []) seen') (sym (get_or-set_other types i j (get_or types i 0 + s.bit) 0 d)) (flagged_other (get_or ns j []) w.seen r other (w.flags j lj))

    flags_known : (j : ℕ) → j < used → Flagged (get_or ns j []) seen' (get_or types' j 0)
    flags_known j lj = go (eqb j i) refl
      where
        go : (b : Bool) → eqb j i ≡ b → Flagged (get_or ns j []) seen' (get_or types' j 0)
        go true e = subst (λ (k : ℕ). Flagged (get_or ns k []) seen' (get_or types' k 0)) (sym (eqb-true j i e)) flags_own
        go false e = flags_else j lj (eqb-false j i e)

    known_by : Left t from l ps₀ w.before w.after w.ahead used rest → SweptTo t from l ps₀ rs starts marks types' used rest s.next ps' n
    known_by (all_kept e none) =
        let same = owners_known w.before r known in
        record {
          seen = seen';
          ahead = m.later;
          before = w.before ++ r ∷ [];
          after = [];
          order = order';
          parts = parts_kept none;
          gives = m.gives;
          kept = subst (AllMarked t starts marks) (sym same) w.kept;
          long = w.long ∙ ap length (sym same);
          room = w.room;
          flags = λ j lj. subst (λ (l : List (List ℕ)). Flagged (get_or l j []) seen' (get_or types' j 0)) (sym same) (flags_known j lj);
          on = omega (arith, w.on, further);
          moved = λ some. omega (arith, w.on, further);
          left = all_kept e refl;
          starts_size = w.starts_size;
          marks_size = w.marks_size;
          types_size = length-set types i (get_or types i 0 + s.bit) ∙ w.types_size;
          counted = count_more;
          few = omega (arith, w.few, further);
          placed = λ whole fits. placed_on whole none fits;
          behind = behind_still;
          slots_size = size_still;
        }
    known_by (some_left q qs e new full g on within) =
        record {
          seen = seen';
          ahead = m.later;
          before = w.before;
          after = w.after ++ r ∷ [];
          order = order';
          parts = parts_left;
          gives = m.gives;
          kept = w.kept;
          long = w.long;
          room = w.room;
          flags = flags_known;
          on = omega (arith, w.on, further);
          moved = λ some. omega (arith, w.on, further);
          left = some_left q (qs ++ r ∷ []) (ap (λ (x : List ResourceRecord). x ++ r ∷ []) e) new full (later_left rest g) on within;
          starts_size = w.starts_size;
          marks_size = w.marks_size;
          types_size = length-set types i (get_or types i 0 + s.bit) ∙ w.types_size;
          counted = count_more;
          few = omega (arith, w.few, further);
          placed = λ whole fits. absurd (omega arith);
          behind = behind_still;
          slots_size = size_still;
        }

    pub swept_known : SweptTo t from l ps₀ rs starts marks types' used rest s.next ps' n
    swept_known = known_by w.left

  -- ---- the name is new

  module _ (le : used ≤ s.index) where
    new_there : (s.index ≡ length ns) × (among r.owner ns ≡ false)
    new_there = index_new ns r.owner s.index m.there (omega (arith, w.long))

    other_name : (j : ℕ) → j < used → r.owner ≡ get_or ns j [] → ⊥
    other_name j lj e = true≢false (sym (at_among r.owner ns j (omega (arith, w.long)) (sym e)) ∙ new_there.1)

    flags_new : (j : ℕ) → j < used → Flagged (get_or ns j []) seen' (get_or types j 0)
    flags_new j lj = flagged_other (get_or ns j []) w.seen r (other_name j lj) (w.flags j lj)

    -- and there is no room for it: it is the first of those, or one of them
    module _ (full : most_names ≤ s.index) (within : at < length t) where
      is_full : most_names ≤ used
      is_full = omega (arith, w.long, new_there.0)

      pub swept_beyond : rest ≡ length t → SweptTo t from l ps₀ rs starts marks types used at s.next ps' n
      swept_beyond e = go w.left
        where
          go : Left t from l ps₀ w.before w.after w.ahead used rest → SweptTo t from l ps₀ rs starts marks types used at s.next ps' n
          go (some_left q qs a new f g on inside) = absurd (omega arith)
          go (all_kept a none) =
              record {
                seen = seen';
                ahead = m.later;
                before = w.before;
                after = r ∷ [];
                order = order';
                parts = parts_left ∙ ap (λ (x : List ResourceRecord). w.before ++ (x ++ r ∷ [])) none;
                gives = m.gives;
                kept = w.kept;
                long = w.long;
                room = w.room;
                flags = flags_new;
                on = omega (arith, w.on, further);
                moved = λ some. omega (arith, w.on, further);
                left = some_left r [] refl new_there.1 is_full gives_here (w.moved (omega (arith, is_full))) within;
                starts_size = w.starts_size;
                marks_size = w.marks_size;
                types_size = w.types_size;
                counted = count_more;
                few = omega (arith, w.few, further);
                placed = λ whole fits. absurd (omega arith);
                behind = behind_still;
                slots_size = size_still;
              }

      pub swept_past : (rest ≡ length t → ⊥) → SweptTo t from l ps₀ rs starts marks types used rest s.next ps' n
      swept_past d = go w.left
        where
          go : Left t from l ps₀ w.before w.after w.ahead used rest → SweptTo t from l ps₀ rs starts marks types used rest s.next ps' n
          go (all_kept a none) = absurd (d a)
          go (some_left q qs a new f g on inside) =
              record {
                seen = seen';
                ahead = m.later;
                before = w.before;
                after = w.after ++ r ∷ [];
                order = order';
                parts = parts_left;
                gives = m.gives;
                kept = w.kept;
                long = w.long;
                room = w.room;
                flags = flags_new;
                on = omega (arith, w.on, further);
                moved = λ some. omega (arith, w.on, further);
                left = some_left q (qs ++ r ∷ []) (ap (λ (x : List ResourceRecord). x ++ r ∷ []) a) new f (later_left rest g) on inside;
                starts_size = w.starts_size;
                marks_size = w.marks_size;
                types_size = w.types_size;
                counted = count_more;
                few = omega (arith, w.few, further);
                placed = λ whole fits. absurd (d whole);
                behind = behind_still;
                slots_size = size_still;
              }

    -- or there is, and it is kept
    module _ (free : s.index < most_names) where
      abbrev starts'' : List ℕ
      starts'' = set starts s.index at

      abbrev marks'' : List ℕ
      marks'' = set marks s.index s.mark

      abbrev types'' : List ℕ
      types'' = set types s.index s.bit

      index_is : s.index ≡ used
      index_is = omega (arith, w.long, new_there.0)

      none_left : Left t from l ps₀ w.before w.after w.ahead used rest → (rest ≡ length t) × (w.after ≡ [])
      none_left (all_kept a none) = (a, none)
      none_left (some_left q qs a new f g on inside) = absurd (omega (arith, index_is))

      now_named : owners (w.before ++ r ∷ []) ≡ ns ++ r.owner ∷ []
      now_named = owners_new w.before r new_there.1

      -- at each index, the name that was there, or the new one
      at_old : (j : ℕ) → j < used → get_or (ns ++ r.owner ∷ []) j [] ≡ get_or ns j []
      at_old j lj = get_or-append ns (r.owner ∷ []) [] j (omega (arith, w.long))

      at_new : get_or (ns ++ r.owner ∷ []) s.index [] ≡ r.owner
      at_new = get_or_at ns r.owner [] [] s.index (sym new_there.0)

      apart : (j : ℕ) → j < used → j ≡ s.index → ⊥
      apart j lj e = omega (arith, index_is)

      kept_old : (j : ℕ) → j < used → MarkedAt t (get_or starts'' j 0) (get_or marks'' j 0) (get_or (ns ++ r.owner ∷ []) j [])
      unfolding AllMarked
      kept_old j lj =
          let k = w.kept j (omega (arith, w.long)) in
          let a = get_or-set_other starts s.index j at 0 (apart j lj) in
          let b = get_or-set_other marks s.index j s.mark 0 (apart j lj) in
          record { there = subst₂ (λ (x : ℕ) (n : List ℕ). BeginsWith (drop x t) n) (sym a) (sym (at_old j lj)) k.there; marked = b ∙ k.marked ∙ ap mark (sym (at_old j lj)) }

      kept_new : MarkedAt t (get_or starts'' s.index 0) (get_or marks'' s.index 0) (get_or (ns ++ r.owner ∷ []) s.index [])
      kept_new =
          let a = get_or-set_same starts s.index at 0 (omega (arith, w.starts_size)) in
          let b = get_or-set_same marks s.index s.mark 0 (omega (arith, w.marks_size)) in
          record { there = subst₂ (λ (x : ℕ) (n : List ℕ). BeginsWith (drop x t) n) (sym a) (sym at_new) m.owner; marked = b ∙ m.marked ∙ ap mark (sym at_new) }

      by_index : {P : ℕ → Type 0} → ((j : ℕ) → j < used → P j) → P s.index → (j : ℕ) → j < s.index + 1 → P j
      by_index {P} old new j lj =
          let low : j ≤ s.index = omega arith in
          ⊎_elim (λ e. subst P (sym e) new) (λ less. old j (omega (arith, index_is))) (eq-or-lt_of_le low)

      flags_old : (j : ℕ) → j < used → Flagged (get_or (ns ++ r.owner ∷ []) j []) seen' (get_or types'' j 0)
      flags_old j lj =
          subst (λ (n : List ℕ). Flagged n seen' (get_or types'' j 0)) (sym (at_old j lj))
          (subst (Flagged (get_or ns j []) seen') (sym (get_or-set_other types s.index j s.bit 0 (apart j lj))) (flags_new j lj))

      flags_first : w.after ≡ [] → Flagged (get_or (ns ++ r.owner ∷ []) s.index []) seen' (get_or types'' s.index 0)
      flags_first none =
          let before : w.seen ≡ w.before = w.parts ∙ ap (λ (x : List ResourceRecord). w.before ++ x) none ∙ append-nil w.before in
          let f = flagged_more r.owner w.seen r refl (flagged_none r.owner w.seen (λ k. subst (λ (x : List ResourceRecord). data_of r.owner k x ≡ []) (sym before) (no_data r.owner k w.before new_there.1))) (unset r.rtype) in
          let v : 0 + type_bit (type_number r.rtype) ≡ get_or types'' s.index 0 =
          zero-add (type_bit (type_number r.rtype)) ∙ sym m.bit ∙ sym (get_or-set_same types s.index s.bit 0 (omega (arith, w.types_size))) in
          subst (λ (n : List ℕ). Flagged n seen' (get_or types'' s.index 0)) (sym at_new) (subst (Flagged r.owner seen') v f)

      pub swept_new : SweptTo t from l ps₀ rs starts'' marks'' types'' (s.index + 1) rest s.next ps' n
      unfolding AllMarked
      swept_new =
          let none = none_left w.left in
          let long : s.index + 1 ≡ length (owners (w.before ++ r ∷ [])) = omega (arith, index_is, w.long, ap length now_named, length-append ns (r.owner ∷ [])) in
          record {
            seen = seen';
            ahead = m.later;
            before = w.before ++ r ∷ [];
            after = [];
            order = order';
            parts = parts_kept none.1;
            gives = m.gives;
            kept = λ j lj. subst (λ (l : List (List ℕ)). MarkedAt t (get_or starts'' j 0) (get_or marks'' j 0) (get_or l j [])) (sym now_named) (by_index kept_old kept_new j (omega (arith, long)));
            long = long;
            room = omega arith;
            flags = λ j lj. subst (λ (l : List (List ℕ)). Flagged (get_or l j []) seen' (get_or types'' j 0)) (sym now_named) (by_index flags_old (flags_first none.1) j lj);
            on = omega (arith, w.on, further);
            moved = λ some. omega (arith, w.on, further);
            left = all_kept none.0 refl;
            starts_size = length-set starts s.index at ∙ w.starts_size;
            marks_size = length-set marks s.index s.mark ∙ w.marks_size;
            types_size = length-set types s.index s.bit ∙ w.types_size;
            counted = count_more;
            few = omega (arith, w.few, further);
            placed = λ whole fits. placed_on whole none.1 fits;
            behind = behind_still;
            slots_size = size_still;
          }
