-- A sweep over the records of a listing: what is known after each record, and what the whole comes to. Assumes nothing.
use Prim.Native.Nat.{ℕ, ◌/◌, ◌%◌, ◌≤◌, ◌<◌}
use mathlib.Core.Bool.{Bool, true, false, cond}
use mathlib.Core.Path.{◌≡◌, refl, sym, ap, subst, subst₂, ◌∙◌}
use mathlib.Core.Logic.{⊎_elim}
use mathlib.Core.List.{List, [], ◌∷◌, ◌++◌, append-nil}
use native.Mathlib.Omega.{arith}
use lib.ListN.{length, get_or}
use borrow.Author.Tests.{eq-eqb, ne_eqb}
use Rattle.grammar.specs.Listing.{RecordType, ResourceRecord}
use Rattle.listing.specs.Giving.{Last, end, Gives}
use Rattle.records.specs.Gathered.{data_of, Single, owners}
use Rattle.records.proofs.DataLaws.{length_data_append, of_is, data_same}
use Rattle.records.proofs.OwnerLaws.{among, by_among, owners_none, owners_more_by_new, no_data}
use Rattle.slots.specs.Sizes.{most_names, most_records}
use Rattle.table_fault.specs.Judging.{IndexOf, Placed}
use Rattle.table_fault.specs.Sweeping.{AllMarked, Met, SameFrom, Sweeps, ended_at}
use Rattle.table_fault.specs.declared.SweepOutcome.TheVariants as outcome
use Rattle.table_fault.specs.declared.Swept.{Swept}
use Rattle.table_fault.proofs.IndexLaws.{among_at, nowhere_among}
use Rattle.table_fault.proofs.TypeLaws.{many, Flagged, flagged_each, flagged_twice}
use Rattle.table_fault.proofs.CountLaws.{records_few}
use Rattle.table_fault.proofs.PlacedLaws.{placed_none}

-- an index below the number of names is the name's; any other is their number, and the name is new
pub index_known : (ns : List (List ℕ)) (n : List ℕ) (i : ℕ) → IndexOf ns n i → i < length ns → get_or ns i [] ≡ n
unfolding IndexOf
index_known ns n i h lt = ⊎_elim (λ w. w.1) (λ w. absurd (omega (arith, w.0))) h

pub index_low : (ns : List (List ℕ)) (n : List ℕ) (i : ℕ) → IndexOf ns n i → i ≤ length ns
unfolding IndexOf
index_low ns n i h = ⊎_elim (λ w. omega (arith, w.0)) (λ w. omega (arith, w.0)) h

pub index_new : (ns : List (List ℕ)) (n : List ℕ) (i : ℕ) → IndexOf ns n i → length ns ≤ i → (i ≡ length ns) × (among n ns ≡ false)
unfolding IndexOf
index_new ns n i h le = ⊎_elim (λ w. absurd (omega (arith, w.0))) (λ w. (w.0, nowhere_among n ns w.1)) h

-- ---- what is known after each record

module _ (t : List ℕ) (from : ℕ) (l : Last) (ps₀ : List ℕ) where
  -- every name was kept; or the first record that could not be is that at `rest`, with others after it
  pub data Left (before after ahead : List ResourceRecord) (used rest : ℕ) : Type 0 where
    all_kept : rest ≡ length t → after ≡ [] → Left before after ahead used rest
    some_left : (r : ResourceRecord) (qs : List ResourceRecord) → after ≡ r ∷ qs → among r.owner (owners before) ≡ false → most_names ≤ used
        → Gives t rest (after ++ ahead) l → from < rest → rest < length t → Left before after ahead used rest

  -- of the records rs, after which l comes, those seen are behind, and those ahead are given from `at` on. The names of the records `before` are kept
  pub record SweptTo (rs : List ResourceRecord) (starts marks types : List ℕ) (used rest at : ℕ) (ps : List ℕ) (count : ℕ) : Type 0 where
    pub seen : List ResourceRecord
    pub ahead : List ResourceRecord
    pub before : List ResourceRecord
    pub after : List ResourceRecord
    pub order : rs ≡ seen ++ ahead
    pub parts : seen ≡ before ++ after
    pub gives : Gives t at ahead l
    pub kept : AllMarked t starts marks (owners before)
    pub long : used ≡ length (owners before)
    pub room : used ≤ most_names
    pub flags : (j : ℕ) → j < used → Flagged (get_or (owners before) j []) seen (get_or types j 0)
    pub on : from ≤ at
    pub moved : 1 ≤ used → from < at
    pub left : Left before after ahead used rest
    pub starts_size : length starts ≡ most_names
    pub marks_size : length marks ≡ most_names
    pub types_size : length types ≡ most_names
    pub counted : count ≡ length seen
    pub few : count ≤ at
    pub placed : rest ≡ length t → length seen ≤ most_records → Placed seen ps
    pub behind : SameFrom count ps₀ ps
    pub slots_size : length ps ≡ most_records

  no_names : (k : ℕ) → k < length (owners []) → ⊥
  no_names k lt = omega (arith, ap length owners_none)

  pub swept_none : (rs : List ResourceRecord) (starts marks types : List ℕ) → Gives t from rs l → length starts ≡ most_names → length marks ≡ most_names → length types ≡ most_names → length ps₀ ≡ most_records
      → SweptTo rs starts marks types 0 (length t) from ps₀ 0
  unfolding AllMarked SameFrom
  swept_none rs starts marks types g s m ty size =
      record {
        seen = [];
        ahead = rs;
        before = [];
        after = [];
        order = refl;
        parts = refl;
        gives = g;
        kept = λ j lt. absurd (no_names j lt);
        long = sym (ap length owners_none);
        room = omega arith;
        flags = λ j lt. absurd (omega arith);
        on = omega arith;
        moved = λ some. absurd (omega arith);
        left = Left.all_kept refl refl;
        starts_size = s;
        marks_size = m;
        types_size = ty;
        counted = refl;
        few = omega arith;
        placed = λ whole fits. placed_none ps₀;
        behind = λ j le. refl;
        slots_size = size;
      }

  module _ {rs : List ResourceRecord} {starts marks types : List ℕ} {used rest at : ℕ} {ps : List ℕ} {count : ℕ} (w : SweptTo rs starts marks types used rest at ps count) where
    -- two records alike: the one that stands next, and one that was seen
    twice : (s : Swept) → Met t at (owners w.before) w.ahead l s → s.index < used → get_or types s.index 0 / s.bit % 2 ≡ 1 → Single rs → ⊥
    unfolding Single
    twice s m lt set single =
        let r = m.head in
        let own = index_known (owners w.before) r.owner s.index m.there (omega (arith, w.long)) in
        let f = w.flags s.index lt in
        let flagged : Flagged r.owner w.seen (get_or types s.index 0) = subst (λ (n : List ℕ). Flagged n w.seen (get_or types s.index 0)) own f in
        let one = flagged_twice r.owner w.seen r flagged r.rtype (ap (λ (b : ℕ). get_or types s.index 0 / b % 2) (sym m.bit) ∙ set) in
        let all = ap (many r.owner r.rtype) (w.order ∙ ap (λ (x : List ResourceRecord). w.seen ++ x) m.order) in
        let two = length_data_append r.owner r.rtype w.seen (r ∷ m.later) in
        let here = ap length (data_same r.owner r.rtype r m.later (of_is r.owner r.rtype r refl refl)) in
        omega (arith, single r.owner r.rtype, one, all, two, here)

    pub repeated : (s : Swept) → Met t at (owners w.before) w.ahead l s → s.index < used → get_or types s.index 0 / s.bit % 2 ≡ 1
        → Sweeps t from most_names rs l ps₀ ps (outcome.Repeat s.next)
    repeated s m lt set = (twice s m lt set, (m.later, m.gives))

    -- nothing is ahead: every name was kept, and no two records are alike; or some are left, and it depends on them
    module _ (over : w.ahead ≡ []) (last : l ≡ end) where
      all_seen : rs ≡ w.seen
      all_seen = w.order ∙ ap (λ (x : List ResourceRecord). w.seen ++ x) over ∙ append-nil w.seen

      kept_single : (n : List ℕ) (k : RecordType) → among n (owners w.before) ≡ true → many n k rs ≤ 1
      kept_single n k h =
          let a = among_at n (owners w.before) h in
          let f = w.flags a.index (omega (arith, a.within, w.long)) in
          let each = flagged_each (subst (λ (m : List ℕ). Flagged m w.seen (get_or types a.index 0)) a.is f) k in
          omega (arith, ap (many n k) all_seen)

      -- of a name that is not kept, all records are left
      left_only : (n : List ℕ) (k : RecordType) → among n (owners w.before) ≡ false → many n k rs ≡ many n k w.after
      left_only n k h =
          ap (many n k) (all_seen ∙ w.parts) ∙ length_data_append n k w.before w.after ∙ omega (arith, ap length (no_data n k w.before h))

      no_more : (n : List ℕ) (k : RecordType) → many n k w.after ≤ many n k rs
      no_more n k = omega (arith, ap (many n k) (all_seen ∙ w.parts), length_data_append n k w.before w.after)

      single_by : Single w.after → Single rs
      unfolding Single
      single_by h n k = by_among n (owners w.before) (λ a. kept_single n k a) (λ a. omega (arith, left_only n k a, h n k))

      none_single : Single []
      unfolding Single data_of
      none_single n k = omega arith

      whole_sweeps : rest ≡ length t → w.after ≡ [] → Sweeps t from most_names rs l ps₀ ps outcome.Whole
      whole_sweeps e none =
          let all : rs ≡ w.before = all_seen ∙ w.parts ∙ ap (λ (x : List ResourceRecord). w.before ++ x) none ∙ append-nil w.before in
          let single = single_by (subst Single (sym none) none_single) in
          let room : length (owners rs) ≤ most_names = omega (arith, w.long, w.room, ap (λ (x : List ResourceRecord). length (owners x)) all) in
          let fits : length w.seen ≤ most_records = omega (arith, records_few rs single, ap length all_seen) in
          (last, single, room, subst (λ (x : List ResourceRecord). Placed x ps) (sym all_seen) (w.placed e fits), subst (λ (k : ℕ). SameFrom k ps₀ ps) (w.counted ∙ ap length (sym all_seen)) w.behind)

      ended_by : Left w.before w.after w.ahead used rest → Sweeps t from most_names rs l ps₀ ps (ended_at (length t) rest)
      unfolding Single
      ended_by (Left.all_kept e none) = subst (Sweeps t from most_names rs l ps₀ ps) (sym (ap (λ (b : Bool). cond b outcome.Whole (outcome.Beyond rest)) (eq-eqb rest (length t) e))) (whole_sweeps e none)
      ended_by (Left.some_left r qs e new full g on within) =
          let not_end : rest ≡ length t → ⊥ = λ x. omega arith in
          subst (Sweeps t from most_names rs l ps₀ ps) (sym (ap (λ (b : Bool). cond b outcome.Whole (outcome.Beyond rest)) (ne_eqb rest (length t) not_end))) (
            last,
            record {
              left = w.after;
              gives = subst₂ (Gives t rest) (ap (λ (x : List ResourceRecord). w.after ++ x) over ∙ append-nil w.after) last g;
              on = on;
              within = within;
              forth = single_by;
              back = λ single n k. omega (arith, single n k, no_more n k);
              many =
                  omega (arith, w.long, owners_more_by_new w.before r qs new, ap (λ (x : List ResourceRecord). length (owners x)) (all_seen ∙ w.parts ∙ ap (λ (x : List ResourceRecord). w.before ++ x) e));
            },
          )

      pub ended_sweeps : Sweeps t from most_names rs l ps₀ ps (ended_at (length t) rest)
      ended_sweeps = ended_by w.left
