-- A table that is filled record by record. Assumes nothing.
use Prim.Native.Nat.{ℕ, ◌+◌, ◌*◌, ◌≤◌, ◌<◌}
use mathlib.Core.Bool.{Bool, false, cond}
use mathlib.Core.Path.{◌≡◌, refl, sym, ap, subst, ◌∙◌}
use mathlib.Core.List.{List, [], ◌∷◌, ◌++◌, append-nil}
use native.Mathlib.Omega.{arith}
use lib.Dec.{ltb}
use lib.ListN.{length, get_or, length-append}
use lib.Seq.{append_snoc}
use borrow.Author.Tests.{lt-ltb, le-ltb}
use Rattle.base.specs.Logic.{Every}
use Rattle.base.proofs.Lists.{no_elements, every_middle, every_left}
use Rattle.base.proofs.Tests.{by_ltb}
use Rattle.grammar.specs.Listing.{ResourceRecord}
use Rattle.entry.specs.EntryAt.{entry_at}
use Rattle.entry.specs.declared.Content.TheVariants
use Rattle.entry.specs.declared.Entry.{Entry}
use Rattle.entry.proofs.KnownLaws.{entry_is}
use Rattle.writer.specs.Line.{WellFormedRecord, Holds}
use Rattle.listing.specs.Reading.{limit}
use Rattle.listing.specs.Giving.{end, Gives}
use Rattle.listing.proofs.GivingLaws.{end≢refusal}
use Rattle.listing.proofs.Theorems.{one_giving}
use Rattle.listing.proofs.NextLaws.{within_limit, none_beyond}
use Rattle.slots.specs.Form.{TableEntry, table_bytes, IsTable, Sound}
use Rattle.slots.specs.Sizes.{most_names, slot_size, most_records}
use Rattle.slots.proofs.Theorems.{one_table}
use Rattle.table.specs.Promise.{slot_for}
use Rattle.table.specs.declared.slot_for.SlotFor.TheVariants.{Held, Free}
use Rattle.records.specs.Gathered.{Single, data_of, owners, table_of}
use Rattle.records.specs.Promise.{stored}
use Rattle.records.proofs.DataLaws.{of_is, data_same, length_data_append}
use Rattle.records.proofs.OwnerLaws.{among, owners_none, owners_known, length_owners_new, owners_no_fewer, owners_more_by_new}
use Rattle.records.proofs.StoredLaws.{table_none, table_names, length_table_of, found_none, stored_table}
use Rattle.records.proofs.SoundLaws.{table_is, table_sound, table_distinct}
use Rattle.table_fault.specs.Judging.{IndexOf, Placed}
use Rattle.table_fault.proofs.CountLaws.{records_few}
use Rattle.table_fault.proofs.GivenLaws.{FirstOf, fault_given, nothing_given, record_given}
use Rattle.table_fault.proofs.IndexLaws.{at_among}
use Rattle.table_fault.proofs.LookLaws.{given_well_formed}
use Rattle.table_fault.proofs.SweepLaws.{index_known, index_new}
use Rattle.table_load.specs.Promise.{AtSlot, Storable, Loadable, Filled}
use Rattle.table_load.specs.declared.Progress.{Progress}
use Rattle.table_load.proofs.SlotLaws.{slot_held, slot_free}

-- ---- records before and ahead

module _ (seen : List ResourceRecord) (r : ResourceRecord) (rest : List ResourceRecord) where
  -- a name has no record before of the type of one ahead
  none_yet : Single (seen ++ r ∷ rest) → data_of r.owner r.rtype seen ≡ []
  unfolding Single
  none_yet single =
      let n = r.owner in
      let k = r.rtype in
      no_elements (data_of n k seen)
      (omega (arith, single n k, length_data_append n k seen (r ∷ rest), ap length (data_same n k r rest (of_is n k r refl refl))))

module _ (t ps : List ℕ) (p : Progress) (b : List ℕ) (f : Filled t ps p b) where
  each : Every WellFormedRecord f.seen
  each = every_left f.seen f.ahead (given_well_formed f.all.gives)

  room : length (owners f.seen) ≤ most_names
  room = omega (arith, f.all.room, owners_no_fewer f.seen f.ahead)

  is : IsTable most_names (table_of f.seen) b
  is = subst (IsTable most_names (table_of f.seen)) (sym f.table) (table_is f.seen each most_names room)

  -- ---- a turn

  pub filled_sound : Sound most_names b
  filled_sound = subst (Sound most_names) (sym f.table) (table_sound f.seen each most_names room)

  module _ (e : Entry) (read_as : e ≡ entry_at t p.at) (within : p.at < length t) where
    pub next_on : p.at < e.next
    next_on = (entry_is t p.at within e read_as).on

    fits : length t ≤ limit
    fits = within_limit f.gives

    pub next_of : e.content ≡ TheVariants.Record → FirstOf t p.at e f.ahead end
    next_of q = record_given t fits p.at f.ahead end f.gives within e read_as q

    module _ (n : FirstOf t p.at e f.ahead end) where
      abbrev name : List ℕ
      name = n.head.owner

      all : Loadable t ps (f.seen ++ n.head ∷ n.later)
      all = subst (λ (l : List ResourceRecord). Loadable t ps (f.seen ++ l)) n.order f.all

      -- its place is one of 192
      pub place_within : p.count < most_records
      place_within =
          let rs = f.seen ++ n.head ∷ n.later in
          omega (arith, f.counted, length-append f.seen (n.head ∷ n.later), records_few rs all.single, all.room)

      pub next_holds : Holds e.«record» n.head
      next_holds = record { form = n.holds; well_formed = every_middle f.seen n.later n.head (given_well_formed all.gives) }

      module _ (i : ℕ) (placed : i ≡ get_or ps p.count 0) where
        there : IndexOf (owners f.seen) name i
        unfolding Placed
        there =
            subst (IndexOf (owners f.seen) name) (sym (placed ∙ ap (λ (k : ℕ). get_or ps k 0) f.counted))
            (all.placed f.seen n.later n.head refl)

        -- the name is known, or new
        known : i < p.used → (i < length (owners f.seen)) × (get_or (owners f.seen) i [] ≡ name)
        known lt = let low : i < length (owners f.seen) = omega (arith, f.named) in (low, index_known (owners f.seen) name i there low)

        new : p.used ≤ i → (i ≡ length (owners f.seen)) × (among name (owners f.seen) ≡ false)
        new le = index_new (owners f.seen) name i there (omega (arith, f.named))

        still : i < p.used → owners (f.seen ++ n.head ∷ []) ≡ owners f.seen
        still lt = let k = known lt in owners_known f.seen n.head (at_among name (owners f.seen) i k.0 k.1)

        -- ---- its slot

        held : i < p.used → slot_for most_names name (table_of f.seen) ≡ Held (slot_size * i)
        held lt =
            let k = known lt in
            let ns = table_names f.seen in
            slot_held name (table_of f.seen) i (table_distinct f.seen) (subst (λ (l : List (List ℕ)). i < length l) (sym ns) k.0) (ap (λ (l : List (List ℕ)). get_or l i []) ns ∙ k.1)

        free : p.used ≤ i → slot_for most_names name (table_of f.seen) ≡ Free (slot_size * i)
        free le =
            let k = new le in
            let size : length (table_of f.seen) ≡ i = length_table_of f.seen ∙ sym k.0 in
            slot_free name (table_of f.seen) (found_none f.seen name k.1) (omega (arith, k.0, owners_more_by_new f.seen n.head n.later k.1, all.room))
            ∙ ap (λ (j : ℕ). Free (slot_size * j)) size

        slot_is : cond (ltb i p.used) (Held (slot_size * i)) (Free (slot_size * i)) ≡ slot_for most_names name (table_of f.seen)
        slot_is =
            by_ltb i p.used (λ lt. ap (λ (x : Bool). cond x (Held (slot_size * i)) (Free (slot_size * i))) (lt-ltb i p.used lt) ∙ sym (held lt))
            (λ le. ap (λ (x : Bool). cond x (Held (slot_size * i)) (Free (slot_size * i))) (le-ltb i p.used le) ∙ sym (free le))

        pub next_storable : Storable b p.used i e.«record»
        unfolding Storable AtSlot
        next_storable =
            (n.head, next_holds, λ u h. subst (λ (v : List TableEntry). cond (ltb i p.used) (Held (slot_size * i)) (Free (slot_size * i)) ≡ slot_for most_names name v) (sym (one_table most_names u (table_of f.seen) b h is)) slot_is)

        -- ---- once it is stored it is one of those before

        names_more : cond (ltb i p.used) p.used (i + 1) ≡ length (owners (f.seen ++ n.head ∷ []))
        names_more =
            by_ltb i p.used
            (λ lt. ap (λ (x : Bool). cond x p.used (i + 1)) (lt-ltb i p.used lt) ∙ f.named ∙ sym (ap length (still lt)))
            (λ le. ap (λ (x : Bool). cond x p.used (i + 1)) (le-ltb i p.used le) ∙ omega (arith, (new le).0, length_owners_new f.seen n.head (new le).1))

        pub filled_more : (left : List ℕ) → ((u : List TableEntry) → IsTable most_names u b → left ≡ table_bytes most_names (stored n.head u)) → (used : ℕ) → used ≡ cond (ltb i p.used) p.used (i + 1)
            → Filled t ps (record { at = e.next; count = p.count + 1; used = used }) left
        filled_more left h used named =
            record {
              seen = f.seen ++ n.head ∷ [];
              ahead = n.later;
              all = subst (Loadable t ps) (sym (append_snoc f.seen n.head n.later)) all;
              gives = n.gives;
              table = h (table_of f.seen) is ∙ ap (table_bytes most_names) (stored_table f.seen n.head (none_yet f.seen n.head n.later all.single));
              counted = omega (arith, f.counted, length-append f.seen (n.head ∷ []));
              named = named ∙ names_more;
            }

    pub filled_still : e.content ≡ TheVariants.Nothing → Filled t ps (record { at = e.next; count = p.count; used = p.used }) b
    filled_still q =
        record {
          seen = f.seen;
          ahead = f.ahead;
          all = f.all;
          gives = nothing_given t fits p.at f.ahead end f.gives within e read_as q;
          table = f.table;
          counted = f.counted;
          named = f.named;
        }

    pub no_fault : (k : ℕ) → e.content ≡ TheVariants.Fault k → ⊥
    no_fault k q = end≢refusal (fault_given t fits p.at f.ahead end f.gives within e read_as k q)

  -- ---- the end

  pub filled_all : length t ≤ p.at → (rs : List ResourceRecord) → Gives t 0 rs end → b ≡ table_bytes most_names (table_of rs)
  filled_all done rs g =
      let everything : f.seen ++ f.ahead ≡ rs = (one_giving t 0 _ rs end end f.all.gives g).0 in
      f.table
      ∙ ap (λ (l : List ResourceRecord). table_bytes most_names (table_of l))
      (sym (append-nil f.seen) ∙ ap (λ (l : List ResourceRecord). f.seen ++ l) (sym (none_beyond f.gives done)) ∙ everything)

-- ---- the beginning

pub filled_none : (t ps : List ℕ) (b : List ℕ) (rs : List ResourceRecord) → Loadable t ps rs → b ≡ table_bytes most_names [] → Filled t ps (record { at = 0; count = 0; used = 0 }) b
filled_none t ps b rs h e =
    record { seen = []; ahead = rs; all = h; gives = h.gives; table = e ∙ ap (table_bytes most_names) (sym table_none); counted = refl; named = sym (ap length owners_none) }
