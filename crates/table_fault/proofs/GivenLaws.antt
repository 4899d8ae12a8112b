-- What an entry of a listing tells of what the listing has to give: from the entry on, and from the next one on. Assumes nothing.
use Prim.Native.Nat.{ℕ, ◌+◌, ◌-◌, ◌≤◌, ◌<◌}
use mathlib.Core.Path.{◌≡◌, refl, sym, ap, subst, subst₂, ◌∙◌}
use mathlib.Core.List.{List, [], ◌∷◌}
use native.Mathlib.Nat.{add-zero}
use native.Mathlib.Omega.{arith}
use lib.ListN.{length, drop, drop_of_length-le}
use Rattle.grammar.specs.Listing.{ResourceRecord}
use Rattle.grammar.specs.Reader.{Verdict, right, wrong, after, shifted, read}
use Rattle.entry.specs.EntryAt.{entry_at}
use Rattle.entry.specs.Held.{held}
use Rattle.entry.specs.declared.Content.TheVariants
use Rattle.entry.specs.declared.Entry.{Entry}
use Rattle.entry.proofs.KnownLaws.{EntryIs, content_is, empty, entry_is}
use Rattle.listing.specs.Reading.{limit}
use Rattle.listing.specs.Giving.{Last, end, refusal, Gives, whole, faulty}
use Rattle.listing.proofs.GivingLaws.{one_given}
use Rattle.listing.proofs.SpellingLaws.{spells_by, refused_by}
use Rattle.table_fault.specs.Sweeping.{BeginsWith}
use Rattle.table_fault.proofs.WordLaws.{owner_begins}

-- an entry that is the first of the records rs
pub record FirstOf (t : List ℕ) (at : ℕ) (e : Entry) (rs : List ResourceRecord) (l : Last) : Type 0 where
  pub head : ResourceRecord
  pub later : List ResourceRecord
  pub order : rs ≡ head ∷ later
  pub holds : e.«record» ≡ held head
  pub gives : Gives t e.next later l
  pub owner : BeginsWith (drop at t) head.owner

module _ (t : List ℕ) (fits : length t ≤ limit) where
  -- what a text comes to has to be given
  gives_right : (at : ℕ) (rs : List ResourceRecord) → read (drop at t) ≡ right rs → Gives t at rs end
  gives_right at rs e = whole fits (spells_by (drop at t) rs e)

  gives_wrong : (at : ℕ) (rs : List ResourceRecord) (n p offset : ℕ) → read (drop at t) ≡ wrong rs n p → offset ≡ at + p → Gives t at rs (refusal n offset)
  gives_wrong at rs n p offset e there = faulty fits (refused_by (drop at t) rs n p e) there

  module _ (at : ℕ) (rs : List ResourceRecord) (l : Last) (g : Gives t at rs l) where
    -- behind the last entry no record, and the end
    pub end_given : length t ≤ at → (rs ≡ []) × (l ≡ end)
    end_given done = one_given t at g (gives_right at [] (ap read (drop_of_length-le t done) ∙ empty))

    module _ (within : at < length t) (e : Entry) (read_as : e ≡ entry_at t at) where
      is : EntryIs t at e
      is = entry_is t at within e read_as

      pub fault_given : (n : ℕ) → e.content ≡ TheVariants.Fault n → l ≡ refusal n at
      fault_given n q = let c = content_is t at e (TheVariants.Fault n) is q in (one_given t at g (gives_wrong at [] n 0 at c.2 (sym (add-zero at)))).1

      on : at < e.next
      on = is.on

      -- what is given from the next entry on, where that is known with what is given from this one on
      nothing_by : (v : Verdict) → read (drop e.next t) ≡ v → read (drop at t) ≡ shifted (e.next - at) v → Gives t e.next rs l
      nothing_by (right qs) q r =
          let same = one_given t at g (gives_right at qs r) in
          subst₂ (λ (xs : List ResourceRecord) (m : Last). Gives t e.next xs m) (sym same.0) (sym same.1) (gives_right e.next qs q)
      nothing_by (wrong qs n p) q r =
          let same = one_given t at g (gives_wrong at qs n (e.next - at + p) (e.next + p) r (omega (arith, on))) in
          subst₂ (λ (xs : List ResourceRecord) (m : Last). Gives t e.next xs m) (sym same.0) (sym same.1) (gives_wrong e.next qs n p (e.next + p) q refl)

      pub nothing_given : e.content ≡ TheVariants.Nothing → Gives t e.next rs l
      nothing_given q = let c = content_is t at e TheVariants.Nothing is q in nothing_by (read (drop e.next t)) refl c.1

      record_by : (r : ResourceRecord) → e.«record» ≡ held r → BeginsWith (drop at t) r.owner → (v : Verdict) → read (drop e.next t) ≡ v
          → read (drop at t) ≡ after r (shifted (e.next - at) v) → FirstOf t at e rs l
      record_by r h own (right qs) q w =
          let same = one_given t at g (gives_right at (r ∷ qs) w) in
          record { head = r; later = qs; order = same.0; holds = h; gives = subst (Gives t e.next qs) (sym same.1) (gives_right e.next qs q); owner = own }
      record_by r h own (wrong qs n p) q w =
          let same = one_given t at g (gives_wrong at (r ∷ qs) n (e.next - at + p) (e.next + p) w (omega (arith, on))) in
          record { head = r; later = qs; order = same.0; holds = h; gives = subst (Gives t e.next qs) (sym same.1) (gives_wrong e.next qs n p (e.next + p) q refl); owner = own }

      pub record_given : e.content ≡ TheVariants.Record → FirstOf t at e rs l
      record_given q =
          let c = content_is t at e TheVariants.Record is q in
          record_by c.0 c.1 (owner_begins (drop at t) c.0 (shifted (e.next - at) (read (drop e.next t))) c.3 c.2) (read (drop e.next t)) refl c.2
