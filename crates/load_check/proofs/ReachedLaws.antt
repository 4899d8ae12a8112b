-- How far a walk over a right listing has come: the records of the entries behind it, and those ahead. Assumes nothing.
use Prim.Native.Nat.{ℕ, ◌+◌, ◌-◌, ◌≤◌, ◌<◌}
use mathlib.Core.Path.{◌≡◌, refl, sym, ap, subst, ◌∙◌}
use mathlib.Core.List.{List, [], ◌∷◌, ◌++◌, append-nil, append_assoc}
use native.Mathlib.Omega.{arith}
use lib.ListN.{length, drop}
use lib.Seq.{append_snoc}
use Rattle.base.specs.Logic.{Every}
use Rattle.grammar.specs.Listing.{ResourceRecord, RecordEntry}
use Rattle.grammar.specs.Reader.{Verdict, right, wrong, after, shifted, read}
use Rattle.entry.specs.EntryAt.{entry_at}
use Rattle.entry.specs.EntryText.{EntryText}
use Rattle.entry.specs.Held.{held, empty_record}
use Rattle.entry.specs.declared.Content.{Content}
use Rattle.entry.specs.declared.Content.TheVariants
use Rattle.entry.specs.declared.Entry.{Entry}
use Rattle.entry.proofs.KnownLaws.{EntryIs, content_is, entry_is}
use Rattle.writer.specs.Line.{WellFormedRecord, Holds}
use Rattle.listing.specs.Giving.{end, refusal, Gives, whole, faulty}
use Rattle.listing.proofs.GivingLaws.{end≢refusal, one_given}
use Rattle.listing.proofs.NextLaws.{within_limit, none_beyond}
use Rattle.listing.proofs.SpellingLaws.{spells_by, refused_by}
use Rattle.table_fault.proofs.GivenLaws.{fault_given, nothing_given}
use Rattle.table_fault.proofs.LookLaws.{given_well_formed}
use Rattle.load_check.specs.Loading.{Entered, records}
use Rattle.load_check.specs.Walking.{Walked, there}
use Rattle.load_check.proofs.WalkLaws.{walked_past, walked_with}

pub records_append : (a b : List Entered) → records (a ++ b) ≡ records a ++ records b
unfolding records
records_append [] b = refl
records_append (x ∷ a) b = ap (λ (l : List ResourceRecord). x.«record» ∷ l) (records_append a b)

pub records_more : (a : List Entered) (x : Entered) → records (a ++ x ∷ []) ≡ records a ++ x.«record» ∷ []
unfolding records
records_more a x = records_append a (x ∷ [])

-- the entry at `at` is the first of the records rs
record First (t : List ℕ) (at : ℕ) (rs : List ResourceRecord) : Type 0 where
  head : ResourceRecord
  later : List ResourceRecord
  order : rs ≡ head ∷ later
  holds : (entry_at t at).«record» ≡ held head
  gives : Gives t (entry_at t at).next later end
  entry : List ℕ
  stands : EntryText t at entry (entry_at t at).next
  spells : RecordEntry entry head

module _ (t : List ℕ) (at : ℕ) (rs : List ResourceRecord) (g : Gives t at rs end) (within : at < length t) where
  is : EntryIs t at (entry_at t at)
  is = entry_is t at within (entry_at t at) refl

  abbrev next : ℕ
  next = (entry_at t at).next

  module _ (r : ResourceRecord) (h : (entry_at t at).«record» ≡ held r) (e : List ℕ) (x : EntryText t at e next) (z : RecordEntry e r) where
    first_by : (v : Verdict) → read (drop next t) ≡ v → read (drop at t) ≡ after r (shifted (next - at) v) → First t at rs
    first_by (right qs) q w =
        let same = one_given t at g (whole (within_limit g) (spells_by (drop at t) (r ∷ qs) w)) in
        record { head = r; later = qs; order = same.0; holds = h; gives = whole (within_limit g) (spells_by (drop next t) qs q); entry = e; stands = x; spells = z }
    first_by (wrong qs n p) q w =
        absurd (end≢refusal (one_given t at g (faulty (within_limit g) (refused_by (drop at t) (r ∷ qs) n (next - at + p) w) refl)).1)

  first_record : (entry_at t at).content ≡ TheVariants.Record → First t at rs
  first_record q =
      let c = content_is t at (entry_at t at) TheVariants.Record is q in
      first_by c.0 c.1 c.4 c.5 c.6 (read (drop next t)) refl c.2

-- of the records rs of the listing t the entries before the offset at have those of seen, and the others are ahead
pub record Reached (t : List ℕ) (rs : List ResourceRecord) (seen : List Entered) (at : ℕ) : Type 0 where
  pub ahead : List ResourceRecord
  pub walked : Walked t at 0 seen
  pub gives : Gives t at ahead end
  pub all : rs ≡ records seen ++ ahead

pub reached_none : (t : List ℕ) (rs : List ResourceRecord) → Gives t 0 rs end → Reached t rs [] 0
unfolding records
reached_none t rs g = record { ahead = rs; walked = there refl; gives = g; all = refl }

-- at the end none is ahead
pub reached_all : (t : List ℕ) (rs : List ResourceRecord) (seen : List Entered) (at : ℕ) → Reached t rs seen at → length t ≤ at → rs ≡ records seen
reached_all t rs seen at r done = r.all ∙ ap (λ (l : List ResourceRecord). records seen ++ l) (none_beyond r.gives done) ∙ append-nil (records seen)

-- one entry more: it has no record; or one, which is the next of them
pub data Turn (t : List ℕ) (rs : List ResourceRecord) (seen : List Entered) (at : ℕ) (e : Entry) : Type 0 where
  nothing : e.«record» ≡ empty_record → Reached t rs seen e.next → Turn t rs seen at e
  one : (r : ResourceRecord) → Holds e.«record» r → Reached t rs (seen ++ record { offset = at; «record» = r } ∷ []) e.next → Turn t rs seen at e

head_well_formed : {r : ResourceRecord} {rs : List ResourceRecord} → Every WellFormedRecord (r ∷ rs) → WellFormedRecord r
head_well_formed (Every.more w ws) = w

module _ (t : List ℕ) (rs : List ResourceRecord) (seen : List Entered) (at : ℕ) (d : Reached t rs seen at) (within : at < length t) where
  on : at < (entry_at t at).next
  on = (entry_is t at within (entry_at t at) refl).on

  by_content : (c : Content) → (entry_at t at).content ≡ c → Turn t rs seen at (entry_at t at)
  by_content TheVariants.Nothing q =
      let c = content_is t at (entry_at t at) TheVariants.Nothing (entry_is t at within (entry_at t at) refl) q in
      nothing c.0
      (record {
        ahead = d.ahead;
        walked = walked_past t at on c.0 c.2 c.3 c.4 d.walked;
        gives = nothing_given t (within_limit d.gives) at d.ahead end d.gives within (entry_at t at) refl q;
        all = d.all;
      })
  by_content TheVariants.Record q =
      let f = first_record t at d.ahead d.gives within q in
      let x : Entered = record { offset = at; «record» = f.head } in
      one f.head
      (record { form = f.holds; well_formed = head_well_formed (subst (Every WellFormedRecord) f.order (given_well_formed d.gives)) })
      (record {
        ahead = f.later;
        walked = walked_with t at on f.head f.holds f.entry f.stands f.spells d.walked;
        gives = f.gives;
        all =
            d.all ∙ ap (λ (l : List ResourceRecord). records seen ++ l) f.order ∙ sym (append_snoc (records seen) f.head f.later)
            ∙ ap (λ (l : List ResourceRecord). l ++ f.later) (sym (records_more seen x));
      })
  by_content (TheVariants.Fault n) q =
      absurd (end≢refusal (fault_given t (within_limit d.gives) at d.ahead end d.gives within (entry_at t at) refl n q))

  pub turn : (e : Entry) → e ≡ entry_at t at → Turn t rs seen at e
  turn e is_read = subst (Turn t rs seen at) (sym is_read) (by_content (entry_at t at).content refl)
