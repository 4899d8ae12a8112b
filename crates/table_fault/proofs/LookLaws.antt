-- What an entry is, with where its name stands among those that are kept. Assumes nothing.
use Prim.Native.Nat.{ℕ, ◌≤◌, ◌<◌}
use mathlib.Core.Bool.{true, false, true≢false, false≢true}
use mathlib.Core.Path.{◌≡◌, sym, ap, subst, ◌∙◌}
use mathlib.Core.List.{List}
use lib.ListN.{length, drop}
use Rattle.base.specs.Logic.{Every}
use Rattle.grammar.specs.Listing.{ResourceRecord}
use Rattle.entry.specs.EntryAt.{entry_at}
use Rattle.entry.specs.Held.{held}
use Rattle.entry.specs.declared.Content.TheVariants
use Rattle.entry.specs.declared.Entry.{Entry}
use Rattle.entry.specs.declared.Record.{Record}
use Rattle.entry.proofs.KnownLaws.{entry_is}
use Rattle.name.specs.Name.{Proper}
use Rattle.writer.specs.Line.{WellFormedRecord}
use Rattle.writer.proofs.PlaceLaws.{name_in, name_held}
use Rattle.writer.proofs.WellFormedLaws.{owner_proper}
use Rattle.writer.proofs.Theorems.{spelled_well_formed}
use Rattle.listing.specs.Reading.{limit}
use Rattle.listing.specs.Giving.{end, Gives, whole}
use Rattle.listing.proofs.Theorems.{some_giving}
use Rattle.table_fault.specs.Judging.{IndexOf}
use Rattle.table_fault.specs.Sweeping.{mark, type_bit, SweptIs}
use Rattle.table_fault.proofs.GivenLaws.{fault_given, nothing_given, record_given}

-- every record that is to be given is well formed
pub given_well_formed : {t : List ℕ} {at : ℕ} {rs : List ResourceRecord} → Gives t at rs end → Every WellFormedRecord rs
given_well_formed {t} {at} {rs} (whole fits s) = spelled_well_formed (drop at t) rs s

type_held : (p : Record) (r : ResourceRecord) → p ≡ held r → type_bit p.rtype ≡ type_bit (held r).rtype
type_held p r h = ap (λ (q : Record). type_bit q.rtype) h

module _ (t : List ℕ) (fits : length t ≤ limit) (at : ℕ) (within : at < length t) (e : Entry) (read_as : e ≡ entry_at t at) where
  on : at < e.next
  on = (entry_is t at within e read_as).on

  pub found_proper : e.content ≡ TheVariants.Record → Proper (name_in e.«record»)
  found_proper q =
      let g = some_giving t at in
      let f = record_given t fits at g.0 g.1 g.2 within e read_as q in
      subst Proper (sym (name_held e.«record» f.head f.holds)) (owner_proper f.owner.word f.head.owner f.owner.owner)

  module _ (ns : List (List ℕ)) (i m n b : ℕ) where
    pub seen_record : e.content ≡ TheVariants.Record → IndexOf ns (name_in e.«record») i → m ≡ mark (name_in e.«record») → b ≡ type_bit e.«record».rtype
        → SweptIs t at ns (record { next = e.next; index = i; mark = m; number = n; bit = b; found = true; faulty = false })
    unfolding held
    seen_record q there marked bit =
        record {
          on = on;
          fault = λ x. absurd (false≢true x);
          nothing = λ x y. absurd (true≢false y);
          met = λ x rs l g.
              let f = record_given t fits at rs l g within e read_as q in
              let own = name_held e.«record» f.head f.holds in
              record {
                head = f.head;
                later = f.later;
                order = f.order;
                gives = f.gives;
                owner = f.owner;
                there = subst (λ (o : List ℕ). IndexOf ns o i) own there;
                marked = marked ∙ ap mark own;
                bit = bit ∙ type_held e.«record» f.head f.holds;
              };
        }

    pub seen_nothing : e.content ≡ TheVariants.Nothing → SweptIs t at ns (record { next = e.next; index = i; mark = m; number = n; bit = b; found = false; faulty = false })
    seen_nothing q =
        record { on = on; fault = λ x. absurd (false≢true x); nothing = λ x y rs l g. nothing_given t fits at rs l g within e read_as q; met = λ x. absurd (false≢true x) }

    pub seen_fault : e.content ≡ TheVariants.Fault n → SweptIs t at ns (record { next = e.next; index = i; mark = m; number = n; bit = b; found = false; faulty = true })
    seen_fault q =
        record { on = on; fault = λ x rs l g. fault_given t fits at rs l g within e read_as n q; nothing = λ x y. absurd (true≢false x); met = λ x. absurd (false≢true x) }
