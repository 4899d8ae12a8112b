-- What C gets of a call, as the functions of src/lib.rt promise it: what the call itself promises and what the demands say of it, of one and the same answer.
use Rattle.std.specs.Prelude.{ℕ, ◌≤◌, ◌≡◌, List, [], length, take}
use Rattle.base.specs.Answer.{value, for_c, Tells, TakenApart, IsAccepted}
use Rattle.base.specs.declared.Answer.{Answer}
use Rattle.base.specs.declared.Answer.TheVariants.{Refused}
use Rattle.dhcid.specs.Chosen.{Chooses, Names, NameApart}
use Rattle.dhcid.specs.Dhcid as request
use Rattle.dhcid.specs.declared.Chosen.{Chosen}
use Rattle.listing.specs.Reading.{Checks}
use Rattle.listing.specs.Giving.{StepIs}
use Rattle.listing.specs.declared.Step.{Step}
use Rattle.name.specs.Name.{canonical}
use Rattle.name_text.specs.Calls.{ReadsText, WritesText}
use Rattle.table.specs.Calls.{Adds, Removes, Clears, Finds, Counts}
use Rattle.table.specs.Demand2.{SoundAdd, SoundRemove, SoundClear}
use Rattle.records.specs.Calls.{Writes, Loads}
use Rattle.book.specs.Calls.{BlockWritten, Replays, Tidies, CountsSound}
use Rattle.ptr.specs.Ptr.{ptr_tests, PtrWritten}
use Rattle.leases.specs.Calls.{Leases, Ends}
use Rattle.update.specs.Calls as update
use Rattle.update.specs.Reply.{ReadsReply}
use Rattle.update.specs.declared.Kind.TheVariants.{AddFirst, AddSecond, RemoveFirst}
use Rattle.leases.specs.Cuts.{LeaseCut, SecondLease, EndCut, SecondEnd}
use Rattle.demands.specs.Faults.{InOrder, Of, NameFault, DhcidFault, ListingFault, StepFault, LoadFault, from_text_tests, to_text_tests, add_tests, remove_tests, clear_tests, find_tests, count_tests, write_tests, block_tests, replay_tests, tidy_tests, lease_tests, end_tests, add_message_tests, remove_message_tests, last_message_tests, answer_tests}
use Rattle.demands.specs.Demand1.{Refuses, RefusesStep, Unchanged}
use Rattle.demands.specs.Demand2.{IsRfc4701, SameTable, AddsClient, RemovesAddress, ClearsName}

-- the number r tells the answer, of which P holds; and taking r apart as include/vichrelka.h does gives back what the answer says (base, specs/Answer.antt), since no refusal has the number 0
pub record ToldC (r : ℕ) (P : Answer → Type 0) : Type 0 where
  pub answer : Answer
  pub told : r ≡ for_c answer
  pub apart : TakenApart answer
  pub numbered : (offset : ℕ) → answer ≡ Refused 0 offset → ⊥
  pub holds : P answer

-- and the value taken apart as the header does is the choice: the source, the start and the length
abbrev pub NameTold : ℕ → ℕ → List ℕ → List ℕ → Answer → Type 0
NameTold family setting m site a =
    Names family setting m site a × Refuses (NameFault family setting m site) a × ((c : Chosen) → Chooses family setting m site c → NameApart a c)

abbrev pub DhcidTold : ℕ → ℕ → List ℕ → List ℕ → List ℕ → Answer → List ℕ → Type 0
DhcidTold family setting m site out a left =
    request.WritesDhcid family setting m site out a left × Refuses (DhcidFault family setting m site out) a × Unchanged out left a
    × (IsAccepted a → IsRfc4701 family setting m site out a left)

abbrev pub FromTextTold : List ℕ → List ℕ → Answer → List ℕ → Type 0
FromTextTold text out a left = ReadsText text out a left × Refuses (InOrder (from_text_tests text out)) a × Unchanged out left a

abbrev pub ToTextTold : List ℕ → List ℕ → Answer → List ℕ → Type 0
ToTextTold name out a left = WritesText name out a left × Refuses (InOrder (to_text_tests name out)) a × Unchanged out left a

abbrev pub CheckTold : List ℕ → Answer → Type 0
CheckTold t a = Checks t a × Refuses (ListingFault t) a

-- no number for C: the held reader's step itself
abbrev pub StepTold : List ℕ → ℕ → Step → Type 0
StepTold t at s = StepIs t at s × RefusesStep (StepFault t at) s.found

abbrev pub AddTold : List ℕ → List ℕ → List ℕ → ℕ → List ℕ → ℕ → Answer → List ℕ → Type 0
AddTold b name dhcid family address policy a left =
    Adds 64 b name dhcid family address policy a left × Refuses (InOrder (add_tests b name dhcid family address policy)) a × Unchanged b left a
    × (SoundAdd 64 b name dhcid family address policy → Of b (λ t. AddsClient t name dhcid family address policy a left))

abbrev pub RemoveTold : List ℕ → List ℕ → List ℕ → ℕ → List ℕ → Answer → List ℕ → Type 0
RemoveTold b name dhcid family address a left =
    Removes 64 b name dhcid family address a left × Refuses (InOrder (remove_tests b name dhcid family address)) a × Unchanged b left a
    × (SoundRemove 64 b name dhcid family address → Of b (λ t. RemovesAddress t name dhcid family address a left))

abbrev pub ClearTold : List ℕ → List ℕ → Answer → List ℕ → Type 0
ClearTold b name a left =
    Clears 64 b name a left × Refuses (InOrder (clear_tests b name)) a × Unchanged b left a × (SoundClear 64 b name → Of b (λ t. ClearsName t name a left))

abbrev pub FindTold : List ℕ → List ℕ → Answer → Type 0
FindTold b name a = Finds 64 b name a × Refuses (InOrder (find_tests b name)) a

abbrev pub CountTold : List ℕ → Answer → Type 0
CountTold b a = Counts 64 b a × Refuses (InOrder (count_tests b)) a

abbrev pub WriteTold : List ℕ → List ℕ → Answer → List ℕ → Type 0
WriteTold b out a left = Writes 64 b out a left × Refuses (InOrder (write_tests b out)) a × Unchanged out left a

abbrev pub LoadTold : List ℕ → List ℕ → Answer → List ℕ → Type 0
LoadTold t area a left = Loads 65536 64 t area a left × Refuses (LoadFault t area) a × Unchanged area left a

abbrev pub BlockTold : List ℕ → List ℕ → ℕ → List ℕ → Answer → List ℕ → Type 0
BlockTold b name i out a left = BlockWritten 64 b name i out a left × Refuses (InOrder (block_tests b name out)) a × Unchanged out left a

abbrev pub ReplayTold : List ℕ → List ℕ → Answer → List ℕ → Type 0
ReplayTold book area a left = Replays 64 book area a left × Refuses (InOrder (replay_tests book area)) a × Unchanged area left a

abbrev pub TidyTold : List ℕ → List ℕ → Answer → List ℕ → Type 0
TidyTold book out a left = Tidies 64 book out a left × Refuses (InOrder (tidy_tests book out)) a × Unchanged out left a

abbrev pub SoundTold : List ℕ → Answer → Type 0
SoundTold book a = CountsSound 64 book a × Refuses (InOrder []) a

abbrev pub PtrTold : ℕ → List ℕ → List ℕ → Answer → List ℕ → Type 0
PtrTold family x out a left = PtrWritten family x out a left × Refuses (InOrder (ptr_tests family x out)) a × Unchanged out left a

abbrev pub LeaseTold : List ℕ → List ℕ → List ℕ → List ℕ → ℕ → List ℕ → ℕ → Answer → List ℕ → List ℕ → Type 0
LeaseTold b c name dhcid family address policy a b' c' =
    Leases 64 128 b c name dhcid family address policy a b' c' × Refuses (InOrder (lease_tests b c name dhcid family address policy)) a × Unchanged b b' a × Unchanged c c' a

abbrev pub EndTold : List ℕ → List ℕ → List ℕ → List ℕ → ℕ → List ℕ → Answer → List ℕ → List ℕ → Type 0
EndTold b c name dhcid family address a b' c' =
    Ends 64 128 b c name dhcid family address a b' c' × Refuses (InOrder (end_tests b c name dhcid family address)) a × Unchanged b b' a × Unchanged c c' a

abbrev pub AddFirstTold : ℕ → List ℕ → List ℕ → List ℕ → ℕ → List ℕ → List ℕ → Answer → List ℕ → Type 0
AddFirstTold id zone name dhcid family address out a left =
    update.Writes AddFirst id zone name dhcid family address out a left × Refuses (InOrder (add_message_tests family zone name dhcid address out)) a × Unchanged out left a

abbrev pub AddSecondTold : ℕ → List ℕ → List ℕ → List ℕ → ℕ → List ℕ → List ℕ → Answer → List ℕ → Type 0
AddSecondTold id zone name dhcid family address out a left =
    update.Writes AddSecond id zone name dhcid family address out a left × Refuses (InOrder (add_message_tests family zone name dhcid address out)) a × Unchanged out left a

abbrev pub RemoveFirstTold : ℕ → List ℕ → List ℕ → List ℕ → ℕ → List ℕ → List ℕ → Answer → List ℕ → Type 0
RemoveFirstTold id zone name dhcid family address out a left =
    update.Writes RemoveFirst id zone name dhcid family address out a left × Refuses (InOrder (remove_message_tests family zone name dhcid address out)) a × Unchanged out left a

abbrev pub RemoveSecondTold : ℕ → List ℕ → List ℕ → List ℕ → List ℕ → Answer → List ℕ → Type 0
RemoveSecondTold id zone name dhcid out a left =
    update.WritesLast id zone name dhcid out a left × Refuses (InOrder (last_message_tests zone name dhcid out)) a × Unchanged out left a

abbrev pub AnswerTold : ℕ → List ℕ → Answer → Type 0
AnswerTold id answer a = ReadsReply id answer a × Refuses (InOrder (answer_tests id answer)) a

-- the table with the bytes b was written into an output that held `out` and now holds `left`. A refusal of the write is the answer r, and the area is as it was; else as many bytes of the output as
-- the write's value were loaded into an area that held `area` and now holds `after`, and r was answered to that
pub data Carried (b out left area : List ℕ) (r : ℕ) (after : List ℕ) : Type 0 where
  not_written : (n offset : ℕ) → Tells r (λ a. Writes 64 b out a left × (a ≡ Refused n offset)) → after ≡ area → Carried b out left area r after
  loaded : (w : Answer) → Writes 64 b out w left → IsAccepted w → Tells r (λ a. Loads 65536 64 (take (value w) left) area a after) → Carried b out left area r after

-- and where the write was accepted, and the area has room for a table, it is the same table
abbrev pub CarriedSame : List ℕ → List ℕ → List ℕ → List ℕ → ℕ → List ℕ → Type 0
CarriedSame b out left area r after = (w : Answer) → Writes 64 b out w left → IsAccepted w → 19968 ≤ length area → ToldC r (λ a. SameTable b area a after)

-- ---- a lease and its end on sides that are stored, cut once k of the two are stored, and then the same again (document 02, K7; docs/RULES.md, 12.5)

-- what an uncut run on the stored bytes h and g answers, and what it leaves; the run that was cut left h' and g' stored
pub record LeaseCutOff (h g name dhcid : List ℕ) (family : ℕ) (address : List ℕ) (policy k : ℕ) (h' g' : List ℕ) : Type 0 where
  pub answer : Answer
  pub table : List ℕ
  pub reverse : List ℕ
  pub uncut : Leases 64 128 h g name dhcid family address policy answer table reverse
  pub cut : LeaseCut 64 128 name dhcid family address policy k h g h' g'

pub record EndCutOff (h g name dhcid : List ℕ) (family : ℕ) (address : List ℕ) (k : ℕ) (h' g' : List ℕ) : Type 0 where
  pub answer : Answer
  pub table : List ℕ
  pub reverse : List ℕ
  pub uncut : Ends 64 128 h g name dhcid family address answer table reverse
  pub cut : EndCut 64 128 name dhcid family address k h g h' g'

-- after the second run the stored bytes are those of one uncut run, and r tells C the second answer
pub record LeaseMended (h g name dhcid : List ℕ) (family : ℕ) (address : List ℕ) (policy k r : ℕ) (h' g' : List ℕ) : Type 0 where
  pub answer : Answer
  pub uncut : Leases 64 128 h g name dhcid family address policy answer h' g'
  pub second : Tells r (SecondLease k answer)

pub record EndMended (h g name dhcid : List ℕ) (family : ℕ) (address : List ℕ) (k r : ℕ) (h' g' : List ℕ) : Type 0 where
  pub answer : Answer
  pub uncut : Ends 64 128 h g name dhcid family address answer h' g'
  pub second : Tells r (SecondEnd 64 (canonical name) h' k answer)
