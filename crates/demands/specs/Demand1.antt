-- The customer's first demand.
--
--   "No message, listing, name or table, whatever its bytes, stops the gateway or makes it read past an end. Bad input gets the refusal number that document 01 fixes, by its order, and a refused call
--   changes no byte of what we lent."
--
-- The first sentence is what it means that a crate is proved: every function ends, and none reads or writes past an end, whatever it is given that its `requires` allows; and no public call has a `requires`.
-- The second sentence is stated here, call by call.
use Rattle.std.specs.Prelude.{ℕ, true, ◌≡◌, ◌↔◌, List, [], length}
use Rattle.base.specs.declared.Answer.{Answer}
use Rattle.base.specs.declared.Answer.TheVariants.{Refused}
use Rattle.dhcid.specs.Chosen.{Names}
use Rattle.dhcid.specs.Dhcid as request
use Rattle.entry.specs.declared.Record.{Record}
use Rattle.listing.specs.Reading.{Checks}
use Rattle.listing.specs.Found as found
use Rattle.listing.specs.Found.{is_refused}
use Rattle.listing.specs.Giving.{StepIs}
use Rattle.listing.specs.declared.Found.{Found}
use Rattle.listing.specs.declared.Step.{Step}
use Rattle.row.specs.Row.{RowRead}
use Rattle.name_text.specs.Calls.{ReadsText, WritesText}
use Rattle.table.specs.Calls.{Adds, Removes, Clears, Finds, Counts}
use Rattle.records.specs.Calls.{Writes, Loads}
use Rattle.book.specs.Calls.{BlockWritten, Replays, Tidies, CountsSound}
use Rattle.ptr.specs.Ptr.{ptr_tests, PtrWritten}
use Rattle.leases.specs.Calls.{Leases, Ends}
use Rattle.update.specs.Calls as update
use Rattle.update.specs.Reply.{ReadsReply}
use Rattle.update.specs.declared.Kind.TheVariants.{AddFirst, AddSecond, RemoveFirst}
use Rattle.demands.specs.Faults.{InOrder, NameFault, DhcidFault, ListingFault, RowFault, StepFault, LoadFault, from_text_tests, to_text_tests, add_tests, remove_tests, clear_tests, find_tests, count_tests, write_tests, block_tests, replay_tests, tidy_tests, lease_tests, end_tests, add_message_tests, remove_message_tests, last_message_tests, answer_tests}

-- "bad input gets the refusal number that document 01 fixes" (docs/RULES.md, 2.2 and 8): the call answered a, which is a refusal exactly if its input
-- is bad, with that number at that offset
unfoldable pub Refuses : (ℕ → ℕ → Type 0) → Answer → Type 0
Refuses Fault a = (n offset : ℕ) → (a ≡ Refused n offset) ↔ Fault n offset

-- the same of a step of the held reader, which found f: whether that is a refusal, its number and its offset, case by case, are listing's specs/Found.antt
unfoldable pub RefusesStep : (ℕ → ℕ → Type 0) → Found → Type 0
RefusesStep Fault f = (n offset : ℕ) → ((is_refused f ≡ true) × (found.number f ≡ n) × (found.offset f ≡ offset)) ↔ Fault n offset

-- "and a refused call changes no byte of what we lent": before the call it held `lent`, and after it `left`
unfoldable pub Unchanged : {L : Type 0} → L → L → Answer → Type 0
Unchanged lent left a = (n offset : ℕ) → a ≡ Refused n offset → left ≡ lent

-- The second sentence, of every public call. What is lent for reading alone is not named: nothing can be written there. Each begins with what the call promises: of the answer a that C gets as one
-- number, `Tells`, in crates/gateway/src/lib.rt; in crates/row/src/lib.rt, `read`; in crates/reader/src/lib.rt, `peek`.
pub record Demand1 : Type 0 where
  pub name : (family setting : ℕ) (m site : List ℕ) (a : Answer) → Names family setting m site a → Refuses (NameFault family setting m site) a
  pub dhcid : (family setting : ℕ) (m site out : List ℕ) (a : Answer) (left : List ℕ) → request.WritesDhcid family setting m site out a left
      → Refuses (DhcidFault family setting m site out) a × Unchanged out left a
  pub from_text : (text out : List ℕ) (a : Answer) (left : List ℕ) → ReadsText text out a left → Refuses (InOrder (from_text_tests text out)) a × Unchanged out left a
  pub to_text : (name out : List ℕ) (a : Answer) (left : List ℕ) → WritesText name out a left → Refuses (InOrder (to_text_tests name out)) a × Unchanged out left a
  pub listing : (t : List ℕ) (a : Answer) → Checks t a → Refuses (ListingFault t) a
  pub row : (t : List ℕ) (lent handed : List Record) (a : Answer) → RowRead t lent handed a → Refuses (RowFault (length lent) t) a × Unchanged lent handed a
  pub reader : (t : List ℕ) (at : ℕ) (s : Step) → StepIs t at s → RefusesStep (StepFault t at) s.found
  pub add : (b name dhcid : List ℕ) (family : ℕ) (address : List ℕ) (policy : ℕ) (a : Answer) (left : List ℕ) → Adds 64 b name dhcid family address policy a left
      → Refuses (InOrder (add_tests b name dhcid family address policy)) a × Unchanged b left a
  pub remove : (b name dhcid : List ℕ) (family : ℕ) (address : List ℕ) (a : Answer) (left : List ℕ) → Removes 64 b name dhcid family address a left
      → Refuses (InOrder (remove_tests b name dhcid family address)) a × Unchanged b left a
  pub clear : (b name : List ℕ) (a : Answer) (left : List ℕ) → Clears 64 b name a left → Refuses (InOrder (clear_tests b name)) a × Unchanged b left a
  pub find : (b name : List ℕ) (a : Answer) → Finds 64 b name a → Refuses (InOrder (find_tests b name)) a
  pub count : (b : List ℕ) (a : Answer) → Counts 64 b a → Refuses (InOrder (count_tests b)) a
  pub write : (b out : List ℕ) (a : Answer) (left : List ℕ) → Writes 64 b out a left → Refuses (InOrder (write_tests b out)) a × Unchanged out left a
  pub load : (t area : List ℕ) (a : Answer) (left : List ℕ) → Loads 65536 64 t area a left → Refuses (LoadFault t area) a × Unchanged area left a
  pub block : (b name : List ℕ) (i : ℕ) (out : List ℕ) (a : Answer) (left : List ℕ) → BlockWritten 64 b name i out a left → Refuses (InOrder (block_tests b name out)) a × Unchanged out left a
  pub replay : (book area : List ℕ) (a : Answer) (left : List ℕ) → Replays 64 book area a left → Refuses (InOrder (replay_tests book area)) a × Unchanged area left a
  pub tidy : (book out : List ℕ) (a : Answer) (left : List ℕ) → Tidies 64 book out a left → Refuses (InOrder (tidy_tests book out)) a × Unchanged out left a
  -- to this call no input is bad
  pub sound : (book : List ℕ) (a : Answer) → CountsSound 64 book a → Refuses (InOrder []) a
  pub ptr : (family : ℕ) (x out : List ℕ) (a : Answer) (left : List ℕ) → PtrWritten family x out a left → Refuses (InOrder (ptr_tests family x out)) a × Unchanged out left a
  pub lease : (b c name dhcid : List ℕ) (family : ℕ) (address : List ℕ) (policy : ℕ) (a : Answer) (b' c' : List ℕ) → Leases 64 128 b c name dhcid family address policy a b' c'
      → Refuses (InOrder (lease_tests b c name dhcid family address policy)) a × Unchanged b b' a × Unchanged c c' a
  pub end : (b c name dhcid : List ℕ) (family : ℕ) (address : List ℕ) (a : Answer) (b' c' : List ℕ) → Ends 64 128 b c name dhcid family address a b' c'
      → Refuses (InOrder (end_tests b c name dhcid family address)) a × Unchanged b b' a × Unchanged c c' a
  pub add_first : (id : ℕ) (zone name dhcid : List ℕ) (family : ℕ) (address out : List ℕ) (a : Answer) (left : List ℕ) → update.Writes AddFirst id zone name dhcid family address out a left
      → Refuses (InOrder (add_message_tests family zone name dhcid address out)) a × Unchanged out left a
  pub add_second : (id : ℕ) (zone name dhcid : List ℕ) (family : ℕ) (address out : List ℕ) (a : Answer) (left : List ℕ) → update.Writes AddSecond id zone name dhcid family address out a left
      → Refuses (InOrder (add_message_tests family zone name dhcid address out)) a × Unchanged out left a
  pub remove_first : (id : ℕ) (zone name dhcid : List ℕ) (family : ℕ) (address out : List ℕ) (a : Answer) (left : List ℕ) → update.Writes RemoveFirst id zone name dhcid family address out a left
      → Refuses (InOrder (remove_message_tests family zone name dhcid address out)) a × Unchanged out left a
  pub remove_second : (id : ℕ) (zone name dhcid out : List ℕ) (a : Answer) (left : List ℕ) → update.WritesLast id zone name dhcid out a left
      → Refuses (InOrder (last_message_tests zone name dhcid out)) a × Unchanged out left a
  pub answer : (id : ℕ) (answer : List ℕ) (a : Answer) → ReadsReply id answer a → Refuses (InOrder (answer_tests id answer)) a
