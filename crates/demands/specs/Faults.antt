-- Bad input, call by call: with which number document 01 (docs/RULES.md, 2.2 and 8) refuses it, by its order, and at which offset. Where an order is
-- a row of numbers it stands here as a row of tests, and the first one that fails decides (base, specs/Order.antt); the orders inside a message and
-- inside a listing are those of the definitions that are named. The offset, document 01's place (docs/RULES.md, 1.3), is 0 but for a listing's faulty
-- entry.
use Rattle.std.specs.Prelude.{ℕ, ◌+◌, ◌*◌, ◌≤◌, ◌<◌, true, ◌≡◌, ◌⊎◌, List, [], ◌∷◌, ◌++◌, length}
use Rattle.std.proofs.Math.Option.{none, some}
use Rattle.base.specs.Dhcid.{well_formed}
use Rattle.base.specs.Family.{KnownFamily}
use Rattle.base.specs.Order.{Test, FirstFault}
use Rattle.base.specs.Refusal.{no_proper_name, output_short, hash_input_long, held_by_another, kept_by_hand, table_full, name_not_held, address_differs, table_not_sound, wrong_check, wrong_field, block_length, reverse_full, unknown_setting, not_a_dhcid, address_length, not_the_answer, another_code}
use Rattle.name.specs.Name.{Proper, SpellsName, canonical}
use Rattle.message.specs.Request.{identifier_bytes}
use Rattle.message.specs.declared.Request.{Request}
use Rattle.dhcid.specs.Chosen.{Says, Chooses, name_bytes}
use Rattle.dhcid.specs.declared.Chosen.{Chosen}
use Rattle.grammar.specs.Listing.{ResourceRecord}
use Rattle.grammar.specs.Outcome.{accepted, refused, Checked, Answered}
use Rattle.listing.specs.Giving.{Gives, refusal}
use Rattle.slots.specs.Entry.{family_of, address_of, address_size}
use Rattle.slots.specs.Form.{TableEntry, Sound}
use Rattle.table.specs.Steps.{find}
use Rattle.table.specs.Calls.{KnownPolicy, name_tests, argument_tests}
use Rattle.reverse.specs.Entry.{ReverseEntry, stands_at}
use Rattle.reverse.specs.Form.{SoundReverse}
use Rattle.leases.specs.Calls as leases
use Rattle.update.specs.Calls.{InZone}
use Rattle.update.specs.Reply.{id_of, qr_of, opcode_of, rcode_of}
use Rattle.records.specs.Written.{listing_of}
use Rattle.records.specs.Calls.{load_tests}
use Rattle.book.specs.Notes.{Note, after}
use Rattle.book.specs.Books.{Right, Bad, Room, tidied}

-- the first of the tests that fails has the number n; the offset is 0
abbrev pub InOrder : List Test → ℕ → ℕ → Type 0
InOrder ts n offset = FirstFault ts n × (offset ≡ 0)

-- ---- a request

-- the chosen name: 12, the message's refusals, 9 (dhcid, specs/Chosen.antt; message4, specs/Message4.antt; message6, specs/Message6.antt)
unfoldable pub NameFault : ℕ → ℕ → List ℕ → List ℕ → ℕ → ℕ → Type 0
NameFault family setting m site n offset = (c : Chosen) × Chooses family setting m site c × (c.refusal ≡ n) × (n ≡ 0 → ⊥) × (offset ≡ 0)

-- and then, for the DHCID: 14, 13
abbrev pub dhcid_tests : ℕ → ℕ → List Test
dhcid_tests hashed room = record { number = hash_input_long; holds = hashed ≤ 4096 } ∷ record { number = output_short; holds = 35 ≤ room } ∷ []

-- a name is chosen, and then one of these fails
unfoldable pub RoomFault : ℕ → ℕ → List ℕ → List ℕ → List ℕ → ℕ → ℕ → Type 0
RoomFault family setting m site out n offset =
    (r : Request) × (c : Chosen) × Says family m r × Chooses family setting m site c × (c.refusal ≡ 0)
    × InOrder (dhcid_tests (length (identifier_bytes m r) + length (name_bytes m site c)) (length out)) n offset

unfoldable pub DhcidFault : ℕ → ℕ → List ℕ → List ℕ → List ℕ → ℕ → ℕ → Type 0
DhcidFault family setting m site out n offset = NameFault family setting m site n offset ⊎ RoomFault family setting m site out n offset

-- ---- a name in text

-- read: 9 for a text that spells no name, then 13 for an output with less room than that name in wire form
abbrev pub from_text_tests : List ℕ → List ℕ → List Test
from_text_tests text out =
    record { number = no_proper_name; holds = (n : List ℕ) × SpellsName text n }
    ∷ record { number = output_short; holds = (n : List ℕ) → SpellsName text n → length n ≤ length out } ∷ []

-- written: 9 for a name that is not proper, then 13 for an output with less room than its text
abbrev pub to_text_tests : List ℕ → List ℕ → List Test
to_text_tests name out =
    record { number = no_proper_name; holds = Proper name }
    ∷ record { number = output_short; holds = (w : List ℕ) → SpellsName w (canonical name) → length w ≤ length out } ∷ []

-- ---- a listing, of at most 65,536 bytes

-- read as a whole: 17, then the first faulty entry and its first fault, at the offset of its first byte (grammar, specs/Outcome.antt and specs/Faults.antt)
unfoldable pub ListingFault : List ℕ → ℕ → ℕ → Type 0
ListingFault t n offset = Checked 65536 t (refused n offset)

-- read into a row of so many places: 25 after all these
unfoldable pub RowFault : ℕ → List ℕ → ℕ → ℕ → Type 0
RowFault places t n offset = Answered 65536 places t (refused n offset)

-- read one record at a time, from the offset at on: no record is left before the refusal (listing, specs/Giving.antt)
unfoldable pub StepFault : List ℕ → ℕ → ℕ → ℕ → Type 0
StepFault t at n offset = Gives t at [] (refusal n offset)

-- ---- the table, of 64 names

-- P holds of the entries that the bytes b are. Of bytes that are no sound table there are none, so that whatever P says holds of them. No answer hangs on it: in every row below the test for
-- refusal 40 stands before those that begin with `Of`, and the first test that fails decides.
-- An example, a table of one byte: it is not sound. Of a clear of the name `a.` in it the tests are 40 (the table is sound), which fails; 9 (the name is proper), which holds; 33 (the name stands in the
-- table), which holds of no entries, though no name stands there. The first that fails is 40, and 40 is what the call answers.
abbrev pub Of : List ℕ → (List TableEntry → Type 0) → Type 0
Of b P = (s : Sound 64 b) → P s.table

-- the entry under the name n: that there is one; that nobody holds it, which is document 01's kept by hand (docs/RULES.md, 7.1); that the client with
-- the DHCID d holds it
unfoldable pub Stands : List ℕ → List TableEntry → Type 0
Stands n t = (e : TableEntry) × (find n t ≡ some e)

unfoldable pub ByHand : List ℕ → List TableEntry → Type 0
ByHand n t = (e : TableEntry) × (find n t ≡ some e) × (e.holder ≡ none)

unfoldable pub HeldBy : List ℕ → List ℕ → List TableEntry → Type 0
HeldBy d n t = (e : TableEntry) × (find n t ≡ some e) × (e.holder ≡ some d)

-- what an add tests behind its arguments: 32 for an unused name, 31, and 30 where the first wins
abbrev pub add_step_tests : List ℕ → List ℕ → List ℕ → ℕ → List Test
add_step_tests b name dhcid policy =
    record { number = table_full; holds = Of b (λ t. find (canonical name) t ≡ none → length t < 64) }
    ∷ record { number = kept_by_hand; holds = Of b (λ t. ByHand (canonical name) t → ⊥) }
    ∷ record { number = held_by_another; holds = Of b (λ t. (d : List ℕ) → HeldBy d (canonical name) t → policy ≡ 0 → d ≡ dhcid) } ∷ []

-- Add: 12, 40, 9, 15, 16, and those
abbrev pub add_tests : List ℕ → List ℕ → List ℕ → ℕ → List ℕ → ℕ → List Test
add_tests b name dhcid family address policy =
    argument_tests 64 (KnownFamily family × KnownPolicy policy) b name dhcid family address ++ add_step_tests b name dhcid policy

-- what a remove tests behind its arguments: 33, 31, 30, 34
abbrev pub remove_step_tests : List ℕ → List ℕ → List ℕ → ℕ → List ℕ → List Test
remove_step_tests b name dhcid family address =
    record { number = name_not_held; holds = Of b (Stands (canonical name)) }
    ∷ record { number = kept_by_hand; holds = Of b (λ t. ByHand (canonical name) t → ⊥) }
    ∷ record { number = held_by_another; holds = Of b (HeldBy dhcid (canonical name)) }
    ∷ record { number = address_differs; holds = Of b (λ t. (e : TableEntry) → find (canonical name) t ≡ some e → address_of (family_of family) e ≡ some address) } ∷ []

-- Remove: 12, 40, 9, 15, 16, and those
abbrev pub remove_tests : List ℕ → List ℕ → List ℕ → ℕ → List ℕ → List Test
remove_tests b name dhcid family address = argument_tests 64 (KnownFamily family) b name dhcid family address ++ remove_step_tests b name dhcid family address

-- Clear: 40, 9, 33
abbrev pub clear_tests : List ℕ → List ℕ → List Test
clear_tests b name = name_tests 64 b name ++ record { number = name_not_held; holds = Of b (Stands (canonical name)) } ∷ []

-- Find: the same
abbrev pub find_tests : List ℕ → List ℕ → List Test
find_tests b name = clear_tests b name

-- Count: 40
abbrev pub count_tests : List ℕ → List Test
count_tests b = record { number = table_not_sound; holds = Sound 64 b } ∷ []

-- Writing: 40, 13
abbrev pub write_tests : List ℕ → List ℕ → List Test
write_tests b out =
    record { number = table_not_sound; holds = Sound 64 b } ∷ record { number = output_short; holds = Of b (λ t. length (listing_of t) ≤ length out) } ∷ []

-- Loading: the faults of reading, then 35, 32, and 13 for an area that is too short
unfoldable pub LoadFault : List ℕ → List ℕ → ℕ → ℕ → Type 0
LoadFault t area n offset = ListingFault t n offset ⊎ ((rs : List ResourceRecord) × Checked 65536 t (accepted rs) × InOrder (load_tests 64 rs area) n offset)

-- ---- the book of names, for a table of 64 (document 02, K5; docs/RULES.md, 11.3)

-- a name's block: 40, 9, and 13 for an output of fewer than 512 bytes
abbrev pub block_tests : List ℕ → List ℕ → List ℕ → List Test
block_tests b name out = name_tests 64 b name ++ record { number = output_short; holds = 512 ≤ length out } ∷ []

-- a whole book: 44; 42 and 43 for the first bad block (book, specs/Books.antt), whatever stands before or behind it; 40 where after some block more than 64 names
-- stand. A book that is not right says nothing, so that the test for 40 holds of it; but then a test before it fails
abbrev pub book_tests : List ℕ → List Test
book_tests book =
    record { number = block_length; holds = (k : ℕ) × (length book ≡ 512 * k) }
    ∷ record { number = wrong_check; holds = Bad book wrong_check → ⊥ }
    ∷ record { number = wrong_field; holds = Bad book wrong_field → ⊥ }
    ∷ record { number = table_not_sound; holds = (cs : List Note) → Right book cs → Room 64 cs } ∷ []

-- replaying: that, and 13 for an area that is too short for a table
abbrev pub area_tests : List ℕ → List Test
area_tests area = record { number = output_short; holds = 19968 ≤ length area } ∷ []

abbrev pub replay_tests : List ℕ → List ℕ → List Test
replay_tests book area = book_tests book ++ area_tests area

-- tidying: that, and 13 for an output with less room than the tidied book has bytes
abbrev pub out_tests : List ℕ → List ℕ → List Test
out_tests book out = record { number = output_short; holds = (cs : List Note) → Right book cs → length (tidied (after cs)) ≤ length out } ∷ []

abbrev pub tidy_tests : List ℕ → List ℕ → List Test
tidy_tests book out = book_tests book ++ out_tests book out

-- ---- reverse names and leases, of 64 names and 128 addresses (document 02, K7; docs/RULES.md, 12)

-- P holds of the entries that the bytes c are; of bytes that are no sound reverse side whatever it says, as with `Of`
abbrev pub OfReverse : List ℕ → (List ReverseEntry → Type 0) → Type 0
OfReverse c P = (u : SoundReverse 128 c) → P u.names

-- a lease: 12, 40 for the table or the reverse side, 9, 15, 16; 46 for a full reverse side without the address; then add's
abbrev pub place_tests : List ℕ → ℕ → List ℕ → List Test
place_tests c family address = record { number = reverse_full; holds = OfReverse c (λ rs. length rs ≡ 128 → stands_at (family_of family) address rs ≡ true) } ∷ []

abbrev pub lease_tests : List ℕ → List ℕ → List ℕ → List ℕ → ℕ → List ℕ → ℕ → List Test
lease_tests b c name dhcid family address policy =
    leases.lease_tests 64 128 b c name dhcid family address policy ++ (place_tests c family address ++ add_step_tests b name dhcid policy)

-- an ended lease: 12, 40, 9, 15, 16, then remove's
abbrev pub end_tests : List ℕ → List ℕ → List ℕ → List ℕ → ℕ → List ℕ → List Test
end_tests b c name dhcid family address = leases.end_tests 64 128 b c name dhcid family address ++ remove_step_tests b name dhcid family address

-- ---- messages for a name server (document 02, K8; docs/RULES.md, 13)

-- room for so many bytes: 13
abbrev pub room_tests : ℕ → List ℕ → List Test
room_tests size out = record { number = output_short; holds = size ≤ length out } ∷ []

-- the messages of an address: 12 for the family, 9 for name and zone, 15, 16; then 13
abbrev pub message_tests : ℕ → List ℕ → List ℕ → List ℕ → List ℕ → List Test
message_tests family zone name dhcid address =
    record { number = unknown_setting; holds = KnownFamily family }
    ∷ record { number = no_proper_name; holds = InZone name zone }
    ∷ record { number = not_a_dhcid; holds = well_formed dhcid ≡ true }
    ∷ record { number = address_length; holds = length address ≡ address_size (family_of family) } ∷ []

-- both messages of an add
abbrev pub add_message_tests : ℕ → List ℕ → List ℕ → List ℕ → List ℕ → List ℕ → List Test
add_message_tests family zone name dhcid address out = message_tests family zone name dhcid address ++ room_tests (81 + length zone + 3 * length name + length address) out

-- the first message of a remove
abbrev pub remove_message_tests : ℕ → List ℕ → List ℕ → List ℕ → List ℕ → List ℕ → List Test
remove_message_tests family zone name dhcid address out = message_tests family zone name dhcid address ++ room_tests (81 + length zone + 3 * length name + 2 * length address) out

-- and the second, which has no address: 9, 15, 13
abbrev pub holder_tests : List ℕ → List ℕ → List ℕ → List Test
holder_tests zone name dhcid = record { number = no_proper_name; holds = InZone name zone } ∷ record { number = not_a_dhcid; holds = well_formed dhcid ≡ true } ∷ []

abbrev pub last_message_tests : List ℕ → List ℕ → List ℕ → List ℕ → List Test
last_message_tests zone name dhcid out = holder_tests zone name dhcid ++ room_tests (126 + length zone + 4 * length name) out

-- a server's answer: 47 for fewer than 12 bytes, no response, no UPDATE, or another number; 48 for a code other than 0, 6, 7 and 8
abbrev pub answer_tests : ℕ → List ℕ → List Test
answer_tests id answer =
    record { number = not_the_answer; holds = 12 ≤ length answer }
    ∷ record { number = not_the_answer; holds = qr_of answer ≡ 1 }
    ∷ record { number = not_the_answer; holds = opcode_of answer ≡ 5 }
    ∷ record { number = not_the_answer; holds = id_of answer ≡ id }
    ∷ record { number = another_code; holds = (rcode_of answer ≡ 0) ⊎ (rcode_of answer ≡ 6) ⊎ (rcode_of answer ≡ 7) ⊎ (rcode_of answer ≡ 8) } ∷ []
