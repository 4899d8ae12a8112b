-- The calls that write a message. Document 02, K8 (docs/RULES.md, 13.1 and 13.2): 12, 9, 15, 16, 13; the second remove has no address, and so neither 12 nor
-- 16. A refused call leaves the output as it was.
use Rattle.std.specs.Prelude.{ℕ, ◌≤◌, true, ◌≡◌, List, [], ◌∷◌, length}
use Rattle.base.specs.Bytes.{overlay}
use Rattle.base.specs.Dhcid.{well_formed}
use Rattle.base.specs.Family.{KnownFamily}
use Rattle.base.specs.Order.{Test, AllHold, FirstFault}
use Rattle.base.specs.Refusal.{no_proper_name, unknown_setting, output_short, not_a_dhcid, address_length}
use Rattle.base.specs.declared.Answer.{Answer}
use Rattle.base.specs.declared.Answer.TheVariants.{Accepted, Refused}
use Rattle.name.specs.Name.{Proper, canonical, Within}
use Rattle.slots.specs.Entry.{family_of, address_size}
use Rattle.update.specs.Message.{Message, message_bytes}
use Rattle.update.specs.Updates.{address_record, remove_second, of_kind}
use Rattle.update.specs.declared.Kind.{Kind}

-- ---- what is tested

-- document 02, K8 (docs/RULES.md, 13.1): name and zone are proper, and the zone is the name's last labels, letters in either case
pub record InZone (n z : List ℕ) : Type 0 where
  pub name : Proper n
  pub zone : Proper z
  pub within : Within (canonical n) (canonical z)

-- the family, 12; the name n and the zone z, 9; the DHCID d, 15; the length of the address x, 16; the room for the message m, 13
abbrev pub address_tests : ℕ → List ℕ → List ℕ → List ℕ → List ℕ → Message → List ℕ → List Test
address_tests family z n d x m out =
    record { number = unknown_setting; holds = KnownFamily family }
    ∷ record { number = no_proper_name; holds = InZone n z }
    ∷ record { number = not_a_dhcid; holds = well_formed d ≡ true }
    ∷ record { number = address_length; holds = length x ≡ address_size (family_of family) }
    ∷ record { number = output_short; holds = length (message_bytes m) ≤ length out }
    ∷ []

-- where there is no address
abbrev pub name_tests : List ℕ → List ℕ → List ℕ → Message → List ℕ → List Test
name_tests z n d m out =
    record { number = no_proper_name; holds = InZone n z }
    ∷ record { number = not_a_dhcid; holds = well_formed d ≡ true }
    ∷ record { number = output_short; holds = length (message_bytes m) ≤ length out }
    ∷ []

-- ---- what is answered, and what is left

-- the message m was written into an output that held `out` and now holds `left`, if the tests ts hold; r was answered
pub data Written (ts : List Test) (m : Message) (out : List ℕ) (r : Answer) (left : List ℕ) : Type 0 where
  faulty : {k : ℕ} → FirstFault ts k → r ≡ Refused k 0 → left ≡ out → Written ts m out r left
  written : AllHold ts → r ≡ Accepted (length (message_bytes m)) → left ≡ overlay out 0 (message_bytes m) → Written ts m out r left

-- the message of a call, by its kind: name and zone in canonical form, and the type of the family's record
abbrev pub called : Kind → ℕ → List ℕ → List ℕ → List ℕ → ℕ → List ℕ → Message
called k id z n d family x = of_kind k id (canonical z) (canonical n) d (address_record (family_of family)) x

abbrev pub called_last : ℕ → List ℕ → List ℕ → List ℕ → Message
called_last id z n d = remove_second id (canonical z) (canonical n) d

-- the first and the second message of an add, and the first of a remove
abbrev pub Writes : Kind → ℕ → List ℕ → List ℕ → List ℕ → ℕ → List ℕ → List ℕ → Answer → List ℕ → Type 0
Writes k id z n d family x out = Written (address_tests family z n d x (called k id z n d family x) out) (called k id z n d family x) out

-- the second of a remove
abbrev pub WritesLast : ℕ → List ℕ → List ℕ → List ℕ → List ℕ → Answer → List ℕ → Type 0
WritesLast id z n d out = Written (name_tests z n d (called_last id z n d) out) (called_last id z n d) out
