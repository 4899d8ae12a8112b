-- The public theorems of `update` (document 02, K8): bytes are read as one message, and those that a call writes as its own; how long the four messages are, and
-- that 1,401 bytes are enough; the promises determine what is answered and written, a refused call leaves the output as it was, and an accepted one has its
-- message in front; and what a server's header is read as. Each is proved by citation. Assumes nothing.
use Prim.Native.Nat.{ℕ, ◌+◌, ◌*◌, ◌≤◌, ◌<◌}
use mathlib.Core.Bool.{true}
use mathlib.Core.Path.{◌≡◌, refl}
use mathlib.Core.List.{List, ◌∷◌, ◌++◌}
use native.Mathlib.Omega.{arith}
use lib.ListN.{length, take, drop}
use Rattle.base.specs.Bytes.{big_endian}
use Rattle.base.specs.Dhcid.{well_formed}
use Rattle.base.specs.Refusal.{another_code}
use Rattle.base.specs.declared.Answer.{Answer}
use Rattle.base.specs.declared.Answer.TheVariants.{Accepted, Refused}
use Rattle.slots.specs.Entry.{family_of, address_size}
use Rattle.update.specs.Calls.{InZone, called, called_last, Writes, WritesLast}
use Rattle.update.specs.Message.{Message, message_bytes}
use Rattle.update.specs.Promise.{length_of, last_length}
use Rattle.update.specs.Reading.{Reads}
use Rattle.update.specs.Reply.{IsOurs, ReadsReply}
use Rattle.update.specs.Updates.{add_first, add_second, remove_first, remove_second, of_kind}
use Rattle.update.specs.declared.Kind.{Kind}
use Rattle.update.specs.declared.Kind.TheVariants.{AddFirst, AddSecond, RemoveFirst}
use Rattle.update.proofs.ReadLaws.{one_reading}
use Rattle.update.proofs.FitLaws.{called_fits, last_fits}
use Rattle.update.proofs.LengthLaws.{length_kind, length_last}
use Rattle.update.proofs.CallLaws as calls

-- ---- the bytes of a message

-- bytes are read as one message
pub one_message : (b : List ℕ) (m k : Message) → Reads b m → Reads b k → m ≡ k
one_message b m k p q = one_reading b m k p q

-- and those that a call writes are read as its message
module _ (id : ℕ) (z n d : List ℕ) (small : id < 65536) (inside : InZone n z) (good : well_formed d ≡ true) where
  pub written_read : (k : Kind) (family : ℕ) (x : List ℕ) → length x ≡ address_size (family_of family)
      → Reads (message_bytes (called k id z n d family x)) (called k id z n d family x)
  written_read k family x size = record { fits = called_fits id z n d small inside good k family x size; bytes = refl }

  pub last_read : Reads (message_bytes (called_last id z n d)) (called_last id z n d)
  last_read = record { fits = last_fits id z n d small inside good; bytes = refl }

-- how long they are
module _ (id : ℕ) (z n d : List ℕ) (long : length d ≡ 35) where
  pub length_of_kind : (k : Kind) (t : ℕ) (x : List ℕ) → length (message_bytes (of_kind k id z n d t x)) ≡ length_of k (length z) (length n) (length x)
  length_of_kind k t x = length_kind id z n d long k t x

  pub length_of_last : length (message_bytes (remove_second id z n d)) ≡ last_length (length z) (length n)
  length_of_last = length_last id z n d long

  -- the longest of each, and so 1,401 bytes are enough for every message
  pub enough : length z ≤ 255 → length n ≤ 255 → (t : ℕ) (x : List ℕ) → length x ≤ 16
      → (length (message_bytes (add_first id z n d t x)) ≤ 1117) × (length (message_bytes (add_second id z n d t x)) ≤ 1117)
      × (length (message_bytes (remove_first id z n d t x)) ≤ 1133) × (length (message_bytes (remove_second id z n d)) ≤ 1401)
  enough hz hn t x hx =
      let first = length_of_kind AddFirst t x in
      let second = length_of_kind AddSecond t x in
      let remove = length_of_kind RemoveFirst t x in
      let last = length_of_last in
      (omega (arith, first), omega (arith, second), omega (arith, remove), omega (arith, last))

-- ---- the calls that write

module _ (k : Kind) (id : ℕ) (z n d : List ℕ) (family : ℕ) (x out : List ℕ) where
  pub one_written : (r q : Answer) (left also : List ℕ) → Writes k id z n d family x out r left → Writes k id z n d family x out q also
      → (r ≡ q) × (left ≡ also)
  one_written r q left also h g = calls.one_written _ _ out r q left also h g

  pub refused_message : (r : Answer) (left : List ℕ) → Writes k id z n d family x out r left → (m at : ℕ) → r ≡ Refused m at → left ≡ out
  refused_message r left h m at e = calls.unwritten _ _ out r left h m at e

  -- the first v bytes of what an accepted call left are its message, and the others are as they were
  pub written_bytes : (r : Answer) (left : List ℕ) → Writes k id z n d family x out r left → (v : ℕ) → r ≡ Accepted v
      → (take v left ≡ message_bytes (called k id z n d family x)) × (drop v left ≡ drop v out)
  written_bytes r left h v e = calls.in_front _ _ out r left h v e

module _ (id : ℕ) (z n d out : List ℕ) where
  pub one_last : (r q : Answer) (left also : List ℕ) → WritesLast id z n d out r left → WritesLast id z n d out q also → (r ≡ q) × (left ≡ also)
  one_last r q left also h g = calls.one_written _ _ out r q left also h g

  pub refused_last : (r : Answer) (left : List ℕ) → WritesLast id z n d out r left → (m at : ℕ) → r ≡ Refused m at → left ≡ out
  refused_last r left h m at e = calls.unwritten _ _ out r left h m at e

  pub last_bytes : (r : Answer) (left : List ℕ) → WritesLast id z n d out r left → (v : ℕ) → r ≡ Accepted v
      → (take v left ≡ message_bytes (called_last id z n d)) × (drop v left ≡ drop v out)
  last_bytes r left h v e = calls.in_front _ _ out r left h v e

-- ---- the call that reads

pub one_reply : (id : ℕ) (a : List ℕ) (r q : Answer) → ReadsReply id a r → ReadsReply id a q → r ≡ q
one_reply id a r q h g = calls.one_reply id a r q h g

-- a header with our number, QR 1, opcode 5 and the code c, whatever its other bits f and g are and whatever follows, is read as c, or as 48 if c is none of the four
pub answer_read : (id f g c : ℕ) (rest : List ℕ) → id < 65536 → f < 8 → g < 16 → c < 16 → 8 ≤ length rest
    → (r : Answer) → ReadsReply id (big_endian 2 id ++ (128 + 5 * 8 + f) ∷ (g * 16 + c) ∷ rest) r
    → (IsOurs c → r ≡ Accepted c) × ((IsOurs c → ⊥) → r ≡ Refused another_code 0)
answer_read id f g c rest small hf hg hc long r reads = calls.header_read id f g c rest small hf hg hc long r reads
