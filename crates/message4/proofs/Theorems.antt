-- The public theorems of `message4`; each is proved by citation. Assumes nothing.
use Prim.Native.Nat.{ℕ, ◌≤◌, ◌<◌, ◌+◌}
use mathlib.Core.Path.{◌≡◌, sym, ◌∙◌}
use mathlib.Core.List.{List}
use native.Mathlib.Omega.{arith}
use lib.ListN.{length, drop}
use Rattle.base.specs.Logic.{Every}
use Rattle.message.specs.Request.{Inside, identifier_bytes}
use Rattle.message.specs.declared.Request.{Request}
use Rattle.message4.specs.Options4.{Field4, Options4, located4}
use Rattle.message4.specs.Message4.{Reads4}
use Rattle.message4.specs.Reading4.{request4}
use Rattle.message4.specs.Judging4.{DataIn}
use Rattle.message4.proofs.Laws4.{one_list, reads_answer, answer_reads}
use Rattle.message4.proofs.PlaceLaws4.{located_in, placed_by}

-- ---- options

-- no bytes are those of two lists of options
pub one_options4 : (b : List ℕ) (fs gs : List Field4) → Options4 b fs → Options4 b gs → fs ≡ gs
one_options4 b fs gs o p = one_list o p

-- each option's data are the bytes of the message where it says that they are
pub located_bytes4 : (m : List ℕ) (fs : List Field4) → Options4 (drop 240 m) fs → Every (DataIn m) (located4 240 fs)
located_bytes4 m fs o = located_in m fs 240 _ o.cut

-- ---- answers

-- every message is answered, with what `read4` promises; and with nothing else
pub answer4 : (m : List ℕ) → Reads4 m (request4 m)
answer4 m = answer_reads m

pub only_answer4 : (m : List ℕ) (r : Request) → Reads4 m r → request4 m ≡ r
only_answer4 m r h = reads_answer h

-- so every message has some answer, and none has two
pub some_reading4 : (m : List ℕ) → (r : Request) × Reads4 m r
some_reading4 m = (request4 m, answer_reads m)

pub one_reading4 : (m : List ℕ) (r s : Request) → Reads4 m r → Reads4 m s → r ≡ s
one_reading4 m r s h k = sym (reads_answer h) ∙ reads_answer k

-- ---- a request that is accepted

module _ (m : List ℕ) (r : Request) (h : Reads4 m r) (e : r.refusal ≡ 0) where
  -- the identifier's two parts and the name's lie within the message
  pub id_head_inside4 : Inside m r.id_head
  id_head_inside4 = (placed_by h e).id_head

  pub id_inside4 : Inside m r.id
  id_inside4 = (placed_by h e).id

  pub name_inside4 : Inside m r.name
  name_inside4 = (placed_by h e).name

  -- the identifier has two bytes at least, and 255 at most if the message consists of bytes
  pub identifier_least4 : 2 ≤ length (identifier_bytes m r)
  identifier_least4 = (placed_by h e).least

  pub identifier_most4 : Every (λ b. b < 256) m → length (identifier_bytes m r) ≤ 255
  identifier_most4 bytes = (placed_by h e).most bytes

  -- so that with any name, which has 255 bytes at most, it comes to 510 at most: far from refusal 14's 4,096
  pub together4 : Every (λ b. b < 256) m → (name : List ℕ) → length name ≤ 255 → length (identifier_bytes m r) + length name ≤ 510
  together4 bytes name short = omega (arith, identifier_most4 bytes, short)

  -- as a DUID it has 3 to 130
  pub duid_size4 : r.id_type ≡ 2 → (3 ≤ length (identifier_bytes m r)) × (length (identifier_bytes m r) ≤ 130)
  duid_size4 t = (placed_by h e).duid t
