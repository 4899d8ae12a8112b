-- The public theorems of `message6`; each is proved by citation. Assumes nothing.
use Prim.Native.Nat.{ℕ, ◌≤◌, ◌+◌, ◌-◌}
use mathlib.Core.Path.{◌≡◌, sym, ◌∙◌, subst}
use mathlib.Core.List.{List}
use mathlib.Core.Bool.{true}
use native.Mathlib.Omega.{arith}
use lib.ListN.{length, drop, take}
use Rattle.base.specs.Logic.{Every}
use Rattle.message.specs.Request.{identifier_bytes, bytes_of, no_part}
use Rattle.message.specs.Seen.{part_of}
use Rattle.message.specs.declared.Request.{Request}
use Rattle.message6.specs.Options6.{Option6, Options6, located6}
use Rattle.message6.specs.Message6.{judge6, Reads6}
use Rattle.message6.specs.Reading6.{request6}
use Rattle.message6.specs.Walking6.{part}
use Rattle.message6.proofs.OptionsLaws6.{options_one}
use Rattle.message6.proofs.LevelLaws6.{request_reads, reads_request}
use Rattle.message6.proofs.StandLaws6.{options_stand}
use Rattle.message6.proofs.AcceptLaws6.{reads_client, reads_sound, identifier_length, stands_bytes}

-- ---- what the function reads is what the relation tells

-- what is read of a message is what the message is answered with
pub answer6 : (m : List ℕ) → Reads6 m (request6 m)
answer6 m = reads_request m

-- and the message is answered with nothing else
pub only_answer6 : (m : List ℕ) (r : Request) → Reads6 m r → request6 m ≡ r
only_answer6 m r h = request_reads m h

-- no bytes are those of two lists of options
pub one_options6 : (b : List ℕ) (os ps : List Option6) → Options6 b os → Options6 b ps → os ≡ ps
one_options6 b os ps h k = options_one b os ps h k

-- every message is answered
pub some_reading6 : (m : List ℕ) → (r : Request) × Reads6 m r
some_reading6 m = (request6 m, reads_request m)

-- and in one way only
pub one_reading6 : (m : List ℕ) (r s : Request) → Reads6 m r → Reads6 m s → r ≡ s
one_reading6 m r s h k = sym (request_reads m h) ∙ request_reads m k

-- ---- where the parts are

-- the data of the options of a part of a message are the bytes of the message where they are said to be
pub located_bytes6 : (m : List ℕ) (at len : ℕ) (os : List Option6) → at + len ≤ length m → Options6 (take len (drop at m)) os
    → Every (λ l. l.bytes ≡ bytes_of m (part_of l)) (located6 at os)
unfolding part
located_bytes6 m at len os within h =
    let same : len ≡ at + len - at = omega arith in
    stands_bytes m at (at + len) (located6 at os)
    (options_stand m (at + len) within at os (subst (λ (n : ℕ). Options6 (take n (drop at m)) os) same h))

module _ (m : List ℕ) (r : Request) (h : Reads6 m r) (accepted : r.refusal ≡ 0) where
  -- an accepted request is what the options of one level say, and their data are bytes of the message
  pub client_options6 : (at : ℕ) × (os : List Option6) × (r ≡ judge6 (located6 at os)) × Every (λ l. l.bytes ≡ bytes_of m (part_of l)) (located6 at os)
  client_options6 =
      let c = reads_client m r h accepted in
      (c.at, c.list, c.answer, stands_bytes m c.at c.end (located6 c.at c.list) c.stands)

  -- the identifier is of type 2, and in one part
  pub identifier_type6 : r.id_type ≡ 2
  identifier_type6 = (reads_sound m r h accepted).type

  pub no_head6 : r.id_head ≡ no_part
  no_head6 = (reads_sound m r h accepted).no_head

  -- it lies within the message, and so does the name
  pub id_inside6 : r.id.start + r.id.len ≤ length m
  id_inside6 = (reads_sound m r h accepted).id_within

  pub name_inside6 : r.has_name ≡ true → r.name.start + r.name.len ≤ length m
  name_inside6 = (reads_sound m r h accepted).name_within

  -- its bytes are 3 to 130
  pub identifier_length6 : (3 ≤ length (identifier_bytes m r)) × (length (identifier_bytes m r) ≤ 130)
  identifier_length6 =
      let s = reads_sound m r h accepted in
      let long = identifier_length m r s in
      (omega (arith, long, s.least), omega (arith, long, s.most))

  -- so that with any name it comes to 385 at most
  pub together6 : (name : List ℕ) → length name ≤ 255 → length (identifier_bytes m r) + length name ≤ 385
  together6 name short = omega (arith, identifier_length6.1, short)
