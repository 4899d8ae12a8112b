-- What the calls' promises determine, what an accepted one wrote, and what a header is read as. Assumes nothing.
use Prim.Native.Nat.{ℕ, ◌+◌, ◌*◌, ◌≤◌, ◌<◌}
use mathlib.Core.Path.{◌≡◌, refl, sym, ap, ap₂, subst, ◌∙◌}
use mathlib.Core.Logic.{inl, inr}
use mathlib.Core.List.{List, ◌∷◌, ◌++◌}
use native.Mathlib.Omega.{arith}
use lib.ListN.{length, take, drop}
use Rattle.base.specs.Answer.{value}
use Rattle.base.specs.Bytes.{big_endian}
use Rattle.base.specs.Order.{Test}
use Rattle.base.specs.Refusal.{another_code}
use Rattle.base.specs.declared.Answer.{Answer}
use Rattle.base.specs.declared.Answer.TheVariants.{Accepted, Refused}
use Rattle.base.proofs.AnswerLaws.{accepted≢refused}
use Rattle.base.proofs.Bytes.{taken_back, left_behind}
use Rattle.base.proofs.Theorems.{one_fault, no_fault}
use Rattle.update.specs.Calls.{Written}
use Rattle.update.specs.Message.{Message, message_bytes}
use Rattle.update.specs.Reply.{id_of, qr_of, opcode_of, rcode_of, IsOurs, reply_tests, ReadsReply}

-- ---- a message written

module _ (ts : List Test) (m : Message) (out : List ℕ) where
  pub one_written : (r q : Answer) (left also : List ℕ) → Written ts m out r left → Written ts m out q also → (r ≡ q) × (left ≡ also)
  one_written r q left also (Written.faulty {k} f a e) (Written.faulty {k = j} g b d) = (a ∙ ap (λ (i : ℕ). Refused i 0) (one_fault ts k j f g) ∙ sym b, e ∙ sym d)
  one_written r q left also (Written.faulty {k} f a e) (Written.written h b d) = absurd (no_fault ts k h f)
  one_written r q left also (Written.written h a e) (Written.faulty {k} g b d) = absurd (no_fault ts k h g)
  one_written r q left also (Written.written h a e) (Written.written k b d) = (a ∙ sym b, e ∙ sym d)

  pub unwritten : (r : Answer) (left : List ℕ) → Written ts m out r left → (n at : ℕ) → r ≡ Refused n at → left ≡ out
  unwritten r left (Written.faulty f a e) n at b = e
  unwritten r left (Written.written h a e) n at b = absurd (accepted≢refused (sym a ∙ b))

  -- what was accepted has the message in front, and behind it what was there
  pub in_front : (r : Answer) (left : List ℕ) → Written ts m out r left → (v : ℕ) → r ≡ Accepted v → (take v left ≡ message_bytes m) × (drop v left ≡ drop v out)
  in_front r left (Written.faulty f a e) v b = absurd (accepted≢refused (sym b ∙ a))
  in_front r left (Written.written h a e) v b =
      let size : v ≡ length (message_bytes m) = ap value (sym b ∙ a) in
      (ap₂ take size e ∙ taken_back out (message_bytes m), ap₂ drop size e ∙ left_behind out (message_bytes m) ∙ ap (λ (k : ℕ). drop k out) (sym size))

-- ---- an answer read

module _ (id : ℕ) (a : List ℕ) where
  pub one_reply : (r q : Answer) → ReadsReply id a r → ReadsReply id a q → r ≡ q
  one_reply r q (ReadsReply.faulty {k} f e) (ReadsReply.faulty {k = j} g d) = e ∙ ap (λ (i : ℕ). Refused i 0) (one_fault (reply_tests id a) k j f g) ∙ sym d
  one_reply r q (ReadsReply.faulty {k} f e) (ReadsReply.read h d) = absurd (no_fault (reply_tests id a) k h f)
  one_reply r q (ReadsReply.read h e) (ReadsReply.faulty {k} g d) = absurd (no_fault (reply_tests id a) k h g)
  one_reply r q (ReadsReply.read h e) (ReadsReply.read k d) = e ∙ sym d

  -- a whole header of our number, QR 1 and opcode 5, with the code c
  module _ (whole : 12 ≤ length a) (qr : qr_of a ≡ 1) (opcode : opcode_of a ≡ 5) (number : id_of a ≡ id) (c : ℕ) (code : rcode_of a ≡ c) where
    pub ours_read : IsOurs c → (r : Answer) → ReadsReply id a r → r ≡ Accepted c
    ours_read ours r reads =
        one_reply r (Accepted c) reads (ReadsReply.read (whole, (qr, (opcode, (number, (subst IsOurs (sym code) ours, tt))))) (ap Accepted (sym code)))

    pub another_read : (IsOurs c → ⊥) → (r : Answer) → ReadsReply id a r → r ≡ Refused another_code 0
    another_read other r reads =
        one_reply r (Refused another_code 0) reads (ReadsReply.faulty (inr (whole, inr (qr, inr (opcode, inr (number, inl (λ own. other (subst IsOurs code own), refl)))))) refl)

-- the first four bytes of such a header: three bits of the third byte and four of the fourth do not matter
module _ (id f g c : ℕ) (rest : List ℕ) (small : id < 65536) (hf : f < 8) (hg : g < 16) (hc : c < 16) (long : 8 ≤ length rest) where
  abbrev pub header : List ℕ
  header = big_endian 2 id ++ (128 + 5 * 8 + f) ∷ (g * 16 + c) ∷ rest

  pub header_read : (r : Answer) → ReadsReply id header r → (IsOurs c → r ≡ Accepted c) × ((IsOurs c → ⊥) → r ≡ Refused another_code 0)
  unfolding big_endian
  header_read r reads = (
    λ ours. ours_read id header (omega arith) (omega arith) (omega arith) (omega arith) c (omega arith) ours r reads,
    λ other. another_read id header (omega arith) (omega arith) (omega arith) (omega arith) c (omega arith) other r reads,
  )
