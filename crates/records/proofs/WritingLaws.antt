-- The call that writes a table (specs/Calls.antt): one answer and one content of the area, what a refusal leaves, and what was written where it was accepted. Assumes nothing.
use Prim.Native.Nat.{ℕ, ◌≤◌}
use mathlib.Core.Path.{◌≡◌, sym, ap, ap₂, ◌∙◌}
use mathlib.Core.List.{List}
use native.Mathlib.Omega.{arith}
use lib.ListN.{length, take}
use Rattle.base.specs.Answer.{number, value}
use Rattle.base.specs.Bytes.{overlay}
use Rattle.base.specs.declared.Answer.{Answer}
use Rattle.base.specs.declared.Answer.TheVariants.{Accepted, Refused}
use Rattle.base.proofs.AnswerLaws.{accepted≢refused}
use Rattle.base.proofs.Bytes.{taken_back}
use Rattle.slots.specs.Form.{Sound}
use Rattle.slots.proofs.Theorems.{one_sound_table}
use Rattle.records.specs.Written.{listing_of}
use Rattle.records.specs.Calls.{Writes}

module _ (places : ℕ) (b out : List ℕ) where
  -- whoever finds b sound writes the same listing
  same_listing : (s k : Sound places b) → listing_of s.table ≡ listing_of k.table
  same_listing s k = ap listing_of (one_sound_table places b s k)

  pub one_writing : {r q : Answer} {left also : List ℕ} → Writes places b out r left → Writes places b out q also → (r ≡ q) × (left ≡ also)
  one_writing (Writes.not_sound f a e) (Writes.not_sound g c d) = (a ∙ sym c, e ∙ sym d)
  one_writing (Writes.not_sound f a e) (Writes.short k h c d) = absurd (f k)
  one_writing (Writes.not_sound f a e) (Writes.written k h c d) = absurd (f k)
  one_writing (Writes.short s h a e) (Writes.not_sound g c d) = absurd (g s)
  one_writing (Writes.short s h a e) (Writes.short k j c d) = (a ∙ sym c, e ∙ sym d)
  one_writing (Writes.short s h a e) (Writes.written k j c d) = absurd (omega (arith, ap length (same_listing s k)))
  one_writing (Writes.written s h a e) (Writes.not_sound g c d) = absurd (g s)
  one_writing (Writes.written s h a e) (Writes.short k j c d) = absurd (omega (arith, ap length (same_listing s k)))
  one_writing (Writes.written s h a e) (Writes.written k j c d) = (
    a ∙ ap (λ (l : List ℕ). Accepted (length l)) (same_listing s k) ∙ sym c,
    e ∙ ap (overlay out 0) (same_listing s k) ∙ sym d,
  )

  module _ {r : Answer} {left : List ℕ} where
    pub unwritten : Writes places b out r left → (n at : ℕ) → r ≡ Refused n at → left ≡ out
    unwritten (Writes.not_sound f a e) n at h = e
    unwritten (Writes.short s j a e) n at h = e
    unwritten (Writes.written s j a e) n at h = absurd (accepted≢refused (sym a ∙ h))

    -- an output that is long enough is written to
    pub room_accepts : (s : Sound places b) → length (listing_of s.table) ≤ length out → Writes places b out r left → number r ≡ 0
    room_accepts s fits (Writes.not_sound f a e) = absurd (f s)
    room_accepts s fits (Writes.short k j a e) = absurd (omega (arith, ap length (same_listing k s)))
    room_accepts s fits (Writes.written k j a e) = ap number a

    -- what was accepted is sound
    pub written_sound : Writes places b out r left → number r ≡ 0 → Sound places b
    written_sound (Writes.not_sound f a e) h = absurd (omega (arith, ap number a))
    written_sound (Writes.short k j a e) h = k
    written_sound (Writes.written k j a e) h = k

    -- what was answered and written, where it was accepted
    pub was_written : (s : Sound places b) → Writes places b out r left → number r ≡ 0 → (r ≡ Accepted (length (listing_of s.table))) × (left ≡ overlay out 0 (listing_of s.table))
    was_written s (Writes.not_sound f a e) h = absurd (f s)
    was_written s (Writes.short k j a e) h = absurd (omega (arith, ap number a))
    was_written s (Writes.written k j a e) h = (a ∙ ap (λ (l : List ℕ). Accepted (length l)) (same_listing k s), e ∙ ap (overlay out 0) (same_listing k s))

    -- the bytes that were written, as many as was answered
    pub text_written : (s : Sound places b) → Writes places b out r left → number r ≡ 0 → take (value r) left ≡ listing_of s.table
    text_written s w h = let d = was_written s w h in ap₂ take (ap value d.0) d.1 ∙ taken_back out (listing_of s.table)
