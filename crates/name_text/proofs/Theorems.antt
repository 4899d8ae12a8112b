-- The public theorems of `name_text`: each promise determines the answer and what is left, a refused call leaves the output as it was, and what was written is read again as the same name. Assumes nothing.
use Prim.Native.Nat.{ℕ, ◌≤◌}
use mathlib.Core.Path.{◌≡◌, sym, ap, ◌∙◌}
use mathlib.Core.List.{List}
use native.Mathlib.Nat.{zero-add}
use native.Mathlib.Omega.{arith}
use lib.ListN.{length, take}
use Rattle.base.specs.Answer.{value, IsAccepted}
use Rattle.base.specs.Bytes.{overlay}
use Rattle.base.specs.declared.Answer.{Answer}
use Rattle.base.specs.declared.Answer.TheVariants.{Accepted, Refused}
use Rattle.base.proofs.AnswerLaws.{accepted≢refused}
use Rattle.base.proofs.Bytes.{take_overlay}
use Rattle.name.specs.Name.{canonical}
use Rattle.name.proofs.NameLaws.{length_canonical, canonical_again}
use Rattle.name.proofs.Theorems.{one_name, one_text}
use Rattle.name_text.specs.Calls.{ReadsText, WritesText}

-- ---- a name read

module _ (w out : List ℕ) where
  pub one_read : (r q : Answer) (left also : List ℕ) → ReadsText w out r left → ReadsText w out q also → (r ≡ q) × (left ≡ also)
  one_read r q left also (ReadsText.no_name f a e) (ReadsText.no_name g b d) = (a ∙ sym b, e ∙ sym d)
  one_read r q left also (ReadsText.no_name f a e) (ReadsText.short {n = m} t small b d) = absurd (f m t)
  one_read r q left also (ReadsText.no_name f a e) (ReadsText.read {n = m} t room b d) = absurd (f m t)
  one_read r q left also (ReadsText.short {n = n} s small a e) (ReadsText.no_name g b d) = absurd (g n s)
  one_read r q left also (ReadsText.short {n = n} s small a e) (ReadsText.short {n = m} t small' b d) = (a ∙ sym b, e ∙ sym d)
  one_read r q left also (ReadsText.short {n = n} s small a e) (ReadsText.read {n = m} t room b d) = absurd (omega (arith, ap length (one_name w n m s t)))
  one_read r q left also (ReadsText.read {n = n} s room a e) (ReadsText.no_name g b d) = absurd (g n s)
  one_read r q left also (ReadsText.read {n = n} s room a e) (ReadsText.short {n = m} t small b d) = absurd (omega (arith, ap length (one_name w n m s t)))
  one_read r q left also (ReadsText.read {n = n} s room a e) (ReadsText.read {n = m} t room' b d) =
      let same = one_name w n m s t in
      (a ∙ ap (λ (k : List ℕ). Accepted (length k)) same ∙ sym b, e ∙ ap (λ (k : List ℕ). overlay out 0 (canonical k)) same ∙ sym d)

  pub refused_read : (r : Answer) (left : List ℕ) → ReadsText w out r left → (n at : ℕ) → r ≡ Refused n at → left ≡ out
  refused_read r left (ReadsText.no_name f a e) n at b = e
  refused_read r left (ReadsText.short s small a e) n at b = e
  refused_read r left (ReadsText.read s room a e) n at b = absurd (accepted≢refused (sym a ∙ b))

-- ---- a name written

module _ (n out : List ℕ) where
  pub one_write : (r q : Answer) (left also : List ℕ) → WritesText n out r left → WritesText n out q also → (r ≡ q) × (left ≡ also)
  one_write r q left also (WritesText.not_proper f a e) (WritesText.not_proper g b d) = (a ∙ sym b, e ∙ sym d)
  one_write r q left also (WritesText.not_proper f a e) (WritesText.short p t small b d) = absurd (f p)
  one_write r q left also (WritesText.not_proper f a e) (WritesText.written p t room b d) = absurd (f p)
  one_write r q left also (WritesText.short p s small a e) (WritesText.not_proper g b d) = absurd (g p)
  one_write r q left also (WritesText.short p s small a e) (WritesText.short p' t small' b d) = (a ∙ sym b, e ∙ sym d)
  one_write r q left also (WritesText.short p {w = v} s small a e) (WritesText.written p' {w = w} t room b d) = absurd (omega (arith, ap length (one_text v w (canonical n) s t)))
  one_write r q left also (WritesText.written p s room a e) (WritesText.not_proper g b d) = absurd (g p)
  one_write r q left also (WritesText.written p {w = v} s room a e) (WritesText.short p' {w = w} t small b d) = absurd (omega (arith, ap length (one_text v w (canonical n) s t)))
  one_write r q left also (WritesText.written p {w = v} s room a e) (WritesText.written p' {w = w} t room' b d) =
      let same = one_text v w (canonical n) s t in
      (a ∙ ap (λ (k : List ℕ). Accepted (length k)) same ∙ sym b, e ∙ ap (λ (k : List ℕ). overlay out 0 k) same ∙ sym d)

  pub refused_write : (r : Answer) (left : List ℕ) → WritesText n out r left → (m at : ℕ) → r ≡ Refused m at → left ≡ out
  refused_write r left (WritesText.not_proper f a e) m at b = e
  refused_write r left (WritesText.short p s small a e) m at b = e
  refused_write r left (WritesText.written p s room a e) m at b = absurd (accepted≢refused (sym a ∙ b))

  -- ---- there and back

  -- the text that was written, read into an output with room for the name, is the name in canonical form
  pub written_read : (r : Answer) (left : List ℕ) → WritesText n out r left → IsAccepted r → (area : List ℕ) (a : Answer) (after : List ℕ) → length n ≤ length area
      → ReadsText (take (value r) left) area a after → (a ≡ Accepted (length n)) × (after ≡ overlay area 0 (canonical n))
  unfolding IsAccepted
  written_read r left (WritesText.not_proper f b e) ok area a after room h = absurd (accepted≢refused (sym ok.1 ∙ b))
  written_read r left (WritesText.short p s small b e) ok area a after room h = absurd (accepted≢refused (sym ok.1 ∙ b))
  written_read r left (WritesText.written p {w = w} s fits b e) ok area a after room h =
      let front : take (value r) left ≡ w =
      ap (λ (q : Answer). take (value q) left) b ∙ ap (take (length w)) e ∙ ap (λ (k : ℕ). take k (overlay out 0 w)) (sym (zero-add (length w))) ∙ take_overlay out 0 w (omega arith) in
      one_read w area a (Accepted (length n)) after (overlay area 0 (canonical n)) (rw front at h)
      (ReadsText.read s (omega (arith, length_canonical n)) (ap Accepted (sym (length_canonical n))) (ap (overlay area 0) (sym (canonical_again n))))
