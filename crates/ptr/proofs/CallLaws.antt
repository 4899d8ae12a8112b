-- What the call's promise determines. Assumes nothing.
use Prim.Native.Nat.{ℕ}
use mathlib.Core.Path.{◌≡◌, sym, ap, ◌∙◌}
use mathlib.Core.List.{List}
use Rattle.base.specs.declared.Answer.{Answer}
use Rattle.base.specs.declared.Answer.TheVariants.{Refused}
use Rattle.base.proofs.AnswerLaws.{accepted≢refused}
use Rattle.base.proofs.Theorems.{one_fault, no_fault}
use Rattle.ptr.specs.Ptr.{ptr_tests, PtrWritten}

module _ (family : ℕ) (x out : List ℕ) where
  pub one_written : (r q : Answer) (left also : List ℕ) → PtrWritten family x out r left → PtrWritten family x out q also → (r ≡ q) × (left ≡ also)
  one_written r q left also (PtrWritten.faulty {n} f a e) (PtrWritten.faulty {n = m} g b d) =
      (a ∙ ap (λ (k : ℕ). Refused k 0) (one_fault (ptr_tests family x out) n m f g) ∙ sym b, e ∙ sym d)
  one_written r q left also (PtrWritten.faulty {n} f a e) (PtrWritten.written h b d) = absurd (no_fault (ptr_tests family x out) n h f)
  one_written r q left also (PtrWritten.written h a e) (PtrWritten.faulty {n} g b d) = absurd (no_fault (ptr_tests family x out) n h g)
  one_written r q left also (PtrWritten.written h a e) (PtrWritten.written k b d) = (a ∙ sym b, e ∙ sym d)

  pub unwritten : (r : Answer) (left : List ℕ) → PtrWritten family x out r left → (n at : ℕ) → r ≡ Refused n at → left ≡ out
  unwritten r left (PtrWritten.faulty f a e) n at b = e
  unwritten r left (PtrWritten.written h a e) n at b = absurd (accepted≢refused (sym a ∙ b))
