-- Demand 1, of names in text. Assumes nothing.
use Prim.Native.Nat.{ℕ}
use mathlib.Core.Path.{◌≡◌, refl, ap}
use mathlib.Core.Logic.{inl, inr}
use mathlib.Core.List.{List}
use native.Mathlib.Omega.{arith}
use lib.ListN.{length}
use Rattle.base.specs.declared.Answer.{Answer}
use Rattle.name.specs.Name.{canonical}
use Rattle.name.proofs.Theorems.{one_name, one_text}
use Rattle.name_text.specs.Calls.{ReadsText, WritesText}
use Rattle.demands.specs.Faults.{from_text_tests, to_text_tests}
use Rattle.demands.proofs.AnswerLaws.{InRow}

pub from_text_in_row : (w out : List ℕ) (a : Answer) (left : List ℕ) → ReadsText w out a left → InRow a (from_text_tests w out)
from_text_in_row w out a left (ReadsText.no_name f e l) = InRow.failed 9 e (inl (λ s. f s.0 s.1, refl))
from_text_in_row w out a left (ReadsText.short {n = n} s small e l) = InRow.failed 13 e (inr ((n, s), inl (λ f. omega (arith, f n s), refl)))
from_text_in_row w out a left (ReadsText.read {n = n} s room e l) = InRow.passed (length n) e ((n, s), ((λ m t. omega (arith, ap length (one_name w n m s t))), tt))

pub to_text_in_row : (n out : List ℕ) (a : Answer) (left : List ℕ) → WritesText n out a left → InRow a (to_text_tests n out)
to_text_in_row n out a left (WritesText.not_proper f e l) = InRow.failed 9 e (inl (f, refl))
to_text_in_row n out a left (WritesText.short p {w = w} s small e l) = InRow.failed 13 e (inr (p, inl (λ f. omega (arith, f w s), refl)))
to_text_in_row n out a left (WritesText.written p {w = w} s room e l) =
    InRow.passed (length w) e (p, ((λ v t. omega (arith, ap length (one_text w v (canonical n) s t))), tt))
