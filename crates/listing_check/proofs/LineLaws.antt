-- The line of a record, put where there is room for the longest: all of it is put, and it is never refused. Assumes nothing.
use Prim.Native.Nat.{ℕ, ◌+◌, ◌≤◌}
use mathlib.Core.Path.{◌≡◌, sym, ap, ◌∙◌}
use mathlib.Core.List.{List}
use native.Mathlib.Omega.{arith}
use lib.ListN.{length}
use Rattle.base.specs.Answer.{value}
use Rattle.base.specs.declared.Answer.{Answer}
use Rattle.base.specs.declared.Answer.TheVariants.{Accepted, Refused}
use Rattle.grammar.specs.Listing.{ResourceRecord}
use Rattle.writer.specs.Line.{WellFormedRecord, line, put_answer, put_bytes}
use Rattle.writer.proofs.RoomLaws.{room_answer, room_bytes}
use Rattle.writer.proofs.Theorems.{longest_line_lem}
use Rattle.listing_check.specs.Printing.{longest_line, LinePut}

module _ (r : ResourceRecord) (good : WellFormedRecord r) (out : List ℕ) (used : ℕ) (room : used + longest_line ≤ length out)
    (a : Answer) (answers : a ≡ put_answer (line r) used out) where
  fits : used + length (line r) ≤ length out
  fits = omega (arith, longest_line_lem r good)

  pub never_refused : (n offset : ℕ) → a ≡ Refused n offset → ⊥
  never_refused n offset q = let e = sym q ∙ answers ∙ sym (room_answer (line r) used out fits) in let z : ◌≡◌ {A = ℕ} 0 1 = cc in omega arith

  pub line_put : (n : ℕ) (out' : List ℕ) → a ≡ Accepted n → out' ≡ put_bytes (line r) used out → LinePut r out used out' (used + n)
  line_put n out' q bytes =
      let all : n ≡ length (line r) = ap value (sym q ∙ answers ∙ sym (room_answer (line r) used out fits)) in
      record { bytes = bytes ∙ sym (room_bytes (line r) used out fits); ends = ap (λ (m : ℕ). used + m) all; fits = omega (arith, fits) }
