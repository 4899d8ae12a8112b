-- The public theorems of `grammar`, about the definitions of specs/ alone; each is proved by citation. Assumes nothing.
use Prim.Native.Nat.{ℕ, ◌≤◌}
use mathlib.Core.Bool.{false}
use mathlib.Core.Path.{◌≡◌, sym, ◌∙◌}
use mathlib.Core.Logic.{◌⊎◌, ◌↔◌}
use mathlib.Core.List.{List, []}
use lib.ListN.{length}
use Rattle.base.specs.Logic.{Every}
use Rattle.grammar.specs.Listing.{outside, Words, Entries, ResourceRecord, Spells}
use Rattle.grammar.specs.Whole.{AllowedByte, uncommented, parentheses, pairs, Whole, Sized}
use Rattle.grammar.specs.Faults.{Refused}
use Rattle.grammar.specs.Outcome.{Outcome, accepted, Checked, Answered}
use Rattle.grammar.proofs.CutLaws.{one_cutting, no_records}
use Rattle.grammar.proofs.PairLaws.{entries_whole, whole_entries}
use Rattle.grammar.proofs.SizeLaws.{records_sized}
use Rattle.grammar.proofs.ReaderLaws

-- ---- entries

-- two ways of cutting a text into entries are the same way
pub one_cut : (t : List ℕ) (es fs : List (List ℕ)) → Entries t es → Entries t fs → es ≡ fs
one_cut t es fs c d = one_cutting c d

-- a text none of whose entries has words spells the empty list
pub no_words : (t : List ℕ) (es : List (List ℕ)) → Entries t es → Every (λ e. Words outside e []) es → Spells t []
no_words t es c h = record { entries = es; cut = c; records = no_records es h }

-- ---- a whole text

-- a text can be cut into entries exactly if its bytes are allowed ones and its parentheses outside comments stand in pairs, each ( before its ), that do not nest
pub entries_exactly : (t : List ℕ) → ((es : List (List ℕ)) × Entries t es) ↔ Whole t
entries_exactly t = (λ c. entries_whole c.1, λ w. whole_entries t w)

-- so both are true of a listing that spells a list
module _ (t : List ℕ) (rs : List ResourceRecord) (s : Spells t rs) where
  pub allowed_bytes : Every AllowedByte t
  allowed_bytes = (entries_whole s.cut).allowed

  pub paired_parentheses : (n : ℕ) × (parentheses (uncommented false t) ≡ pairs n)
  paired_parentheses = let w = entries_whole s.cut in (w.count, w.paired)

  -- and the data of its records are 4, 16 or 35 bytes
  pub sized_data : Every Sized rs
  sized_data = records_sized s.records

-- ---- texts

-- any two lists that a text spells are the same list
pub one_list : (t : List ℕ) (rs qs : List ResourceRecord) → Spells t rs → Spells t qs → rs ≡ qs
one_list t rs qs s r = ReaderLaws.same_list s r

-- every text spells a list, or is refused with a number at an offset
pub spelled_or_refused : (t : List ℕ)
    → ((rs : List ResourceRecord) × Spells t rs) ⊎ ((rs : List ResourceRecord) × (n : ℕ) × (offset : ℕ) × Refused t rs n offset)
spelled_or_refused t = ReaderLaws.either t

-- and not both
pub not_both : (t : List ℕ) (rs qs : List ResourceRecord) (n offset : ℕ) → Spells t rs → Refused t qs n offset → ⊥
not_both t rs qs n offset s r = ReaderLaws.apart s r

-- with one number at one offset; and the records of the entries before the first faulty one, which the reader of one record at a time gives, are
-- one list too
module _ (t : List ℕ) (rs qs : List ResourceRecord) (n m offset offset' : ℕ) (r : Refused t rs n offset) (s : Refused t qs m offset') where
  pub one_number : n ≡ m
  one_number = ReaderLaws.same_number r s

  pub one_offset : offset ≡ offset'
  one_offset = ReaderLaws.same_offset r s

  pub one_before : rs ≡ qs
  one_before = ReaderLaws.same_before r s

-- ---- calls, whatever the limit and the number of places

-- every text has an answer, and one only: of the text alone, and with a row
pub some_check : (limit : ℕ) (t : List ℕ) → (o : Outcome) × Checked limit t o
some_check limit t = (_, ReaderLaws.checks limit t)

pub one_check : (limit : ℕ) (t : List ℕ) (o p : Outcome) → Checked limit t o → Checked limit t p → o ≡ p
one_check limit t o p c d = sym (ReaderLaws.checked c) ∙ ReaderLaws.checked d

pub some_answer : (limit places : ℕ) (t : List ℕ) → (o : Outcome) × Answered limit places t o
some_answer limit places t = (_, ReaderLaws.answers limit places t)

pub one_answer : (limit places : ℕ) (t : List ℕ) (o p : Outcome) → Answered limit places t o → Answered limit places t p → o ≡ p
one_answer limit places t o p a b = sym (ReaderLaws.answered a) ∙ ReaderLaws.answered b

-- a text within the limit is accepted with a list exactly if it spells that list and the row has a place for each record
pub accepted_exactly : (limit places : ℕ) (t : List ℕ) (rs : List ResourceRecord) → length t ≤ limit
    → Answered limit places t (accepted rs) ↔ (Spells t rs × (length rs ≤ places))
accepted_exactly limit places t rs fits = (ReaderLaws.accepted_spells, λ s. Answered.in_row (Checked.whole fits s.0) s.1)
