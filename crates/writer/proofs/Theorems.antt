-- The public theorems of `writer`; each is proved by citation. Assumes nothing.
use Prim.Native.Nat.{ℕ, ◌≤◌}
use mathlib.Core.List.{List, [], ◌∷◌}
use lib.ListN.{length}
use Rattle.base.specs.Logic.{Every}
use Rattle.grammar.specs.Listing.{ResourceRecord, Spells}
use Rattle.grammar.specs.Faults.{Refused}
use Rattle.writer.specs.Line.{WellFormedRecord, line, lines}
use Rattle.writer.proofs.PlaceLaws.{line_short}
use Rattle.writer.proofs.SpellingLaws.{lines_spelled, line_spelled}
use Rattle.writer.proofs.WellFormedLaws.{records_well_formed}

-- ---- what is written spells what was written

-- the lines of well-formed records, one after the other, spell just those records, in their order
pub lines_spell : (rs : List ResourceRecord) → Every WellFormedRecord rs → Spells (lines rs) rs
lines_spell rs h = lines_spelled rs h

-- the line of a well-formed record spells that record alone
pub line_spells : (r : ResourceRecord) → WellFormedRecord r → Spells (line r) (r ∷ [])
line_spells r h = line_spelled r h

-- no line is longer than 310 bytes
pub longest_line_lem : (r : ResourceRecord) → WellFormedRecord r → length (line r) ≤ 310
longest_line_lem r h = line_short r h

-- ---- every record that was read can be written

-- every record that a listing spells is well formed
pub spelled_well_formed : (t : List ℕ) (rs : List ResourceRecord) → Spells t rs → Every WellFormedRecord rs
spelled_well_formed t rs s = records_well_formed s.records

-- and so is every record before the first faulty entry of a listing that is refused
pub refused_well_formed : (t : List ℕ) (rs : List ResourceRecord) (n place : ℕ) → Refused t rs n place → Every WellFormedRecord rs
refused_well_formed t rs n place r = records_well_formed r.records
