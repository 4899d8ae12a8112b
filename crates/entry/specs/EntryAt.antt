-- What an entry of a listing is read as: its content, its record, and where the next entry begins. All three hang on the words of the entry and on how it ends
-- (grammar, specs/Scan.antt, `scan`) and on what such words come to (grammar, specs/Content.antt, `content_of`). Of `a. A 1.2.3.4 ;a. A 1.2.3.4` the words are
-- `a.`, `A` and `1.2.3.4`, since what follows the ; is a comment, and the entry ends with the text: it is read as that record, and the next entry begins at 26
-- (proofs/Theorems.antt, `entry_example`).
use Rattle.std.specs.Prelude.{ℕ, ◌-◌, Bool, true, false, cond, List, length, drop}
use Rattle.base.specs.Refusal.{entry_shape}
use Rattle.grammar.specs.Listing.{is_word_byte, begins, outside, ResourceRecord}
use Rattle.grammar.specs.Scan.{plain, Ending, at_end, at_line, at_fault, scan}
use Rattle.grammar.specs.Content.{Content, nothing, one, fault, content_of}
use Rattle.words.specs.NextIs.{depth_of}
use Rattle.entry.specs.Held.{held, empty_record}
use Rattle.entry.specs.declared.Content.TheVariants
use Rattle.entry.specs.declared.Entry.{Entry}

-- an entry with no words; with one record; with a fault, by its number. The next one begins at next
unfoldable pub nothing_before : ℕ → Entry
nothing_before next = record { content = TheVariants.Nothing; «record» = empty_record; next = next }

unfoldable pub record_before : ResourceRecord → ℕ → Entry
record_before r next = record { content = TheVariants.Record; «record» = held r; next = next }

unfoldable pub fault_before : ℕ → ℕ → Entry
fault_before n next = record { content = TheVariants.Fault n; «record» = empty_record; next = next }

-- by what its words come to, in a text of so many bytes: after a faulty entry none is read, so that the next one begins at the text's end
abbrev pub by_content : ℕ → Content → ℕ → Entry
by_content size nothing next = nothing_before next
by_content size (one r) next = record_before r next
by_content size (fault n) next = fault_before n size

-- and by how it ends: with the text; at a 10, after which the text u stands; at a fault of its shape, which comes before those of its words
abbrev pub by_end : ℕ → Content → Ending → Entry
by_end size c at_end = by_content size c size
by_end size c (at_line u) = by_content size c (size - length u)
by_end size c at_fault = fault_before entry_shape size

-- the entry that begins at the offset at of the text t, as it is read
unfoldable pub entry_at : List ℕ → ℕ → Entry
entry_at t at = let l = scan plain outside (drop at t) in by_end (length t) (content_of (begins is_word_byte (drop at t)) l.words) l.ending

-- ---- what the functions on the way to it promise

abbrev pub not_at_fault : Ending → Bool
not_at_fault at_end = true
not_at_fault (at_line u) = true
not_at_fault at_fault = false

-- the fault n, or 20 where the entry has a fault of its shape from at on, at the depth d
unfoldable pub faulty_from : List ℕ → ℕ → Bool → ℕ → Entry
faulty_from t at d n = fault_before (cond (not_at_fault (scan plain (depth_of d) (drop at t)).ending) n entry_shape) (length t)
