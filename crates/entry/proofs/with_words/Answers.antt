use Prim.Native.Nat.{◌-◌}
use Prim.Native.Nat.{ℕ}
use mathlib.Core.Bool.{Bool}
use mathlib.Core.List.{List, []}
use mathlib.Core.Path.{sym, ap, ◌∙◌}
use Rattle.std.specs.Prelude.{Option as Maybe, is_some, unwrap_or}
use Rattle.base.specs.Bytes.{zero_filled}
use native.Mathlib.Omega.{arith}
use lib.ListN.{take, drop}
use borrow.Author.Tests.{not-true, not-false}
use Rattle.entry.proofs.NextLaws.{word_is, line_is, end_is, fault_is}
use Rattle.entry.proofs.EntryLaws.{first_byte, owner_none, owner_some}
use Rattle.entry.proofs.WordedLaws.{bad_owner, bad_first, bad_type, bad_data, word_left, shape_left, good_to_end, good_to_line}
use borrow.Author.Rules.{rules}
use Rattle.entry.specs.Parts.{data_of}
use Rattle.entry.proofs.with_words.Goals as goal

abbrev there : Maybe (List ℕ) → Bool
there o = is_some o

abbrev bytes : Maybe (List ℕ) → List ℕ
bytes o = unwrap_or o (zero_filled [])

pub returns-in_default : goal.returns-in_default
returns-in_default c =
    let a = c.args in
    let t = a.text.now in
    let w = c.requires in
    let o = c.from_text in
    c.faulty.ensures ∙ bad_owner t a.at a.start a.end a.inside w (owner_none (take (a.end - a.start) (drop a.start t)) o.result o.ensures c.in_default.is)

pub returns-then-not-is_word_byte : goal.returns-then-not-is_word_byte
returns-then-not-is_word_byte c =
    let a = c.args in
    let t = a.text.now in
    let w = c.requires in
    let o = c.from_text in
    c.faulty-then-not-is_word_byte.ensures ∙ bad_first t a.at a.start a.end a.inside w
    (first_byte t a.at (omega (arith, w.from, w.some, w.within)) ∙ sym c.is_word_byte.ensures ∙ c.if-not-is_word_byte.true)

pub returns-then-head-eq-NO_TYPE : goal.returns-then-head-eq-NO_TYPE
returns-then-head-eq-NO_TYPE c =
    let a = c.args in
    let t = a.text.now in
    let w = c.requires in
    let o = c.from_text in
    let n = owner_some (take (a.end - a.start) (drop a.start t)) o.result o.ensures c.in-Some.owner c.in-Some.is in
    let first = first_byte t a.at (omega (arith, w.from, w.some, w.within)) ∙ sym c.is_word_byte.ensures ∙ c.if-not-is_word_byte.false in
    let h = c.read-head in
    c.faulty-then-head-eq-NO_TYPE.ensures ∙ bad_type t a.at a.start a.end a.inside w n.0 first n.1 h.result h.ensures c.if-head-eq-NO_TYPE.true

pub returns-in_default-rdata : goal.returns-in_default-rdata
returns-in_default-rdata c =
    let a = c.args in
    let t = a.text.now in
    let w = c.requires in
    let o = c.from_text in
    let n = owner_some (take (a.end - a.start) (drop a.start t)) o.result o.ensures c.in-Some.owner c.in-Some.is in
    let first = first_byte t a.at (omega (arith, w.from, w.some, w.within)) ∙ sym c.is_word_byte.ensures ∙ c.if-not-is_word_byte.false in
    let h = c.read-head in
    let r = c.read-data in
    c.faulty-in_default-rdata.ensures ∙ bad_data t a.at a.start a.end a.inside w n.0 first n.1 h.result h.ensures c.if-head-eq-NO_TYPE.false (data_of r.result) r.ensures (ap there c.in_default-rdata.is)

pub faulty-requires-in-Word : goal.faulty-requires-in-Word
faulty-requires-in-Word c =
    let r = c.read-data in
    let x = c.next_word in
    (word_is c.args.text.now r.result.at r.result.inside x.result x.ensures c.in-Word.is).within

pub returns-in-Word : goal.returns-in-Word
returns-in-Word c =
    let a = c.args in
    let t = a.text.now in
    let w = c.requires in
    let o = c.from_text in
    let n = owner_some (take (a.end - a.start) (drop a.start t)) o.result o.ensures c.in-Some.owner c.in-Some.is in
    let first = first_byte t a.at (omega (arith, w.from, w.some, w.within)) ∙ sym c.is_word_byte.ensures ∙ c.if-not-is_word_byte.false in
    let h = c.read-head in
    let r = c.read-data in
    let x = c.next_word in
    c.faulty-in-Word.ensures ∙ word_left t a.at a.start a.end a.inside w n.0 first n.1 h.result h.ensures c.if-head-eq-NO_TYPE.false (data_of r.result) r.ensures (word_is t r.result.at r.result.inside x.result x.ensures c.in-Word.is)

pub returns-in-Fault : goal.returns-in-Fault
returns-in-Fault c =
    let a = c.args in
    let t = a.text.now in
    let w = c.requires in
    let o = c.from_text in
    let n = owner_some (take (a.end - a.start) (drop a.start t)) o.result o.ensures c.in-Some.owner c.in-Some.is in
    let first = first_byte t a.at (omega (arith, w.from, w.some, w.within)) ∙ sym c.is_word_byte.ensures ∙ c.if-not-is_word_byte.false in
    let h = c.read-head in
    let r = c.read-data in
    let x = c.next_word in
    c.fault.ensures ∙ shape_left t a.at a.start a.end a.inside w n.0 first n.1 h.result h.ensures c.if-head-eq-NO_TYPE.false (data_of r.result) r.ensures (fault_is t r.result.at r.result.inside x.result x.ensures c.in-Fault.is)

pub returns-in-Line : goal.returns-in-Line
returns-in-Line c =
    let a = c.args in
    let t = a.text.now in
    let w = c.requires in
    let o = c.from_text in
    let n = owner_some (take (a.end - a.start) (drop a.start t)) o.result o.ensures c.in-Some.owner c.in-Some.is in
    let first = first_byte t a.at (omega (arith, w.from, w.some, w.within)) ∙ sym c.is_word_byte.ensures ∙ c.if-not-is_word_byte.false in
    let h = c.read-head in
    let r = c.read-data in
    let x = c.next_word in
    good_to_line t a.at a.start a.end a.inside w n.0 first n.1 h.result h.ensures c.if-head-eq-NO_TYPE.false (data_of r.result) r.ensures c.in-Some.owner.bytes c.in-Some-rdata.rdata c.in-Some.owner.len n.2 n.3 (ap there c.in-Some-rdata.is) (sym (ap bytes c.in-Some-rdata.is)) _ (line_is t r.result.at r.result.inside x.result x.ensures c.in-Line.is)

pub returns-in-End : goal.returns-in-End
returns-in-End c =
    let a = c.args in
    let t = a.text.now in
    let w = c.requires in
    let o = c.from_text in
    let n = owner_some (take (a.end - a.start) (drop a.start t)) o.result o.ensures c.in-Some.owner c.in-Some.is in
    let first = first_byte t a.at (omega (arith, w.from, w.some, w.within)) ∙ sym c.is_word_byte.ensures ∙ c.if-not-is_word_byte.false in
    let h = c.read-head in
    let r = c.read-data in
    let x = c.next_word in
    good_to_end t a.at a.start a.end a.inside w n.0 first n.1 h.result h.ensures c.if-head-eq-NO_TYPE.false (data_of r.result) r.ensures c.in-Some.owner.bytes c.in-Some-rdata.rdata c.in-Some.owner.len n.2 n.3 (ap there c.in-Some-rdata.is) (sym (ap bytes c.in-Some-rdata.is)) (end_is t r.result.at r.result.inside x.result x.ensures c.in-End.is)
