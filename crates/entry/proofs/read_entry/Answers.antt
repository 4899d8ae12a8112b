use mathlib.Core.Bool.{false}
use mathlib.Core.Path.{◌∙◌}
use Rattle.entry.proofs.NextLaws.{word_is, line_is, end_is, fault_is}
use Rattle.entry.proofs.EntryLaws.{no_words_to_line, no_words_to_end, no_words_to_fault}
use borrow.Author.Rules.{rules}
use Rattle.entry.proofs.read_entry.Goals as goal

pub with_words-requires : goal.with_words-requires
with_words-requires c =
    let a = c.args in
    let x = c.next_word in
    word_is a.text.now a.at false x.result x.ensures c.in-Word.is

pub returns-in-Line : goal.returns-in-Line
returns-in-Line c =
    let a = c.args in
    let x = c.next_word in
    c.nothing.ensures ∙ no_words_to_line a.text.now a.at _ (line_is a.text.now a.at false x.result x.ensures c.in-Line.is)

pub returns-in-End : goal.returns-in-End
returns-in-End c =
    let a = c.args in
    let x = c.next_word in
    c.nothing-in-End.ensures ∙ no_words_to_end a.text.now a.at (end_is a.text.now a.at false x.result x.ensures c.in-End.is)

pub returns-in-Fault : goal.returns-in-Fault
returns-in-Fault c =
    let a = c.args in
    let x = c.next_word in
    c.fault.ensures ∙ no_words_to_fault a.text.now a.at (fault_is a.text.now a.at false x.result x.ensures c.in-Fault.is)
