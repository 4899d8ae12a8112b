use Rattle.dhcid_text.proofs.DhcidWordLaws.{odd_word, even_word}
use Rattle.dhcid_text.proofs.hexadecimal_word.Goals as goal

pub returns-then-word-ne0 : goal.returns-then-word-ne0
returns-then-word-ne0 c =
    let a = c.args in
    λ ws h. odd_word ws a.word.now a.s _ c.requires c.if-word-ne0.true c.fresh.ensures h

pub returns : goal.returns
returns c =
    let a = c.args in
    λ ws h. even_word ws a.word.now a.s _ c.requires c.if-word-ne0.false c.hexadecimal_digits.ensures h
