use Rattle.grammar.specs.Listing.{is_word_byte}
use Rattle.words.proofs.RunLaws.{led_none, led_more, led_all}
use Rattle.words.proofs.word_lead.Goals as goal

pub loop-i-init : goal.loop-i-init
loop-i-init c = led_none is_word_byte _ 32

pub loop-i-preserved : goal.loop-i-preserved
loop-i-preserved c =
    led_more is_word_byte _ 32 c.loop-i.first c.loop-i.i c.loop-i.invariant c.loop-i-test.true _ _ c.stop_at.ensures c.min-first.ensures

pub returns : goal.returns
returns c = led_all is_word_byte _ 32 c.loop-i.first c.loop-i.i c.requires c.loop-i-test.false c.loop-i.invariant
