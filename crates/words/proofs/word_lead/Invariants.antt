use Rattle.grammar.specs.Listing.{is_word_byte}
use Rattle.words.proofs.RunLaws.{Led}
use Rattle.words.proofs.word_lead.Given as goal

abbrev pub invariant-loop-i : goal.invariant-loop-i
invariant-loop-i l = Led is_word_byte l.chunk 32 l.first l.i
