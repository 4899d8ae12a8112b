use Rattle.words.proofs.KindLaws.{word_test_lem}
use Rattle.words.proofs.is_word_byte.Goals as goal

pub returns : goal.returns
returns c = word_test_lem c.args.b
