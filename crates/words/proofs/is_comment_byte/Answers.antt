use Rattle.words.proofs.KindLaws.{comment_test}
use Rattle.words.proofs.is_comment_byte.Goals as goal

pub returns : goal.returns
returns c = comment_test c.args.b
