use mathlib.Core.Path.{refl}
use Rattle.base.specs.Answer.{Tells}
use Rattle.base.specs.declared.Answer.TheVariants.{Accepted}
use borrow.Author.Rules.{rules}
use Rattle.gateway.proofs.vichrelka_book_sound.Goals as goal

pub returns : goal.returns
unfolding Tells
returns c =
    let n = c.sound_blocks in
    (Accepted n.result, c.for_c.ensures.told, c.for_c.ensures.small, record { blocks = n.result; sound = n.ensures; answer = refl })
