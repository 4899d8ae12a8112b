use mathlib.Core.List.{[]}
use mathlib.Core.Path.{refl}
use Rattle.base.specs.Answer.{Tells}
use Rattle.demands.proofs.AnswerLaws.{positive, numbered_in_row, told_c}
use Rattle.demands.proofs.BookLaws.{sound_in_row}
use Rattle.demands.proofs.Theorems.{demand_1}
use borrow.Author.Rules.{rules}
use Rattle.demands.proofs.book_sound.Goals as goal

pub returns : goal.returns
unfolding Tells positive
returns c =
    let e = c.vichrelka_book_sound.ensures in
    told_c e.0 e.1 e.2 (numbered_in_row [] refl (sound_in_row _ _ e.3)) (e.3, demand_1.sound _ _ e.3)
