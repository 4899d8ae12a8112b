use mathlib.Core.Path.{ap, ◌∙◌}
use mathlib.Core.List.{List}
use Prim.Native.Nat.{ℕ}
use Rattle.sha256_block.specs.Block.{compress, sums, rounds, schedule}
use borrow.Author.Rules.{rules}
use Rattle.sha256_block.proofs.compress.Goals as goal

pub returns : goal.returns
unfolding compress
returns c =
    let h = c.args.h in
    c.sums.ensures
    ∙ ap (λ (v : List ℕ). sums v h)
    (c.rounds.ensures
    ∙ ap (λ (w : List ℕ). rounds 64 w h)
    (c.schedule.ensures ∙ ap (schedule 48) c.block_words.ensures))
