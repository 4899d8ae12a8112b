use Rattle.sha256_block.proofs.BlockLaws.{on}
use borrow.Author.Rules.{rules}
use Rattle.sha256_block.proofs.eight_rounds.Goals as goal

pub returns : goal.returns
returns c = λ h e.
    on _ _ _ _ 7 (c.round_at.ensures h
    (on _ _ _ _ 6 (c.round_at-v7.ensures h
    (on _ _ _ _ 5 (c.round_at-v6.ensures h
    (on _ _ _ _ 4 (c.round_at-v5.ensures h
    (on _ _ _ _ 3 (c.round_at-v4.ensures h
    (on _ _ _ _ 2 (c.round_at-v3.ensures h
    (on _ _ _ _ 1 (c.round_at-v2.ensures h
    (c.round_at-v1.ensures h e))))))))))))))
