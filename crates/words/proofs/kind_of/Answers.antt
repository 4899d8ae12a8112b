use mathlib.Core.Path.{sym, ap}
use mathlib.Core.Logic.{⊎_elim}
use native.Mathlib.Omega.{arith}
use Rattle.grammar.specs.Listing.{kind_of}
use Rattle.words.proofs.KindLaws.{word_kind, low_kind, high_kind}
use Rattle.words.proofs.kind_of.Goals as goal

pub returns-in-9 : goal.returns-in-9
unfolding kind_of
returns-in-9 c = ⊎_elim (λ e. sym (ap kind_of e)) (λ e. sym (ap kind_of e)) c.in-9.is

pub returns-in-10 : goal.returns-in-10
unfolding kind_of
returns-in-10 c = sym (ap kind_of c.in-10.is)

pub returns-in-40 : goal.returns-in-40
unfolding kind_of
returns-in-40 c = sym (ap kind_of c.in-40.is)

pub returns-in-41 : goal.returns-in-41
unfolding kind_of
returns-in-41 c = sym (ap kind_of c.in-41.is)

pub returns-in-59 : goal.returns-in-59
unfolding kind_of
returns-in-59 c = sym (ap kind_of c.in-59.is)

pub returns-in-33-to-126 : goal.returns-in-33-to-126
returns-in-33-to-126 c =
    sym (word_kind c.args.b (omega arith) (λ e. grind arith) (omega arith) (λ e. omega arith) (λ e. omega arith) (λ e. omega arith))

pub returns-in_default : goal.returns-in_default
returns-in_default c = sym (low_kind c.args.b (omega arith) (λ e. grind arith) (λ e. grind arith) (λ e. omega arith))

pub returns-in_default-2 : goal.returns-in_default-2
returns-in_default-2 c = sym (high_kind c.args.b (omega arith))
