use mathlib.Core.Path.{refl, sym}
use native.Mathlib.Omega.{arith}
use borrow.Author.Tests.{lt-ltb, le-ltb, eq-eqb, ne_eqb}
use Rattle.dhcid_text.proofs.Base64Laws.{digit_of}
use Rattle.dhcid_text.proofs.digit64.Goals as goal

pub returns-then-v-lt26 : goal.returns-then-v-lt26
returns-then-v-lt26 c =
    let v = c.args.v in
    sym (digit_of v (lt-ltb v 26 (omega arith)) refl refl refl)

pub returns-then-v-lt52 : goal.returns-then-v-lt52
returns-then-v-lt52 c =
    let v = c.args.v in
    sym (digit_of v (le-ltb v 26 (omega arith)) (lt-ltb v 52 (omega arith)) refl refl)

pub returns-then-v-lt62 : goal.returns-then-v-lt62
returns-then-v-lt62 c =
    let v = c.args.v in
    sym (digit_of v (le-ltb v 26 (omega arith)) (le-ltb v 52 (omega arith)) (lt-ltb v 62 (omega arith)) refl)

pub returns-then-v-eq62 : goal.returns-then-v-eq62
returns-then-v-eq62 c =
    let v = c.args.v in
    sym (digit_of v (le-ltb v 26 (omega arith)) (le-ltb v 52 (omega arith)) (le-ltb v 62 (omega arith)) (eq-eqb v 62 c.if-v-eq62.true))

pub returns-else-v-eq62 : goal.returns-else-v-eq62
returns-else-v-eq62 c =
    let v = c.args.v in
    sym (digit_of v (le-ltb v 26 (omega arith)) (le-ltb v 52 (omega arith)) (le-ltb v 62 (omega arith)) (ne_eqb v 62 c.if-v-eq62.false))
