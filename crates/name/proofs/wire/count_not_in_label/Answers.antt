use Rattle.std.proofs.Common.{ℕ, ◌≡◌, ◌<◌, ◌^◌, List, refl, sym, ◌∙◌, arith, rules, sum_by}
use Rattle.std.proofs.iter.runs.Made.{chains}
use Rattle.std.proofs.iter.runs.Sources.{sums}
use Rattle.std.proofs.lemmas.List.Recursion.{is_sum_by}
use Rattle.name.specs.NotInLabel.{not_in_label, count_not_in_label}
use Rattle.name.proofs.NotInLabelLaws.{count_length}
use Rattle.name.proofs.wire.count_not_in_label.Goals as goal

sums_count : (n : List ℕ) → count_not_in_label n ≡ sum_by not_in_label n
unfolding count_not_in_label
sums_count n = is_sum_by count_not_in_label not_in_label refl (λ b l. refl) n

pub sum-requires-clause-fits : goal.sum-requires-clause-fits
sum-requires-clause-fits c =
    let few : sum_by not_in_label c.args.name.now < 2 ^ 8 = omega (arith, sums_count c.args.name.now, count_length c.args.name.now, c.requires) in
    search (rules, sums)

pub returns : goal.returns
returns c =
    let e : c.sum.result ≡ sum_by not_in_label c.args.name.now = search (rules, chains) in
    e ∙ sym (sums_count c.args.name.now)
