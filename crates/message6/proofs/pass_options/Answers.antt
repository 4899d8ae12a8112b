use Prim.Native.Nat.{◌+◌, ◌≤◌}
use mathlib.Core.Path.{◌∙◌}
use native.Mathlib.Omega.{arith}
use Rattle.message6.proofs.PassLaws6.{level, level_relayed, level_duid, level_name, level_other, passing_none, passing_short, passing_past, passing_more, passing_end}
use Rattle.message6.proofs.pass_options.Goals as goal

pub loop-at-init : goal.loop-at-init
loop-at-init c =
    let a = c.args in
    passing_none a.message.now a.start a.end c.none-relayed.result c.none-duid.result c.none-name.result
    c.none-relayed.ensures c.none-duid.ensures c.none-name.ensures c.requires.0

pub overflow_sub-end : goal.overflow_sub-end
overflow_sub-end c =
    omega (arith, c.loop-at.invariant.high, c.requires, c.well_formed.0.0)

pub returns-then-end-at-lt4 : goal.returns-then-end-at-lt4
returns-then-end-at-lt4 c =
    let a = c.args in
    c.none.ensures ∙ passing_short a.message.now a.start a.end c.loop-at.at (level c.loop-at.relayed c.loop-at.duid c.loop-at.name) c.loop-at.invariant c.requires.1
    c.loop-at-test.true (omega (arith, c.loop-at.invariant.high, c.requires, c.well_formed.0.0))

pub bounds-message-at : goal.bounds-message-at
bounds-message-at c =
    omega (arith, c.loop-at.invariant.high, c.requires, c.well_formed.0.0)

pub overflow_add-at : goal.overflow_add-at
overflow_add-at c =
    omega (arith, c.loop-at.invariant.high, c.requires, c.well_formed.0.0)

pub bounds-message-at-in-loop-at : goal.bounds-message-at-in-loop-at
bounds-message-at-in-loop-at c =
    omega (arith, c.loop-at.invariant.high, c.requires, c.well_formed.0.0)

pub overflow_add-at-in-loop-at : goal.overflow_add-at-in-loop-at
overflow_add-at-in-loop-at c =
    omega (arith, c.loop-at.invariant.high, c.requires, c.well_formed.0.0)

pub bounds-message-at-in-loop-at-2 : goal.bounds-message-at-in-loop-at-2
bounds-message-at-in-loop-at-2 c =
    omega (arith, c.loop-at.invariant.high, c.requires, c.well_formed.0.0)

pub overflow_add-at-in-loop-at-2 : goal.overflow_add-at-in-loop-at-2
overflow_add-at-in-loop-at-2 c =
    omega (arith, c.loop-at.invariant.high, c.requires, c.well_formed.0.0)

pub bounds-message-at-in-loop-at-3 : goal.bounds-message-at-in-loop-at-3
bounds-message-at-in-loop-at-3 c =
    omega (arith, c.loop-at.invariant.high, c.requires, c.well_formed.0.0)

pub overflow_add-from : goal.overflow_add-from
overflow_add-from c =
    omega (arith, c.loop-at.invariant.high, c.requires, c.well_formed.0.0)

pub overflow_sub-end-in-loop-at : goal.overflow_sub-end-in-loop-at
overflow_sub-end-in-loop-at c =
    omega (arith, c.loop-at.invariant.high, c.requires, c.well_formed.0.0)

pub returns-then-end-from : goal.returns-then-end-from
returns-then-end-from c =
    let a = c.args in
    let more : c.loop-at.at + 4 ≤ a.end = omega (arith, c.loop-at.invariant.high, c.requires, c.well_formed.0.0) in
    c.none-then-end-from.ensures ∙ passing_past a.message.now a.start a.end c.loop-at.at (level c.loop-at.relayed c.loop-at.duid c.loop-at.name) c.loop-at.invariant c.requires.1 more
    c.be16-code.result c.be16-len.result c.be16-code.ensures c.be16-len.ensures c.if-end-from.true

pub overflow_add-at-in-loop-at-3 : goal.overflow_add-at-in-loop-at-3
overflow_add-at-in-loop-at-3 c =
    omega (arith, c.loop-at.invariant.high, c.requires, c.well_formed.0.0)

pub loop-at-preserved-in-9 : goal.loop-at-preserved-in-9
loop-at-preserved-in-9 c =
    let a = c.args in
    let l = c.loop-at in
    let more : l.at + 4 ≤ a.end = omega (arith, l.invariant.high, c.requires, c.well_formed.0.0) in
    passing_more a.message.now a.start a.end l.at (level l.relayed l.duid l.name) l.invariant c.requires.1 more
    c.be16-code.result c.be16-len.result c.be16-code.ensures c.be16-len.ensures (λ i. (c.type_inv.message i).fits) c.if-end-from.false
    (level c.met-relayed.result l.duid l.name)
    (level_relayed l.relayed l.duid l.name c.met-relayed.result c.be16-code.result _ c.in-9.is c.met-relayed.ensures)

pub loop-at-preserved-in-1 : goal.loop-at-preserved-in-1
loop-at-preserved-in-1 c =
    let a = c.args in
    let l = c.loop-at in
    let more : l.at + 4 ≤ a.end = omega (arith, l.invariant.high, c.requires, c.well_formed.0.0) in
    passing_more a.message.now a.start a.end l.at (level l.relayed l.duid l.name) l.invariant c.requires.1 more
    c.be16-code.result c.be16-len.result c.be16-code.ensures c.be16-len.ensures (λ i. (c.type_inv.message i).fits) c.if-end-from.false
    (level l.relayed c.met-duid.result l.name)
    (level_duid l.relayed l.duid l.name c.met-duid.result c.be16-code.result _ c.in-1.is c.met-duid.ensures)

pub loop-at-preserved-in-39 : goal.loop-at-preserved-in-39
loop-at-preserved-in-39 c =
    let a = c.args in
    let l = c.loop-at in
    let more : l.at + 4 ≤ a.end = omega (arith, l.invariant.high, c.requires, c.well_formed.0.0) in
    passing_more a.message.now a.start a.end l.at (level l.relayed l.duid l.name) l.invariant c.requires.1 more
    c.be16-code.result c.be16-len.result c.be16-code.ensures c.be16-len.ensures (λ i. (c.type_inv.message i).fits) c.if-end-from.false
    (level l.relayed l.duid c.met-name.result)
    (level_name l.relayed l.duid l.name c.met-name.result c.be16-code.result _ c.in-39.is c.met-name.ensures)

pub loop-at-preserved : goal.loop-at-preserved
loop-at-preserved c =
    let a = c.args in
    let l = c.loop-at in
    let more : l.at + 4 ≤ a.end = omega (arith, l.invariant.high, c.requires, c.well_formed.0.0) in
    passing_more a.message.now a.start a.end l.at (level l.relayed l.duid l.name) l.invariant c.requires.1 more
    c.be16-code.result c.be16-len.result c.be16-code.ensures c.be16-len.ensures (λ i. (c.type_inv.message i).fits) c.if-end-from.false
    (level l.relayed l.duid l.name)
    (level_other l.relayed l.duid l.name c.be16-code.result _ (λ e. omega (arith, e)) (λ e. omega (arith, e)) (λ e. omega (arith, e)))

pub returns : goal.returns
returns c =
    let a = c.args in
    passing_end a.message.now a.start a.end c.loop-at.at (level c.loop-at.relayed c.loop-at.duid c.loop-at.name) c.loop-at.invariant c.loop-at-test.false
