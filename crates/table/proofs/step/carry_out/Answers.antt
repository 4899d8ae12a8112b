use mathlib.Core.Path.{refl, sym, subst}
use Rattle.base.specs.declared.Answer.TheVariants.{Accepted}
use Rattle.table.specs.Promise.{CanCarryOut, CarriesOut}
use Rattle.table.specs.declared.step.RemovalFor.{RemovalFor}
use borrow.Author.Rules.{rules}
use Rattle.table.proofs.step.carry_out.Goals as goal

pub delete_at-requires : goal.delete_at-requires
delete_at-requires c =
    subst (λ (m : RemovalFor). CanCarryOut m c.args.table.now) c.in-Address.is c.requires

pub close_up-requires : goal.close_up-requires
close_up-requires c =
    subst (λ (m : RemovalFor). CanCarryOut m c.args.table.now) c.in-Name.is c.requires

pub returns-in-Refused : goal.returns-in-Refused
returns-in-Refused c =
    let a = c.args in
    subst (λ (m : RemovalFor). CarriesOut m a.family a.table.now c.refused.result a.table.now) (sym c.in-Refused.is) (record { answered = c.refused.ensures; bytes = refl })

pub returns-in-Address : goal.returns-in-Address
returns-in-Address c =
    let a = c.args in
    subst (λ (m : RemovalFor). CarriesOut m a.family a.table.now (Accepted 0) c.delete_at.new.table) (sym c.in-Address.is)
    (λ e w form. record { answered = refl; bytes = c.delete_at.ensures e w form })

pub returns-in-Name : goal.returns-in-Name
returns-in-Name c =
    let a = c.args in
    subst (λ (m : RemovalFor). CarriesOut m a.family a.table.now (Accepted 0) c.close_up.new.row) (sym c.in-Name.is)
    (record { answered = refl; bytes = c.close_up.ensures })
