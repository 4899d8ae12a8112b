use mathlib.Core.Path.{◌≡◌, sym, ap, ◌∙◌}
use Rattle.base.specs.Bytes.{eq_bytes}
use Rattle.slots.specs.Effect.{deleted, has_address}
use Rattle.slots.specs.Entry.{address_of}
use Rattle.slots.specs.Form.{TableEntry, WellFormed, slot_bytes}
use Rattle.slots.specs.Promise.{holding, is_address, removal}
use Rattle.slots.specs.declared.Removal.{Removal}
use Rattle.table.specs.Promise.{slot_at, removal_at}
use Rattle.table.proofs.StepLaws.{slot_size_lem, lent_slot}
use borrow.Author.Rules.{rules}
use Rattle.table.proofs.step.removal_at.Goals.{After-removal-removal}
use Rattle.table.proofs.step.removal_at.Goals as goal

pub removal-removal-requires : goal.removal-removal-requires
removal-removal-requires c = rw (slot_size_lem c.args.at) c.requires.1

-- what the slot says of the remove
said : (h : After-removal-removal)
    → let a = h.args in
    (e : TableEntry) → WellFormed e → slot_at a.table.now a.at ≡ slot_bytes e
    → h.removal-removal.result ≡ removal (holding eq_bytes e.holder a.dhcid.now) (is_address (address_of a.family e) a.address.now) (has_address (deleted a.family e))
said h = λ e w form. let a = h.args in h.removal-removal.ensures e w (lent_slot a.table.now a.at ∙ form)

pub returns-in-Refused : goal.returns-in-Refused
returns-in-Refused c = λ e w form.
    ap (λ (m : Removal). removal_at m c.args.at) (sym c.in-Refused.is ∙ said (goal.at.returns-in-Refused c).After-removal-removal e w form)

pub returns-in-Address : goal.returns-in-Address
returns-in-Address c = λ e w form.
    ap (λ (m : Removal). removal_at m c.args.at) (sym c.in-Address.is ∙ said (goal.at.returns-in-Address c).After-removal-removal e w form)

pub returns-in-Name : goal.returns-in-Name
returns-in-Name c = λ e w form.
    ap (λ (m : Removal). removal_at m c.args.at) (sym c.in-Name.is ∙ said (goal.at.returns-in-Name c).After-removal-removal e w form)
