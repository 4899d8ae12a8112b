use mathlib.Core.Path.{sym, ◌∙◌}
use Rattle.slots.specs.Form.{IsSlot}
use Rattle.slots.specs.Sizes.{most_names}
use Rattle.table.proofs.StepLaws.{held_at, free_at, full_up}
use Rattle.table.proofs.RemovalLaws.{held_removal, none_removal}
use borrow.Author.Rules.{rules}
use Rattle.table.proofs.step.removal_for.Goals as goal

pub removal_at-requires : goal.removal_at-requires
unfolding IsSlot
removal_at-requires c =
    let s = c.requires in
    let h = held_at most_names _ s.table _ s.slots _ (sym c.in-Held.is ∙ c.slot_for-slot.ensures s.table s.slots) in
    (h.fits, (h.entry, h.well_formed, h.slot))

pub returns-in-Held : goal.returns-in-Held
returns-in-Held c = λ t h.
    let held = held_at most_names _ t _ h _ (sym c.in-Held.is ∙ c.slot_for-slot.ensures t h) in
    c.removal_at.ensures held.entry held.well_formed held.slot ∙ held_removal t _ _ _ _ held

pub returns-in-Free : goal.returns-in-Free
returns-in-Free c = λ t h. none_removal t _ _ _ _ (free_at most_names _ t _ h _ (sym c.in-Free.is ∙ c.slot_for-slot.ensures t h)).found

pub returns-in-Full : goal.returns-in-Full
returns-in-Full c = λ t h. none_removal t _ _ _ _ (full_up most_names _ t _ h (sym c.in-Full.is ∙ c.slot_for-slot.ensures t h)).found
