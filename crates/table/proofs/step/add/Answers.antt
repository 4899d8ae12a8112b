use mathlib.Core.Path.{refl, sym, ◌∙◌}
use Rattle.base.proofs.DhcidLaws.{dhcid_length}
use Rattle.name.proofs.WireLaws.{proper_short}
use Rattle.slots.specs.Form.{IsSlot}
use Rattle.slots.specs.Sizes.{most_names}
use Rattle.table.proofs.StepLaws.{held_at, free_at, full_up}
use Rattle.table.proofs.OutcomeLaws.{add_held_results, add_free_results, add_full_results}
use borrow.Author.Rules.{rules}
use Rattle.table.proofs.step.add.Goals as goal

pub add_at-requires : goal.add_at-requires
unfolding IsSlot
add_at-requires c =
    let s = c.requires.0 in
    let h = held_at most_names _ s.table _ s.slots _ (sym c.in-Held.is ∙ c.slot_for-slot.ensures s.table s.slots) in
    (h.fits, (h.entry, h.well_formed, h.slot), dhcid_length c.args.dhcid.now c.requires.2, c.requires.3)

pub enter_at-requires : goal.enter_at-requires
enter_at-requires c =
    let s = c.requires.0 in
    let h = free_at most_names _ s.table _ s.slots _ (sym c.in-Free.is ∙ c.slot_for-slot.ensures s.table s.slots) in
    (h.fits, h.slot, proper_short c.args.name.now c.requires.1, dhcid_length c.args.dhcid.now c.requires.2, c.requires.3)

pub returns-in-Held : goal.returns-in-Held
returns-in-Held c = λ t h.
    let held = held_at most_names _ t _ h _ (sym c.in-Held.is ∙ c.slot_for-slot.ensures t h) in
    add_held_results most_names _ t _ _ _ _ _ _ _ _ held (c.add_at.ensures held.entry held.well_formed held.slot)

pub returns-in-Free : goal.returns-in-Free
returns-in-Free c = λ t h.
    add_free_results most_names _ t _ _ _ _ _ _ _ _ (free_at most_names _ t _ h _ (sym c.in-Free.is ∙ c.slot_for-slot.ensures t h)) refl c.enter_at.ensures

pub returns-in-Full : goal.returns-in-Full
returns-in-Full c = λ t h.
    add_full_results most_names _ t _ _ _ _ _ _ _ (full_up most_names _ t _ h (sym c.in-Full.is ∙ c.slot_for-slot.ensures t h)) h c.refused.ensures refl
