use mathlib.Core.Path.{refl, sym, ◌∙◌}
use Rattle.slots.specs.Sizes.{most_names}
use Rattle.table.proofs.StepLaws.{held_at, free_at, full_up}
use Rattle.table.proofs.OutcomeLaws.{clear_held_results, clear_none_results}
use borrow.Author.Rules.{rules}
use Rattle.table.proofs.step.clear.Goals as goal

pub close_up-requires : goal.close_up-requires
close_up-requires c =
    let s = c.requires in
    (held_at most_names _ s.table _ s.slots _ (sym c.in-Held.is ∙ c.slot_for-slot.ensures s.table s.slots)).fits

pub returns-in-Held : goal.returns-in-Held
returns-in-Held c = λ t h.
    clear_held_results most_names _ t _ _ _ _ (held_at most_names _ t _ h _ (sym c.in-Held.is ∙ c.slot_for-slot.ensures t h)) refl c.close_up.ensures

pub returns-in-Free : goal.returns-in-Free
returns-in-Free c = λ t h.
    clear_none_results most_names _ t _ _ _ (free_at most_names _ t _ h _ (sym c.in-Free.is ∙ c.slot_for-slot.ensures t h)).found h c.refused.ensures refl

pub returns-in-Full : goal.returns-in-Full
returns-in-Full c = λ t h.
    clear_none_results most_names _ t _ _ _ (full_up most_names _ t _ h (sym c.in-Full.is ∙ c.slot_for-slot.ensures t h)).found h c.refused-in-Full.ensures refl
