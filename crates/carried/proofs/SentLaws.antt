-- Arguments that pass: the bytes that the calls write come to what the messages come to. Assumes nothing.
use Prim.Native.Nat.{ℕ, ◌<◌}
use mathlib.Core.Bool.{true}
use mathlib.Core.Path.{◌≡◌, refl, sym, subst, subst₂, ◌∙◌}
use mathlib.Core.List.{List, [], ◌∷◌}
use mathlib.Core.Option.{none}
use lib.ListN.{length, take}
use borrow.Author.Tests.{le-ltb}
use Rattle.base.specs.Bytes.{eq_bytes}
use Rattle.base.specs.Logic.{Every}
use Rattle.base.specs.Refusal.{table_full}
use Rattle.base.specs.declared.Answer.TheVariants.{Accepted, Refused}
use Rattle.base.proofs.Tests.{by_ltb}
use Rattle.name.specs.Name.{canonical, Within}
use Rattle.name.proofs.Theorems.{canonical_form}
use Rattle.slots.specs.Entry.{family_of}
use Rattle.slots.specs.Form.{TableEntry}
use Rattle.slots.specs.declared.Family.{Family}
use Rattle.table.specs.Steps.{find, add, remove}
use Rattle.update.specs.Calls.{called, called_last, Writes, WritesLast}
use Rattle.update.specs.Message.{Message, message_bytes}
use Rattle.update.specs.Reading.{Fits}
use Rattle.update.specs.Reply.{done, name_in_use}
use Rattle.update.specs.declared.Kind.{Kind}
use Rattle.update.specs.declared.Kind.TheVariants.{AddFirst, AddSecond, RemoveFirst}
use Rattle.update.proofs.FitLaws.{called_fits, last_fits}
use Rattle.update.proofs.Theorems.{written_bytes, last_bytes}
use Rattle.carried.specs.Holds.{Holds}
use Rattle.carried.specs.Rules.{Outcome, Answers}
use Rattle.carried.specs.Sent.{Exchange, Exchanges, Arguments, Passes, Step, arguments_of, stepped, Sends, Told, InStep, LastTakes, table_after, After, NeverFull}
use Rattle.carried.specs.Zone.{Zone, in_zone}
use Rattle.carried.proofs.WithinLaws.{within_passes}
use Rattle.carried.proofs.ExchangeLaws.{answer_is, exchanged, exchange_is, exchange_there}
use Rattle.carried.proofs.AddLaws.{add_goes}
use Rattle.carried.proofs.RemoveLaws.{last_takes, remove_goes}

-- ---- one step

module _ (served : List ℕ) (c : Arguments) (h : Passes served c) where
  lower : canonical (canonical c.name) ≡ canonical c.name
  lower = (canonical_form c.name h.inside.name).again

  its : canonical (canonical c.zone) ≡ served
  its = (canonical_form c.zone h.inside.zone).again ∙ h.here

  inside : in_zone served (canonical c.name) ≡ true
  inside =
      within_passes (canonical c.name) served
      (subst (Within (canonical (canonical c.name))) h.here (subst (λ (m : List ℕ). Within m (canonical c.zone)) (sym lower) h.inside.within))

  abbrev first : Kind → Message
  first k = called k c.first c.zone c.name c.dhcid c.family c.address

  abbrev add_second : Message
  add_second = called AddSecond c.second c.zone c.name c.dhcid c.family c.address

  abbrev remove_second : Message
  remove_second = called_last c.second c.zone c.name c.dhcid

  first_fits : (k : Kind) → Fits (first k)
  first_fits k = called_fits c.first c.zone c.name c.dhcid h.first h.inside h.dhcid k c.family c.address h.address

  add_second_fits : Fits add_second
  add_second_fits = called_fits c.second c.zone c.name c.dhcid h.second h.inside h.dhcid AddSecond c.family c.address h.address

  remove_second_fits : Fits remove_second
  remove_second_fits = last_fits c.second c.zone c.name c.dhcid h.second h.inside h.dhcid

  module _ (z : Zone) where
    add_there : Sends served (Step.adds c) z (exchanged served name_in_use (first AddFirst) add_second z)
    add_there = exchange_there served name_in_use (first AddFirst) add_second z (first_fits AddFirst) add_second_fits

    remove_there : Sends served (Step.removes c) z (exchanged served done (first RemoveFirst) remove_second z)
    remove_there = exchange_there served done (first RemoveFirst) remove_second z (first_fits RemoveFirst) remove_second_fits

    module _ (t : List TableEntry) (hs : Holds z t) (x : Exchange) where
      pub add_sent : (limit : ℕ) → (find (canonical c.name) t ≡ none → length t < limit) → Sends served (Step.adds c) z x
          → InStep (Told (Step.adds c) t z) (stepped limit (Step.adds c) t) x
      add_sent limit room sends =
          subst (InStep (Told (Step.adds c) t z) (stepped limit (Step.adds c) t))
          (sym (exchange_is served name_in_use (first AddFirst) add_second z (first_fits AddFirst) add_second_fits x sends))
          (add_goes served c.first c.second (canonical c.zone) (canonical c.name) c.dhcid (family_of c.family) c.address its inside lower limit t z hs room)

      pub remove_sent : Sends served (Step.removes c) z x
          → InStep (Told (Step.removes c) t z) (remove eq_bytes t (canonical c.name) c.dhcid (family_of c.family) c.address) x
      remove_sent sends =
          subst (InStep (Told (Step.removes c) t z) (remove eq_bytes t (canonical c.name) c.dhcid (family_of c.family) c.address))
          (sym (exchange_is served done (first RemoveFirst) remove_second z (first_fits RemoveFirst) remove_second_fits x sends))
          (remove_goes served c.first c.second (canonical c.zone) (canonical c.name) c.dhcid (family_of c.family) c.address its inside lower t z hs)

    -- a second remove by itself, whatever the zone holds
    pub last_sent : (o : Outcome) → Answers served (message_bytes remove_second) z o → LastTakes (canonical c.name) c.dhcid z o.zone
    last_sent o answers =
        subst (λ (p : Outcome). LastTakes (canonical c.name) c.dhcid z p.zone) (sym (answer_is served z remove_second remove_second_fits o answers))
        (last_takes served c.first c.second (canonical c.zone) (canonical c.name) c.dhcid (family_of c.family) c.address its inside lower z)

    -- what the calls wrote, from the first byte of their outputs on, is what is sent
    module _ (out₁ out₂ left₁ left₂ : List ℕ) (v₁ v₂ : ℕ) (x : Exchange) where
      pub add_as_written : Writes AddFirst c.first c.zone c.name c.dhcid c.family c.address out₁ (Accepted v₁) left₁
          → Writes AddSecond c.second c.zone c.name c.dhcid c.family c.address out₂ (Accepted v₂) left₂
          → Exchanges served name_in_use (take v₁ left₁) (take v₂ left₂) z x → Sends served (Step.adds c) z x
      add_as_written w₁ w₂ sends =
          let b₁ = written_bytes AddFirst c.first c.zone c.name c.dhcid c.family c.address out₁ (Accepted v₁) left₁ w₁ v₁ refl in
          let b₂ = written_bytes AddSecond c.second c.zone c.name c.dhcid c.family c.address out₂ (Accepted v₂) left₂ w₂ v₂ refl in
          subst₂ (λ (a b : List ℕ). Exchanges served name_in_use a b z x) b₁.0 b₂.0 sends

      pub remove_as_written : Writes RemoveFirst c.first c.zone c.name c.dhcid c.family c.address out₁ (Accepted v₁) left₁
          → WritesLast c.second c.zone c.name c.dhcid out₂ (Accepted v₂) left₂ → Exchanges served done (take v₁ left₁) (take v₂ left₂) z x
          → Sends served (Step.removes c) z x
      remove_as_written w₁ w₂ sends =
          let b₁ = written_bytes RemoveFirst c.first c.zone c.name c.dhcid c.family c.address out₁ (Accepted v₁) left₁ w₁ v₁ refl in
          let b₂ = last_bytes c.second c.zone c.name c.dhcid out₂ (Accepted v₂) left₂ w₂ v₂ refl in
          subst₂ (λ (a b : List ℕ). Exchanges served done a b z x) b₁.0 b₂.0 sends

-- an add that is not refused with 32 finds a free place
free_place : (limit : ℕ) (t : List TableEntry) (n d : List ℕ) (f : Family) (x : List ℕ) → ((add limit eq_bytes t n d f x 0).answer ≡ Refused table_full 0 → ⊥)
    → find n t ≡ none → length t < limit
unfolding add
free_place limit t n d f x fits found = by_ltb (length t) limit (λ less. less) (λ full. absurd (fits (rw (found, le-ltb (length t) limit full) refl)))

module _ (served : List ℕ) where
  pub step_sent : (limit : ℕ) (s : Step) (t : List TableEntry) (z : Zone) → Passes served (arguments_of s) → Holds z t
      → ((stepped limit s t).answer ≡ Refused table_full 0 → ⊥) → (x : Exchange) → Sends served s z x → InStep (Told s t z) (stepped limit s t) x
  step_sent limit (Step.adds c) t z h hs fits x sends =
      add_sent served c h z t hs x limit (free_place limit t (canonical c.name) c.dhcid (family_of c.family) c.address fits) sends
  step_sent limit (Step.removes c) t z h hs fits x sends = remove_sent served c h z t hs x sends

  pub step_there : (s : Step) (z : Zone) → Passes served (arguments_of s) → (x : Exchange) × Sends served s z x
  step_there (Step.adds c) z h = (_, add_there served c h z)
  step_there (Step.removes c) z h = (_, remove_there served c h z)

  -- ---- any number of them

  pub steps_sent : (limit : ℕ) (ss : List Step) (t : List TableEntry) (z w : Zone) → Every (λ s. Passes served (arguments_of s)) ss → NeverFull limit ss t
      → Holds z t → After served ss z w → Holds w (table_after limit ss t)
  unfolding table_after
  steps_sent limit [] t z w Every.none NeverFull.at_rest hs After.at_rest = hs
  steps_sent limit (s ∷ ss) t z w (Every.more h rest) (NeverFull.then fits later) hs (After.then x sends after) =
      steps_sent limit ss (stepped limit s t).table x.zone w rest later (step_sent limit s t z h hs fits x sends).holds after

  pub steps_there : (ss : List Step) (z : Zone) → Every (λ s. Passes served (arguments_of s)) ss → (w : Zone) × After served ss z w
  steps_there [] z Every.none = (z, After.at_rest)
  steps_there (s ∷ ss) z (Every.more h rest) =
      let first = step_there s z h in
      let later = steps_there ss first.0.zone rest in
      (later.0, After.then first.0 first.1 later.1)
