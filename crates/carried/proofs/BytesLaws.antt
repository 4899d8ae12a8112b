-- The same of the calls on the bytes of a table. Assumes nothing.
use Prim.Native.Nat.{ℕ}
use mathlib.Core.Path.{◌≡◌, refl, sym, subst, ◌∙◌}
use mathlib.Core.Logic.{inl}
use mathlib.Core.List.{List, [], ◌∷◌}
use Rattle.base.specs.Family.{KnownFamily}
use Rattle.base.specs.Logic.{Every}
use Rattle.base.specs.Refusal.{table_full}
use Rattle.base.specs.declared.Answer.{Answer}
use Rattle.base.specs.declared.Answer.TheVariants.{Refused}
use Rattle.name.specs.Name.{canonical}
use Rattle.name.proofs.Theorems.{canonical_form}
use Rattle.slots.specs.Entry.{family_of}
use Rattle.slots.specs.Form.{Sound, table_bytes}
use Rattle.table.specs.Calls.{KnownPolicy, argument_tests, Adds, Removes}
use Rattle.table.proofs.DemandLaws.{was_stepped, left_sound, add_leaves, remove_leaves}
use Rattle.table.proofs.SoundLaws.{SoundEntries}
use Rattle.carried.specs.Holds.{HoldsBytes}
use Rattle.carried.specs.Sent.{Exchange, Passes, Step, arguments_of, stepped, CallOf, Sends, Told, InStep, BothAfter}
use Rattle.carried.specs.Zone.{Zone}
use Rattle.carried.proofs.SentLaws.{step_sent}

module _ (served : List ℕ) (limit : ℕ) where
  -- with arguments that pass, the call on a sound table is the step on its entries, and these stay sound
  called_so : (s : Step) (b : List ℕ) → Passes served (arguments_of s) → (k : Sound limit b) → (r : Answer) (left : List ℕ) → CallOf limit s b r left
      → (r ≡ (stepped limit s k.table).answer) × (left ≡ table_bytes limit (stepped limit s k.table).table) × SoundEntries limit (stepped limit s k.table).table
  unfolding Adds Removes
  called_so (Step.adds c) b h k r left call =
      let n = canonical_form c.name h.inside.name in
      let w = was_stepped limit (argument_tests limit (KnownFamily c.family × KnownPolicy 0) b c.name c.dhcid c.family c.address) b _ r left call
      ((h.family, inl refl), (k, (h.inside.name, (h.dhcid, (h.address, tt))))) k.table k.slots in
      (w.0, w.1, (add_leaves limit b k (canonical c.name) c.dhcid (family_of c.family) c.address 0 n.proper n.again h.dhcid h.address).sound)
  called_so (Step.removes c) b h k r left call =
      let w = was_stepped limit (argument_tests limit (KnownFamily c.family) b c.name c.dhcid c.family c.address) b _ r left call
      (h.family, (k, (h.inside.name, (h.dhcid, (h.address, tt))))) k.table k.slots in
      (w.0, w.1, (remove_leaves limit b k (canonical c.name) c.dhcid (family_of c.family) c.address).sound)

  module _ (s : Step) (b : List ℕ) (z : Zone) (h : Passes served (arguments_of s)) (hold : HoldsBytes limit z b) (r : Answer) (left : List ℕ)
      (call : CallOf limit s b r left) (x : Exchange) where
    pub as_stepped : InStep (Told s hold.sound.table z) (stepped limit s hold.sound.table) x
        → Told s hold.sound.table z r x × HoldsBytes limit x.zone left
    as_stepped both =
        let so = called_so s b h hold.sound r left call in
        (subst (λ (a : Answer). Told s hold.sound.table z a x) (sym so.0) both.codes, record { sound = left_sound limit left _ so.2 so.1; holds = both.holds })

    pub step_on_bytes : (r ≡ Refused table_full 0 → ⊥) → Sends served s z x → Told s hold.sound.table z r x × HoldsBytes limit x.zone left
    step_on_bytes free sends =
        as_stepped (step_sent served limit s hold.sound.table z h hold.holds (λ e. free ((called_so s b h hold.sound r left call).0 ∙ e)) x sends)

  pub steps_on_bytes : (ss : List Step) (b v : List ℕ) (z w : Zone) → Every (λ s. Passes served (arguments_of s)) ss → HoldsBytes limit z b
      → BothAfter limit served ss b z v w → HoldsBytes limit w v
  steps_on_bytes [] b v z w Every.none hold BothAfter.at_rest = hold
  steps_on_bytes (s ∷ ss) b v z w (Every.more h rest) hold (BothAfter.then r left x call free sends later) =
      steps_on_bytes ss left v x.zone w rest (step_on_bytes s b z h hold r left call x free sends).1 later
