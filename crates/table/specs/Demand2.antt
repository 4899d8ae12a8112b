-- Demand 2 of the customer, of the three steps: what an add, a remove and a clear do and no more, said of the table's entries before and after the call. Which entries a table's bytes
-- have is determined (slots, proofs/Theorems.antt).
use Rattle.std.specs.Prelude.{ℕ, ◌<◌, true, false, cond, ◌≡◌, ◌⊎◌, List, [], ◌∷◌, ◌++◌, length}
use Rattle.std.proofs.Math.Option.{none, some}
use Rattle.base.specs.Answer.{IsAccepted}
use Rattle.base.specs.Bytes.{eq_bytes}
use Rattle.base.specs.Family.{KnownFamily}
use Rattle.base.specs.Order.{AllHold}
use Rattle.base.specs.declared.Answer.{Answer}
use Rattle.base.specs.declared.Answer.TheVariants.{Accepted}
use Rattle.slots.specs.Effect.{entered, refreshed, taken_over, deleted, has_address}
use Rattle.slots.specs.Entry.{Entry, names, address_of}
use Rattle.slots.specs.Form.{TableEntry}
use Rattle.slots.specs.declared.Family.{Family}
use Rattle.table.specs.Steps.{find}
use Rattle.table.specs.Calls.{KnownPolicy, name_tests, argument_tests}

-- every entry but that of the name n, whole and in order
unfoldable pub others : {H : Type 0} → List ℕ → List (Entry H) → List (Entry H)
others n [] = []
others n (e ∷ t) = cond (eq_bytes e.name n) (others n t) (e ∷ others n t)

-- the names of a table before and after an add of the name n: each keeps its place, and a new one stands last
abbrev pub Ordered : List ℕ → List (List ℕ) → List (List ℕ) → Type 0
Ordered n before after = (after ≡ before) ⊎ (after ≡ before ++ n ∷ [])

-- ---- sound arguments: none of the tests fails that come before the step

abbrev pub SoundAdd : ℕ → List ℕ → List ℕ → List ℕ → ℕ → List ℕ → ℕ → Type 0
SoundAdd limit b name dhcid family address policy = AllHold (argument_tests limit (KnownFamily family × KnownPolicy policy) b name dhcid family address)

abbrev pub SoundRemove : ℕ → List ℕ → List ℕ → List ℕ → ℕ → List ℕ → Type 0
SoundRemove limit b name dhcid family address = AllHold (argument_tests limit (KnownFamily family) b name dhcid family address)

abbrev pub SoundClear : ℕ → List ℕ → List ℕ → Type 0
SoundClear limit b name = AllHold (name_tests limit b name)

-- ---- the sentence on adds

-- nobody has the name and there is room for it; the client has it already; or another client has it, and the policy is latest wins
pub data MayInstall (limit : ℕ) (t : List TableEntry) (n d : List ℕ) (policy : ℕ) : Type 0 where
  unused : find n t ≡ none → length t < limit → MayInstall limit t n d policy
  same : (e : TableEntry) → find n t ≡ some e → e.holder ≡ some d → MayInstall limit t n d policy
  latest : (e : TableEntry) (c : List ℕ) → find n t ≡ some e → e.holder ≡ some c → (c ≡ d → ⊥) → policy ≡ 1 → MayInstall limit t n d policy

-- what is then answered, and what stands under the name: document 01, "Add" (docs/RULES.md, 7.3). A takeover deletes the other family's address, a
-- refresh keeps it
pub data Installs (limit : ℕ) (t : List TableEntry) (n d : List ℕ) (f : Family) (x : List ℕ) (policy : ℕ) : Answer → TableEntry → Type 0 where
  unused : find n t ≡ none → length t < limit → Installs limit t n d f x policy (Accepted 0) (entered n d f x)
  same : (e : TableEntry) → find n t ≡ some e → e.holder ≡ some d → Installs limit t n d f x policy (Accepted 1) (refreshed f x e)
  latest : (e : TableEntry) (c : List ℕ) → find n t ≡ some e → e.holder ≡ some c → (c ≡ d → ⊥) → policy ≡ 1 → Installs limit t n d f x policy (Accepted 2) (taken_over d f x e)

-- the client with the DHCID d is installed under the name n of the entries u: the name's entry has that DHCID and that address, and r, which was answered, is no
-- refusal. Which of 0, 1 and 2 it is, Installs says
pub record Installed (u : List TableEntry) (n d : List ℕ) (f : Family) (x : List ℕ) (r : Answer) : Type 0 where
  pub entry : TableEntry
  pub stands : find n u ≡ some entry
  pub holder : entry.holder ≡ some d
  pub address : address_of f entry ≡ some x
  pub accepted : IsAccepted r

-- ---- the sentence on removes and clears

-- what the entries u have of the name n, under which e stood in t: e without that address, and every name in its place; or, where neither an A nor an AAAA was
-- left, nothing (document 02, K1; docs/RULES.md, 7.4)
pub data LeftOf (t u : List TableEntry) (n : List ℕ) (f : Family) (e : TableEntry) : Type 0 where
  kept : has_address (deleted f e) ≡ true → find n u ≡ some (deleted f e) → names u ≡ names t → LeftOf t u n f e
  gone : has_address (deleted f e) ≡ false → find n u ≡ none → LeftOf t u n f e

-- from the entries t to the entries u that address was deleted, of that client, with the last address the name, and nothing else
pub record Deleted (t u : List TableEntry) (n d : List ℕ) (f : Family) (x : List ℕ) : Type 0 where
  pub entry : TableEntry
  pub stood : find n t ≡ some entry
  pub holder : entry.holder ≡ some d
  pub address : address_of f entry ≡ some x
  pub left : LeftOf t u n f entry
  pub else_same : others n u ≡ others n t

-- the name was taken out, and nothing else
pub record Cleared (t u : List TableEntry) (n : List ℕ) : Type 0 where
  pub entry : TableEntry
  pub stood : find n t ≡ some entry
  pub gone : find n u ≡ none
  pub else_same : others n u ≡ others n t
