-- The same add again changes nothing. Assumes nothing.
use Prim.Native.Nat.{ℕ}
use mathlib.Core.Path.{◌≡◌, refl, sym, ap, subst, ◌∙◌}
use mathlib.Core.List.{List, [], ◌∷◌, ◌++◌}
use mathlib.Core.Option.{Option, none, some, none-ne-some, some-injective}
use Rattle.base.specs.Bytes.{eq_bytes}
use Rattle.base.proofs.Tests.{eq_eq_bytes, eq_bytes_true}
use Rattle.base.proofs.AnswerLaws.{accepted≢refused}
use Rattle.base.specs.declared.Answer.TheVariants.{Accepted, Refused}
use Rattle.slots.specs.Entry.{Entry, address_of}
use Rattle.slots.specs.Effect.{entered, refreshed, taken_over}
use Rattle.slots.specs.Form.{TableEntry}
use Rattle.slots.specs.declared.Family.{Family}
use Rattle.slots.specs.declared.Family.TheVariants.{V4, V6}
use Rattle.table.specs.Steps.{StepOutcome, find, changed, without, add, accepted_with}
use Rattle.table.proofs.FoundLaws.{Standing, standing}
use Rattle.table.proofs.CaseLaws.{Adding, add_case}
use Rattle.table.proofs.OthersLaws.{find_changed, find_last}
use Rattle.table.proofs.SoundLaws.{keeps_name, entered_name, taken_keeps_name}

-- ---- the forward side: the same add again changes nothing

changed_same : (n : List ℕ) (g : TableEntry → TableEntry) (t : List TableEntry) (e : TableEntry) → find n t ≡ some e → g e ≡ e → changed n g t ≡ t
changed_same n g t e found fixed = go (standing n t)
  where
    go : Standing n t → changed n g t ≡ t
    go (Standing.nowhere p h) = absurd (none-ne-some e (sym h ∙ found))
    go (Standing.at p d r cut here there change left) =
        let same : d ≡ e = some-injective d e (sym there ∙ found) in
        change g ∙ ap (λ (y : TableEntry). p ++ y ∷ r) (ap g same ∙ fixed ∙ sym same) ∙ sym cut

refreshed_entered : (n d : List ℕ) (f : Family) (x : List ℕ) → refreshed f x (entered n d f x) ≡ entered n d f x
refreshed_entered n d V4 x = refl
refreshed_entered n d V6 x = refl

refreshed_refreshed : (f : Family) (x : List ℕ) (e : TableEntry) → refreshed f x (refreshed f x e) ≡ refreshed f x e
refreshed_refreshed V4 x e = refl
refreshed_refreshed V6 x e = refl

refreshed_taken : (d : List ℕ) (f : Family) (x : List ℕ) (e : TableEntry) → refreshed f x (taken_over d f x e) ≡ taken_over d f x e
refreshed_taken d V4 x e = refl
refreshed_taken d V6 x e = refl

entered_holder : (n d : List ℕ) (f : Family) (x : List ℕ) → (entered n d f x).holder ≡ some d
entered_holder n d V4 x = refl
entered_holder n d V6 x = refl

refreshed_holder : (f : Family) (x : List ℕ) (e : TableEntry) → (refreshed f x e).holder ≡ e.holder
refreshed_holder V4 x e = refl
refreshed_holder V6 x e = refl

taken_holder : (d : List ℕ) (f : Family) (x : List ℕ) (e : TableEntry) → (taken_over d f x e).holder ≡ some d
taken_holder d V4 x e = refl
taken_holder d V6 x e = refl

refreshed_address : (f : Family) (x : List ℕ) (e : TableEntry) → address_of f (refreshed f x e) ≡ some x
refreshed_address V4 x e = refl
refreshed_address V6 x e = refl

-- the client holds the name, with just this address
pub record Holds (t : List TableEntry) (n d : List ℕ) (f : Family) (x : List ℕ) : Type 0 where
  pub entry : TableEntry
  pub found : find n t ≡ some entry
  pub holder : entry.holder ≡ some d
  pub fixed : refreshed f x entry ≡ entry

pub holds_address : (t : List TableEntry) (n d : List ℕ) (f : Family) (x : List ℕ) (h : Holds t n d f x) → address_of f h.entry ≡ some x
holds_address t n d f x h = ap (address_of f) (sym h.fixed) ∙ refreshed_address f x h.entry

-- an add for such a client answers 1 and leaves the table as it is
pub add_holder : (limit : ℕ) (t : List TableEntry) (n d : List ℕ) (f : Family) (x : List ℕ) (policy : ℕ) → Holds t n d f x → add limit eq_bytes t n d f x policy ≡ accepted_with 1 t
unfolding add
add_holder limit t n d f x policy h =
    let kept = changed_same n (refreshed f x) t h.entry h.found h.fixed in rw (h.found, h.holder, eq_eq_bytes d d refl) (ap (accepted_with 1) kept)

-- an add is refused, and leaves the table; or is accepted, and then the client holds the name with that address
pub data Added (t : List TableEntry) (n d : List ℕ) (f : Family) (x : List ℕ) (o : StepOutcome (List ℕ)) : Type 0 where
  refused : (m : ℕ) → o ≡ record { answer = Refused m 0; table = t } → Added t n d f x o
  accepted : (v : ℕ) (u : List TableEntry) → o ≡ accepted_with v u → Holds u n d f x → Added t n d f x o

added_by : (limit : ℕ) (t : List TableEntry) (n d : List ℕ) (f : Family) (x : List ℕ) (policy : ℕ) (o : StepOutcome (List ℕ)) → Adding eq_bytes t n d f x limit policy o → Added t n d f x o
added_by limit t n d f x policy o (Adding.put_last found room e) =
    Added.accepted 0 (t ++ entered n d f x ∷ []) e
    (record { entry = entered n d f x; found = find_last n t (entered n d f x) found (entered_name n d f x); holder = entered_holder n d f x; fixed = refreshed_entered n d f x })
added_by limit t n d f x policy o (Adding.same_client c k found holder same e) =
    Added.accepted 1 (changed n (refreshed f x) t) e
    (record {
      entry = refreshed f x c;
      found = find_changed n (refreshed f x) (keeps_name f (some x)) t c found;
      holder = refreshed_holder f x c ∙ holder ∙ ap some (eq_bytes_true k d same);
      fixed = refreshed_refreshed f x c;
    })
added_by limit t n d f x policy o (Adding.latest_wins c k found holder differs p e) =
    Added.accepted 2 (changed n (taken_over d f x) t) e
    (record { entry = taken_over d f x c; found = find_changed n (taken_over d f x) (taken_keeps_name d f x) t c found; holder = taken_holder d f x c; fixed = refreshed_taken d f x c })
added_by limit t n d f x policy o (Adding.full found room e) = Added.refused 32 e
added_by limit t n d f x policy o (Adding.by_hand c found holder e) = Added.refused 31 e
added_by limit t n d f x policy o (Adding.first_wins c k found holder differs p e) = Added.refused 30 e

pub added : (limit : ℕ) (t : List TableEntry) (n d : List ℕ) (f : Family) (x : List ℕ) (policy : ℕ) → Added t n d f x (add limit eq_bytes t n d f x policy)
added limit t n d f x policy = added_by limit t n d f x policy (add limit eq_bytes t n d f x policy) (add_case eq_bytes t n d f x limit policy)
