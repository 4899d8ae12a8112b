-- Demand 2, of the calls that change a table, write it and load it. Assumes nothing.
use Prim.Native.Nat.{ℕ, ◌*◌, ◌/◌, ◌%◌, ◌^◌, ◌≤◌, ◌<◌}
use mathlib.Core.Path.{◌≡◌, refl, sym, ap, subst, ◌∙◌}
use mathlib.Core.List.{List}
use native.Mathlib.Omega.{arith}
use lib.ListN.{length, take}
use Rattle.base.specs.Answer.{number, value, offset, Tells, IsAccepted}
use Rattle.base.specs.Logic.{Every}
use Rattle.base.specs.declared.Answer.{Answer}
use Rattle.base.specs.declared.Answer.TheVariants.{Accepted, Refused}
use Rattle.base.proofs.AnswerLaws.{accepted≢refused}
use Rattle.base.proofs.Bytes.{length_overlay}
use Rattle.base.proofs.Theorems.{taken_apart}
use Rattle.listing.specs.Reading.{limit}
use Rattle.slots.specs.Form.{Sound}
use Rattle.slots.specs.Sizes.{most_names, table_size}
use Rattle.table.specs.Calls.{Adds, Removes, Clears}
use Rattle.table.specs.Demand2.{SoundAdd, SoundRemove, SoundClear}
use Rattle.table.proofs.Theorems.{sound_add, others_add, order_add, installs, installs_so, sound_remove, removes_that, removes_if, sound_clear, clears_that, clears_if}
use Rattle.records.specs.Written.{listing_of}
use Rattle.records.specs.Calls.{Writes, Loads}
use Rattle.records.proofs.Theorems as records
use Rattle.demands.specs.Faults.{Stands}
use Rattle.demands.specs.Told.{ToldC, Carried}
use Rattle.demands.specs.Demand2.{SameTable, AddsClient, RemovesAddress, ClearsName}
use Rattle.demands.proofs.AnswerLaws.{told_c}
use Rattle.demands.proofs.TellLaws.{load_numbered}

-- an accepted answer has the number 0
zero_accepted : (a : Answer) → IsAccepted a → number a ≡ 0
unfolding IsAccepted
zero_accepted a (v, e) = ap number e

-- 883 bytes for each name are always enough
pub enough_always : (b out : List ℕ) (r : Answer) (left : List ℕ) → Sound most_names b → 883 * most_names ≤ length out → Writes most_names b out r left → IsAccepted r
unfolding IsAccepted
enough_always b out r left s fits w =
    let short : length (listing_of s.table) ≤ length out = omega (arith, records.written_short most_names b s, s.slots.room) in
    (_, (records.accepted_write most_names b s out r left w (records.enough_room most_names b s out r left short w)).0)

pub same_table : (b out : List ℕ) (a : Answer) (left area : List ℕ) (q : Answer) (after : List ℕ) → Every (λ x. x < 256) b → Writes most_names b out a left → IsAccepted a → table_size ≤ length area
    → Loads limit most_names (take (value a) left) area q after → SameTable b area q after
same_table b out a left area q after bytes w done fits l =
    let r = records.same_table limit most_names b out a left area q after bytes (omega arith) w (zero_accepted a done) l fits in
    record { accepted = r.0; same = r.1; rest = r.2 }

-- ---- the same as C has it: the number w was answered to the write

-- its low half is 0 exactly if the write was accepted, and then its high half is the value, which is no more than the output has
pub record Written (b out left : List ℕ) (w : ℕ) : Type 0 where
  pub answer : Answer
  pub writes : Writes most_names b out answer left
  pub accepted : IsAccepted answer
  pub value_is : w / 2 ^ 32 ≡ value answer
  pub within : value answer ≤ length left

value_within : {b out left : List ℕ} {a : Answer} → Writes most_names b out a left → number a ≡ 0 → value a ≤ length left
value_within (Writes.not_sound f a e) none = absurd (omega (arith, ap number a))
value_within (Writes.short s j a e) none = absurd (omega (arith, ap number a))
value_within {out = out} (Writes.written s room a e) none = omega (arith, ap value a, ap length e, length_overlay out 0 (listing_of s.table) (omega (arith, room)), room)

module _ (b out left : List ℕ) (w : ℕ) where
  pub was_written : Tells w (λ a. Writes most_names b out a left) → w % 2 ^ 32 ≡ 0 → Written b out left w
  unfolding Tells IsAccepted
  was_written (a, e, small, q) zero =
      let apart = taken_apart a small in
      let none : number a ≡ 0 = sym apart.low ∙ sym (ap (λ (n : ℕ). n % 2 ^ 32) e) ∙ zero in
      let s = records.sound_write most_names b out a left q none in
      let d = records.accepted_write most_names b s out a left q none in
      record {
        answer = a;
        writes = q;
        accepted = (_, d.0);
        value_is = omega (arith, ap (λ (n : ℕ). n / 2 ^ 32) e, apart.high, ap offset d.0);
        within = value_within q none;
      }

  pub was_refused : Tells w (λ a. Writes most_names b out a left) → (w % 2 ^ 32 ≡ 0 → ⊥) → (n : ℕ) × (offset : ℕ) × Tells w (λ a. Writes most_names b out a left × (a ≡ Refused n offset))
  unfolding Tells
  was_refused (Accepted v, e, small, q) more = absurd (more (ap (λ (n : ℕ). n % 2 ^ 32) e ∙ (taken_apart (Accepted v) small).low))
  was_refused (Refused n offset, e, small, q) more = (n, offset, (Refused n offset, e, small, (q, refl)))

  -- not both
  pub not_accepted : (n at : ℕ) → Tells w (λ a. Writes most_names b out a left × (a ≡ Refused n at)) → (q : Answer) → Writes most_names b out q left → IsAccepted q → ⊥
  unfolding Tells IsAccepted
  not_accepted n at (a, e, small, (v, f)) q u (x, g) = accepted≢refused (sym g ∙ (records.one_write most_names b out q a left left u v).0 ∙ f)

  -- that many bytes were loaded: it is the same table
  module _ (h : Written b out left w) (area : List ℕ) (q : ℕ) (after : List ℕ) where
    pub carried : Tells q (λ a. Loads limit most_names (take (w / 2 ^ 32) left) area a after) → Carried b out left area q after
    carried l = Carried.loaded h.answer h.writes h.accepted (subst (λ (n : ℕ). Tells q (λ a. Loads limit most_names (take n left) area a after)) h.value_is l)

    pub same_carried : Every (λ x. x < 256) b → table_size ≤ length area → Tells q (λ a. Loads limit most_names (take (w / 2 ^ 32) left) area a after) → ToldC q (λ a. SameTable b area a after)
    unfolding Tells
    same_carried bytes enough (a, e, small, l) =
        told_c a e small (load_numbered _ area a after l)
        (same_table b out h.answer left area a after bytes h.writes h.accepted enough (subst (λ (n : ℕ). Loads limit most_names (take n left) area a after) h.value_is l))

module _ (b name dhcid : List ℕ) (family : ℕ) (address : List ℕ) where
  pub add_is : (policy : ℕ) (a : Answer) (left : List ℕ) → Adds most_names b name dhcid family address policy a left → SoundAdd most_names b name dhcid family address policy → (s : Sound most_names b)
      → AddsClient s.table name dhcid family address policy a left
  add_is policy a left h args s =
      let k = sound_add most_names b name dhcid family address policy a left h s in
      record {
        sound = k;
        exactly = installs most_names b name dhcid family address policy a left h args s k;
        so = λ r e i. installs_so most_names b name dhcid family address policy a left h args s k r e i;
        others = others_add most_names b name dhcid family address policy a left h args s k;
        order = order_add most_names b name dhcid family address policy a left h args s k;
      }

  pub remove_is : (a : Answer) (left : List ℕ) → Removes most_names b name dhcid family address a left → SoundRemove most_names b name dhcid family address → (s : Sound most_names b)
      → RemovesAddress s.table name dhcid family address a left
  unfolding IsAccepted
  remove_is a left h args s =
      let k = sound_remove most_names b name dhcid family address a left h s in
      record {
        exactly = (
          λ (v, e). let d = (removes_that most_names b name dhcid family address a left h args s v e k).1 in record { entry = d.entry; stands = d.stood; holder = d.holder; has = d.address },
          λ d. (0, removes_if most_names b name dhcid family address a left h args s d.entry d.stands d.holder d.has),
        );
        sound = k;
        deleted = λ (v, e). let d = removes_that most_names b name dhcid family address a left h args s v e k in (e ∙ ap Accepted d.0, d.1);
      }

pub clear_is : (b name : List ℕ) (a : Answer) (left : List ℕ) → Clears most_names b name a left → SoundClear most_names b name → (s : Sound most_names b) → ClearsName s.table name a left
unfolding IsAccepted Stands
clear_is b name a left h args s =
    let k = sound_clear most_names b name a left h s in
    record {
      exactly = (
        λ (v, e). let d = (clears_that most_names b name a left h args s v e k).1 in (d.entry, d.stood),
        λ (c, stood). (0, clears_if most_names b name a left h args s c stood),
      );
      sound = k;
      cleared = λ (v, e). let d = clears_that most_names b name a left h args s v e k in (e ∙ ap Accepted d.0, d.1);
    }
