-- The loop of a step: entries with no words are passed over, up to a record, a fault or the end. Assumes nothing.
use Prim.Native.Nat.{ℕ, ◌-◌, ◌≤◌, ◌<◌}
use mathlib.Core.Bool.{true, false}
use mathlib.Core.Path.{◌≡◌, refl, sym, ap, ◌∙◌}
use mathlib.Core.List.{List, []}
use native.Mathlib.Nat.{add-zero, sub_self}
use native.Mathlib.Omega.{arith}
use lib.ListN.{length, drop, drop_of_length-le}
use Rattle.base.specs.Refusal.{listing_long}
use Rattle.base.proofs.Tests.{by_ltb}
use Rattle.grammar.specs.Listing.{outside, Words}
use Rattle.grammar.specs.Reader.{Verdict, wrong, after, shifted, read}
use Rattle.entry.specs.EntryText.{EntryText}
use Rattle.entry.specs.EntryAt.{entry_at}
use Rattle.entry.specs.Held.{empty_record}
use Rattle.entry.specs.declared.Record.{Record}
use Rattle.entry.specs.declared.Content.TheVariants
use Rattle.entry.specs.declared.Entry.{Entry}
use Rattle.entry.proofs.KnownLaws.{ContentIs, EntryIs, content_is, empty, entry_is}
use Rattle.listing.specs.Reading.{limit}
use Rattle.listing.specs.Giving.{NoWords, StepIs}
use Rattle.listing.specs.declared.Step.{Step}
use Rattle.listing.specs.declared.Found.TheVariants as found
use Rattle.listing.proofs.GivingLaws.{over_answers, record_answers, end_answers, refusal_answers}
use Rattle.listing.proofs.VerdictLaws.{shifted_none, shifted_on, shifted_after}

-- from at up to i no record stands
pub record Skipped (t : List ℕ) (at i : ℕ) : Type 0 where
  pub from : at ≤ i
  pub fits : at < i → i ≤ length t
  pub passed : NoWords t at i
  pub same : read (drop at t) ≡ shifted (i - at) (read (drop i t))

-- one entry more
passed_more : {t : List ℕ} {at i j : ℕ} → NoWords t at i → (e : List ℕ) → EntryText t i e j → Words outside e [] → NoWords t at j
passed_more NoWords.none e x w = NoWords.more e x w NoWords.none
passed_more (NoWords.more e' x' w' p) e x w = NoWords.more e' x' w' (passed_more p e x w)

pub skipped_none : (t : List ℕ) (at : ℕ) → Skipped t at at
skipped_none t at =
    record { from = omega arith; fits = λ h. absurd (omega arith); passed = NoWords.none; same = sym (ap (λ (m : ℕ). shifted m (read (drop at t))) (sub_self at) ∙ shifted_none (read (drop at t))) }

module _ (t : List ℕ) (at i : ℕ) (h : Skipped t at i) where
  module _ (within : i < length t) (e : Entry) (read_as : e ≡ entry_at t i) where
    is : EntryIs t i e
    is = entry_is t i within e read_as

    -- the same up to the entry's end
    further : (v : Verdict) → shifted (i - at) (shifted (e.next - i) v) ≡ shifted (e.next - at) v
    further v = let on : i < e.next = is.on in shifted_on (i - at) (e.next - i) v ∙ ap (λ (m : ℕ). shifted m v) (omega (arith, h.from))

    pub skipped_nothing : e.content ≡ TheVariants.Nothing → Skipped t at e.next
    skipped_nothing q =
        let on : i < e.next = is.on in
        let c = content_is t i e TheVariants.Nothing is q in
        record {
          from = omega (arith, h.from);
          fits = λ x. is.within;
          passed = passed_more h.passed c.2 c.3 c.4;
          same = h.same ∙ ap (shifted (i - at)) c.1 ∙ further (read (drop e.next t));
        }

    -- it has found a record
    module _ (short : length t ≤ limit) (q : e.content ≡ TheVariants.Record) where
      abbrev c : ContentIs t i TheVariants.Record e.«record» e.next
      c = content_is t i e TheVariants.Record is q

      abbrev with_record : Step
      with_record = record { found = found.Record; «record» = e.«record»; next = e.next }

      pub step_record : StepIs t at with_record
      step_record =
          let on : i < e.next = is.on in
          record {
            is_next =
                record_answers t at with_record short c.0 (λ k. record { refused = false; number = 0; offset = 0; count = 1; «record» = c.1 k }) (omega (arith, h.from))
                (h.same ∙ ap (shifted (i - at)) c.2 ∙ shifted_after (i - at) c.0 (shifted (e.next - i) (read (drop e.next t)))
                ∙ ap (after c.0) (further (read (drop e.next t))));
            goes_on = record { from = i; passed = h.passed; entry = c.4; stands = c.5; «record» = c.0; spells = c.6 };
          }

    -- or a fault
    pub step_refused : (n : ℕ) → length t ≤ limit → e.content ≡ TheVariants.Fault n → StepIs t at (record { found = found.Refused n i; «record» = e.«record»; next = i })
    step_refused n short q =
        let c = content_is t i e (TheVariants.Fault n) is q in
        record {
          is_next =
              refusal_answers t at _ short n (λ k. record { refused = true; number = n; offset = i; count = 0; «record» = c.0 k }) h.from
              (h.same ∙ ap (shifted (i - at)) c.2 ∙ ap (wrong [] n) (add-zero (i - at)));
          goes_on = (λ x. refl, λ x. absurd (omega arith));
        }

  -- i is at itself, or an offset of the text
  still : length t ≤ i → {X : Type 0} → (i ≡ at → X) → (i ≡ length t → X) → X
  still done first beyond = by_ltb at i (λ lt. beyond (let within = h.fits lt in omega arith)) (λ le. first (omega (arith, h.from)))

  pub step_end : length t ≤ limit → length t ≤ i → (r : Record) → r ≡ empty_record → StepIs t at (record { found = found.End; «record» = r; next = i })
  step_end short done r q =
      record {
        is_next =
            end_answers t at _ short (λ k. record { refused = false; number = 0; offset = 0; count = 0; «record» = q k }) done
            (h.same ∙ ap (λ (l : List ℕ). shifted (i - at) (read l)) (drop_of_length-le t done) ∙ ap (shifted (i - at)) empty);
        goes_on = (λ x. still done (λ y. omega (arith, h.from)) (λ y. y), λ x. still done (λ y. y) (λ y. omega (arith, h.from)));
      }

pub step_over : (t : List ℕ) (at : ℕ) → limit < length t → (r : Record) → r ≡ empty_record → StepIs t at (record { found = found.Refused listing_long 0; «record» = r; next = at })
step_over t at h r q =
    record {
      is_next = over_answers t at _ h (λ k. record { refused = true; number = listing_long; offset = 0; count = 0; «record» = q k });
      goes_on = (λ x. absurd (omega arith), λ x. refl);
    }
