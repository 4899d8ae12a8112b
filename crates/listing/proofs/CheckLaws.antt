-- The loop of the check: how far a listing was read, and what it then comes to. Assumes nothing.
use Prim.Native.Nat.{ℕ, ◌+◌, ◌-◌, ◌≤◌, ◌<◌}
use mathlib.Core.Path.{◌≡◌, refl, sym, ap, ◌∙◌}
use mathlib.Core.List.{List, [], ◌∷◌, ◌++◌, append-nil}
use native.Mathlib.Nat.{add-zero}
use native.Mathlib.Omega.{arith}
use lib.ListN.{length, drop, length-append, drop_of_length-le}
use Rattle.base.specs.declared.Answer.TheVariants.{Accepted, Refused}
use Rattle.base.specs.Refusal.{listing_long}
use Rattle.grammar.specs.Listing.{ResourceRecord}
use Rattle.grammar.specs.Outcome.{accepted, refused, Checked}
use Rattle.grammar.specs.Reader.{Verdict, right, wrong, after, shifted, read}
use Rattle.entry.specs.EntryAt.{entry_at}
use Rattle.entry.specs.declared.Content.TheVariants
use Rattle.entry.specs.declared.Entry.{Entry}
use Rattle.entry.proofs.KnownLaws.{EntryIs, content_is, empty, entry_is}
use Rattle.listing.specs.Reading.{limit, Checks}
use Rattle.listing.proofs.SpellingLaws.{spells_by, refused_by}
use Rattle.listing.proofs.VerdictLaws.{prepended, shifted_none, prepended_none, prepended_on, shifted_after, shifted_to}

-- the entries of the text t up to at have count records
pub record Counted (t : List ℕ) (at count : ℕ) : Type 0 where
  pub fits : at ≤ length t
  pub few : count ≤ at
  pub done : List ResourceRecord
  pub counts : count ≡ length done
  pub so_far : read t ≡ prepended done (shifted at (read (drop at t)))

pub counted_none : (t : List ℕ) → Counted t 0 0
counted_none t =
    record { fits = omega arith; few = omega arith; done = []; counts = refl; so_far = sym (prepended_none (shifted 0 (read t)) ∙ shifted_none (read t)) }

module _ (t : List ℕ) (at count : ℕ) (h : Counted t at count) where
  module _ (within : at < length t) (e : Entry) (read_as : e ≡ entry_at t at) where
    is : EntryIs t at e
    is = entry_is t at within e read_as

    pub counted_nothing : e.content ≡ TheVariants.Nothing → Counted t e.next count
    counted_nothing q =
        let on : at < e.next = is.on in
        let c = content_is t at e TheVariants.Nothing is q in
        record {
          fits = is.within;
          few = omega (arith, h.few);
          done = h.done;
          counts = h.counts;
          so_far = h.so_far ∙ ap (λ (v : Verdict). prepended h.done (shifted at v)) c.1 ∙ ap (prepended h.done) (shifted_to at e.next (read (drop e.next t)) (omega arith));
        }

    pub counted_record : e.content ≡ TheVariants.Record → Counted t e.next (count + 1)
    counted_record q =
        let on : at < e.next = is.on in
        let c = content_is t at e TheVariants.Record is q in
        let rest = read (drop e.next t) in
        record {
          fits = is.within;
          few = omega (arith, h.few);
          done = h.done ++ c.0 ∷ [];
          counts = omega (arith, h.counts, length-append h.done (c.0 ∷ []));
          so_far =
              h.so_far ∙ ap (λ (v : Verdict). prepended h.done (shifted at v)) c.2
              ∙ ap (prepended h.done) (shifted_after at c.0 (shifted (e.next - at) rest) ∙ ap (after c.0) (shifted_to at e.next rest (omega arith)))
              ∙ prepended_on h.done c.0 (shifted e.next rest);
        }

    pub refused_there : (n : ℕ) → length t ≤ limit → e.content ≡ TheVariants.Fault n → Checks t (Refused n at)
    unfolding Checks
    refused_there n short q =
        let c = content_is t at e (TheVariants.Fault n) is q in
        let comes : read t ≡ wrong (h.done ++ []) n at = h.so_far ∙ ap (λ (v : Verdict). prepended h.done (shifted at v)) c.2 ∙ ap (wrong (h.done ++ []) n) (add-zero at) in
        (refused n at, Checked.faulty short (refused_by t _ n at comes), refl)

  pub all_counted : length t ≤ limit → length t ≤ at → Checks t (Accepted count)
  unfolding Checks
  all_counted short done =
      let comes : read t ≡ right (h.done ++ []) =
      h.so_far ∙ ap (λ (l : List ℕ). prepended h.done (shifted at (read l))) (drop_of_length-le t done) ∙ ap (λ (v : Verdict). prepended h.done (shifted at v)) empty in
      (accepted h.done, Checked.whole short (spells_by t _ (comes ∙ ap right (append-nil h.done))), ap Accepted h.counts)

pub over_limit : (t : List ℕ) → limit < length t → Checks t (Refused listing_long 0)
unfolding Checks
over_limit t h = (refused listing_long 0, Checked.too_long h, refl)
