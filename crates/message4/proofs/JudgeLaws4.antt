-- What is kept of the four options, and the judgement from that. Assumes nothing.
use Prim.Native.Nat.{ℕ, suc}
use mathlib.Core.Bool.{Bool, true, false, cond, ◌||◌, false≢true}
use mathlib.Core.Path.{◌≡◌, refl, sym, ap, ◌∙◌}
use mathlib.Core.List.{List, [], ◌∷◌, ◌++◌, append-nil}
use mathlib.Core.Option.{Option, none, some}
use native.Mathlib.Omega.{arith}
use lib.Dec.{leb, eqb}
use lib.ListN.{length}
use borrow.Author.Tests.{le-leb, eqb-true, ne_eqb}
use Rattle.base.specs.Logic.{Every, first_of}
use Rattle.base.specs.Refusal.{option_repeated, option_overload, not_a_request}
use Rattle.message.specs.Options.{Located, having, is_repeated, option_of}
use Rattle.message.specs.Request.{bytes_of, refused_request, accepted, identified, Identifier}
use Rattle.message.specs.Seen.{part_of, seen_of, met}
use Rattle.message.specs.declared.Part.{Part}
use Rattle.message.specs.declared.seen.Seen.{Seen}
use Rattle.message.proofs.SeenLaws.{again_is, met_next, having_append}
use Rattle.message4.specs.Message4.{is_request, identifier4, name4, judge4}
use Rattle.message4.specs.Judging4.{wanted_of, met_if, noted, SeenInside, WantedInside, DataIn, data_at, data_of, as_name, identified_as, judged_by}
use Rattle.message4.specs.declared.Wanted.{Wanted}

-- ---- one option more, by its code

module _ (w : Wanted) (code : ℕ) (p : Part) (s : Seen) where
  pub noted_overload : code ≡ 52 → s ≡ met w.overload p
      → record { overload = s; message_type = w.message_type; client_id = w.client_id; client_fqdn = w.client_fqdn } ≡ noted w code p
  unfolding noted
  noted_overload e h = rw (e, h)

  pub noted_message_type : code ≡ 53 → s ≡ met w.message_type p
      → record { overload = w.overload; message_type = s; client_id = w.client_id; client_fqdn = w.client_fqdn } ≡ noted w code p
  unfolding noted
  noted_message_type e h = rw (e, h)

  pub noted_client_id : code ≡ 61 → s ≡ met w.client_id p
      → record { overload = w.overload; message_type = w.message_type; client_id = s; client_fqdn = w.client_fqdn } ≡ noted w code p
  unfolding noted
  noted_client_id e h = rw (e, h)

  pub noted_client_fqdn : code ≡ 81 → s ≡ met w.client_fqdn p
      → record { overload = w.overload; message_type = w.message_type; client_id = w.client_id; client_fqdn = s } ≡ noted w code p
  unfolding noted
  noted_client_fqdn e h = rw (e, h)

pub noted_other : (w : Wanted) (code : ℕ) (p : Part) → (code ≡ 52 → ⊥) → (code ≡ 53 → ⊥) → (code ≡ 61 → ⊥) → (code ≡ 81 → ⊥) → w ≡ noted w code p
unfolding noted
noted_other w code p h i j k = rw (ne_eqb code 52 h, ne_eqb code 53 i, ne_eqb code 61 j, ne_eqb code 81 k)

-- and as it stands after those before

kept_one : (code : ℕ) (ls : List Located) (l : Located) (t : Bool) → having code (ls ++ l ∷ []) ≡ having code ls ++ cond t (l ∷ []) []
    → met_if t (seen_of (having code ls)) (part_of l) ≡ seen_of (having code (ls ++ l ∷ []))
kept_one code ls l true e = met_next (having code ls) l ∙ sym (ap seen_of e)
kept_one code ls l false e = sym (ap seen_of (e ∙ append-nil (having code ls)))

noted_one : (code : ℕ) (ls : List Located) (l : Located) → met_if (eqb l.code code) (seen_of (having code ls)) (part_of l) ≡ seen_of (having code (ls ++ l ∷ []))
unfolding having
noted_one code ls l = kept_one code ls l (eqb l.code code) (having_append code ls (l ∷ []))

pub noted_next : (ls : List Located) (l : Located) → noted (wanted_of ls) l.code (part_of l) ≡ wanted_of (ls ++ l ∷ [])
unfolding noted wanted_of
noted_next ls l =
    λ i. record { overload = noted_one 52 ls l i; message_type = noted_one 53 ls l i; client_id = noted_one 61 ls l i; client_fqdn = noted_one 81 ls l i }

-- ---- what is kept of the options ls of the message m

found_is : (ls : List Located) → (seen_of ls).found ≡ leb 1 (length ls)
found_is [] = refl
found_is (l ∷ ls) = sym (le-leb 1 (suc (length ls)) (omega arith))

module _ (m : List ℕ) (code : ℕ) where
  data_same : (l : Located) → DataIn m l → l.code ≡ code → data_at m code (part_of l) ≡ l
  unfolding bytes_of
  data_same l h e = λ i. record { code = sym e i; start = l.start; bytes = sym h.«data» i }

  first_kept : (l : Located) (ls : List Located) (t : Bool) → DataIn m l → eqb l.code code ≡ t → data_of m code (seen_of (having code ls)) ≡ first_of (having code ls)
      → data_of m code (seen_of (cond t (l ∷ having code ls) (having code ls))) ≡ first_of (cond t (l ∷ having code ls) (having code ls))
  first_kept l ls true h e rest = ap some (data_same l h (eqb-true l.code code e))
  first_kept l ls false h e rest = rest

  kept_data : (ls : List Located) → Every (DataIn m) ls → data_of m code (seen_of (having code ls)) ≡ option_of code ls
  unfolding having option_of
  kept_data [] Every.none = refl
  kept_data (l ∷ ls) (Every.more h hs) = first_kept l ls (eqb l.code code) h refl (kept_data ls hs)

  first_inside : (l : Located) (ls : List Located) (t : Bool) → DataIn m l → SeenInside m (seen_of (having code ls))
      → SeenInside m (seen_of (cond t (l ∷ having code ls) (having code ls)))
  first_inside l ls true h rest = λ f. h.fits
  first_inside l ls false h rest = rest

  kept_inside : (ls : List Located) → Every (DataIn m) ls → SeenInside m (seen_of (having code ls))
  unfolding having
  kept_inside [] Every.none = λ f. absurd (false≢true f)
  kept_inside (l ∷ ls) (Every.more h hs) = first_inside l ls (eqb l.code code) h (kept_inside ls hs)

identified_as_lem : (i : Option Identifier) (o : Option Part) → identified_as i (as_name o) ≡ identified i o
unfolding accepted
identified_as_lem none o = refl
identified_as_lem (some i) o = refl

module _ (m : List ℕ) (ls : List Located) (h : Every (DataIn m) ls) where
  pub wanted_inside : WantedInside m (wanted_of ls)
  unfolding wanted_of
  wanted_inside = record { overload = kept_inside m 52 ls h; message_type = kept_inside m 53 ls h; client_id = kept_inside m 61 ls h; client_fqdn = kept_inside m 81 ls h }

  pub judged_by_lem : judged_by m (wanted_of ls) ≡ judge4 m ls
  unfolding judged_by wanted_of judge4 is_repeated
  judged_by_lem =
      rw (
        again_is (having 52 ls),
        again_is (having 53 ls),
        again_is (having 61 ls),
        again_is (having 81 ls),
        found_is (having 52 ls),
        kept_data m 53 ls h,
        kept_data m 61 ls h,
        kept_data m 81 ls h,
        identified_as_lem (identifier4 m (option_of 61 ls)) (name4 (option_of 81 ls)),
      )

-- ---- the judgement, step by step

module _ (m : List ℕ) (w : Wanted) where
  pub judged_repeated : (w.overload.again || w.message_type.again || w.client_id.again || w.client_fqdn.again) ≡ true
      → refused_request option_repeated ≡ judged_by m w
  unfolding judged_by
  judged_repeated e = rw e

  module _ (once : (w.overload.again || w.message_type.again || w.client_id.again || w.client_fqdn.again) ≡ false) where
    pub judged_overload : w.overload.found ≡ true → refused_request option_overload ≡ judged_by m w
    unfolding judged_by
    judged_overload e = rw (once, e)

    module _ (whole : w.overload.found ≡ false) where
      pub judged_other : is_request (data_of m 53 w.message_type) ≡ false → refused_request not_a_request ≡ judged_by m w
      unfolding judged_by
      judged_other e = rw (once, whole, e)

      pub judged_request : is_request (data_of m 53 w.message_type) ≡ true
          → identified_as (identifier4 m (data_of m 61 w.client_id)) (as_name (name4 (data_of m 81 w.client_fqdn))) ≡ judged_by m w
      unfolding judged_by
      judged_request e = rw (once, whole, e)
