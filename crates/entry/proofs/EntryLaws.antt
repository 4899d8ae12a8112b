-- What an entry is read as, by its words and its end. Assumes nothing.
use Prim.Native.Nat.{ℕ, ◌-◌, ◌≤◌, ◌<◌}
use mathlib.Core.Bool.{Bool, true, false, cond}
use mathlib.Core.Path.{◌≡◌, refl, sym, ap, ◌∙◌}
use mathlib.Core.List.{List, [], ◌∷◌}
use mathlib.Core.Logic.{◌⊎◌, ⊎_elim}
use mathlib.Core.Option.{none, some}
use native.Mathlib.Omega.{arith}
use lib.ListN.{length, drop, get_or, length-drop}
use lib.Seq.{drop-cons}
use Rattle.base.specs.Bytes.{padded}
use Rattle.base.specs.Refusal.{entry_shape, entry_owner, entry_type}
use Rattle.name.specs.Name.{canonical}
use Rattle.name.specs.Promise.{Reads, ReadsNone}
use Rattle.name.specs.declared.WireName.{WireName}
use Rattle.std.specs.Prelude.{Option as Maybe, Some, None}
use Rattle.name.proofs.NameLaws.{length_canonical}
use Rattle.name.proofs.WireLaws.{proper_some}
use Rattle.grammar.specs.Listing.{is_word_byte, begins, outside, RecordType}
use Rattle.grammar.proofs.Deciding.{none_found}
use Rattle.grammar.specs.Scan.{plain, Ending, at_end, at_line, at_fault, Laid, scan}
use Rattle.grammar.specs.OwnerReader.{owner_of}
use Rattle.grammar.proofs.OwnerReaderLaws.{owner_reads}
use Rattle.grammar.specs.Content.{Content, nothing, fault, head_of, rdata_of, by_rdata, content_of}
use Rattle.words.specs.NextIs.{LineAt}
use Rattle.entry.specs.Parts.{rdata_for, if_none}
use Rattle.entry.specs.Held.{type_number}
use Rattle.entry.specs.EntryAt.{nothing_before, fault_before, by_content, by_end, entry_at, not_at_fault}

module _ (t : List ℕ) (at : ℕ) where
  -- how the entry at at ends, and what its words come to
  abbrev pub ends : Ending
  ends = (scan plain outside (drop at t)).ending

  abbrev pub content : Content
  content = content_of (begins is_word_byte (drop at t)) (scan plain outside (drop at t)).words

  -- ---- the entry, by what its words come to and by its end

  pub by_parts : (c : Content) (x : Ending) → content ≡ c → ends ≡ x → by_end (length t) c x ≡ entry_at t at
  unfolding entry_at
  by_parts c x e q = sym (λ i. by_end (length t) (e i) (q i))

  -- the entry ends before next
  pub to_line : (c : Content) (next : ℕ) → content ≡ c → ends ≡ at_line (drop next t) → next ≤ length t → by_content (length t) c next ≡ entry_at t at
  to_line c next e q within =
      ap (by_content (length t) c) (let left : next ≡ length t - length (drop next t) = omega (arith, length-drop next t) in left) ∙ by_parts c (at_line (drop next t)) e q

  -- a fault of the words, and the entry's end from a later place on
  pub word_fault : (n : ℕ) (x : Ending) → content ≡ fault n → ends ≡ x → fault_before (cond (not_at_fault x) n entry_shape) (length t) ≡ entry_at t at
  word_fault n x e q = go x ∙ by_parts (fault n) x e q
    where
      go : (x : Ending) → fault_before (cond (not_at_fault x) n entry_shape) (length t) ≡ by_end (length t) (fault n) x
      go at_end = refl
      go (at_line u) = refl
      go at_fault = refl

  -- ---- an entry with no words

  no_content : (l : Laid) → scan plain outside (drop at t) ≡ l → l.words ≡ [] → content ≡ nothing
  unfolding content_of
  no_content l e empty = ap (content_of (begins is_word_byte (drop at t))) (ap (λ (x : Laid). x.words) e ∙ empty)

  pub no_words_to_line : (next : ℕ) → LineAt t at false next → nothing_before next ≡ entry_at t at
  no_words_to_line next l = to_line nothing next (no_content _ l.ends refl) (ap (λ (x : Laid). x.ending) l.ends) l.within

  pub no_words_to_end : scan plain outside (drop at t) ≡ record { words = []; ending = at_end } → nothing_before (length t) ≡ entry_at t at
  no_words_to_end e = by_parts nothing at_end (no_content _ e refl) (ap (λ (x : Laid). x.ending) e)

  pub no_words_to_fault : scan plain outside (drop at t) ≡ record { words = []; ending = at_fault } → fault_before entry_shape (length t) ≡ entry_at t at
  no_words_to_fault e = by_parts nothing at_fault (no_content _ e refl) (ap (λ (x : Laid). x.ending) e)

-- ---- the owner

-- the entry's first byte
pub first_byte : (t : List ℕ) (at : ℕ) → at < length t → begins is_word_byte (drop at t) ≡ is_word_byte (get_or t at 0)
first_byte t at h = ap (begins is_word_byte) (drop-cons t at 0 h)

module _ (w : List ℕ) (r : Maybe WireName) (h : Reads w r ⊎ ReadsNone w r) where
  pub owner_none : r ≡ None → owner_of w ≡ none
  owner_none e = ⊎_elim (λ x. let never : ⊥ = cc (x.is, e) in absurd never) (λ x. none_found owner_reads w (λ n o. x.none o.wire o.spells)) h

  pub owner_some : (name : WireName) → r ≡ Some name → (n : List ℕ) × (owner_of w ≡ some n) × (name.bytes ≡ padded n) × (name.len ≡ length n)
  owner_some name e =
      ⊎_elim
      (λ x.
      let same : name ≡ record { bytes = padded (canonical x.wire); len = length x.wire } = cc (x.is, e) in (
        canonical x.wire,
        owner_reads.finds w (canonical x.wire) (record { wire = x.wire; spells = x.spells; form = refl }),
        ap (λ (n : WireName). n.bytes) same,
        ap (λ (n : WireName). n.len) same ∙ sym (length_canonical x.wire),
      ))
      (λ x. let never : ⊥ = cc (x.is, e) in absurd never) h

-- ---- what words come to

module _ (o : List ℕ) (ws : List (List ℕ)) where
  pub no_owner : (first : Bool) → owner_of o ≡ none → content_of first (o ∷ ws) ≡ fault entry_owner
  unfolding content_of
  no_owner true e = rw e
  no_owner false e = refl

  pub not_first : (first : Bool) → first ≡ false → content_of first (o ∷ ws) ≡ fault entry_owner
  unfolding content_of
  not_first first e = rw e

  module _ (first : Bool) (n : List ℕ) (e : first ≡ true) (owner : owner_of o ≡ some n) where
    pub no_head : head_of ws ≡ none → content_of first (o ∷ ws) ≡ fault entry_type
    unfolding content_of
    no_head h = rw (e, owner, h)

    pub with_head : (k : RecordType) (ds : List (List ℕ)) → head_of ws ≡ some (record { rtype = k; rest = ds }) → content_of first (o ∷ ws) ≡ by_rdata n k (rdata_of k ds)
    unfolding content_of
    with_head k ds h = rw (e, owner, h)

-- the data by the type's number
pub by_number : (k : RecordType) (ds : List (List ℕ)) → rdata_for (type_number k) ds ≡ rdata_of k ds
unfolding rdata_of
by_number RecordType.A ds = refl
by_number RecordType.AAAA ds = refl
by_number RecordType.DHCID ds = refl

pub nothing_found : (ws : List (List ℕ)) → if_none ws none ≡ none
nothing_found [] = refl
nothing_found (w ∷ ws) = refl
