-- What an entry with words comes to, step by step as it is read: owner, head, data, end. Assumes nothing.
use Prim.Native.Nat.{ℕ, ◌-◌}
use mathlib.Core.Bool.{Bool, true, false, true≢false}
use mathlib.Core.Path.{◌≡◌, refl, sym, ap, ◌∙◌}
use mathlib.Core.List.{List, [], ◌∷◌}
use mathlib.Core.Option.{Option, none, some}
use native.Mathlib.Omega.{arith}
use lib.ListN.{length, take, drop}
use Rattle.base.specs.Bytes.{padded, zero_filled}
use Rattle.base.specs.Refusal.{entry_owner, entry_type, entry_data, entry_shape}
use Rattle.grammar.specs.Listing.{is_word_byte, begins, RecordType, ResourceRecord}
use Rattle.grammar.specs.Scan.{plain, at_end, at_fault, Laid, scan}
use Rattle.grammar.specs.OwnerReader.{owner_of}
use Rattle.grammar.specs.Content.{one, with_rest, head_of, by_rdata, content_of}
use Rattle.words.specs.NextIs.{depth_of, WordAt, LineAt}
use Rattle.entry.specs.Parts.{type_number_if, words_at, HeadAt, rdata_for, HeldData, if_none, DataAt}
use Rattle.entry.specs.Held.{type_number, held}
use Rattle.entry.specs.EntryAt.{record_before, fault_before, entry_at, faulty_from}
use Rattle.entry.specs.declared.Record.{Record}
use Rattle.entry.specs.declared.Content.TheVariants
use Rattle.entry.specs.declared.head.Head.{Head}
use Rattle.entry.specs.Parts.{Data}
use Rattle.entry.proofs.NextLaws.{word_words, word_ends}
use Rattle.entry.proofs.EntryLaws.{ends, content, by_parts, to_line, word_fault, no_owner, not_first, no_head, with_head, by_number, nothing_found}

module _ (t : List ℕ) (at start end : ℕ) (d : Bool) (w : WordAt t at false start end d) where
  abbrev owner : List ℕ
  owner = take (end - start) (drop start t)

  abbrev first : Bool
  first = begins is_word_byte (drop at t)

  words_are : content t at ≡ content_of first (owner ∷ words_at t end d)
  words_are = ap (content_of first) (word_words t at false w)

  ends_are : ends t at ≡ (scan plain (depth_of d) (drop end t)).ending
  ends_are = word_ends t at false w

  -- ---- the owner

  pub bad_owner : owner_of owner ≡ none → faulty_from t end d entry_owner ≡ entry_at t at
  unfolding faulty_from
  bad_owner e = word_fault t at entry_owner _ (words_are ∙ no_owner owner (words_at t end d) first e) ends_are

  pub bad_first : first ≡ false → faulty_from t end d entry_owner ≡ entry_at t at
  unfolding faulty_from
  bad_first e = word_fault t at entry_owner _ (words_are ∙ not_first owner (words_at t end d) first e) ends_are

  module _ (n : List ℕ) (is_first : first ≡ true) (named : owner_of owner ≡ some n) (h : Head) (head : HeadAt head_of t end d h) where
    -- ---- the head

    head_ends : ends t at ≡ (scan plain (depth_of h.inside) (drop h.at t)).ending
    head_ends = ends_are ∙ head.ends

    no_type : (k : Option RecordType) → type_number_if k ≡ 0 → k ≡ none
    no_type none e = refl
    no_type (some RecordType.A) e = absurd (omega arith)
    no_type (some RecordType.AAAA) e = absurd (omega arith)
    no_type (some RecordType.DHCID) e = absurd (omega arith)

    pub bad_type : h.rtype ≡ 0 → faulty_from t h.at h.inside entry_type ≡ entry_at t at
    unfolding faulty_from
    bad_type e =
        let none_there : head_of (words_at t end d) ≡ none = head.found ∙ ap (with_rest (words_at t h.at h.inside)) (no_type head.type (sym head.is ∙ e)) in
        word_fault t at entry_type _ (words_are ∙ no_head owner (words_at t end d) first n is_first named none_there) head_ends

    some_type : (k : Option RecordType) → (type_number_if k ≡ 0 → ⊥) → (j : RecordType) × (k ≡ some j)
    some_type none e = absurd (e refl)
    some_type (some j) e = (j, refl)

    module _ (typed : h.rtype ≡ 0 → ⊥) (r : Data) (rdata : DataAt (rdata_for h.rtype) t h.at h.inside r) where
      -- ---- the data

      kind : (j : RecordType) × (head.type ≡ some j)
      kind = some_type head.type (λ e. typed (head.is ∙ e))

      abbrev k : RecordType
      k = kind.0

      numbered : h.rtype ≡ type_number k
      numbered = head.is ∙ ap type_number_if kind.1

      -- the content hangs on the data, and on whether words are left after them
      by_data : content t at ≡ by_rdata n k (if_none (words_at t r.at r.inside) rdata.value)
      by_data =
          words_are ∙ with_head owner (words_at t end d) first n is_first named k (words_at t h.at h.inside) (head.found ∙ ap (with_rest (words_at t h.at h.inside)) kind.1)
          ∙ ap (by_rdata n k)
          (sym (by_number k (words_at t h.at h.inside)) ∙ ap (λ (m : ℕ). rdata_for m (words_at t h.at h.inside)) (sym numbered) ∙ rdata.found)

      data_ends : ends t at ≡ (scan plain (depth_of r.inside) (drop r.at t)).ending
      data_ends = head_ends ∙ rdata.ends

      not_held : (v : Option (List ℕ)) → HeldData v r → r.found ≡ false → v ≡ none
      not_held none x e = refl
      not_held (some bs) x e = absurd (true≢false (sym x.0 ∙ e))

      is_held : (v : Option (List ℕ)) → HeldData v r → r.found ≡ true → (bs : List ℕ) × (v ≡ some bs) × (r.bytes ≡ zero_filled bs)
      is_held none x e = absurd (true≢false (sym e ∙ x.0))
      is_held (some bs) x e = (bs, refl, x.1)

      pub bad_data : r.found ≡ false → faulty_from t r.at r.inside entry_data ≡ entry_at t at
      unfolding faulty_from
      bad_data e =
          let gone : if_none (words_at t r.at r.inside) rdata.value ≡ none =
          ap (if_none (words_at t r.at r.inside)) (not_held rdata.value rdata.is e) ∙ nothing_found (words_at t r.at r.inside) in
          word_fault t at entry_data _ (by_data ∙ ap (by_rdata n k) gone) data_ends

      -- ---- the end

      pub word_left : {start' end' : ℕ} {d' : Bool} → WordAt t r.at r.inside start' end' d' → faulty_from t end' d' entry_data ≡ entry_at t at
      unfolding faulty_from
      word_left v =
          let gone : if_none (words_at t r.at r.inside) rdata.value ≡ none =
          ap (λ (ws : List (List ℕ)). if_none ws rdata.value) (word_words t r.at r.inside v) in
          word_fault t at entry_data _ (by_data ∙ ap (by_rdata n k) gone) (data_ends ∙ word_ends t r.at r.inside v)

      pub shape_left : scan plain (depth_of r.inside) (drop r.at t) ≡ record { words = []; ending = at_fault } → fault_before entry_shape (length t) ≡ entry_at t at
      shape_left e = by_parts t at _ at_fault refl (data_ends ∙ ap (λ (l : Laid). l.ending) e)

      module _ (name rdata35 : List ℕ) (len : ℕ) (padded_name : name ≡ padded n) (long : len ≡ length n) (found : r.found ≡ true) (bytes : rdata35 ≡ r.bytes) where
        value : (bs : List ℕ) × (rdata.value ≡ some bs) × (r.bytes ≡ zero_filled bs)
        value = is_held rdata.value rdata.is found

        abbrev rr : ResourceRecord
        rr = record { owner = n; rtype = k; rdata = value.0 }

        -- the record that is answered
        abbrev answered : Record
        answered = record { owner = name; owner_len = len; rtype = h.rtype; rdata = rdata35 }

        -- it is the one that the words come to
        is_it : (next : ℕ) → record { content = TheVariants.Record; «record» = answered; next = next } ≡ record_before rr next
        unfolding held record_before
        is_it next =
            λ i. record {
              content = TheVariants.Record;
              «record» = record { owner = padded_name i; owner_len = long i; rtype = numbered i; rdata = (bytes ∙ value.2) i };
              next = next;
            }

        the_record : words_at t r.at r.inside ≡ [] → content t at ≡ one rr
        the_record e = by_data ∙ ap (λ (ws : List (List ℕ)). by_rdata n k (if_none ws rdata.value)) e ∙ ap (by_rdata n k) value.1

        pub good_to_end : scan plain (depth_of r.inside) (drop r.at t) ≡ record { words = []; ending = at_end }
            → record { content = TheVariants.Record; «record» = answered; next = length t } ≡ entry_at t at
        good_to_end e =
            is_it (length t) ∙ by_parts t at (one rr) at_end (the_record (ap (λ (l : Laid). l.words) e)) (data_ends ∙ ap (λ (l : Laid). l.ending) e)

        pub good_to_line : (next : ℕ) → LineAt t r.at r.inside next → record { content = TheVariants.Record; «record» = answered; next = next } ≡ entry_at t at
        good_to_line next l =
            is_it next ∙ to_line t at (one rr) next (the_record (ap (λ (x : Laid). x.words) l.ends)) (data_ends ∙ ap (λ (x : Laid). x.ending) l.ends) l.within
