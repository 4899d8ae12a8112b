-- The data of a record, by what the readers of `address` and `dhcid_text` say of words. Assumes nothing.
use Prim.Native.Nat.{ℕ, ◌-◌, ◌≤◌}
use mathlib.Core.Bool.{Bool, true, false, cond}
use mathlib.Core.Path.{◌≡◌, refl, sym, ap, subst, ◌∙◌}
use mathlib.Core.List.{List, [], ◌∷◌, ◌++◌, append_assoc, append-nil}
use mathlib.Core.Option.{Option, none, some}
use native.Mathlib.Omega.{arith}
use lib.Dec.{eqb}
use native.Mathlib.Nat.{add-sub_of_le}
use lib.ListN.{length, take, drop, replicate, length-replicate, replicate-append-replicate}
use borrow.Author.Tests.{eq-eqb, ne_eqb}
use Rattle.base.specs.Bytes.{zero_filled}
use Rattle.text.specs.Reading.{Decodes}
use Rattle.address.specs.Address.{SpellsA, SpellsAAAA}
use Rattle.dhcid_text.specs.Dhcid.{SpellsDhcid}
use Rattle.dhcid_text.specs.DhcidReading.{After}
use Rattle.dhcid_text.specs.declared.DhcidWords.{DhcidWords}
use Rattle.dhcid_text.proofs.DhcidLaws.{all_stored}
use Rattle.grammar.proofs.Deciding.{Reads, none_found}
use Rattle.grammar.specs.Scan.{plain, scan}
use Rattle.grammar.specs.AddressReader.{a_of, aaaa_of}
use Rattle.grammar.proofs.AddressReaderLaws.{a_reads, aaaa_reads}
use Rattle.grammar.specs.DhcidReader.{dhcid_of}
use Rattle.grammar.proofs.DhcidReaderLaws.{dhcid_reads}
use Rattle.grammar.specs.Content.{only_word}
use Rattle.words.specs.NextIs.{depth_of, WordAt}
use Rattle.entry.specs.Parts.{filled_out, Data, data_of, words_at, address_for, rdata_for, HeldData, if_none, DataAt}
use Rattle.std.specs.Prelude.{Option as Maybe, Some, None, is_some, unwrap_or}
use Rattle.entry.proofs.NextLaws.{word_words, word_ends}

-- ---- what was read, as `Data` holds it

module _ {A : Type 0} {f : A → Option (List ℕ)} {R : A → List ℕ → Type 0} (reads : Reads f R) (a : A) (at : ℕ) (d : Bool) where
  pub held_by : (read filled : Maybe (List ℕ)) → filled ≡ filled_out read → Decodes (R a) read → HeldData (f a) (data_of (record { rdata = filled; at = at; inside = d }))
  held_by read filled e (Decodes.yes_read {bytes} s) =
      subst (λ (v : Option (List ℕ)). HeldData v (data_of (record { rdata = filled; at = at; inside = d }))) (sym (reads.finds a bytes s))
      (ap (λ (o : Maybe (List ℕ)). is_some o) e, ap (λ (o : Maybe (List ℕ)). unwrap_or o (zero_filled [])) e)
  held_by read filled e (Decodes.none_read never) =
      subst (λ (v : Option (List ℕ)). HeldData v (data_of (record { rdata = filled; at = at; inside = d }))) (sym (none_found reads a never))
      (ap (λ (o : Maybe (List ℕ)). is_some o) e, ap (λ (o : Maybe (List ℕ)). unwrap_or o (zero_filled [])) e)

-- ---- an address is the next word

only_first : (f : List ℕ → Option (List ℕ)) (w : List ℕ) (ws : List (List ℕ)) → only_word f (w ∷ ws) ≡ if_none ws (f w)
only_first f w [] = refl
only_first f w (v ∷ ws) = refl

module _ (t : List ℕ) (at : ℕ) (d : Bool) (k : ℕ) where
  pub no_address : at ≤ length t → words_at t at d ≡ [] → DataAt (address_for k) t at d (data_of (record { rdata = None; at = at; inside = d }))
  no_address fits empty =
      record { from = omega arith; within = fits; ends = refl; value = none; is = (refl, refl); found = ap (address_for k) empty ∙ go (eqb k 1) ∙ sym (ap (λ (ws : List (List ℕ)). if_none ws none) empty) }
    where
      go : (b : Bool) → cond b (only_word a_of []) (only_word aaaa_of []) ≡ none
      go true = refl
      go false = refl

  module _ {start end : ℕ} {d' : Bool} (w : WordAt t at d start end d') (read filled : Maybe (List ℕ)) (e : filled ≡ filled_out read) where
    abbrev word : List ℕ
    word = take (end - start) (drop start t)

    pub an_a : k ≡ 1 → Decodes (SpellsA word) read → DataAt (address_for k) t at d (data_of (record { rdata = filled; at = end; inside = d' }))
    an_a one r =
        record {
          from = omega (arith, w.from, w.some);
          within = w.within;
          ends = word_ends t at d w;
          value = a_of word;
          is = held_by a_reads word end d' read filled e r;
          found = ap (address_for k) (word_words t at d w) ∙ ap (λ (b : Bool). cond b (only_word a_of (word ∷ words_at t end d')) (only_word aaaa_of (word ∷ words_at t end d'))) (eq-eqb k 1 one) ∙ only_first a_of word (words_at t end d');
        }

    pub an_aaaa : (k ≡ 1 → ⊥) → Decodes (SpellsAAAA word) read → DataAt (address_for k) t at d (data_of (record { rdata = filled; at = end; inside = d' }))
    an_aaaa other r =
        record {
          from = omega (arith, w.from, w.some);
          within = w.within;
          ends = word_ends t at d w;
          value = aaaa_of word;
          is = held_by aaaa_reads word end d' read filled e r;
          found = ap (address_for k) (word_words t at d w) ∙ ap (λ (b : Bool). cond b (only_word a_of (word ∷ words_at t end d')) (only_word aaaa_of (word ∷ words_at t end d'))) (ne_eqb k 1 other) ∙ only_first aaaa_of word (words_at t end d');
        }

-- ---- a DHCID is all the words that are left

-- up to i, at the depth d', the words before were read, and s is the state after them
pub record WordsRead (t : List ℕ) (at : ℕ) (d : Bool) (s : DhcidWords) (i : ℕ) (d' : Bool) : Type 0 where
  pub from : at ≤ i
  pub fits : i ≤ length t
  pub ends : (scan plain (depth_of d) (drop at t)).ending ≡ (scan plain (depth_of d') (drop i t)).ending
  pub before : List (List ℕ)
  pub state : After before s
  pub all : words_at t at d ≡ before ++ words_at t i d'

module _ (t : List ℕ) (at : ℕ) (d : Bool) where
  pub none_read_yet : (s : DhcidWords) → at ≤ length t → After [] s → WordsRead t at d s at d
  none_read_yet s fits h = record { from = omega arith; fits = fits; ends = refl; before = []; state = h; all = refl }

  module _ (s : DhcidWords) (i : ℕ) (d' : Bool) (h : WordsRead t at d s i d') where
    pub one_more : {start end : ℕ} {d'' : Bool} (w : WordAt t i d' start end d'') (r : DhcidWords)
        → ((ws : List (List ℕ)) → After ws s → After (ws ++ take (end - start) (drop start t) ∷ []) r) → WordsRead t at d r end d''
    one_more {start} {end} {d''} w r goes =
        record {
          from = omega (arith, h.from, w.from, w.some);
          fits = w.within;
          ends = h.ends ∙ word_ends t i d' w;
          before = h.before ++ take (end - start) (drop start t) ∷ [];
          state = goes h.before h.state;
          all =
              h.all ∙ ap (λ (ws : List (List ℕ)). h.before ++ ws) (word_words t i d' w)
              ∙ sym (append_assoc h.before (take (end - start) (drop start t) ∷ []) (words_at t end d''));
        }

    pub all_read : words_at t i d' ≡ [] → (read filled : Maybe (List ℕ)) → filled ≡ filled_out read → ((ws : List (List ℕ)) → After ws s → Decodes (SpellsDhcid ws) read)
        → DataAt dhcid_of t at d (data_of (record { rdata = filled; at = i; inside = d' }))
    all_read empty read filled e says =
        let words : words_at t at d ≡ h.before = h.all ∙ ap (λ (ws : List (List ℕ)). h.before ++ ws) empty ∙ append-nil h.before in
        record {
          from = h.from;
          within = h.fits;
          ends = h.ends;
          value = dhcid_of h.before;
          is = held_by dhcid_reads h.before i d' read filled e (says h.before h.state);
          found = ap dhcid_of words ∙ sym (ap (λ (ws : List (List ℕ)). if_none ws (dhcid_of h.before)) empty);
        }

-- ---- by the number of the type

module _ (t : List ℕ) (at : ℕ) (d : Bool) (k : ℕ) (r : Data) where
  pub by_dhcid : k ≡ 49 → DataAt dhcid_of t at d r → DataAt (rdata_for k) t at d r
  by_dhcid e h =
      record {
        from = h.from;
        within = h.within;
        ends = h.ends;
        value = h.value;
        is = h.is;
        found = ap (λ (b : Bool). cond b (dhcid_of (words_at t at d)) (address_for k (words_at t at d))) (eq-eqb k 49 e) ∙ h.found;
      }

  pub by_address : (k ≡ 49 → ⊥) → DataAt (address_for k) t at d r → DataAt (rdata_for k) t at d r
  by_address e h =
      record {
        from = h.from;
        within = h.within;
        ends = h.ends;
        value = h.value;
        is = h.is;
        found = ap (λ (b : Bool). cond b (dhcid_of (words_at t at d)) (address_for k (words_at t at d))) (ne_eqb k 49 e) ∙ h.found;
      }
