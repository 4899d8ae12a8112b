-- The walker of a DHCPv6 level's options: each of its answers is what specs/Reading6.antt makes of the options. Assumes nothing.
use Prim.Native.Nat.{ℕ, ◌+◌, ◌-◌, ◌≤◌, ◌<◌}
use mathlib.Core.Bool.{Bool, true, false, true≢false, false≢true}
use mathlib.Core.Path.{◌≡◌, refl, sym, ap, subst, ◌∙◌}
use mathlib.Core.List.{List, [], ◌∷◌}
use mathlib.Core.Option.{Option, none, some}
use native.Mathlib.Omega.{arith}
use lib.ListN.{length, take, drop}
use borrow.Author.Tests.{ltb-true, ltb-false}
use Rattle.base.specs.Logic.{Every}
use Rattle.base.specs.Refusal.{options_malformed, option_repeated}
use Rattle.message.specs.Options.{Located, having}
use Rattle.message.specs.Request.{refused_request}
use Rattle.message.specs.Seen.{part_of, seen_of}
use Rattle.message.specs.declared.Part.{Part}
use Rattle.message.specs.declared.Request.{Request}
use Rattle.message.specs.declared.seen.Seen.{Seen}
use Rattle.message6.specs.Reading6.{options6, client, single, relay, level}
use Rattle.message6.specs.Walking6.{part, nothing_seen, seen_in, level_seen, judged, walked}
use Rattle.message6.specs.declared.LevelSeen.{LevelSeen}
use Rattle.message6.proofs.OptionsLaws6.{found_options}
use Rattle.message6.proofs.LevelLaws6.{inside}
use Rattle.message6.proofs.StandLaws6.{Stands, options_stand, every_having}
use Rattle.message6.proofs.JudgeLaws6.{judged_seen}

-- ---- the walker

-- options that do not fill the level, of a relay or of the client
walked_unfilled : (relaying : Bool) (n : ℕ) → refused_request options_malformed ≡ walked relaying n none
unfolding walked relay client
walked_unfilled true n = refl
walked_unfilled false n = refl

-- the options that fill a level, and what was seen of them
record Filling (m : List ℕ) (start end : ℕ) (s : LevelSeen) : Type 0 where
  list : List Located
  found : options6 start (part m start end) ≡ some list
  seen : s ≡ seen_in list
  stands : Every (Stands m start end) list

module _ (m : List ℕ) (start end : ℕ) where
  -- what was seen first stands within the level, if anything was
  part_until : (ks : List Located) → Every (Stands m start end) ks → (seen_of ks).part.start + (seen_of ks).part.len ≤ end
  part_until [] h = omega arith
  part_until (k ∷ ks) (Every.more h hs) = h.until

-- ---- the Relay Message option, by what was seen

module _ (inner : Located → Request) where
  single_none : (ks : List Located) → (seen_of ks).found ≡ false → refused_request options_malformed ≡ single inner ks
  unfolding single
  single_none [] e = refl
  single_none (l ∷ ks) e = absurd (true≢false e)

  single_twice : (ks : List Located) → (seen_of ks).again ≡ true → refused_request option_repeated ≡ single inner ks
  unfolding single
  single_twice [] e = absurd (false≢true e)
  single_twice (l ∷ []) e = let f : 0 < 0 = ltb-true 0 0 e in absurd (omega arith)
  single_twice (l ∷ k ∷ ks) e = refl

only_one : (ks : List Located) → (seen_of ks).found ≡ true → (seen_of ks).again ≡ false → (l : Located) × (ks ≡ l ∷ [])
only_one [] e f = absurd (false≢true e)
only_one (l ∷ []) e f = (l, refl)
only_one (l ∷ k ∷ ks) e f = let few : length (k ∷ ks) ≤ 0 = ltb-false 0 (length (k ∷ ks)) f in absurd (omega arith)

-- ---- the walker's answers

module _ (m : List ℕ) (start end : ℕ) (s : LevelSeen) (e : s ≡ level_seen (options6 start (part m start end))) where
  pub walked_malformed : (relaying : Bool) (n : ℕ) → s.filled ≡ false → refused_request options_malformed ≡ walked relaying n (options6 start (part m start end))
  unfolding level_seen seen_in
  walked_malformed relaying n f = go (options6 start (part m start end)) e
    where
      go : (os : Option (List Located)) → s ≡ level_seen os → refused_request options_malformed ≡ walked relaying n os
      go none e = walked_unfilled relaying n
      go (some ls) e = absurd (true≢false (sym (ap (λ (x : LevelSeen). x.filled) e) ∙ f))

  module _ (within : end ≤ length m) (filled : s.filled ≡ true) where
    filling : Filling m start end s
    unfolding level_seen nothing_seen
    filling = go (options6 start (part m start end)) refl
      where
        go : (os : Option (List Located)) → options6 start (part m start end) ≡ os → Filling m start end s
        go none e' = absurd (false≢true (sym (ap (λ (x : LevelSeen). x.filled) (e ∙ ap level_seen e')) ∙ filled))
        go (some ls) e' =
            let found = found_options start (part m start end) ls e' in
            record {
              list = ls;
              found = e';
              seen = e ∙ ap level_seen e';
              stands = subst (Every (Stands m start end)) found.located (options_stand m end within start found.list found.options);
            }

    relayed_is : s.relayed ≡ seen_of (having 9 filling.list)
    unfolding seen_in
    relayed_is = ap (λ (x : LevelSeen). x.relayed) filling.seen

    name_is : s.name ≡ seen_of (having 39 filling.list)
    unfolding seen_in
    name_is = ap (λ (x : LevelSeen). x.name) filling.seen

    pub name_until : s.name.part.start + s.name.part.len ≤ end
    name_until =
        subst (λ (x : Seen). x.part.start + x.part.len ≤ end) (sym name_is)
        (part_until m start end (having 39 filling.list) (every_having 39 filling.list filling.stands))

    pub walked_client : (n : ℕ) (r : Request) → r ≡ judged s → r ≡ walked false n (options6 start (part m start end))
    unfolding walked client
    walked_client n r e' = e' ∙ ap judged filling.seen ∙ judged_seen filling.list ∙ sym (ap client filling.found)

    -- a relay's answer is that of its Relay Message option
    walked_single : (n : ℕ) → walked true n (options6 start (part m start end)) ≡ single (inside n) (having 9 filling.list)
    unfolding walked relay
    walked_single n = ap (relay (inside n)) filling.found

    pub walked_nothing : (n : ℕ) → s.relayed.found ≡ false → refused_request options_malformed ≡ walked true n (options6 start (part m start end))
    walked_nothing n f =
        single_none (inside n) (having 9 filling.list) (sym (ap (λ (x : Seen). x.found) relayed_is) ∙ f) ∙ sym (walked_single n)

    pub walked_twice : (n : ℕ) → s.relayed.again ≡ true → refused_request option_repeated ≡ walked true n (options6 start (part m start end))
    walked_twice n f =
        single_twice (inside n) (having 9 filling.list) (sym (ap (λ (x : Seen). x.again) relayed_is) ∙ f) ∙ sym (walked_single n)

    module _ (found : s.relayed.found ≡ true) (once : s.relayed.again ≡ false) where
      passed_on : (l : Located) × (having 9 filling.list ≡ l ∷ [])
      passed_on =
          only_one (having 9 filling.list) (sym (ap (λ (x : Seen). x.found) relayed_is) ∙ found) (sym (ap (λ (x : Seen). x.again) relayed_is) ∙ once)

      passed_part : s.relayed.part ≡ part_of passed_on.0
      passed_part = ap (λ (x : Seen). x.part) (relayed_is ∙ ap seen_of passed_on.1)

      passed_stands : Stands m start end passed_on.0
      passed_stands = go (subst (Every (Stands m start end)) passed_on.1 (every_having 9 filling.list filling.stands))
        where
          go : Every (Stands m start end) (passed_on.0 ∷ []) → Stands m start end passed_on.0
          go (Every.more h hs) = h

      pub inner_from : start + 4 ≤ s.relayed.part.start
      inner_from = subst (λ (p : Part). start + 4 ≤ p.start) (sym passed_part) passed_stands.from

      pub inner_until : s.relayed.part.start + s.relayed.part.len ≤ end
      inner_until = subst (λ (p : Part). p.start + p.len ≤ end) (sym passed_part) passed_stands.until

      -- what is read inside is the answer
      pub walked_inside : (n : ℕ) (r : Request)
          → r ≡ level n s.relayed.part.start (part m s.relayed.part.start (s.relayed.part.start + s.relayed.part.len))
          → r ≡ walked true n (options6 start (part m start end))
      unfolding part single
      walked_inside n r e' =
          let l = passed_on.0 in
          let long : l.start + length l.bytes - l.start ≡ length l.bytes = omega arith in
          e' ∙ ap (λ (p : Part). level n p.start (part m p.start (p.start + p.len))) passed_part
          ∙ ap (level n l.start) (ap (λ (k : ℕ). take k (drop l.start m)) long ∙ sym passed_stands.there)
          ∙ sym (walked_single n ∙ ap (single (inside n)) passed_on.1)
