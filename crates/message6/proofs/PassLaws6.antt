-- Parts of a message, and the loop that passes the options of a DHCPv6 level. Assumes nothing.
use Prim.Native.Nat.{ℕ, suc, ◌+◌, ◌-◌, ◌≤◌, ◌<◌}
use mathlib.Core.Bool.{Bool, true, false, cond}
use mathlib.Core.Path.{◌≡◌, refl, sym, ap, ap₂, ◌∙◌}
use mathlib.Core.List.{List, [], ◌∷◌, ◌++◌, append_assoc, append-nil}
use mathlib.Core.Option.{Option, none, some}
use native.Mathlib.Numerals.{add-one}
use native.Mathlib.Omega.{arith}
use lib.Dec.{eqb}
use borrow.Author.Tests.{ne_eqb}
use lib.ListN.{length, get_or, take, drop, length-drop}
use lib.Seq.{drop-cons, drop-drop, take_all, length-take-le}
use Rattle.base.proofs.Lists.{drop_take}
use Rattle.message.specs.Options.{Located, having}
use Rattle.message.specs.Seen.{part_of, seen_of, met}
use Rattle.message.specs.declared.Part.{Part}
use Rattle.message.specs.declared.seen.Seen.{Seen}
use Rattle.message.proofs.SeenLaws.{met_next, having_append}
use Rattle.message6.specs.Reading6.{be16, option_at, before, options6}
use Rattle.message6.specs.Walking6.{part, nothing_seen, seen_in, level_seen, level_met}
use Rattle.message6.specs.declared.LevelSeen.{LevelSeen}
use Rattle.message6.proofs.OptionsLaws6.{option_test, options_end, options_short, options_past, options_more}

-- ---- parts of a message

module _ (m : List ℕ) (at end : ℕ) where
  pub length_part : end ≤ length m → length (part m at end) ≡ end - at
  unfolding part
  length_part within = length-take-le (end - at) (drop at m) (simp length-drop (omega arith))

  pub part_none : end ≤ at → part m at end ≡ []
  unfolding part
  part_none past = let nothing : end - at ≡ 0 = omega arith in ap (λ (n : ℕ). take n (drop at m)) nothing

  pub drop_part : (n : ℕ) → drop n (part m at end) ≡ part m (at + n) end
  unfolding part
  drop_part n = let less : end - at - n ≡ end - (at + n) = omega arith in drop_take n (end - at) (drop at m) ∙ ap₂ take less (drop-drop n at m)

  pub part_first : at < end → end ≤ length m → part m at end ≡ get_or m at 0 ∷ part m (at + 1) end
  unfolding part
  part_first more within =
      let less : end - at ≡ suc (end - (at + 1)) = omega arith in
      ap₂ take less (drop-cons m at 0 (omega arith)) ∙ ap (λ (k : ℕ). get_or m at 0 ∷ take (end - (at + 1)) (drop k m)) (sym (add-one at))

-- all of it
pub part_all : (m : List ℕ) → part m 0 (length m) ≡ m
unfolding part
part_all m = take_all (length m - 0) m (omega arith)

-- an option's first four bytes
part_four : (m : List ℕ) (at end : ℕ) → at + 4 ≤ end → end ≤ length m
    → part m at end ≡ get_or m at 0 ∷ get_or m (at + 1) 0 ∷ get_or m (at + 2) 0 ∷ get_or m (at + 3) 0 ∷ part m (at + 4) end
part_four m at end more within =
    let two : at + 1 + 1 ≡ at + 2 = omega arith in
    let three : at + 2 + 1 ≡ at + 3 = omega arith in
    let four : at + 3 + 1 ≡ at + 4 = omega arith in
    part_first m at end (omega arith) within
    ∙ ap (λ (l : List ℕ). get_or m at 0 ∷ l)
    (part_first m (at + 1) end (omega arith) within
    ∙ ap (λ (l : List ℕ). get_or m (at + 1) 0 ∷ l)
    (ap (λ (k : ℕ). part m k end) two ∙ part_first m (at + 2) end (omega arith) within
    ∙ ap (λ (l : List ℕ). get_or m (at + 2) 0 ∷ l)
    (ap (λ (k : ℕ). part m k end) three ∙ part_first m (at + 3) end (omega arith) within
    ∙ ap (λ (l : List ℕ). get_or m (at + 3) 0 ∷ l) (ap (λ (k : ℕ). part m k end) four))))

-- ---- what is kept of the options

before_before : (ls ks : List Located) (x : Option (List Located)) → before ls (before ks x) ≡ before (ls ++ ks) x
unfolding before
before_before ls ks none = refl
before_before ls ks (some js) = ap some (sym (append_assoc ls ks js))

seen_on : (code : ℕ) (ls : List Located) (l : Located)
    → cond (eqb l.code code) (met (seen_of (having code ls)) (part_of l)) (seen_of (having code ls)) ≡ seen_of (having code (ls ++ l ∷ []))
unfolding having
seen_on code ls l = go (eqb l.code code) ∙ sym (ap seen_of (having_append code ls (l ∷ [])))
  where
    go : (t : Bool) → cond t (met (seen_of (having code ls)) (part_of l)) (seen_of (having code ls)) ≡ seen_of (having code ls ++ cond t (l ∷ []) [])
    go true = met_next (having code ls) l
    go false = sym (ap seen_of (append-nil (having code ls)))

seen_more : (ls : List Located) (l : Located) → level_met (seen_in ls) l.code (part_of l) ≡ seen_in (ls ++ l ∷ [])
unfolding level_met seen_in
seen_more ls l = rw (seen_on 9 ls l, seen_on 1 ls l, seen_on 39 ls l)

-- what was seen, one by one, and one option more, by its code
abbrev pub level : Seen → Seen → Seen → LevelSeen
level r d n = record { filled = true; relayed = r; duid = d; name = n }

module _ (r d n s : Seen) (code : ℕ) (p : Part) where
  pub level_relayed : code ≡ 9 → s ≡ met r p → level s d n ≡ level_met (level r d n) code p
  unfolding level_met
  level_relayed e h = rw (e, h)

  pub level_duid : code ≡ 1 → s ≡ met d p → level r s n ≡ level_met (level r d n) code p
  unfolding level_met
  level_duid e h = rw (e, h)

  pub level_name : code ≡ 39 → s ≡ met n p → level r d s ≡ level_met (level r d n) code p
  unfolding level_met
  level_name e h = rw (e, h)

pub level_other : (r d n : Seen) (code : ℕ) (p : Part) → (code ≡ 9 → ⊥) → (code ≡ 1 → ⊥) → (code ≡ 39 → ⊥) → level r d n ≡ level_met (level r d n) code p
unfolding level_met
level_other r d n code p h i j = rw (ne_eqb code 9 h, ne_eqb code 1 i, ne_eqb code 39 j)

-- ---- the loop

-- the options from start up to end, passed up to at
pub record Passing (m : List ℕ) (start end at : ℕ) (s : LevelSeen) : Type 0 where
  pub passed : List Located
  pub on : options6 start (part m start end) ≡ before passed (options6 at (part m at end))
  pub seen : s ≡ seen_in passed
  pub high : at ≤ end

before_none : (x : Option (List Located)) → x ≡ before [] x
unfolding before
before_none none = refl
before_none (some ls) = refl

module _ (m : List ℕ) (start end : ℕ) where
  pub passing_none : (r d n : Seen) → r ≡ seen_of [] → d ≡ seen_of [] → n ≡ seen_of [] → start ≤ end → Passing m start end start (level r d n)
  unfolding seen_in having
  passing_none r d n er ed en h =
      record { passed = []; on = before_none (options6 start (part m start end)); seen = λ i. level (er i) (ed i) (en i); high = h }

  module _ (at : ℕ) (s : LevelSeen) (p : Passing m start end at s) where
    -- at the end everything was seen
    pub passing_end : end ≤ at → s ≡ level_seen (options6 start (part m start end))
    unfolding level_seen before
    passing_end past =
        p.seen
        ∙ sym
        (ap level_seen
        (p.on ∙ ap (λ (b : List ℕ). before p.passed (options6 at b)) (part_none m at end past) ∙ ap (before p.passed) (options_end at)
        ∙ ap some (append-nil p.passed)))

    unfilled_here : options6 at (part m at end) ≡ none → nothing_seen false ≡ level_seen (options6 start (part m start end))
    unfolding level_seen before
    unfilled_here e = sym (ap level_seen (p.on ∙ ap (before p.passed) e))

    module _ (within : end ≤ length m) where
      -- fewer than four bytes left
      pub passing_short : at < end → end < at + 4 → nothing_seen false ≡ level_seen (options6 start (part m start end))
      passing_short more few =
          let long = length_part m at end within in
          unfilled_here (options_short at (part m at end) (omega (arith, long)) (omega (arith, long)))

      module _ (more : at + 4 ≤ end) (code len : ℕ) (code_is : code ≡ be16 (get_or m at 0) (get_or m (at + 1) 0))
          (len_is : len ≡ be16 (get_or m (at + 2) 0) (get_or m (at + 3) 0)) where
        -- the option's data run past the end
        pub passing_past : end - (at + 4) < len → nothing_seen false ≡ level_seen (options6 start (part m start end))
        passing_past over =
            let t = part m (at + 4) end in
            let long = length_part m (at + 4) end within in
            unfilled_here
            (ap (options6 at) (part_four m at end more within)
            ∙ options_past at (get_or m at 0) (get_or m (at + 1) 0) (get_or m (at + 2) 0) (get_or m (at + 3) 0) t (omega (arith, long)))

        -- one option more
        pub passing_more : ((i : ℕ) → get_or m i 0 < 256) → len ≤ end - (at + 4) → (s' : LevelSeen) → s' ≡ level_met s code (record { start = at + 4; len = len })
            → Passing m start end (at + 4 + len) s'
        passing_more bytes fits s' met =
            let a = get_or m at 0 in
            let b = get_or m (at + 1) 0 in
            let c = get_or m (at + 2) 0 in
            let d = get_or m (at + 3) 0 in
            let t = part m (at + 4) end in
            let l = option_at at a b c d t in
            let there : be16 c d ≤ length t = omega (arith, length_part m (at + 4) end within) in
            let found : options6 at (part m at end) ≡ before (l ∷ []) (options6 (at + 4 + be16 c d) (drop (be16 c d) t)) =
            ap (options6 at) (part_four m at end more within)
            ∙ options_more at a b c d t (option_test a b c d t (bytes at) (bytes (at + 1)) (bytes (at + 2)) (bytes (at + 3)) there)
            in
            let rest : options6 (at + 4 + be16 c d) (drop (be16 c d) t) ≡ options6 (at + 4 + len) (part m (at + 4 + len) end) =
            ap (options6 (at + 4 + be16 c d)) (drop_part m (at + 4) end (be16 c d)) ∙ ap (λ (n : ℕ). options6 (at + 4 + n) (part m (at + 4 + n) end)) (sym len_is)
            in
            let long : len ≡ length (take (be16 c d) t) = len_is ∙ sym (length-take-le (be16 c d) t there) in
            record {
              passed = p.passed ++ l ∷ [];
              on = p.on ∙ ap (before p.passed) found ∙ before_before p.passed (l ∷ []) (options6 (at + 4 + be16 c d) (drop (be16 c d) t))
                  ∙ ap (before (p.passed ++ l ∷ [])) rest;
              seen =
                  met ∙ (λ i. level_met (p.seen i) (code_is i) (record { start = at + 4; len = long i })) ∙ seen_more p.passed l;
              high = omega arith;
            }
