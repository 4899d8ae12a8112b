-- The options of a DHCPv6 level: what is read is what is written, both ways. Assumes nothing.
use Prim.Native.Nat.{ℕ, zero, suc, ◌+◌, ◌/◌, ◌%◌, ◌^◌, ◌≤◌, ◌<◌}
use mathlib.Core.Bool.{Bool, true, false, cond, ◌&&◌, and-false}
use mathlib.Core.Path.{◌≡◌, refl, sym, ap, subst, ◌∙◌}
use mathlib.Core.List.{List, [], ◌∷◌, ◌++◌}
use mathlib.Core.Option.{Option, none, some, none-ne-some, some-injective}
use native.Mathlib.Nat.{div-one}
use native.Mathlib.Omega.{arith}
use lib.Dec.{leb, ltb}
use lib.ListN.{length, take, drop, length-append, length-drop, take-append-drop}
use lib.Seq.{take_at, drop_at, length-take-le}
use borrow.Author.Tests.{ltb-true, lt-ltb, leb-true, le-leb, lt-leb}
use Rattle.base.specs.Bytes.{big_endian}
use Rattle.base.specs.Logic.{Every}
use Rattle.base.proofs.Tests.{and_left, and_right}
use Rattle.message.specs.Options.{Located}
use Rattle.message6.specs.Options6.{Option6, bytes6, written6, Options6, located6}
use Rattle.message6.specs.Reading6.{be16, is_option, option_at, before, option, options, options6}

-- ---- an option's first four bytes

module _ (a b c d : ℕ) (t : List ℕ) where
  -- they are bytes, and the data are there
  pub option_test : a < 256 → b < 256 → c < 256 → d < 256 → be16 c d ≤ length t → is_option a b c d t ≡ true
  unfolding is_option
  option_test ha hb hc hd fits = rw (lt-ltb a 256 ha, lt-ltb b 256 hb, lt-ltb c 256 hc, lt-ltb d 256 hd, le-leb (be16 c d) (length t) fits)

  -- the data are not there
  option_past : length t < be16 c d → is_option a b c d t ≡ false
  unfolding is_option
  option_past over = rw (lt-leb (be16 c d) (length t) over) (and-false (ltb a 256 && ltb b 256 && ltb c 256 && ltb d 256))

  record Headed : Type 0 where
    high_code : a < 256
    low_code : b < 256
    high_length : c < 256
    low_length : d < 256
    fits : be16 c d ≤ length t

  test_option : is_option a b c d t ≡ true → Headed
  unfolding is_option
  test_option e =
      let four = and_left (ltb a 256 && ltb b 256 && ltb c 256 && ltb d 256) (leb (be16 c d) (length t)) e in
      let three = and_left (ltb a 256 && ltb b 256 && ltb c 256) (ltb d 256) four in
      let two = and_left (ltb a 256 && ltb b 256) (ltb c 256) three in
      record {
        high_code = ltb-true a 256 (and_left (ltb a 256) (ltb b 256) two);
        low_code = ltb-true b 256 (and_right (ltb a 256) (ltb b 256) two);
        high_length = ltb-true c 256 (and_right (ltb a 256 && ltb b 256) (ltb c 256) three);
        low_length = ltb-true d 256 (and_right (ltb a 256 && ltb b 256 && ltb c 256) (ltb d 256) four);
        fits = leb-true (be16 c d) (length t) (and_right (ltb a 256 && ltb b 256 && ltb c 256 && ltb d 256) (leb (be16 c d) (length t)) e);
      }

-- a number below 2^16 in two bytes
two_bytes : (x : ℕ) → big_endian 2 x ≡ x / 256 % 256 ∷ x % 256 ∷ []
unfolding big_endian
two_bytes x = simp div-one

pub written_first_lem : (o : Option6) (os : List Option6) → written6 (o ∷ os)
    ≡ o.code / 256 % 256 ∷ o.code % 256 ∷ length o.bytes / 256 % 256 ∷ length o.bytes % 256 ∷ o.bytes ++ written6 os
unfolding written6 bytes6
written_first_lem o os = rw (two_bytes o.code, two_bytes (length o.bytes))

-- two bytes in one number
bytes_of_lem : (a b : ℕ) → a < 256 → b < 256 → (be16 a b / 256 % 256 ≡ a) × (be16 a b % 256 ≡ b)
bytes_of_lem a b ha hb = (omega arith, omega arith)

-- ---- as many options as there are

options_next : (n at : ℕ) (b : List ℕ) → options (suc n) at b ≡ option (options n) at b
unfolding options
options_next n at b = refl

option_agrees : (f g : ℕ → List ℕ → Option (List Located)) (at : ℕ) (b : List ℕ) → ((to : ℕ) (t : List ℕ) → length t < length b → f to t ≡ g to t)
    → option f at b ≡ option g at b
unfolding option
option_agrees f g at [] agree = refl
option_agrees f g at (a ∷ []) agree = refl
option_agrees f g at (a ∷ b ∷ []) agree = refl
option_agrees f g at (a ∷ b ∷ c ∷ []) agree = refl
option_agrees f g at (a ∷ b ∷ c ∷ d ∷ t) agree =
    ap (λ (r : Option (List Located)). cond (is_option a b c d t) (before (option_at at a b c d t ∷ []) r) none)
    (agree (at + 4 + be16 c d) (drop (be16 c d) t) (simp length-drop (omega arith)))

module _ (n at : ℕ) (b : List ℕ) (h : length b < suc n) where
  enough_next : (k : ℕ) → ((k to : ℕ) (t : List ℕ) → length t < n → length t < k → options n to t ≡ options k to t) → length b < k
      → options (suc n) at b ≡ options k at b
  enough_next zero next h' = absurd (omega arith)
  enough_next (suc k) next h' =
      options_next n at b ∙ option_agrees (options n) (options k) at b (λ to t shorter. next k to t (omega arith) (omega arith)) ∙ sym (options_next k at b)

enough : (n k at : ℕ) (b : List ℕ) → length b < n → length b < k → options n at b ≡ options k at b
enough zero k at b h h' = absurd (omega arith)
enough (suc n) k at b h h' = enough_next n at b h k (enough n) h'

-- ---- the options of bytes, from the front

options_first : (at : ℕ) (b : List ℕ) → options6 at b ≡ option (options (length b)) at b
unfolding options6
options_first at b = options_next (length b) at b

-- nothing more: there are no options
pub options_end : (at : ℕ) → options6 at [] ≡ some []
unfolding option
options_end at = options_first at []

-- fewer than four bytes are no options
pub options_short : (at : ℕ) (b : List ℕ) → 0 < length b → length b < 4 → options6 at b ≡ none
unfolding option
options_short at [] some_left few = absurd (omega arith)
options_short at (a ∷ []) some_left few = options_first at (a ∷ [])
options_short at (a ∷ b ∷ []) some_left few = options_first at (a ∷ b ∷ [])
options_short at (a ∷ b ∷ c ∷ []) some_left few = options_first at (a ∷ b ∷ c ∷ [])
options_short at (a ∷ b ∷ c ∷ d ∷ t) some_left few = absurd (omega arith)

module _ (at a b c d : ℕ) (t : List ℕ) where
  -- data that run past the end
  pub options_past : length t < be16 c d → options6 at (a ∷ b ∷ c ∷ d ∷ t) ≡ none
  unfolding option
  options_past over = options_first at (a ∷ b ∷ c ∷ d ∷ t) ∙ rw (option_past a b c d t over)

  -- one option, and what follows it
  pub options_more : is_option a b c d t ≡ true
      → options6 at (a ∷ b ∷ c ∷ d ∷ t)
      ≡ before (option_at at a b c d t ∷ []) (options6 (at + 4 + be16 c d) (drop (be16 c d) t))
  unfolding option options6
  options_more e =
      options_first at (a ∷ b ∷ c ∷ d ∷ t)
      ∙ rw e (ap (before (option_at at a b c d t ∷ []))
      (enough (length (a ∷ b ∷ c ∷ d ∷ t)) (suc (length (drop (be16 c d) t))) (at + 4 + be16 c d) (drop (be16 c d) t) (simp length-drop (omega arith))
      (omega arith)))

-- ---- what is written is found

-- an option of which the first four bytes say how long its data are
found_first : (at : ℕ) (o : Option6) (os : List Option6) → o.code < 2 ^ 16 → length o.bytes < 2 ^ 16
    → options6 at (written6 (o ∷ os))
    ≡ before (record { code = o.code; start = at + 4; bytes = o.bytes } ∷ []) (options6 (at + 4 + length o.bytes) (written6 os))
found_first at o os code long =
    let c = o.code in
    let n = length o.bytes in
    let t = o.bytes ++ written6 os in
    let same_code : be16 (c / 256 % 256) (c % 256) ≡ c = omega (arith, code) in
    let same_length : be16 (n / 256 % 256) (n % 256) ≡ n = omega (arith, long) in
    let fits : be16 (n / 256 % 256) (n % 256) ≤ length t = omega (arith, length-append o.bytes (written6 os), same_length) in
    ap (options6 at) (written_first_lem o os)
    ∙ options_more at (c / 256 % 256) (c % 256) (n / 256 % 256) (n % 256) t
    (option_test (c / 256 % 256) (c % 256) (n / 256 % 256) (n % 256) t (omega arith) (omega arith) (omega arith) (omega arith) fits)
    ∙ rw (same_code, same_length, take_at o.bytes (written6 os) n refl, drop_at o.bytes (written6 os) n refl)

found_written : (os : List Option6) (at : ℕ) → Every (λ o. o.code < 2 ^ 16) os → Every (λ o. length o.bytes < 2 ^ 16) os
    → options6 at (written6 os) ≡ some (located6 at os)
unfolding located6 before
found_written [] at codes lengths = unfold written6 in options_end at
found_written (o ∷ os) at (Every.more code codes) (Every.more long lengths) =
    found_first at o os code long
    ∙ ap (before (record { code = o.code; start = at + 4; bytes = o.bytes } ∷ [])) (found_written os (at + 4 + length o.bytes) codes lengths)

pub options_found : (at : ℕ) (b : List ℕ) (os : List Option6) → Options6 b os → options6 at b ≡ some (located6 at os)
options_found at b os h = ap (options6 at) h.cut ∙ found_written os at h.codes h.lengths

-- options are what they are located from, so no bytes are two lists of options
unlocated : List Located → List Option6
unlocated [] = []
unlocated (l ∷ ls) = record { code = l.code; bytes = l.bytes } ∷ unlocated ls

unlocated_is : (at : ℕ) (os : List Option6) → unlocated (located6 at os) ≡ os
unfolding located6 unlocated
unlocated_is at [] = refl
unlocated_is at (o ∷ os) = ap (λ (x : List Option6). o ∷ x) (unlocated_is (at + 4 + length o.bytes) os)

pub options_one : (b : List ℕ) (os ps : List Option6) → Options6 b os → Options6 b ps → os ≡ ps
options_one b os ps h k =
    sym (unlocated_is 0 os)
    ∙ ap unlocated (some-injective (located6 0 os) (located6 0 ps) (sym (options_found 0 b os h) ∙ options_found 0 b ps k)) ∙ unlocated_is 0 ps

-- ---- what is found is written

-- the options that were found at the offset at
pub record Found (at : ℕ) (b : List ℕ) (ls : List Located) : Type 0 where
  pub list : List Option6
  pub options : Options6 b list
  pub located : located6 at list ≡ ls

pub before_is : (ls : List Located) (x : Option (List Located)) (ks : List Located) → before ls x ≡ some ks
    → (js : List Located) × (x ≡ some js) × (ls ++ js ≡ ks)
unfolding before
before_is ls none ks e = absurd (none-ne-some ks e)
before_is ls (some js) ks e = (js, refl, some-injective (ls ++ js) ks e)

module _ (at a b c d : ℕ) (t : List ℕ) (h : Headed a b c d t) where
  -- one option in front of those that are written in the rest
  written_more : (os : List Option6) → Options6 (drop (be16 c d) t) os → Options6 (a ∷ b ∷ c ∷ d ∷ t) (record { code = be16 a b; bytes = take (be16 c d) t } ∷ os)
  written_more os rest =
      let n = be16 c d in
      let long : length (take n t) ≡ n = length-take-le n t h.fits in
      let code : be16 a b < 2 ^ 16 = omega (arith, h.high_code, h.low_code) in
      let few : length (take n t) < 2 ^ 16 = omega (arith, h.high_length, h.low_length, long) in
      record {
        cut =
            sym
            (written_first_lem (record { code = be16 a b; bytes = take n t }) os
            ∙ rw (
              long,
              (bytes_of_lem a b h.high_code h.low_code).0,
              (bytes_of_lem a b h.high_code h.low_code).1,
              (bytes_of_lem c d h.high_length h.low_length).0,
              (bytes_of_lem c d h.high_length h.low_length).1,
              sym rest.cut,
              take-append-drop n t,
            ));
        codes = Every.more code rest.codes;
        lengths = Every.more few rest.lengths;
      }

  found_more : (ls : List Located) → Found (at + 4 + be16 c d) (drop (be16 c d) t) ls
      → Found at (a ∷ b ∷ c ∷ d ∷ t) (option_at at a b c d t ∷ ls)
  unfolding located6
  found_more ls rest =
      record {
        list = record { code = be16 a b; bytes = take (be16 c d) t } ∷ rest.list;
        options = written_more rest.list rest.options;
        located = ap (λ (x : List Located). option_at at a b c d t ∷ x)
            (ap (λ (k : ℕ). located6 (at + 4 + k) rest.list) (length-take-le (be16 c d) t h.fits) ∙ rest.located);
      }

module _ (rest : ℕ → List ℕ → Option (List Located)) (next : (at : ℕ) (t : List ℕ) (ls : List Located) → rest at t ≡ some ls → Found at t ls)
    (at : ℕ) (ls : List Located) where
  option_there : (a b c d : ℕ) (t : List ℕ) (p : Bool) → is_option a b c d t ≡ p
      → cond p (before (option_at at a b c d t ∷ []) (rest (at + 4 + be16 c d) (drop (be16 c d) t))) none ≡ some ls
      → Found at (a ∷ b ∷ c ∷ d ∷ t) ls
  option_there a b c d t true test e =
      let l = option_at at a b c d t in
      let tail = before_is (l ∷ []) (rest (at + 4 + be16 c d) (drop (be16 c d) t)) ls e in
      subst (Found at (a ∷ b ∷ c ∷ d ∷ t)) tail.2
      (found_more at a b c d t (test_option a b c d t test) tail.0 (next (at + 4 + be16 c d) (drop (be16 c d) t) tail.0 tail.1))
  option_there a b c d t false test e = absurd (none-ne-some ls e)

  option_is : (b : List ℕ) → option rest at b ≡ some ls → Found at b ls
  unfolding option written6 located6
  option_is [] e = record { list = []; options = record { cut = refl; codes = Every.none; lengths = Every.none }; located = some-injective [] ls e }
  option_is (a ∷ []) e = absurd (none-ne-some ls e)
  option_is (a ∷ b ∷ []) e = absurd (none-ne-some ls e)
  option_is (a ∷ b ∷ c ∷ []) e = absurd (none-ne-some ls e)
  option_is (a ∷ b ∷ c ∷ d ∷ t) e = option_there a b c d t (is_option a b c d t) refl e

options_are : (n at : ℕ) (b : List ℕ) (ls : List Located) → options n at b ≡ some ls → Found at b ls
unfolding options
options_are zero at b ls e = absurd (none-ne-some ls e)
options_are (suc n) at b ls e = option_is (options n) (options_are n) at ls b e

pub found_options : (at : ℕ) (b : List ℕ) (ls : List Located) → options6 at b ≡ some ls → Found at b ls
unfolding options6
found_options at b ls e = options_are (suc (length b)) at b ls e
