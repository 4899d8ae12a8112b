-- The longest run at an index of a text, by its length. Assumes nothing.
use Prim.Native.Nat.{ℕ, min, ◌+◌, ◌-◌, ◌≤◌, ◌<◌}
use mathlib.Core.Bool.{Bool, true, false, cond}
use mathlib.Core.Path.{◌≡◌, refl, sym, ap, subst, ◌∙◌}
use mathlib.Core.List.{List, [], ◌∷◌, ◌++◌}
use native.Mathlib.Numerals.{one-add}
use native.Mathlib.Omega.{arith}
use lib.Dec.{eqb}
use lib.ListN.{length, take, drop, get_or, length-append, length-drop}
use lib.Seq.{drop-drop, drop_at, get_or-take, length-take-le}
use borrow.Author.Tests.{eq-eqb, ne_eqb}
use Rattle.std.specs.Prelude.{Option, Some, None}
use Rattle.std.specs.List.{prefix_len, AllWithin, HoldsAt}
use Rattle.std.specs.Option.{MatchOption}
use Rattle.std.proofs.lemmas.List.Sums.{prefix_len-le-length, prefix_len_is}
use Rattle.std.proofs.lemmas.List.Folds.{prefix_len-append}
use Rattle.base.specs.Logic.{Every}
use Rattle.base.proofs.Lists.{every_at}
use Rattle.base.proofs.Tests.{by_ltb}
use Rattle.grammar.specs.Listing.{LongestRun}
use Rattle.words.specs.NextIs.{PassTo, RunTo}

module _ (p : ℕ → Bool) where
  head_run : (t : List ℕ) → LongestRun p t (take (prefix_len p t) t) (drop (prefix_len p t) t)
  head_run [] = record { cut = refl; each = Every.none; longest = refl }
  head_run (b ∷ t) = go (p b) refl (head_run t)
    where
      go : (c : Bool) → p b ≡ c → LongestRun p t (take (prefix_len p t) t) (drop (prefix_len p t) t)
          → LongestRun p (b ∷ t) (take (cond c (1 + prefix_len p t) 0) (b ∷ t)) (drop (cond c (1 + prefix_len p t) 0) (b ∷ t))
      go true e r = rw one-add (record { cut = ap (λ (l : List ℕ). b ∷ l) r.cut; each = Every.more e r.each; longest = r.longest })
      go false e r = record { cut = refl; each = Every.none; longest = e }

  pub run_to : (t : List ℕ) (at end : ℕ) → at ≤ length t → at + prefix_len p (drop at t) ≡ end → RunTo p t at end
  run_to t at end h e =
      let n : ℕ = prefix_len p (drop at t) in
      let size : n ≡ end - at = omega arith in
      let rest : drop n (drop at t) ≡ drop end t = drop-drop n at t ∙ ap (λ (k : ℕ). drop k t) e in
      record {
        from = omega arith;
        within = omega (arith, prefix_len-le-length p (drop at t), length-drop at t);
        run =
            subst (λ (r : List ℕ). LongestRun p (drop at t) (take (end - at) (drop at t)) r) rest
            (subst (λ (k : ℕ). LongestRun p (drop at t) (take k (drop at t)) (drop n (drop at t))) size (head_run (drop at t)));
      }

  -- ---- what `position` of a byte that does not pass finds

  abbrev pub FirstStop : List ℕ → Option ℕ → Type 0
  FirstStop t r = MatchOption r (AllWithin (λ b. p b ≡ true) t 0 (length t)) (λ i. (i < length t) × HoldsAt (λ b. p b ≡ false) t i × AllWithin (λ b. p b ≡ true) t 0 i)

  pub run_stops : (t : List ℕ) (i : ℕ) → FirstStop t (Some i) → prefix_len p t ≡ i
  run_stops t i h = prefix_len_is p t i 0 (omega arith) (λ k lt. h.2 k 0 (omega arith) lt) (λ _. h.1 0)

  pub run_ends : (t : List ℕ) → FirstStop t None → prefix_len p t ≡ length t
  run_ends t h = prefix_len_is p t (length t) 0 (omega arith) (λ k lt. h k 0 (omega arith) lt) (λ lt. absurd (omega arith))

  -- ---- the first byte of a chunk that does not pass, as the least of their indices

  module _ (c : List ℕ) where
    -- of the first i bytes of n, first is the index of the first that does not pass, or n
    pub record Led (n first i : ℕ) : Type 0 where
      pub top : first ≤ n
      pub passing : (k : ℕ) → k < i → k < first → p (get_or c k 0) ≡ true
      pub stops : first < n → (first < i) × (p (get_or c first 0) ≡ false)

    pub led_none : (n : ℕ) → Led n n 0
    led_none n = record { top = omega arith; passing = λ k none. absurd (omega arith); stops = λ lt. absurd (omega arith) }

    pub led_more : (n first i : ℕ) → Led n first i → i < n → (stop least : ℕ) → stop ≡ cond (p (get_or c i 0)) n i → least ≡ min first stop → Led n least (i + 1)
    led_more n first i h lt stop least es el = go (p (get_or c i 0)) refl es
      where
        here : (k : ℕ) → k < i + 1 → k < first → p (get_or c i 0) ≡ true → p (get_or c k 0) ≡ true
        here k among below e =
            by_ltb k i (λ before. h.passing k before below)
            (λ beyond. let last : i ≡ k = omega arith in subst (λ (j : ℕ). p (get_or c j 0) ≡ true) last e)

        go : (b : Bool) → p (get_or c i 0) ≡ b → stop ≡ cond b n i → Led n least (i + 1)
        go true e s =
            let is : first ≡ least = omega (arith, h.top) in
            record {
              top = omega (arith, h.top);
              passing = λ k among below. here k among (omega arith) e;
              stops = λ short. subst (λ (f : ℕ). (f < i + 1) × (p (get_or c f 0) ≡ false)) is (let o = h.stops (omega arith) in (omega (arith, o.0), o.1));
            }
        go false e s =
            record {
              top = omega arith;
              passing = λ k among below. h.passing k (omega arith) (omega arith);
              stops = λ short.
                  by_ltb i first
                  (λ before. let is : i ≡ least = omega arith in (omega arith, subst (λ (f : ℕ). p (get_or c f 0) ≡ false) is e))
                  (λ beyond.
                  let is : first ≡ least = omega arith in
                  subst (λ (f : ℕ). (f < i + 1) × (p (get_or c f 0) ≡ false)) is (let o = h.stops (omega arith) in (omega (arith, o.0), o.1)));
            }

    pub led_all : (n first i : ℕ) → length c ≡ n → n ≤ i → Led n first i → (first ≤ n) × PassTo p c 0 first × (first < n → p (get_or c first 0) ≡ false)
    led_all n first i long over h =
        let size : first - 0 ≡ first = omega arith in
        let run : prefix_len p c ≡ first - 0 =
        prefix_len_is p c first 0 (omega (arith, h.top)) (λ k lt. h.passing k (omega (arith, h.top)) lt) (λ lt. (h.stops (omega arith)).1) ∙ sym size in (
          h.top,
          record { from = omega arith; within = omega (arith, h.top); each = subst (λ (k : ℕ). Every (λ b. p b ≡ true) (take k c)) run (head_run c).each },
          λ lt. (h.stops lt).1,
        )

    -- and so it is known how long the run is
    lead_is : (lead : ℕ) → PassTo p c 0 lead → (lead < length c → p (get_or c lead 0) ≡ false) → prefix_len p c ≡ lead
    lead_is lead h stops =
        let size : lead - 0 ≡ lead = omega arith in
        let each : Every (λ b. p b ≡ true) (take lead c) = subst (λ (k : ℕ). Every (λ b. p b ≡ true) (take k c)) size h.each in
        prefix_len_is p c lead 0 h.within (λ k lt. rw get_or-take at (every_at (take lead c) each k (omega (arith, length-take-le lead c h.within)))) stops

  -- ---- the chunk c comes at the index at of a text

  module _ (t : List ℕ) (at : ℕ) (c rest : List ℕ) (next : drop at t ≡ c ++ rest) (lead : ℕ) (h : PassTo p c 0 lead) where
    run_over_chunk : {b : Bool} → prefix_len p c ≡ lead → eqb (prefix_len p c) (length c) ≡ b → prefix_len p (drop at t) ≡ cond b (length c + prefix_len p rest) lead
    run_over_chunk run e = ap (prefix_len p) next ∙ prefix_len-append p c rest ∙ (λ i. cond (e i) (length c + prefix_len p rest) (run i))

    pub run_in_chunk : lead < length c → p (get_or c lead 0) ≡ false → prefix_len p (drop at t) ≡ lead
    run_in_chunk lt stops = let run = lead_is c lead h (λ _. stops) in run_over_chunk run (ne_eqb (prefix_len p c) (length c) (λ e. omega arith))

    module _ (long : length c ≡ lead) where
      pub after_chunk : drop (at + lead) t ≡ rest
      after_chunk = sym (drop-drop lead at t) ∙ ap (drop lead) next ∙ drop_at c rest lead long

      pub chunk_within : at ≤ length t → at + lead ≤ length t
      chunk_within within = omega (arith, ap length next, length-drop at t, length-append c rest)

      pub run_past_chunk : prefix_len p (drop at t) ≡ lead + prefix_len p (drop (at + lead) t)
      run_past_chunk =
          let run = lead_is c lead h (λ lt. absurd (omega arith)) in
          run_over_chunk run (eq-eqb (prefix_len p c) (length c) (omega arith))
          ∙ (λ i. long i + prefix_len p (sym after_chunk i))
