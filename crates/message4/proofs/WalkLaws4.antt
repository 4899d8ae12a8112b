-- The walk over the options of a DHCPv4 message: what was passed, and what is then still to come. Assumes nothing.
use Prim.Native.Nat.{ℕ, suc, ◌+◌, ◌-◌, ◌≤◌, ◌<◌}
use mathlib.Core.Path.{◌≡◌, refl, sym, ap, ap₂, ◌∙◌}
use mathlib.Core.List.{List, [], ◌∷◌, ◌++◌, append_assoc, append-nil}
use mathlib.Core.Option.{Option, none, some}
use native.Mathlib.Numerals.{add-one}
use native.Mathlib.Omega.{arith}
use lib.ListN.{length, get_or, take, drop, length-drop, drop_of_length-le}
use lib.Seq.{drop-cons, drop-drop, length-take-le}
use Rattle.base.specs.Logic.{Every}
use Rattle.base.specs.Refusal.{options_malformed}
use Rattle.base.proofs.Lists.{every_append, every_at}
use Rattle.message.specs.Options.{Located}
use Rattle.message.specs.Request.{refused_request}
use Rattle.message4.specs.Options4.{Field4, pad, option, located4}
use Rattle.message4.specs.Reading4.{before, fields_after, fields4, placed, options4, by_options, after_header4}
use Rattle.message4.specs.Judging4.{wanted_of, noted, WantedInside, DataIn, judged_by}
use Rattle.message4.specs.declared.Wanted.{Wanted}
use Rattle.message4.proofs.Laws4.{field_pad, field_end, field_option, fields_skip}
use Rattle.message4.proofs.JudgeLaws4.{noted_next, wanted_inside, judged_by_lem}

-- ---- what the first field of an options field comes to, at the offset at

-- with an option before
abbrev pub and_then : Located → Option (List Located) → Option (List Located)
and_then l none = none
and_then l (some ls) = some (l ∷ ls)

placed_pad : (at : ℕ) (r : Option (List Field4)) → placed at (before pad r) ≡ placed (at + 1) r
unfolding located4
placed_pad at none = refl
placed_pad at (some fs) = refl

placed_option : (at c : ℕ) (d : List ℕ) (r : Option (List Field4))
    → placed at (before (option c d) r) ≡ and_then (record { code = c; start = at + 2; bytes = d }) (placed (at + 2 + length d) r)
unfolding located4
placed_option at c d none = refl
placed_option at c d (some fs) = refl

-- nothing is found after the last byte
fields_over : (b : List ℕ) (k : ℕ) → length b ≤ k → fields_after b k ≡ none
unfolding fields_after
fields_over b k h = fields_skip b k ∙ ap (λ (x : List ℕ). fields_after x 0) (drop_of_length-le b h)

module _ (at : ℕ) where
  options_none : options4 at [] ≡ none
  unfolding options4 fields4 fields_after
  options_none = refl

  options_pad : (b : List ℕ) → options4 at (0 ∷ b) ≡ options4 (at + 1) b
  unfolding options4 fields4 fields_after
  options_pad b = ap (placed at) (field_pad b (fields_after b)) ∙ placed_pad at (fields_after b 0)

  options_end : (b : List ℕ) → options4 at (255 ∷ b) ≡ some []
  unfolding options4 fields4 fields_after located4
  options_end b = ap (placed at) (field_end b (fields_after b))

  module _ (c : ℕ) (low : 1 ≤ c) (high : c ≤ 254) where
    options_cut : options4 at (c ∷ []) ≡ none
    unfolding options4 fields4 fields_after
    options_cut = ap (placed at) (field_option [] (fields_after []) c low high)

    module _ (n : ℕ) (b : List ℕ) where
      options_past : length b < n → options4 at (c ∷ n ∷ b) ≡ none
      unfolding options4 fields4 fields_after
      options_past h =
          ap (placed at) (field_option (n ∷ b) (fields_after (n ∷ b)) c low high ∙ ap (before (option c (take n b))) (fields_over b n (omega arith)))

      options_more : n ≤ length b → options4 at (c ∷ n ∷ b) ≡ and_then (record { code = c; start = at + 2; bytes = take n b }) (options4 (at + 2 + n) (drop n b))
      unfolding options4 fields4 fields_after
      options_more h =
          ap (placed at) (field_option (n ∷ b) (fields_after (n ∷ b)) c low high) ∙ placed_option at c (take n b) (fields_after b n)
          ∙ ap₂ (λ (k : ℕ) (r : Option (List Field4)). and_then (record { code = c; start = at + 2; bytes = take n b }) (placed (at + 2 + k) r))
          (length-take-le n b h) (fields_skip b n)

-- ---- what was passed

-- with options before
abbrev pub prepended : List Located → Option (List Located) → Option (List Located)
prepended done none = none
prepended done (some ls) = some (done ++ ls)

prepended_none : (r : Option (List Located)) → prepended [] r ≡ r
prepended_none none = refl
prepended_none (some ls) = refl

prepended_on : (done : List Located) (l : Located) (r : Option (List Located)) → prepended done (and_then l r) ≡ prepended (done ++ l ∷ []) r
prepended_on done l none = refl
prepended_on done l (some ls) = ap some (sym (append_assoc done (l ∷ []) ls))

-- up to the offset i of the message m, whose options start at 240, the options done stand, and w is what is kept of them
pub record Passed (m : List ℕ) (i : ℕ) (w : Wanted) : Type 0 where
  pub fits : i ≤ length m
  pub done : List Located
  pub kept : w ≡ wanted_of done
  pub inside : Every (DataIn m) done
  pub so_far : options4 240 (drop 240 m) ≡ prepended done (options4 i (drop i m))

pub passed_none : (m : List ℕ) (w : Wanted) → 240 ≤ length m → w ≡ wanted_of [] → Passed m 240 w
passed_none m w h e = record { fits = h; done = []; kept = e; inside = Every.none; so_far = sym (prepended_none (options4 240 (drop 240 m))) }

module _ (m : List ℕ) (i : ℕ) (w : Wanted) (p : Passed m i w) where
  -- what is found here decides
  found_here : (r : Option (List Located)) → options4 i (drop i m) ≡ r → after_header4 m ≡ by_options m (prepended p.done r)
  unfolding after_header4
  found_here r e = ap (by_options m) (p.so_far ∙ ap (prepended p.done) e)

  pub passed_inside : WantedInside m w
  passed_inside = rw p.kept (wanted_inside m p.done p.inside)

  -- no End up to the message's end
  pub no_end : length m ≤ i → refused_request options_malformed ≡ after_header4 m
  no_end h = sym (found_here none (ap (options4 i) (drop_of_length-le m h) ∙ options_none i))

  module _ (within : i < length m) where
    pub passed_pad : get_or m i 0 ≡ 0 → Passed m (i + 1) w
    passed_pad e =
        record {
          fits = omega arith;
          done = p.done;
          kept = p.kept;
          inside = p.inside;
          so_far =
              p.so_far
              ∙ ap (prepended p.done)
              (ap (options4 i) (drop-cons m i 0 within ∙ ap (λ (c : ℕ). c ∷ drop (suc i) m) e) ∙ options_pad i (drop (suc i) m)
              ∙ ap (λ (k : ℕ). options4 (i + 1) (drop k m)) (sym (add-one i)));
        }

    pub passed_end : get_or m i 0 ≡ 255 → judged_by m w ≡ after_header4 m
    passed_end e =
        rw p.kept
        (judged_by_lem m p.done p.inside
        ∙ sym
        (found_here (some []) (ap (options4 i) (drop-cons m i 0 within ∙ ap (λ (c : ℕ). c ∷ drop (suc i) m) e) ∙ options_end i (drop (suc i) m))
        ∙ ap (λ (ls : List Located). by_options m (some ls)) (append-nil p.done)))

    module _ (low : 1 ≤ get_or m i 0) (high : get_or m i 0 ≤ 254) where
      -- the message ends after the code
      pub no_length : length m ≤ i + 1 → refused_request options_malformed ≡ after_header4 m
      no_length h =
          sym
          (found_here none
          (ap (options4 i) (drop-cons m i 0 within ∙ ap (λ (l : List ℕ). get_or m i 0 ∷ l) (drop_of_length-le m {i = suc i} (omega arith)))
          ∙ options_cut i (get_or m i 0) low high))

      module _ (n : ℕ) (two : i + 1 < length m) (is : n ≡ get_or m (i + 1) 0) where
        here : drop i m ≡ get_or m i 0 ∷ n ∷ drop (i + 2) m
        here =
            let next : suc (i + 1) ≡ i + 2 = omega arith in
            drop-cons m i 0 within
            ∙ ap (λ (l : List ℕ). get_or m i 0 ∷ l)
            (ap (λ (k : ℕ). drop k m) (sym (add-one i)) ∙ drop-cons m (i + 1) 0 two ∙ ap₂ (λ (x k : ℕ). x ∷ drop k m) (sym is) next)

        long : length (drop (i + 2) m) ≡ length m - (i + 2)
        long = length-drop (i + 2) m

        pub past_end : length m < i + 2 + n → refused_request options_malformed ≡ after_header4 m
        past_end h =
            sym (found_here none (ap (options4 i) here ∙ options_past i (get_or m i 0) low high n (drop (i + 2) m) (omega (arith, long))))

        pub passed_option : i + 2 + n ≤ length m → (w' : Wanted) → w' ≡ noted w (get_or m i 0) (record { start = i + 2; len = n }) → Passed m (i + 2 + n) w'
        passed_option h w' e =
            let l : Located = record { code = get_or m i 0; start = i + 2; bytes = take n (drop (i + 2) m) } in
            let size : length (take n (drop (i + 2) m)) ≡ n = length-take-le n (drop (i + 2) m) (omega (arith, long)) in
            record {
              fits = h;
              done = p.done ++ l ∷ [];
              kept =
                  e
                  ∙ ap₂ (λ (x : Wanted) (k : ℕ). noted x (get_or m i 0) (record { start = i + 2; len = k })) p.kept (sym size)
                  ∙ noted_next p.done l;
              inside =
                  every_append p.done (l ∷ []) p.inside
                  (Every.more
                  (record {
                    fits = omega (arith, size);
                    «data» = ap (λ (k : ℕ). take k (drop (i + 2) m)) (sym size);
                    short = λ bytes. omega (arith, size, is, every_at m bytes (i + 1) two);
                  })
                  Every.none);
              so_far =
                  p.so_far
                  ∙ ap (prepended p.done)
                  (ap (options4 i) here ∙ options_more i (get_or m i 0) low high n (drop (i + 2) m) (omega (arith, long))
                  ∙ ap (λ (b : List ℕ). and_then l (options4 (i + 2 + n) b)) (drop-drop n (i + 2) m))
                  ∙ prepended_on p.done l (options4 (i + 2 + n) (drop (i + 2 + n) m));
            }
