-- The filling of a row, place by place: what stands in it, and what is ahead. Assumes nothing.
use Prim.Native.Nat.{ℕ, ◌+◌, ◌≤◌, ◌<◌}
use mathlib.Core.Bool.{true, false, false≢true}
use mathlib.Core.Path.{◌≡◌, refl, sym, ap, subst, ◌∙◌}
use mathlib.Core.List.{List, [], ◌∷◌, ◌++◌, map, append_assoc, append-nil}
use native.Mathlib.Nat.{zero-add}
use native.Mathlib.Omega.{arith}
use lib.Dec.{ltb}
use lib.ListN.{length, drop, set, length-set, length-append}
use borrow.Author.Tests.{ltb-true, ltb-false}
use Rattle.grammar.specs.Listing.{ResourceRecord}
use Rattle.grammar.specs.Outcome.{Outcome, accepted, refused, Checked, Answered}
use Rattle.entry.specs.Held.{held}
use Rattle.entry.specs.declared.Record.{Record}
use Rattle.listing.specs.Reading.{limit, counted}
use Rattle.listing.specs.Giving.{end, Gives, whole}
use Rattle.row.specs.Demand3.{Demand3}
use Rattle.row.specs.Row.{placed, RowRead, beginning, Begins, Ahead, More, Takes, TakesNext}
use Rattle.row.specs.declared.Filling.{Filling}
use Rattle.row.specs.declared.Turn.{Turn}
use Rattle.row.proofs.DemandLaws.{demand3_met}

-- ---- the row

-- the next place of a row is filled
set_next : {A B : Type 0} (f : A → B) (xs : List A) (x : A) (ys : List B) → length xs < length ys
    → set (map f xs ++ drop (length xs) ys) (length xs) (f x) ≡ map f (xs ++ x ∷ []) ++ drop (length (xs ++ x ∷ [])) ys
set_next f xs x [] h = absurd (omega arith)
set_next f [] x (y ∷ ys) h = refl
set_next {B = B} f (z ∷ xs) x (y ∷ ys) h = ap {B = List B} (λ l. f z ∷ l) (set_next f xs x ys (omega arith))

-- records are ahead of the list that is answered: the row zs, which was lent as ys, has those that are done
pub record Going (t : List ℕ) (ys : List Record) (o : Outcome) (s : Filling) (zs : List Record) : Type 0 where
  pub done : List ResourceRecord
  pub next : ResourceRecord
  pub rest : List ResourceRecord
  pub ahead : Ahead t s next rest
  pub list : o ≡ accepted (done ++ next ∷ rest)
  pub counts : s.count ≡ length done
  pub room : length (done ++ next ∷ rest) ≤ length ys
  pub row : zs ≡ map held done ++ drop (length done) ys

-- the row that was lent as ys stands at zs where the filling is s
pub record Filled (t : List ℕ) (ys : List Record) (s : Filling) (zs : List Record) : Type 0 where
  pub long : length zs ≡ length ys
  pub outcome : Outcome
  pub judged : Answered limit (length ys) t outcome
  pub answered : s.answer ≡ counted outcome
  pub more : s.going ≡ true → Going t ys outcome s zs
  pub all : s.going ≡ false → zs ≡ placed outcome ys

pub filled_none : (t : List ℕ) (ys : List Record) (s : Filling) → Begins t (length ys) s → Filled t ys s ys
unfolding Begins
filled_none t ys s (o, judged, e) = subst (λ (z : Filling). Filled t ys z ys) (sym e) (go o judged)
  where
    go : (o : Outcome) → Answered limit (length ys) t o → Filled t ys (beginning o) ys
    go (accepted []) a = record { long = refl; outcome = accepted []; judged = a; answered = refl; more = λ k. absurd (false≢true k); all = λ k. refl }
    go (accepted (r ∷ rs)) (Answered.in_row (Checked.whole short spells) room) =
        record {
          long = refl;
          outcome = accepted (r ∷ rs);
          judged = Answered.in_row (Checked.whole short spells) room;
          answered = refl;
          more = λ k. record {
            done = [];
            next = r;
            rest = rs;
            ahead = record { gives = whole short spells; many = zero-add (length (r ∷ rs)) };
            list = refl;
            counts = refl;
            room = room;
            row = refl;
          };
          all = λ k. absurd (omega (arith, ltb-false 0 (length (r ∷ rs)) k));
        }
    go (refused n p) a = record { long = refl; outcome = refused n p; judged = a; answered = refl; more = λ k. absurd (false≢true k); all = λ k. refl }

-- one place more
module _ (t : List ℕ) (ys : List Record) (s : Filling) (zs : List Record) (h : Filled t ys s zs) (going : s.going ≡ true) where
  abbrev here : Going t ys h.outcome s zs
  here = h.more going

  pub is_more : More t s
  unfolding More
  is_more = (here.next, here.rest, here.ahead)

  pub in_row : s.count < length zs
  in_row = omega (arith, here.counts, here.room, length-append here.done (here.next ∷ here.rest), h.long)

  pub next_count : (d : Turn) → TakesNext t s d → d.after.count ≡ s.count + 1
  unfolding TakesNext
  next_count d takes = ap (λ (z : Filling). z.count) (takes here.next here.rest here.ahead).after

  pub filled_more : (d : Turn) → TakesNext t s d → Filled t ys d.after (set zs s.count d.«record»)
  unfolding TakesNext
  filled_more d takes =
      record {
        long = length-set zs s.count d.«record» ∙ h.long;
        outcome = h.outcome;
        judged = h.judged;
        answered = ap (λ (z : Filling). z.answer) k.after ∙ h.answered;
        more = λ q. go_on here.rest refl (sym (ap (λ (z : Filling). z.going) k.after) ∙ q);
        all = λ q. over here.rest refl (sym (ap (λ (z : Filling). z.going) k.after) ∙ q);
      }
    where
      k : Takes t s here.next here.rest d
      k = takes here.next here.rest here.ahead

      done : List ResourceRecord
      done = here.done ++ here.next ∷ []

      joined : (rest : List ResourceRecord) → here.rest ≡ rest → here.done ++ here.next ∷ here.rest ≡ done ++ rest
      joined rest q = ap (λ (l : List ResourceRecord). here.done ++ here.next ∷ l) q ∙ sym (append_assoc here.done (here.next ∷ []) rest)

      row_is : set zs s.count d.«record» ≡ map held done ++ drop (length done) ys
      row_is =
          ap (λ (l : List Record). set l s.count d.«record») here.row ∙ ap (λ (n : ℕ). set (map held here.done ++ drop (length here.done) ys) n d.«record») here.counts
          ∙ ap (λ (p : Record). set (map held here.done ++ drop (length here.done) ys) (length here.done) p) k.taken
          ∙ set_next held here.done here.next ys (omega (arith, here.counts, in_row, h.long))

      count_is : d.after.count ≡ s.count + 1
      count_is = ap (λ (z : Filling). z.count) k.after

      total_is : d.after.total ≡ s.total
      total_is = ap (λ (z : Filling). z.total) k.after

      over : (rest : List ResourceRecord) → here.rest ≡ rest → ltb (s.count + 1) s.total ≡ false → set zs s.count d.«record» ≡ placed h.outcome ys
      over [] q e = row_is ∙ ap (λ (o : Outcome). placed o ys) (sym (here.list ∙ ap accepted (joined [] q ∙ append-nil done)))
      over (r ∷ rs) q e = absurd (omega (arith, ltb-false (s.count + 1) s.total e, here.ahead.many, ap length q))

      go_on : (rest : List ResourceRecord) → here.rest ≡ rest → ltb (s.count + 1) s.total ≡ true → Going t ys h.outcome d.after (set zs s.count d.«record»)
      go_on [] q e = absurd (omega (arith, ltb-true (s.count + 1) s.total e, here.ahead.many, ap length q))
      go_on (r ∷ rs) q e =
          record {
            done = done;
            next = r;
            rest = rs;
            ahead = record {
              gives = subst (λ (l : List ResourceRecord). Gives t d.after.at l end) q k.gives;
              many = omega (arith, count_is, total_is, here.ahead.many, ap length q);
            };
            list = here.list ∙ ap accepted (joined (r ∷ rs) q);
            counts = omega (arith, count_is, here.counts, length-append here.done (here.next ∷ []));
            room = omega (arith, here.room, ap length (joined (r ∷ rs) q));
            row = row_is;
          }

-- every place that is to be filled is
pub filled_all : (t : List ℕ) (ys : List Record) (s : Filling) (zs : List Record) → Filled t ys s zs → s.going ≡ false → RowRead t ys zs s.answer
filled_all t ys s zs h still =
    record {
      demand3 = subst (λ (l : List Record). Demand3 limit t ys l s.answer) (sym (h.all still)) (subst (Demand3 limit t ys (placed h.outcome ys)) (sym h.answered) (demand3_met t ys h.outcome h.judged));
      outcome = h.outcome;
      judged = h.judged;
      answered = h.answered;
      row = h.all still;
    }
