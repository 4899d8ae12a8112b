-- A lease and an ended lease as plans: an answer, and the writes that are made one after the other. Document 02, K7 (docs/RULES.md, 12.3 and 12.4): a lease writes
-- forward first, then reverse; an ended lease goes the other way round; a refused forward step is followed by no reverse step, and an ended lease that remove
-- would refuse changes neither side. The arguments are sound here: the name is canonical, and nothing is tested but 46. Add and remove are the table's own.
use Rattle.std.specs.Prelude.{ℕ, zero, suc, cond, List, [], ◌∷◌}
use Rattle.base.specs.Bytes.{eq_bytes}
use Rattle.base.specs.Refusal.{reverse_full}
use Rattle.base.specs.declared.Answer.{Answer}
use Rattle.base.specs.declared.Answer.TheVariants.{Accepted, Refused}
use Rattle.slots.specs.Form.{TableEntry}
use Rattle.slots.specs.declared.Family.{Family}
use Rattle.table.specs.Steps.{StepOutcome, add, remove}
use Rattle.reverse.specs.Entry.{ReverseEntry, has_place, placed, taken}

-- ---- a state, and what is written to it

-- both sides: the table, and the names behind the addresses
pub record Sides : Type 0 where
  pub table : List TableEntry
  pub names : List ReverseEntry

-- one step: the table is now this one, or the reverse side is
pub data Write : Type 0 where
  forward : List TableEntry → Write
  reverse : List ReverseEntry → Write

abbrev pub written : Write → Sides → Sides
written (Write.forward t) s = record { table = t; names = s.names }
written (Write.reverse rs) s = record { table = s.table; names = rs }

-- what a call answers, and its writes in order
pub record Plan : Type 0 where
  pub answer : Answer
  pub writes : List Write

-- ---- how far it got

unfoldable pub written_first : ℕ → List Write → Sides → Sides
written_first zero ws s = s
written_first (suc k) [] s = s
written_first (suc k) (w ∷ ws) s = written_first k ws (written w s)

unfoldable pub written_all : List Write → Sides → Sides
written_all [] s = s
written_all (w ∷ ws) s = written_all ws (written w s)

-- the state once the first k writes are done: what a power cut there leaves
abbrev pub after : ℕ → Plan → Sides → Sides
after k p s = written_first k p.writes s

-- the state once all of them are: that of an uncut run
abbrev pub uncut : Plan → Sides → Sides
uncut p s = written_all p.writes s

-- ---- the two calls

-- refused: nothing is written
abbrev pub refused_plan : ℕ → Plan
refused_plan m = record { answer = Refused m 0; writes = [] }

-- the writes of a call whose forward step is accepted; none where it is refused
abbrev pub if_accepted : Answer → List Write → List Write
if_accepted (Accepted v) ws = ws
if_accepted (Refused m p) ws = []

-- forward, then reverse; both answer as the forward step does
abbrev pub lease_by : StepOutcome (List ℕ) → List ReverseEntry → Plan
lease_by o rs = record { answer = o.answer; writes = if_accepted o.answer (Write.forward o.table ∷ Write.reverse rs ∷ []) }

-- reverse, then forward
abbrev pub end_by : StepOutcome (List ℕ) → List ReverseEntry → Plan
end_by o rs = record { answer = o.answer; writes = if_accepted o.answer (Write.reverse rs ∷ Write.forward o.table ∷ []) }

-- A lease of the name n for the client d, with the address x of the family f: 46 before add's own refusals. Both limits are parameters
unfoldable pub lease_plan : ℕ → ℕ → List ℕ → List ℕ → Family → List ℕ → ℕ → Sides → Plan
lease_plan limit places n d f x policy s =
    cond (has_place places f x s.names) (lease_by (add limit eq_bytes s.table n d f x policy) (placed f x n s.names)) (refused_plan reverse_full)

-- An ended lease: the reverse name goes if it is this client's name, and a missing one is no refusal
unfoldable pub end_plan : List ℕ → List ℕ → Family → List ℕ → Sides → Plan
end_plan n d f x s = end_by (remove eq_bytes s.table n d f x) (taken f x n s.names)
