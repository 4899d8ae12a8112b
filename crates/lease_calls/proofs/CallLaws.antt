-- What a call on both sides answers and leaves, by its tests. Assumes nothing.
use Prim.Native.Nat.{ℕ}
use mathlib.Core.Path.{◌≡◌, refl}
use mathlib.Core.Logic.{inl, inr}
use mathlib.Core.List.{List}
use Rattle.base.specs.Order.{Test, AllHold, FirstFault}
use Rattle.base.specs.declared.Answer.{Answer}
use Rattle.base.specs.declared.Answer.TheVariants.{Refused}
use Rattle.slots.specs.Form.{Sound}
use Rattle.reverse.specs.Form.{SoundReverse}
use Rattle.leases.specs.Plan.{Sides, Plan}
use Rattle.leases.specs.Calls.{CalledOn}
use Rattle.lease_calls.specs.Promise.{CarriedOut}

module _ (limit places : ℕ) (ts : List Test) (b c : List ℕ) (plan : Sides → Plan) (r : Answer) where
  pub faulty_call : (n : ℕ) → FirstFault ts n → r ≡ Refused n 0 → CalledOn limit places ts b c plan r b c
  faulty_call n f a = inl (record { number = n; fault = f; answer = a; table = refl; reverse = refl })

  pub planned_call : (b' c' : List ℕ) → AllHold ts → (s : Sound limit b) (u : SoundReverse places c) → CarriedOut limit places plan s.table u.names r b' c' → CalledOn limit places ts b c plan r b' c'
  planned_call b' c' h s u o = inr (record { all_hold = h; sound = s; sound_reverse = u; answer = o.answer; table = o.table; reverse = o.reverse })
