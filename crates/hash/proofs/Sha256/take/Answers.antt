use Rattle.std.proofs.Common.{◌≡◌, ℕ, ◌-◌, ◌*◌, ◌/◌, ◌%◌, List, ◌++◌, length, take, drop, ap, ◌∙◌, arith, length-drop, take-append-drop, length-take, take_all, rules}
use Rattle.hash.specs.State.{blocks, remainder}
use Rattle.hash.proofs.StateLaws.{takes_short, takes_full}
use Rattle.hash.proofs.Sha256.take.Goals as goal

pub put-requires : goal.put-requires
put-requires c = let e : length c.args.self.block ≡ 64 = search rules in omega arith

pub returns-then-bytes-room : goal.returns-then-bytes-room
returns-then-bytes-room c = takes_short _ (search rules) _ _ _ c.put.ensures c.wrapping_add_u64-total.ensures.value (omega arith)

pub slice_bounds-put-end-3 : goal.slice_bounds-put-end-3
slice_bounds-put-end-3 c = simp length-take (omega arith)

pub put-requires-2 : goal.put-requires-2
put-requires-2 c = let e : length c.args.self.block ≡ 64 = search rules in simp length-take (omega arith)

pub returns : goal.returns
unfolding blocks remainder
returns c =
    let a = c.args in
    let x : List ℕ = a.bytes.now in
    let room : ℕ = 64 - a.self.len % 64 in
    let y : List ℕ = take room x in
    let z : List ℕ = take (length x - room) (drop room x) in
    let done : ℕ = length z / 64 * 64 in
    let p : List ℕ = take (length z - done) (drop done z) in
    takes_full a.self (search rules) x y z p _ _ _ _ _
    c.put-2.ensures c.compress.ensures c.absorb-hashed.ensures c.put-3.ensures c.wrapping_add_u64-total.ensures.value
    (ap (λ (l : List ℕ). y ++ l) (take_all (length x - room) (drop room x) (simp length-drop (omega arith))) ∙ take-append-drop room x)
    (take_all (length z - done) (drop done z) (simp length-drop (omega arith)))
    (simp length-take (omega arith))
