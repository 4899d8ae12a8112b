use Prim.Native.Nat.{ℕ}
use mathlib.Core.Path.{◌≡◌, sym, ap, ◌∙◌}
use mathlib.Core.List.{List}
use lib.ListN.{length}
use native.Mathlib.Omega.{arith}
use borrow.Author.Rules.{rules}
use Rattle.name.specs.Name.{canonical}
use Rattle.slots.specs.Entry.{position}
use Rattle.slots.specs.Form.{TableEntry, IsSlot, IsTable}
use Rattle.slots.specs.Promise.{OfTable}
use Rattle.slots.specs.Sizes.{most_names}
use Rattle.table.proofs.LookLaws.{not_standing}
use Rattle.book.specs.Blocks.{block_bytes}
use Rattle.book_block.proofs.WriteLaws.{Found, found_at, note_stands, note_gone}
use Rattle.book_block.proofs.put_name.Goals as goal

pub returns-then-i-count : goal.returns-then-i-count
returns-then-i-count c = λ t h.
    let n = canonical c.args.name.now in
    let none_there = not_standing n t (sym (c.find-i.ensures t h) ∙ c.if-i-count.true ∙ c.count.ensures t h) in
    c.put_gone.ensures ∙ ap (block_bytes c.args.number) (sym (note_gone n t none_there))

-- the entry that stands, where the index is not the number of names
there : {n b : List ℕ} {i m : ℕ} → OfTable most_names b (λ t. i ≡ position n t) → OfTable most_names b (λ t. m ≡ length t) → (i ≡ m → ⊥)
    → (t : List TableEntry) → IsTable most_names t b → Found n t b i
there find count other t h = found_at most_names _ t _ h _ (find t h) (λ last. other (last ∙ sym (count t h)))

pub overflow_mul-at : goal.overflow_mul-at
overflow_mul-at c = let s = c.requires.1 in omega (arith, (there c.find-i.ensures c.count.ensures c.if-i-count.false s.table s.slots).within)

pub overflow_add-at : goal.overflow_add-at
overflow_add-at c = let s = c.requires.1 in omega (arith, (there c.find-i.ensures c.count.ensures c.if-i-count.false s.table s.slots).within)

pub slice_bounds-put_stands-end : goal.slice_bounds-put_stands-end
slice_bounds-put_stands-end c = let s = c.requires.1 in omega (arith, (there c.find-i.ensures c.count.ensures c.if-i-count.false s.table s.slots).within)

pub put_stands-requires : goal.put_stands-requires
unfolding IsSlot
put_stands-requires c =
    let s = c.requires.1 in
    let x = there c.find-i.ensures c.count.ensures c.if-i-count.false s.table s.slots in
    (c.requires.0, (x.entry, x.fit, x.slot))

pub returns : goal.returns
returns c = λ t h.
    let x = there c.find-i.ensures c.count.ensures c.if-i-count.false t h in
    c.put_stands.ensures x.entry x.fit x.slot ∙ ap (block_bytes c.args.number) (sym (note_stands (canonical c.args.name.now) t x.entry x.found))
