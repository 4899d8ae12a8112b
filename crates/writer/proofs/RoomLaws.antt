-- Writing where there is room, and where there is none: specs/Line.antt's put_answer and put_bytes. Assumes nothing.
use Prim.Native.Nat.{ℕ, ◌+◌, ◌≤◌, ◌<◌}
use mathlib.Core.Path.{◌≡◌, refl}
use mathlib.Core.List.{List}
use lib.ListN.{length}
use borrow.Author.Tests.{le-leb, lt-leb}
use Rattle.base.specs.declared.Answer.TheVariants.{Accepted, Refused}
use Rattle.base.specs.Bytes.{overlay}
use Rattle.base.specs.Refusal.{output_short}
use Rattle.writer.specs.Line.{put_answer, put_bytes}

module _ (l : List ℕ) (at : ℕ) (to : List ℕ) where
  module _ (none : length to < at + length l) where
    pub no_room_answer : Refused output_short 0 ≡ put_answer l at to
    unfolding put_answer
    no_room_answer = rw (lt-leb (at + length l) (length to) none) refl

    pub no_room_bytes : to ≡ put_bytes l at to
    unfolding put_bytes
    no_room_bytes = rw (lt-leb (at + length l) (length to) none) refl

  module _ (fits : at + length l ≤ length to) where
    pub room_answer : Accepted (length l) ≡ put_answer l at to
    unfolding put_answer
    room_answer = rw (le-leb (at + length l) (length to) fits) refl

    pub room_bytes : overlay to at l ≡ put_bytes l at to
    unfolding put_bytes
    room_bytes = rw (le-leb (at + length l) (length to) fits) refl
