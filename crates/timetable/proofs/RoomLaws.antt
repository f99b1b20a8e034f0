-- Where there is room, the record fits into it, and stands there when two numbers and a part are put.
use mathlib.Core.Path.{◌≡◌, refl, sym, ap, ◌∙◌}
use mathlib.Core.Bool.{Bool, true, false, true≢false, ◌&&◌}
use mathlib.Core.List.{List, [], ◌∷◌, ◌++◌, append_assoc}
use Prim.Native.Nat.{ℕ, ◌+◌, ◌-◌, ◌≤◌, ◌<◌, ◌/◌, ◌%◌}
use native.Mathlib.Omega.{arith}
use lib.Dec.{leb}
use lib.ListN.{length, take, drop, set, length-set}
use lib.Seq.{drop-set-lt}
use borrow.Author.Tests.{leb-true}
use borrow.Rule.Slice.PartMut.{put_mid}
use Rattle.std.proofs.lemmas.List.{take_more_set, drop-drop}
use Rattle.buffer.specs.Bytes.{two_bytes}
use Rattle.codec.specs.Shapes.{framed}
use Rattle.timetable.specs.Append.{has_room, put_behind}

first : (a b : Bool) → (a && b) ≡ true → a ≡ true
first true b e = refl
first false b e = e

second : (a b : Bool) → (a && b) ≡ true → b ≡ true
second true b e = e
second false b e = absurd (true≢false (sym e))

pub room_small : (room n size : ℕ) → has_room room n size ≡ true → size ≤ 65535
unfolding has_room
room_small room n size e = leb-true size 65535 (first (leb size 65535) _ e)

pub room_for_all : (room n size : ℕ) → has_room room n size ≡ true → n + 2 + size ≤ room
unfolding has_room
room_for_all room n size e =
    let both = second (leb size 65535) (leb n room && leb (2 + size) (room - n)) e in
    let before = leb-true n room (first (leb n room) _ both) in
    let behind = leb-true (2 + size) (room - n) (second (leb n room) _ both) in
    omega (arith, before, behind)

-- ---- two numbers and a part

module _ (xs : List ℕ) (n : ℕ) where
  pub second-in : (v end : ℕ) → n + 2 + end ≤ length xs → n + 1 < length (set xs n v)
  second-in v end room = omega (arith, room, length-set xs n v)

  pub part-in : (v w end : ℕ) → end ≤ length xs → end ≤ length (set (set xs n v) (n + 1) w)
  part-in v w end room = omega (arith, room, length-set xs n v, length-set (set xs n v) (n + 1) w)

  front : (v w : ℕ) → n + 2 ≤ length xs → take (n + 2) (set (set xs n v) (n + 1) w) ≡ (take n xs ++ v ∷ []) ++ w ∷ []
  front v w room =
      let two : n + 2 ≡ n + 1 + 1 = omega arith in
      ap (λ (k : ℕ). take k (set (set xs n v) (n + 1) w)) two
      ∙ take_more_set (set xs n v) (n + 1) w (omega (arith, room, length-set xs n v))
      ∙ ap (λ (zs : List ℕ). zs ++ w ∷ []) (take_more_set xs n v (omega (arith, room)))

  behind : (v w size : ℕ) → drop (n + 2 + size - (n + 2)) (drop (n + 2) (set (set xs n v) (n + 1) w)) ≡ drop (n + (2 + size)) xs
  behind v w size =
      let all : n + 2 + (n + 2 + size - (n + 2)) ≡ n + (2 + size) = omega arith in
      drop-drop (n + 2 + size - (n + 2)) (n + 2) (set (set xs n v) (n + 1) w)
      ∙ ap (λ (k : ℕ). drop k (set (set xs n v) (n + 1) w)) all
      ∙ drop-set-lt (n + (2 + size)) (set xs n v) (n + 1) w (omega arith) ∙ drop-set-lt (n + (2 + size)) xs n v (omega arith)

  pub filled : (b : List ℕ) {ys : List ℕ} → n + 2 + length b ≤ length xs → ys ≡ b
      → put_mid (n + 2) (n + 2 + length b - (n + 2)) (set (set xs n (length b / 256)) (n + 1) (length b % 256)) ys ≡ put_behind xs n b
  unfolding put_behind framed two_bytes
  filled b room e =
      let v = length b / 256 in
      let w = length b % 256 in
      let rest = drop (n + (2 + length b)) xs in
      (λ i. front v w (omega (arith, room)) i ++ (e i ++ behind v w (length b) i))
      ∙ append_assoc (take n xs ++ v ∷ []) (w ∷ []) (b ++ rest) ∙ append_assoc (take n xs) (v ∷ []) (w ∷ (b ++ rest))
