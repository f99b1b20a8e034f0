-- The bodies of records one after the other: the first of them, and that a reader fed the bytes takes each.
use Rattle.std.specs.Prelude.{None, Some}
use mathlib.Core.Path.{◌≡◌, refl, sym, ap, ◌∙◌}
use mathlib.Core.Bool.{Bool, true, false, cond, false≢true}
use mathlib.Core.List.{List, [], ◌∷◌}
use Prim.Native.Nat.{ℕ, zero, suc, ◌+◌, ◌-◌, ◌≤◌}
use native.Mathlib.Omega.{arith}
use borrow.Author.Rules.{part_to_end}
use lib.ListN.{length, take, drop, length-drop}
use lib.Seq.{length-take-le}
use Rattle.refusal.specs.First.{is_refused}
use Rattle.fields.specs.Numbers.{u16_at}
use Rattle.file.specs.declared.Reader.{Reader}
use Rattle.file.specs.declared.ReadResult.{ReadResult}
use Rattle.file.specs.Record.{record_spec}
use Rattle.file.specs.File.{starts_whole, size_of, body_of, whole_of, later, fed_by, fed_spec}
use Rattle.file.specs.Handed.{bodies_by}
use Rattle.file.specs.Framed.{all_bodies, fed_each}
use Rattle.file.proofs.FedLaws.{whole_room, none-whole}
use Rattle.file.proofs.WholeLaws.{whole-tells, none-tells}

-- ---- the bodies

pub bodies-stop : (n : ℕ) (xs : List ℕ) → starts_whole xs ≡ false → bodies_by n xs ≡ []
unfolding bodies_by
bodies-stop zero xs e = refl
bodies-stop (suc n) xs e = rw e refl

pub bodies-on : (n : ℕ) (xs : List ℕ) → starts_whole xs ≡ true → bodies_by (suc n) xs ≡ body_of xs ∷ bodies_by n (drop (size_of xs) xs)
unfolding bodies_by
bodies-on n xs e = rw e refl

-- more of them than bytes make no difference
bodies-enough : (n m : ℕ) (xs : List ℕ) → length xs ≤ n → length xs ≤ m → bodies_by n xs ≡ bodies_by m xs
bodies-enough n zero [] h k = bodies-stop n [] none-whole ∙ sym (bodies-stop zero [] none-whole)
bodies-enough n (suc m) [] h k = bodies-stop n [] none-whole ∙ sym (bodies-stop (suc m) [] none-whole)
bodies-enough zero m (x ∷ xs) h k = absurd (omega arith)
bodies-enough (suc n) zero (x ∷ xs) h k = absurd (omega arith)
bodies-enough (suc n) (suc m) (x ∷ xs) h k = go (starts_whole (x ∷ xs)) refl
    (bodies-enough n m (drop (size_of (x ∷ xs)) (x ∷ xs)) (omega (arith, short, h)) (omega (arith, short, k)))
  where
    short : length (drop (size_of (x ∷ xs)) (x ∷ xs)) ≤ length xs
    short = rw (length-drop (size_of (x ∷ xs)) (x ∷ xs)) (omega arith)

    go : (w : Bool) → starts_whole (x ∷ xs) ≡ w → bodies_by n (drop (size_of (x ∷ xs)) (x ∷ xs))
        ≡ bodies_by m (drop (size_of (x ∷ xs)) (x ∷ xs))
        → bodies_by (suc n) (x ∷ xs) ≡ bodies_by (suc m) (x ∷ xs)
    go false e ih = bodies-stop (suc n) (x ∷ xs) e ∙ sym (bodies-stop (suc m) (x ∷ xs) e)
    go true e ih = bodies-on n (x ∷ xs) e ∙ ap (λ (bs : List (List ℕ)). body_of (x ∷ xs) ∷ bs) ih ∙ sym (bodies-on m (x ∷ xs) e)

-- ---- the first of them

pub none-left : (xs : List ℕ) → None ≡ whole_of xs → all_bodies xs ≡ []
none-left xs e = bodies-stop (length xs) xs (none-tells xs e)

first-left : (xs : List ℕ) {b : List ℕ} → Some b ≡ whole_of xs → all_bodies xs ≡ b ∷ all_bodies (drop (2 + length b) xs)
first-left [] e = absurd (false≢true (sym none-whole ∙ (whole-tells [] e).starts))
first-left (x ∷ xs) {b} e =
    let w = whole-tells (x ∷ xs) e in
    let short : length (drop (2 + length b) (x ∷ xs)) ≤ length xs = rw (length-drop (2 + length b) (x ∷ xs)) (omega arith) in
    bodies-on (length xs) (x ∷ xs) w.starts
    ∙ (λ k. sym w.is k ∷ bodies_by (length xs) (drop (sym w.size k) (x ∷ xs)))
    ∙ ap (λ (bs : List (List ℕ)). b ∷ bs) (bodies-enough (length xs) _ (drop (2 + length b) (x ∷ xs)) short (omega arith))

pub one-left : (xs : List ℕ) {b : List ℕ} → Some b ≡ whole_of xs
    → all_bodies xs ≡ b ∷ all_bodies (take (length xs - (2 + length b)) (drop (2 + length b) xs))
one-left xs {b} e = first-left xs e ∙ ap (λ (ys : List ℕ). b ∷ all_bodies ys) (sym (part_to_end xs (2 + length b)))

pub room-left : (xs : List ℕ) {b : List ℕ} → Some b ≡ whole_of xs → 2 + length b ≤ length xs
room-left xs e = let w = whole-tells xs e in omega (arith, w.size, whole_room xs w.starts)

-- ---- a reader

body-size : (xs : List ℕ) → starts_whole xs ≡ true → size_of xs ≡ 2 + length (body_of xs)
body-size xs e =
    let l : length (body_of xs) ≡ u16_at xs 0 = length-take-le (u16_at xs 0) (drop 2 xs)
    (omega (arith, whole_room xs e, length-drop 2 xs)) in
    omega (arith, l)

by-bodies : (n : ℕ) (r : Reader) (xs : List ℕ) → fed_by n r xs ≡ fed_each r (bodies_by n xs)
unfolding fed_by bodies_by fed_each
by-bodies zero r xs = refl
by-bodies (suc n) r xs = go (starts_whole xs) refl (by-bodies n (record_spec r (body_of xs)).reader (drop (size_of xs) xs))
  where
    first : ReadResult → ReadResult
    first f = cond (is_refused (record_spec r (body_of xs)).answer)
        (record { answer = (record_spec r (body_of xs)).answer; used = 0; reader = r }) f

    none : ReadResult
    none = fed_each r []

    go : (w : Bool) → starts_whole xs ≡ w → fed_by n (record_spec r (body_of xs)).reader (drop (size_of xs) xs)
        ≡ fed_each (record_spec r (body_of xs)).reader (bodies_by n (drop (size_of xs) xs))
        → cond w (first (later (size_of xs) (fed_by n (record_spec r (body_of xs)).reader (drop (size_of xs) xs)))) none
        ≡ fed_each r (cond w (body_of xs ∷ bodies_by n (drop (size_of xs) xs)) [])
    go false e ih = refl
    go true e ih = λ k. first (later (body-size xs e k) (ih k))

pub fed-bodies : (r : Reader) (xs : List ℕ) → fed_spec r xs ≡ fed_each r (all_bodies xs)
unfolding fed_spec
fed-bodies r xs = by-bodies (length xs) r xs
