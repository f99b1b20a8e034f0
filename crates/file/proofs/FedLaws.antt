-- Whole records at the start of bytes: enough turns are enough, and bytes may be read in parts.
use Rattle.refusal.specs.declared.Accepted.TheVariants.{Taken}
use Rattle.std.specs.Prelude.{Ok}
use mathlib.Core.Path.{◌≡◌, refl, sym, ap, ◌∙◌, subst}
use mathlib.Core.Bool.{Bool, true, false, cond, false≢true}
use mathlib.Core.List.{List, [], ◌∷◌, ◌++◌}
use Prim.Native.Nat.{ℕ, zero, suc, ◌+◌, ◌≤◌}
use native.Mathlib.Nat.{zero-add, add_assoc}
use native.Mathlib.Omega.{arith}
use lib.ListN.{length, drop, length-append, length-drop}
use lib.Seq.{take-append-le, drop-append-le, drop-drop}
use borrow.Author.Tests.{leb-true, le-leb}
use Rattle.refusal.specs.First.{is_refused}
use Rattle.fields.specs.Numbers.{u16_at}
use Rattle.file.specs.declared.Reader.{Reader}
use Rattle.file.specs.declared.ReadResult.{ReadResult}
use Rattle.file.specs.Record.{record_spec}
use Rattle.file.specs.File.{starts_whole, size_of, body_of, later, fed_by, fed_spec, continued, FedInParts}

-- ---- a whole record

pub whole_room : (xs : List ℕ) → starts_whole xs ≡ true → size_of xs ≤ length xs
unfolding starts_whole
whole_room xs e = leb-true _ _ e

pub size-append : (xs ys : List ℕ) → 2 ≤ length xs → u16_at (xs ++ ys) 0 ≡ u16_at xs 0
unfolding u16_at
size-append [] ys h = absurd (omega arith)
size-append (a ∷ []) ys h = absurd (omega arith)
size-append (a ∷ b ∷ xs) ys h = refl

pub whole_append : (xs ys : List ℕ) → starts_whole xs ≡ true → starts_whole (xs ++ ys) ≡ true
unfolding starts_whole
whole_append xs ys e =
    let room = whole_room xs e in
    le-leb (2 + u16_at (xs ++ ys) 0) (length (xs ++ ys))
    (rw (size-append xs ys (omega (arith, room)), length-append xs ys) (omega (arith, room)))

pub body-append : (xs ys : List ℕ) → starts_whole xs ≡ true → body_of (xs ++ ys) ≡ body_of xs
body-append xs ys e =
    let room = whole_room xs e in
    let size = size-append xs ys (omega (arith, room)) in
    rw (size, drop-append-le 2 xs ys (omega (arith, room)))
    (take-append-le (u16_at xs 0) (drop 2 xs) ys (rw (length-drop 2 xs) (omega (arith, room))))

pub none-whole : starts_whole [] ≡ false
unfolding starts_whole u16_at
none-whole = refl

-- ---- turns

-- one turn, with what follows it
unfoldable turned : Bool → Bool → Reader → List ℕ → ReadResult → ReadResult
turned whole refused r xs next =
    cond whole (cond refused (record { answer = (record_spec r (body_of xs)).answer; used = 0; reader = r }) (later (size_of xs) next))
    (record { answer = Ok Taken; used = 0; reader = r })

fed-turned : (n : ℕ) (r : Reader) (xs : List ℕ)
    → fed_by (suc n) r xs ≡ turned (starts_whole xs) (is_refused (record_spec r (body_of xs)).answer) r xs
    (fed_by n (record_spec r (body_of xs)).reader (drop (size_of xs) xs))
unfolding fed_by turned
fed-turned n r xs = refl

-- no more than all bytes are used
fed-by-room : (n : ℕ) (r : Reader) (xs : List ℕ) → (fed_by n r xs).used ≤ length xs
unfolding fed_by turned
fed-by-room zero r xs = omega arith
fed-by-room (suc n) r xs = go (starts_whole xs) refl (is_refused (record_spec r (body_of xs)).answer)
    (fed-by-room n (record_spec r (body_of xs)).reader (drop (size_of xs) xs))
  where
    rest : ReadResult
    rest = fed_by n (record_spec r (body_of xs)).reader (drop (size_of xs) xs)

    go : (b : Bool) → starts_whole xs ≡ b → (c : Bool) → rest.used ≤ length (drop (size_of xs) xs) → (turned b c r xs rest).used ≤ length xs
    go false e c ih = omega arith
    go true e true ih = omega arith
    go true e false ih = let room = whole_room xs e in omega (arith, room, ih, length-drop (size_of xs) xs)

pub fed-room : (r : Reader) (xs : List ℕ) → (fed_spec r xs).used ≤ length xs
unfolding fed_spec
fed-room r xs = fed-by-room (length xs) r xs

-- more turns than bytes make no difference
fed-enough : (n m : ℕ) (r : Reader) (xs : List ℕ) → length xs ≤ n → length xs ≤ m → fed_by n r xs ≡ fed_by m r xs
unfolding fed_by turned
fed-enough zero zero r xs h k = refl
fed-enough zero (suc m) r [] h k = rw none-whole refl
fed-enough zero (suc m) r (x ∷ xs) h k = absurd (omega arith)
fed-enough (suc n) zero r [] h k = rw none-whole refl
fed-enough (suc n) zero r (x ∷ xs) h k = absurd (omega arith)
fed-enough (suc n) (suc m) r xs h k =
    go (starts_whole xs) refl (is_refused (record_spec r (body_of xs)).answer)
    (λ (a : length (drop (size_of xs) xs) ≤ n) (b : length (drop (size_of xs) xs) ≤ m).
    fed-enough n m (record_spec r (body_of xs)).reader (drop (size_of xs) xs) a b)
  where
    rest : ℕ → ReadResult
    rest k = fed_by k (record_spec r (body_of xs)).reader (drop (size_of xs) xs)

    go : (b : Bool) → starts_whole xs ≡ b → (c : Bool)
        → (length (drop (size_of xs) xs) ≤ n → length (drop (size_of xs) xs) ≤ m → rest n ≡ rest m)
        → turned b c r xs (rest n) ≡ turned b c r xs (rest m)
    go false e c ih = refl
    go true e true ih = refl
    go true e false ih =
        let room = whole_room xs e in
        ap (later (size_of xs)) (ih (rw (length-drop (size_of xs) xs) (omega (arith, room)))
        (rw (length-drop (size_of xs) xs) (omega (arith, room))))

-- ---- the three ways of a turn

pub fed-stops : (r : Reader) (xs : List ℕ) → starts_whole xs ≡ false → fed_spec r xs ≡ record { answer = Ok Taken; used = 0; reader = r }
unfolding fed_spec fed_by
fed-stops r [] e = refl
fed-stops r (x ∷ xs) e = rw e refl

pub fed-refuses : (r : Reader) (xs : List ℕ) → starts_whole xs ≡ true → is_refused (record_spec r (body_of xs)).answer ≡ true
    → fed_spec r xs ≡ record { answer = (record_spec r (body_of xs)).answer; used = 0; reader = r }
unfolding fed_spec fed_by
fed-refuses r [] e f = absurd (false≢true (sym none-whole ∙ e))
fed-refuses r (x ∷ xs) e f = rw (e, f) refl

pub fed-goes-on : (r : Reader) (xs : List ℕ) → starts_whole xs ≡ true → is_refused (record_spec r (body_of xs)).answer ≡ false
    → fed_spec r xs ≡ later (size_of xs) (fed_spec (record_spec r (body_of xs)).reader (drop (size_of xs) xs))
unfolding fed_spec turned
fed-goes-on r [] e f = absurd (false≢true (sym none-whole ∙ e))
fed-goes-on r (x ∷ xs) e f =
    let room = whole_room (x ∷ xs) e in
    fed-turned (length xs) r (x ∷ xs)
    ∙ rw (e, f) (ap (later (size_of (x ∷ xs))) (fed-enough (length xs) (length (drop (size_of (x ∷ xs)) (x ∷ xs))) _ _
    (rw (length-drop (size_of (x ∷ xs)) (x ∷ xs)) (omega (arith, room))) (omega arith)))

-- ---- in parts

pub later-zero : (f : ReadResult) → later 0 f ≡ f
later-zero f = λ t. record { answer = f.answer; used = zero-add f.used t; reader = f.reader }

pub later-later : (a b : ℕ) (f : ReadResult) → later a (later b f) ≡ later (a + b) f
later-later a b f = λ t. record { answer = f.answer; used = sym (add_assoc a b f.used) t; reader = f.reader }

-- the first turn of the whole is that of the part
turn-append : (r : Reader) (xs ys : List ℕ) → starts_whole xs ≡ true → is_refused (record_spec r (body_of xs)).answer ≡ false
    → fed_spec r (xs ++ ys) ≡ later (size_of xs) (fed_spec (record_spec r (body_of xs)).reader (drop (size_of xs) xs ++ ys))
turn-append r xs ys e f =
    let room = whole_room xs e in
    let size = size-append xs ys (omega (arith, room)) in
    let body = body-append xs ys e in
    fed-goes-on r (xs ++ ys) (whole_append xs ys e) (ap (λ (b : List ℕ). is_refused (record_spec r b).answer) body ∙ f)
    ∙ rw (body, size, drop-append-le (size_of xs) xs ys room) refl

-- what is fed of `xs ++ ys` when f was fed of xs
abbrev Parted : Reader → List ℕ → List ℕ → ReadResult → Type 0
Parted r xs ys f = fed_spec r (xs ++ ys) ≡ continued f xs ys

parted-stop : (r : Reader) (xs ys : List ℕ) → starts_whole xs ≡ false → Parted r xs ys (fed_spec r xs)
parted-stop r xs ys e = subst (Parted r xs ys) (sym (fed-stops r xs e)) (sym (later-zero (fed_spec r (xs ++ ys))))

parted-refused : (r : Reader) (xs ys : List ℕ) → starts_whole xs ≡ true → is_refused (record_spec r (body_of xs)).answer ≡ true
    → Parted r xs ys (fed_spec r xs)
parted-refused r xs ys e f =
    let body = body-append xs ys e in
    subst (Parted r xs ys) (sym (fed-refuses r xs e f))
    (fed-refuses r (xs ++ ys) (whole_append xs ys e) (ap (λ (b : List ℕ). is_refused (record_spec r b).answer) body ∙ f)
    ∙ rw (body, f) refl)

-- a turn more or less before what is continued
later-continued : (s : ℕ) (g : ReadResult) (xs ys : List ℕ) → later s (continued g (drop s xs) ys) ≡ continued (later s g) xs ys
later-continued s g xs ys = go (is_refused g.answer)
  where
    go : (b : Bool) → later s (cond b g (later g.used (fed_spec g.reader (drop g.used (drop s xs) ++ ys))))
        ≡ cond b (later s g) (later (s + g.used) (fed_spec g.reader (drop (s + g.used) xs ++ ys)))
    go true = refl
    go false = later-later s g.used _ ∙ ap (λ (zs : List ℕ). later (s + g.used) (fed_spec g.reader (zs ++ ys))) (drop-drop g.used s xs)

parted-on : (r : Reader) (xs ys : List ℕ) → starts_whole xs ≡ true → is_refused (record_spec r (body_of xs)).answer ≡ false
    → Parted (record_spec r (body_of xs)).reader (drop (size_of xs) xs) ys
    (fed_spec (record_spec r (body_of xs)).reader (drop (size_of xs) xs)) → Parted r xs ys (fed_spec r xs)
parted-on r xs ys e f ih =
    subst (Parted r xs ys) (sym (fed-goes-on r xs e f))
    (turn-append r xs ys e f ∙ ap (later (size_of xs)) ih
    ∙ later-continued (size_of xs) (fed_spec (record_spec r (body_of xs)).reader (drop (size_of xs) xs)) xs ys)

parted : (n : ℕ) (r : Reader) (xs ys : List ℕ) → length xs ≤ n → Parted r xs ys (fed_spec r xs)
parted zero r [] ys h = parted-stop r [] ys none-whole
parted zero r (x ∷ xs) ys h = absurd (omega arith)
parted (suc n) r xs ys h =
    go (starts_whole xs) refl (is_refused (record_spec r (body_of xs)).answer) refl
    (λ (k : length (drop (size_of xs) xs) ≤ n). parted n (record_spec r (body_of xs)).reader (drop (size_of xs) xs) ys k)
  where
    go : (b : Bool) → starts_whole xs ≡ b → (c : Bool) → is_refused (record_spec r (body_of xs)).answer ≡ c
        → (length (drop (size_of xs) xs) ≤ n → Parted (record_spec r (body_of xs)).reader (drop (size_of xs) xs) ys
        (fed_spec (record_spec r (body_of xs)).reader (drop (size_of xs) xs)))
        → Parted r xs ys (fed_spec r xs)
    go false e c f ih = parted-stop r xs ys e
    go true e true f ih = parted-refused r xs ys e f
    go true e false f ih = let room = whole_room xs e in parted-on r xs ys e f (ih (rw (length-drop (size_of xs) xs) (omega (arith, room))))

pub fed-in-parts : FedInParts
fed-in-parts r xs ys = parted (length xs) r xs ys (omega arith)
