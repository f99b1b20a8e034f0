-- Records with their lengths before them are fed one by one.
use Rattle.refusal.specs.declared.Accepted.TheVariants.{Taken}
use Rattle.std.specs.Prelude.{Ok}
use mathlib.Core.Path.{◌≡◌, refl, sym, ap, ◌∙◌, subst}
use mathlib.Core.Bool.{true, false}
use mathlib.Core.List.{List, [], ◌∷◌, ◌++◌, map, append_assoc}
use Prim.Native.Nat.{ℕ, zero, suc, ◌+◌, ◌≤◌, ◌<◌}
use native.Mathlib.Omega.{arith}
use lib.Dec.{eqb, eqb-suc-zero}
use lib.ListN.{length, get_or, take, drop, length-append}
use lib.Seq.{take_at, drop_at, take-suc}
use borrow.Author.Tests.{le-leb}
use Rattle.laws.specs.Lists.{concat_map}
use Rattle.refusal.specs.First.{first_answer, is_refused}
use Rattle.fields.specs.Numbers.{u16_at}
use Rattle.load.specs.declared.Load.{Load}
use Rattle.steps.specs.Steps.{stepped}
use Rattle.file.specs.declared.Reader.{Reader}
use Rattle.file.specs.declared.RecordResult.{RecordResult}
use Rattle.file.specs.Record.{open_reader, kind_right, filled, record_tests, step_in, stepped_by, settled, record_spec}
use Rattle.file.specs.File.{starts_whole, size_of, body_of, later, fed_spec}
use Rattle.file.proofs.FedLaws.{none-whole, fed-stops, fed-goes-on}
use Rattle.buffer.specs.Bytes.{two_bytes}
use Rattle.codec.specs.Shapes.{framed}
use Rattle.saved.specs.Saved.{read_as, Takes, Feeds, none, more}
use Rattle.codec.proofs.ShapeLaws.{two-long, read-two}

-- ---- a record with its length before it, and what follows

module _ (b rest : List ℕ) where
  joined : framed b ++ rest ≡ two_bytes (length b) ++ (b ++ rest)
  unfolding framed
  joined = append_assoc (two_bytes (length b)) b rest

  -- the length is right
  pub size_is : u16_at (framed b ++ rest) 0 ≡ length b
  size_is = read-two (length b) (b ++ rest) (record { room = omega arith; is = joined })

  past-length : drop 2 (framed b ++ rest) ≡ b ++ rest
  past-length = ap (drop 2) joined ∙ drop_at (two_bytes (length b)) (b ++ rest) 2 (two-long (length b))

  pub long : length (framed b ++ rest) ≡ 2 + (length b + length rest)
  long = ap length joined ∙ length-append (two_bytes (length b)) (b ++ rest) ∙ rw (two-long (length b), length-append b rest) refl

  pub is_whole : starts_whole (framed b ++ rest) ≡ true
  unfolding starts_whole
  is_whole = rw size_is (le-leb (2 + length b) (length (framed b ++ rest)) (omega (arith, long)))

  pub body_is : body_of (framed b ++ rest) ≡ b
  body_is = rw (size_is, past-length) (take_at b rest (length b) refl)

  pub rest_is : drop (size_of (framed b ++ rest)) (framed b ++ rest) ≡ rest
  rest_is =
      let e : framed b ++ rest ≡ (two_bytes (length b) ++ b) ++ rest = refl-framed in
      rw size_is (ap (drop (2 + length b)) e ∙ drop_at (two_bytes (length b) ++ b) rest (2 + length b)
      (length-append (two_bytes (length b)) b ∙ rw (two-long (length b)) refl))
    where
      refl-framed : framed b ++ rest ≡ (two_bytes (length b) ++ b) ++ rest
      refl-framed = joined ∙ sym (append_assoc (two_bytes (length b)) b rest)

-- ---- records taken one after the other

pub feeds-append : {l m n : Load} {bs cs : List (List ℕ)} → Feeds l bs m → Feeds m cs n → Feeds l (bs ++ cs) n
feeds-append none q = q
feeds-append (more t p) q = more t (feeds-append p q)

-- what follows a record is fed to the load that took it, or that it opened
pub fed-one : (r : Reader) (m : Load) (b rest : List ℕ) → record_spec r b ≡ read_as m
    → fed_spec r (framed b ++ rest) ≡ later (2 + length b) (fed_spec (open_reader m) rest)
fed-one r m b rest t =
    let body : record_spec r (body_of (framed b ++ rest)) ≡ read_as m = ap (record_spec r) (body_is b rest) ∙ t in
    fed-goes-on r (framed b ++ rest) (is_whole b rest) (ap (λ (k : RecordResult). is_refused k.answer) body)
    ∙ (λ i. later (2 + size_is b rest i) (fed_spec (body i).reader (rest_is b rest i)))

-- all bytes are used
pub fed-all : {l m : Load} {bs : List (List ℕ)} → Feeds l bs m
    → fed_spec (open_reader l) (concat_map framed bs)
    ≡ record { answer = Ok Taken; used = length (concat_map framed bs); reader = open_reader m }
fed-all {l} none = fed-stops (open_reader l) [] none-whole
fed-all {l} (more {m = m} {n = n} {b = b} {bs = bs} t p) =
    let e : 2 + length b + length (concat_map framed bs) ≡ length (framed b ++ concat_map framed bs) =
    omega (arith, long b (concat_map framed bs)) in
    fed-one (open_reader l) m b (concat_map framed bs) t.taken ∙ ap (later (2 + length b)) (fed-all p)
    ∙ (λ i. record { answer = Ok Taken; used = e i; reader = open_reader n })

-- ---- the records of an array's first n elements

module _ {A : Type 0} (f : A → List ℕ) (xs : List A) (d : A) (at : ℕ → Load) where
  map-append : (ys zs : List A) → map f (ys ++ zs) ≡ map f ys ++ map f zs
  map-append [] zs = refl
  map-append (y ∷ ys) zs = ap (λ (r : List (List ℕ)). f y ∷ r) (map-append ys zs)

  pub feeds-first : (n : ℕ) → n ≤ length xs → ((k : ℕ) → k < n → Takes (at k) (f (get_or xs k d)) (at (suc k)))
      → Feeds (at 0) (map f (take n xs)) (at n)
  feeds-first zero h t = none
  feeds-first (suc n) h t =
      subst (λ (bs : List (List ℕ)). Feeds (at 0) bs (at (suc n)))
      (sym (map-append (take n xs) (get_or xs n d ∷ [])) ∙ ap (map f) (sym (take-suc xs n d h)))
      (feeds-append (feeds-first n (omega arith) (λ k g. t k (omega arith))) (more (t n (omega arith)) none))

-- ---- a record of kind 2 to 5 that a step takes

pub some_byte : (x : ℕ) (xs : List ℕ) → eqb (length (x ∷ xs)) 0 ≡ false
some_byte x xs = eqb-suc-zero (length xs)

recorded : (l m : Load) (kind : ℕ) (w : List ℕ) → kind_right true kind ≡ true → filled false (kind ∷ w) ≡ true
    → stepped l (step_in (kind ∷ w)) ≡ record { answer = Ok Taken; load = m }
    → record_spec (open_reader l) (kind ∷ w) ≡ read_as m
unfolding record_spec record_tests first_answer stepped_by settled
recorded l m kind w right fill step = rw (some_byte kind w, right, fill, step) refl

pub takes : (l m : Load) (kind : ℕ) (w : List ℕ) → kind_right true kind ≡ true → filled false (kind ∷ w) ≡ true
    → stepped l (step_in (kind ∷ w)) ≡ record { answer = Ok Taken; load = m }
    → m.table_horizon ≡ l.table_horizon → Takes l (kind ∷ w) m
takes l m kind w right fill step uncut = record { taken = recorded l m kind w right fill step; uncut = uncut }
