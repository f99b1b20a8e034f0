-- A whole file is answered for its version, for the first cause of a record, or for its end.
use Rattle.refusal.specs.declared.Accepted.TheVariants.{Taken}
use Rattle.std.specs.Prelude.{Err, Ok}
use mathlib.Core.Path.{◌≡◌, refl, sym, ap, ◌∙◌, subst}
use mathlib.Core.Bool.{Bool, true, false}
use mathlib.Core.List.{List}
use Prim.Native.Nat.{ℕ, zero, suc, ◌+◌, ◌≤◌}
use native.Mathlib.Omega.{arith}
use borrow.Author.Tests.{eqb-true, eqb-false}
use lib.Dec.{eqb}
use lib.ListN.{length, drop, length-drop}
use lib.Seq.{drop-drop}
use Rattle.laws.proofs.Bools.{cond-by}
use Rattle.refusal.specs.declared.Refusal.TheVariants.{FileVersion}
use Rattle.refusal.specs.First.{is_refused, Answer}
use Rattle.refusal.proofs.FirstLaws.{answer-is-first}
use Rattle.fields.specs.Numbers.{byte_at}
use Rattle.file.specs.declared.Reader.{Reader}
use Rattle.file.specs.declared.ReadResult.{ReadResult}
use Rattle.file.specs.Record.{fresh_reader, record_spec}
use Rattle.file.specs.File.{version_answer, starts_whole, size_of, body_of, later, fed_spec, end_tests, end_answer, ended_by, read_spec_of}
use Rattle.file.specs.Answered.{Reached, start, past, Version, one, two, FileAnswered, version, refused, ended, ReadAnswered}
use Rattle.file.proofs.FedLaws.{whole_room, fed-stops, fed-refuses, fed-goes-on, later-later, later-zero}
use Rattle.file.proofs.RecordLaws.{record-answered}

-- where the records end: at one that is refused, or where no whole one is left
data Ends (second : Bool) (bytes : List ℕ) : ReadResult → Type 0 where
  at-refused : {r : Reader} {at : ℕ} → Reached second bytes r at → starts_whole (drop at bytes) ≡ true
      → is_refused (record_spec r (body_of (drop at bytes))).answer ≡ true
      → Ends second bytes (record { answer = (record_spec r (body_of (drop at bytes))).answer; used = at; reader = r })
  at-end : {r : Reader} {at : ℕ} → Reached second bytes r at → starts_whole (drop at bytes) ≡ false
      → Ends second bytes (record { answer = Ok Taken; used = at; reader = r })

no_more : (at : ℕ) (a : Answer) (r : Reader) → later at (record { answer = a; used = 0; reader = r })
    ≡ record { answer = a; used = at; reader = r }
no_more at a r = λ t. record { answer = a; used = same at t; reader = r }
  where
    same : (n : ℕ) → n + 0 ≡ n
    same n = omega arith

-- the records from a place on
abbrev fed_from : List ℕ → Reader → ℕ → ReadResult
fed_from bytes r at = later at (fed_spec r (drop at bytes))

module _ (second : Bool) (bytes : List ℕ) (r : Reader) (at : ℕ) (reach : Reached second bytes r at) where
  abbrev rest : List ℕ
  rest = drop at bytes

  -- the records after the next
  abbrev after : ReadResult
  after = fed_from bytes (record_spec r (body_of rest)).reader (at + size_of rest)

  ends-none : starts_whole rest ≡ false → Ends second bytes (fed_from bytes r at)
  ends-none e = subst (Ends second bytes) (sym (ap (later at) (fed-stops r rest e) ∙ no_more at (Ok Taken) r)) (at-end reach e)

  ends-refused : starts_whole rest ≡ true → is_refused (record_spec r (body_of rest)).answer ≡ true
      → Ends second bytes (fed_from bytes r at)
  ends-refused e f = subst (Ends second bytes) (sym
      (ap (later at) (fed-refuses r rest e f) ∙ no_more at (record_spec r (body_of rest)).answer r)) (at-refused reach e f)

  ends-later : starts_whole rest ≡ true → is_refused (record_spec r (body_of rest)).answer ≡ false → Ends second bytes after
      → Ends second bytes (fed_from bytes r at)
  ends-later e f =
      subst (Ends second bytes)
      (sym (ap (later at) (fed-goes-on r rest e f) ∙ later-later at (size_of rest) _
      ∙ ap (λ (xs : List ℕ). later (at + size_of rest) (fed_spec (record_spec r (body_of rest)).reader xs))
      (drop-drop (size_of rest) at bytes)))

  ends_by : (n : ℕ) → length rest ≤ n → (length (drop (at + size_of rest) bytes) + 2 ≤ n
      → Reached second bytes (record_spec r (body_of rest)).reader (at + size_of rest) → Ends second bytes after)
      → Ends second bytes (fed_from bytes r at)
  ends_by n h ih = go (starts_whole rest) refl (is_refused (record_spec r (body_of rest)).answer) refl
    where
      go : (w : Bool) → starts_whole rest ≡ w → (c : Bool) → is_refused (record_spec r (body_of rest)).answer ≡ c
          → Ends second bytes (fed_from bytes r at)
      go false e c f = ends-none e
      go true e true f = ends-refused e f
      go true e false f = let room = whole_room rest e in
          ends-later e f (ih (omega (arith, room, h, length-drop at bytes, length-drop (at + size_of rest) bytes)) (past reach e f))

-- at a place that was reached
ends-from : (n : ℕ) (second : Bool) (bytes : List ℕ) (r : Reader) (at : ℕ) → length (drop at bytes) ≤ n → Reached second bytes r at
    → Ends second bytes (fed_from bytes r at)
ends-from zero second bytes r at h reach = ends_by second bytes r at reach zero h (λ k. absurd (omega (arith, k)))
ends-from (suc n) second bytes r at h reach = ends_by second bytes r at reach (suc n) h
    (λ k. ends-from n second bytes (record_spec r (body_of (drop at bytes))).reader (at + size_of (drop at bytes)) (omega (arith, k)))

fed-ends : (second : Bool) (bytes : List ℕ) → Ends second bytes (fed_spec (fresh_reader second) bytes)
fed-ends second bytes = subst (Ends second bytes) (later-zero (fed_spec (fresh_reader second) bytes))
    (ends-from (length bytes) second bytes (fresh_reader second) 0 (omega arith) start)

-- ---- the whole file

module _ (xs : List ℕ) (second : Bool) (v : Version xs second) where
  file-ends : (f : ReadResult) → Ends second (drop 1 xs) f → FileAnswered xs (ended_by (drop 1 xs) f)
  unfolding end_answer
  file-ends f (at-refused {r} {at} reach e g) =
      let b : List ℕ = body_of (drop at (drop 1 xs)) in
      subst (λ (a : Answer). FileAnswered xs (record { answer = a; reader = r }))
      (sym (cond-by (record_spec r b).answer (end_answer r.opened (length (drop at (drop 1 xs)))) g))
      (refused v reach e (record-answered r b).first g)
  file-ends f (at-end {r} {at} reach e) = ended v reach e (answer-is-first (end_tests r.opened (length (drop at (drop 1 xs)))))

version-one : (xs : List ℕ) → byte_at xs 0 ≡ 1 → read_spec_of xs ≡ ended_by (drop 1 xs) (fed_spec (fresh_reader false) (drop 1 xs))
unfolding read_spec_of version_answer
version-one xs e = rw e refl

version-two : (xs : List ℕ) → byte_at xs 0 ≡ 2 → read_spec_of xs ≡ ended_by (drop 1 xs) (fed_spec (fresh_reader true) (drop 1 xs))
unfolding read_spec_of version_answer
version-two xs e = rw e refl

version-none : (xs : List ℕ) → eqb (byte_at xs 0) 1 ≡ false → eqb (byte_at xs 0) 2 ≡ false
    → read_spec_of xs ≡ record { answer = Err FileVersion; reader = fresh_reader false }
unfolding read_spec_of version_answer
version-none xs e f = rw (e, f) refl

pub read-answered : ReadAnswered
read-answered xs = go (eqb (byte_at xs 0) 1) refl (eqb (byte_at xs 0) 2) refl
  where
    go : (b : Bool) → eqb (byte_at xs 0) 1 ≡ b → (c : Bool) → eqb (byte_at xs 0) 2 ≡ c → FileAnswered xs (read_spec_of xs)
    go true e c f = let v = eqb-true _ _ e in subst (FileAnswered xs) (sym (version-one xs v))
        (file-ends xs false (one v) _ (fed-ends false (drop 1 xs)))
    go false e true f = let v = eqb-true _ _ f in subst (FileAnswered xs) (sym (version-two xs v))
        (file-ends xs true (two v) _ (fed-ends true (drop 1 xs)))
    go false e false f = subst (FileAnswered xs) (sym (version-none xs e f)) (version (eqb-false _ _ e) (eqb-false _ _ f))
