-- A file with a record behind it that its load takes is read as that step's load.
use Rattle.refusal.specs.declared.Accepted.TheVariants.{Taken}
use Rattle.refusal.specs.declared.Refusal.TheVariants.{RecordLength, RecordKind}
use Rattle.std.specs.Prelude.{Err, Ok}
use mathlib.Core.Path.{◌≡◌, refl, sym, ap, ◌∙◌}
use mathlib.Core.Bool.{Bool, true, false, not, cond, true≢false}
use mathlib.Core.List.{List, [], ◌∷◌, ◌++◌, append-nil}
use Prim.Native.Nat.{ℕ, ◌+◌, ◌-◌, ◌≤◌}
use native.Mathlib.Omega.{arith}
use borrow.Author.Tests.{eqb-true, eq-eqb, ne_eqb}
use lib.Dec.{eqb}
use lib.ListN.{length, drop, length-append, length-drop}
use Rattle.std.proofs.lemmas.List.{drop_all, nil_from_length}
use Rattle.refusal.specs.First.{first_answer, is_refused, Answer}
use Rattle.codec.specs.Shapes.{framed}
use Rattle.file.specs.declared.Reader.{Reader}
use Rattle.file.specs.declared.RecordResult.{RecordResult}
use Rattle.file.specs.declared.ReadResult.{ReadResult}
use Rattle.file.specs.Record.{fresh_reader, took, record_spec}
use Rattle.file.specs.File.{body_of, version_answer, is_second, later, fed_spec, end_answer, ended_by, read_spec_of}
use Rattle.file.proofs.FedLaws.{none-whole, fed-stops, fed-goes-on, fed-in-parts}
use Rattle.file.proofs.RecordLaws.{taken-settled}
use Rattle.reader.proofs.ReadLaws.{version_room}
use Rattle.saved.proofs.FeedLaws.{size_is, long, is_whole, body_is, rest_is}
use Rattle.timetable.specs.Append.{so_far, step_of, ReadAppended}

-- what was fed of a file
abbrev fed_of : List ℕ → ReadResult
fed_of xs = fed_spec (fresh_reader (is_second xs)) (drop 1 xs)

-- a file whose records are all of it, and the reader after them
record Begun (xs : List ℕ) (r : Reader) : Type 0 where
  version : is_refused (version_answer xs) ≡ false
  fed : is_refused (fed_of xs).answer ≡ false
  whole : drop (fed_of xs).used (drop 1 xs) ≡ []
  reader : (fed_of xs).reader ≡ r
  some : 1 ≤ length xs

-- ---- by the code

module _ (xs : List ℕ) where
  pub far-begun : {a : Answer} {r : Reader} → length xs ≡ 1 → a ≡ version_answer xs → r ≡ fresh_reader (is_second xs)
      → took a r ≡ so_far xs
  unfolding so_far
  far-begun one a-is r-is = (λ i. took (a-is i) (r-is i)) ∙ sym (rw (eq-eqb (length xs) 1 one) refl)

  pub far-read : {t : RecordResult} → (length xs ≡ 1 → ⊥) → t ≡ read_spec_of xs → t ≡ so_far xs
  unfolding so_far
  far-read more e = e ∙ sym (rw (ne_eqb (length xs) 1 more) refl)

  module _ (b : List ℕ) {t : RecordResult} {c : Bool} (e : t ≡ so_far xs) (c-is : c ≡ is_refused t.answer) where
    refused-is : {d : Bool} → c ≡ d → is_refused (so_far xs).answer ≡ d
    refused-is h = ap (λ (t : RecordResult). is_refused t.answer) (sym e) ∙ sym c-is ∙ h

    refused-as : c ≡ true → t ≡ step_of xs b
    unfolding step_of
    refused-as h = e ∙ sym (rw (refused-is h) refl)

    taken-as : {u : RecordResult} → c ≡ false → u ≡ record_spec t.reader b → u ≡ step_of xs b
    unfolding step_of
    taken-as h u-is = u-is ∙ ap (λ (t : RecordResult). record_spec t.reader b) e ∙ sym (rw (refused-is h) refl)

    pub step-refused : c ≡ true → t.answer ≡ (step_of xs b).answer
    step-refused h = ap (λ (t : RecordResult). t.answer) (refused-as h)

    pub step-taken : {u : RecordResult} → c ≡ false → u ≡ record_spec t.reader b → u.answer ≡ (step_of xs b).answer
    step-taken h u-is = ap (λ (t : RecordResult). t.answer) (taken-as h u-is)

-- ---- so far

begun-one : (xs : List ℕ) → length xs ≡ 1 → version_answer xs ≡ Ok Taken → Begun xs (fresh_reader (is_second xs))
begun-one xs one e =
    let r : Reader = fresh_reader (is_second xs) in
    let none : drop 1 xs ≡ [] = drop_all 1 xs (omega (arith, one)) in
    let f : fed_of xs ≡ record { answer = Ok Taken; used = 0; reader = r } = ap (fed_spec r) none ∙ fed-stops r [] none-whole in
    record {
      version = ap is_refused e;
      fed = ap (λ (f : ReadResult). is_refused f.answer) f;
      whole = λ i. drop (f i).used (none i);
      reader = ap (λ (f : ReadResult). f.reader) f;
      some = omega (arith, one);
    }

none-left : (o : Bool) (n : ℕ) → end_answer o n ≡ Ok Taken → n ≡ 0
unfolding end_answer first_answer
none-left o n e = go (eqb n 0) refl e
  where
    go : (b : Bool) → eqb n 0 ≡ b → cond (not b) (Err RecordLength) (cond (not o) (Err RecordKind) (Ok Taken)) ≡ Ok Taken → n ≡ 0
    go true q k = eqb-true n 0 q
    go false q k = absurd (true≢false (ap is_refused k))

ended : (ys : List ℕ) (f : ReadResult) → (ended_by ys f).answer ≡ Ok Taken → (is_refused f.answer ≡ false) × (drop f.used ys ≡ [])
ended ys f e = go (is_refused f.answer) refl e
  where
    go : (c : Bool) → is_refused f.answer ≡ c → cond c f.answer (end_answer f.reader.opened (length (drop f.used ys))) ≡ Ok Taken
        → (is_refused f.answer ≡ false) × (drop f.used ys ≡ [])
    go true q k = absurd (true≢false (sym q ∙ ap is_refused k))
    go false q k = (q, nil_from_length _ (none-left f.reader.opened (length (drop f.used ys)) k))

begun-read : (xs : List ℕ) → (read_spec_of xs).answer ≡ Ok Taken → Begun xs (read_spec_of xs).reader
unfolding read_spec_of
begun-read xs e = go (is_refused (version_answer xs)) refl e
  where
    by : Bool → RecordResult
    by b = cond b (record { answer = version_answer xs; reader = fresh_reader (is_second xs) }) (ended_by (drop 1 xs) (fed_of xs))

    go : (b : Bool) → is_refused (version_answer xs) ≡ b → (by b).answer ≡ Ok Taken → Begun xs (by b).reader
    go true q k = absurd (true≢false (sym q ∙ ap is_refused k))
    go false q k =
        let w = ended (drop 1 xs) (fed_of xs) k in
        record { version = q; fed = w.0; whole = w.1; reader = refl; some = version_room xs q }

begun : (xs : List ℕ) → (so_far xs).answer ≡ Ok Taken → Begun xs (so_far xs).reader
unfolding so_far
begun xs e = go (eqb (length xs) 1) refl e
  where
    by : Bool → RecordResult
    by b = cond b (record { answer = version_answer xs; reader = fresh_reader (is_second xs) }) (read_spec_of xs)

    go : (b : Bool) → eqb (length xs) 1 ≡ b → (by b).answer ≡ Ok Taken → Begun xs (by b).reader
    go true q k = begun-one xs (eqb-true (length xs) 1 q) k
    go false q k = begun-read xs k

-- ---- a record more

fed-behind : (r : Reader) (b : List ℕ) → is_refused (record_spec r b).answer ≡ false
    → fed_spec r (framed b) ≡ record { answer = Ok Taken; used = 2 + length b + 0; reader = (record_spec r b).reader }
fed-behind r b e =
    let body : record_spec r (body_of (framed b ++ [])) ≡ record_spec r b = ap (record_spec r) (body_is b []) in
    ap (fed_spec r) (sym (append-nil (framed b)))
    ∙ fed-goes-on r (framed b ++ []) (is_whole b []) (ap (λ (t : RecordResult). is_refused t.answer) body ∙ e)
    ∙ (λ i. later (2 + size_is b [] i) (fed_spec (body i).reader (rest_is b [] i)))
    ∙ ap (later (2 + length b)) (fed-stops (record_spec r b).reader [] none-whole)

read-whole : (xs : List ℕ) → is_refused (version_answer xs) ≡ false → read_spec_of xs ≡ ended_by (drop 1 xs) (fed_of xs)
unfolding read_spec_of
read-whole xs v = rw v refl

same-version : (x : ℕ) (us vs : List ℕ) → version_answer (x ∷ us) ≡ version_answer (x ∷ vs)
unfolding version_answer
same-version x us vs = refl

nothing-left : {o : Bool} {n : ℕ} → o ≡ true → n ≡ 0 → end_answer o n ≡ Ok Taken
unfolding end_answer first_answer
nothing-left p q = λ i. end_answer (p i) (q i)

-- what is left of a whole file and a record is nothing
past-all : (used : ℕ) (zs b : List ℕ) → drop used zs ≡ [] → drop (used + (2 + length b + 0)) (zs ++ framed b) ≡ []
past-all used zs b none =
    let left : length zs - used ≡ 0 = sym (length-drop used zs) ∙ ap length none in
    let size : length (framed b) ≡ 2 + (length b + 0) = ap length (sym (append-nil (framed b))) ∙ long b [] in
    drop_all (used + (2 + length b + 0)) (zs ++ framed b) (omega (arith, left, size, length-append zs (framed b)))

appended-to : (xs b : List ℕ) {r : Reader} → Begun xs r → is_refused (record_spec r b).answer ≡ false
    → read_spec_of (xs ++ framed b) ≡ record { answer = Ok Taken; reader = (record_spec r b).reader }
appended-to [] b w t = let some = w.some in absurd (omega (arith, some))
appended-to (x ∷ zs) b {r} w t =
    let f : ReadResult = fed_of (x ∷ zs) in
    let new : Reader = (record_spec r b).reader in
    let parts : fed_of (x ∷ (zs ++ framed b)) ≡ later f.used (fed_spec f.reader (drop f.used zs ++ framed b)) =
    fed-in-parts (fresh_reader (is_second (x ∷ zs))) zs (framed b) ∙ rw w.fed refl in
    let all : fed_of (x ∷ (zs ++ framed b)) ≡ record { answer = Ok Taken; used = f.used + (2 + length b + 0); reader = new } =
    parts ∙ (λ i. later f.used (fed_spec (w.reader i) (w.whole i ++ framed b))) ∙ ap (later f.used) (fed-behind r b t) in
    let opened : new.opened ≡ true = ap (λ (s : Reader). s.opened) (taken-settled r b t).1 in
    let none : length (drop (f.used + (2 + length b + 0)) (zs ++ framed b)) ≡ 0 = ap length (past-all f.used zs b w.whole) in
    read-whole (x ∷ (zs ++ framed b)) (ap is_refused (same-version x (zs ++ framed b) zs) ∙ w.version)
    ∙ ap (ended_by (zs ++ framed b)) all
    ∙ (λ i. record { answer = nothing-left opened none i; reader = new })

pub read-appended : ReadAppended
read-appended xs b e t = appended-to xs b (begun xs e) t
