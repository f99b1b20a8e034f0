-- What the reader's functions do, as equations: the records one by one, the whole file.
use Rattle.refusal.specs.declared.Accepted.TheVariants.{Taken}
use Rattle.std.specs.Prelude.{Ok}
use mathlib.Core.Path.{◌≡◌, refl, sym, ap, ◌∙◌, subst}
use mathlib.Core.Bool.{Bool, true, false, true≢false}
use mathlib.Core.List.{List, [], ◌∷◌}
use Prim.Native.Nat.{ℕ, ◌+◌, ◌-◌, ◌≤◌}
use native.Mathlib.Omega.{arith}
use borrow.Author.Rules.{part_to_end}
use lib.ListN.{length, take, drop, length-drop}
use Rattle.refusal.specs.First.{is_refused, Answer}
use Rattle.file.specs.declared.Reader.{Reader}
use Rattle.file.specs.declared.RecordResult.{RecordResult}
use Rattle.file.specs.declared.ReadResult.{ReadResult}
use Rattle.file.specs.declared.Used.{Used}
use Rattle.file.specs.Record.{fresh_reader, took, record_spec}
use Rattle.file.specs.File.{version_answer, is_second, fed_as, later, fed_spec, end_answer, ended_by, read_to_of, read_spec_of}
use Rattle.file.specs.Framed.{all_bodies, fed_each}
use Rattle.file.proofs.FramedLaws.{fed-bodies}
use Rattle.file.proofs.RecordLaws.{record-answered}
use Rattle.file.proofs.FedLaws.{fed-room, later-zero, later-later}

-- ---- the records one by one

-- what is left of them gives what all of them give
pub record Rest (r₀ : Reader) (bytes : List ℕ) (r : Reader) (at : ℕ) (bs : List (List ℕ)) : Type 0 where
  pub is : later at (fed_each r bs) ≡ fed_spec r₀ bytes

pub all-rest : (r : Reader) (bytes : List ℕ) → Rest r bytes r 0 (all_bodies bytes)
all-rest r bytes = record { is = later-zero (fed_each r (all_bodies bytes)) ∙ sym (fed-bodies r bytes) }

plus-none : (n : ℕ) → n ≡ n + 0
plus-none n = omega arith

module _ {r₀ r : Reader} {bytes : List ℕ} {at : ℕ} {rest : List (List ℕ)} (l : Rest r₀ bytes r at rest) where
  pub none-next : rest ≡ [] → record { answer = Ok Taken; used = at; reader = r } ≡ fed_spec r₀ bytes
  unfolding fed_each
  none-next n = (λ k. record { answer = Ok Taken; used = plus-none at k; reader = r })
      ∙ ap (λ (bs : List (List ℕ)). later at (fed_each r bs)) (sym n) ∙ l.is

  module _ {b : List ℕ} {bs : List (List ℕ)} (first : rest ≡ b ∷ bs) {a : Answer} {s : Reader} (made : took a s ≡ record_spec r b) {u : Bool}
      (u-is : u ≡ is_refused a) where
    refused-as : {c : Bool} → u ≡ c → is_refused (record_spec r b).answer ≡ c
    refused-as f = sym (ap (λ (t : RecordResult). is_refused t.answer) made) ∙ sym u-is ∙ f

    -- where it is sent back, no more is fed
    pub sent-back : u ≡ true → record { answer = a; used = at; reader = s } ≡ fed_spec r₀ bytes
    unfolding fed_each
    sent-back f =
        let here : fed_each r (b ∷ bs) ≡ record { answer = (record_spec r b).answer; used = 0; reader = r } = rw (refused-as f) refl in
        let same : s ≡ r = ap (λ (t : RecordResult). t.reader) made ∙ (record-answered r b).unchanged (refused-as f) in
        (λ k. record { answer = (made k).answer; used = plus-none at k; reader = same k }) ∙ ap (later at) (sym here)
        ∙ ap (λ (x : List (List ℕ)). later at (fed_each r x)) (sym first) ∙ l.is

    -- else the others follow, from the reader that it leaves
    pub goes-on : u ≡ false → Rest r₀ bytes s (at + (2 + length b)) bs
    unfolding fed_each
    goes-on f = record {
      is =
          let here : fed_each r (b ∷ bs) ≡ later (2 + length b) (fed_each s bs) =
          rw (refused-as f) (ap (λ (t : RecordResult). later (2 + length b) (fed_each t.reader bs)) (sym made)) in
          sym (later-later at (2 + length b) (fed_each s bs)) ∙ ap (later at) (sym here)
          ∙ ap (λ (x : List (List ℕ)). later at (fed_each r x)) (sym first) ∙ l.is;
    }

-- no more than all bytes are used
pub rest-room : {r₀ r : Reader} {bytes : List ℕ} {at : ℕ} {bs : List (List ℕ)} → Rest r₀ bytes r at bs → at ≤ length bytes
rest-room {r₀} {r} {bytes} {at} {bs} l =
    let used : at + (fed_each r bs).used ≡ (fed_spec r₀ bytes).used = ap (λ (f : ReadResult). f.used) l.is in
    omega (arith, used, fed-room r₀ bytes)

-- ---- the whole file

-- a file that has a version has a byte
pub version_room : (xs : List ℕ) → is_refused (version_answer xs) ≡ false → 1 ≤ length xs
unfolding version_answer
version_room [] e = absurd (true≢false e)
version_room (x ∷ xs) e = omega arith

pub read-refused : (r : Reader) (xs : List ℕ) {a : Answer} {t : Bool} → a ≡ version_answer xs → t ≡ is_refused a → t ≡ true
    → took a r ≡ read_to_of r xs
unfolding read_to_of
read-refused r xs a-is t-is e = (λ k. record { answer = a-is k; reader = r })
    ∙ sym (rw (sym (ap is_refused a-is) ∙ sym t-is ∙ e) refl)

module _ (r : Reader) (xs : List ℕ) {a : Answer} {t : Bool} {w : Used} {s : Reader} (a-is : a ≡ version_answer xs) (t-is : t ≡ is_refused a)
    (e : t ≡ false) (w-is : fed_as w s ≡ fed_spec r (take (length xs - 1) (drop 1 xs))) where
  fed-is : fed_as w s ≡ fed_spec r (drop 1 xs)
  fed-is = w-is ∙ (λ k. fed_spec r (part_to_end xs 1 k))

  pub used-room : w.used ≤ length xs - 1
  used-room = subst (λ (f : ReadResult). f.used ≤ length xs - 1) (sym fed-is)
      (let h = fed-room r (drop 1 xs) in omega (arith, h, length-drop 1 xs))

  read-on : ended_by (drop 1 xs) (fed_as w s) ≡ read_to_of r xs
  unfolding read_to_of
  read-on = ap (ended_by (drop 1 xs)) fed-is ∙ sym (rw (sym (ap is_refused a-is) ∙ sym t-is ∙ e) refl)

  pub read-fed : {u : Bool} → u ≡ is_refused w.answer → u ≡ true → took w.answer s ≡ read_to_of r xs
  read-fed u-is g =
      let q : ended_by (drop 1 xs) (fed_as w s) ≡ took w.answer s = rw (sym u-is ∙ g) refl in
      sym q ∙ read-on

  pub read-ended : {u : Bool} {b : Answer} → u ≡ is_refused w.answer → u ≡ false → b ≡ end_answer s.opened (length xs - 1 - w.used)
      → took b s ≡ read_to_of r xs
  read-ended {b} u-is g b-is =
      let q : ended_by (drop 1 xs) (fed_as w s) ≡ took b s = rw
      (sym u-is ∙ g, length-drop w.used (drop 1 xs), length-drop 1 xs, b-is) refl in
      sym q ∙ read-on

-- to a fresh reader
pub read-all : (xs : List ℕ) {r s : Reader} {b : Bool} {a : Answer} → r ≡ fresh_reader b → b ≡ is_second xs → took a s ≡ read_to_of r xs
    → took a s ≡ read_spec_of xs
unfolding read_to_of read_spec_of
read-all xs r-is b-is e = e ∙ (λ k. read_to_of ((r-is ∙ ap fresh_reader b-is) k) xs)
