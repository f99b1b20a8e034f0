-- How the tests of a record end, and what their end says of its kind.
use Rattle.std.specs.Prelude.{Result, Err, Ok, is_err}
use Rattle.refusal.specs.declared.Accepted.TheVariants.{Taken}
use mathlib.Core.Path.{◌≡◌, refl, sym, ap, ◌∙◌, subst}
use mathlib.Core.Bool.{Bool, true, false, not, ◌&&◌, true≢false}
use mathlib.Core.List.{List}
use Prim.Native.Nat.{ℕ}
use native.Mathlib.Omega.{arith}
use borrow.Author.Tests.{ne_eqb, leb-true}
use lib.Dec.{eqb, leb}
use lib.ListN.{length}
use Rattle.laws.proofs.Bools.{and-true-left, and-true-right, not-true}
use Rattle.refusal.specs.declared.Refusal.{Refusal}
use Rattle.refusal.specs.declared.Refusal.TheVariants.{RecordLength, RecordKind}
use Rattle.refusal.specs.First.{first_answer, is_refused, Answer}
use Rattle.fields.specs.declared.kind.Kind.{Kind}
use Rattle.fields.specs.declared.kind.Kind.TheVariants.{Settings, Stop, Call, Rule, Search}
use Rattle.fields.specs.Kind.{number_of, kind_of_number, Numbered, none}
use Rattle.fields.specs.Numbers.{byte_at}
use Rattle.fields.proofs.KindLaws.{kinds-numbered, number-read}
use Rattle.file.specs.Record.{kind_right, record_tests}
use Rattle.file.specs.Kinds.{filled_as, kind_unless, tested}
use Rattle.file.proofs.KindLaws.{filled-as}
use Rattle.file.proofs.RecordLaws.{all-fail}

-- a number that is no kind's is right nowhere
wrong : (opened : Bool) (n : ℕ) → ((k : Kind) → n ≡ number_of k → ⊥) → kind_right opened n ≡ false
unfolding kind_right
wrong false n f = ne_eqb n 1 (f Settings)
wrong true n f =
    not-true (leb 2 n && leb n 5) (λ e.
    let low = leb-true 2 n (and-true-left (leb 2 n) (leb n 5) e) in
    let high = leb-true n 5 (and-true-right (leb 2 n) (leb n 5) e) in
    omega (arith, low, high, f Stop, f Call, f Rule, f Search))

-- ---- the tests, one after another

module _ (opened second : Bool) (b : List ℕ) where
  pub empty : length b ≡ 0 → Err RecordLength ≡ tested opened second b
  unfolding tested record_tests first_answer
  empty e = rw e refl

  none-right : {r : Refusal} → eqb (length b) 0 ≡ false → Numbered (byte_at b 0) (Err r) → Err r ≡ tested opened second b
  unfolding tested record_tests first_answer
  none-right e (none f) = rw (e, wrong opened (byte_at b 0) f) refl

  not-right : (k : Kind) → eqb (length b) 0 ≡ false → byte_at b 0 ≡ number_of k → kind_right opened (number_of k) ≡ false
      → Err RecordKind ≡ tested opened second b
  unfolding tested record_tests first_answer
  not-right k e n g = rw (e, ap (kind_right opened) n ∙ g) refl

  not-full : (k : Kind) → eqb (length b) 0 ≡ false → byte_at b 0 ≡ number_of k → kind_right opened (number_of k) ≡ true
      → filled_as k second b ≡ false → Err RecordLength ≡ tested opened second b
  unfolding tested record_tests first_answer
  not-full k e n g f = rw (e, ap (kind_right opened) n ∙ g, filled-as k second b n ∙ f) refl

  all-passed : (k : Kind) → eqb (length b) 0 ≡ false → byte_at b 0 ≡ number_of k → kind_right opened (number_of k) ≡ true
      → filled_as k second b ≡ true → kind_of_number (byte_at b 0) ≡ tested opened second b
  unfolding tested record_tests first_answer
  all-passed k e n g f = rw (e, ap (kind_right opened) n ∙ g, filled-as k second b n ∙ f) refl

-- the number that a byte is read as
module _ (opened second : Bool) (b : List ℕ) {n : ℕ} {q : Result Kind Refusal}
    (n-is : n ≡ byte_at b 0) (q-is : q ≡ kind_of_number n) (some : length b ≡ 0 → ⊥) where
  pub no-kind : {r : Refusal} → q ≡ Err r → Err r ≡ tested opened second b
  no-kind {r} e =
      none-right opened second b (ne_eqb (length b) 0 some)
      (subst (λ (m : ℕ). Numbered m (Err r)) n-is (subst (Numbered n) (sym q-is ∙ e) (kinds-numbered n)))

  module _ {k : Kind} {t : Bool} (e : q ≡ Ok k) (t-is : t ≡ kind_right opened (number_of k)) where
    pub wrong-kind : t ≡ false → Err RecordKind ≡ tested opened second b
    wrong-kind f = not-right opened second b k (ne_eqb (length b) 0 some) (number-read n-is q-is e) (sym t-is ∙ f)

    module _ {u : Bool} (g : t ≡ true) (u-is : u ≡ filled_as k second b) where
      pub unfilled : u ≡ false → Err RecordLength ≡ tested opened second b
      unfilled f = not-full opened second b k (ne_eqb (length b) 0 some) (number-read n-is q-is e) (sym t-is ∙ g) (sym u-is ∙ f)

      pub passed : u ≡ true → Ok k ≡ tested opened second b
      passed f =
          sym e ∙ q-is ∙ ap kind_of_number n-is
          ∙ all-passed opened second b k (ne_eqb (length b) 0 some) (number-read n-is q-is e) (sym t-is ∙ g) (sym u-is ∙ f)

-- ---- what the end of the tests says

-- its kind is right, and it has that number
pub record Passed (opened second : Bool) (b : List ℕ) (k : Kind) : Type 0 where
  pub goes : is_refused (first_answer (record_tests opened second b)) ≡ false
  pub number : byte_at b 0 ≡ number_of k
  pub right : kind_right opened (number_of k) ≡ true

right-of : (opened second : Bool) (b : List ℕ)
    → is_refused (first_answer (record_tests opened second b)) ≡ false → kind_right opened (byte_at b 0) ≡ true
unfolding record_tests
right-of opened second b e = of-not-false (kind_right opened (byte_at b 0)) (all-fail opened second b e).1.0
  where
    of-not-false : (x : Bool) → not x ≡ false → x ≡ true
    of-not-false true e = refl
    of-not-false false e = sym e

-- a right number is a kind's
has-kind : (opened : Bool) (n : ℕ) (r : Refusal) → kind_right opened n ≡ true → Numbered n (Err r) → ⊥
has-kind opened n r g (none f) = true≢false (sym g ∙ wrong opened n f)

abbrev answer_of : Result Kind Refusal → Answer
answer_of (Ok k) = Ok Taken
answer_of (Err r) = Err r

module _ (opened second : Bool) (b : List ℕ) where
  pub refusal-is : {r : Refusal} → tested opened second b ≡ Err r → Err r ≡ first_answer (record_tests opened second b)
  unfolding tested
  refusal-is {r} e = go (first_answer (record_tests opened second b)) refl e
    where
      go : (a : Answer) → first_answer (record_tests opened second b) ≡ a → kind_unless a (kind_of_number (byte_at b 0)) ≡ Err r → Err r ≡ a
      go (Err s) p e = sym (ap answer_of e)
      go (Ok a) p e =
          let g = right-of opened second b (ap is_refused p) in
          absurd (has-kind opened (byte_at b 0) r g (subst (Numbered (byte_at b 0)) e (kinds-numbered (byte_at b 0))))

  pub kind-is : {k : Kind} → tested opened second b ≡ Ok k
      → Passed opened second b k
  unfolding tested
  kind-is {k} e = go (first_answer (record_tests opened second b)) refl e
    where
      go : (a : Answer) → first_answer (record_tests opened second b) ≡ a → kind_unless a (kind_of_number (byte_at b 0)) ≡ Ok k
          → Passed opened second b k
      go (Err s) p e = absurd (true≢false (ap (λ (x : Result Kind Refusal). is_err x) e))
      go (Ok a) p e =
          let n = number-read {n = byte_at b 0} refl refl e in
          let goes : is_refused (first_answer (record_tests opened second b)) ≡ false = ap is_refused p in
          record { goes = goes; number = n; right = ap (kind_right opened) (sym n) ∙ right-of opened second b goes }
