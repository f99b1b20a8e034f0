-- Kinds of code points, and the folding rule. Lower case changes no letter to a code point of another kind, and done twice changes nothing
-- more.
use Rattle.std.proofs.Common.{◌≡◌, ℕ, ◌+◌, ◌<◌, ◌≤◌, Bool, true, false, cond, not, ◌&&◌, ◌||◌, eqb, ltb, leb, ◌⊎◌, sym, refl, ◌∙◌, inl, inr}
use Rattle.std.proofs.Common.{⊎_elim, arith, ltb-true, le-ltb, lt-ltb, ne_eqb, eqb-true, le-leb, leb-true}
use borrow.Author.Tests.{lt-leb, eqb-false, not-true}
use Rattle.laws.proofs.Bools.{or-true-cases, and-true-left, and-true-right}
use Rattle.key.specs.Utf8.{is_latin}
use Rattle.key.specs.Name.{is_space, is_control, is_bad, is_capital, reason_of, lower_of}
use Rattle.key.specs.Folding.{fold_of, FoldingRule, FoldedTwice}

pub folding-rule : FoldingRule
unfolding fold_of is_space is_bad is_latin is_control lower_of is_capital
folding-rule = refl

pub folded-twice : FoldedTwice
unfolding fold_of is_space is_bad is_latin is_control lower_of is_capital
folded-twice = refl

-- ---- neither white space nor bad: 33 to 126, and 161 to 255

abbrev Plain : ℕ → Type 0
Plain n = ((33 ≤ n) × (n < 127)) ⊎ ((161 ≤ n) × (n < 256))

plain-space : (n : ℕ) → Plain n → is_space n ≡ false
unfolding is_space
plain-space n p =
    let a : 33 ≤ n = ⊎_elim (λ h. h.0) (λ h. omega arith) p in
    let b : n ≡ 133 → ⊥ = ⊎_elim (λ h e. omega arith) (λ h e. omega arith) p in
    let c : n ≡ 160 → ⊥ = ⊎_elim (λ h e. omega arith) (λ h e. omega arith) p in
    rw (ne_eqb n 32 (λ e. omega arith), ne_eqb n 133 b, ne_eqb n 160 c, le-leb 9 n (omega arith), le-ltb n 14 (omega arith)) refl

below-bad : (n : ℕ) → 33 ≤ n → n < 127 → is_bad n ≡ false
unfolding is_bad is_latin is_control
below-bad n h k =
    rw (
      lt-ltb n 256 (omega arith),
      le-ltb n 9 (omega arith),
      le-leb 14 n (omega arith),
      le-ltb n 32 (omega arith),
      lt-leb 127 n
          (omega arith),
    ) refl

above-bad : (n : ℕ) → 161 ≤ n → n < 256 → is_bad n ≡ false
unfolding is_bad is_latin is_control
above-bad n h k =
    rw (
      lt-ltb n 256 (omega arith),
      le-ltb n 9 (omega arith),
      le-leb 14 n (omega arith),
      le-ltb n 32 (omega arith),
      le-leb 127 n
          (omega arith),
      le-ltb n 160 (omega arith),
    ) refl

plain-bad : (n : ℕ) → Plain n → is_bad n ≡ false
plain-bad n = ⊎_elim (λ h. below-bad n h.0 h.1) (λ h. above-bad n h.0 h.1)

-- ---- capitals

abbrev Capital : ℕ → Type 0
Capital n = ((65 ≤ n) × (n < 91)) ⊎ ((192 ≤ n) × (n < 223) × (n ≡ 215 → ⊥))

capital : (n : ℕ) → is_capital n ≡ true → Capital n
unfolding is_capital
capital n e =
    ⊎_elim (λ h. inl (low h)) (λ h. inr (high h)) (or-true-cases (leb 65 n && ltb n 91) (leb 192 n && ltb n 223 && not (eqb n 215)) e)
  where
    low : (leb 65 n && ltb n 91) ≡ true → (65 ≤ n) × (n < 91)
    low h = (leb-true 65 n (and-true-left (leb 65 n) (ltb n 91) h), ltb-true n 91 (and-true-right (leb 65 n) (ltb n 91) h))

    high : (leb 192 n && ltb n 223 && not (eqb n 215)) ≡ true → (192 ≤ n) × (n < 223) × (n ≡ 215 → ⊥)
    high h =
        let g = and-true-left (leb 192 n && ltb n 223) (not (eqb n 215)) h in (
          leb-true 192 n (and-true-left (leb 192 n) (ltb n 223) g),
          ltb-true n 223 (and-true-right (leb 192 n) (ltb n 223) g),
          eqb-false n 215 (not-true (eqb n 215) (and-true-right (leb 192 n && ltb n 223) (not (eqb n 215)) h)),
        )

-- what a capital folds to is none
raised : (n : ℕ) → Capital n → is_capital (n + 32) ≡ false
unfolding is_capital
raised n c = ⊎_elim low high c
  where
    low : (65 ≤ n) × (n < 91) → ((leb 65 (n + 32) && ltb (n + 32) 91) || (leb 192 (n + 32) && ltb (n + 32) 223 && not (eqb (n + 32) 215)))
        ≡ false
    low h = rw (le-leb 65 (n + 32) (omega arith), le-ltb (n + 32) 91 (omega arith), lt-leb 192 (n + 32) (omega arith)) refl

    high : (192 ≤ n) × (n < 223) × (n ≡ 215 → ⊥)
        → ((leb 65 (n + 32) && ltb (n + 32) 91) || (leb 192 (n + 32) && ltb (n + 32) 223 && not (eqb (n + 32) 215))) ≡ false
    high h =
        rw (
          le-leb 65 (n + 32) (omega arith),
          le-ltb (n + 32) 91 (omega arith),
          le-leb 192 (n + 32) (omega arith),
          le-ltb (n + 32) 223
              (omega arith),
        ) refl

plain-capital : (n : ℕ) → Capital n → Plain n
plain-capital n = ⊎_elim (λ h. inl (omega arith, omega arith)) (λ h. inr (omega arith, omega arith))

plain-raised : (n : ℕ) → Capital n → Plain (n + 32)
plain-raised n = ⊎_elim (λ h. inl (omega arith, omega arith)) (λ h. inr (omega arith, omega arith))

-- a property of code points that all capitals share with what they fold to is one of the lower case too
module _ {A : Type 0} (f : ℕ → A) (letters : (n : ℕ) → is_capital n ≡ true → f (n + 32) ≡ f n) where
  by-lower : (n : ℕ) → f (lower_of n) ≡ f n
  unfolding lower_of
  by-lower n = go (is_capital n) refl
    where
      go : (b : Bool) → is_capital n ≡ b → f (cond b (n + 32) n) ≡ f n
      go true e = letters n e
      go false e = refl

pub lower-twice : (n : ℕ) → lower_of (lower_of n) ≡ lower_of n
unfolding lower_of
lower-twice = by-lower lower_of (λ n e. rw (raised n (capital n e), e) refl)

pub lower-space : (n : ℕ) → is_space (lower_of n) ≡ is_space n
lower-space =
    by-lower is_space (λ n e. plain-space (n + 32) (plain-raised n (capital n e)) ∙ sym (plain-space n (plain-capital n (capital n e))))

pub lower-bad : (n : ℕ) → is_bad (lower_of n) ≡ is_bad n
lower-bad = by-lower is_bad (λ n e. plain-bad (n + 32) (plain-raised n (capital n e)) ∙ sym (plain-bad n (plain-capital n (capital n e))))

below-low : (n : ℕ) → Capital n → ltb (n + 32) 128 ≡ ltb n 128
below-low n = ⊎_elim
    (λ h. lt-ltb (n + 32) 128 (omega arith) ∙ sym (lt-ltb n 128 (omega arith)))
    (λ h. le-ltb (n + 32) 128 (omega arith) ∙ sym (le-ltb n 128 (omega arith)))

pub lower-low : (n : ℕ) → ltb (lower_of n) 128 ≡ ltb n 128
lower-low = by-lower (λ (n : ℕ). ltb n 128) (λ n e. below-low n (capital n e))

latin : (n : ℕ) → Plain n → is_latin n ≡ true
unfolding is_latin
latin n p = lt-ltb n 256 (⊎_elim (λ h. omega arith) (λ h. h.1) p)

pub lower-reason : (n : ℕ) → reason_of (lower_of n) ≡ reason_of n
unfolding reason_of
lower-reason = by-lower reason_of (λ n e. rw (latin (n + 32) (plain-raised n (capital n e)), latin n (plain-capital n (capital n e))) refl)

-- white space is never bad
at-space : (n : ℕ) → n ≡ 32 → is_bad n ≡ false
unfolding is_bad is_latin is_control
at-space n e = rw e refl

at-next-line : (n : ℕ) → n ≡ 133 → is_bad n ≡ false
unfolding is_bad is_latin is_control
at-next-line n e = rw e refl

at-no-break : (n : ℕ) → n ≡ 160 → is_bad n ≡ false
unfolding is_bad is_latin is_control
at-no-break n e = rw e refl

between : (n : ℕ) → 9 ≤ n → n < 14 → is_bad n ≡ false
unfolding is_bad is_latin is_control
between n h k = rw (lt-ltb n 256 (omega arith), le-ltb n 9 h, lt-leb 14 n k, lt-leb 127 n (omega arith)) refl

pub space-good : (n : ℕ) → is_space n ≡ true → is_bad n ≡ false
unfolding is_space
space-good n e = ⊎_elim first last (or-true-cases (eqb n 32 || eqb n 133 || eqb n 160) (leb 9 n && ltb n 14) e)
  where
    last : (leb 9 n && ltb n 14) ≡ true → is_bad n ≡ false
    last h = between n (leb-true 9 n (and-true-left (leb 9 n) (ltb n 14) h)) (ltb-true n 14 (and-true-right (leb 9 n) (ltb n 14) h))

    two : (eqb n 32 || eqb n 133) ≡ true → is_bad n ≡ false
    two h = ⊎_elim (λ g. at-space n (eqb-true n 32 g)) (λ g. at-next-line n (eqb-true n 133 g)) (or-true-cases (eqb n 32) (eqb n 133) h)

    first : (eqb n 32 || eqb n 133 || eqb n 160) ≡ true → is_bad n ≡ false
    first h = ⊎_elim two (λ g. at-no-break n (eqb-true n 160 g)) (or-true-cases (eqb n 32 || eqb n 133) (eqb n 160) h)

-- a code point that is not bad is at most 255
pub good-latin : (n : ℕ) → is_bad n ≡ false → n < 256
unfolding is_bad is_latin
good-latin n e = go (ltb n 256) refl e
  where
    go : (b : Bool) → ltb n 256 ≡ b → (not b || is_control n) ≡ false → n < 256
    go true h f = ltb-true n 256 h
    go false h f = let z : ◌≡◌ {A = ℕ} 0 1 = cc in absurd (omega arith)
