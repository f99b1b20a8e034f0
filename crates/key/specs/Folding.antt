-- The folding rule for all 256 code points together.
use Rattle.std.specs.Prelude.{◌≡◌, ℕ, zero, suc, ◌+◌, cond, List, [], ◌∷◌, ◌++◌, map}
use Rattle.laws.specs.Lists.{span}
use Rattle.key.specs.Name.{is_space, is_bad, lower_of}

-- what becomes of a code point: no name that is used may have it, it parts words, or it is hashed as another or itself
pub data Fold : Type 0 where
  parting : Fold
  barred : Fold
  to : ℕ → Fold

unfoldable pub fold_of : ℕ → Fold
fold_of p = cond (is_bad p) barred (cond (is_space p) parting (to (lower_of p)))

-- n code points that part words, that are barred; n from p that stay, that fold to 32 more
abbrev pub part : ℕ → List Fold
part zero = []
part (suc n) = parting ∷ part n

abbrev pub bar : ℕ → List Fold
bar zero = []
bar (suc n) = barred ∷ bar n

abbrev pub stay : ℕ → ℕ → List Fold
stay p zero = []
stay p (suc n) = to p ∷ stay (suc p) n

abbrev pub fold : ℕ → ℕ → List Fold
fold p n = stay (p + 32) n

-- 0 to 8, 9 to 13, 14 to 31, 32, 33 to 64, 65 to 90, 91 to 126, 127 to 132, 133, 134 to 159, 160, 161 to 191, 192 to 214, 215, 216 to 222,
-- 223 to 255
abbrev pub rule : List Fold
rule =
    bar 9
    ++ part 5
    ++ bar 18
    ++ part 1
    ++ stay 33 32
    ++ fold 65 26
    ++ stay 91 36
    ++ bar 6
    ++ part 1
    ++ bar 26
    ++ part 1
    ++ stay 161 31
    ++ fold 192 23
    ++ stay 215 1
    ++ fold 216 7
    ++ stay 223 33

abbrev pub FoldingRule : Type 0
FoldingRule = map fold_of (span 0 256) ≡ rule

-- what a code point folds to is neither barred nor parting, and folds to itself
abbrev pub again : Fold → Fold
again parting = parting
again barred = barred
again (to p) = fold_of p

abbrev pub FoldedTwice : Type 0
FoldedTwice = map again rule ≡ rule
