-- "`transfer`: among rules whose from is the stop or its parent, likewise to", the one with both sides exact, then with its from side, then
-- with its to side. Request 06: "Now the one exact on the from side wins, whichever came last. Full exactness still comes first."
use Rattle.std.specs.Prelude.{Bool, true, false, cond, ◌&&◌, ◌||◌, List, ℕ, ◌+◌, ◌*◌, leb, eqb, None, Option, Some}
use Rattle.laws.specs.Lists.{foldl}
use Rattle.rules.specs.declared.Rule.{Rule}
use Rattle.transfer.specs.declared.Ends.{Ends}

-- a number of a rule is the stop or its parent. A stop without a parent has 65535 there, and no rule of a sound load names 65535.
abbrev pub side : ℕ → ℕ → ℕ → Bool
side x stop parent = eqb x stop || eqb x parent

abbrev pub applies : Ends → Rule → Bool
applies e r = side r.from e.from e.from_parent && side r.to e.to e.to_parent

abbrev pub bit : Bool → ℕ
bit true = 1
bit false = 0

-- how exact a rule is: 2 for its from, 1 for its to, where that is the stop itself
abbrev pub rank : Ends → Rule → ℕ
rank e r = 2 * bit (eqb r.from e.from) + bit (eqb r.to e.to)

-- the order of rules: whether `new`, taken after `old`, is chosen before it. Of a load no two that apply have one rank (`RanksDiffer`)
abbrev pub better : Ends → Rule → Rule → Bool
better e old new = leb (rank e old) (rank e new)

-- the rule that holds among those read, and one more
abbrev pub read : Ends → Option Rule → Rule → Option Rule
read e None r = cond (applies e r) (Some r) None
read e (Some b) r = cond (applies e r) (cond (better e b r) (Some r) (Some b)) (Some b)

abbrev pub chosen : Ends → List Rule → Option Rule
chosen e rules = foldl (read e) None rules
