-- What is proved of changes: which rule is chosen, what it gives, and that a row decides joins.
use Rattle.std.specs.Option.{unwrap_or}
use Rattle.std.specs.Prelude.{◌≡◌, true, false, ℕ, ◌+◌, ◌≤◌, ◌<◌, leb, get_or, take, None, Option, Some}
use mathlib.Core.List.{List, [], ◌++◌, ◌∷◌, Memᴰ, Permᴰ}
use Rattle.rules.specs.declared.Rule.{Rule}
use Rattle.rules.specs.Sound.{rule_at, RulesSound}
use Rattle.stops.specs.declared.Stop.{Stop}
use Rattle.stops.specs.Sound.{stop_at}
use Rattle.transfer.specs.declared.Ends.{Ends}
use Rattle.transfer.specs.Choice.{applies, chosen, rank}
use Rattle.transfer.specs.Changes.{transfer_of, ends_of_of, joins_by}
use Rattle.transfer.specs.Copied.{parents_of}
use Rattle.transfer.specs.Rows.{change_row}
use Rattle.stops.specs.Sizes.{stop_room, no_stop}

-- the rank of a rule: both sides exact, the from side, the to side, neither
pub record Ranked (e : Ends) (r : Rule) : Type 0 where
  pub both : r.from ≡ e.from → r.to ≡ e.to → rank e r ≡ 3
  pub fore : r.from ≡ e.from → (r.to ≡ e.to → ⊥) → rank e r ≡ 2
  pub rear : (r.from ≡ e.from → ⊥) → r.to ≡ e.to → rank e r ≡ 1
  pub neither : (r.from ≡ e.from → ⊥) → (r.to ≡ e.to → ⊥) → rank e r ≡ 0

abbrev pub RankRight : Type 0
RankRight = (e : Ends) (r : Rule) → Ranked e r

-- r is a rule of l that applies. Of those that apply, none before it ranks higher, and each behind it lower: as numbers, and not by the
-- test that the choice uses
pub record Best (e : Ends) (l : List Rule) (r : Rule) : Type 0 where
  pub before : List Rule
  pub behind : List Rule
  pub split : l ≡ before ++ r ∷ behind
  pub fits : applies e r ≡ true
  pub older : (q : Rule) → Memᴰ q before → applies e q ≡ true → rank e q ≤ rank e r
  pub newer : (q : Rule) → Memᴰ q behind → applies e q ≡ true → rank e q < rank e r

abbrev pub Right : Ends → List Rule → Option Rule → Type 0
Right e l None = (q : Rule) → Memᴰ q l → applies e q ≡ false
Right e l (Some r) = Best e l r

-- the rule chosen has the highest rank; none is chosen where none applies. Of equals, which no load has, it is the last
abbrev pub ChosenRight : Type 0
ChosenRight = (e : Ends) (rules : List Rule) → Right e rules (chosen e rules)

-- type 3 forbids
abbrev pub TypeThreeForbids : Type 0
TypeThreeForbids =
    (rules : List Rule) (parents places : List ℕ) (from to change : ℕ) (r : Rule)
    → chosen (ends_of_of parents from to) rules ≡ Some r → r.transfer_type ≡ 3 → transfer_of rules parents places from to change ≡ None

-- q and r are one rule but for the seconds of types 0 and 1, which may differ and be given or not
pub record ButSeconds (q r : Rule) : Type 0 where
  pub from : q.from ≡ r.from
  pub to : q.to ≡ r.to
  pub kind : q.transfer_type ≡ r.transfer_type
  pub seconds : (r.transfer_type ≡ 0 → ⊥) → (r.transfer_type ≡ 1 → ⊥) → q.seconds ≡ r.seconds

pub data AllButSeconds : List Rule → List Rule → Type 0 where
  none : AllButSeconds [] []
  more : {q r : Rule} {qs rs : List Rule} → ButSeconds q r → AllButSeconds qs rs → AllButSeconds (q ∷ qs) (r ∷ rs)

-- the seconds of types 0 and 1 never decide: lists of rules that differ in those alone give every pair of stops the same change
abbrev pub SecondsOfTypeTwo : Type 0
SecondsOfTypeTwo =
    (qs rs : List Rule) (parents places : List ℕ) (from to change : ℕ) → AllButSeconds qs rs
    → transfer_of qs parents places from to change ≡ transfer_of rs parents places from to change

-- no two rules of a sound load are for one pair
abbrev pub PairOnce : Type 0
PairOnce =
    (stops : ℕ) (rules : List Rule) (count : ℕ) → RulesSound stops rules count
    → (j k : ℕ) → j < count → k < count → (rule_at rules j).from ≡ (rule_at rules k).from → (rule_at rules j).to ≡ (rule_at rules k).to
    → j ≡ k

-- of a load's rules that apply to a pair of stops no two have the same rank, so no tie is left
abbrev pub RanksDiffer : Type 0
RanksDiffer =
    (stops : ℕ) (rules : List Rule) (count : ℕ) → RulesSound stops rules count
    → (e : Ends) (j k : ℕ) → j < count → k < count → applies e (rule_at rules j) ≡ true → applies e (rule_at rules k) ≡ true
    → rank e (rule_at rules j) ≡ rank e (rule_at rules k) → j ≡ k

-- the change between two stops doesn't depend on the order in which a load's rules were taken
abbrev pub TransferInAnyOrder : Type 0
TransferInAnyOrder =
    (stops : ℕ) (rules : List Rule) (count : ℕ) → RulesSound stops rules count
    → (others : List Rule) → Permᴰ (take count rules) others
    → (parents places : List ℕ) (from to change : ℕ)
    → transfer_of (take count rules) parents places from to change ≡ transfer_of others parents places from to change

-- no rule of a sound load names 65535, so a stop without a parent is matched by its own number alone
abbrev pub NoneNotNamed : Type 0
NoneNotNamed =
    (stops : ℕ) (rules : List Rule) (count : ℕ) → stops ≤ stop_room → RulesSound stops rules count
    → (k : ℕ) → k < count → ((rule_at rules k).from ≡ no_stop → ⊥) × ((rule_at rules k).to ≡ no_stop → ⊥)

-- an entry of a row decides whether a ride joins
abbrev pub RowJoins : Type 0
RowJoins =
    (rules : List Rule) (parents places : List ℕ) (from change to arrival departure : ℕ) → to < stop_room → departure < 65536
    → leb (arrival + get_or (change_row rules parents places from change) to 0) departure
    ≡ joins_by (transfer_of rules parents places from to change) arrival departure

-- the parent that is read for a stop is that of its record
abbrev pub ParentRead : Type 0
ParentRead = (stops : List Stop) (k : ℕ) → k < stop_room → get_or (parents_of stops) k no_stop ≡ unwrap_or (stop_at stops k).parent no_stop
