-- A search that goes on, with the joins that are left, or is over: refused, or stopped at a join past the limit. What is over stays as it
-- is.
use Rattle.std.specs.Prelude.{◌≡◌, Bool, true, false, cond, List, ℕ, zero, suc, ◌-◌, leb, Option, Some, None}
use Rattle.laws.specs.Lists.{foldl}
use Rattle.profile.specs.Found.{Row}
use Rattle.profile.specs.Kept.{SearchState, going, refused}
use Rattle.search_state.specs.View.{view}
use Rattle.candidate.specs.Offer.{offer_to}
use Rattle.counted.specs.Events.{Event, tested, offered, offers_of, joins_in, up_to}
use Rattle.counted.specs.Joins.{Join}
use Rattle.rides.specs.Offered.{After}

-- an event of a search over places: a join of a first ride and a last ride, or the row of a journey
abbrev pub RowEvent : Type 0
RowEvent = Event (Join ℕ) Row

pub data Run : Type 0 where
  on : SearchState Row → ℕ → Run
  over : SearchState Row → Run

-- a state with n joins left; a refused search is over
unfoldable pub go_on : SearchState Row → ℕ → Run
go_on (going ks h l) n = on (going ks h l) n
go_on refused n = over refused

unfoldable pub meet : Run → RowEvent → Run
meet (over s) e = over s
meet (on s n) (offered o) = go_on (offer_to s o) n
meet (on s zero) (tested j) = over s
meet (on s (suc n)) (tested j) = on s n

-- the events, one after the other
unfoldable pub meet_all : Run → List RowEvent → Run
meet_all y es = foldl meet y es

-- m joins whose offers are not made
unfoldable pub skip : ℕ → Run → Run
skip m (over s) = over s
skip m (on s n) = cond (leb m n) (on s (n - m)) (over s)

unfoldable pub is_over : Run → Bool
is_over (on s n) = false
is_over (over s) = true

-- the state, whether it is over or not
unfoldable pub state_of : Run → SearchState Row
state_of (on s n) = s
state_of (over s) = s

-- the state s with the joins left; with none of them the search has stopped
unfoldable pub run_at : SearchState Row → Option ℕ → Run
run_at s (Some n) = go_on s n
run_at s None = over s

-- whether m joins are left
unfoldable pub has_left : Option ℕ → ℕ → Bool
has_left (Some n) m = leb m n
has_left None m = false

-- an array and the joins left, and the search that they are
pub record At : Type 0 where
  pub state : List ℕ
  pub joins : Option ℕ

abbrev pub seen : At → Run
seen a = run_at (view a.state) a.joins

-- the array l' and k' are the state and the joins left of l and k after the events
abbrev pub Met : List ℕ → Option ℕ → List ℕ → Option ℕ → List RowEvent → Type 0
Met l k l' k' es = After seen meet (record { state = l; joins = k }) (record { state = l'; joins = k' }) es

-- k' is what is left of k after m joins, whatever the state
pub record Spent (k k' : Option ℕ) (m : ℕ) : Type 0 where
  pub is : (s : SearchState Row) → run_at s k' ≡ skip m (run_at s k)

-- ---- what is claimed

-- the state is that after the offers up to the limit
abbrev pub RunStates : Type 0
RunStates = (s : SearchState Row) (n : ℕ) (es : List RowEvent) → state_of (meet_all (go_on s n) es)
    ≡ foldl offer_to s (offers_of (up_to n es))

-- where it is not refused: it goes on exactly if there are no more joins than n, with what is left of these
abbrev pub RunFinishes : Type 0
RunFinishes = (s : SearchState Row) (n : ℕ) (es : List RowEvent) → (state_of (meet_all (go_on s n) es) ≡ refused → ⊥)
    → meet_all (go_on s n) es
    ≡ cond (leb (joins_in es) n) (on (foldl offer_to s (offers_of es)) (n - joins_in es))
    (over (foldl offer_to s (offers_of (up_to n es))))
