-- The lines of a load with the rides of each kept journey, and whether it was searched.
use Rattle.refusal.specs.First.{Answer}
use Rattle.refusal.specs.declared.Accepted.TheVariants.{Taken, Outside}
use Rattle.std.specs.Prelude.{ℕ, Bool, true, false, cond, List, [], ◌∷◌, ◌++◌, leb, Err, Ok}
use Rattle.laws.specs.Lists.{concat_map}
use Rattle.refusal.specs.Causes.{number_of}
use Rattle.profile.specs.declared.Journey.{Journey}
use Rattle.profile.specs.declared.Ride.{Ride}
use Rattle.load.specs.declared.Load.{Load}
use Rattle.best.specs.Best.{kept_of}
use Rattle.lines.specs.Decimal.{spaced, bit}
use Rattle.lines.specs.Lines.{journey_text, journey_line_of, horizon_line_of, refused_line_of, load_lines, lines_of}

-- " |": trip, day, stops where it boards and alights, departure and arrival in seconds from the start, and 1 where it boards, and where
-- it alights, on request
unfoldable pub ride_text : Ride → List ℕ
ride_text r =
    32 ∷ 124
    ∷ (spaced r.trip ++ (spaced r.day ++ (spaced r.from ++ (spaced r.to
    ++ (spaced r.departure ++ (spaced r.arrival ++ (spaced (bit r.board_request) ++ spaced (bit r.alight_request))))))))

-- the first; of three rides the middle one; of two or three the last
unfoldable pub rides_of : Journey → List Ride
rides_of j = j.first ∷ (cond (leb 3 j.rides) (j.middle ∷ []) [] ++ cond (leb 2 j.rides) (j.last ∷ []) [])

-- the journey's figures, then its rides
unfoldable pub ride_line : Journey → List ℕ
ride_line j = journey_text j ++ (concat_map ride_text (rides_of j) ++ (10 ∷ []))

-- "searched", and 1 or 0
unfoldable pub searched_line : Bool → List ℕ
searched_line b = 115 ∷ 101 ∷ 97 ∷ 114 ∷ 99 ∷ 104 ∷ 101 ∷ 100 ∷ (spaced (bit b) ++ (10 ∷ []))

unfoldable pub load_rides : Load → List ℕ
load_rides l = concat_map ride_line (kept_of l) ++ (horizon_line_of l.horizon l.limits ++ searched_line l.searched)

-- after the last record was answered so
unfoldable pub ride_lines_of : Answer → Load → List ℕ
ride_lines_of (Ok Taken) l = load_rides l
ride_lines_of (Ok Outside) l = load_rides l
ride_lines_of (Err r) l = refused_line_of (number_of r)

-- ---- the same functions put both: with rides, or without
unfoldable pub line_for : Bool → Journey → List ℕ
line_for rides j = cond rides (ride_line j) (journey_line_of j)

unfoldable pub load_for : Bool → Load → List ℕ
load_for true l = load_rides l
load_for false l = load_lines l

unfoldable pub lines_for : Bool → Answer → Load → List ℕ
lines_for true a l = ride_lines_of a l
lines_for false a l = lines_of a l

-- how many bytes they are at most
unfoldable pub line_most : Bool → ℕ
line_most rides = cond rides 194 44

unfoldable pub lines_most : Bool → ℕ
lines_most rides = cond rides 12458 2843
