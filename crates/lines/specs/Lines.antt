-- The lines that are printed of a load: one for each kept journey in list order, then horizon and limits; or the refusal alone.
use Rattle.refusal.specs.First.{Answer}
use Rattle.refusal.specs.declared.Accepted.TheVariants.{Taken, Outside}
use Rattle.std.specs.Prelude.{ℕ, ◌≤◌, ◌≡◌, List, [], ◌∷◌, ◌++◌, length, take, Err, Ok}
use Rattle.laws.specs.Lists.{concat_map}
use Rattle.refusal.specs.Causes.{number_of}
use Rattle.profile.specs.declared.Journey.{Journey}
use Rattle.load.specs.declared.Load.{Load}
use Rattle.best.specs.Best.{kept_of}
use Rattle.lines.specs.Decimal.{spaced}

-- "journey": leave, arrival, rides, walk in minutes, origin, target
unfoldable pub journey_text : Journey → List ℕ
journey_text j =
    106 ∷ 111 ∷ 117 ∷ 114 ∷ 110 ∷ 101 ∷ 121
    ∷ (spaced j.leave ++ (spaced j.arrival ++ (spaced j.rides ++ (spaced j.walk ++ (spaced j.origin ++ spaced j.target)))))

unfoldable pub journey_line_of : Journey → List ℕ
journey_line_of j = journey_text j ++ (10 ∷ [])

-- "horizon", and "limits"
unfoldable pub horizon_line_of : ℕ → ℕ → List ℕ
horizon_line_of horizon limits =
    104 ∷ 111 ∷ 114 ∷ 105 ∷ 122 ∷ 111 ∷ 110 ∷ (spaced horizon ++ (32 ∷ 108 ∷ 105 ∷ 109 ∷ 105 ∷ 116 ∷ 115 ∷ (spaced limits ++ (10 ∷ []))))

-- "refused", and the number of the cause
unfoldable pub refused_line_of : ℕ → List ℕ
refused_line_of number = 114 ∷ 101 ∷ 102 ∷ 117 ∷ 115 ∷ 101 ∷ 100 ∷ (spaced number ++ (10 ∷ []))

unfoldable pub load_lines : Load → List ℕ
load_lines l = concat_map journey_line_of (kept_of l) ++ horizon_line_of l.horizon l.limits

-- after the last record was answered so
unfoldable pub lines_of : Answer → Load → List ℕ
lines_of (Ok Taken) l = load_lines l
lines_of (Ok Outside) l = load_lines l
lines_of (Err r) l = refused_line_of (number_of r)

-- the first n bytes of the buffer can be lent
abbrev pub Counts : ℕ → List ℕ → Type 0
Counts n buffer = (n ≤ length buffer) × (n ≡ length (take n buffer))
