-- A list given for a group: by its parts, and of a file as its load is given.
use Rattle.std.specs.Prelude.{is_some}
use mathlib.Core.Path.{◌≡◌, refl, sym, ap, ◌∙◌}
use mathlib.Core.Bool.{Bool, true, false, cond}
use mathlib.Core.List.{List, [], ◌∷◌, ◌++◌}
use Prim.Native.Nat.{ℕ, zero, suc, ◌-◌, ◌<◌}
use native.Mathlib.Omega.{arith}
use lib.Dec.{leb}
use lib.IntN.{ℤ}
use lib.ListN.{length, get_or, replicate, take-append-drop}
use lib.Seq.{ext_get_or, length-take-le}
use Rattle.laws.specs.Tables.{table}
use Rattle.laws.proofs.Tables.{get_d-table, length-table}
use Rattle.profile.specs.declared.Journey.{Journey}
use Rattle.profile.specs.Journeys.{no_journey}
use Rattle.load.specs.declared.Load.{Load}
use Rattle.load.specs.Sound.{Sound}
use Rattle.best.specs.Best.{kept_of}
use Rattle.file.specs.File.{read_spec_of}
use Rattle.timetable.specs.declared.list.TimetableList.{TimetableList}
use Rattle.timetable.specs.Journeys.{journey_row, journey_of, no_row}
use Rattle.timetable.specs.List.{row_at, rows_of, state_of, load_list}
use Rattle.timetable.specs.Displays.{journeys_of, group_of, GroupOfFile}
use Rattle.timetable.proofs.JourneyLaws.{journey-of-row}
use Rattle.timetable.proofs.QueryLaws.{read-sound, taken-list}

pub group-made : (n : ℕ) (l : TimetableList) {z : ℤ} {m : ℕ} {js : List Journey} → z ≡ l.now → m ≡ l.count → js ≡ journeys_of l.journey
    → record { number = n; searched = leb 2 l.state; now = z; horizon = l.horizon; count = m; journeys = js } ≡ group_of n l
unfolding group_of
group-made n l p r q = λ i. record {
  number = n;
  searched = leb 2 l.state;
  now = p i;
  horizon = l.horizon;
  count = r i;
  journeys = q i;
}

-- ---- of a file

module _ (d : Journey) where
  all-same : (n k : ℕ) → get_or (replicate n d) k d ≡ d
  all-same zero k = refl
  all-same (suc n) zero = refl
  all-same (suc n) (suc k) = all-same n k

  padded-same : (ks : List Journey) (n k : ℕ) → get_or (ks ++ replicate n d) k d ≡ get_or ks k d
  padded-same [] n k = all-same n k
  padded-same (x ∷ ks) n zero = refl
  padded-same (x ∷ ks) n (suc k) = padded-same ks n k

-- the journeys of its rows are the load's
rows-back : (ks : List Journey) (k : ℕ) → k < 64 → get_or (journeys_of (rows_of ks)) k no_journey ≡ get_or ks k no_journey
unfolding journeys_of rows_of row_at
rows-back ks k below =
    get_d-table (λ (i : ℕ). journey_of (get_or (table 64 (λ (j : ℕ). journey_row (get_or ks j no_journey))) i no_row)) no_journey 64 k below
    ∙ ap journey_of (get_d-table (λ (j : ℕ). journey_row (get_or ks j no_journey)) no_row 64 k below)
    ∙ journey-of-row (get_or ks k no_journey)

long-back : (ks : List Journey) → length (journeys_of (rows_of ks)) ≡ 64
unfolding journeys_of
long-back ks = length-table (λ (i : ℕ). journey_of (get_or (rows_of ks) i no_row)) 64

journeys-back : (l : Load) → Sound l → journeys_of (rows_of (kept_of l)) ≡ l.journeys
journeys-back l s =
    let whole : kept_of l ++ replicate (64 - l.journey_count) no_journey ≡ l.journeys =
    ap (λ (js : List Journey). kept_of l ++ js) (sym s.blank) ∙ take-append-drop l.journey_count l.journeys in
    let long = long-back (kept_of l) in
    ext_get_or no_journey _ _ (long ∙ sym s.long)
    (λ k below.
    rows-back (kept_of l) k (omega (arith, long, below))
    ∙ sym (padded-same no_journey (kept_of l) (64 - l.journey_count) k) ∙ ap (λ (js : List Journey). get_or js k no_journey) whole)

searched-is : (b c : Bool) → leb 2 (cond b (cond c 2 3) 1) ≡ b
searched-is true true = refl
searched-is true false = refl
searched-is false c = refl

group-of-load : (l : Load) (k n : ℕ) → Sound l → group_of n (load_list k l) ≡ Rattle.groups.specs.Groups.group_of n l
unfolding group_of load_list state_of
group-of-load l k n s =
    let few = s.few in
    let long = s.long in
    let counts = length-take-le l.journey_count l.journeys (omega (arith, few, long)) in
    λ i. record {
      number = n;
      searched = searched-is l.searched (is_some l.limit) i;
      now = l.settings.now;
      horizon = l.horizon;
      count = counts i;
      journeys = journeys-back l s i;
    }

pub group-of-file : GroupOfFile
group-of-file xs e n =
    let l = (read_spec_of xs).reader.load in
    ap (group_of n) (taken-list l e) ∙ group-of-load l 0 n (read-sound xs e)
