-- The earliest arrival over the lent arrays is that of the load's timetable.
use Rattle.std.specs.Prelude.{Option, Some}
use Rattle.std.specs.Option.{unwrap_or}
use Prim.Native.Nat.{ℕ, ◌+◌, ◌*◌, ◌<◌, min}
use mathlib.Core.Path.{◌≡◌, refl, sym, ap, ◌∙◌}
use mathlib.Core.List.{List, [], ◌∷◌, map, map-id, Memᴰ}
use native.Mathlib.Omega.{arith}
use lib.ListN.{length, get_or}
use Rattle.laws.specs.Lists.{concat_map, span}
use Rattle.laws.proofs.Agree.{concat_map-agree}
use Rattle.laws.proofs.Flat.{map-agree}
use Rattle.laws.proofs.Places.{concat_map-map}
use Rattle.ways.specs.Rides.{Leg, Network, rides}
use Rattle.ways.specs.Images.{leg_by, Images}
use Rattle.ways.proofs.ImageLaws.{rides-of-images}
use Rattle.ways.proofs.RideLaws.{rides-mem, listed_in}
use Rattle.calls.specs.declared.Call.{Call}
use Rattle.offers.specs.Order.{sort_first}
use Rattle.offers.specs.Offers.{Timetable, arrival_of, network_of}
use Rattle.offers.specs.Places.{InPlaces}
use Rattle.limited.specs.Margin.{alightings, target_arrivals, least_of, earliest}
use Rattle.search_input.specs.Feed as feed
use Rattle.search_input.specs.Feed.{call_at, target_walk_of}
use Rattle.rides.specs.Rows as by
use Rattle.rides.specs.Sheets.{joins_of, sheet_of}
use Rattle.rides.specs.Agree.{Agree}
use Rattle.rides.proofs.AgreeLaws.{target_below, place-below, same-network}
use Rattle.limited_rides.specs.Earliest.{sooner, soonest, ride_due}
use Rattle.limited_rides.proofs.DueLaws.{due-by-rides}
use Rattle.search_input_array.specs.Feeds.{Feeds}
use Rattle.load.specs.declared.Load.{Load}
use Rattle.search.specs.Timetable.{timetable_of}
use Rattle.search.specs.Rows.{feed_call, sheet_from, joins_from}
use Rattle.search.specs.Offered.{placed}
use Rattle.search.proofs.RowsLaws.{places}
use Rattle.search.proofs.OfferedLaws.{agrees}
use Rattle.search.proofs.FoundLaws.{in-places}

-- ---- the least of a list

soonest-least : (x : ℕ) (ds : List ℕ) → soonest (x ∷ ds) ≡ Some (least_of (x ∷ ds))
unfolding soonest sooner
soonest-least x [] = refl
soonest-least x (y ∷ ys) = ap (sooner (Some x)) (soonest-least y ys)

or-zero : (ds : List ℕ) → unwrap_or (soonest ds) 0 ≡ least_of ds
unfolding soonest
or-zero [] = refl
or-zero (x ∷ ds) = ap (λ (t : Option ℕ). unwrap_or t 0) (soonest-least x ds)

-- ---- a sheet that holds the timetable

module _ (f : List ℕ) (t : Timetable) (at : ℕ → Call) (n : ℕ)
    (a : Agree (sheet_of f) (sheet_from t at) (joins_of f []) (joins_from t at) 0 n) (p : InPlaces t at n) where
  abbrev N : Network ℕ
  N = by.network_of (sheet_of f) (joins_of f [])

  abbrev M : Network ℕ
  M = by.network_of (sheet_from t at) (joins_from t at)

  same : Images N M (λ i. i) 0 (span 0 n)
  same = same-network (sheet_of f) (sheet_from t at) (joins_of f []) (joins_from t at) 0 n a

  same-leg : (rs : List (Leg ℕ)) → map (leg_by (λ (i : ℕ). i)) rs ≡ rs
  same-leg rs = map-agree (leg_by (λ (i : ℕ). i)) (λ r. r) rs (λ r m. refl) ∙ map-id rs

  rides-are : rides (network_of t) (map at (span 0 n)) ≡ map (leg_by at) (rides N (span 0 n))
  rides-are =
      rides-of-images M (network_of t) at 0 (span 0 n) (places t at n 0)
      ∙ ap (map (leg_by at)) (ap (rides M) (sym (map-id (span 0 n))) ∙ rides-of-images N M (λ i. i) 0 (span 0 n) same
      ∙ same-leg (rides N (span 0 n)))

  due-at : ℕ → List ℕ
  due-at i = map (λ k. feed.arrival_of (target_walk_of f k) (call_at f i).arrival) (N.targets i)

  arrivals-at : Call → List ℕ
  arrivals-at c = map (λ k. arrival_of t k c.arrival) ((network_of t).targets c)

  at_place : (i : ℕ) → Memᴰ i (span 0 n) → arrivals-at (at i) ≡ due-at i
  unfolding arrivals-at due-at feed.arrival_of sheet_from sheet_of feed_call
  at_place i m =
      ap (map (λ k. arrival_of t k (at i).arrival)) ((places t at n 0).targets i m ∙ same.targets i m)
      ∙ map-agree (λ k. arrival_of t k (at i).arrival) (λ k. feed.arrival_of (target_walk_of f k) (call_at f i).arrival) (N.targets i)
      (λ k l. sym (λ q. a.arrival i (place-below n i m) q + a.target_walk k (target_below (sheet_of f) (joins_of f []) i k l) q * 60))

  arrivals-are : target_arrivals t ≡ concat_map (λ r. due-at r.a) (rides N (span 0 n))
  unfolding target_arrivals alightings arrivals-at
  arrivals-are =
      ap (λ (s : List Call). concat_map arrivals-at (map (λ r. r.a) (rides (network_of t) s))) p
      ∙ ap (λ (rs : List (Leg Call)). concat_map arrivals-at (map (λ r. r.a) rs)) rides-are
      ∙ concat_map-map (λ r. r.a) arrivals-at (map (leg_by at) (rides N (span 0 n)))
      ∙ concat_map-map (leg_by at) (λ r. arrivals-at r.a) (rides N (span 0 n))
      ∙ concat_map-agree (λ r. arrivals-at (at r.a)) (λ r. due-at r.a) (rides N (span 0 n))
      (λ r m. at_place r.a (listed_in N (span 0 n) r (rides-mem N (span 0 n) r m)).1)

  pub due-is : ride_due f n ≡ target_arrivals t
  unfolding due-at
  due-is = due-by-rides f [] n ∙ sym arrivals-are

-- 0 where no ride alights at a target
pub earliest_or : (t : Timetable) → unwrap_or (soonest (target_arrivals t)) 0 ≡ earliest t
unfolding earliest
earliest_or t = or-zero (target_arrivals t)

pub earliest-is : (l : Load) (cs : List Call) (f : List ℕ) (e : Option ℕ) → cs ≡ sort_first l.call_count l.calls → length cs ≡ 512
    → Feeds f cs (min l.call_count 512) l.stops l.settings → ((i : ℕ) → get_or f i 0 < 65536) → e ≡ soonest (ride_due f (min l.call_count 512))
    → e ≡ soonest (target_arrivals (timetable_of l))
earliest-is l cs f e order long w small ee =
    let n = min l.call_count 512 in
    ee ∙ ap soonest (due-is f (timetable_of l) (placed cs) n (agrees l cs f [] n 0 w small (omega arith) (λ one. absurd (omega arith)))
    (in-places l cs order long))
