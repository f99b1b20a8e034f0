-- The arrays that are lent to the loops hold the load's timetable, so what the loops offer is what the timetable offers.
use Rattle.std.specs.Prelude.{None, Option, Some}
use Prim.Native.Nat.{ℕ, ◌+◌, ◌*◌, ◌/◌, ◌%◌, ◌^◌, ◌≤◌, ◌<◌, min}
use mathlib.Core.Path.{◌≡◌, refl, sym, ap, ◌∙◌}
use mathlib.Core.Bool.{Bool, true, false, not, cond, ◌&&◌}
use mathlib.Core.List.{List, []}
use native.Mathlib.Omega.{arith}
use native.Mathlib.Nat.{zero-mod, zero-div}
use borrow.Author.Tests.{ltb-true, ltb-false, lt-ltb, le-ltb, lt-leb}
use lib.Dec.{leb, ltb, eqb}
use lib.ListN.{take, get_or}
use Rattle.laws.specs.Lists.{foldl}
use Rattle.laws.proofs.Bools.{cond-by, cond-not}
use Rattle.stops.specs.declared.Stop.{Stop}
use Rattle.stops.specs.Sound.{stop_at}
use Rattle.rules.specs.declared.Rule.{Rule}
use Rattle.calls.specs.declared.Call.{Call}
use Rattle.profile.specs.Kept.{going}
use Rattle.search_state.specs.View.{view}
use Rattle.candidate.specs.Offer.{offer_to}
use Rattle.candidate.proofs.OfferLaws.{offers-search}
use Rattle.places.specs.Places.{places_of}
use Rattle.transfer.specs.Changes.{transfer_of, joins_by, join_of, change_number}
use Rattle.transfer.specs.Copied.{parents_of}
use Rattle.transfer.specs.Rows.{entry_of}
use Rattle.offers.specs.Offers.{ride_of}
use Rattle.offers.specs.Places as by
use Rattle.search_input.specs.Feed.{call_at, member_at, origin_mask, target_mask, origin_walk_of, target_walk_of, change_at, joined}
use Rattle.rides.specs.Sheets.{joins_of, sheet_of}
use Rattle.rides.specs.Routes.{route_rows, rows_of}
use Rattle.rides.specs.Offered.{offer_all}
use Rattle.rides.specs.Rows.{first_of}
use Rattle.rides.specs.Agree.{Agree}
use Rattle.limited_rides.specs.declared.Tested.{Tested}
use Rattle.limited_rides.specs.RowEvents.{events_at}
use Rattle.limited_rides.specs.Within.{Within}
use Rattle.search_input_array.specs.Feeds.{Feeds}
use Rattle.transfer_array.specs.Named.{stop_in, HoldsChanges}
use Rattle.load.specs.declared.Load.{Load}
use Rattle.search.specs.Timetable.{change_in, joins_in, timetable_of}
use Rattle.search.specs.Offered.{placed, offered_of}
use Rattle.search.specs.Rows.{feed_call, sheet_from, joins_from, row_offers, Agrees}
use Rattle.search.specs.Events.{sheet_events, place_events}
use Rattle.search.proofs.RowsLaws.{same_rows}
use Rattle.search.proofs.EventsLaws.{same-events}

-- ---- members

-- the membership byte of the stop k, read at the number r that the feed has for it, or a part of the byte
module _ (f : List ℕ) (ss : List Stop) (past : (k : ℕ) → 128 ≤ k → (stop_at ss k).members ≡ 0) (part : ℕ → ℕ) (none : part 0 ≡ 0)
    (count : ℕ)
    (here : (k : ℕ) → k < 128 → part (get_or f (3072 + k) 0) % 16 ≡ part (stop_at ss k).members % 2 ^ min count 4) where
  member_of : (k r : ℕ) → r ≡ cond (ltb k 128) k 65535 → part (member_at f r) % 16 ≡ part (stop_at ss k).members % 2 ^ min count 4
  unfolding member_at
  member_of k r e = go (ltb k 128) refl
    where
      go : (b : Bool) → ltb k 128 ≡ b → part (cond (ltb r 128) (get_or f (3072 + r) 0) 0) % 16
          ≡ part (stop_at ss k).members % 2 ^ min count 4
      go true q =
          let same : r ≡ k = e ∙ cond-by k 65535 q in
          ap (λ (x : ℕ). part (cond (ltb x 128) (get_or f (3072 + x) 0) 0) % 16) same
          ∙ ap (λ (x : ℕ). part x % 16) (cond-by _ _ q) ∙ here k (ltb-true k 128 q)
      go false q =
          let far : r ≡ 65535 = e ∙ cond-not k 65535 q in
          let gone : (stop_at ss k).members ≡ 0 = past k (ltb-false k 128 q) in
          let left : part (cond (ltb r 128) (get_or f (3072 + r) 0) 0) % 16 ≡ 0 =
          ap (λ (x : ℕ). part (cond (ltb x 128) (get_or f (3072 + x) 0) 0) % 16) far ∙ ap (λ (x : ℕ). x % 16) none ∙ zero-mod 16 in
          let right : part (stop_at ss k).members % 2 ^ min count 4 ≡ 0 =
          ap (λ (x : ℕ). part x % 2 ^ min count 4) gone ∙ ap (λ (x : ℕ). x % 2 ^ min count 4) none ∙ zero-mod (2 ^ min count 4) in
          left ∙ sym right

-- ---- joins

-- an entry decides whether a ride joins
number-joins : (c : Option ℕ) (a d : ℕ) → d < 65536 → leb (a + change_number c) d ≡ joins_by c a d
number-joins (Some s) a d h = refl
number-joins None a d h = lt-leb (a + 65536) d (omega arith)

run-first : (run b : Bool) → (not run && b) ≡ cond run false b
run-first true b = refl
run-first false b = refl

never-later : (run : Bool) (a d : ℕ) → d < 65536 → (not run && leb (a + 65536) d) ≡ false
never-later true a d h = refl
never-later false a d h = lt-leb (a + 65536) d (omega arith)

-- the change read between two stops p and q, by the numbers r and s that the feed has for them
module _ (g : List ℕ) (p q r s : ℕ) (er : r ≡ cond (ltb p 128) p 65535) (es : s ≡ cond (ltb q 128) q 65535) where
  change-known : (entry : ℕ) → ltb p 128 ≡ true → ltb q 128 ≡ true → get_or g (r * 128 + s) 0 ≡ entry → change_at g r s ≡ entry
  unfolding change_at
  change-known entry ep eq here =
      let lp : p < 128 = ltb-true p 128 ep in
      let lq : q < 128 = ltb-true q 128 eq in
      let sr : r ≡ p = er ∙ cond-by p 65535 ep in
      let ss : s ≡ q = es ∙ cond-by q 65535 eq in
      cond-by _ _ (lt-ltb (r * 128 + s) 16384 (omega arith)) ∙ here

  change-far-from : ltb p 128 ≡ false → change_at g r s ≡ 65536
  unfolding change_at
  change-far-from ep =
      let sr : r ≡ 65535 = er ∙ cond-not p 65535 ep in
      cond-not _ _ (le-ltb (r * 128 + s) 16384 (omega arith))

  change-far-to : ltb q 128 ≡ false → change_at g r s ≡ 65536
  unfolding change_at
  change-far-to eq =
      let ss : s ≡ 65535 = es ∙ cond-not q 65535 eq in
      cond-not _ _ (le-ltb (r * 128 + s) 16384 (omega arith))

-- ---- the arrays hold the timetable

module _ (l : Load) (calls : List Call) (f g : List ℕ) (n depth : ℕ) (w : Feeds f calls n l.stops l.settings)
    (small : (i : ℕ) → get_or f i 0 < 65536) (few : n ≤ 512)
    (here : HoldsChanges g f n depth (λ p q. change_number (change_in l p q))) where
  below : (j : ℕ) → j < n → (placed calls j).departure < 65536
  below j h = omega (arith, small (j * 6 + 4), w.departure j h)

  abbrev runs : ℕ → ℕ → Bool
  runs i j = eqb (placed calls i).trip (placed calls j).trip && eqb (placed calls i).day (placed calls j).day

  -- what the loops test, of the calls at their places
  tested : (i o k j : ℕ) → i < n → k < n → j < n
      → joins_of f g (first_of (sheet_of f) i o k) j
      ≡ (not (runs i j) && leb ((placed calls k).arrival + change_at g (get_or f (k * 6 + 2) 0) (get_or f (j * 6 + 2) 0))
      (placed calls j).departure)
  unfolding joins_of joined first_of sheet_of call_at
  tested i o k j hi hk hj =
      λ p. not (eqb (w.trip i hi p) (w.trip j hj p) && eqb (w.day i hi p) (w.day j hj p))
      && leb (w.arrival k hk p + change_at g (get_or f (k * 6 + 2) 0) (get_or f (j * 6 + 2) 0)) (w.departure j hj p)

  joins-right : 1 ≤ depth → (i k j : ℕ) → k < n → j < n
      → (not (runs i j) && leb ((placed calls k).arrival + change_at g (stop_in f k) (stop_in f j)) (placed calls j).departure)
      ≡ joins_in l (ride_of (placed calls i) (placed calls k)) (placed calls j)
  joins-right one i k j hk hj = go (ltb (placed calls k).stop 128) refl (ltb (placed calls j).stop 128) refl
    where
      read : ℕ
      read = change_at g (stop_in f k) (stop_in f j)

      stop-of : (m : ℕ) → m < n → stop_in f m ≡ cond (ltb (placed calls m).stop 128) (placed calls m).stop 65535
      stop-of m h = w.stop m h

      known : ltb (placed calls k).stop 128 ≡ true → ltb (placed calls j).stop 128 ≡ true
          → read ≡ change_number (change_in l (placed calls k).stop (placed calls j).stop)
      known e q =
          let from : stop_in f k ≡ (placed calls k).stop = stop-of k hk ∙ cond-by (placed calls k).stop 65535 e in
          let to : stop_in f j ≡ (placed calls j).stop = stop-of j hj ∙ cond-by (placed calls j).stop 65535 q in
          change-known g (placed calls k).stop (placed calls j).stop (stop_in f k) (stop_in f j) (stop-of k hk) (stop-of j hj) _ e q
          (here one k j hk (omega arith) hj (omega arith) (omega (arith, from, ltb-true (placed calls k).stop 128 e))
          (omega (arith, to, ltb-true (placed calls j).stop 128 q))
          ∙ (λ i. change_number (change_in l (from i) (to i))))

      far : read ≡ 65536 → (not (runs i j) && leb ((placed calls k).arrival + read) (placed calls j).departure) ≡ false
      far e =
          ap (λ (x : ℕ). not (runs i j) && leb ((placed calls k).arrival + x) (placed calls j).departure) e
          ∙ never-later (runs i j) (placed calls k).arrival (placed calls j).departure (below j hj)

      go : (b : Bool) → ltb (placed calls k).stop 128 ≡ b → (c : Bool) → ltb (placed calls j).stop 128 ≡ c
          → (not (runs i j) && leb ((placed calls k).arrival + read) (placed calls j).departure)
          ≡ cond (b && c) (join_of (change_in l (placed calls k).stop (placed calls j).stop) (runs i j) (placed calls k).arrival
          (placed calls j).departure) false
      go true e true q =
          ap (λ (x : ℕ). not (runs i j) && leb ((placed calls k).arrival + x) (placed calls j).departure) (known e q)
          ∙ ap (λ (x : Bool). not (runs i j) && x) (number-joins (change_in l (placed calls k).stop (placed calls j).stop)
          (placed calls k).arrival (placed calls j).departure (below j hj))
          ∙ run-first (runs i j) (joins_by (change_in l (placed calls k).stop (placed calls j).stop) (placed calls k).arrival
          (placed calls j).departure)
      go true e false q = far (change-far-to g (placed calls k).stop (placed calls j).stop (stop_in f k) (stop_in f j) (stop-of k hk)
          (stop-of j hj) q)
      go false e c q = far (change-far-from g (placed calls k).stop (placed calls j).stop (stop_in f k) (stop_in f j) (stop-of k hk)
          (stop-of j hj) e)

  pub agrees : Agree (sheet_of f) (sheet_from (timetable_of l) (placed calls)) (joins_of f g)
      (joins_from (timetable_of l) (placed calls)) depth n
  unfolding sheet_of call_at origin_mask target_mask origin_walk_of target_walk_of timetable_of by.origin_mask by.target_mask by.mask_of
      feed_call sheet_from joins_from first_of
  agrees = record {
    trip = λ i k. w.trip i (omega arith);
    day = λ i k. w.day i (omega arith);
    arrival = λ i k. w.arrival i (omega arith);
    departure = λ i k. w.departure i (omega arith);
    board = λ i k. w.board i (omega arith);
    alight = λ i k. w.alight i (omega arith);
    origins = λ i k. member_of f l.stops w.past (λ x. x) refl l.settings.origins w.origins (placed calls i).stop (get_or f (i * 6 + 2) 0)
        (w.stop i (omega arith));
    targets = λ i k. member_of f l.stops w.past (λ x. x / 16) (zero-div 16) l.settings.targets w.targets (placed calls i).stop
        (get_or f (i * 6 + 2) 0) (w.stop i (omega arith));
    origin_walk = λ o k. w.origin_walk o k;
    target_walk = λ x k. w.target_walk x k;
    joined = λ one i o k j a lo b c. tested i o k j (omega arith) (omega arith) (omega arith) ∙ joins-right one i k j b c;
  }

-- ---- the state after every offer

max-is : (l : Load) → l.settings.max_transfers ≡ (timetable_of l).max_transfers
unfolding timetable_of
max-is l = refl

entry-number : (l : Load) (rules : List Rule) (p q : ℕ) → rules ≡ take l.rule_count l.rules
    → entry_of rules (parents_of l.stops) (places_of (take l.stop_count l.stops)) p l.settings.transfer_seconds q
    ≡ change_number (change_in l p q)
unfolding entry_of
entry-number l rules p q e =
    ap (λ (rs : List Rule). change_number (transfer_of rs (parents_of l.stops)
    (places_of (take l.stop_count l.stops)) p q l.settings.transfer_seconds)) e

-- the changes by the rules, parents and places of the load
pub changes-are : (l : Load) (f g : List ℕ) (rules : List Rule) (parents places : List ℕ) (change depth : ℕ)
    → rules ≡ take l.rule_count l.rules → parents ≡ parents_of l.stops → places ≡ places_of (take l.stop_count l.stops)
    → change ≡ l.settings.transfer_seconds → depth ≡ l.settings.max_transfers
    → HoldsChanges g f l.call_count depth (λ p q. entry_of rules parents places p change q)
    → HoldsChanges g f l.call_count l.settings.max_transfers (λ p q. change_number (change_in l p q))
changes-are l f g rules parents places change depth er ep el ec ed here =
    λ one k j hk few hj most near next. here (omega (arith, ed, one)) k j hk few hj most near next
    ∙ (λ i. entry_of (er i) (ep i) (el i) (stop_in f k) (ec i) (stop_in f j))
    ∙ entry-number l (take l.rule_count l.rules) (stop_in f k) (stop_in f j) refl

module _ (l : Load) (calls : List Call) (f g : List ℕ) (depth : ℕ) (w : Feeds f calls (min l.call_count 512) l.stops l.settings)
    (small : (i : ℕ) → get_or f i 0 < 65536)
    (here : HoldsChanges g f l.call_count l.settings.max_transfers (λ p q. change_number (change_in l p q)))
    (ed : depth ≡ l.settings.max_transfers) where
  abbrev first : ℕ
  first = min l.call_count 512

  held : Agrees (sheet_of f) (joins_of f g) (timetable_of l) (placed calls) first
  unfolding timetable_of
  held = agrees l calls f g first l.settings.max_transfers w small (omega arith)
      (λ one k j hk few hj most near next. here one k j (omega arith) few (omega arith) most near next)

  pub offered-is : (st st' : List ℕ) → view st ≡ going [] l.table_horizon l.table_limits
      → view st' ≡ offer_all (view st) (rows_of f g l.call_count depth)
      → view st' ≡ offered_of l calls
  unfolding offered_of offer_all rows_of
  offered-is st st' e0 e1 =
      let same : route_rows (sheet_of f) (joins_of f g) depth first ≡ row_offers (timetable_of l) (placed calls) first =
      same_rows (sheet_of f) (joins_of f g) (timetable_of l) (placed calls) first depth held (ed ∙ max-is l) in
      e1 ∙ (λ i. foldl offer_to (e0 i) (same i)) ∙ offers-search l.table_horizon l.table_limits
      (row_offers (timetable_of l) (placed calls) first)

  -- the events that the loops come to within a limit are those of the timetable
  events-are : events_at f g l.call_count depth ≡ place_events (timetable_of l) (placed calls) first
  unfolding events_at sheet_events
  events-are = same-events (sheet_of f) (joins_of f g) (timetable_of l) (placed calls) first depth held (ed ∙ max-is l)

  pub within-is : {st st' : List ℕ} {limit : ℕ} {r : Tested} → Within st st' limit (events_at f g l.call_count depth) r
      → Within st st' limit (place_events (timetable_of l) (placed calls) first) r
  within-is w = rw (← events-are) w

-- ---- without changes

none-read : (l : Load) (f g : List ℕ) → l.settings.max_transfers ≡ 0
    → HoldsChanges g f l.call_count l.settings.max_transfers (λ p q. change_number (change_in l p q))
none-read l f g e = λ one k j hk few hj most near next. absurd (omega (arith, one, e))

module _ (l : Load) (calls : List Call) (f g : List ℕ) (w : Feeds f calls (min l.call_count 512) l.stops l.settings)
    (small : (i : ℕ) → get_or f i 0 < 65536) (e : l.settings.max_transfers ≡ 0) where
  pub direct-is : (st st' : List ℕ) → view st ≡ going [] l.table_horizon l.table_limits
      → view st' ≡ offer_all (view st) (rows_of f g l.call_count 0) → view st' ≡ offered_of l calls
  direct-is st st' e0 e1 = offered-is l calls f g 0 w small (none-read l f g e) (sym e) st st' e0 e1

  pub direct-within : {st st' : List ℕ} {limit : ℕ} {r : Tested} → Within st st' limit (events_at f g l.call_count 0) r
      → Within st st' limit (place_events (timetable_of l) (placed calls) (min l.call_count 512)) r
  direct-within u = within-is l calls f g 0 w small (none-read l f g e) (sym e) u
