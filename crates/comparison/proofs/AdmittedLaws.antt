-- What the program admits of a list is what is admitted by the relation stated here, both ways.
use Rattle.std.specs.Prelude.{None, Option, Some}
use Prim.Native.Nat.{ℕ, ◌+◌, ◌-◌, ◌*◌, ◌/◌, ◌%◌, ◌^◌, ◌≤◌, ◌<◌}
use mathlib.Core.Path.{◌≡◌, refl, sym, ap, subst, ◌∙◌}
use mathlib.Core.Logic.{◌⊎◌, inl, inr, ◌↔◌}
use mathlib.Core.Bool.{true}
use mathlib.Core.List.Memᴰ
use mathlib.Core.List.{List, [], ◌∷◌, Memᴰ}
use native.Mathlib.Omega.{arith}
use lib.ListN.{get_or, take}
use Rattle.settings.specs.declared.Settings.{Settings}
use Rattle.settings.specs.Settings.{canonical_of}
use Rattle.calls.specs.declared.CallInput.{CallInput}
use Rattle.calls.specs.declared.Call.{Call}
use Rattle.calls.specs.Calls.{window}
use Rattle.calls.specs.Shown.{shown, windowed}
use Rattle.calls.specs.Sound.{AtStop}
use Rattle.calls.proofs.SoundLaws.{all-mem}
use Rattle.stops.specs.Sound.{stop_at}
use Rattle.profile.specs.declared.Ride.{Ride}
use Rattle.profile.specs.declared.Journey.{Journey}
use Rattle.profile.specs.Journeys.{no_ride}
use Rattle.load.specs.declared.Load.{Load}
use Rattle.load.specs.FillStep.{FillStep}
use Rattle.offers.specs.Offers.{Timetable, ride_of, direct_of, change_of, three_of, journey_of}
use Rattle.offers.specs.Admitted as by-load
use Rattle.search.specs.Timetable.{timetable_of}
use Rattle.comparison.specs.Taken.{StopGiven, stops_in, calls_in}
use Rattle.comparison.specs.Window.{Seen}
use Rattle.comparison.specs.Admitted.{Feed, Member, Leg, IsRide, Between, Direct, Changing, Through, Admits}
use Rattle.comparison.proofs.NthLaws.{nth-below, nth-one}
use Rattle.comparison.proofs.WindowLaws.{seen-shown, window-seen}
use Rattle.comparison.proofs.StartLaws.{Start, feed_from}
use Rattle.comparison.proofs.SettingLaws.{Opened, walk_kept, digit_set, set-digit, upper}
use Rattle.comparison.proofs.JoinLaws.{joins-in, joins-out}

-- ---- calls through the window

shown-mem : (v : Option Call) (c : Call) → Memᴰ c (shown v) → v ≡ Some c
shown-mem (Some d) c m = ap Some (sym (Memᴰ.eq_of_singleton m))
shown-mem None c m = absurd (Memᴰ.not-nil m)

windowed-mem : (s : Settings) (h : ℕ) (is : List CallInput) (c : Call) → Memᴰ c (windowed s h is)
    → (i : CallInput) × Memᴰ i is × (window s h i ≡ Some c)
windowed-mem s h [] c m = absurd (Memᴰ.not-nil m)
windowed-mem s h (i ∷ is) c m = go (Memᴰ.append_cases (shown (window s h i)) m) (λ n. windowed-mem s h is c n)
  where
    go : Memᴰ c (shown (window s h i)) ⊎ Memᴰ c (windowed s h is)
        → (Memᴰ c (windowed s h is) → (j : CallInput) × Memᴰ j is × (window s h j ≡ Some c))
        → (j : CallInput) × Memᴰ j (i ∷ is) × (window s h j ≡ Some c)
    go (inl n) ih = (i, Memᴰ.head refl, shown-mem (window s h i) c n)
    go (inr n) ih = let (j, k, e) = ih n in (j, Memᴰ.tail k, e)

mem-windowed : (s : Settings) (h : ℕ) (c : Call) {i : CallInput} {is : List CallInput} → Memᴰ i is → window s h i ≡ Some c
    → Memᴰ c (windowed s h is)
mem-windowed s h c (Memᴰ.head {x = j} {xs = js} q) e =
    Memᴰ.append_left (windowed s h js) (subst (λ (v : Option Call). Memᴰ c (shown v)) (sym (ap (window s h) (sym q) ∙ e)) (Memᴰ.head refl))
mem-windowed s h c (Memᴰ.tail {x = j} {xs = js} m) e = Memᴰ.append_right (shown (window s h j)) (mem-windowed s h c m e)

-- the window reads the clock alone, which a load holds as it was given
pub window_same : (s : Settings) (h : ℕ) (i : CallInput) → window (canonical_of s) h i ≡ window s h i
unfolding canonical_of window
window_same s h i = refl

pub ride-is : (b a : Call) (r : Ride) → IsRide b a r → r ≡ ride_of b a
ride-is b a r w = λ k. record {
  trip = w.trip k;
  day = w.day k;
  from = w.from k;
  to = w.to k;
  departure = w.departure k;
  arrival = w.arrival k;
  board_request = w.board k;
  alight_request = w.alight k;
}

pub is-ride : (b a : Call) → IsRide b a (ride_of b a)
is-ride b a = record { trip = refl; day = refl; from = refl; to = refl; departure = refl; arrival = refl; board = refl; alight = refl }

module _ (s : Settings) (p : Load) (fs : List FillStep) (w : Start s p fs) (o : Opened s) where
  abbrev F : Feed
  F = feed_from s p fs

  abbrev calls : List Call
  calls = take p.call_count p.calls

  abbrev h : ℕ
  h = p.table_horizon

  pub known : (c : Call) → Memᴰ c calls → c.stop < p.stop_count
  known c m = all-mem (AtStop p.stop_count) calls w.sound.calls_known c m

  call-in : (c : Call) → Memᴰ c calls → (i : CallInput) × Memᴰ i (calls_in fs) × Seen s h i c
  call-in c m =
      let (i, n, e) = windowed-mem p.settings h (calls_in fs) c (subst (Memᴰ c) w.held.calls m) in
      (i, n, window-seen s h i c (sym (window_same s h i) ∙ ap (λ (z : Settings). window z h i) (sym w.settings) ∙ e))

  call-out : (i : CallInput) (c : Call) → Memᴰ i (calls_in fs) → Seen s h i c → Memᴰ c calls
  call-out i c m v =
      let e : window p.settings h i ≡ Some c = ap (λ (z : Settings). window z h i) w.settings ∙ window_same s h i
      ∙ seen-shown s h i (o.clock i.day (w.held.days i m)) c v in
      subst (Memᴰ c) (sym w.held.calls) (mem-windowed p.settings h c m e)

  pub leg-in : (b a : Call) → by-load.Rides calls b a → Leg F b a
  leg-in b a r =
      let (i, m, v) = call-in b r.from in
      let (k, n, u) = call-in a r.to in
      record {
        boards = i;
        alights = k;
        taken = m;
        taken' = n;
        seen = v;
        seen' = u;
        trip = sym v.trip ∙ r.run.trip ∙ u.trip;
        day = sym v.day ∙ r.run.day ∙ u.day;
        later = omega (arith, r.later, v.sequence, u.sequence);
        board = r.board;
        alight = r.alight;
      }

  pub leg-out : (b a : Call) → Leg F b a → by-load.Rides calls b a
  leg-out b a r = record {
    from = call-out r.boards b r.taken r.seen;
    to = call-out r.alights a r.taken' r.seen';
    run = record { trip = r.seen.trip ∙ r.trip ∙ sym r.seen'.trip; day = r.seen.day ∙ r.day ∙ sym r.seen'.day };
    later = omega (arith, r.later, r.seen.sequence, r.seen'.sequence);
    board = r.board;
    alight = r.alight;
  }

  -- ---- members

  member-in : (x bit m : ℕ) → x < p.stop_count → (stop_at p.stops x).members / 2 ^ bit % 2 ≡ 1 → Member (stops_in fs) x bit
  member-in x bit m l e = let v = w.held.each x l in
      record { given = v.given; at = v.at; set = ap (λ (n : ℕ). n / 2 ^ bit % 2) (sym v.members) ∙ e }

  member-out : (x bit : ℕ) → Member (stops_in fs) x bit → (stop_at p.stops x).members / 2 ^ bit % 2 ≡ 1
  member-out x bit v =
      let l : x < p.stop_count = omega (arith, nth-below (stops_in fs) x v.given v.at, w.held.stops) in
      let u = w.held.each x l in
      ap (λ (n : ℕ). n / 2 ^ bit % 2) (u.members ∙ ap (λ (g : StopGiven). g.input.members)
      (nth-one (stops_in fs) x u.given v.given u.at v.at)) ∙ v.set

  -- ---- settings

  abbrev t : Timetable
  t = timetable_of p

  origins : t.origins ≡ s.origins
  unfolding timetable_of canonical_of
  origins = ap (λ (z : Settings). z.origins) w.settings

  targets : t.targets ≡ s.targets
  unfolding timetable_of canonical_of
  targets = ap (λ (z : Settings). z.targets) w.settings

  pub transfers : t.max_transfers ≡ s.max_transfers
  unfolding timetable_of canonical_of
  transfers = ap (λ (z : Settings). z.max_transfers) w.settings

  pub origin_walk : (k : ℕ) → k < s.origins → t.origin_walk k ≡ get_or s.origin_walks k 0
  unfolding timetable_of canonical_of
  origin_walk k l = ap (λ (z : Settings). get_or z.origin_walks k 0) w.settings ∙ walk_kept s.origins s.origin_walks k l o.origins

  pub target_walk : (k : ℕ) → k < s.targets → t.target_walk k ≡ get_or s.target_walks k 0
  unfolding timetable_of canonical_of
  target_walk k l = ap (λ (z : Settings). get_or z.target_walks k 0) w.settings ∙ walk_kept s.targets s.target_walks k l o.targets

  pub starts-in : (b : Call) (k : ℕ) → b.stop < p.stop_count → by-load.Starts t b k → (k < s.origins) × Member (stops_in fs) b.stop k
  unfolding timetable_of
  starts-in b k l v = (omega (arith, v.count, origins), member-in b.stop k 0 l (digit_set k (stop_at p.stops b.stop).members v.member))

  pub starts-out : (b : Call) (k : ℕ) → k < s.origins → Member (stops_in fs) b.stop k → t.origin_walk k * 60 ≤ b.departure
      → by-load.Starts t b k
  unfolding timetable_of
  starts-out b k l m q = record {
    count = omega (arith, origins, o.origins);
    member = set-digit k (stop_at p.stops b.stop).members (member-out b.stop k m);
    walked = q;
  }

  pub ends-in : (a : Call) (k : ℕ) → a.stop < p.stop_count → by-load.Ends t a k → (k < s.targets) × Member (stops_in fs) a.stop (4 + k)
  unfolding timetable_of
  ends-in a k l v = (
    omega (arith, v.count, targets),
    member-in a.stop (4 + k) 0 l
        (ap (λ (n : ℕ). n % 2) (sym (upper k (stop_at p.stops a.stop).members))
        ∙ digit_set k ((stop_at p.stops a.stop).members / 16) v.member),
  )

  pub ends-out : (a : Call) (k : ℕ) → k < s.targets → Member (stops_in fs) a.stop (4 + k) → by-load.Ends t a k
  unfolding timetable_of
  ends-out a k l m = record {
    count = omega (arith, targets, o.targets);
    member = set-digit k ((stop_at p.stops a.stop).members / 16)
        (ap (λ (n : ℕ). n % 2) (upper k (stop_at p.stops a.stop).members) ∙ member-out a.stop (4 + k) m);
  }

  -- ---- journeys

  -- what stands between origin and target, of n rides
  pub between_in : (n : ℕ) (b x a : Call) (m l : Ride) (i k : ℕ) → b.stop < p.stop_count → a.stop < p.stop_count → by-load.Starts t b i
      → by-load.Ends t a k
      → Between F b a (journey_of t n (ride_of b x) m l a.arrival i k)
  between_in n b x a m l i k hb ha v u =
      let (c, w') = starts-in b i hb v in
      let (d, q) = ends-in a k ha u in
      record {
        origin = c;
        target = d;
        from = w';
        to = q;
        walk = origin_walk i c;
        leave = omega (arith, v.walked);
        arrival = ap (λ (z : ℕ). a.arrival + z * 60) (target_walk k d);
      }

  pub between-out : (n : ℕ) (b x a : Call) (j : Journey) (m l : Ride) → Between F b a j → j.rides ≡ n → j.first ≡ ride_of b x
      → j.middle ≡ m → j.last ≡ l
      → j ≡ journey_of t n (ride_of b x) m l a.arrival j.origin j.target
  between-out n b x a j m l v r f y e =
      let q : j.walk ≡ t.origin_walk j.origin = v.walk ∙ sym (origin_walk j.origin v.origin) in
      let d : j.leave ≡ b.departure - t.origin_walk j.origin * 60 = leaves j.leave j.walk (t.origin_walk j.origin) b.departure v.leave q in
      let g : j.arrival ≡ a.arrival + t.target_walk j.target * 60 =
      v.arrival ∙ ap (λ (z : ℕ). a.arrival + z * 60) (sym (target_walk j.target v.target)) in
      λ i. record {
        leave = d i;
        arrival = g i;
        rides = r i;
        walk = q i;
        origin = j.origin;
        target = j.target;
        first = f i;
        middle = y i;
        last = e i;
      }
    where
      leaves : (x y z d : ℕ) → x + y * 60 ≡ d → y ≡ z → x ≡ d - z * 60
      leaves x y z d e q = omega arith

  pub starts-of : (b a : Call) (j : Journey) → Between F b a j → by-load.Starts t b j.origin
  starts-of b a j v = starts-out b j.origin v.origin v.from
      (late j.leave j.walk (t.origin_walk j.origin) b.departure v.leave (v.walk ∙ sym (origin_walk j.origin v.origin)))
    where
      late : (x y z d : ℕ) → x + y * 60 ≡ d → y ≡ z → z * 60 ≤ d
      late x y z d e q = omega arith

  -- ---- both ways

  unfoldable pub direct-in : (b a : Call) (i k : ℕ) → by-load.Rides calls b a → by-load.Starts t b i → by-load.Ends t a k
      → Direct F (direct_of t (ride_of b a) i k)
  direct-in b a i k r v u = record {
    b = b;
    a = a;
    leg = leg-in b a r;
    between = between_in 1 b a a no_ride no_ride i k (known b r.from) (known a r.to) v u;
    rides = refl;
    first = is-ride b a;
    middle = refl;
    last = refl;
  }

  unfoldable pub change-in : (b a c d : Call) (i k : ℕ) → 1 ≤ t.max_transfers → by-load.Rides calls b a → by-load.Rides calls c d
      → t.joins (ride_of b a) c ≡ true
      → by-load.Starts t b i → by-load.Ends t d k → Changing F (change_of t (ride_of b a) (ride_of c d) i k)
  unfolding timetable_of
  change-in b a c d i k e r r' q v u = record {
    b = b;
    a = a;
    c = c;
    d = d;
    may = omega (arith, transfers, e);
    leg = leg-in b a r;
    leg' = leg-in c d r';
    joins = joins-in s p fs w b a c r.run.trip r.run.day (known a r.to) (known c r'.from) q;
    between = between_in 2 b a d no_ride (ride_of c d) i k (known b r.from) (known d r'.to) v u;
    rides = refl;
    first = is-ride b a;
    middle = refl;
    last = is-ride c d;
  }

  unfoldable pub three-in : (b a c d x y : Call) (i k : ℕ) → 2 ≤ t.max_transfers → by-load.Rides calls b a → by-load.Rides calls c d
      → by-load.Rides calls x y
      → t.joins (ride_of b a) c ≡ true → t.joins (ride_of c d) x ≡ true → by-load.Starts t b i → by-load.Ends t y k
      → Through F (three_of t (ride_of b a) (ride_of c d) (ride_of x y) i k)
  unfolding timetable_of
  three-in b a c d x y i k e r r' r'' q q' v u = record {
    b = b;
    a = a;
    c = c;
    d = d;
    e = x;
    g = y;
    may = omega (arith, transfers, e);
    leg = leg-in b a r;
    leg' = leg-in c d r';
    leg'' = leg-in x y r'';
    joins = joins-in s p fs w b a c r.run.trip r.run.day (known a r.to) (known c r'.from) q;
    joins' = joins-in s p fs w c d x r'.run.trip r'.run.day (known d r'.to) (known x r''.from) q';
    between = between_in 3 b a y (ride_of c d) (ride_of x y) i k (known b r.from) (known y r''.to) v u;
    rides = refl;
    first = is-ride b a;
    middle = is-ride c d;
    last = is-ride x y;
  }

  admitted-in : (j : Journey) → by-load.Admitted t j → Admits F j
  unfolding timetable_of
  admitted-in j (inl v) = inl (subst (Direct F) (sym v.is) (direct-in v.b v.a v.o v.k v.ride v.starts v.ends))
  admitted-in j (inr (inl v)) =
      inr (inl (subst (Changing F) (sym v.is) (change-in v.b v.a v.c v.d v.o v.k v.may v.first v.last v.joined v.starts v.ends)))
  admitted-in j (inr (inr v)) =
      inr (inr (subst (Through F) (sym v.is) (three-in v.b v.a v.c v.d v.e v.g v.o v.k v.may v.first v.middle v.last v.joins_middle
      v.joins_last v.starts v.ends)))

  unfoldable pub direct-out : (j : Journey) → Direct F j → by-load.Direct t j
  unfolding timetable_of
  direct-out j v = record {
    b = v.b;
    a = v.a;
    o = j.origin;
    k = j.target;
    ride = leg-out v.b v.a v.leg;
    starts = starts-of v.b v.a j v.between;
    ends = ends-out v.a j.target v.between.target v.between.to;
    is = between-out 1 v.b v.a v.a j no_ride no_ride v.between v.rides (ride-is v.b v.a j.first v.first) v.middle v.last;
  }

  unfoldable pub change-out : (j : Journey) → Changing F j → by-load.Change t j
  unfolding timetable_of
  change-out j v =
      let f = leg-out v.b v.a v.leg in
      let l = leg-out v.c v.d v.leg' in
      record {
        b = v.b;
        a = v.a;
        c = v.c;
        d = v.d;
        o = j.origin;
        k = j.target;
        may = omega (arith, transfers, v.may);
        first = f;
        last = l;
        starts = starts-of v.b v.d j v.between;
        ends = ends-out v.d j.target v.between.target v.between.to;
        joined = joins-out s p fs w v.b v.a v.c f.run.trip f.run.day (known v.a f.to) (known v.c l.from) v.joins;
        is = between-out 2 v.b v.a v.d j no_ride (ride_of v.c v.d) v.between v.rides (ride-is v.b v.a j.first v.first) v.middle
            (ride-is v.c v.d j.last v.last);
      }

  unfoldable pub three-out : (j : Journey) → Through F j → by-load.Three t j
  unfolding timetable_of
  three-out j v =
      let f = leg-out v.b v.a v.leg in
      let m = leg-out v.c v.d v.leg' in
      let l = leg-out v.e v.g v.leg'' in
      record {
        b = v.b;
        a = v.a;
        c = v.c;
        d = v.d;
        e = v.e;
        g = v.g;
        o = j.origin;
        k = j.target;
        may = omega (arith, transfers, v.may);
        first = f;
        middle = m;
        last = l;
        starts = starts-of v.b v.g j v.between;
        ends = ends-out v.g j.target v.between.target v.between.to;
        joins_middle = joins-out s p fs w v.b v.a v.c f.run.trip f.run.day (known v.a f.to) (known v.c m.from) v.joins;
        joins_last = joins-out s p fs w v.c v.d v.e m.run.trip m.run.day (known v.d m.to) (known v.e l.from) v.joins';
        is = between-out 3 v.b v.a v.g j (ride_of v.c v.d) (ride_of v.e v.g) v.between v.rides (ride-is v.b v.a j.first v.first)
            (ride-is v.c v.d j.middle v.middle) (ride-is v.e v.g j.last v.last);
      }

  admitted-out : (j : Journey) → Admits F j → by-load.Admitted t j
  admitted-out j (inl v) = inl (direct-out j v)
  admitted-out j (inr (inl v)) = inr (inl (change-out j v))
  admitted-out j (inr (inr v)) = inr (inr (three-out j v))

  pub admits : (j : Journey) → by-load.Admitted (timetable_of p) j ↔ Admits (feed_from s p fs) j
  admits j = (admitted-in j, admitted-out j)
