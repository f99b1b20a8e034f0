-- The program's offers are those stated here, and no other list is.
use Prim.Native.Nat.{ℕ, zero, suc, ◌+◌, ◌*◌, ◌≤◌, ◌<◌}
use mathlib.Core.Path.{◌≡◌, refl, sym, ap, subst, ◌∙◌}
use mathlib.Core.Logic.{◌⊎◌, inl, inr}
use mathlib.Core.Bool.{true}
use mathlib.Core.List.Memᴰ
use mathlib.Core.List.{List, [], ◌∷◌, map, Memᴰ}
use native.Mathlib.Omega.{arith}
use lib.ListN.{get_or}
use Rattle.settings.specs.declared.Settings.{Settings}
use Rattle.calls.specs.declared.Call.{Call}
use Rattle.profile.specs.declared.Ride.{Ride}
use Rattle.profile.specs.declared.Journey.{Journey}
use Rattle.load.specs.declared.Load.{Load}
use Rattle.load.specs.FillStep.{FillStep}
use Rattle.ways.specs.Rides.{leg, first_ride}
use Rattle.ways.specs.Routes.{Way, Route, here, ride_then, route_of}
use Rattle.offers.specs.Offers.{Timetable, ride_of, routes_of, sorted, offers}
use Rattle.offers.specs.Routes.{AdmittedRoute}
use Rattle.offers.proofs.RouteLaws.{routes-admitted}
use Rattle.offers.specs.Admitted.{Rides, Starts, Ends, Clear}
use Rattle.offers.proofs.OfferLaws.{clear-rising}
use Rattle.search.specs.Timetable.{timetable_of}
use Rattle.comparison.specs.Admitted.{Feed, Between, IsRide}
use Rattle.comparison.specs.Neighbours.{CallBefore}
use Rattle.comparison.specs.OfferOrder.{Offer, alone, changing, through, Before, Ascending, Gives, Each, Offered}
use Rattle.comparison.specs.Feeds.{feed_of}
use Rattle.comparison.proofs.Pairs.{Pairs, one-pairs}
use Rattle.comparison.proofs.SettingLaws.{Opened}
use Rattle.comparison.proofs.StartLaws.{Start, state_at, same-feed, feed_from}
use Rattle.comparison.proofs.AdmittedLaws.{ride-is, direct-in, change-in, three-in, direct-out, change-out, three-out}
use Rattle.comparison.proofs.OfferLaws.{key_by, keys, to_j, pairs-offers, same-offers, ascends, rises}

-- ---- the calls of an offer

abbrev pub KeyOf : Timetable → Offer → Type 0
KeyOf t (alone b o a k) = Rides t.calls b a × Starts t b o × Ends t a k
KeyOf t (changing b o a c d k) = (1 ≤ t.max_transfers) × Rides t.calls b a × Rides t.calls c d × Starts t b o × Ends t d k
    × (t.joins (ride_of b a) c ≡ true)
KeyOf t (through b o a c d e g k) =
    (2 ≤ t.max_transfers) × Rides t.calls b a × Rides t.calls c d × Rides t.calls e g × Starts t b o × Ends t g k
    × (t.joins (ride_of b a) c ≡ true) × (t.joins (ride_of c d) e ≡ true)

module _ (t : Timetable) (clear : Clear t) where
  pub p : Pairs CallBefore (sorted t)
  p = rises (sorted t) (clear-rising t clear)

  by-route : (r : Route Call) → AdmittedRoute t r → KeyOf t (key_by r)
  by-route r (zero, h, w) = let (k, en, q) = w.on in
      subst (λ (v : Way Call). KeyOf t (key_by (route_of r.first v))) (sym q) (w.ride, w.starts, en)
  by-route r (suc zero, h, w) =
      let (l, v, last, joined, (k, en, q), e) = w.on in
      subst (λ (v : Way Call). KeyOf t (key_by (route_of r.first v))) (sym (e ∙ ap (ride_then l) q))
      (w.may, w.ride, last, w.starts, en, joined)
  by-route r (suc (suc zero), h, w) =
      let (m, v, middle, joined, (l, u, last, joins, (k, en, q), e), d) = w.on in
      subst (λ (v : Way Call). KeyOf t (key_by (route_of r.first v))) (sym (d ∙ ap (ride_then m) (e ∙ ap (ride_then l) q)))
      (w.may, w.ride, middle, last, w.starts, en, joined, joins)
  by-route r (suc (suc (suc n)), h, w) = absurd (omega arith)

  pub key_in : (x : Offer) → Memᴰ x (keys t (sorted t)) → KeyOf t x
  key_in x m = let (r, i, e) = Memᴰ.of_map key_by (routes_of t) m in subst (KeyOf t) e (by-route r ((routes-admitted t clear r).0 i))

  pub key-mem : (x : Offer) → KeyOf t x → Memᴰ x (keys t (sorted t))
  key-mem (alone b o a k) (r, st, en) =
      Memᴰ.map key_by ((routes-admitted t clear (route_of (first_ride o b a) (here k))).1
      (0, omega arith, record { may = omega arith; ride = r; starts = st; on = (k, en, refl) }))
  key-mem (changing b o a c d k) (e, r, r', st, en, j) =
      Memᴰ.map key_by ((routes-admitted t clear (route_of (first_ride o b a) (ride_then (leg c d) (here k)))).1
      (1, omega arith, record { may = e; ride = r; starts = st; on = (leg c d, here k, r', j, (k, en, refl), refl) }))
  key-mem (through b o a c d x y k) (e, r, r', r'', st, en, j, j') =
      Memᴰ.map key_by ((routes-admitted t clear (route_of (first_ride o b a) (ride_then (leg c d) (ride_then (leg x y) (here k))))).1 (
        2,
        omega arith,
        record {
          may = e;
          ride = r;
          starts = st;
          on = (leg c d, ride_then (leg x y) (here k), r', j, (leg x y, here k, r'', j', (k, en, refl), refl), refl);
        },
      ))

-- ---- what was taken gives these offers

module _ (s : Settings) (l : Load) (fs : List FillStep) (w : Start s l fs) (o : Opened s) (clear : Clear (timetable_of l)) where
  abbrev F : Feed
  F = feed_from s l fs

  abbrev t : Timetable
  t = timetable_of l

  pub gives : (x : Offer) → KeyOf t x → Gives F x (to_j t x)
  unfolding timetable_of direct-in change-in three-in
  gives (alone b i a k) (r, st, en) = (direct-in s l fs w o b a i k r st en, refl, refl, refl, refl)
  gives (changing b i a c d k) (e, r, r', st, en, j) = (change-in s l fs w o b a c d i k e r r' j st en, refl, refl, refl, refl, refl, refl)
  gives (through b i a c d x y k) (e, r, r', r'', st, en, j, j') =
      (three-in s l fs w o b a c d x y i k e r r' r'' j j' st en, refl, refl, refl, refl, refl, refl, refl, refl)

  pub each-gives : (es : List Offer) → ((x : Offer) → Memᴰ x es → KeyOf t x) → Each F es (map (to_j t) es)
  each-gives [] f = tt
  each-gives (e ∷ es) f = (gives e (f e (Memᴰ.head refl)), each-gives es (λ x m. f x (Memᴰ.tail m)))

  pub given : (x : Offer) (j : Journey) → Gives F x j → KeyOf t x
  unfolding timetable_of direct-out change-out three-out
  given (alone b i a k) j (v, eb, ea, ei, ek) =
      let u = direct-out s l fs w o j v in
      subst (KeyOf t) (λ n. alone (eb n) (ei n) (ea n) (ek n)) (u.ride, u.starts, u.ends)
  given (changing b i a c d k) j (v, eb, ea, ec, ed, ei, ek) =
      let u = change-out s l fs w o j v in
      subst (KeyOf t) (λ n. changing (eb n) (ei n) (ea n) (ec n) (ed n) (ek n)) (u.may, u.first, u.last, u.starts, u.ends, u.joined)
  given (through b i a c d x y k) j (v, eb, ea, ec, ed, ex, ey, ei, ek) =
      let u = three-out s l fs w o j v in
      subst (KeyOf t) (λ n. through (eb n) (ei n) (ea n) (ec n) (ed n) (ex n) (ey n) (ek n))
      (u.may, u.first, u.middle, u.last, u.starts, u.ends, u.joins_middle, u.joins_last)

  by-load : Offered F (offers t)
  by-load = record {
    offers = keys t (sorted t);
    ascending = ascends (keys t (sorted t)) (pairs-offers t (sorted t) (p t clear));
    each = subst (Each F (keys t (sorted t))) (same-offers t) (each-gives (keys t (sorted t)) (key_in t clear));
    all = λ x j g. key-mem t clear x (given x j g);
  }

  pub offered-is : Offered (feed_of s (state_at l fs)) (offers (timetable_of l))
  offered-is = subst (λ (G : Feed). Offered G (offers (timetable_of l))) (same-feed s l fs w) by-load

-- ---- no other list

irr : (b c : Call) → b ≡ c → CallBefore b c → ⊥
irr b c e (inl l) = omega (arith, ap (λ (x : Call). x.trip) e)
irr b c e (inr (q, inl l)) = omega (arith, ap (λ (x : Call). x.day) e)
irr b c e (inr (q, inr (r, l))) = omega (arith, ap (λ (x : Call). x.sequence) e)

call-asym : (b c : Call) → CallBefore b c → CallBefore c b → ⊥
call-asym b c (inl l) (inl l') = omega arith
call-asym b c (inl l) (inr (q, w)) = omega arith
call-asym b c (inr (q, w)) (inl l) = omega arith
call-asym b c (inr (q, inl l)) (inr (q', inl l')) = omega arith
call-asym b c (inr (q, inl l)) (inr (q', inr (r, l'))) = omega arith
call-asym b c (inr (q, inr (r, l))) (inr (q', inl l')) = omega arith
call-asym b c (inr (q, inr (r, l))) (inr (q', inr (r', l'))) = omega arith

pub by_call : (b c : Call) {R Q : Type 0} → (R → Q → ⊥) → (CallBefore b c ⊎ ((b ≡ c) × R)) → (CallBefore c b ⊎ ((c ≡ b) × Q)) → ⊥
by_call b c f (inl l) (inl l') = call-asym b c l l'
by_call b c f (inl l) (inr (e, q)) = irr b c (sym e) l
by_call b c f (inr (e, r)) (inl l) = irr c b (sym e) l
by_call b c f (inr (e, r)) (inr (e', q)) = f r q

pub by_number : (m n : ℕ) {R Q : Type 0} → (R → Q → ⊥) → ((m < n) ⊎ ((m ≡ n) × R)) → ((n < m) ⊎ ((n ≡ m) × Q)) → ⊥
by_number m n f (inl l) (inl l') = omega arith
by_number m n f (inl l) (inr (e, q)) = omega arith
by_number m n f (inr (e, r)) (inl l) = omega arith
by_number m n f (inr (e, r)) (inr (e', q)) = f r q

pub before-asym : (e f : Offer) → Before e f → Before f e → ⊥
before-asym (alone b o a k) (alone b' o' a' k') v w = by_call b b' (by_number o o' (by_call a a' (λ l l'. omega arith))) v w
before-asym (alone b o a k) (changing b' o' a' c' d' k') v w = by_call b b' (by_number o o' (by_call a a' (λ u x. x))) v w
before-asym (changing b o a c d k) (alone b' o' a' k') v w = by_call b b' (by_number o o' (by_call a a' (λ x u. x))) v w
before-asym (changing b o a c d k) (changing b' o' a' c' d' k') v w =
    by_call b b' (by_number o o' (by_call a a' (by_call c c' (by_call d d' (λ l l'. omega arith))))) v w
before-asym (alone b o a k) (through b' o' a' c' d' e' g' k') v w = w
before-asym (changing b o a c d k) (through b' o' a' c' d' e' g' k') v w = w
before-asym (through b o a c d e g k) (alone b' o' a' k') v w = v
before-asym (through b o a c d e g k) (changing b' o' a' c' d' k') v w = v
before-asym (through b o a c d e g k) (through b' o' a' c' d' e' g' k') v w =
    by_call b b' (by_number o o' (by_call a a' (by_call c c' (by_call d d' (by_call e e' (by_call g g' (λ l l'. omega arith))))))) v w

pairs_of : (es : List Offer) → Ascending es → Pairs Before es
pairs_of [] w = tt
pairs_of (e ∷ es) w = (w.0, pairs_of es w.1)

module _ (F : Feed) where
  -- the journey between two calls is one
  one-between : (b a b' a' : Call) (j k : Journey) → b ≡ b' → a ≡ a' → j.origin ≡ k.origin → j.target ≡ k.target → Between F b a j
      → Between F b' a' k
      → j.rides ≡ k.rides → j.first ≡ k.first → j.middle ≡ k.middle → j.last ≡ k.last → j ≡ k
  one-between b a b' a' j k eb ea eo ek v w er ef em el =
      let q : j.walk ≡ k.walk = v.walk ∙ ap (λ (x : ℕ). get_or F.settings.origin_walks x 0) eo ∙ sym w.walk in
      let d : j.leave ≡ k.leave = leaves j.leave j.walk k.leave k.walk b.departure b'.departure v.leave w.leave
      (ap (λ (x : Call). x.departure) eb) q in
      let g : j.arrival ≡ k.arrival = v.arrival ∙ (λ n. (ea n).arrival + get_or F.settings.target_walks (ek n) 0 * 60) ∙ sym w.arrival in
      λ n. record {
        leave = d n;
        arrival = g n;
        rides = er n;
        walk = q n;
        origin = eo n;
        target = ek n;
        first = ef n;
        middle = em n;
        last = el n;
      }
    where
      leaves : (x y x' y' d d' : ℕ) → x + y * 60 ≡ d → x' + y' * 60 ≡ d' → d ≡ d' → y ≡ y' → x ≡ x'
      leaves x y x' y' d d' e f g q = omega arith

  one_ride : (b a b' a' : Call) (r r' : Ride) → b ≡ b' → a ≡ a' → IsRide b a r → IsRide b' a' r' → r ≡ r'
  one_ride b a b' a' r r' eb ea v w = ride-is b a r v ∙ (λ n. ride_of (eb n) (ea n)) ∙ sym (ride-is b' a' r' w)

  one-gives : (x : Offer) (j k : Journey) → Gives F x j → Gives F x k → j ≡ k
  one-gives (alone b o a i) j k (v, eb, ea, eo, ei) (w, fb, fa, fo, fi) =
      one-between v.b v.a w.b w.a j k (eb ∙ sym fb) (ea ∙ sym fa) (eo ∙ sym fo) (ei ∙ sym fi) v.between w.between (v.rides ∙ sym w.rides)
      (one_ride v.b v.a w.b w.a j.first k.first (eb ∙ sym fb) (ea ∙ sym fa) v.first w.first) (v.middle ∙ sym w.middle) (v.last ∙ sym w.last)
  one-gives (changing b o a c d i) j k (v, eb, ea, ec, ed, eo, ei) (w, fb, fa, fc, fd, fo, fi) =
      one-between v.b v.d w.b w.d j k (eb ∙ sym fb) (ed ∙ sym fd) (eo ∙ sym fo) (ei ∙ sym fi) v.between w.between (v.rides ∙ sym w.rides)
      (one_ride v.b v.a w.b w.a j.first k.first (eb ∙ sym fb) (ea ∙ sym fa) v.first w.first) (v.middle ∙ sym w.middle)
      (one_ride v.c v.d w.c w.d j.last k.last (ec ∙ sym fc) (ed ∙ sym fd) v.last w.last)
  one-gives (through b o a c d x y i) j k (v, eb, ea, ec, ed, ex, ey, eo, ei) (w, fb, fa, fc, fd, fx, fy, fo, fi) =
      one-between v.b v.g w.b w.g j k (eb ∙ sym fb) (ey ∙ sym fy) (eo ∙ sym fo) (ei ∙ sym fi) v.between w.between (v.rides ∙ sym w.rides)
      (one_ride v.b v.a w.b w.a j.first k.first (eb ∙ sym fb) (ea ∙ sym fa) v.first w.first)
      (one_ride v.c v.d w.c w.d j.middle k.middle (ec ∙ sym fc) (ed ∙ sym fd) v.middle w.middle)
      (one_ride v.e v.g w.e w.g j.last k.last (ex ∙ sym fx) (ey ∙ sym fy) v.last w.last)

  pub each-mem : (es : List Offer) (js : List Journey) → Each F es js → (e : Offer) → Memᴰ e es → (j : Journey) × Gives F e j
  each-mem [] [] w e m = absurd (Memᴰ.not-nil m)
  each-mem [] (j ∷ js) w e m = absurd w
  each-mem (x ∷ es) [] w e m = absurd w
  each-mem (x ∷ es) (j ∷ js) w e m = go (Memᴰ.cases_cons m) (λ n. each-mem es js w.1 e n)
    where
      go : (e ≡ x) ⊎ Memᴰ e es → (Memᴰ e es → (k : Journey) × Gives F e k) → (k : Journey) × Gives F e k
      go (inl q) ih = (j, subst (λ (y : Offer). Gives F y j) (sym q) w.0)
      go (inr n) ih = ih n

  pub each-one : (es : List Offer) (js ks : List Journey) → Each F es js → Each F es ks → js ≡ ks
  each-one [] [] [] v w = refl
  each-one [] [] (k ∷ ks) v w = absurd w
  each-one [] (j ∷ js) ks v w = absurd v
  each-one (e ∷ es) [] ks v w = absurd v
  each-one (e ∷ es) (j ∷ js) [] v w = absurd w
  each-one (e ∷ es) (j ∷ js) (k ∷ ks) v w = λ n. one-gives e j k v.0 w.0 n ∷ each-one es js ks v.1 w.1 n

  pub one-offered : (os ps : List Journey) → Offered F os → Offered F ps → os ≡ ps
  one-offered os ps v w =
      let e : v.offers ≡ w.offers = one-pairs Before before-asym v.offers w.offers (pairs_of v.offers v.ascending)
      (pairs_of w.offers w.ascending)
      (λ x m. let (j, g) = each-mem v.offers os v.each x m in w.all x j g)
      (λ x m. let (j, g) = each-mem w.offers ps w.each x m in v.all x j g) in
      each-one v.offers os ps v.each (subst (λ (es : List Offer). Each F es ps) (sym e) w.each)
