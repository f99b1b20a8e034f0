-- In the load that the search was handed, the stops of one place are those stated here.
use Rattle.std.specs.Prelude.{Some}
use Prim.Native.Nat.{ℕ, ◌≤◌, ◌<◌}
use mathlib.Core.Path.{◌≡◌, refl, sym, ap, ap₂, subst, ◌∙◌}
use mathlib.Core.Logic.{◌⊎◌, inl, inr}
use mathlib.Core.Bool.{Bool, true, false, true≢false, false≢true}
use mathlib.Core.List.{List, [], ◌∷◌}
use native.Mathlib.Omega.{arith}
use lib.ListN.{length, get_or, take, length-take}
use lib.Seq.{get_or-take}
use borrow.Author.Tests.{eqb-true, eq-eqb}
use Rattle.laws.specs.Order.{by_first_of, less_bytes}
use Rattle.laws.proofs.Order.{tri, by_first-less, by_first-more, by_first-same}
use Rattle.settings.specs.declared.Settings.{Settings}
use Rattle.place.specs.declared.PlaceKey.{PlaceKey}
use Rattle.place.specs.Near.{same_keys}
use Rattle.stops.specs.declared.Stop.{Stop}
use Rattle.stops.specs.Texts.{same_bytes_of}
use Rattle.stops.specs.Stops.{id_of}
use Rattle.stops.specs.Taken.{blank_stop}
use Rattle.stops.specs.Sound.{stop_at}
use Rattle.places.specs.Keys.{parent_id, stop_key, key_at}
use Rattle.places.specs.Places.{has_key, same_place, id_less, places_of}
use Rattle.places.specs.Promises.{place_at, PlaceRight, PlacesRight, Distinct}
use Rattle.places.proofs.Claims.{strict-ids, same_self, every-place, no-key-no-place}
use Rattle.places.proofs.Determined.{one-stop, only-places}
use Rattle.load.specs.declared.Load.{Load}
use Rattle.load.specs.FillStep.{FillStep}
use Rattle.comparison.specs.Taken.{StopGiven, stops_in}
use Rattle.comparison.specs.Admitted.{Nth}
use Rattle.comparison.specs.Places.{Key, Keyed, Matches, BytesBefore, IdBefore, Found, Placed, joins, alone, OnePlace}
use Rattle.comparison.proofs.NthLaws.{nth-below, nth-one, same_bytes}
use Rattle.comparison.proofs.KeyLaws.{key_one, given_key, given-key, held-key}
use Rattle.comparison.proofs.TakenLaws.{ParentHeld, HeldAs}
use Rattle.comparison.proofs.StartLaws.{Start}

-- the place of a stop, as the stops that a load holds are grouped
abbrev pub place_in : Load → ℕ → ℕ
place_in l x = get_or (places_of (take l.stop_count l.stops)) x 65535

-- ---- byte order

before-less : (a b : List ℕ) → BytesBefore a b → less_bytes a b ≡ true
before-less a [] w = absurd w
before-less [] (y ∷ b) w = refl
before-less (x ∷ a) (y ∷ b) w = go w (before-less a b)
  where
    go : (x < y) ⊎ ((x ≡ y) × BytesBefore a b) → (BytesBefore a b → less_bytes a b ≡ true) → by_first_of x y (less_bytes a b) ≡ true
    go (inl h) ih = by_first-less x y _ h
    go (inr (e, v)) ih = by_first-same x y _ (omega arith) (omega arith) ∙ ih v

less-before : (a b : List ℕ) → less_bytes a b ≡ true → BytesBefore a b
less-before a [] e = absurd (false≢true e)
less-before [] (y ∷ b) e = tt
less-before (x ∷ a) (y ∷ b) e = go (tri x y) (less-before a b)
  where
    go : (x < y) ⊎ ((x ≡ y) ⊎ (y < x)) → (less_bytes a b ≡ true → BytesBefore a b) → (x < y) ⊎ ((x ≡ y) × BytesBefore a b)
    go (inl h) ih = inl h
    go (inr (inl h)) ih = inr (h, ih (sym (by_first-same x y _ (omega arith) (omega arith)) ∙ e))
    go (inr (inr h)) ih = absurd (true≢false (sym e ∙ by_first-more x y _ h))

module _ (s : Settings) (p : Load) (fs : List FillStep) (w : Start s p fs) where
  abbrev n : ℕ
  n = p.stop_count

  -- the stops held, and those given
  abbrev hs : List Stop
  hs = take n p.stops

  abbrev gs : List StopGiven
  gs = stops_in fs

  few : n ≤ 128
  few = w.sound.stops.few

  count : length hs ≡ n
  count = simp length-take (omega (arith, few, w.sound.stops.long))

  held_at : (k : ℕ) → k < n → stop_at hs k ≡ stop_at p.stops k
  unfolding stop_at
  held_at k h = get_or-take n p.stops k blank_stop h

  -- two stops of one id are one
  pub one-id : (j k : ℕ) → j < n → k < n → id_of (stop_at p.stops j) ≡ id_of (stop_at p.stops k) → j ≡ k
  one-id j k hj hk e = go (tri j k)
    where
      twice : (a b : ℕ) → a < b → b < n → id_of (stop_at p.stops a) ≡ id_of (stop_at p.stops b) → ⊥
      twice a b l h q =
          true≢false (sym (same_bytes (id_of (stop_at p.stops a))) ∙ ap (same_bytes_of (id_of (stop_at p.stops a))) q
          ∙ w.sound.stops.alone a b l h)

      go : (j < k) ⊎ ((j ≡ k) ⊎ (k < j)) → j ≡ k
      go (inl l) = absurd (twice j k l hk e)
      go (inr (inl q)) = q
      go (inr (inr l)) = absurd (twice k j l hj (sym e))

  distinct : Distinct hs
  distinct j k hj hk e =
      let j' : j < n = omega (arith, count) in
      let k' : k < n = omega (arith, count) in
      one-id j k j' k' (sym (ap id_of (held_at j j')) ∙ e ∙ ap id_of (held_at k k'))

  pub given_below : (x : ℕ) (g : StopGiven) → Nth gs x g → x < n
  given_below x g m = omega (arith, nth-below gs x g m, w.held.stops)

  given-at : (x : ℕ) (g : StopGiven) (h : x < n) → Nth gs x g → (w.held.each x h).given ≡ g
  given-at x g h m = let v = w.held.each x h in nth-one gs x v.given g v.at m

  -- ---- keys

  module _ (k : ℕ) (h : k < n) where
    abbrev v : HeldAs (stop_at p.stops k) gs k
    v = w.held.each k h

    abbrev st : Stop
    st = stop_at p.stops k

    -- the parent that is held is the one named
    parent-held : parent_id hs st.parent ≡ v.given.parent
    parent-held = go v.parent
      where
        go : ParentHeld st.parent gs k v.given.parent → parent_id hs st.parent ≡ v.given.parent
        go (inl (a, b)) = ap (parent_id hs) b ∙ sym a
        go (inr (m, q, b, here, l, i, t)) =
            let below : m < n = omega arith in
            let u = w.held.each m below in
            ap (parent_id hs) b
            ∙ ap Some (ap id_of (held_at m below) ∙ u.id ∙ ap (λ (g : StopGiven). g.id) (nth-one gs m u.given q u.at here))
            ∙ sym i

    key-held : v.given.input.location_type ≡ 0 → key_at hs k ≡ given_key v.given
    unfolding key_at
    key-held z =
        ap (λ (x : Stop). stop_key x (parent_id hs x.parent)) (held_at k h)
        ∙ held-key st (parent_id hs st.parent) v.given v.key v.id v.kind z parent-held

    type-held : (stop_at hs k).location_type ≡ v.given.input.location_type
    type-held = ap (λ (x : Stop). x.location_type) (held_at k h) ∙ v.kind

    keyed-in : has_key hs k ≡ true → Keyed gs k (key_at hs k)
    unfolding has_key
    keyed-in t =
        let z : v.given.input.location_type ≡ 0 = sym type-held ∙ eqb-true (stop_at hs k).location_type 0 t in
        record {
          given = v.given;
          at = v.at;
          type_zero = z;
          key = subst (Key v.given) (sym (key-held z)) (given-key v.given z v.key.needed);
        }

  module _ (k : ℕ) (a : PlaceKey) (c : Keyed gs k a) where
    in-stops : k < n
    in-stops = given_below k c.given c.at

    abbrev u : HeldAs (stop_at p.stops k) gs k
    u = w.held.each k in-stops

    zero-type : u.given.input.location_type ≡ 0
    zero-type = ap (λ (g : StopGiven). g.input.location_type) (given-at k c.given in-stops c.at) ∙ c.type_zero

    has-key : has_key hs k ≡ true
    unfolding has_key
    has-key = eq-eqb (stop_at hs k).location_type 0 (type-held k in-stops ∙ zero-type)

    key-is : key_at hs k ≡ a
    key-is =
        key-held k in-stops zero-type
        ∙ key_one u.given (given_key u.given) a (given-key u.given zero-type u.key.needed)
        (subst (λ (g : StopGiven). Key g a) (sym (given-at k c.given in-stops c.at)) c.key)

  matches-in : (j k : ℕ) → j < n → k < n → has_key hs j ≡ true → has_key hs k ≡ true → same_place hs j k ≡ true → Matches gs j k
  unfolding same_place
  matches-in j k hj hk tj tk e = record {
    key = key_at hs j;
    key' = key_at hs k;
    keyed = keyed-in j hj tj;
    keyed' = keyed-in k hk tk;
    same = e;
  }

  matches-out : (j k : ℕ) → Matches gs j k → same_place hs j k ≡ true
  unfolding same_place
  matches-out j k m = ap₂ same_keys (key-is j m.key m.keyed) (key-is k m.key' m.keyed') ∙ m.same

  id-held : (k : ℕ) (h : k < n) → id_of (stop_at hs k) ≡ (w.held.each k h).given.id
  id-held k h = ap id_of (held_at k h) ∙ (w.held.each k h).id

  before-in : (j k : ℕ) → j < n → k < n → id_less hs j k ≡ true → IdBefore gs j k
  unfolding id_less
  before-in j k hj hk e =
      let a = w.held.each j hj in
      let b = w.held.each k hk in
      record {
        fore = a.given;
        rear = b.given;
        at_fore = a.at;
        at_rear = b.at;
        before = less-before a.given.id b.given.id (sym (ap₂ less_bytes (id-held j hj) (id-held k hk)) ∙ e);
      }

  before-out : (j k : ℕ) → IdBefore gs j k → id_less hs j k ≡ true
  unfolding id_less
  before-out j k b =
      ap₂ less_bytes (id-held j (given_below j b.fore b.at_fore)
      ∙ ap (λ (g : StopGiven). g.id) (given-at j b.fore (given_below j b.fore b.at_fore) b.at_fore))
      (id-held k (given_below k b.rear b.at_rear)
      ∙ ap (λ (g : StopGiven). g.id) (given-at k b.rear (given_below k b.rear b.at_rear) b.at_rear))
      ∙ before-less b.fore.id b.rear.id b.before

  -- ---- places

  abbrev at : ℕ → ℕ
  at = place_at hs

  here : (k : ℕ) → k < n → k < length hs
  here k h = omega (arith, count)

  right : (k : ℕ) → k < n → has_key hs k ≡ true → PlaceRight hs at k (at k)
  right k h t = every-place hs (omega (arith, count, few)) k (here k h) t

  -- what the load found is what is found of the stops given
  placed-in : (k : ℕ) → k < n → has_key hs k ≡ true → Placed gs at k
  placed-in k h t = go (id_less hs (at k) k) refl
    where
      r : PlaceRight hs at k (at k)
      r = right k h t

      known : at k < n
      known = omega (arith, r.known, count)

      least : (q : ℕ) → Found gs at k q → id_less hs q (at k) ≡ false
      least q f =
          let c = f.matches.keyed' in
          let hq : q < n = in-stops q f.matches.key' c in
          r.least q (here q hq) (has-key q f.matches.key' c) f.own (matches-out k q f.matches)

      go : (b : Bool) → id_less hs (at k) k ≡ b → Placed gs at k
      go true e =
          joins (record { earlier = before-in (at k) k known h e; own = r.own; matches = matches-in k (at k) h known t r.keyed r.matches })
          (λ q f b. true≢false (sym (before-out q (at k) b) ∙ least q f))
      go false e =
          let self : at k ≡ k = one-stop hs distinct (at k) k r.known (here k h) e r.before in
          alone (λ q f. true≢false (sym (before-out q k f.earlier) ∙ ap (id_less hs q) (sym self) ∙ least q f)) self

  -- and what is found of the stops given is right of those held
  module _ (f : ℕ → ℕ) (each : (k : ℕ) (a : PlaceKey) → Keyed gs k a → Placed gs f k) where
    find : (k q : ℕ) → k < n → q < n → has_key hs k ≡ true → has_key hs q ≡ true → f q ≡ q → same_place hs k q ≡ true
        → id_less hs q k ≡ true → Found gs f k q
    find k q hk hq tk tq e m l = record { earlier = before-in q k hq hk l; own = e; matches = matches-in k q hk hq tk tq m }

    placed-right : (k : ℕ) → k < n → has_key hs k ≡ true → Placed gs f k → PlaceRight hs f k (f k)
    placed-right k h t (joins c least) =
        let l : f k < n = in-stops (f k) c.matches.key' c.matches.keyed' in
        let b : id_less hs (f k) k ≡ true = before-out (f k) k c.earlier in
        record {
          known = here (f k) l;
          keyed = has-key (f k) c.matches.key' c.matches.keyed';
          own = c.own;
          matches = matches-out k (f k) c.matches;
          before = (strict-ids hs).asym (f k) k b;
          least = λ q hq tq e m. go q (omega (arith, count)) tq e m (id_less hs q k) refl b l;
        }
      where
        go : (q : ℕ) → q < n → has_key hs q ≡ true → f q ≡ q → same_place hs k q ≡ true → (x : Bool) → id_less hs q k ≡ x
            → id_less hs (f k) k ≡ true → f k < n → id_less hs q (f k) ≡ false
        go q hq tq e m true u b l = no (id_less hs q (f k)) refl
          where
            no : (y : Bool) → id_less hs q (f k) ≡ y → y ≡ false
            no true z = absurd (least q (find k q h hq t tq e m u) (before-in q (f k) hq l z))
            no false z = refl
        go q hq tq e m false u b l = (strict-ids hs).pass (f k) k q ((strict-ids hs).asym (f k) k b) u
    placed-right k h t (alone none self) = subst (PlaceRight hs f k) (sym self) (record {
      known = here k h;
      keyed = t;
      own = self;
      matches = same_self hs k;
      before = go (id_less hs k k) refl;
      least = λ q hq tq e m. no q (omega (arith, count)) tq e m (id_less hs q k) refl;
    })
      where
        go : (b : Bool) → id_less hs k k ≡ b → b ≡ false
        go true e = sym e ∙ (strict-ids hs).asym k k e
        go false e = refl

        no : (q : ℕ) → q < n → has_key hs q ≡ true → f q ≡ q → same_place hs k q ≡ true → (x : Bool) → id_less hs q k ≡ x → x ≡ false
        no q hq tq e m true u = absurd (none q (find k q h hq t tq e m u))
        no q hq tq e m false u = refl

    rights : PlacesRight hs f
    rights k h t = let l : k < n = omega (arith, count) in placed-right k l t (each k (key_at hs k) (keyed-in k l t))

    only : (k : ℕ) → k < n → has_key hs k ≡ true → f k ≡ at k
    only k h t = only-places hs (omega (arith, count, few)) distinct f rights k (here k h) t

  -- a stop that has a place has a key
  placed-keyed : (k : ℕ) → k < n → (place_in p k ≡ 65535 → ⊥) → has_key hs k ≡ true
  placed-keyed k h a = go (has_key hs k) refl
    where
      go : (b : Bool) → has_key hs k ≡ b → has_key hs k ≡ true
      go true t = t
      go false t = absurd (a (no-key-no-place hs (omega (arith, count, few)) k (here k h) t))

  pub place-in : (x y : ℕ) → x < n → y < n → place_in p x ≡ place_in p y → (place_in p x ≡ 65535 → ⊥) → OnePlace gs x y
  place-in x y hx hy e a = record {
    place = at;
    each = λ k b c. placed-in k (in-stops k b c) (has-key k b c);
    key = key_at hs x;
    key' = key_at hs y;
    keyed = keyed-in x hx (placed-keyed x hx a);
    keyed' = keyed-in y hy (placed-keyed y hy (λ z. a (e ∙ z)));
    one = e;
  }

  pub place_out : (x y : ℕ) → OnePlace gs x y → (place_in p x ≡ place_in p y) × (place_in p x ≡ 65535 → ⊥)
  place_out x y o =
      let hx : x < n = in-stops x o.key o.keyed in
      let hy : y < n = in-stops y o.key' o.keyed' in
      let tx : has_key hs x ≡ true = has-key x o.key o.keyed in
      let ty : has_key hs y ≡ true = has-key y o.key' o.keyed' in
      (sym (only o.place o.each x hx tx) ∙ o.one ∙ only o.place o.each y hy ty, λ z. omega (arith, (right x hx tx).known, count, few))
