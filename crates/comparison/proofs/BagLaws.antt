-- What is stated of the calls taken hangs on which they are, and not on their order.
use Rattle.steps.proofs.PermLaws.{perm-length}
use Rattle.refusal.specs.First.{Answer}
use Prim.Native.Nat.{ℕ}
use mathlib.Core.Path.{◌≡◌, refl, sym, subst}
use mathlib.Core.Logic.{inl, inr}
use mathlib.Core.List.Permᴰ
use mathlib.Core.List.{List, [], ◌∷◌, Permᴰ}
use native.Mathlib.Omega.{arith}
use Rattle.laws.proofs.Sort.{perm-mem}
use Rattle.settings.specs.declared.Settings.{Settings}
use Rattle.calls.specs.declared.CallInput.{CallInput}
use Rattle.calls.specs.declared.Call.{Call}
use Rattle.profile.specs.declared.Journey.{Journey}
use Rattle.steps.proofs.ShownLaws.{raw_earlier}
use Rattle.comparison.specs.Window.{Seen, Shown, empty, one, pass}
use Rattle.comparison.specs.Horizon.{Fits, outside, room, full, cut}
use Rattle.comparison.specs.Neighbours.{Clashing}
use Rattle.comparison.specs.Admitted.{Feed, Change, Joins, Leg, Between, Direct, Changing, Through, Admits}
use Rattle.comparison.specs.OfferOrder.{Offer, alone, changing, through, Gives, Each, Offered}

-- ---- what is seen

module _ (s : Settings) (h : ℕ) where
  seen_as : {i j : CallInput} {c : Call} → i ≡ j → Seen s h i c → Seen s h j c
  seen_as {c = c} e v = subst (λ (x : CallInput). Seen s h x c) e v

  unseen-as : {i j : CallInput} → i ≡ j → ((c : Call) → Seen s h i c → ⊥) → (c : Call) → Seen s h j c → ⊥
  unseen-as e f c v = f c (seen_as (sym e) v)

  pub shown-perm : {is js : List CallInput} {cs : List Call} → Permᴰ is js → Shown s h is cs
      → (ds : List Call) × Shown s h js ds × Permᴰ cs ds
  shown-perm Permᴰ.nil empty = ([], empty, Permᴰ.nil)
  shown-perm (Permᴰ.cons e p) (one {c = c} v w) = let (ds, u, q) = shown-perm p w in (c ∷ ds, one (seen_as e v) u, Permᴰ.cons refl q)
  shown-perm (Permᴰ.cons e p) (pass f w) = let (ds, u, q) = shown-perm p w in (ds, pass (unseen-as e f) u, q)
  shown-perm (Permᴰ.swap e f) (one {c = c} v (one {c = d} {cs = cs} v' w)) =
      (d ∷ c ∷ cs, one (seen_as f v') (one (seen_as e v) w), Permᴰ.swap refl refl)
  shown-perm (Permᴰ.swap e f) (one {c = c} v (pass {cs = cs} g w)) =
      (c ∷ cs, pass (unseen-as f g) (one (seen_as e v) w), Permᴰ.refl (c ∷ cs))
  shown-perm (Permᴰ.swap e f) (pass g (one {c = d} {cs = cs} v w)) =
      (d ∷ cs, one (seen_as f v) (pass (unseen-as e g) w), Permᴰ.refl (d ∷ cs))
  shown-perm (Permᴰ.swap e f) (pass g (pass {cs = cs} k w)) = (cs, pass (unseen-as f k) (pass (unseen-as e g) w), Permᴰ.refl cs)
  shown-perm (Permᴰ.trans p q) w = let (ds, u, r) = shown-perm p w in let (es, x, y) = shown-perm q u in (es, x, Permᴰ.trans r y)

-- a call fits
pub fits-perm : (s : Settings) (i : CallInput) {is js : List CallInput} {h m g n : ℕ} {a : Answer} → Permᴰ is js → Fits s is i h m a g n
    → Fits s js i h m a g n
fits-perm s i p (outside f) = outside f
fits-perm s i {h = h} p (room v w q) = let (ds, u, r) = shown-perm s h p w in room v u (omega (arith, perm-length r, q))
fits-perm s i {h = h} p (full v w q l) = let (ds, u, r) = shown-perm s h p w in full v u (omega (arith, perm-length r, q)) l
fits-perm s i {h = h} p (cut v w q l z) = let (ds, u, r) =
    shown-perm s h p w in cut v u (omega (arith, perm-length r, q)) l (fits-perm s i p z)

-- neighbours clash
pub clashing-perm : (s : Settings) (h : ℕ) {is js : List CallInput} → Permᴰ is js → Clashing s h is → Clashing s h js
clashing-perm s h p w =
    let (ds, u, r) = shown-perm s h p w.ordered.shown in
    record {
      calls = w.calls;
      ordered = record { seen = ds; shown = u; same = Permᴰ.trans w.ordered.same r; in_order = w.ordered.in_order };
      before = w.before;
      a = w.a;
      b = w.b;
      behind = w.behind;
      neighbours = w.neighbours;
      trip = w.trip;
      day = w.day;
      clash = w.clash;
    }

-- ---- what is admitted and offered

-- a feed with these calls
abbrev pub handing : Feed → List CallInput → Feed
handing F is = record { settings = F.settings; stops = F.stops; rules = F.rules; calls = is; horizon = F.horizon; Place = F.Place }

module _ (F : Feed) (is js : List CallInput) (p : Permᴰ is js) where
  abbrev A : Feed
  A = handing F is

  abbrev B : Feed
  B = handing F js

  change-perm : (x y n : ℕ) → Change A x y n → Change B x y n
  change-perm x y n (inl w) = inl (record {
    by = w.by;
    chosen = record { taken = w.chosen.taken; applies = w.chosen.applies; highest = w.chosen.highest };
    gives = w.gives;
  })
  change-perm x y n (inr w) = inr (record { no_rule = w.no_rule; near = w.near; takes = w.takes })

  joins-perm : (a c : Call) → Joins A a c → Joins B a c
  joins-perm a c w = record {
    differs = w.differs;
    seconds = w.seconds;
    change = change-perm a.stop c.stop w.seconds w.change;
    in_time = w.in_time;
  }

  pub leg-perm : (b a : Call) → Leg A b a → Leg B b a
  leg-perm b a w = record {
    boards = w.boards;
    alights = w.alights;
    taken = perm-mem raw_earlier p w.taken;
    taken' = perm-mem raw_earlier p w.taken';
    seen = w.seen;
    seen' = w.seen';
    trip = w.trip;
    day = w.day;
    later = w.later;
    board = w.board;
    alight = w.alight;
  }

  between-perm : (b a : Call) (j : Journey) → Between A b a j → Between B b a j
  between-perm b a j w = record {
    origin = w.origin;
    target = w.target;
    from = w.from;
    to = w.to;
    walk = w.walk;
    leave = w.leave;
    arrival = w.arrival;
  }

  unfoldable direct-perm : (j : Journey) → Direct A j → Direct B j
  direct-perm j w = record {
    b = w.b;
    a = w.a;
    leg = leg-perm w.b w.a w.leg;
    between = between-perm w.b w.a j w.between;
    rides = w.rides;
    first = w.first;
    middle = w.middle;
    last = w.last;
  }

  unfoldable changing-perm : (j : Journey) → Changing A j → Changing B j
  changing-perm j w = record {
    b = w.b;
    a = w.a;
    c = w.c;
    d = w.d;
    may = w.may;
    leg = leg-perm w.b w.a w.leg;
    leg' = leg-perm w.c w.d w.leg';
    joins = joins-perm w.a w.c w.joins;
    between = between-perm w.b w.d j w.between;
    rides = w.rides;
    first = w.first;
    middle = w.middle;
    last = w.last;
  }

  unfoldable through-perm : (j : Journey) → Through A j → Through B j
  through-perm j w = record {
    b = w.b;
    a = w.a;
    c = w.c;
    d = w.d;
    e = w.e;
    g = w.g;
    may = w.may;
    leg = leg-perm w.b w.a w.leg;
    leg' = leg-perm w.c w.d w.leg';
    leg'' = leg-perm w.e w.g w.leg'';
    joins = joins-perm w.a w.c w.joins;
    joins' = joins-perm w.d w.e w.joins';
    between = between-perm w.b w.g j w.between;
    rides = w.rides;
    first = w.first;
    middle = w.middle;
    last = w.last;
  }

  pub admits-perm : (j : Journey) → Admits A j → Admits B j
  admits-perm j (inl w) = inl (direct-perm j w)
  admits-perm j (inr (inl w)) = inr (inl (changing-perm j w))
  admits-perm j (inr (inr w)) = inr (inr (through-perm j w))

  pub gives-perm : (x : Offer) (j : Journey) → Gives A x j → Gives B x j
  unfolding direct-perm changing-perm through-perm
  gives-perm (alone b o a k) j (w, eb, ea, eo, ek) = (direct-perm j w, eb, ea, eo, ek)
  gives-perm (changing b o a c d k) j (w, eb, ea, ec, ed, eo, ek) = (changing-perm j w, eb, ea, ec, ed, eo, ek)
  gives-perm (through b o a c d e g k) j (w, eb, ea, ec, ed, ee, eg, eo, ek) = (through-perm j w, eb, ea, ec, ed, ee, eg, eo, ek)

  pub each-perm : (es : List Offer) (os : List Journey) → Each A es os → Each B es os
  each-perm [] [] w = tt
  each-perm [] (j ∷ js) w = absurd w
  each-perm (e ∷ es) [] w = absurd w
  each-perm (e ∷ es) (j ∷ js) w = (gives-perm e j w.0, each-perm es js w.1)

pub offered-perm : (F : Feed) (is js : List CallInput) (os : List Journey) → Permᴰ is js → Offered (handing F is) os
    → Offered (handing F js) os
offered-perm F is js os p w = record {
  offers = w.offers;
  ascending = w.ascending;
  each = each-perm F is js p w.offers os w.each;
  all = λ x j g. w.all x j (gives-perm F js is (Permᴰ.symm p) x j g);
}
