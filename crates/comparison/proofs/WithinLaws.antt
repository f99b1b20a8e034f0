-- What is offered within a limit, how many joins are tested and whether it finishes: in one way, whatever the order of the calls.
use Prim.Native.Nat.{ℕ, zero, suc, ◌+◌, ◌≤◌, ◌<◌, min}
use native.Mathlib.Omega.{arith}
use mathlib.Core.Path.{◌≡◌, refl, sym, ap, subst, ◌∙◌}
use mathlib.Core.Logic.{◌⊎◌, inl, inr, ◌↔◌}
use mathlib.Core.Bool.{Bool, true, false}
use mathlib.Core.List.Memᴰ
use mathlib.Core.List.Permᴰ
use mathlib.Core.List.{List, [], ◌∷◌, ◌++◌, Memᴰ, Permᴰ}
use lib.Dec.{leb}
use borrow.Author.Tests.{leb-true, leb-false, le-leb, lt-leb}
use Rattle.settings.specs.declared.Settings.{Settings}
use Rattle.calls.specs.declared.CallInput.{CallInput}
use Rattle.calls.specs.declared.Call.{Call}
use Rattle.profile.specs.declared.Journey.{Journey}
use Rattle.load.specs.FillStep.{FillStep}
use Rattle.comparison.specs.Taken.{State, keeping, calls_in}
use Rattle.comparison.specs.Admitted.{Feed}
use Rattle.comparison.specs.OfferOrder.{Offer, alone, changing, through, Each, Ascending, Offered}
use Rattle.comparison.specs.Events.{Event, join, offer, Join, Comes, Precedes, InTurn, Listed, joins_in, offers_in, Stops, finished}
use Rattle.comparison.specs.Events.{stopped, Within}
use Rattle.comparison.specs.Feeds.{feed_of}
use Rattle.comparison.proofs.Pairs.{Pairs, one-pairs}
use Rattle.comparison.proofs.BagLaws.{handing, leg-perm, gives-perm, each-perm}
use Rattle.comparison.proofs.AsideLaws.{Like, feed-beside}
use Rattle.comparison.proofs.OfferedLaws.{by_call, by_number, before-asym, each-one}

-- ---- lists of events

pub offer-in : (es : List Event) (x : Offer) → Memᴰ x (offers_in es) → Memᴰ (offer x) es
offer-in [] x m = absurd (Memᴰ.not-nil m)
offer-in (join b o a c d ∷ es) x m = Memᴰ.tail (offer-in es x m)
offer-in (offer y ∷ es) x m = go (Memᴰ.cases_cons m) (offer-in es x)
  where
    go : (x ≡ y) ⊎ Memᴰ x (offers_in es) → (Memᴰ x (offers_in es) → Memᴰ (offer x) es) → Memᴰ (offer x) (offer y ∷ es)
    go (inl e) ih = Memᴰ.head (ap offer e)
    go (inr n) ih = Memᴰ.tail (ih n)

abbrev name_of : Offer → Event → Offer
name_of y (join b o a c d) = y
name_of y (offer x) = x

pub in-offers : (es : List Event) (x : Offer) → Memᴰ (offer x) es → Memᴰ x (offers_in es)
in-offers [] x m = absurd (Memᴰ.not-nil m)
in-offers (join b o a c d ∷ es) x m = go (Memᴰ.cases_cons m) (in-offers es x)
  where
    go : (offer x ≡ join b o a c d) ⊎ Memᴰ (offer x) es → (Memᴰ (offer x) es → Memᴰ x (offers_in es)) → Memᴰ x (offers_in es)
    go (inl e) ih = absurd (cc)
    go (inr n) ih = ih n
in-offers (offer y ∷ es) x m = go (Memᴰ.cases_cons m) (in-offers es x)
  where
    go : (offer x ≡ offer y) ⊎ Memᴰ (offer x) es → (Memᴰ (offer x) es → Memᴰ x (offers_in es)) → Memᴰ x (y ∷ offers_in es)
    go (inl e) ih = Memᴰ.head (ap (name_of x) e)
    go (inr n) ih = Memᴰ.tail (ih n)

joins-append : (xs ys : List Event) → joins_in (xs ++ ys) ≡ joins_in xs + joins_in ys
joins-append [] ys = omega arith
joins-append (join b o a c d ∷ xs) ys = let e = joins-append xs ys in omega arith
joins-append (offer x ∷ xs) ys = joins-append xs ys

-- ---- one stop

-- the events before the first join past the limit
abbrev cut : ℕ → List Event → List Event
cut n [] = []
cut n (offer x ∷ es) = offer x ∷ cut n es
cut zero (join b o a c d ∷ es) = []
cut (suc n) (join b o a c d ∷ es) = join b o a c d ∷ cut n es

whole : (n : ℕ) (es : List Event) → joins_in es ≤ n → es ≡ cut n es
whole n [] h = refl
whole n (offer x ∷ es) h = ap {B = List Event} (λ r. offer x ∷ r) (whole n es h)
whole zero (join b o a c d ∷ es) h = absurd (omega arith)
whole (suc n) (join b o a c d ∷ es) h = ap {B = List Event} (λ r. join b o a c d ∷ r) (whole n es (omega arith))

part : (n : ℕ) (front rest : List Event) (b : Call) (o : ℕ) (a c d : Call) → joins_in front ≡ n
    → front ≡ cut n (front ++ join b o a c d ∷ rest)
part n [] rest b o a c d h = subst (λ (k : ℕ). [] ≡ cut k (join b o a c d ∷ rest)) h refl
part n (offer x ∷ es) rest b o a c d h = ap {B = List Event} (λ r. offer x ∷ r) (part n es rest b o a c d h)
part zero (join b' o' a' c' d' ∷ es) rest b o a c d h = absurd (omega arith)
part (suc n) (join b' o' a' c' d' ∷ es) rest b o a c d h =
    ap {B = List Event} (λ r. join b' o' a' c' d' ∷ r) (part n es rest b o a c d (omega arith))

cut-joins : (n : ℕ) (es : List Event) → joins_in (cut n es) ≡ min n (joins_in es)
cut-joins n [] = omega arith
cut-joins n (offer x ∷ es) = cut-joins n es
cut-joins zero (join b o a c d ∷ es) = omega arith
cut-joins (suc n) (join b o a c d ∷ es) = let e = cut-joins n es in omega arith

pub stops-cut : (n : ℕ) (es front : List Event) (f : Bool) → Stops n es front f → (front ≡ cut n es) × (f ≡ leb (joins_in es) n)
stops-cut n es front _ (finished e h) = (e ∙ whole n es h, sym (le-leb (joins_in es) n h))
stops-cut n es front _ (stopped b o a c d rest e h) =
    let q : joins_in es ≡ joins_in front + suc (joins_in rest) = ap joins_in e ∙ joins-append front (join b o a c d ∷ rest) in
    (part n front rest b o a c d h ∙ ap (cut n) (sym e), sym (lt-leb (joins_in es) n (omega arith)))

-- ---- one list of events

precedes-asym : (e f : Event) → Precedes e f → Precedes f e → ⊥
precedes-asym (offer x) (offer y) v w = before-asym x y v w
precedes-asym (join b o a c d) (join b' o' a' c' d') v w =
    by_call b b' (by_number o o' (by_call a a' (by_call c c' (by_call d d' (λ x y. x))))) v w
precedes-asym (join b o a c d) (offer (alone b' o' a' k')) v w = by_call b b' (by_number o o' (by_call a a' (λ x y. x))) v w
precedes-asym (join b o a c d) (offer (changing b' o' a' c' d' k')) v w =
    by_call b b' (by_number o o' (by_call a a' (by_call c c' (by_call d d' (λ x y. y))))) v w
precedes-asym (join b o a c d) (offer (through b' o' a' c' d' e' g' k')) v w = w
precedes-asym (offer (alone b o a k)) (join b' o' a' c' d') v w = by_call b b' (by_number o o' (by_call a a' (λ x y. y))) v w
precedes-asym (offer (changing b o a c d k)) (join b' o' a' c' d') v w =
    by_call b b' (by_number o o' (by_call a a' (by_call c c' (by_call d d' (λ x y. x))))) v w
precedes-asym (offer (through b o a c d e g k)) (join b' o' a' c' d') v w = v

turn-pairs : (es : List Event) → InTurn es → Pairs Precedes es
turn-pairs [] w = tt
turn-pairs (e ∷ es) w = (w.0, turn-pairs es w.1)

pub one-listed : (F : Feed) (es fs : List Event) → Listed F es → Listed F fs → es ≡ fs
one-listed F es fs v w =
    one-pairs Precedes precedes-asym es fs (turn-pairs es v.in_turn) (turn-pairs fs w.in_turn)
    (λ e m. (w.all e).1 ((v.all e).0 m)) (λ e m. (v.all e).1 ((w.all e).0 m))

pub record OneWithin (os ps : List Journey) (k m : ℕ) (f g : Bool) : Type 0 where
  pub offers : os ≡ ps
  pub count : k ≡ m
  pub finishes : f ≡ g

pub one-within : (F : Feed) (n : ℕ) (os ps : List Journey) (k m : ℕ) (f g : Bool) → Within F n os k f → Within F n ps m g
    → OneWithin os ps k m f g
one-within F n os ps k m f g v w =
    let e = one-listed F v.events w.events v.listed w.listed in
    let (x, q) = stops-cut n v.events v.front f v.stops in
    let (y, r) = stops-cut n w.events w.front g w.stops in
    let z : v.front ≡ w.front = x ∙ ap (cut n) e ∙ sym y in
    record {
      offers = each-one F (offers_in v.front) os ps v.offered (subst (λ (es : List Event). Each F (offers_in es) ps) (sym z) w.offered);
      count = sym v.count ∙ ap joins_in z ∙ w.count;
      finishes = q ∙ ap (λ (es : List Event). leb (joins_in es) n) e ∙ sym r;
    }

-- ---- how many, of all; and what a finished one offers

pub counted_of : (F : Feed) (n : ℕ) (os : List Journey) (k : ℕ) (f : Bool) (es : List Event) → Within F n os k f → Listed F es
    → (k ≡ min n (joins_in es)) × ((f ≡ true) ↔ (joins_in es ≤ n))
counted_of F n os k f es v w =
    let e = one-listed F v.events es v.listed w in
    let (x, q) = stops-cut n v.events v.front f v.stops in
    let r : f ≡ leb (joins_in es) n = q ∙ ap (λ (es : List Event). leb (joins_in es) n) e in (
      sym v.count ∙ ap joins_in (x ∙ ap (cut n) e)
          ∙ cut-joins n es,
      (λ t. leb-true (joins_in es) n (sym r ∙ t), λ h. r ∙ le-leb (joins_in es) n h),
    )

-- ---- which are offered

-- what stands in front precedes
fore-precedes : (fore rest : List Event) (e d : Event) → InTurn (fore ++ e ∷ rest) → Memᴰ d fore → Precedes d e
fore-precedes [] rest e d w m = absurd (Memᴰ.not-nil m)
fore-precedes (c ∷ fore) rest e d w m = go (Memᴰ.cases_cons m) (fore-precedes fore rest e d w.1)
  where
    go : (d ≡ c) ⊎ Memᴰ d fore → (Memᴰ d fore → Precedes d e) → Precedes d e
    go (inl q) ih = subst (λ (x : Event). Precedes x e) (sym q) (w.0 e (Memᴰ.append_right fore (Memᴰ.head refl)))
    go (inr n) ih = ih n

-- with few joins in front it is before the stop; with more, only what stands in front is
cut_has : (n : ℕ) (fore rest : List Event) (x : Offer) → joins_in fore ≤ n → Memᴰ x (offers_in (cut n (fore ++ offer x ∷ rest)))
cut_has n [] rest x h = Memᴰ.head refl
cut_has n (offer y ∷ fore) rest x h = Memᴰ.tail (cut_has n fore rest x h)
cut_has zero (join b o a c d ∷ fore) rest x h = absurd (omega arith)
cut_has (suc n) (join b o a c d ∷ fore) rest x h = cut_has n fore rest x (omega arith)

cut-fore : (n : ℕ) (fore rest : List Event) (x : Offer) → n < joins_in fore → Memᴰ x (offers_in (cut n (fore ++ rest)))
    → Memᴰ (offer x) fore
cut-fore n [] rest x h m = absurd (omega arith)
cut-fore n (offer y ∷ fore) rest x h m = go (Memᴰ.cases_cons m) (cut-fore n fore rest x h)
  where
    go : (x ≡ y) ⊎ Memᴰ x (offers_in (cut n (fore ++ rest))) → (Memᴰ x (offers_in (cut n (fore ++ rest))) → Memᴰ (offer x) fore)
        → Memᴰ (offer x) (offer y ∷ fore)
    go (inl e) ih = Memᴰ.head (ap offer e)
    go (inr k) ih = Memᴰ.tail (ih k)
cut-fore zero (join b o a c d ∷ fore) rest x h m = absurd (Memᴰ.not-nil m)
cut-fore (suc n) (join b o a c d ∷ fore) rest x h m = Memᴰ.tail (cut-fore n fore rest x (omega arith) m)

pub offered_if : (F : Feed) (n : ℕ) (os : List Journey) (k : ℕ) (f : Bool) (w : Within F n os k f) (x : Offer) (fore rest : List Event)
    → w.events ≡ fore ++ offer x ∷ rest
    → Memᴰ x (offers_in w.front) ↔ (joins_in fore ≤ n)
offered_if F n os k f w x fore rest e = (
  λ m. few (leb (joins_in fore) n) refl
      (subst (λ (es : List Event). Memᴰ x (offers_in es)) front m),
  λ h.
      subst (λ (es : List Event). Memᴰ x (offers_in es)) (sym front) (cut_has n fore rest x h),
)
  where
    front : w.front ≡ cut n (fore ++ offer x ∷ rest)
    front = (stops-cut n w.events w.front f w.stops).0 ∙ ap (cut n) e

    few : (b : Bool) → leb (joins_in fore) n ≡ b → Memᴰ x (offers_in (cut n (fore ++ offer x ∷ rest))) → joins_in fore ≤ n
    few true q m = leb-true (joins_in fore) n q
    few false q m =
        let p = fore-precedes fore rest (offer x) (offer x) (subst InTurn e w.listed.in_turn)
        (cut-fore n fore (offer x ∷ rest) x (leb-false (joins_in fore) n q) m) in
        absurd (precedes-asym (offer x) (offer x) p p)

-- a stopped one tested as many as its limit
pub stopped-count : (F : Feed) (n : ℕ) (os : List Journey) (k : ℕ) → Within F n os k false → Within F n os n false
stopped-count F n os k w = record {
  events = w.events;
  listed = w.listed;
  front = w.front;
  stops = w.stops;
  offered = w.offered;
  count = go false refl w.stops;
}
  where
    go : (f : Bool) → f ≡ false → Stops n w.events w.front f → joins_in w.front ≡ n
    go _ q (finished e h) = absurd (cc)
    go _ q (stopped b o a c d rest e h) = h

ascending-in : (es : List Event) → InTurn es → Ascending (offers_in es)
ascending-in [] w = tt
ascending-in (join b o a c d ∷ es) w = ascending-in es w.1
ascending-in (offer x ∷ es) w = (λ y m. w.0 (offer y) (offer-in es y m), ascending-in es w.1)

all-front : (n : ℕ) (es front : List Event) (f : Bool) → f ≡ true → Stops n es front f → front ≡ es
all-front n es front _ q (finished e h) = e
all-front n es front _ q (stopped b o a c d rest e h) = absurd (cc)

pub all_offered : (F : Feed) (n : ℕ) (os : List Journey) (k : ℕ) → Within F n os k true → Offered F os
all_offered F n os k w =
    let e = all-front n w.events w.front true refl w.stops in
    record {
      offers = offers_in w.events;
      ascending = ascending-in w.events w.listed.in_turn;
      each = subst (λ (es : List Event). Each F (offers_in es) os) e w.offered;
      all = λ x j g. in-offers w.events x ((w.listed.all (offer x)).1 (j, g));
    }

-- ---- in any order of the calls

module _ (F : Feed) (is js : List CallInput) (q : Permᴰ is js) where
  join-perm : (b : Call) (o : ℕ) (a c d : Call) → Join (handing F is) b o a c d → Join (handing F js) b o a c d
  join-perm b o a c d w = record {
    may = w.may;
    first = leg-perm F is js q b a w.first;
    origin = w.origin;
    from = w.from;
    walked = w.walked;
    last = leg-perm F is js q c d w.last;
  }

  comes-perm : (e : Event) → Comes (handing F is) e → Comes (handing F js) e
  comes-perm (join b o a c d) w = join-perm b o a c d w
  comes-perm (offer x) (j, g) = (j, gives-perm F is js q x j g)

within-perm : (F : Feed) (is js : List CallInput) (q : Permᴰ is js) (n : ℕ) (os : List Journey) (k : ℕ) (f : Bool)
    → Within (handing F is) n os k f → Within (handing F js) n os k f
within-perm F is js q n os k f w = record {
  events = w.events;
  listed = record {
    in_turn = w.listed.in_turn;
    all = λ e. (λ m. comes-perm F is js q e ((w.listed.all e).0 m), λ c. (w.listed.all e).1 (comes-perm F js is (Permᴰ.symm q) e c));
  };
  front = w.front;
  stops = w.stops;
  offered = each-perm F is js q (offers_in w.front) os w.offered;
  count = w.count;
}

pub within-like : (s : Settings) (t : State) (gs fs : List FillStep) (n : ℕ) (os : List Journey) (k : ℕ) (f : Bool) → Like gs fs
    → Within (feed_of s (keeping t gs)) n os k f → Within (feed_of s (keeping t fs)) n os k f
within-like s t gs fs n os k f w a =
    within-perm (feed_of s (keeping t fs)) (calls_in gs) (calls_in fs) w.calls n os k f
    (subst (λ (F : Feed). Within F n os k f) (feed-beside s t gs fs w.beside) a)
