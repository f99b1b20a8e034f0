-- The program's neighbour test decides whether two neighbours refuse the search.
use Prim.Native.Nat.{ℕ, ◌<◌}
use mathlib.Core.Path.{◌≡◌, refl, sym, ap, ◌∙◌}
use mathlib.Core.Logic.{◌⊎◌, inl, inr}
use mathlib.Core.Bool.{Bool, true, false, cond, true≢false, false≢true}
use mathlib.Core.List.{List, [], ◌∷◌, ◌++◌, Memᴰ}
use lib.Dec.{eqb, ltb}
use borrow.Author.Tests.{lt-ltb}
use Rattle.laws.specs.Sort as sorts
use Rattle.laws.proofs.Bools.{or-true-cases, or-true-left, or_true_right, not-true}
use Rattle.settings.specs.declared.Settings.{Settings}
use Rattle.calls.specs.declared.CallInput.{CallInput}
use Rattle.calls.specs.declared.Call.{Call}
use Rattle.profile.proofs.FiguresLaws.{lexb-lt, lexb-same}
use Rattle.offers.specs.Order.{earlier, in_order_of, clash, some_next_of, clashes}
use Rattle.offers.proofs.OrderLaws.{put-in-order, clashes-any-order}
use Rattle.comparison.specs.Window.{Shown}
use Rattle.comparison.specs.Neighbours.{CallBefore, InOrder, Clashing}
use Rattle.comparison.proofs.WindowLaws.{one-shown}
use Rattle.comparison.proofs.Deciding.{Decides, dec-and, dec-or, dec-eqb, dec-ltb}
use Rattle.comparison.proofs.OfferLaws.{call-before}

-- ---- the order

before-call : (b c : Call) → CallBefore b c → earlier b c ≡ true
before-call b c (inl l) = lexb-lt b.trip c.trip _ l
before-call b c (inr (q, inl l)) = lexb-same b.trip c.trip _ q ∙ lexb-lt b.day c.day _ l
before-call b c (inr (q, inr (r, l))) = lexb-same b.trip c.trip _ q ∙ lexb-same b.day c.day _ r ∙ lt-ltb b.sequence c.sequence l

pub order-in : (cs : List Call) → sorts.Ordered earlier cs → InOrder cs
order-in [] w = tt
order-in (c ∷ cs) w = (λ d m b. true≢false (sym (before-call d c b) ∙ w.0 d m), order-in cs w.1)

in_order : (cs : List Call) → InOrder cs → sorts.Ordered earlier cs
in_order [] w = tt
in_order (c ∷ cs) w = (λ d m. not-true (earlier d c) (λ e. w.0 d m (call-before d c e)), in_order cs w.1)

-- what is in order stays
sort-stays : (cs : List Call) → sorts.Ordered earlier cs → in_order_of cs ≡ cs
sort-stays [] w = refl
sort-stays (c ∷ cs) w = ap (sorts.insert_by earlier c) (sort-stays cs w.1) ∙ front cs w.0
  where
    front : (ds : List Call) → ((d : Call) → Memᴰ d ds → earlier d c ≡ false) → sorts.insert_by earlier c ds ≡ c ∷ ds
    front [] f = refl
    front (d ∷ ds) f = ap (λ (b : Bool). cond b (d ∷ sorts.insert_by earlier c ds) (c ∷ d ∷ ds)) (f d (Memᴰ.head refl))

-- ---- two neighbours

abbrev Clash : Call → Call → Type 0
Clash a b = (a.trip ≡ b.trip) × ((a.day ≡ b.day) × (a.sequence ≡ b.sequence ⊎ b.arrival < a.departure))

dec-clash : (a b : Call) → Decides (clash a b) (Clash a b)
unfolding clash
dec-clash a b =
    dec-and (eqb a.trip b.trip) _ (dec-eqb a.trip b.trip)
    (dec-and (eqb a.day b.day) _ (dec-eqb a.day b.day)
    (dec-or (eqb a.sequence b.sequence) (ltb b.arrival a.departure) (dec-eqb a.sequence b.sequence) (dec-ltb b.arrival a.departure)))

record Next (cs : List Call) : Type 0 where
  before : List Call
  a : Call
  b : Call
  behind : List Call
  is : cs ≡ before ++ a ∷ b ∷ behind
  clashes : clash a b ≡ true

some_next : (cs : List Call) → some_next_of clash cs ≡ true → Next cs
some_next [] e = absurd (false≢true e)
some_next (a ∷ []) e = absurd (false≢true e)
some_next (a ∷ b ∷ cs) e = go (or-true-cases (clash a b) (some_next_of clash (b ∷ cs)) e) (some_next (b ∷ cs))
  where
    go : (clash a b ≡ true) ⊎ (some_next_of clash (b ∷ cs) ≡ true) → (some_next_of clash (b ∷ cs) ≡ true → Next (b ∷ cs))
        → Next (a ∷ b ∷ cs)
    go (inl q) ih = record { before = []; a = a; b = b; behind = cs; is = refl; clashes = q }
    go (inr q) ih = let w = ih q in record {
      before = a ∷ w.before;
      a = w.a;
      b = w.b;
      behind = w.behind;
      is = λ k. a ∷ w.is k;
      clashes = w.clashes;
    }

next-some : (before : List Call) (a b : Call) (behind : List Call) → clash a b ≡ true → some_next_of clash (before ++ a ∷ b ∷ behind) ≡ true
next-some [] a b behind e = or-true-left (clash a b) (some_next_of clash (b ∷ behind)) e
next-some (c ∷ []) a b behind e = or_true_right (clash c a) (some_next_of clash (a ∷ b ∷ behind)) (next-some [] a b behind e)
next-some (c ∷ d ∷ ds) a b behind e = or_true_right (clash c d) (some_next_of clash (d ∷ ds ++ a ∷ b ∷ behind))
    (next-some (d ∷ ds) a b behind e)

pub dec-clashing : (s : Settings) (h : ℕ) (is : List CallInput) (cs : List Call) → Shown s h is cs
    → Decides (clashes (in_order_of cs)) (Clashing s h is)
dec-clashing s h is cs w = (fore, back)
  where
    fore : clashes (in_order_of cs) ≡ true → Clashing s h is
    fore e =
        let v = some_next (in_order_of cs) e in
        let q = (dec-clash v.a v.b).0 v.clashes in
        record {
          calls = in_order_of cs;
          ordered = record { seen = cs; shown = w; same = (put-in-order cs).0; in_order = order-in (in_order_of cs) (put-in-order cs).1 };
          before = v.before;
          a = v.a;
          b = v.b;
          behind = v.behind;
          neighbours = v.is;
          trip = q.0;
          day = q.1.0;
          clash = q.1.1;
        }

    back : Clashing s h is → clashes (in_order_of cs) ≡ true
    back v =
        let u = v.ordered in
        let e : clashes v.calls ≡ true = ap clashes v.neighbours
        ∙ next-some v.before v.a v.b v.behind ((dec-clash v.a v.b).1 (v.trip, (v.day, v.clash))) in
        ap (λ (x : List Call). clashes (in_order_of x)) (one-shown s h is cs u.seen w u.shown)
        ∙ sym (clashes-any-order v.calls u.seen u.same)
        ∙ ap clashes (sort-stays v.calls (in_order v.calls u.in_order))
        ∙ e
