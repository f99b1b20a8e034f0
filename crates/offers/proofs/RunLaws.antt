-- The later calls of one trip and day in calls that are in order and do not clash: they are its calls with a larger sequence.
use mathlib.Core.Path.{◌≡◌, refl, sym, ◌∙◌}
use mathlib.Core.Logic.{◌⊎◌, inl, inr}
use mathlib.Core.Bool.{true, true≢false}
use mathlib.Core.List.Memᴰ
use mathlib.Core.List.{List, [], ◌∷◌, Memᴰ}
use Prim.Native.Nat.{◌≤◌, ◌<◌}
use lib.Dec.{eqb, ltb}
use borrow.Author.Tests.{lt-ltb, ltb-true, eq-eqb, eqb-true}
use Rattle.laws.specs.Lists.{take_while}
use Rattle.laws.specs.Tails.{Tail}
use Rattle.laws.proofs.Bools.{and-true, and-true-left, and-true-right}
use Rattle.laws.proofs.Tails.{tail-mem, tail-rest, take_while-mem}
use Rattle.calls.specs.declared.Call.{Call}
use Rattle.offers.specs.Order.{earlier, Run, Rising, Follows}
use Rattle.offers.specs.Offers.{same_run}
use Rattle.offers.proofs.OrderLaws.{strict_earlier, run-earlier, between}

-- the calls of b's trip and day at the front of a list
abbrev pub run_of : Call → List Call → List Call
run_of b later = take_while (same_run b) later

pub run-same : (b a : Call) → Run b a → same_run b a ≡ true
run-same b a r = and-true (eqb b.trip a.trip) (eqb b.day a.day) (eq-eqb b.trip a.trip r.trip) (eq-eqb b.day a.day r.day)

pub same-run : (b a : Call) → same_run b a ≡ true → Run b a
same-run b a e = record {
  trip = eqb-true b.trip a.trip (and-true-left (eqb b.trip a.trip) (eqb b.day a.day) e);
  day = eqb-true b.day a.day (and-true-right (eqb b.trip a.trip) (eqb b.day a.day) e);
}

-- ---- sorted calls with no clash

tail-rising : (b : Call) (cs l : List Call) → Rising l → Tail b cs l → ((z : Call) → Memᴰ z cs → earlier b z ≡ true) × Rising cs
tail-rising b cs [] r t = absurd t
tail-rising b cs (y ∷ ys) r (inl (e, f)) = rw (e, f) r
tail-rising b cs (y ∷ ys) r (inr t) = tail-rising b cs ys r.1 t

-- what is after b in order stands after it
tail-later : (b : Call) (cs l : List Call) → Rising l → Tail b cs l → (a : Call) → Memᴰ a l → earlier b a ≡ true → Memᴰ a cs
tail-later b cs [] r t a m e = absurd t
tail-later b cs (y ∷ ys) r t a m e = go t (Memᴰ.cases_cons m) (λ u n. tail-later b cs ys r.1 u a n e)
  where
    never : earlier a b ≡ true → ⊥
    never f = true≢false (sym f ∙ strict_earlier.asym b a e)

    go : ((b ≡ y) × (cs ≡ ys)) ⊎ Tail b cs ys → (a ≡ y) ⊎ Memᴰ a ys → (Tail b cs ys → Memᴰ a ys → Memᴰ a cs) → Memᴰ a cs
    go (inl (p, q)) (inl f) ih = let g : a ≡ b = f ∙ sym p in absurd (never (rw g (rw g at e)))
    go (inl (p, q)) (inr n) ih = rw q n
    go (inr u) (inl f) ih = absurd (never (rw f (r.0 b (tail-mem b cs ys u))))
    go (inr u) (inr n) ih = ih u n

-- the run is not broken before a
run_take : (b : Call) (cs : List Call) → ((z : Call) → Memᴰ z cs → earlier b z ≡ true) → Rising cs → (a : Call) → Memᴰ a cs → Run b a
    → Memᴰ a (run_of b cs)
run_take b [] h r a m u = absurd (Memᴰ.not-nil m)
run_take b (c ∷ cs) h r a m u = go (Memᴰ.cases_cons m) (λ n. run_take b cs (λ z k. h z (Memᴰ.tail k)) r.1 a n u)
  where
    kept : Run b c → Memᴰ a (c ∷ run_of b cs) → Memᴰ a (run_of b (c ∷ cs))
    kept v n = rw (run-same b c v) n

    go : (a ≡ c) ⊎ Memᴰ a cs → (Memᴰ a cs → Memᴰ a (run_of b cs)) → Memᴰ a (run_of b (c ∷ cs))
    go (inl e) ih = kept (rw e at u) (Memᴰ.head e)
    go (inr n) ih =
        kept (between b c a (strict_earlier.asym b c (h c (Memᴰ.head refl))) (strict_earlier.asym c a (r.0 a n)) u) (Memᴰ.tail (ih n))

-- the later calls of b's trip and day in sorted calls are the calls of it with a larger sequence
module _ (s : List Call) (up : Rising s) (b : Call) (cs : List Call) (t : Tail b cs s) (a : Call) where
  pub later-mem : Memᴰ a (run_of b cs) → Memᴰ a cs × Memᴰ a s × Run b a × (b.sequence < a.sequence)
  later-mem m =
      let (n, e) = take_while-mem (same_run b) cs m in
      let r = same-run b a e in
      let f : ltb b.sequence a.sequence ≡ true = sym (run-earlier b a r) ∙ (tail-rising b cs s up t).0 a n in
      (n, tail-rest b cs s t n, r, ltb-true b.sequence a.sequence f)

  pub mem-later : Memᴰ a s → Run b a → b.sequence < a.sequence → Memᴰ a (run_of b cs)
  mem-later m r h =
      let (before, rest) = tail-rising b cs s up t in
      let e : earlier b a ≡ true = run-earlier b a r ∙ lt-ltb b.sequence a.sequence h in
      run_take b cs before rest a (tail-later b cs s up t a m e) r

-- b departs no later than a later call of its trip and day arrives
pub tail-follows : (b : Call) (cs l : List Call) → Follows l → Tail b cs l → (a : Call) → Memᴰ a cs → Run b a → b.departure ≤ a.arrival
tail-follows b cs [] f t = absurd t
tail-follows b cs (y ∷ ys) f (inl (e, q)) = rw (e, q) f.0
tail-follows b cs (y ∷ ys) f (inr t) = tail-follows b cs ys f.1 t
