-- In the load that the search was handed, parents, sides, changes and joins are those stated here.
use Rattle.std.specs.Option.{unwrap_or}
use Rattle.std.specs.Prelude.{None, Option, Some}
use Prim.Native.Nat.{ℕ, ◌+◌, ◌≤◌, ◌<◌}
use mathlib.Core.Path.{◌≡◌, refl, sym, ap, subst, ◌∙◌}
use mathlib.Core.Logic.{◌⊎◌, inl, inr, ◌↔◌}
use mathlib.Core.Bool.{Bool, true, false, not, cond, ◌&&◌, ◌||◌, true≢false, false≢true}
use mathlib.Core.List.{List, Memᴰ}
use native.Mathlib.Omega.{arith}
use lib.Dec.{eqb, ltb}
use lib.ListN.{get_or}
use borrow.Author.Tests.{leb-true, le-leb, eqb-true, eqb-false, eq-eqb, ne_eqb, lt-ltb, not-true}
use Rattle.laws.proofs.Bools.{and-true, and-true-left, and-true-right, or-true-cases, or-true-left, or_true_right, cond-by}
use Rattle.laws.proofs.Options.{some-injective, none-ne-some}
use Rattle.settings.specs.declared.Settings.{Settings}
use Rattle.settings.specs.Settings.{canonical_of}
use Rattle.calls.specs.declared.Call.{Call}
use Rattle.rules.specs.declared.Rule.{Rule}
use Rattle.rules.specs.Sound.{rule_at}
use Rattle.stops.specs.Sound.{stop_at}
use Rattle.transfer.specs.declared.Ends.{Ends}
use Rattle.transfer.specs.Choice.{side, chosen}
use Rattle.transfer.specs.Changes.{ends_of_of, near, change_of, transfer_of, joins_by, join_of}
use Rattle.transfer.specs.Copied.{parents_of}
use Rattle.transfer.proofs.Claims.{parent-read, pair-once}
use Rattle.transfer.proofs.AnyOrder.{place_of}
use Rattle.load.specs.declared.Load.{Load}
use Rattle.load.specs.FillStep.{FillStep}
use Rattle.offers.specs.Offers.{ride_of}
use Rattle.search.specs.Timetable.{change_in, one_run, joins_in}
use Rattle.comparison.specs.Taken.{StopGiven, stops_in, rules_in}
use Rattle.comparison.specs.Admitted.{Nth, Feed, Parent, Side, Change, Joins}
use Rattle.comparison.proofs.NthLaws.{nth-one}
use Rattle.comparison.proofs.TakenLaws.{ParentHeld, HeldAs}
use Rattle.comparison.proofs.StartLaws.{Start, feed_from}
use Rattle.comparison.proofs.PlaceLaws.{place_in, one-id, given_below, place-in, place_out}
use Rattle.comparison.proofs.RuleLaws.{Taken, Near, change-in, change-out}

module _ (s : Settings) (p : Load) (fs : List FillStep) (w : Start s p fs) where
  abbrev F : Feed
  F = feed_from s p fs

  few : p.stop_count ≤ 128
  few = w.sound.stops.few

  -- ---- parents

  parent_in : (x n : ℕ) → x < p.stop_count → (stop_at p.stops x).parent ≡ Some n → Parent (stops_in fs) x n
  parent_in x n h e = go (w.held.each x h)
    where
      go : HeldAs (stop_at p.stops x) (stops_in fs) x → Parent (stops_in fs) x n
      go v = two v.parent
        where
          two : ParentHeld (stop_at p.stops x).parent (stops_in fs) x v.given.parent → Parent (stops_in fs) x n
          two (inl (a, b)) = absurd (none-ne-some n (sym b ∙ e))
          two (inr (y, q, b, m, l, i, t)) = record {
            child = v.given;
            station = q;
            at_child = v.at;
            at_station = subst (λ (j : ℕ). Nth (stops_in fs) j q) (some-injective y n (sym b ∙ e)) m;
            named = i;
            type_one = t;
          }

  below : (x : ℕ) (g : StopGiven) → Nth (stops_in fs) x g → x < p.stop_count
  below = given_below s p fs w

  parent-out : (x n : ℕ) → Parent (stops_in fs) x n → (stop_at p.stops x).parent ≡ Some n
  parent-out x n c = go (w.held.each x (below x c.child c.at_child))
    where
      go : HeldAs (stop_at p.stops x) (stops_in fs) x → (stop_at p.stops x).parent ≡ Some n
      go v = two v.parent
        where
          same : v.given ≡ c.child
          same = nth-one (stops_in fs) x v.given c.child v.at c.at_child

          two : ParentHeld (stop_at p.stops x).parent (stops_in fs) x v.given.parent → (stop_at p.stops x).parent ≡ Some n
          two (inl (a, b)) = absurd (none-ne-some c.station.id (sym a ∙ ap (λ (g : StopGiven). g.parent) same ∙ c.named))
          two (inr (y, q, b, m, l, i, t)) =
              let hy : y < p.stop_count = below y q m in
              let hn : n < p.stop_count = below n c.station c.at_station in
              let u = w.held.each y hy in
              let z = w.held.each n hn in
              let k : q.id ≡ c.station.id = some-injective q.id c.station.id (sym i ∙ ap (λ (g : StopGiven). g.parent) same ∙ c.named) in
              b ∙ ap Some (one-id s p fs w y n hy hn
              (u.id ∙ ap (λ (g : StopGiven). g.id) (nth-one (stops_in fs) y u.given q u.at m) ∙ k
              ∙ ap (λ (g : StopGiven). g.id) (nth-one (stops_in fs) n c.station z.given c.at_station z.at) ∙ sym z.id))

  -- ---- sides

  -- the program reads 65535 where there is no parent
  read : (x : ℕ) → x < p.stop_count → get_or (parents_of p.stops) x 65535 ≡ unwrap_or (stop_at p.stops x).parent 65535
  read x h = parent-read p.stops x (omega (arith, few))

  is-some : (o : Option ℕ) → (unwrap_or o 65535 ≡ 65535 → ⊥) → o ≡ Some (unwrap_or o 65535)
  is-some (Some n) f = refl
  is-some None f = absurd (f refl)

  read-in : (x : ℕ) → x < p.stop_count → (get_or (parents_of p.stops) x 65535 ≡ 65535 → ⊥)
      → Parent (stops_in fs) x (get_or (parents_of p.stops) x 65535)
  read-in x h f =
      parent_in x (get_or (parents_of p.stops) x 65535) h
      (is-some (stop_at p.stops x).parent (λ q. f (read x h ∙ q)) ∙ ap Some (sym (read x h)))

  read-out : (x n : ℕ) → x < p.stop_count → Parent (stops_in fs) x n → get_or (parents_of p.stops) x 65535 ≡ n
  read-out x n h c = read x h ∙ ap (λ (o : Option ℕ). unwrap_or o 65535) (parent-out x n c)

  side-is : (n x : ℕ) → x < p.stop_count → n < 128 → (side n x (get_or (parents_of p.stops) x 65535) ≡ true) ↔ Side F n x
  side-is n x h k = (λ e. fore (or-true-cases (eqb n x) _ e), back)
    where
      fore : (eqb n x ≡ true) ⊎ (eqb n (get_or (parents_of p.stops) x 65535) ≡ true) → Side F n x
      fore (inl e) = inl (eqb-true n x e)
      fore (inr e) = let q = eqb-true n _ e in inr (subst (Parent (stops_in fs) x) (sym q) (read-in x h (λ z. omega arith)))

      back : Side F n x → side n x (get_or (parents_of p.stops) x 65535) ≡ true
      back (inl e) = or-true-left _ _ (eq-eqb n x e)
      back (inr c) = or_true_right (eqb n x) _ (eq-eqb n _ (sym (read-out x n h c)))

  -- ---- rules

  -- a rule that was taken stands at a place of the load
  placed : (r : Rule) → Memᴰ r (rules_in fs) → (k : ℕ) × (k < p.rule_count) × (rule_at p.rules k ≡ r)
  placed r m = place_of p.stop_count p.rules p.rule_count w.sound.rules r (subst (Memᴰ r) (sym w.held.rules) m)

  -- it names stops that are
  rule-known : (r : Rule) → Memᴰ r (rules_in fs) → (r.from < 128) × (r.to < 128)
  rule-known r m =
      let (k, l, q) = placed r m in (
        omega (arith, w.sound.rules.from_known k l, ap (λ (x : Rule). x.from) q, few),
        omega (arith, w.sound.rules.to_known k l, ap (λ (x : Rule). x.to) q, few),
      )

  -- its type is one of 0 to 3, and no other is for its pair
  known : Taken (rules_in fs)
  known = record {
    types = λ r m. let (k, l, q) = placed r m in omega (arith, w.sound.rules.types k l, ap (λ (x : Rule). x.transfer_type) q);
    alone = λ a b m n f t.
        let (j, hj, qj) = placed a m in
        let (k, hk, qk) = placed b n in
        let same : j ≡ k =
        pair-once p.stop_count p.rules p.rule_count w.sound.rules j k hj hk
        (ap (λ (x : Rule). x.from) qj ∙ f ∙ sym (ap (λ (x : Rule). x.from) qk))
        (ap (λ (x : Rule). x.to) qj ∙ t ∙ sym (ap (λ (x : Rule). x.to) qk)) in
        sym qj ∙ ap (rule_at p.rules) same ∙ qk;
  }

  -- ---- changes

  module _ (x y : ℕ) (hx : x < p.stop_count) (hy : y < p.stop_count) where
    abbrev e : Ends
    e = record { from = x; from_parent = get_or (parents_of p.stops) x 65535; to = y; to_parent = get_or (parents_of p.stops) y 65535 }

    fores : (r : Rule) → Memᴰ r (rules_in fs) → (side r.from x (get_or (parents_of p.stops) x 65535) ≡ true) ↔ Side F r.from x
    fores r m = side-is r.from x hx (rule-known r m).0

    rears : (r : Rule) → Memᴰ r (rules_in fs) → (side r.to y (get_or (parents_of p.stops) y 65535) ≡ true) ↔ Side F r.to y
    rears r m = side-is r.to y hy (rule-known r m).1

    abbrev close : Bool
    close = near e (place_in p x) (place_in p y)

    nears : (close ≡ true) ↔ Near F e known fores rears
    nears = (λ q. one (or-true-cases (eqb x y) _ q), back)
      where
        fp : ℕ
        fp = get_or (parents_of p.stops) x 65535

        tp : ℕ
        tp = get_or (parents_of p.stops) y 65535

        parents : (not (eqb fp 65535) && eqb fp tp) ≡ true → (n : ℕ) × Parent (stops_in fs) x n × Parent (stops_in fs) y n
        parents q =
            let a : fp ≡ 65535 → ⊥ = eqb-false fp 65535 (not-true (eqb fp 65535) (and-true-left _ _ q)) in
            let b : fp ≡ tp = eqb-true fp tp (and-true-right (not (eqb fp 65535)) _ q) in
            (fp, read-in x hx a, subst (Parent (stops_in fs) y) (sym b) (read-in y hy (λ z. a (b ∙ z))))

        two : ((not (eqb fp 65535) && eqb fp tp) ≡ true) ⊎ ((not (eqb (place_in p x) 65535) && eqb (place_in p x) (place_in p y)) ≡ true)
            → Near F e known fores rears
        two (inl q) = inr (inl (parents q))
        two (inr q) = inr (inr (place-in s p fs w x y hx hy
            (eqb-true (place_in p x) (place_in p y) (and-true-right (not (eqb (place_in p x) 65535)) _ q))
            (eqb-false (place_in p x) 65535 (not-true (eqb (place_in p x) 65535) (and-true-left _ _ q)))))

        one : (eqb x y ≡ true) ⊎ (((not (eqb fp 65535) && eqb fp tp) ||
            (not (eqb (place_in p x) 65535) && eqb (place_in p x) (place_in p y))) ≡ true) → Near F e known fores rears
        one (inl q) = inl (eqb-true x y q)
        one (inr q) = two (or-true-cases (not (eqb fp 65535) && eqb fp tp) _ q)

        back : Near F e known fores rears → close ≡ true
        back (inl q) = or-true-left _ _ (eq-eqb x y q)
        back (inr (inl (n, c, d))) =
            let a : fp ≡ n = read-out x n hx c in
            let b : tp ≡ n = read-out y n hy d in
            let l : n < p.stop_count = below n c.station c.at_station in
            or_true_right (eqb x y) _ (or-true-left _ _
            (and-true _ _ (ap not (ne_eqb fp 65535 (λ z. omega (arith, few)))) (eq-eqb fp tp (a ∙ sym b))))
        back (inr (inr o)) =
            let (a, b) = place_out s p fs w x y o in
            or_true_right (eqb x y) _ (or_true_right (not (eqb fp 65535) && eqb fp tp) _
            (and-true _ _ (ap not (ne_eqb (place_in p x) 65535 b)) (eq-eqb (place_in p x) (place_in p y) a)))

    -- the change time of the load is that of the settings
    change : p.settings.transfer_seconds ≡ s.transfer_seconds
    unfolding canonical_of
    change = ap (λ (z : Settings). z.transfer_seconds) w.settings

    change-is : change_in p x y ≡ change_of (chosen e (rules_in fs)) close s.transfer_seconds
    unfolding transfer_of ends_of_of
    change-is = λ k. change_of (chosen e (w.held.rules k)) close (change k)

    pub takes-in : (n : ℕ) → change_in p x y ≡ Some n → Change F x y n
    takes-in n q = change-in F e known fores rears close nears n (sym change-is ∙ q)

    pub takes_out : (n : ℕ) → Change F x y n → change_in p x y ≡ Some n
    takes_out n c = change-is ∙ change-out F e known fores rears close nears n c

  -- ---- joins

  module _ (b a c : Call) (trip : b.trip ≡ a.trip) (day : b.day ≡ a.day) (ha : a.stop < p.stop_count) (hc : c.stop < p.stop_count) where
    guard : (ltb a.stop 128 && ltb c.stop 128) ≡ true
    guard = and-true _ _ (lt-ltb a.stop 128 (omega (arith, few))) (lt-ltb c.stop 128 (omega (arith, few)))

    joins-is : joins_in p (ride_of b a) c ≡ join_of (change_in p a.stop c.stop) (one_run (ride_of b a) c) a.arrival c.departure
    joins-is = cond-by _ false guard

    pub joins-in : joins_in p (ride_of b a) c ≡ true → Joins F a c
    joins-in q = go (one_run (ride_of b a) c) refl (change_in p a.stop c.stop) refl (sym joins-is ∙ q)
      where
        go : (r : Bool) → one_run (ride_of b a) c ≡ r → (t : Option ℕ) → change_in p a.stop c.stop ≡ t
            → cond r false (joins_by t a.arrival c.departure) ≡ true → Joins F a c
        go true z t u v = absurd (false≢true v)
        go false z None u v = absurd (false≢true v)
        go false z (Some n) u v = record {
          differs = λ (f, g). true≢false (sym (and-true _ _ (eq-eqb b.trip c.trip (trip ∙ f)) (eq-eqb b.day c.day (day ∙ g))) ∙ z);
          seconds = n;
          change = takes-in a.stop c.stop ha hc n u;
          in_time = leb-true (a.arrival + n) c.departure v;
        }

    pub joins-out : Joins F a c → joins_in p (ride_of b a) c ≡ true
    joins-out j =
        let r : one_run (ride_of b a) c ≡ false = run (eqb b.trip c.trip) refl (eqb b.day c.day) refl in
        let t : change_in p a.stop c.stop ≡ Some j.seconds = takes_out a.stop c.stop ha hc j.seconds j.change in
        joins-is ∙ (λ k. join_of (t k) (r k) a.arrival c.departure) ∙ le-leb (a.arrival + j.seconds) c.departure j.in_time
      where
        run : (u : Bool) → eqb b.trip c.trip ≡ u → (v : Bool) → eqb b.day c.day ≡ v → (u && v) ≡ false
        run true e true f = absurd (j.differs (sym trip ∙ eqb-true _ _ e, sym day ∙ eqb-true _ _ f))
        run true e false f = refl
        run false e v f = refl
