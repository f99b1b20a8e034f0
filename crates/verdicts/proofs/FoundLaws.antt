-- The calls that a leg names, and the ride between them.
use mathlib.Core.Path.{◌≡◌, refl, sym, ap, subst, ◌∙◌}
use mathlib.Core.Logic.{◌⊎◌, inl, inr}
use mathlib.Core.Bool.{Bool, true, false, not, cond, ◌&&◌, true≢false}
use mathlib.Core.List.{List, [], ◌∷◌, ◌++◌, Memᴰ}
use Prim.Native.Nat.{ℕ, ◌-◌, ◌<◌}
use native.Mathlib.Omega.{arith}
use lib.Dec.{eqb}
use lib.ListN.{length, get_or}
use lib.Seq.{get_or-append_seam}
use borrow.Author.Tests.{eqb-true, eq-eqb, ltb-true, leb-false, lt-leb, not-false}
use Rattle.std.specs.Prelude.{None, Option, Some, is_none, unwrap_or}
use Rattle.laws.specs.Lists.{anyb}
use Rattle.laws.specs.Sort.{Keyed}
use Rattle.laws.proofs.Bools.{cond-not, and-true, and-true-left, and-true-right}
use Rattle.laws.proofs.Lists.{mem-anyb}
use Rattle.calls.specs.declared.Call.{Call}
use Rattle.calls.specs.Tables.{blank_call}
use Rattle.calls.specs.declared.CallKey.{CallKey}
use Rattle.withdrawal.specs.Removal.{last_of, has_key}
use Rattle.withdrawal.proofs.LeftLaws.{without-last, place-tells}
use Rattle.offers.specs.Order.{earlier, Run}
use Rattle.offers.specs.Admitted.{Rides}
use Rattle.offers.proofs.OrderLaws.{run-earlier}
use Rattle.connection.specs.declared.Leg.{Leg}
use Rattle.connection.specs.declared.FoundLeg.{FoundLeg}
use Rattle.connection.specs.Find.{board_key, alight_key, boards, alights, find_in, find_leg}
use Rattle.connection.specs.Legs.{leg_tests}
use Rattle.verdicts.specs.Makes.{Names}
use Rattle.verdicts.specs.Claims.{AllFail}

-- ---- keys

pub record HasKey (k : CallKey) (c : Call) : Type 0 where
  pub trip : c.trip ≡ k.trip
  pub day : c.day ≡ k.day
  pub sequence : c.sequence ≡ k.sequence

key-parts : (k : CallKey) (c : Call) → has_key k c ≡ true → HasKey k c
unfolding has_key
key-parts k c e =
    let f = and-true-right (eqb c.trip k.trip) (eqb c.day k.day && eqb c.sequence k.sequence) e in
    record {
      trip = eqb-true c.trip k.trip (and-true-left (eqb c.trip k.trip) (eqb c.day k.day && eqb c.sequence k.sequence) e);
      day = eqb-true c.day k.day (and-true-left (eqb c.day k.day) (eqb c.sequence k.sequence) f);
      sequence = eqb-true c.sequence k.sequence (and-true-right (eqb c.day k.day) (eqb c.sequence k.sequence) f);
    }

parts-key : (k : CallKey) (c : Call) → HasKey k c → has_key k c ≡ true
unfolding has_key
parts-key k c h =
    and-true (eqb c.trip k.trip) _ (eq-eqb c.trip k.trip h.trip)
    (and-true (eqb c.day k.day) (eqb c.sequence k.sequence) (eq-eqb c.day k.day h.day) (eq-eqb c.sequence k.sequence h.sequence))

-- ---- a call found

mem-middle : (xs : List Call) (y : Call) (ys : List Call) → Memᴰ y (xs ++ (y ∷ ys))
mem-middle [] y ys = Memᴰ.head refl
mem-middle (x ∷ xs) y ys = Memᴰ.tail (mem-middle xs y ys)

-- of calls with distinct keys, one with the same key is the same
one-call : (cs : List Call) → Keyed earlier cs → (k : CallKey) (a b : Call) → Memᴰ a cs → Memᴰ b cs → HasKey k a → HasKey k b → a ≡ b
one-call cs d k a b m n x y = go (d a b m n)
  where
    never : (p q : Call) → HasKey k p → HasKey k q → earlier p q ≡ true → ⊥
    never p q u v e =
        let r : Run p q = record { trip = u.trip ∙ sym v.trip; day = u.day ∙ sym v.day } in
        let less : p.sequence < q.sequence = ltb-true p.sequence q.sequence (sym (run-earlier p q r) ∙ e) in
        omega (arith, u.sequence, v.sequence)

    go : (a ≡ b) ⊎ ((earlier a b ≡ true) ⊎ (earlier b a ≡ true)) → a ≡ b
    go (inl e) = e
    go (inr (inl e)) = absurd (never a b x y e)
    go (inr (inr e)) = absurd (never b a y x e)

module _ (cs : List Call) (k : CallKey) where
  record Found (c : Call) : Type 0 where
    there : Memᴰ c cs
    key : HasKey k c

  -- the call at the place of the last one with the key
  at_last : anyb (has_key k) cs ≡ true → Found (get_or cs (last_of (has_key k) cs - 1) blank_call)
  at_last e =
      let w = without-last (has_key k) cs e in
      let here : last_of (has_key k) cs - 1 ≡ length w.before = omega (arith, w.place) in
      let at : get_or cs (last_of (has_key k) cs - 1) blank_call ≡ w.gone =
      (λ i. get_or (w.whole i) (here i) blank_call) ∙ get_or-append_seam w.before w.gone w.behind blank_call in
      record {
        there = subst (λ (c : Call). Memᴰ c cs) (sym at) (subst (Memᴰ w.gone) (sym w.whole) (mem-middle w.before w.gone w.behind));
        key = key-parts k (get_or cs (last_of (has_key k) cs - 1) blank_call) (ap (has_key k) at ∙ w.passes);
      }

  found-there : is_none (find_in cs k) ≡ false → Found (unwrap_or (find_in cs k) blank_call)
  unfolding find_in
  found-there e = go (eqb (last_of (has_key k) cs) 0) refl e
    where
      held : Option Call
      held = Some (get_or cs (last_of (has_key k) cs - 1) blank_call)

      go : (b : Bool) → eqb (last_of (has_key k) cs) 0 ≡ b → is_none (cond b None held) ≡ false
          → Found (unwrap_or (cond b None held) blank_call)
      go true q f = absurd (true≢false f)
      go false q f = at_last (not-false (anyb (has_key k) cs) (sym (place-tells (has_key k) cs) ∙ q))

  found-one : Keyed earlier cs → (c : Call) → Found c → find_in cs k ≡ Some c
  unfolding find_in
  found-one d c f =
      let some : anyb (has_key k) cs ≡ true = mem-anyb (has_key k) f.there (parts-key k c f.key) in
      let w = at_last some in
      cond-not _ _ (place-tells (has_key k) cs ∙ ap not some)
      ∙ (λ i. Some (one-call cs d k (get_or cs (last_of (has_key k) cs - 1) blank_call) c w.there f.there w.key f.key i))

-- ---- a leg

abbrev pub found : Call → Call → FoundLeg
found b a = record { board = Some b; alight = Some a }

module _ (cs : List Call) (g : Leg) where
  -- a leg without a cause is a ride, of the calls that it names
  pub leg-ride : (i : ℕ) → AllFail (leg_tests i g (find_leg cs g))
      → Rides cs (boards (find_leg cs g)) (alights (find_leg cs g)) × Names g (boards (find_leg cs g)) (alights (find_leg cs g))
  unfolding find_leg
  leg-ride i f =
      let b = found-there cs (board_key g) f.0 in
      let a = found-there cs (alight_key g) f.1.0 in
      let less : g.board < g.alight = leb-false g.alight g.board f.1.1.1.1.0 in (
        record {
          from = b.there;
          to = a.there;
          run = record { trip = b.key.trip ∙ sym a.key.trip; day = b.key.day ∙ sym a.key.day };
          later = omega (arith, b.key.sequence, a.key.sequence);
          board = not-false _ f.1.1.0;
          alight = not-false _ f.1.1.1.0;
        },
        record {
          board_trip = b.key.trip;
          board_day = b.key.day;
          board_at = b.key.sequence;
          alight_trip = a.key.trip;
          alight_day = a.key.day;
          alight_at = a.key.sequence;
        },
      )

  -- and of calls with distinct keys a ride of the calls that it names is found, and has no cause
  module _ (d : Keyed earlier cs) (b a : Call) (r : Rides cs b a) (n : Names g b a) where
    pub ride-found : find_leg cs g ≡ found b a
    unfolding find_leg
    ride-found = λ i. record {
      board = found-one cs (board_key g) d b (record
          { there = r.from; key = record { trip = n.board_trip; day = n.board_day; sequence = n.board_at } }) i;
      alight = found-one cs (alight_key g) d a (record
          { there = r.to; key = record { trip = n.alight_trip; day = n.alight_day; sequence = n.alight_at } }) i;
    }

    pub ride-free : (i : ℕ) → AllFail (leg_tests i g (find_leg cs g))
    ride-free i = subst (λ (f : FoundLeg). AllFail (leg_tests i g f)) (sym ride-found)
        (refl, (refl, (ap not r.board, (ap not r.alight, (lt-leb g.alight g.board (omega (arith, r.later, n.board_at, n.alight_at)), tt)))))
