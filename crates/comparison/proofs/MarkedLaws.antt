-- The starred instances, each by computation.
use Rattle.std.specs.Prelude.{Some}
use Prim.Native.Nat.{ℕ, ◌+◌, ◌≤◌}
use mathlib.Core.Path.{◌≡◌, refl, sym, ap, subst, ◌∙◌}
use mathlib.Core.List.Memᴰ
use mathlib.Core.List.{List, [], ◌∷◌, map}
use lib.ListN.{length, get_or}
use mathlib.Core.Logic.{◌⊎◌, inl, inr}
use mathlib.Core.Bool.{true, false, false≢true}
use native.Mathlib.Omega.{arith}
use Rattle.laws.proofs.Options.{some-injective}
use Rattle.time.proofs.Times.{marked}
use Rattle.calls.specs.declared.Call.{Call}
use Rattle.calls.specs.Marked.{started, marked_call}
use Rattle.profile.specs.declared.Journey.{Journey}
use Rattle.profile.specs.Figures.{covᶠ, dueᶠ, lexb}
use Rattle.profile.specs.Journeys.{journey_figures}
use Rattle.profile.specs.Kept.{SearchState, going, refused, searched}
use Rattle.profile.specs.Fall.{Ends, up_to, never, fall, keeping}
use Rattle.profile.specs.Instances.{figures_of, a_second_apart}
use Rattle.profile.proofs.ClaimLaws.{search-is-fall}
use Rattle.offers.specs.Marked.{journey_with}
use Rattle.offers.proofs.MarkedLaws.{marked-offers}
use Rattle.search.proofs.MarkedLaws.{marked-joins}
use Rattle.comparison.specs.Order.{NoLarger, Beats}
use Rattle.comparison.specs.Falls.{End, Falls, at, below}
use Rattle.comparison.specs.Window.{time, NotBelow, Seen}
use Rattle.comparison.specs.Admitted.{Change}
use Rattle.comparison.specs.Marked.{seen_at, no_rule_of, JoinsAt, Starred}
use Rattle.comparison.proofs.FallLaws.{fall-falls, end_of}
use Rattle.comparison.proofs.WitnessLaws.{kept}

beats : (w v : ℕ) → Beats (journey_with (figures_of 300 1319 2 w)) (journey_with (figures_of 300 1320 1 v))
beats w v = record {
  over = record { leaves = omega arith; rest = inl (omega arith) };
  apart = λ s. let e : ◌≡◌ {A = ℕ} 1319 1320 = s.arrival in omega arith;
}

more-rides : (w v : ℕ) → NoLarger 1320 2 w 1320 1 v → ⊥
more-rides w v (inl l) = omega arith
more-rides w v (inr (e, inl l)) = omega arith
more-rides w v (inr (e, inr (q, l))) = omega arith

joins : JoinsAt 1180
joins = record {
  differs = λ e. let z : ◌≡◌ {A = ℕ} 1 2 = e.0 in omega arith;
  seconds = 180;
  change = inr (record { no_rule = λ q m a. absurd (Memᴰ.not-nil m); near = inl refl; takes = refl });
  in_time = omega arith;
}

joins_not : JoinsAt 1179 → ⊥
joins_not w = go w.seconds w.change w.in_time
  where
    go : (n : ℕ) → Change no_rule_of 0 0 n → 1000 + n ≤ 1179 → ⊥
    go n (inl r) l = absurd (Memᴰ.not-nil r.chosen.taken)
    go n (inr r) l = let e : n ≡ 180 = r.takes in omega arith

early : Seen started 21600 (marked_call 990 1000) (seen_at 1 0 0 true false)
early = record {
  a = 990;
  d = 1000;
  arrives = refl;
  departs = refl;
  not_gone = tt;
  not_late = tt;
  trip = refl;
  day = refl;
  sequence = refl;
  stop = refl;
  arrival = refl;
  departure = inl (omega arith, refl);
  board = (λ e. ((tt, omega arith), λ z. omega arith), λ e. refl);
  alight = (λ e. absurd (false≢true e), λ e. absurd e.0.0);
  board_asked = (λ e. absurd (false≢true e), λ e. neither e.1);
  alight_asked = (λ e. absurd (false≢true e), λ e. absurd (false≢true e.0));
}
  where
    neither : (◌≡◌ {A = ℕ} 0 2) ⊎ (◌≡◌ {A = ℕ} 0 3) → false ≡ true
    neither (inl z) = absurd (omega arith)
    neither (inr z) = absurd (omega arith)

-- how many a search keeps, its horizon and its mark; nothing where it is refused
abbrev ends : SearchState Journey → List ℕ
ends (going ks h m) = length ks ∷ h ∷ m ∷ []
ends refused = []

abbrev offers : ℕ → List Journey
offers a = map journey_with (a_second_apart a 65)

abbrev fallen : ℕ → Ends
fallen a = fall (covᶠ journey_figures) (dueᶠ journey_figures) 64 3600 21600 0 [] (offers a)

-- by computation
search-3601 : ends (searched journey_figures 64 3600 21600 0 (offers 537)) ≡ 64 ∷ 3600 ∷ 1 ∷ []
unfolding lexb
search-3601 = refl

search-3600 : ends (searched journey_figures 64 3600 21600 0 (offers 536)) ≡ []
unfolding lexb
search-3600 = refl

-- so much is the fall's
falls-3601 : (os : List Journey) (e : Ends) → ends (keeping (covᶠ journey_figures) (dueᶠ journey_figures) os e) ≡ 64 ∷ 3600 ∷ 1 ∷ []
    → end_of e ≡ at 3600 1
falls-3601 os (up_to h m) q = λ i. at (ap (λ (l : List ℕ). get_or l 1 0) q i) (ap (λ (l : List ℕ). get_or l 2 0) q i)
falls-3601 os never q = let z : ◌≡◌ {A = ℕ} 0 3 = ap length q in absurd (omega arith)

falls-3600 : (os : List Journey) (e : Ends) → ends (keeping (covᶠ journey_figures) (dueᶠ journey_figures) os e) ≡ [] → end_of e ≡ below
falls-3600 os (up_to h m) q = let z : ◌≡◌ {A = ℕ} 3 0 = ap length q in absurd (omega arith)
falls-3600 os never q = refl

-- the fall of the offers ends where the search does
falls-to : (a : ℕ) (d : End) → end_of (fallen a) ≡ d → Falls [] 21600 0 (offers a) d
falls-to a d e = subst (Falls [] 21600 0 (offers a)) e (fall-falls [] (offers a) 21600 0 (omega arith))

searched-is : (a : ℕ) → ends (keeping (covᶠ journey_figures) (dueᶠ journey_figures) (offers a) (fallen a))
    ≡ ends (searched journey_figures 64 3600 21600 0 (offers a))
searched-is a = ap ends (sym (search-is-fall journey_figures 21600 0 (offers a)))

gone-so : (c : Call) → Seen started 21600 (marked_call 990 999) c → ⊥
gone-so c w = go w.d w.departs w.not_gone
  where
    go : (d : ℕ) → Some 999 ≡ Some d → NotBelow (time started 0 d) → ⊥
    go d e n = subst (λ (k : ℕ). NotBelow (time started 0 k)) (sym (some-injective 999 d e)) n

pub starred : Starred
starred = record {
  one = kept.one-trip;
  two = (kept.at_zero, kept.not_boarded);
  three = (kept.at_horizon, kept.past_horizon);
  four = (joins, joins_not);
  four_loads = marked-joins;
  five = beats;
  beside = λ w v e. more-rides w v e.rest;
  beside' = λ w v e. let l = e.leaves in omega arith;
  six = early;
  gone = λ c w. gone-so c w;
  seven = (marked.0, (marked.1.0, (marked.1.1.0, tt)));
  eight = marked.1.1.1;
  nine = falls-to 537 (at 3600 1) (falls-3601 (offers 537) (fallen 537) (searched-is 537 ∙ search-3601));
  below_3600 = falls-to 536 below (falls-3600 (offers 536) (fallen 536) (searched-is 536 ∙ search-3600));
  eleven = marked-offers.latest_3600;
}
