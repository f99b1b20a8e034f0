-- A search keeps a load sound: its calls are the same calls in order, and at most 64 journeys are kept, in order.
use Rattle.std.specs.Prelude.{None, Option, Err, is_some}
use Prim.Native.Nat.{ℕ, ◌+◌, ◌-◌, ◌≤◌}
use mathlib.Core.Path.{◌≡◌, refl, sym, ap, subst, ◌∙◌}
use mathlib.Core.Bool.{Bool, true, false, cond, true≢false, false≢true}
use mathlib.Core.List.{List, Memᴰ}
use native.Mathlib.Omega.{arith}
use lib.ListN.{length, take, drop, replicate, length-append, length-replicate, length-take, length-drop}
use lib.Seq.{take-append_seam, drop-append_seam, drop_at}
use Rattle.laws.specs.Sort.{sort}
use Rattle.laws.proofs.Sort.{length-sort, sort-mem}
use Rattle.profile.specs.declared.Journey.{Journey}
use Rattle.profile.specs.Best.{Ordered, sooner}
use Rattle.profile.specs.Journeys.{no_journey, journey_figures}
use Rattle.profile.proofs.ClaimLaws.{kept-is-front, put-in-order}
use Rattle.calls.specs.declared.Call.{Call}
use Rattle.calls.specs.Sound.{All, CallSound, AtStop}
use Rattle.calls.proofs.SoundLaws.{all-mem, mem-all}
use Rattle.offers.specs.Order.{earlier, sort_first}
use Rattle.offers.specs.Offers.{offers}
use Rattle.offers.specs.Search.{Outcome, clashing, falling, found, answer_of}
use Rattle.offers.proofs.OrderLaws.{sorted_front}
use Rattle.offers.proofs.SearchLaws.{search-found}
use Rattle.refusal.specs.declared.Refusal.TheVariants.{AlreadySearched}
use Rattle.load.specs.declared.Load.{Load}
use Rattle.load.specs.declared.StepResult.{StepResult}
use Rattle.load.specs.Sound.{Sound}
use Rattle.search.specs.Timetable.{timetable_of}
use Rattle.search.specs.Search.{outcome_of, with_found, with_journeys, settled, search_spec}

-- ---- the table in order

module _ (n : ℕ) (l : List Call) (few : n ≤ 512) (long : length l ≡ 512) where
  front_long : length (sort earlier (take n l)) ≡ n
  front_long = length-sort earlier (take n l) ∙ simp length-take (omega arith)

  sorted-long : length (sort_first n l) ≡ 512
  sorted-long = length-append (sort earlier (take n l)) (drop n l) ∙ rw (front_long, length-drop) (omega arith)

  sorted_rest : drop n (sort_first n l) ≡ drop n l
  sorted_rest = drop_at (sort earlier (take n l)) (drop n l) n front_long

  sorted-each : (P : Call → Type 0) → All P (take n l) → All P (take n (sort_first n l))
  sorted-each P a = mem-all P (take n (sort_first n l))
      (λ x m. all-mem P (take n l) a x (sort-mem earlier (take n l) (subst (Memᴰ x) (sorted_front n l) m)))

-- ---- the journeys kept

kept-few : (l : Load) (ks : List Journey) (h m : ℕ) → outcome_of l ≡ found ks h m → length ks ≤ 64
unfolding outcome_of
kept-few l ks h m e =
    let (clear, stood, ran, is) = search-found (timetable_of l) l.table_horizon l.table_limits h m ks e in
    let few = (kept-is-front journey_figures l.table_horizon l.table_limits (offers (timetable_of l)) stood h m ran).1 in
    omega (arith, few, ap length is, length-sort (sooner journey_figures) stood)

kept-ordered : (l : Load) (ks : List Journey) (h m : ℕ) → outcome_of l ≡ found ks h m → Ordered journey_figures ks
unfolding outcome_of
kept-ordered l ks h m e =
    let (clear, stood, ran, is) = search-found (timetable_of l) l.table_horizon l.table_limits h m ks e in
    subst (Ordered journey_figures) (sym is) (put-in-order journey_figures stood).0

fill-up : (n : ℕ) → n ≤ 64 → n + (64 - n) ≡ 64
fill-up n h = omega arith

-- at most 64 journeys, in order; a limit only where the search was stopped, and then of a load with at most one change
pub found-sound : (l : Load) (ks : List Journey) (h m : ℕ) (n : Option ℕ) → length ks ≤ 64 → Ordered journey_figures ks
    → (is_some n ≡ true → l.settings.max_transfers ≤ 1) → Sound l → Sound (with_found l ks h m n)
found-sound l ks h m n fit ord one s =
    let few = s.table.few in
    let long = s.table.long in
    record {
      stops = s.stops;
      table = record {
        few = few;
        long = sorted-long l.call_count l.calls few long;
        blank = sorted_rest l.call_count l.calls few long ∙ s.table.blank;
        each = sorted-each l.call_count l.calls few long (CallSound l.table_horizon) s.table.each;
        known = s.table.known;
        limited = s.table.limited;
      };
      calls_known = sorted-each l.call_count l.calls few long (AtStop l.stop_count) s.calls_known;
      rules = s.rules;
      few = fit;
      long = length-append ks (replicate (64 - length ks) no_journey) ∙ rw length-replicate (fill-up (length ks) fit);
      blank = drop-append_seam ks (replicate (64 - length ks) no_journey);
      in_order = subst (Ordered journey_figures) (sym (take-append_seam ks (replicate (64 - length ks) no_journey))) ord;
      none_kept = λ x. absurd (true≢false x);
      same_horizon = λ x. absurd (true≢false x);
      same_limits = λ x. absurd (true≢false x);
      stopped_search = λ x. refl;
      stopped_change = one;
      week = s.week;
    }

searched-sound : (l : Load) (ks : List Journey) (h m : ℕ) → outcome_of l ≡ found ks h m → Sound l → Sound (with_journeys l ks h m)
searched-sound l ks h m e = found-sound l ks h m None (kept-few l ks h m e) (kept-ordered l ks h m e) (λ x. absurd (false≢true x))

pub search-sound : (l : Load) → Sound l → Sound (search_spec l).load
unfolding search_spec
search-sound l s = by l.searched
  where
    go : (o : Outcome) → outcome_of l ≡ o → Sound (settled l o)
    go clashing e = s
    go falling e = s
    go (found ks h m) e = searched-sound l ks h m e s

    by : (b : Bool) → Sound (cond {A = StepResult} b (record { answer = Err AlreadySearched; load = l })
        (record { answer = answer_of (outcome_of l); load = settled l (outcome_of l) })).load
    by true = s
    by false = go (outcome_of l) refl
