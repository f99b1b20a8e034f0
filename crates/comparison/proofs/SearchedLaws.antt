-- A search that is taken: its unsearched load holds what was taken, with the calls in order. And what a step on a searched load must leave.
use Rattle.std.specs.Prelude.{Err, Option}
use Prim.Native.Nat.{ℕ, ◌≤◌}
use mathlib.Core.Path.{◌≡◌, refl, sym, ap, subst, ◌∙◌}
use mathlib.Core.Bool.{true}
use mathlib.Core.List.{List, [], ◌++◌, append-nil, Memᴰ}
use lib.ListN.{length}
use Rattle.laws.proofs.Sort.{sort-mem}
use Rattle.refusal.specs.declared.Refusal.{Refusal}
use Rattle.refusal.specs.First.{is_taken, Answer}
use Rattle.settings.specs.declared.Settings.{Settings}
use Rattle.settings.specs.Settings.{canonical_of}
use Rattle.calls.specs.declared.CallInput.{CallInput}
use Rattle.calls.specs.Shown.{windowed}
use Rattle.stops.specs.Sound.{stop_at}
use Rattle.profile.specs.declared.Journey.{Journey}
use Rattle.offers.specs.Order.{in_order_of}
use Rattle.offers.proofs.OrderLaws.{sorted_front}
use Rattle.load.specs.declared.Load.{Load}
use Rattle.load.specs.declared.StepResult.{StepResult}
use Rattle.load.specs.Load.{stopped}
use Rattle.load.specs.FillStep.{FillStep}
use Rattle.load.specs.Sound.{Sound}
use Rattle.search.specs.Search.{with_found}
use Rattle.again.specs.Again.{unsearched_of, researched}
use Rattle.again.proofs.ResearchLaws.{taken-researched, researched-sound}
use Rattle.again.proofs.SortLaws.{in-order-again}
use Rattle.again.proofs.SoundLaws.{unsearched-sound}
use Rattle.steps.specs.Steps.{Step}
use Rattle.steps.proofs.ShownLaws.{raw_earlier, shown-sorted}
use Rattle.comparison.specs.Taken.{StopGiven, calls_in}
use Rattle.comparison.specs.Runs.{After, sent_back}
use Rattle.comparison.proofs.TakenLaws.{HeldAs}
use Rattle.comparison.proofs.StartLaws.{Start, state_at}
use Rattle.comparison.proofs.AsideLaws.{Beside, beside_back, beside-on, apart, apart-calls, apart-like, week-beside}

-- calls apart are shown in order
pub shown-apart : (z : Settings) (h : ℕ) (fs : List FillStep) → windowed z h (calls_in (apart fs))
    ≡ in_order_of (windowed z h (calls_in fs))
shown-apart z h fs = ap (windowed z h) (apart-calls fs) ∙ shown-sorted z h (calls_in fs)

pub apart-again : (z : Settings) (h : ℕ) (fs : List FillStep)
    → in_order_of (windowed z h (calls_in (apart fs))) ≡ in_order_of (windowed z h (calls_in fs))
apart-again z h fs = ap in_order_of (shown-apart z h fs) ∙ in-order-again (windowed z h (calls_in fs))

-- a call of it is one of the list
pub apart-days : (fs : List FillStep) → ((j : CallInput) → Memᴰ j (calls_in fs) → j.day ≤ 2) → (j : CallInput)
    → Memᴰ j (calls_in (apart fs)) → j.day ≤ 2
apart-days fs days j m = days j (sort-mem raw_earlier (calls_in fs) (subst (Memᴰ j) (apart-calls fs) m))

-- p holds gs, which gives what fs does but for the order of the calls
module _ (s : Settings) (p : Load) (gs fs : List FillStep) (w : Start s p gs) (b : Beside gs fs)
    (days : (j : CallInput) → Memᴰ j (calls_in fs) → j.day ≤ 2)
    (same : in_order_of (windowed p.settings p.table_horizon (calls_in gs))
    ≡ in_order_of (windowed p.settings p.table_horizon (calls_in fs))) where
  both : Beside (apart fs) gs
  both = beside-on (apart-like fs).beside (beside_back b)

  start-so : (ks : List Journey) (h m : ℕ) (limit : Option ℕ) → Sound (with_found p ks h m limit)
      → Start s (unsearched_of (with_found p ks h m limit)) (apart fs)
  unfolding unsearched_of
  start-so ks h m limit v = record {
    sound = unsearched-sound (with_found p ks h m limit) v;
    settings = w.settings;
    held = record {
      calls = sorted_front p.call_count p.calls ∙ ap in_order_of w.held.calls ∙ same ∙ sym (shown-apart p.settings p.table_horizon fs);
      days = apart-days fs days;
      rules = w.held.rules ∙ sym both.rules;
      stops = w.held.stops ∙ ap length (sym both.stops);
      each = λ k q. subst (λ (ss : List StopGiven). HeldAs (stop_at p.stops k) ss k) (sym both.stops) (w.held.each k q);
      week = week-beside p.week (apart fs) gs both w.held.week;
    };
    fresh = refl;
  }

  pub searched-start : (limit : Option ℕ) → is_taken (researched limit p).answer ≡ true
      → Start s (unsearched_of (researched limit p).load) (apart fs)
  searched-start limit t =
      let f = taken-researched limit p t in
      let is : (researched limit p).load ≡ with_found p f.kept f.to f.mark f.limit = ap (λ (r : StepResult). r.load) f.is in
      subst (λ (m : Load). Start s (unsearched_of m) (apart fs)) (sym is)
      (start-so f.kept f.to f.mark f.limit (subst Sound is (researched-sound limit p w.sound)))

-- a stopped load has at most one change, so what was handed in says so
pub few-changes : (s : Settings) (l : Load) (fs : List FillStep) → Start s (unsearched_of l) (apart fs) → Sound l → stopped l ≡ true
    → s.max_transfers ≤ 1
unfolding unsearched_of canonical_of
few-changes s l fs w v e = subst (λ (k : ℕ). k ≤ 1) (ap (λ (z : Settings). z.max_transfers) w.settings) (v.stopped_change e)

-- ---- a step x on the searched load l, answered a, leaves n, and hs taken

pub record Leaves (s : Settings) (l : Load) (fs : List FillStep) (x : Step) (a : Answer) (n : Load) (hs : List FillStep) : Type 0 where
  pub after : After s (state_at l fs) x a (state_at n hs)
  pub searched : n.searched ≡ true
  pub start : Start s (unsearched_of n) (apart hs)

-- sent back, it leaves the load
pub stays-so : (s : Settings) (l : Load) (fs : List FillStep) (x : Step) (r : Refusal) → l.searched ≡ true
    → Start s (unsearched_of l) (apart fs) → Leaves s l fs x (Err r) l fs
stays-so s l fs x r d w = record { after = sent_back; searched = d; start = w }

-- with nothing more taken
pub same-leaves : (s : Settings) (l : Load) (fs : List FillStep) (x : Step) (a : Answer) (n : Load) → Leaves s l fs x a n fs
    → Leaves s l fs x a n (fs ++ [])
same-leaves s l fs x a n v = subst (Leaves s l fs x a n) (sym (append-nil fs)) v
