-- 513 calls by which two orders differ. What is stored follows from the laws; one stop, one call and one cut are computed.
use Rattle.refusal.specs.declared.Accepted.TheVariants.{Taken, Outside}
use Rattle.std.specs.Prelude.{None, Some, Ok}
use Prim.Native.Nat.{ℕ, zero, suc, ◌+◌, ◌≤◌, ◌<◌}
use mathlib.Core.Path.{◌≡◌, refl, sym, ap, subst, ◌∙◌}
use mathlib.Core.Bool.{Bool, true, false}
use mathlib.Core.List.{List, [], ◌∷◌, ◌++◌, map}
use native.Mathlib.Omega.{arith}
use lib.ListN.{length, take, replicate}
use Rattle.laws.proofs.Bools.{cond-not}
use Rattle.refusal.specs.First.{first_answer, Answer}
use Rattle.settings.specs.declared.Settings.{Settings}
use Rattle.settings.specs.Settings.{near, walks_of, canonical_of}
use Rattle.stops.specs.Answer.{station_of, id_wrong, is_known, type_wrong, name_needed, name_wrong, stop_tests}
use Rattle.stops.specs.Sound.{stop_at}
use Rattle.stops.specs.Taken.{stop_of}
use Rattle.texts.specs.Texts.{held}
use Rattle.calls.specs.declared.Call.{Call}
use Rattle.calls.specs.declared.CallInput.{CallInput}
use Rattle.calls.specs.declared.Table.{Table}
use Rattle.calls.specs.Tried.{Tried}
use Rattle.calls.specs.Windows.{time_after, seen_call, seen}
use Rattle.calls.specs.Tables.{due_by, trim_all, cut, less, put, fitted}
use Rattle.calls.specs.Calls.{known, call_tests, call_time, call_seen, call_fit, call_on}
use Rattle.calls.proofs.CallLaws.{changed}
use Rattle.calls.proofs.FitLaws as fit
use Rattle.week.specs.Weeks.{undated_week}
use Rattle.load.specs.declared.Load.{Load}
use Rattle.load.specs.Load.{empty_of, blank_settings}
use Rattle.load.specs.Steps.{undated, stop_spec, plain_call, call_spec}
use Rattle.any_order.specs.Calls.{Named, calling, called, answer_first, cramped}
use Rattle.any_order.specs.Proviso.{stop_alone, one_stop, at, ProvisoNeeded}
use Rattle.any_order.proofs.FateLaws.{fate, goes}
use Rattle.any_order.proofs.RunLaws.{into, entering, answered, answered-alone, made_of, Grown, grown}
use Rattle.any_order.proofs.AnyOrderLaws.{made-sound, room-for-all}

-- ---- lists of one call

-- a cut leaves none that arrives later
none-due : (h n : ℕ) (k : Call) → due_by h k ≡ false → trim_all h (replicate n k) ≡ []
none-due h zero k e = refl
none-due h (suc n) k e = cond-not _ _ e ∙ none-due h n k e

enter-all : (n : ℕ) (l : Load) (c : Named) (k : Call) → fate l c ≡ goes k → entering l (replicate n c) ≡ replicate n k
unfolding entering
enter-all zero l c k e = refl
enter-all (suc n) l c k e = λ j. into (e j) ++ enter-all n l c k e j

enter-first : (n : ℕ) (l : Load) (c d : Named) (k j : Call) → fate l c ≡ goes k → fate l d ≡ goes j
    → entering l (c ∷ replicate n d) ≡ k ∷ replicate n j
unfolding entering
enter-first n l c d k j e f = λ x. into (e x) ++ enter-all n l d j f x

map-all : {A B : Type 0} (f : A → B) (n : ℕ) (a : A) → map f (replicate n a) ≡ replicate n (f a)
map-all f zero a = refl
map-all f (suc n) a = ap (λ (bs : List _). f a ∷ bs) (map-all f n a)

-- ---- a call that meets a full table, which is cut once

module _ (s : Settings) (n : ℕ) (t : Table) (i : CallInput) (k : Call) (q : first_answer (call_tests false n i) ≡ Ok Taken)
    (e : call_seen s t.horizon i ≡ Some k) (full : 512 ≤ t.count) (above : 3600 ≤ less t.horizon) where
  then-taken : (j : Call) → call_seen s (less t.horizon) i ≡ Some j → length (trim_all (less t.horizon) (take t.count t.calls)) < 512
      → (call_on s false n t i).answer ≡ Ok Taken
  unfolding call_fit cut
  then-taken j o r =
      let c = cut (less t.horizon) t in
      let a = call_time s i i.arrival in
      let d = call_time s i i.departure in
      let f : ◌≡◌ {A = Tried} (record { answer = Ok Taken; table = put c j }) (call_fit s t i) = fit.room a d i c j o r
      ∙ fit.cuts a d i t k e full above in
      sym (ap (λ (x : Tried). x.answer) (changed s false n t i (record { answer = Ok Taken; table = put c j }) (sym q) f refl))

  then-outside : call_seen s (less t.horizon) i ≡ None → (call_on s false n t i).answer ≡ Ok Outside
  unfolding call_fit cut
  then-outside o =
      let c = cut (less t.horizon) t in
      let a = call_time s i i.arrival in
      let d = call_time s i i.departure in
      let f : ◌≡◌ {A = Tried} (record { answer = Ok Outside; table = c }) (call_fit s t i) = fit.outside a d i c o
      ∙ fit.cuts a d i t k e full above in
      sym (ap (λ (x : Tried). x.answer) (changed s false n t i (record { answer = Ok Outside; table = c }) (sym q) f refl))

-- ---- the load with one stop

call_at : ℕ → Call
call_at n = record {
  trip = 1;
  day = 0;
  sequence = 1;
  stop = 0;
  arrival = n;
  departure = n;
  board = true;
  alight = true;
  board_request = false;
  alight_request = false;
}

abbrev full_table : List Call → Table
full_table cs = record { calls = cs; count = 512; horizon = 21600; limits = 0 }

record Computed : Type 0 where
  none_yet : one_stop.call_count ≡ 0
  early-goes : fate one_stop (at 1000) ≡ goes (call_at 1000)
  late-goes : fate one_stop (at 20000) ≡ goes (call_at 20000)
  late-taken : (calling one_stop (at 20000)).answer ≡ Ok Taken
  asks : (cs : List Call) (b : Bool) (c : Named)
      → (calling (made_of one_stop cs 512 b) c).answer ≡ (call_on blank_settings false 1 (full_table cs) c.1).answer
  early-passes : first_answer (call_tests false 1 (at 1000).1) ≡ Ok Taken
  late-passes : first_answer (call_tests false 1 (at 20000).1) ≡ Ok Taken
  early-seen : call_seen blank_settings 21600 (at 1000).1 ≡ Some (call_at 1000)
  early-then : call_seen blank_settings 16200 (at 1000).1 ≡ Some (call_at 1000)
  late-seen : call_seen blank_settings 21600 (at 20000).1 ≡ Some (call_at 20000)
  late-then : call_seen blank_settings 16200 (at 20000).1 ≡ None
  late-cut : due_by 16200 (call_at 20000) ≡ false

computed : Computed
unfolding first_answer near walks_of canonical_of station_of id_wrong is_known type_wrong name_needed name_wrong stop_tests stop_at
    stop_of held known call_tests call_fit fitted call_on time_after seen_call seen empty_of undated_week stop_spec plain_call call_spec
    fate call_at
computed = record {
  none_yet = refl;
  early-goes = refl;
  late-goes = refl;
  late-taken = refl;
  asks = asks;
  early-passes = refl;
  late-passes = refl;
  early-seen = refl;
  early-then = refl;
  late-seen = refl;
  late-then = refl;
  late-cut = refl;
}
  where
    asks : (cs : List Call) (b : Bool) (c : Named)
        → (calling (made_of one_stop cs 512 b) c).answer ≡ (call_on blank_settings false 1 (full_table cs) c.1).answer
    asks cs true c = refl
    asks cs false c = refl

-- ---- the two orders

module _ (cs : List Named) (ks : List Call) (e : entering one_stop cs ≡ ks) (many : length cs ≡ 512) (full : length ks ≡ 512) where
  fits_all : cramped one_stop cs ≡ false
  fits_all =
      let z = computed.none_yet in
      let few : one_stop.call_count + length cs ≤ 512 = omega arith in
      room-for-all (undated blank_settings) stop_alone cs few

  grew : Grown one_stop ks (answered one_stop cs) (called one_stop cs)
  grew = subst (λ (xs : List Call). Grown one_stop xs (answered one_stop cs) (called one_stop cs)) e
      (grown cs one_stop (made-sound (undated blank_settings) stop_alone) fits_all)

  count : one_stop.call_count + length ks ≡ 512
  count = let z = computed.none_yet in omega arith

  shows : take 512 (called one_stop cs).calls ≡ ks
  shows = ap (λ (x : ℕ). take x (called one_stop cs).calls) (sym count) ∙ grew.calls
      ∙ ap (λ (x : ℕ). take x one_stop.calls ++ ks) computed.none_yet

  asked : (c : Named) → (calling (called one_stop cs) c).answer
      ≡ (call_on blank_settings false 1 (full_table (called one_stop cs).calls) c.1).answer
  asked c =
      ap (λ (m : Load). (calling m c).answer) (grew.is
      ∙ ap (λ (x : ℕ). made_of one_stop (called one_stop cs).calls x (answered one_stop cs)) count)
      ∙ computed.asks (called one_stop cs).calls (answered one_stop cs) c

abbrev lates : List Named
lates = replicate 512 (at 20000)

late-all : entering one_stop lates ≡ replicate 512 (call_at 20000)
late-all = enter-all 512 one_stop (at 20000) (call_at 20000) computed.late-goes

taken-last : (calling (called one_stop lates) (at 1000)).answer ≡ Ok Taken
taken-last =
    let t = full_table (called one_stop lates).calls in
    let none : trim_all 16200 (take 512 (called one_stop lates).calls) ≡ [] =
    ap (trim_all 16200) (shows lates (replicate 512 (call_at 20000)) late-all refl refl)
    ∙ none-due 16200 512 (call_at 20000) computed.late-cut in
    let few : length (trim_all 16200 (take 512 (called one_stop lates).calls)) ≡ 0 = ap length none in
    asked lates (replicate 512 (call_at 20000)) late-all refl refl (at 1000)
    ∙ then-taken blank_settings 1 t (at 1000).1 (call_at 1000) computed.early-passes computed.early-seen (omega arith) (omega arith)
    (call_at 1000) computed.early-then (omega arith)

outside-last : (calling (called one_stop (at 1000 ∷ replicate 511 (at 20000))) (at 20000)).answer ≡ Ok Outside
outside-last =
    let cs = at 1000 ∷ replicate 511 (at 20000) in
    let e = enter-first 511 one_stop (at 1000) (at 20000) (call_at 1000) (call_at 20000) computed.early-goes computed.late-goes in
    asked cs (call_at 1000 ∷ replicate 511 (call_at 20000)) e refl refl (at 20000)
    ∙ then-outside blank_settings 1 (full_table (called one_stop cs).calls) (at 20000).1
    (call_at 20000) computed.late-passes computed.late-seen (omega arith) (omega arith) computed.late-then

pub proviso-needed : ProvisoNeeded
proviso-needed = record {
  late_first =
      answered-alone lates one_stop (made-sound (undated blank_settings) stop_alone)
      (fits_all lates (replicate 512 (call_at 20000)) late-all refl refl)
      ∙ map-all (answer_first one_stop) 512 (at 20000)
      ∙ ap (λ (a : Answer). replicate 512 (at 20000, a)) computed.late-taken;
  early_last = taken-last;
  early_first = outside-last;
}
