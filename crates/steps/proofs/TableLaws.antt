-- The table is the calls answered taken and not withdrawn, as the window shows them; in order, once searched.
use Rattle.refusal.specs.declared.Accepted.TheVariants.{Taken}
use Rattle.std.specs.Prelude.{Ok, None, Some, Option}
use Prim.Native.Nat.{ℕ}
use mathlib.Core.Path.{◌≡◌, refl, sym, ap, subst, ◌∙◌}
use mathlib.Core.Logic.{◌↔◌}
use mathlib.Core.Bool.{Bool, true, false, cond, not}
use mathlib.Core.List.Permᴰ
use mathlib.Core.List.{List, [], ◌∷◌, ◌++◌, append-nil}
use lib.Dec.{eqb}
use Rattle.laws.specs.Lists.{anyb}
use Rattle.laws.proofs.Bools.{and-true-left, cond-not, of-not}
use Rattle.laws.proofs.Sort.{sort-perm}
use Rattle.refusal.specs.First.{is_refused, is_taken, Answer}
use Rattle.calls.specs.declared.Call.{Call}
use Rattle.calls.specs.declared.CallInput.{CallInput}
use Rattle.calls.specs.Shown.{windowed, table_calls}
use Rattle.offers.specs.Order.{earlier, in_order_of, clashes}
use Rattle.offers.specs.Offers.{Timetable, with_calls}
use Rattle.offers.specs.Admitted.{Admitted}
use Rattle.offers.proofs.OrderLaws.{sorted_front}
use Rattle.offers.proofs.AnyOrder.{admitted-in-any-order}
use Rattle.load.specs.declared.Load.{Load}
use Rattle.load.specs.declared.StepResult.{StepResult}
use Rattle.load.specs.Load.{table_of, with_table, with_week}
use Rattle.load.specs.Steps.{opened, call_spec}
use Rattle.load.specs.FillStep.{FillStep, stop, call, rule, service, exception, filled}
use Rattle.load.specs.Sound.{Sound}
use Rattle.load.specs.Table.{taken_call}
use Rattle.load.proofs.TableLaws.{ShowsIn, fill_shows, opened-settings, opened-shows}
use Rattle.calls.specs.declared.CallKey.{CallKey}
use Rattle.withdrawal.specs.Removal.{without_last, has_key, withdrawn, named_in}
use Rattle.withdrawal.proofs.LeftLaws.{withdrawn-leaves}
use Rattle.withdrawal.proofs.ShownLaws.{shown-without}
use Rattle.search.specs.Timetable.{timetable_of}
use Rattle.profile.specs.declared.Journey.{Journey}
use Rattle.search.specs.Search.{with_found, with_journeys, search_spec}
use Rattle.search.specs.Within.{Answered, finishes_in, within_spec}
use Rattle.search.proofs.RunLaws.{taken-found, untaken-stays}
use Rattle.search.proofs.WithinLaws.{taken-within, untaken-within}
use Rattle.again.specs.Again.{unsearched_of, researched, again, leaves_table_of, added_to, add_spec_of, taken_out, withdraw_spec}
use Rattle.again.proofs.ResearchLaws.{taken-researched}
use Rattle.again.specs.Claims.{Kept}
use Rattle.again.proofs.SortLaws.{in-order-again, sorted-without, any-sorted}
use Rattle.again.proofs.SoundLaws.{unsearched-sound, out_cases, Goes}
use Rattle.again.proofs.SearchedLaws.{added_by, own-clear}
use Rattle.again.proofs.AnswerLaws.{refused-not-taken}
use Rattle.steps.specs.Steps.{Step, filling, withdraw, search, limited}
use Rattle.steps.specs.Lists.{next, handed, end_of, start_of}
use Rattle.steps.specs.Table.{held_after, held_by_of, ordered, shown_at, TableHeld, AdmittedHeld}
use Rattle.steps.proofs.StepLaws.{filled-stays, filled-searched}
use Rattle.steps.proofs.HeldLaws.{opened_new}
use Rattle.steps.proofs.HandedLaws.{list-settings}
use Rattle.steps.proofs.ShownLaws.{raw_order, shown-sorted, shown-more}
use Rattle.steps.proofs.WithdrawnLaws.{step_kept, end_kept, end-from}

-- the table is these calls as they are shown, in order if the load is searched
abbrev Holds : Load → List CallInput → Type 0
Holds l is = table_calls (table_of l) ≡ ordered l.searched (windowed l.settings l.table_horizon is)

plain : (l : Load) (is : List CallInput) → l.searched ≡ false → Holds l is → ShowsIn l is
plain l is e h = h ∙ ap (λ (b : Bool). ordered b (windowed l.settings l.table_horizon is)) e

from-plain : (l : Load) (is : List CallInput) → l.searched ≡ false → ShowsIn l is → Holds l is
from-plain l is e h = h ∙ sym (ap (λ (b : Bool). ordered b (windowed l.settings l.table_horizon is)) e)

in_order : (l : Load) (is : List CallInput) → l.searched ≡ true → Holds l is
    → table_calls (table_of l) ≡ in_order_of (windowed l.settings l.table_horizon is)
in_order l is e h = h ∙ ap (λ (b : Bool). ordered b (windowed l.settings l.table_horizon is)) e

-- m with what a search of it found
found-holds : (m : Load) (is : List CallInput) (ks : List Journey) (h k : ℕ) (limit : Option ℕ)
    → in_order_of (table_calls (table_of m)) ≡ in_order_of (windowed m.settings m.table_horizon is) → Holds (with_found m ks h k limit) is
found-holds m is ks h k limit e = sorted_front m.call_count m.calls ∙ e

-- an accepted search of m, in full or within a limit
search-holds : (limit : Option ℕ) (m : Load) (is : List CallInput) → is_taken (researched limit m).answer ≡ true
    → in_order_of (table_calls (table_of m)) ≡ in_order_of (windowed m.settings m.table_horizon is) → Holds (researched limit m).load is
search-holds limit m is t e =
    let w = taken-researched limit m t in
    subst (λ (x : Load). Holds x is) (sym (ap (λ (r : StepResult). r.load) w.is)) (found-holds m is w.kept w.to w.mark w.limit e)

-- ---- all but calls and withdrawals

filled-holds : (l : Load) (x : FillStep) (is : List CallInput) → Sound l → taken_call l x ≡ [] → Holds l is → Holds (filled l x).load is
filled-holds l x is s n h = go l.searched refl
  where
    go : (b : Bool) → l.searched ≡ b → Holds (filled l x).load is
    go true e = subst (λ (m : Load). Holds m is) (sym (filled-stays l x e)) h
    go false e =
        from-plain (filled l x).load is (filled-searched l x ∙ e)
        (subst (ShowsIn (filled l x).load) (ap (λ (r : List CallInput). is ++ r) n ∙ append-nil is) (fill_shows l x is s (plain l is e h)))

either-holds : (l : Load) (n : ℕ) (is : List CallInput) (ks : List Journey) (h k : ℕ) (c : Bool)
    → in_order_of (table_calls (table_of l)) ≡ in_order_of (windowed l.settings l.table_horizon is)
    → Holds (cond c (with_journeys l ks h k) (with_found l ks h k (Some n))) is
either-holds l n is ks h k true e = found-holds l is ks h k None e
either-holds l n is ks h k false e = found-holds l is ks h k (Some n) e

searched-holds : (l : Load) (is : List CallInput) → Holds l is → Holds (search_spec l).load is
searched-holds l is h = go (is_taken (search_spec l).answer) refl
  where
    go : (b : Bool) → is_taken (search_spec l).answer ≡ b → Holds (search_spec l).load is
    go true t =
        let w = taken-found l t in
        subst (λ (x : Load). Holds x is) (sym (ap (λ (r : StepResult). r.load) w.is))
        (found-holds l is w.kept w.to w.mark None (ap in_order_of (plain l is w.new h)))
    go false t = subst (λ (m : Load). Holds m is) (sym (untaken-stays l t)) h

limited-holds : (l : Load) (n : ℕ) (is : List CallInput) → Holds l is → Holds (within_spec l n).load is
limited-holds l n is h = go (is_taken (within_spec l n).answer) refl
  where
    go : (b : Bool) → is_taken (within_spec l n).answer ≡ b → Holds (within_spec l n).load is
    go true t =
        let w = taken-within l n t in
        subst (λ (x : Load). Holds x is) (sym (ap (λ (r : Answered). r.load) w.is))
        (either-holds l n is w.kept w.to w.mark (finishes_in l n) (ap in_order_of (plain l is w.new h)))
    go false t = subst (λ (m : Load). Holds m is) (sym (untaken-within l n t)) h

-- ---- call

either_held : (b : Bool) (is : List CallInput) (i : CallInput) → is ++ cond b (i ∷ []) [] ≡ cond b (is ++ (i ∷ [])) is
either_held true is i = refl
either_held false is i = append-nil is

-- on an unsearched load
call-holds : (l : Load) (name : List ℕ) (i : CallInput) (is : List CallInput) → Sound l → l.searched ≡ false → Holds l is
    → Holds (call_spec l name i).load (cond (is_taken (call_spec l name i).answer) (is ++ (i ∷ [])) is)
call-holds l name i is s e h =
    from-plain (call_spec l name i).load (cond (is_taken (call_spec l name i).answer) (is ++ (i ∷ [])) is)
    (filled-searched l (call name i) ∙ e)
    (subst (ShowsIn (call_spec l name i).load) (either_held (is_taken (call_spec l name i).answer) is i)
    (fill_shows l (call name i) is s (plain l is e h)))

module _ (l : Load) (name : List ℕ) (i : CallInput) (is : List CallInput) (s : Sound l) (d : l.searched ≡ true) (h : Holds l is) where
  abbrev u : Load
  u = unsearched_of l

  abbrev r : StepResult
  r = call_spec u name i

  abbrev m : Load
  m = (call_spec u name i).load

  shows : ShowsIn u (raw_order is)
  unfolding unsearched_of
  shows = in_order l is d h ∙ sym (shown-sorted l.settings l.table_horizon is)

  -- the unsearched load after the call, in order
  more : in_order_of (table_calls (table_of m))
      ≡ in_order_of (windowed m.settings m.table_horizon (cond (is_taken r.answer) (is ++ (i ∷ [])) is))
  more =
      ap in_order_of (fill_shows u (call name i) (raw_order is) (unsearched-sound l s) shows)
      ∙ shown-more m.settings m.table_horizon is (cond (is_taken r.answer) (i ∷ []) [])
      ∙ ap (λ (js : List CallInput). in_order_of (windowed m.settings m.table_horizon js)) (either_held (is_taken r.answer) is i)

  abbrev HeldBy : StepResult → Type 0
  HeldBy x = Holds x.load (cond (is_taken x.answer) (is ++ (i ∷ [])) is)

  stays : (a : Answer) (n : Load) → is_taken a ≡ false → Holds n is → HeldBy (record { answer = a; load = n })
  stays a n e k = subst (Holds n) (sym (cond-not _ _ e)) k

  added-holds : HeldBy (added_to l r)
  unfolding added_to again
  added-holds = go (leaves_table_of l r) (is_refused r.answer) (is_taken (researched l.limit m).answer) refl refl refl
    where
      go : (b c e : Bool) → leaves_table_of l r ≡ b → is_refused r.answer ≡ c → is_taken (researched l.limit m).answer ≡ e
          → HeldBy (added_by l r b c e)
      go true c e x y z = stays r.answer (with_week l r.load.week)
          (of-not (is_taken r.answer) (and-true-left (not (is_taken r.answer)) (eqb m.table_horizon l.table_horizon) x)) h
      go false true e x y z = stays r.answer l (refused-not-taken r.answer y) h
      go false false true x y z = search-holds l.limit m (cond (is_taken r.answer) (is ++ (i ∷ [])) is) z more
      go false false false x y z = stays (researched l.limit m).answer l z h

add_holds : (l : Load) (name : List ℕ) (i : CallInput) (is : List CallInput) → Sound l → Holds l is
    → Holds (add_spec_of l name i).load (cond (is_taken (add_spec_of l name i).answer) (is ++ (i ∷ [])) is)
unfolding add_spec_of
add_holds l name i is s h = go l.searched refl
  where
    go : (b : Bool) → l.searched ≡ b
        → (let x = cond b (added_to l (call_spec (unsearched_of l) name i)) (call_spec l name i) in
        Holds x.load (cond (is_taken x.answer) (is ++ (i ∷ [])) is))
    go true e = added-holds l name i is s e h
    go false e = call-holds l name i is s e h

-- ---- withdrawal

module _ (l : Load) (k : CallKey) (is : List CallInput) (w : Kept l) (h : Holds l is) where
  abbrev left : List CallInput
  left = without_last (named_in l.settings l.table_horizon k) is

  abbrev LeftBy : StepResult → Type 0
  LeftBy x = Holds x.load (cond (is_taken x.answer) left is)

  -- on an unsearched load
  out-holds : l.searched ≡ false → LeftBy (taken_out l k)
  unfolding withdrawn
  out-holds e = out_cases l k LeftBy (λ q. h) (λ q f. h)
      (λ g. from-plain (with_table l (withdrawn (table_of l) k)) left e
      ((withdrawn-leaves (table_of l) k w.sound.table g.there).calls
      ∙ ap (without_last (has_key k)) (plain l is e h)
      ∙ shown-without l.settings l.table_horizon k is))

  module _ (d : l.searched ≡ true) where
    abbrev v : Load
    v = unsearched_of l

    abbrev seen : List Call
    seen = windowed l.settings l.table_horizon is

    clear-seen : clashes (in_order_of seen) ≡ false
    clear-seen = ap clashes (sym (in-order-again seen) ∙ ap in_order_of (sym (in_order l is d h))) ∙ own-clear l (w.own d)

    -- what is left, in order
    left-sorted : anyb (has_key k) (table_calls (table_of l)) ≡ true
        → without_last (has_key k) (table_calls (table_of l)) ≡ in_order_of (windowed l.settings l.table_horizon left)
    left-sorted e =
        ap (without_last (has_key k)) (in_order l is d h)
        ∙ sorted-without seen k clear-seen (any-sorted (has_key k) seen (sym (ap (anyb (has_key k)) (in_order l is d h)) ∙ e))
        ∙ ap in_order_of (shown-without l.settings l.table_horizon k is)

    searched-left : Goes v k → is_taken (researched l.limit (with_table v (withdrawn (table_of v) k))).answer ≡ true
        → Holds (researched l.limit (with_table v (withdrawn (table_of v) k))).load left
    unfolding unsearched_of withdrawn
    searched-left g z =
        search-holds l.limit (with_table v (withdrawn (table_of v) k)) left z
        (ap in_order_of ((withdrawn-leaves (table_of l) k w.sound.table g.there).calls ∙ left-sorted g.there)
        ∙ in-order-again (windowed l.settings l.table_horizon left))

    again-holds : LeftBy (again l (taken_out v k))
    unfolding again
    again-holds = out_cases v k (λ q. LeftBy (again l q)) (λ q. h) (λ q f. h)
        (λ g. go g (is_taken (researched l.limit (with_table v (withdrawn (table_of v) k))).answer) refl)
      where
        go : Goes v k → (b : Bool) → is_taken (researched l.limit (with_table v (withdrawn (table_of v) k))).answer ≡ b
            → LeftBy (cond {A = StepResult} b (record {
              answer = Ok Taken;
              load = (researched l.limit (with_table v (withdrawn (table_of v) k))).load;
            })
            (record { answer = (researched l.limit (with_table v (withdrawn (table_of v) k))).answer; load = l }))
        go g true z = searched-left g z
        go g false z = subst (Holds l) (sym (cond-not _ _ z)) h

withdraw-holds : (l : Load) (k : CallKey) (is : List CallInput) → Kept l → Holds l is
    → Holds (withdraw_spec l k).load (cond (is_taken (withdraw_spec l k).answer)
    (without_last (named_in l.settings l.table_horizon k) is) is)
unfolding withdraw_spec
withdraw-holds l k is w h = go l.searched refl
  where
    go : (b : Bool) → l.searched ≡ b
        → (let x = cond b (again l (taken_out (unsearched_of l) k)) (taken_out l k) in
        Holds x.load (cond (is_taken x.answer) (without_last (named_in l.settings l.table_horizon k) is) is))
    go true e = again-holds l k is w h e
    go false e = out-holds l k is w h e

-- ---- any step

step-holds : (l : Load) (x : Step) (is : List CallInput) → Kept l → Holds l is → Holds (next l x) (held_after is l x)
step-holds l (filling (stop id name parent i)) is w h = filled-holds l (stop id name parent i) is w.sound refl h
step-holds l (filling (call name i)) is w h = add_holds l name i is w.sound h
step-holds l (filling (rule i)) is w h = filled-holds l (rule i) is w.sound refl h
step-holds l (filling (service name weekdays start end)) is w h = filled-holds l (service name weekdays start end) is w.sound refl h
step-holds l (filling (exception name date kind)) is w h = filled-holds l (exception name date kind) is w.sound refl h
step-holds l (withdraw k) is w h = withdraw-holds l k is w h
step-holds l search is w h = searched-holds l is h
step-holds l (limited n) is w h = limited-holds l n is h

handed-holds : (xs : List Step) (l : Load) (is : List CallInput) → Kept l → Holds l is → Holds (handed l xs) (held_by_of is l xs)
handed-holds [] l is w h = h
handed-holds (x ∷ xs) l is w h = handed-holds xs (next l x) (held_after is l x) (step_kept l x w) (step-holds l x is w h)

pub table-held : TableHeld
table-held o xs =
    handed-holds xs (opened o) [] (end_kept o []) (from-plain (opened o) [] (opened_new o) (opened-shows o))
    ∙ (λ j. ordered (end_of o xs).searched (windowed ((list-settings xs (opened o) ∙ opened-settings o) j) (end_of o xs).table_horizon
    (held_by_of [] (opened o) xs)))

table-reads : (l : Load) → (timetable_of l).calls ≡ table_calls (table_of l)
unfolding timetable_of
table-reads l = refl

pub admitted-held : AdmittedHeld
admitted-held o xs d j = (λ a. there a.1, λ a. (d, back a))
  where
    l : Load
    l = end_of o xs

    p : Load
    p = start_of o xs

    ws : List Call
    ws = shown_at o xs

    -- the calls of l are those shown, in order
    read : (timetable_of l).calls ≡ in_order_of ws
    read = table-reads l ∙ table-held o xs ∙ ap (λ (b : Bool). ordered b ws) d

    reads : timetable_of l ≡ with_calls (timetable_of p) (in_order_of (timetable_of p).calls)
    reads = end-from o xs d

    from_start : Admitted (timetable_of p) j ↔ Admitted (with_calls (timetable_of p) (in_order_of (timetable_of p).calls)) j
    from_start = admitted-in-any-order (timetable_of p) (in_order_of (timetable_of p).calls)
        (Permᴰ.symm (sort-perm earlier (timetable_of p).calls)) j

    from_end : Admitted (with_calls (timetable_of l) ws) j ↔ Admitted (with_calls (timetable_of l) (in_order_of ws)) j
    from_end = admitted-in-any-order (with_calls (timetable_of l) ws) (in_order_of ws) (Permᴰ.symm (sort-perm earlier ws)) j

    there : Admitted (timetable_of p) j → Admitted (with_calls (timetable_of l) ws) j
    there a = from_end.1 (subst (λ (cs : List Call). Admitted (with_calls (timetable_of l) cs) j) read
        (subst (λ (t : Timetable). Admitted t j) (sym reads) (from_start.0 a)))

    back : Admitted (with_calls (timetable_of l) ws) j → Admitted (timetable_of p) j
    back a = from_start.1 (subst (λ (t : Timetable). Admitted t j) reads
        (subst (λ (cs : List Call). Admitted (with_calls (timetable_of l) cs) j) (sym read) (from_end.0 a)))
