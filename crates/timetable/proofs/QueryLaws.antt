-- The queries over a file's list answer as its load does.
use Rattle.refusal.specs.declared.Accepted.TheVariants.{Taken}
use Rattle.std.specs.Prelude.{None, Option, Some, Ok, is_some, option_map, option_and_then}
use Rattle.std.specs.List.{find}
use mathlib.Core.Path.{◌≡◌, refl, sym, ap, ◌∙◌, subst}
use mathlib.Core.Bool.{Bool, true, false, cond}
use mathlib.Core.List.{List, [], ◌∷◌, map}
use Prim.Native.Nat.{ℕ, ◌≤◌, ◌<◌}
use native.Mathlib.Omega.{arith}
use lib.Dec.{leb, ltb}
use lib.IntN.{ℤ}
use lib.ListN.{length, take, get_or, length-map, length-take, get_or-map}
use lib.Seq.{ext_get_or}
use Rattle.laws.specs.Tables.{table}
use Rattle.laws.proofs.Tables.{get_d-table, length-table, take-table}
use Rattle.refusal.specs.First.{Answer}
use Rattle.profile.specs.declared.Journey.{Journey}
use Rattle.profile.specs.Journeys.{no_journey}
use Rattle.load.specs.declared.Load.{Load}
use Rattle.load.specs.Sound.{Sound}
use Rattle.load.specs.Steps.{undated}
use Rattle.fields.specs.Second.{settings_by}
use Rattle.steps.proofs.HandedLaws.{handed-sound}
use Rattle.best.specs.Best.{kept_of, first_leaving, best_spec, next_spec, after_of}
use Rattle.best.specs.Turn.{asked}
use Rattle.best.proofs.FirstLaws.{first-asked}
use Rattle.file.specs.Record.{step_in}
use Rattle.file.specs.File.{is_second, read_spec_of}
use Rattle.file.proofs.HandedLaws.{read-hands}
use Rattle.timetable.specs.declared.journeys.TimetableJourney.{TimetableJourney}
use Rattle.timetable.specs.declared.list.TimetableList.{TimetableList}
use Rattle.timetable.specs.Journeys.{journey_row, journey_of}
use Rattle.timetable.specs.List.{row_at, rows_of, state_of, load_list, list_by}
use Rattle.timetable.specs.Queries.{best_in, BestOfFile, NextOfFile}
use Rattle.timetable.proofs.JourneyLaws.{journey-of-row}

-- the first rows are those of the list
pub rows-kept : (ks : List Journey) → length ks ≤ 64 → take (length ks) (rows_of ks) ≡ map journey_row ks
unfolding rows_of row_at
rows-kept ks few =
    take-table (λ k. journey_row (get_or ks k no_journey)) (length ks) 64 few
    ∙ ext_get_or (journey_row no_journey) _ _ (length-table _ (length ks) ∙ sym (length-map ks journey_row)) at
  where
    at : (k : ℕ) → k < length (table (length ks) (λ k. journey_row (get_or ks k no_journey)))
        → get_or (table (length ks) (λ k. journey_row (get_or ks k no_journey))) k (journey_row no_journey)
        ≡ get_or (map journey_row ks) k (journey_row no_journey)
    at k below =
        let long = length-table (λ k. journey_row (get_or ks k no_journey)) (length ks) in
        get_d-table _ (journey_row no_journey) (length ks) k (omega (arith, long)) ∙ sym (get_or-map journey_row ks k no_journey)

found-in : (t : ℕ) (ks : List Journey)
    → option_map journey_of (find (λ r. leb t r.leave) (map journey_row ks)) ≡ find (λ k. leb t k.leave) ks
unfolding journey_row
found-in t [] = refl
found-in t (k ∷ ks) = by (leb t k.leave) (found-in t ks)
  where
    by : (b : Bool) → option_map journey_of (find (λ r. leb t r.leave) (map journey_row ks)) ≡ find (λ k. leb t k.leave) ks
        → option_map journey_of (cond b (Some (journey_row k)) (find (λ r. leb t r.leave) (map journey_row ks)))
        ≡ cond b (Some k) (find (λ k. leb t k.leave) ks)
    by true others = ap Some (journey-of-row k)
    by false others = others

asked-in : (o : Option ℕ) (ks : List Journey)
    → option_map journey_of (option_and_then (λ t. find (λ r. leb t r.leave) (map journey_row ks)) o)
    ≡ option_and_then (λ t. find (λ k. leb t k.leave) ks) o
asked-in None ks = refl
asked-in (Some t) ks = found-in t ks

-- what is asked of the rows of a load
abbrev in-rows : Load → ℤ → Option TimetableJourney
in-rows l s = option_and_then (λ t. find (λ r. leb t r.leave) (take (length (kept_of l)) (rows_of (kept_of l)))) (asked l.horizon s)

-- of a load with a list of at most 64
pub best-of-list : (l : Load) (n : ℕ) (s : ℤ) → length (kept_of l) ≤ 64
    → option_map journey_of (best_in (load_list n l) s) ≡ best_spec l s
unfolding best_in load_list state_of best_spec Rattle.timetable.specs.Queries.first_leaving
best-of-list l n s few = by l.searched (is_some l.limit)
  where
    searched : option_map journey_of (in-rows l s) ≡ first_leaving (kept_of l) l.horizon s
    searched = rw (rows-kept (kept_of l) few) (asked-in (asked l.horizon s) (kept_of l)) ∙ first-asked l.horizon s (kept_of l)

    by : (b c : Bool) → option_map journey_of (cond (ltb (cond b (cond c 2 3) 1) 2) None (in-rows l s))
        ≡ cond b (first_leaving (kept_of l) l.horizon s) None
    by false c = refl
    by true true = searched
    by true false = searched

-- every file that is read to its end gives a sound load
pub read-sound : (xs : List ℕ) → (read_spec_of xs).answer ≡ Ok Taken → Sound (read_spec_of xs).reader.load
read-sound xs e =
    let h = read-hands xs e in
    let s = (handed-sound (undated (settings_by (is_second xs) h.head)) (map step_in h.rest) h.opens).1 in
    subst Sound (sym h.ends) s

pub few-kept : (l : Load) → Sound l → length (kept_of l) ≤ 64
few-kept l s = let long = s.long in let kept = length-take l.journey_count l.journeys in omega (arith, long, kept)

pub taken-list : {a : Answer} (l : Load) → a ≡ Ok Taken → list_by a 0 l ≡ load_list 0 l
unfolding list_by
taken-list l e = ap (λ (a : Answer). list_by a 0 l) e

pub best-of-file : BestOfFile
best-of-file xs e s =
    let l = (read_spec_of xs).reader.load in
    ap (λ (k : TimetableList). option_map journey_of (best_in k s)) (taken-list l e) ∙ best-of-list l 0 s (few-kept l (read-sound xs e))

pub next-of-file : NextOfFile
unfolding next_spec journey_row
next-of-file xs e s missed = best-of-file xs e (after_of s missed.leave)
