-- From bytes to bytes.
use Rattle.refusal.specs.declared.Accepted.TheVariants.{Taken, Outside}
use Rattle.std.specs.Prelude.{None, Err, Ok}
use mathlib.Core.Path.{◌≡◌, refl, sym, ap, ◌∙◌, subst}
use mathlib.Core.Logic.{◌⊎◌, inl, inr}
use mathlib.Core.Bool.{Bool, true, false, cond}
use mathlib.Core.List.{List, [], Memᴰ, ◌++◌}
use Prim.Native.Nat.{ℕ, ◌≤◌, ◌<◌}
use native.Mathlib.Omega.{arith}
use lib.Dec.{eqb}
use lib.ListN.{get_or}
use Rattle.laws.specs.Lists.{concat_map, one_of}
use Rattle.laws.proofs.Every.{mem-all, one-of}
use Rattle.refusal.specs.First.{is_refused, answer_number, Answer}
use Rattle.settings.specs.declared.Settings.{Settings}
use Rattle.profile.specs.declared.Journey.{Journey}
use Rattle.profile.specs.Journeys.{no_journey}
use Rattle.fields.specs.Second.{settings_by}
use Rattle.load.specs.declared.Load.{Load}
use Rattle.load.specs.Steps.{undated, opened}
use Rattle.load.specs.Sound.{Opens}
use Rattle.best.specs.Best.{kept_of}
use Rattle.steps.specs.Steps.{Step}
use Rattle.steps.specs.Lists.{end_of}
use Rattle.steps.proofs.StepLaws.{sound-near}
use Rattle.steps.proofs.HandedLaws.{handed-sound}
use Rattle.file.specs.File.{read_spec_of}
use Rattle.file.specs.Answered.{file_numbers}
use Rattle.file.proofs.ListedLaws.{read-listed}
use Rattle.lines.specs.Lines.{journey_line_of, horizon_line_of, load_lines, lines_of}
use Rattle.comparison.specs.Taken.{State, fresh}
use Rattle.comparison.specs.Admitted.{Admits}
use Rattle.comparison.specs.Feeds.{feed_of}
use Rattle.comparison.specs.Runs.{Runs}
use Rattle.comparison.specs.Demands.{answers_from, Fills, Lists}
use Rattle.comparison.proofs.DemandLaws.{ending, run, ends_so, demand-2}
use Rattle.comparison.proofs.KeptLaws.{get_d-mem}
use Rattle.comparison.proofs.SettingLaws.{opens}
use Rattle.tutor.specs.Paper.{Bytes}
use Rattle.tutor.specs.Printed.{RefusedLine, Lines}
use Rattle.tutor.specs.Tutor.{printed, Listed, Answers, TutorsAnswer}
use Rattle.tutor.proofs.PaperLaws.{Whole, whole-file}
use Rattle.tutor.proofs.PrintedLaws.{Small, refused_says, lines-say, lines-load}
use Rattle.tutor.proofs.BoundLaws.{never-stopped, fall-low, body_bytes, origin_walk, admitted-small}

-- ---- a file whose lines are no refusal is not refused

file-number : (a : Answer) → one_of (answer_number a) file_numbers ≡ true → answer_number a < 65536
file-number a e = one-of (answer_number a) (λ (n : ℕ). n < 65536) file_numbers e (
  omega arith,
  (
    omega arith,
    (
      omega arith,
      (
        omega arith,
        (
          omega arith,
          (
            omega arith,
            (
              omega arith,
              (
                omega arith,
                (
                  omega arith,
                  (
                    omega arith,
                    (
                      omega arith,
                      (
                        omega arith,
                        (omega arith, (omega arith, (omega arith, (omega arith, (omega arith, (omega arith, (omega arith, tt))))))),
                      ),
                    ),
                  ),
                ),
              ),
            ),
          ),
        ),
      ),
    ),
  ),
)

taken-so : (a : Answer) (l : Load) → answer_number a < 65536 → ((n : ℕ) → RefusedLine n (lines_of a l) → ⊥) → is_refused a ≡ false
unfolding lines_of
taken-so (Ok Taken) l s k = refl
taken-so (Ok Outside) l s k = refl
taken-so (Err r) l s k = absurd (k _ (refused_says _ s))

-- ---- the lines of the load that steps leave

module _ (s : Settings) (o : Opens (undated s)) (xs : List Step) (walks : (i : ℕ) → get_or s.origin_walks i 0 < 256) where
  abbrev l : Load
  l = end_of (undated s) xs

  abbrev v : State
  v = ending (undated s) o xs

  table-near : v.horizon ≤ 21600
  table-near = sound-near (end_of (undated s) xs) (handed-sound (undated s) xs o).1

  table-mark : v.limits ≤ 1
  table-mark = go (eqb v.horizon 21600) (handed-sound (undated s) xs o).1.table.limited
    where
      go : (b : Bool) → v.limits ≡ cond b 0 1 → v.limits ≤ 1
      go true e = omega (arith, e)
      go false e = omega (arith, e)

  small-mark : (n : ℕ) → (n ≡ v.limits) ⊎ (n ≡ 1) → n < 65536
  small-mark n (inl e) = omega (arith, e, table-mark)
  small-mark n (inr e) = omega (arith, e)

  -- what the list holds was offered, so it is admitted
  made : Lists (undated s) xs v → (k : Journey) → Memᴰ k (kept_of l) → Admits (feed_of s v) k × (k.arrival ≤ l.horizon)
  made w k m =
      let (i, t, e) = (w.list.holds.exactly k).0 m in
      let a = (w.admitted k).0 (subst (λ (j : Journey). Memᴰ j w.offers) e (get_d-mem no_journey w.offers i t.there)) in (
        subst (λ (u : State). Admits (feed_of s u) k) (sym (ends_so (undated s) o xs a.answers a.end a.runs)) a.admits,
        subst (λ (j : Journey). j.arrival ≤ l.horizon) e t.due,
      )

  lists-lines : Lists (undated s) xs v → v.searched ≡ true → Listed s v (load_lines l)
  unfolding load_lines
  lists-lines w d =
      let (low, mark) = fall-low [] w.offers v.horizon v.limits _ w.list.falls in
      record {
        journeys = kept_of l;
        horizon = l.horizon;
        limits = l.limits;
        says = lines-say (kept_of l) l.horizon l.limits
            (mem-all Small (kept_of l) (λ k m. let (a, due) = made w k m in
            admitted-small (feed_of s v) table-near (opens (undated s) o).origins (opens (undated s) o).targets walks k
            (omega (arith, due, low, table-near)) a))
            (omega (arith, low, table-near)) (small-mark l.limits mark);
        none_better = λ j a due. w.complete j (record
            { answers = answers_from (opened (undated s)) xs; end = v; runs = run (undated s) o xs; searched = d; admits = a }) due;
        each_made = made w;
        offers = w.offers;
        offered = w.offered;
        holds = w.list.holds;
        falls = w.list.falls;
      }

  fills-lines : Fills (undated s) xs v → Lines [] v.horizon v.limits (load_lines l)
  unfolding load_lines
  fills-lines w =
      let e : load_lines l ≡ concat_map journey_line_of [] ++ horizon_line_of v.horizon v.limits =
      λ i. concat_map journey_line_of (w.kept i) ++ horizon_line_of (w.horizon i) (w.limits i) in
      subst (Lines [] v.horizon v.limits) (sym e)
      (lines-say [] v.horizon v.limits tt (omega (arith, table-near)) (small-mark v.limits (inl refl)))

-- ---- the whole of it

answers-so : (xs : List ℕ) → Bytes xs → is_refused (read_spec_of xs).answer ≡ false → (w : Whole xs (read_spec_of xs))
    → Answers xs (printed xs)
answers-so xs p k w =
    let r = w.read in
    let s : Settings = settings_by w.second r.head in
    let o : Opens (undated s) = r.opens in
    let bytes : Bytes w.rest = (subst Bytes w.whole p).1 in
    let walks = origin_walk w.second r.head (body_bytes w.rest r.head r.bodies r.records bytes) in
    let u : State = ending (undated s) o r.steps in
    let runs : Runs s (fresh None) r.steps (answers_from (opened (undated s)) r.steps) u = run (undated s) o r.steps in
    let stopped : u.stopped ≡ None = never-stopped r.said runs refl in
    let d = demand-2 (undated s) r.steps (answers_from (opened (undated s)) r.steps) u o runs in
    let lines : load_lines (end_of (undated s) r.steps) ≡ printed xs =
    ap load_lines (sym (w.load ∙ r.ends)) ∙ sym (lines-load (read_spec_of xs).answer (read_spec_of xs).reader.load k) in
    record {
      settings = s;
      steps = r.steps;
      answers = answers_from (opened (undated s)) r.steps;
      end = u;
      said = record {
        version = w.version;
        second = w.second;
        known = w.known;
        head = r.head;
        bodies = r.bodies;
        rest = w.rest;
        whole = w.whole;
        records = r.records;
        settings = r.settings;
        said = r.said;
      };
      runs = runs;
      none_refused = r.accepted;
      finished = stopped;
      searched = λ e. subst (Listed s u) lines (lists-lines s o r.steps walks (d.1 e stopped) e);
      unsearched = λ e. subst (Lines [] u.horizon u.limits) lines (fills-lines s o r.steps walks (d.0 e));
    }

pub tutors-answer : TutorsAnswer
tutors-answer xs p n =
    let k = taken-so (read_spec_of xs).answer (read_spec_of xs).reader.load (file-number (read_spec_of xs).answer (read-listed xs)) n in
    answers-so xs p k (whole-file xs k)
