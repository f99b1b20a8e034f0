-- A searched load is read as it was: the search gives it again. One file for each load.
use Rattle.refusal.specs.declared.Accepted.TheVariants.{Taken}
use Rattle.std.specs.Prelude.{Ok}
use Prim.Native.Nat.{ℕ}
use mathlib.Core.Path.{◌≡◌, refl, sym, ap, subst, ◌∙◌}
use mathlib.Core.Bool.{Bool, true, false, cond}
use mathlib.Core.List.{List, [], ◌∷◌, ◌++◌, map, append_assoc, append-nil}
use lib.ListN.{take}
use Rattle.laws.specs.Lists.{concat_map}
use Rattle.laws.proofs.Folds.{concat_map-append}
use Rattle.settings.specs.declared.Settings.{Settings}
use Rattle.offers.specs.Search.{Outcome, clashing, falling, found, answer_of}
use Rattle.load.specs.declared.Load.{Load}
use Rattle.load.specs.declared.StepResult.{StepResult}
use Rattle.load.specs.Load.{empty_load}
use Rattle.search.specs.Timetable.{timetable_of}
use Rattle.search.specs.Search.{outcome_of, settled, search_spec}
use Rattle.search.proofs.RunLaws.{search-runs}
use Rattle.again.specs.Again.{unsearched_of}
use Rattle.again.proofs.OwnLaws.{own-finished}
use Rattle.again.proofs.SoundLaws.{unsearched-new, unsearched-sound}
use Rattle.again.proofs.KeptLaws.{new-kept}
use Rattle.file.specs.declared.RecordResult.{RecordResult}
use Rattle.file.specs.Record.{kind_right, filled, step_in}
use Rattle.file.specs.File.{read_spec_of}
use Rattle.codec.specs.Shapes.{framed}
use Rattle.codec.specs.Kinds.{search_body, settings_body}
use Rattle.codec.proofs.BackLaws.{back}
use Rattle.codec.specs.Parts.{at_start}
use Rattle.writer.specs.File.{settings_file, stop_file, rule_file, call_file, search_file, write_spec_of}
use Rattle.saved.specs.Saved.{load_at_start, Writable, stop_record, rule_record, call_record, records_of, Takes, Feeds, none, more}
use Rattle.saved.specs.Saved.{FileIs, RecordsTaken, ReadsBack, OneFile, OneFileBack}
use Rattle.saved.proofs.FeedLaws.{takes, feeds-append}
use Rattle.saved.proofs.FileLaws.{none-by, all-fed, first-opens, read_all}

-- ---- reading

-- the search reads no epoch
outcome-at : (l : Load) → outcome_of (load_at_start l) ≡ outcome_of l
unfolding outcome_of timetable_of load_at_start at_start
outcome-at l = refl

settled_at : (l : Load) (o : Outcome) → settled (load_at_start l) o ≡ load_at_start (settled l o)
unfolding load_at_start
settled_at l clashing = refl
settled_at l falling = refl
settled_at l (found ks k m) = refl

unsearched-at : (l : Load) → l.searched ≡ false → (load_at_start l).searched ≡ false
unfolding load_at_start
unsearched-at l u = u

search-at : (l m : Load) → l.searched ≡ false → search_spec l ≡ record { answer = Ok Taken; load = m }
    → search_spec (load_at_start l) ≡ record { answer = Ok Taken; load = load_at_start m }
search-at l m u e =
    let f : ◌≡◌ {A = StepResult} (record { answer = answer_of (outcome_of l); load = settled l (outcome_of l) })
    (record { answer = Ok Taken; load = m }) = sym (search-runs l u) ∙ e in
    search-runs (load_at_start l) (unsearched-at l u)
    ∙ ap (λ (o : Outcome). record { answer = answer_of o; load = settled (load_at_start l) o }) (outcome-at l)
    ∙ (λ t. record { answer = (f t).answer; load = (settled_at l (outcome_of l) ∙ ap (λ (x : StepResult). load_at_start x.load) f) t })

-- the search record
search-takes : (l m : Load) → search_spec l ≡ record { answer = Ok Taken; load = m } → m.table_horizon ≡ l.table_horizon
    → Takes l search_body m
unfolding search_body kind_right step_in filled
search-takes l m e h = takes l m 5 [] refl back.search e h

-- ---- the load without its search

back-writable : (l : Load) → Writable l → Writable (unsearched_of l)
unfolding unsearched_of
back-writable l w = record {
  whole = record {
    own = new-kept (unsearched_of l) (unsearched-sound l w.whole.own.sound) (unsearched-new l);
    kept = let k = w.whole.kept in record { settings = k.settings; stops = k.stops; rules = k.rules; calls = k.calls };
  };
  dateless = w.dateless;
  unstopped = refl;
  uncut = w.uncut;
}

same-settings : (l : Load) → (unsearched_of l).settings ≡ l.settings
unfolding unsearched_of
same-settings l = refl

same_horizon : (l : Load) → (load_at_start l).table_horizon ≡ (load_at_start (unsearched_of l)).table_horizon
unfolding load_at_start unsearched_of
same_horizon l = refl

one-behind : {A : Type 0} (xs ys zs : List A) (s : A) → (xs ++ (ys ++ (zs ++ []))) ++ (s ∷ []) ≡ xs ++ (ys ++ (zs ++ (s ∷ [])))
one-behind xs ys zs s = simp (append_assoc, append-nil)

-- its records, and then the search's
records-are : (l : Load) → l.searched ≡ true → records_of (unsearched_of l) ++ (search_body ∷ []) ≡ records_of l
unfolding records_of unsearched_of
records-are l e =
    let ss = map (stop_record l.stops) (take l.stop_count l.stops) in
    let rs = map rule_record (take l.rule_count l.rules) in
    let cs = map call_record (take l.call_count l.calls) in
    one-behind ss rs cs search_body ∙ ap (λ (b : Bool). ss ++ (rs ++ (cs ++ cond b (search_body ∷ []) []))) (sym e)

searched-fed : (l : Load) → Writable l → l.searched ≡ true → Feeds (empty_load (at_start l.settings)) (records_of l) (load_at_start l)
searched-fed l w e =
    subst (λ (bs : List (List ℕ)). Feeds (empty_load (at_start l.settings)) bs (load_at_start l)) (records-are l e)
    (feeds-append
    (subst (λ (s : Settings). Feeds (empty_load (at_start s)) (records_of (unsearched_of l)) (load_at_start (unsearched_of l)))
    (same-settings l) (all-fed (unsearched_of l) (back-writable l w) (unsearched-new l)))
    (more (search-takes (load_at_start (unsearched_of l)) (load_at_start l)
    (search-at (unsearched_of l) l (unsearched-new l) (own-finished l w.whole.own e (none-by l.limit w.unstopped))) (same_horizon l))
    none))

pub records-taken : RecordsTaken
records-taken l w = go l.searched refl
  where
    go : (b : Bool) → l.searched ≡ b → Feeds (empty_load (at_start l.settings)) (records_of l) (load_at_start l)
    go false e = all-fed l w e
    go true e = searched-fed l w e

-- ---- the file is its records

framed-all : {A : Type 0} (f : A → List ℕ) (xs : List A) → concat_map (λ (x : A). framed (f x)) xs ≡ concat_map framed (map f xs)
framed-all f [] = refl
framed-all f (x ∷ xs) = ap (λ (r : List ℕ). framed (f x) ++ r) (framed-all f xs)

framed-search : (b : Bool) → cond b (framed search_body) [] ≡ concat_map framed (cond b (search_body ∷ []) [])
framed-search true = sym (append-nil (framed search_body))
framed-search false = refl

pub file-is : FileIs
unfolding write_spec_of settings_file stop_file rule_file call_file search_file records_of stop_record rule_record call_record
file-is l =
    let ss = take l.stop_count l.stops in
    let rs = take l.rule_count l.rules in
    let cs = take l.call_count l.calls in
    let tail = cond l.searched (search_body ∷ []) [] in
    ap (λ (r : List ℕ). 2 ∷ (framed (settings_body (at_start l.settings)) ++ r))
    ((λ t. framed-all (stop_record l.stops) ss t
    ++ (framed-all rule_record rs t ++ (framed-all call_record cs t ++ framed-search l.searched t)))
    ∙ ap (λ (r : List ℕ). concat_map framed (map (stop_record l.stops) ss) ++ (concat_map framed (map rule_record rs) ++ r))
    (sym (concat_map-append framed (map call_record cs) tail))
    ∙ ap (λ (r : List ℕ). concat_map framed (map (stop_record l.stops) ss) ++ r)
    (sym (concat_map-append framed (map rule_record rs) (map call_record cs ++ tail)))
    ∙ sym (concat_map-append framed (map (stop_record l.stops) ss) (map rule_record rs ++ (map call_record cs ++ tail))))

-- ---- read (write l)

pub reads-back : ReadsBack
reads-back l w =
    ap read_spec_of (file-is l)
    ∙ read_all (settings_body (at_start l.settings)) (records_of l) (empty_load (at_start l.settings)) (load_at_start l)
    (first-opens l.settings w.whole.kept.settings) (records-taken l w)

-- ---- one file for each load

pub one-file : OneFile
one-file l m w v e = ap (λ (k : RecordResult). k.reader.load) (sym (reads-back l w) ∙ ap read_spec_of e ∙ reads-back m v)

write-at : (l : Load) → write_spec_of (load_at_start l) ≡ write_spec_of l
unfolding write_spec_of settings_file load_at_start at_start
write-at l = refl

pub one-file-back : OneFileBack
one-file-back l m e = sym (write-at l) ∙ ap write_spec_of e ∙ write-at m
