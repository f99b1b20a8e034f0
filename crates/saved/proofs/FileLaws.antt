-- A written load is read as it was, with its epochs at the start.
use Rattle.refusal.specs.declared.Accepted.TheVariants.{Taken}
use Rattle.std.specs.Prelude.{None, Option, Some, Err, Ok, is_some}
use mathlib.Core.Path.{◌≡◌, refl, sym, ap, ◌∙◌, subst}
use mathlib.Core.Bool.{Bool, true, false, not, cond, true≢false}
use mathlib.Core.List.{List, [], ◌∷◌, ◌++◌, map}
use Prim.Native.Nat.{ℕ, zero, suc, ◌+◌, ◌-◌, ◌≤◌}
use native.Mathlib.Omega.{arith}
use lib.Dec.{ltb, eqb}
use lib.IntN.{ℤ, pos, negsuc, nat_abs}
use lib.ListN.{length, get_or, take, drop, replicate}
use lib.Seq.{drop-length}
use borrow.Author.Tests.{leb-true, ltb-false}
use mir.Syntax.{w64}
use mir.Val.{SFits}
use Rattle.laws.specs.Lists.{concat_map}
use Rattle.laws.proofs.Bools.{and-true-left, or-false-left, or-false-right}
use Rattle.laws.proofs.Ints.{small}
use Rattle.refusal.specs.declared.Refusal.TheVariants.{SettingsRange, ClockRange}
use Rattle.refusal.specs.First.{first_answer, is_refused}
use Rattle.settings.specs.declared.Settings.{Settings}
use Rattle.settings.specs.Settings.{over_counts, near, all_near, settings_tests, walks_of, canonical_of}
use Rattle.stops.specs.Taken.{blank_stop}
use Rattle.stops.specs.Sound.{stop_at}
use Rattle.calls.specs.Tables.{blank_call}
use Rattle.calls.specs.Sound.{CallSound, AtStop}
use Rattle.rules.specs.Rules.{blank_rule}
use Rattle.rules.specs.Sound.{rule_at}
use Rattle.fields.specs.Numbers.{byte_at}
use Rattle.profile.specs.Journeys.{no_journey}
use Rattle.load.specs.declared.Load.{Load}
use Rattle.load.specs.Load.{empty_of, empty_load}
use Rattle.load.specs.Steps.{undated, open_answer, open_spec_of}
use Rattle.file.specs.Record.{fresh_reader, open_reader, kind_right, filled, record_tests, stepped_by, settled, record_spec}
use Rattle.file.specs.File.{version_answer, later, fed_spec, end_answer, ended_by, read_spec_of}
use Rattle.codec.specs.Shapes.{write, framed}
use Rattle.fields.specs.Second.{second_settings_in, second_settings_filled_of}
use Rattle.codec.specs.Kinds.{settings_shape, settings_value, settings_body, search_body, SettingsHeld}
use Rattle.codec.proofs.BackLaws.{back}
use Rattle.codec.specs.Parts.{at_start}
use Rattle.written.specs.Kept.{SettingsKept, CallKept}
use Rattle.saved.specs.Saved.{read_as, Writable, stop_record, rule_record, call_record, records_of, load_at_start, Feeds, none}
use Rattle.saved.proofs.FeedLaws.{long, fed-one, feeds-append, feeds-first, fed-all, some_byte}
use Rattle.saved.proofs.SlotLaws.{up_to, up_none, up-all, load_of}
use Rattle.saved.proofs.StopLaws.{stop-takes}
use Rattle.saved.proofs.RuleLaws.{rule-takes}
use Rattle.saved.proofs.CallLaws.{all-at, call-takes}

pub none-by : (o : Option ℕ) → is_some o ≡ false → o ≡ None
none-by (Some n) e = absurd (true≢false e)
none-by None e = refl

-- ---- settings

record Opening (s : Settings) : Type 0 where
  counts : over_counts s.origins s.targets s.max_transfers s.transfer_seconds ≡ false
  clock : near s.now ≡ true

near_first : (now : ℤ) (epochs : List ℤ) → all_near now epochs ≡ true → near now ≡ true
unfolding all_near
near_first now epochs h = and-true-left (near now) _ h

opening : (s : Settings) → first_answer (settings_tests s) ≡ Ok Taken → Opening s
unfolding first_answer settings_tests
opening s e = go (over_counts s.origins s.targets s.max_transfers s.transfer_seconds) refl (all_near s.now s.epochs) refl e
  where
    go : (x : Bool) → over_counts s.origins s.targets s.max_transfers s.transfer_seconds ≡ x → (y : Bool) → all_near s.now s.epochs ≡ y
        → cond x (Err SettingsRange) (cond (not y) (Err ClockRange) (Ok Taken)) ≡ Ok Taken → Opening s
    go true p y q k = absurd (true≢false (ap is_refused k))
    go false p true q k = record { counts = p; clock = near_first s.now s.epochs q }
    go false p false q k = absurd (true≢false (ap is_refused k))

near-size : (z : ℤ) → near z ≡ true → nat_abs z ≤ 1099511627776
unfolding near
near-size (pos n) h = leb-true n 1099511627776 h
near-size (negsuc n) h = below_top n (ltb-false 1099511627775 n
    (turned (ltb 1099511627775 n) (and-true-left (not (ltb 1099511627775 n)) true h)))
  where
    turned : (b : Bool) → not b ≡ true → b ≡ false
    turned true k = sym k
    turned false k = refl

    below_top : (m : ℕ) → m ≤ 1099511627775 → suc m ≤ 1099511627776
    below_top m k = omega arith

near_fits : (z : ℤ) → near z ≡ true → SFits w64 z
near_fits z h = small z (wider (nat_abs z) (near-size z h))
  where
    wider : (k : ℕ) → k ≤ 1099511627776 → k ≤ 4398046511104
    wider k h = omega arith

-- opening reads nothing that it leaves out
pub kept : (x : Settings) → settings_tests x ≡ settings_tests (canonical_of x)
unfolding settings_tests canonical_of
kept x = refl

at-start : (s : Settings) → over_counts s.origins s.targets s.max_transfers s.transfer_seconds ≡ false → near s.now ≡ true
    → first_answer (settings_tests (at_start s)) ≡ Ok Taken
unfolding first_answer settings_tests at_start all_near
at-start s c n = rw (c, n) refl

some : (s : Settings) → eqb (length (settings_body s)) 0 ≡ false
unfolding settings_body
some s = some_byte 1 (write (settings_shape true s.origins s.targets) (settings_value s))

kind : (s : Settings) → byte_at (settings_body s) 0 ≡ 1
unfolding settings_body
kind s = refl

-- a first record that no test sends back
by_tests : (b : List ℕ) (s : Settings) → eqb (length b) 0 ≡ false → byte_at b 0 ≡ 1 → second_settings_filled_of b ≡ true
    → open_answer (undated (second_settings_in b)) ≡ Ok Taken
    → canonical_of (second_settings_in b) ≡ s → record_spec (fresh_reader true) b ≡ read_as (empty_load s)
unfolding fresh_reader record_spec record_tests kind_right filled stepped_by settled first_answer open_spec_of
by_tests b s x y z t e = rw (x, y, z, t, e) refl

open_is : (s : Settings) → open_answer (undated s) ≡ first_answer (settings_tests s)
unfolding open_answer first_answer settings_tests
open_is s = refl

module _ (s : Settings) (told : SettingsKept s) where
  o : Opening s
  o = opening s told.opens

  few-origins : s.origins ≤ 4
  unfolding over_counts
  few-origins = ltb-false 4 s.origins (or-false-left _ _ o.counts)

  few-targets : s.targets ≤ 4
  unfolding over_counts
  few-targets = ltb-false 4 s.targets (or-false-left (ltb 4 s.targets) _ (or-false-right (ltb 4 s.origins) _ o.counts))

  four-origins : length s.origin_walks ≡ 4
  unfolding canonical_of walks_of
  four-origins = sym (ap (λ (x : Settings). length x.origin_walks) told.canonical)

  four-targets : length s.target_walks ≡ 4
  unfolding canonical_of walks_of
  four-targets = sym (ap (λ (x : Settings). length x.target_walks) told.canonical)

  held : SettingsHeld (at_start s)
  unfolding at_start
  held =
      record {
        origin_walks = omega (arith, few-origins, four-origins);
        target_walks = omega (arith, few-targets, four-targets);
        now_fits = near_fits s.now o.clock;
        days = refl;
        epochs_fit = each;
      }
    where
      each : (k : ℕ) → SFits w64 (get_or (s.now ∷ s.now ∷ s.now ∷ []) k (pos 0))
      each zero = near_fits s.now o.clock
      each (suc zero) = near_fits s.now o.clock
      each (suc (suc zero)) = near_fits s.now o.clock
      each (suc (suc (suc k))) = small (pos 0) (omega arith)

  canonical-at : canonical_of (at_start s) ≡ at_start s
  unfolding canonical_of at_start
  canonical-at = ap at_start told.canonical

  no_test : open_answer (undated (second_settings_in (settings_body (at_start s)))) ≡ Ok Taken
  no_test = open_is (second_settings_in (settings_body (at_start s)))
      ∙ ap first_answer (kept (second_settings_in (settings_body (at_start s)))
      ∙ ap settings_tests ((back.settings (at_start s) held).1 ∙ canonical-at)) ∙ at-start s o.counts o.clock

  -- the first record opens the load
  pub first-opens : record_spec (fresh_reader true) (settings_body (at_start s)) ≡ read_as (empty_load (at_start s))
  first-opens = by_tests (settings_body (at_start s)) (at_start s) (some (at_start s)) (kind (at_start s))
      (back.settings (at_start s) held).0 no_test ((back.settings (at_start s) held).1 ∙ canonical-at)

-- ---- the file

-- all of it was fed
ended : (xs : List ℕ) (l : Load) → ended_by xs (record { answer = Ok Taken; used = length xs; reader = open_reader l }) ≡ read_as l
unfolding end_answer first_answer
ended xs l = rw (drop-length xs) refl

pub read_all : (b : List ℕ) (bs : List (List ℕ)) (l m : Load) → record_spec (fresh_reader true) b ≡ read_as l → Feeds l bs m
    → read_spec_of (2 ∷ (framed b ++ concat_map framed bs)) ≡ read_as m
unfolding read_spec_of version_answer
read_all b bs l m e f =
    let rest = concat_map framed bs in
    let n : 2 + length b + length rest ≡ length (framed b ++ rest) = omega (arith, long b rest) in
    let fed : fed_spec (fresh_reader true) (framed b ++ rest)
    ≡ record { answer = Ok Taken; used = length (framed b ++ rest); reader = open_reader m } =
    fed-one (fresh_reader true) l b rest e ∙ ap (later (2 + length b)) (fed-all f)
    ∙ (λ i. record { answer = Ok Taken; used = n i; reader = open_reader m }) in
    ap (ended_by (framed b ++ rest)) fed ∙ ended (framed b ++ rest) m

-- ---- the records of a load

module _ (l : Load) (w : Writable l) (unsearched : l.searched ≡ false) where
  abbrev start : Settings
  start = at_start l.settings

  abbrev calls_at : ℕ → Load
  calls_at k = load_of start (up_to blank_stop 128 l.stops l.stop_count) l.stop_count
      (up_to blank_rule 128 l.rules l.rule_count) l.rule_count (up_to blank_call 512 l.calls k) k

  abbrev rules-at : ℕ → Load
  rules-at k = load_of start (up_to blank_stop 128 l.stops l.stop_count) l.stop_count (up_to blank_rule 128 l.rules k) k
      (up_to blank_call 512 l.calls 0) 0

  abbrev stops_at : ℕ → Load
  stops_at k = load_of start (up_to blank_stop 128 l.stops k) k (up_to blank_rule 128 l.rules 0) 0 (up_to blank_call 512 l.calls 0) 0

  empty-is : empty_load start ≡ stops_at 0
  unfolding empty_of
  empty-is =
      λ t. load_of start (sym (up_none blank_stop 128 l.stops w.whole.own.sound.stops.long) t) 0
      (sym (up_none blank_rule 128 l.rules w.whole.own.sound.rules.long) t) 0
      (sym (up_none blank_call 512 l.calls w.whole.own.sound.table.long) t) 0

  -- the fields that no record has
  no-journeys : l.journeys ≡ replicate 64 no_journey
  no-journeys = let e = w.whole.own.sound.none_kept unsearched in
      subst (λ (n : ℕ). drop n l.journeys ≡ replicate (64 - n) no_journey) e w.whole.own.sound.blank

  no-limits : l.table_limits ≡ 0
  no-limits = w.whole.own.sound.table.limited ∙ ap (λ (h : ℕ). cond (eqb h 21600) 0 1) w.uncut

  load_is : calls_at l.call_count ≡ load_at_start l
  unfolding load_at_start
  load_is = λ t. record {
    settings = start;
    stops = up-all blank_stop 128 l.stops w.whole.own.sound.stops.long l.stop_count w.whole.own.sound.stops.few
        w.whole.own.sound.stops.blank t;
    stop_count = l.stop_count;
    calls = up-all blank_call 512 l.calls w.whole.own.sound.table.long l.call_count w.whole.own.sound.table.few
        w.whole.own.sound.table.blank t;
    call_count = l.call_count;
    rules = up-all blank_rule 128 l.rules w.whole.own.sound.rules.long l.rule_count w.whole.own.sound.rules.few
        w.whole.own.sound.rules.blank t;
    rule_count = l.rule_count;
    journeys = sym no-journeys t;
    journey_count = sym (w.whole.own.sound.none_kept unsearched) t;
    table_horizon = sym w.uncut t;
    table_limits = sym no-limits t;
    horizon = sym (w.whole.own.sound.same_horizon unsearched ∙ w.uncut) t;
    limits = sym (w.whole.own.sound.same_limits unsearched ∙ no-limits) t;
    searched = sym unsearched t;
    limit = sym (none-by l.limit w.unstopped) t;
    week = sym (w.whole.own.sound.week.undated w.dateless) t;
  }

  stops-fed : Feeds (stops_at 0) (map (stop_record l.stops) (take l.stop_count l.stops)) (stops_at l.stop_count)
  unfolding stop_at
  stops-fed =
      feeds-first (stop_record l.stops) l.stops blank_stop stops_at l.stop_count
      (omega (arith, w.whole.own.sound.stops.few, w.whole.own.sound.stops.long))
      (λ k h. stop-takes l.stops l.stop_count k w.whole.own.sound.stops h (w.whole.kept.stops k h) start
      (up_to blank_rule 128 l.rules 0) 0 (up_to blank_call 512 l.calls 0) 0)

  rules-fed : Feeds (rules-at 0) (map rule_record (take l.rule_count l.rules)) (rules-at l.rule_count)
  unfolding rule_at
  rules-fed =
      feeds-first rule_record l.rules blank_rule rules-at l.rule_count
      (omega (arith, w.whole.own.sound.rules.few, w.whole.own.sound.rules.long))
      (λ k h. rule-takes l.stop_count l.rules l.rule_count k w.whole.own.sound.rules h (w.whole.kept.rules k h) start
      (up_to blank_stop 128 l.stops l.stop_count) (up_to blank_call 512 l.calls 0) 0)

  calls-fed : Feeds (calls_at 0) (map call_record (take l.call_count l.calls)) (calls_at l.call_count)
  calls-fed =
      let room : l.call_count ≤ length l.calls = omega (arith, w.whole.own.sound.table.few, w.whole.own.sound.table.long) in
      feeds-first call_record l.calls blank_call calls_at l.call_count room
      (λ k h. call-takes l.settings l.stop_count l.calls k w.whole.own.sound.table.long (omega (arith, w.whole.own.sound.table.few))
      (subst (λ (n : ℕ). CallSound n (get_or l.calls k blank_call)) w.uncut
      (all-at (CallSound l.table_horizon) l.calls blank_call l.call_count k h room w.whole.own.sound.table.each))
      (all-at CallKept l.calls blank_call l.call_count k h room w.whole.kept.calls)
      (all-at (AtStop l.stop_count) l.calls blank_call l.call_count k h room w.whole.own.sound.calls_known)
      (opening l.settings w.whole.kept.settings.opens).clock (up_to blank_stop 128 l.stops l.stop_count)
      (up_to blank_rule 128 l.rules l.rule_count) l.rule_count)

  pub all-fed : Feeds (empty_load start) (records_of l) (load_at_start l)
  unfolding records_of
  all-fed =
      subst (λ (m : Load). Feeds m (records_of l) (load_at_start l)) (sym empty-is)
      (subst (λ (m : Load). Feeds (stops_at 0) (records_of l) m) load_is
      (feeds-append stops-fed (feeds-append rules-fed (feeds-append calls-fed (rest l.searched unsearched)))))
    where
      rest : (b : Bool) → b ≡ false → Feeds (calls_at l.call_count) (cond b (search_body ∷ []) []) (calls_at l.call_count)
      rest true e = absurd (true≢false e)
      rest false e = none
