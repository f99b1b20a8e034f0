-- The ends and the changes: no cause against them exactly if the timetable starts, ends and joins there.
use Rattle.std.specs.Prelude.{None, Option, Some, is_none, unwrap_or}
use mathlib.Core.Path.{◌≡◌, refl, sym, ap, ◌∙◌}
use mathlib.Core.Bool.{Bool, true, false, not, cond, ◌&&◌, true≢false, false≢true}
use mathlib.Core.List.{List}
use Prim.Native.Nat.{ℕ, ◌+◌, ◌<◌, min}
use native.Mathlib.Omega.{arith}
use lib.Dec.{ltb, leb}
use lib.ListN.{take, get_or}
use borrow.Author.Tests.{ltb-true, lt-ltb, leb-true, le-leb, not-false}
use Rattle.laws.specs.Bits.{digit}
use Rattle.laws.proofs.Bools.{cond-by, cond-not, and-true, and-true-left, and-true-right}
use Rattle.stops.specs.Sound.{stop_at}
use Rattle.calls.specs.declared.Call.{Call}
use Rattle.places.specs.Places.{places_of}
use Rattle.rules.specs.declared.Rule.{Rule}
use Rattle.transfer.specs.declared.Ends.{Ends as Ends'}
use Rattle.transfer.specs.Choice.{chosen}
use Rattle.transfer.specs.Copied.{parents_of}
use Rattle.transfer.specs.Changes.{ends_of_of, near, change_of, transfer_of, joins_by, join_of}
use Rattle.offers.specs.Offers.{ride_of, same_run}
use Rattle.offers.specs.Admitted.{Starts, Ends}
use Rattle.load.specs.declared.Load.{Load}
use Rattle.search.specs.Timetable.{change_in, joins_in, timetable_of}
use Rattle.connection.specs.declared.Cause.{Cause}
use Rattle.connection.specs.Ends.{low_digit, is_member_of, end_tests}
use Rattle.connection.specs.Changes.{in_reach, forbids, change_tests}
use Rattle.verdicts.specs.Claims.{AllFail}

-- ---- members

member_is : (n k m : ℕ) → is_member_of n k m ≡ true → (k < min n 4) × (digit k m ≡ true)
unfolding is_member_of low_digit
member_is n k m e =
    let f = and-true-right (ltb k n) (ltb k 4 && digit k m) e in
    let a = ltb-true k n (and-true-left (ltb k n) (ltb k 4 && digit k m) e) in
    let b = ltb-true k 4 (and-true-left (ltb k 4) (digit k m) f) in
    (omega arith, and-true-right (ltb k 4) (digit k m) f)

is_member : (n k m : ℕ) → k < min n 4 → digit k m ≡ true → is_member_of n k m ≡ true
unfolding is_member_of low_digit
is_member n k m h d = and-true (ltb k n) _ (lt-ltb k n (omega arith)) (and-true (ltb k 4) (digit k m) (lt-ltb k 4 (omega arith)) d)

module _ (l : Load) (b a : Call) (o k : ℕ) where
  abbrev pub asked : List (Bool × Cause)
  asked =
      end_tests l.settings.origins l.settings.targets o k (stop_at l.stops b.stop).members (stop_at l.stops a.stop).members
      (get_or l.settings.origin_walks o 0) b.departure

  pub ends-right : AllFail asked → Starts (timetable_of l) b o × Ends (timetable_of l) a k
  unfolding timetable_of
  ends-right f =
      let x = member_is l.settings.origins o _ (not-false _ f.0) in
      let y = member_is l.settings.targets k _ (not-false _ f.1.0) in
      (record { count = x.0; member = x.1; walked = leb-true _ _ (not-false _ f.1.1.0) }, record { count = y.0; member = y.1 })

  pub right-ends : Starts (timetable_of l) b o → Ends (timetable_of l) a k → AllFail asked
  unfolding timetable_of
  right-ends s e = (
    ap not (is_member l.settings.origins o _ s.count s.member),
    (ap not (is_member l.settings.targets k _ e.count e.member), (ap not (le-leb _ _ s.walked), tt)),
  )

-- ---- changes

takes-some : (c : Option ℕ) (arrival departure : ℕ) → is_none c ≡ false → leb (arrival + unwrap_or c 0) departure ≡ true
    → joins_by c arrival departure ≡ true
takes-some (Some s) arrival departure e f = f
takes-some None arrival departure e f = absurd (true≢false e)

some-takes : (c : Option ℕ) (arrival departure : ℕ) → joins_by c arrival departure ≡ true
    → (is_none c ≡ false) × (leb (arrival + unwrap_or c 0) departure ≡ true)
some-takes (Some s) arrival departure e = (refl, e)
some-takes None arrival departure e = absurd (false≢true e)

-- a rule that forbids gives no change
forbids-never : (r : Option Rule) (close : Bool) (s : ℕ) → forbids r ≡ true → change_of r close s ≡ None
forbids-never (Some r) close s e = cond-by _ _ e
forbids-never None close s e = absurd (false≢true e)

made-allowed : (r : Option Rule) (close : Bool) (s : ℕ) → is_none (change_of r close s) ≡ false → forbids r ≡ false
made-allowed r close s e = go (forbids r) refl
  where
    go : (b : Bool) → forbids r ≡ b → b ≡ false
    go true q = absurd (true≢false (sym (ap is_none (forbids-never r close s q)) ∙ e))
    go false q = refl

join-parts : (c : Option ℕ) (run : Bool) (arrival departure : ℕ) → join_of c run arrival departure ≡ true
    → (run ≡ false) × (joins_by c arrival departure ≡ true)
join-parts c true arrival departure e = absurd (false≢true e)
join-parts c false arrival departure e = (refl, e)

module _ (l : Load) (i : ℕ) (b a c : Call) where
  abbrev pub changes : List (Bool × Cause)
  changes = change_tests i (take l.rule_count l.rules) (parents_of l.stops)
      (places_of (take l.stop_count l.stops)) l.settings.transfer_seconds b a c

  pub joins-right : AllFail changes → joins_in l (ride_of b a) c ≡ true
  unfolding change_tests in_reach
  joins-right f =
      let reach : (ltb a.stop 128 && ltb c.stop 128) ≡ true = not-false _ f.1.0 in
      cond-by _ _ reach ∙ cond-not _ _ f.0 ∙ takes-some (change_in l a.stop c.stop) a.arrival c.departure f.1.1.1.0
      (not-false _ f.1.1.1.1.0)

  pub right-joins : joins_in l (ride_of b a) c ≡ true → AllFail changes
  unfolding change_tests in_reach transfer_of ends_of_of
  right-joins e = go (ltb a.stop 128 && ltb c.stop 128) refl e
    where
      rules : List Rule
      rules = take l.rule_count l.rules

      places : List ℕ
      places = places_of (take l.stop_count l.stops)

      ends : Ends'
      ends = ends_of_of (parents_of l.stops) a.stop c.stop

      close : Bool
      close = near ends (get_or places a.stop 65535) (get_or places c.stop 65535)

      go : (x : Bool) → (ltb a.stop 128 && ltb c.stop 128) ≡ x
          → cond x (join_of (change_in l a.stop c.stop) (same_run b c) a.arrival c.departure) false ≡ true → AllFail changes
      go false q w = absurd (false≢true w)
      go true q w =
          let (run, joined) = join-parts (change_in l a.stop c.stop) (same_run b c) a.arrival c.departure w in
          let (made, enough) = some-takes (change_in l a.stop c.stop) a.arrival c.departure joined in
          (run, (ap not q, (made-allowed (chosen ends rules) close l.settings.transfer_seconds made, (made, (ap not enough, tt)))))
