-- The lines of both kinds: how long they are at most, and what they are put together from.
use Rattle.refusal.specs.First.{Answer}
use Rattle.refusal.specs.declared.Accepted.{Accepted}
use Rattle.refusal.specs.declared.Accepted.TheVariants.{Taken, Outside}
use Rattle.std.specs.Prelude.{Err, Ok}
use mathlib.Core.Path.{◌≡◌, refl, sym, ap}
use mathlib.Core.Bool.{Bool, true, false, cond}
use mathlib.Core.List.{List, [], ◌∷◌, ◌++◌, append-nil}
use Prim.Native.Nat.{ℕ, ◌*◌, ◌≤◌}
use native.Mathlib.Omega.{arith}
use lib.Dec.{leb}
use mir.Val.{bool_byte}
use lib.ListN.{length, length-take}
use Rattle.laws.specs.Lists.{concat_map}
use Rattle.refusal.specs.declared.Refusal.{Refusal}
use Rattle.refusal.specs.Causes.{number_of}
use Rattle.profile.specs.declared.Journey.{Journey}
use Rattle.profile.specs.declared.Ride.{Ride}
use Rattle.lines.specs.Decimal.{spaced, bit}
use Rattle.load.specs.declared.Load.{Load}
use Rattle.best.specs.Best.{kept_of}
use Rattle.buffer.specs.declared.Buffer.{Buffer}
use Rattle.buffer.specs.Put.{Put}
use Rattle.lines.specs.Lines.{journey_text, horizon_line_of, refused_line_of, load_lines, lines_of}
use Rattle.lines.specs.Rides.{ride_text, rides_of, searched_line, load_rides, ride_lines_of, line_for, load_for, lines_for, line_most}
use Rattle.lines.specs.Rides.{lines_most}
use Rattle.buffer.proofs.PutLaws.{put-none, put_then, put_as, put-within}

-- ---- figures, each behind a space

pub flag : (b : Bool) → bool_byte b ≡ bit b
flag true = refl
flag false = refl

pub journey-text : (j : Journey)
    → (106 ∷ 111 ∷ 117 ∷ 114 ∷ 110 ∷ 101 ∷ 121 ∷ [])
    ++ concat_map spaced (j.leave ∷ j.arrival ∷ j.rides ∷ j.walk ∷ j.origin ∷ j.target ∷ [])
    ≡ journey_text j
unfolding journey_text
journey-text j = simp append-nil

pub ride-text : (r : Ride)
    → (32 ∷ 124 ∷ [])
    ++ concat_map spaced (r.trip ∷ r.day ∷ r.from ∷ r.to ∷ r.departure ∷ r.arrival ∷ bit r.board_request ∷ bit r.alight_request ∷ [])
    ≡ ride_text r
unfolding ride_text
ride-text r = simp append-nil

-- ---- a journey's rides, and the lines of a load

pub rides-text : (j : Journey) → ride_text j.first
    ++ (cond (leb 3 j.rides) (ride_text j.middle) [] ++ cond (leb 2 j.rides) (ride_text j.last) [])
    ≡ concat_map ride_text (rides_of j)
unfolding rides_of
rides-text j = text (leb 3 j.rides) (leb 2 j.rides)
  where
    text : (x y : Bool) → ride_text j.first ++ (cond x (ride_text j.middle) [] ++ cond y (ride_text j.last) [])
        ≡ concat_map ride_text (j.first ∷ (cond x (j.middle ∷ []) [] ++ cond y (j.last ∷ []) []))
    text true true = simp append-nil
    text true false = refl
    text false true = simp append-nil
    text false false = refl

-- a put that may be left out
pub there : {t : Bool} {k : ℕ} {xs : List ℕ} {a b : Buffer} → t ≡ true → Put k xs a b → Put k (cond t xs []) a b
there e p = rw e p

pub absent : {t : Bool} {a b : Buffer} (k : ℕ) (xs : List ℕ) → t ≡ false → b ≡ a → Put k (cond t xs []) a b
absent {a = a} k xs e same = rw (e, same) (put-within k (omega arith) (put-none a))

most-all : (rides : Bool) (n : ℕ) {k : ℕ} → n ≤ 64 → k ≤ line_most rides * n → k ≤ line_most rides * 64
unfolding line_most
most-all true n h e = omega arith
most-all false n h e = omega arith

length-take-le-of : (l : Load) → length l.journeys ≡ 64 → length (kept_of l) ≤ 64
length-take-le-of l n = omega (arith, length-take l.journey_count l.journeys)

-- the lines of a load's journeys, of which there are 64 at most
pub all-lines : (rides : Bool) (l : Load) {js : List Journey} {a b : Buffer} → js ≡ kept_of l → length l.journeys ≡ 64
    → Put (line_most rides * length js) (concat_map (line_for rides) js) a b
    → Put (line_most rides * 64) (concat_map (line_for rides) (kept_of l)) a b
all-lines rides l e n p =
    let h = length-take-le-of l n in
    put-within _ (most-all rides (length (kept_of l)) h (rw e at p.small)) (rw e at p)

module _ (l : Load) {rides : Bool} {a b c : Buffer} where
  pub with-rides : {d : Buffer} → rides ≡ true → Put (line_most rides * 64) (concat_map (line_for rides) (kept_of l)) a b
      → Put 27 (horizon_line_of l.horizon l.limits) b c → Put 15 (searched_line l.searched) c d
      → Put (lines_most rides) (load_for rides l) a d
  unfolding line_for line_most lines_most load_for load_rides
  with-rides e p q r = rw e (put_then (rw e at p) (put_then q r))

  pub without : rides ≡ false → Put (line_most rides * 64) (concat_map (line_for rides) (kept_of l)) a b
      → Put 27 (horizon_line_of l.horizon l.limits) b c → Put (lines_most rides) (load_for rides l) a c
  unfolding line_for line_most lines_most load_for load_lines
  without e p q = rw e (put_then (rw e at p) q)

pub accepted-put : (rides : Bool) (l : Load) {o : Answer} {x : Accepted} {a b : Buffer} → o ≡ Ok x
    → Put (lines_most rides) (load_for rides l) a b
    → Put (lines_most rides) (lines_for rides o l) a b
unfolding lines_for ride_lines_of lines_of load_for
accepted-put rides l {x = x} {a} {b} e p = rw e (go x rides p)
  where
    go : (x : Accepted) (r : Bool) → Put (lines_most r) (load_for r l) a b → Put (lines_most r) (lines_for r (Ok x) l) a b
    go Taken true p = p
    go Taken false p = p
    go Outside true p = p
    go Outside false p = p

pub refused-put : (rides : Bool) (l : Load) {o : Answer} {x : Refusal} {n : ℕ} {a b : Buffer} → o ≡ Err x → number_of x ≡ n
    → Put 14 (refused_line_of n) a b
    → Put (lines_most rides) (lines_for rides o l) a b
unfolding lines_for ride_lines_of lines_of lines_most
refused-put rides l {x = x} {n} {a} {b} e f p = rw e (go rides)
  where
    go : (r : Bool) → Put (cond r 12458 2843) (lines_for r (Err x) l) a b
    go true = put_as (ap refused_line_of (sym f)) (put-within _ (omega (arith, p.small)) p)
    go false = put_as (ap refused_line_of (sym f)) (put-within _ (omega (arith, p.small)) p)
