-- The rides, origins and targets of the lists are those of the timetable.
use mathlib.Core.List.{Memᴰ}
use Prim.Native.Nat.{ℕ, ◌*◌, ◌/◌, ◌≤◌, min}
use native.Mathlib.Omega.{arith}
use lib.Dec.{leb}
use borrow.Author.Tests.{le-leb, leb-true}
use Rattle.laws.specs.Bits.{bits_from}
use Rattle.laws.proofs.Lists.{filterb-mem, mem-filterb}
use Rattle.laws.proofs.Sort.{sort-mem, mem-sort}
use Rattle.laws.proofs.Tails.{mem-tail, tail-mem}
use Rattle.laws.proofs.Bits.{bits-set, set-bits}
use Rattle.ways.specs.Rides.{leg}
use Rattle.ways.proofs.RideLaws.{Listed}
use Rattle.calls.specs.declared.Call.{Call}
use Rattle.offers.specs.Order.{earlier, Rising, Timed}
use Rattle.offers.specs.Offers.{Timetable, network_of, sorted}
use Rattle.offers.specs.Admitted.{Rides, Starts, Ends, Clear}
use Rattle.offers.proofs.OrderLaws.{accepted-rising, accepted-follows}
use Rattle.offers.proofs.RunLaws.{later-mem, mem-later, tail-follows}

pub clear-rising : (t : Timetable) → Clear t → Rising (sorted t)
clear-rising t e = accepted-rising t.calls e

-- ---- rides

module _ (t : Timetable) (e : Clear t) where
  -- the rides of the list are the rides
  pub rides-found : (b a : Call) → Listed (network_of t) (sorted t) (leg b a) → Rides t.calls b a
  unfolding network_of
  rides-found b a w =
      let (n, i, r, h) = later-mem (sorted t) (clear-rising t e) b w.later w.tail a w.run in
      record {
        from = sort-mem earlier t.calls (tail-mem b w.later (sorted t) w.tail);
        to = sort-mem earlier t.calls i;
        run = r;
        later = omega (arith, h);
        board = w.board;
        alight = w.alight;
      }

  pub found-rides : (b a : Call) → Rides t.calls b a → Listed (network_of t) (sorted t) (leg b a)
  unfolding network_of
  found-rides b a r =
      let (cs, tl) = mem-tail (mem-sort earlier t.calls r.from) in
      let n = mem-later (sorted t) (clear-rising t e) b cs tl a (mem-sort earlier t.calls r.to) r.run (omega (arith, r.later)) in
      record { later = cs; tail = tl; run = n; board = r.board; alight = r.alight }

  -- a ride departs no later than it arrives
  pub ride-ahead : (b a : Call) → Timed t.calls → Rides t.calls b a → b.departure ≤ a.arrival
  unfolding network_of
  ride-ahead b a timed r =
      let w = found-rides b a r in
      let (n, i, u, h) = later-mem (sorted t) (clear-rising t e) b w.later w.tail a w.run in
      tail-follows b w.later (sorted t) (accepted-follows t.calls e timed) w.tail a n r.run

-- ---- origins and targets

pub starts-set : (t : Timetable) (b : Call) {o : ℕ} → Memᴰ o ((network_of t).origins b) → Starts t b o
unfolding network_of
starts-set t b {o} m =
    let (i, w) = filterb-mem (λ o. leb (t.origin_walk o * 60) b.departure) (bits_from (min t.origins 4) 0 (t.members b.stop)) m in
    let (h, d) = bits-set (min t.origins 4) (t.members b.stop) i in
    record { count = h; member = d; walked = leb-true (t.origin_walk o * 60) b.departure w }

pub set-starts : (t : Timetable) (b : Call) (o : ℕ) → Starts t b o → Memᴰ o ((network_of t).origins b)
unfolding network_of
set-starts t b o x =
    mem-filterb (λ o. leb (t.origin_walk o * 60) b.departure) (set-bits (min t.origins 4) (t.members b.stop) o x.count x.member)
    (le-leb (t.origin_walk o * 60) b.departure x.walked)

pub ends_set : (t : Timetable) (a : Call) {k : ℕ} → Memᴰ k ((network_of t).targets a) → Ends t a k
unfolding network_of
ends_set t a m = let (h, d) = bits-set (min t.targets 4) (t.members a.stop / 16) m in record { count = h; member = d }

pub set-ends : (t : Timetable) (a : Call) (k : ℕ) → Ends t a k → Memᴰ k ((network_of t).targets a)
unfolding network_of
set-ends t a k x = set-bits (min t.targets 4) (t.members a.stop / 16) k x.count x.member
