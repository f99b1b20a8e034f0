-- The numbers of each place where a first ride alights: how early a last ride that it joins can be at a target, of all and by blocks.
use mathlib.Core.Path.{◌≡◌, refl, sym, ap, ◌∙◌}
use mathlib.Core.Bool.{false, false≢true}
use mathlib.Core.List.{List, []}
use Prim.Native.Nat.{ℕ, ◌/◌, ◌≤◌, ◌<◌, max}
use native.Mathlib.Omega.{arith}
use lib.Dec.{eqb}
use lib.ListN.{get_or, replicate}
use borrow.Author.Tests.{eqb-true}
use Rattle.laws.proofs.Bools.{and-true-left, and-true-right}
use Rattle.search_input.specs.declared.FeedCall.{FeedCall}
use Rattle.search_input.specs.declared.FirstRide.{FirstRide}
use Rattle.search_input.specs.Feed.{call_at, same_run, joined}
use Rattle.rides.specs.declared.call_list.Ride.{Ride}
use Rattle.rides.specs.Rows.{first_of}
use Rattle.rides.specs.Sheets.{joins_of, sheet_of}
use Rattle.rides.specs.Bounds.{bucket_of, Bounds}
use Rattle.rides.specs.Places.{IsRide}
use Rattle.rides.specs.Over.{Alights}
use Rattle.rides.specs.Reach.{alighted_at, JoinAt, Least, JoinsAt, EachOf, Each, block_width, block_count, BlockAt, LeastByBlock, RowAt}
use Rattle.rides.proofs.ReachLaws.{each-alike}
use Rattle.rides.proofs.SkipLaws.{joins_after}
use Rattle.search_input.specs.Layout.{call_room}

-- a ride that one can take joins what one that alights there joins
pub alights-first : {f : FirstRide} (feed : List ℕ) (n o : ℕ) (r : Ride) → IsRide feed n r
    → f ≡ first_of (sheet_of feed) r.board o r.alight → Alights feed n f
unfolding first_of sheet_of joins_of joined same_run
alights-first feed n o r w e =
    let b = call_at feed r.board in
    let a = call_at feed r.alight in
    let t : b.trip ≡ a.trip = eqb-true _ _ (and-true-left (eqb b.trip a.trip) (eqb b.day a.day) w.run.same) in
    let d : b.day ≡ a.day = eqb-true _ _ (and-true-right (eqb b.trip a.trip) (eqb b.day a.day) w.run.same) in
    rw e record { within = w.run.within; alights = w.alights; joins = λ changes j. rw (t, d) refl }

module _ (feed changes b : List ℕ) (n : ℕ) (f : FirstRide) where
  -- the number of the bucket
  pub least-bucket : {q t : ℕ} → Bounds b feed n → q ≡ bucket_of f.arrival → t ≡ get_or b q 0 → Least feed changes b f 0 n t
  unfolding JoinAt
  least-bucket w e et =
      record { least = λ c a h y z. rw (et, e) (w.after f.arrival c h y (joins_after feed changes f c z)) }

  pub least-max : {t u v : ℕ} → t ≡ max u v → Least feed changes b f 0 n u → Least feed changes b f 0 n v → Least feed changes b f 0 n t
  unfolding JoinAt
  least-max e g h = record { least = λ c a l y z. let p = g.least c a l y z in let q = h.least c a l y z in omega (arith, e, p, q) }

-- what is joined where a ride alights
module _ {feed : List ℕ} {n : ℕ} {f : FirstRide} (w : Alights feed n f) (changes b : List ℕ) where
  least-there : {i k t : ℕ} → Least feed changes b f i k t → Least feed changes b (alighted_at feed f.alight) i k t
  unfolding JoinAt
  least-there g = record { least = λ c a l y z. g.least c a l y (w.joins changes c ∙ z) }

  least-from : {i k t : ℕ} → Least feed changes b (alighted_at feed f.alight) i k t → Least feed changes b f i k t
  unfolding JoinAt
  least-from g = record { least = λ c a l y z. g.least c a l y (sym (w.joins changes c) ∙ z) }

  -- the number where it alights
  pub least-here : {l : List ℕ} {m t : ℕ} → m ≡ f.alight → t ≡ get_or l m 0 → Each (JoinsAt feed changes n b) 0 n l
      → Least feed changes b f 0 n t
  unfolding JoinsAt
  least-here e et g = rw (et, e) (least-from (g.each f.alight (omega arith) w.within w.alights))

  -- those of the blocks
  pub row-here : {m : ℕ} {row : List ℕ} → m ≡ f.alight → RowAt feed changes n b m row → LeastByBlock feed changes b n f row
  unfolding RowAt BlockAt
  row-here e g =
      let h = (rw e at g) w.alights in
      record { long = h.long; each = λ k lo hi. least-from (h.each k lo hi) }

  pub blocks-here : {l : List (List ℕ)} {m : ℕ} {row : List ℕ} → m ≡ f.alight → row ≡ get_or l m []
      → EachOf call_room [] (RowAt feed changes n b) 0 n l → LeastByBlock feed changes b n f row
  blocks-here e er g = row-here e (rw (er, e) (g.each f.alight (omega arith) w.within))

  pub joins-there : {m t : ℕ} → m ≡ f.alight → Least feed changes b f 0 n t → JoinsAt feed changes n b m t
  unfolding JoinsAt
  joins-there e g y = rw e (least-there g)

  pub row-there : {m : ℕ} {row : List ℕ} → m ≡ f.alight → LeastByBlock feed changes b n f row → RowAt feed changes n b m row
  unfolding RowAt BlockAt
  row-there e g y = rw e record { long = g.long; each = λ k lo hi. least-there (g.each k lo hi) }

-- 0 is no later than any time
least-zero : {feed changes b : List ℕ} {p : FirstRide} {i n : ℕ} → Least feed changes b p i n 0
unfolding JoinAt
least-zero = record { least = λ c a l y z. omega arith }

-- before any place is asked for
pub joins-unasked : (feed changes b : List ℕ) (n : ℕ) → n ≤ 512 → Each (JoinsAt feed changes n b) 0 n (replicate 512 0)
unfolding JoinsAt
joins-unasked feed changes b n h = each-alike _ h (λ k y. least-zero)

pub rows-unasked : (feed changes b : List ℕ) (n : ℕ) → n ≤ 512
    → EachOf call_room [] (RowAt feed changes n b) 0 n (replicate 512 (replicate block_count 0))
unfolding RowAt BlockAt
rows-unasked feed changes b n h = each-alike _ h (λ k y. each-alike _ (omega arith) (λ c. least-zero))

-- what is no later than the number of each block
pub least-blocks : {feed changes b : List ℕ} {p : FirstRide} {n t : ℕ} {row : List ℕ} → n ≤ 512 → LeastByBlock feed changes b n p row
    → ((k : ℕ) → k < block_count → t ≤ get_or row k 0) → Least feed changes b p 0 n t
unfolding BlockAt JoinAt
least-blocks {t = t} h g low =
    record {
      least = λ c a l y z.
          let k = c / block_width in
          let p = (g.each k (omega arith) (omega arith)).least c (omega arith) (omega arith) y z in
          let q = low k (omega arith) in
          omega (arith, p, q);
    }

-- ---- the rows of every place

module _ (feed changes b : List ℕ) (n m : ℕ) where
  -- the least of a row
  pub joins-row : {t : ℕ} (row : List ℕ) → n ≤ 512 → RowAt feed changes n b m row → ((k : ℕ) → k < block_count → t ≤ get_or row k 0)
      → JoinsAt feed changes n b m t
  unfolding RowAt JoinsAt
  joins-row row h g low y = least-blocks h (g y) low

  pub row-some : {p : FirstRide} {row : List ℕ} → p ≡ alighted_at feed m → LeastByBlock feed changes b n p row
      → RowAt feed changes n b m row
  unfolding RowAt
  row-some e g y = rw e at g

  pub row-none : {a : FeedCall} (row : List ℕ) → a ≡ call_at feed m → a.alight ≡ false → RowAt feed changes n b m row
  unfolding RowAt
  row-none row ea e y = absurd (false≢true (sym e ∙ ap (λ (c : FeedCall). c.alight) ea ∙ y))
