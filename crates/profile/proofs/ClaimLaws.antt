-- The claims of specs/Claims.antt, each from the laws of any order on any list.
use native.Mathlib.Omega.{arith}
use lib.IntN.{ℤ}
use Rattle.laws.proofs.Sort.{sort-perm, sort-mem, mem-sort}
use Rattle.profile.specs.Figures.{Figures, covᶠ, dueᶠ}
use Rattle.profile.specs.Best.{sooner, figures_at, numbered}
use Rattle.profile.specs.Claims.{KeptIsFront, FrontUnbeaten, KeptCovers, CoveredBeatsNone, KeptAntichain, AntichainUnbeaten, OneWalk}
use Rattle.profile.specs.Claims.{WalksSearch, ReadsByPlace, SearchIsFall, FallsAtOneMore, LatePassedOver, KeptComplete, CompleteCut, Alike}
use Rattle.profile.specs.Claims.{BestInOrder, PlaceInOrder, PutInOrder, OrderedBest, CompleteOrdered, SearchMaps, OrderedMaps}
use Rattle.profile.proofs.FiguresLaws.{figures-order}
use Rattle.profile.proofs.FrontLaws.{after-mem, after-unbeaten, front-antichain, covered-beats-none as front-beats-none}
use Rattle.profile.proofs.KeptLaws.{run-kept, run-covers}
use Rattle.profile.proofs.FallLaws.{run-marked, run-fall}
use Rattle.profile.proofs.PassLaws.{offers-late}
use Rattle.profile.proofs.WalkLaws.{antichain-unbeaten as unbeaten, one-walk as walked, walks-run, reads-by-place as by_place}
use Rattle.profile.proofs.BestLaws.{complete-cut as cut, alike-asked}
use Rattle.profile.proofs.MapLaws.{run-map}
use Rattle.profile.proofs.SortLaws as sorted

module _ {A : Type 0} (fig : A → Figures) where
  pub kept-is-front : KeptIsFront fig
  kept-is-front h₀ l₀ os ks h l e =
      let (k, n, le, m) = run-kept (figures-order fig) 64 3600 (omega arith) h₀ l₀ os ks h l e in
      (k, n, le)

  pub front-unbeaten : FrontUnbeaten fig
  front-unbeaten h os k m =
      let (i, d) = after-mem (covᶠ fig) (dueᶠ fig) h _ os m in
      (i, d, λ q n. after-unbeaten (covᶠ fig) (dueᶠ fig) h _ os m n)

  pub kept-covers : KeptCovers fig
  kept-covers h₀ l₀ os ks h l e = run-covers (figures-order fig) 64 3600 (omega arith) h₀ l₀ os ks h l e

  pub covered-beats-none : CoveredBeatsNone fig
  covered-beats-none h₀ l₀ os ks h l e o k k' m c m' =
      let q = (kept-is-front h₀ l₀ os ks h l e).0 in
      front-beats-none (figures-order fig) h os o (rw q at m) c (rw q at m')

  pub kept-antichain : KeptAntichain fig
  kept-antichain h₀ l₀ os ks h l e = rw (kept-is-front h₀ l₀ os ks h l e).0 (front-antichain (covᶠ fig) (dueᶠ fig) h os)

  pub antichain-unbeaten : AntichainUnbeaten fig
  antichain-unbeaten ks w o k k' m c m' = unbeaten (figures-order fig) o k k' ks w m c m'

  pub one-walk : OneWalk fig
  one-walk ks h l o w = walked (figures-order fig) 64 3600 ks h l o w

  pub walks-search : WalksSearch fig
  walks-search h₀ l₀ os = walks-run (figures-order fig) 64 3600 (omega arith) h₀ l₀ os

  pub reads-by-place : ReadsByPlace fig
  reads-by-place ks o w = by_place (figures-order fig) o ks w

  pub search-is-fall : SearchIsFall fig
  search-is-fall h₀ l₀ os = run-fall (figures-order fig) 64 3600 (omega arith) h₀ l₀ os

  pub falls-at-one-more : FallsAtOneMore fig
  falls-at-one-more h₀ l₀ os = run-marked (figures-order fig) 64 3600 (omega arith) h₀ l₀ os

  pub late-passed-over : LatePassedOver fig
  late-passed-over s os f = offers-late (covᶠ fig) (dueᶠ fig) 64 3600 s os f

  pub kept-complete : KeptComplete fig
  kept-complete h₀ l₀ os ks h l e a = record {
    kept = λ k m. ((run-kept (figures-order fig) 64 3600 (omega arith) h₀ l₀ os ks h l e).3 k m).0;
    covered = kept-covers h₀ l₀ os ks h l e;
    ahead = a;
  }

  pub complete-cut : CompleteCut fig
  complete-cut os ks h w le c = cut fig os ks h w le c

  pub alike : (Asked : ℤ → Type 0) → Alike fig Asked
  alike Asked os os' ks ks' h h' asks c c' = alike-asked fig Asked os os' ks ks' h h' asks c c'

  pub best-in-order : BestInOrder fig
  best-in-order ks s h z = sorted.first-best fig ks s h z

  pub place-in-order : PlaceInOrder fig
  place-in-order ks s h z = sorted.first-best (figures_at fig) (numbered 0 ks) (sorted.numbered-ordered fig 0 ks s) h z

  pub put-in-order : PutInOrder fig
  put-in-order ks = (sorted.in_order fig ks, sort-perm (sooner fig) ks)

  pub ordered-best : OrderedBest fig
  ordered-best ks h z = sorted.ordered-best fig ks h z

  pub complete-ordered : CompleteOrdered fig
  complete-ordered os ks h c = record {
    kept = λ k m. c.kept k (sort-mem (sooner fig) ks m);
    covered = λ o m d. let (k, n, x) = c.covered o m d in (k, mem-sort (sooner fig) ks n, x);
    ahead = c.ahead;
  }

module _ {A B : Type 0} (f : A → B) (fig : A → Figures) (fig' : B → Figures) where
  pub search-maps : SearchMaps f fig fig'
  search-maps h₀ l₀ os e = run-map f fig fig' 64 3600 h₀ l₀ os e

  pub ordered-maps : OrderedMaps f fig fig'
  ordered-maps ks e = sorted.ordered-map f fig fig' ks e
