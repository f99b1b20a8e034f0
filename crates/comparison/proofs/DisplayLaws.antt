-- Demand 3 with windows as horizons: what a group shows is its load's list cut at the window.
use mathlib.Core.Path.{◌≡◌, refl, sym, ap, subst, ◌∙◌}
use mathlib.Core.Logic.{◌↔◌}
use mathlib.Core.Bool.{true}
use mathlib.Core.List.{List, Memᴰ}
use Prim.Native.Nat.{ℕ, ◌≤◌}
use lib.IntN.{ℤ}
use Rattle.std.specs.Prelude.{Option, Some, None}
use Rattle.laws.proofs.Sort.{sort-mem}
use Rattle.settings.specs.declared.Settings.{Settings}
use Rattle.settings.specs.Settings.{canonical_of}
use Rattle.profile.specs.declared.Journey.{Journey}
use Rattle.profile.specs.Figures.{covᶠ, dueᶠ}
use Rattle.profile.specs.Front.{front}
use Rattle.profile.specs.Best.{Ordered, Ahead, bestℤ, read_by, sooner}
use Rattle.profile.specs.Journeys.{journey_figures}
use Rattle.profile.proofs.ClaimLaws.{best-in-order}
use Rattle.profile.proofs.FrontLaws.{after-mem}
use Rattle.offers.specs.Covered.{I64, CoveredBy}
use Rattle.offers.specs.Machine.{within}
use Rattle.load.specs.Steps.{Opening}
use Rattle.load.specs.Sound.{Opens}
use Rattle.best.specs.Best.{kept_of}
use Rattle.groups.specs.declared.Group.{Group}
use Rattle.groups.specs.Groups.{group_of}
use Rattle.groups.proofs.RefusedLaws.{not-away}
use Rattle.display.specs.Promises.{Given}
use Rattle.display.proofs.ListLaws.{shown-in}
use Rattle.display.proofs.PromiseLaws.{not-shown-away, given-window, best-shown-by, best-by-group}
use Rattle.steps.specs.Steps.{Step}
use Rattle.steps.specs.Lists.{end_of}
use Rattle.steps.specs.Lists as by-load
use Rattle.steps.proofs.HeldLaws.{agrees-within}
use Rattle.steps.proofs.WithdrawnLaws.{end_kept}
use Rattle.steps.proofs.HandedLaws.{handed-sound}
use Rattle.comparison.specs.Displays.{Displayed, window_in, answer_in, DisplaysAgree, Displays}
use Rattle.comparison.proofs.ShownLaws.{displayed}
use Rattle.comparison.proofs.AlikeLaws.{alike-reads, reads-alike, second-in, in-second, earlier-is}
use Rattle.comparison.proofs.DemandLaws.{matched, finished-load}
use Rattle.comparison.proofs.OwnLaws.{own_offers, own_within, OwnFound, own-found, stopped-found, own-ahead, within-ahead}

module _ (gs : List Group) (n : ℕ) (s : Opening) (xs : List Step) (o : Opens s) (v : Displayed gs n s xs) where
  given : Given gs (group_of n (end_of s xs))
  given = record { stands = not-shown-away gs n v.shows; given = v.given }

  searched : (end_of s xs).searched ≡ true
  searched = (not-away gs given.stands (group_of n (end_of s xs)) v.given).searched

  ordered : Ordered journey_figures (kept_of (end_of s xs))
  ordered = (handed-sound s xs o).1.in_order

  -- all offers that its list comes from, or those before the stop
  listed : (k : Journey) → Memᴰ k (kept_of (end_of s xs)) → (k.arrival ≤ (end_of s xs).horizon) × (k.leave ≤ k.arrival)
  listed k m = go (end_of s xs).limit refl
    where
      by : (os : List Journey) → OwnFound (end_of s xs) os → (Memᴰ k os → k.leave ≤ k.arrival)
          → (k.arrival ≤ (end_of s xs).horizon) × (k.leave ≤ k.arrival)
      by os w f =
          let (i, h) = after-mem (covᶠ journey_figures) (dueᶠ journey_figures) (end_of s xs).horizon _ os
          (sort-mem (sooner journey_figures) (front (covᶠ journey_figures) (dueᶠ journey_figures) (end_of s xs).horizon os)
          (subst (Memᴰ k) w.unbeaten m)) in
          (h, f i)

      go : (limit : Option ℕ) → (end_of s xs).limit ≡ limit → (k.arrival ≤ (end_of s xs).horizon) × (k.leave ≤ k.arrival)
      go (Some n) e = by (own_within n (end_of s xs)) (stopped-found (end_of s xs) (end_kept s xs) n e)
          (within-ahead (end_of s xs) (end_kept s xs) n e k)
      go None e = by (own_offers (end_of s xs)) (own-found (end_of s xs) (end_kept s xs) searched e)
          (own-ahead (end_of s xs) (end_kept s xs) (own-found (end_of s xs) (end_kept s xs) searched e).clear k)

  due : (k : Journey) → Memᴰ k (kept_of (end_of s xs)) → k.arrival ≤ (end_of s xs).horizon
  due k m = (listed k m).0

  pub window-under : window_in gs n ≤ (end_of s xs).horizon
  window-under = given-window gs (group_of n (end_of s xs)) given ordered v.shows due

  start_is : (group_of n (end_of s xs)).now ≡ s.settings.now
  unfolding canonical_of
  start_is = ap (λ (t : Settings). t.now) (handed-sound s xs o).0

  -- what best by group answers is best of the list cut at the window
  asked : (z : ℤ) → answer_in gs n s xs z ≡ bestℤ journey_figures (within (window_in gs n) (kept_of (end_of s xs))) (window_in gs n) z
  asked z =
      best-shown-by gs (group_of n (end_of s xs)) given ordered v.shows z
      ∙ best-in-order journey_figures _ (shown-in (window_in gs n) (kept_of (end_of s xs)) ordered) (window_in gs n) z

  ahead : Ahead journey_figures (kept_of (end_of s xs))
  ahead k m = (listed k m).1

displays-agree : DisplaysAgree
displays-agree gs gs' n n' s s' xs xs' g e o o' t t' v v' r = (
  λ f. let (a, b) = whole.0 (λ z i. sym (ap (read_by journey_figures g) (asked gs n s xs o v z))
      ∙ alike-reads g (answer_in gs n s xs z) (answer_in gs' n' s' xs' z) (f z (in-second z i))
      ∙ ap (read_by journey_figures g) (asked gs' n' s' xs' o' v' z)) in
      ((matched g s s' xs xs' o o').0 a, (matched g s' s xs' xs o' o).0 b),
  λ (a, b) z i. reads-alike g (answer_in gs n s xs z) (answer_in gs' n' s' xs' z)
      (ap (read_by journey_figures g) (asked gs n s xs o v z)
      ∙ whole.1 ((matched g s s' xs xs' o o').1 a, (matched g s' s xs' xs o' o).1 b) z (second-in z i)
      ∙ sym (ap (read_by journey_figures g) (asked gs' n' s' xs' o' v' z))),
)
  where
    w : ℕ
    w = window_in gs n

    w' : ℕ
    w' = window_in gs' n'

    Reads : ℕ → Type 0
    Reads k = ((z : ℤ) → I64 z → read_by journey_figures k (bestℤ journey_figures (within w (kept_of (end_of s xs))) w z)
        ≡ read_by journey_figures k (bestℤ journey_figures (within w' (kept_of (end_of s' xs'))) w' z))
        ↔ (CoveredBy k (by-load.Admitted s xs) (by-load.Admitted s' xs') × CoveredBy k (by-load.Admitted s' xs') (by-load.Admitted s xs))

    whole : Reads g
    whole = subst Reads (sym (earlier-is g w w' r))
        (agrees-within s s' xs xs' w w' o o' (searched gs n s xs o v) (searched gs' n' s' xs' o' v') (finished-load s xs o t)
        (finished-load s' xs' o' t') (window-under gs n s xs o v) (window-under gs' n' s' xs' o' v'))

pub displays : Displays
displays = record {
  agree = displays-agree;
  start = λ gs n n' s s' xs xs' o o' v v'.
      let a = given gs n s xs o v in
      sym (start_is gs n s xs o v) ∙ (not-away gs a.stands (group_of n (end_of s xs)) v.given).start
      ∙ sym (not-away gs a.stands (group_of n' (end_of s' xs')) v'.given).start ∙ start_is gs n' s' xs' o' v';
  window = window-under;
  best = λ gs n s xs o v z. best-by-group gs n (end_of s xs) (given gs n s xs o v) (ordered gs n s xs o v) (ahead gs n s xs o v) v.shows
      (window-under gs n s xs o v) z;
  met = displayed;
}
