-- The premises of what is claimed of displays can be met: a display of one group, whose load a list of steps leaves.
use mathlib.Core.Path.{◌≡◌, refl, sym, ap, ◌∙◌}
use mathlib.Core.Bool.{Bool, true, false, not, true≢false, false≢true, ◌||◌}
use mathlib.Core.List.Memᴰ
use mathlib.Core.List.{[], ◌∷◌, map}
use Prim.Native.Nat.{◌≤◌}
use native.Mathlib.Omega.{arith}
use lib.IntN.{ℤ, pos, negsuc}
use lib.ListN.{length, length-map}
use lib.Signed.{lt_z}
use borrow.Author.Tests.{le-ltb}
use Rattle.shares.specs.Shares.{at_first_of}
use Rattle.shares.proofs.ShareLaws.{shares-right}
use Rattle.profile.specs.declared.figures.Figures.{Figures}
use Rattle.profile.specs.Journeys.{journey_figures}
use Rattle.load.specs.declared.Load.{Load}
use Rattle.best.specs.Best.{kept_of}
use Rattle.groups.specs.Groups.{group_of, group_at, start_or, lowest_start}
use Rattle.groups.specs.Refused.{unlike, is_wrong, twice, turned_away}
use Rattle.display.specs.Parts.{shows, count_in}
use Rattle.display.specs.Display.{counts, share_of, display_of, part_of}
use Rattle.display.proofs.PromiseLaws.{refused-alone}
use Rattle.steps.specs.Lists.{end_of}
use Rattle.comparison.specs.Witness.{some_opening, one_trip}
use Rattle.comparison.specs.Displays.{Displayed}
use Rattle.comparison.proofs.WitnessLaws.{computed, kept}

same_start : (z : ℤ) → lt_z z z ≡ false
same_start (pos n) = le-ltb n n (omega arith)
same_start (negsuc n) = le-ltb n n (omega arith)

one-stands : (l : Load) → l.searched ≡ true → turned_away (group_of 0 l ∷ []) ≡ false
unfolding turned_away twice is_wrong lowest_start start_or group_at unlike
one-stands l e = go l.searched (lt_z l.settings.now l.settings.now) e (same_start l.settings.now)
  where
    go : (b c : Bool) → b ≡ true → c ≡ false → ((not b || (c || c)) || false) ≡ false
    go true false p q = refl
    go true true p q = absurd (true≢false q)
    go false c p q = absurd (false≢true p)

least : (l : Load) → at_first_of (length (kept_of l)) ≤ share_of (group_of 0 l ∷ []) 0
unfolding count_in group_at
least l = (shares-right (counts (group_of 0 l ∷ [])) (omega arith)).least 0

-- a searched load with 16 journeys or fewer, alone, has a display
one-shown : (l : Load) → l.searched ≡ true → length (kept_of l) ≤ 16 → shows (part_of (display_of (group_of 0 l ∷ [])) 0) ≡ true
one-shown l e f =
    (refused-alone (group_of 0 l ∷ []) (group_of 0 l) (record { stands = one-stands l e; given = Memᴰ.head refl })).1
    (λ (a, b). omega (arith, least l))

one_kept : (l : Load) (f : Figures) → map journey_figures (kept_of l) ≡ f ∷ [] → length (kept_of l) ≤ 16
one_kept l f e = omega (arith, sym (length-map (kept_of l) journey_figures) ∙ ap length e)

pub displayed : Displayed (group_of 0 (end_of some_opening (one_trip 600 1200)) ∷ []) 0 some_opening (one_trip 600 1200)
displayed = record {
  given = Memᴰ.head refl;
  shows = one-shown (end_of some_opening (one_trip 600 1200)) computed.searched
      (one_kept (end_of some_opening (one_trip 600 1200)) _ kept.one-trip);
}
