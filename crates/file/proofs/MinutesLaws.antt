-- The minutes of a file of version 1, as the seconds of its load.
use mathlib.Core.Path.{◌≡◌, sym, ap, ◌∙◌}
use mathlib.Core.List.{List, [], ◌∷◌, map}
use Prim.Native.Nat.{ℕ, ◌*◌}
use native.Mathlib.Omega.{arith}
use lib.Dec.{eqb}
use lib.ListN.{get_or, drop}
use Rattle.settings.specs.declared.Settings.{Settings}
use Rattle.settings.specs.Settings.{canonical_of}
use Rattle.fields.specs.Numbers.{byte_at}
use Rattle.fields.specs.Layout.{minutes_at}
use Rattle.fields.specs.Records.{settings_in}
use Rattle.fields.specs.Second.{settings_by}
use Rattle.laws.proofs.Bools.{cond-not}
use Rattle.load.specs.declared.Load.{Load}
use Rattle.load.specs.Steps.{undated}
use Rattle.steps.specs.Lists.{end_of}
use Rattle.steps.proofs.HandedLaws.{handed-sound}
use Rattle.file.specs.Record.{step_in}
use Rattle.file.specs.File.{is_second}
use Rattle.file.specs.Minutes.{with_seconds, MinutesRead}
use Rattle.file.proofs.HandedLaws.{read-hands}

-- the settings of a record are those with 60 times its minutes
in-seconds : (b : List ℕ) (m : ℕ) → byte_at b (minutes_at b) ≡ m → settings_in b ≡ with_seconds (settings_in b) (60 * m)
unfolding settings_in
in-seconds b m e = ap (with_seconds (settings_in b)) (times (byte_at b (minutes_at b)) m e)
  where
    times : (n m : ℕ) → n ≡ m → n * 60 ≡ 60 * m
    times n m e = omega (arith, e)

-- a list's first and the others, by the list
same_head : (xs ys : List ℕ) (us bs : List (List ℕ)) → ◌≡◌ {A = List (List ℕ)} (xs ∷ us) (ys ∷ bs) → (xs ≡ ys) × (us ≡ bs)
same_head xs ys us bs e = (ap (λ (l : List (List ℕ)). get_or l 0 []) e, ap (drop 1) e)

pub minutes-read : MinutesRead
unfolding canonical_of
minutes-read xs v taken b bs bodies m e =
    let h = read-hands xs taken in
    let (first, others) = same_head h.head b h.rest bs (sym h.bodies ∙ bodies) in
    let first-version : settings_by (is_second xs) h.head ≡ settings_in h.head = cond-not _ _ (ap (λ (n : ℕ). eqb n 2) v) in
    let given : settings_by (is_second xs) h.head ≡ with_seconds (settings_in b) (60 * m) =
    first-version ∙ ap settings_in first ∙ in-seconds b m e in
    record {
      load = h.ends ∙ (λ i. end_of (undated (given i)) (map step_in (others i)));
      held =
          ap (λ (l : Load). l.settings.transfer_seconds) h.ends
          ∙ ap (λ (s : Settings). s.transfer_seconds)
          ((handed-sound (undated (settings_by (is_second xs) h.head)) (map step_in h.rest) h.opens).0 ∙ ap canonical_of given);
    }
