-- What a load that is not searched holds of a list: what the list gave.
use Rattle.std.specs.Prelude.{None, Option, Some, is_some}
use mathlib.Core.Path.{◌≡◌, refl, sym, ap, ◌∙◌}
use mathlib.Core.Bool.{true, false, true≢false}
use mathlib.Core.List.{List, []}
use Prim.Native.Nat.{ℕ}
use Rattle.settings.specs.declared.Settings.{Settings}
use Rattle.settings.specs.Settings.{canonical_of}
use Rattle.load.specs.declared.Load.{Load}
use Rattle.load.specs.Steps.{Opening, opened}
use Rattle.load.specs.FillStep.{FillStep}
use Rattle.load.specs.Sound.{Opens, Sound}
use Rattle.load.proofs.SoundLaws.{open-sound}
use Rattle.load.proofs.TableLaws.{opened-settings}
use Rattle.steps.proofs.HeldLaws.{opened_new}
use Rattle.comparison.specs.Taken.{State}
use Rattle.comparison.specs.Admitted.{Feed}
use Rattle.comparison.specs.Feeds.{feed_of}
use Rattle.comparison.proofs.TakenLaws.{Held, opened-holds}

-- an unsearched load that holds what was taken: what a search of it is handed
pub record Start (s : Settings) (p : Load) (fs : List FillStep) : Type 0 where
  pub sound : Sound p
  pub settings : p.settings ≡ canonical_of s
  pub held : Held p fs
  pub fresh : p.searched ≡ false

pub opened-start : (o : Opening) → Opens o → Start o.settings (opened o) []
opened-start o w = record { sound = open-sound o; settings = opened-settings o; held = opened-holds o w; fresh = opened_new o }

-- an unsearched load holds no limit
pub no_limit : (l : Load) → Sound l → l.searched ≡ false → l.limit ≡ None
no_limit l v f = go l.limit refl
  where
    go : (o : Option ℕ) → l.limit ≡ o → o ≡ None
    go (Some n) e = absurd (true≢false (sym (v.stopped_search (ap is_some e)) ∙ f))
    go None e = refl

-- what a load was given, as the steps' answers tell it
abbrev pub state_at : Load → List FillStep → State
state_at l fs = record {
  taken = fs;
  horizon = l.table_horizon;
  limits = l.table_limits;
  searched = l.searched;
  stopped = l.limit;
  dates = l.week.dates;
  closed = l.week.closed;
}

-- what is given to a search by what was taken, with the horizon of the load's table
abbrev pub feed_from : Settings → Load → List FillStep → Feed
feed_from s l fs =
    feed_of s (record {
      taken = fs;
      horizon = l.table_horizon;
      limits = l.table_limits;
      searched = l.searched;
      stopped = None;
      dates = None;
      closed = true;
    })

-- what the load gives to a search is what was taken
pub same-feed : (s : Settings) (p : Load) (fs : List FillStep) → Start s p fs → feed_from s p fs ≡ feed_of s (state_at p fs)
same-feed s p fs w = refl
