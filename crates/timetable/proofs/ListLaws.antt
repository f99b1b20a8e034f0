-- A list by its parts.
use Rattle.std.specs.Prelude.{Option, unwrap_or}
use mathlib.Core.Path.{◌≡◌, ap, ◌∙◌}
use mathlib.Core.List.{List, []}
use Prim.Native.Nat.{ℕ}
use lib.IntN.{ℤ, pos}
use lib.ListN.{length}
use Rattle.profile.specs.declared.Journey.{Journey}
use Rattle.load.specs.declared.Load.{Load}
use Rattle.best.specs.Best.{kept_of}
use Rattle.margin.specs.Stopped.{margin_spec}
use Rattle.timetable.specs.declared.journeys.TimetableJourney.{TimetableJourney}
use Rattle.timetable.specs.List.{rows_of, state_of, refused_list, load_list}

pub refused-made : (n : ℕ) {rs : List TimetableJourney} → rs ≡ rows_of [] → record {
  now = pos 0;
  joins = 0;
  horizon = 0;
  margin = 65535;
  refusal = n;
  state = 0;
  limits = 0;
  count = 0;
  journey = rs;
} ≡ refused_list n
unfolding refused_list
refused-made n e = λ i. record {
  now = pos 0;
  joins = 0;
  horizon = 0;
  margin = 65535;
  refusal = n;
  state = 0;
  limits = 0;
  count = 0;
  journey = e i;
}

module _ (n : ℕ) (l : Load) where
  pub load-made : {z : ℤ} {m s : ℕ} {o : Option ℕ} {ks : List Journey} {rs : List TimetableJourney} → z ≡ l.settings.now
      → o ≡ margin_spec l → m ≡ unwrap_or o 65535 → s ≡ state_of l.searched l.limit → ks ≡ kept_of l → rs ≡ rows_of ks
      → record {
        now = z;
        joins = n;
        horizon = l.horizon;
        margin = m;
        refusal = 0;
        state = s;
        limits = l.limits;
        count = length ks;
        journey = rs;
      } ≡ load_list n l
  unfolding load_list
  load-made now margin m-is s-is kept rows = λ i. record {
    now = now i;
    joins = n;
    horizon = l.horizon;
    margin = (m-is ∙ ap (λ (o : Option ℕ). unwrap_or o 65535) margin) i;
    refusal = 0;
    state = s-is i;
    limits = l.limits;
    count = length (kept i);
    journey = (rows ∙ ap rows_of kept) i;
  }
