-- The earliest arrival of a ride of the table at a target, by what was taken.
use Prim.Native.Nat.{ℕ, ◌+◌, ◌*◌, ◌≤◌}
use mathlib.Core.Path.{◌≡◌, sym, ap, subst, ◌∙◌}
use mathlib.Core.List.Permᴰ
use mathlib.Core.List.{List, Permᴰ}
use Rattle.settings.specs.declared.Settings.{Settings}
use Rattle.calls.specs.declared.CallInput.{CallInput}
use Rattle.calls.specs.declared.Call.{Call}
use Rattle.load.specs.declared.Load.{Load}
use Rattle.load.specs.FillStep.{FillStep}
use Rattle.offers.specs.Offers.{Timetable, arrival_of}
use Rattle.offers.specs.Admitted.{Rides, Ends}
use Rattle.limited.specs.Margin as limited
use Rattle.search.specs.Timetable.{timetable_of}
use Rattle.comparison.specs.Taken.{calls_in, State, keeping}
use Rattle.comparison.specs.Admitted.{Feed}
use Rattle.comparison.specs.Events.{Reaches, Earliest}
use Rattle.comparison.specs.Feeds.{feed_of}
use Rattle.comparison.proofs.SettingLaws.{Opened}
use Rattle.comparison.proofs.StartLaws.{Start, state_at, same-feed, feed_from}
use Rattle.comparison.proofs.BagLaws.{handing, leg-perm}
use Rattle.comparison.proofs.AsideLaws.{Like, feed-beside}
use Rattle.comparison.proofs.AdmittedLaws.{known, leg-in, leg-out, ends-in, ends-out, target_walk}

module _ (s : Settings) (l : Load) (fs : List FillStep) (w : Start s l fs) (o : Opened s) where
  abbrev F : Feed
  F = feed_from s l fs

  abbrev t : Timetable
  t = timetable_of l

  reach-in : (b a : Call) (k m : ℕ) → Rides t.calls b a → Ends t a k → arrival_of t k a.arrival ≡ m → Reaches F m
  unfolding timetable_of
  reach-in b a k m r e q =
      let (c, v) = ends-in s l fs w o a k (known s l fs w o a r.to) e in
      record {
        b = b;
        a = a;
        k = k;
        leg = leg-in s l fs w o b a r;
        target = c;
        to = v;
        arrives = sym q ∙ ap (λ (z : ℕ). a.arrival + z * 60) (target_walk s l fs w o k c);
      }

  earliest-load : (m : ℕ) → limited.Earliest t m → Earliest F m
  unfolding timetable_of
  earliest-load m v = record {
    one = reach-in v.b v.a v.k m v.ride v.ends v.arrives;
    least = λ n r. subst (λ (x : ℕ). m ≤ x) (ap (λ (z : ℕ). r.a.arrival + z * 60) (target_walk s l fs w o r.k r.target) ∙ sym r.arrives)
        (v.least r.b r.a r.k (leg-out s l fs w o r.b r.a r.leg) (ends-out s l fs w o r.a r.k r.target r.to));
  }

  pub earliest-in : (m : ℕ) → limited.Earliest (timetable_of l) m → Earliest (feed_of s (state_at l fs)) m
  earliest-in m v = subst (λ (G : Feed). Earliest G m) (same-feed s l fs w) (earliest-load m v)

-- ---- in any order of the calls

reaches-perm : (F : Feed) (is js : List CallInput) → Permᴰ is js → (m : ℕ) → Reaches (handing F is) m → Reaches (handing F js) m
reaches-perm F is js q m w = record {
  b = w.b;
  a = w.a;
  k = w.k;
  leg = leg-perm F is js q w.b w.a w.leg;
  target = w.target;
  to = w.to;
  arrives = w.arrives;
}

earliest-perm : (F : Feed) (is js : List CallInput) → Permᴰ is js → (m : ℕ) → Earliest (handing F is) m → Earliest (handing F js) m
earliest-perm F is js q m w = record {
  one = reaches-perm F is js q m w.one;
  least = λ n r. w.least n (reaches-perm F js is (Permᴰ.symm q) n r);
}

pub earliest-like : (s : Settings) (t : State) (gs fs : List FillStep) (m : ℕ) → Like gs fs → Earliest (feed_of s (keeping t gs)) m
    → Earliest (feed_of s (keeping t fs)) m
earliest-like s t gs fs m w a =
    earliest-perm (feed_of s (keeping t fs)) (calls_in gs) (calls_in fs) w.calls m
    (subst (λ (F : Feed). Earliest F m) (feed-beside s t gs fs w.beside) a)
