-- The week of a load holds the services and exceptions that were taken, and nothing else.
use Rattle.std.specs.Prelude.{None, Option, Some}
use Rattle.std.specs.Option.{is_some, unwrap_or}
use Prim.Native.Nat.{ℕ, suc, ◌≤◌, ◌<◌}
use mathlib.Core.Path.{◌≡◌, refl, sym, ap, ap₂, subst, ◌∙◌}
use mathlib.Core.Logic.{◌⊎◌, inl, inr}
use mathlib.Core.Bool.{Bool, true, false, cond, ◌||◌, true≢false, false≢true}
use Rattle.laws.proofs.Options.{some-injective}
use mathlib.Core.List.Memᴰ
use mathlib.Core.List.{List, [], ◌∷◌, ◌++◌, map, Memᴰ}
use native.Mathlib.Omega.{arith}
use lib.ListN.{length, get_or, take}
use lib.Seq.{get_or-take}
use Rattle.laws.specs.Lists.{anyb}
use Rattle.laws.proofs.Bools.{or-false-left, or-false-right, not-true, cond-by, cond-not}
use Rattle.laws.proofs.Lists.{anyb-mem, mem-anyb, anyb-not, anyb-append}
use Rattle.laws.proofs.Maps.{anyb-map}
use Rattle.services.specs.declared.Service.{Service}
use Rattle.services.specs.Runs.{runs_of}
use Rattle.stops.specs.Texts.{same_bytes_of}
use Rattle.week.specs.declared.Week.{Week}
use Rattle.week.specs.declared.Running.TheVariants as variants
use Rattle.week.specs.Weeks.{is_dated, dates_in, blank_service, named, place_of, place_in, service_in, running}
use Rattle.week.proofs.StepLaws.{place-below}
use Rattle.load.specs.Steps.{is_unknown, is_resting}
use Rattle.load.specs.FillStep.{FillStep}
use Rattle.comparison.specs.Taken.{ServiceGiven, services_in, State}
use Rattle.comparison.specs.Services.{RunsOn, Named, Unknown, Running, Resting}
use Rattle.comparison.proofs.NthLaws.{bytes_same, same_bytes}
use Rattle.comparison.proofs.Deciding.{Decides}
use Rattle.comparison.proofs.RunsOnLaws.{exceptions_of, held_service, given, held-named, held-runs}

-- no two have one name
abbrev pub Apart : List ServiceGiven → Type 0
Apart [] = Unit {0}
Apart (g ∷ gs) = (anyb (given g.name) gs ≡ false) × Apart gs

pub record WeekHeld (w : Week) (fs : List FillStep) : Type 0 where
  pub services : take w.service_count w.services ≡ map (held_service (dates_in w) fs) (services_in fs)
  pub short : (g : ServiceGiven) → Memᴰ g (services_in fs) → length g.name ≤ 32
  pub apart : Apart (services_in fs)
  -- an exception names a service
  pub orphan : (n : List ℕ) → anyb (given n) (services_in fs) ≡ false → exceptions_of n fs ≡ []
  pub three : is_dated w ≡ true → length (dates_in w) ≡ 3

-- ---- names

same-turned : (a b : List ℕ) → same_bytes_of a b ≡ false → same_bytes_of b a ≡ false
same-turned a b e = not-true (same_bytes_of b a)
    (λ q. true≢false (sym (ap (λ (x : List ℕ). same_bytes_of x b) (sym (bytes_same b a q)) ∙ same_bytes b) ∙ e))

one_name : (gs : List ServiceGiven) (g h : ServiceGiven) → Apart gs → Memᴰ g gs → Memᴰ h gs → g.name ≡ h.name → g ≡ h
one_name [] g h a m n e = absurd (Memᴰ.not-nil m)
one_name (x ∷ gs) g h (f, a) m n e = go (Memᴰ.cases_cons m) (Memᴰ.cases_cons n) (λ p q. one_name gs g h a p q e)
  where
    clash : (y z : ServiceGiven) → y ≡ x → Memᴰ z gs → z.name ≡ y.name → ⊥
    clash y z q m e = true≢false (sym (ap (λ (k : List ℕ). same_bytes_of k x.name) (e ∙ ap (λ (u : ServiceGiven). u.name) q)
        ∙ same_bytes x.name) ∙ anyb-not (given x.name) f m)

    go : (g ≡ x) ⊎ Memᴰ g gs → (h ≡ x) ⊎ Memᴰ h gs → (Memᴰ g gs → Memᴰ h gs → g ≡ h) → g ≡ h
    go (inl p) (inl q) ih = p ∙ sym q
    go (inl p) (inr q) ih = absurd (clash g h p q (sym e))
    go (inr p) (inl q) ih = absurd (clash h g q p e)
    go (inr p) (inr q) ih = ih p q

pub apart_snoc : (gs : List ServiceGiven) (new : ServiceGiven) → Apart gs → anyb (given new.name) gs ≡ false → Apart (gs ++ new ∷ [])
apart_snoc [] new a f = (refl, tt)
apart_snoc (g ∷ gs) new (h, a) f =
    let here : given g.name new ≡ false = same-turned g.name new.name (or-false-left (given new.name g) (anyb (given new.name) gs) f) in (
      anyb-append (given g.name) gs (new ∷ []) ∙ ap₂ (λ (x y : Bool). x || (y || false)) h here,
      apart_snoc gs new a (or-false-right (given new.name g) (anyb (given new.name) gs) f),
    )

module _ {w : Week} {fs : List FillStep} (v : WeekHeld w fs) where
  abbrev gs : List ServiceGiven
  gs = services_in fs

  abbrev held : ServiceGiven → Service
  held g = held_service (dates_in w) fs g

  -- a name is known to the week exactly if a service with it was taken
  pub known_is : (n : List ℕ) → anyb (named n) (take w.service_count w.services) ≡ anyb (given n) gs
  known_is n = ap (anyb (named n)) v.services ∙ anyb-map held (given n) (named n) gs (λ g m. held-named (dates_in w) fs n g (v.short g m))

  pub dec-named : (n : List ℕ) → Decides (anyb (named n) (take w.service_count w.services)) (Named fs n)
  dec-named n = (to, back)
    where
      to : anyb (named n) (take w.service_count w.services) ≡ true → Named fs n
      to e = let (g, m, q) = anyb-mem (given n) gs (sym (known_is n) ∙ e) in (g, m, bytes_same g.name n q)

      back : Named fs n → anyb (named n) (take w.service_count w.services) ≡ true
      back (g, m, e) = known_is n ∙ mem-anyb (given n) m (ap (λ (x : List ℕ). same_bytes_of x n) e ∙ same_bytes n)

  -- the service that the week finds
  pub found : (n : List ℕ) → anyb (named n) (take w.service_count w.services) ≡ true
      → (g : ServiceGiven) × Memᴰ g gs × (g.name ≡ n) × (service_in w n ≡ held g)
  found n e =
      let (g, m, q, is) = at gs (sym (ap (anyb (named n)) v.services) ∙ e) in
      let below = (place-below w.services w.service_count n e).0 in (
        g,
        m,
        bytes_same g.name n (sym (held-named (dates_in w) fs n g (v.short g m)) ∙ q),
        sym (get_or-take w.service_count w.services (place_in w n) blank_service below)
            ∙ ap (λ (l : List Service). get_or l (place_of (named n) l) blank_service) v.services ∙ is,
      )
    where
      at : (l : List ServiceGiven) → anyb (named n) (map held l) ≡ true
          → (g : ServiceGiven) × Memᴰ g l × (named n (held g) ≡ true)
          × (get_or (map held l) (place_of (named n) (map held l)) blank_service ≡ held g)
      at [] e = absurd (false≢true e)
      at (g ∷ l) e = go (named n (held g)) refl e (at l)
        where
          go : (b : Bool) → named n (held g) ≡ b → (b || anyb (named n) (map held l)) ≡ true
              → (anyb (named n) (map held l) ≡ true → (h : ServiceGiven) × Memᴰ h l × (named n (held h) ≡ true)
              × (get_or (map held l) (place_of (named n) (map held l)) blank_service ≡ held h))
              → (h : ServiceGiven) × Memᴰ h (g ∷ l) × (named n (held h) ≡ true)
              × (get_or (held g ∷ map held l) (cond b 0 (suc (place_of (named n) (map held l)))) blank_service ≡ held h)
          go true q e ih = (g, Memᴰ.head refl, q, refl)
          go false q e ih = let (h, m, t, is) = ih e in (h, Memᴰ.tail m, t, is)

  -- ---- what a call asks

  module _ (t : State) (taken : t.taken ≡ fs) (n : List ℕ) (day : ℕ) where
    -- with dates
    module _ (d : is_dated w ≡ true) (dates : t.dates ≡ Some (dates_in w)) where
      unknown-so : anyb (named n) (take w.service_count w.services) ≡ false → running w n day ≡ variants.Unknown
      unfolding running
      unknown-so e = cond-by _ _ d ∙ cond-not _ _ e

      known_so : anyb (named n) (take w.service_count w.services) ≡ true → (b : Bool)
          → runs_of (service_in w n) day (get_or (dates_in w) day 0) ≡ b
          → running w n day ≡ cond b variants.Runs variants.Rests
      unfolding running
      known_so e b q = cond-by _ _ d ∙ cond-by _ _ e ∙ ap (λ (x : Bool). cond x variants.Runs variants.Rests) q

      -- a service runs by the week exactly if it does by what was taken
      runs_so : day ≤ 2 → (e : anyb (named n) (take w.service_count w.services) ≡ true)
          → Decides (runs_of (service_in w n) day (get_or (dates_in w) day 0)) (Running t n day)
      runs_so h e = (to, back)
        where
          below : day < length (dates_in w)
          below = omega (arith, h, v.three d)

          to : runs_of (service_in w n) day (get_or (dates_in w) day 0) ≡ true → Running t n day
          to q =
              let (g, m, name, is) = found n e in
              let r = (held-runs (dates_in w) fs g day below).0
              (ap (λ (s : Service). runs_of s day (get_or (dates_in w) day 0)) (sym is) ∙ q) in (
                dates_in w,
                dates,
                (
                  g,
                  subst (λ (x : List FillStep). Memᴰ g (services_in x)) (sym taken) m,
                  name,
                  subst (λ (x : List FillStep). RunsOn x g (get_or (dates_in w) day 0)) (sym taken) r,
                ),
              )

          back : Running t n day → runs_of (service_in w n) day (get_or (dates_in w) day 0) ≡ true
          back (ds, de, (h, m, name, r)) =
              let (g, k, name', is) = found n e in
              let same : ds ≡ dates_in w = some-injective ds (dates_in w) (sym de ∙ dates) in
              let q : h ≡ g = one_name gs h g v.apart (subst (λ (x : List FillStep). Memᴰ h (services_in x)) taken m) k (name
              ∙ sym name') in
              let r' : RunsOn fs g (get_or (dates_in w) day 0) =
              subst (λ (x : List ℕ). RunsOn fs g (get_or x day 0)) same
              (subst (λ (y : ServiceGiven). RunsOn fs y (get_or ds day 0)) q
              (subst (λ (x : List FillStep). RunsOn x h (get_or ds day 0)) taken r)) in
              ap (λ (s : Service). runs_of s day (get_or (dates_in w) day 0)) is ∙ (held-runs (dates_in w) fs g day below).1 r'

some-in : (o : Option (List ℕ)) → is_some o ≡ true → o ≡ Some (unwrap_or o [])
some-in None e = absurd (false≢true e)
some-in (Some dates) e = refl

module _ {w : Week} {fs : List FillStep} (v : WeekHeld w fs) (t : State) (taken : t.taken ≡ fs) (dates : t.dates ≡ w.dates) (n : List ℕ)
    (day : ℕ) where
  with-dates : is_dated w ≡ true → t.dates ≡ Some (dates_in w)
  with-dates d = dates ∙ some-in w.dates d

  -- without dates nothing is asked
  no-dates : is_dated w ≡ false → (ds : List ℕ) → t.dates ≡ Some ds → ⊥
  no-dates d ds e = true≢false (sym (ap is_some (sym dates ∙ e)) ∙ d)

  undated-runs : is_dated w ≡ false → running w n day ≡ variants.Runs
  unfolding running
  undated-runs d = cond-not _ _ d

  -- what the week tells
  data Told : Type 0 where
    off : is_dated w ≡ false → Told
    none-such : is_dated w ≡ true → anyb (named n) (take w.service_count w.services) ≡ false → Told
    such : is_dated w ≡ true → anyb (named n) (take w.service_count w.services) ≡ true → (b : Bool)
        → runs_of (service_in w n) day (get_or (dates_in w) day 0) ≡ b → Told

  told : Told
  told = go (is_dated w) refl (anyb (named n) (take w.service_count w.services)) refl
    where
      go : (d : Bool) → is_dated w ≡ d → (k : Bool) → anyb (named n) (take w.service_count w.services) ≡ k → Told
      go false d k e = off d
      go true d false e = none-such d e
      go true d true e = such d e _ refl

  not_named : anyb (named n) (take w.service_count w.services) ≡ false → Named t.taken n → ⊥
  not_named e x = true≢false (sym ((dec-named v n).1 (subst (λ (y : List FillStep). Named y n) taken x)) ∙ e)

  is-named : anyb (named n) (take w.service_count w.services) ≡ true → Named t.taken n
  is-named e = subst (λ (y : List FillStep). Named y n) (sym taken) ((dec-named v n).0 e)

  unknown-either : (b : Bool) → is_unknown (cond b variants.Runs variants.Rests) ≡ false
  unknown-either true = refl
  unknown-either false = refl

  pub dec-unknown : Decides (is_unknown (running w n day)) (Unknown t n)
  dec-unknown = go told
    where
      go : Told → Decides (is_unknown (running w n day)) (Unknown t n)
      go (off d) = (λ e. absurd (false≢true (sym (ap is_unknown (undated-runs d)) ∙ e)), λ (ds, e, f). absurd (no-dates d ds e))
      go (none-such d e) = (
        λ q. (dates_in w, with-dates d, not_named e),
        λ x.
            ap is_unknown (unknown-so v t taken n day d (with-dates d) e),
      )
      go (such d e b q) = (
        λ x. absurd (false≢true (sym (ap is_unknown (known_so v t taken n day d (with-dates d) e b q) ∙ unknown-either b) ∙ x)),
        λ (ds, x, f). absurd (f (is-named e)),
      )

  pub dec-resting : day ≤ 2 → is_unknown (running w n day) ≡ false → Decides (is_resting (running w n day)) (Resting t n day)
  dec-resting h u = go told
    where
      go : Told → Decides (is_resting (running w n day)) (Resting t n day)
      go (off d) = (λ e. absurd (false≢true (sym (ap is_resting (undated-runs d)) ∙ e)), λ ((ds, e), f). absurd (no-dates d ds e))
      go (none-such d e) = absurd (true≢false (sym (ap is_unknown (unknown-so v t taken n day d (with-dates d) e)) ∙ u))
      go (such d e true q) = (
        λ x. absurd (false≢true (sym (ap is_resting (known_so v t taken n day d (with-dates d) e true q)) ∙ x)),
        λ (x, f). absurd (f ((runs_so v t taken n day d (with-dates d) h e).0 q)),
      )
      go (such d e false q) = (
        λ x. ((dates_in w, with-dates d), λ r. true≢false (sym ((runs_so v t taken n day d (with-dates d) h e).1 r) ∙ q)),
        λ x. ap is_resting (known_so v t taken n day d (with-dates d) e false q),
      )

  -- a service that runs by the week does by what was taken
  pub runs_by : is_dated w ≡ true → day ≤ 2 → running w n day ≡ variants.Runs → Running t n day
  runs_by d h r = go told
    where
      go : Told → Running t n day
      go (off e) = absurd (true≢false (sym d ∙ e))
      go (none-such e k) = absurd (true≢false (ap is_unknown (sym (unknown-so v t taken n day d (with-dates d) k) ∙ r)))
      go (such e k true q) = (runs_so v t taken n day d (with-dates d) h k).0 q
      go (such e k false q) = absurd (true≢false (ap is_resting (sym (known_so v t taken n day d (with-dates d) k false q) ∙ r)))
