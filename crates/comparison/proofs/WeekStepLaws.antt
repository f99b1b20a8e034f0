-- A service or an exception that is taken: the week holds it after that too.
use Prim.Native.Nat.{ℕ, suc, ◌+◌, ◌≤◌, ◌<◌}
use mathlib.Core.Path.{◌≡◌, refl, sym, ap, ap₂, subst, ◌∙◌}
use mathlib.Core.Logic.{◌⊎◌, inl, inr}
use mathlib.Core.Bool.{Bool, true, false, cond, ◌||◌, true≢false, false≢true}
use mathlib.Core.List.Memᴰ
use mathlib.Core.List.{List, [], ◌∷◌, ◌++◌, map, map-append, append-nil, Memᴰ}
use native.Mathlib.Omega.{arith}
use native.Mathlib.Numerals.{add-one}
use lib.ListN.{length, get_or, take, set}
use lib.Seq.{get_or-take, take-set-lt, take-suc-set}
use Rattle.laws.specs.Lists.{anyb}
use Rattle.laws.proofs.Bools.{or-false-left}
use Rattle.laws.proofs.Lists.{anyb-not, anyb-append}
use Rattle.services.specs.declared.Service.{Service}
use Rattle.services.specs.Exceptions.{Exception, days_on, excepted_of}
use Rattle.stops.specs.Texts.{same_bytes_of}
use Rattle.week.specs.declared.Week.{Week}
use Rattle.week.specs.Weeks.{is_dated, dates_in, blank_service, service_of, named, place_of, place_in, service_in, with_services}
use Rattle.week.specs.Sound.{WeekSound}
use Rattle.week.proofs.StepLaws.{place-below}
use Rattle.load.specs.FillStep.{FillStep, service, exception}
use Rattle.comparison.specs.Taken.{ServiceGiven, services_in}
use Rattle.comparison.proofs.NthLaws.{bytes_same, services-append}
use Rattle.comparison.proofs.RunsOnLaws.{exceptions_of, exceptions-append, held_service, given, held-named, held_same, held-excepted}
use Rattle.comparison.proofs.RunsOnLaws.{held_new}
use Rattle.comparison.proofs.WeekLaws.{Apart, WeekHeld, known_is, apart_snoc}

map_same : {A B : Type 0} (f h : A → B) (l : List A) → ((x : A) → Memᴰ x l → f x ≡ h x) → map f l ≡ map h l
map_same f h [] e = refl
map_same f h (x ∷ l) e = ap₂ (λ y (ys : List _). y ∷ ys) (e x (Memᴰ.head refl)) (map_same f h l (λ y m. e y (Memᴰ.tail m)))

pub opened-week : (w : Week) → w.service_count ≡ 0 → (is_dated w ≡ true → length (dates_in w) ≡ 3) → WeekHeld w []
opened-week w c th = record {
  services = ap (λ (k : ℕ). take k w.services) c;
  short = λ g m. absurd (Memᴰ.not-nil m);
  apart = tt;
  orphan = λ n e. refl;
  three = th;
}

-- the week holds the same of a list with one more that is no service and no exception
pub week-more : (w : Week) (fs : List FillStep) (x : FillStep) → services_in (x ∷ []) ≡ [] → ((n : List ℕ) → exceptions_of n (x ∷ []) ≡ [])
    → WeekHeld w fs → WeekHeld w (fs ++ x ∷ [])
week-more w fs x s e v =
    let same : services_in (fs ++ x ∷ []) ≡ services_in fs =
    services-append fs (x ∷ []) ∙ ap (λ (r : List ServiceGiven). services_in fs ++ r) s ∙ append-nil (services_in fs) in
    record {
      services = v.services ∙ map_same _ _ (services_in fs) (λ g m. sym (held_same (dates_in w) fs x g (e g.name)))
          ∙ ap (map (held_service (dates_in w) (fs ++ x ∷ []))) (sym same);
      short = λ g m. v.short g (subst (Memᴰ g) same m);
      apart = subst Apart (sym same) v.apart;
      orphan = λ n f. exceptions-append n fs (x ∷ [])
          ∙ ap₂ (λ (a b : List Exception). a ++ b) (v.orphan n (ap (anyb (given n)) (sym same) ∙ f)) (e n);
      three = v.three;
    }

-- a service that is taken
module _ (w : Week) (fs : List FillStep) (name : List ℕ) (weekdays start end : ℕ) (sound : WeekSound w) (v : WeekHeld w fs)
    (room : w.service_count < 64) (fits : length name ≤ 32) (new : anyb (named name) (take w.service_count w.services) ≡ false) where
  abbrev one : ServiceGiven
  one = record { name = name; weekdays = weekdays; start = start; end = end }

  abbrev x : FillStep
  x = service name weekdays start end

  unknown : anyb (given name) (services_in fs) ≡ false
  unknown = sym (known_is v name) ∙ new

  all : services_in (fs ++ x ∷ []) ≡ services_in fs ++ one ∷ []
  all = services-append fs (x ∷ [])

  none-for : exceptions_of name (fs ++ x ∷ []) ≡ []
  none-for = exceptions-append name fs (x ∷ []) ∙ ap (λ (a : List Exception). a ++ []) (v.orphan name unknown)

  pub week-service : WeekHeld (with_services w (set w.services w.service_count (service_of name weekdays start end))
      (w.service_count + 1)) (fs ++ x ∷ [])
  week-service = record {
    services =
        ap (λ (k : ℕ). take k (set w.services w.service_count (service_of name weekdays start end))) (add-one w.service_count)
        ∙ take-suc-set w.services w.service_count (service_of name weekdays start end) (omega (arith, sound.long, room))
        ∙ ap₂ (λ (a b : List Service). a ++ b)
        (v.services ∙ map_same _ _ (services_in fs) (λ g m. sym (held_same (dates_in w) fs x g refl)))
        (ap (λ (s : Service). s ∷ []) (sym (held_new (dates_in w) (fs ++ x ∷ []) one none-for)))
        ∙ sym (map-append (held_service (dates_in w) (fs ++ x ∷ [])) (services_in fs) (one ∷ []))
        ∙ ap (map (held_service (dates_in w) (fs ++ x ∷ []))) (sym all);
    short = λ g m. either g (Memᴰ.append_cases (services_in fs) (subst (Memᴰ g) all m));
    apart = subst Apart (sym all) (apart_snoc (services_in fs) one v.apart unknown);
    orphan = λ n f. exceptions-append n fs (x ∷ []) ∙ ap (λ (a : List Exception). a ++ [])
        (v.orphan n (or-false-left _ _ (sym (anyb-append (given n) (services_in fs) (one ∷ [])) ∙ ap (anyb (given n)) (sym all) ∙ f)));
    three = v.three;
  }
    where
      either : (g : ServiceGiven) → Memᴰ g (services_in fs) ⊎ Memᴰ g (one ∷ []) → length g.name ≤ 32
      either g (inl m) = v.short g m
      either g (inr m) = subst (λ (y : ServiceGiven). length y.name ≤ 32) (sym (Memᴰ.eq_of_singleton m)) fits

-- an exception that is taken
module _ (w : Week) (fs : List FillStep) (name : List ℕ) (date kind : ℕ) (v : WeekHeld w fs)
    (known : anyb (named name) (take w.service_count w.services) ≡ true) where
  abbrev y : FillStep
  y = exception name date kind

  abbrev before : ServiceGiven → Service
  before g = held_service (dates_in w) fs g

  abbrev after : ServiceGiven → Service
  after g = held_service (dates_in w) (fs ++ y ∷ []) g

  abbrev changed : Service → Service
  changed s = excepted_of s (days_on (dates_in w) date) kind

  other : (g : ServiceGiven) → given name g ≡ false → after g ≡ before g
  other g e = held_same (dates_in w) fs y g (ap (λ (b : Bool). cond b (record { date = date; kind = kind } ∷ []) []) e)

  -- the first of the name is the only one
  marks : (l : List ServiceGiven) → ((g : ServiceGiven) → Memᴰ g l → length g.name ≤ 32) → Apart l → anyb (named name) (map before l) ≡ true
      → set (map before l) (place_of (named name) (map before l))
      (changed (get_or (map before l) (place_of (named name) (map before l)) blank_service)) ≡ map after l
  marks [] short a e = absurd (false≢true e)
  marks (g ∷ l) short (f, a) e = go (named name (before g)) refl e (marks l (λ h m. short h (Memᴰ.tail m)) a)
    where
      same : named name (before g) ≡ given name g
      same = held-named (dates_in w) fs name g (short g (Memᴰ.head refl))

      go : (b : Bool) → named name (before g) ≡ b → (b || anyb (named name) (map before l)) ≡ true
          → (anyb (named name) (map before l) ≡ true
          → set (map before l) (place_of (named name) (map before l))
          (changed (get_or (map before l) (place_of (named name) (map before l)) blank_service)) ≡ map after l)
          → set (before g ∷ map before l) (cond b 0 (suc (place_of (named name) (map before l))))
          (changed (get_or (before g ∷ map before l) (cond b 0 (suc (place_of (named name) (map before l)))) blank_service))
          ≡ after g ∷ map after l
      go true q e ih =
          let hit : given name g ≡ true = sym same ∙ q in
          let rest : anyb (given name) l ≡ false = ap (λ (n : List ℕ). anyb (given n) l) (sym (bytes_same g.name name hit)) ∙ f in
          ap₂ (λ (s : Service) (ss : List Service). s ∷ ss) (sym (held-excepted (dates_in w) fs name date kind g hit))
          (map_same before after l (λ h m. sym (other h (anyb-not (given name) rest m))))
      go false q e ih = ap₂ (λ (s : Service) (ss : List Service). s ∷ ss) (sym (other g (sym same ∙ q))) (ih e)

  same-services : services_in (fs ++ y ∷ []) ≡ services_in fs
  same-services = services-append fs (y ∷ []) ∙ append-nil (services_in fs)

  pub week-exception : WeekHeld (with_services w (set w.services (place_in w name) (changed (service_in w name))) w.service_count)
      (fs ++ y ∷ [])
  week-exception =
      let below = (place-below w.services w.service_count name known).0 in
      let at : service_in w name ≡ get_or (map before (services_in fs))
      (place_of (named name) (map before (services_in fs))) blank_service =
      sym (get_or-take w.service_count w.services (place_in w name) blank_service below)
      ∙ ap (λ (l : List Service). get_or l (place_of (named name) l) blank_service) v.services in
      record {
        services =
            take-set-lt w.service_count w.services (place_in w name) (changed (service_in w name)) below
            ∙ ap (λ (l : List Service). set l (place_of (named name) l) (changed (service_in w name))) v.services
            ∙ ap (λ (s : Service). set (map before (services_in fs)) (place_of (named name) (map before (services_in fs))) (changed s)) at
            ∙ marks (services_in fs) v.short v.apart (sym (ap (anyb (named name)) v.services) ∙ known)
            ∙ ap (map after) (sym same-services);
        short = λ g m. v.short g (subst (Memᴰ g) same-services m);
        apart = subst Apart (sym same-services) v.apart;
        orphan = λ n f. exceptions-append n fs (y ∷ []) ∙ alone n (ap (anyb (given n)) (sym same-services) ∙ f);
        three = v.three;
      }
    where
      alone : (n : List ℕ) → anyb (given n) (services_in fs) ≡ false → exceptions_of n fs ++ exceptions_of n (y ∷ []) ≡ []
      alone n f = ap₂ (λ (a b : List Exception). a ++ b) (v.orphan n f) (go (same_bytes_of n name) refl)
        where
          go : (b : Bool) → same_bytes_of n name ≡ b → cond {A = List Exception} b (record { date = date; kind = kind } ∷ []) [] ≡ []
          go false q = refl
          go true q = absurd (true≢false (sym (sym (known_is v name) ∙ known)
              ∙ ap (λ (m : List ℕ). anyb (given m) (services_in fs)) (sym (bytes_same n name q)) ∙ f))
