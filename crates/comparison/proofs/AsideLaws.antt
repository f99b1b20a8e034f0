-- Beside the calls: lists that give the same stops, rules, services and exceptions. A searched load holds what was taken with the calls
-- in order.
use Prim.Native.Nat.{ℕ}
use mathlib.Core.Path.{◌≡◌, refl, sym, ap, subst, ◌∙◌}
use mathlib.Core.Bool.{cond}
use mathlib.Core.List.Permᴰ
use mathlib.Core.List.{List, [], ◌∷◌, ◌++◌, map, Memᴰ, Permᴰ}
use Rattle.laws.specs.Lists.{anyb}
use Rattle.laws.proofs.Sort.{sort-perm}
use Rattle.services.specs.Exceptions.{Exception, after_all}
use Rattle.stops.specs.Texts.{same_bytes_of}
use Rattle.week.specs.declared.Week.{Week}
use Rattle.week.specs.Weeks.{dates_in, service_of}
use Rattle.settings.specs.declared.Settings.{Settings}
use Rattle.calls.specs.declared.CallInput.{CallInput}
use Rattle.rules.specs.declared.Rule.{Rule}
use Rattle.profile.specs.declared.Journey.{Journey}
use Rattle.load.specs.FillStep.{FillStep, stop, call, rule, service, exception}
use Rattle.steps.proofs.ShownLaws.{raw_earlier, raw_order}
use Rattle.comparison.specs.Taken.{StopGiven, ServiceGiven, stops_in, calls_in, rules_in, services_in, State, keeping}
use Rattle.comparison.specs.Places.{OnePlace}
use Rattle.comparison.specs.Admitted.{Feed, Admits}
use Rattle.comparison.specs.OfferOrder.{Offered}
use Rattle.comparison.specs.Feeds.{feed_of}
use Rattle.comparison.proofs.NthLaws.{calls-append, rules-append, stops-append, services-append}
use Rattle.comparison.proofs.RunsOnLaws.{exceptions_of, exceptions-append, held_service, given}
use Rattle.comparison.proofs.WeekLaws.{Apart, WeekHeld}
use Rattle.comparison.proofs.BagLaws.{handing, admits-perm, offered-perm}

pub record Beside (gs fs : List FillStep) : Type 0 where
  pub stops : stops_in gs ≡ stops_in fs
  pub rules : rules_in gs ≡ rules_in fs
  pub services : services_in gs ≡ services_in fs
  pub exceptions : (n : List ℕ) → exceptions_of n gs ≡ exceptions_of n fs

-- and the same calls, in any order
pub record Like (gs fs : List FillStep) : Type 0 where
  pub beside : Beside gs fs
  pub calls : Permᴰ (calls_in gs) (calls_in fs)

pub beside_same : (fs : List FillStep) → Beside fs fs
beside_same fs = record { stops = refl; rules = refl; services = refl; exceptions = λ n. refl }

pub beside_back : {gs fs : List FillStep} → Beside gs fs → Beside fs gs
beside_back b = record { stops = sym b.stops; rules = sym b.rules; services = sym b.services; exceptions = λ n. sym (b.exceptions n) }

pub beside-on : {hs gs fs : List FillStep} → Beside hs gs → Beside gs fs → Beside hs fs
beside-on a b = record {
  stops = a.stops ∙ b.stops;
  rules = a.rules ∙ b.rules;
  services = a.services ∙ b.services;
  exceptions = λ n. a.exceptions n ∙ b.exceptions n;
}

pub like-back : {gs fs : List FillStep} → Like gs fs → Like fs gs
like-back w = record { beside = beside_back w.beside; calls = Permᴰ.symm w.calls }

-- with the same behind both
pub beside-more : (gs fs xs : List FillStep) → Beside gs fs → Beside (gs ++ xs) (fs ++ xs)
beside-more gs fs xs b = record {
  stops = stops-append gs xs ∙ ap (λ (r : List StopGiven). r ++ stops_in xs) b.stops ∙ sym (stops-append fs xs);
  rules = rules-append gs xs ∙ ap (λ (r : List Rule). r ++ rules_in xs) b.rules ∙ sym (rules-append fs xs);
  services = services-append gs xs ∙ ap (λ (r : List ServiceGiven). r ++ services_in xs) b.services ∙ sym (services-append fs xs);
  exceptions = λ n. exceptions-append n gs xs ∙ ap (λ (r : List Exception). r ++ exceptions_of n xs) (b.exceptions n)
      ∙ sym (exceptions-append n fs xs);
}

pub like-more : (gs fs xs : List FillStep) → Like gs fs → Like (gs ++ xs) (fs ++ xs)
like-more gs fs xs w = record {
  beside = beside-more gs fs xs w.beside;
  calls = subst (λ (r : List CallInput). Permᴰ r (calls_in (fs ++ xs))) (sym (calls-append gs xs))
      (subst (λ (r : List CallInput). Permᴰ (calls_in gs ++ calls_in xs) r) (sym (calls-append fs xs))
      (Permᴰ.append_right (calls_in xs) w.calls));
}

-- a call less
pub beside-less : (before behind : List FillStep) (name : List ℕ) (i : CallInput)
    → Beside (before ++ behind) (before ++ call name i ∷ behind)
beside-less before behind name i = record {
  stops = stops-append before behind ∙ sym (stops-append before (call name i ∷ behind));
  rules = rules-append before behind ∙ sym (rules-append before (call name i ∷ behind));
  services = services-append before behind ∙ sym (services-append before (call name i ∷ behind));
  exceptions = λ n. exceptions-append n before behind ∙ sym (exceptions-append n before (call name i ∷ behind));
}

-- ---- the calls apart, and in order

abbrev others : List FillStep → List FillStep
others [] = []
others (stop id name parent i ∷ fs) = stop id name parent i ∷ others fs
others (call name i ∷ fs) = others fs
others (rule i ∷ fs) = rule i ∷ others fs
others (service name weekdays start end ∷ fs) = service name weekdays start end ∷ others fs
others (exception name date kind ∷ fs) = exception name date kind ∷ others fs

abbrev unnamed : List CallInput → List FillStep
unnamed [] = []
unnamed (i ∷ is) = call [] i ∷ unnamed is

abbrev pub apart : List FillStep → List FillStep
apart fs = others fs ++ unnamed (raw_order (calls_in fs))

module _ (is : List CallInput) where
  no-stops : (js : List CallInput) → stops_in (unnamed js) ≡ []
  no-stops [] = refl
  no-stops (j ∷ js) = no-stops js

  no-rules : (js : List CallInput) → rules_in (unnamed js) ≡ []
  no-rules [] = refl
  no-rules (j ∷ js) = no-rules js

  no-services : (js : List CallInput) → services_in (unnamed js) ≡ []
  no-services [] = refl
  no-services (j ∷ js) = no-services js

  no-exceptions : (n : List ℕ) (js : List CallInput) → exceptions_of n (unnamed js) ≡ []
  no-exceptions n [] = refl
  no-exceptions n (j ∷ js) = no-exceptions n js

  only_calls : (js : List CallInput) → calls_in (unnamed js) ≡ js
  only_calls [] = refl
  only_calls (j ∷ js) = ap {B = List CallInput} (λ r. j ∷ r) (only_calls js)

  stops-of : (fs : List FillStep) → stops_in (others fs ++ unnamed is) ≡ stops_in fs
  stops-of [] = no-stops is
  stops-of (stop id name parent i ∷ fs) = ap {B = List StopGiven} (λ r. record { id = id; name = name; parent = parent; input = i } ∷ r)
      (stops-of fs)
  stops-of (call name i ∷ fs) = stops-of fs
  stops-of (rule i ∷ fs) = stops-of fs
  stops-of (service name weekdays start end ∷ fs) = stops-of fs
  stops-of (exception name date kind ∷ fs) = stops-of fs

  rules-of : (fs : List FillStep) → rules_in (others fs ++ unnamed is) ≡ rules_in fs
  rules-of [] = no-rules is
  rules-of (stop id name parent i ∷ fs) = rules-of fs
  rules-of (call name i ∷ fs) = rules-of fs
  rules-of (rule i ∷ fs) = ap {B = List Rule} (λ r. i ∷ r) (rules-of fs)
  rules-of (service name weekdays start end ∷ fs) = rules-of fs
  rules-of (exception name date kind ∷ fs) = rules-of fs

  services-of : (fs : List FillStep) → services_in (others fs ++ unnamed is) ≡ services_in fs
  services-of [] = no-services is
  services-of (stop id name parent i ∷ fs) = services-of fs
  services-of (call name i ∷ fs) = services-of fs
  services-of (rule i ∷ fs) = services-of fs
  services-of (service name weekdays start end ∷ fs) =
      ap {B = List ServiceGiven} (λ r. record { name = name; weekdays = weekdays; start = start; end = end } ∷ r) (services-of fs)
  services-of (exception name date kind ∷ fs) = services-of fs

  exceptions-of : (n : List ℕ) (fs : List FillStep) → exceptions_of n (others fs ++ unnamed is) ≡ exceptions_of n fs
  exceptions-of n [] = no-exceptions n is
  exceptions-of n (stop id name parent i ∷ fs) = exceptions-of n fs
  exceptions-of n (call name i ∷ fs) = exceptions-of n fs
  exceptions-of n (rule i ∷ fs) = exceptions-of n fs
  exceptions-of n (service name weekdays start end ∷ fs) = exceptions-of n fs
  exceptions-of n (exception name date kind ∷ fs) =
      ap (λ (r : List Exception). cond (same_bytes_of n name) (record { date = date; kind = kind } ∷ r) r) (exceptions-of n fs)

  calls-of : (fs : List FillStep) → calls_in (others fs ++ unnamed is) ≡ is
  calls-of [] = only_calls is
  calls-of (stop id name parent i ∷ fs) = calls-of fs
  calls-of (call name i ∷ fs) = calls-of fs
  calls-of (rule i ∷ fs) = calls-of fs
  calls-of (service name weekdays start end ∷ fs) = calls-of fs
  calls-of (exception name date kind ∷ fs) = calls-of fs

pub apart-calls : (fs : List FillStep) → calls_in (apart fs) ≡ raw_order (calls_in fs)
apart-calls fs = calls-of (raw_order (calls_in fs)) fs

pub apart-like : (fs : List FillStep) → Like (apart fs) fs
apart-like fs =
    let is = raw_order (calls_in fs) in
    record {
      beside = record {
        stops = stops-of is fs;
        rules = rules-of is fs;
        services = services-of is fs;
        exceptions = λ n. exceptions-of is n fs;
      };
      calls = subst (λ (r : List CallInput). Permᴰ r (calls_in fs)) (sym (apart-calls fs)) (sort-perm raw_earlier (calls_in fs));
    }

-- ---- what hangs on what stands beside the calls

pub week-beside : (w : Week) (gs fs : List FillStep) → Beside gs fs → WeekHeld w fs → WeekHeld w gs
unfolding held_service
week-beside w gs fs b v = record {
  services = v.services ∙ sym (λ k. map (λ (g : ServiceGiven).
      after_all (dates_in w) (service_of g.name g.weekdays g.start g.end) (b.exceptions g.name k)) (b.services k));
  short = λ g m. v.short g (subst (Memᴰ g) b.services m);
  apart = subst Apart (sym b.services) v.apart;
  orphan = λ n e. b.exceptions n ∙ v.orphan n (ap (anyb (given n)) (sym b.services) ∙ e);
  three = v.three;
}

-- what is given to a search by gs is what fs gives, with the calls of gs
pub feed-beside : (s : Settings) (t : State) (gs fs : List FillStep) → Beside gs fs
    → feed_of s (keeping t gs) ≡ handing (feed_of s (keeping t fs)) (calls_in gs)
feed-beside s t gs fs b = λ k. record {
  settings = s;
  stops = b.stops k;
  rules = b.rules k;
  calls = calls_in gs;
  horizon = t.horizon;
  Place = OnePlace (b.stops k);
}

pub admits-like : (s : Settings) (t : State) (gs fs : List FillStep) → Like gs fs → (j : Journey) → Admits (feed_of s (keeping t gs)) j
    → Admits (feed_of s (keeping t fs)) j
admits-like s t gs fs w j a =
    admits-perm (feed_of s (keeping t fs)) (calls_in gs) (calls_in fs) w.calls j
    (subst (λ (F : Feed). Admits F j) (feed-beside s t gs fs w.beside) a)

pub offered-like : (s : Settings) (t : State) (gs fs : List FillStep) (os : List Journey) → Like gs fs
    → Offered (feed_of s (keeping t gs)) os → Offered (feed_of s (keeping t fs)) os
offered-like s t gs fs os w a =
    offered-perm (feed_of s (keeping t fs)) (calls_in gs) (calls_in fs) os w.calls
    (subst (λ (F : Feed). Offered F os) (feed-beside s t gs fs w.beside) a)
