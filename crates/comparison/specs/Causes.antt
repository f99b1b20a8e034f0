-- Why a step is sent back, as propositions over what was taken before and what is handed in, in the order of RULES 16.2:
-- opening 1, 2, with dates 20; stop 15, 3, 5, 6, 7, 8, 4; service 15, 3, 5, 20, 22; exception 15, 20, 21; rule 15, 9, 12, 13, 11;
-- call 9, 21, outside as its service doesn't run, outside as a time is lacking, 10, outside by the window, 11; of a call on a searched load
-- the same, where outside by the window is without a cut, then 14 and 11 of the search again, then outside after a cut;
-- withdrawal 9, 24, on a searched load then 14 and 11 of the search again; search 15, 14, 11; limited search 15, 1, 14, 11.
use Rattle.std.specs.Option.{unwrap_or}
use Rattle.refusal.specs.declared.Accepted.TheVariants.{Taken, Outside}
use Rattle.std.specs.Prelude.{◌≡◌, ◌⊎◌, Bool, true, false, ℕ, ◌≤◌, ◌<◌, ℤ, pos, negsuc, length, get_or, None, Some, Option, Err, Ok}
use mathlib.Core.List.{List, [], ◌∷◌, ◌++◌, Memᴰ}
use Rattle.refusal.specs.declared.Refusal.TheVariants.{SettingsRange, ClockRange}
use Rattle.refusal.specs.declared.Refusal.TheVariants.{IdLength, StopsFull, IdTaken, LocationType, ParentUnknown, NameUnusable}
use Rattle.refusal.specs.declared.Refusal.TheVariants.{FieldRange, TimesReversed, NoRoom, RuleType, PairTaken, Neighbours, AlreadySearched}
use Rattle.refusal.specs.declared.Refusal.TheVariants.{DateWrong, ServiceUnknown, ServicesFull, CallUnknown}
use Rattle.refusal.specs.First.{answer_number, Answer}
use Rattle.settings.specs.declared.Settings.{Settings}
use Rattle.place.specs.Positions.{is_usable}
use Rattle.stops.specs.declared.StopInput.{StopInput}
use Rattle.stops.specs.Answer.{unusable}
use Rattle.calls.specs.declared.CallInput.{CallInput}
use Rattle.calls.specs.declared.Call.{Call}
use Rattle.calls.specs.declared.CallKey.{CallKey}
use Rattle.rules.specs.declared.Rule.{Rule}
use Rattle.profile.specs.declared.Journey.{Journey}
use Rattle.load.specs.Steps.{Opening}
use Rattle.load.specs.FillStep.{stop, call, rule, service, exception}
use Rattle.steps.specs.Steps.{Step, filling, withdraw, search, limited}
use Rattle.comparison.specs.Taken.{StopGiven, stops_in, calls_in, rules_in, services_in, State, more, up_to}
use Rattle.comparison.specs.Services.{NoDate, Named, Unknown, Resting}
use Rattle.comparison.specs.Feeds.{feed_of}
use Rattle.comparison.specs.Window.{Seen}
use Rattle.comparison.specs.Withdrawal.{NoneSuch, Withdrawn}
use Rattle.comparison.specs.Horizon.{Fits}
use Rattle.comparison.specs.Neighbours.{Clashing}
use Rattle.comparison.specs.OfferOrder.{Offered}
use Rattle.comparison.specs.Events.{Within}
use Rattle.comparison.specs.Falls.{Falls, below}
use Rattle.stops.specs.Sizes.{stop_room, name_bytes}
use Rattle.texts.specs.Sizes.{id_bytes}
use Rattle.calls.specs.Sizes.{no_trip}
use Rattle.rules.specs.Sizes.{rule_room}
use Rattle.week.specs.Sizes.{service_room}

-- a cause, with its answer
pub record Cause : Type 1 where
  pub Holds : Type 0
  pub answer : Answer

abbrev pub cause : Type 0 → Answer → Cause
cause P a = record { Holds = P; answer = a }

-- the answer is that of the first cause that holds; taken where none does
abbrev pub First : Answer → List Cause → Type 0
First a [] = a ≡ Ok Taken
First a (c ∷ cs) = (c.Holds × (a ≡ c.answer)) ⊎ ((c.Holds → ⊥) × First a cs)

-- the causes by their numbers; 0 for outside
abbrev pub numbers_of : List Cause → List ℕ
numbers_of [] = []
numbers_of (c ∷ cs) = answer_number c.answer ∷ numbers_of cs

-- ---- settings

-- beyond 2^40 either way; `negsuc n` is −(n + 1)
abbrev pub Beyond : ℤ → Type 0
Beyond (pos n) = 1099511627776 < n
Beyond (negsuc n) = 1099511627776 ≤ n

-- with dates, 20: one of them isn't in the calendar
abbrev pub date_causes : Option (List ℕ) → List Cause
date_causes None = []
date_causes (Some dates) = cause ((d : ℕ) × Memᴰ d dates × NoDate d) (Err DateWrong) ∷ []

-- 1: more than 4 origins or targets, `max_transfers` above 2, a change time above 15300; 2: the start or an epoch beyond 2^40
abbrev pub opening_causes : Opening → List Cause
opening_causes o =
    let s = o.settings in
    cause (4 < s.origins ⊎ 4 < s.targets ⊎ 2 < s.max_transfers ⊎ 15300 < s.transfer_seconds) (Err SettingsRange)
    ∷ cause (Beyond s.now ⊎ ((day : ℕ) × (day ≤ 2) × Beyond (get_or s.epochs day (pos 0)))) (Err ClockRange)
    ∷ date_causes o.dates

-- ---- stop

-- a name is needed: type 0, no parent, a usable position (RULES 3.4)
pub record Needed (parent : Option (List ℕ)) (i : StopInput) : Type 0 where
  pub type_zero : i.location_type ≡ 0
  pub no_parent : parent ≡ None
  pub usable : is_usable i.degrees ≡ true

-- the parent's id is given, and is not that of a station taken
abbrev pub Orphan : List StopGiven → Option (List ℕ) → Type 0
Orphan stops parent =
    (p : List ℕ) × (parent ≡ Some p) × ((g : StopGiven) → Memᴰ g stops → g.id ≡ p → g.input.location_type ≡ 1 → ⊥)

-- a name is given, over 64 bytes
abbrev pub TooLong : Option (List ℕ) → Type 0
TooLong name = (t : List ℕ) × (name ≡ Some t) × (name_bytes < length t)

abbrev pub stop_causes : State → List ℕ → Option (List ℕ) → Option (List ℕ) → StopInput → List Cause
stop_causes t id name parent i =
    let stops = stops_in t.taken in
    cause (t.searched ≡ true) (Err AlreadySearched)
    ∷ cause (length id ≡ 0 ⊎ id_bytes < length id) (Err IdLength)
    ∷ cause ((g : StopGiven) × Memᴰ g stops × (g.id ≡ id)) (Err IdTaken)
    ∷ cause (1 < i.location_type ⊎ ((i.location_type ≡ 1) × (parent ≡ None → ⊥))) (Err LocationType)
    ∷ cause (Orphan stops parent) (Err ParentUnknown)
    ∷ cause (TooLong name ⊎ (Needed parent i × (unusable (unwrap_or name id) ≡ true))) (Err NameUnusable)
    ∷ cause (stop_room ≤ length stops) (Err StopsFull)
    ∷ []

-- ---- search

-- the horizon would fall below 3600, by what is offered
pub record Sinks (s : Settings) (t : State) : Type 0 where
  pub offers : List Journey
  pub offered : Offered (feed_of s t) offers
  pub falls : Falls [] t.horizon t.limits offers below

-- the same, by what is offered before a search within the limit n ends
pub record SinksWithin (s : Settings) (t : State) (n : ℕ) : Type 0 where
  pub offers : List Journey
  pub tested : ℕ
  pub finishes : Bool
  pub offered : Within (feed_of s t) n offers tested finishes
  pub falls : Falls [] t.horizon t.limits offers below

abbrev pub search_causes : Settings → State → List Cause
search_causes s t =
    cause (t.searched ≡ true) (Err AlreadySearched)
    ∷ cause (Clashing s t.horizon (calls_in t.taken)) (Err Neighbours)
    ∷ cause (Sinks s t) (Err NoRoom)
    ∷ []

-- of a limited search, which is refused with 1 where `max_transfers` is 2 (RULES 11.3)
abbrev pub limited_causes : Settings → State → ℕ → List Cause
limited_causes s t n =
    cause (t.searched ≡ true) (Err AlreadySearched)
    ∷ cause (1 < s.max_transfers) (Err SettingsRange)
    ∷ cause (Clashing s t.horizon (calls_in t.taken)) (Err Neighbours)
    ∷ cause (SinksWithin s t n) (Err NoRoom)
    ∷ []

-- by the limit that the load holds: a stopped load is searched again within that limit, any other in full (RULES 11.3)
abbrev pub SinksAs : Option ℕ → Settings → State → Type 0
SinksAs None s t = Sinks s t
SinksAs (Some n) s t = SinksWithin s t n

-- a step on a searched load leaves a state that is searched again, one of which `Brought` holds; if that search is refused, so is the
-- step: 14, 11 (RULES 10.1)
abbrev pub again_causes : Settings → (State → Type 0) → List Cause
again_causes s Brought =
    cause ((u : State) × Brought u × Clashing s u.horizon (calls_in u.taken)) (Err Neighbours)
    ∷ cause ((u : State) × Brought u × SinksAs u.stopped s u) (Err NoRoom)
    ∷ []

-- ---- call

-- arrival after departure, both given
pub record Reversed (i : CallInput) : Type 0 where
  pub a : ℕ
  pub d : ℕ
  pub arrives : i.arrival ≡ Some a
  pub departs : i.departure ≡ Some d
  pub after : d < a

-- the window and the cuts give the call the answer a
abbrev pub Fitting : Settings → State → CallInput → Answer → Type 0
Fitting s t i a = (h : ℕ) × (m : ℕ) × Fits s (calls_in t.taken) i t.horizon t.limits a h m

-- the call is outside with nothing cut
abbrev pub Unseen : Settings → State → CallInput → Type 0
Unseen s t i = (c : Call) → Seen s t.horizon i c → ⊥

-- what is searched again after a call on a searched load: what was taken and the call; or, of a call that is outside after a cut, what was
-- taken, at the horizon that the cut left
pub data Brings (s : Settings) (t : State) (name : List ℕ) (i : CallInput) : State → Type 0 where
  taken : {h m : ℕ} → Fits s (calls_in t.taken) i t.horizon t.limits (Ok Taken) h m → Brings s t name i (up_to (more t (call name i)) h m)
  cut : {h m : ℕ} → Fits s (calls_in t.taken) i t.horizon t.limits (Ok Outside) h m → Brings s t name i (up_to t h m)

-- before a search; and after it (`true`), where a call that is outside only after a cut is told so behind 14 and 11 of the search again
abbrev pub window_causes : Bool → Settings → State → List ℕ → CallInput → List Cause
window_causes false s t name i =
    cause (Fitting s t i (Ok Outside)) (Ok Outside)
    ∷ cause (Fitting s t i (Err NoRoom)) (Err NoRoom)
    ∷ []
window_causes true s t name i =
    cause (Unseen s t i) (Ok Outside)
    ∷ cause (Fitting s t i (Err NoRoom)) (Err NoRoom)
    ∷ again_causes s (Brings s t name i)
    ++ cause (Fitting s t i (Ok Outside)) (Ok Outside)
    ∷ []

-- what every call meets first: 9, 21, its service doesn't run, a time is lacking, 10
abbrev pub call_front : State → List ℕ → CallInput → List Cause → List Cause
call_front t name i rest =
    cause (length (stops_in t.taken) ≤ i.stop ⊎ no_trip ≤ i.trip ⊎ 2 < i.day ⊎ 3 < i.pickup ⊎ 3 < i.drop_off) (Err FieldRange)
    ∷ cause (Unknown t name) (Err ServiceUnknown)
    ∷ cause (Resting t name i.day) (Ok Outside)
    ∷ cause (i.arrival ≡ None ⊎ i.departure ≡ None) (Ok Outside)
    ∷ cause (Reversed i) (Err TimesReversed)
    ∷ rest

abbrev pub call_causes : Settings → State → List ℕ → CallInput → List Cause
call_causes s t name i = call_front t name i (window_causes t.searched s t name i)

-- ---- withdrawal

-- on a searched load 14 and 11 of the search again; this 14 is never met, since calls in order stay so when one goes
abbrev pub left_causes : Bool → Settings → State → CallKey → List Cause
left_causes false s t k = []
left_causes true s t k = again_causes s (Withdrawn s t k)

abbrev pub withdraw_causes : Settings → State → CallKey → List Cause
withdraw_causes s t k =
    cause (no_trip ≤ k.trip ⊎ 2 < k.day) (Err FieldRange)
    ∷ cause (NoneSuch s t.horizon k (calls_in t.taken)) (Err CallUnknown)
    ∷ left_causes t.searched s t k

-- ---- rule

abbrev pub rule_causes : State → Rule → List Cause
rule_causes t r =
    let stops = length (stops_in t.taken) in
    cause (t.searched ≡ true) (Err AlreadySearched)
    ∷ cause (stops ≤ r.from ⊎ stops ≤ r.to) (Err FieldRange)
    ∷ cause (3 < r.transfer_type ⊎ ((r.transfer_type ≡ 2) × (r.seconds ≡ None))) (Err RuleType)
    ∷ cause ((q : Rule) × Memᴰ q (rules_in t.taken) × (q.from ≡ r.from) × (q.to ≡ r.to)) (Err PairTaken)
    ∷ cause (rule_room ≤ length (rules_in t.taken)) (Err NoRoom)
    ∷ []

-- ---- service and exception

-- after the search or after an answered call, or on a load without dates
abbrev pub Late : State → Type 0
Late t = t.searched ≡ true ⊎ t.closed ≡ true

abbrev pub service_causes : State → List ℕ → ℕ → ℕ → List Cause
service_causes t name start end =
    cause (Late t) (Err AlreadySearched)
    ∷ cause (length name ≡ 0 ⊎ id_bytes < length name) (Err IdLength)
    ∷ cause (Named t.taken name) (Err IdTaken)
    ∷ cause (NoDate start ⊎ NoDate end) (Err DateWrong)
    ∷ cause (service_room ≤ length (services_in t.taken)) (Err ServicesFull)
    ∷ []

abbrev pub exception_causes : State → List ℕ → ℕ → ℕ → List Cause
exception_causes t name date kind =
    cause (Late t) (Err AlreadySearched)
    ∷ cause (NoDate date ⊎ ((kind ≡ 1 → ⊥) × (kind ≡ 2 → ⊥))) (Err DateWrong)
    ∷ cause (Named t.taken name → ⊥) (Err ServiceUnknown)
    ∷ []

-- ---- every step

abbrev pub causes_of : Settings → State → Step → List Cause
causes_of s t (filling (stop id name parent i)) = stop_causes t id name parent i
causes_of s t (filling (call name i)) = call_causes s t name i
causes_of s t (filling (rule r)) = rule_causes t r
causes_of s t (filling (service name weekdays start end)) = service_causes t name start end
causes_of s t (filling (exception name date kind)) = exception_causes t name date kind
causes_of s t (withdraw k) = withdraw_causes s t k
causes_of s t search = search_causes s t
causes_of s t (limited n) = limited_causes s t n
