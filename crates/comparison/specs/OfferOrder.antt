-- The order of offers, as an order on the calls of two of them: by boarding call, origin and alighting call of the first ride; then its
-- direct journeys by target; then its journeys of two rides, by boarding call and alighting call of the second and by target. Journeys of
-- three rides follow all others, by first ride and origin, middle ride, last ride, target. RULES 8.5.
use Rattle.std.specs.Prelude.{◌≡◌, ◌⊎◌, ℕ, ◌<◌}
use mathlib.Core.List.{List, [], ◌∷◌, Memᴰ}
use Rattle.calls.specs.declared.Call.{Call}
use Rattle.profile.specs.declared.Journey.{Journey}
use Rattle.comparison.specs.Admitted.{Feed, Direct, Changing, Through}
use Rattle.comparison.specs.Neighbours.{CallBefore}

-- an offer of one, two or three rides: boarding call, origin, alighting call; boarding and alighting call of each further ride; target
pub data Offer : Type 0 where
  alone : Call → ℕ → Call → ℕ → Offer
  changing : Call → ℕ → Call → Call → Call → ℕ → Offer
  through : Call → ℕ → Call → Call → Call → Call → Call → ℕ → Offer

-- the first ride from b to a, from origin o, comes before that from b' to a', from o'; if they are one, what follows it decides: `Rest`
abbrev pub Sooner : Call → ℕ → Call → Call → ℕ → Call → Type 0 → Type 0
Sooner b o a b' o' a' Rest = CallBefore b b' ⊎ ((b ≡ b') × ((o < o') ⊎ ((o ≡ o') × (CallBefore a a' ⊎ ((a ≡ a') × Rest)))))

-- the same of a further ride, from c to d or from c' to d'
abbrev pub RideSooner : Call → Call → Call → Call → Type 0 → Type 0
RideSooner c d c' d' Rest = CallBefore c c' ⊎ ((c ≡ c') × (CallBefore d d' ⊎ ((d ≡ d') × Rest)))

-- the first offer comes before the second. After one first ride: two direct ones by target (k < k'), a direct one before one with a change
-- (`Unit`) and never after it (⊥), two with a change by their second rides, then by target. Those of three rides come after all others
abbrev pub Before : Offer → Offer → Type 0
Before (alone b o a k) (alone b' o' a' k') = Sooner b o a b' o' a' (k < k')
Before (alone b o a k) (changing b' o' a' c' d' k') = Sooner b o a b' o' a' (Unit {0})
Before (changing b o a c d k) (alone b' o' a' k') = Sooner b o a b' o' a' ⊥
Before (changing b o a c d k) (changing b' o' a' c' d' k') =
    Sooner b o a b' o' a' (RideSooner c d c' d' (k < k'))
Before (alone b o a k) (through b' o' a' c' d' e' g' k') = Unit {0}
Before (changing b o a c d k) (through b' o' a' c' d' e' g' k') = Unit {0}
Before (through b o a c d e g k) (alone b' o' a' k') = ⊥
Before (through b o a c d e g k) (changing b' o' a' c' d' k') = ⊥
Before (through b o a c d e g k) (through b' o' a' c' d' e' g' k') =
    Sooner b o a b' o' a' (RideSooner c d c' d' (RideSooner e g e' g' (k < k')))

-- each is before all after it
abbrev pub Ascending : List Offer → Type 0
Ascending [] = Unit {0}
Ascending (e ∷ es) = ((f : Offer) → Memᴰ f es → Before e f) × Ascending es

-- j is admitted, by the calls, origin and target of the offer
abbrev pub Gives : Feed → Offer → Journey → Type 0
Gives F (alone b o a k) j = (w : Direct F j) × (w.b ≡ b) × (w.a ≡ a) × (j.origin ≡ o) × (j.target ≡ k)
Gives F (changing b o a c d k) j =
    (w : Changing F j) × (w.b ≡ b) × (w.a ≡ a) × (w.c ≡ c) × (w.d ≡ d) × (j.origin ≡ o) × (j.target ≡ k)
Gives F (through b o a c d e g k) j =
    (w : Through F j) × (w.b ≡ b) × (w.a ≡ a) × (w.c ≡ c) × (w.d ≡ d) × (w.e ≡ e) × (w.g ≡ g) × (j.origin ≡ o) × (j.target ≡ k)

-- the offers of the first list give the journeys of the second, one by one
abbrev pub Each : Feed → List Offer → List Journey → Type 0
Each F [] [] = Unit {0}
Each F [] (j ∷ js) = ⊥
Each F (e ∷ es) [] = ⊥
Each F (e ∷ es) (j ∷ js) = Gives F e j × Each F es js

-- `os` are the journeys that a search offers: all that are admitted, in that order, each as often as calls, origin and target give it
pub record Offered (F : Feed) (os : List Journey) : Type 0 where
  pub offers : List Offer
  pub ascending : Ascending offers
  pub each : Each F offers os
  pub all : (e : Offer) (j : Journey) → Gives F e j → Memᴰ e offers
