-- What is claimed of a search's kept list, at 64 journeys and a least horizon of 3600, of anything that has the four figures.
use Rattle.std.specs.Prelude.{◌≡◌, ◌↔◌, true, false, cond, ℕ, suc, ◌≤◌, min, leb, ℤ, pos, length}
use mathlib.Core.List.{List, [], map, Memᴰ, Permᴰ}
use Rattle.laws.specs.Lists.{filterb, anyb, foldl}
use Rattle.profile.specs.Figures.{Figures, covers, covᶠ, dueᶠ}
use Rattle.profile.specs.Kept.{SearchState, going, offer, searched, too_late, map_st}
use Rattle.profile.specs.Walk.{place, Antichain, reads, walk}
use Rattle.profile.specs.Front.{beats, front}
use Rattle.profile.specs.Fall.{fall, keeping, Marked}
use Rattle.profile.specs.Best.{bestℤ, firstℤ, read_by, Covers, Ahead, Complete, Ordered, ordered, figures_at, numbered}
use Rattle.profile.specs.Sizes.{kept_room, least_horizon}

module _ {A : Type 0} (fig : A → Figures) where
  -- a search of the offers `os`, from the horizon h₀ and the mark l₀, ends with ks kept, the horizon h and the mark l
  abbrev pub Keeps : ℕ → ℕ → List A → List A → ℕ → ℕ → Type 0
  Keeps h₀ l₀ os ks h l = searched fig kept_room least_horizon h₀ l₀ os ≡ going ks h l

  -- what is kept is the unbeaten list, in offer order, the older of equals; there are at most 64, and the horizon is no later than it was
  abbrev pub KeptIsFront : Type 0
  KeptIsFront = (h₀ l₀ : ℕ) (os ks : List A) (h l : ℕ) → Keeps h₀ l₀ os ks h l
      → (ks ≡ front (covᶠ fig) (dueᶠ fig) h os) × (length ks ≤ kept_room) × (h ≤ h₀)

  -- each of the unbeaten list was offered, is due by the horizon, and is beaten by no offer
  abbrev pub FrontUnbeaten : Type 0
  FrontUnbeaten = (h : ℕ) (os : List A) (k : A) → Memᴰ k (front (covᶠ fig) (dueᶠ fig) h os)
      → Memᴰ k os × ((fig k).arrival ≤ h) × ((q : A) → Memᴰ q os → beats (covᶠ fig) q k ≡ false)

  -- every offer due by the horizon is equalled or beaten by a kept one
  abbrev pub KeptCovers : Type 0
  KeptCovers = (h₀ l₀ : ℕ) (os ks : List A) (h l : ℕ) → Keeps h₀ l₀ os ks h l → Covers fig h os ks

  -- an offer that a kept journey equals or beats beats none of those kept
  abbrev pub CoveredBeatsNone : Type 0
  CoveredBeatsNone = (h₀ l₀ : ℕ) (os ks : List A) (h l : ℕ) → Keeps h₀ l₀ os ks h l
      → (o k k' : A) → Memᴰ k ks → covers (fig k) (fig o) ≡ true → Memᴰ k' ks → beats (covᶠ fig) o k' ≡ false

  -- of the journeys that a search keeps none equals or beats another
  abbrev pub KeptAntichain : Type 0
  KeptAntichain = (h₀ l₀ : ℕ) (os ks : List A) (h l : ℕ) → Keeps h₀ l₀ os ks h l → Antichain (covᶠ fig) ks

  -- an offer that one of an antichain equals or beats beats none of it
  abbrev pub AntichainUnbeaten : Type 0
  AntichainUnbeaten = (ks : List A) → Antichain (covᶠ fig) ks
      → (o k k' : A) → Memᴰ k ks → covers (fig k) (fig o) ≡ true → Memᴰ k' ks → beats (covᶠ fig) o k' ≡ false

  -- on an antichain one walk leaves what judging and then dropping leave: list, order, horizon, mark, and a refusal
  abbrev pub OneWalk : Type 0
  OneWalk = (ks : List A) (h l : ℕ) (o : A) → Antichain (covᶠ fig) ks
      → walk (covᶠ fig) (dueᶠ fig) kept_room least_horizon (going ks h l) o
      ≡ offer (covᶠ fig) (dueᶠ fig) kept_room least_horizon (going ks h l) o

  -- the walks of any list of offers, from no journey, are a search
  abbrev pub WalksSearch : Type 0
  WalksSearch = (h₀ l₀ : ℕ) (os : List A)
      → foldl (walk (covᶠ fig) (dueᶠ fig) kept_room least_horizon) (going [] h₀ l₀) os ≡ searched fig kept_room least_horizon h₀ l₀ os

  -- on an antichain the walk reads one more than stand in front of the first that equals or beats the offer; all of it if none does
  abbrev pub ReadsByPlace : Type 0
  ReadsByPlace = (ks : List A) (o : A) → Antichain (covᶠ fig) ks
      → reads (covᶠ fig) o ks ≡ cond (anyb (λ k. covᶠ fig k o) ks) (suc (place (λ k. covᶠ fig k o) ks)) (length ks)

  -- the horizon and the mark come from the offers alone, and with them the whole state
  abbrev pub SearchIsFall : Type 0
  SearchIsFall = (h₀ l₀ : ℕ) (os : List A)
      → searched fig kept_room least_horizon h₀ l₀ os
      ≡ keeping (covᶠ fig) (dueᶠ fig) os (fall (covᶠ fig) (dueᶠ fig) kept_room least_horizon h₀ l₀ [] os)

  -- horizon and mark are as they were if and only if no beginning of the offers has a 65th unbeaten one
  abbrev pub FallsAtOneMore : Type 0
  FallsAtOneMore = (h₀ l₀ : ℕ) (os : List A)
      → Marked (covᶠ fig) (dueᶠ fig) kept_room h₀ l₀ os (searched fig kept_room least_horizon h₀ l₀ os)

  -- an offer that is too late leaves the state as it is; so do any number of them
  abbrev pub LatePassedOver : Type 0
  LatePassedOver = (s : SearchState A) (os : List A) → ((o : A) → Memᴰ o os → too_late s (fig o).arrival ≡ true)
      → foldl (offer (covᶠ fig) (dueᶠ fig) kept_room least_horizon) s os ≡ s

  -- what a search keeps stands for its offers up to its horizon, if none leaves after it arrives
  abbrev pub KeptComplete : Type 0
  KeptComplete = (h₀ l₀ : ℕ) (os ks : List A) (h l : ℕ) → Keeps h₀ l₀ os ks h l → Ahead fig os → Complete fig os ks h

  -- what is complete up to h is so up to an earlier w, without those due later
  abbrev pub CompleteCut : Type 0
  CompleteCut = (os ks : List A) (h w : ℕ) → w ≤ h → Complete fig os ks h → Complete fig os (filterb (λ k. leb (fig k).arrival w) ks) w

  -- two complete lists answer alike, at every second asked and up to the earlier horizon, exactly if their offers due by it cover each
  -- other. Each second up to that horizon is among those asked
  abbrev pub Alike : (ℤ → Type 0) → Type 0
  Alike Asked = (os os' ks ks' : List A) (h h' : ℕ) → ((n : ℕ) → n ≤ min h h' → Asked (pos n)) → Complete fig os ks h
      → Complete fig os' ks' h'
      → ((t : ℤ) → Asked t → read_by fig (min h h') (bestℤ fig ks h t) ≡ read_by fig (min h h') (bestℤ fig ks' h' t))
      ↔ (Covers fig (min h h') os os' × Covers fig (min h h') os' os)

  -- of every list in order, ties too, the first that leaves in time is the full read's answer, at every second
  abbrev pub BestInOrder : Type 0
  BestInOrder = (ks : List A) → Ordered fig ks → (h : ℕ) (z : ℤ) → firstℤ fig ks h z ≡ bestℤ fig ks h z

  -- and it stands in the same place
  abbrev pub PlaceInOrder : Type 0
  PlaceInOrder = (ks : List A) → Ordered fig ks → (h : ℕ) (z : ℤ)
      → firstℤ (figures_at fig) (numbered 0 ks) h z ≡ bestℤ (figures_at fig) (numbered 0 ks) h z

  -- a list put in order is in order, and has the same journeys
  abbrev pub PutInOrder : Type 0
  PutInOrder = (ks : List A) → Ordered fig (ordered fig ks) × Permᴰ (ordered fig ks) ks

  -- best of any list is the first that leaves in time, once the list is put in order
  abbrev pub OrderedBest : Type 0
  OrderedBest = (ks : List A) (h : ℕ) (z : ℤ) → firstℤ fig (ordered fig ks) h z ≡ bestℤ fig ks h z

  -- a complete list stays complete where it is put in order
  abbrev pub CompleteOrdered : Type 0
  CompleteOrdered = (os ks : List A) (h : ℕ) → Complete fig os ks h → Complete fig os (ordered fig ks) h

module _ {A B : Type 0} (f : A → B) (fig : A → Figures) (fig' : B → Figures) where
  -- a search of f of the offers keeps f of what a search of the offers keeps, where f leaves the figures of an offer as they are
  abbrev pub SearchMaps : Type 0
  SearchMaps = (h₀ l₀ : ℕ) (os : List A) → ((o : A) → Memᴰ o os → fig' (f o) ≡ fig o)
      → searched fig' kept_room least_horizon h₀ l₀ (map f os) ≡ map_st f (searched fig kept_room least_horizon h₀ l₀ os)

  -- f of a list in order is f of the list, put in order, where f leaves the figures as they are
  abbrev pub OrderedMaps : Type 0
  OrderedMaps = (ks : List A) → ((k : A) → Memᴰ k ks → fig' (f k) ≡ fig k) → map f (ordered fig ks) ≡ ordered fig' (map f ks)
