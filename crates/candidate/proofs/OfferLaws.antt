-- What an offer leaves, as a state.
use mathlib.Core.Path.{◌≡◌, refl, sym, ap, ◌∙◌}
use mathlib.Core.Bool.{Bool, true, false, not}
use mathlib.Core.Logic.{◌≢◌}
use mathlib.Core.List.{List, [], ◌∷◌, ◌++◌}
use Prim.Native.Nat.{ℕ, suc, ◌+◌, ◌*◌, ◌-◌, ◌≤◌, ◌<◌, min}
use native.Mathlib.Omega.{arith}
use native.Mathlib.Numerals.{add-one}
use lib.Dec.{leb}
use borrow.Author.Tests.{le-leb, lt-leb, lt-ltb, le-ltb}
use lib.ListN.{length, get_or, set, take, length-set, length-take, length-append}
use lib.Seq.{get_or-set_same, get_or-set_other, take-suc-set, take_all, ext_get_or, get_or-take}
use Rattle.laws.specs.Lists.{filterb}
use Rattle.laws.proofs.Lists.{length-filterb-lt}
use Rattle.profile.specs.Found.{Row}
use Rattle.profile.specs.Figures.{covᶠ, dueᶠ}
use Rattle.profile.specs.Kept.{going, refused, latest, too_late}
use Rattle.profile.specs.Walk.{passes}
use Rattle.profile.specs.Journeys.{row_figures, cov, due, no_row}
use Rattle.search_state.specs.Layout.{slots, width, count_place, horizon_place, limits_place, refused_place, size}
use Rattle.search_state.specs.View.{row_at, rows, count_of, horizon_of, limits_of, kept_of, open_of, view}
use Rattle.candidate.specs.Offer.{offer_to, reads_to, OffersSearch, OffersLate}
use Rattle.candidate.specs.Pieces.{put_row, Tail, Ends, near_at, passing, uncovered, in_time, Packed, Open, latest_due, settled}
use Rattle.profile.proofs.KeptLaws.{latest-mem}
use Rattle.profile.proofs.WalkLaws.{walk-late, reads-late, walks-late}
use Rattle.profile.proofs.ClaimLaws.{walks-search}
use Rattle.candidate.proofs.PutLaws.{seen, put-long, put-tail, rows-put, rows-set}
use Rattle.search_state.proofs.RowLaws.{rows-length, rows_get}
use Rattle.search_state.proofs.ViewLaws.{count-is, few, length-kept, view-open, view-refused, view-is}

-- ---- what is to be settled

pub settled-fits : (l : List ℕ) (ks : List Row) → length ks ≤ 64 → settled l ks ≡ going ks (horizon_of l) (limits_of l)
unfolding settled
settled-fits l ks h = rw (le-leb (length ks) 64 h) refl

settled-refused : (l : List ℕ) → latest_due (rows l) < 3601 → settled l (rows l) ≡ refused
unfolding settled latest_due
settled-refused l h =
    rw (lt-leb (length (rows l)) 64 (omega (arith, rows-length l)), lt-ltb (latest due (rows l) - 1) 3600 (omega arith)) refl

settled-falls : (l : List ℕ) (h : ℕ) → 3600 ≤ h → latest_due (rows l) ≡ h + 1
    → settled l (rows l) ≡ going (filterb (in_time h) (rows l)) h 1
unfolding settled latest_due in_time
settled-falls l h lo e =
    let g : latest due (rows l) - 1 ≡ h = omega arith in
    rw (lt-leb (length (rows l)) 64 (omega (arith, rows-length l)), g, le-ltb h 3600 lo) refl

falls-short : (l : List ℕ) (h : ℕ) → latest_due (rows l) ≡ h + 1 → length (filterb (in_time h) (rows l)) < slots
unfolding latest_due in_time
falls-short l h e =
    let w = latest-mem due (rows l) (omega (arith, rows-length l)) in
    let lt = length-filterb-lt (λ k. leb (due k) h) w.1 (lt-leb (due w.0) h (omega (arith, w.2))) in
    omega (arith, lt, rows-length l)

settled_same : (l m : List ℕ) (ks : List Row) → Tail l m → settled m ks ≡ settled l ks
unfolding settled horizon_of limits_of
settled_same l m ks t = rw (t horizon_place (omega arith), t limits_place (omega arith)) refl

-- ---- slots are to be kept

pub refused_all : (l l' : List ℕ) (late : ℕ) → length l ≡ size → late ≡ latest_due (rows l) → late < 3601 → l' ≡ set l refused_place 1
    → view l' ≡ settled l (rows l)
refused_all l l' late long e h el =
    let mark : get_or l' refused_place 0 ≡ 1 =
    ap (λ (ys : List ℕ). get_or ys refused_place 0) el ∙ get_or-set_same l refused_place 1 0 (omega arith) in
    view-refused l' (λ z. omega arith) ∙ sym (settled-refused l (omega arith))

module _ (l m l' : List ℕ) (n h : ℕ) (mark : get_or l refused_place 0 ≡ 0) (lo : 3600 ≤ h) (late : latest_due (rows l) ≡ h + 1)
    (t : Packed (in_time h) l m slots n) (el : l' ≡ set (set (set m count_place n) horizon_place h) limits_place 1) where
  fallen-list : take n (rows m) ≡ filterb (in_time h) (rows l)
  fallen-list = t.list ∙ ap (filterb (in_time h)) (take_all slots (rows l) (omega (arith, rows-length l)))

  fallen-few : n ≤ 64
  fallen-few = omega (arith, falls-short l h late, ap length fallen-list, length-take n (rows m), rows-length m, t.small)

  fallen-rows : rows l' ≡ rows m
  fallen-rows =
      ap rows el ∙ rows-set (set (set m count_place n) horizon_place h) limits_place 1 (omega arith)
      ∙ rows-set (set m count_place n) horizon_place h (omega arith) ∙ rows-set m count_place n (omega arith)

  fallen₀ : get_or l' count_place 0 ≡ n
  fallen₀ =
      let a : ◌≢◌ {A = ℕ} count_place limits_place = λ e. omega arith in
      let b : ◌≢◌ {A = ℕ} count_place horizon_place = λ e. omega arith in
      ap (λ (ys : List ℕ). get_or ys count_place 0) el
      ∙ get_or-set_other (set (set m count_place n) horizon_place h) limits_place count_place 1 0 a
      ∙ get_or-set_other (set m count_place n) horizon_place count_place h 0 b
      ∙ get_or-set_same m count_place n 0 (omega (arith, t.long))

  fallen₁ : get_or l' horizon_place 0 ≡ h
  fallen₁ =
      let a : ◌≢◌ {A = ℕ} horizon_place limits_place = λ e. omega arith in
      ap (λ (ys : List ℕ). get_or ys horizon_place 0) el
      ∙ get_or-set_other (set (set m count_place n) horizon_place h) limits_place horizon_place 1 0 a
      ∙ get_or-set_same (set m count_place n) horizon_place h 0 (omega (arith, t.long, length-set m count_place n))

  fallen₂ : get_or l' limits_place 0 ≡ 1
  fallen₂ =
      ap (λ (ys : List ℕ). get_or ys limits_place 0) el
      ∙ get_or-set_same (set (set m count_place n) horizon_place h) limits_place 1 0
      (omega (arith, t.long, length-set m count_place n, length-set (set m count_place n) horizon_place h))

  fallen₃ : get_or l' refused_place 0 ≡ 0
  fallen₃ =
      let a : ◌≢◌ {A = ℕ} refused_place limits_place = λ e. omega arith in
      let b : ◌≢◌ {A = ℕ} refused_place horizon_place = λ e. omega arith in
      let d : ◌≢◌ {A = ℕ} refused_place count_place = λ e. omega arith in
      ap (λ (ys : List ℕ). get_or ys refused_place 0) el
      ∙ get_or-set_other (set (set m count_place n) horizon_place h) limits_place refused_place 1 0 a
      ∙ get_or-set_other (set m count_place n) horizon_place refused_place h 0 b
      ∙ get_or-set_other m count_place refused_place n 0 d ∙ t.tail refused_place (omega arith) ∙ mark

  pub fallen-all : view l' ≡ settled l (rows l)
  fallen-all =
      view-is l' n h 1 fallen₀ fallen-few fallen₁ fallen₂ (omega arith) fallen₃
      ∙ ap (λ (ks : List Row). going ks h 1) (ap (take n) fallen-rows ∙ fallen-list)
      ∙ sym (settled-falls l h lo late)

-- ---- one added

module _ (l m : List ℕ) (n : ℕ) (o : Row) (long : length l ≡ size) (mark : get_or l refused_place 0 ≡ 0) (em : m ≡ put_row l n o) where
  added-long : length m ≡ size
  added-long = ap length em ∙ put-long l n o ∙ long

  added-tail : n < slots → Tail l m
  added-tail h x b = ap (λ (ys : List ℕ). get_or ys x 0) em ∙ put-tail l n o long h x b

  added-take : n < slots → take (suc n) (rows m) ≡ take n (rows l) ++ o ∷ []
  added-take h =
      ap (λ (ys : List ℕ). take (suc n) (rows ys)) em ∙ ap (take (suc n)) (rows-put l n o long h)
      ∙ take-suc-set (rows l) n o (omega (arith, rows-length l))

  module _ (l' : List ℕ) (room : n < 64) (el : l' ≡ set m count_place (n + 1)) where
    room' : n < slots
    room' = omega arith

    added₀ : get_or l' count_place 0 ≡ n + 1
    added₀ = ap (λ (ys : List ℕ). get_or ys count_place 0) el ∙ get_or-set_same m count_place (n + 1) 0 (omega (arith, added-long))

    added-past : (x : ℕ) → count_place < x → get_or l' x 0 ≡ get_or l x 0
    added-past x h =
        let a : x ≢ count_place = λ e. omega arith in
        ap (λ (ys : List ℕ). get_or ys x 0) el ∙ get_or-set_other m count_place x (n + 1) 0 a ∙ added-tail room' x (omega arith)

    added-kept : kept_of l' ≡ take n (rows l) ++ o ∷ []
    unfolding kept_of
    added-kept =
        ap (λ (j : ℕ). take j (rows l')) (count-is l' (n + 1) added₀ (omega arith) ∙ add-one n)
        ∙ ap (take (suc n)) (ap rows el ∙ rows-set m count_place (n + 1) (omega arith)) ∙ added-take room'

    added-few : length (take n (rows l) ++ o ∷ []) ≤ 64
    added-few = omega (arith, length-append (take n (rows l)) (o ∷ []), length-take n (rows l))

    pub added-fits : view l' ≡ settled l (take n (rows l) ++ o ∷ [])
    unfolding horizon_of limits_of
    added-fits =
        view-open l' (added-past refused_place (omega arith) ∙ mark)
        ∙ rw (added-kept, added-past horizon_place (omega arith), added-past limits_place (omega arith))
        (sym (settled-fits l (take n (rows l) ++ o ∷ []) added-few))

  pub added-open : n ≤ 64 → Open m
  unfolding Open
  added-open h = added-tail (omega arith) refused_place (omega arith) ∙ mark

  pub added-too-many : (l' : List ℕ) → n ≤ 64 → 64 ≤ n → view l' ≡ settled m (rows m) → view l' ≡ settled l (take n (rows l) ++ o ∷ [])
  added-too-many l' le ge f =
      let h : n < slots = omega arith in
      let all : rows m ≡ take n (rows l) ++ o ∷ [] = sym (take_all (suc n) (rows m) (omega (arith, rows-length m))) ∙ added-take h in
      f ∙ settled_same l m (rows m) (added-tail h) ∙ ap (settled l) all

-- ---- the whole offer

pub offers-search : OffersSearch
unfolding offer_to
offers-search h g os = walks-search row_figures h g os

pub offers-late : OffersLate
unfolding offer_to
offers-late s os f = walks-late (covᶠ row_figures) (dueᶠ row_figures) 64 3600 s os f

-- the array l' is the state of the array l after the offer o, of which r kept ones were read
abbrev pub Done : List ℕ → List ℕ → Row → ℕ → Type 0
Done l l' o r = (view l' ≡ offer_to (view l) o) × (r ≡ reads_to (view l) o)

pub offered-late : (l : List ℕ) (o : Row) (b : Bool) → b ≡ too_late (view l) (due o) → b ≡ true → Done l l o 0
unfolding offer_to reads_to due
offered-late l o b e t = (
  sym (walk-late (covᶠ row_figures) (dueᶠ row_figures) 64 3600 (view l) o (sym e ∙ t)),
  sym
      (reads-late (covᶠ row_figures) (dueᶠ row_figures) 64 3600 (view l) o (sym e ∙ t)),
)

module _ (l : List ℕ) (o : Row) (open' : Open l) (early : due o ≤ horizon_of l) (c : ℕ) (b : Bool) (ec : c ≡ count_of l)
    (eb : b ≡ passing o (take c (rows l))) where
  passing_kept : b ≡ passing o (kept_of l)
  unfolding kept_of
  passing_kept = eb ∙ ap (λ (j : ℕ). passing o (take j (rows l))) ec

  pub offered-passed : (j : ℕ) → b ≡ true → j ≡ near_at o (take c (rows l)) → Done l l o (j + 1)
  unfolding offer_to reads_to passing near_at kept_of Open cov due
  offered-passed j t ej =
      let y : passes cov o (kept_of l) ≡ true = sym passing_kept ∙ t in
      let e : suc j ≡ suc (near_at o (kept_of l)) = ap suc (ej ∙ ap (λ (i : ℕ). near_at o (take i (rows l))) ec) in (
        rw (view-open l open', le-ltb (horizon_of l) (due o) early, y) refl,
        rw (view-open l open', le-ltb (horizon_of l) (due o) early, y)
            (add-one j ∙ e),
      )

  pub offered-added : (m l' : List ℕ) (n : ℕ) → b ≡ false → Packed (uncovered o) l m c n → view l' ≡ settled m (take n (rows m) ++ o ∷ [])
      → Done l l' o c
  unfolding offer_to reads_to passing Open uncovered settled kept_of cov due
  offered-added m l' n t w s =
      let y : passes cov o (kept_of l) ≡ false = sym passing_kept ∙ t in
      let ks : take n (rows m) ≡ filterb (λ k. not (cov o k)) (kept_of l) =
      w.list ∙ ap (λ (j : ℕ). filterb (λ k. not (cov o k)) (take j (rows l))) ec in (
        s ∙ settled_same l m (take n (rows m) ++ o ∷ []) w.tail ∙ ap (λ (zs : List Row). settled l (zs ++ o ∷ [])) ks
            ∙ sym (rw (view-open l open', le-ltb (horizon_of l) (due o) early, y) refl),
        ec ∙ sym (length-kept l) ∙ sym (rw (view-open l open', le-ltb (horizon_of l) (due o) early, y) refl),
      )

pub packed-open : (p : Row → Bool) (l m : List ℕ) (c n : ℕ) → Open l → Packed p l m c n → Open m
unfolding Open
packed-open p l m c n e w = w.tail refused_place (omega arith) ∙ e

-- ---- the end of the kept rows marked

module _ (l l' : List ℕ) (c v : ℕ) (long : length l ≡ size) (ec : c ≡ count_of l) (el : l' ≡ set l (c * width) v) where
  marked-past : (x : ℕ) → count_place ≤ x → get_or l' x 0 ≡ get_or l x 0
  marked-past x h =
      let n : x ≢ c * width = λ e. omega (arith, few l c ec) in
      ap (λ (ys : List ℕ). get_or ys x 0) el ∙ get_or-set_other l (c * width) x v 0 n

  marked_row : (k : ℕ) → k < c → row_at l' k ≡ row_at l k
  marked_row k h =
      ap (λ (ys : List ℕ). row_at ys k) el
      ∙ seen l (set l (c * width) v) k (λ y a b. let n : y ≢ c * width = λ e. omega arith in get_or-set_other l (c * width) y v 0 n)

  marked-rows : take c (rows l') ≡ take c (rows l)
  marked-rows =
      let n : length (take c (rows l')) ≡ c = omega (arith, length-take c (rows l'), rows-length l', few l c ec) in
      let m : length (take c (rows l)) ≡ c = omega (arith, length-take c (rows l), rows-length l, few l c ec) in
      ext_get_or no_row (take c (rows l')) (take c (rows l)) (n ∙ sym m) (λ k h.
      let b : k < c = omega (arith, n) in
      let b' : k < slots = omega (arith, few l c ec) in
      get_or-take c (rows l') k no_row b ∙ rows_get l' k b' ∙ marked_row k b ∙ sym (get_or-take c (rows l) k no_row b ∙ rows_get l k b'))

  pub marked-passing : (o : Row) (r : Bool) → r ≡ passing o (take c (rows l')) → r ≡ passing o (take c (rows l))
  marked-passing o r e = e ∙ ap (passing o) marked-rows

  pub marked-count : c ≡ count_of l'
  unfolding count_of
  marked-count = ec ∙ sym (ap (λ (x : ℕ). min x 64) (marked-past count_place (omega arith)))

  pub marked-open : Open l → Open l'
  unfolding Open
  marked-open o = marked-past refused_place (omega arith) ∙ o

  pub marked-horizon : horizon_of l' ≡ horizon_of l
  unfolding horizon_of
  marked-horizon = marked-past horizon_place (omega arith)

  pub marked-ends : (o : Row) → v ≡ o.leave → Ends l' c o
  unfolding Ends
  marked-ends o e = ap (λ (ys : List ℕ). get_or ys (c * width) 0) el ∙ get_or-set_same l (c * width) v 0 (omega (arith, few l c ec)) ∙ e

  marked-kept : kept_of l' ≡ kept_of l
  unfolding kept_of
  marked-kept = ap (λ (n : ℕ). take n (rows l')) (sym marked-count) ∙ marked-rows ∙ ap (λ (n : ℕ). take n (rows l)) ec

  pub marked-view : view l' ≡ view l
  unfolding view open_of horizon_of limits_of
  marked-view =
      rw (
        marked-kept,
        marked-past horizon_place (omega arith),
        marked-past limits_place (omega arith),
        marked-past refused_place
            (omega arith),
      ) refl
