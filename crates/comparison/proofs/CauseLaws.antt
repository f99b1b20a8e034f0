-- The program's tests of a stop, a rule and an opening decide the causes, where the load holds what was taken.
use Rattle.std.specs.Option.{unwrap_or}
use Rattle.std.specs.Prelude.{None, Some, Option, is_some}
use Prim.Native.Nat.{ℕ, zero, suc, ◌+◌, ◌-◌, ◌≤◌, ◌<◌}
use mathlib.Core.Path.{◌≡◌, refl, sym, ap, subst, ◌∙◌}
use mathlib.Core.Logic.{◌⊎◌, inl, inr}
use mathlib.Core.Bool.{Bool, true, false, not, ◌&&◌, true≢false, false≢true, cond}
use mathlib.Core.List.Memᴰ
use mathlib.Core.List.{List, [], ◌∷◌, Memᴰ}
use native.Mathlib.Omega.{arith}
use lib.Dec.{leb, ltb, eqb}
use lib.IntN.{ℤ, pos, negsuc}
use lib.ListN.{length, take, get_or, length-take}
use lib.Seq.{get_or-take}
use borrow.Author.Tests.{eqb-true, eq-eqb}
use Rattle.laws.specs.Lists.{anyb}
use Rattle.laws.proofs.Bools.{not-true, and-true, and-true-left, and-true-right, of-not}
use Rattle.laws.proofs.Lists.{anyb-mem, mem-anyb}
use Rattle.laws.proofs.Options.{some-injective, none-ne-some, some-ne-none}
use Rattle.settings.specs.declared.Settings.{Settings}
use Rattle.settings.specs.Settings.{over_counts, near, all_near, settings_tests}
use Rattle.place.specs.Positions.{is_usable}
use Rattle.stops.specs.declared.Stop.{Stop}
use Rattle.stops.specs.declared.StopInput.{StopInput}
use Rattle.stops.specs.Texts.{same_bytes_of}
use Rattle.stops.specs.Stops.{id_of, type_fits, is_it, find_stop}
use Rattle.stops.specs.Answer.{station_of, id_wrong, is_known, type_wrong, name_needed, unusable, name_wrong, stop_tests}
use Rattle.stops.specs.Sound.{stop_at}
use Rattle.stops.specs.Taken.{blank_stop}
use Rattle.rules.specs.declared.Rule.{Rule}
use Rattle.rules.specs.Rules.{same_pair, type_right_of, rule_tests}
use Rattle.load.specs.declared.Load.{Load}
use Rattle.calendar.specs.Dates.{is_date}
use Rattle.calendar.proofs.Dates.{dated}
use Rattle.services.specs.Wrong.{no_date, dates_wrong}
use Rattle.load.specs.Steps.{Opening, date_tests, open_tests, station_in}
use Rattle.load.specs.FillStep.{FillStep}
use Rattle.comparison.specs.Taken.{StopGiven, stops_in, rules_in}
use Rattle.comparison.specs.Admitted.{Nth}
use Rattle.comparison.specs.Services.{NoDate}
use Rattle.comparison.specs.Causes.{Beyond, date_causes, opening_causes, Needed, Orphan, TooLong, stop_causes, rule_causes}
use Rattle.comparison.proofs.NthLaws.{nth-below, nth-one, bytes_same, same_bytes}
use Rattle.comparison.proofs.Deciding.{Decides, Matches, dec-ltb, dec-leb, dec-eqb, dec-not-ltb, dec-not-leb, dec-is, dec-none, dec-some}
use Rattle.comparison.proofs.Deciding.{dec-or, dec-and, dec-nand, dec-as}
use Rattle.stops.proofs.SoundLaws.{found}
use Rattle.comparison.proofs.StartLaws.{Start, state_at}

-- ---- settings

dec-far : (z : ℤ) → Decides (not (near z)) (Beyond z)
unfolding near
dec-far (pos n) = dec-not-leb n 1099511627776
dec-far (negsuc n) = dec-as (not (not (ltb 1099511627775 n) && true)) (λ l. omega arith) (λ l. omega arith)
    (twice (ltb 1099511627775 n) (dec-ltb 1099511627775 n))
  where
    twice : (b : Bool) → Decides b (1099511627775 < n) → Decides (not (not b && true)) (1099511627775 < n)
    twice true d = d
    twice false d = d

abbrev day : Settings → ℕ → ℤ
day s k = get_or s.epochs k (pos 0)

dec-clock : (s : Settings) → Decides (not (all_near s.now s.epochs)) (Beyond s.now ⊎ ((k : ℕ) × (k ≤ 2) × Beyond (day s k)))
unfolding all_near
dec-clock s =
    dec-nand (near s.now) _ (dec-far s.now)
    (dec-as (not (near (day s 0) && (near (day s 1) && near (day s 2)))) which back
    (dec-nand (near (day s 0)) _ (dec-far (day s 0)) (dec-nand (near (day s 1)) (near (day s 2)) (dec-far (day s 1)) (dec-far (day s 2)))))
  where
    which : Beyond (day s 0) ⊎ (Beyond (day s 1) ⊎ Beyond (day s 2)) → (k : ℕ) × (k ≤ 2) × Beyond (day s k)
    which (inl w) = (0, omega arith, w)
    which (inr (inl w)) = (1, omega arith, w)
    which (inr (inr w)) = (2, omega arith, w)

    back : (k : ℕ) × (k ≤ 2) × Beyond (day s k) → Beyond (day s 0) ⊎ (Beyond (day s 1) ⊎ Beyond (day s 2))
    back (zero, l, w) = inl w
    back (suc zero, l, w) = inr (inl w)
    back (suc (suc zero), l, w) = inr (inr w)
    back (suc (suc (suc k)), l, w) = absurd (omega arith)

-- dates
pub dec-date : (d : ℕ) → Decides (not (is_date d)) (NoDate d)
dec-date d = (
  λ e y m n w. true≢false (sym ((dated d).1 (y, m, n, w)) ∙ of-not (is_date d) e),
  λ f. ap not (not-true (is_date d) (λ e. let (y, m, n, w) = (dated d).0 e in f y m n w)),
)

dec-dates : (dates : List ℕ) → Decides (dates_wrong dates) ((d : ℕ) × Memᴰ d dates × NoDate d)
unfolding dates_wrong
dec-dates dates = (
  λ e. let (d, m, q) = anyb-mem no_date dates e in (d, m, (dec-date d).0 q),
  λ (d, m, q). mem-anyb no_date m ((dec-date d).1 q),
)

dates-match : (d : Option (List ℕ)) → Matches (date_tests d) (date_causes d)
dates-match None = tt
dates-match (Some dates) = (refl, dec-dates dates, λ a. tt)

pub opening-match : (o : Opening) → Matches (open_tests o) (opening_causes o)
unfolding settings_tests over_counts
opening-match o =
    let s = o.settings in (
      refl,
      dec-or (ltb 4 s.origins) _ (dec-ltb 4 s.origins) (dec-or (ltb 4 s.targets) _ (dec-ltb 4 s.targets)
          (dec-or (ltb 2 s.max_transfers) (ltb 15300 s.transfer_seconds) (dec-ltb 2 s.max_transfers) (dec-ltb 15300 s.transfer_seconds))),
      λ a. (refl, dec-clock s, λ b. dates-match o.dates),
    )

-- ---- stops by their ids

nth-mem : {A : Type 0} (l : List A) (n : ℕ) (x : A) → Nth l n x → Memᴰ x l
nth-mem [] n x w = absurd w
nth-mem (y ∷ l) zero x w = Memᴰ.head w
nth-mem (y ∷ l) (suc n) x w = Memᴰ.tail (nth-mem l n x w)

mem-nth : {A : Type 0} (l : List A) (x : A) → Memᴰ x l → (n : ℕ) × Nth l n x
mem-nth [] x m = absurd (Memᴰ.not-nil m)
mem-nth (y ∷ l) x m = go (Memᴰ.cases_cons m) (mem-nth l x)
  where
    go : (x ≡ y) ⊎ Memᴰ x l → (Memᴰ x l → (n : ℕ) × Nth l n x) → (n : ℕ) × Nth (y ∷ l) n x
    go (inl e) ih = (0, e)
    go (inr m) ih = let (n, w) = ih m in (suc n, w)

-- what is there is found
there : (p : Stop → Bool) (l : List Stop) (k m : ℕ) → m < length l → p (get_or l m blank_stop) ≡ true → is_some (find_stop p l k) ≡ true
there p [] k m h e = absurd (omega arith)
there p (s ∷ ss) k m h e = go (p s) refl m h e (λ j. there p ss (k + 1) j)
  where
    go : (b : Bool) → p s ≡ b → (j : ℕ) → j < suc (length ss) → p (get_or (s ∷ ss) j blank_stop) ≡ true
        → ((i : ℕ) → i < length ss → p (get_or ss i blank_stop) ≡ true → is_some (find_stop p ss (k + 1)) ≡ true)
        → is_some (cond b (Some k) (find_stop p ss (k + 1))) ≡ true
    go true q j l f ih = refl
    go false q zero l f ih = absurd (true≢false (sym f ∙ q))
    go false q (suc j) l f ih = ih j (omega arith) f

at-found : (f : Option ℕ) → is_some f ≡ true → (m : ℕ) × (f ≡ Some m)
at-found (Some m) e = (m, refl)
at-found None e = absurd (false≢true e)

module _ (s : Settings) (l : Load) (fs : List FillStep) (w : Start s l fs) where
  abbrev n : ℕ
  n = l.stop_count

  long : length (take n l.stops) ≡ n
  long = simp length-take (omega (arith, w.sound.stops.few, w.sound.stops.long))

  -- a stop, or a station, was taken with this id
  abbrev Known : Bool → List ℕ → Type 0
  Known station id = (g : StopGiven) × Memᴰ g (stops_in fs) × (g.id ≡ id) × (station ≡ true → g.input.location_type ≡ 1)

  fits_in : (b : Bool) (t : ℕ) → type_fits b t ≡ true → b ≡ true → t ≡ 1
  fits_in true t e q = eqb-true t 1 e
  fits_in false t e q = absurd (false≢true q)

  fits_out : (b : Bool) (t : ℕ) → (b ≡ true → t ≡ 1) → type_fits b t ≡ true
  fits_out true t f = eq-eqb t 1 (f refl)
  fits_out false t f = refl

  dec-known : (station : Bool) (id : List ℕ) → Decides (is_some (find_stop (is_it station id) (take n l.stops) 0)) (Known station id)
  unfolding stop_at
  dec-known b id = (fore, back)
    where
      fore : is_some (find_stop (is_it b id) (take n l.stops) 0) ≡ true → Known b id
      fore e =
          let (m, q) = at-found (find_stop (is_it b id) (take n l.stops) 0) e in
          let f = found (is_it b id) (take n l.stops) 0 m q in
          let h : m < n = omega (arith, f.1, long) in
          let z : m - 0 ≡ m = omega arith in
          let g : get_or (take n l.stops) (m - 0) blank_stop ≡ get_or l.stops m blank_stop =
          ap (λ (j : ℕ). get_or (take n l.stops) j blank_stop) z ∙ get_or-take n l.stops m blank_stop h in
          let v = w.held.each m h in
          let r : is_it b id (stop_at l.stops m) ≡ true = sym (ap (is_it b id) g) ∙ f.2 in
          let t = and-true-left (type_fits b (stop_at l.stops m).location_type) _ r in
          let y : same_bytes_of (id_of (stop_at l.stops m)) id ≡ true =
          and-true-right (type_fits b (stop_at l.stops m).location_type) _ r in (
            v.given,
            nth-mem (stops_in fs) m v.given v.at,
            sym v.id ∙ bytes_same _ _ y,
            λ c. sym v.kind
                ∙ fits_in b (stop_at l.stops m).location_type t c,
          )

      back : Known b id → is_some (find_stop (is_it b id) (take n l.stops) 0) ≡ true
      back (g, i, e, f) =
          let (k, v) = mem-nth (stops_in fs) g i in
          let h : k < n = omega (arith, nth-below (stops_in fs) k g v, w.held.stops) in
          let u = w.held.each k h in
          let q : u.given ≡ g = nth-one (stops_in fs) k u.given g u.at v in
          let t : type_fits b (stop_at l.stops k).location_type ≡ true =
          fits_out b (stop_at l.stops k).location_type (λ c. u.kind ∙ ap (λ (x : StopGiven). x.input.location_type) q ∙ f c) in
          let y : same_bytes_of (id_of (stop_at l.stops k)) id ≡ true =
          ap (λ (x : List ℕ). same_bytes_of x id) (u.id ∙ ap (λ (x : StopGiven). x.id) q ∙ e) ∙ same_bytes id in
          there (is_it b id) (take n l.stops) 0 k (omega (arith, long))
          (ap (is_it b id) (get_or-take n l.stops k blank_stop h) ∙ and-true _ _ t y)

  dec-id : (id : List ℕ) → Decides (is_known l.stops n id) ((g : StopGiven) × Memᴰ g (stops_in fs) × (g.id ≡ id))
  unfolding is_known
  dec-id id = dec-as (is_some (find_stop (is_it false id) (take n l.stops) 0)) (λ (g, m, e, f). (g, m, e))
      (λ (g, m, e). (g, m, e, λ q. absurd (false≢true q))) (dec-known false id)

  dec-parent : (parent : Option (List ℕ)) → Decides (is_some parent && not (is_some (station_of l.stops n parent)))
      (Orphan (stops_in fs) parent)
  unfolding station_of
  dec-parent None = (λ e. absurd (false≢true e), λ (p, e, f). absurd (none-ne-some p e))
  dec-parent (Some id) = (
    λ e. (id, refl, λ g m q t. true≢false (sym ((dec-known true id).1 (g, m, q, λ c. t)) ∙ of-not _ e)),
    λ (p, e, f). ap not (not-true _ (λ q. let (g, m, i, t) = (dec-known true id).0 q in f g m (i ∙ some-injective id p e) (t refl))),
  )

  dec-needed : (parent : Option (List ℕ)) (i : StopInput) → Decides (name_needed parent i) (Needed parent i)
  unfolding name_needed
  dec-needed parent i =
      dec-as (eqb i.location_type 0 && not (is_some parent) && is_usable i.degrees)
      (λ ((a, b), c). record { type_zero = a; no_parent = b; usable = c }) (λ v. ((v.type_zero, v.no_parent), v.usable))
      (dec-and (eqb i.location_type 0 && not (is_some parent)) _
      (dec-and (eqb i.location_type 0) (not (is_some parent)) (dec-eqb i.location_type 0) (dec-none parent))
      (dec-is (is_usable i.degrees)))

  dec-name : (name parent : Option (List ℕ)) (id : List ℕ) (i : StopInput)
      → Decides (name_wrong name (name_needed parent i) id) (TooLong name ⊎ (Needed parent i × (unusable (unwrap_or name id) ≡ true)))
  unfolding name_wrong
  dec-name (Some t) parent id i =
      dec-or (ltb 64 (length t)) _
      (dec-as (ltb 64 (length t)) (λ h. (t, refl, h)) (λ (u, e, h). subst (λ (x : List ℕ). 64 < length x) (sym (some-injective t u e)) h)
      (dec-ltb 64 (length t)))
      (dec-and (name_needed parent i) (unusable t) (dec-needed parent i) (dec-is (unusable t)))
  dec-name None parent id i =
      dec-as (name_needed parent i && unusable id) inr only
      (dec-and (name_needed parent i) (unusable id) (dec-needed parent i) (dec-is (unusable id)))
    where
      only : TooLong None ⊎ (Needed parent i × (unusable id ≡ true)) → Needed parent i × (unusable id ≡ true)
      only (inl (t, e, h)) = absurd (none-ne-some t e)
      only (inr w) = w

  pub stop-match : (id : List ℕ) (name parent : Option (List ℕ)) (i : StopInput)
      → Matches (stop_tests l.searched l.stops n (station_in l parent) id name parent i) (stop_causes (state_at l fs) id name parent i)
  unfolding stop_tests id_wrong type_wrong
  stop-match id name parent i = (
    refl,
    dec-is l.searched,
    λ a. (
      refl,
      dec-or (eqb (length id) 0) (ltb 32 (length id)) (dec-eqb (length id) 0) (dec-ltb 32 (length id)),
      λ b. (
        refl,
        dec-id id,
        λ c. (
          refl,
          dec-or (ltb 1 i.location_type) _ (dec-ltb 1 i.location_type)
              (dec-and (eqb i.location_type 1) (is_some parent) (dec-eqb i.location_type 1) (dec-some parent)),
          λ d. (
            refl,
            dec-parent parent,
            λ e. (
              refl,
              dec-name name parent id i,
              λ f. (refl, subst (λ (k : ℕ). Decides (leb 128 n) (128 ≤ k)) w.held.stops (dec-leb 128 n), λ g. tt),
            ),
          ),
        ),
      ),
    ),
  )

  -- ---- rules

  dec-pair : (i : Rule) → Decides (anyb (same_pair i.from i.to) (take l.rule_count l.rules))
      ((q : Rule) × Memᴰ q (rules_in fs) × (q.from ≡ i.from) × (q.to ≡ i.to))
  dec-pair i = subst (λ (rs : List Rule). Decides (anyb (same_pair i.from i.to) rs)
      ((q : Rule) × Memᴰ q (rules_in fs) × (q.from ≡ i.from) × (q.to ≡ i.to))) (sym w.held.rules) (fore, back)
    where
      fore : anyb (same_pair i.from i.to) (rules_in fs) ≡ true → (q : Rule) × Memᴰ q (rules_in fs) × (q.from ≡ i.from) × (q.to ≡ i.to)
      fore e =
          let (q, m, t) = anyb-mem (same_pair i.from i.to) (rules_in fs) e in
          (q, m, eqb-true q.from i.from (and-true-left _ _ t), eqb-true q.to i.to (and-true-right (eqb q.from i.from) _ t))

      back : (q : Rule) × Memᴰ q (rules_in fs) × (q.from ≡ i.from) × (q.to ≡ i.to) → anyb (same_pair i.from i.to) (rules_in fs) ≡ true
      back (q, m, a, b) = mem-anyb (same_pair i.from i.to) m (and-true _ _ (eq-eqb q.from i.from a) (eq-eqb q.to i.to b))

  dec-type : (k : ℕ) (t : Option ℕ) → Decides (not (type_right_of k t)) (3 < k ⊎ ((k ≡ 2) × (t ≡ None)))
  dec-type k (Some v) = dec-as (not (leb k 3)) inl only (dec-not-leb k 3)
    where
      only : 3 < k ⊎ ((k ≡ 2) × (Some v ≡ None)) → 3 < k
      only (inl h) = h
      only (inr (a, e)) = absurd (some-ne-none v e)
  dec-type k None = dec-as (not (not (eqb k 2) && leb k 3)) turn back
      (dec-nand (not (eqb k 2)) (leb k 3) (dec-as (not (not (eqb k 2))) (λ e. e) (λ e. e) (twice (eqb k 2) (dec-eqb k 2)))
      (dec-not-leb k 3))
    where
      twice : (b : Bool) → Decides b (k ≡ 2) → Decides (not (not b)) (k ≡ 2)
      twice true d = d
      twice false d = d

      turn : (k ≡ 2) ⊎ 3 < k → 3 < k ⊎ ((k ≡ 2) × (◌≡◌ {A = Option ℕ} None None))
      turn (inl e) = inr (e, refl)
      turn (inr h) = inl h

      back : 3 < k ⊎ ((k ≡ 2) × (◌≡◌ {A = Option ℕ} None None)) → (k ≡ 2) ⊎ 3 < k
      back (inl h) = inr h
      back (inr (e, q)) = inl e

  rule-count : l.rule_count ≡ length (rules_in fs)
  rule-count =
      let h : length (take l.rule_count l.rules) ≡ l.rule_count = simp length-take (omega (arith, w.sound.rules.few, w.sound.rules.long)) in
      sym h ∙ ap length w.held.rules

  pub rule-match : (i : Rule) → Matches (rule_tests l.searched n l.rules l.rule_count i) (rule_causes (state_at l fs) i)
  unfolding rule_tests
  rule-match i = (
    refl,
    dec-is l.searched,
    λ a. (
      refl,
      subst (λ (k : ℕ). Decides (not (ltb i.from n && ltb i.to n)) (k ≤ i.from ⊎ k ≤ i.to)) w.held.stops
          (dec-nand (ltb i.from n) (ltb i.to n) (dec-not-ltb i.from n) (dec-not-ltb i.to n)),
      λ b. (
        refl,
        dec-type i.transfer_type i.seconds,
        λ c. (
          refl,
          dec-pair i,
          λ d. (
            refl,
            subst (λ (k : ℕ). Decides (leb 128 l.rule_count) (128 ≤ k)) rule-count
                (dec-leb 128 l.rule_count),
            λ e. tt,
          ),
        ),
      ),
    ),
  )
