-- The program's `window` shows a call exactly as the relation says.
use Rattle.std.specs.Prelude.{None, Option, Some, is_none}
use mathlib.Core.Path.{◌≡◌, refl, sym, ap, subst, ◌∙◌}
use mathlib.Core.Logic.{◌⊎◌, inl, inr, ◌↔◌}
use mathlib.Core.Bool.{Bool, true, false, not, cond, ◌&&◌, ◌||◌, true≢false, false≢true}
use mathlib.Core.List.{List, ◌∷◌}
use Prim.Native.Nat.{ℕ, ◌≤◌, ◌<◌}
use lib.Dec.{leb, eqb}
use lib.IntN.{ℤ, pos, negsuc}
use lib.ListN.{get_or}
use borrow.Author.Tests.{leb-true, leb-false, le-leb, lt-leb, ltb-false, le-ltb, eqb-true, eq-eqb, ne_eqb}
use Rattle.laws.proofs.Options.{some-injective}
use Rattle.laws.proofs.Bools.{and-true, and-true-left, and-true-right, or-true-cases, or-true-left, or_true_right, cond-by, cond-not}
use Rattle.laws.proofs.Bools.{of-not}
use Rattle.settings.specs.declared.Settings.{Settings}
use Rattle.settings.specs.Settings.{near}
use Rattle.calls.specs.declared.CallInput.{CallInput}
use Rattle.calls.specs.declared.Call.{Call}
use Rattle.calls.specs.Windows.{time_of, time_after, after, within, held, allowed, asked, seen_call, seen}
use Rattle.calls.specs.Calls.{un_timed, call_time, call_seen, window}
use Rattle.comparison.specs.Window.{time, NotBelow, NotAfter, In, Held, May, OnRequest, Seen, Shown, empty, one, pass}

-- ---- a time by cases

not-below : (z : ℤ) → is_none (time_of z) ≡ false → NotBelow z
not-below (pos n) e = tt
not-below (negsuc n) e = absurd (true≢false e)

below-not : (z : ℤ) → NotBelow z → is_none (time_of z) ≡ false
below-not (pos n) w = refl
below-not (negsuc n) w = absurd w

not_after : (h : ℕ) (z : ℤ) → after h (time_of z) ≡ false → NotAfter h z
not_after h (pos n) e = ltb-false h n e
not_after h (negsuc n) e = tt

after-not : (h : ℕ) (z : ℤ) → NotAfter h z → after h (time_of z) ≡ false
after-not h (pos n) w = le-ltb h n w
after-not h (negsuc n) w = refl

within_in : (h : ℕ) (z : ℤ) → within h (time_of z) ≡ true → In h z
within_in h (pos n) e = (tt, leb-true n h e)
within_in h (negsuc n) e = absurd (false≢true e)

in_within : (h : ℕ) (z : ℤ) → In h z → within h (time_of z) ≡ true
in_within h (pos n) w = le-leb n h w.1
in_within h (negsuc n) w = absurd w.0

is_held : (h : ℕ) (z : ℤ) → Held h z (held h (time_of z))
is_held h (negsuc n) = refl
is_held h (pos n) = go (leb n h) refl
  where
    go : (b : Bool) → leb n h ≡ b → ((n ≤ h) × (cond b n h ≡ n)) ⊎ ((h < n) × (cond b n h ≡ h))
    go true e = inl (leb-true n h e, refl)
    go false e = inr (leb-false n h e, refl)

held-is : (h : ℕ) (z : ℤ) (v : ℕ) → Held h z v → v ≡ held h (time_of z)
held-is h (negsuc n) v w = w
held-is h (pos n) v (inl (l, e)) = e ∙ sym (cond-by n h (le-leb n h l))
held-is h (pos n) v (inr (l, e)) = e ∙ sym (cond-not n h (lt-leb n h l))

-- ---- a mark

is-may : (h : ℕ) (z : ℤ) (kind : ℕ) → May h z kind (allowed (within h (time_of z)) kind)
is-may h z kind = (
  λ e. (
    within_in h z (and-true-left _ (not (eqb kind 1)) e),
    λ q.
        true≢false (sym (eq-eqb kind 1 q) ∙ of-not (eqb kind 1) (and-true-right (within h (time_of z)) _ e)),
  ),
  λ (i, n). and-true _ _ (in_within h z i) (ap not (ne_eqb kind 1 n)),
)

is-asked : (may : Bool) (kind : ℕ) → OnRequest may kind (asked may kind)
is-asked may kind = (
  λ e. (and-true-left may _ e, which (or-true-cases (eqb kind 2) (eqb kind 3) (and-true-right may _ e))),
  λ (m, k). and-true may _ m (back k),
)
  where
    which : (eqb kind 2 ≡ true) ⊎ (eqb kind 3 ≡ true) → (kind ≡ 2) ⊎ (kind ≡ 3)
    which (inl e) = inl (eqb-true kind 2 e)
    which (inr e) = inr (eqb-true kind 3 e)

    back : (kind ≡ 2) ⊎ (kind ≡ 3) → (eqb kind 2 || eqb kind 3) ≡ true
    back (inl e) = or-true-left _ _ (eq-eqb kind 2 e)
    back (inr e) = or_true_right (eqb kind 2) _ (eq-eqb kind 3 e)

-- a Bool is told by when it is true
pub bool_is : (x y : Bool) → (x ≡ true → y ≡ true) → (y ≡ true → x ≡ true) → x ≡ y
bool_is true y f g = sym (f refl)
bool_is false true f g = g refl
bool_is false false f g = refl

iff-is : {P : Type 0} (x y : Bool) → (x ≡ true) ↔ P → (y ≡ true) ↔ P → x ≡ y
iff-is x y f g = bool_is x y (λ e. g.1 (f.0 e)) (λ e. f.1 (g.0 e))

-- ---- the whole call

module _ (s : Settings) (h : ℕ) (i : CallInput) where
  -- the times are those that the window reads, where the clock is near
  abbrev Near : Type 0
  Near = (near (get_or s.epochs i.day (pos 0)) && near s.now) ≡ true

  time-near : Near → (n : ℕ) → time_after (get_or s.epochs i.day (pos 0)) s.now n ≡ time_of (time s i.day n)
  unfolding time_after
  time-near e n = cond-by _ _ e

  -- a call that is seen: the clock is near, and both times are given
  module _ (a d : ℕ) (ea : i.arrival ≡ Some a) (ed : i.departure ≡ Some d) (e : Near) where
    ta : call_time s i i.arrival ≡ time_of (time s i.day a)
    ta = ap (call_time s i) ea ∙ time-near e a

    td : call_time s i i.departure ≡ time_of (time s i.day d)
    td = ap (call_time s i) ed ∙ time-near e d

    timed : un_timed i ≡ false
    timed = rw (ea, ed)

    window-is : window s h i ≡ seen h (time_of (time s i.day a)) (time_of (time s i.day d)) i
    unfolding window
    window-is = cond-not None (call_seen s h i) timed ∙ (λ k. seen h (ta k) (td k) i)

    abbrev za : Option ℕ
    za = time_of (time s i.day a)

    abbrev zd : Option ℕ
    zd = time_of (time s i.day d)

    call-seen : is_none zd ≡ false → after h za ≡ false → Seen s h i (seen_call h za zd i)
    unfolding seen_call
    call-seen p q = record {
      a = a;
      d = d;
      arrives = ea;
      departs = ed;
      not_gone = not-below (time s i.day d) p;
      not_late = not_after h (time s i.day a) q;
      trip = refl;
      day = refl;
      sequence = refl;
      stop = refl;
      arrival = is_held h (time s i.day a);
      departure = is_held h (time s i.day d);
      board = is-may h (time s i.day d) i.pickup;
      alight = is-may h (time s i.day a) i.drop_off;
      board_asked = is-asked (allowed (within h zd) i.pickup) i.pickup;
      alight_asked = is-asked (allowed (within h za) i.drop_off) i.drop_off;
    }

    pub shown-seen : (c : Call) → window s h i ≡ Some c → Seen s h i c
    unfolding seen
    shown-seen c w = go (is_none zd) refl (after h za) refl (sym window-is ∙ w)
      where
        go : (x : Bool) → is_none zd ≡ x → (y : Bool) → after h za ≡ y → cond (x || y) None (Some (seen_call h za zd i)) ≡ Some c
            → Seen s h i c
        go true p y q v = absurd (cc)
        go false p true q v = absurd (cc)
        go false p false q v = let e : seen_call h za zd i ≡ c = cc in subst (Seen s h i) e (call-seen p q)

    -- two calls that are seen so are one
    seen-made : (c : Call) (w : Seen s h i c) → w.a ≡ a → w.d ≡ d → c ≡ seen_call h za zd i
    unfolding seen_call
    seen-made c w qa qd =
        let arr : c.arrival ≡ held h za = held-is h (time s i.day w.a) c.arrival w.arrival
        ∙ ap (λ (n : ℕ). held h (time_of (time s i.day n))) qa in
        let dep : c.departure ≡ held h zd = held-is h (time s i.day w.d) c.departure w.departure
        ∙ ap (λ (n : ℕ). held h (time_of (time s i.day n))) qd in
        let brd : c.board ≡ allowed (within h zd) i.pickup =
        iff-is c.board (allowed (within h zd) i.pickup) (subst (λ (n : ℕ). May h (time s i.day n) i.pickup c.board) qd w.board)
        (is-may h (time s i.day d) i.pickup) in
        let alt : c.alight ≡ allowed (within h za) i.drop_off =
        iff-is c.alight (allowed (within h za) i.drop_off) (subst (λ (n : ℕ). May h (time s i.day n) i.drop_off c.alight) qa w.alight)
        (is-may h (time s i.day a) i.drop_off) in
        let bra : c.board_request ≡ asked (allowed (within h zd) i.pickup) i.pickup =
        iff-is c.board_request (asked c.board i.pickup) w.board_asked (is-asked c.board i.pickup)
        ∙ ap (λ (b : Bool). asked b i.pickup) brd in
        let ala : c.alight_request ≡ asked (allowed (within h za) i.drop_off) i.drop_off =
        iff-is c.alight_request (asked c.alight i.drop_off) w.alight_asked (is-asked c.alight i.drop_off)
        ∙ ap (λ (b : Bool). asked b i.drop_off) alt in
        λ k. record {
          trip = w.trip k;
          day = w.day k;
          sequence = w.sequence k;
          stop = w.stop k;
          arrival = arr k;
          departure = dep k;
          board = brd k;
          alight = alt k;
          board_request = bra k;
          alight_request = ala k;
        }

    made-shown : (c : Call) → NotBelow (time s i.day d) → NotAfter h (time s i.day a) → c ≡ seen_call h za zd i → window s h i ≡ Some c
    unfolding seen
    made-shown c p q e = window-is ∙ rw (below-not (time s i.day d) p, after-not h (time s i.day a) q) (ap Some (sym e))

  -- what is seen so, the window shows, where the clock is near
  pub seen-shown : Near → (c : Call) → Seen s h i c → window s h i ≡ Some c
  seen-shown e c w = made-shown w.a w.d w.arrives w.departs e c w.not_gone w.not_late
      (seen-made w.a w.d w.arrives w.departs e c w refl refl)

  -- the window shows nothing where a time is absent or the clock far
  out-in : (c : Call) → None ≡ Some c → ⊥
  out-in c e = cc

  far-out : (near (get_or s.epochs i.day (pos 0)) && near s.now) ≡ false → window s h i ≡ None
  unfolding window seen time_after
  far-out e = rw e (either (un_timed i))
    where
      either : (b : Bool) → cond {A = Option Call} b None None ≡ None
      either true = refl
      either false = refl

  untimed-out : un_timed i ≡ true → window s h i ≡ None
  unfolding window
  untimed-out e = cond-by None (call_seen s h i) e

  by-times : (x y : Option ℕ) → i.arrival ≡ x → i.departure ≡ y → Near → (c : Call) → window s h i ≡ Some c → Seen s h i c
  by-times (Some a) (Some d) p q e c w = shown-seen a d p q e c w
  by-times (Some a) None p q e c w = let u : un_timed i ≡ true = rw (p, q) in absurd (out-in c (sym (untimed-out u) ∙ w))
  by-times None (Some d) p q e c w = let u : un_timed i ≡ true = rw p in absurd (out-in c (sym (untimed-out u) ∙ w))
  by-times None None p q e c w = let u : un_timed i ≡ true = rw p in absurd (out-in c (sym (untimed-out u) ∙ w))

  pub window-seen : (c : Call) → window s h i ≡ Some c → Seen s h i c
  window-seen c w = go (near (get_or s.epochs i.day (pos 0)) && near s.now) refl
    where
      go : (b : Bool) → (near (get_or s.epochs i.day (pos 0)) && near s.now) ≡ b → Seen s h i c
      go true e = by-times i.arrival i.departure refl refl e c w
      go false e = absurd (out-in c (sym (far-out e) ∙ w))

-- a call is seen in one way, and the calls of a list too
pub one_seen : (s : Settings) (h : ℕ) (i : CallInput) (c c' : Call) → Seen s h i c → Seen s h i c' → c ≡ c'
one_seen s h i c c' w w' =
    let qa : w'.a ≡ w.a = some-injective w'.a w.a (sym w'.arrives ∙ w.arrives) in
    let qd : w'.d ≡ w.d = some-injective w'.d w.d (sym w'.departs ∙ w.departs) in
    let za : ℤ = time s i.day w.a in
    let zd : ℤ = time s i.day w.d in
    let arr : c.arrival ≡ c'.arrival = held-is h za c.arrival w.arrival
    ∙ sym (held-is h za c'.arrival (subst (λ (n : ℕ). Held h (time s i.day n) c'.arrival) qa w'.arrival)) in
    let dep : c.departure ≡ c'.departure = held-is h zd c.departure w.departure
    ∙ sym (held-is h zd c'.departure (subst (λ (n : ℕ). Held h (time s i.day n) c'.departure) qd w'.departure)) in
    let brd : c.board ≡ c'.board = iff-is c.board c'.board w.board
    (subst (λ (n : ℕ). May h (time s i.day n) i.pickup c'.board) qd w'.board) in
    let alt : c.alight ≡ c'.alight = iff-is c.alight c'.alight w.alight
    (subst (λ (n : ℕ). May h (time s i.day n) i.drop_off c'.alight) qa w'.alight) in
    let bra : c.board_request ≡ c'.board_request =
    iff-is c.board_request c'.board_request w.board_asked
    (subst (λ (b : Bool). OnRequest b i.pickup c'.board_request) (sym brd) w'.board_asked) in
    let ala : c.alight_request ≡ c'.alight_request =
    iff-is c.alight_request c'.alight_request w.alight_asked
    (subst (λ (b : Bool). OnRequest b i.drop_off c'.alight_request) (sym alt) w'.alight_asked) in
    λ k. record {
      trip = (w.trip ∙ sym w'.trip) k;
      day = (w.day ∙ sym w'.day) k;
      sequence = (w.sequence ∙ sym w'.sequence) k;
      stop = (w.stop ∙ sym w'.stop) k;
      arrival = arr k;
      departure = dep k;
      board = brd k;
      alight = alt k;
      board_request = bra k;
      alight_request = ala k;
    }

pub one-shown : (s : Settings) (h : ℕ) (is : List CallInput) (cs ds : List Call) → Shown s h is cs → Shown s h is ds → cs ≡ ds
one-shown s h _ _ _ empty empty = refl
one-shown s h _ _ _ (one {i = i} {is = is} {c = c} v w) (one {c = d} v' w') = λ k. one_seen s h i c d v v' k ∷ one-shown s h is _ _ w w' k
one-shown s h _ _ _ (one {c = c} v w) (pass f w') = absurd (f c v)
one-shown s h _ _ _ (pass f w) (one {c = c} v w') = absurd (f c v)
one-shown s h _ _ _ (pass {is = is} f w) (pass f' w') = one-shown s h is _ _ w w'
