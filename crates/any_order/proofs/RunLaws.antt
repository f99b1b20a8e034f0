-- Calls one after another: how many go in, when one meets 11 or a cut, what each is answered, and the load that they leave.
use Prim.Native.Nat.{ℕ, suc, ◌+◌, ◌≤◌, ◌<◌}
use mathlib.Core.Path.{◌≡◌, refl, sym, ap, subst, ◌∙◌}
use mathlib.Core.Bool.{Bool, true, false, cond, not, ◌||◌, true≢false}
use mathlib.Core.List.{List, [], ◌∷◌, ◌++◌, map, append_assoc, append-nil}
use native.Mathlib.Numerals.{add-one}
use native.Mathlib.Omega.{arith}
use lib.Dec.{ltb}
use borrow.Author.Tests.{ltb-true, ltb-false, lt-ltb, le-ltb}
use lib.ListN.{length, take, drop, set}
use lib.Seq.{take-suc-set, drop-set-lt}
use Rattle.laws.specs.Lists.{anyb, concat_map}
use Rattle.laws.proofs.Bools.{or-by, or-not, or-false-left, or-false-right}
use Rattle.refusal.specs.First.{is_refused, Answer}
use Rattle.calls.specs.declared.Call.{Call}
use Rattle.week.specs.Weeks.{closed_week}
use Rattle.load.specs.declared.Load.{Load}
use Rattle.load.specs.declared.StepResult.{StepResult}
use Rattle.load.specs.Load.{seen_of, remade}
use Rattle.load.specs.Steps.{closed_load}
use Rattle.load.specs.FillStep.{call}
use Rattle.load.specs.Sound.{Sound}
use Rattle.load.proofs.SoundLaws.{fill-keeps-sound}
use Rattle.any_order.specs.Calls.{Named, calling, called, answers, answer_first, cramps, cramped}
use Rattle.any_order.proofs.FateLaws.{Fate, sent, out, goes, fate, said, stored, left, fits, fate-left, cramps-full, step_is, cramps-not}

-- the call that goes in
abbrev pub into : Fate → List Call
into (sent r) = []
into out = []
into (goes k) = k ∷ []

-- the calls that go in, if there is room, as they are seen at l's horizon
unfoldable pub entering : Load → List Named → List Call
entering l cs = concat_map (λ (c : Named). into (fate l c)) cs

-- some call is answered
unfoldable pub answered : Load → List Named → Bool
answered l cs = anyb (λ (c : Named). not (is_refused (said (fate l c)))) cs

-- each call with what it is said
unfoldable told : Load → List Named → List (Named × Answer)
told l cs = map (λ (c : Named). (c, said (fate l c))) cs

-- ---- the first call and the rest

-- what a load leaves to the calls after it is what l leaves them
module _ (l : Load) (f : Fate) (cs : List Named) where
  entering-left : entering (left l f) cs ≡ entering l cs
  unfolding entering
  entering-left = λ k. concat_map (λ (c : Named). into (fate-left l f c k)) cs

  answered-left : answered (left l f) cs ≡ answered l cs
  unfolding answered
  answered-left = λ k. anyb (λ (c : Named). not (is_refused (said (fate-left l f c k)))) cs

  told-left : told (left l f) cs ≡ told l cs
  unfolding told
  told-left = λ k. map (λ (c : Named). (c, said (fate-left l f c k))) cs

-- a call for which there is room, and the load that it leaves
record Steps (l : Load) (c : Named) : Type 0 where
  is : calling l c ≡ record { answer = said (fate l c); load = left l (fate l c) }
  next : (calling l c).load ≡ left l (fate l c)
  sound : Sound (left l (fate l c))

steps : (l : Load) (c : Named) → Sound l → fits l.call_count (fate l c) ≡ true → Steps l c
steps l c s h =
    let e = step_is l c s h in
    let n : (calling l c).load ≡ left l (fate l c) = ap (λ (r : StepResult). r.load) e in
    record { is = e; next = n; sound = subst Sound n (fill-keeps-sound l (call c.0 c.1) s) }

-- a call that met neither 11 nor a cut found room
fitted : (l : Load) (c : Named) → Sound l → cramps l (calling l c) ≡ false → fits l.call_count (fate l c) ≡ true
fitted l c s e = go (fits l.call_count (fate l c)) refl
  where
    go : (b : Bool) → fits l.call_count (fate l c) ≡ b → fits l.call_count (fate l c) ≡ true
    go true h = h
    go false h = absurd (true≢false (sym (cramps-full l c s h) ∙ e))

-- ---- the proviso: one meets 11 or a cut exactly if more than 512 are to be stored

abbrev pub over : (l : Load) → List Named → Bool
over l cs = ltb 512 (l.call_count + length (entering l cs))

over_first : (l : Load) (c : Named) (cs : List Named) → fits l.call_count (fate l c) ≡ true → over (left l (fate l c)) cs ≡ over l (c ∷ cs)
unfolding entering
over_first l c cs h = go (fate l c)
  where
    go : (f : Fate) → over (left l f) cs ≡ ltb 512 (l.call_count + length (into f ++ entering l cs))
    go (sent r) = refl
    go out = ap (λ (ks : List Call). ltb 512 (l.call_count + length ks)) (entering-left l out cs)
    go (goes k) = (λ j. ltb 512 (l.call_count + 1 + length (entering-left l (goes k) cs j)))
        ∙ ap (ltb 512) (moved l.call_count (length (entering l cs)))
      where
        moved : (n m : ℕ) → n + 1 + m ≡ n + suc m
        moved n m = omega arith

over-full : (l : Load) (c : Named) (cs : List Named) → fits l.call_count (fate l c) ≡ false → over l (c ∷ cs) ≡ true
unfolding entering
over-full l c cs h = go (fate l c) h
  where
    go : (f : Fate) → fits l.call_count f ≡ false → ltb 512 (l.call_count + length (into f ++ entering l cs)) ≡ true
    go (sent r) q = absurd (true≢false q)
    go out q = absurd (true≢false q)
    go (goes k) q = let m = ltb-false l.call_count 512 q in lt-ltb 512 (l.call_count + suc (length (entering l cs))) (omega arith)

pub cramped-over : (cs : List Named) (l : Load) → Sound l → cramped l cs ≡ over l cs
unfolding entering
cramped-over [] l s = let few = s.table.few in sym (le-ltb 512 (l.call_count + 0) (omega arith))
cramped-over (c ∷ cs) l s = go (λ z. cramped-over cs (left l (fate l c)) z) (fits l.call_count (fate l c)) refl
  where
    go : (Sound (left l (fate l c)) → cramped (left l (fate l c)) cs ≡ over (left l (fate l c)) cs)
        → (b : Bool) → fits l.call_count (fate l c) ≡ b → (cramps l (calling l c) || cramped (calling l c).load cs) ≡ over l (c ∷ cs)
    go later true h =
        let w = steps l c s h in
        or-not (cramped (calling l c).load cs) (cramps-not l c s h) ∙ ap (λ (m : Load). cramped m cs) w.next ∙ later w.sound
        ∙ over_first l c cs h
    go later false h = or-by (cramped (calling l c).load cs) (cramps-full l c s h) ∙ sym (over-full l c cs h)

-- ---- the answers

told-are : (cs : List Named) (l : Load) → Sound l → cramped l cs ≡ false → answers l cs ≡ told l cs
unfolding told
told-are [] l s e = refl
told-are (c ∷ cs) l s e =
    let w = steps l c s (fitted l c s (or-false-left (cramps l (calling l c)) (cramped (calling l c).load cs) e)) in
    let r : cramped (left l (fate l c)) cs ≡ false =
    subst (λ (m : Load). cramped m cs ≡ false) w.next (or-false-right (cramps l (calling l c)) (cramped (calling l c).load cs) e) in
    (λ k. (c, (w.is k).answer) ∷ answers (w.next k) cs)
    ∙ ap (λ (xs : List (Named × Answer)). (c, said (fate l c)) ∷ xs)
    (told-are cs (left l (fate l c)) w.sound r ∙ told-left l (fate l c) cs)

-- as many as there is room for: each is answered as it is alone
firsts-are : (cs : List Named) (l : Load) → Sound l → l.call_count + length (entering l cs) ≤ 512 → map (answer_first l) cs ≡ told l cs
unfolding told entering
firsts-are [] l s h = refl
firsts-are (c ∷ cs) l s h = λ k. (c, (step_is l c s (room (fate l c) h) k).answer) ∷ firsts-are cs l s (fewer (fate l c) h) k
  where
    room : (f : Fate) → l.call_count + length (into f ++ entering l cs) ≤ 512 → fits l.call_count f ≡ true
    room (sent r) q = refl
    room out q = refl
    room (goes k) q = lt-ltb l.call_count 512 (omega arith)

    fewer : (f : Fate) → l.call_count + length (into f ++ entering l cs) ≤ 512 → l.call_count + length (entering l cs) ≤ 512
    fewer (sent r) q = q
    fewer out q = q
    fewer (goes k) q = omega arith

pub answered-alone : (cs : List Named) (l : Load) → Sound l → cramped l cs ≡ false → answers l cs ≡ map (answer_first l) cs
answered-alone cs l s e = told-are cs l s e ∙ sym (firsts-are cs l s (ltb-false _ _ (sym (cramped-over cs l s) ∙ e)))

-- ---- the load

-- l with this array of calls, of which n are taken, its services closed if b
abbrev pub made_of : Load → List Call → ℕ → Bool → Load
made_of l cs n b = remade l l.stops l.stop_count (record { calls = cs; count = n; horizon = l.table_horizon; limits = l.table_limits })
    l.rules l.rule_count (seen_of l) (cond b (closed_week l.week) l.week)

-- m is l with the calls ks after its own
pub record Grown (l : Load) (ks : List Call) (b : Bool) (m : Load) : Type 0 where
  pub is : m ≡ made_of l m.calls (l.call_count + length ks) b
  pub calls : take (l.call_count + length ks) m.calls ≡ take l.call_count l.calls ++ ks
  pub rest : drop (l.call_count + length ks) m.calls ≡ drop (l.call_count + length ks) l.calls

none-grown : (l : Load) → Grown l [] false l
none-grown l =
    let same : l.call_count ≡ l.call_count + 0 = omega arith in
    record {
      is = ap (λ (x : ℕ). made_of l l.calls x false) same;
      calls = ap (λ (x : ℕ). take x l.calls) (sym same) ∙ sym (append-nil (take l.call_count l.calls));
      rest = refl;
    }

-- services that are closed once are closed
closed-twice : (l : Load) (cs : List Call) (n : ℕ) (b : Bool) → made_of (closed_load l) cs n b ≡ made_of l cs n true
closed-twice l cs n true = refl
closed-twice l cs n false = refl

first-grown : (l : Load) (f : Fate) (ks : List Call) (b : Bool) (m : Load) → length l.calls ≡ 512 → fits l.call_count f ≡ true
    → Grown (left l f) ks b m
    → Grown l (into f ++ ks) (not (is_refused (said f)) || b) m
first-grown l (sent r) ks b m e h g = g
first-grown l out ks b m e h g = record { is = g.is ∙ closed-twice l m.calls (l.call_count + length ks) b; calls = g.calls; rest = g.rest }
first-grown l (goes k) ks b m e h g =
    let n = l.call_count in
    let low : n < length l.calls = omega (arith, ltb-true n 512 h) in
    let moved : n + 1 + length ks ≡ n + suc (length ks) = omega arith in
    let more : take (n + 1) (set l.calls n k) ≡ take n l.calls ++ (k ∷ []) =
    ap (λ (x : ℕ). take x (set l.calls n k)) (add-one n) ∙ take-suc-set l.calls n k low in
    record {
      is = g.is ∙ closed-twice (stored l k) m.calls (n + 1 + length ks) b ∙ ap (λ (x : ℕ). made_of l m.calls x true) moved;
      calls = ap (λ (x : ℕ). take x m.calls) (sym moved) ∙ g.calls ∙ ap (λ (xs : List Call). xs ++ ks) more
          ∙ append_assoc (take n l.calls) (k ∷ []) ks;
      rest = ap (λ (x : ℕ). drop x m.calls) (sym moved) ∙ g.rest ∙ drop-set-lt (n + 1 + length ks) l.calls n k (omega arith)
          ∙ ap (λ (x : ℕ). drop x l.calls) moved;
    }

pub grown : (cs : List Named) (l : Load) → Sound l → cramped l cs ≡ false → Grown l (entering l cs) (answered l cs) (called l cs)
unfolding entering answered
grown [] l s e = none-grown l
grown (c ∷ cs) l s e =
    let h = fitted l c s (or-false-left (cramps l (calling l c)) (cramped (calling l c).load cs) e) in
    let w = steps l c s h in
    let r : cramped (left l (fate l c)) cs ≡ false =
    subst (λ (m : Load). cramped m cs ≡ false) w.next (or-false-right (cramps l (calling l c)) (cramped (calling l c).load cs) e) in
    let g : Grown (left l (fate l c)) (entering l cs) (answered l cs) (called (calling l c).load cs) =
    subst (λ (m : Load). Grown (left l (fate l c)) (entering l cs) (answered l cs) (called m cs)) (sym w.next)
    (same (grown cs (left l (fate l c)) w.sound r)) in
    first-grown l (fate l c) (entering l cs) (answered l cs) _ s.table.long h g
  where
    same : {m : Load} → Grown (left l (fate l c)) (entering (left l (fate l c)) cs) (answered (left l (fate l c)) cs) m
        → Grown (left l (fate l c)) (entering l cs) (answered l cs) m
    same {m} g = subst (λ (ks : List Call). Grown (left l (fate l c)) ks (answered l cs) m) (entering-left l (fate l c) cs)
        (subst (λ (b : Bool). Grown (left l (fate l c)) (entering (left l (fate l c)) cs) b m) (answered-left l (fate l c) cs) g)
