-- The horizon falls only when a call inside the window meets a full table.
use Rattle.refusal.specs.declared.Accepted.TheVariants.{Taken, Outside}
use Rattle.std.specs.Prelude.{None, Option, Some, Err, Ok}
use Prim.Native.Nat.{ℕ, ◌≤◌}
use mathlib.Core.Path.{◌≡◌, refl, ap, subst, ◌∙◌, sym}
use mathlib.Core.Logic.{◌⊎◌, inl, inr}
use mathlib.Core.Bool.{cond, Bool, true, false, not}
use native.Mathlib.Omega.{arith}
use Rattle.settings.specs.declared.Settings.{Settings}
use Rattle.calls.specs.declared.Call.{Call}
use Rattle.calls.specs.declared.CallInput.{CallInput}
use Rattle.calls.specs.declared.Table.{Table}
use Rattle.calls.specs.Tried.{Tried}
use Rattle.refusal.specs.declared.Refusal.TheVariants.{AlreadySearched, FieldRange, TimesReversed, NoRoom}
use Rattle.calls.specs.Windows.{seen}
use Rattle.calls.specs.Tables.{cut, less}
use Rattle.refusal.specs.First.{first_answer, Answer}
use Rattle.calls.specs.Calls.{un_timed, reversed, known, call_tests, call_time, call_seen, call_fit, call_on, ended, goes_on_of}
use Rattle.calls.specs.Shown.{Meets, FallsOnlyFull, NeverRises, FullOnlyFull, OutsideSame}
use Rattle.calls.proofs.Fits.{Ends, stands, enters, turned, Keeps, ends}
use Rattle.calls.proofs.FitLaws.{outside}
use Rattle.calls.proofs.SoundLaws.{passed}
use Rattle.calls.proofs.ShownLaws.{window-seen}

-- a call that is seen at the full table t
record Met (a d : Option ℕ) (i : CallInput) (t : Table) : Type 0 where
  call : Call
  inside : seen t.horizon a d i ≡ Some call
  full : 512 ≤ t.count

-- what t has come to: itself, or something lower, for a call that met it full
record Came (a d : Option ℕ) (i : CallInput) (t u : Table) : Type 0 where
  how : (u ≡ t) ⊎ Met a d i t
  low : u.horizon ≤ t.horizon

lower : (h k : ℕ) → h ≤ k → less h ≤ k
lower h k e = omega arith

came-keeps : (a d : Option ℕ) (i : CallInput) (t : Table) → Keeps (Came a d i t) a d i
unfolding cut
came-keeps a d i t u c p e f l = record { how = inr (go p.how); low = lower u.horizon t.horizon p.low }
  where
    go : (u ≡ t) ⊎ Met a d i t → Met a d i t
    go (inl q) = subst (Met a d i) q (record { call = c; inside = e; full = f })
    go (inr m) = m

-- either nothing is lower, or the call met a full table; and never higher
record Lower (s : Settings) (t : Table) (i : CallInput) (h : ℕ) : Type 0 where
  why : (h ≡ t.horizon) ⊎ Meets s t i
  low : h ≤ t.horizon

came-ends : (s : Settings) (t : Table) (i : CallInput)
    → (let a = call_time s i i.arrival in let d = call_time s i i.departure in Ends (Came a d i t) a d i (call_fit s t i))
unfolding call_fit
came-ends s t i =
    let a = call_time s i i.arrival in
    let d = call_time s i i.departure in
    ends (Came a d i t) a d i (came-keeps a d i t) t (record { how = inl refl; low = omega arith })

module _ (s : Settings) (t : Table) (i : CallInput) (present : un_timed i ≡ false) where
  abbrev a : Option ℕ
  a = call_time s i i.arrival

  abbrev d : Option ℕ
  d = call_time s i i.departure

  met : Met a d i t → Meets s t i
  met x = record { call = x.call; inside = window-seen s t.horizon i present ∙ x.inside; full = x.full }

  why-of : (u : Table) → (u ≡ t) ⊎ Met a d i t → (u.horizon ≡ t.horizon) ⊎ Meets s t i
  why-of u (inl q) = inl (ap (λ (x : Table). x.horizon) q)
  why-of u (inr m) = inr (met m)

  ended-lower : (f : Tried) → Ends (Came a d i t) a d i f → Lower s t i (ended t f).table.horizon
  ended-lower _ (stands u p e) = record { why = why-of u p.how; low = p.low }
  ended-lower _ (enters u c p e h) = record { why = why-of u p.how; low = p.low }
  ended-lower _ (turned u c p e h m) = record { why = inl refl; low = omega arith }

  -- refused at a full table: the call met the first table full already
  ended-full : (f : Tried) → Ends (Came a d i t) a d i f → f.answer ≡ Err NoRoom → Meets s t i
  ended-full _ (stands u p e) q = let z : ◌≡◌ {A = ℕ} 0 1 = cc in absurd (omega arith)
  ended-full _ (enters u c p e h) q = let z : ◌≡◌ {A = ℕ} 0 1 = cc in absurd (omega arith)
  ended-full _ (turned u c p e h m) q = go p.how
    where
      go : (u ≡ t) ⊎ Met a d i t → Meets s t i
      go (inl r) = met (subst (Met a d i) r (record { call = c; inside = e; full = h }))
      go (inr x) = met x

call-lower : (s : Settings) (b : Bool) (n : ℕ) (t : Table) (i : CallInput) → Lower s t i (call_on s b n t i).table.horizon
unfolding call_on
call-lower s b n t i = go (first_answer (call_tests b n i)) refl
  where
    stays : Lower s t i t.horizon
    stays = record { why = inl refl; low = omega arith }

    go : (a : Answer) → first_answer (call_tests b n i) ≡ a → Lower s t i (goes_on_of s t i a).table.horizon
    go (Err w) e = stays
    go (Ok Outside) e = stays
    go (Ok Taken) e = ended-lower s t i (passed b n i e).present _ (came-ends s t i)

pub never-rises : NeverRises
never-rises s b n t i = (call-lower s b n t i).low

pub falls-only-full : FallsOnlyFull
falls-only-full s b n t i h = go (call-lower s b n t i).why
  where
    go : ((call_on s b n t i).table.horizon ≡ t.horizon) ⊎ Meets s t i → Meets s t i
    go (inl q) = absurd (omega arith)
    go (inr m) = m

-- the tests before the table never answer 11
tests-not-full : (b : Bool) (n : ℕ) (i : CallInput) → first_answer (call_tests b n i) ≡ Err NoRoom → ⊥
unfolding call_tests first_answer
tests-not-full b n i e = go b (not (known n i)) (un_timed i) (reversed i) e
  where
    go : (b1 b2 b3 b4 : Bool)
        → cond b1 (Err AlreadySearched) (cond b2 (Err FieldRange) (cond b3 (Ok Outside) (cond b4 (Err TimesReversed) (Ok Taken))))
        ≡ Err NoRoom → ⊥
    go true b2 b3 b4 q = let z : ◌≡◌ {A = ℕ} 0 1 = cc in omega arith
    go false true b3 b4 q = let z : ◌≡◌ {A = ℕ} 0 1 = cc in omega arith
    go false false true b4 q = let z : ◌≡◌ {A = ℕ} 0 1 = cc in omega arith
    go false false false true q = let z : ◌≡◌ {A = ℕ} 0 1 = cc in omega arith
    go false false false false q = let z : ◌≡◌ {A = ℕ} 0 1 = cc in omega arith

pub full-only-full : FullOnlyFull
unfolding call_on
full-only-full s b n t i h = go (first_answer (call_tests b n i)) refl h
  where
    go : (a : Answer) → first_answer (call_tests b n i) ≡ a → (goes_on_of s t i a).answer ≡ Err NoRoom → Meets s t i
    go (Err w) e q = absurd (tests-not-full b n i (e ∙ q))
    go (Ok Outside) e q = let z : ◌≡◌ {A = ℕ} 0 1 = cc in absurd (omega arith)
    go (Ok Taken) e q = ended-full s t i (passed b n i e).present _ (came-ends s t i) q

pub outside-same : OutsideSame
unfolding call_on call_fit
outside-same s b n t i o = go (first_answer (call_tests b n i)) refl
  where
    go : (a : Answer) → first_answer (call_tests b n i) ≡ a → (goes_on_of s t i a).table ≡ t
    go (Err w) e = refl
    go (Ok Outside) e = refl
    go (Ok Taken) e =
        let v : call_seen s t.horizon i ≡ None = sym (window-seen s t.horizon i (passed b n i e).present) ∙ o in
        ap (λ (f : Tried). (ended t f).table) (sym (outside (call_time s i i.arrival) (call_time s i i.departure) i t v))
