-- A call put into the table: a law for each way on, and that a cut and a new try are the same try.
use Rattle.refusal.specs.declared.Accepted.TheVariants.{Taken, Outside}
use Rattle.std.specs.Prelude.{None, Option, Some, Err, Ok}
use Prim.Native.Nat.{ℕ, zero, suc, ◌<◌, ◌≤◌}
use mathlib.Core.Path.{◌≡◌, refl, sym, ap, ◌∙◌}
use mathlib.Core.Bool.{cond, Bool, true, false}
use native.Mathlib.Omega.{arith}
use lib.Dec.{ltb}
use borrow.Author.Tests.{lt-ltb, le-ltb, ltb-false}
use Rattle.calls.specs.declared.Call.{Call}
use Rattle.calls.specs.declared.CallInput.{CallInput}
use Rattle.calls.specs.declared.Table.{Table}
use Rattle.calls.specs.Tried.{Tried}
use Rattle.refusal.specs.declared.Refusal.TheVariants.{NoRoom}
use Rattle.calls.specs.Windows.{seen}
use Rattle.calls.specs.Tables.{cut, less, put, entered, fitted_in, fitted}

pub falls : (h n : ℕ) → h ≤ suc n → 3600 ≤ less h → less h ≤ n
falls h n p q = omega arith

pub shrinks : (h : ℕ) → 3600 ≤ less h → less h < h
shrinks h q = omega arith

pub spent : (h : ℕ) → h ≤ 0 → less h < 3600
spent h p = omega arith

module _ (a d : Option ℕ) (i : CallInput) where
  abbrev full : Table → Tried
  full t = record { answer = Err NoRoom; table = t }

  abbrev view : Table → Option Call
  view t = seen t.horizon a d i

  -- as many cuts as the horizon has seconds are enough
  pub enough : (n m : ℕ) (t : Table) → t.horizon ≤ n → t.horizon ≤ m → fitted_in n t a d i ≡ fitted_in m t a d i
  unfolding cut
  enough zero zero t p q = refl
  enough zero (suc m) t p q =
      ap (λ (b : Bool). entered t (view t) (cond b (full t) (fitted_in m (cut (less t.horizon) t) a d i)))
      (sym (lt-ltb (less t.horizon) 3600 (spent t.horizon p)))
  enough (suc n) zero t p q =
      ap (λ (b : Bool). entered t (view t) (cond b (full t) (fitted_in n (cut (less t.horizon) t) a d i)))
      (lt-ltb (less t.horizon) 3600 (spent t.horizon q))
  enough (suc n) (suc m) t p q = ap (entered t (view t)) (go (ltb (less t.horizon) 3600) refl (enough n m (cut (less t.horizon) t)))
    where
      go : (b : Bool) → ltb (less t.horizon) 3600 ≡ b
          → (less t.horizon ≤ n → less t.horizon ≤ m
          → fitted_in n (cut (less t.horizon) t) a d i ≡ fitted_in m (cut (less t.horizon) t) a d i)
          → cond b (full t) (fitted_in n (cut (less t.horizon) t) a d i) ≡ cond b (full t) (fitted_in m (cut (less t.horizon) t) a d i)
      go true e f = refl
      go false e f =
          let k : 3600 ≤ less t.horizon = ltb-false (less t.horizon) 3600 e in
          f (falls t.horizon n p k) (falls t.horizon m q k)

  module _ (t : Table) where
    out-in : (n : ℕ) → view t ≡ None → ◌≡◌ {A = Tried} (record { answer = Ok Outside; table = t }) (fitted_in n t a d i)
    out-in zero e = ap (λ (v : Option Call). entered t v (full t)) (sym e)
    out-in (suc n) e =
        ap (λ (v : Option Call). entered t v (cond (ltb (less t.horizon) 3600) (full t) (fitted_in n (cut (less t.horizon) t) a d i)))
        (sym e)

    -- a call that is seen: the table has room for it or not
    seen-in : (n : ℕ) (c : Call) (b : Bool) → view t ≡ Some c → ltb t.count 512 ≡ b
        → cond b (record { answer = Ok Taken; table = put t c })
        (cond (ltb (less t.horizon) 3600) (full t) (fitted_in n (cut (less t.horizon) t) a d i)) ≡ fitted_in (suc n) t a d i
    seen-in n c b e h =
        ap (λ (x : Bool). cond x (record { answer = Ok Taken; table = put t c })
        (cond (ltb (less t.horizon) 3600) (full t) (fitted_in n (cut (less t.horizon) t) a d i))) (sym h)
        ∙ ap (λ (v : Option Call). entered t v (cond (ltb (less t.horizon) 3600) (full t) (fitted_in n (cut (less t.horizon) t) a d i)))
        (sym e)

    -- one cut more is allowed than needed
    one_more : fitted_in (suc t.horizon) t a d i ≡ fitted t a d i
    unfolding fitted
    one_more = enough (suc t.horizon) t.horizon t (omega arith) (omega arith)

    pub outside : view t ≡ None → ◌≡◌ {A = Tried} (record { answer = Ok Outside; table = t }) (fitted t a d i)
    unfolding fitted
    outside e = out-in t.horizon e

    pub room : (c : Call) → view t ≡ Some c → t.count < 512
        → ◌≡◌ {A = Tried} (record { answer = Ok Taken; table = put t c }) (fitted t a d i)
    room c e h = seen-in t.horizon c true e (lt-ltb _ _ h) ∙ one_more

    no_room : (c : Call) (b : Bool) → view t ≡ Some c → 512 ≤ t.count → ltb (less t.horizon) 3600 ≡ b
        → cond b (full t) (fitted_in t.horizon (cut (less t.horizon) t) a d i) ≡ fitted t a d i
    no_room c b e h l =
        ap (λ (x : Bool). cond x (full t) (fitted_in t.horizon (cut (less t.horizon) t) a d i)) (sym l)
        ∙ seen-in t.horizon c false e (le-ltb _ _ h) ∙ one_more

    pub refuses : (c : Call) → view t ≡ Some c → 512 ≤ t.count → less t.horizon < 3600 → full t ≡ fitted t a d i
    refuses c e h l = no_room c true e h (lt-ltb _ _ l)

    pub cuts : (c : Call) → view t ≡ Some c → 512 ≤ t.count → 3600 ≤ less t.horizon → fitted (cut (less t.horizon) t) a d i ≡ fitted t a d i
    unfolding fitted cut
    cuts c e h l =
        enough (less t.horizon) t.horizon (cut (less t.horizon) t) (omega arith) (omega arith) ∙ no_room c false e h (le-ltb _ _ l)

pub cut-shrinks : (t r : Table) → r ≡ cut (less t.horizon) t → 3600 ≤ less t.horizon → r.horizon < t.horizon
unfolding cut
cut-shrinks t r e h =
    let k : r.horizon ≡ less t.horizon = ap (λ (x : Table). x.horizon) e in
    let m : less t.horizon < t.horizon = shrinks t.horizon h in
    omega arith
