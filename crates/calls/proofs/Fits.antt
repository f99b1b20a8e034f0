-- What `fitted` ends in, for any property of tables that a cut keeps.
use Rattle.refusal.specs.declared.Accepted.TheVariants.{Taken, Outside}
use Rattle.std.specs.Prelude.{None, Option, Some, Err, Ok}
use Prim.Native.Nat.{ℕ, zero, suc, ◌<◌, ◌≤◌}
use mathlib.Core.Path.{◌≡◌, refl}
use mathlib.Core.Bool.{cond, Bool, true, false}
use native.Mathlib.Omega.{arith}
use lib.Dec.{ltb}
use borrow.Author.Tests.{ltb-true, ltb-false}
use Rattle.calls.proofs.FitLaws.{falls, spent}
use Rattle.calls.specs.declared.Call.{Call}
use Rattle.calls.specs.declared.CallInput.{CallInput}
use Rattle.calls.specs.declared.Table.{Table}
use Rattle.calls.specs.Tried.{Tried}
use Rattle.refusal.specs.declared.Refusal.TheVariants.{NoRoom}
use Rattle.calls.specs.Windows.{seen}
use Rattle.calls.specs.Tables.{cut, less, put, entered, fitted_in, fitted}

-- the three ends: at a table with P the call is outside, goes in, or is refused at a full table whose horizon can't fall
pub data Ends (P : Table → Type 0) (a d : Option ℕ) (i : CallInput) : Tried → Type 0 where
  stands : (t : Table) → P t → seen t.horizon a d i ≡ None → Ends P a d i (record { answer = Ok Outside; table = t })
  enters : (t : Table) (c : Call) → P t → seen t.horizon a d i ≡ Some c → t.count < 512
      → Ends P a d i (record { answer = Ok Taken; table = put t c })
  turned : (t : Table) (c : Call) → P t → seen t.horizon a d i ≡ Some c → 512 ≤ t.count → less t.horizon < 3600
      → Ends P a d i (record { answer = Err NoRoom; table = t })

-- a cut, met by a call that is seen at a full table, keeps P
abbrev pub Keeps : (Table → Type 0) → Option ℕ → Option ℕ → CallInput → Type 0
Keeps P a d i =
    (t : Table) (c : Call) → P t → seen t.horizon a d i ≡ Some c → 512 ≤ t.count → 3600 ≤ less t.horizon → P (cut (less t.horizon) t)

module _ (P : Table → Type 0) (a d : Option ℕ) (i : CallInput) where
  entering : (t : Table) (rest : Tried) → P t → ((c : Call) → seen t.horizon a d i ≡ Some c → 512 ≤ t.count → Ends P a d i rest)
      → (v : Option Call) → seen t.horizon a d i ≡ v → Ends P a d i (entered t v rest)
  entering t rest p f None e = stands t p e
  entering t rest p f (Some c) e = go (ltb t.count 512) refl
    where
      go : (b : Bool) → ltb t.count 512 ≡ b → Ends P a d i (cond b (record { answer = Ok Taken; table = put t c }) rest)
      go true h = enters t c p e (ltb-true t.count 512 h)
      go false h = f c e (ltb-false t.count 512 h)

  ends-in : Keeps P a d i → (n : ℕ) (t : Table) → t.horizon ≤ n → P t → Ends P a d i (fitted_in n t a d i)
  unfolding cut
  ends-in k zero t m p =
      entering t (record { answer = Err NoRoom; table = t }) p (λ c e h. turned t c p e h (spent t.horizon m)) (seen t.horizon a d i) refl
  ends-in k (suc n) t m p =
      entering t (cond (ltb (less t.horizon) 3600) (record { answer = Err NoRoom; table = t }) (fitted_in n (cut (less t.horizon) t) a d i))
      p
      (λ c e h. go c e h (ends-in k n (cut (less t.horizon) t)) (ltb (less t.horizon) 3600) refl)
      (seen t.horizon a d i) refl
    where
      go : (c : Call) → seen t.horizon a d i ≡ Some c → 512 ≤ t.count
          → (less t.horizon ≤ n → P (cut (less t.horizon) t) → Ends P a d i (fitted_in n (cut (less t.horizon) t) a d i))
          → (b : Bool) → ltb (less t.horizon) 3600 ≡ b
          → Ends P a d i (cond b (record { answer = Err NoRoom; table = t }) (fitted_in n (cut (less t.horizon) t) a d i))
      go c e h f true l = turned t c p e h (ltb-true (less t.horizon) 3600 l)
      go c e h f false l =
          let q : 3600 ≤ less t.horizon = ltb-false (less t.horizon) 3600 l in
          f (falls t.horizon n m q) (k t c p e h q)

  pub ends : Keeps P a d i → (t : Table) → P t → Ends P a d i (fitted t a d i)
  unfolding fitted
  ends k t p = ends-in k t.horizon t (omega arith) p
