-- The call that goes from the table is the last that the window shows with the key.
use Rattle.std.specs.Prelude.{None, Option, Some}
use Prim.Native.Nat.{ℕ}
use mathlib.Core.Path.{◌≡◌, refl, sym, ap, ◌∙◌}
use mathlib.Core.Bool.{Bool, true, false, cond, ◌||◌}
use mathlib.Core.List.{List, [], ◌∷◌, ◌++◌}
use Rattle.laws.specs.Lists.{anyb}
use Rattle.settings.specs.declared.Settings.{Settings}
use Rattle.calls.specs.declared.Call.{Call}
use Rattle.calls.specs.declared.CallInput.{CallInput}
use Rattle.calls.specs.declared.Table.{Table}
use Rattle.calls.specs.Calls.{window}
use Rattle.calls.specs.Shown.{shown, windowed}
use Rattle.calls.specs.declared.CallKey.{CallKey}
use Rattle.withdrawal.specs.Removal.{without_last, has_key, withdrawn, shown_key, named_in, WithdrawnShows}
use Rattle.withdrawal.proofs.LeftLaws.{none-gone, withdrawn-leaves}

module _ (s : Settings) (h : ℕ) (k : CallKey) where
  pub any-shown : (is : List CallInput) → anyb (has_key k) (windowed s h is) ≡ anyb (named_in s h k) is
  any-shown [] = refl
  any-shown (x ∷ xs) = go (window s h x) (any-shown xs)
    where
      go : (v : Option Call) → anyb (has_key k) (windowed s h xs) ≡ anyb (named_in s h k) xs
          → anyb (has_key k) (shown v ++ windowed s h xs) ≡ (shown_key k v || anyb (named_in s h k) xs)
      go None ih = ih
      go (Some c) ih = ap (λ (b : Bool). has_key k c || b) ih

  pub shown-without : (is : List CallInput) → without_last (has_key k) (windowed s h is) ≡ windowed s h (without_last (named_in s h k) is)
  shown-without [] = refl
  shown-without (x ∷ xs) = go (window s h x) refl (anyb (named_in s h k) xs) refl (shown-without xs)
    where
      go : (v : Option Call) → window s h x ≡ v → (b : Bool) → anyb (named_in s h k) xs ≡ b
          → without_last (has_key k) (windowed s h xs) ≡ windowed s h (without_last (named_in s h k) xs)
          → without_last (has_key k) (shown v ++ windowed s h xs)
          ≡ windowed s h (cond b (x ∷ without_last (named_in s h k) xs) (cond (shown_key k v) xs (x ∷ xs)))
      go None e true q ih = ih ∙ sym (ap (λ (v : Option Call). shown v ++ windowed s h (without_last (named_in s h k) xs)) e)
      go None e false q ih =
          none-gone (has_key k) (windowed s h xs) (any-shown xs ∙ q) ∙ sym (ap (λ (v : Option Call). shown v ++ windowed s h xs) e)
      go (Some c) e true q ih =
          rw (any-shown xs ∙ q)
          (ap {B = List Call} (λ l. c ∷ l) ih
          ∙ sym (ap (λ (v : Option Call). shown v ++ windowed s h (without_last (named_in s h k) xs)) e))
      go (Some c) e false q ih = rw (any-shown xs ∙ q) (by (has_key k c))
        where
          by : (d : Bool) → cond d (windowed s h xs) (c ∷ windowed s h xs) ≡ windowed s h (cond d xs (x ∷ xs))
          by true = refl
          by false = sym (ap (λ (v : Option Call). shown v ++ windowed s h xs) e)

-- horizon and settings stay
same_horizon : (t : Table) (k : CallKey) → (withdrawn t k).horizon ≡ t.horizon
unfolding withdrawn
same_horizon t k = refl

pub withdrawn-shows : WithdrawnShows
withdrawn-shows s t k is sound e shows =
    (withdrawn-leaves t k sound e).calls
    ∙ ap (without_last (has_key k)) shows
    ∙ shown-without s t.horizon k is
    ∙ ap (λ (h : ℕ). windowed s h (without_last (named_in s t.horizon k) is)) (sym (same_horizon t k))
