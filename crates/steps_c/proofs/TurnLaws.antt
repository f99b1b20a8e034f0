-- A step, one more, the last, and all of them.
use mathlib.Core.Path.{◌≡◌, sym, ap, ◌∙◌}
use Prim.Native.Nat.{ℕ, suc, ◌-◌, ◌<◌}
use native.Mathlib.Omega.{arith}
use Rattle.settings.specs.declared.Settings.{Settings}
use Rattle.load.specs.declared.Load.{Load}
use Rattle.load.specs.declared.StepResult.{StepResult}
use Rattle.load.specs.Steps.{undated, open_spec_of}
use Rattle.steps_c.specs.Steps.{plain_settings, with_stop, with_rule, with_call, turns, calls_held}

module _ (step : ℕ → Load → Load) (left : ℕ) (l : Load) {all : Load} where
  pub next-turn : {after : Load} → 0 < left → after ≡ step (left - 1) l → turns left step l ≡ all → turns (left - 1) step after ≡ all
  unfolding turns
  next-turn some is so =
      let one : left ≡ suc (left - 1) = omega arith in
      ap (turns (left - 1) step) is ∙ sym (ap (λ (k : ℕ). turns k step l) one) ∙ so

  pub last_turn : left ≡ 0 → turns left step l ≡ all → l ≡ all
  unfolding turns
  last_turn none so = sym (ap (λ (k : ℕ). turns k step l) none) ∙ so

pub all-handed : (a b c : ℕ) {i : Settings} {s : StepResult} {x y z : Load} → i ≡ plain_settings → s ≡ open_spec_of (undated i)
    → x ≡ turns a with_stop s.load → y ≡ turns b with_rule x → z ≡ turns c with_call y
    → z.call_count ≡ calls_held a b c
unfolding calls_held
all-handed a b c e o p q r =
    ap (λ (l : Load). l.call_count)
    (r ∙ ap (turns c with_call) (q ∙ ap (turns b with_rule)
    (p ∙ ap (λ (s : StepResult). turns a with_stop s.load) (o ∙ ap (λ (x : Settings). open_spec_of (undated x)) e))))
