-- The change between two stops doesn't depend on the order in which the rules were taken: the one of the highest rank is the same.
use Rattle.std.specs.Prelude.{None, Option, Some}
use mathlib.Core.Path.{◌≡◌, refl, sym, ap, ◌∙◌}
use mathlib.Core.Bool.{true, false, true≢false}
use mathlib.Core.List.Permᴰ
use mathlib.Core.List.{List, Memᴰ, Permᴰ}
use Prim.Native.Nat.{ℕ, ◌<◌}
use native.Mathlib.Omega.{arith}
use lib.ListN.{length, get_or, take, length-take}
use lib.Seq.{get_or-take}
use Rattle.laws.proofs.Sort.{perm-mem}
pub use Rattle.laws.proofs.Lists.{mem-get_d}
use Rattle.rules.specs.declared.Rule.{Rule}
use Rattle.rules.specs.Rules.{blank_rule}
use Rattle.rules.specs.Sound.{rule_at, RulesSound}
use Rattle.transfer.specs.declared.Ends.{Ends}
use Rattle.transfer.specs.Choice.{applies, rank, chosen}
use Rattle.transfer.specs.Changes.{ends_of_of, near, change_of, transfer_of}
use Rattle.transfer.specs.Promises.{Right, TransferInAnyOrder}
use Rattle.transfer.proofs.Choosing.{chosen-right, best-most, best-taken}
use Rattle.transfer.proofs.Claims.{ranks-differ}

module _ (stops : ℕ) (rules : List Rule) (count : ℕ) (s : RulesSound stops rules count) where
  -- a rule taken stands at some place below the count
  pub place_of : (r : Rule) → Memᴰ r (take count rules) → (k : ℕ) × (k < count) × (rule_at rules k ≡ r)
  unfolding rule_at
  place_of r m =
      let (k, h, q) = mem-get_d blank_rule m in
      let c : length (take count rules) ≡ count = simp length-take (omega (arith, s.few, s.long)) in
      let l : k < count = omega (arith, c) in
      (k, l, sym (get_or-take count rules k blank_rule l) ∙ q)

  -- so rules of one rank that apply are one
  one-rule : (e : Ends) (q r : Rule) → Memᴰ q (take count rules) → Memᴰ r (take count rules)
      → applies e q ≡ true → applies e r ≡ true → rank e q ≡ rank e r → q ≡ r
  one-rule e q r m n a b t =
      let (j, hj, ej) = place_of q m in
      let (k, hk, ek) = place_of r n in
      let at : j ≡ k =
      ranks-differ stops rules count s e j k hj hk (ap (applies e) ej ∙ a) (ap (applies e) ek ∙ b)
      (ap (rank e) ej ∙ t ∙ sym (ap (rank e) ek)) in
      sym ej ∙ ap (rule_at rules) at ∙ ek

  module _ (e : Ends) (others : List Rule)
      (there : (r : Rule) → Memᴰ r (take count rules) → Memᴰ r others)
      (here : (r : Rule) → Memᴰ r others → Memᴰ r (take count rules)) where
    same_chosen : (c d : Option Rule) → Right e (take count rules) c → Right e others d → c ≡ d
    same_chosen None None v w = refl
    same_chosen None (Some r) v w = absurd (true≢false (sym w.fits ∙ v r (here r (best-taken e others r w))))
    same_chosen (Some q) None v w = absurd (true≢false (sym v.fits ∙ w q (there q (best-taken e (take count rules) q v))))
    same_chosen (Some q) (Some r) v w =
        let m = best-taken e (take count rules) q v in
        let n = best-taken e others r w in
        let a = best-most e others r w q (there q m) v.fits in
        let b = best-most e (take count rules) q v r (here r n) w.fits in
        let t : rank e q ≡ rank e r = omega (arith, a, b) in
        ap Some (one-rule e q r m (here r n) v.fits w.fits t)

pub transfer-in-any-order : TransferInAnyOrder
unfolding transfer_of
transfer-in-any-order stops rules count s others p parents places from to change =
    let e = ends_of_of parents from to in
    ap (λ (c : Option Rule). change_of c (near e (get_or places from 65535) (get_or places to 65535)) change)
    (same_chosen stops rules count s e others (λ r m. moved p m) (λ r m. moved (Permᴰ.symm p) m)
    (chosen e (take count rules)) (chosen e others) (chosen-right e (take count rules)) (chosen-right e others))
  where
    -- `perm-mem` is stated beside an order, of which it uses nothing
    moved : {r : Rule} {a b : List Rule} → Permᴰ a b → Memᴰ r a → Memᴰ r b
    moved q m = perm-mem (λ (x y : Rule). false) q m
