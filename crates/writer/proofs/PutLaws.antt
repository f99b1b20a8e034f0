-- Records put behind their length; the buffer after a file was put into it.
use Rattle.std.specs.Prelude.{Option, Some, None, option_map}
use mathlib.Core.Path.{◌≡◌, refl, sym, ap, ◌∙◌}
use mathlib.Core.Bool.{Bool, true, false}
use mathlib.Core.List.{List, [], ◌∷◌, ◌++◌}
use Prim.Native.Nat.{ℕ, zero, suc, min, ◌+◌, ◌-◌, ◌≤◌, ◌<◌}
use native.Mathlib.Omega.{arith}
use lib.Dec.{ltb}
use lib.ListN.{length, set}
use lib.Seq.{sets}
use borrow.Author.Tests.{ltb-true, ltb-false}
use Rattle.buffer.specs.declared.Buffer.{Buffer}
use Rattle.buffer.specs.Put.{Put}
use Rattle.buffer.specs.Bytes.{two_bytes}
use Rattle.buffer.proofs.PutLaws.{sets-past}
use Rattle.texts.specs.declared.Text.{Text}
use Rattle.texts.specs.Texts.{bytes_of}
use Rattle.stops.specs.declared.Stop.{Stop}
use Rattle.stops.specs.Stops.{id_of}
use Rattle.stops.specs.Sound.{stop_at}
use Rattle.codec.specs.Shapes.{two, Field, Value, number, text, option, write, framed}
use Rattle.writer.specs.Options.{option_bytes}
use Rattle.codec.specs.Parts.{parent_id_of}

-- ---- a length put in front of what stands behind it

set_apart : (l : List ℕ) (i j a b : ℕ) → i < j → set (set l j b) i a ≡ set (set l i a) j b
set_apart [] i j a b h = refl
set_apart (x ∷ l) i zero a b h = absurd (omega arith)
set_apart (x ∷ l) zero (suc j) a b h = refl
set_apart (x ∷ l) (suc i) (suc j) a b h = ap (λ (r : List ℕ). x ∷ r) (set_apart l i j a b (omega arith))

sets-apart : (xs l : List ℕ) (i j a : ℕ) → i < j → set (sets l j xs) i a ≡ sets (set l i a) j xs
sets-apart [] l i j a h = refl
sets-apart (x ∷ xs) l i j a h =
    sets-apart xs (set l j x) i (suc j) a (omega arith) ∙ ap (λ (r : List ℕ). sets r (suc j) xs) (set_apart l i j a x h)

sets-front : (l xs : List ℕ) (at k a b : ℕ) → k ≡ suc (suc at) → sets (sets l k xs) at (a ∷ b ∷ []) ≡ sets l at (a ∷ b ∷ xs)
sets-front l xs at k a b e =
    ap (λ (r : List ℕ). set r (suc at) b) (sets-apart xs l at k a (omega arith))
    ∙ sets-apart xs (set l at a) (suc at) k b (omega arith)
    ∙ ap (λ (j : ℕ). sets (set (set l at a) (suc at) b) j xs) e

-- also past the end, where the count stops
framed-stored : (l xs : List ℕ) (at from n : ℕ) → length l ≤ 9223372036854775807 → from ≡ min (at + 2) 18446744073709551615
    → (at < length l → n ≡ length xs) → sets (sets l from xs) at (two_bytes n) ≡ sets l at (framed xs)
unfolding framed two_bytes
framed-stored l xs at from n h e k = go (ltb at (length l)) refl
  where
    go : (b : Bool) → ltb at (length l) ≡ b → sets (sets l from xs) at (two_bytes n) ≡ sets l at (two_bytes (length xs) ++ xs)
    go true t =
        let i = ltb-true at (length l) t in
        let f : from ≡ suc (suc at) = omega arith in
        rw (k i) (sets-front l xs at from _ _ f)
    go false t =
        let i = ltb-false at (length l) t in
        let p : length l ≤ from = omega arith in
        ap (λ (r : List ℕ). sets r at (two_bytes n)) (sets-past xs l from p) ∙ sets-past (two_bytes n) l at i
        ∙ sym (sets-past (two_bytes (length xs) ++ xs) l at i)

-- the record put behind room for two bytes, then the two bytes put there
pub put-framed : {xs : List ℕ} {a b c d e f : Buffer} {n : ℕ} → b.out ≡ a.out → b.len ≡ min (a.len + 2) 18446744073709551615
    → Put 65535 xs b c
    → d.out ≡ c.out → d.len ≡ a.len → n ≡ c.len - b.len → Put 2 (two_bytes n) d e → f.out ≡ e.out → f.len ≡ c.len
    → Put 65537 (framed xs) a f
unfolding framed two_bytes
put-framed {xs} {a} {b} {c} {d} {e} {f} {n} bo bl p co cl q r fo fl =
    record {
      same = ap (λ o. o.ghost_name) fo ∙ r.same ∙ ap (λ o. o.ghost_name) co ∙ p.same ∙ ap (λ o. o.ghost_name) bo;
      small = omega (arith, p.small);
      stored = ap (λ o. o.now) fo ∙ r.stored ∙ rw (co, cl, p.stored, bo)
          (framed-stored a.out.now xs a.len b.len n (omega (arith, a.room)) bl at);
      behind = fl ∙ rw (p.behind, bl) (omega arith);
    }
  where
    at : a.len < length a.out.now → n ≡ length xs
    at h = omega (arith, p.behind, p.small, bl, q, a.room)

-- ---- fields that may be there

pub option-is : {T : Type 0} (f : Field) (v : T → Value f) (o : Option T)
    → option_bytes (λ x. write f (v x)) o ≡ write (option f) (option_map v o)
option-is f v None = refl
option-is f v (Some x) = refl

pub number-is : (o : Option ℕ) → option_bytes (λ n. write (number two) n) o ≡ write (option (number two)) o
number-is None = refl
number-is (Some n) = refl

module _ (s : Stop) where
  pub station-is : (stops : List Stop) {o : Option (Text 32)} → o ≡ option_map (λ (p : ℕ). (stop_at stops p).id) s.parent
      → write (option text) (option_map bytes_of o) ≡ write (option text) (parent_id_of stops s)
  station-is stops e = ap (λ o. write (option text) (option_map bytes_of o)) e ∙ ap (write (option text)) (both s.parent)
    where
      both : (p : Option ℕ) → option_map bytes_of (option_map (λ (p : ℕ). (stop_at stops p).id) p)
          ≡ option_map (λ (p : ℕ). id_of (stop_at stops p)) p
      both (Some p) = refl
      both None = refl
