-- The tests of a stop by the stops of a load, which are the first n of its array.
use Rattle.std.specs.Prelude.{None, Option, Some}
use Prim.Native.Nat.{ℕ}
use mathlib.Core.Path.{◌≡◌, refl}
use mathlib.Core.Bool.{Bool}
use mathlib.Core.List.{List}
use lib.ListN.{length, take}
use Rattle.laws.proofs.Prefixes.{all-taken, few-taken, full-taken}
use Rattle.stops.specs.declared.Stop.{Stop}
use Rattle.stops.specs.declared.StopInput.{StopInput}
use Rattle.stops.specs.Answer.{station_of, is_known, stop_tests}

module _ (n : ℕ) (ss : List Stop) (long : length ss ≡ 128) where
  pub station-taken : (parent : Option (List ℕ)) → station_of (take n ss) 128 parent ≡ station_of ss n parent
  unfolding station_of
  station-taken None = refl
  station-taken (Some parent) = rw (few-taken n ss 128 long) refl

  pub tests-taken : (b : Bool) (f : Option ℕ) (id : List ℕ) (name parent : Option (List ℕ)) (i : StopInput)
      → stop_tests b (take n ss) (length (take n ss)) f id name parent i ≡ stop_tests b ss n f id name parent i
  unfolding stop_tests is_known
  tests-taken b f id name parent i = rw (all-taken n ss, full-taken n ss 128 long) refl
