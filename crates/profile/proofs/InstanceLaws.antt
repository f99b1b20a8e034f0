-- The table of instances holds, by computation.
use mathlib.Core.Path.{refl}
use Rattle.profile.specs.Figures.{lexb}
use Rattle.profile.specs.Instances.{Instances}

pub instances : Instances
unfolding lexb
instances = record {
  beaten = λ w w'. refl;
  beside = λ w w'. refl;
  beside' = λ w w'. refl;
  unbeaten = refl;
  unbeaten' = refl;
  sixty_four = refl;
  latest_3601 = refl;
  latest_3600 = refl;
}
