-- `place_c::place_same` meets its contract: by what `same_place_keys` ensures.
use mathlib.Core.Path.{◌∙◌}
use Rattle.laws.proofs.Ints.{again}
use Rattle.place.specs.Near.{same_keys}
use Rattle.place_c.specs.Plain.{key_with}
use Rattle.place_c.proofs.place_same.Goals as goal

pub returns : goal.returns
returns c =
    c.same_place_keys.ensures
    ∙ (λ i. same_keys (c.key_with.ensures i) (c.key_with-2.ensures i))
    ∙ (λ i. same_keys (key_with c.args.atag c.args.ahash (again c.ranges.alat i) (again c.ranges.alon i))
    (key_with c.args.btag c.args.bhash (again c.ranges.blat i) (again c.ranges.blon i)))
