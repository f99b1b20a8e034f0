-- What any list of steps leaves: a sound load, with the settings that it was opened with, whose change time is at most 15300 seconds.
use Rattle.std.specs.Prelude.{◌≡◌, List, ◌≤◌}
use Rattle.settings.specs.Settings.{canonical_of}
use Rattle.load.specs.Steps.{Opening}
use Rattle.load.specs.Sound.{Opens, Sound}
use Rattle.steps.specs.Steps.{Step}
use Rattle.steps.specs.Lists.{end_of}

abbrev pub HandedSound : Type 0
HandedSound = (o : Opening) (xs : List Step) → Opens o → ((end_of o xs).settings ≡ canonical_of o.settings) × Sound (end_of o xs)

-- "seconds, 0 to 15300": no load has a change time above that (request 05)
abbrev pub ChangeInRange : Type 0
ChangeInRange = (o : Opening) (xs : List Step) → Opens o → (end_of o xs).settings.transfer_seconds ≤ 15300
