-- The first starred instance.
use mathlib.Core.Path.{refl}
use Rattle.lines.specs.Decimal.{decimal_by, decimal, spaced}
use Rattle.lines.specs.Lines.{journey_text, journey_line_of, horizon_line_of, load_lines, lines_of}
use Rattle.lines.specs.Marked.{FirstJourney, FirstHorizon, FirstLines}

pub first-journey : FirstJourney
unfolding decimal_by decimal spaced journey_text journey_line_of
first-journey j f = rw (f.leave, f.arrival, f.rides, f.walk, f.origin, f.target) refl

pub first-horizon : FirstHorizon
unfolding decimal_by decimal spaced horizon_line_of
first-horizon = refl

pub first-lines : FirstLines
unfolding load_lines lines_of
first-lines l j f k h m = rw (k, h, m, first-journey j f, first-horizon) refl
