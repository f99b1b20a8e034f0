-- The line of a verdict: a word, and its numbers in decimal, each behind a space. Journeys, rides and changes are counted from 0, as they
-- are in the verdict.
use Rattle.std.specs.Prelude.{ℕ, List, [], ◌∷◌, ◌++◌, codes}
use Rattle.laws.specs.Lists.{concat_map}
use Rattle.connection.specs.declared.Cause.{Cause}
use Rattle.connection.specs.declared.Cause.TheVariants.{RideCount, NoCall, BoardingBarred, AlightingBarred, NotLater, NotOrigin}
use Rattle.connection.specs.declared.Cause.TheVariants.{NotTarget, TooEarly, TooManyChanges, SameRun, Forbidden, NoChange, TooShort}
use Rattle.listing.specs.declared.Verdict.{Verdict}
use Rattle.listing.specs.declared.Verdict.TheVariants.{NotFinished, Late, Listed, AsGood, Beaten, Uncovered, Impossible}
use Rattle.lines.specs.Decimal.{spaced}

abbrev pub said : List ℕ → List ℕ → List ℕ
said word ns = word ++ concat_map spaced ns

-- why a connection can't be made
unfoldable pub cause_text : Cause → List ℕ
-- so many rides, which is none, or more than three
cause_text (RideCount n) = said (codes "rides") (n ∷ [])
-- ride r has no call with sequence s
cause_text (NoCall r s) = said (codes "no-call") (r ∷ s ∷ [])
-- barred at the call where ride r boards, alights
cause_text (BoardingBarred r) = said (codes "boarding") (r ∷ [])
cause_text (AlightingBarred r) = said (codes "alighting") (r ∷ [])
-- ride r doesn't alight at a later call
cause_text (NotLater r) = said (codes "not-later") (r ∷ [])
-- not a stop of that origin, target
cause_text NotOrigin = codes "origin"
cause_text NotTarget = codes "target"
-- the first departs at d, before a walk of w seconds is done
cause_text (TooEarly w d) = said (codes "walk") (w ∷ d ∷ [])
-- more than n changes
cause_text (TooManyChanges n) = said (codes "changes") (n ∷ [])
-- change c is to the trip and day that one comes by
cause_text (SameRun c) = said (codes "same-run") (c ∷ [])
-- change c, by rule n
cause_text (Forbidden c n) = said (codes "forbidden") (c ∷ n ∷ [])
-- no rule, and neither one stop, one station nor one place
cause_text (NoChange c) = said (codes "no-change") (c ∷ [])
-- change c takes n seconds; one arrives at a, and the next departs at d
cause_text (TooShort c n a d) = said (codes "short") (c ∷ n ∷ a ∷ d ∷ [])

unfoldable pub verdict_text : Verdict → List ℕ
-- no search of the load is finished
verdict_text NotFinished = codes "unfinished"
-- due after the horizon
verdict_text Late = codes "late"
-- it is journey j of the list; another, with the same four figures
verdict_text (Listed j) = said (codes "listed") (j ∷ [])
verdict_text (AsGood j) = said (codes "equal") (j ∷ [])
-- journey j beats it, and is the first that does
verdict_text (Beaten j) = said (codes "beaten") (j ∷ [])
-- nothing of the list equals or beats it: of no load that steps make
verdict_text Uncovered = codes "uncovered"
-- it can't be made
verdict_text (Impossible x) = codes "impossible " ++ cause_text x

unfoldable pub verdict_line : Verdict → List ℕ
verdict_line v = verdict_text v ++ (10 ∷ [])
