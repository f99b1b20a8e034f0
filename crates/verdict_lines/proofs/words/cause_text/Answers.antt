-- Word by word.
use mathlib.Core.Path.{refl}
use native.Mathlib.Omega.{arith}
use Rattle.verdict_lines.specs.Words.{cause_text}
use Rattle.verdict_lines.proofs.WordLaws.{cause-put}
use Rattle.verdict_lines.proofs.words.cause_text.Goals as goal

pub returns-in-RideCount : goal.returns-in-RideCount
unfolding cause_text
returns-in-RideCount c = cause-put c.in-RideCount.is refl (rw c.from.ensures at c.said.ensures) (omega arith)

pub returns-in-NoCall : goal.returns-in-NoCall
unfolding cause_text
returns-in-NoCall c = cause-put c.in-NoCall.is refl (rw (c.from-in-NoCall.ensures, c.from-in-NoCall-2.ensures) at c.said-in-NoCall.ensures) (omega arith)

pub returns-in-BoardingBarred : goal.returns-in-BoardingBarred
unfolding cause_text
returns-in-BoardingBarred c = cause-put c.in-BoardingBarred.is refl (rw c.from-in-BoardingBarred.ensures at c.said-in-BoardingBarred.ensures) (omega arith)

pub returns-in-AlightingBarred : goal.returns-in-AlightingBarred
unfolding cause_text
returns-in-AlightingBarred c = cause-put c.in-AlightingBarred.is refl (rw c.from-in-AlightingBarred.ensures at c.said-in-AlightingBarred.ensures) (omega arith)

pub returns-in-NotLater : goal.returns-in-NotLater
unfolding cause_text
returns-in-NotLater c = cause-put c.in-NotLater.is refl (rw c.from-in-NotLater.ensures at c.said-in-NotLater.ensures) (omega arith)

pub returns-in-NotOrigin : goal.returns-in-NotOrigin
unfolding cause_text
returns-in-NotOrigin c = cause-put c.in-NotOrigin.is refl c.bytes.ensures (omega arith)

pub returns-in-NotTarget : goal.returns-in-NotTarget
unfolding cause_text
returns-in-NotTarget c = cause-put c.in-NotTarget.is refl c.bytes-in-NotTarget.ensures (omega arith)

pub returns-in-TooEarly : goal.returns-in-TooEarly
unfolding cause_text
returns-in-TooEarly c = cause-put c.in-TooEarly.is refl (rw (c.from-in-TooEarly.ensures, c.from-in-TooEarly-2.ensures) at c.said-in-TooEarly.ensures) (omega arith)

pub returns-in-TooManyChanges : goal.returns-in-TooManyChanges
unfolding cause_text
returns-in-TooManyChanges c = cause-put c.in-TooManyChanges.is refl (rw c.from-in-TooManyChanges.ensures at c.said-in-TooManyChanges.ensures) (omega arith)

pub returns-in-SameRun : goal.returns-in-SameRun
unfolding cause_text
returns-in-SameRun c = cause-put c.in-SameRun.is refl (rw c.from-in-SameRun.ensures at c.said-in-SameRun.ensures) (omega arith)

pub returns-in-Forbidden : goal.returns-in-Forbidden
unfolding cause_text
returns-in-Forbidden c = cause-put c.in-Forbidden.is refl (rw c.from-in-Forbidden.ensures at c.said-in-Forbidden.ensures) (omega arith)

pub returns-in-NoChange : goal.returns-in-NoChange
unfolding cause_text
returns-in-NoChange c = cause-put c.in-NoChange.is refl (rw c.from-in-NoChange.ensures at c.said-in-NoChange.ensures) (omega arith)

pub returns-in-TooShort : goal.returns-in-TooShort
unfolding cause_text
returns-in-TooShort c = cause-put c.in-TooShort.is refl (rw (c.from-in-TooShort.ensures, c.from-in-TooShort-2.ensures, c.from-in-TooShort-3.ensures, c.from-in-TooShort-4.ensures) at c.said-in-TooShort.ensures) (omega arith)
