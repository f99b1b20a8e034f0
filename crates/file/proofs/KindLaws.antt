-- What a record's kind decides: which fields fill it, and what it hands in.
use mathlib.Core.Path.{◌≡◌, refl, sym, ap, ◌∙◌}
use mathlib.Core.Bool.{Bool, true, false, true≢false}
use mathlib.Core.List.{List, []}
use Prim.Native.Nat.{ℕ}
use Rattle.refusal.specs.First.{is_refused}
use Rattle.load.specs.declared.StepResult.{StepResult}
use Rattle.fields.specs.declared.kind.Kind.{Kind}
use Rattle.fields.specs.declared.kind.Kind.TheVariants.{Settings, Stop, Call, Rule, Search}
use Rattle.fields.specs.Kind.{number_of}
use Rattle.fields.specs.Numbers.{byte_at}
use Rattle.fields.specs.Records.{call_in}
use Rattle.load.specs.Steps.{call_spec}
use Rattle.steps.proofs.StepLaws.{call-before}
use Rattle.file.specs.declared.Reader.{Reader}
use Rattle.file.specs.Record.{kind_right, filled, step_in, stepped_by}
use Rattle.file.specs.Kinds.{filled_as, closed_reader, stepped_as}

pub filled-as : (k : Kind) (second : Bool) (b : List ℕ) → byte_at b 0 ≡ number_of k → filled second b ≡ filled_as k second b
unfolding filled
filled-as Settings second b e = rw e refl
filled-as Stop second b e = rw e refl
filled-as Call second b e = rw e refl
filled-as Rule second b e = rw e refl
filled-as Search second b e = rw e refl

-- an opened reader is handed no settings, and another only those
pub stepped-as : (k : Kind) (r : Reader) (b : List ℕ)
    → byte_at b 0 ≡ number_of k → kind_right r.opened (number_of k) ≡ true → stepped_as k r b ≡ stepped_by r b
unfolding kind_right stepped_by step_in
stepped-as k r b e g = go k r.opened refl e g
  where
    go : (k : Kind) (o : Bool) → r.opened ≡ o → byte_at b 0 ≡ number_of k → kind_right o (number_of k) ≡ true
        → stepped_as k r b ≡ stepped_by r b
    go Settings false o e g = rw o refl
    go Settings true o e g = absurd (true≢false (sym g))
    go Stop true o e g = rw (o, e) refl
    go Stop false o e g = absurd (true≢false (sym g))
    go Call true o e g = rw (o, e) refl
    go Call false o e g = absurd (true≢false (sym g))
    go Rule true o e g = rw (o, e) refl
    go Rule false o e g = absurd (true≢false (sym g))
    go Search true o e g = rw (o, e) refl
    go Search false o e g = absurd (true≢false (sym g))

-- of the reader version and load are read
pub stepped-closed : (k : Kind) (r : Reader) (b : List ℕ) → stepped_as k (closed_reader r.second r.load) b ≡ stepped_as k r b
stepped-closed Settings r b = refl
stepped-closed Stop r b = refl
stepped-closed Call r b = refl
stepped-closed Rule r b = refl
stepped-closed Search r b = refl
