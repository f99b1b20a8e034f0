-- The kinds of a load file's records, by their numbers (request 01).
use Rattle.std.specs.Prelude.{ℕ, ◌≡◌, cond, eqb, Result, Err, Ok}
use Rattle.refusal.specs.declared.Refusal.{Refusal}
use Rattle.refusal.specs.declared.Refusal.TheVariants.{RecordKind}
use Rattle.fields.specs.declared.kind.Kind.{Kind}
use Rattle.fields.specs.declared.kind.Kind.TheVariants.{Settings, Stop, Call, Rule, Search}

abbrev pub number_of : Kind → ℕ
number_of Settings = 1
number_of Stop = 2
number_of Call = 3
number_of Rule = 4
number_of Search = 5

-- 19 for a number that is no kind's
unfoldable pub kind_of_number : ℕ → Result Kind Refusal
kind_of_number n =
    cond (eqb n 1) (Ok Settings)
    (cond (eqb n 2) (Ok Stop) (cond (eqb n 3) (Ok Call) (cond (eqb n 4) (Ok Rule) (cond (eqb n 5) (Ok Search) (Err RecordKind)))))

-- the kind of a number has that number; where there is none, no kind has it
pub data Numbered (n : ℕ) : Result Kind Refusal → Type 0 where
  is : (k : Kind) → n ≡ number_of k → Numbered n (Ok k)
  none : ((k : Kind) → n ≡ number_of k → ⊥) → Numbered n (Err RecordKind)

abbrev pub KindsNumbered : Type 0
KindsNumbered = (n : ℕ) → Numbered n (kind_of_number n)
