-- A record by its kind: what fills it, what it is tested for, and what it hands in.
use Rattle.std.specs.Prelude.{ℕ, Bool, false, List, [], Result, Err, Ok}
use Rattle.refusal.specs.declared.Refusal.{Refusal}
use Rattle.refusal.specs.First.{first_answer, Answer}
use Rattle.fields.specs.declared.kind.Kind.{Kind}
use Rattle.fields.specs.declared.kind.Kind.TheVariants.{Settings, Stop, Call, Rule, Search}
use Rattle.fields.specs.Kind.{kind_of_number}
use Rattle.fields.specs.Numbers.{byte_at}
use Rattle.fields.specs.Layout.{text_at, option_text_at, name_at, parent_at}
use Rattle.fields.specs.Layout.{stop_filled_of, call_filled_of, rule_filled_of, search_filled_of}
use Rattle.fields.specs.Records.{stop_in, call_in, rule_in}
use Rattle.fields.specs.Second.{settings_by, settings_filled_by}
use Rattle.load.specs.declared.Load.{Load}
use Rattle.load.specs.declared.StepResult.{StepResult}
use Rattle.load.specs.Steps.{undated, open_spec_of, stop_spec, rule_spec}
use Rattle.again.specs.Again.{add_spec_of}
use Rattle.search.specs.Search.{search_spec}
use Rattle.file.specs.declared.Reader.{Reader}
use Rattle.file.specs.Record.{record_tests}

abbrev pub filled_as : Kind → Bool → List ℕ → Bool
filled_as Settings second b = settings_filled_by second b
filled_as Stop second b = stop_filled_of b
filled_as Call second b = call_filled_of b
filled_as Rule second b = rule_filled_of b
filled_as Search second b = search_filled_of b

-- a reader of this version and load: the step of a record reads no more of it
abbrev pub closed_reader : Bool → Load → Reader
closed_reader second l = record { opened = false; second = second; load = l }

abbrev pub stepped_as : Kind → Reader → List ℕ → StepResult
stepped_as Settings r b = open_spec_of (undated (settings_by r.second b))
stepped_as Stop r b = stop_spec r.load (text_at b 1) (option_text_at b (name_at b)) (option_text_at b (parent_at b)) (stop_in b)
stepped_as Call r b = add_spec_of r.load [] (call_in b)
stepped_as Rule r b = rule_spec r.load (rule_in b)
stepped_as Search r b = search_spec r.load

-- the kind, unless the answer is a refusal
abbrev pub kind_unless : Answer → Result Kind Refusal → Result Kind Refusal
kind_unless (Ok a) k = k
kind_unless (Err r) k = Err r

-- the kind of a record that passes its tests, or the refusal of the first that it fails
unfoldable pub tested : Bool → Bool → List ℕ → Result Kind Refusal
tested opened second b = kind_unless (first_answer (record_tests opened second b)) (kind_of_number (byte_at b 0))
