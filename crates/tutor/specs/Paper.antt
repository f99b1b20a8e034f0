-- What stands in the bytes of a load file (requests 01, 13): a version, then records one after another; the first is the settings, each
-- other one a step. Where a record's fields stand is crate `fields`' to say; no reader stands here.
-- RULES 13.1, 13.2.
use Rattle.std.specs.Prelude.{◌≡◌, Bool, true, false, List, [], ◌∷◌, ◌++◌, ℕ, ◌+◌, ◌*◌, ◌<◌, length}
use Rattle.laws.specs.Lists.{All}
use Rattle.settings.specs.declared.Settings.{Settings}
use Rattle.fields.specs.Numbers.{byte_at}
use Rattle.fields.specs.Layout.{text_at, option_text_at, name_at, parent_at, stop_filled_of, call_filled_of, rule_filled_of}
use Rattle.fields.specs.Layout.{search_filled_of}
use Rattle.fields.specs.Records.{stop_in, call_in, rule_in}
use Rattle.fields.specs.Second.{settings_by, settings_filled_by}
use Rattle.load.specs.FillStep.{stop, call, rule}
use Rattle.steps.specs.Steps.{Step, filling, search}

abbrev pub Bytes : List ℕ → Type 0
Bytes xs = All (λ (b : ℕ). b < 256) xs

-- one record after another, up to the end: a length of two bytes, the higher first, and so many bytes
pub data Records : List ℕ → List (List ℕ) → Type 0 where
  no_more : Records [] []
  one_more : {b rest : List ℕ} {bs : List (List ℕ)} (high low : ℕ) → length b ≡ high * 256 + low → Records rest bs
      → Records (high ∷ low ∷ (b ++ rest)) (b ∷ bs)

-- a record of kind 1, whose fields fill it
pub record SettingsSaid (second : Bool) (b : List ℕ) (s : Settings) : Type 0 where
  pub kind : byte_at b 0 ≡ 1
  pub filled : settings_filled_by second b ≡ true
  pub is : s ≡ settings_by second b

-- a record of another kind, whose fields fill it, and the step that it says
pub data Says (b : List ℕ) : Step → Type 0 where
  a_stop : byte_at b 0 ≡ 2 → stop_filled_of b ≡ true
      → Says b (filling (stop (text_at b 1) (option_text_at b (name_at b)) (option_text_at b (parent_at b)) (stop_in b)))
  a_call : byte_at b 0 ≡ 3 → call_filled_of b ≡ true → Says b (filling (call [] (call_in b)))
  a_rule : byte_at b 0 ≡ 4 → rule_filled_of b ≡ true → Says b (filling (rule (rule_in b)))
  a_search : byte_at b 0 ≡ 5 → search_filled_of b ≡ true → Says b search

-- each says its step, in order
pub data EachSays : List (List ℕ) → List Step → Type 0 where
  no_step : EachSays [] []
  a_step : {b : List ℕ} {x : Step} {bs : List (List ℕ)} {xs : List Step} → Says b x → EachSays bs xs → EachSays (b ∷ bs) (x ∷ xs)

-- version 1 or 2
pub data Version : ℕ → Bool → Type 0 where
  one : Version 1 false
  two : Version 2 true

-- the bytes are a file of these settings and steps
pub record Paper (xs : List ℕ) (s : Settings) (steps : List Step) : Type 0 where
  pub version : ℕ
  pub second : Bool
  pub known : Version version second
  pub head : List ℕ
  pub bodies : List (List ℕ)
  pub rest : List ℕ
  pub whole : xs ≡ version ∷ rest
  pub records : Records rest (head ∷ bodies)
  pub settings : SettingsSaid second head s
  pub said : EachSays bodies steps
