-- A file that is not refused: its version, its settings and its steps stand in its bytes, and the load is what they give.
use Rattle.refusal.specs.declared.Accepted.TheVariants.{Taken}
use Rattle.std.specs.Prelude.{Err, Ok}
use mathlib.Core.Path.{◌≡◌, refl, sym, ap, ◌∙◌, subst}
use mathlib.Core.Bool.{Bool, true, false, not, cond, ◌||◌, true≢false, false≢true}
use mathlib.Core.List.{List, [], ◌∷◌}
use Prim.Native.Nat.{ℕ}
use native.Mathlib.Omega.{arith}
use borrow.Author.Tests.{eqb-true}
use lib.Dec.{eqb}
use lib.ListN.{length, drop}
use lib.Seq.{drop-drop}
use Rattle.laws.specs.Lists.{All}
use Rattle.refusal.specs.declared.Refusal.TheVariants.{FileVersion, RecordLength, RecordKind}
use Rattle.refusal.specs.First.{first_answer, is_refused}
use Rattle.fields.specs.Numbers.{byte_at}
use Rattle.fields.specs.Second.{settings_by, settings_filled_by}
use Rattle.load.specs.Steps.{undated, open_answer, opened, open_spec_of}
use Rattle.load.specs.Sound.{Opens}
use Rattle.steps.specs.Steps.{Step}
use Rattle.steps.specs.Lists.{handed, end_of}
use Rattle.file.specs.declared.Reader.{Reader}
use Rattle.file.specs.declared.RecordResult.{RecordResult}
use Rattle.file.specs.declared.ReadResult.{ReadResult}
use Rattle.file.specs.Record.{fresh_reader, open_reader, kind_right, filled, stepped_by, record_spec}
use Rattle.file.specs.File.{starts_whole, size_of, body_of, version_answer, fed_spec, end_answer, ended_by, read_spec_of}
use Rattle.file.proofs.HandedLaws.{not-sent-back}
use Rattle.file.proofs.RecordLaws.{taken-settled}
use Rattle.file.proofs.FedLaws.{fed-stops, fed-refuses, fed-goes-on}
use Rattle.comparison.specs.Demands.{answers_from}
use Rattle.tutor.specs.Paper.{Records, SettingsSaid, EachSays, Version, one, two}
use Rattle.tutor.specs.Tutor.{NotRefused}
use Rattle.tutor.proofs.RecordsLaws.{taken-tests, whole-record, Rest, goes}

-- ---- the settings

record Opening (second : Bool) (b : List ℕ) (r : Reader) : Type 0 where
  said : SettingsSaid second b (settings_by second b)
  opens : Opens (undated (settings_by second b))
  reader : r ≡ open_reader (opened (undated (settings_by second b)))

opening : (second : Bool) (b : List ℕ) → is_refused (record_spec (fresh_reader second) b).answer ≡ false
    → Opening second b (record_spec (fresh_reader second) b).reader
unfolding fresh_reader stepped_by open_spec_of kind_right filled
opening second b k =
    let t = taken-tests (fresh_reader second) b k in
    let w = taken-settled (fresh_reader second) b k in
    let kind : byte_at b 0 ≡ 1 = eqb-true (byte_at b 0) 1 t.0 in
    let f : filled second b ≡ settings_filled_by second b = rw kind refl in
    let a : is_refused (open_answer (undated (settings_by second b))) ≡ false = w.0 in
    record {
      said = record { kind = kind; filled = sym f ∙ t.1; is = refl };
      opens = (not-sent-back (settings_by second b) a, tt);
      reader = w.1 ∙ rw a refl;
    }

-- ---- all records

pub record Read (second : Bool) (xs : List ℕ) (f : ReadResult) : Type 0 where
  pub head : List ℕ
  pub bodies : List (List ℕ)
  pub steps : List Step
  pub records : Records xs (head ∷ bodies)
  pub settings : SettingsSaid second head (settings_by second head)
  pub said : EachSays bodies steps
  pub opens : Opens (undated (settings_by second head))
  pub accepted : All NotRefused (answers_from (opened (undated (settings_by second head))) steps)
  pub ends : f.reader.load ≡ end_of (undated (settings_by second head)) steps

abbrev Reads : Bool → List ℕ → ReadResult → Type 0
Reads second xs f = is_refused f.answer ≡ false → drop f.used xs ≡ [] → f.reader.opened ≡ true → Read second xs f

reads_none : (second : Bool) (xs : List ℕ) → starts_whole xs ≡ false → Reads second xs (fed_spec (fresh_reader second) xs)
unfolding fresh_reader
reads_none second xs e = subst (Reads second xs) (sym (fed-stops (fresh_reader second) xs e)) (λ k d o. absurd (false≢true o))

reads-refused : (second : Bool) (xs : List ℕ) → starts_whole xs ≡ true
    → is_refused (record_spec (fresh_reader second) (body_of xs)).answer ≡ true → Reads second xs (fed_spec (fresh_reader second) xs)
reads-refused second xs e f = subst (Reads second xs) (sym (fed-refuses (fresh_reader second) xs e f))
    (λ k d o. absurd (true≢false (sym f ∙ k)))

reads_on : (second : Bool) (xs : List ℕ) → starts_whole xs ≡ true
    → is_refused (record_spec (fresh_reader second) (body_of xs)).answer ≡ false → Reads second xs (fed_spec (fresh_reader second) xs)
reads_on second xs e f = subst (Reads second xs) (sym (fed-goes-on (fresh_reader second) xs e f)) (λ k d o.
    let r = (record_spec (fresh_reader second) (body_of xs)).reader in
    let ys = drop (size_of xs) xs in
    let s = opening second (body_of xs) f in
    let w : Rest r ys (fed_spec r ys) = goes (length ys) r ys (omega arith) (ap (λ (q : Reader). q.opened) s.reader) k
    (drop-drop (fed_spec r ys).used (size_of xs) xs ∙ d) in
    record {
      head = body_of xs;
      bodies = w.bodies;
      steps = w.steps;
      records = whole-record xs w.bodies e w.records;
      settings = s.said;
      said = w.said;
      opens = s.opens;
      accepted = subst (λ (q : Reader). All NotRefused (answers_from q.load w.steps)) s.reader w.accepted;
      ends = w.ends ∙ ap (λ (q : Reader). handed q.load w.steps) s.reader;
    })

reads : (second : Bool) (xs : List ℕ) → Reads second xs (fed_spec (fresh_reader second) xs)
reads second xs = go (starts_whole xs) refl (is_refused (record_spec (fresh_reader second) (body_of xs)).answer) refl
  where
    go : (b : Bool) → starts_whole xs ≡ b → (c : Bool) → is_refused (record_spec (fresh_reader second) (body_of xs)).answer ≡ c
        → Reads second xs (fed_spec (fresh_reader second) xs)
    go false e c f = reads_none second xs e
    go true e true f = reads-refused second xs e f
    go true e false f = reads_on second xs e f

-- ---- the whole file

-- it ends where its last record does, with a load that was opened
end_whole : (o : Bool) (left : ℕ) → is_refused (end_answer o left) ≡ false → (left ≡ 0) × (o ≡ true)
unfolding end_answer first_answer
end_whole o left e = go (eqb left 0) refl o e
  where
    go : (x : Bool) → eqb left 0 ≡ x → (o : Bool)
        → is_refused (cond (not x) (Err RecordLength) (cond (not o) (Err RecordKind) (Ok Taken))) ≡ false → (left ≡ 0) × (o ≡ true)
    go true q true e = (eqb-true left 0 q, refl)
    go true q false e = absurd (true≢false e)
    go false q o e = absurd (true≢false e)

none_left : (xs : List ℕ) → length xs ≡ 0 → xs ≡ []
none_left [] e = refl
none_left (x ∷ xs) e = absurd (omega arith)

pub record Whole (xs : List ℕ) (t : RecordResult) : Type 0 where
  pub version : ℕ
  pub second : Bool
  pub rest : List ℕ
  pub known : Version version second
  pub whole : xs ≡ version ∷ rest
  pub fed : ReadResult
  pub read : Read second rest fed
  pub load : t.reader.load ≡ fed.reader.load

ended : (v : ℕ) (rest : List ℕ) (second : Bool) → Version v second
    → is_refused (ended_by rest (fed_spec (fresh_reader second) rest)).answer ≡ false
    → Whole (v ∷ rest) (ended_by rest (fed_spec (fresh_reader second) rest))
ended v rest second known e = go (is_refused (fed_spec (fresh_reader second) rest).answer) refl e
  where
    go : (c : Bool) → is_refused (fed_spec (fresh_reader second) rest).answer ≡ c
        → is_refused (cond c (fed_spec (fresh_reader second) rest).answer
        (end_answer (fed_spec (fresh_reader second) rest).reader.opened
        (length (drop (fed_spec (fresh_reader second) rest).used rest)))) ≡ false
        → Whole (v ∷ rest) (ended_by rest (fed_spec (fresh_reader second) rest))
    go true q k = absurd (true≢false (sym q ∙ k))
    go false q k =
        let f = fed_spec (fresh_reader second) rest in
        let w = end_whole f.reader.opened (length (drop f.used rest)) k in
        record {
          version = v;
          second = second;
          rest = rest;
          known = known;
          whole = refl;
          fed = f;
          read = reads second rest q (none_left (drop f.used rest) w.0) w.1;
          load = refl;
        }

-- by the version
versions : (v : ℕ) (rest : List ℕ) (x y : Bool) → eqb v 1 ≡ x → eqb v 2 ≡ y
    → is_refused (cond (is_refused (cond (x || y) (Ok Taken) (Err FileVersion)))
    (record { answer = cond (x || y) (Ok Taken) (Err FileVersion); reader = fresh_reader y })
    (ended_by rest (fed_spec (fresh_reader y) rest))).answer ≡ false
    → Whole (v ∷ rest) (cond (is_refused (cond (x || y) (Ok Taken) (Err FileVersion)))
    (record { answer = cond (x || y) (Ok Taken) (Err FileVersion); reader = fresh_reader y })
    (ended_by rest (fed_spec (fresh_reader y) rest)))
versions v rest true true e f k = absurd (let a = eqb-true v 1 e in let b = eqb-true v 2 f in omega (arith, a, b))
versions v rest true false e f k = ended v rest false (subst (λ (n : ℕ). Version n false) (sym (eqb-true v 1 e)) one) k
versions v rest false true e f k = ended v rest true (subst (λ (n : ℕ). Version n true) (sym (eqb-true v 2 f)) two) k
versions v rest false false e f k = absurd (true≢false k)

pub whole-file : (xs : List ℕ) → is_refused (read_spec_of xs).answer ≡ false → Whole xs (read_spec_of xs)
unfolding read_spec_of version_answer
whole-file [] k = absurd (true≢false k)
whole-file (v ∷ rest) k = versions v rest (eqb v 1) (eqb v 2) refl refl k
