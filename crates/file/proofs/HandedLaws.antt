-- A file that is read to its end gives the load that its settings and its steps give.
use Rattle.refusal.specs.declared.Accepted.TheVariants.{Taken}
use Rattle.std.specs.Prelude.{Err, Ok}
use mathlib.Core.Path.{◌≡◌, refl, sym, ap, ◌∙◌, subst}
use mathlib.Core.Bool.{Bool, true, false, not, cond, true≢false, false≢true}
use mathlib.Core.List.{List, [], ◌∷◌, map}
use Prim.Native.Nat.{ℕ, zero, suc, ◌≤◌}
use native.Mathlib.Omega.{arith}
use lib.Dec.{eqb}
use lib.ListN.{length, drop, length-drop}
use Rattle.refusal.specs.declared.Refusal.TheVariants.{SettingsRange, ClockRange, RecordLength, RecordKind}
use Rattle.refusal.specs.First.{first_answer, is_refused}
use Rattle.settings.specs.declared.Settings.{Settings}
use Rattle.settings.specs.Settings.{over_counts, all_near, settings_tests}
use Rattle.fields.specs.Second.{settings_by}
use Rattle.load.specs.Steps.{undated, open_answer, opened, open_spec_of}
use Rattle.load.specs.Sound.{Opens}
use Rattle.steps.specs.Steps.{stepped}
use Rattle.steps.specs.Lists.{handed, end_of}
use Rattle.file.specs.declared.Reader.{Reader}
use Rattle.file.specs.declared.RecordResult.{RecordResult}
use Rattle.file.specs.declared.ReadResult.{ReadResult}
use Rattle.file.specs.Record.{fresh_reader, open_reader, step_in, stepped_by, record_spec}
use Rattle.file.specs.File.{starts_whole, size_of, body_of, version_answer, is_second, fed_spec, end_answer, ended_by, read_spec_of}
use Rattle.file.specs.Handed.{bodies_by, ReadHands}
use Rattle.file.proofs.FramedLaws.{bodies-stop, bodies-on}
use Rattle.file.proofs.FedLaws.{none-whole, whole_room, fed-stops, fed-refuses, fed-goes-on}
use Rattle.file.proofs.RecordLaws.{taken-settled}

-- ---- what a taken record does

steps : (r : Reader) (b : List ℕ) → r.opened ≡ true → is_refused (record_spec r b).answer ≡ false
    → (record_spec r b).reader ≡ open_reader (stepped r.load (step_in b)).load
unfolding stepped_by
steps r b o k = (taken-settled r b k).1 ∙ rw o refl

-- settings that are not sent back open a load
pub not-sent-back : (s : Settings) → is_refused (open_answer (undated s)) ≡ false → open_answer (undated s) ≡ Ok Taken
unfolding open_answer first_answer settings_tests
not-sent-back s e = go (over_counts s.origins s.targets s.max_transfers s.transfer_seconds) (not (all_near s.now s.epochs)) e
  where
    go : (x y : Bool) → is_refused (cond x (Err SettingsRange) (cond y (Err ClockRange) (Ok Taken))) ≡ false
        → cond x (Err SettingsRange) (cond y (Err ClockRange) (Ok Taken)) ≡ Ok Taken
    go true y e = absurd (true≢false e)
    go false true e = absurd (true≢false e)
    go false false e = refl

opens : (r : Reader) (b : List ℕ) → r.opened ≡ false → is_refused (record_spec r b).answer ≡ false
    → Opens (undated (settings_by r.second b)) × ((record_spec r b).reader ≡ open_reader (opened (undated (settings_by r.second b))))
unfolding stepped_by open_spec_of
opens r b o k =
    let t = taken-settled r b k in
    let f : is_refused (open_answer (undated (settings_by r.second b))) ≡ false =
    subst (λ (c : Bool). is_refused (cond c (stepped r.load (step_in b)) (open_spec_of (undated (settings_by r.second b)))).answer
    ≡ false) o t.0 in
    ((not-sent-back (settings_by r.second b) f, tt), t.1 ∙ rw (o, f) refl)

-- ---- the bodies

-- the rest of a file, once a load is opened: each body is handed to it
abbrev Hands : ℕ → Reader → List ℕ → ReadResult → Type 0
Hands n r xs f = is_refused f.answer ≡ false → f.reader.load ≡ handed r.load (map step_in (bodies_by n xs))

hands-stop : (n : ℕ) (r : Reader) (xs : List ℕ) → starts_whole xs ≡ false → Hands n r xs (fed_spec r xs)
hands-stop n r xs e = subst (Hands n r xs) (sym (fed-stops r xs e)) (λ k. rw (bodies-stop n xs e) refl)

hands-refused : (n : ℕ) (r : Reader) (xs : List ℕ) → starts_whole xs ≡ true → is_refused (record_spec r (body_of xs)).answer ≡ true
    → Hands n r xs (fed_spec r xs)
hands-refused n r xs e f = subst (Hands n r xs) (sym (fed-refuses r xs e f)) (λ k. absurd (true≢false (sym f ∙ k)))

hands_on : (n : ℕ) (r : Reader) (xs : List ℕ) → r.opened ≡ true → starts_whole xs ≡ true
    → is_refused (record_spec r (body_of xs)).answer ≡ false
    → Hands n (record_spec r (body_of xs)).reader (drop (size_of xs) xs)
    (fed_spec (record_spec r (body_of xs)).reader (drop (size_of xs) xs)) → Hands (suc n) r xs (fed_spec r xs)
hands_on n r xs o e f ih =
    subst (Hands (suc n) r xs) (sym (fed-goes-on r xs e f))
    (λ k. ih k ∙ ap (λ (q : Reader). handed q.load (map step_in (bodies_by n (drop (size_of xs) xs)))) (steps r (body_of xs) o f)
    ∙ sym (rw (bodies-on n xs e) refl))

hands : (n : ℕ) (r : Reader) (xs : List ℕ) → length xs ≤ n → r.opened ≡ true → Hands n r xs (fed_spec r xs)
hands zero r [] h o = hands-stop zero r [] none-whole
hands zero r (x ∷ xs) h o = absurd (omega arith)
hands (suc n) r xs h o =
    go (starts_whole xs) refl (is_refused (record_spec r (body_of xs)).answer) refl
    (λ (k : length (drop (size_of xs) xs) ≤ n) (q : (record_spec r (body_of xs)).reader.opened ≡ true).
    hands n (record_spec r (body_of xs)).reader (drop (size_of xs) xs) k q)
  where
    go : (b : Bool) → starts_whole xs ≡ b → (c : Bool) → is_refused (record_spec r (body_of xs)).answer ≡ c
        → (length (drop (size_of xs) xs) ≤ n → (record_spec r (body_of xs)).reader.opened ≡ true
        → Hands n (record_spec r (body_of xs)).reader (drop (size_of xs) xs)
        (fed_spec (record_spec r (body_of xs)).reader (drop (size_of xs) xs)))
        → Hands (suc n) r xs (fed_spec r xs)
    go false e c f ih = hands-stop (suc n) r xs e
    go true e true f ih = hands-refused (suc n) r xs e f
    go true e false f ih =
        let room = whole_room xs e in
        hands_on n r xs o e f (ih (rw (length-drop (size_of xs) xs) (omega (arith, room)))
        (ap (λ (q : Reader). q.opened) (steps r (body_of xs) o f)))

-- ---- the whole file

-- it ends with a load that was opened
end-opened : (o : Bool) (left : ℕ) → end_answer o left ≡ Ok Taken → o ≡ true
unfolding end_answer first_answer
end-opened o left e = go (not (eqb left 0)) o e
  where
    go : (x o : Bool) → cond x (Err RecordLength) (cond (not o) (Err RecordKind) (Ok Taken)) ≡ Ok Taken → o ≡ true
    go x true e = refl
    go true false e = absurd (true≢false (ap is_refused e))
    go false false e = absurd (true≢false (ap is_refused e))

-- no record was refused on the way
ended : (xs : List ℕ) (f : ReadResult) → (ended_by xs f).answer ≡ Ok Taken → (is_refused f.answer ≡ false) × (f.reader.opened ≡ true)
ended xs f e = go (is_refused f.answer) refl e
  where
    go : (c : Bool) → is_refused f.answer ≡ c → cond c f.answer (end_answer f.reader.opened (length (drop f.used xs))) ≡ Ok Taken
        → (is_refused f.answer ≡ false) × (f.reader.opened ≡ true)
    go true q k = absurd (true≢false (sym q ∙ ap is_refused k))
    go false q k = (q, end-opened f.reader.opened (length (drop f.used xs)) k)

-- past the version
read-on : (xs : List ℕ) → (read_spec_of xs).answer ≡ Ok Taken
    → read_spec_of xs ≡ ended_by (drop 1 xs) (fed_spec (fresh_reader (is_second xs)) (drop 1 xs))
unfolding read_spec_of
read-on xs e = go (is_refused (version_answer xs)) refl e
  where
    go : (c : Bool) → is_refused (version_answer xs) ≡ c
        → (cond c (record { answer = version_answer xs; reader = (fresh_reader (is_second xs)) })
        (ended_by (drop 1 xs) (fed_spec (fresh_reader (is_second xs)) (drop 1 xs)))).answer ≡ Ok Taken
        → cond c (record { answer = version_answer xs; reader = (fresh_reader (is_second xs)) })
        (ended_by (drop 1 xs) (fed_spec (fresh_reader (is_second xs)) (drop 1 xs)))
        ≡ ended_by (drop 1 xs) (fed_spec (fresh_reader (is_second xs)) (drop 1 xs))
    go true q k = absurd (true≢false (sym q ∙ ap is_refused k))
    go false q k = refl

-- the records that open a load and fill it
pub record Fills (second : Bool) (zs : List ℕ) (f : ReadResult) : Type 0 where
  pub head : List ℕ
  pub rest : List (List ℕ)
  pub bodies : bodies_by (length zs) zs ≡ head ∷ rest
  pub opens : Opens (undated (settings_by second head))
  pub ends : f.reader.load ≡ end_of (undated (settings_by second head)) (map step_in rest)

fills-on : (second : Bool) (z : ℕ) (zs : List ℕ) → starts_whole (z ∷ zs) ≡ true
    → is_refused (record_spec (fresh_reader second) (body_of (z ∷ zs))).answer ≡ false
    → is_refused (fed_spec (fresh_reader second) (z ∷ zs)).answer ≡ false → Fills second (z ∷ zs) (fed_spec (fresh_reader second) (z ∷ zs))
unfolding fresh_reader
fills-on second z zs e f k =
    let room = whole_room (z ∷ zs) e in
    let o = opens (fresh_reader second) (body_of (z ∷ zs)) refl f in
    let s = fed-goes-on (fresh_reader second) (z ∷ zs) e f in
    record {
      head = body_of (z ∷ zs);
      rest = bodies_by (length zs) (drop (size_of (z ∷ zs)) (z ∷ zs));
      bodies = bodies-on (length zs) (z ∷ zs) e;
      opens = o.0;
      ends =
          ap (λ (g : ReadResult). g.reader.load) s
          ∙ hands (length zs) (record_spec (fresh_reader second) (body_of (z ∷ zs))).reader (drop (size_of (z ∷ zs)) (z ∷ zs))
          (rw (length-drop (size_of (z ∷ zs)) (z ∷ zs)) (omega (arith, room))) (ap (λ (q : Reader). q.opened) o.1)
          (sym (ap (λ (g : ReadResult). is_refused g.answer) s) ∙ k)
          ∙ ap (λ (q : Reader). handed q.load (map step_in (bodies_by (length zs) (drop (size_of (z ∷ zs)) (z ∷ zs))))) o.1;
    }

fills-none : (second : Bool) (zs : List ℕ) → starts_whole zs ≡ false → (fed_spec (fresh_reader second) zs).reader.opened ≡ true → ⊥
unfolding fresh_reader
fills-none second zs e k = false≢true (sym (ap (λ (g : ReadResult). g.reader.opened) (fed-stops (fresh_reader second) zs e)) ∙ k)

fills : (second : Bool) (zs : List ℕ) → is_refused (fed_spec (fresh_reader second) zs).answer ≡ false
    → (fed_spec (fresh_reader second) zs).reader.opened ≡ true → Fills second zs (fed_spec (fresh_reader second) zs)
fills second [] k o = absurd (fills-none second [] none-whole o)
fills second (z ∷ zs) k o = go (starts_whole (z ∷ zs)) refl (is_refused (record_spec (fresh_reader second) (body_of (z ∷ zs))).answer) refl
  where
    go : (b : Bool) → starts_whole (z ∷ zs) ≡ b → (c : Bool)
        → is_refused (record_spec (fresh_reader second) (body_of (z ∷ zs))).answer ≡ c
        → Fills second (z ∷ zs) (fed_spec (fresh_reader second) (z ∷ zs))
    go false e c f = absurd (fills-none second (z ∷ zs) e o)
    go true e true f = absurd (true≢false (sym f
        ∙ sym (ap (λ (g : ReadResult). is_refused g.answer) (fed-refuses (fresh_reader second) (z ∷ zs) e f)) ∙ k))
    go true e false f = fills-on second z zs e f k

pub read-hands : ReadHands
read-hands xs e =
    let q = read-on xs e in
    let n = ended (drop 1 xs) (fed_spec (fresh_reader (is_second xs)) (drop 1 xs)) (sym (ap (λ (t : RecordResult). t.answer) q) ∙ e) in
    let f = fills (is_second xs) (drop 1 xs) n.0 n.1 in
    record {
      head = f.head;
      rest = f.rest;
      bodies = f.bodies;
      opens = f.opens;
      ends = ap (λ (t : RecordResult). t.reader.load) q ∙ f.ends;
    }
