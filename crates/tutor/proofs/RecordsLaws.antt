-- Whole records at the start of bytes, none of which is refused: the records that stand there, and the step that each says.
use Rattle.std.specs.Prelude.{Err}
use mathlib.Core.Path.{◌≡◌, refl, sym, ap, ◌∙◌, subst}
use mathlib.Core.Logic.{◌⊎◌, inl, inr}
use mathlib.Core.Bool.{Bool, true, false, true≢false}
use mathlib.Core.List.{List, [], ◌∷◌}
use Prim.Native.Nat.{ℕ, zero, suc, ◌+◌, ◌*◌, ◌≤◌}
use native.Mathlib.Omega.{arith}
use lib.Dec.{leb}
use lib.ListN.{length, take, drop, length-take, length-drop, take-append-drop}
use lib.Seq.{drop-drop}
use borrow.Author.Tests.{leb-true, not-false}
use Rattle.laws.specs.Lists.{All}
use Rattle.laws.proofs.Bools.{and-true-left, and-true-right}
use Rattle.refusal.specs.declared.Refusal.{Refusal}
use Rattle.refusal.specs.First.{First, hit, miss, is_refused, Answer}
use Rattle.fields.specs.Numbers.{byte_at, u16_at}
use Rattle.fields.specs.Layout.{text_at, option_text_at, name_at, parent_at, stop_filled_of, call_filled_of, rule_filled_of}
use Rattle.fields.specs.Layout.{search_filled_of}
use Rattle.fields.specs.Records.{stop_in, call_in, rule_in}
use Rattle.load.specs.FillStep.{stop, call, rule}
use Rattle.steps.specs.Steps.{Step, filling, search, stepped}
use Rattle.steps.specs.Lists.{handed}
use Rattle.file.specs.declared.Reader.{Reader}
use Rattle.file.specs.declared.ReadResult.{ReadResult}
use Rattle.file.specs.Record.{open_reader, kind_right, filled, record_tests, step_in, stepped_by, record_spec}
use Rattle.file.specs.File.{starts_whole, size_of, body_of, fed_spec}
use Rattle.file.proofs.RecordLaws.{record-answered, taken-settled}
use Rattle.file.proofs.FedLaws.{none-whole, whole_room, fed-stops, fed-refuses, fed-goes-on}
use Rattle.comparison.specs.Demands.{answers_from}
use Rattle.tutor.specs.Paper.{Records, no_more, one_more, Says, a_stop, a_call, a_rule, a_search, EachSays, no_step, a_step}
use Rattle.tutor.specs.Tutor.{NotRefused}

-- ---- a record that is taken passed the tests

passed : {a : Answer} {b : Bool} {r : Refusal} {ts : List (Bool × Answer)} → First a ((b, Err r) ∷ ts) → is_refused a ≡ false
    → (b ≡ false) × First a ts
passed (hit e) k = absurd (true≢false k)
passed (miss e f) k = (e, f)

pub taken-tests : (r : Reader) (b : List ℕ) → is_refused (record_spec r b).answer ≡ false
    → (kind_right r.opened (byte_at b 0) ≡ true) × (filled r.second b ≡ true)
unfolding record_tests
taken-tests r b k =
    let p = passed (record-answered r b).first k in
    let q = passed p.1 k in
    let t = passed q.1 k in
    (not-false (kind_right r.opened (byte_at b 0)) q.0, not-false (filled r.second b) t.0)

pub not_refused : (a : Answer) → is_refused a ≡ false → NotRefused a
not_refused a k r e = true≢false (sym (ap is_refused e) ∙ k)

-- ---- the step that it says

kinds : (k : ℕ) → 2 ≤ k → k ≤ 5 → (k ≡ 2) ⊎ ((k ≡ 3) ⊎ ((k ≡ 4) ⊎ (k ≡ 5)))
kinds zero h g = absurd (omega arith)
kinds (suc zero) h g = absurd (omega arith)
kinds (suc (suc zero)) h g = inl refl
kinds (suc (suc (suc zero))) h g = inr (inl refl)
kinds (suc (suc (suc (suc zero)))) h g = inr (inr (inl refl))
kinds (suc (suc (suc (suc (suc zero))))) h g = inr (inr (inr refl))
kinds (suc (suc (suc (suc (suc (suc k)))))) h g = absurd (omega arith)

module _ (second : Bool) (b : List ℕ) (f : filled second b ≡ true) where
  by_kind : (byte_at b 0 ≡ 2) ⊎ ((byte_at b 0 ≡ 3) ⊎ ((byte_at b 0 ≡ 4) ⊎ (byte_at b 0 ≡ 5))) → Says b (step_in b)
  unfolding filled step_in
  by_kind (inl e) =
      let g : filled second b ≡ stop_filled_of b = rw e refl in
      let s : step_in b ≡ filling (stop (text_at b 1) (option_text_at b (name_at b)) (option_text_at b (parent_at b)) (stop_in b)) =
      rw e refl in
      subst (Says b) (sym s) (a_stop e (sym g ∙ f))
  by_kind (inr (inl e)) =
      let g : filled second b ≡ call_filled_of b = rw e refl in
      let s : step_in b ≡ filling (call [] (call_in b)) = rw e refl in
      subst (Says b) (sym s) (a_call e (sym g ∙ f))
  by_kind (inr (inr (inl e))) =
      let g : filled second b ≡ rule_filled_of b = rw e refl in
      let s : step_in b ≡ filling (rule (rule_in b)) = rw e refl in
      subst (Says b) (sym s) (a_rule e (sym g ∙ f))
  by_kind (inr (inr (inr e))) =
      let g : filled second b ≡ search_filled_of b = rw e refl in
      let s : step_in b ≡ search = rw e refl in
      subst (Says b) (sym s) (a_search e (sym g ∙ f))

  says : kind_right true (byte_at b 0) ≡ true → Says b (step_in b)
  unfolding kind_right
  says k = by_kind (kinds (byte_at b 0) (leb-true 2 (byte_at b 0) (and-true-left (leb 2 (byte_at b 0)) (leb (byte_at b 0) 5) k))
      (leb-true (byte_at b 0) 5 (and-true-right (leb 2 (byte_at b 0)) (leb (byte_at b 0) 5) k)))

-- what a taken record does to an open load
record Stepping (r : Reader) (b : List ℕ) : Type 0 where
  says : Says b (step_in b)
  accepted : NotRefused (stepped r.load (step_in b)).answer
  reader : (record_spec r b).reader ≡ open_reader (stepped r.load (step_in b)).load

stepping : (r : Reader) (b : List ℕ) → r.opened ≡ true → is_refused (record_spec r b).answer ≡ false → Stepping r b
unfolding stepped_by
stepping r b o k =
    let t = taken-tests r b k in
    let w = taken-settled r b k in
    let s : stepped_by r b ≡ stepped r.load (step_in b) = rw o refl in
    record {
      says = says r.second b t.1 (subst (λ (c : Bool). kind_right c (byte_at b 0) ≡ true) o t.0);
      accepted = not_refused (stepped r.load (step_in b)).answer (sym (ap (λ q. is_refused q.answer) s) ∙ w.0);
      reader = w.1 ∙ ap (λ q. open_reader q.load) s;
    }

-- ---- the bytes of a whole record

pub whole-record : (xs : List ℕ) (bs : List (List ℕ)) → starts_whole xs ≡ true → Records (drop (size_of xs) xs) bs
    → Records xs (body_of xs ∷ bs)
unfolding u16_at
whole-record [] bs e w = absurd (let room = whole_room [] e in omega (arith, room))
whole-record (a ∷ []) bs e w = absurd (let room = whole_room (a ∷ []) e in omega (arith, room))
whole-record (a ∷ b ∷ xs) bs e w =
    let room = whole_room (a ∷ b ∷ xs) e in
    let n : ℕ = a * 256 + b in
    let long : length (take n xs) ≡ n = simp length-take (omega (arith, room)) in
    subst (λ (ys : List ℕ). Records (a ∷ b ∷ ys) (take n xs ∷ bs)) (take-append-drop n xs)
    (one_more a b long (subst (λ (ys : List ℕ). Records ys bs) (sym (drop-drop n 2 (a ∷ b ∷ xs))) w))

-- ---- all of them, once a load is opened

pub record Rest (r : Reader) (xs : List ℕ) (f : ReadResult) : Type 0 where
  pub bodies : List (List ℕ)
  pub steps : List Step
  pub records : Records xs bodies
  pub said : EachSays bodies steps
  pub accepted : All NotRefused (answers_from r.load steps)
  pub ends : f.reader.load ≡ handed r.load steps

-- none was refused, and no byte is left
abbrev Goes : Reader → List ℕ → ReadResult → Type 0
Goes r xs f = is_refused f.answer ≡ false → drop f.used xs ≡ [] → Rest r xs f

goes-stop : (r : Reader) (xs : List ℕ) → starts_whole xs ≡ false → Goes r xs (fed_spec r xs)
goes-stop r xs e = subst (Goes r xs) (sym (fed-stops r xs e)) (λ k d. record {
  bodies = [];
  steps = [];
  records = subst (λ (ys : List ℕ). Records ys []) (sym d) no_more;
  said = no_step;
  accepted = tt;
  ends = refl;
})

goes-refused : (r : Reader) (xs : List ℕ) → starts_whole xs ≡ true → is_refused (record_spec r (body_of xs)).answer ≡ true
    → Goes r xs (fed_spec r xs)
goes-refused r xs e f = subst (Goes r xs) (sym (fed-refuses r xs e f)) (λ k d. absurd (true≢false (sym f ∙ k)))

goes_on : (r : Reader) (xs : List ℕ) → r.opened ≡ true → starts_whole xs ≡ true → is_refused (record_spec r (body_of xs)).answer ≡ false
    → Goes (record_spec r (body_of xs)).reader (drop (size_of xs) xs)
    (fed_spec (record_spec r (body_of xs)).reader (drop (size_of xs) xs)) → Goes r xs (fed_spec r xs)
goes_on r xs o e f ih = subst (Goes r xs) (sym (fed-goes-on r xs e f)) (λ k d.
    let g = fed_spec (record_spec r (body_of xs)).reader (drop (size_of xs) xs) in
    let w = ih k (drop-drop g.used (size_of xs) xs ∙ d) in
    let s = stepping r (body_of xs) o f in
    record {
      bodies = body_of xs ∷ w.bodies;
      steps = step_in (body_of xs) ∷ w.steps;
      records = whole-record xs w.bodies e w.records;
      said = a_step s.says w.said;
      accepted = (s.accepted, subst (λ (q : Reader). All NotRefused (answers_from q.load w.steps)) s.reader w.accepted);
      ends = w.ends ∙ ap (λ (q : Reader). handed q.load w.steps) s.reader;
    })

pub goes : (n : ℕ) (r : Reader) (xs : List ℕ) → length xs ≤ n → r.opened ≡ true → Goes r xs (fed_spec r xs)
goes zero r [] h o = goes-stop r [] none-whole
goes zero r (x ∷ xs) h o = absurd (omega arith)
goes (suc n) r xs h o =
    go (starts_whole xs) refl (is_refused (record_spec r (body_of xs)).answer) refl
    (λ (k : length (drop (size_of xs) xs) ≤ n) (q : (record_spec r (body_of xs)).reader.opened ≡ true).
    goes n (record_spec r (body_of xs)).reader (drop (size_of xs) xs) k q)
  where
    go : (b : Bool) → starts_whole xs ≡ b → (c : Bool) → is_refused (record_spec r (body_of xs)).answer ≡ c
        → (length (drop (size_of xs) xs) ≤ n → (record_spec r (body_of xs)).reader.opened ≡ true
        → Goes (record_spec r (body_of xs)).reader (drop (size_of xs) xs)
        (fed_spec (record_spec r (body_of xs)).reader (drop (size_of xs) xs)))
        → Goes r xs (fed_spec r xs)
    go false e c f ih = goes-stop r xs e
    go true e true f ih = goes-refused r xs e f
    go true e false f ih =
        let room = whole_room xs e in
        goes_on r xs o e f (ih (rw (length-drop (size_of xs) xs) (omega (arith, room)))
        (ap (λ (q : Reader). q.opened) (stepping r (body_of xs) o f).reader))
