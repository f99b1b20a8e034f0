-- A file in parts is read as one that is there whole.
use Rattle.std.proofs.Common.{◌≡◌, refl, sym, ap, subst, ◌∙◌, ℕ, ◌+◌, ◌-◌, ◌≤◌, ◌<◌, arith, Bool, true, false, None, Some, IfSome}
use Rattle.std.proofs.Common.{List, [], ◌∷◌, ◌++◌, length, take, drop, get_or, slice_range}
use Rattle.std.proofs.Common.{append_assoc, append-nil, length-append, length-drop, length-take-le}
use Rattle.std.specs.Prelude.{zero, suc, Option, Result, Ok, Err, IfOk, cond, ◌||◌, min}
use Rattle.std.specs.Io.KnownBytes.{Consumes, IsAtEnd}
use Rattle.std.proofs.KnownBytes.{Consumes-nil, Consumes-trans}
use Rattle.std.proofs.lemmas.List.{drop-append-le}
use Rattle.std.proofs.lemmas.Slice.{between_is, between_from_start}
use lib.Dec.{eqb}
use lib.Seq.{drop-drop}
use borrow.Rule.Slice.PartMut.{put_mid, post_of}
use Rattle.refusal.specs.declared.Accepted.TheVariants.{Taken}
use Rattle.refusal.specs.declared.Refusal.TheVariants.{FileVersion}
use Rattle.refusal.specs.First.{is_refused, Answer}
use Rattle.file.specs.declared.Reader.{Reader}
use Rattle.file.specs.declared.ReadResult.{ReadResult}
use Rattle.file.specs.declared.RecordResult.{RecordResult}
use Rattle.file.specs.declared.Used.{Used}
use Rattle.file.specs.Record.{fresh_reader, took}
use Rattle.file.specs.File.{version_answer, is_second, fed_as, fed_spec, later, continued, end_answer, ended_by, read_spec_of}
use Rattle.file.proofs.FedLaws.{fed-in-parts, fed-room}
use Rattle.reader.proofs.ReadLaws.{version_room}
use Rattle.stdio.proofs.FullLaws.{put-behind}
use Rattle.parts.specs.Input.{records_of, input_of, FreshReads}

-- what an answer shows, where there is one
pub if-answered : {A E : Type 0} {P Q : A → Type 0} (r : Result A E) → ((a : A) → P a → Q a) → IfOk r P → IfOk r Q
if-answered (Ok a) f p = f a p
if-answered (Err e) f p = tt

-- ---- a fresh reader

abbrev version_by : Bool → Answer
version_by known = cond known (Ok Taken) (Err FileVersion)

-- the two sides, by whether byte 0 is 1, and whether it is 2
fresh-by : (first second : Bool) (xs : List ℕ)
    → cond (is_refused (version_by (first || second))) (took (version_by (first || second)) (fresh_reader false))
    (records_of (fresh_reader second) xs)
    ≡ cond (is_refused (version_by (first || second))) (took (version_by (first || second)) (fresh_reader second))
    (records_of (fresh_reader second) xs)
fresh-by true second xs = refl
fresh-by false true xs = refl
fresh-by false false xs = refl

pub fresh-reads : FreshReads
unfolding input_of read_spec_of version_answer fresh_reader
fresh-reads xs = fresh-by (eqb (get_or xs 0 0) 1) (eqb (get_or xs 0 0) 2) (drop 1 xs)

-- ---- the records

-- reading on gives what reading the whole gives: zs and all that was left of the input, to the reader r₀; or w and what is left of it now,
-- to r
pub record Reads (known₀ known : Option (List ℕ)) (r₀ : Reader) (zs : List ℕ) (r : Reader) (w : List ℕ) : Type 0 where
  pub read : List ℕ
  pub consumed : Consumes known₀ known read
  pub same : (ys : List ℕ) → records_of r₀ (zs ++ (read ++ ys)) ≡ records_of r (w ++ ys)

pub reads-all : (known : Option (List ℕ)) (r : Reader) (w zs : List ℕ) → w ≡ zs → Reads known known r zs r w
reads-all known r w zs e = record {
  read = [];
  consumed = Consumes-nil known;
  same = λ ys. ap (λ (l : List ℕ). records_of r (l ++ ys)) (sym e);
}

-- the end of records, behind which these bytes are left
abbrev ended_with : ReadResult → List ℕ → RecordResult
ended_with g left = took (cond (is_refused g.answer) g.answer (end_answer g.reader.opened (length left))) g.reader

on-by : (g : ReadResult) (u : ℕ) (w ys : List ℕ) → u ≤ length w → ended_by (w ++ ys) (later u g) ≡ ended_by (drop u w ++ ys) g
on-by g u w ys h = ap (ended_with g) (sym (drop-drop g.used u (w ++ ys)) ∙ ap (drop g.used) (drop-append-le u w ys h))

-- a part whose records were fed
module _ (r : Reader) (w : List ℕ) {s : Reader} {f : Used} (fed : fed_as f s ≡ fed_spec r w) where
  pub fed-within : f.used ≤ length w
  fed-within = subst (λ (g : ReadResult). g.used ≤ length w) (sym fed) (fed-room r w)

  in-parts : (ys : List ℕ) → fed_spec r (w ++ ys) ≡ continued (fed_as f s) w ys
  in-parts ys = fed-in-parts r w ys ∙ ap (λ (g : ReadResult). continued g w ys) (sym fed)

  taken-on : is_refused f.answer ≡ false → (ys : List ℕ) → records_of r (w ++ ys) ≡ records_of s (drop f.used w ++ ys)
  taken-on e ys =
      let next : continued (fed_as f s) w ys ≡ later f.used (fed_spec s (drop f.used w ++ ys)) = rw e refl in
      ap (ended_by (w ++ ys)) (in-parts ys ∙ next) ∙ on-by (fed_spec s (drop f.used w ++ ys)) f.used w ys fed-within

  sent-back : is_refused f.answer ≡ true → (ys : List ℕ) → records_of r (w ++ ys) ≡ took f.answer s
  sent-back e ys =
      let here : continued (fed_as f s) w ys ≡ fed_as f s = rw e refl in
      let whole : ended_by (w ++ ys) (fed_as f s) ≡ took f.answer s = rw e refl in
      ap (ended_by (w ++ ys)) (in-parts ys ∙ here) ∙ whole

  ended-as : is_refused f.answer ≡ false → records_of r w ≡ took (end_answer s.opened (length w - f.used)) s
  ended-as e =
      let whole : ended_by w (fed_as f s) ≡ took (end_answer s.opened (length w - f.used)) s = rw (e, length-drop f.used w) refl in
      ap (ended_by w) (sym fed) ∙ whole

  module _ {known₀ known : Option (List ℕ)} {r₀ : Reader} {zs : List ℕ} (l : Reads known₀ known r₀ zs r w) {t : Bool}
      (t-is : t ≡ is_refused f.answer) where
    pub reads-on : t ≡ false → (next : Option (List ℕ)) (d v : List ℕ) → Consumes known next d → v ≡ drop f.used w ++ d
        → Reads known₀ next r₀ zs s v
    reads-on e next d v more v-is = record {
      read = l.read ++ d;
      consumed = Consumes-trans _ _ _ _ _ l.consumed more;
      same = λ ys.
          ap (λ (k : List ℕ). records_of r₀ (zs ++ k)) (append_assoc l.read d ys) ∙ l.same (d ++ ys)
          ∙ taken-on (sym t-is ∙ e) (d ++ ys)
          ∙ ap (records_of s) (sym (append_assoc (drop f.used w) d ys) ∙ ap (λ (k : List ℕ). k ++ ys) (sym v-is));
    }

    pub reads-refused : t ≡ true → IfSome known₀ (λ xs. took f.answer s ≡ records_of r₀ (zs ++ xs))
    reads-refused e = go known₀ known l.consumed
      where
        go : (p q : Option (List ℕ)) → Consumes p q l.read → IfSome p (λ xs. took f.answer s ≡ records_of r₀ (zs ++ xs))
        go None q h = tt
        go (Some xs) None h = absurd h
        go (Some xs) (Some ys) h =
            sym (ap (λ (k : List ℕ). records_of r₀ (zs ++ k)) h ∙ l.same ys ∙ sent-back (sym t-is ∙ e) ys)

    pub reads-ended : t ≡ false → IsAtEnd known → (b : Answer) (n : ℕ) → b ≡ end_answer s.opened n → n + f.used ≡ length w
        → IfSome known₀ (λ xs. took b s ≡ records_of r₀ (zs ++ xs))
    reads-ended e over b n b-is n-is = go known₀ known l.consumed over
      where
        left : length w - f.used ≡ n
        left = omega (arith, n-is)

        go : (p q : Option (List ℕ)) → Consumes p q l.read → IsAtEnd q → IfSome p (λ xs. took b s ≡ records_of r₀ (zs ++ xs))
        go None q h o = tt
        go (Some xs) None h o = absurd h
        go (Some xs) (Some ys) h o =
            sym (ap (λ (k : List ℕ). records_of r₀ (zs ++ k)) h ∙ l.same ys ∙ ap (λ (k : List ℕ). records_of r (w ++ k)) o
            ∙ ap (records_of r) (append-nil w) ∙ ended-as (sym t-is ∙ e)
            ∙ ap (λ (k : ℕ). took (end_answer s.opened k) s) left ∙ ap (λ (a : Answer). took a s) (sym b-is))

-- ---- parts of the buffer

-- behind the byte of the version
pub behind-version : (at n : ℕ) (xs : List ℕ) → at ≡ min n 1 → slice_range xs at n ≡ drop 1 (take n xs)
behind-version at zero xs e =
    let none : at ≡ 0 = omega arith in
    between_is xs at 0 ∙ ap (λ (k : ℕ). drop k (take 0 xs)) none
behind-version at (suc n) xs e =
    let one : at ≡ 1 = omega arith in
    between_is xs at (suc n) ∙ ap (λ (k : ℕ). drop k (take (suc n) xs)) one

-- what is left of a part, and what is read behind it
pub next-part : (xs : List ℕ) (at held from used left n k : ℕ) (ys part : List ℕ) → take left ys ≡ drop from (take held xs)
    → from ≡ at + used → left ≤ length ys → n ≤ length part
    → slice_range (put_mid left k ys part) 0 (left + n) ≡ drop used (slice_range xs at held) ++ take n part
next-part xs at held from used left n k ys part moved from-is within fits =
    between_from_start (put_mid left k ys part) (left + n) ∙ put-behind left k n ys part within fits
    ∙ ap (λ (l : List ℕ). l ++ take n part)
    (moved ∙ ap (λ (m : ℕ). drop m (take held xs)) from-is ∙ sym (drop-drop used at (take held xs))
    ∙ ap (drop used) (sym (between_is xs at held)))

-- it is as long as what was read
pub next-long : (xs ys : List ℕ) (a n : ℕ) → a ≤ length xs → a + n < length (put_mid a (length xs - a) xs ys) → n < length ys
next-long xs ys a n p h =
    omega (
      arith,
      h,
      length-append (take a xs) (ys ++ post_of a (length xs - a) xs),
      length-append ys (post_of a (length xs - a) xs),
      length-take-le a xs p,
      length-drop (length xs - a) (drop a xs),
      length-drop a xs,
    )

-- ---- the version

-- the first part begins as the whole
first-same : (w ys : List ℕ) → (length w ≡ 0 → ys ≡ []) → get_or (w ++ ys) 0 0 ≡ get_or w 0 0
first-same [] ys h = ap (λ (l : List ℕ). get_or l 0 0) (h refl)
first-same (x ∷ w) ys h = refl

version-same : (w ys : List ℕ) → (length w ≡ 0 → ys ≡ []) → version_answer (w ++ ys) ≡ version_answer w
unfolding version_answer
version-same w ys h = ap (λ (n : ℕ). version_by (eqb n 1 || eqb n 2)) (first-same w ys h)

pub version-refused : (p q : Option (List ℕ)) (r : Reader) (w : List ℕ) {a : Answer} {t : Bool} → Consumes p q w
    → (length w ≡ 0 → IsAtEnd q) → a ≡ version_answer w → t ≡ is_refused a → t ≡ true → IfSome p (λ xs. took a r ≡ input_of r xs)
unfolding input_of
version-refused None q r w h o a-is t-is e = tt
version-refused (Some xs) None r w h o a-is t-is e = absurd h
version-refused (Some xs) (Some ys) r w {a} h o a-is t-is e =
    let whole : version_answer xs ≡ a = ap version_answer h ∙ version-same w ys o ∙ sym a-is in
    sym (rw (whole, sym t-is ∙ e) refl)

pub version-taken : (p q : Option (List ℕ)) (r : Reader) (w : List ℕ) {a : Answer} {t v : Bool} (b : Answer) (s : Reader) → Consumes p q w
    → (length w ≡ 0 → IsAtEnd q) → a ≡ version_answer w → t ≡ is_refused a → t ≡ false → v ≡ is_second w
    → IfSome q (λ ys. took b s ≡ records_of (record { opened = r.opened; second = v; load = r.load }) (drop 1 w ++ ys))
    → IfSome p (λ xs. took b s ≡ input_of r xs)
unfolding input_of
version-taken None q r w b s h o a-is t-is e v-is on = tt
version-taken (Some xs) None r w b s h o a-is t-is e v-is on = absurd h
version-taken (Some xs) (Some ys) r w {a} {t} {v} b s h o a-is t-is e v-is on =
    let whole : version_answer xs ≡ a = ap version_answer h ∙ version-same w ys o ∙ sym a-is in
    let second : v ≡ is_second xs = v-is ∙ ap (λ (n : ℕ). eqb n 2) (sym (first-same w ys o) ∙ ap (λ (l : List ℕ). get_or l 0 0) (sym h)) in
    let room : 1 ≤ length w = version_room w (ap is_refused (sym a-is) ∙ sym t-is ∙ e) in
    let rest : drop 1 w ++ ys ≡ drop 1 xs = sym (drop-append-le 1 w ys room) ∙ ap (drop 1) (sym h) in
    on ∙ (λ k. records_of (record { opened = r.opened; second = second k; load = r.load }) (rest k))
    ∙ sym (rw (whole, sym t-is ∙ e) refl)
