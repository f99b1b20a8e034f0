-- The parts of a file put one after the other, and the buffer after it.
use Rattle.std.specs.Prelude.{Err, Ok}
use mathlib.Core.Path.{◌≡◌, refl, ◌∙◌}
use mathlib.Core.Bool.{Bool, true, false}
use mathlib.Core.List.{List, [], ◌∷◌, ◌++◌}
use Prim.Native.Nat.{ℕ, ◌*◌, ◌≤◌, ◌<◌}
use native.Mathlib.Omega.{arith}
use lib.ListN.{length, take, drop, length-take}
use borrow.Author.Tests.{lt-ltb, le-ltb}
use Rattle.laws.specs.Lists.{concat_map}
use Rattle.refusal.specs.declared.Refusal.TheVariants.{LoadUnwritable, BufferShort}
use Rattle.refusal.specs.First.{first_answer}
use Rattle.stops.specs.declared.Stop.{Stop}
use Rattle.stops.specs.Stops.{id_of, name_of}
use Rattle.rules.specs.declared.Rule.{Rule}
use Rattle.calls.specs.declared.Call.{Call}
use Rattle.load.specs.declared.Load.{Load}
use Rattle.load.specs.Load.{stopped}
use Rattle.buffer.specs.declared.Buffer.{Buffer}
use Rattle.buffer.specs.Put.{Put}
use Rattle.buffer.proofs.PutLaws.{put-none, put_then, put_as, put-within}
use Rattle.codec.specs.Shapes.{framed}
use Rattle.codec.specs.Kinds.{settings_body, stop_body, rule_body, call_body, search_body}
use Rattle.codec.specs.Parts.{at_start, parent_id_of, stop_input_of, call_input_of}
use Rattle.buffer.specs.Bytes.{two_bytes}
use Rattle.writer.specs.File.{settings_file, stop_file, rule_file, call_file, search_file, write_spec_of}
use Rattle.writer.specs.Wrote.{unwritable, write_tests, wrote_spec, buffer_after}
use Rattle.week.specs.Weeks.{is_dated}

pub search-there : {t : Bool} {a b : Buffer} → t ≡ true → Put 3 (0 ∷ 1 ∷ 5 ∷ []) a b → Put 3 (search_file t) a b
unfolding search_file search_body framed two_bytes
search-there e p = rw e p

pub search-none : {t : Bool} {a : Buffer} → t ≡ false → Put 3 (search_file t) a a
unfolding search_file
search-none {a = a} e = rw e (put-within 3 (omega arith) (put-none a))

module _ (l : Load) where
  pub file-put : {stops : List Stop} {rules : List Rule} {calls : List Call} {a b c d e f g : Buffer}
      → length l.stops ≡ 128 → length l.rules ≡ 128 → length l.calls ≡ 512
      → stops ≡ take l.stop_count l.stops → rules ≡ take l.rule_count l.rules → calls ≡ take l.call_count l.calls
      → Put 1 (2 ∷ []) a b → Put 65537 (framed (settings_body (at_start l.settings))) b c
      → Put (65537 * length stops) (concat_map (λ (s : Stop).
      framed (stop_body (id_of s) (name_of s) (parent_id_of l.stops s) (stop_input_of s))) stops) c d
      → Put (65537 * length rules) (concat_map (λ (r : Rule). framed (rule_body r)) rules) d e
      → Put (65537 * length calls) (concat_map (λ (k : Call). framed (call_body (call_input_of k))) calls) e f
      → Put 3 (search_file l.searched) f g → Put 50397957 (write_spec_of l) a g
  unfolding write_spec_of settings_file stop_file rule_file call_file
  file-put {stops} {rules} {calls} ns nr nc es er ec p q r s t u =
      let whole = put_then p (put_then q (put_then r (put_then s (put_then t u)))) in
      let x : length stops ≤ 128 = rw es (omega (arith, length-take l.stop_count l.stops)) in
      let y : length rules ≤ 128 = rw er (omega (arith, length-take l.rule_count l.rules)) in
      let z : length calls ≤ 512 = rw ec (omega (arith, length-take l.call_count l.calls)) in
      put_as (rw (es, er, ec) refl) (put-within 50397957 (omega (arith, whole.small)) whole)

-- ---- 25, 26, or the file at the start of the buffer

module _ (l : Load) (before : List ℕ) where
  abbrev room : ℕ
  room = length before

  pub wrote-barred : unwritable (is_dated l.week) (stopped l) l.table_horizon ≡ true
      → (Err LoadUnwritable ≡ wrote_spec l room) × (before ≡ buffer_after l before)
  unfolding wrote_spec buffer_after write_tests first_answer
  wrote-barred e = (rw e refl, rw e refl)

  pub wrote-short : unwritable (is_dated l.week) (stopped l) l.table_horizon ≡ false → room < length (write_spec_of l)
      → (Err BufferShort ≡ wrote_spec l room) × (before ≡ buffer_after l before)
  unfolding wrote_spec buffer_after write_tests first_answer
  wrote-short e h = let k = lt-ltb room (length (write_spec_of l)) h in (rw (e, k) refl, rw (e, k) refl)

  pub wrote-all : {n : ℕ} {after : List ℕ} → unwritable (is_dated l.week) (stopped l) l.table_horizon ≡ false → n ≡ length (write_spec_of l)
      → length (write_spec_of l) ≤ room → after ≡ write_spec_of l ++ drop (length (write_spec_of l)) before
      → (Ok n ≡ wrote_spec l room) × (after ≡ buffer_after l before)
  unfolding wrote_spec buffer_after write_tests first_answer
  wrote-all e f h p = let k = le-ltb room (length (write_spec_of l)) h in (rw (e, k, f) refl, p ∙ rw (e, k) refl)
