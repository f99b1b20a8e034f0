-- The loop packs the calls due by the horizon, trimmed, and leaves blanks.
use Prim.Native.Nat.{◌≤◌, ◌<◌}
use mathlib.Core.Path.{◌≡◌, sym, ap, ◌∙◌}
use native.Mathlib.Omega.{arith}
use lib.ListN.{length, get_or, take, set, length-take}
use lib.Seq.{take_all}
use Rattle.laws.specs.Lists.{padded}
use Rattle.laws.proofs.Pack.{packs-keep, packs-drop}
use Rattle.calls.specs.Tables.{blank_call, trim_all, cut}
use Rattle.table.proofs.cuts.cut_to.Goals.{then-due, else-due}
use Rattle.table.proofs.cuts.cut_to.Goals as goal

pub bounds-calls-count : goal.bounds-calls-count
bounds-calls-count c =
    let long = ap length c.first-call-items.ensures ∙ length-take c.args.t.count c.args.t.calls in
    omega (arith, c.loop-call.invariant.small, c.loop-call-test.true, long)

pub loop-call-preserved : goal.loop-call-preserved
loop-call-preserved c =
    let l = take c.args.t.count c.args.t.calls in
    let k : c.first-call-items.result.now ≡ l = c.first-call-items.ensures in
    let h : c.loop-call.call-index < length l = omega (arith, c.loop-call-test.true, ap length k) in
    let i = c.loop-call.call-index in
    let g : get_or l i blank_call ≡ get_or c.first-call-items.result.now i blank_call = ap (λ m. get_or m i blank_call) (sym k) in
    let s = c.loop-call.invariant in
    elim c.if-due.branch [
      | then-due w ↦ packs-keep _ _ _ _ _ blank_call i _ _ _ _ _ h g s
          (omega (arith, s.small, h, length-take c.args.t.count c.args.t.calls))
          (sym c.due.ensures ∙ w.if-due.true) w.count-is (w.calls-is ∙ ap (set c.loop-call.calls c.loop-call.count) w.trimmed.ensures)
      | else-due w ↦ packs-drop _ _ _ _ _ blank_call i _ _ _ _ _ h g s (sym c.due.ensures ∙ w.if-due.false) w.count-is w.calls-is
    ]

pub returns : goal.returns
unfolding cut
returns c =
    let l = take c.args.t.count c.args.t.calls in
    let all : length l ≤ c.loop-call.call-index = omega (arith, c.loop-call-test.false, ap length c.first-call-items.ensures) in
    let whole : take c.loop-call.call-index l ≡ l = take_all c.loop-call.call-index l all in
    let s = c.loop-call.invariant in
    λ k. record {
      calls = (s.list ∙ ap (λ m. padded blank_call 512 (trim_all c.args.h m)) whole) k;
      count = (s.count ∙ ap (λ m. length (trim_all c.args.h m)) whole) k;
      horizon = c.args.h;
      limits = 1;
    }
