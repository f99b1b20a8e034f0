-- `next` meets its contract: the lowest set digit comes first.
use Rattle.std.proofs.Common.{ap, length, arith}
use Rattle.rides.proofs.LoopLaws.{digits-none, digits-first}
use Rattle.rides.proofs.bits.DigitsIterator.next.Goals as goal

pub returns-then-m-eq0-clause-steps : goal.returns-then-m-eq0-clause-steps
returns-then-m-eq0-clause-steps c = (digits-none c.if-m-eq0.true, digits-none c.if-m-eq0.true)

pub returns-clause-steps : goal.returns-clause-steps
returns-clause-steps c = digits-first c.if-m-eq0.false c.args.self.now.small

pub returns-clause-goes : goal.returns-clause-goes
returns-clause-goes c =
    let e = digits-first c.if-m-eq0.false c.args.self.now.small in
    record { on = λ _. (tt, tt, omega (arith, ap length e)); keeps = tt; rests = λ _. tt }
