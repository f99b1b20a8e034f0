-- What a read puts behind what was read is what the reader had next.
use Rattle.std.proofs.Common.{rules, sym, subst}
use Rattle.std.specs.Io.KnownBytes.{Consumes}
use Rattle.std.proofs.KnownBytes.{Consumes-trans}
use Rattle.stdio.proofs.FullLaws.{put-behind}
use Rattle.stdio.proofs.input.full.Goals as goal

pub loop-done-preserved : goal.loop-done-preserved
loop-done-preserved g c = record {
  same = search rules;
  within = search rules;
  read =
      subst (Consumes _ _) (sym (put-behind _ _ _ _ _ c.loop-done.invariant.within c.in_ok-n.ensures.bound.0))
      (Consumes-trans _ _ _ _ _ c.loop-done.invariant.read c.in_ok-n.ensures.bytes.0);
}
