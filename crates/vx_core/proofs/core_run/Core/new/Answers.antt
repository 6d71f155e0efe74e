use Rattle.std.proofs.Common.{refl}
use Rattle.vx_core.specs.Blocks.{zeros}
use Rattle.vx_core.proofs.core_run.Core.new.Goals as goal

pub returns : goal.returns
unfolding zeros
returns c = record {
  number_is = refl;
  banks_are = refl;
  scratch_is = c.in_ok-new-2.ensures;
  lines_are = c.in_ok-new-3.ensures;
  tally_is = c.new-4.ensures;
  steps_are = refl;
}
