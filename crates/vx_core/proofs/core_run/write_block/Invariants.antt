use Rattle.std.proofs.Common.{◌≡◌}
use Rattle.vx_core.proofs.BlockLaws.{block_below}
use Rattle.vx_core.proofs.core_run.write_block.Given as goal

abbrev pub invariant-loop-place : goal.invariant-loop-place
invariant-loop-place l = l.scratch ≡ block_below l.place l.block l.fn.scratch
