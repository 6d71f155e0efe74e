use Rattle.first_kernels.proofs.FirstTogether.{MidRun}
use Rattle.first_kernels.proofs.warp.run_code.Given as goal

abbrev pub invariant-loop-i : goal.invariant-loop-i
invariant-loop-i l = MidRun l.code l.initial.lanes l.initial.memory l.i-index l.lanes l.memory
