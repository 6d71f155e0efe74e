use Rattle.first_kernels.proofs.FirstTogether.{MidStep}
use Rattle.first_kernels.proofs.warp.step.Given as goal

abbrev pub invariant-loop-number : goal.invariant-loop-number
invariant-loop-number l = MidStep l.i l.initial.lanes l.initial.memory l.number l.lanes l.memory
