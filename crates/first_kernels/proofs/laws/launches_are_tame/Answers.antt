use Rattle.first_kernels.proofs.FirstLaunchTame as t
use Rattle.first_kernels.proofs.FirstLaunchLeaves as l
use Rattle.first_kernels.proofs.laws.launches_are_tame.Goals as goal

pub returns-clause-tame : goal.returns-clause-tame
returns-clause-tame c = t.tame

pub returns-clause-no_fault : goal.returns-clause-no_fault
returns-clause-no_fault c = t.no_fault

pub returns-clause-leaves : goal.returns-clause-leaves
returns-clause-leaves c = l.leaves
