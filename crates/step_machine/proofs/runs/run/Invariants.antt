use Rattle.step_machine.proofs.RunLaws.{Going}
use Rattle.step_machine.proofs.runs.run.Given as goal

abbrev pub invariant-loop : goal.invariant-loop
invariant-loop g l =
    Going (g.M.SmallSteps.step_of l.machine) g.M.SmallSteps.turns_of l.counter l.fuel (g.M.SmallSteps.state_of l.state) l.rest (g.M.SmallSteps.state_of l.fn.state) l.fn.answers
