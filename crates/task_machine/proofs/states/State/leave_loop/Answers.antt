use Rattle.std.proofs.Common.{sym}
use Rattle.task_machine.proofs.states.State.leave_loop.Goals as goal

pub returns : goal.returns
returns g c = absurd (c.in-Some.ensures.0 (sym c.in-Plain.ensures))
