use Rattle.core_threads.proofs.CoreLoop.{IsRunning}
use Rattle.core_threads.proofs.work.CoreWork.run.Given as goal

abbrev pub invariant-loop-turn : goal.invariant-loop-turn
invariant-loop-turn g l = IsRunning g.E.Evictor.evicts g.P.Picker.begins g.P.Picker.picks l.image (g.J.Jobs.job_of l.jobs) l.dispenser (g.J.Jobs.groups l.jobs) l.fn.self l.turn l.self
