use Rattle.vx_core.specs.Cores.{core_state}
use Rattle.vx_core.proofs.RunLaws.{IsGoing}
use Rattle.vx_core.proofs.core_run.Core.run_group.Given as goal

abbrev pub invariant-loop-turn : goal.invariant-loop-turn
invariant-loop-turn g l = IsGoing g.B.Bus.acts g.E.Evictor.evicts g.P.Picker.picks g.B.Bus.is_sound g.B.Bus.count g.B.Bus.number l.image l.job l.fn.self l.fn.bus (core_state l.initial.self l.fn.bus l.fn.evict l.initial.pick) l.turn l.self l.bus l.evict l.pick
