use Rattle.std.proofs.Common.{◌≡◌, ◌≤◌, ◌+◌, drop}
use Rattle.simt_lowering.specs.Lowered.{scalars_end}
use Rattle.simt_lowering.proofs.lowering.scalars_end.Given as goal

abbrev pub invariant-loop-k : goal.invariant-loop-k
invariant-loop-k l = (scalars_end (drop l.k l.params) l.end ≡ scalars_end l.params l.place) × (l.end ≤ l.place + l.k)
