use Rattle.std.proofs.Common.{◌-◌, ◌≤◌, length, take}
use Rattle.vx_world.specs.Writing.{Appends}
use Rattle.vx_run.proofs.deliver.deliver.Given as goal

abbrev pub invariant-loop-at : goal.invariant-loop-at
invariant-loop-at g l =
    (l.at ≤ length l.text) × Appends (g.O.Out.written l.fn.out) (g.O.Out.written l.out) (take l.at l.text) × (g.O.Out.faults l.fn.out ≤ g.O.Out.faults l.out)

abbrev pub decreases-loop-at : goal.decreases-loop-at
decreases-loop-at g l = length l.text - l.at
