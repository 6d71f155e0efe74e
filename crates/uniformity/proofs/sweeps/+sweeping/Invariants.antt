use Rattle.std.proofs.Common.{◌≡◌, drop}
use Rattle.kir.specs.Shapes.{op_of, ops_of}
use Rattle.uniformity.specs.Sweeps.{swept}
use Rattle.uniformity.proofs.sweeps.+sweeping.Given as goal

-- what is left to do makes of the marks what the whole makes of those before
abbrev pub invariant-sweep-loop-k : goal.invariant-sweep-loop-k
invariant-sweep-loop-k l = swept l.params l.same (ops_of (drop l.k l.ops)) l.marks ≡ swept l.params l.same (ops_of l.ops) l.initial.marks
