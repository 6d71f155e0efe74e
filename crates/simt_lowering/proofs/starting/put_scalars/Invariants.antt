use Rattle.std.proofs.Common.{◌≡◌, ◌≤◌, List, drop}
use Rattle.vcode.specs.Code.{VOp}
use Rattle.vcode.specs.Shapes.{onto}
use Rattle.simt_lowering.specs.Lowered.{scalars}
use Rattle.simt_lowering.proofs.starting.put_scalars.Given as goal

-- what is put in front of what is left is the whole
abbrev pub invariant-loop-k : goal.invariant-loop-k
invariant-loop-k l =
    ((c : List VOp) → onto l.out.items (scalars l.k l.register (drop l.k l.params) c) ≡ onto l.initial.out.items (scalars 0 0 l.params c)) × (l.register ≤ l.k)
