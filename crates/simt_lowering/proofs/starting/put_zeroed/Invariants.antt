use Rattle.std.proofs.Common.{◌≡◌, ◌-◌, List}
use Rattle.vcode.specs.Code.{VOp}
use Rattle.vcode.specs.Shapes.{onto}
use Rattle.simt_lowering.specs.Lowered.{zeroed}
use Rattle.simt_lowering.proofs.starting.put_zeroed.Given as goal

-- what is put in front of what is left is the whole
abbrev pub invariant-loop-register : goal.invariant-loop-register
invariant-loop-register l =
    (c : List VOp) → onto l.out.items (zeroed l.register (l.registers - l.register) c) ≡ onto l.initial.out.items (zeroed 0 l.registers c)
