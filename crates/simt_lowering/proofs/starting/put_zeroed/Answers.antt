use Rattle.std.proofs.Common.{ap, sym, ◌∙◌, ◌-◌, ◌+◌}
use Rattle.vcode.specs.Shapes.{onto}
use Rattle.simt_lowering.specs.Lowered.{zeroed}
use Rattle.simt_lowering.proofs.Putting.{zeroed_next}
use Rattle.simt_lowering.proofs.starting.put_zeroed.Goals as goal

pub loop-register-preserved : goal.loop-register-preserved
loop-register-preserved c = λ c'.
    c.in_ok-put_copy.ensures (zeroed (c.loop-register.register + 1) (c.args.registers - (c.loop-register.register + 1)) c')
    ∙ ap (onto c.loop-register.out.items) (sym (zeroed_next c.loop-register.register c.args.registers c' c.loop-register-test.true))
    ∙ c.loop-register.invariant c'
