use Rattle.std.proofs.Common.{arith}
use Rattle.first_kernels.proofs.FirstCarries.{among_others}
use Rattle.first_kernels.proofs.warp.step_lane.Goals as goal

pub returns : goal.returns
returns c = among_others c.args.i c.args.pc c.args.number c.value.result c.value-2.result c.effect-did.result c.args.lane.now c.carry_out.new.lane c.args.memory.now c.carry_out.new.memory c.carry_out.result (cc) (cc) c.effect-did.ensures (omega arith) c.carry_out.ensures.left
