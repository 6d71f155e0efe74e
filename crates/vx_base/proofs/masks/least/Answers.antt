-- The number of zeros that the mask ends in is its least bit.
use Rattle.std.proofs.Common.{arith}
use Rattle.vx_base.proofs.MaskLaws.{least_bit}
use Rattle.vx_base.proofs.masks.least.Goals as goal

pub returns-else-mask-eq0-clause-least : goal.returns-else-mask-eq0-clause-least
returns-else-mask-eq0-clause-least c = least_bit c.args.mask (omega arith) (omega arith)
