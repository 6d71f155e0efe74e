use Rattle.std.proofs.Common.{mod-eq_of_lt, pow_mono, lt_of_lt_of_le, sym}
use Rattle.warp_state.proofs.masks.cut.Goals as goal

pub returns-else-lanes-lt32 : goal.returns-else-lanes-lt32
returns-else-lanes-lt32 c = sym (mod-eq_of_lt (lt_of_lt_of_le c.ranges.mask.fits (pow_mono c.if-lanes-lt32.false)))
