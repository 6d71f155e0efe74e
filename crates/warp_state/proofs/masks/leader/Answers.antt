use Rattle.std.proofs.Common.{sym, arith}
use Rattle.vx_isa.proofs.MaskLaws.{leader-trailing_zeros}
use Rattle.warp_state.proofs.masks.leader.Goals as goal

pub returns-clause-value : goal.returns-clause-value
returns-clause-value c = sym (leader-trailing_zeros c.args.mask (omega (arith, c.requires)) c.ranges.mask.fits)
