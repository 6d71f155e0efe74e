use Rattle.std.proofs.Common.{arith}
use Rattle.std.specs.Prelude.{nat_eq}
use Rattle.std.specs.List.{common_prefix_len}
use Rattle.vx_asm.proofs.Prefixes.{common_ends}
use Rattle.vx_asm.proofs.lines.common_len.Goals as goal

pub returns : goal.returns
returns c = common_ends c.args.a.now c.args.b.now c.min-least.result c.loop-place.place (common_prefix_len nat_eq c.args.a.now c.args.b.now) c.min-least.ensures (omega arith) (omega arith) c.loop-place.invariant
