use Rattle.std.proofs.Common.{arith}
use Rattle.vx_asm.proofs.Digits.{next_value, next_fits}
use Rattle.vx_asm.proofs.parts.value_of.Goals as goal

pub overflow_mul-value : goal.overflow_mul-value
overflow_mul-value c = omega (arith, next_fits c.args.base c.loop-byte.value c.args.digits.now c.loop-byte.byte-index c.requires.base c.requires.fits (omega arith) c.loop-byte.invariant)

pub overflow_add-value : goal.overflow_add-value
overflow_add-value c = omega (arith, c.digit_value.ensures, next_fits c.args.base c.loop-byte.value c.args.digits.now c.loop-byte.byte-index c.requires.base c.requires.fits (omega arith) c.loop-byte.invariant)

pub loop-byte-preserved : goal.loop-byte-preserved
loop-byte-preserved c = rw c.digit_value.ensures (next_value c.args.base c.loop-byte.value c.args.digits.now c.loop-byte.byte-index (omega arith) c.loop-byte.invariant)
