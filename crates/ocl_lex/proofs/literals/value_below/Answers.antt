use Rattle.std.proofs.Common.{arith}
use Rattle.ocl_lex.proofs.Digits.{next_value, too_large}
use Rattle.ocl_lex.proofs.literals.value_below.Goals as goal

pub returns-then-value-from : goal.returns-then-value-from
returns-then-value-from c =
    too_large c.args.base c.loop-digit.value c.args.digits.now c.loop-digit.digit-index c.requires.least (omega arith) c.loop-digit.invariant.so_far (omega (arith, c.digit_value.ensures))

pub loop-digit-preserved : goal.loop-digit-preserved
loop-digit-preserved c = record {
  so_far = rw c.digit_value.ensures (next_value c.args.base c.loop-digit.value c.args.digits.now c.loop-digit.digit-index (omega arith) c.loop-digit.invariant.so_far);
  small = omega arith;
}
