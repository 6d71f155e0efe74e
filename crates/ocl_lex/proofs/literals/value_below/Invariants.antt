use Rattle.ocl_lex.proofs.Digits.{ReadsDigits}
use Rattle.ocl_lex.proofs.literals.value_below.Given as goal

abbrev pub invariant-loop-digit : goal.invariant-loop-digit
invariant-loop-digit l = ReadsDigits l.base l.digits l.digit-index l.value
