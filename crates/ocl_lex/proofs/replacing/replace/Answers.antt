use Rattle.ocl_lex.proofs.StepLaws.{passes_later}
use Rattle.ocl_lex.proofs.replacing.replace.Goals as goal

pub returns-in_err-advance : goal.returns-in_err-advance
returns-in_err-advance c =
    passes_later c.from_residual-in_err-advance.result c.in_err-advance.field-0.0 c.args.out.now c.loop-frames.out c.advance.new.out _ _ c.from_residual-in_err-advance.ensures.1
    c.loop-frames.invariant c.in_err-advance.ensures.tells
