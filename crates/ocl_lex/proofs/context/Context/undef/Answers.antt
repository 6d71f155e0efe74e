use Rattle.ocl_lex.specs.Doing.{state_of}
use Rattle.ocl_lex.specs.Lines as spec
use Rattle.ocl_lex.proofs.DoingLaws.{stops_silently}
use Rattle.ocl_lex.proofs.context.Context.undef.Goals as goal

pub returns-in_err-name : goal.returns-in_err-name
returns-in_err-name c =
    stops_silently c.from_residual.result c.in_err-name.field-0.0 (spec.undef c.args.text.now c.args.hash c.args.pieces.now (state_of c.args.self.now)) (state_of c.args.self.now)
    c.from_residual.ensures.1 (c.in_err-name.ensures (state_of c.args.self.now) _)
