use Rattle.std.proofs.Common.{[], refl}
use Rattle.ocl_lex.specs.declared.output.Output.{Output}
use Rattle.ocl_lex.specs.Doing.{state_of}
use Rattle.ocl_lex.specs.Lines.{end_token}
use Rattle.ocl_lex.proofs.EndLaws.{end_stopped, end_told, lines_stopped}
use Rattle.ocl_lex.proofs.SpanLaws.{stand_in}
use Rattle.ocl_lex.proofs.lexer.lex.Goals as goal

pub returns-in_err-read_lines-clause-fault : goal.returns-in_err-read_lines-clause-fault
returns-in_err-read_lines-clause-fault c =
    let start : Output = record { tokens = c.new-2.result; left = 1048576 } in
    lines_stopped c.args.bytes.now start start c.in_ok-pieces.pieces.items c.as_slice.result.now (state_of c.in_ok-context.context) (state_of c.in_ok-context.context) [] [] (end_token c.args.bytes.now)
    c.new-2.ensures.items refl c.in_ok-pieces.ensures c.as_slice.ensures.value c.in_ok-context.ensures
    c.from_residual-in_err-read_lines.result c.in_err-read_lines.field-0.0 c.from_residual-in_err-read_lines.ensures.1 c.in_err-read_lines.ensures

pub returns-in_err-close-clause-fault : goal.returns-in_err-close-clause-fault
returns-in_err-close-clause-fault c =
    let start : Output = record { tokens = c.new-2.result; left = 1048576 } in
    end_stopped c.args.bytes.now start c.read_lines.new.out c.in_ok-pieces.pieces.items c.as_slice.result.now (state_of c.in_ok-context.context) (state_of c.read_lines.new.context)
    c.read_lines.new.context.conditions.items c.as_slice-2.result.now c.end_token.result
    c.new-2.ensures.items refl c.in_ok-pieces.ensures c.as_slice.ensures.value c.in_ok-context.ensures
    c.in_ok-read_lines.ensures c.end_token.ensures c.as_slice-2.ensures.value
    c.from_residual-in_err-close.result c.in_err-close.field-0.0 c.from_residual-in_err-close.ensures.1 c.in_err-close.ensures

pub returns-clause-tokens : goal.returns-clause-tokens
returns-clause-tokens c =
    let start : Output = record { tokens = c.new-2.result; left = 1048576 } in
    end_told c.args.bytes.now start c.read_lines.new.out c.in_ok-pieces.pieces.items c.as_slice.result.now (state_of c.in_ok-context.context) (state_of c.read_lines.new.context)
    c.read_lines.new.context.conditions.items c.as_slice-2.result.now c.end_token.result
    c.new-2.ensures.items refl c.in_ok-pieces.ensures c.as_slice.ensures.value c.in_ok-context.ensures
    c.in_ok-read_lines.ensures c.end_token.ensures c.as_slice-2.ensures.value c.close.new.out c.in_ok-close.ensures

pub returns-clause-spans : goal.returns-clause-spans
returns-clause-spans c = stand_in c.args.bytes.now c.close.new.out.tokens.items (returns-clause-tokens c)
