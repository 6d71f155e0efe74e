use Rattle.std.proofs.Common.{arith}
use Rattle.ocl_lex.specs.Lines.{piece_events}
use Rattle.ocl_lex.proofs.ShowLaws.{line_goes_on, line_stops, line_ends}
use Rattle.ocl_lex.proofs.showing.show_line.Goals as goal

pub loop-piece-preserved : goal.loop-piece-preserved
loop-piece-preserved c = line_goes_on (piece_events c.args.text.now c.args.macros.now) c.args.line.now c.loop-piece.piece-index c.args.out.now c.loop-piece.out c.show_piece.new.out _
    (omega arith) c.loop-piece.invariant c.in_ok-show_piece.ensures

pub returns-in_err-show_piece : goal.returns-in_err-show_piece
returns-in_err-show_piece c = line_stops (piece_events c.args.text.now c.args.macros.now) c.from_residual.result c.in_err-show_piece.field-0.0 c.args.line.now c.loop-piece.piece-index
    c.args.out.now c.loop-piece.out c.show_piece.new.out _ (omega arith) c.loop-piece.invariant c.from_residual.ensures.1 c.in_err-show_piece.ensures

pub returns : goal.returns
returns c = line_ends (piece_events c.args.text.now c.args.macros.now) c.args.line.now c.loop-piece.piece-index c.args.out.now c.loop-piece.out (omega arith) c.loop-piece.invariant
