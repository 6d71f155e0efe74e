use Rattle.std.proofs.Common.{inr}
use Rattle.ocl_lex.proofs.ShowLaws.{tells_part, stops_at}
use Rattle.ocl_lex.proofs.showing.show_piece.Goals as goal

pub returns-in-Ok : goal.returns-in-Ok
returns-in-Ok c =
    tells_part c.show_replaced.result c.args.text.now c.args.macros.now c.args.piece c.args.out.now c.show_replaced.new.out c.in-Ok.part c.in-Ok.ensures c.show_replaced.ensures

pub returns-in-Err : goal.returns-in-Err
returns-in-Err c = inr (stops_at c.args.text.now c.args.macros.now c.args.piece c.args.out.now c.in-Err.fault c.in-Err.ensures)
