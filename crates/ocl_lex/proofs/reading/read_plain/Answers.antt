use Rattle.std.proofs.Common.{refl, sym, ◌∙◌}
use Rattle.ocl_lex.specs.Doing.{state_of}
use Rattle.ocl_lex.specs.Lines.{skips}
use Rattle.ocl_lex.proofs.DoingLaws.{does_same, plain_skipped, raises_does}
use Rattle.ocl_lex.proofs.reading.read_plain.Goals as goal

pub returns-else-is_shown : goal.returns-else-is_shown
returns-else-is_shown c =
    let s = state_of c.args.context.now in
    does_same c.skip_pieces.result c.args.out.now c.args.out.now _ (skips c.args.line.now s) s (plain_skipped c.args.text.now s c.args.line.now (sym c.is_shown.ensures ∙ c.if-is_shown.false))
    (raises_does c.skip_pieces.result c.args.out.now (skips c.args.line.now s) s refl c.skip_pieces.ensures)
