use Rattle.std.proofs.lemmas.List.{take_rest}
use Rattle.ocl_lex.proofs.LineLaws.{cut_at, one_line}
use Rattle.ocl_lex.proofs.reading.cut_line.Goals as goal

pub returns-in-Some-clause-cut : goal.returns-in-Some-clause-cut
returns-in-Some-clause-cut c = rw take_rest (cut_at c.args.pieces.now c.in-Some.end c.in-Some.ensures.value)

pub returns-in-None-clause-cut : goal.returns-in-None-clause-cut
returns-in-None-clause-cut c = one_line c.args.pieces.now c.requires c.in-None.ensures.value
