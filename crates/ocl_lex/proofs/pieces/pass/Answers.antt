use Rattle.ocl_lex.proofs.Cuts.{passes_covered, passes_begins}
use Rattle.std.proofs.Common.{arith}
use Rattle.ocl_lex.proofs.pieces.pass.Goals as goal

pub returns-then-covered-gt0 : goal.returns-then-covered-gt0
returns-then-covered-gt0 c = passes_covered c.args.covered c.args.place c.args.bytes.now c.args.pieces.now.items c.if-covered-gt0.true c.requires.some

pub returns : goal.returns
returns c = passes_begins c.args.covered c.args.place c.args.bytes.now c.args.pieces.now.items c.begins-front.result c.saturating_sub.result c.begin.new.pieces.items
    (omega arith) c.requires.some c.begins-front.ensures.value c.in_ok-begin.ensures c.saturating_sub.ensures
