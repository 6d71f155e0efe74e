use Rattle.std.proofs.Common.{arith}
use Rattle.ocl_lex.specs.Pieces.{pieces_of}
use Rattle.ocl_lex.proofs.Cuts.{passes_end}
use Rattle.ocl_lex.proofs.pieces.pieces_of.Goals as goal

pub returns : goal.returns
returns c = passes_end c.args.text.now c.loop-at.at (pieces_of c.args.text.now) c.loop-at.pieces.items c.loop-at.covered c.loop-at.place (omega arith) c.loop-at.invariant.so_far
