use Rattle.ocl_lex.proofs.Walk.{Walks}
use Rattle.ocl_lex.proofs.pieces.pieces_of.Given as goal

abbrev pub invariant-loop-at : goal.invariant-loop-at
invariant-loop-at l = Walks l.text l.at l.pieces.items l.covered l.place
