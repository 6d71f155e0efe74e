use Rattle.ocl_lex.proofs.EndLaws.{GoesTo}
use Rattle.ocl_lex.proofs.lexer.end_place.Given as goal

abbrev pub invariant-loop-byte : goal.invariant-loop-byte
invariant-loop-byte l = GoesTo l.text l.byte-index l.place
