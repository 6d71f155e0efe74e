use Rattle.ocl_lex.proofs.OperandLaws.{ReadsSome}
use Rattle.ocl_lex.proofs.operands.parts_of.Given as goal

abbrev pub invariant-loop-piece : goal.invariant-loop-piece
invariant-loop-piece l = ReadsSome l.text l.pieces l.piece-index l.parts.items
