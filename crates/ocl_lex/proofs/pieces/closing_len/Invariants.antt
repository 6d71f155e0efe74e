use Rattle.std.proofs.Common.{◌≡◌, drop}
use Rattle.ocl_lex.specs.Pieces.{closing_len}
use Rattle.ocl_lex.proofs.Comments.{further}
use Rattle.ocl_lex.proofs.pieces.closing_len.Given as goal

abbrev pub invariant-loop-place : goal.invariant-loop-place
invariant-loop-place l = closing_len l.bytes ≡ further l.place (closing_len (drop l.place l.bytes))
