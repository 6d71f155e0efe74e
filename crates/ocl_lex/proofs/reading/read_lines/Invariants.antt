use Rattle.std.proofs.Common.{◌≡◌, length}
use Rattle.ocl_lex.specs.Doing.{state_of}
use Rattle.ocl_lex.specs.Lines.{events, lines}
use Rattle.ocl_lex.specs.Telling.{answer}
use Rattle.ocl_lex.proofs.reading.read_lines.Given as goal

abbrev pub invariant-loop-rest : goal.invariant-loop-rest
invariant-loop-rest l =
    answer l.out (events l.text (state_of l.context) (lines l.rest)) ≡ answer l.fn.out (events l.text (state_of l.fn.context) (lines l.pieces))

abbrev pub decreases-loop-rest : goal.decreases-loop-rest
decreases-loop-rest l = length l.rest
