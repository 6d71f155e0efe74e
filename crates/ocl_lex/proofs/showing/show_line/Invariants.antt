use Rattle.std.proofs.Common.{◌≡◌, ◌++◌, List, drop}
use Rattle.std.specs.List.{flat_map}
use Rattle.ocl_lex.specs.Events.{Event}
use Rattle.ocl_lex.specs.Lines.{piece_events}
use Rattle.ocl_lex.specs.Telling.{answer}
use Rattle.ocl_lex.proofs.showing.show_line.Given as goal

abbrev pub invariant-loop-piece : goal.invariant-loop-piece
invariant-loop-piece l =
    (more : List Event) → answer l.out (flat_map (piece_events l.text l.macros) (drop l.piece-index l.line) ++ more) ≡ answer l.fn.out (flat_map (piece_events l.text l.macros) l.line ++ more)
