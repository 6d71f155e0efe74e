use Rattle.std.proofs.Common.{◌≡◌, drop}
use Rattle.std.specs.List.{flat_map}
use Rattle.ocl_lex.specs.Lines.{skipped_events}
use Rattle.ocl_lex.proofs.showing.skip_pieces.Given as goal

abbrev pub invariant-loop-piece : goal.invariant-loop-piece
invariant-loop-piece l = flat_map skipped_events l.pieces ≡ flat_map skipped_events (drop l.piece-index l.pieces)
