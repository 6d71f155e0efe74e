-- What the reader of pieces keeps from byte to byte.
use Rattle.std.specs.Prelude.{◌≡◌, ℕ, List, ◌++◌, drop, slice_index}
use Rattle.ocl_lex.specs.declared.pieces.Piece.{Piece}
use Rattle.ocl_lex.specs.declared.pieces.Cursor.{Cursor}
use Rattle.ocl_lex.specs.Pieces.{after, cuts, shown_pieces}

-- one byte on, the pieces that were there and those still to come are the same
abbrev pub Passes : ℕ → Cursor → List ℕ → List Piece → ℕ → List Piece → Type 0
Passes covered p bytes before left now =
    before ++ shown_pieces (cuts covered p bytes) ≡ now ++ shown_pieces (cuts left (after (slice_index bytes 0) p) (drop 1 bytes))
