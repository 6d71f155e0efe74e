-- What the walk over a text keeps.
use Rattle.std.proofs.Common.{◌≡◌, ℕ, ◌++◌, List, drop}
use Rattle.ocl_lex.specs.declared.pieces.Piece.{Piece}
use Rattle.ocl_lex.specs.declared.pieces.Cursor.{Cursor}
use Rattle.ocl_lex.specs.Pieces.{cuts, pieces_of, shown_pieces, IsNear}

pub record Walks (text : List ℕ) (i : ℕ) (pieces : List Piece) (covered : ℕ) (place : Cursor) : Type 0 where
  pub so_far : pieces_of text ≡ pieces ++ shown_pieces (cuts covered place (drop i text))
  pub at : place.at ≡ i
  pub near : IsNear place
