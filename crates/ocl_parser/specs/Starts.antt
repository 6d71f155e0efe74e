-- What the code tells apart at the first token of a part.
use Rattle.std.specs.Prelude.{Bool, true, false, List}
use Rattle.vx_base.specs.declared.types.Pos.{Pos}
use Rattle.ocl_tokens.specs.declared.marks.Mark.TheVariants.{CloseParen, Semicolon}
use Rattle.ocl_tokens.specs.declared.tokens.TokenKind.{TokenKind}
use Rattle.ocl_tokens.specs.declared.tokens.TokenKind.TheVariants.{Word as WordKind, Mark as MarkKind}
use Rattle.ocl_parser.specs.StmtSteps.{StmtNext, qualified_word, assign_start}
use Rattle.ocl_parser.specs.declared.states.Part.{Part}
use Rattle.ocl_parser.specs.declared.states.StmtFrame.{StmtFrame}

abbrev pub is_closing : TokenKind → Bool
is_closing (MarkKind CloseParen) = true
is_closing _ = false

abbrev pub is_semicolon : TokenKind → Bool
is_semicolon (MarkKind Semicolon) = true
is_semicolon _ = false

-- a declaration or an assignment
abbrev pub first_part : TokenKind → Pos → Part → List StmtFrame → StmtNext
first_part (WordKind w) pos place K = qualified_word w place false K
first_part kind pos place K = assign_start kind pos place K
