-- What tokens are made of before macros are replaced.
use Rattle.std.specs.Prelude.{ℕ, ◌-◌, Bool, List, [], take, drop, Option, None, Some, Result, Ok, Err}
use Rattle.vx_base.specs.declared.types.Pos.{Pos}
use Rattle.ocl_tokens.specs.declared.tokens.Token.{Token}
use Rattle.ocl_tokens.specs.declared.tokens.TokenKind.{TokenKind}
use Rattle.ocl_tokens.specs.declared.tokens.TokenKind.TheVariants as token
use Rattle.ocl_lex.specs.declared.faults.LexFault.{LexFault}
use Rattle.ocl_lex.specs.declared.faults.LexFault.TheVariants as fault
use Rattle.ocl_lex.specs.declared.literals.Literal.{Literal}
use Rattle.ocl_lex.specs.declared.parts.Lexeme.{Lexeme}
use Rattle.ocl_lex.specs.declared.parts.Lexeme.TheVariants as part
use Rattle.ocl_lex.specs.declared.pieces.Piece.{Piece}
use Rattle.ocl_lex.specs.declared.pieces.PieceKind.{PieceKind}
use Rattle.ocl_lex.specs.declared.pieces.PieceKind.TheVariants as kind
use Rattle.ocl_lex.specs.Literals.{literal_of}
use Rattle.ocl_lex.specs.Pieces.{text_of}
use Rattle.ocl_lex.specs.Words.{name_kind}

-- the bytes of a text from one place to another
abbrev pub between : List ℕ → ℕ → ℕ → List ℕ
between text start end = take (end - start) (drop start text)

abbrev pub number_or_bad : Pos → Option Literal → Result Lexeme LexFault
number_or_bad pos (Some literal) = Ok (part.Number literal.value literal.unsigned)
number_or_bad pos None = Err (fault.BadNumber pos)

-- what a piece adds to a line of tokens, and why it may not stand there
abbrev pub part_of_kind : List ℕ → PieceKind → Piece → Result Lexeme LexFault
part_of_kind text kind.Name p = Ok (part.Name p.start p.end)
part_of_kind text kind.Number p = number_or_bad p.pos (literal_of (text_of text p))
part_of_kind text (kind.Mark m) p = Ok (part.Mark m)
part_of_kind text kind.OpenComment p = Err (fault.OpenComment p.pos)
part_of_kind text kind.Blank p = Err (fault.BadByte p.pos)
part_of_kind text kind.Feed p = Err (fault.BadByte p.pos)
part_of_kind text kind.Hash p = Err (fault.BadByte p.pos)
part_of_kind text kind.Bad p = Err (fault.BadByte p.pos)

abbrev pub part_of : List ℕ → Piece → Result Lexeme LexFault
part_of text p = part_of_kind text p.kind p

-- the bytes of a name
abbrev pub name_of : List ℕ → Lexeme → List ℕ
name_of text (part.Name start end) = between text start end
name_of text (part.Number value unsigned) = []
name_of text (part.Mark m) = []

abbrev pub kind_of : List ℕ → Lexeme → TokenKind
kind_of text (part.Name start end) = name_kind (between text start end)
kind_of text (part.Number value unsigned) = token.Number value unsigned
kind_of text (part.Mark m) = token.Mark m

-- a token at a piece; one that a macro made stands where the macro is used
abbrev pub token_at : List ℕ → Bool → Piece → Lexeme → Token
token_at text made at p = record { kind = kind_of text p; start = at.start; end = at.end; pos = at.pos; made = made }
