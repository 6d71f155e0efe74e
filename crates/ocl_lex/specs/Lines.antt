-- Lines, directives and conditions (C99, section 6.10, as far as the language has them), and the tokens of a text.
use Rattle.std.specs.Prelude.{ℕ, ◌==◌, Bool, true, false, not, ◌&&◌, if◌then◌else◌, List, [], ◌∷◌, ◌++◌, length, map, codes, Option, None, Some, Result, Ok, Err}
use Rattle.std.specs.List.{find, flat_map}
use Rattle.std.specs.Option.{is_some}
use Rattle.std.specs.Str.{bytes_eq}
use Rattle.ocl_tokens.specs.declared.marks.Mark.TheVariants as mark
use Rattle.ocl_tokens.specs.declared.tokens.Token.{Token}
use Rattle.ocl_tokens.specs.declared.tokens.TokenKind.TheVariants as token
use Rattle.ocl_lex.specs.declared.directives.DirectiveWord.{DirectiveWord}
use Rattle.ocl_lex.specs.declared.directives.DirectiveWord.TheVariants as word
use Rattle.ocl_lex.specs.declared.conditions.Condition.{Condition}
use Rattle.ocl_lex.specs.declared.faults.LexFault.{LexFault}
use Rattle.ocl_lex.specs.declared.faults.LexFault.TheVariants as fault
use Rattle.ocl_lex.specs.declared.parts.Lexeme.{Lexeme}
use Rattle.ocl_lex.specs.declared.pieces.Piece.{Piece}
use Rattle.ocl_lex.specs.declared.pieces.PieceKind.{PieceKind}
use Rattle.ocl_lex.specs.declared.pieces.PieceKind.TheVariants as kind
use Rattle.ocl_lex.specs.declared.pieces.Cursor.{Cursor}
use Rattle.ocl_lex.specs.Events.{Event, Show, Stop, within}
use Rattle.ocl_lex.specs.Macros.{Macros, defined, undefined, predefined_macros, replaced, replacement_of}
use Rattle.ocl_lex.specs.Parts.{part_of}
use Rattle.ocl_lex.specs.Pieces.{after, first_place, pieces_of, text_of}

-- ---- lines

abbrev pub is_line_end : PieceKind → Bool
is_line_end kind.Feed = true
is_line_end kind.Blank = false
is_line_end kind.Name = false
is_line_end kind.Number = false
is_line_end (kind.Mark m) = false
is_line_end kind.Hash = false
is_line_end kind.Bad = false
is_line_end kind.OpenComment = false

abbrev pub onto_line : Piece → List (List Piece) → List (List Piece)
onto_line p [] = (p ∷ []) ∷ []
onto_line p (line ∷ lines) = (p ∷ line) ∷ lines

-- the lines of some pieces
unfoldable pub lines : List Piece → List (List Piece)
lines [] = []
lines (p ∷ pieces) = if is_line_end p.kind then [] ∷ lines pieces else onto_line p (lines pieces)

-- ---- what a line does

-- the macros, and the conditions that stand open, the innermost first
pub record State : Type 0 where
  pub macros : Macros
  pub conditions : List Condition

-- what a line shows, and what it leaves
pub record Effect : Type 0 where
  pub events : List Event
  pub next : State

abbrev pub stops : LexFault → State → Effect
stops f s = record { events = Stop f ∷ []; next = s }

-- whether the part of the text behind some conditions is read
abbrev pub part_shown : List Condition → Bool
part_shown [] = true
part_shown (c ∷ outer) = c.shown

-- a piece of a line that is read, and one of a line that is skipped
abbrev pub part_events : List ℕ → Macros → Piece → Result Lexeme LexFault → List Event
part_events text macros p (Ok part) = replaced text macros false p part
part_events text macros p (Err f) = Stop f ∷ []

abbrev pub piece_events : List ℕ → Macros → Piece → List Event
piece_events text macros p = part_events text macros p (part_of text p)

abbrev pub is_open_comment : PieceKind → Bool
is_open_comment kind.OpenComment = true
is_open_comment kind.Blank = false
is_open_comment kind.Feed = false
is_open_comment kind.Name = false
is_open_comment kind.Number = false
is_open_comment (kind.Mark m) = false
is_open_comment kind.Hash = false
is_open_comment kind.Bad = false

abbrev pub skipped_events : Piece → List Event
skipped_events p = if is_open_comment p.kind then Stop (fault.OpenComment p.pos) ∷ [] else []

abbrev pub skips : List Piece → State → Effect
skips pieces s = record { events = flat_map skipped_events pieces; next = s }

abbrev pub plain_line : List ℕ → State → List Piece → Effect
plain_line text s line =
    if part_shown s.conditions then record { events = flat_map (piece_events text s.macros) line; next = s }
    else skips line s

-- ---- directives

abbrev pub directive_name : DirectiveWord → List ℕ
directive_name word.Define = codes "define"
directive_name word.Undef = codes "undef"
directive_name word.Ifdef = codes "ifdef"
directive_name word.Ifndef = codes "ifndef"
directive_name word.Else = codes "else"
directive_name word.Endif = codes "endif"
directive_name word.Pragma = codes "pragma"

abbrev pub all_directives : List DirectiveWord
all_directives = word.Define ∷ word.Undef ∷ word.Ifdef ∷ word.Ifndef ∷ word.Else ∷ word.Endif ∷ word.Pragma ∷ []

unfoldable pub directive_named : List ℕ → Option DirectiveWord
directive_named text = find (λ d. bytes_eq (directive_name d) text) all_directives

abbrev pub is_name : PieceKind → Bool
is_name kind.Name = true
is_name kind.Blank = false
is_name kind.Feed = false
is_name kind.Number = false
is_name (kind.Mark m) = false
is_name kind.Hash = false
is_name kind.Bad = false
is_name kind.OpenComment = false

-- the fault of a piece that a directive has no place for
abbrev pub unwanted : Piece → Piece → LexFault
unwanted hash p = if is_open_comment p.kind then fault.OpenComment p.pos else fault.BadDirective hash.pos

abbrev pub nothing_behind : Piece → List Piece → List Event
nothing_behind hash pieces = map (λ p. Stop (unwanted hash p)) pieces

-- a directive that wants a name and nothing behind it
abbrev pub one_name : List ℕ → Piece → List Piece → State → (List ℕ → State) → Effect
one_name text hash [] s next = stops (fault.BadDirective hash.pos) s
one_name text hash (p ∷ pieces) s next =
    if is_name p.kind then record { events = nothing_behind hash pieces; next = next (text_of text p) }
    else stops (unwanted hash p) s

-- the tokens behind the name of a `#define`, and their faults
abbrev pub parts_in : Result Lexeme LexFault → List Lexeme
parts_in (Ok part) = part ∷ []
parts_in (Err f) = []

abbrev pub faults_in : Result Lexeme LexFault → List Event
faults_in (Ok part) = []
faults_in (Err f) = Stop f ∷ []

abbrev pub parts_of : List ℕ → List Piece → List Lexeme
parts_of text pieces = flat_map (λ p. parts_in (part_of text p)) pieces

abbrev pub faults_of : List ℕ → List Piece → List Event
faults_of text pieces = flat_map (λ p. faults_in (part_of text p)) pieces

-- whether a `(` stands directly behind a name
abbrev pub is_open_paren : PieceKind → Bool
is_open_paren (kind.Mark mark.OpenParen) = true
is_open_paren _ = false

abbrev pub opens_parameters : Piece → List Piece → Bool
opens_parameters name [] = false
opens_parameters name (p ∷ pieces) = is_open_paren p.kind && p.start == name.end

abbrev pub define : List ℕ → Piece → List Piece → State → Effect
define text hash [] s = stops (fault.BadDirective hash.pos) s
define text hash (name ∷ pieces) s =
    if not (is_name name.kind) then stops (unwanted hash name) s
    else (if opens_parameters name pieces then stops (fault.BadDirective hash.pos) s
    else record { events = faults_of text pieces; next = record s { macros = defined (text_of text name) (parts_of text pieces) s.macros } })

abbrev pub undef : List ℕ → Piece → List Piece → State → Effect
undef text hash pieces s = one_name text hash pieces s (λ name. record s { macros = undefined name s.macros })

-- a condition begins: that a name is a macro, or that it is none
abbrev pub is_macro : List ℕ → Macros → Bool
is_macro name macros = is_some (replacement_of name macros)

abbrev pub condition : Piece → Bool → List Condition → List Condition
condition hash holds outer = record { pos = hash.pos; shown = part_shown outer && holds; switched = false } ∷ outer

abbrev pub ifdef : List ℕ → Piece → List Piece → State → Effect
ifdef text hash pieces s = one_name text hash pieces s (λ name. record s { conditions = condition hash (is_macro name s.macros) s.conditions })

abbrev pub ifndef : List ℕ → Piece → List Piece → State → Effect
ifndef text hash pieces s = one_name text hash pieces s (λ name. record s { conditions = condition hash (not (is_macro name s.macros)) s.conditions })

-- a condition switches to its other part, once
abbrev pub other_part : Condition → List Condition → Condition
other_part c outer = record { pos = c.pos; shown = part_shown outer && not c.shown; switched = true }

abbrev pub switch : Piece → List Piece → List Condition → State → Effect
switch hash pieces [] s = stops (fault.BadDirective hash.pos) s
switch hash pieces (c ∷ outer) s =
    if c.switched then stops (fault.BadDirective hash.pos) s
    else record { events = nothing_behind hash pieces; next = record s { conditions = other_part c outer ∷ outer } }

abbrev pub endif : Piece → List Piece → List Condition → State → Effect
endif hash pieces [] s = stops (fault.BadDirective hash.pos) s
endif hash pieces (c ∷ outer) s = record { events = nothing_behind hash pieces; next = record s { conditions = outer } }

-- a directive by its word; in a part that is skipped the conditions alone are read
abbrev pub directive : List ℕ → Piece → Option DirectiveWord → List Piece → State → Effect
directive text hash None pieces s = stops (fault.BadDirective hash.pos) s
directive text hash (Some word.Define) pieces s = if part_shown s.conditions then define text hash pieces s else skips pieces s
directive text hash (Some word.Undef) pieces s = if part_shown s.conditions then undef text hash pieces s else skips pieces s
directive text hash (Some word.Ifdef) pieces s = ifdef text hash pieces s
directive text hash (Some word.Ifndef) pieces s = ifndef text hash pieces s
directive text hash (Some word.Else) pieces s = switch hash pieces s.conditions s
directive text hash (Some word.Endif) pieces s = endif hash pieces s.conditions s
directive text hash (Some word.Pragma) pieces s = skips pieces s

-- a line behind its `#`
abbrev pub directive_line : List ℕ → Piece → List Piece → State → Effect
directive_line text hash [] s = record { events = []; next = s }
directive_line text hash (p ∷ pieces) s =
    if is_name p.kind then directive text hash (directive_named (text_of text p)) pieces s
    else stops (unwanted hash p) s

abbrev pub is_hash : PieceKind → Bool
is_hash kind.Hash = true
is_hash kind.Blank = false
is_hash kind.Feed = false
is_hash kind.Name = false
is_hash kind.Number = false
is_hash (kind.Mark m) = false
is_hash kind.Bad = false
is_hash kind.OpenComment = false

unfoldable pub effect : List ℕ → State → List Piece → Effect
effect text s [] = record { events = []; next = s }
effect text s (p ∷ pieces) = if is_hash p.kind then directive_line text p pieces s else plain_line text s (p ∷ pieces)

-- ---- the whole text

abbrev pub place_behind : Cursor → List ℕ → Cursor
place_behind p [] = p
place_behind p (c ∷ rest) = place_behind (after c p) rest

-- the token behind the last byte
abbrev pub end_token : List ℕ → Token
end_token text = record { kind = token.End; start = length text; end = length text; pos = (place_behind first_place text).pos; made = false }

-- at the end no condition stands open
abbrev pub ends : Token → List Condition → List Event
ends end [] = Show end ∷ []
ends end (c ∷ outer) = Stop (fault.BadDirective c.pos) ∷ []

unfoldable pub events : List ℕ → State → List (List Piece) → List Event
events text s [] = ends (end_token text) s.conditions
events text s (line ∷ rest) = (effect text s line).events ++ events text (effect text s line).next rest

abbrev pub first_state : State
first_state = record { macros = predefined_macros; conditions = [] }

-- how many tokens and replaced macros a text has at most
abbrev pub limit : ℕ
limit = 1048576

-- The tokens of a text, or its first fault.
unfoldable pub tokens_of : List ℕ → Result (List Token) LexFault
tokens_of text = within limit (events text first_state (lines (pieces_of text)))
