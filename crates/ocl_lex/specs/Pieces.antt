-- How a text falls into pieces: at each place that no earlier piece covers begins the longest piece of its kind.
use Rattle.std.specs.Prelude.{ℕ, zero, suc, ◌+◌, ◌-◌, ◌==◌, ◌≤◌, Bool, true, false, ◌&&◌, ◌||◌, if◌then◌else◌, List, [], ◌∷◌, length, take, drop, slice_index, filter, Option, None, Some}
use Rattle.std.specs.List.{prefix_len}
use Rattle.std.specs.Option.{option_map}
use Rattle.ocl_tokens.specs.declared.marks.Mark.{Mark}
use Rattle.ocl_lex.specs.declared.pieces.PieceKind.{PieceKind}
use Rattle.ocl_lex.specs.declared.pieces.PieceKind.TheVariants as kind
use Rattle.ocl_lex.specs.declared.pieces.Front.{Front}
use Rattle.ocl_lex.specs.declared.pieces.Piece.{Piece}
use Rattle.ocl_lex.specs.declared.pieces.Cursor.{Cursor}
use Rattle.ocl_lex.specs.Bytes.{is_blank, is_feed, is_decimal, begins_name, is_in_name, is_in_number, is_in_line}
use Rattle.ocl_lex.specs.Marks.{spelling_of, mark_at}

abbrev pub front : PieceKind → ℕ → Front
front k n = record { kind = k; len = n }

-- whether some bytes begin with `*/`
abbrev pub closes : List ℕ → Bool
closes bytes = slice_index bytes 0 == 42 && slice_index bytes 1 == 47

-- how many bytes there are up to the end of the first `*/`
unfoldable pub closing_len : List ℕ → Option ℕ
closing_len [] = None
closing_len (c ∷ rest) = if closes (c ∷ rest) then Some 2 else option_map (λ n. n + 1) (closing_len rest)

abbrev pub comment_of : ℕ → Option ℕ → Front
comment_of left None = front kind.OpenComment left
comment_of left (Some n) = front kind.Blank (n + 2)

-- a comment to the end of the line, or one between `/*` and `*/`; the bytes begin with `//` or `/*`
abbrev pub comment_at : List ℕ → Front
comment_at bytes =
    if slice_index bytes 1 == 47 then front kind.Blank (prefix_len is_in_line bytes)
    else comment_of (length bytes) (closing_len (drop 2 bytes))

abbrev pub begins_comment : List ℕ → Bool
begins_comment bytes = slice_index bytes 0 == 47 && (slice_index bytes 1 == 47 || slice_index bytes 1 == 42)

abbrev pub mark_front : Option Mark → Front
mark_front None = front kind.Bad 1
mark_front (Some m) = front (kind.Mark m) (length (spelling_of m))

-- what begins at the front of some bytes, and how many bytes it has
unfoldable pub begins : List ℕ → Front
begins bytes =
    let c = slice_index bytes 0 in
    if is_feed c then front kind.Feed 1
    else (if is_blank c then front kind.Blank 1
    else (if begins_name c then front kind.Name (prefix_len is_in_name bytes)
    else (if is_decimal c then front kind.Number (prefix_len is_in_number bytes)
    else (if c == 35 then front kind.Hash 1
    else (if begins_comment bytes then comment_at bytes
    else mark_front (mark_at bytes))))))

-- the place behind a byte, and the one where a text begins
abbrev pub after : ℕ → Cursor → Cursor
after c p =
    if is_feed c then record { at = p.at + 1; pos = record { line = p.pos.line + 1; col = 1 } }
    else record { at = p.at + 1; pos = record { line = p.pos.line; col = p.pos.col + 1 } }

abbrev pub first_place : Cursor
first_place = record { at = 0; pos = record { line = 1; col = 1 } }

-- what keeps the numbers of a place small
pub record IsNear (p : Cursor) : Type 0 where
  pub line : p.pos.line ≤ p.at + 1
  pub col : p.pos.col ≤ p.at + 1

abbrev pub piece_at : Cursor → Front → Piece
piece_at p f = record { kind = f.kind; start = p.at; end = p.at + f.len; pos = p.pos }

-- the pieces of some bytes, the first of which are covered by a piece before them
unfoldable pub cuts : ℕ → Cursor → List ℕ → List Piece
cuts covered p [] = []
cuts (suc covered) p (c ∷ rest) = cuts covered (after c p) rest
cuts zero p (c ∷ rest) = piece_at p (begins (c ∷ rest)) ∷ cuts ((begins (c ∷ rest)).len - 1) (after c p) rest

abbrev pub is_shown : PieceKind → Bool
is_shown kind.Blank = false
is_shown kind.Feed = true
is_shown kind.Name = true
is_shown kind.Number = true
is_shown (kind.Mark m) = true
is_shown kind.Hash = true
is_shown kind.Bad = true
is_shown kind.OpenComment = true

abbrev pub shown_pieces : List Piece → List Piece
shown_pieces pieces = filter (λ p. is_shown p.kind) pieces

-- the pieces of a text, without blanks and comments
abbrev pub pieces_of : List ℕ → List Piece
pieces_of text = shown_pieces (cuts 0 first_place text)

-- the bytes of a piece
abbrev pub text_of : List ℕ → Piece → List ℕ
text_of text p = take (p.end - p.start) (drop p.start text)
