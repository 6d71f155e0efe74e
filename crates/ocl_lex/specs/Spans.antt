-- Where tokens stand in their text.
use Rattle.std.specs.Prelude.{◌≡◌, ℕ, ◌≤◌, Bool, true, false, if◌then◌else◌, List, [], ◌∷◌, ◌++◌, length, take, Some, ⊤}
use Rattle.vx_base.specs.declared.types.Pos.{Pos}
use Rattle.ocl_tokens.specs.declared.tokens.Token.{Token}
use Rattle.ocl_tokens.specs.declared.tokens.TokenKind.{TokenKind}
use Rattle.ocl_tokens.specs.declared.tokens.TokenKind.TheVariants as token
use Rattle.ocl_lex.specs.Lines.{end_token, place_behind}
use Rattle.ocl_lex.specs.Literals.{literal_of}
use Rattle.ocl_lex.specs.Marks.{spelling_of}
use Rattle.ocl_lex.specs.Parts.{between}
use Rattle.ocl_lex.specs.Pieces.{first_place}
use Rattle.ocl_lex.specs.Words.{word_named}

-- what some bytes say as a token; none say that the text ends
abbrev pub Says : List ℕ → TokenKind → Type 0
Says bytes (token.Name name) = name ≡ bytes
Says bytes (token.Word w) = word_named bytes ≡ Some w
Says bytes (token.Number value unsigned) = literal_of bytes ≡ Some (record { value = value; unsigned = unsigned })
Says bytes (token.Mark m) = spelling_of m ≡ bytes
Says bytes token.End = ⊥

abbrev pub is_end : TokenKind → Bool
is_end token.End = true
is_end (token.Name name) = false
is_end (token.Word w) = false
is_end (token.Number value unsigned) = false
is_end (token.Mark m) = false

-- the line and column of a place of a text
abbrev pub pos_at : List ℕ → ℕ → Pos
pos_at text at = (place_behind first_place (take at text)).pos

-- a token has the position of its first byte, and one that no macro made is what its bytes say
pub record Stands (text : List ℕ) (t : Token) : Type 0 where
  pub ordered : t.start ≤ t.end
  pub within : t.end ≤ length text
  pub pos : t.pos ≡ pos_at text t.start
  pub says : t.made ≡ false → Says (between text t.start t.end) t.kind
  pub goes_on : is_end t.kind ≡ false

-- where the next token may begin: behind a token that no macro made
abbrev pub behind : ℕ → Token → ℕ
behind from t = if t.made then from else t.end

abbrev pub StandInOrder : List ℕ → ℕ → List Token → Type 0
StandInOrder text from [] = ⊤
StandInOrder text from (t ∷ tokens) = Stands text t × (from ≤ t.start) × StandInOrder text (behind from t) tokens

-- tokens that stand in order, and then the one behind the last byte
abbrev pub StandIn : List ℕ → List Token → Type 0
StandIn text tokens = (before : List Token) × (tokens ≡ before ++ end_token text ∷ []) × StandInOrder text 0 before
