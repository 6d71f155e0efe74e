-- Which token is refused, and why.
use Rattle.std.specs.Prelude.{◌≡◌, Bool, true, false, List, [], ◌∷◌, ◌++◌}
use Rattle.ocl_ast.specs.Trees.{FunctionTree}
use Rattle.ocl_tokens.specs.declared.tokens.Token.{Token}
use Rattle.ocl_tokens.specs.declared.tokens.TokenKind.{TokenKind}
use Rattle.ocl_tokens.specs.declared.tokens.TokenKind.TheVariants.{Word as WordKind, End}
use Rattle.ocl_tokens.specs.declared.words.Word.TheVariants.{LeftOut}
use Rattle.ocl_parser.specs.Limits.{AreWithin}
use Rattle.ocl_parser.specs.Rooms.{HasRoom}
use Rattle.ocl_parser.specs.Units.{Derives}
use Rattle.ocl_parser.specs.UnitSteps.{UnitNext, Reads, Adds, Fails}
use Rattle.ocl_parser.specs.declared.parsing.ParseFault.{ParseFault}
use Rattle.ocl_parser.specs.declared.parsing.ParseFault.TheVariants.{Unexpected, Subset, TooDeep, Memory}
use Rattle.ocl_parser.specs.declared.states.UnitFocus.{UnitFocus}
use Rattle.ocl_parser.specs.declared.states.UnitFocus.TheVariants.{Outside}

-- The last token is the end of the file.
abbrev pub AreEnded : List Token → Type 0
AreEnded tokens = (front : List Token) × (last : Token) × (tokens ≡ front ++ (last ∷ [])) × (last.kind ≡ End)

-- The token stands for what the language leaves out.
abbrev pub is_left_out : TokenKind → Bool
is_left_out (WordKind (LeftOut w)) = true
is_left_out _ = false

-- No file begins with these tokens, or some file does, where no limits are set.
abbrev pub BeginNoFile : List Token → Type 0
BeginNoFile front = (behind : List Token) (fs : List FunctionTree) → Derives (front ++ behind) fs → ⊥

abbrev pub BeginSomeFile : List Token → Type 0
BeginSomeFile front = (behind : List Token) × (fs : List FunctionTree) × Derives (front ++ behind) fs

-- The same of files within the limits.
abbrev pub BeginNoneWithin : List Token → Type 0
BeginNoneWithin front = (behind : List Token) (fs : List FunctionTree) → Derives (front ++ behind) fs → AreWithin fs → ⊥

abbrev pub BeginSomeWithin : List Token → Type 0
BeginSomeWithin front = (behind : List Token) × (fs : List FunctionTree) × Derives (front ++ behind) fs × AreWithin fs

-- The fault of a token behind others. Want of memory is no fault of a token.
abbrev pub IsFaultOf : ParseFault → List Token → Token → Type 0
IsFaultOf (Unexpected pos) before t = (pos ≡ t.pos) × (is_left_out t.kind ≡ false) × BeginNoFile (before ++ (t ∷ []))
IsFaultOf (Subset pos) before t = (pos ≡ t.pos) × (is_left_out t.kind ≡ true) × BeginNoFile (before ++ (t ∷ []))
IsFaultOf (TooDeep pos) before t = (pos ≡ t.pos) × BeginSomeFile (before ++ (t ∷ [])) × BeginNoneWithin (before ++ (t ∷ []))
IsFaultOf Memory before t = ⊥

-- One of the tokens has the fault, and the tokens before it go on to a file within the limits.
pub record IsRefused (fault : ParseFault) (tokens : List Token) : Type 0 where
  pub before : List Token
  pub token : Token
  pub behind : List Token
  pub whole : tokens ≡ before ++ (token ∷ behind)
  pub goes_on : BeginSomeWithin before
  pub why : IsFaultOf fault before token

-- What a token does, as the reader's next focus and its functions.
abbrev pub IsStep : UnitNext → UnitFocus → List FunctionTree → List FunctionTree → Type 0
IsStep (Reads focus) next fs gs = (next ≡ focus) × (gs ≡ fs)
IsStep (Adds f) next fs gs = (next ≡ Outside) × (gs ≡ fs ++ (f ∷ []))
IsStep Fails next fs gs = ⊥

-- Only files beyond the limits go on with a token that does this.
abbrev pub IsCrowded : UnitNext → Type 0
IsCrowded (Reads focus) = HasRoom focus → ⊥
IsCrowded (Adds f) = ⊥
IsCrowded Fails = ⊥

-- Why the reader stops at a token that does this.
abbrev pub IsStop : ParseFault → Token → UnitNext → Type 0
IsStop (Unexpected pos) t next = (pos ≡ t.pos) × (is_left_out t.kind ≡ false) × (next ≡ Fails)
IsStop (Subset pos) t next = (pos ≡ t.pos) × (is_left_out t.kind ≡ true) × (next ≡ Fails)
IsStop (TooDeep pos) t next = (pos ≡ t.pos) × IsCrowded next
IsStop Memory t next = ⊥

-- What a refusal says of the token alone.
abbrev pub IsRefusalOf : ParseFault → Token → Type 0
IsRefusalOf (Unexpected pos) t = (pos ≡ t.pos) × (is_left_out t.kind ≡ false)
IsRefusalOf (Subset pos) t = (pos ≡ t.pos) × (is_left_out t.kind ≡ true)
IsRefusalOf (TooDeep pos) t = ⊥
IsRefusalOf Memory t = ⊥
