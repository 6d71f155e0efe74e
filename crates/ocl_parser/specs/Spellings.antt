-- Texts of single tokens. A text is followed by something: `mark m rest` are the tokens that begin with the punctuator m and of
-- which `rest` holds behind it. So the texts of a construct's parts stand one inside the other, in their order.
use Rattle.std.specs.Prelude.{◌≡◌, ◌⊎◌, ℕ, Bool, List, [], ◌∷◌, Option, Some, None}
use Rattle.vx_base.specs.declared.types.Pos.{Pos}
use Rattle.ocl_ast.specs.declared.exprs.BinOp.{BinOp}
use Rattle.ocl_ast.specs.declared.exprs.BinOp.TheVariants.{Mul, Div, Rem, Add, Sub, Shl, Shr, Lt, Gt, Le, Ge, Eq, Ne, And, Xor, Or}
use Rattle.ocl_ast.specs.declared.exprs.Ident.{Ident}
use Rattle.ocl_ast.specs.declared.exprs.UnOp.{UnOp}
use Rattle.ocl_ast.specs.declared.exprs.UnOp.TheVariants.{Plus as UnaryPlus, Minus as UnaryMinus, Not, Flip}
use Rattle.ocl_tokens.specs.declared.marks.Mark.{Mark}
use Rattle.ocl_tokens.specs.declared.marks.Mark.TheVariants.{Tilde, Bang, Plus, Minus, Star, Slash, Percent, ShiftLeft, ShiftRight, Less, Greater, LessEqual, GreaterEqual, EqualEqual, BangEqual, Ampersand, Caret, Bar, PlusEqual, MinusEqual, StarEqual, SlashEqual, PercentEqual, ShiftLeftEqual, ShiftRightEqual, AmpersandEqual, CaretEqual, BarEqual}
use Rattle.ocl_tokens.specs.declared.tokens.Token.{Token}
use Rattle.ocl_tokens.specs.declared.tokens.TokenKind.TheVariants.{Name as NameKind, Word as WordKind, Number as NumberKind, Mark as MarkKind}
use Rattle.ocl_tokens.specs.declared.words.Word.{Word}

-- what holds of the tokens behind a text
abbrev pub Rest : Type 1
Rest = List Token → Type 0

-- no text
abbrev pub no_text : Rest
no_text ts = ⊥

-- one text or another
abbrev pub either : Rest → Rest → Rest
either this that ts = this ts ⊎ that ts

-- a text where p holds
abbrev pub given : Type 0 → Rest → Rest
given p rest ts = p × rest ts

-- a token of which p holds
abbrev pub one : (Token → Type 0) → Rest → Rest
one p rest [] = ⊥
one p rest (t ∷ ts) = p t × rest ts

-- a punctuator
abbrev pub mark : Mark → Rest → Rest
mark m = one (λ t. t.kind ≡ MarkKind m)

-- a punctuator at a place
abbrev pub mark_at : Mark → Pos → Rest → Rest
mark_at m pos = one (λ t. (t.kind ≡ MarkKind m) × (t.pos ≡ pos))

-- a reserved word
abbrev pub word : Word → Rest → Rest
word w = one (λ t. t.kind ≡ WordKind w)

-- a reserved word at a place
abbrev pub word_at : Word → Pos → Rest → Rest
word_at w pos = one (λ t. (t.kind ≡ WordKind w) × (t.pos ≡ pos))

-- words in order
abbrev pub words : List Word → Rest → Rest
words [] rest = rest
words (w ∷ ws) rest = word w (words ws rest)

-- a name at its place
abbrev pub name : Ident → Rest → Rest
name n = one (λ t. (t.kind ≡ NameKind n.text) × (t.pos ≡ n.pos))

-- a number at a place
abbrev pub number_at : ℕ → Bool → Pos → Rest → Rest
number_at value unsigned pos = one (λ t. (t.kind ≡ NumberKind value unsigned) × (t.pos ≡ pos))

-- some number
abbrev pub IsNumber : Token → Type 0
IsNumber t = (value : ℕ) × (unsigned : Bool) × (t.kind ≡ NumberKind value unsigned)

abbrev pub unary_mark : UnOp → Mark
unary_mark UnaryPlus = Plus
unary_mark UnaryMinus = Minus
unary_mark Not = Bang
unary_mark Flip = Tilde

abbrev pub binary_mark : BinOp → Mark
binary_mark Mul = Star
binary_mark Div = Slash
binary_mark Rem = Percent
binary_mark Add = Plus
binary_mark Sub = Minus
binary_mark Shl = ShiftLeft
binary_mark Shr = ShiftRight
binary_mark Lt = Less
binary_mark Gt = Greater
binary_mark Le = LessEqual
binary_mark Ge = GreaterEqual
binary_mark Eq = EqualEqual
binary_mark Ne = BangEqual
binary_mark And = Ampersand
binary_mark Xor = Caret
binary_mark Or = Bar

-- The operators of an assignment: the comparisons have none.
abbrev pub set_mark : BinOp → Option Mark
set_mark Mul = Some StarEqual
set_mark Div = Some SlashEqual
set_mark Rem = Some PercentEqual
set_mark Add = Some PlusEqual
set_mark Sub = Some MinusEqual
set_mark Shl = Some ShiftLeftEqual
set_mark Shr = Some ShiftRightEqual
set_mark Lt = None
set_mark Gt = None
set_mark Le = None
set_mark Ge = None
set_mark Eq = None
set_mark Ne = None
set_mark And = Some AmpersandEqual
set_mark Xor = Some CaretEqual
set_mark Or = Some BarEqual
