-- How the reader goes through an expression: an operand, or what has been read of one, inside frames that hold the finished parts
-- to the left, the innermost first.
use Rattle.std.specs.Prelude.{ℕ, Bool, true, false, not, cond, nat_lt, nat_eq, List, [], ◌∷◌, Option, Some, None}
use Rattle.vx_base.specs.declared.types.Pos.{Pos}
use Rattle.ocl_ast.specs.declared.exprs.BinOp.TheVariants.{Mul, Div, Rem, Add, Sub, Shl, Shr, Lt, Gt, Le, Ge, Eq, Ne, And, Xor, Or}
use Rattle.ocl_ast.specs.declared.exprs.Ident.{Ident}
use Rattle.ocl_ast.specs.declared.exprs.UnOp.{UnOp}
use Rattle.ocl_ast.specs.declared.exprs.UnOp.TheVariants.{Plus as UnaryPlus, Minus as UnaryMinus, Not, Flip}
use Rattle.ocl_ast.specs.Trees.{ExprTree, NumberTree, NameTree, UnaryTree, BinaryTree, BothTree, EitherTree, ChooseTree, CastTree, IndexTree, CallTree, ParenTree, ArgTrees, NoArgs, AndArg}
use Rattle.ocl_tokens.specs.declared.marks.Mark.{Mark}
use Rattle.ocl_tokens.specs.declared.marks.Mark.TheVariants.{OpenParen, CloseParen, OpenBracket, CloseBracket, Comma, Question, Colon, Tilde, Bang, Plus, Minus, Star, Slash, Percent, ShiftLeft, ShiftRight, Less, Greater, LessEqual, GreaterEqual, EqualEqual, BangEqual, Ampersand, Caret, Bar, AndAnd, BarBar}
use Rattle.ocl_tokens.specs.declared.tokens.TokenKind.{TokenKind}
use Rattle.ocl_tokens.specs.declared.tokens.TokenKind.TheVariants.{Name as NameKind, Word as WordKind, Number as NumberKind, Mark as MarkKind, End}
use Rattle.ocl_parser.specs.Exprs.{level_of}
use Rattle.ocl_parser.specs.Scalars.{scalar_elem}
use Rattle.ocl_parser.specs.ScalarSteps.{scalar_first, scalar_more}
use Rattle.ocl_parser.specs.declared.scalars.Scalar.{Scalar}
use Rattle.ocl_parser.specs.declared.operators.Infix.{Infix}
use Rattle.ocl_parser.specs.declared.states.ExprFocus.{ExprFocus}
use Rattle.ocl_parser.specs.declared.states.ExprFocus.TheVariants.{Operand, Named, Opened, Casting, Calling, Done}
use Rattle.ocl_parser.specs.declared.states.ExprFrame.{ExprFrame}
use Rattle.ocl_parser.specs.declared.states.ExprFrame.TheVariants.{Unary as UnaryFrame, Cast as CastFrame, Between as InfixFrame, Test as TestFrame, Other as OtherFrame, Index as IndexFrame, Call as ArgsFrame, Paren as ParenFrame}
use Rattle.ocl_parser.specs.declared.operators.Infix.TheVariants.{Both, Either, Op}

-- an operator between two operands, by its punctuator
abbrev pub infix_of : Mark → Option Infix
infix_of Star = Some (Op Mul)
infix_of Slash = Some (Op Div)
infix_of Percent = Some (Op Rem)
infix_of Plus = Some (Op Add)
infix_of Minus = Some (Op Sub)
infix_of ShiftLeft = Some (Op Shl)
infix_of ShiftRight = Some (Op Shr)
infix_of Less = Some (Op Lt)
infix_of Greater = Some (Op Gt)
infix_of LessEqual = Some (Op Le)
infix_of GreaterEqual = Some (Op Ge)
infix_of EqualEqual = Some (Op Eq)
infix_of BangEqual = Some (Op Ne)
infix_of Ampersand = Some (Op And)
infix_of Caret = Some (Op Xor)
infix_of Bar = Some (Op Or)
infix_of AndAnd = Some Both
infix_of BarBar = Some Either
infix_of _ = None

-- an operator before its operand, by its punctuator
abbrev pub unary_of : Mark → Option UnOp
unary_of Plus = Some UnaryPlus
unary_of Minus = Some UnaryMinus
unary_of Bang = Some Not
unary_of Tilde = Some Flip
unary_of _ = None

abbrev pub infix_level : Infix → ℕ
infix_level (Op op) = level_of op
infix_level Both = 2
infix_level Either = 1

abbrev pub infix_tree : Infix → ExprTree → ExprTree → Pos → ExprTree
infix_tree (Op op) left right pos = BinaryTree op left right pos
infix_tree Both left right pos = BothTree left right pos
infix_tree Either left right pos = EitherTree left right pos

-- What a token does: the reading goes on; or the expression has ended before it; or no expression goes on with it.
pub data ExprNext : Type 0 where
  Goes : ExprFocus → List ExprFrame → ExprNext
  Ends : ExprTree → ExprNext
  Refuses : ExprNext

abbrev pub and_arg : ArgTrees → ExprTree → ArgTrees
and_arg NoArgs e = AndArg e NoArgs
and_arg (AndArg arg args) e = AndArg arg (and_arg args e)

-- An expression and the frames that wait for it.
pub record ExprInFrames : Type 0 where
  pub tree : ExprTree
  pub frames : List ExprFrame

abbrev pub standing : ExprTree → List ExprFrame → ExprInFrames
standing e K = record { tree = e; frames = K }

-- An operator of level n, or at 0 a token that is none, ends the construct. A `?` is of level 1 here.
abbrev pub ends : ℕ → ExprFrame → Bool
ends n (UnaryFrame op pos) = true
ends n (CastFrame elem pos) = true
ends n (InfixFrame op left pos) = not (nat_lt (infix_level op) n)
ends n (OtherFrame test one pos) = nat_eq n 0
ends n (TestFrame test pos) = false
ends n (IndexFrame array pos) = false
ends n (ArgsFrame called args) = false
ends n (ParenFrame pos) = false

-- the construct with the expression in it, where nothing else closes it
abbrev pub closed_by : ExprFrame → ExprTree → ExprTree
closed_by (UnaryFrame op pos) e = UnaryTree op e pos
closed_by (CastFrame elem pos) e = CastTree elem e pos
closed_by (InfixFrame op left pos) e = infix_tree op left e pos
closed_by (OtherFrame test one pos) e = ChooseTree test one e pos
closed_by (TestFrame test pos) e = e
closed_by (IndexFrame array pos) e = e
closed_by (ArgsFrame called args) e = e
closed_by (ParenFrame pos) e = e

-- Closes the frames that end.
abbrev pub settled : ℕ → ExprTree → List ExprFrame → ExprInFrames
settled n e [] = standing e []
settled n e (f ∷ K) = cond (ends n f) (settled n (closed_by f e) K) (standing e (f ∷ K))

-- an operand's first token
abbrev pub operand_mark : Mark → Pos → List ExprFrame → ExprNext
operand_mark OpenParen pos K = Goes (Opened pos) K
operand_mark m pos K = elim (unary_of m) [ Some op ↦ Goes Operand (UnaryFrame op pos ∷ K) | None ↦ Refuses ]

abbrev pub operand_step : TokenKind → Pos → List ExprFrame → ExprNext
operand_step (NumberKind value unsigned) pos K = Goes (Done (NumberTree value unsigned pos)) K
operand_step (NameKind text) pos K = Goes (Named (record { text = text; pos = pos })) K
operand_step (MarkKind m) pos K = operand_mark m pos K
operand_step (WordKind w) pos K = Refuses
operand_step End pos K = Refuses

-- a token that closes what an expression stands in
abbrev pub close_test : TokenKind → ExprTree → ExprTree → Pos → List ExprFrame → ExprNext
close_test (MarkKind Colon) test e pos K = Goes Operand (OtherFrame test e pos ∷ K)
close_test _ test e pos K = Refuses

abbrev pub close_index : TokenKind → Ident → ExprTree → Pos → List ExprFrame → ExprNext
close_index (MarkKind CloseBracket) array e pos K = Goes (Done (IndexTree array e pos)) K
close_index _ array e pos K = Refuses

abbrev pub close_args : TokenKind → Ident → ArgTrees → ExprTree → List ExprFrame → ExprNext
close_args (MarkKind Comma) called args e K = Goes Operand (ArgsFrame called (and_arg args e) ∷ K)
close_args (MarkKind CloseParen) called args e K = Goes (Done (CallTree called (and_arg args e))) K
close_args _ called args e K = Refuses

abbrev pub close_paren : TokenKind → ExprTree → Pos → List ExprFrame → ExprNext
close_paren (MarkKind CloseParen) e pos K = Goes (Done (ParenTree e pos)) K
close_paren _ e pos K = Refuses

abbrev pub close_step : TokenKind → ExprTree → List ExprFrame → ExprNext
close_step kind e [] = Ends e
close_step kind e (TestFrame test pos ∷ K) = close_test kind test e pos K
close_step kind e (IndexFrame array pos ∷ K) = close_index kind array e pos K
close_step kind e (ArgsFrame called args ∷ K) = close_args kind called args e K
close_step kind e (ParenFrame pos ∷ K) = close_paren kind e pos K
close_step kind e (UnaryFrame op pos ∷ K) = Refuses
close_step kind e (CastFrame elem pos ∷ K) = Refuses
close_step kind e (InfixFrame op left pos ∷ K) = Refuses
close_step kind e (OtherFrame test one pos ∷ K) = Refuses

abbrev pub close_standing : TokenKind → ExprInFrames → ExprNext
close_standing kind s = close_step kind s.tree s.frames

abbrev pub infix_step : Infix → Pos → ExprInFrames → ExprNext
infix_step op pos s = Goes Operand (InfixFrame op s.tree pos ∷ s.frames)

abbrev pub question_step : Pos → ExprInFrames → ExprNext
question_step pos s = Goes Operand (TestFrame s.tree pos ∷ s.frames)

-- a token behind a whole operand
abbrev pub done_mark : Mark → Pos → ExprTree → List ExprFrame → ExprNext
done_mark Question pos e K = question_step pos (settled 1 e K)
done_mark m pos e K =
    elim (infix_of m) [ Some op ↦ infix_step op pos (settled (infix_level op) e K) | None ↦ close_standing (MarkKind m) (settled 0 e K) ]

abbrev pub done_step : TokenKind → Pos → ExprTree → List ExprFrame → ExprNext
done_step (MarkKind m) pos e K = done_mark m pos e K
done_step (NumberKind value unsigned) pos e K = close_standing (NumberKind value unsigned) (settled 0 e K)
done_step (NameKind text) pos e K = close_standing (NameKind text) (settled 0 e K)
done_step (WordKind w) pos e K = close_standing (WordKind w) (settled 0 e K)
done_step End pos e K = close_standing End (settled 0 e K)

-- a token behind a name
abbrev pub named_step : TokenKind → Pos → Ident → List ExprFrame → ExprNext
named_step (MarkKind OpenBracket) pos n K = Goes Operand (IndexFrame n pos ∷ K)
named_step (MarkKind OpenParen) pos n K = Goes (Calling n) K
named_step kind pos n K = done_step kind pos (NameTree n) K

-- a token behind `(`
abbrev pub opened_word : Option Scalar → Pos → List ExprFrame → ExprNext
opened_word (Some s) at K = Goes (Casting s at) K
opened_word None at K = Refuses

abbrev pub opened_step : TokenKind → Pos → Pos → List ExprFrame → ExprNext
opened_step (WordKind w) pos at K = opened_word (scalar_first w) at K
opened_step kind pos at K = operand_step kind pos (ParenFrame at ∷ K)

-- a token behind a word of a cast's type
abbrev pub casting_step : TokenKind → Scalar → Pos → List ExprFrame → ExprNext
casting_step (WordKind w) s at K = opened_word (scalar_more s w) at K
casting_step (MarkKind CloseParen) s at K = Goes Operand (CastFrame (scalar_elem s) at ∷ K)
casting_step _ s at K = Refuses

-- a token behind a name and `(`
abbrev pub calling_step : TokenKind → Pos → Ident → List ExprFrame → ExprNext
calling_step (MarkKind CloseParen) pos n K = Goes (Done (CallTree n NoArgs)) K
calling_step kind pos n K = operand_step kind pos (ArgsFrame n NoArgs ∷ K)

-- one token
abbrev pub expr_step : TokenKind → Pos → ExprFocus → List ExprFrame → ExprNext
expr_step kind pos Operand K = operand_step kind pos K
expr_step kind pos (Named n) K = named_step kind pos n K
expr_step kind pos (Opened at) K = opened_step kind pos at K
expr_step kind pos (Casting s at) K = casting_step kind s at K
expr_step kind pos (Calling n) K = calling_step kind pos n K
expr_step kind pos (Done e) K = done_step kind pos e K
