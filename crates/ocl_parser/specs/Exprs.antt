-- The texts of expressions, a case for each production (C99, section 6.5, as far as the language has it), and which trees the
-- levels of the operators allow.
use Rattle.std.specs.Prelude.{ℕ, ◌≤◌, ◌<◌, Option, Some, None}
use Rattle.ocl_ast.specs.declared.exprs.BinOp.{BinOp}
use Rattle.ocl_ast.specs.declared.exprs.BinOp.TheVariants.{Mul, Div, Rem, Add, Sub, Shl, Shr, Lt, Gt, Le, Ge, Eq, Ne, And, Xor, Or}
use Rattle.ocl_ast.specs.Trees.{ExprTree, NumberTree, NameTree, UnaryTree, BinaryTree, BothTree, EitherTree, ChooseTree, CastTree, IndexTree, CallTree, ParenTree, ArgTrees, NoArgs, AndArg}
use Rattle.ocl_tokens.specs.declared.marks.Mark.TheVariants.{OpenParen, CloseParen, OpenBracket, CloseBracket, Comma, Question, Colon, AndAnd, BarBar}
use Rattle.ocl_parser.specs.Spellings.{Rest, mark, mark_at, name, number_at, unary_mark, binary_mark}
use Rattle.ocl_parser.specs.Scalars.{scalar}

abbrev mutual
  -- the text of an expression
  pub expr_text : ExprTree → Rest → Rest
  expr_text (NumberTree value unsigned pos) rest = number_at value unsigned pos rest
  expr_text (NameTree n) rest = name n rest
  expr_text (UnaryTree op part pos) rest = mark_at (unary_mark op) pos (expr_text part rest)
  expr_text (BinaryTree op left right pos) rest = expr_text left (mark_at (binary_mark op) pos (expr_text right rest))
  expr_text (BothTree left right pos) rest = expr_text left (mark_at AndAnd pos (expr_text right rest))
  expr_text (EitherTree left right pos) rest = expr_text left (mark_at BarBar pos (expr_text right rest))
  expr_text (ChooseTree test one other pos) rest =
      expr_text test (mark_at Question pos (expr_text one (mark Colon (expr_text other rest))))
  expr_text (CastTree elem part pos) rest = mark_at OpenParen pos (scalar elem (mark CloseParen (expr_text part rest)))
  expr_text (IndexTree array place pos) rest = name array (mark_at OpenBracket pos (expr_text place (mark CloseBracket rest)))
  expr_text (CallTree n args) rest = name n (mark OpenParen (args_text args (mark CloseParen rest)))
  expr_text (ParenTree part pos) rest = mark_at OpenParen pos (expr_text part (mark CloseParen rest))

  -- arguments with commas between
  pub args_text : ArgTrees → Rest → Rest
  args_text NoArgs rest = rest
  args_text (AndArg arg args) rest = expr_text arg (more_args_text args rest)

  -- arguments, each with a comma before
  pub more_args_text : ArgTrees → Rest → Rest
  more_args_text NoArgs rest = rest
  more_args_text (AndArg arg args) rest = mark Comma (expr_text arg (more_args_text args rest))

-- an expression or none
abbrev pub option_text : Option ExprTree → Rest → Rest
option_text None rest = rest
option_text (Some e) rest = expr_text e rest

-- How tightly an operator binds: 1 for `||`, 2 for `&&`, and so up to 10 for the products.
abbrev pub level_of : BinOp → ℕ
level_of Mul = 10
level_of Div = 10
level_of Rem = 10
level_of Add = 9
level_of Sub = 9
level_of Shl = 8
level_of Shr = 8
level_of Lt = 7
level_of Gt = 7
level_of Le = 7
level_of Ge = 7
level_of Eq = 6
level_of Ne = 6
level_of And = 5
level_of Xor = 4
level_of Or = 3

-- How tightly an expression holds together: 0 for `?:`, an operator's level, 11 for what has an operator before it, 12 for the rest.
abbrev pub rank : ExprTree → ℕ
rank (NumberTree value unsigned pos) = 12
rank (NameTree n) = 12
rank (UnaryTree op part pos) = 11
rank (BinaryTree op left right pos) = level_of op
rank (BothTree left right pos) = 2
rank (EitherTree left right pos) = 1
rank (ChooseTree test one other pos) = 0
rank (CastTree elem part pos) = 11
rank (IndexTree array place pos) = 12
rank (CallTree n args) = 12
rank (ParenTree part pos) = 12

abbrev mutual
  -- The operators stand where their levels put them: repetitions group to the left, `?:` groups to the right.
  pub IsGrouped : ExprTree → Type 0
  IsGrouped (NumberTree value unsigned pos) = Unit {0}
  IsGrouped (NameTree n) = Unit {0}
  IsGrouped (UnaryTree op part pos) = (11 ≤ rank part) × IsGrouped part
  IsGrouped (BinaryTree op left right pos) =
      (level_of op ≤ rank left) × (level_of op < rank right) × IsGrouped left × IsGrouped right
  IsGrouped (BothTree left right pos) = (2 ≤ rank left) × (2 < rank right) × IsGrouped left × IsGrouped right
  IsGrouped (EitherTree left right pos) = (1 ≤ rank left) × (1 < rank right) × IsGrouped left × IsGrouped right
  IsGrouped (ChooseTree test one other pos) = (1 ≤ rank test) × IsGrouped test × IsGrouped one × IsGrouped other
  IsGrouped (CastTree elem part pos) = (11 ≤ rank part) × IsGrouped part
  IsGrouped (IndexTree array place pos) = IsGrouped place
  IsGrouped (CallTree n args) = AreGrouped args
  IsGrouped (ParenTree part pos) = IsGrouped part

  pub AreGrouped : ArgTrees → Type 0
  AreGrouped NoArgs = Unit {0}
  AreGrouped (AndArg arg args) = IsGrouped arg × AreGrouped args

-- the same of an expression or none
abbrev pub IsGroupedIfAny : Option ExprTree → Type 0
IsGroupedIfAny None = Unit {0}
IsGroupedIfAny (Some e) = IsGrouped e
