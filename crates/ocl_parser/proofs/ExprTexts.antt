-- What the reader has read of an expression, as texts.
use Rattle.std.proofs.Common.{List, [], ◌∷◌}
use Rattle.ocl_ast.specs.Trees.{ExprTree, ArgTrees, NoArgs, AndArg}
use Rattle.ocl_tokens.specs.declared.marks.Mark.{Mark}
use Rattle.ocl_tokens.specs.declared.marks.Mark.TheVariants.{OpenParen, CloseParen, OpenBracket, Comma, Question, Colon, AndAnd, BarBar}
use Rattle.ocl_tokens.specs.declared.tokens.Token.{Token}
use Rattle.ocl_parser.specs.Spellings.{Rest, mark, mark_at, words, name, unary_mark, binary_mark}
use Rattle.ocl_parser.specs.Scalars.{scalar, scalar_words}
use Rattle.ocl_parser.specs.Exprs.{expr_text, args_text, more_args_text}
use Rattle.ocl_parser.specs.ExprSteps.{ExprNext, Goes, Ends, Refuses, infix_tree, and_arg}
use Rattle.ocl_parser.specs.declared.operators.Infix.{Infix}
use Rattle.ocl_parser.specs.declared.operators.Infix.TheVariants.{Both, Either, Op}
use Rattle.ocl_parser.specs.declared.states.ExprFocus.{ExprFocus}
use Rattle.ocl_parser.specs.declared.states.ExprFocus.TheVariants.{Operand, Named, Opened, Casting, Calling, Done}
use Rattle.ocl_parser.specs.declared.states.ExprFrame.{ExprFrame}
use Rattle.ocl_parser.specs.declared.states.ExprFrame.TheVariants.{Unary as UnaryFrame, Cast as CastFrame, Between as InfixFrame, Test as TestFrame, Other as OtherFrame, Index as IndexFrame, Call as ArgsFrame, Paren as ParenFrame}
use Rattle.ocl_parser.proofs.Texts.{Leads, same, one_mono, scalar_mono, expr_mono, after}

abbrev pub infix_mark : Infix → Mark
infix_mark (Op op) = binary_mark op
infix_mark Both = AndAnd
infix_mark Either = BarBar

-- arguments, each with a comma behind
abbrev pub args_before : ArgTrees → Rest → Rest
args_before NoArgs rest = rest
args_before (AndArg arg args) rest = expr_text arg (mark Comma (args_before args rest))

-- a frame up to the expression in it
abbrev pub frame_text : ExprFrame → Rest → Rest
frame_text (UnaryFrame op pos) rest = mark_at (unary_mark op) pos rest
frame_text (CastFrame elem pos) rest = mark_at OpenParen pos (scalar elem (mark CloseParen rest))
frame_text (InfixFrame op left pos) rest = expr_text left (mark_at (infix_mark op) pos rest)
frame_text (TestFrame test pos) rest = expr_text test (mark_at Question pos rest)
frame_text (OtherFrame test one_ pos) rest = expr_text test (mark_at Question pos (expr_text one_ (mark Colon rest)))
frame_text (IndexFrame array pos) rest = name array (mark_at OpenBracket pos rest)
frame_text (ArgsFrame n args) rest = name n (mark OpenParen (args_before args rest))
frame_text (ParenFrame pos) rest = mark_at OpenParen pos rest

abbrev pub frames_text : List ExprFrame → Rest → Rest
frames_text [] rest = rest
frames_text (f ∷ K) rest = frames_text K (frame_text f rest)

abbrev pub focus_text : ExprFocus → Rest → Rest
focus_text Operand rest = rest
focus_text (Named n) rest = name n rest
focus_text (Opened pos) rest = mark_at OpenParen pos rest
focus_text (Casting s pos) rest = mark_at OpenParen pos (words (scalar_words s) rest)
focus_text (Calling n) rest = name n (mark OpenParen rest)
focus_text (Done e) rest = expr_text e rest

abbrev pub read_text : ExprFocus → List ExprFrame → Rest → Rest
read_text focus K rest = frames_text K (focus_text focus rest)

-- what has been read once the token has done its part; it stands still before the end of an expression
abbrev pub next_text : Token → ExprNext → Rest → Rest
next_text t (Goes focus K) rest = read_text focus K rest
next_text t (Ends e) rest = expr_text e (after t rest)
next_text t Refuses rest = λ ts. Unit {0}

pub args_before_mono : (args : ArgTrees) {a b : Rest} → Leads a b → Leads (args_before args a) (args_before args b)
args_before_mono NoArgs f = f
args_before_mono (AndArg arg args) f = expr_mono arg (one_mono _ (args_before_mono args f))

pub frame_mono : (f : ExprFrame) {a b : Rest} → Leads a b → Leads (frame_text f a) (frame_text f b)
frame_mono (UnaryFrame op pos) f = one_mono _ f
frame_mono (CastFrame elem pos) f = one_mono _ (scalar_mono elem (one_mono _ f))
frame_mono (InfixFrame op left pos) f = expr_mono left (one_mono _ f)
frame_mono (TestFrame test pos) f = expr_mono test (one_mono _ f)
frame_mono (OtherFrame test one_ pos) f = expr_mono test (one_mono _ (expr_mono one_ (one_mono _ f)))
frame_mono (IndexFrame array pos) f = one_mono _ (one_mono _ f)
frame_mono (ArgsFrame n args) f = one_mono _ (one_mono _ (args_before_mono args f))
frame_mono (ParenFrame pos) f = one_mono _ f

pub frames_mono : (K : List ExprFrame) {a b : Rest} → Leads a b → Leads (frames_text K a) (frames_text K b)
frames_mono [] f = f
frames_mono (g ∷ K) f = frames_mono K (frame_mono g f)

pub infix_whole : (op : Infix) (left right : ExprTree) (pos : _) (rest : Rest) →
    Leads (expr_text left (mark_at (infix_mark op) pos (expr_text right rest))) (expr_text (infix_tree op left right pos) rest)
infix_whole (Op op) left right pos rest = same
infix_whole Both left right pos rest = same
infix_whole Either left right pos rest = same

pub infix_parts : (op : Infix) (left right : ExprTree) (pos : _) (rest : Rest) →
    Leads (expr_text (infix_tree op left right pos) rest) (expr_text left (mark_at (infix_mark op) pos (expr_text right rest)))
infix_parts (Op op) left right pos rest = same
infix_parts Both left right pos rest = same
infix_parts Either left right pos rest = same

-- arguments before a last one, and the arguments with it
more_args_last : (args : ArgTrees) (e : ExprTree) (rest : Rest) → Leads (mark Comma (args_before args (expr_text e rest))) (more_args_text (and_arg args e) rest)
more_args_last NoArgs e rest = same
more_args_last (AndArg arg args) e rest = one_mono _ (expr_mono arg (more_args_last args e rest))

pub args_last : (args : ArgTrees) (e : ExprTree) (rest : Rest) → Leads (args_before args (expr_text e rest)) (args_text (and_arg args e) rest)
args_last NoArgs e rest = same
args_last (AndArg arg args) e rest = expr_mono arg (more_args_last args e rest)

pub args_comma : (args : ArgTrees) (e : ExprTree) (rest : Rest) → Leads (args_before args (expr_text e (mark Comma rest))) (args_before (and_arg args e) rest)
args_comma NoArgs e rest = same
args_comma (AndArg arg args) e rest = expr_mono arg (one_mono _ (args_comma args e rest))
