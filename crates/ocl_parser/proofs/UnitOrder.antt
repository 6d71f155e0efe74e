-- The reader groups the expressions of a file and gives each `else` to the nearest `if`; and what it makes of tokens derives from them.
use Rattle.std.proofs.Common.{◌≡◌, subst, Bool, false, ℕ, List, [], ◌∷◌, ◌++◌, Option, Some, None}
use Rattle.vx_base.specs.declared.types.Elem.{Elem}
use Rattle.vx_base.specs.declared.types.ParamKind.{ParamKind}
use Rattle.vx_base.specs.declared.types.Pos.{Pos}
use Rattle.vx_base.specs.declared.types.Space.{Space}
use Rattle.ocl_ast.specs.declared.units.Gives.{Gives}
use Rattle.ocl_ast.specs.declared.units.Gives.TheVariants.{Value}
use Rattle.ocl_ast.specs.declared.units.Param.{Param}
use Rattle.ocl_ast.specs.Trees.{FunctionTree}
use Rattle.ocl_tokens.specs.declared.marks.Mark.TheVariants.{OpenParen, CloseParen, OpenBrace, Comma, Star}
use Rattle.ocl_tokens.specs.declared.tokens.Token.{Token}
use Rattle.ocl_tokens.specs.declared.tokens.TokenKind.{TokenKind}
use Rattle.ocl_tokens.specs.declared.tokens.TokenKind.TheVariants.{Name as NameKind, Word as WordKind, Mark as MarkKind, End}
use Rattle.ocl_tokens.specs.declared.words.Word.{Word}
use Rattle.ocl_tokens.specs.declared.words.Word.TheVariants.{UnderscoreKernel, Kernel, UnderscoreGlobal, Global, UnderscoreConstant, Constant, UnderscoreLocal, Local, Const, Volatile, Restrict, Inline, Static, Void}
use Rattle.ocl_parser.specs.declared.scalars.Scalar.{Scalar}
use Rattle.ocl_parser.specs.Scalars.{scalar_elem}
use Rattle.ocl_parser.specs.ScalarSteps.{scalar_first, scalar_more}
use Rattle.ocl_parser.specs.Stmts.{AreOrderly}
use Rattle.ocl_parser.specs.Runs.{run, ended, go_on}
use Rattle.ocl_parser.specs.Units.{AreOrderlyFunctions, Derives}
use Rattle.ocl_parser.specs.StmtSteps.{StmtNext, GoesOn, Closes, Stops, stmt_step}
use Rattle.ocl_parser.specs.UnitSteps.{UnitNext, Reads, Adds, Fails, gives_read, helper_word, helper_step, outside_step, kernel_step, head_step, gives_step, named_head, with_space, param_scalar, param_word, params_step, open_params, close_params, scalar_param, pointer_param, type_step, param_more, scalar_word_step, starred_step, named_step, brace_step, inside_step, unit_step}
use Rattle.ocl_parser.specs.declared.states.Head.{Head}
use Rattle.ocl_parser.specs.declared.states.UnitFocus.{UnitFocus}
use Rattle.ocl_parser.specs.declared.states.UnitFocus.TheVariants.{Outside, KernelRead, HelperWords, GivesRead, HeadRead, HeadNamed, ParamsOpen, VoidRead, ParamWords, ParamScalar, ParamType, Starred, ParamNamed, ParamsClosed, Inside, AtEnd}
use Rattle.ocl_parser.proofs.StmtOrder.{IsOrderlyFocus, AreOrderlyFrames, IsOrderlyNext, stmt_orders}
use Rattle.ocl_parser.proofs.UnitSound.{none_some, some_same, unit_sound}

abbrev pub IsOrderlyUnit : UnitFocus → Type 0
IsOrderlyUnit (Inside head ps focus K) = IsOrderlyFocus focus × AreOrderlyFrames K
IsOrderlyUnit _ = Unit {0}

abbrev pub IsOrderlyUnitNext : UnitNext → Type 0
IsOrderlyUnitNext (Reads focus) = IsOrderlyUnit focus
IsOrderlyUnitNext (Adds f) = AreOrderly f.body
IsOrderlyUnitNext Fails = Unit {0}

-- the head
gives_orders : (o : Option Scalar) → IsOrderlyUnitNext (gives_read o)
gives_orders (Some s) = tt
gives_orders None = tt

helper_word_orders : (w : Word) → IsOrderlyUnitNext (helper_word w)
helper_word_orders Inline = tt
helper_word_orders Static = tt
helper_word_orders Void = tt
helper_word_orders w = gives_orders (scalar_first w)

outside_word : (w : Word) → IsOrderlyUnitNext (outside_step (WordKind w))
outside_word UnderscoreKernel = tt
outside_word Kernel = tt
outside_word w = helper_word_orders w

outside_orders : (kind : TokenKind) → IsOrderlyUnitNext (outside_step kind)
outside_orders (WordKind w) = outside_word w
outside_orders End = tt
outside_orders _ = tt

kernel_orders : (kind : TokenKind) → IsOrderlyUnitNext (kernel_step kind)
kernel_orders (WordKind Void) = tt
kernel_orders _ = tt

helper_orders : (kind : TokenKind) → IsOrderlyUnitNext (helper_step kind)
helper_orders (WordKind w) = helper_word_orders w
helper_orders _ = tt

head_orders : (kind : TokenKind) (pos : Pos) (kernel : Bool) (gives : Gives) → IsOrderlyUnitNext (head_step kind pos kernel gives)
head_orders (NameKind text) pos kernel gives = tt
head_orders _ pos kernel gives = tt

gives_step_orders : (kind : TokenKind) (pos : Pos) (s : Scalar) → IsOrderlyUnitNext (gives_step kind pos s)
gives_step_orders (WordKind w) pos s = gives_orders (scalar_more s w)
gives_step_orders kind pos s = head_orders kind pos false (Value (scalar_elem s))

named_head_orders : (kind : TokenKind) (head : Head) → IsOrderlyUnitNext (named_head kind head)
named_head_orders (MarkKind OpenParen) head = tt
named_head_orders _ head = tt

-- the parameters
space_orders : (o : Option Space) (head : Head) (ps : List Param) (constant : Bool) (s : Space) → IsOrderlyUnitNext (with_space head ps o constant s)
space_orders None head ps constant s = tt
space_orders (Some other) head ps constant s = tt

scalar_orders : (o : Option Scalar) (head : Head) (ps : List Param) (space : Option Space) (constant : Bool) → IsOrderlyUnitNext (param_scalar o head ps space constant)
scalar_orders (Some s) head ps space constant = tt
scalar_orders None head ps space constant = tt

word_orders : (w : Word) (head : Head) (ps : List Param) (space : Option Space) (constant : Bool) → IsOrderlyUnitNext (param_word w head ps space constant)
word_orders Const head ps space constant = tt
word_orders Volatile head ps space constant = tt
word_orders UnderscoreGlobal head ps space constant = space_orders space head ps constant Space.Global
word_orders Global head ps space constant = space_orders space head ps constant Space.Global
word_orders UnderscoreConstant head ps space constant = space_orders space head ps constant Space.Constant
word_orders Constant head ps space constant = space_orders space head ps constant Space.Constant
word_orders UnderscoreLocal head ps space constant = space_orders space head ps constant Space.Local
word_orders Local head ps space constant = space_orders space head ps constant Space.Local
word_orders w head ps space constant = scalar_orders (scalar_first w) head ps space constant

params_orders : (kind : TokenKind) (head : Head) (ps : List Param) (space : Option Space) (constant : Bool) → IsOrderlyUnitNext (params_step kind head ps space constant)
params_orders (WordKind w) head ps space constant = word_orders w head ps space constant
params_orders _ head ps space constant = tt

open_orders : (kind : TokenKind) (head : Head) → IsOrderlyUnitNext (open_params kind head)
open_orders (MarkKind CloseParen) head = tt
open_orders (WordKind Void) head = tt
open_orders kind head = params_orders kind head [] None false

void_orders : (kind : TokenKind) (head : Head) (ps : List Param) → IsOrderlyUnitNext (close_params kind head ps)
void_orders (MarkKind CloseParen) head ps = tt
void_orders _ head ps = tt

name_orders : (o : Option Space) (text : List ℕ) (pos : Pos) (head : Head) (ps : List Param) (constant : Bool) (elem : Elem) →
    IsOrderlyUnitNext (scalar_param o text pos head ps constant elem)
name_orders None text pos head ps constant elem = tt
name_orders (Some space) text pos head ps constant elem = tt

pointer_orders : (o : Option Space) (head : Head) (ps : List Param) (constant : Bool) (elem : Elem) → IsOrderlyUnitNext (pointer_param o head ps constant elem)
pointer_orders None head ps constant elem = tt
pointer_orders (Some space) head ps constant elem = tt

type_orders : (kind : TokenKind) (pos : Pos) (head : Head) (ps : List Param) (space : Option Space) (constant : Bool) (elem : Elem) →
    IsOrderlyUnitNext (type_step kind pos head ps space constant elem)
type_orders (NameKind text) pos head ps space constant elem = name_orders space text pos head ps constant elem
type_orders (MarkKind Star) pos head ps space constant elem = pointer_orders space head ps constant elem
type_orders (WordKind Const) pos head ps space constant elem = tt
type_orders (WordKind Volatile) pos head ps space constant elem = tt
type_orders _ pos head ps space constant elem = tt

more_orders : (o : Option Scalar) (w : Word) (pos : Pos) (head : Head) (ps : List Param) (space : Option Space) (constant : Bool) (s : Scalar) →
    IsOrderlyUnitNext (param_more o (WordKind w) pos head ps space constant s)
more_orders (Some more) w pos head ps space constant s = tt
more_orders None w pos head ps space constant s = type_orders (WordKind w) pos head ps space constant (scalar_elem s)

scalar_word_orders : (kind : TokenKind) (pos : Pos) (head : Head) (ps : List Param) (space : Option Space) (constant : Bool) (s : Scalar) →
    IsOrderlyUnitNext (scalar_word_step kind pos head ps space constant s)
scalar_word_orders (WordKind w) pos head ps space constant s = more_orders (scalar_more s w) w pos head ps space constant s
scalar_word_orders kind pos head ps space constant s = type_orders kind pos head ps space constant (scalar_elem s)

starred_orders : (kind : TokenKind) (pos : Pos) (head : Head) (ps : List Param) (pointer : ParamKind) (constant : Bool) →
    IsOrderlyUnitNext (starred_step kind pos head ps pointer constant)
starred_orders (NameKind text) pos head ps pointer constant = tt
starred_orders (WordKind Const) pos head ps pointer constant = tt
starred_orders (WordKind Restrict) pos head ps pointer constant = tt
starred_orders (WordKind Volatile) pos head ps pointer constant = tt
starred_orders _ pos head ps pointer constant = tt

named_orders : (kind : TokenKind) (head : Head) (ps : List Param) → IsOrderlyUnitNext (named_step kind head ps)
named_orders (MarkKind Comma) head ps = tt
named_orders (MarkKind CloseParen) head ps = tt
named_orders _ head ps = tt

-- the body
brace_orders : (kind : TokenKind) (head : Head) (ps : List Param) → IsOrderlyUnitNext (brace_step kind head ps)
brace_orders (MarkKind OpenBrace) head ps = (tt, (tt, tt))
brace_orders _ head ps = tt

inside_orders : (next : StmtNext) (head : Head) (ps : List Param) → IsOrderlyNext next → IsOrderlyUnitNext (inside_step next head ps)
inside_orders (GoesOn focus K) head ps g = g
inside_orders (Closes body) head ps g = g
inside_orders Stops head ps g = tt

pub unit_orders : (kind : TokenKind) (pos : Pos) (focus : UnitFocus) → IsOrderlyUnit focus → IsOrderlyUnitNext (unit_step kind pos focus)
unit_orders kind pos Outside g = outside_orders kind
unit_orders kind pos KernelRead g = kernel_orders kind
unit_orders kind pos HelperWords g = helper_orders kind
unit_orders kind pos (GivesRead s) g = gives_step_orders kind pos s
unit_orders kind pos (HeadRead kernel gives) g = head_orders kind pos kernel gives
unit_orders kind pos (HeadNamed head) g = named_head_orders kind head
unit_orders kind pos (ParamsOpen head) g = open_orders kind head
unit_orders kind pos (VoidRead head) g = void_orders kind head []
unit_orders kind pos (ParamWords head ps space constant) g = params_orders kind head ps space constant
unit_orders kind pos (ParamScalar head ps space constant s) g = scalar_word_orders kind pos head ps space constant s
unit_orders kind pos (ParamType head ps space constant elem) g = type_orders kind pos head ps space constant elem
unit_orders kind pos (Starred head ps pointer constant) g = starred_orders kind pos head ps pointer constant
unit_orders kind pos (ParamNamed head ps) g = named_orders kind head ps
unit_orders kind pos (ParamsClosed head ps) g = brace_orders kind head ps
unit_orders kind pos (Inside head ps focus K) g = inside_orders (stmt_step kind pos focus K) head ps (stmt_orders kind pos focus K g.0 g.1)
unit_orders kind pos AtEnd g = tt

functions_orderly : (fs : List FunctionTree) (f : FunctionTree) → AreOrderlyFunctions fs → AreOrderly f.body → AreOrderlyFunctions (fs ++ (f ∷ []))
functions_orderly [] f g x = (x, tt)
functions_orderly (h ∷ fs) f g x = (g.0, functions_orderly fs f g.1 x)

at_end : (focus : UnitFocus) (fs gs : List FunctionTree) → ended focus fs ≡ Some gs → AreOrderlyFunctions fs → AreOrderlyFunctions gs
at_end AtEnd fs gs e g = subst AreOrderlyFunctions (some_same e) g
at_end _ fs gs e g = absurd (none_some e)

goes : (ts : List Token) (fs gs : List FunctionTree) (next : UnitNext) →
    ((focus : UnitFocus) (all : List FunctionTree) → run focus all ts ≡ Some gs → IsOrderlyUnit focus → AreOrderlyFunctions all → AreOrderlyFunctions gs) →
    go_on next fs (λ focus all. run focus all ts) ≡ Some gs → IsOrderlyUnitNext next → AreOrderlyFunctions fs → AreOrderlyFunctions gs
goes ts fs gs (Reads focus) further e x g = further focus fs e x g
goes ts fs gs (Adds f) further e x g = further Outside (fs ++ (f ∷ [])) e tt (functions_orderly fs f g x)
goes ts fs gs Fails further e x g = absurd (none_some e)

run_orders : (ts : List Token) (gs : List FunctionTree) (focus : UnitFocus) (fs : List FunctionTree) → run focus fs ts ≡ Some gs → IsOrderlyUnit focus → AreOrderlyFunctions fs →
    AreOrderlyFunctions gs
run_orders [] gs focus fs e x g = at_end focus fs gs e g
run_orders (t ∷ ts) gs focus fs e x g = goes ts fs gs (unit_step t.kind t.pos focus) (run_orders ts gs) e (unit_orders t.kind t.pos focus x) g

-- What the reader makes of tokens derives from them.
pub run_derives : (tokens : List Token) (gs : List FunctionTree) → run Outside [] tokens ≡ Some gs → Derives tokens gs
run_derives tokens gs e = (unit_sound tokens gs e, run_orders tokens gs Outside [] e tt tt)
