-- How the reader goes through a file.
use Rattle.std.specs.Prelude.{ℕ, Bool, true, false, ◌||◌, List, [], ◌∷◌, ◌++◌, Option, Some, None}
use Rattle.vx_base.specs.declared.types.Elem.{Elem}
use Rattle.vx_base.specs.declared.types.ParamKind.{ParamKind}
use Rattle.vx_base.specs.declared.types.ParamKind.TheVariants.{Scalar as ScalarKind, Pointer}
use Rattle.vx_base.specs.declared.types.Pos.{Pos}
use Rattle.vx_base.specs.declared.types.Space.{Space}
use Rattle.ocl_ast.specs.declared.units.Gives.{Gives}
use Rattle.ocl_ast.specs.declared.units.Gives.TheVariants.{Nothing, Value}
use Rattle.ocl_ast.specs.declared.units.Param.{Param}
use Rattle.ocl_ast.specs.Trees.{FunctionTree, NoStmts}
use Rattle.ocl_tokens.specs.declared.marks.Mark.TheVariants.{OpenParen, CloseParen, OpenBrace, Comma, Star}
use Rattle.ocl_tokens.specs.declared.tokens.TokenKind.{TokenKind}
use Rattle.ocl_tokens.specs.declared.tokens.TokenKind.TheVariants.{Name as NameKind, Word as WordKind, Mark as MarkKind, End}
use Rattle.ocl_tokens.specs.declared.words.Word.{Word}
use Rattle.ocl_tokens.specs.declared.words.Word.TheVariants.{UnderscoreKernel, Kernel, UnderscoreGlobal, Global, UnderscoreConstant, Constant, UnderscoreLocal, Local, Const, Volatile, Restrict, Inline, Static, Void}
use Rattle.ocl_parser.specs.declared.scalars.Scalar.{Scalar}
use Rattle.ocl_parser.specs.Scalars.{scalar_elem}
use Rattle.ocl_parser.specs.ScalarSteps.{scalar_first, scalar_more}
use Rattle.ocl_parser.specs.StmtSteps.{StmtNext, GoesOn, Closes, Stops, stmt_step}
use Rattle.ocl_parser.specs.declared.states.Head.{Head}
use Rattle.ocl_parser.specs.declared.states.StmtFocus.TheVariants.{ItemStart}
use Rattle.ocl_parser.specs.declared.states.StmtFrame.TheVariants.{Block as BlockFrame}
use Rattle.ocl_parser.specs.declared.states.UnitFocus.{UnitFocus}
use Rattle.ocl_parser.specs.declared.states.UnitFocus.TheVariants.{Outside, KernelRead, HelperWords, GivesRead, HeadRead, HeadNamed, ParamsOpen, VoidRead, ParamWords, ParamScalar, ParamType, Starred, ParamNamed, ParamsClosed, Inside, AtEnd}
use Rattle.ocl_parser.specs.Units.{is_constant}

-- What a token does: the reading goes on with a further function or without; or no file goes on with it.
pub data UnitNext : Type 0 where
  Reads : UnitFocus → UnitNext
  Adds : FunctionTree → UnitNext
  Fails : UnitNext

-- the head
abbrev pub gives_read : Option Scalar → UnitNext
gives_read (Some s) = Reads (GivesRead s)
gives_read None = Fails

abbrev pub helper_word : Word → UnitNext
helper_word Inline = Reads HelperWords
helper_word Static = Reads HelperWords
helper_word Void = Reads (HeadRead false Nothing)
helper_word w = gives_read (scalar_first w)

abbrev pub helper_step : TokenKind → UnitNext
helper_step (WordKind w) = helper_word w
helper_step _ = Fails

abbrev pub outside_step : TokenKind → UnitNext
outside_step (WordKind UnderscoreKernel) = Reads KernelRead
outside_step (WordKind Kernel) = Reads KernelRead
outside_step End = Reads AtEnd
outside_step kind = helper_step kind

abbrev pub kernel_step : TokenKind → UnitNext
kernel_step (WordKind Void) = Reads (HeadRead true Nothing)
kernel_step _ = Fails

abbrev pub head_step : TokenKind → Pos → Bool → Gives → UnitNext
head_step (NameKind text) pos kernel gives =
    Reads (HeadNamed (record { kernel = kernel; gives = gives; name = record { text = text; pos = pos } }))
head_step _ pos kernel gives = Fails

abbrev pub gives_step : TokenKind → Pos → Scalar → UnitNext
gives_step (WordKind w) pos s = gives_read (scalar_more s w)
gives_step kind pos s = head_step kind pos false (Value (scalar_elem s))

abbrev pub named_head : TokenKind → Head → UnitNext
named_head (MarkKind OpenParen) head = Reads (ParamsOpen head)
named_head _ head = Fails

-- the parameters
abbrev pub with_space : Head → List Param → Option Space → Bool → Space → UnitNext
with_space head params None constant s = Reads (ParamWords head params (Some s) constant)
with_space head params (Some other) constant s = Fails

abbrev pub param_scalar : Option Scalar → Head → List Param → Option Space → Bool → UnitNext
param_scalar (Some s) head params space constant = Reads (ParamScalar head params space constant s)
param_scalar None head params space constant = Fails

abbrev pub param_word : Word → Head → List Param → Option Space → Bool → UnitNext
param_word Const head params space constant = Reads (ParamWords head params space true)
param_word Volatile head params space constant = Reads (ParamWords head params space constant)
param_word UnderscoreGlobal head params space constant = with_space head params space constant Space.Global
param_word Global head params space constant = with_space head params space constant Space.Global
param_word UnderscoreConstant head params space constant = with_space head params space constant Space.Constant
param_word Constant head params space constant = with_space head params space constant Space.Constant
param_word UnderscoreLocal head params space constant = with_space head params space constant Space.Local
param_word Local head params space constant = with_space head params space constant Space.Local
param_word w head params space constant = param_scalar (scalar_first w) head params space constant

abbrev pub params_step : TokenKind → Head → List Param → Option Space → Bool → UnitNext
params_step (WordKind w) head params space constant = param_word w head params space constant
params_step _ head params space constant = Fails

abbrev pub open_params : TokenKind → Head → UnitNext
open_params (MarkKind CloseParen) head = Reads (ParamsClosed head [])
open_params (WordKind Void) head = Reads (VoidRead head)
open_params kind head = params_step kind head [] None false

abbrev pub close_params : TokenKind → Head → List Param → UnitNext
close_params (MarkKind CloseParen) head params = Reads (ParamsClosed head params)
close_params _ head params = Fails

abbrev pub and_param : List Param → List ℕ → Pos → ParamKind → Bool → List Param
and_param params text pos kind constant =
    params ++ (record { name = record { text = text; pos = pos }; kind = kind; constant = constant } ∷ [])

-- a name behind a scalar type, where no address space was named
abbrev pub scalar_param : Option Space → List ℕ → Pos → Head → List Param → Bool → Elem → UnitNext
scalar_param None text pos head params constant elem = Reads (ParamNamed head (and_param params text pos (ScalarKind elem) constant))
scalar_param (Some space) text pos head params constant elem = Fails

-- a `*` behind a scalar type, where an address space was named
abbrev pub pointer_param : Option Space → Head → List Param → Bool → Elem → UnitNext
pointer_param None head params constant elem = Fails
pointer_param (Some space) head params constant elem =
    Reads (Starred head params (Pointer space elem (constant || is_constant space)) false)

abbrev pub type_step : TokenKind → Pos → Head → List Param → Option Space → Bool → Elem → UnitNext
type_step (NameKind text) pos head params space constant elem = scalar_param space text pos head params constant elem
type_step (MarkKind Star) pos head params space constant elem = pointer_param space head params constant elem
type_step (WordKind Const) pos head params space constant elem = Reads (ParamType head params space true elem)
type_step (WordKind Volatile) pos head params space constant elem = Reads (ParamType head params space constant elem)
type_step _ pos head params space constant elem = Fails

abbrev pub param_more : Option Scalar → TokenKind → Pos → Head → List Param → Option Space → Bool → Scalar → UnitNext
param_more (Some more) kind pos head params space constant s = Reads (ParamScalar head params space constant more)
param_more None kind pos head params space constant s = type_step kind pos head params space constant (scalar_elem s)

abbrev pub scalar_word_step : TokenKind → Pos → Head → List Param → Option Space → Bool → Scalar → UnitNext
scalar_word_step (WordKind w) pos head params space constant s =
    param_more (scalar_more s w) (WordKind w) pos head params space constant s
scalar_word_step kind pos head params space constant s = type_step kind pos head params space constant (scalar_elem s)

abbrev pub starred_step : TokenKind → Pos → Head → List Param → ParamKind → Bool → UnitNext
starred_step (NameKind text) pos head params kind constant = Reads (ParamNamed head (and_param params text pos kind constant))
starred_step (WordKind Const) pos head params kind constant = Reads (Starred head params kind true)
starred_step (WordKind Restrict) pos head params kind constant = Reads (Starred head params kind constant)
starred_step (WordKind Volatile) pos head params kind constant = Reads (Starred head params kind constant)
starred_step _ pos head params kind constant = Fails

abbrev pub named_step : TokenKind → Head → List Param → UnitNext
named_step (MarkKind Comma) head params = Reads (ParamWords head params None false)
named_step (MarkKind CloseParen) head params = Reads (ParamsClosed head params)
named_step _ head params = Fails

-- the body
abbrev pub brace_step : TokenKind → Head → List Param → UnitNext
brace_step (MarkKind OpenBrace) head params = Reads (Inside head params ItemStart (BlockFrame NoStmts ∷ []))
brace_step _ head params = Fails

abbrev pub inside_step : StmtNext → Head → List Param → UnitNext
inside_step (GoesOn focus K) head params = Reads (Inside head params focus K)
inside_step (Closes body) head params =
    Adds (record { kernel = head.kernel; name = head.name; gives = head.gives; params = params; body = body })
inside_step Stops head params = Fails

-- one token
abbrev pub unit_step : TokenKind → Pos → UnitFocus → UnitNext
unit_step kind pos Outside = outside_step kind
unit_step kind pos KernelRead = kernel_step kind
unit_step kind pos HelperWords = helper_step kind
unit_step kind pos (GivesRead s) = gives_step kind pos s
unit_step kind pos (HeadRead kernel gives) = head_step kind pos kernel gives
unit_step kind pos (HeadNamed head) = named_head kind head
unit_step kind pos (ParamsOpen head) = open_params kind head
unit_step kind pos (VoidRead head) = close_params kind head []
unit_step kind pos (ParamWords head params space constant) = params_step kind head params space constant
unit_step kind pos (ParamScalar head params space constant s) = scalar_word_step kind pos head params space constant s
unit_step kind pos (ParamType head params space constant elem) = type_step kind pos head params space constant elem
unit_step kind pos (Starred head params pointer constant) = starred_step kind pos head params pointer constant
unit_step kind pos (ParamNamed head params) = named_step kind head params
unit_step kind pos (ParamsClosed head params) = brace_step kind head params
unit_step kind pos (Inside head params focus K) = inside_step (stmt_step kind pos focus K) head params
unit_step kind pos AtEnd = Fails
