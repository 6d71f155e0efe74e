-- Each state that the reader reaches goes on to the end of a file.
use Rattle.std.proofs.Common.{refl, arith, Bool, true, false, ◌||◌, ℕ, List, [], ◌∷◌, Option, Some, None}
use Rattle.vx_base.specs.declared.types.Elem.{Elem}
use Rattle.vx_base.specs.declared.types.ParamKind.{ParamKind}
use Rattle.vx_base.specs.declared.types.ParamKind.TheVariants.{Scalar as ScalarKind, Pointer}
use Rattle.vx_base.specs.declared.types.Pos.{Pos}
use Rattle.vx_base.specs.declared.types.Space.{Space}
use Rattle.ocl_ast.specs.declared.units.Gives.{Gives}
use Rattle.ocl_ast.specs.declared.units.Gives.TheVariants.{Nothing, Value}
use Rattle.ocl_ast.specs.declared.units.Param.{Param}
use Rattle.ocl_ast.specs.Trees.{FunctionTree, NoStmts}
use Rattle.ocl_tokens.specs.declared.marks.Mark.TheVariants.{OpenParen, CloseParen, OpenBrace, Comma, Star}
use Rattle.ocl_tokens.specs.declared.tokens.TokenKind.{TokenKind}
use Rattle.ocl_tokens.specs.declared.tokens.TokenKind.TheVariants.{Name as NameKind, Word as WordKind, Mark as MarkKind, End}
use Rattle.ocl_tokens.specs.declared.words.Word.{Word}
use Rattle.ocl_tokens.specs.declared.words.Word.TheVariants.{UnderscoreKernel, Kernel, UnderscoreGlobal, Global, UnderscoreConstant, Constant, UnderscoreLocal, Local, Const, Volatile, Restrict, Inline, Static, Void, Int}
use Rattle.ocl_parser.specs.declared.scalars.Scalar.{Scalar}
use Rattle.ocl_parser.specs.declared.scalars.Scalar.TheVariants.{Ints}
use Rattle.ocl_parser.specs.declared.scalars.Sign.TheVariants.{NoSign}
use Rattle.ocl_parser.specs.Scalars.{scalar_elem}
use Rattle.ocl_parser.specs.ScalarSteps.{scalar_first, scalar_more}
use Rattle.ocl_parser.specs.Units.{is_constant}
use Rattle.ocl_parser.specs.StmtSteps.{StmtNext, GoesOn, Closes, Stops, stmt_step}
use Rattle.ocl_parser.specs.UnitSteps.{UnitNext, Reads, Adds, Fails, gives_read, helper_word, helper_step, outside_step, kernel_step, head_step, gives_step, named_head, with_space, param_scalar, param_word, params_step, open_params, close_params, and_param, scalar_param, pointer_param, type_step, param_more, scalar_word_step, starred_step, named_step, brace_step, inside_step, unit_step}
use Rattle.ocl_parser.specs.declared.states.Head.{Head}
use Rattle.ocl_parser.specs.declared.states.StmtFocus.TheVariants.{ItemStart}
use Rattle.ocl_parser.specs.declared.states.StmtFrame.TheVariants.{Block as BlockFrame}
use Rattle.ocl_parser.specs.declared.states.UnitFocus.{UnitFocus}
use Rattle.ocl_parser.specs.declared.states.UnitFocus.TheVariants.{Outside, KernelRead, HelperWords, GivesRead, HeadRead, HeadNamed, ParamsOpen, VoidRead, ParamWords, ParamScalar, ParamType, Starred, ParamNamed, ParamsClosed, Inside, AtEnd}
use Rattle.ocl_parser.proofs.Closing.{somewhere, some_name, Ends, outside_ends, reads_ends, IsRooted, CanStand, item_ends, stmt_ends}
use Rattle.ocl_parser.proofs.Follow.{CanFollow, stmt_follows}

-- What must hold where this has been read of a file.
abbrev pub CanBe : UnitFocus → Type 0
CanBe (Inside head ps focus K) = CanStand focus K × IsRooted K
CanBe _ = Unit {0}

abbrev pub CanBeNext : UnitNext → Type 0
CanBeNext (Reads focus) = CanBe focus
CanBeNext (Adds f) = Unit {0}
CanBeNext Fails = Unit {0}

-- to the end from within a function's head
closed_ends : (head : Head) (ps : List Param) (fs : List FunctionTree) → Ends (ParamsClosed head ps) fs
closed_ends head ps fs =
    reads_ends (MarkKind OpenBrace) (ParamsClosed head ps) (Inside head ps ItemStart (BlockFrame NoStmts ∷ [])) fs refl (λ x. (omega arith, ((omega arith, tt), tt)))
    (item_ends (BlockFrame NoStmts ∷ []) tt tt head ps fs)

named_ends : (head : Head) (ps : List Param) (fs : List FunctionTree) → Ends (ParamNamed head ps) fs
named_ends head ps fs = reads_ends (MarkKind CloseParen) (ParamNamed head ps) (ParamsClosed head ps) fs refl (λ x. tt) (closed_ends head ps fs)

starred_ends : (head : Head) (ps : List Param) (kind : ParamKind) (constant : Bool) (fs : List FunctionTree) → Ends (Starred head ps kind constant) fs
starred_ends head ps kind constant fs =
    let qs : List Param = and_param ps [] somewhere kind constant in
    reads_ends (NameKind []) (Starred head ps kind constant) (ParamNamed head qs) fs refl (λ x. tt) (named_ends head qs fs)

type_ends : (space : Option Space) (head : Head) (ps : List Param) (constant : Bool) (elem : Elem) (fs : List FunctionTree) → Ends (ParamType head ps space constant elem) fs
type_ends None head ps constant elem fs =
    let qs : List Param = and_param ps [] somewhere (ScalarKind elem) constant in
    reads_ends (NameKind []) (ParamType head ps None constant elem) (ParamNamed head qs) fs refl (λ x. tt) (named_ends head qs fs)
type_ends (Some space) head ps constant elem fs =
    let kind : ParamKind = Pointer space elem (constant || is_constant space) in
    reads_ends (MarkKind Star) (ParamType head ps (Some space) constant elem) (Starred head ps kind false) fs refl (λ x. tt) (starred_ends head ps kind false fs)

scalar_ends : (head : Head) (ps : List Param) (space : Option Space) (constant : Bool) (s : Scalar) (fs : List FunctionTree) → Ends (ParamScalar head ps space constant s) fs
scalar_ends head ps None constant s fs =
    let qs : List Param = and_param ps [] somewhere (ScalarKind (scalar_elem s)) constant in
    reads_ends (NameKind []) (ParamScalar head ps None constant s) (ParamNamed head qs) fs refl (λ x. tt) (named_ends head qs fs)
scalar_ends head ps (Some space) constant s fs =
    let kind : ParamKind = Pointer space (scalar_elem s) (constant || is_constant space) in
    reads_ends (MarkKind Star) (ParamScalar head ps (Some space) constant s) (Starred head ps kind false) fs refl (λ x. tt) (starred_ends head ps kind false fs)

head_ends : (head : Head) (fs : List FunctionTree) → Ends (HeadNamed head) fs
head_ends head fs =
    reads_ends (MarkKind OpenParen) (HeadNamed head) (ParamsOpen head) fs refl (λ x. tt)
    (reads_ends (MarkKind CloseParen) (ParamsOpen head) (ParamsClosed head []) fs refl (λ x. tt) (closed_ends head [] fs))

read_ends : (kernel : Bool) (gives : Gives) (fs : List FunctionTree) → Ends (HeadRead kernel gives) fs
read_ends kernel gives fs =
    let head : Head = record { kernel = kernel; gives = gives; name = some_name } in
    reads_ends (NameKind []) (HeadRead kernel gives) (HeadNamed head) fs refl (λ x. tt) (head_ends head fs)

gives_ends : (s : Scalar) (fs : List FunctionTree) → Ends (GivesRead s) fs
gives_ends s fs =
    let head : Head = record { kernel = false; gives = Value (scalar_elem s); name = some_name } in
    reads_ends (NameKind []) (GivesRead s) (HeadNamed head) fs refl (λ x. tt) (head_ends head fs)

pub unit_ends : (focus : UnitFocus) (fs : List FunctionTree) → CanBe focus → Ends focus fs
unit_ends Outside fs c = outside_ends fs
unit_ends KernelRead fs c = reads_ends (WordKind Void) KernelRead (HeadRead true Nothing) fs refl (λ x. tt) (read_ends true Nothing fs)
unit_ends HelperWords fs c = reads_ends (WordKind Void) HelperWords (HeadRead false Nothing) fs refl (λ x. tt) (read_ends false Nothing fs)
unit_ends (GivesRead s) fs c = gives_ends s fs
unit_ends (HeadRead kernel gives) fs c = read_ends kernel gives fs
unit_ends (HeadNamed head) fs c = head_ends head fs
unit_ends (ParamsOpen head) fs c = reads_ends (MarkKind CloseParen) (ParamsOpen head) (ParamsClosed head []) fs refl (λ x. tt) (closed_ends head [] fs)
unit_ends (VoidRead head) fs c = reads_ends (MarkKind CloseParen) (VoidRead head) (ParamsClosed head []) fs refl (λ x. tt) (closed_ends head [] fs)
unit_ends (ParamWords head ps space constant) fs c =
    reads_ends (WordKind Int) (ParamWords head ps space constant) (ParamScalar head ps space constant (Ints NoSign)) fs refl (λ x. tt) (scalar_ends head ps space constant (Ints NoSign) fs)
unit_ends (ParamScalar head ps space constant s) fs c = scalar_ends head ps space constant s fs
unit_ends (ParamType head ps space constant elem) fs c = type_ends space head ps constant elem fs
unit_ends (Starred head ps kind constant) fs c = starred_ends head ps kind constant fs
unit_ends (ParamNamed head ps) fs c = named_ends head ps fs
unit_ends (ParamsClosed head ps) fs c = closed_ends head ps fs
unit_ends (Inside head ps focus K) fs c = stmt_ends focus K c.0 c.1 head ps fs
unit_ends AtEnd fs c = ([], fs, refl, λ u w. w)

-- the head
gives_follows : (o : Option Scalar) → CanBeNext (gives_read o)
gives_follows (Some s) = tt
gives_follows None = tt

helper_word_follows : (w : Word) → CanBeNext (helper_word w)
helper_word_follows Inline = tt
helper_word_follows Static = tt
helper_word_follows Void = tt
helper_word_follows w = gives_follows (scalar_first w)

outside_follow : (w : Word) → CanBeNext (outside_step (WordKind w))
outside_follow UnderscoreKernel = tt
outside_follow Kernel = tt
outside_follow w = helper_word_follows w

outside_follows : (kind : TokenKind) → CanBeNext (outside_step kind)
outside_follows (WordKind w) = outside_follow w
outside_follows End = tt
outside_follows _ = tt

kernel_follows : (kind : TokenKind) → CanBeNext (kernel_step kind)
kernel_follows (WordKind Void) = tt
kernel_follows _ = tt

helper_follows : (kind : TokenKind) → CanBeNext (helper_step kind)
helper_follows (WordKind w) = helper_word_follows w
helper_follows _ = tt

head_follows : (kind : TokenKind) (pos : Pos) (kernel : Bool) (gives : Gives) → CanBeNext (head_step kind pos kernel gives)
head_follows (NameKind text) pos kernel gives = tt
head_follows _ pos kernel gives = tt

gives_step_follows : (kind : TokenKind) (pos : Pos) (s : Scalar) → CanBeNext (gives_step kind pos s)
gives_step_follows (WordKind w) pos s = gives_follows (scalar_more s w)
gives_step_follows kind pos s = head_follows kind pos false (Value (scalar_elem s))

named_head_follows : (kind : TokenKind) (head : Head) → CanBeNext (named_head kind head)
named_head_follows (MarkKind OpenParen) head = tt
named_head_follows _ head = tt

-- the parameters
space_follows : (o : Option Space) (head : Head) (ps : List Param) (constant : Bool) (s : Space) → CanBeNext (with_space head ps o constant s)
space_follows None head ps constant s = tt
space_follows (Some other) head ps constant s = tt

scalar_follows : (o : Option Scalar) (head : Head) (ps : List Param) (space : Option Space) (constant : Bool) → CanBeNext (param_scalar o head ps space constant)
scalar_follows (Some s) head ps space constant = tt
scalar_follows None head ps space constant = tt

word_follows : (w : Word) (head : Head) (ps : List Param) (space : Option Space) (constant : Bool) → CanBeNext (param_word w head ps space constant)
word_follows Const head ps space constant = tt
word_follows Volatile head ps space constant = tt
word_follows UnderscoreGlobal head ps space constant = space_follows space head ps constant Space.Global
word_follows Global head ps space constant = space_follows space head ps constant Space.Global
word_follows UnderscoreConstant head ps space constant = space_follows space head ps constant Space.Constant
word_follows Constant head ps space constant = space_follows space head ps constant Space.Constant
word_follows UnderscoreLocal head ps space constant = space_follows space head ps constant Space.Local
word_follows Local head ps space constant = space_follows space head ps constant Space.Local
word_follows w head ps space constant = scalar_follows (scalar_first w) head ps space constant

params_follows : (kind : TokenKind) (head : Head) (ps : List Param) (space : Option Space) (constant : Bool) → CanBeNext (params_step kind head ps space constant)
params_follows (WordKind w) head ps space constant = word_follows w head ps space constant
params_follows _ head ps space constant = tt

open_follows : (kind : TokenKind) (head : Head) → CanBeNext (open_params kind head)
open_follows (MarkKind CloseParen) head = tt
open_follows (WordKind Void) head = tt
open_follows kind head = params_follows kind head [] None false

void_follows : (kind : TokenKind) (head : Head) (ps : List Param) → CanBeNext (close_params kind head ps)
void_follows (MarkKind CloseParen) head ps = tt
void_follows _ head ps = tt

name_follows : (o : Option Space) (text : List ℕ) (pos : Pos) (head : Head) (ps : List Param) (constant : Bool) (elem : Elem) →
    CanBeNext (scalar_param o text pos head ps constant elem)
name_follows None text pos head ps constant elem = tt
name_follows (Some space) text pos head ps constant elem = tt

pointer_follows : (o : Option Space) (head : Head) (ps : List Param) (constant : Bool) (elem : Elem) → CanBeNext (pointer_param o head ps constant elem)
pointer_follows None head ps constant elem = tt
pointer_follows (Some space) head ps constant elem = tt

type_follows : (kind : TokenKind) (pos : Pos) (head : Head) (ps : List Param) (space : Option Space) (constant : Bool) (elem : Elem) →
    CanBeNext (type_step kind pos head ps space constant elem)
type_follows (NameKind text) pos head ps space constant elem = name_follows space text pos head ps constant elem
type_follows (MarkKind Star) pos head ps space constant elem = pointer_follows space head ps constant elem
type_follows (WordKind Const) pos head ps space constant elem = tt
type_follows (WordKind Volatile) pos head ps space constant elem = tt
type_follows _ pos head ps space constant elem = tt

more_follows : (o : Option Scalar) (w : Word) (pos : Pos) (head : Head) (ps : List Param) (space : Option Space) (constant : Bool) (s : Scalar) →
    CanBeNext (param_more o (WordKind w) pos head ps space constant s)
more_follows (Some more) w pos head ps space constant s = tt
more_follows None w pos head ps space constant s = type_follows (WordKind w) pos head ps space constant (scalar_elem s)

scalar_word_follows : (kind : TokenKind) (pos : Pos) (head : Head) (ps : List Param) (space : Option Space) (constant : Bool) (s : Scalar) →
    CanBeNext (scalar_word_step kind pos head ps space constant s)
scalar_word_follows (WordKind w) pos head ps space constant s = more_follows (scalar_more s w) w pos head ps space constant s
scalar_word_follows kind pos head ps space constant s = type_follows kind pos head ps space constant (scalar_elem s)

starred_follows : (kind : TokenKind) (pos : Pos) (head : Head) (ps : List Param) (pointer : ParamKind) (constant : Bool) →
    CanBeNext (starred_step kind pos head ps pointer constant)
starred_follows (NameKind text) pos head ps pointer constant = tt
starred_follows (WordKind Const) pos head ps pointer constant = tt
starred_follows (WordKind Restrict) pos head ps pointer constant = tt
starred_follows (WordKind Volatile) pos head ps pointer constant = tt
starred_follows _ pos head ps pointer constant = tt

named_follows : (kind : TokenKind) (head : Head) (ps : List Param) → CanBeNext (named_step kind head ps)
named_follows (MarkKind Comma) head ps = tt
named_follows (MarkKind CloseParen) head ps = tt
named_follows _ head ps = tt

-- the body
brace_follows : (kind : TokenKind) (head : Head) (ps : List Param) → CanBeNext (brace_step kind head ps)
brace_follows (MarkKind OpenBrace) head ps = (tt, tt)
brace_follows _ head ps = tt

inside_follows : (next : StmtNext) (head : Head) (ps : List Param) → CanFollow next → CanBeNext (inside_step next head ps)
inside_follows (GoesOn focus K) head ps g = g
inside_follows (Closes body) head ps g = tt
inside_follows Stops head ps g = tt

pub unit_follows : (kind : TokenKind) (pos : Pos) (focus : UnitFocus) → CanBe focus → CanBeNext (unit_step kind pos focus)
unit_follows kind pos Outside g = outside_follows kind
unit_follows kind pos KernelRead g = kernel_follows kind
unit_follows kind pos HelperWords g = helper_follows kind
unit_follows kind pos (GivesRead s) g = gives_step_follows kind pos s
unit_follows kind pos (HeadRead kernel gives) g = head_follows kind pos kernel gives
unit_follows kind pos (HeadNamed head) g = named_head_follows kind head
unit_follows kind pos (ParamsOpen head) g = open_follows kind head
unit_follows kind pos (VoidRead head) g = void_follows kind head []
unit_follows kind pos (ParamWords head ps space constant) g = params_follows kind head ps space constant
unit_follows kind pos (ParamScalar head ps space constant s) g = scalar_word_follows kind pos head ps space constant s
unit_follows kind pos (ParamType head ps space constant elem) g = type_follows kind pos head ps space constant elem
unit_follows kind pos (Starred head ps pointer constant) g = starred_follows kind pos head ps pointer constant
unit_follows kind pos (ParamNamed head ps) g = named_follows kind head ps
unit_follows kind pos (ParamsClosed head ps) g = brace_follows kind head ps
unit_follows kind pos (Inside head ps focus K) g = inside_follows (stmt_step kind pos focus K) head ps (stmt_follows kind pos focus K g.0 g.1)
unit_follows kind pos AtEnd g = tt
