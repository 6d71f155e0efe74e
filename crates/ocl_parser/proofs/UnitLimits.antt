-- The limits of a file, over each token and over all of them.
use Rattle.std.proofs.Common.{◌≡◌, sym, subst, ◌≤◌, ◌+◌, arith, Bool, false, ℕ, List, [], ◌∷◌, ◌++◌, Option, Some, None}
use Rattle.vx_base.specs.declared.types.Elem.{Elem}
use Rattle.vx_base.specs.declared.types.ParamKind.{ParamKind}
use Rattle.vx_base.specs.declared.types.Pos.{Pos}
use Rattle.vx_base.specs.declared.types.Space.{Space}
use Rattle.ocl_ast.specs.declared.units.Gives.{Gives}
use Rattle.ocl_ast.specs.declared.units.Gives.TheVariants.{Value}
use Rattle.ocl_ast.specs.declared.units.Param.{Param}
use Rattle.ocl_ast.specs.Measures.{levels}
use Rattle.ocl_ast.specs.Trees.{FunctionTree, ExprTree, StmtTree, StmtTrees}
use Rattle.ocl_tokens.specs.declared.marks.Mark.TheVariants.{OpenParen, CloseParen, OpenBrace, Comma, Star}
use Rattle.ocl_tokens.specs.declared.tokens.Token.{Token}
use Rattle.ocl_tokens.specs.declared.tokens.TokenKind.{TokenKind}
use Rattle.ocl_tokens.specs.declared.tokens.TokenKind.TheVariants.{Name as NameKind, Word as WordKind, Mark as MarkKind, End}
use Rattle.ocl_tokens.specs.declared.words.Word.{Word}
use Rattle.ocl_tokens.specs.declared.words.Word.TheVariants.{UnderscoreKernel, Kernel, UnderscoreGlobal, Global, UnderscoreConstant, Constant, UnderscoreLocal, Local, Const, Volatile, Restrict, Inline, Static, Void}
use Rattle.ocl_parser.specs.declared.scalars.Scalar.{Scalar}
use Rattle.ocl_parser.specs.Scalars.{scalar_elem}
use Rattle.ocl_parser.specs.ScalarSteps.{scalar_first, scalar_more}
use Rattle.ocl_parser.specs.Runs.{run, ended, go_on}
use Rattle.ocl_parser.specs.StmtSteps.{StmtNext, GoesOn, Closes, Stops, and_stmt, stmt_step}
use Rattle.ocl_parser.specs.UnitSteps.{UnitNext, Reads, Adds, Fails, gives_read, helper_word, helper_step, outside_step, kernel_step, head_step, gives_step, named_head, with_space, param_scalar, param_word, params_step, open_params, close_params, scalar_param, pointer_param, type_step, param_more, scalar_word_step, starred_step, named_step, brace_step, inside_step, unit_step}
use Rattle.ocl_parser.specs.declared.states.ExprFocus.{ExprFocus}
use Rattle.ocl_parser.specs.declared.states.ExprFrame.{ExprFrame}
use Rattle.ocl_parser.specs.declared.states.Head.{Head}
use Rattle.ocl_parser.specs.declared.states.Part.{Part}
use Rattle.ocl_parser.specs.declared.states.Part.TheVariants.{InBlock, InFirst, InStep}
use Rattle.ocl_parser.specs.declared.states.Purpose.{Purpose}
use Rattle.ocl_parser.specs.declared.states.Purpose.TheVariants.{InitOf, CountOf, IndexOf, CountedIndexOf, ValueOf, ArgsOf, IfTest, WhileTest, DoTest, ForTest, ReturnOf}
use Rattle.ocl_parser.specs.declared.states.StmtFocus.{StmtFocus}
use Rattle.ocl_parser.specs.declared.states.StmtFocus.TheVariants.{ItemStart, BodyStart, Finished, Ending, Reading, IfWord, WhileWord, ForWord, DoWhile, BarrierWord, BarrierOpen, BarrierNumber, QualifiersRead, ScalarRead, TypeRead, NameNext, Declared, LocalWord, LocalScalar, LocalNamed, AssignNext, AssignNamed, CountedBefore, CountedNamed, Targeted, Assigned, CallOpen, FirstStart, TestStart, StepStart, Returning}
use Rattle.ocl_parser.specs.declared.states.StmtFrame.{StmtFrame}
use Rattle.ocl_parser.specs.declared.states.UnitFocus.{UnitFocus}
use Rattle.ocl_parser.specs.declared.states.UnitFocus.TheVariants.{Outside, KernelRead, HelperWords, GivesRead, HeadRead, HeadNamed, ParamsOpen, VoidRead, ParamWords, ParamScalar, ParamType, Starred, ParamNamed, ParamsClosed, Inside, AtEnd}
use Rattle.ocl_parser.specs.Levels.{beside, levels_around}
use Rattle.ocl_parser.specs.Limits.{IsWithin, AreWithin}
use Rattle.ocl_parser.specs.Rooms.{HasHeight, HasRoom}
use Rattle.ocl_parser.proofs.FitLaws.{a_level}
use Rattle.ocl_parser.proofs.Fits.{ExprFits, SimpleFits, HeadFits, WholeFits, DoFits, ForFits, PartFits, AssignedFits, PurposeFits, StmtFits, StmtRoom, StmtKeeps, UnitFits, UnitKeeps, refused}
use Rattle.ocl_parser.proofs.StmtLimits.{stmt_keeps}
use Rattle.ocl_parser.proofs.UnitClosing.{CanBe, CanBeNext, unit_follows}
use Rattle.ocl_parser.proofs.UnitSound.{none_some, some_same}

-- What a token before a body begins is within the limits.
abbrev pub IsFresh : UnitNext → Type 0
IsFresh (Reads focus) = UnitFits focus
IsFresh (Adds f) = ⊥
IsFresh Fails = Unit {0}

-- the head
gives_begins : (o : Option Scalar) → IsFresh (gives_read o)
gives_begins (Some s) = tt
gives_begins None = tt

helper_word_begins : (w : Word) → IsFresh (helper_word w)
helper_word_begins Inline = tt
helper_word_begins Static = tt
helper_word_begins Void = tt
helper_word_begins w = gives_begins (scalar_first w)

outside_word : (w : Word) → IsFresh (outside_step (WordKind w))
outside_word UnderscoreKernel = tt
outside_word Kernel = tt
outside_word w = helper_word_begins w

outside_begins : (kind : TokenKind) → IsFresh (outside_step kind)
outside_begins (WordKind w) = outside_word w
outside_begins End = tt
outside_begins _ = tt

kernel_begins : (kind : TokenKind) → IsFresh (kernel_step kind)
kernel_begins (WordKind Void) = tt
kernel_begins _ = tt

helper_begins : (kind : TokenKind) → IsFresh (helper_step kind)
helper_begins (WordKind w) = helper_word_begins w
helper_begins _ = tt

head_begins : (kind : TokenKind) (pos : Pos) (kernel : Bool) (gives : Gives) → IsFresh (head_step kind pos kernel gives)
head_begins (NameKind text) pos kernel gives = tt
head_begins _ pos kernel gives = tt

gives_step_begins : (kind : TokenKind) (pos : Pos) (s : Scalar) → IsFresh (gives_step kind pos s)
gives_step_begins (WordKind w) pos s = gives_begins (scalar_more s w)
gives_step_begins kind pos s = head_begins kind pos false (Value (scalar_elem s))

named_head_begins : (kind : TokenKind) (head : Head) → IsFresh (named_head kind head)
named_head_begins (MarkKind OpenParen) head = tt
named_head_begins _ head = tt

-- the parameters
space_begins : (o : Option Space) (head : Head) (ps : List Param) (constant : Bool) (s : Space) → IsFresh (with_space head ps o constant s)
space_begins None head ps constant s = tt
space_begins (Some other) head ps constant s = tt

scalar_begins : (o : Option Scalar) (head : Head) (ps : List Param) (space : Option Space) (constant : Bool) → IsFresh (param_scalar o head ps space constant)
scalar_begins (Some s) head ps space constant = tt
scalar_begins None head ps space constant = tt

word_begins : (w : Word) (head : Head) (ps : List Param) (space : Option Space) (constant : Bool) → IsFresh (param_word w head ps space constant)
word_begins Const head ps space constant = tt
word_begins Volatile head ps space constant = tt
word_begins UnderscoreGlobal head ps space constant = space_begins space head ps constant Space.Global
word_begins Global head ps space constant = space_begins space head ps constant Space.Global
word_begins UnderscoreConstant head ps space constant = space_begins space head ps constant Space.Constant
word_begins Constant head ps space constant = space_begins space head ps constant Space.Constant
word_begins UnderscoreLocal head ps space constant = space_begins space head ps constant Space.Local
word_begins Local head ps space constant = space_begins space head ps constant Space.Local
word_begins w head ps space constant = scalar_begins (scalar_first w) head ps space constant

params_begins : (kind : TokenKind) (head : Head) (ps : List Param) (space : Option Space) (constant : Bool) → IsFresh (params_step kind head ps space constant)
params_begins (WordKind w) head ps space constant = word_begins w head ps space constant
params_begins _ head ps space constant = tt

open_begins : (kind : TokenKind) (head : Head) → IsFresh (open_params kind head)
open_begins (MarkKind CloseParen) head = tt
open_begins (WordKind Void) head = tt
open_begins kind head = params_begins kind head [] None false

void_begins : (kind : TokenKind) (head : Head) (ps : List Param) → IsFresh (close_params kind head ps)
void_begins (MarkKind CloseParen) head ps = tt
void_begins _ head ps = tt

name_begins : (o : Option Space) (text : List ℕ) (pos : Pos) (head : Head) (ps : List Param) (constant : Bool) (elem : Elem) →
    IsFresh (scalar_param o text pos head ps constant elem)
name_begins None text pos head ps constant elem = tt
name_begins (Some space) text pos head ps constant elem = tt

pointer_begins : (o : Option Space) (head : Head) (ps : List Param) (constant : Bool) (elem : Elem) → IsFresh (pointer_param o head ps constant elem)
pointer_begins None head ps constant elem = tt
pointer_begins (Some space) head ps constant elem = tt

type_begins : (kind : TokenKind) (pos : Pos) (head : Head) (ps : List Param) (space : Option Space) (constant : Bool) (elem : Elem) →
    IsFresh (type_step kind pos head ps space constant elem)
type_begins (NameKind text) pos head ps space constant elem = name_begins space text pos head ps constant elem
type_begins (MarkKind Star) pos head ps space constant elem = pointer_begins space head ps constant elem
type_begins (WordKind Const) pos head ps space constant elem = tt
type_begins (WordKind Volatile) pos head ps space constant elem = tt
type_begins _ pos head ps space constant elem = tt

more_begins : (o : Option Scalar) (w : Word) (pos : Pos) (head : Head) (ps : List Param) (space : Option Space) (constant : Bool) (s : Scalar) →
    IsFresh (param_more o (WordKind w) pos head ps space constant s)
more_begins (Some more) w pos head ps space constant s = tt
more_begins None w pos head ps space constant s = type_begins (WordKind w) pos head ps space constant (scalar_elem s)

scalar_word_begins : (kind : TokenKind) (pos : Pos) (head : Head) (ps : List Param) (space : Option Space) (constant : Bool) (s : Scalar) →
    IsFresh (scalar_word_step kind pos head ps space constant s)
scalar_word_begins (WordKind w) pos head ps space constant s = more_begins (scalar_more s w) w pos head ps space constant s
scalar_word_begins kind pos head ps space constant s = type_begins kind pos head ps space constant (scalar_elem s)

starred_begins : (kind : TokenKind) (pos : Pos) (head : Head) (ps : List Param) (pointer : ParamKind) (constant : Bool) →
    IsFresh (starred_step kind pos head ps pointer constant)
starred_begins (NameKind text) pos head ps pointer constant = tt
starred_begins (WordKind Const) pos head ps pointer constant = tt
starred_begins (WordKind Restrict) pos head ps pointer constant = tt
starred_begins (WordKind Volatile) pos head ps pointer constant = tt
starred_begins _ pos head ps pointer constant = tt

named_begins : (kind : TokenKind) (head : Head) (ps : List Param) → IsFresh (named_step kind head ps)
named_begins (MarkKind Comma) head ps = tt
named_begins (MarkKind CloseParen) head ps = tt
named_begins _ head ps = tt

-- the body
brace_begins : (kind : TokenKind) (head : Head) (ps : List Param) → IsFresh (brace_step kind head ps)
brace_begins (MarkKind OpenBrace) head ps = (omega arith, ((omega arith, tt), tt))
brace_begins _ head ps = tt

fresh_keeps : (n : UnitNext) → IsFresh n → UnitKeeps (Unit {0}) n
fresh_keeps (Reads focus) x = (λ y. tt, λ y r. x)
fresh_keeps (Adds f) x = absurd x
fresh_keeps Fails x = refused

inside_keeps : (A : Type 0) (next : StmtNext) (head : Head) (ps : List Param) → StmtKeeps A next → UnitKeeps A (inside_step next head ps)
inside_keeps A (GoesOn focus K) head ps k = k
inside_keeps A (Closes body) head ps k = k
inside_keeps A Stops head ps k = k

pub unit_keeps : (kind : TokenKind) (pos : Pos) (focus : UnitFocus) → CanBe focus → UnitKeeps (UnitFits focus) (unit_step kind pos focus)
unit_keeps kind pos Outside c = fresh_keeps _ (outside_begins kind)
unit_keeps kind pos KernelRead c = fresh_keeps _ (kernel_begins kind)
unit_keeps kind pos HelperWords c = fresh_keeps _ (helper_begins kind)
unit_keeps kind pos (GivesRead s) c = fresh_keeps _ (gives_step_begins kind pos s)
unit_keeps kind pos (HeadRead kernel gives) c = fresh_keeps _ (head_begins kind pos kernel gives)
unit_keeps kind pos (HeadNamed head) c = fresh_keeps _ (named_head_begins kind head)
unit_keeps kind pos (ParamsOpen head) c = fresh_keeps _ (open_begins kind head)
unit_keeps kind pos (VoidRead head) c = fresh_keeps _ (void_begins kind head [])
unit_keeps kind pos (ParamWords head ps space constant) c = fresh_keeps _ (params_begins kind head ps space constant)
unit_keeps kind pos (ParamScalar head ps space constant s) c = fresh_keeps _ (scalar_word_begins kind pos head ps space constant s)
unit_keeps kind pos (ParamType head ps space constant elem) c = fresh_keeps _ (type_begins kind pos head ps space constant elem)
unit_keeps kind pos (Starred head ps pointer constant) c = fresh_keeps _ (starred_begins kind pos head ps pointer constant)
unit_keeps kind pos (ParamNamed head ps) c = fresh_keeps _ (named_begins kind head ps)
unit_keeps kind pos (ParamsClosed head ps) c = fresh_keeps _ (brace_begins kind head ps)
unit_keeps kind pos (Inside head ps focus K) c = inside_keeps (StmtFits focus K) (stmt_step kind pos focus K) head ps (stmt_keeps kind pos focus K c.0)
unit_keeps kind pos AtEnd c = (λ y. tt, λ y r. r)

within_before : (fs : List FunctionTree) (f : FunctionTree) → AreWithin (fs ++ (f ∷ [])) → AreWithin fs × IsWithin f.body
within_before [] f g = (tt, g.0)
within_before (h ∷ fs) f g = let y : AreWithin fs × IsWithin f.body = within_before fs f g.1 in ((g.0, y.0), y.1)

-- What has been read of a file and the functions before it are within the limits.
abbrev pub RunFits : UnitFocus → List FunctionTree → Type 0
RunFits focus fs = UnitFits focus × AreWithin fs

at_end : (focus : UnitFocus) (fs gs : List FunctionTree) → ended focus fs ≡ Some gs → AreWithin gs → RunFits focus fs
at_end AtEnd fs gs e g = (tt, subst AreWithin (sym (some_same e)) g)
at_end _ fs gs e g = absurd (none_some e)

step_back : (A : Type 0) (ts : List Token) (fs gs : List FunctionTree) (next : UnitNext) → UnitKeeps A next → CanBeNext next → AreWithin gs →
    ((focus : UnitFocus) (all : List FunctionTree) → CanBe focus → run focus all ts ≡ Some gs → RunFits focus all) →
    go_on next fs (λ focus all. run focus all ts) ≡ Some gs → A × AreWithin fs
step_back A ts fs gs (Reads focus) k c g further e = let y : RunFits focus fs = further focus fs c e in (k.0 y.0, y.1)
step_back A ts fs gs (Adds f) k c g further e =
    let y : RunFits Outside (fs ++ (f ∷ [])) = further Outside (fs ++ (f ∷ [])) tt e in
    let z : AreWithin fs × IsWithin f.body = within_before fs f y.1 in
    (k.0 z.1, z.0)
step_back A ts fs gs Fails k c g further e = absurd (none_some e)

-- Where a file is within the limits, what has been read of it is at each token.
pub run_back : (ts : List Token) (gs : List FunctionTree) → AreWithin gs → (focus : UnitFocus) (fs : List FunctionTree) → CanBe focus → run focus fs ts ≡ Some gs → RunFits focus fs
run_back [] gs g focus fs c e = at_end focus fs gs e g
run_back (t ∷ ts) gs g focus fs c e =
    step_back (UnitFits focus) ts fs gs (unit_step t.kind t.pos focus) (unit_keeps t.kind t.pos focus c) (unit_follows t.kind t.pos focus c) g (run_back ts gs g) e

-- What is within the limits has the room that the code tests.
simple_room : (K : List StmtFrame) → SimpleFits K → 1 + levels_around K ≤ 31
simple_room K x = x.0

head_room : (K : List StmtFrame) → HeadFits K → 1 + levels_around K ≤ 31
head_room K x = omega (arith, x.0)

whole_room : (s : StmtTree) (K : List StmtFrame) → WholeFits s K → 1 + levels_around K ≤ 31
whole_room s K x = let l : 1 ≤ levels (beside K) s = a_level (beside K) s in omega (arith, x.0)

do_room : (body : StmtTree) (K : List StmtFrame) → DoFits body K → 1 + levels_around K ≤ 31
do_room body K x = omega (arith, x.0)

for_room : (first : StmtTrees) (test : Option ExprTree) (K : List StmtFrame) → ForFits first test K → 1 + levels_around K ≤ 31
for_room first test K x = omega (arith, x.0)

part_room : (place : Part) (K : List StmtFrame) → PartFits place K → 1 + levels_around K ≤ 31
part_room InBlock K x = x.0
part_room (InFirst done) K x = omega (arith, x.0)
part_room (InStep first test done) K x = omega (arith, x.0)

assigned_room : (place : Part) (s : StmtTree) (K : List StmtFrame) → AssignedFits place s K → 1 + levels_around K ≤ 31
assigned_room InBlock s K x = whole_room s K x
assigned_room (InFirst done) s K x = part_room (InFirst (and_stmt done s)) K x
assigned_room (InStep first test done) s K x = part_room (InStep first test (and_stmt done s)) K x

purpose_room : (purpose : Purpose) (K : List StmtFrame) → PurposeFits purpose K → 1 + levels_around K ≤ 31
purpose_room (InitOf place elem constant n) K x = part_room place K x
purpose_room (CountOf elem n) K x = x.0
purpose_room (IndexOf place n at) K x = part_room place K x
purpose_room (CountedIndexOf place op pos n at) K x = part_room place K x
purpose_room (ValueOf place target op pos) K x = part_room place K x.0
purpose_room (ArgsOf n args) K x = x.0.0
purpose_room IfTest K x = head_room K x
purpose_room WhileTest K x = head_room K x
purpose_room (DoTest body) K x = do_room body K x
purpose_room (ForTest first) K x = part_room (InFirst first) K x
purpose_room (ReturnOf at) K x = x.0

expr_room : (focus : ExprFocus) (inner : List ExprFrame) → ExprFits focus inner → HasHeight focus inner
expr_room focus [] x = (x.0, omega arith)
expr_room focus (f ∷ inner) x = (x.0, x.1.0)

stmt_room : (focus : StmtFocus) (K : List StmtFrame) → StmtFits focus K → StmtRoom (GoesOn focus K)
stmt_room ItemStart K x = (x.0, tt)
stmt_room BodyStart K x = (x.0, tt)
stmt_room (Finished s) K x = (whole_room s K x, tt)
stmt_room (Ending s) K x = (whole_room s K x, tt)
stmt_room (Reading purpose focus inner) K x = (purpose_room purpose K x.0, expr_room focus inner x.1)
stmt_room IfWord K x = (x.0, tt)
stmt_room WhileWord K x = (x.0, tt)
stmt_room ForWord K x = (x.0, tt)
stmt_room (DoWhile body) K x = (do_room body K x, tt)
stmt_room (BarrierWord at) K x = (x.0, tt)
stmt_room (BarrierOpen at) K x = (x.0, tt)
stmt_room (BarrierNumber at) K x = (x.0, tt)
stmt_room (QualifiersRead place constant) K x = (part_room place K x, tt)
stmt_room (ScalarRead place constant s) K x = (part_room place K x, tt)
stmt_room (TypeRead place elem constant) K x = (part_room place K x, tt)
stmt_room (NameNext place elem constant) K x = (part_room place K x, tt)
stmt_room (Declared place elem constant n) K x = (part_room place K x, tt)
stmt_room LocalWord K x = (x.0, tt)
stmt_room (LocalScalar s) K x = (x.0, tt)
stmt_room (LocalNamed elem n) K x = (x.0, tt)
stmt_room (AssignNext place) K x = (part_room place K x, tt)
stmt_room (AssignNamed place n) K x = (part_room place K x, tt)
stmt_room (CountedBefore place op at) K x = (part_room place K x, tt)
stmt_room (CountedNamed place op at n) K x = (part_room place K x, tt)
stmt_room (Targeted place target) K x = (part_room place K x.0, tt)
stmt_room (Assigned place s) K x = (assigned_room place s K x, tt)
stmt_room (CallOpen n) K x = (x.0, tt)
stmt_room FirstStart K x = (head_room K x, tt)
stmt_room (TestStart first) K x = (part_room (InFirst first) K x, tt)
stmt_room (StepStart first test) K x = (for_room first test K x, tt)
stmt_room (Returning at) K x = (x.0, tt)

pub fits_room : (focus : UnitFocus) → UnitFits focus → HasRoom focus
fits_room (Inside head ps focus K) x = stmt_room focus K x
fits_room _ x = tt
