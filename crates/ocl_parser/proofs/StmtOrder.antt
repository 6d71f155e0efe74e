-- The reader groups the expressions of statements, and gives each `else` to the nearest `if` without one.
use Rattle.std.proofs.Common.{◌≡◌, refl, sym, ap, ◌∙◌, Bool, true, false, cond, not, nat_eq, length, List, [], ◌∷◌, Option, Some, None, true≢false}
use Rattle.vx_base.specs.declared.types.Elem.{Elem}
use Rattle.vx_base.specs.declared.types.Pos.{Pos}
use Rattle.ocl_ast.specs.declared.exprs.Ident.{Ident}
use Rattle.ocl_ast.specs.declared.stmts.AssignOp.{AssignOp}
use Rattle.ocl_ast.specs.Trees.{ExprTree, ArgTrees, NoArgs, TargetTree, NameTarget, StmtTree, DeclareTree, AssignTree, DoTree, ReturnTree, StmtTrees, NoStmts, AndStmt}
use Rattle.ocl_tokens.specs.declared.marks.Mark.{Mark}
use Rattle.ocl_tokens.specs.declared.marks.Mark.TheVariants.{OpenParen, CloseParen, OpenBrace, CloseBrace, OpenBracket, CloseBracket, Semicolon, Comma, Bar, Equal}
use Rattle.ocl_tokens.specs.declared.tokens.TokenKind.{TokenKind}
use Rattle.ocl_tokens.specs.declared.tokens.TokenKind.TheVariants.{Name as NameKind, Word as WordKind, Number as NumberKind, Mark as MarkKind}
use Rattle.ocl_tokens.specs.declared.words.Word.{Word}
use Rattle.ocl_tokens.specs.declared.words.Word.TheVariants.{UnderscoreLocal, Local, Const, Volatile, If, While, Do, For, Break, Continue, Return, Barrier}
use Rattle.ocl_parser.specs.declared.scalars.Scalar.{Scalar}
use Rattle.ocl_parser.specs.ScalarSteps.{scalar_first, scalar_more}
use Rattle.ocl_parser.specs.Exprs.{IsGrouped, AreGrouped, IsGroupedIfAny}
use Rattle.ocl_parser.specs.Stmts.{takes_else, IsGroupedTarget, IsOrderly, AreOrderly}
use Rattle.ocl_parser.specs.ExprSteps.{ExprNext, Goes, Ends, Refuses, operand_step, expr_step}
use Rattle.ocl_parser.specs.StmtSteps.{StmtNext, GoesOn, Closes, Stops, and_stmt, set_of, count_of, scalar_read, qualified_word, qualified_step, typed_step, scalar_word, scalar_step, name_step, and_item, declared_end, declared_step, local_read, local_word, local_scalar, local_named, begun, begin_step, assign_end, counted_start, assign_start, set_target, target_mark, target_step, call_start, assign_named, counted_before, counted_named, call_open, barrier_open, barrier_number, open_step, ending_step, first_start, test_start, step_start, returning_step, end_count, end_index, end_counted, end_args, close_with, end_test, end_step, reading_step, body_word, body_mark, body_step, close_items, close_block, item_scalar, item_word, item_step, Placed, placed, ends_with, completed, finished, is_else, else_step, while_step, placed_step, finished_step, stmt_step}
use Rattle.ocl_parser.specs.declared.states.ExprFocus.TheVariants.{Operand}
use Rattle.ocl_parser.specs.declared.states.Part.{Part}
use Rattle.ocl_parser.specs.declared.states.Part.TheVariants.{InBlock, InFirst, InStep}
use Rattle.ocl_parser.specs.declared.states.Purpose.{Purpose}
use Rattle.ocl_parser.specs.declared.states.Purpose.TheVariants.{InitOf, CountOf, IndexOf, CountedIndexOf, ValueOf, ArgsOf, IfTest, WhileTest, DoTest, ForTest, ReturnOf}
use Rattle.ocl_parser.specs.declared.states.StmtFocus.{StmtFocus}
use Rattle.ocl_parser.specs.declared.states.StmtFocus.TheVariants.{ItemStart, BodyStart, Finished, Ending, Reading, IfWord, WhileWord, ForWord, DoWhile, BarrierWord, BarrierOpen, BarrierNumber, QualifiersRead, ScalarRead, TypeRead, NameNext, Declared, LocalWord, LocalScalar, LocalNamed, AssignNext, AssignNamed, CountedBefore, CountedNamed, Targeted, Assigned, CallOpen, FirstStart, TestStart, StepStart, Returning}
use Rattle.ocl_parser.specs.declared.states.StmtFrame.{StmtFrame}
use Rattle.ocl_parser.specs.declared.states.StmtFrame.TheVariants.{Block as BlockFrame, Then as ThenFrame, Else as ElseFrame, While as WhileFrame, Do as DoFrame, For as ForFrame}
use Rattle.ocl_parser.proofs.ExprOrder.{IsGroupedFocus, AreGroupedFrames, IsGroupedNext, args_grouped, operand_groups, expr_groups}

-- a whole statement in which no `if` waits for an `else`
abbrev pub IsWhole : StmtTree → Type 0
IsWhole s = IsOrderly s × (takes_else s ≡ false)

abbrev pub IsOrderlyFrame : StmtFrame → Type 0
IsOrderlyFrame (BlockFrame items) = AreOrderly items
IsOrderlyFrame (ThenFrame test) = IsGrouped test
IsOrderlyFrame (ElseFrame test body) = IsGrouped test × (takes_else body ≡ false) × IsOrderly body
IsOrderlyFrame (WhileFrame test) = IsGrouped test
IsOrderlyFrame DoFrame = Unit {0}
IsOrderlyFrame (ForFrame first test step) = AreOrderly first × IsGroupedIfAny test × AreOrderly step

abbrev pub AreOrderlyFrames : List StmtFrame → Type 0
AreOrderlyFrames [] = Unit {0}
AreOrderlyFrames (f ∷ K) = IsOrderlyFrame f × AreOrderlyFrames K

abbrev pub IsOrderlyPart : Part → Type 0
IsOrderlyPart InBlock = Unit {0}
IsOrderlyPart (InFirst done) = AreOrderly done
IsOrderlyPart (InStep first test done) = AreOrderly first × IsGroupedIfAny test × AreOrderly done

abbrev pub IsOrderlyPurpose : Purpose → Type 0
IsOrderlyPurpose (InitOf place elem constant n) = IsOrderlyPart place
IsOrderlyPurpose (CountOf elem n) = Unit {0}
IsOrderlyPurpose (IndexOf place n at) = IsOrderlyPart place
IsOrderlyPurpose (CountedIndexOf place op pos n at) = IsOrderlyPart place
IsOrderlyPurpose (ValueOf place target op pos) = IsOrderlyPart place × IsGroupedTarget target
IsOrderlyPurpose (ArgsOf n args) = AreGrouped args
IsOrderlyPurpose IfTest = Unit {0}
IsOrderlyPurpose WhileTest = Unit {0}
IsOrderlyPurpose (DoTest body) = IsOrderly body
IsOrderlyPurpose (ForTest first) = AreOrderly first
IsOrderlyPurpose (ReturnOf at) = Unit {0}

abbrev pub IsOrderlyFocus : StmtFocus → Type 0
IsOrderlyFocus ItemStart = Unit {0}
IsOrderlyFocus BodyStart = Unit {0}
IsOrderlyFocus (Finished s) = IsWhole s
IsOrderlyFocus (Ending s) = IsWhole s
IsOrderlyFocus (Reading purpose focus inner) = IsOrderlyPurpose purpose × IsGroupedFocus focus × AreGroupedFrames inner
IsOrderlyFocus IfWord = Unit {0}
IsOrderlyFocus WhileWord = Unit {0}
IsOrderlyFocus ForWord = Unit {0}
IsOrderlyFocus (DoWhile body) = IsOrderly body
IsOrderlyFocus (BarrierWord at) = Unit {0}
IsOrderlyFocus (BarrierOpen at) = Unit {0}
IsOrderlyFocus (BarrierNumber at) = Unit {0}
IsOrderlyFocus (QualifiersRead place constant) = IsOrderlyPart place
IsOrderlyFocus (ScalarRead place constant s) = IsOrderlyPart place
IsOrderlyFocus (TypeRead place elem constant) = IsOrderlyPart place
IsOrderlyFocus (NameNext place elem constant) = IsOrderlyPart place
IsOrderlyFocus (Declared place elem constant n) = IsOrderlyPart place
IsOrderlyFocus LocalWord = Unit {0}
IsOrderlyFocus (LocalScalar s) = Unit {0}
IsOrderlyFocus (LocalNamed elem n) = Unit {0}
IsOrderlyFocus (AssignNext place) = IsOrderlyPart place
IsOrderlyFocus (AssignNamed place n) = IsOrderlyPart place
IsOrderlyFocus (CountedBefore place op at) = IsOrderlyPart place
IsOrderlyFocus (CountedNamed place op at n) = IsOrderlyPart place
IsOrderlyFocus (Targeted place target) = IsOrderlyPart place × IsGroupedTarget target
IsOrderlyFocus (Assigned place s) = IsOrderlyPart place × IsWhole s
IsOrderlyFocus (CallOpen n) = Unit {0}
IsOrderlyFocus FirstStart = Unit {0}
IsOrderlyFocus (TestStart first) = AreOrderly first
IsOrderlyFocus (StepStart first test) = AreOrderly first × IsGroupedIfAny test
IsOrderlyFocus (Returning at) = Unit {0}

abbrev pub IsOrderlyNext : StmtNext → Type 0
IsOrderlyNext (GoesOn focus K) = IsOrderlyFocus focus × AreOrderlyFrames K
IsOrderlyNext (Closes items) = AreOrderly items
IsOrderlyNext Stops = Unit {0}

pub and_orderly : (ss : StmtTrees) (s : StmtTree) → AreOrderly ss → IsOrderly s → AreOrderly (and_stmt ss s)
and_orderly NoStmts s g x = (x, tt)
and_orderly (AndStmt y ss) s g x = (g.0, and_orderly ss s g.1 x)

item_orderly : (s : StmtTree) (K : List StmtFrame) → AreOrderlyFrames K → IsOrderly s → AreOrderlyFrames (and_item s K)
item_orderly s [] g x = g
item_orderly s (BlockFrame items ∷ K) g x = (and_orderly items s g.0 x, g.1)
item_orderly s (ThenFrame test ∷ K) g x = g
item_orderly s (ElseFrame test body ∷ K) g x = g
item_orderly s (WhileFrame test ∷ K) g x = g
item_orderly s (DoFrame ∷ K) g x = g
item_orderly s (ForFrame first test step ∷ K) g x = g

-- declarations
scalar_orders : (o : Option Scalar) (place : Part) (constant : Bool) (K : List StmtFrame) → IsOrderlyPart place → AreOrderlyFrames K →
    IsOrderlyNext (scalar_read o place constant K)
scalar_orders (Some s) place constant K p g = (p, g)
scalar_orders None place constant K p g = tt

qualified_orders : (w : Word) (place : Part) (constant : Bool) (K : List StmtFrame) → IsOrderlyPart place → AreOrderlyFrames K →
    IsOrderlyNext (qualified_word w place constant K)
qualified_orders Const place constant K p g = (p, g)
qualified_orders Volatile place constant K p g = (p, g)
qualified_orders w place constant K p g = scalar_orders (scalar_first w) place constant K p g

words_order : (kind : TokenKind) (place : Part) (constant : Bool) (K : List StmtFrame) → IsOrderlyPart place → AreOrderlyFrames K →
    IsOrderlyNext (qualified_step kind place constant K)
words_order (WordKind w) place constant K p g = qualified_orders w place constant K p g
words_order _ place constant K p g = tt

typed_orders : (kind : TokenKind) (pos : Pos) (place : Part) (elem : Elem) (constant : Bool) (K : List StmtFrame) → IsOrderlyPart place → AreOrderlyFrames K →
    IsOrderlyNext (typed_step kind pos place elem constant K)
typed_orders (NameKind text) pos place elem constant K p g = (p, g)
typed_orders (WordKind Const) pos place elem constant K p g = (p, g)
typed_orders (WordKind Volatile) pos place elem constant K p g = (p, g)
typed_orders _ pos place elem constant K p g = tt

more_orders : (w : Word) (place : Part) (constant : Bool) (s : Scalar) (K : List StmtFrame) → IsOrderlyPart place → AreOrderlyFrames K →
    IsOrderlyNext (scalar_word w place constant s K)
more_orders Const place constant s K p g = (p, g)
more_orders Volatile place constant s K p g = (p, g)
more_orders w place constant s K p g = scalar_orders (scalar_more s w) place constant K p g

scalar_step_orders : (kind : TokenKind) (pos : Pos) (place : Part) (constant : Bool) (s : Scalar) (K : List StmtFrame) → IsOrderlyPart place → AreOrderlyFrames K →
    IsOrderlyNext (scalar_step kind pos place constant s K)
scalar_step_orders (NameKind text) pos place constant s K p g = (p, g)
scalar_step_orders (WordKind w) pos place constant s K p g = more_orders w place constant s K p g
scalar_step_orders _ pos place constant s K p g = tt

name_orders : (kind : TokenKind) (pos : Pos) (place : Part) (elem : Elem) (constant : Bool) (K : List StmtFrame) → IsOrderlyPart place → AreOrderlyFrames K →
    IsOrderlyNext (name_step kind pos place elem constant K)
name_orders (NameKind text) pos place elem constant K p g = (p, g)
name_orders _ pos place elem constant K p g = tt

declared_orders : (kind : TokenKind) (place : Part) (elem : Elem) (constant : Bool) (s : StmtTree) (K : List StmtFrame) → IsOrderlyPart place → AreOrderlyFrames K → IsOrderly s →
    IsOrderlyNext (declared_end kind place elem constant s K)
declared_orders (MarkKind Semicolon) InBlock elem constant s K p g x = (tt, item_orderly s K g x)
declared_orders (MarkKind Comma) InBlock elem constant s K p g x = (tt, item_orderly s K g x)
declared_orders (MarkKind Semicolon) (InFirst done) elem constant s K p g x = (and_orderly done s p x, g)
declared_orders (MarkKind Comma) (InFirst done) elem constant s K p g x = (and_orderly done s p x, g)
declared_orders _ place elem constant s K p g x = tt

declare_orders : (kind : TokenKind) (place : Part) (elem : Elem) (constant : Bool) (n : Ident) (K : List StmtFrame) → IsOrderlyPart place → AreOrderlyFrames K →
    IsOrderlyNext (declared_step kind place elem constant n K)
declare_orders (MarkKind Equal) place elem constant n K p g = ((p, tt, tt), g)
declare_orders kind place elem constant n K p g = declared_orders kind place elem constant (DeclareTree elem constant n None) K p g tt

-- a local array
local_begins : (o : Option Scalar) (K : List StmtFrame) → AreOrderlyFrames K → IsOrderlyNext (local_read o K)
local_begins (Some s) K g = (tt, g)
local_begins None K g = tt

local_orders : (kind : TokenKind) (K : List StmtFrame) → AreOrderlyFrames K → IsOrderlyNext (local_word kind K)
local_orders (WordKind w) K g = local_begins (scalar_first w) K g
local_orders _ K g = tt

local_scalar_orders : (kind : TokenKind) (pos : Pos) (s : Scalar) (K : List StmtFrame) → AreOrderlyFrames K → IsOrderlyNext (local_scalar kind pos s K)
local_scalar_orders (NameKind text) pos s K g = (tt, g)
local_scalar_orders (WordKind w) pos s K g = local_begins (scalar_more s w) K g
local_scalar_orders _ pos s K g = tt

local_named_orders : (kind : TokenKind) (elem : Elem) (n : Ident) (K : List StmtFrame) → AreOrderlyFrames K → IsOrderlyNext (local_named kind elem n K)
local_named_orders (MarkKind OpenBracket) elem n K g = ((tt, tt, tt), g)
local_named_orders _ elem n K g = tt

-- the first token of an expression
begun_orders : (purpose : Purpose) (next : ExprNext) (K : List StmtFrame) → IsOrderlyPurpose purpose → AreOrderlyFrames K → IsGroupedNext next →
    IsOrderlyNext (begun purpose next K)
begun_orders purpose (Goes focus inner) K p g x = ((p, x.0, x.1), g)
begun_orders purpose (Ends e) K p g x = tt
begun_orders purpose Refuses K p g x = tt

begin_orders : (kind : TokenKind) (pos : Pos) (purpose : Purpose) (K : List StmtFrame) → IsOrderlyPurpose purpose → AreOrderlyFrames K →
    IsOrderlyNext (begin_step kind pos purpose K)
begin_orders kind pos purpose K p g = begun_orders purpose (operand_step kind pos []) K p g (operand_groups kind pos [] tt)

-- assignments
assigned_orders : (kind : TokenKind) (place : Part) (s : StmtTree) (K : List StmtFrame) → IsOrderlyPart place → AreOrderlyFrames K → IsWhole s →
    IsOrderlyNext (assign_end kind place s K)
assigned_orders (MarkKind Semicolon) InBlock s K p g x = (x, g)
assigned_orders (MarkKind Semicolon) (InFirst done) s K p g x = (and_orderly done s p x.0, g)
assigned_orders (MarkKind Comma) (InFirst done) s K p g x = (and_orderly done s p x.0, g)
assigned_orders (MarkKind CloseParen) (InStep first test done) s K p g x = (tt, ((p.0, p.1, and_orderly done s p.2 x.0), g))
assigned_orders (MarkKind Comma) (InStep first test done) s K p g x = ((p.0, p.1, and_orderly done s p.2 x.0), g)
assigned_orders _ place s K p g x = tt

count_start_orders : (o : Option AssignOp) (pos : Pos) (place : Part) (K : List StmtFrame) → IsOrderlyPart place → AreOrderlyFrames K →
    IsOrderlyNext (counted_start o pos place K)
count_start_orders (Some op) pos place K p g = (p, g)
count_start_orders None pos place K p g = tt

assign_orders : (kind : TokenKind) (pos : Pos) (place : Part) (K : List StmtFrame) → IsOrderlyPart place → AreOrderlyFrames K →
    IsOrderlyNext (assign_start kind pos place K)
assign_orders (NameKind text) pos place K p g = (p, g)
assign_orders (MarkKind m) pos place K p g = count_start_orders (count_of m) pos place K p g
assign_orders _ pos place K p g = tt

set_orders : (o : Option AssignOp) (pos : Pos) (place : Part) (target : TargetTree) (K : List StmtFrame) → IsOrderlyPart place → IsGroupedTarget target → AreOrderlyFrames K →
    IsOrderlyNext (set_target o pos place target K)
set_orders (Some op) pos place target K p x g = (((p, x), tt, tt), g)
set_orders None pos place target K p x g = tt

mark_orders : (o : Option AssignOp) (m : Mark) (pos : Pos) (place : Part) (target : TargetTree) (K : List StmtFrame) → IsOrderlyPart place → IsGroupedTarget target → AreOrderlyFrames K →
    IsOrderlyNext (target_mark o m pos place target K)
mark_orders (Some op) m pos place target K p x g = ((p, ((x, tt), refl)), g)
mark_orders None m pos place target K p x g = set_orders (set_of m) pos place target K p x g

target_orders : (kind : TokenKind) (pos : Pos) (place : Part) (target : TargetTree) (K : List StmtFrame) → IsOrderlyPart place → IsGroupedTarget target → AreOrderlyFrames K →
    IsOrderlyNext (target_step kind pos place target K)
target_orders (MarkKind m) pos place target K p x g = mark_orders (count_of m) m pos place target K p x g
target_orders _ pos place target K p x g = tt

call_orders : (place : Part) (n : Ident) (K : List StmtFrame) → AreOrderlyFrames K → IsOrderlyNext (call_start place n K)
call_orders InBlock n K g = (tt, g)
call_orders (InFirst done) n K g = tt
call_orders (InStep first test done) n K g = tt

named_orders : (kind : TokenKind) (pos : Pos) (place : Part) (n : Ident) (K : List StmtFrame) → IsOrderlyPart place → AreOrderlyFrames K →
    IsOrderlyNext (assign_named kind pos place n K)
named_orders (MarkKind OpenBracket) pos place n K p g = ((p, tt, tt), g)
named_orders (MarkKind OpenParen) pos place n K p g = call_orders place n K g
named_orders kind pos place n K p g = target_orders kind pos place (NameTarget n) K p tt g

counted_orders : (kind : TokenKind) (pos : Pos) (place : Part) (op : AssignOp) (at : Pos) (K : List StmtFrame) → IsOrderlyPart place → AreOrderlyFrames K →
    IsOrderlyNext (counted_before kind pos place op at K)
counted_orders (NameKind text) pos place op at K p g = (p, g)
counted_orders _ pos place op at K p g = tt

counted_named_orders : (kind : TokenKind) (pos : Pos) (place : Part) (op : AssignOp) (at : Pos) (n : Ident) (K : List StmtFrame) → IsOrderlyPart place → AreOrderlyFrames K →
    IsOrderlyNext (counted_named kind pos place op at n K)
counted_named_orders (MarkKind OpenBracket) pos place op at n K p g = ((p, tt, tt), g)
counted_named_orders kind pos place op at n K p g = assigned_orders kind place (AssignTree (NameTarget n) op None at) K p g ((tt, tt), refl)

-- calls, barriers and heads
call_open_orders : (kind : TokenKind) (pos : Pos) (n : Ident) (K : List StmtFrame) → AreOrderlyFrames K → IsOrderlyNext (call_open kind pos n K)
call_open_orders (MarkKind CloseParen) pos n K g = ((tt, refl), g)
call_open_orders kind pos n K g = begin_orders kind pos (ArgsOf n NoArgs) K tt g

number_orders : (kind : TokenKind) (at : Pos) (K : List StmtFrame) → AreOrderlyFrames K → IsOrderlyNext (barrier_open kind at K)
number_orders (NumberKind value unsigned) at K g = (tt, g)
number_orders _ at K g = tt

behind_number : (kind : TokenKind) (at : Pos) (K : List StmtFrame) → AreOrderlyFrames K → IsOrderlyNext (barrier_number kind at K)
behind_number (MarkKind Bar) at K g = (tt, g)
behind_number (MarkKind CloseParen) at K g = ((tt, refl), g)
behind_number _ at K g = tt

open_orders : (kind : TokenKind) (next : StmtFocus) (K : List StmtFrame) → IsOrderlyFocus next → AreOrderlyFrames K → IsOrderlyNext (open_step kind next K)
open_orders (MarkKind OpenParen) next K x g = (x, g)
open_orders _ next K x g = tt

ending_orders : (kind : TokenKind) (s : StmtTree) (K : List StmtFrame) → IsWhole s → AreOrderlyFrames K → IsOrderlyNext (ending_step kind s K)
ending_orders (MarkKind Semicolon) s K x g = (x, g)
ending_orders _ s K x g = tt

first_orders : (kind : TokenKind) (pos : Pos) (K : List StmtFrame) → AreOrderlyFrames K → IsOrderlyNext (first_start kind pos K)
first_orders (MarkKind Semicolon) pos K g = (tt, g)
first_orders (WordKind w) pos K g = qualified_orders w (InFirst NoStmts) false K tt g
first_orders kind pos K g = assign_orders kind pos (InFirst NoStmts) K tt g

test_orders : (kind : TokenKind) (pos : Pos) (first : StmtTrees) (K : List StmtFrame) → AreOrderly first → AreOrderlyFrames K → IsOrderlyNext (test_start kind pos first K)
test_orders (MarkKind Semicolon) pos first K x g = ((x, tt), g)
test_orders kind pos first K x g = begin_orders kind pos (ForTest first) K x g

step_orders : (kind : TokenKind) (pos : Pos) (first : StmtTrees) (test : Option ExprTree) (K : List StmtFrame) → AreOrderly first → IsGroupedIfAny test → AreOrderlyFrames K →
    IsOrderlyNext (step_start kind pos first test K)
step_orders (MarkKind CloseParen) pos first test K x y g = (tt, ((x, y, tt), g))
step_orders kind pos first test K x y g = assign_orders kind pos (InStep first test NoStmts) K (x, y, tt) g

return_orders : (kind : TokenKind) (pos at : Pos) (K : List StmtFrame) → AreOrderlyFrames K → IsOrderlyNext (returning_step kind pos at K)
return_orders (MarkKind Semicolon) pos at K g = ((tt, refl), g)
return_orders kind pos at K g = begin_orders kind pos (ReturnOf at) K tt g

-- the token behind a whole expression
count_ends : (kind : TokenKind) (elem : Elem) (n : Ident) (e : ExprTree) (K : List StmtFrame) → IsGrouped e → AreOrderlyFrames K → IsOrderlyNext (end_count kind elem n e K)
count_ends (MarkKind CloseBracket) elem n e K x g = ((x, refl), g)
count_ends _ elem n e K x g = tt

index_ends : (kind : TokenKind) (place : Part) (n : Ident) (at : Pos) (e : ExprTree) (K : List StmtFrame) → IsOrderlyPart place → IsGrouped e → AreOrderlyFrames K →
    IsOrderlyNext (end_index kind place n at e K)
index_ends (MarkKind CloseBracket) place n at e K p x g = ((p, x), g)
index_ends _ place n at e K p x g = tt

counted_ends : (kind : TokenKind) (place : Part) (op : AssignOp) (pos : Pos) (n : Ident) (at : Pos) (e : ExprTree) (K : List StmtFrame) → IsOrderlyPart place → IsGrouped e → AreOrderlyFrames K →
    IsOrderlyNext (end_counted kind place op pos n at e K)
counted_ends (MarkKind CloseBracket) place op pos n at e K p x g = ((p, ((x, tt), refl)), g)
counted_ends _ place op pos n at e K p x g = tt

args_end : (kind : TokenKind) (n : Ident) (args : ArgTrees) (e : ExprTree) (K : List StmtFrame) → AreGrouped args → IsGrouped e → AreOrderlyFrames K →
    IsOrderlyNext (end_args kind n args e K)
args_end (MarkKind Comma) n args e K p x g = ((args_grouped args e p x, tt, tt), g)
args_end (MarkKind CloseParen) n args e K p x g = ((args_grouped args e p x, refl), g)
args_end _ n args e K p x g = tt

close_orders : (kind : TokenKind) (next : StmtFocus) (K : List StmtFrame) → IsOrderlyFocus next → AreOrderlyFrames K → IsOrderlyNext (close_with kind next K)
close_orders (MarkKind CloseParen) next K x g = (x, g)
close_orders _ next K x g = tt

test_ends : (kind : TokenKind) (first : StmtTrees) (e : ExprTree) (K : List StmtFrame) → AreOrderly first → IsGrouped e → AreOrderlyFrames K → IsOrderlyNext (end_test kind first e K)
test_ends (MarkKind Semicolon) first e K p x g = ((p, x), g)
test_ends _ first e K p x g = tt

end_orders : (kind : TokenKind) (purpose : Purpose) (e : ExprTree) (K : List StmtFrame) → IsOrderlyPurpose purpose → IsGrouped e → AreOrderlyFrames K →
    IsOrderlyNext (end_step kind purpose e K)
end_orders kind (InitOf place elem constant n) e K p x g = declared_orders kind place elem constant (DeclareTree elem constant n (Some e)) K p g x
end_orders kind (CountOf elem n) e K p x g = count_ends kind elem n e K x g
end_orders kind (IndexOf place n at) e K p x g = index_ends kind place n at e K p x g
end_orders kind (CountedIndexOf place op pos n at) e K p x g = counted_ends kind place op pos n at e K p x g
end_orders kind (ValueOf place target op pos) e K p x g = assigned_orders kind place (AssignTree target op (Some e) pos) K p.0 g ((p.1, x), refl)
end_orders kind (ArgsOf n args) e K p x g = args_end kind n args e K p x g
end_orders kind IfTest e K p x g = close_orders kind BodyStart (ThenFrame e ∷ K) tt (x, g)
end_orders kind WhileTest e K p x g = close_orders kind BodyStart (WhileFrame e ∷ K) tt (x, g)
end_orders kind (DoTest body) e K p x g = close_orders kind (Ending (DoTree body e)) K ((p, x), refl) g
end_orders kind (ForTest first) e K p x g = test_ends kind first e K p x g
end_orders kind (ReturnOf at) e K p x g = ending_orders kind (ReturnTree (Some e) at) K (x, refl) g

reading_orders : (kind : TokenKind) (purpose : Purpose) (next : ExprNext) (K : List StmtFrame) → IsOrderlyPurpose purpose → IsGroupedNext next → AreOrderlyFrames K →
    IsOrderlyNext (reading_step kind purpose next K)
reading_orders kind purpose (Goes focus inner) K p x g = ((p, x.0, x.1), g)
reading_orders kind purpose (Ends e) K p x g = end_orders kind purpose e K p x g
reading_orders kind purpose Refuses K p x g = tt

-- the first token of a statement, and of an item
body_word_orders : (w : Word) (pos : Pos) (K : List StmtFrame) → AreOrderlyFrames K → IsOrderlyNext (body_word w pos K)
body_word_orders If pos K g = (tt, g)
body_word_orders While pos K g = (tt, g)
body_word_orders For pos K g = (tt, g)
body_word_orders Do pos K g = (tt, (tt, g))
body_word_orders Barrier pos K g = (tt, g)
body_word_orders Break pos K g = ((tt, refl), g)
body_word_orders Continue pos K g = ((tt, refl), g)
body_word_orders Return pos K g = (tt, g)
body_word_orders _ pos K g = tt

body_mark_orders : (m : Mark) (pos : Pos) (K : List StmtFrame) → AreOrderlyFrames K → IsOrderlyNext (body_mark m pos K)
body_mark_orders Semicolon pos K g = ((tt, refl), g)
body_mark_orders OpenBrace pos K g = (tt, (tt, g))
body_mark_orders m pos K g = count_start_orders (count_of m) pos InBlock K tt g

body_orders : (kind : TokenKind) (pos : Pos) (K : List StmtFrame) → AreOrderlyFrames K → IsOrderlyNext (body_step kind pos K)
body_orders (NameKind text) pos K g = (tt, g)
body_orders (WordKind w) pos K g = body_word_orders w pos K g
body_orders (MarkKind m) pos K g = body_mark_orders m pos K g
body_orders _ pos K g = tt

items_order : (b : Bool) (items : StmtTrees) (K : List StmtFrame) → AreOrderly items → AreOrderlyFrames K → IsOrderlyNext (close_items b items K)
items_order true items K x g = x
items_order false items K x g = ((x, refl), g)

block_orders : (K : List StmtFrame) → AreOrderlyFrames K → IsOrderlyNext (close_block K)
block_orders [] g = tt
block_orders (BlockFrame items ∷ K) g = items_order (nat_eq (length K) 0) items K g.0 g.1
block_orders (_ ∷ K) g = tt

item_scalar_orders : (o : Option Scalar) (w : Word) (pos : Pos) (K : List StmtFrame) → AreOrderlyFrames K → IsOrderlyNext (item_scalar o w pos K)
item_scalar_orders (Some s) w pos K g = (tt, g)
item_scalar_orders None w pos K g = body_word_orders w pos K g

item_word_orders : (w : Word) (pos : Pos) (K : List StmtFrame) → AreOrderlyFrames K → IsOrderlyNext (item_word w pos K)
item_word_orders Const pos K g = (tt, g)
item_word_orders Volatile pos K g = (tt, g)
item_word_orders UnderscoreLocal pos K g = (tt, g)
item_word_orders Local pos K g = (tt, g)
item_word_orders w pos K g = item_scalar_orders (scalar_first w) w pos K g

item_orders : (kind : TokenKind) (pos : Pos) (K : List StmtFrame) → AreOrderlyFrames K → IsOrderlyNext (item_step kind pos K)
item_orders (MarkKind CloseBrace) pos K g = block_orders K g
item_orders (WordKind w) pos K g = item_word_orders w pos K g
item_orders kind pos K g = body_orders kind pos K g

-- a whole statement, behind which an `else` may follow
record IsPlaced (b : Bool) (p : Placed) : Type 0 where
  orderly : IsOrderly p.tree
  around : AreOrderlyFrames p.frames
  no_else : b ≡ true → takes_else p.tree ≡ false

closed_orderly : (b : Bool) (f : StmtFrame) (s : StmtTree) → ends_with b f ≡ true → IsOrderlyFrame f → IsOrderly s → IsOrderly (completed f s)
closed_orderly b (ThenFrame test) s h g x = (g, x)
closed_orderly b (ElseFrame test body) s h g x = (g.0, g.1, g.2, x)
closed_orderly b (WhileFrame test) s h g x = (g, x)
closed_orderly b (ForFrame first test step) s h g x = (g.0, g.1, g.2, x)
closed_orderly b DoFrame s h g x = absurd (true≢false (sym h))
closed_orderly b (BlockFrame items) s h g x = absurd (true≢false (sym h))

closed_else : (b : Bool) (f : StmtFrame) (s : StmtTree) → ends_with b f ≡ true → (b ≡ true → takes_else s ≡ false) → b ≡ true → takes_else (completed f s) ≡ false
closed_else b (ThenFrame test) s h x e = absurd (true≢false (sym h ∙ ap not e))
closed_else b (ElseFrame test body) s h x e = x e
closed_else b (WhileFrame test) s h x e = x e
closed_else b (ForFrame first test step) s h x e = x e
closed_else b DoFrame s h x e = absurd (true≢false (sym h))
closed_else b (BlockFrame items) s h x e = absurd (true≢false (sym h))

by_end : (b : Bool) (s : StmtTree) (f : StmtFrame) (K : List StmtFrame) (c : Bool) → ends_with b f ≡ c → IsOrderly s → AreOrderlyFrames (f ∷ K) → (b ≡ true → takes_else s ≡ false) →
    (c ≡ true → IsPlaced b (finished b (completed f s) K)) →
    IsPlaced b (cond c (finished b (completed f s) K) (placed s (f ∷ K)))
by_end b s f K true h x g e further = further refl
by_end b s f K false h x g e further = record { orderly = x; around = g; no_else = e }

finished_orders : (b : Bool) (s : StmtTree) (K : List StmtFrame) → IsOrderly s → AreOrderlyFrames K → (b ≡ true → takes_else s ≡ false) → IsPlaced b (finished b s K)
finished_orders b s [] x g e = record { orderly = x; around = g; no_else = e }
finished_orders b s (f ∷ K) x g e =
    by_end b s f K (ends_with b f) refl x g e
    (λ h. finished_orders b (completed f s) K (closed_orderly b f s h g.0 x) g.1 (closed_else b f s h e))

else_orders : (b : Bool) (test : ExprTree) (s : StmtTree) (K : List StmtFrame) → IsGrouped test → AreOrderlyFrames K → IsOrderly s → (b ≡ true → takes_else s ≡ false) →
    IsOrderlyNext (else_step b test s K)
else_orders true test s K t g x e = (tt, ((t, e refl, x), g))
else_orders false test s K t g x e = tt

while_orders : (kind : TokenKind) (s : StmtTree) (K : List StmtFrame) → IsOrderly s → AreOrderlyFrames K → IsOrderlyNext (while_step kind s K)
while_orders (WordKind While) s K x g = (x, g)
while_orders _ s K x g = tt

placed_orders : (kind : TokenKind) (pos : Pos) (s : StmtTree) (K : List StmtFrame) → IsOrderly s → AreOrderlyFrames K → (is_else kind ≡ true → takes_else s ≡ false) →
    IsOrderlyNext (placed_step kind pos s K)
placed_orders kind pos s (ThenFrame test ∷ K) x g e = else_orders (is_else kind) test s K g.0 g.1 x e
placed_orders kind pos s (DoFrame ∷ K) x g e = while_orders kind s K x g.1
placed_orders kind pos s (BlockFrame items ∷ K) x g e = item_orders kind pos (BlockFrame (and_stmt items s) ∷ K) (and_orderly items s g.0 x, g.1)
placed_orders kind pos s _ x g e = tt

whole_orders : (kind : TokenKind) (pos : Pos) (s : StmtTree) (K : List StmtFrame) → IsWhole s → AreOrderlyFrames K →
    IsOrderlyNext (finished_step kind pos (finished (is_else kind) s K))
whole_orders kind pos s K x g =
    let p : IsPlaced (is_else kind) (finished (is_else kind) s K) = finished_orders (is_else kind) s K x.0 g (λ e. x.1) in
    placed_orders kind pos (finished (is_else kind) s K).tree (finished (is_else kind) s K).frames p.orderly p.around p.no_else

-- one token of a function's body
pub stmt_orders : (kind : TokenKind) (pos : Pos) (focus : StmtFocus) (K : List StmtFrame) → IsOrderlyFocus focus → AreOrderlyFrames K →
    IsOrderlyNext (stmt_step kind pos focus K)
stmt_orders kind pos ItemStart K x g = item_orders kind pos K g
stmt_orders kind pos BodyStart K x g = body_orders kind pos K g
stmt_orders kind pos (Finished s) K x g = whole_orders kind pos s K x g
stmt_orders kind pos (Ending s) K x g = ending_orders kind s K x g
stmt_orders kind pos (Reading purpose focus inner) K x g =
    reading_orders kind purpose (expr_step kind pos focus inner) K x.0 (expr_groups kind pos focus inner x.1 x.2) g
stmt_orders kind pos IfWord K x g = open_orders kind (Reading IfTest Operand []) K (tt, tt, tt) g
stmt_orders kind pos WhileWord K x g = open_orders kind (Reading WhileTest Operand []) K (tt, tt, tt) g
stmt_orders kind pos ForWord K x g = open_orders kind FirstStart K tt g
stmt_orders kind pos (DoWhile body) K x g = open_orders kind (Reading (DoTest body) Operand []) K (x, tt, tt) g
stmt_orders kind pos (BarrierWord at) K x g = open_orders kind (BarrierOpen at) K tt g
stmt_orders kind pos (BarrierOpen at) K x g = number_orders kind at K g
stmt_orders kind pos (BarrierNumber at) K x g = behind_number kind at K g
stmt_orders kind pos (QualifiersRead place constant) K x g = words_order kind place constant K x g
stmt_orders kind pos (ScalarRead place constant s) K x g = scalar_step_orders kind pos place constant s K x g
stmt_orders kind pos (TypeRead place elem constant) K x g = typed_orders kind pos place elem constant K x g
stmt_orders kind pos (NameNext place elem constant) K x g = name_orders kind pos place elem constant K x g
stmt_orders kind pos (Declared place elem constant n) K x g = declare_orders kind place elem constant n K x g
stmt_orders kind pos LocalWord K x g = local_orders kind K g
stmt_orders kind pos (LocalScalar s) K x g = local_scalar_orders kind pos s K g
stmt_orders kind pos (LocalNamed elem n) K x g = local_named_orders kind elem n K g
stmt_orders kind pos (AssignNext place) K x g = assign_orders kind pos place K x g
stmt_orders kind pos (AssignNamed place n) K x g = named_orders kind pos place n K x g
stmt_orders kind pos (CountedBefore place op at) K x g = counted_orders kind pos place op at K x g
stmt_orders kind pos (CountedNamed place op at n) K x g = counted_named_orders kind pos place op at n K x g
stmt_orders kind pos (Targeted place target) K x g = target_orders kind pos place target K x.0 x.1 g
stmt_orders kind pos (Assigned place s) K x g = assigned_orders kind place s K x.0 g x.1
stmt_orders kind pos (CallOpen n) K x g = call_open_orders kind pos n K g
stmt_orders kind pos FirstStart K x g = first_orders kind pos K g
stmt_orders kind pos (TestStart first) K x g = test_orders kind pos first K x g
stmt_orders kind pos (StepStart first test) K x g = step_orders kind pos first test K x.0 x.1 g
stmt_orders kind pos (Returning at) K x g = return_orders kind pos at K g
