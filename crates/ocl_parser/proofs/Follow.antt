-- The reader inside a function's body stays inside the body's block, and reads declarations where they may stand.
use Rattle.std.proofs.Common.{◌≡◌, refl, sym, subst, Bool, true, false, cond, List, [], ◌∷◌, Option, Some, None, true≢false}
use Rattle.vx_base.specs.declared.types.Elem.{Elem}
use Rattle.vx_base.specs.declared.types.Pos.{Pos}
use Rattle.ocl_ast.specs.declared.exprs.Ident.{Ident}
use Rattle.ocl_ast.specs.declared.stmts.AssignOp.{AssignOp}
use Rattle.ocl_ast.specs.Trees.{ExprTree, ArgTrees, NoArgs, TargetTree, NameTarget, StmtTree, DeclareTree, AssignTree, DoTree, ReturnTree, StmtTrees, NoStmts}
use Rattle.ocl_tokens.specs.declared.marks.Mark.{Mark}
use Rattle.ocl_tokens.specs.declared.marks.Mark.TheVariants.{OpenParen, CloseParen, OpenBrace, CloseBrace, OpenBracket, CloseBracket, Semicolon, Comma, Bar, Equal}
use Rattle.ocl_tokens.specs.declared.tokens.TokenKind.{TokenKind}
use Rattle.ocl_tokens.specs.declared.tokens.TokenKind.TheVariants.{Name as NameKind, Word as WordKind, Number as NumberKind, Mark as MarkKind}
use Rattle.ocl_tokens.specs.declared.words.Word.{Word}
use Rattle.ocl_tokens.specs.declared.words.Word.TheVariants.{UnderscoreLocal, Local, Const, Volatile, If, While, Do, For, Break, Continue, Return, Barrier}
use Rattle.ocl_parser.specs.declared.scalars.Scalar.{Scalar}
use Rattle.ocl_parser.specs.ScalarSteps.{scalar_first, scalar_more}
use Rattle.ocl_parser.specs.ExprSteps.{ExprNext, Goes, Ends, Refuses, operand_step, expr_step}
use Rattle.ocl_parser.specs.StmtSteps.{StmtNext, GoesOn, Closes, Stops, and_stmt, set_of, count_of, scalar_read, qualified_word, qualified_step, typed_step, scalar_word, scalar_step, name_step, and_item, declared_end, declared_step, local_read, local_word, local_scalar, local_named, begun, begin_step, assign_end, counted_start, assign_start, set_target, target_mark, target_step, call_start, assign_named, counted_before, counted_named, call_open, barrier_open, barrier_number, open_step, ending_step, first_start, test_start, step_start, returning_step, end_count, end_index, end_counted, end_args, close_with, end_test, end_step, reading_step, body_word, body_mark, body_step, close_block, item_scalar, item_word, item_step, placed, ends_with, completed, finished, is_else, else_step, while_step, placed_step, finished_step, stmt_step}
use Rattle.ocl_parser.specs.declared.states.ExprFocus.TheVariants.{Operand}
use Rattle.ocl_parser.specs.declared.states.Part.{Part}
use Rattle.ocl_parser.specs.declared.states.Part.TheVariants.{InBlock, InFirst, InStep}
use Rattle.ocl_parser.specs.declared.states.Purpose.{Purpose}
use Rattle.ocl_parser.specs.declared.states.Purpose.TheVariants.{InitOf, CountOf, IndexOf, CountedIndexOf, ValueOf, ArgsOf, IfTest, WhileTest, DoTest, ForTest, ReturnOf}
use Rattle.ocl_parser.specs.declared.states.StmtFocus.{StmtFocus}
use Rattle.ocl_parser.specs.declared.states.StmtFocus.TheVariants.{ItemStart, BodyStart, Finished, Ending, Reading, IfWord, WhileWord, ForWord, DoWhile, BarrierWord, BarrierOpen, BarrierNumber, QualifiersRead, ScalarRead, TypeRead, NameNext, Declared, LocalWord, LocalScalar, LocalNamed, AssignNext, AssignNamed, CountedBefore, CountedNamed, Targeted, Assigned, CallOpen, FirstStart, TestStart, StepStart, Returning}
use Rattle.ocl_parser.specs.declared.states.StmtFrame.{StmtFrame}
use Rattle.ocl_parser.specs.declared.states.StmtFrame.TheVariants.{Block as BlockFrame, Then as ThenFrame, Else as ElseFrame, While as WhileFrame, Do as DoFrame, For as ForFrame}
use Rattle.ocl_parser.proofs.Closing.{IsRooted, IsInBlock, CanDeclare, CanRead, CanStand, no_frames, more_frames}

abbrev pub CanFollow : StmtNext → Type 0
CanFollow (GoesOn focus K) = CanStand focus K × IsRooted K
CanFollow (Closes items) = Unit {0}
CanFollow Stops = Unit {0}

item_in : (s : StmtTree) (K : List StmtFrame) → IsInBlock K → IsInBlock (and_item s K)
item_in s [] i = i
item_in s (BlockFrame items ∷ K) i = tt
item_in s (ThenFrame test ∷ K) i = i
item_in s (ElseFrame test body ∷ K) i = i
item_in s (WhileFrame test ∷ K) i = i
item_in s (DoFrame ∷ K) i = i
item_in s (ForFrame first test step ∷ K) i = i

block_rooted : (items more : StmtTrees) (K : List StmtFrame) → IsRooted (BlockFrame items ∷ K) → IsRooted (BlockFrame more ∷ K)
block_rooted items more [] r = tt
block_rooted items more (f ∷ K) r = r

item_rooted : (s : StmtTree) (K : List StmtFrame) → IsRooted K → IsRooted (and_item s K)
item_rooted s [] r = r
item_rooted s (BlockFrame items ∷ K) r = block_rooted items (and_stmt items s) K r
item_rooted s (ThenFrame test ∷ K) r = r
item_rooted s (ElseFrame test body ∷ K) r = r
item_rooted s (WhileFrame test ∷ K) r = r
item_rooted s (DoFrame ∷ K) r = r
item_rooted s (ForFrame first test step ∷ K) r = r

inner_rooted : (items : StmtTrees) (K : List StmtFrame) → IsRooted K → IsRooted (BlockFrame items ∷ K)
inner_rooted items [] r = tt
inner_rooted items (f ∷ K) r = r

-- declarations
scalar_follows : (o : Option Scalar) (place : Part) (constant : Bool) (K : List StmtFrame) → CanDeclare place K → IsRooted K → CanFollow (scalar_read o place constant K)
scalar_follows (Some s) place constant K i r = (i, r)
scalar_follows None place constant K i r = tt

qualified_follows : (w : Word) (place : Part) (constant : Bool) (K : List StmtFrame) → CanDeclare place K → IsRooted K → CanFollow (qualified_word w place constant K)
qualified_follows Const place constant K i r = (i, r)
qualified_follows Volatile place constant K i r = (i, r)
qualified_follows w place constant K i r = scalar_follows (scalar_first w) place constant K i r

words_follow : (kind : TokenKind) (place : Part) (constant : Bool) (K : List StmtFrame) → CanDeclare place K → IsRooted K → CanFollow (qualified_step kind place constant K)
words_follow (WordKind w) place constant K i r = qualified_follows w place constant K i r
words_follow _ place constant K i r = tt

typed_follows : (kind : TokenKind) (pos : Pos) (place : Part) (elem : Elem) (constant : Bool) (K : List StmtFrame) → CanDeclare place K → IsRooted K →
    CanFollow (typed_step kind pos place elem constant K)
typed_follows (NameKind text) pos place elem constant K i r = (i, r)
typed_follows (WordKind Const) pos place elem constant K i r = (i, r)
typed_follows (WordKind Volatile) pos place elem constant K i r = (i, r)
typed_follows _ pos place elem constant K i r = tt

more_follow : (w : Word) (place : Part) (constant : Bool) (s : Scalar) (K : List StmtFrame) → CanDeclare place K → IsRooted K → CanFollow (scalar_word w place constant s K)
more_follow Const place constant s K i r = (i, r)
more_follow Volatile place constant s K i r = (i, r)
more_follow w place constant s K i r = scalar_follows (scalar_more s w) place constant K i r

scalar_step_follows : (kind : TokenKind) (pos : Pos) (place : Part) (constant : Bool) (s : Scalar) (K : List StmtFrame) → CanDeclare place K → IsRooted K →
    CanFollow (scalar_step kind pos place constant s K)
scalar_step_follows (NameKind text) pos place constant s K i r = (i, r)
scalar_step_follows (WordKind w) pos place constant s K i r = more_follow w place constant s K i r
scalar_step_follows _ pos place constant s K i r = tt

name_follows : (kind : TokenKind) (pos : Pos) (place : Part) (elem : Elem) (constant : Bool) (K : List StmtFrame) → CanDeclare place K → IsRooted K →
    CanFollow (name_step kind pos place elem constant K)
name_follows (NameKind text) pos place elem constant K i r = (i, r)
name_follows _ pos place elem constant K i r = tt

declared_follows : (kind : TokenKind) (place : Part) (elem : Elem) (constant : Bool) (s : StmtTree) (K : List StmtFrame) → CanDeclare place K → IsRooted K →
    CanFollow (declared_end kind place elem constant s K)
declared_follows (MarkKind Semicolon) InBlock elem constant s K i r = (item_in s K i, item_rooted s K r)
declared_follows (MarkKind Comma) InBlock elem constant s K i r = (item_in s K i, item_rooted s K r)
declared_follows (MarkKind Semicolon) (InFirst done) elem constant s K i r = (tt, r)
declared_follows (MarkKind Comma) (InFirst done) elem constant s K i r = (tt, r)
declared_follows _ place elem constant s K i r = tt

declare_follows : (kind : TokenKind) (place : Part) (elem : Elem) (constant : Bool) (n : Ident) (K : List StmtFrame) → CanDeclare place K → IsRooted K →
    CanFollow (declared_step kind place elem constant n K)
declare_follows (MarkKind Equal) place elem constant n K i r = (i, r)
declare_follows kind place elem constant n K i r = declared_follows kind place elem constant (DeclareTree elem constant n None) K i r

-- local arrays
local_begins : (o : Option Scalar) (K : List StmtFrame) → IsRooted K → CanFollow (local_read o K)
local_begins (Some s) K r = (tt, r)
local_begins None K r = tt

local_follows : (kind : TokenKind) (K : List StmtFrame) → IsRooted K → CanFollow (local_word kind K)
local_follows (WordKind w) K r = local_begins (scalar_first w) K r
local_follows _ K r = tt

local_scalar_follows : (kind : TokenKind) (pos : Pos) (s : Scalar) (K : List StmtFrame) → IsRooted K → CanFollow (local_scalar kind pos s K)
local_scalar_follows (NameKind text) pos s K r = (tt, r)
local_scalar_follows (WordKind w) pos s K r = local_begins (scalar_more s w) K r
local_scalar_follows _ pos s K r = tt

local_named_follows : (kind : TokenKind) (elem : Elem) (n : Ident) (K : List StmtFrame) → IsRooted K → CanFollow (local_named kind elem n K)
local_named_follows (MarkKind OpenBracket) elem n K r = (tt, r)
local_named_follows _ elem n K r = tt

-- expressions
begun_follows : (purpose : Purpose) (next : ExprNext) (K : List StmtFrame) → CanRead purpose K → IsRooted K → CanFollow (begun purpose next K)
begun_follows purpose (Goes focus inner) K i r = (i, r)
begun_follows purpose (Ends e) K i r = tt
begun_follows purpose Refuses K i r = tt

begin_follows : (kind : TokenKind) (pos : Pos) (purpose : Purpose) (K : List StmtFrame) → CanRead purpose K → IsRooted K → CanFollow (begin_step kind pos purpose K)
begin_follows kind pos purpose K i r = begun_follows purpose (operand_step kind pos []) K i r

-- assignments
assigned_follows : (kind : TokenKind) (place : Part) (s : StmtTree) (K : List StmtFrame) → IsRooted K → CanFollow (assign_end kind place s K)
assigned_follows (MarkKind Semicolon) InBlock s K r = (tt, r)
assigned_follows (MarkKind Semicolon) (InFirst done) s K r = (tt, r)
assigned_follows (MarkKind Comma) (InFirst done) s K r = (tt, r)
assigned_follows (MarkKind CloseParen) (InStep first test done) s K r = (tt, r)
assigned_follows (MarkKind Comma) (InStep first test done) s K r = (tt, r)
assigned_follows _ place s K r = tt

count_start_follows : (o : Option AssignOp) (pos : Pos) (place : Part) (K : List StmtFrame) → IsRooted K → CanFollow (counted_start o pos place K)
count_start_follows (Some op) pos place K r = (tt, r)
count_start_follows None pos place K r = tt

assign_follows : (kind : TokenKind) (pos : Pos) (place : Part) (K : List StmtFrame) → IsRooted K → CanFollow (assign_start kind pos place K)
assign_follows (NameKind text) pos place K r = (tt, r)
assign_follows (MarkKind m) pos place K r = count_start_follows (count_of m) pos place K r
assign_follows _ pos place K r = tt

set_follows : (o : Option AssignOp) (pos : Pos) (place : Part) (target : TargetTree) (K : List StmtFrame) → IsRooted K → CanFollow (set_target o pos place target K)
set_follows (Some op) pos place target K r = (tt, r)
set_follows None pos place target K r = tt

mark_follows : (o : Option AssignOp) (m : Mark) (pos : Pos) (place : Part) (target : TargetTree) (K : List StmtFrame) → IsRooted K → CanFollow (target_mark o m pos place target K)
mark_follows (Some op) m pos place target K r = (tt, r)
mark_follows None m pos place target K r = set_follows (set_of m) pos place target K r

target_follows : (kind : TokenKind) (pos : Pos) (place : Part) (target : TargetTree) (K : List StmtFrame) → IsRooted K → CanFollow (target_step kind pos place target K)
target_follows (MarkKind m) pos place target K r = mark_follows (count_of m) m pos place target K r
target_follows _ pos place target K r = tt

call_follows : (place : Part) (n : Ident) (K : List StmtFrame) → IsRooted K → CanFollow (call_start place n K)
call_follows InBlock n K r = (tt, r)
call_follows (InFirst done) n K r = tt
call_follows (InStep first test done) n K r = tt

named_follows : (kind : TokenKind) (pos : Pos) (place : Part) (n : Ident) (K : List StmtFrame) → IsRooted K → CanFollow (assign_named kind pos place n K)
named_follows (MarkKind OpenBracket) pos place n K r = (tt, r)
named_follows (MarkKind OpenParen) pos place n K r = call_follows place n K r
named_follows kind pos place n K r = target_follows kind pos place (NameTarget n) K r

counted_follows : (kind : TokenKind) (pos : Pos) (place : Part) (op : AssignOp) (at : Pos) (K : List StmtFrame) → IsRooted K → CanFollow (counted_before kind pos place op at K)
counted_follows (NameKind text) pos place op at K r = (tt, r)
counted_follows _ pos place op at K r = tt

counted_named_follows : (kind : TokenKind) (pos : Pos) (place : Part) (op : AssignOp) (at : Pos) (n : Ident) (K : List StmtFrame) → IsRooted K → CanFollow (counted_named kind pos place op at n K)
counted_named_follows (MarkKind OpenBracket) pos place op at n K r = (tt, r)
counted_named_follows kind pos place op at n K r = assigned_follows kind place (AssignTree (NameTarget n) op None at) K r

-- calls, barriers and heads
call_open_follows : (kind : TokenKind) (pos : Pos) (n : Ident) (K : List StmtFrame) → IsRooted K → CanFollow (call_open kind pos n K)
call_open_follows (MarkKind CloseParen) pos n K r = (tt, r)
call_open_follows kind pos n K r = begin_follows kind pos (ArgsOf n NoArgs) K tt r

number_follows : (kind : TokenKind) (at : Pos) (K : List StmtFrame) → IsRooted K → CanFollow (barrier_open kind at K)
number_follows (NumberKind value unsigned) at K r = (tt, r)
number_follows _ at K r = tt

behind_number : (kind : TokenKind) (at : Pos) (K : List StmtFrame) → IsRooted K → CanFollow (barrier_number kind at K)
behind_number (MarkKind Bar) at K r = (tt, r)
behind_number (MarkKind CloseParen) at K r = (tt, r)
behind_number _ at K r = tt

open_follows : (kind : TokenKind) (next : StmtFocus) (K : List StmtFrame) → CanStand next K → IsRooted K → CanFollow (open_step kind next K)
open_follows (MarkKind OpenParen) next K i r = (i, r)
open_follows _ next K i r = tt

ending_follows : (kind : TokenKind) (s : StmtTree) (K : List StmtFrame) → IsRooted K → CanFollow (ending_step kind s K)
ending_follows (MarkKind Semicolon) s K r = (tt, r)
ending_follows _ s K r = tt

first_follows : (kind : TokenKind) (pos : Pos) (K : List StmtFrame) → IsRooted K → CanFollow (first_start kind pos K)
first_follows (MarkKind Semicolon) pos K r = (tt, r)
first_follows (WordKind w) pos K r = qualified_follows w (InFirst NoStmts) false K tt r
first_follows kind pos K r = assign_follows kind pos (InFirst NoStmts) K r

test_follows : (kind : TokenKind) (pos : Pos) (first : StmtTrees) (K : List StmtFrame) → IsRooted K → CanFollow (test_start kind pos first K)
test_follows (MarkKind Semicolon) pos first K r = (tt, r)
test_follows kind pos first K r = begin_follows kind pos (ForTest first) K tt r

step_follows : (kind : TokenKind) (pos : Pos) (first : StmtTrees) (test : Option ExprTree) (K : List StmtFrame) → IsRooted K → CanFollow (step_start kind pos first test K)
step_follows (MarkKind CloseParen) pos first test K r = (tt, r)
step_follows kind pos first test K r = assign_follows kind pos (InStep first test NoStmts) K r

return_follows : (kind : TokenKind) (pos at : Pos) (K : List StmtFrame) → IsRooted K → CanFollow (returning_step kind pos at K)
return_follows (MarkKind Semicolon) pos at K r = (tt, r)
return_follows kind pos at K r = begin_follows kind pos (ReturnOf at) K tt r

-- the token behind a whole expression
count_ends : (kind : TokenKind) (elem : Elem) (n : Ident) (e : ExprTree) (K : List StmtFrame) → IsRooted K → CanFollow (end_count kind elem n e K)
count_ends (MarkKind CloseBracket) elem n e K r = (tt, r)
count_ends _ elem n e K r = tt

index_ends : (kind : TokenKind) (place : Part) (n : Ident) (at : Pos) (e : ExprTree) (K : List StmtFrame) → IsRooted K → CanFollow (end_index kind place n at e K)
index_ends (MarkKind CloseBracket) place n at e K r = (tt, r)
index_ends _ place n at e K r = tt

counted_ends : (kind : TokenKind) (place : Part) (op : AssignOp) (pos : Pos) (n : Ident) (at : Pos) (e : ExprTree) (K : List StmtFrame) → IsRooted K →
    CanFollow (end_counted kind place op pos n at e K)
counted_ends (MarkKind CloseBracket) place op pos n at e K r = (tt, r)
counted_ends _ place op pos n at e K r = tt

args_end : (kind : TokenKind) (n : Ident) (args : ArgTrees) (e : ExprTree) (K : List StmtFrame) → IsRooted K → CanFollow (end_args kind n args e K)
args_end (MarkKind Comma) n args e K r = (tt, r)
args_end (MarkKind CloseParen) n args e K r = (tt, r)
args_end _ n args e K r = tt

close_follows : (kind : TokenKind) (next : StmtFocus) (K : List StmtFrame) → CanStand next K → IsRooted K → CanFollow (close_with kind next K)
close_follows (MarkKind CloseParen) next K i r = (i, r)
close_follows _ next K i r = tt

test_ends : (kind : TokenKind) (first : StmtTrees) (e : ExprTree) (K : List StmtFrame) → IsRooted K → CanFollow (end_test kind first e K)
test_ends (MarkKind Semicolon) first e K r = (tt, r)
test_ends _ first e K r = tt

end_follows : (kind : TokenKind) (purpose : Purpose) (e : ExprTree) (K : List StmtFrame) → CanRead purpose K → IsRooted K → CanFollow (end_step kind purpose e K)
end_follows kind (InitOf place elem constant n) e K i r = declared_follows kind place elem constant (DeclareTree elem constant n (Some e)) K i r
end_follows kind (CountOf elem n) e K i r = count_ends kind elem n e K r
end_follows kind (IndexOf place n at) e K i r = index_ends kind place n at e K r
end_follows kind (CountedIndexOf place op pos n at) e K i r = counted_ends kind place op pos n at e K r
end_follows kind (ValueOf place target op pos) e K i r = assigned_follows kind place (AssignTree target op (Some e) pos) K r
end_follows kind (ArgsOf n args) e K i r = args_end kind n args e K r
end_follows kind IfTest e K i r = close_follows kind BodyStart (ThenFrame e ∷ K) tt r
end_follows kind WhileTest e K i r = close_follows kind BodyStart (WhileFrame e ∷ K) tt r
end_follows kind (DoTest body) e K i r = close_follows kind (Ending (DoTree body e)) K tt r
end_follows kind (ForTest first) e K i r = test_ends kind first e K r
end_follows kind (ReturnOf at) e K i r = ending_follows kind (ReturnTree (Some e) at) K r

reading_follows : (kind : TokenKind) (purpose : Purpose) (next : ExprNext) (K : List StmtFrame) → CanRead purpose K → IsRooted K → CanFollow (reading_step kind purpose next K)
reading_follows kind purpose (Goes focus inner) K i r = (i, r)
reading_follows kind purpose (Ends e) K i r = end_follows kind purpose e K i r
reading_follows kind purpose Refuses K i r = tt

-- the first token of a statement, and of an item
body_word_follows : (w : Word) (pos : Pos) (K : List StmtFrame) → IsRooted K → CanFollow (body_word w pos K)
body_word_follows If pos K r = (tt, r)
body_word_follows While pos K r = (tt, r)
body_word_follows For pos K r = (tt, r)
body_word_follows Do pos K r = (tt, r)
body_word_follows Barrier pos K r = (tt, r)
body_word_follows Break pos K r = (tt, r)
body_word_follows Continue pos K r = (tt, r)
body_word_follows Return pos K r = (tt, r)
body_word_follows _ pos K r = tt

body_mark_follows : (m : Mark) (pos : Pos) (K : List StmtFrame) → IsRooted K → CanFollow (body_mark m pos K)
body_mark_follows Semicolon pos K r = (tt, r)
body_mark_follows OpenBrace pos K r = (tt, inner_rooted NoStmts K r)
body_mark_follows m pos K r = count_start_follows (count_of m) pos InBlock K r

body_follows : (kind : TokenKind) (pos : Pos) (K : List StmtFrame) → IsRooted K → CanFollow (body_step kind pos K)
body_follows (NameKind text) pos K r = (tt, r)
body_follows (WordKind w) pos K r = body_word_follows w pos K r
body_follows (MarkKind m) pos K r = body_mark_follows m pos K r
body_follows _ pos K r = tt

block_follows : (K : List StmtFrame) → IsRooted K → CanFollow (close_block K)
block_follows [] r = tt
block_follows (BlockFrame items ∷ []) r = subst CanFollow (sym (no_frames items)) tt
block_follows (BlockFrame items ∷ f ∷ K) r = subst CanFollow (sym (more_frames items f K)) (tt, r)
block_follows (_ ∷ K) r = tt

item_scalar_follows : (o : Option Scalar) (w : Word) (pos : Pos) (K : List StmtFrame) → IsInBlock K → IsRooted K → CanFollow (item_scalar o w pos K)
item_scalar_follows (Some s) w pos K i r = (i, r)
item_scalar_follows None w pos K i r = body_word_follows w pos K r

item_word_follows : (w : Word) (pos : Pos) (K : List StmtFrame) → IsInBlock K → IsRooted K → CanFollow (item_word w pos K)
item_word_follows Const pos K i r = (i, r)
item_word_follows Volatile pos K i r = (i, r)
item_word_follows UnderscoreLocal pos K i r = (tt, r)
item_word_follows Local pos K i r = (tt, r)
item_word_follows w pos K i r = item_scalar_follows (scalar_first w) w pos K i r

item_follows : (kind : TokenKind) (pos : Pos) (K : List StmtFrame) → IsInBlock K → IsRooted K → CanFollow (item_step kind pos K)
item_follows (MarkKind CloseBrace) pos K i r = block_follows K r
item_follows (WordKind w) pos K i r = item_word_follows w pos K i r
item_follows kind pos K i r = body_follows kind pos K r

-- a whole statement
by_end : (b : Bool) (s : StmtTree) (f : StmtFrame) (K : List StmtFrame) (c : Bool) → IsRooted (f ∷ K) → (c ≡ true → IsRooted (finished b (completed f s) K).frames) →
    ends_with b f ≡ c → IsRooted (cond c (finished b (completed f s) K) (placed s (f ∷ K))).frames
by_end b s f K true r further h = further refl
by_end b s f K false r further h = r

ended_rooted : (b : Bool) (f : StmtFrame) (K : List StmtFrame) → ends_with b f ≡ true → IsRooted (f ∷ K) → IsRooted K
ended_rooted b (ThenFrame test) K h r = r
ended_rooted b (ElseFrame test body) K h r = r
ended_rooted b (WhileFrame test) K h r = r
ended_rooted b (ForFrame first test step) K h r = r
ended_rooted b DoFrame K h r = r
ended_rooted b (BlockFrame items) K h r = absurd (true≢false (sym h))

finished_rooted : (b : Bool) (s : StmtTree) (K : List StmtFrame) → IsRooted K → IsRooted (finished b s K).frames
finished_rooted b s [] r = r
finished_rooted b s (f ∷ K) r =
    by_end b s f K (ends_with b f) r (λ h. finished_rooted b (completed f s) K (ended_rooted b f K h r)) refl

else_follows : (b : Bool) (test : ExprTree) (s : StmtTree) (K : List StmtFrame) → IsRooted K → CanFollow (else_step b test s K)
else_follows true test s K r = (tt, r)
else_follows false test s K r = tt

while_follows : (kind : TokenKind) (s : StmtTree) (K : List StmtFrame) → IsRooted K → CanFollow (while_step kind s K)
while_follows (WordKind While) s K r = (tt, r)
while_follows _ s K r = tt

placed_follows : (kind : TokenKind) (pos : Pos) (s : StmtTree) (K : List StmtFrame) → IsRooted K → CanFollow (placed_step kind pos s K)
placed_follows kind pos s (ThenFrame test ∷ K) r = else_follows (is_else kind) test s K r
placed_follows kind pos s (DoFrame ∷ K) r = while_follows kind s K r
placed_follows kind pos s (BlockFrame items ∷ K) r = item_follows kind pos (BlockFrame (and_stmt items s) ∷ K) tt (block_rooted items (and_stmt items s) K r)
placed_follows kind pos s _ r = tt

whole_follows : (kind : TokenKind) (pos : Pos) (s : StmtTree) (K : List StmtFrame) → IsRooted K → CanFollow (finished_step kind pos (finished (is_else kind) s K))
whole_follows kind pos s K r =
    placed_follows kind pos (finished (is_else kind) s K).tree (finished (is_else kind) s K).frames (finished_rooted (is_else kind) s K r)

-- one token of a function's body
pub stmt_follows : (kind : TokenKind) (pos : Pos) (focus : StmtFocus) (K : List StmtFrame) → CanStand focus K → IsRooted K → CanFollow (stmt_step kind pos focus K)
stmt_follows kind pos ItemStart K i r = item_follows kind pos K i r
stmt_follows kind pos BodyStart K i r = body_follows kind pos K r
stmt_follows kind pos (Finished s) K i r = whole_follows kind pos s K r
stmt_follows kind pos (Ending s) K i r = ending_follows kind s K r
stmt_follows kind pos (Reading purpose focus inner) K i r = reading_follows kind purpose (expr_step kind pos focus inner) K i r
stmt_follows kind pos IfWord K i r = open_follows kind (Reading IfTest Operand []) K tt r
stmt_follows kind pos WhileWord K i r = open_follows kind (Reading WhileTest Operand []) K tt r
stmt_follows kind pos ForWord K i r = open_follows kind FirstStart K tt r
stmt_follows kind pos (DoWhile body) K i r = open_follows kind (Reading (DoTest body) Operand []) K tt r
stmt_follows kind pos (BarrierWord at) K i r = open_follows kind (BarrierOpen at) K tt r
stmt_follows kind pos (BarrierOpen at) K i r = number_follows kind at K r
stmt_follows kind pos (BarrierNumber at) K i r = behind_number kind at K r
stmt_follows kind pos (QualifiersRead place constant) K i r = words_follow kind place constant K i r
stmt_follows kind pos (ScalarRead place constant s) K i r = scalar_step_follows kind pos place constant s K i r
stmt_follows kind pos (TypeRead place elem constant) K i r = typed_follows kind pos place elem constant K i r
stmt_follows kind pos (NameNext place elem constant) K i r = name_follows kind pos place elem constant K i r
stmt_follows kind pos (Declared place elem constant n) K i r = declare_follows kind place elem constant n K i r
stmt_follows kind pos LocalWord K i r = local_follows kind K r
stmt_follows kind pos (LocalScalar s) K i r = local_scalar_follows kind pos s K r
stmt_follows kind pos (LocalNamed elem n) K i r = local_named_follows kind elem n K r
stmt_follows kind pos (AssignNext place) K i r = assign_follows kind pos place K r
stmt_follows kind pos (AssignNamed place n) K i r = named_follows kind pos place n K r
stmt_follows kind pos (CountedBefore place op at) K i r = counted_follows kind pos place op at K r
stmt_follows kind pos (CountedNamed place op at n) K i r = counted_named_follows kind pos place op at n K r
stmt_follows kind pos (Targeted place target) K i r = target_follows kind pos place target K r
stmt_follows kind pos (Assigned place s) K i r = assigned_follows kind place s K r
stmt_follows kind pos (CallOpen n) K i r = call_open_follows kind pos n K r
stmt_follows kind pos FirstStart K i r = first_follows kind pos K r
stmt_follows kind pos (TestStart first) K i r = test_follows kind pos first K r
stmt_follows kind pos (StepStart first test) K i r = step_follows kind pos first test K r
stmt_follows kind pos (Returning at) K i r = return_follows kind pos at K r
