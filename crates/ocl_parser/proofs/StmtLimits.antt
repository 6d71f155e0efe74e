-- The limits of statements, over each token.
use Rattle.std.proofs.Common.{◌≡◌, ◌≤◌, refl, sym, subst, arith, Bool, true, false, cond, List, [], ◌∷◌, Option, Some, None}
use Rattle.vx_base.specs.declared.types.Elem.{Elem}
use Rattle.vx_base.specs.declared.types.Pos.{Pos}
use Rattle.ocl_ast.specs.declared.exprs.Ident.{Ident}
use Rattle.ocl_ast.specs.declared.stmts.AssignOp.{AssignOp}
use Rattle.ocl_ast.specs.Measures.{levels}
use Rattle.ocl_ast.specs.Trees.{ExprTree, ArgTrees, NoArgs, TargetTree, NameTarget, IndexTarget, StmtTree, DeclareTree, AssignTree, DoTree, ReturnTree, StmtTrees, NoStmts}
use Rattle.ocl_tokens.specs.declared.marks.Mark.{Mark}
use Rattle.ocl_tokens.specs.declared.marks.Mark.TheVariants.{OpenParen, CloseParen, OpenBrace, CloseBrace, OpenBracket, CloseBracket, Semicolon, Comma, Bar, Equal}
use Rattle.ocl_tokens.specs.declared.tokens.TokenKind.{TokenKind}
use Rattle.ocl_tokens.specs.declared.tokens.TokenKind.TheVariants.{Name as NameKind, Word as WordKind, Number as NumberKind, Mark as MarkKind}
use Rattle.ocl_tokens.specs.declared.words.Word.{Word}
use Rattle.ocl_tokens.specs.declared.words.Word.TheVariants.{UnderscoreLocal, Local, Const, Volatile, If, While, Do, For, Break, Continue, Return, Barrier}
use Rattle.ocl_parser.specs.declared.scalars.Scalar.{Scalar}
use Rattle.ocl_parser.specs.ScalarSteps.{scalar_first, scalar_more}
use Rattle.ocl_parser.specs.Limits.{IsLowExpr, AreLowArgs, IsLowTarget, IsLow}
use Rattle.ocl_parser.specs.ExprSteps.{ExprNext, Goes, Ends, Refuses, and_arg, operand_step, expr_step}
use Rattle.ocl_parser.specs.StmtSteps.{GoesOn, and_stmt, set_of, count_of, scalar_read, qualified_word, qualified_step, typed_step, scalar_word, scalar_step, name_step, and_item, declared_end, declared_step, local_read, local_word, local_scalar, local_named, begun, begin_step, assign_end, counted_start, assign_start, set_target, target_mark, target_step, call_start, assign_named, counted_before, counted_named, call_open, barrier_open, barrier_number, open_step, ending_step, first_start, test_start, step_start, returning_step, end_count, end_index, end_counted, end_args, close_with, end_test, end_step, reading_step, body_word, body_mark, body_step, close_block, item_scalar, item_word, item_step, Placed, placed, ends_with, completed, finished, is_else, else_step, while_step, placed_step, finished_step, stmt_step}
use Rattle.ocl_parser.specs.declared.states.ExprFocus.TheVariants.{Operand}
use Rattle.ocl_parser.specs.declared.states.Part.{Part}
use Rattle.ocl_parser.specs.declared.states.Part.TheVariants.{InBlock, InFirst, InStep}
use Rattle.ocl_parser.specs.declared.states.Purpose.{Purpose}
use Rattle.ocl_parser.specs.declared.states.Purpose.TheVariants.{InitOf, CountOf, IndexOf, CountedIndexOf, ValueOf, ArgsOf, IfTest, WhileTest, DoTest, ForTest, ReturnOf}
use Rattle.ocl_parser.specs.declared.states.StmtFocus.{StmtFocus}
use Rattle.ocl_parser.specs.declared.states.StmtFocus.TheVariants.{ItemStart, BodyStart, Finished, Ending, Reading, IfWord, WhileWord, ForWord, DoWhile, BarrierWord, BarrierOpen, BarrierNumber, QualifiersRead, ScalarRead, TypeRead, NameNext, Declared, LocalWord, LocalScalar, LocalNamed, AssignNext, AssignNamed, CountedBefore, CountedNamed, Targeted, Assigned, CallOpen, FirstStart, TestStart, StepStart, Returning}
use Rattle.ocl_parser.specs.declared.states.StmtFrame.{StmtFrame}
use Rattle.ocl_parser.specs.declared.states.StmtFrame.TheVariants.{Block as BlockFrame, Then as ThenFrame, Else as ElseFrame, While as WhileFrame, Do as DoFrame, For as ForFrame}
use Rattle.ocl_parser.proofs.Closing.{IsInBlock, CanDeclare, CanRead, CanStand, no_frames, more_frames}
use Rattle.ocl_parser.proofs.ExprLimits.{first_keeps, expr_keeps}
use Rattle.ocl_parser.proofs.FitLaws.{a_level, block_fits, items_fit, first_fits, plain_fits, for_body, for_begins, head_begins, args_low, completed_fits, body_fits, inner_fits, value_fits}
use Rattle.ocl_parser.proofs.Fits.{ExprFits, ExprKeeps, SimpleFits, HeadFits, WholeFits, DoFits, ForFits, PartFits, AssignedFits, PurposeFits, StmtFits, StmtKeeps, Both, Keeps, same, refused, alike, through}

-- one item more in the innermost block
item_fits : (s : StmtTree) (K : List StmtFrame) → levels 1 s ≡ 1 → IsInBlock K → Both (SimpleFits K × IsLow s) (SimpleFits (and_item s K))
item_fits s [] e i = absurd i
item_fits s (BlockFrame items ∷ K) e i = block_fits items s K e
item_fits s (ThenFrame test ∷ K) e i = absurd i
item_fits s (ElseFrame test one ∷ K) e i = absurd i
item_fits s (WhileFrame test ∷ K) e i = absurd i
item_fits s (DoFrame ∷ K) e i = absurd i
item_fits s (ForFrame first test step ∷ K) e i = absurd i

-- declarations
scalar_keeps : (o : Option Scalar) (place : Part) (constant : Bool) (K : List StmtFrame) → StmtKeeps (PartFits place K) (scalar_read o place constant K)
scalar_keeps (Some s) place constant K = same
scalar_keeps None place constant K = refused

qualified_keeps : (w : Word) (place : Part) (constant : Bool) (K : List StmtFrame) → StmtKeeps (PartFits place K) (qualified_word w place constant K)
qualified_keeps Const place constant K = same
qualified_keeps Volatile place constant K = same
qualified_keeps w place constant K = scalar_keeps (scalar_first w) place constant K

words_keep : (kind : TokenKind) (place : Part) (constant : Bool) (K : List StmtFrame) → StmtKeeps (PartFits place K) (qualified_step kind place constant K)
words_keep (WordKind w) place constant K = qualified_keeps w place constant K
words_keep _ place constant K = refused

typed_keeps : (kind : TokenKind) (pos : Pos) (place : Part) (elem : Elem) (constant : Bool) (K : List StmtFrame) →
    StmtKeeps (PartFits place K) (typed_step kind pos place elem constant K)
typed_keeps (NameKind text) pos place elem constant K = same
typed_keeps (WordKind Const) pos place elem constant K = same
typed_keeps (WordKind Volatile) pos place elem constant K = same
typed_keeps _ pos place elem constant K = refused

more_keep : (w : Word) (place : Part) (constant : Bool) (s : Scalar) (K : List StmtFrame) → StmtKeeps (PartFits place K) (scalar_word w place constant s K)
more_keep Const place constant s K = same
more_keep Volatile place constant s K = same
more_keep w place constant s K = scalar_keeps (scalar_more s w) place constant K

scalar_step_keeps : (kind : TokenKind) (pos : Pos) (place : Part) (constant : Bool) (s : Scalar) (K : List StmtFrame) →
    StmtKeeps (PartFits place K) (scalar_step kind pos place constant s K)
scalar_step_keeps (NameKind text) pos place constant s K = same
scalar_step_keeps (WordKind w) pos place constant s K = more_keep w place constant s K
scalar_step_keeps _ pos place constant s K = refused

name_keeps : (kind : TokenKind) (pos : Pos) (place : Part) (elem : Elem) (constant : Bool) (K : List StmtFrame) →
    StmtKeeps (PartFits place K) (name_step kind pos place elem constant K)
name_keeps (NameKind text) pos place elem constant K = same
name_keeps _ pos place elem constant K = refused

declared_keeps : (kind : TokenKind) (place : Part) (elem : Elem) (constant : Bool) (s : StmtTree) (K : List StmtFrame) → CanDeclare place K → levels 1 s ≡ 1 →
    StmtKeeps (PartFits place K × IsLow s) (declared_end kind place elem constant s K)
declared_keeps (MarkKind Semicolon) InBlock elem constant s K i e = alike (item_fits s K e i)
declared_keeps (MarkKind Comma) InBlock elem constant s K i e = alike (item_fits s K e i)
declared_keeps (MarkKind Semicolon) (InFirst done) elem constant s K i e = alike (first_fits done s K e)
declared_keeps (MarkKind Comma) (InFirst done) elem constant s K i e = alike (first_fits done s K e)
declared_keeps _ place elem constant s K i e = refused

-- the first token of an expression
begun_keeps : (purpose : Purpose) (next : ExprNext) (K : List StmtFrame) → ExprKeeps (ExprFits Operand []) next → StmtKeeps (PurposeFits purpose K) (begun purpose next K)
begun_keeps purpose (Goes focus inner) K k = (λ x. x.0, λ x r. (x, k.1 (omega arith, tt) r.1))
begun_keeps purpose (Ends e) K k = refused
begun_keeps purpose Refuses K k = refused

begin_keeps : (kind : TokenKind) (pos : Pos) (purpose : Purpose) (K : List StmtFrame) → StmtKeeps (PurposeFits purpose K) (begin_step kind pos purpose K)
begin_keeps kind pos purpose K = begun_keeps purpose (operand_step kind pos []) K (first_keeps kind pos)

-- an expression begins before its first token
opens : {A R : Type 0} → Keeps A R (A × ExprFits Operand [])
opens = (λ x. x.0, λ x r. (x, (omega arith, tt)))

declare_keeps : (kind : TokenKind) (place : Part) (elem : Elem) (constant : Bool) (n : Ident) (K : List StmtFrame) → CanDeclare place K →
    StmtKeeps (PartFits place K) (declared_step kind place elem constant n K)
declare_keeps (MarkKind Equal) place elem constant n K i = opens
declare_keeps kind place elem constant n K i =
    through (λ x. (x, tt), λ x. x.0) (declared_keeps kind place elem constant (DeclareTree elem constant n None) K i refl)

-- a local array
local_begins : (o : Option Scalar) (K : List StmtFrame) → StmtKeeps (SimpleFits K) (local_read o K)
local_begins (Some s) K = same
local_begins None K = refused

local_keeps : (kind : TokenKind) (K : List StmtFrame) → StmtKeeps (SimpleFits K) (local_word kind K)
local_keeps (WordKind w) K = local_begins (scalar_first w) K
local_keeps _ K = refused

local_scalar_keeps : (kind : TokenKind) (pos : Pos) (s : Scalar) (K : List StmtFrame) → StmtKeeps (SimpleFits K) (local_scalar kind pos s K)
local_scalar_keeps (NameKind text) pos s K = same
local_scalar_keeps (WordKind w) pos s K = local_begins (scalar_more s w) K
local_scalar_keeps _ pos s K = refused

local_named_keeps : (kind : TokenKind) (elem : Elem) (n : Ident) (K : List StmtFrame) → StmtKeeps (SimpleFits K) (local_named kind elem n K)
local_named_keeps (MarkKind OpenBracket) elem n K = opens
local_named_keeps _ elem n K = refused

-- assignments
assigned_keeps : (kind : TokenKind) (place : Part) (s : StmtTree) (K : List StmtFrame) → StmtKeeps (AssignedFits place s K) (assign_end kind place s K)
assigned_keeps (MarkKind Semicolon) InBlock s K = same
assigned_keeps (MarkKind Semicolon) (InFirst done) s K = same
assigned_keeps (MarkKind Comma) (InFirst done) s K = same
assigned_keeps (MarkKind CloseParen) (InStep first test done) s K = alike (for_body first test (and_stmt done s) K)
assigned_keeps (MarkKind Comma) (InStep first test done) s K = same
assigned_keeps _ place s K = refused

count_start_keeps : (o : Option AssignOp) (pos : Pos) (place : Part) (K : List StmtFrame) → StmtKeeps (PartFits place K) (counted_start o pos place K)
count_start_keeps (Some op) pos place K = same
count_start_keeps None pos place K = refused

assign_keeps : (kind : TokenKind) (pos : Pos) (place : Part) (K : List StmtFrame) → StmtKeeps (PartFits place K) (assign_start kind pos place K)
assign_keeps (NameKind text) pos place K = same
assign_keeps (MarkKind m) pos place K = count_start_keeps (count_of m) pos place K
assign_keeps _ pos place K = refused

set_keeps : (o : Option AssignOp) (pos : Pos) (place : Part) (target : TargetTree) (K : List StmtFrame) →
    StmtKeeps (PartFits place K × IsLowTarget target) (set_target o pos place target K)
set_keeps (Some op) pos place target K = opens
set_keeps None pos place target K = refused

mark_keeps : (o : Option AssignOp) (m : Mark) (pos : Pos) (place : Part) (target : TargetTree) (K : List StmtFrame) →
    StmtKeeps (PartFits place K × IsLowTarget target) (target_mark o m pos place target K)
mark_keeps (Some op) m pos place target K = alike (plain_fits place target op pos K)
mark_keeps None m pos place target K = set_keeps (set_of m) pos place target K

target_keeps : (kind : TokenKind) (pos : Pos) (place : Part) (target : TargetTree) (K : List StmtFrame) →
    StmtKeeps (PartFits place K × IsLowTarget target) (target_step kind pos place target K)
target_keeps (MarkKind m) pos place target K = mark_keeps (count_of m) m pos place target K
target_keeps _ pos place target K = refused

call_keeps : (place : Part) (n : Ident) (K : List StmtFrame) → StmtKeeps (PartFits place K) (call_start place n K)
call_keeps InBlock n K = same
call_keeps (InFirst done) n K = refused
call_keeps (InStep first test done) n K = refused

named_keeps : (kind : TokenKind) (pos : Pos) (place : Part) (n : Ident) (K : List StmtFrame) → StmtKeeps (PartFits place K) (assign_named kind pos place n K)
named_keeps (MarkKind OpenBracket) pos place n K = opens
named_keeps (MarkKind OpenParen) pos place n K = call_keeps place n K
named_keeps kind pos place n K = through (λ x. (x, tt), λ x. x.0) (target_keeps kind pos place (NameTarget n) K)

counted_keeps : (kind : TokenKind) (pos : Pos) (place : Part) (op : AssignOp) (at : Pos) (K : List StmtFrame) → StmtKeeps (PartFits place K) (counted_before kind pos place op at K)
counted_keeps (NameKind text) pos place op at K = same
counted_keeps _ pos place op at K = refused

counted_named_keeps : (kind : TokenKind) (pos : Pos) (place : Part) (op : AssignOp) (at : Pos) (n : Ident) (K : List StmtFrame) →
    StmtKeeps (PartFits place K) (counted_named kind pos place op at n K)
counted_named_keeps (MarkKind OpenBracket) pos place op at n K = opens
counted_named_keeps kind pos place op at n K =
    through (λ x. (plain_fits place (NameTarget n) op at K).0 (x, tt), λ x. ((plain_fits place (NameTarget n) op at K).1 x).0)
    (assigned_keeps kind place (AssignTree (NameTarget n) op None at) K)

-- calls, barriers and heads
call_open_keeps : (kind : TokenKind) (pos : Pos) (n : Ident) (K : List StmtFrame) → StmtKeeps (SimpleFits K) (call_open kind pos n K)
call_open_keeps (MarkKind CloseParen) pos n K = (λ x. (x.0, x.2), λ x r. (x.0, omega arith, x.1))
call_open_keeps kind pos n K = through (λ x. (x, omega arith), λ x. x.0) (begin_keeps kind pos (ArgsOf n NoArgs) K)

number_keeps : (kind : TokenKind) (at : Pos) (K : List StmtFrame) → StmtKeeps (SimpleFits K) (barrier_open kind at K)
number_keeps (NumberKind value unsigned) at K = same
number_keeps _ at K = refused

behind_number : (kind : TokenKind) (at : Pos) (K : List StmtFrame) → StmtKeeps (SimpleFits K) (barrier_number kind at K)
behind_number (MarkKind Bar) at K = same
behind_number (MarkKind CloseParen) at K = (λ x. (x.0, x.2), λ x r. (x.0, tt, x.1))
behind_number _ at K = refused

open_keeps : (A : Type 0) (kind : TokenKind) (next : StmtFocus) (K : List StmtFrame) → StmtKeeps A (GoesOn next K) → StmtKeeps A (open_step kind next K)
open_keeps A (MarkKind OpenParen) next K k = k
open_keeps A _ next K k = refused

ending_keeps : (kind : TokenKind) (s : StmtTree) (K : List StmtFrame) → StmtKeeps (WholeFits s K) (ending_step kind s K)
ending_keeps (MarkKind Semicolon) s K = same
ending_keeps _ s K = refused

first_keep : (kind : TokenKind) (pos : Pos) (K : List StmtFrame) → StmtKeeps (HeadFits K) (first_start kind pos K)
first_keep (MarkKind Semicolon) pos K = alike (head_begins K)
first_keep (WordKind w) pos K = through (head_begins K) (qualified_keeps w (InFirst NoStmts) false K)
first_keep kind pos K = through (head_begins K) (assign_keeps kind pos (InFirst NoStmts) K)

test_keeps : (kind : TokenKind) (pos : Pos) (first : StmtTrees) (K : List StmtFrame) → StmtKeeps (PartFits (InFirst first) K) (test_start kind pos first K)
test_keeps (MarkKind Semicolon) pos first K = (λ x. (x.0, x.1, x.3), λ x r. (x.0, x.1, tt, x.2))
test_keeps kind pos first K = begin_keeps kind pos (ForTest first) K

step_keeps : (kind : TokenKind) (pos : Pos) (first : StmtTrees) (test : Option ExprTree) (K : List StmtFrame) → StmtKeeps (ForFits first test K) (step_start kind pos first test K)
step_keeps (MarkKind CloseParen) pos first test K = through (for_begins first test K) (alike (for_body first test NoStmts K))
step_keeps kind pos first test K = through (for_begins first test K) (assign_keeps kind pos (InStep first test NoStmts) K)

return_keeps : (kind : TokenKind) (pos at : Pos) (K : List StmtFrame) → StmtKeeps (SimpleFits K) (returning_step kind pos at K)
return_keeps (MarkKind Semicolon) pos at K = (λ x. (x.0, x.2), λ x r. (x.0, tt, x.1))
return_keeps kind pos at K = begin_keeps kind pos (ReturnOf at) K

-- the token behind a whole expression
count_ends : (kind : TokenKind) (elem : Elem) (n : Ident) (e : ExprTree) (K : List StmtFrame) → StmtKeeps (SimpleFits K × IsLowExpr e) (end_count kind elem n e K)
count_ends (MarkKind CloseBracket) elem n e K = (λ x. ((x.0, x.2), x.1), λ x r. (x.0.0, x.1, x.0.1))
count_ends _ elem n e K = refused

index_ends : (kind : TokenKind) (place : Part) (n : Ident) (at : Pos) (e : ExprTree) (K : List StmtFrame) →
    StmtKeeps (PartFits place K × IsLowExpr e) (end_index kind place n at e K)
index_ends (MarkKind CloseBracket) place n at e K = same
index_ends _ place n at e K = refused

counted_ends : (kind : TokenKind) (place : Part) (op : AssignOp) (pos : Pos) (n : Ident) (at : Pos) (e : ExprTree) (K : List StmtFrame) →
    StmtKeeps (PartFits place K × IsLowExpr e) (end_counted kind place op pos n at e K)
counted_ends (MarkKind CloseBracket) place op pos n at e K = alike (plain_fits place (IndexTarget n e at) op pos K)
counted_ends _ place op pos n at e K = refused

args_end : (kind : TokenKind) (n : Ident) (args : ArgTrees) (e : ExprTree) (K : List StmtFrame) →
    StmtKeeps ((SimpleFits K × AreLowArgs args) × IsLowExpr e) (end_args kind n args e K)
args_end (MarkKind Comma) n args e K =
    let h : Both (AreLowArgs args × IsLowExpr e) (AreLowArgs (and_arg args e)) = args_low args e in (
      λ x. let y : AreLowArgs args × IsLowExpr e = h.1 x.0.1 in ((x.0.0, y.0), y.1),
      λ x r. ((x.0.0, h.0 (x.0.1, x.1)), (omega arith, tt)),
    )
args_end (MarkKind CloseParen) n args e K =
    let h : Both (AreLowArgs args × IsLowExpr e) (AreLowArgs (and_arg args e)) = args_low args e in (
      λ x. let y : AreLowArgs args × IsLowExpr e = h.1 x.1 in (((x.0, x.2), y.0), y.1),
      λ x r. (x.0.0.0, h.0 (x.0.1, x.1), x.0.0.1),
    )
args_end _ n args e K = refused

close_keeps : (A : Type 0) (kind : TokenKind) (next : StmtFocus) (K : List StmtFrame) → StmtKeeps A (GoesOn next K) → StmtKeeps A (close_with kind next K)
close_keeps A (MarkKind CloseParen) next K k = k
close_keeps A _ next K k = refused

test_ends : (kind : TokenKind) (first : StmtTrees) (e : ExprTree) (K : List StmtFrame) → StmtKeeps (PartFits (InFirst first) K × IsLowExpr e) (end_test kind first e K)
test_ends (MarkKind Semicolon) first e K = (λ x. ((x.0, x.1, x.3), x.2), λ x r. (x.0.0, x.0.1, x.1, x.0.2))
test_ends _ first e K = refused

end_keeps : (kind : TokenKind) (purpose : Purpose) (e : ExprTree) (K : List StmtFrame) → CanRead purpose K →
    StmtKeeps (PurposeFits purpose K × IsLowExpr e) (end_step kind purpose e K)
end_keeps kind (InitOf place elem constant n) e K i = declared_keeps kind place elem constant (DeclareTree elem constant n (Some e)) K i refl
end_keeps kind (CountOf elem n) e K i = count_ends kind elem n e K
end_keeps kind (IndexOf place n at) e K i = index_ends kind place n at e K
end_keeps kind (CountedIndexOf place op pos n at) e K i = counted_ends kind place op pos n at e K
end_keeps kind (ValueOf place target op pos) e K i = through (value_fits place target op pos e K) (assigned_keeps kind place (AssignTree target op (Some e) pos) K)
end_keeps kind (ArgsOf n args) e K i = args_end kind n args e K
end_keeps kind IfTest e K i =
    close_keeps (HeadFits K × IsLowExpr e) kind BodyStart (ThenFrame e ∷ K)
    (λ x. ((omega (arith, x.0), x.1.1), x.1.0), λ x r. (omega (arith, x.0.0), (x.1, x.0.1)))
end_keeps kind WhileTest e K i =
    close_keeps (HeadFits K × IsLowExpr e) kind BodyStart (WhileFrame e ∷ K)
    (λ x. ((omega (arith, x.0), x.1.1), x.1.0), λ x r. (omega (arith, x.0.0), (x.1, x.0.1)))
end_keeps kind (DoTest body) e K i =
    close_keeps (DoFits body K × IsLowExpr e) kind (Ending (DoTree body e)) K
    (λ x. ((x.0, x.1.0, x.2), x.1.1), λ x r. (x.0.0, (x.0.1, x.1), x.0.2))
end_keeps kind (ForTest first) e K i = test_ends kind first e K
end_keeps kind (ReturnOf at) e K i =
    through (λ x. (x.0.0, x.1, x.0.1), λ x. ((x.0, x.2), x.1)) (ending_keeps kind (ReturnTree (Some e) at) K)

reading_keeps : (A : Type 0) (kind : TokenKind) (purpose : Purpose) (next : ExprNext) (K : List StmtFrame) → CanRead purpose K → ExprKeeps A next →
    StmtKeeps (PurposeFits purpose K × A) (reading_step kind purpose next K)
reading_keeps A kind purpose (Goes focus inner) K i k = (λ x. (x.0, k.0 x.1), λ x r. (x.0, k.1 x.1 r.1))
reading_keeps A kind purpose (Ends e) K i k = through (λ x. (x.0, k.1 x.1 tt), λ x. (x.0, k.0 x.1)) (end_keeps kind purpose e K i)
reading_keeps A kind purpose Refuses K i k = refused

-- the first token of a statement, and of an item
body_word_keeps : (w : Word) (pos : Pos) (K : List StmtFrame) → StmtKeeps (SimpleFits K) (body_word w pos K)
body_word_keeps If pos K = (λ x. (omega (arith, x.0), x.1), λ x r. (r.0, x.1))
body_word_keeps While pos K = (λ x. (omega (arith, x.0), x.1), λ x r. (r.0, x.1))
body_word_keeps For pos K = (λ x. (omega (arith, x.0), x.1), λ x r. (r.0, x.1))
body_word_keeps Do pos K = (λ x. (omega (arith, x.0), x.1.1), λ x r. (r.0, (tt, x.1)))
body_word_keeps Barrier pos K = same
body_word_keeps Break pos K = (λ x. (x.0, x.2), λ x r. (x.0, tt, x.1))
body_word_keeps Continue pos K = (λ x. (x.0, x.2), λ x r. (x.0, tt, x.1))
body_word_keeps Return pos K = same
body_word_keeps _ pos K = refused

body_mark_keeps : (m : Mark) (pos : Pos) (K : List StmtFrame) → StmtKeeps (SimpleFits K) (body_mark m pos K)
body_mark_keeps Semicolon pos K = (λ x. (x.0, x.2), λ x r. (x.0, tt, x.1))
body_mark_keeps OpenBrace pos K = (λ x. (omega (arith, x.0), x.1.1), λ x r. (r.0, ((r.0, tt), x.1)))
body_mark_keeps m pos K = count_start_keeps (count_of m) pos InBlock K

body_keeps : (kind : TokenKind) (pos : Pos) (K : List StmtFrame) → StmtKeeps (SimpleFits K) (body_step kind pos K)
body_keeps (NameKind text) pos K = same
body_keeps (WordKind w) pos K = body_word_keeps w pos K
body_keeps (MarkKind m) pos K = body_mark_keeps m pos K
body_keeps _ pos K = refused

block_keeps : (K : List StmtFrame) → StmtKeeps (SimpleFits K) (close_block K)
block_keeps [] = refused
block_keeps (BlockFrame items ∷ []) = subst (StmtKeeps (SimpleFits (BlockFrame items ∷ []))) (sym (no_frames items)) (alike (body_fits items))
block_keeps (BlockFrame items ∷ f ∷ K) = subst (StmtKeeps (SimpleFits (BlockFrame items ∷ f ∷ K))) (sym (more_frames items f K)) (alike (inner_fits items f K))
block_keeps (_ ∷ K) = refused

item_scalar_keeps : (o : Option Scalar) (w : Word) (pos : Pos) (K : List StmtFrame) → StmtKeeps (SimpleFits K) (item_scalar o w pos K)
item_scalar_keeps (Some s) w pos K = same
item_scalar_keeps None w pos K = body_word_keeps w pos K

item_word_keeps : (w : Word) (pos : Pos) (K : List StmtFrame) → StmtKeeps (SimpleFits K) (item_word w pos K)
item_word_keeps Const pos K = same
item_word_keeps Volatile pos K = same
item_word_keeps UnderscoreLocal pos K = same
item_word_keeps Local pos K = same
item_word_keeps w pos K = item_scalar_keeps (scalar_first w) w pos K

item_keeps : (kind : TokenKind) (pos : Pos) (K : List StmtFrame) → StmtKeeps (SimpleFits K) (item_step kind pos K)
item_keeps (MarkKind CloseBrace) pos K = block_keeps K
item_keeps (WordKind w) pos K = item_word_keeps w pos K
item_keeps kind pos K = body_keeps kind pos K

-- a whole statement
abbrev PlacedFits : Placed → Type 0
PlacedFits p = WholeFits p.tree p.frames

by_end : (b : Bool) (s : StmtTree) (f : StmtFrame) (K : List StmtFrame) (c : Bool) → ends_with b f ≡ c →
    (c ≡ true → Both (WholeFits (completed f s) K) (PlacedFits (finished b (completed f s) K))) →
    Both (WholeFits s (f ∷ K)) (PlacedFits (cond c (finished b (completed f s) K) (placed s (f ∷ K))))
by_end b s f K true h further =
    let c : Both (WholeFits s (f ∷ K)) (WholeFits (completed f s) K) = completed_fits b f s K h in
    let g : Both (WholeFits (completed f s) K) (PlacedFits (finished b (completed f s) K)) = further refl in
    (λ x. g.0 (c.0 x), λ x. c.1 (g.1 x))
by_end b s f K false h further = (λ x. x, λ x. x)

finished_fits : (b : Bool) (s : StmtTree) (K : List StmtFrame) → Both (WholeFits s K) (PlacedFits (finished b s K))
finished_fits b s [] = (λ x. x, λ x. x)
finished_fits b s (f ∷ K) = by_end b s f K (ends_with b f) refl (λ h. finished_fits b (completed f s) K)

else_keeps : (b : Bool) (test : ExprTree) (s : StmtTree) (K : List StmtFrame) → StmtKeeps (WholeFits s (ThenFrame test ∷ K)) (else_step b test s K)
else_keeps true test s K =
    let l : 1 ≤ levels 0 s = a_level 0 s in
    (λ x. (x.1.0.0, x.1.0.2, (x.1.0.1, x.1.1)), λ x r. (omega (arith, x.0), ((x.0, x.2.0, x.1), x.2.1)))
else_keeps false test s K = refused

while_keeps : (kind : TokenKind) (s : StmtTree) (K : List StmtFrame) → StmtKeeps (WholeFits s (DoFrame ∷ K)) (while_step kind s K)
while_keeps (WordKind While) s K = (λ x. (omega (arith, x.0), x.1, (tt, x.2)), λ x r. (omega (arith, x.0), x.1, x.2.1))
while_keeps _ s K = refused

placed_keeps : (kind : TokenKind) (pos : Pos) (s : StmtTree) (K : List StmtFrame) → StmtKeeps (WholeFits s K) (placed_step kind pos s K)
placed_keeps kind pos s (ThenFrame test ∷ K) = else_keeps (is_else kind) test s K
placed_keeps kind pos s (DoFrame ∷ K) = while_keeps kind s K
placed_keeps kind pos s (BlockFrame items ∷ K) = through (items_fit items s K) (item_keeps kind pos (BlockFrame (and_stmt items s) ∷ K))
placed_keeps kind pos s _ = refused

whole_keeps : (kind : TokenKind) (pos : Pos) (s : StmtTree) (K : List StmtFrame) → StmtKeeps (WholeFits s K) (finished_step kind pos (finished (is_else kind) s K))
whole_keeps kind pos s K =
    through (finished_fits (is_else kind) s K) (placed_keeps kind pos (finished (is_else kind) s K).tree (finished (is_else kind) s K).frames)

-- one token of a function's body
pub stmt_keeps : (kind : TokenKind) (pos : Pos) (focus : StmtFocus) (K : List StmtFrame) → CanStand focus K → StmtKeeps (StmtFits focus K) (stmt_step kind pos focus K)
stmt_keeps kind pos ItemStart K i = item_keeps kind pos K
stmt_keeps kind pos BodyStart K i = body_keeps kind pos K
stmt_keeps kind pos (Finished s) K i = whole_keeps kind pos s K
stmt_keeps kind pos (Ending s) K i = ending_keeps kind s K
stmt_keeps kind pos (Reading purpose focus inner) K i =
    reading_keeps (ExprFits focus inner) kind purpose (expr_step kind pos focus inner) K i (expr_keeps kind pos focus inner)
stmt_keeps kind pos IfWord K i = open_keeps (HeadFits K) kind (Reading IfTest Operand []) K opens
stmt_keeps kind pos WhileWord K i = open_keeps (HeadFits K) kind (Reading WhileTest Operand []) K opens
stmt_keeps kind pos ForWord K i = open_keeps (HeadFits K) kind FirstStart K same
stmt_keeps kind pos (DoWhile body) K i = open_keeps (DoFits body K) kind (Reading (DoTest body) Operand []) K opens
stmt_keeps kind pos (BarrierWord at) K i = open_keeps (SimpleFits K) kind (BarrierOpen at) K same
stmt_keeps kind pos (BarrierOpen at) K i = number_keeps kind at K
stmt_keeps kind pos (BarrierNumber at) K i = behind_number kind at K
stmt_keeps kind pos (QualifiersRead place constant) K i = words_keep kind place constant K
stmt_keeps kind pos (ScalarRead place constant s) K i = scalar_step_keeps kind pos place constant s K
stmt_keeps kind pos (TypeRead place elem constant) K i = typed_keeps kind pos place elem constant K
stmt_keeps kind pos (NameNext place elem constant) K i = name_keeps kind pos place elem constant K
stmt_keeps kind pos (Declared place elem constant n) K i = declare_keeps kind place elem constant n K i
stmt_keeps kind pos LocalWord K i = local_keeps kind K
stmt_keeps kind pos (LocalScalar s) K i = local_scalar_keeps kind pos s K
stmt_keeps kind pos (LocalNamed elem n) K i = local_named_keeps kind elem n K
stmt_keeps kind pos (AssignNext place) K i = assign_keeps kind pos place K
stmt_keeps kind pos (AssignNamed place n) K i = named_keeps kind pos place n K
stmt_keeps kind pos (CountedBefore place op at) K i = counted_keeps kind pos place op at K
stmt_keeps kind pos (CountedNamed place op at n) K i = counted_named_keeps kind pos place op at n K
stmt_keeps kind pos (Targeted place target) K i = target_keeps kind pos place target K
stmt_keeps kind pos (Assigned place s) K i = assigned_keeps kind place s K
stmt_keeps kind pos (CallOpen n) K i = call_open_keeps kind pos n K
stmt_keeps kind pos FirstStart K i = first_keep kind pos K
stmt_keeps kind pos (TestStart first) K i = test_keeps kind pos first K
stmt_keeps kind pos (StepStart first test) K i = step_keeps kind pos first test K
stmt_keeps kind pos (Returning at) K i = return_keeps kind pos at K
