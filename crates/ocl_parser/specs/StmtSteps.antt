-- How the reader goes through the items of a function's body: what has been read of a statement, inside frames that hold the
-- finished parts to the left, the innermost first.
use Rattle.std.specs.Prelude.{Bool, true, false, not, cond, nat_eq, length, List, [], ◌∷◌, Option, Some, None}
use Rattle.vx_base.specs.declared.types.Elem.{Elem}
use Rattle.vx_base.specs.declared.types.Pos.{Pos}
use Rattle.ocl_ast.specs.declared.exprs.BinOp.TheVariants.{Mul, Div, Rem, Add, Sub, Shl, Shr, And, Xor, Or}
use Rattle.ocl_ast.specs.declared.exprs.Ident.{Ident}
use Rattle.ocl_ast.specs.declared.stmts.AssignOp.{AssignOp}
use Rattle.ocl_ast.specs.declared.stmts.AssignOp.TheVariants.{Set, With, Up, Down}
use Rattle.ocl_ast.specs.Trees.{ExprTree, ArgTrees, NoArgs, TargetTree, NameTarget, IndexTarget, StmtTree, DeclareTree, LocalArrayTree, AssignTree, CallStmtTree, BarrierTree, IfTree, IfElseTree, WhileTree, DoTree, ForTree, BreakTree, ContinueTree, ReturnTree, BlockTree, EmptyTree, StmtTrees, NoStmts, AndStmt}
use Rattle.ocl_tokens.specs.declared.marks.Mark.{Mark}
use Rattle.ocl_tokens.specs.declared.marks.Mark.TheVariants.{OpenParen, CloseParen, OpenBrace, CloseBrace, OpenBracket, CloseBracket, Semicolon, Comma, Bar, Equal, PlusEqual, MinusEqual, StarEqual, SlashEqual, PercentEqual, ShiftLeftEqual, ShiftRightEqual, AmpersandEqual, CaretEqual, BarEqual, PlusPlus, MinusMinus}
use Rattle.ocl_tokens.specs.declared.tokens.TokenKind.{TokenKind}
use Rattle.ocl_tokens.specs.declared.tokens.TokenKind.TheVariants.{Name as NameKind, Word as WordKind, Number as NumberKind, Mark as MarkKind}
use Rattle.ocl_tokens.specs.declared.words.Word.{Word}
use Rattle.ocl_tokens.specs.declared.words.Word.TheVariants.{UnderscoreLocal, Local, Const, Volatile, If, Else, While, Do, For, Break, Continue, Return, Barrier}
use Rattle.ocl_parser.specs.declared.scalars.Scalar.{Scalar}
use Rattle.ocl_parser.specs.Scalars.{scalar_elem}
use Rattle.ocl_parser.specs.ScalarSteps.{scalar_first, scalar_more}
use Rattle.ocl_parser.specs.ExprSteps.{ExprNext, Goes, Ends, Refuses, and_arg, operand_step, expr_step}
use Rattle.ocl_parser.specs.declared.states.ExprFocus.TheVariants.{Operand}
use Rattle.ocl_parser.specs.declared.states.Part.{Part}
use Rattle.ocl_parser.specs.declared.states.Part.TheVariants.{InBlock, InFirst, InStep}
use Rattle.ocl_parser.specs.declared.states.Purpose.{Purpose}
use Rattle.ocl_parser.specs.declared.states.Purpose.TheVariants.{InitOf, CountOf, IndexOf, CountedIndexOf, ValueOf, ArgsOf, IfTest, WhileTest, DoTest, ForTest, ReturnOf}
use Rattle.ocl_parser.specs.declared.states.StmtFocus.{StmtFocus}
use Rattle.ocl_parser.specs.declared.states.StmtFocus.TheVariants.{ItemStart, BodyStart, Finished, Ending, Reading, IfWord, WhileWord, ForWord, DoWhile, BarrierWord, BarrierOpen, BarrierNumber, QualifiersRead, ScalarRead, TypeRead, NameNext, Declared, LocalWord, LocalScalar, LocalNamed, AssignNext, AssignNamed, CountedBefore, CountedNamed, Targeted, Assigned, CallOpen, FirstStart, TestStart, StepStart, Returning}
use Rattle.ocl_parser.specs.declared.states.StmtFrame.{StmtFrame}
use Rattle.ocl_parser.specs.declared.states.StmtFrame.TheVariants.{Block as BlockFrame, Then as ThenFrame, Else as ElseFrame, While as WhileFrame, Do as DoFrame, For as ForFrame}

-- What a token does: the reading goes on; or it closes the function's body; or no body goes on with it.
pub data StmtNext : Type 0 where
  GoesOn : StmtFocus → List StmtFrame → StmtNext
  Closes : StmtTrees → StmtNext
  Stops : StmtNext

abbrev pub and_stmt : StmtTrees → StmtTree → StmtTrees
and_stmt NoStmts s = AndStmt s NoStmts
and_stmt (AndStmt x ss) s = AndStmt x (and_stmt ss s)

-- the operator of an assignment, by its punctuator
abbrev pub set_of : Mark → Option AssignOp
set_of Equal = Some Set
set_of PlusEqual = Some (With Add)
set_of MinusEqual = Some (With Sub)
set_of StarEqual = Some (With Mul)
set_of SlashEqual = Some (With Div)
set_of PercentEqual = Some (With Rem)
set_of ShiftLeftEqual = Some (With Shl)
set_of ShiftRightEqual = Some (With Shr)
set_of AmpersandEqual = Some (With And)
set_of CaretEqual = Some (With Xor)
set_of BarEqual = Some (With Or)
set_of _ = None

-- `++` and `--`
abbrev pub count_of : Mark → Option AssignOp
count_of PlusPlus = Some Up
count_of MinusMinus = Some Down
count_of _ = None

-- the words of a type
abbrev pub scalar_read : Option Scalar → Part → Bool → List StmtFrame → StmtNext
scalar_read (Some s) place constant K = GoesOn (ScalarRead place constant s) K
scalar_read None place constant K = Stops

abbrev pub qualified_word : Word → Part → Bool → List StmtFrame → StmtNext
qualified_word Const place constant K = GoesOn (QualifiersRead place true) K
qualified_word Volatile place constant K = GoesOn (QualifiersRead place constant) K
qualified_word w place constant K = scalar_read (scalar_first w) place constant K

abbrev pub qualified_step : TokenKind → Part → Bool → List StmtFrame → StmtNext
qualified_step (WordKind w) place constant K = qualified_word w place constant K
qualified_step _ place constant K = Stops

abbrev pub typed_step : TokenKind → Pos → Part → Elem → Bool → List StmtFrame → StmtNext
typed_step (NameKind text) pos place elem constant K = GoesOn (Declared place elem constant (record { text = text; pos = pos })) K
typed_step (WordKind Const) pos place elem constant K = GoesOn (TypeRead place elem true) K
typed_step (WordKind Volatile) pos place elem constant K = GoesOn (TypeRead place elem constant) K
typed_step _ pos place elem constant K = Stops

abbrev pub scalar_word : Word → Part → Bool → Scalar → List StmtFrame → StmtNext
scalar_word Const place constant s K = GoesOn (TypeRead place (scalar_elem s) true) K
scalar_word Volatile place constant s K = GoesOn (TypeRead place (scalar_elem s) constant) K
scalar_word w place constant s K = scalar_read (scalar_more s w) place constant K

abbrev pub scalar_step : TokenKind → Pos → Part → Bool → Scalar → List StmtFrame → StmtNext
scalar_step (NameKind text) pos place constant s K =
    GoesOn (Declared place (scalar_elem s) constant (record { text = text; pos = pos })) K
scalar_step (WordKind w) pos place constant s K = scalar_word w place constant s K
scalar_step _ pos place constant s K = Stops

abbrev pub name_step : TokenKind → Pos → Part → Elem → Bool → List StmtFrame → StmtNext
name_step (NameKind text) pos place elem constant K = GoesOn (Declared place elem constant (record { text = text; pos = pos })) K
name_step _ pos place elem constant K = Stops

-- what follows a name of a declaration
abbrev pub and_item : StmtTree → List StmtFrame → List StmtFrame
and_item s (BlockFrame items ∷ K) = BlockFrame (and_stmt items s) ∷ K
and_item s K = K

abbrev pub declared_end : TokenKind → Part → Elem → Bool → StmtTree → List StmtFrame → StmtNext
declared_end (MarkKind Semicolon) InBlock elem constant s K = GoesOn ItemStart (and_item s K)
declared_end (MarkKind Comma) InBlock elem constant s K = GoesOn (NameNext InBlock elem constant) (and_item s K)
declared_end (MarkKind Semicolon) (InFirst done) elem constant s K = GoesOn (TestStart (and_stmt done s)) K
declared_end (MarkKind Comma) (InFirst done) elem constant s K = GoesOn (NameNext (InFirst (and_stmt done s)) elem constant) K
declared_end _ place elem constant s K = Stops

abbrev pub declared_step : TokenKind → Part → Elem → Bool → Ident → List StmtFrame → StmtNext
declared_step (MarkKind Equal) place elem constant n K = GoesOn (Reading (InitOf place elem constant n) Operand []) K
declared_step kind place elem constant n K = declared_end kind place elem constant (DeclareTree elem constant n None) K

-- a local array
abbrev pub local_read : Option Scalar → List StmtFrame → StmtNext
local_read (Some s) K = GoesOn (LocalScalar s) K
local_read None K = Stops

abbrev pub local_word : TokenKind → List StmtFrame → StmtNext
local_word (WordKind w) K = local_read (scalar_first w) K
local_word _ K = Stops

abbrev pub local_scalar : TokenKind → Pos → Scalar → List StmtFrame → StmtNext
local_scalar (NameKind text) pos s K = GoesOn (LocalNamed (scalar_elem s) (record { text = text; pos = pos })) K
local_scalar (WordKind w) pos s K = local_read (scalar_more s w) K
local_scalar _ pos s K = Stops

abbrev pub local_named : TokenKind → Elem → Ident → List StmtFrame → StmtNext
local_named (MarkKind OpenBracket) elem n K = GoesOn (Reading (CountOf elem n) Operand []) K
local_named _ elem n K = Stops

-- the first token of an expression
abbrev pub begun : Purpose → ExprNext → List StmtFrame → StmtNext
begun purpose (Goes focus inner) K = GoesOn (Reading purpose focus inner) K
begun purpose (Ends e) K = Stops
begun purpose Refuses K = Stops

abbrev pub begin_step : TokenKind → Pos → Purpose → List StmtFrame → StmtNext
begin_step kind pos purpose K = begun purpose (operand_step kind pos []) K

-- an assignment
abbrev pub assign_end : TokenKind → Part → StmtTree → List StmtFrame → StmtNext
assign_end (MarkKind Semicolon) InBlock s K = GoesOn (Finished s) K
assign_end (MarkKind Semicolon) (InFirst done) s K = GoesOn (TestStart (and_stmt done s)) K
assign_end (MarkKind Comma) (InFirst done) s K = GoesOn (AssignNext (InFirst (and_stmt done s))) K
assign_end (MarkKind CloseParen) (InStep first test done) s K = GoesOn BodyStart (ForFrame first test (and_stmt done s) ∷ K)
assign_end (MarkKind Comma) (InStep first test done) s K = GoesOn (AssignNext (InStep first test (and_stmt done s))) K
assign_end _ place s K = Stops

abbrev pub counted_start : Option AssignOp → Pos → Part → List StmtFrame → StmtNext
counted_start (Some op) pos place K = GoesOn (CountedBefore place op pos) K
counted_start None pos place K = Stops

abbrev pub assign_start : TokenKind → Pos → Part → List StmtFrame → StmtNext
assign_start (NameKind text) pos place K = GoesOn (AssignNamed place (record { text = text; pos = pos })) K
assign_start (MarkKind m) pos place K = counted_start (count_of m) pos place K
assign_start _ pos place K = Stops

abbrev pub set_target : Option AssignOp → Pos → Part → TargetTree → List StmtFrame → StmtNext
set_target (Some op) pos place target K = GoesOn (Reading (ValueOf place target op pos) Operand []) K
set_target None pos place target K = Stops

abbrev pub target_mark : Option AssignOp → Mark → Pos → Part → TargetTree → List StmtFrame → StmtNext
target_mark (Some op) m pos place target K = GoesOn (Assigned place (AssignTree target op None pos)) K
target_mark None m pos place target K = set_target (set_of m) pos place target K

abbrev pub target_step : TokenKind → Pos → Part → TargetTree → List StmtFrame → StmtNext
target_step (MarkKind m) pos place target K = target_mark (count_of m) m pos place target K
target_step _ pos place target K = Stops

abbrev pub call_start : Part → Ident → List StmtFrame → StmtNext
call_start InBlock n K = GoesOn (CallOpen n) K
call_start _ n K = Stops

abbrev pub assign_named : TokenKind → Pos → Part → Ident → List StmtFrame → StmtNext
assign_named (MarkKind OpenBracket) pos place n K = GoesOn (Reading (IndexOf place n pos) Operand []) K
assign_named (MarkKind OpenParen) pos place n K = call_start place n K
assign_named kind pos place n K = target_step kind pos place (NameTarget n) K

abbrev pub counted_before : TokenKind → Pos → Part → AssignOp → Pos → List StmtFrame → StmtNext
counted_before (NameKind text) pos place op at K = GoesOn (CountedNamed place op at (record { text = text; pos = pos })) K
counted_before _ pos place op at K = Stops

abbrev pub counted_named : TokenKind → Pos → Part → AssignOp → Pos → Ident → List StmtFrame → StmtNext
counted_named (MarkKind OpenBracket) pos place op at n K = GoesOn (Reading (CountedIndexOf place op at n pos) Operand []) K
counted_named kind pos place op at n K = assign_end kind place (AssignTree (NameTarget n) op None at) K

-- a call
abbrev pub call_open : TokenKind → Pos → Ident → List StmtFrame → StmtNext
call_open (MarkKind CloseParen) pos n K = GoesOn (Ending (CallStmtTree n NoArgs)) K
call_open kind pos n K = begin_step kind pos (ArgsOf n NoArgs) K

-- a barrier
abbrev pub barrier_open : TokenKind → Pos → List StmtFrame → StmtNext
barrier_open (NumberKind value unsigned) at K = GoesOn (BarrierNumber at) K
barrier_open _ at K = Stops

abbrev pub barrier_number : TokenKind → Pos → List StmtFrame → StmtNext
barrier_number (MarkKind Bar) at K = GoesOn (BarrierOpen at) K
barrier_number (MarkKind CloseParen) at K = GoesOn (Ending (BarrierTree at)) K
barrier_number _ at K = Stops

-- a `(`, and then this
abbrev pub open_step : TokenKind → StmtFocus → List StmtFrame → StmtNext
open_step (MarkKind OpenParen) next K = GoesOn next K
open_step _ next K = Stops

-- a `;`, which ends this statement
abbrev pub ending_step : TokenKind → StmtTree → List StmtFrame → StmtNext
ending_step (MarkKind Semicolon) s K = GoesOn (Finished s) K
ending_step _ s K = Stops

-- the head of a `for`
abbrev pub first_word : Word → List StmtFrame → StmtNext
first_word w K = qualified_word w (InFirst NoStmts) false K

abbrev pub first_start : TokenKind → Pos → List StmtFrame → StmtNext
first_start (MarkKind Semicolon) pos K = GoesOn (TestStart NoStmts) K
first_start (WordKind w) pos K = first_word w K
first_start kind pos K = assign_start kind pos (InFirst NoStmts) K

abbrev pub test_start : TokenKind → Pos → StmtTrees → List StmtFrame → StmtNext
test_start (MarkKind Semicolon) pos first K = GoesOn (StepStart first None) K
test_start kind pos first K = begin_step kind pos (ForTest first) K

abbrev pub step_start : TokenKind → Pos → StmtTrees → Option ExprTree → List StmtFrame → StmtNext
step_start (MarkKind CloseParen) pos first test K = GoesOn BodyStart (ForFrame first test NoStmts ∷ K)
step_start kind pos first test K = assign_start kind pos (InStep first test NoStmts) K

abbrev pub returning_step : TokenKind → Pos → Pos → List StmtFrame → StmtNext
returning_step (MarkKind Semicolon) pos at K = GoesOn (Finished (ReturnTree None at)) K
returning_step kind pos at K = begin_step kind pos (ReturnOf at) K

-- the token behind a whole expression
abbrev pub end_count : TokenKind → Elem → Ident → ExprTree → List StmtFrame → StmtNext
end_count (MarkKind CloseBracket) elem n e K = GoesOn (Ending (LocalArrayTree elem n e)) K
end_count _ elem n e K = Stops

abbrev pub end_index : TokenKind → Part → Ident → Pos → ExprTree → List StmtFrame → StmtNext
end_index (MarkKind CloseBracket) place n at e K = GoesOn (Targeted place (IndexTarget n e at)) K
end_index _ place n at e K = Stops

abbrev pub end_counted : TokenKind → Part → AssignOp → Pos → Ident → Pos → ExprTree → List StmtFrame → StmtNext
end_counted (MarkKind CloseBracket) place op pos n at e K = GoesOn (Assigned place (AssignTree (IndexTarget n e at) op None pos)) K
end_counted _ place op pos n at e K = Stops

abbrev pub end_args : TokenKind → Ident → ArgTrees → ExprTree → List StmtFrame → StmtNext
end_args (MarkKind Comma) n args e K = GoesOn (Reading (ArgsOf n (and_arg args e)) Operand []) K
end_args (MarkKind CloseParen) n args e K = GoesOn (Ending (CallStmtTree n (and_arg args e))) K
end_args _ n args e K = Stops

-- a `)`, and then this
abbrev pub close_with : TokenKind → StmtFocus → List StmtFrame → StmtNext
close_with (MarkKind CloseParen) next K = GoesOn next K
close_with _ next K = Stops

abbrev pub end_test : TokenKind → StmtTrees → ExprTree → List StmtFrame → StmtNext
end_test (MarkKind Semicolon) first e K = GoesOn (StepStart first (Some e)) K
end_test _ first e K = Stops

abbrev pub end_step : TokenKind → Purpose → ExprTree → List StmtFrame → StmtNext
end_step kind (InitOf place elem constant n) e K = declared_end kind place elem constant (DeclareTree elem constant n (Some e)) K
end_step kind (CountOf elem n) e K = end_count kind elem n e K
end_step kind (IndexOf place n at) e K = end_index kind place n at e K
end_step kind (CountedIndexOf place op pos n at) e K = end_counted kind place op pos n at e K
end_step kind (ValueOf place target op pos) e K = assign_end kind place (AssignTree target op (Some e) pos) K
end_step kind (ArgsOf n args) e K = end_args kind n args e K
end_step kind IfTest e K = close_with kind BodyStart (ThenFrame e ∷ K)
end_step kind WhileTest e K = close_with kind BodyStart (WhileFrame e ∷ K)
end_step kind (DoTest body) e K = close_with kind (Ending (DoTree body e)) K
end_step kind (ForTest first) e K = end_test kind first e K
end_step kind (ReturnOf at) e K = ending_step kind (ReturnTree (Some e) at) K

abbrev pub reading_step : TokenKind → Purpose → ExprNext → List StmtFrame → StmtNext
reading_step kind purpose (Goes focus inner) K = GoesOn (Reading purpose focus inner) K
reading_step kind purpose (Ends e) K = end_step kind purpose e K
reading_step kind purpose Refuses K = Stops

-- the first token of a statement
abbrev pub body_word : Word → Pos → List StmtFrame → StmtNext
body_word If pos K = GoesOn IfWord K
body_word While pos K = GoesOn WhileWord K
body_word For pos K = GoesOn ForWord K
body_word Do pos K = GoesOn BodyStart (DoFrame ∷ K)
body_word Barrier pos K = GoesOn (BarrierWord pos) K
body_word Break pos K = GoesOn (Ending (BreakTree pos)) K
body_word Continue pos K = GoesOn (Ending (ContinueTree pos)) K
body_word Return pos K = GoesOn (Returning pos) K
body_word _ pos K = Stops

abbrev pub body_mark : Mark → Pos → List StmtFrame → StmtNext
body_mark Semicolon pos K = GoesOn (Finished EmptyTree) K
body_mark OpenBrace pos K = GoesOn ItemStart (BlockFrame NoStmts ∷ K)
body_mark m pos K = counted_start (count_of m) pos InBlock K

abbrev pub body_step : TokenKind → Pos → List StmtFrame → StmtNext
body_step (NameKind text) pos K = GoesOn (AssignNamed InBlock (record { text = text; pos = pos })) K
body_step (WordKind w) pos K = body_word w pos K
body_step (MarkKind m) pos K = body_mark m pos K
body_step _ pos K = Stops

-- the first token of an item of a block
abbrev pub close_items : Bool → StmtTrees → List StmtFrame → StmtNext
close_items true items K = Closes items
close_items false items K = GoesOn (Finished (BlockTree items)) K

abbrev pub close_block : List StmtFrame → StmtNext
close_block (BlockFrame items ∷ K) = close_items (nat_eq (length K) 0) items K
close_block _ = Stops

abbrev pub item_scalar : Option Scalar → Word → Pos → List StmtFrame → StmtNext
item_scalar (Some s) w pos K = GoesOn (ScalarRead InBlock false s) K
item_scalar None w pos K = body_word w pos K

abbrev pub item_word : Word → Pos → List StmtFrame → StmtNext
item_word Const pos K = GoesOn (QualifiersRead InBlock true) K
item_word Volatile pos K = GoesOn (QualifiersRead InBlock false) K
item_word UnderscoreLocal pos K = GoesOn LocalWord K
item_word Local pos K = GoesOn LocalWord K
item_word w pos K = item_scalar (scalar_first w) w pos K

abbrev pub item_step : TokenKind → Pos → List StmtFrame → StmtNext
item_step (MarkKind CloseBrace) pos K = close_block K
item_step (WordKind w) pos K = item_word w pos K
item_step kind pos K = body_step kind pos K

-- A statement and what it stands in.
pub record Placed : Type 0 where
  pub tree : StmtTree
  pub frames : List StmtFrame

abbrev pub placed : StmtTree → List StmtFrame → Placed
placed s K = record { tree = s; frames = K }

-- The end of a statement in the construct ends it, where an `else` follows or not.
abbrev pub ends_with : Bool → StmtFrame → Bool
ends_with before_else (ThenFrame test) = not before_else
ends_with before_else (ElseFrame test one) = true
ends_with before_else (WhileFrame test) = true
ends_with before_else (ForFrame first test step) = true
ends_with before_else DoFrame = false
ends_with before_else (BlockFrame items) = false

-- the construct with the statement in it, where nothing else closes it
abbrev pub completed : StmtFrame → StmtTree → StmtTree
completed (ThenFrame test) s = IfTree test s
completed (ElseFrame test one) s = IfElseTree test one s
completed (WhileFrame test) s = WhileTree test s
completed (ForFrame first test step) s = ForTree first test step s
completed DoFrame s = s
completed (BlockFrame items) s = s

-- Closes the frames that end.
abbrev pub finished : Bool → StmtTree → List StmtFrame → Placed
finished before_else s [] = placed s []
finished before_else s (f ∷ K) = cond (ends_with before_else f) (finished before_else (completed f s) K) (placed s (f ∷ K))

abbrev pub is_else : TokenKind → Bool
is_else (WordKind Else) = true
is_else _ = false

abbrev pub else_step : Bool → ExprTree → StmtTree → List StmtFrame → StmtNext
else_step true test s K = GoesOn BodyStart (ElseFrame test s ∷ K)
else_step false test s K = Stops

abbrev pub while_step : TokenKind → StmtTree → List StmtFrame → StmtNext
while_step (WordKind While) s K = GoesOn (DoWhile s) K
while_step _ s K = Stops

abbrev pub placed_step : TokenKind → Pos → StmtTree → List StmtFrame → StmtNext
placed_step kind pos s (ThenFrame test ∷ K) = else_step (is_else kind) test s K
placed_step kind pos s (DoFrame ∷ K) = while_step kind s K
placed_step kind pos s (BlockFrame items ∷ K) = item_step kind pos (BlockFrame (and_stmt items s) ∷ K)
placed_step kind pos s _ = Stops

abbrev pub finished_step : TokenKind → Pos → Placed → StmtNext
finished_step kind pos p = placed_step kind pos p.tree p.frames

-- one token
abbrev pub stmt_step : TokenKind → Pos → StmtFocus → List StmtFrame → StmtNext
stmt_step kind pos ItemStart K = item_step kind pos K
stmt_step kind pos BodyStart K = body_step kind pos K
stmt_step kind pos (Finished s) K = finished_step kind pos (finished (is_else kind) s K)
stmt_step kind pos (Ending s) K = ending_step kind s K
stmt_step kind pos (Reading purpose focus inner) K = reading_step kind purpose (expr_step kind pos focus inner) K
stmt_step kind pos IfWord K = open_step kind (Reading IfTest Operand []) K
stmt_step kind pos WhileWord K = open_step kind (Reading WhileTest Operand []) K
stmt_step kind pos ForWord K = open_step kind FirstStart K
stmt_step kind pos (DoWhile body) K = open_step kind (Reading (DoTest body) Operand []) K
stmt_step kind pos (BarrierWord at) K = open_step kind (BarrierOpen at) K
stmt_step kind pos (BarrierOpen at) K = barrier_open kind at K
stmt_step kind pos (BarrierNumber at) K = barrier_number kind at K
stmt_step kind pos (QualifiersRead place constant) K = qualified_step kind place constant K
stmt_step kind pos (ScalarRead place constant s) K = scalar_step kind pos place constant s K
stmt_step kind pos (TypeRead place elem constant) K = typed_step kind pos place elem constant K
stmt_step kind pos (NameNext place elem constant) K = name_step kind pos place elem constant K
stmt_step kind pos (Declared place elem constant n) K = declared_step kind place elem constant n K
stmt_step kind pos LocalWord K = local_word kind K
stmt_step kind pos (LocalScalar s) K = local_scalar kind pos s K
stmt_step kind pos (LocalNamed elem n) K = local_named kind elem n K
stmt_step kind pos (AssignNext place) K = assign_start kind pos place K
stmt_step kind pos (AssignNamed place n) K = assign_named kind pos place n K
stmt_step kind pos (CountedBefore place op at) K = counted_before kind pos place op at K
stmt_step kind pos (CountedNamed place op at n) K = counted_named kind pos place op at n K
stmt_step kind pos (Targeted place target) K = target_step kind pos place target K
stmt_step kind pos (Assigned place s) K = assign_end kind place s K
stmt_step kind pos (CallOpen n) K = call_open kind pos n K
stmt_step kind pos FirstStart K = first_start kind pos K
stmt_step kind pos (TestStart first) K = test_start kind pos first K
stmt_step kind pos (StepStart first test) K = step_start kind pos first test K
stmt_step kind pos (Returning at) K = returning_step kind pos at K
