-- The token at the end of a file ends it, or no file goes on with it.
use Rattle.std.proofs.Common.{◌≡◌, refl, sym, subst, false, List, [], ◌∷◌}
use Rattle.vx_base.specs.declared.types.Pos.{Pos}
use Rattle.ocl_ast.specs.Trees.{ExprTree, NameTree, StmtTree}
use Rattle.ocl_tokens.specs.declared.tokens.Token.{Token}
use Rattle.ocl_tokens.specs.declared.tokens.TokenKind.TheVariants.{End}
use Rattle.ocl_parser.specs.ExprSteps.{ExprNext, Goes, Ends, Refuses, ExprInFrames, settled, close_step, close_standing, expr_step}
use Rattle.ocl_parser.specs.StmtSteps.{Stops, Placed, finished, placed_step, finished_step, end_step, reading_step, stmt_step}
use Rattle.ocl_parser.specs.UnitSteps.{UnitNext, Reads, Adds, Fails, inside_step, unit_step}
use Rattle.ocl_parser.specs.declared.states.ExprFocus.{ExprFocus}
use Rattle.ocl_parser.specs.declared.states.ExprFocus.TheVariants.{Operand, Named, Opened, Casting, Calling, Done}
use Rattle.ocl_parser.specs.declared.states.ExprFrame.{ExprFrame}
use Rattle.ocl_parser.specs.declared.states.ExprFrame.TheVariants.{Unary as UnaryFrame, Cast as CastFrame, Between as InfixFrame, Test as TestFrame, Other as OtherFrame, Index as IndexFrame, Call as ArgsFrame, Paren as ParenFrame}
use Rattle.ocl_parser.specs.declared.states.Purpose.{Purpose}
use Rattle.ocl_parser.specs.declared.states.Purpose.TheVariants.{InitOf, CountOf, IndexOf, CountedIndexOf, ValueOf, ArgsOf, IfTest, WhileTest, DoTest, ForTest, ReturnOf}
use Rattle.ocl_parser.specs.declared.states.StmtFocus.{StmtFocus}
use Rattle.ocl_parser.specs.declared.states.StmtFocus.TheVariants.{ItemStart, BodyStart, Finished, Ending, Reading, IfWord, WhileWord, ForWord, DoWhile, BarrierWord, BarrierOpen, BarrierNumber, QualifiersRead, ScalarRead, TypeRead, NameNext, Declared, LocalWord, LocalScalar, LocalNamed, AssignNext, AssignNamed, CountedBefore, CountedNamed, Targeted, Assigned, CallOpen, FirstStart, TestStart, StepStart, Returning}
use Rattle.ocl_parser.specs.declared.states.StmtFrame.{StmtFrame}
use Rattle.ocl_parser.specs.declared.states.StmtFrame.TheVariants.{Block as BlockFrame, Then as ThenFrame, Else as ElseFrame, While as WhileFrame, Do as DoFrame, For as ForFrame}
use Rattle.ocl_parser.specs.declared.states.UnitFocus.{UnitFocus}
use Rattle.ocl_parser.specs.declared.states.UnitFocus.TheVariants.{Outside, KernelRead, HelperWords, GivesRead, HeadRead, HeadNamed, ParamsOpen, VoidRead, ParamWords, ParamScalar, ParamType, Starred, ParamNamed, ParamsClosed, Inside, AtEnd}

-- no expression goes on
abbrev IsOver : ExprNext → Type 0
IsOver (Goes focus K) = ⊥
IsOver (Ends e) = Unit {0}
IsOver Refuses = Unit {0}

close_over : (e : ExprTree) (K : List ExprFrame) → IsOver (close_step End e K)
close_over e [] = tt
close_over e (UnaryFrame op pos ∷ K) = tt
close_over e (CastFrame elem pos ∷ K) = tt
close_over e (InfixFrame op left pos ∷ K) = tt
close_over e (TestFrame test pos ∷ K) = tt
close_over e (OtherFrame test one pos ∷ K) = tt
close_over e (IndexFrame array pos ∷ K) = tt
close_over e (ArgsFrame called args ∷ K) = tt
close_over e (ParenFrame pos ∷ K) = tt

whole_over : (s : ExprInFrames) → IsOver (close_standing End s)
whole_over s = close_over s.tree s.frames

expr_over : (pos : Pos) (focus : ExprFocus) (K : List ExprFrame) → IsOver (expr_step End pos focus K)
expr_over pos Operand K = tt
expr_over pos (Named n) K = whole_over (settled 0 (NameTree n) K)
expr_over pos (Opened at) K = tt
expr_over pos (Casting s at) K = tt
expr_over pos (Calling n) K = tt
expr_over pos (Done e) K = whole_over (settled 0 e K)

end_over : (purpose : Purpose) (e : ExprTree) (K : List StmtFrame) → end_step End purpose e K ≡ Stops
end_over (InitOf place elem constant n) e K = refl
end_over (CountOf elem n) e K = refl
end_over (IndexOf place n at) e K = refl
end_over (CountedIndexOf place op pos n at) e K = refl
end_over (ValueOf place target op pos) e K = refl
end_over (ArgsOf n args) e K = refl
end_over IfTest e K = refl
end_over WhileTest e K = refl
end_over (DoTest body) e K = refl
end_over (ForTest first) e K = refl
end_over (ReturnOf at) e K = refl

reading_over : (purpose : Purpose) (next : ExprNext) (K : List StmtFrame) → IsOver next → reading_step End purpose next K ≡ Stops
reading_over purpose (Goes focus inner) K h = absurd h
reading_over purpose (Ends e) K h = end_over purpose e K
reading_over purpose Refuses K h = refl

placed_over : (pos : Pos) (s : StmtTree) (K : List StmtFrame) → placed_step End pos s K ≡ Stops
placed_over pos s [] = refl
placed_over pos s (BlockFrame items ∷ K) = refl
placed_over pos s (ThenFrame test ∷ K) = refl
placed_over pos s (ElseFrame test body ∷ K) = refl
placed_over pos s (WhileFrame test ∷ K) = refl
placed_over pos s (DoFrame ∷ K) = refl
placed_over pos s (ForFrame first test step ∷ K) = refl

finished_over : (pos : Pos) (p : Placed) → finished_step End pos p ≡ Stops
finished_over pos p = placed_over pos p.tree p.frames

stmt_over : (pos : Pos) (focus : StmtFocus) (K : List StmtFrame) → stmt_step End pos focus K ≡ Stops
stmt_over pos ItemStart K = refl
stmt_over pos BodyStart K = refl
stmt_over pos (Finished s) K = finished_over pos (finished false s K)
stmt_over pos (Ending s) K = refl
stmt_over pos (Reading purpose focus inner) K = reading_over purpose (expr_step End pos focus inner) K (expr_over pos focus inner)
stmt_over pos IfWord K = refl
stmt_over pos WhileWord K = refl
stmt_over pos ForWord K = refl
stmt_over pos (DoWhile body) K = refl
stmt_over pos (BarrierWord at) K = refl
stmt_over pos (BarrierOpen at) K = refl
stmt_over pos (BarrierNumber at) K = refl
stmt_over pos (QualifiersRead place constant) K = refl
stmt_over pos (ScalarRead place constant s) K = refl
stmt_over pos (TypeRead place elem constant) K = refl
stmt_over pos (NameNext place elem constant) K = refl
stmt_over pos (Declared place elem constant n) K = refl
stmt_over pos LocalWord K = refl
stmt_over pos (LocalScalar s) K = refl
stmt_over pos (LocalNamed elem n) K = refl
stmt_over pos (AssignNext place) K = refl
stmt_over pos (AssignNamed place n) K = refl
stmt_over pos (CountedBefore place op at) K = refl
stmt_over pos (CountedNamed place op at n) K = refl
stmt_over pos (Targeted place target) K = refl
stmt_over pos (Assigned place s) K = refl
stmt_over pos (CallOpen n) K = refl
stmt_over pos FirstStart K = refl
stmt_over pos (TestStart first) K = refl
stmt_over pos (StepStart first test) K = refl
stmt_over pos (Returning at) K = refl

-- the file has ended, or no file goes on
abbrev pub EndsFile : UnitNext → Type 0
EndsFile (Reads focus) = focus ≡ AtEnd
EndsFile (Adds f) = ⊥
EndsFile Fails = Unit {0}

unit_over : (pos : Pos) (focus : UnitFocus) → EndsFile (unit_step End pos focus)
unit_over pos Outside = refl
unit_over pos KernelRead = tt
unit_over pos HelperWords = tt
unit_over pos (GivesRead s) = tt
unit_over pos (HeadRead kernel gives) = tt
unit_over pos (HeadNamed head) = tt
unit_over pos (ParamsOpen head) = tt
unit_over pos (VoidRead head) = tt
unit_over pos (ParamWords head ps space constant) = tt
unit_over pos (ParamScalar head ps space constant s) = tt
unit_over pos (ParamType head ps space constant elem) = tt
unit_over pos (Starred head ps pointer constant) = tt
unit_over pos (ParamNamed head ps) = tt
unit_over pos (ParamsClosed head ps) = tt
unit_over pos (Inside head ps focus K) = subst (λ next. EndsFile (inside_step next head ps)) (sym (stmt_over pos focus K)) tt
unit_over pos AtEnd = tt

pub over : (t : Token) (focus : UnitFocus) → t.kind ≡ End → EndsFile (unit_step t.kind t.pos focus)
over t focus k = subst (λ kind. EndsFile (unit_step kind t.pos focus)) (sym k) (unit_over t.pos focus)
