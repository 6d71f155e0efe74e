-- What the code tests of what has been read, where a token has begun something: in the shortest way to go on, the innermost parts are
-- within the limits. Of all other parts that was tested before.
use Rattle.std.specs.Prelude.{ℕ, ◌+◌, ◌≤◌, max, length, List, [], ◌∷◌}
use Rattle.ocl_ast.specs.Measures.{height, args_height}
use Rattle.ocl_parser.specs.Levels.{levels_around}
use Rattle.ocl_parser.specs.declared.states.ExprFocus.{ExprFocus}
use Rattle.ocl_parser.specs.declared.states.ExprFocus.TheVariants.{Operand, Named, Opened, Casting, Calling, Done}
use Rattle.ocl_parser.specs.declared.states.ExprFrame.{ExprFrame}
use Rattle.ocl_parser.specs.declared.states.ExprFrame.TheVariants.{Unary as UnaryFrame, Cast as CastFrame, Between as InfixFrame, Test as TestFrame, Other as OtherFrame, Index as IndexFrame, Call as ArgsFrame, Paren as ParenFrame}
use Rattle.ocl_parser.specs.declared.states.StmtFocus.{StmtFocus}
use Rattle.ocl_parser.specs.declared.states.StmtFocus.TheVariants.{Reading, IfWord, WhileWord, ForWord}
use Rattle.ocl_parser.specs.declared.states.StmtFrame.{StmtFrame}
use Rattle.ocl_parser.specs.declared.states.UnitFocus.{UnitFocus}
use Rattle.ocl_parser.specs.declared.states.UnitFocus.TheVariants.{Inside}

-- the height of the shortest operand that goes on so
abbrev pub least_height : ExprFocus → ℕ
least_height Operand = 1
least_height (Named n) = 1
least_height (Opened at) = 2
least_height (Casting s at) = 2
least_height (Calling n) = 1
least_height (Done e) = height e

-- the greatest height of the finished parts to the left, 0 where there are none
abbrev pub left_height : ExprFrame → ℕ
left_height (UnaryFrame op pos) = 0
left_height (CastFrame elem pos) = 0
left_height (InfixFrame op left pos) = height left
left_height (TestFrame test pos) = height test
left_height (OtherFrame test one pos) = max (height test) (height one)
left_height (IndexFrame array pos) = 0
left_height (ArgsFrame called args) = args_height args
left_height (ParenFrame pos) = 0

-- the same in the innermost frame
abbrev pub last_height : List ExprFrame → ℕ
last_height [] = 0
last_height (f ∷ K) = left_height f

-- Each frame is a node above what stands in it.
abbrev pub HasHeight : ExprFocus → List ExprFrame → Type 0
HasHeight focus K = (least_height focus + length K ≤ 128) × (last_height K + length K ≤ 128)

-- how many levels a statement that begins so has at least
abbrev pub least_levels : StmtFocus → ℕ
least_levels IfWord = 2
least_levels WhileWord = 2
least_levels ForWord = 2
least_levels _ = 1

abbrev pub HasLevels : StmtFocus → List StmtFrame → Type 0
HasLevels focus K = least_levels focus + levels_around K ≤ 31

abbrev pub HasLowExpr : StmtFocus → Type 0
HasLowExpr (Reading purpose focus inner) = HasHeight focus inner
HasLowExpr _ = Unit {0}

abbrev pub HasRoom : UnitFocus → Type 0
HasRoom (Inside head params focus K) = HasLevels focus K × HasLowExpr focus
HasRoom _ = Unit {0}
