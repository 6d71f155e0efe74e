-- The values that a built-in function has, as its number of arguments says.
use Rattle.std.specs.Prelude.{ℕ, suc, max, Bool}
use Rattle.ocl_program.specs.declared.exprs.Builtin.{Builtin}
use Rattle.ocl_program.specs.declared.exprs.Builtin.TheVariants.{Min, Max}
use Rattle.kir.specs.Trees.{VariableOf, NumberOf, Id, AndOp}
use Rattle.ocl_inline.specs.Trees.{FlatExpr, FlatArgs, NoFlatArgs, NumberArg, NamedArg}
use Rattle.ocl_norm.specs.Normal.{Fragment, calls, pair_ops, value_ops}
use Rattle.ocl_norm.specs.Operators.{one_ops, two_ops}
use Rattle.ocl_norm.specs.Rooms.{one_room, pair_room, two_room, value_room}
use Rattle.ocl_norm.specs.Standings.{operand_at, standing}
use Rattle.ocl_norm.specs.declared.arguments.Values.{Values as HeldValues}
use Rattle.ocl_norm.specs.declared.arguments.Values.TheVariants as held
use Rattle.ocl_inline.specs.Shapes.{expr_of}

pub data Values : Type 0 where
  NoValue : Values
  OneValue : FlatExpr → Values
  TwoValues : FlatExpr → FlatExpr → Values
  ThreeValues : FlatExpr → FlatExpr → FlatExpr → Values

-- of the arguments behind two values, behind one, and of all arguments
abbrev pub values_last : FlatExpr → FlatExpr → FlatArgs → Values
values_last x y NoFlatArgs = TwoValues x y
values_last x y (NumberArg z b more) = ThreeValues x y z
values_last x y (NamedArg array more) = NoValue

abbrev pub values_behind : FlatExpr → FlatArgs → Values
values_behind x NoFlatArgs = OneValue x
values_behind x (NumberArg y b more) = values_last x y more
values_behind x (NamedArg array more) = NoValue

abbrev pub values_in : FlatArgs → Values
values_in NoFlatArgs = NoValue
values_in (NumberArg x b more) = values_behind x more
values_in (NamedArg array more) = NoValue

-- the values that the code has found
abbrev pub values_by : HeldValues → Values
values_by held.None = NoValue
values_by (held.One x) = OneValue (expr_of x.now)
values_by (held.Two x y) = TwoValues (expr_of x.now) (expr_of y.now)
values_by (held.Three x y z) = ThreeValues (expr_of x.now) (expr_of y.now) (expr_of z.now)

-- what a built-in function of these comes to, and how many variables it uses
abbrev pub function_ops : Builtin → Bool → Values → Fragment
function_ops which unsigned NoValue d c = AndOp (Id d which (NumberOf 0)) c
function_ops which unsigned (OneValue x) d c = value_ops x d (one_ops which unsigned (operand_at (standing x) d) d c)
function_ops which unsigned (TwoValues x y) d c = pair_ops (value_ops x) (standing x) (value_ops y) (standing y) (calls y) (two_ops which unsigned) d c
function_ops which unsigned (ThreeValues x y z) d c =
    pair_ops (value_ops x) (standing x) (value_ops y) (standing y) (calls y) (two_ops Max unsigned) d
    (value_ops z (suc d) (two_ops Min unsigned (VariableOf d) (operand_at (standing z) (suc d)) d c))

abbrev pub function_room : Builtin → Values → ℕ
function_room which NoValue = 1
function_room which (OneValue x) = max (one_room which) (value_room x)
function_room which (TwoValues x y) = max (two_room which) (pair_room (value_room x) (standing x) (value_room y) (calls y))
function_room which (ThreeValues x y z) = max 3 (max (pair_room (value_room x) (standing x) (value_room y) (calls y)) (suc (value_room z)))
