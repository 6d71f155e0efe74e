-- What the code's answers stand for, and the parts of definitions that its functions make.
use Rattle.std.specs.Prelude.{ℕ, Bool, false, Option, None, Some}
use Rattle.kir.specs.Trees.{Ops, NoOps}
use Rattle.ocl_inline.specs.declared.trees.FlatArgument.{FlatArgument, Array}
use Rattle.ocl_inline.specs.declared.trees.FlatArgument as argument
use Rattle.ocl_inline.specs.Shapes.{expr_of}
use Rattle.ocl_inline.specs.Trees.{FlatStmt}
use Rattle.ocl_norm.specs.declared.standings.Standing.{Standing as HeldStanding}
use Rattle.ocl_norm.specs.declared.standings.Standing.TheVariants as held
use Rattle.ocl_norm.specs.Normal.{Fragment, bound_ops, branches, calls, stmt_ops, value_ops}
use Rattle.ocl_norm.specs.Rooms.{stmt_room, value_room}
use Rattle.ocl_norm.specs.Standings.{Standing, Fixed, Named, Made, operand_at, standing}

abbrev pub standing_by : HeldStanding → Standing
standing_by (held.Fixed n) = Fixed n
standing_by (held.Named k) = Named k
standing_by held.Made = Made

-- ---- one argument

abbrev pub arg_calls : FlatArgument → Bool
arg_calls (argument.Number value binding) = calls (expr_of value)
arg_calls (Array array) = false

abbrev pub arg_branches : FlatArgument → Bool
arg_branches (argument.Number value binding) = branches (expr_of value)
arg_branches (Array array) = false

abbrev pub arg_room : FlatArgument → ℕ
arg_room (argument.Number value binding) = value_room (expr_of value)
arg_room (Array array) = 0

abbrev pub arg_ops : FlatArgument → Fragment
arg_ops (argument.Number value binding) d c = value_ops (expr_of value) d (bound_ops binding (operand_at (standing (expr_of value)) d) c)
arg_ops (Array array) d c = c

-- ---- what stands behind `else`

abbrev pub else_ops : Option FlatStmt → ℕ → Ops
else_ops None result = NoOps
else_ops (Some other) result = stmt_ops other result NoOps

abbrev pub else_room : Option FlatStmt → ℕ
else_room None = 0
else_room (Some other) = stmt_room other
