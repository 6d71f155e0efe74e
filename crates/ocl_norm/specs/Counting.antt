-- Counts of variables as the code has them, and what it knows of the numbers that it has read while it counted.
use Rattle.std.specs.Prelude.{ℕ, min, ◌-◌, ◌^◌, Option, None, Some}
use Rattle.ocl_inline.specs.declared.trees.FlatArgument.{FlatArgument, Array}
use Rattle.ocl_inline.specs.declared.trees.FlatArgument as argument
use Rattle.ocl_inline.specs.Shapes.{expr_of}
use Rattle.ocl_inline.specs.Trees.{FlatStmt}
use Rattle.ocl_inline.specs.Proper.{ExprWords, StmtWords}

-- a count, kept up to the greatest number of its type: whether a sum with it is a word can be told still
abbrev pub counted : ℕ → ℕ
counted n = min n (2 ^ 64 - 1)

-- the numbers of an argument are words
abbrev pub ArgWords : FlatArgument → Type 0
ArgWords (argument.Number value binding) = ExprWords (expr_of value)
ArgWords (Array array) = Unit {0}

-- those of what stands behind `else`
abbrev pub ElseWords : Option FlatStmt → Type 0
ElseWords None = Unit {0}
ElseWords (Some other) = StmtWords other
