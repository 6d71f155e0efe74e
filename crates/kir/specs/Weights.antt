-- How many words of code operations come to at most, where each variable is a word of memory that is loaded before it is used and
-- stored behind, and a branch that may part the work-items of a warp keeps a word of its own.
use Rattle.std.specs.Prelude.{ℕ, zero, suc, ◌+◌}
use Rattle.ocl_program.specs.declared.exprs.ArrayRef.{ArrayRef}
use Rattle.ocl_program.specs.declared.exprs.ArrayRef.TheVariants.{Parameter, Declared}
use Rattle.kir.specs.Trees.{Operand, VariableOf, NumberOf, Op, Set, Calculate, Fit, Id, Load, Store, Check, Barrier, If, Loop, Call, Ops, NoOps, AndOp}

-- ---- parts

-- a number takes two words, a variable one
abbrev pub operand_words : Operand → ℕ
operand_words (VariableOf k) = 1
operand_words (NumberOf n) = 2

-- a number that is tested is put into a variable first
abbrev pub test_words : Operand → ℕ
test_words (VariableOf k) = 0
test_words (NumberOf n) = 3

-- the count of an array into a variable: of a parameter's it is a word of the launch, of a declared one a number
abbrev pub count_words : ArrayRef → ℕ
count_words (Parameter k) = 2
count_words (Declared k) = 3

-- ---- operations

abbrev pub set_words : Operand → ℕ
set_words a = operand_words a + 1

abbrev pub calculate_words : Operand → Operand → ℕ
calculate_words a b = operand_words a + operand_words b + 2

-- by two shifts
abbrev pub fit_words : Operand → ℕ
fit_words a = operand_words a + 5

-- Of dimension 0 it is a word that is kept. Of another number it is computed from three words, and of a dimension in a variable from those
-- and the dimension's bits, without a branch.
abbrev pub id_words : Operand → ℕ
id_words (VariableOf k) = 28
id_words (NumberOf zero) = 3
id_words (NumberOf (suc n)) = 12

-- the start of the array, the index times the size of an element, their sum, and the load
abbrev pub load_words : Operand → ℕ
load_words a = operand_words a + 11

abbrev pub store_words : Operand → Operand → ℕ
store_words a b = operand_words a + operand_words b + 10

-- the count, a comparison, and a branch round the trap
abbrev pub check_words : ArrayRef → Operand → ℕ
check_words array a = count_words array + operand_words a + 12

abbrev pub barrier_words : ℕ
barrier_words = 4

-- a branch may part a warp and joins it again
abbrev pub if_words : Operand → ℕ
if_words test = test_words test + 9

-- the work-items that are in the loop are kept, and those whose test is 0 wait
abbrev pub loop_words : Operand → ℕ
loop_words test = test_words test + 10

-- ---- the whole

-- the words of an operation that holds no others; jumps and calls have none
abbrev pub single_words : Op → ℕ
single_words (Set d a) = set_words a
single_words (Calculate d op a b) = calculate_words a b
single_words (Fit d elem a) = fit_words a
single_words (Id d which a) = id_words a
single_words (Load d array elem a) = load_words a
single_words (Store array elem a b) = store_words a b
single_words (Check array a pos) = check_words array a
single_words (Barrier site) = barrier_words
single_words other = 0

abbrev mutual
  -- the words of operations as they stand
  pub weight : Ops → ℕ
  weight NoOps = 0
  weight (AndOp op ops) = weight_in op + weight ops

  pub weight_in : Op → ℕ
  weight_in (If test one other) = if_words test + (weight one + weight other)
  weight_in (Loop head test body step) = loop_words test + (weight head + (weight body + weight step))
  weight_in (Call body) = weight body
  weight_in other = single_words other
