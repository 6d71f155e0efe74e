-- How many words of machine code an operation comes to at most, where each register is a word of memory that is loaded before it is used
-- and stored behind.
use Rattle.std.specs.Prelude.{ℕ, zero, suc, ◌+◌, nat_lt, if◌then◌else◌, List, [], ◌∷◌}
use Rattle.vx_base.specs.declared.types.Alu.{Alu}
use Rattle.vx_base.specs.declared.types.Alu.TheVariants.{Sll, Srl, Sra}
use Rattle.kir.specs.Trees.{Operand, VariableOf, NumberOf}
use Rattle.vcode.specs.Code.{VOp, Fresh, Copy, Compute, Cut, Word, WordAt, Learn, Fetch, Write, IfZero, IfNot, Goto, Split, Join, Pred, Tmc, Wspawn, Bar, Trap, Enter, Leaves, Again}

-- the number 0 is a register of the machine, a number of eleven bits is one word, and every other number two
abbrev pub number_words : ℕ → ℕ
number_words zero = 0
number_words (suc n) = if nat_lt n 2047 then 1 else 2

abbrev pub operand_words : Operand → ℕ
operand_words (VariableOf r) = 1
operand_words (NumberOf n) = number_words n

-- a number to shift by stands in the instruction
abbrev pub shift_words : ℕ → ℕ
shift_words n = if nat_lt n 32 then 0 else number_words n

abbrev pub right_words : Alu → Operand → ℕ
right_words Sll (NumberOf n) = shift_words n
right_words Srl (NumberOf n) = shift_words n
right_words Sra (NumberOf n) = shift_words n
right_words op a = operand_words a

abbrev pub op_words : VOp → ℕ
op_words Fresh = 10
op_words (Copy d a) = operand_words a + 1
op_words (Compute d op a b) = operand_words a + right_words op b + 2
op_words (Cut d elem a) = operand_words a + 3
op_words (Word d k) = 2
op_words (WordAt d a k) = operand_words a + 4
op_words (Learn d csr) = 2
op_words (Fetch d elem a) = operand_words a + 2
op_words (Write elem a b) = operand_words a + operand_words b + 1
op_words (IfZero a q) = operand_words a + 2
op_words (IfNot a q) = operand_words a + 2
op_words (Goto q) = 1
op_words (Split a) = operand_words a + 1
op_words Join = 1
op_words (Pred a m) = operand_words a + 2
op_words (Tmc a) = operand_words a + 1
op_words (Wspawn a q) = operand_words a + 3
op_words (Bar site) = 4
op_words (Trap pos) = 1
op_words Enter = 0
op_words (Leaves a q) = operand_words a + 2
op_words (Again q) = 1

abbrev pub words : List VOp → ℕ
words [] = 0
words (op ∷ ops) = op_words op + words ops
