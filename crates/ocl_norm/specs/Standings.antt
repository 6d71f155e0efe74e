-- Where the value of an expression stands once it is evaluated, and how it stays there. An expression has the variables from some number
-- on for itself: its value is a number, a variable of the kernel, or the first of these.
use Rattle.std.specs.Prelude.{ℕ, suc, Bool, true, false}
use Rattle.kir.specs.Trees.{Operand, VariableOf, NumberOf, Set, Ops, AndOp}
use Rattle.ocl_inline.specs.Trees.{FlatExpr, NumberFlat, VariableFlat, LostFlat, ParenFlat, FlatValue, NoFlat, SomeFlat}

pub data Standing : Type 0 where
  Fixed : ℕ → Standing
  Named : ℕ → Standing
  Made : Standing

abbrev pub standing : FlatExpr → Standing
standing (NumberFlat n unsigned) = Fixed n
standing (VariableFlat k) = Named k
standing (LostFlat args) = Fixed 0
standing (ParenFlat part) = standing part
standing other = Made

-- the right side of an assignment: of `++` and `--` it is 1
abbrev pub right_standing : FlatValue → Standing
right_standing NoFlat = Fixed 1
right_standing (SomeFlat e) = standing e

-- the value, where the first variable is this one
abbrev pub operand_at : Standing → ℕ → Operand
operand_at (Fixed n) first = NumberOf n
operand_at (Named k) first = VariableOf k
operand_at Made first = VariableOf first

-- ---- a value that is used only behind the evaluation of another part, which may have calls

-- A call may change the kernel's variables, so the value of one is copied before.
abbrev pub copied : Bool → Standing → ℕ → Ops → Ops
copied true (Named k) first c = AndOp (Set first (VariableOf k)) c
copied calls s first c = c

abbrev pub held_at : Bool → Standing → ℕ → Operand
held_at calls (Fixed n) first = NumberOf n
held_at true (Named k) first = VariableOf first
held_at false (Named k) first = VariableOf k
held_at calls Made first = VariableOf first

-- the first variable that the other part has for itself
abbrev pub above : Bool → Standing → ℕ → ℕ
above calls (Fixed n) first = first
above true (Named k) first = suc first
above false (Named k) first = first
above calls Made first = suc first

-- ---- a value that has to stand in the first variable

abbrev pub settled : Standing → ℕ → Ops → Ops
settled Made first c = c
settled s first c = AndOp (Set first (operand_at s first)) c
