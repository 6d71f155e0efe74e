-- Operations whose variables are numbered below a bound and whose numbers are words, and settings of which items learn words.
use Rattle.std.specs.Prelude.{ℕ, ◌<◌, ◌^◌}
use Rattle.ocl_program.specs.declared.exprs.Builtin.{Builtin}
use Rattle.item_settings.specs.Settings.{Setting}
use Rattle.kir.specs.Machine.{known_of}
use Rattle.kir.specs.Trees.{Operand, VariableOf, NumberOf, Op, Set, Calculate, Fit, Id, Load, Store, Check, Barrier, If, Loop, Call, Ops, NoOps, AndOp}

abbrev pub IsBelow : ℕ → Operand → Type 0
IsBelow count (VariableOf k) = k < count
IsBelow count (NumberOf n) = n < 2 ^ 32

abbrev mutual
  pub AreBelow : ℕ → Ops → Type 0
  AreBelow count NoOps = Unit {0}
  AreBelow count (AndOp op ops) = OpBelow count op × AreBelow count ops

  pub OpBelow : ℕ → Op → Type 0
  OpBelow count (Set d a) = (d < count) × IsBelow count a
  OpBelow count (Calculate d op a b) = (d < count) × IsBelow count a × IsBelow count b
  OpBelow count (Fit d elem a) = (d < count) × IsBelow count a
  OpBelow count (Id d which a) = (d < count) × IsBelow count a
  OpBelow count (Load d array elem a) = (d < count) × IsBelow count a
  OpBelow count (Store array elem a b) = IsBelow count a × IsBelow count b
  OpBelow count (Check array a pos) = IsBelow count a
  OpBelow count (Barrier site) = Unit {0}
  OpBelow count (If test one other) = IsBelow count test × AreBelow count one × AreBelow count other
  OpBelow count (Loop head test body step) = IsBelow count test × AreBelow count head × AreBelow count body × AreBelow count step
  OpBelow count (Call body) = AreBelow count body
  OpBelow count other = Unit {0}

-- what an item learns of its launch are words
abbrev pub GivesWords : Setting → Type 0
GivesWords at = (which : Builtin) (d : ℕ) → known_of at which d < 2 ^ 32
