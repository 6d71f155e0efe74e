-- Operations that are put one behind another.
use Rattle.std.specs.Prelude.{◌≡◌, ℕ, List, [], ◌∷◌}
use Rattle.kir.specs.declared.ops.Op.{Op as HeldOp}
use Rattle.kir.specs.Shapes.{op_of}
use Rattle.kir.specs.Trees.{Operand, Set, Ops, AndOp}

-- operations in front of others
abbrev pub onto : List HeldOp → Ops → Ops
onto [] c = c
onto (op ∷ ops) c = AndOp (op_of op) (onto ops c)

-- Behind the operations before stand those that `f` puts in front of what follows.
abbrev pub Puts : List HeldOp → List HeldOp → (Ops → Ops) → Type 0
Puts before after f = (c : Ops) → onto after c ≡ onto before (f c)

-- a value into a variable, in front of others
abbrev pub set_op : ℕ → Operand → Ops → Ops
set_op d a c = AndOp (Set d a) c
