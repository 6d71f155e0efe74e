-- Which plain operation an operation of `src/` is, and operations that are put one behind another.
use Rattle.std.specs.Prelude.{◌≡◌, List, [], ◌∷◌}
use Rattle.kir.specs.Shapes.{operand_of}
use Rattle.vcode.specs.declared.ops.VCode.{VCode}
use Rattle.vcode.specs.declared.ops.VOp.{VOp as HeldOp}
use Rattle.vcode.specs.declared.ops.VOp.TheVariants as held
use Rattle.vcode.specs.Code.{VOp, Fresh, Copy, Compute, Cut, Word, WordAt, Learn, Fetch, Write, IfZero, IfNot, Goto, Split, Join, Pred, Tmc, Wspawn, Bar, Trap, Enter, Leaves, Again, Code}

abbrev pub vop_of : HeldOp → VOp
vop_of held.Fresh = Fresh
vop_of (held.Copy d a) = Copy d (operand_of a)
vop_of (held.Compute d op a b) = Compute d op (operand_of a) (operand_of b)
vop_of (held.Cut d elem a) = Cut d elem (operand_of a)
vop_of (held.Word d k) = Word d k
vop_of (held.WordAt d a k) = WordAt d (operand_of a) k
vop_of (held.Learn d csr) = Learn d csr
vop_of (held.Fetch d elem a) = Fetch d elem (operand_of a)
vop_of (held.Write elem a b) = Write elem (operand_of a) (operand_of b)
vop_of (held.IfZero a q) = IfZero (operand_of a) q
vop_of (held.IfNot a q) = IfNot (operand_of a) q
vop_of (held.Goto q) = Goto q
vop_of (held.Split a) = Split (operand_of a)
vop_of held.Join = Join
vop_of (held.Pred a m) = Pred (operand_of a) m
vop_of (held.Tmc a) = Tmc (operand_of a)
vop_of (held.Wspawn a q) = Wspawn (operand_of a) q
vop_of (held.Bar site) = Bar site
vop_of (held.Trap pos) = Trap pos
vop_of held.Enter = Enter
vop_of (held.Leaves a q) = Leaves (operand_of a) q
vop_of (held.Again q) = Again q

-- the plain operations in order, and in front of others
abbrev pub vops_of : List HeldOp → List VOp
vops_of [] = []
vops_of (op ∷ ops) = vop_of op ∷ vops_of ops

abbrev pub onto : List HeldOp → List VOp → List VOp
onto [] c = c
onto (op ∷ ops) c = vop_of op ∷ onto ops c

-- Behind the operations before stand those that `f` puts in front of what follows.
abbrev pub Puts : List HeldOp → List HeldOp → (List VOp → List VOp) → Type 0
Puts before after f = (c : List VOp) → onto after c ≡ onto before (f c)

-- the plain form of a kernel
abbrev pub vcode_of : VCode → Code
vcode_of code = record { params = code.params; arrays = code.arrays.items; registers = code.registers; ops = vops_of code.ops.items }
