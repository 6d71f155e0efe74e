-- The operations that an operator or a built-in function comes to. Their value goes into a variable; the two behind it may be used on the
-- way. The operations that follow stand last.
use Rattle.std.specs.Prelude.{ℕ, suc, Bool, true, false}
use Rattle.vx_base.specs.declared.types.Alu.{Alu}
use Rattle.vx_base.specs.declared.types.Alu.TheVariants as alu
use Rattle.ocl_ast.specs.declared.exprs.BinOp.{BinOp}
use Rattle.ocl_ast.specs.declared.exprs.BinOp.TheVariants.{Mul, Div, Rem, Add, Sub, Shl, Shr, Lt, Gt, Le, Ge, Eq, Ne, And, Xor, Or}
use Rattle.ocl_ast.specs.declared.exprs.UnOp.{UnOp}
use Rattle.ocl_ast.specs.declared.exprs.UnOp.TheVariants.{Plus, Minus, Not, Flip}
use Rattle.ocl_program.specs.Values.{by_type}
use Rattle.ocl_program.specs.declared.exprs.Builtin.{Builtin}
use Rattle.ocl_program.specs.declared.exprs.Builtin.TheVariants.{Min, Max, Abs}
use Rattle.kir.specs.Trees.{Operand, VariableOf, NumberOf, Set, Calculate, Id, Ops, AndOp}

abbrev pub calculated : ℕ → Alu → Operand → Operand → Ops → Ops
calculated d op a b c = AndOp (Calculate d op a b) c

-- 1 where a is not 0, else 0
abbrev pub truth_ops : Operand → ℕ → Ops → Ops
truth_ops a d c = calculated d alu.Sltu (NumberOf 0) a c

abbrev pub unary_ops : UnOp → Operand → ℕ → Ops → Ops
unary_ops Plus a d c = AndOp (Set d a) c
unary_ops Minus a d c = calculated d alu.Sub (NumberOf 0) a c
unary_ops Not a d c = calculated d alu.Sltu a (NumberOf 1) c
unary_ops Flip a d c = calculated d alu.Xor a (NumberOf 4294967295) c

-- 1 where a is less than b, else 0
abbrev pub less_ops : Bool → Operand → Operand → ℕ → Ops → Ops
less_ops unsigned a b d c = calculated d (by_type unsigned alu.Sltu alu.Slt) a b c

-- 1 in place of 0, and 0 in place of 1
abbrev pub inverted : ℕ → Ops → Ops
inverted d c = calculated d alu.Xor (VariableOf d) (NumberOf 1) c

abbrev pub binary_ops : BinOp → Bool → Operand → Operand → ℕ → Ops → Ops
binary_ops Mul unsigned a b d c = calculated d alu.Mul a b c
binary_ops Div unsigned a b d c = calculated d (by_type unsigned alu.Divu alu.Div) a b c
binary_ops Rem unsigned a b d c = calculated d (by_type unsigned alu.Remu alu.Rem) a b c
binary_ops Add unsigned a b d c = calculated d alu.Add a b c
binary_ops Sub unsigned a b d c = calculated d alu.Sub a b c
binary_ops Shl unsigned a b d c = calculated d alu.Sll a b c
binary_ops Shr unsigned a b d c = calculated d (by_type unsigned alu.Srl alu.Sra) a b c
binary_ops Lt unsigned a b d c = less_ops unsigned a b d c
binary_ops Gt unsigned a b d c = less_ops unsigned b a d c
binary_ops Le unsigned a b d c = less_ops unsigned b a d (inverted d c)
binary_ops Ge unsigned a b d c = less_ops unsigned a b d (inverted d c)
binary_ops Eq unsigned a b d c = calculated d alu.Xor a b (calculated d alu.Sltu (VariableOf d) (NumberOf 1) c)
binary_ops Ne unsigned a b d c = calculated d alu.Xor a b (truth_ops (VariableOf d) d c)
binary_ops And unsigned a b d c = calculated d alu.And a b c
binary_ops Xor unsigned a b d c = calculated d alu.Xor a b c
binary_ops Or unsigned a b d c = calculated d alu.Or a b c

-- Without a branch: b where `suc (suc d)` is 1, and a where it is 0. All bits that differ are changed, or none.
abbrev pub picked_ops : Operand → Operand → ℕ → Ops → Ops
picked_ops a b d c =
    calculated (suc (suc d)) alu.Sub (NumberOf 0) (VariableOf (suc (suc d)))
    (calculated (suc d) alu.Xor a b
    (calculated (suc d) alu.And (VariableOf (suc d)) (VariableOf (suc (suc d)))
    (calculated d alu.Xor a (VariableOf (suc d)) c)))

abbrev pub least_ops : Bool → Operand → Operand → ℕ → Ops → Ops
least_ops unsigned a b d c = less_ops unsigned b a (suc (suc d)) (picked_ops a b d c)

abbrev pub greatest_ops : Bool → Operand → Operand → ℕ → Ops → Ops
greatest_ops unsigned a b d c = less_ops unsigned a b (suc (suc d)) (picked_ops a b d c)

-- without a branch too: the sign, spread over the word, is exclusive-ored and taken off
abbrev pub magnitude_ops : Bool → Operand → ℕ → Ops → Ops
magnitude_ops true a d c = AndOp (Set d a) c
magnitude_ops false a d c =
    calculated (suc d) alu.Sra a (NumberOf 31)
    (calculated d alu.Xor a (VariableOf (suc d))
    (calculated d alu.Sub (VariableOf d) (VariableOf (suc d)) c))

-- ---- built-in functions, by how many arguments they have

abbrev pub one_ops : Builtin → Bool → Operand → ℕ → Ops → Ops
one_ops Abs unsigned a d c = magnitude_ops unsigned a d c
one_ops which unsigned a d c = AndOp (Id d which a) c

abbrev pub two_ops : Builtin → Bool → Operand → Operand → ℕ → Ops → Ops
two_ops Min unsigned a b d c = least_ops unsigned a b d c
two_ops Max unsigned a b d c = greatest_ops unsigned a b d c
two_ops which unsigned a b d c = calculated d (by_type unsigned alu.Mulhu alu.Mulh) a b c
