-- Operations that only set variables from the first one on stand in front of others: what holds of the others holds of all, where it is
-- kept by each operation that sets a variable.
use Rattle.std.proofs.Common.{ℕ, suc, ◌≤◌, Bool, true, false, arith}
use Rattle.vx_base.specs.declared.types.Alu.{Alu}
use Rattle.vx_base.specs.declared.types.Alu.TheVariants as alu
use Rattle.vx_base.specs.declared.types.Elem.{Elem}
use Rattle.ocl_ast.specs.declared.exprs.BinOp.{BinOp}
use Rattle.ocl_ast.specs.declared.exprs.BinOp.TheVariants.{Mul, Div, Rem, Add, Sub, Shl, Shr, Lt, Gt, Le, Ge, Eq, Ne, And, Xor, Or}
use Rattle.ocl_ast.specs.declared.exprs.UnOp.{UnOp}
use Rattle.ocl_ast.specs.declared.exprs.UnOp.TheVariants.{Plus, Minus, Not, Flip}
use Rattle.ocl_program.specs.Values.{by_type}
use Rattle.ocl_program.specs.declared.exprs.Builtin.{Builtin}
use Rattle.ocl_program.specs.declared.exprs.Builtin.TheVariants as builtin
use Rattle.kir.specs.Trees.{Operand, VariableOf, NumberOf, Set, Calculate, Fit, Id, Ops, AndOp}
use Rattle.ocl_norm.specs.Operators.{truth_ops, unary_ops, less_ops, binary_ops, picked_ops, inverted, magnitude_ops, one_ops, two_ops}
use Rattle.ocl_norm.specs.Standings.{Standing, Fixed, Named, Made, copied, settled}

pub record InFront (P : Ops → Type 0) (d : ℕ) : Type 0 where
  pub set : (j : ℕ) (a : Operand) (x : Ops) → d ≤ j → P x → P (AndOp (Set j a) x)
  pub calculate : (j : ℕ) (op : Alu) (a b : Operand) (x : Ops) → d ≤ j → P x → P (AndOp (Calculate j op a b) x)
  pub fit : (j : ℕ) (elem : Elem) (a : Operand) (x : Ops) → d ≤ j → P x → P (AndOp (Fit j elem a) x)
  pub id : (j : ℕ) (which : Builtin) (a : Operand) (x : Ops) → d ≤ j → P x → P (AndOp (Id j which a) x)

-- from a later variable on
pub later : (P : Ops → Type 0) (d d' : ℕ) → d ≤ d' → InFront P d → InFront P d'
later P d d' le front = record {
  set = λ j a x more. front.set j a x (omega arith);
  calculate = λ j op a b x more. front.calculate j op a b x (omega arith);
  fit = λ j elem a x more. front.fit j elem a x (omega arith);
  id = λ j which a x more. front.id j which a x (omega arith);
}

pub truth_in : (P : Ops → Type 0) (d : ℕ) → InFront P d → (a : Operand) (c : Ops) → P c → P (truth_ops a d c)
truth_in P d front a c p = front.calculate d alu.Sltu (NumberOf 0) a c (omega arith) p

pub unary_in : (P : Ops → Type 0) (d : ℕ) → InFront P d → (op : UnOp) (a : Operand) (c : Ops) → P c → P (unary_ops op a d c)
unary_in P d front Plus a c p = front.set d a c (omega arith) p
unary_in P d front Minus a c p = front.calculate d alu.Sub (NumberOf 0) a c (omega arith) p
unary_in P d front Not a c p = front.calculate d alu.Sltu a (NumberOf 1) c (omega arith) p
unary_in P d front Flip a c p = front.calculate d alu.Xor a (NumberOf 4294967295) c (omega arith) p

less_in : (P : Ops → Type 0) (d : ℕ) → InFront P d → (unsigned : Bool) (a b : Operand) (c : Ops) → P c → P (less_ops unsigned a b d c)
less_in P d front unsigned a b c p = front.calculate d (by_type unsigned alu.Sltu alu.Slt) a b c (omega arith) p

inverted_in : (P : Ops → Type 0) (d : ℕ) → InFront P d → (c : Ops) → P c → P (inverted d c)
inverted_in P d front c p = front.calculate d alu.Xor (VariableOf d) (NumberOf 1) c (omega arith) p

pub binary_in : (P : Ops → Type 0) (d : ℕ) → InFront P d → (op : BinOp) (unsigned : Bool) (a b : Operand) (c : Ops) → P c → P (binary_ops op unsigned a b d c)
binary_in P d front Mul unsigned a b c p = front.calculate d alu.Mul a b c (omega arith) p
binary_in P d front Div unsigned a b c p = front.calculate d (by_type unsigned alu.Divu alu.Div) a b c (omega arith) p
binary_in P d front Rem unsigned a b c p = front.calculate d (by_type unsigned alu.Remu alu.Rem) a b c (omega arith) p
binary_in P d front Add unsigned a b c p = front.calculate d alu.Add a b c (omega arith) p
binary_in P d front Sub unsigned a b c p = front.calculate d alu.Sub a b c (omega arith) p
binary_in P d front Shl unsigned a b c p = front.calculate d alu.Sll a b c (omega arith) p
binary_in P d front Shr unsigned a b c p = front.calculate d (by_type unsigned alu.Srl alu.Sra) a b c (omega arith) p
binary_in P d front Lt unsigned a b c p = less_in P d front unsigned a b c p
binary_in P d front Gt unsigned a b c p = less_in P d front unsigned b a c p
binary_in P d front Le unsigned a b c p = less_in P d front unsigned b a (inverted d c) (inverted_in P d front c p)
binary_in P d front Ge unsigned a b c p = less_in P d front unsigned a b (inverted d c) (inverted_in P d front c p)
binary_in P d front Eq unsigned a b c p =
    front.calculate d alu.Xor a b (AndOp (Calculate d alu.Sltu (VariableOf d) (NumberOf 1)) c) (omega arith)
    (front.calculate d alu.Sltu (VariableOf d) (NumberOf 1) c (omega arith) p)
binary_in P d front Ne unsigned a b c p = front.calculate d alu.Xor a b (truth_ops (VariableOf d) d c) (omega arith) (truth_in P d front (VariableOf d) c p)
binary_in P d front And unsigned a b c p = front.calculate d alu.And a b c (omega arith) p
binary_in P d front Xor unsigned a b c p = front.calculate d alu.Xor a b c (omega arith) p
binary_in P d front Or unsigned a b c p = front.calculate d alu.Or a b c (omega arith) p

picked_in : (P : Ops → Type 0) (d : ℕ) → InFront P d → (a b : Operand) (c : Ops) → P c → P (picked_ops a b d c)
picked_in P d front a b c p =
    let x1 : Ops = AndOp (Calculate d alu.Xor a (VariableOf (suc d))) c in
    let x2 : Ops = AndOp (Calculate (suc d) alu.And (VariableOf (suc d)) (VariableOf (suc (suc d)))) x1 in
    let x3 : Ops = AndOp (Calculate (suc d) alu.Xor a b) x2 in
    front.calculate (suc (suc d)) alu.Sub (NumberOf 0) (VariableOf (suc (suc d))) x3 (omega arith)
    (front.calculate (suc d) alu.Xor a b x2 (omega arith)
    (front.calculate (suc d) alu.And (VariableOf (suc d)) (VariableOf (suc (suc d))) x1 (omega arith)
    (front.calculate d alu.Xor a (VariableOf (suc d)) c (omega arith) p)))

least_in : (P : Ops → Type 0) (d : ℕ) → InFront P d → (unsigned : Bool) (a b : Operand) (c : Ops) → P c
    → P (less_ops unsigned a b (suc (suc d)) c)
least_in P d front unsigned a b c p = front.calculate (suc (suc d)) (by_type unsigned alu.Sltu alu.Slt) a b c (omega arith) p

magnitude_in : (P : Ops → Type 0) (d : ℕ) → InFront P d → (unsigned : Bool) (a : Operand) (c : Ops) → P c → P (magnitude_ops unsigned a d c)
magnitude_in P d front true a c p = front.set d a c (omega arith) p
magnitude_in P d front false a c p =
    let x1 : Ops = AndOp (Calculate d alu.Sub (VariableOf d) (VariableOf (suc d))) c in
    let x2 : Ops = AndOp (Calculate d alu.Xor a (VariableOf (suc d))) x1 in
    front.calculate (suc d) alu.Sra a (NumberOf 31) x2 (omega arith)
    (front.calculate d alu.Xor a (VariableOf (suc d)) x1 (omega arith) (front.calculate d alu.Sub (VariableOf d) (VariableOf (suc d)) c (omega arith) p))

pub one_in : (P : Ops → Type 0) (d : ℕ) → InFront P d → (which : Builtin) (unsigned : Bool) (a : Operand) (c : Ops) → P c → P (one_ops which unsigned a d c)
one_in P d front builtin.Abs unsigned a c p = magnitude_in P d front unsigned a c p
one_in P d front builtin.WorkDim unsigned a c p = front.id d builtin.WorkDim a c (omega arith) p
one_in P d front builtin.GlobalId unsigned a c p = front.id d builtin.GlobalId a c (omega arith) p
one_in P d front builtin.LocalId unsigned a c p = front.id d builtin.LocalId a c (omega arith) p
one_in P d front builtin.GroupId unsigned a c p = front.id d builtin.GroupId a c (omega arith) p
one_in P d front builtin.GlobalSize unsigned a c p = front.id d builtin.GlobalSize a c (omega arith) p
one_in P d front builtin.LocalSize unsigned a c p = front.id d builtin.LocalSize a c (omega arith) p
one_in P d front builtin.NumGroups unsigned a c p = front.id d builtin.NumGroups a c (omega arith) p
one_in P d front builtin.GlobalOffset unsigned a c p = front.id d builtin.GlobalOffset a c (omega arith) p
one_in P d front builtin.Min unsigned a c p = front.id d builtin.Min a c (omega arith) p
one_in P d front builtin.Max unsigned a c p = front.id d builtin.Max a c (omega arith) p
one_in P d front builtin.Clamp unsigned a c p = front.id d builtin.Clamp a c (omega arith) p
one_in P d front builtin.MulHi unsigned a c p = front.id d builtin.MulHi a c (omega arith) p

high_in : (P : Ops → Type 0) (d : ℕ) → InFront P d → (unsigned : Bool) (a b : Operand) (c : Ops) → P c
    → P (AndOp (Calculate d (by_type unsigned alu.Mulhu alu.Mulh) a b) c)
high_in P d front unsigned a b c p = front.calculate d (by_type unsigned alu.Mulhu alu.Mulh) a b c (omega arith) p

pub two_in : (P : Ops → Type 0) (d : ℕ) → InFront P d → (which : Builtin) (unsigned : Bool) (a b : Operand) (c : Ops) → P c → P (two_ops which unsigned a b d c)
two_in P d front builtin.Min unsigned a b c p = least_in P d front unsigned b a (picked_ops a b d c) (picked_in P d front a b c p)
two_in P d front builtin.Max unsigned a b c p = least_in P d front unsigned a b (picked_ops a b d c) (picked_in P d front a b c p)
two_in P d front builtin.WorkDim unsigned a b c p = high_in P d front unsigned a b c p
two_in P d front builtin.GlobalId unsigned a b c p = high_in P d front unsigned a b c p
two_in P d front builtin.LocalId unsigned a b c p = high_in P d front unsigned a b c p
two_in P d front builtin.GroupId unsigned a b c p = high_in P d front unsigned a b c p
two_in P d front builtin.GlobalSize unsigned a b c p = high_in P d front unsigned a b c p
two_in P d front builtin.LocalSize unsigned a b c p = high_in P d front unsigned a b c p
two_in P d front builtin.NumGroups unsigned a b c p = high_in P d front unsigned a b c p
two_in P d front builtin.GlobalOffset unsigned a b c p = high_in P d front unsigned a b c p
two_in P d front builtin.Clamp unsigned a b c p = high_in P d front unsigned a b c p
two_in P d front builtin.Abs unsigned a b c p = high_in P d front unsigned a b c p
two_in P d front builtin.MulHi unsigned a b c p = high_in P d front unsigned a b c p

-- ---- a value that is held, or has to stand in the first variable

pub copied_in : (P : Ops → Type 0) (d : ℕ) → InFront P d → (calls : Bool) (s : Standing) (c : Ops) → P c → P (copied calls s d c)
copied_in P d front true (Fixed n) c p = p
copied_in P d front true (Named k) c p = front.set d (VariableOf k) c (omega arith) p
copied_in P d front true Made c p = p
copied_in P d front false (Fixed n) c p = p
copied_in P d front false (Named k) c p = p
copied_in P d front false Made c p = p

pub settled_in : (P : Ops → Type 0) (d : ℕ) → InFront P d → (s : Standing) (c : Ops) → P c → P (settled s d c)
settled_in P d front (Fixed n) c p = front.set d (NumberOf n) c (omega arith) p
settled_in P d front (Named k) c p = front.set d (VariableOf k) c (omega arith) p
settled_in P d front Made c p = p
