-- How many words of code the parts of operations come to at most, once jumps are flags.
use Rattle.std.proofs.Common.{ℕ, zero, suc, ◌+◌, ◌*◌, ◌≤◌, Bool, true, false, arith}
use Rattle.vx_base.specs.declared.types.Elem.{Elem}
use Rattle.vx_base.specs.declared.types.Pos.{Pos}
use Rattle.ocl_ast.specs.declared.exprs.BinOp.{BinOp}
use Rattle.ocl_ast.specs.declared.exprs.BinOp.TheVariants.{Mul, Div, Rem, Add, Sub, Shl, Shr, Lt, Gt, Le, Ge, Eq, Ne, And, Xor, Or}
use Rattle.ocl_ast.specs.declared.exprs.UnOp.{UnOp}
use Rattle.ocl_ast.specs.declared.exprs.UnOp.TheVariants.{Plus, Minus, Not, Flip}
use Rattle.ocl_ast.specs.declared.units.Gives.{Gives}
use Rattle.ocl_ast.specs.declared.units.Gives.TheVariants.{Nothing, Value}
use Rattle.ocl_program.specs.declared.exprs.ArrayRef.{ArrayRef}
use Rattle.ocl_program.specs.declared.exprs.ArrayRef.TheVariants.{Parameter, Declared}
use Rattle.ocl_program.specs.declared.exprs.Builtin.{Builtin}
use Rattle.ocl_program.specs.declared.exprs.Builtin.TheVariants as builtin
use Rattle.kir.specs.FlaggedWords.{flagged_words}
use Rattle.kir.specs.Measures.{runs}
use Rattle.kir.specs.Trees.{Operand, VariableOf, NumberOf, Set, Calculate, Fit, Id, Load, Store, Check, Barrier, If, Loop, Break, Continue, Return, Call, Ops, NoOps, AndOp}
use Rattle.kir.specs.Weights.{operand_words, test_words, count_words}
use Rattle.ocl_inline.specs.declared.trees.Binding.{Binding}
use Rattle.ocl_inline.specs.declared.trees.Binding.TheVariants.{Variable as ToVariable, Dropped}
use Rattle.ocl_norm.specs.Normal.{Fragment, bound_ops, load_ops, store_ops, restore_ops, given_ops}
use Rattle.ocl_norm.specs.Operators.{truth_ops, unary_ops, binary_ops, one_ops, two_ops}
use Rattle.ocl_norm.specs.Rooms.{one_room}
use Rattle.ocl_norm.specs.Standings.{Standing, Fixed, Named, Made, operand_at, copied, settled}

-- ---- runs and operands

-- a run that goes on is not begun
pub runs_fewer : (c : Ops) → runs true c ≤ runs false c
runs_fewer NoOps = omega arith
runs_fewer (AndOp (Set d a) c) = omega arith
runs_fewer (AndOp (Calculate d op a b) c) = omega arith
runs_fewer (AndOp (Fit d elem a) c) = omega arith
runs_fewer (AndOp (Id d which a) c) = omega arith
runs_fewer (AndOp (Load d array elem a) c) = omega arith
runs_fewer (AndOp (Store array elem a b) c) = omega arith
runs_fewer (AndOp (Check array a pos) c) = omega arith
runs_fewer (AndOp (Barrier site) c) = omega arith
runs_fewer (AndOp (If test one other) c) = omega arith
runs_fewer (AndOp (Loop head test body st) c) = omega arith
runs_fewer (AndOp Break c) = omega arith
runs_fewer (AndOp Continue c) = omega arith
runs_fewer (AndOp Return c) = omega arith
runs_fewer (AndOp (Call body) c) = omega arith

pub operand_most : (a : Operand) → operand_words a ≤ 2
operand_most (VariableOf k) = omega arith
operand_most (NumberOf n) = omega arith

pub test_most : (a : Operand) → test_words a ≤ 3
test_most (VariableOf k) = omega arith
test_most (NumberOf n) = omega arith

count_most : (array : ArrayRef) → count_words array ≤ 3
count_most (Parameter k) = omega arith
count_most (Declared k) = omega arith

-- ---- operators

-- operations that come to at most so many words, in front of others
abbrev pub Adds : ℕ → Fragment → Type 0
Adds w part = (d : ℕ) (c : Ops) → flagged_words (part d c) ≤ w + flagged_words c

pub truth_adds : (a : Operand) → Adds 15 (truth_ops a)
truth_adds a d c = let o : operand_words a ≤ 2 = operand_most a in let r : runs true c ≤ runs false c = runs_fewer c in omega arith

unary_most : (op : UnOp) (a : Operand) (d : ℕ) (c : Ops) → operand_words a ≤ 2 → runs true c ≤ runs false c → flagged_words (unary_ops op a d c) ≤ 15 + flagged_words c
unary_most Plus a d c o r = omega arith
unary_most Minus a d c o r = omega arith
unary_most Not a d c o r = omega arith
unary_most Flip a d c o r = omega arith

pub unary_adds : (op : UnOp) (a : Operand) → Adds 15 (unary_ops op a)
unary_adds op a d c = unary_most op a d c (operand_most a) (runs_fewer c)

binary_most : (op : BinOp) (unsigned : Bool) (a b : Operand) (d : ℕ) (c : Ops) → operand_words a ≤ 2 → operand_words b ≤ 2 → runs true c ≤ runs false c
    → flagged_words (binary_ops op unsigned a b d c) ≤ 20 + flagged_words c
binary_most Mul unsigned a b d c o o' r = omega arith
binary_most Div unsigned a b d c o o' r = omega arith
binary_most Rem unsigned a b d c o o' r = omega arith
binary_most Add unsigned a b d c o o' r = omega arith
binary_most Sub unsigned a b d c o o' r = omega arith
binary_most Shl unsigned a b d c o o' r = omega arith
binary_most Shr unsigned a b d c o o' r = omega arith
binary_most Lt unsigned a b d c o o' r = omega arith
binary_most Gt unsigned a b d c o o' r = omega arith
binary_most Le unsigned a b d c o o' r = omega arith
binary_most Ge unsigned a b d c o o' r = omega arith
binary_most Eq unsigned a b d c o o' r = omega arith
binary_most Ne unsigned a b d c o o' r = omega arith
binary_most And unsigned a b d c o o' r = omega arith
binary_most Xor unsigned a b d c o o' r = omega arith
binary_most Or unsigned a b d c o o' r = omega arith

pub binary_adds : (op : BinOp) (unsigned : Bool) (a b : Operand) → Adds 20 (binary_ops op unsigned a b)
binary_adds op unsigned a b d c = binary_most op unsigned a b d c (operand_most a) (operand_most b) (runs_fewer c)

-- ---- built-in functions

two_most : (which : Builtin) (unsigned : Bool) (a b : Operand) (d : ℕ) (c : Ops) → operand_words a ≤ 2 → operand_words b ≤ 2 → runs true c ≤ runs false c
    → flagged_words (two_ops which unsigned a b d c) ≤ 35 + flagged_words c
two_most builtin.Min unsigned a b d c o o' r = omega arith
two_most builtin.Max unsigned a b d c o o' r = omega arith
two_most builtin.WorkDim unsigned a b d c o o' r = omega arith
two_most builtin.GlobalId unsigned a b d c o o' r = omega arith
two_most builtin.LocalId unsigned a b d c o o' r = omega arith
two_most builtin.GroupId unsigned a b d c o o' r = omega arith
two_most builtin.GlobalSize unsigned a b d c o o' r = omega arith
two_most builtin.LocalSize unsigned a b d c o o' r = omega arith
two_most builtin.NumGroups unsigned a b d c o o' r = omega arith
two_most builtin.GlobalOffset unsigned a b d c o o' r = omega arith
two_most builtin.Clamp unsigned a b d c o o' r = omega arith
two_most builtin.Abs unsigned a b d c o o' r = omega arith
two_most builtin.MulHi unsigned a b d c o o' r = omega arith

pub two_adds : (which : Builtin) (unsigned : Bool) (a b : Operand) → Adds 35 (two_ops which unsigned a b)
two_adds which unsigned a b d c = two_most which unsigned a b d c (operand_most a) (operand_most b) (runs_fewer c)

-- the least of a variable and another value
pub least_adds : (unsigned : Bool) (k : ℕ) (b : Operand) → Adds 32 (two_ops builtin.Min unsigned (VariableOf k) b)
least_adds unsigned k b d c = let o : operand_words b ≤ 2 = operand_most b in let r : runs true c ≤ runs false c = runs_fewer c in omega arith

magnitude_most : (unsigned : Bool) (a : Operand) (d : ℕ) (c : Ops) → operand_words a ≤ 2 → runs true c ≤ runs false c → flagged_words (one_ops builtin.Abs unsigned a d c) ≤ 24 + flagged_words c
magnitude_most true a d c o r = omega arith
magnitude_most false a d c o r = omega arith

pub id_adds : (which : Builtin) → Adds 12 (λ d c. AndOp (Id d which (NumberOf 0)) c)
id_adds which d c = let r : runs true c ≤ runs false c = runs_fewer c in omega arith

-- of a dimension by where it stands
one_by : (which : Builtin) (s : Standing) (d : ℕ) (c : Ops) → runs true c ≤ runs false c
    → flagged_words (AndOp (Id d which (operand_at s d)) c) + 1 ≤ 38 + flagged_words c
one_by which (Fixed zero) d c r = omega arith
one_by which (Fixed (suc n)) d c r = omega arith
one_by which (Named k) d c r = omega arith
one_by which Made d c r = omega arith

-- with the variables that it uses
pub one_adds : (which : Builtin) (unsigned : Bool) (s : Standing) (d : ℕ) (c : Ops)
    → flagged_words (one_ops which unsigned (operand_at s d) d c) + one_room which ≤ 38 + flagged_words c
one_adds builtin.Abs unsigned s d c =
    let h : flagged_words (one_ops builtin.Abs unsigned (operand_at s d) d c) ≤ 24 + flagged_words c =
    magnitude_most unsigned (operand_at s d) d c (operand_most (operand_at s d)) (runs_fewer c) in omega arith
one_adds builtin.WorkDim unsigned s d c = one_by builtin.WorkDim s d c (runs_fewer c)
one_adds builtin.GlobalId unsigned s d c = one_by builtin.GlobalId s d c (runs_fewer c)
one_adds builtin.LocalId unsigned s d c = one_by builtin.LocalId s d c (runs_fewer c)
one_adds builtin.GroupId unsigned s d c = one_by builtin.GroupId s d c (runs_fewer c)
one_adds builtin.GlobalSize unsigned s d c = one_by builtin.GlobalSize s d c (runs_fewer c)
one_adds builtin.LocalSize unsigned s d c = one_by builtin.LocalSize s d c (runs_fewer c)
one_adds builtin.NumGroups unsigned s d c = one_by builtin.NumGroups s d c (runs_fewer c)
one_adds builtin.GlobalOffset unsigned s d c = one_by builtin.GlobalOffset s d c (runs_fewer c)
one_adds builtin.Min unsigned s d c = one_by builtin.Min s d c (runs_fewer c)
one_adds builtin.Max unsigned s d c = one_by builtin.Max s d c (runs_fewer c)
one_adds builtin.Clamp unsigned s d c = one_by builtin.Clamp s d c (runs_fewer c)
one_adds builtin.MulHi unsigned s d c = one_by builtin.MulHi s d c (runs_fewer c)

-- ---- single operations

pub set_adds : (variable : ℕ) (a : Operand) (c : Ops) → flagged_words (AndOp (Set variable a) c) ≤ 12 + flagged_words c
set_adds variable a c = let o : operand_words a ≤ 2 = operand_most a in let r : runs true c ≤ runs false c = runs_fewer c in omega arith

pub fit_adds : (variable : ℕ) (elem : Elem) (a : Operand) (c : Ops) → flagged_words (AndOp (Fit variable elem a) c) ≤ 14 + operand_words a + flagged_words c
fit_adds variable elem a c = let r : runs true c ≤ runs false c = runs_fewer c in omega arith

pub bound_adds : (binding : Binding) (a : Operand) (c : Ops) → flagged_words (bound_ops binding a c) ≤ 14 + operand_words a + flagged_words c
bound_adds (ToVariable variable elem) a c = fit_adds variable elem a c
bound_adds Dropped a c = omega arith

pub given_adds : (gives : Gives) (a : Operand) (result : ℕ) (c : Ops) → flagged_words (given_ops gives a result c) ≤ 16 + flagged_words c
given_adds Nothing a result c = let h : flagged_words (AndOp (Set result a) c) ≤ 12 + flagged_words c = set_adds result a c in omega arith
given_adds (Value elem) a result c =
    let h : flagged_words (AndOp (Fit result elem a) c) ≤ 14 + operand_words a + flagged_words c = fit_adds result elem a c in
    let o : operand_words a ≤ 2 = operand_most a in omega arith

pub load_adds : (array : ArrayRef) (elem : Elem) (pos : Pos) (place : Operand) (d : ℕ) (c : Ops)
    → flagged_words (load_ops array elem pos place d c) ≤ 35 + 2 * operand_words place + flagged_words c
load_adds array elem pos place d c = let n : count_words array ≤ 3 = count_most array in let r : runs true c ≤ runs false c = runs_fewer c in omega arith

pub store_adds : (array : ArrayRef) (elem : Elem) (pos : Pos) (place value : Operand) (c : Ops) → flagged_words (store_ops array elem pos place value c) ≤ 40 + flagged_words c
store_adds array elem pos place value c =
    let n : count_words array ≤ 3 = count_most array in
    let o : operand_words place ≤ 2 = operand_most place in
    let o' : operand_words value ≤ 2 = operand_most value in
    let r : runs true c ≤ runs false c = runs_fewer c in omega arith

-- one that is checked again, and one that is not
abbrev pub restore_words : Bool → ℕ
restore_words true = 40
restore_words false = 23

pub restore_adds : (checks : Bool) (array : ArrayRef) (elem : Elem) (pos : Pos) (place value : Operand) (c : Ops)
    → flagged_words (restore_ops checks array elem pos place value c) ≤ restore_words checks + flagged_words c
restore_adds true array elem pos place value c = store_adds array elem pos place value c
restore_adds false array elem pos place value c =
    let o : operand_words place ≤ 2 = operand_most place in
    let o' : operand_words value ≤ 2 = operand_most value in
    let r : runs true c ≤ runs false c = runs_fewer c in omega arith

pub copied_adds : (calls : Bool) (s : Standing) → Adds 11 (copied calls s)
copied_adds true (Fixed n) d c = omega arith
copied_adds false (Fixed n) d c = omega arith
copied_adds true (Named k) d c = let r : runs true c ≤ runs false c = runs_fewer c in omega arith
copied_adds false (Named k) d c = omega arith
copied_adds true Made d c = omega arith
copied_adds false Made d c = omega arith

pub settled_adds : (s : Standing) → Adds 12 (settled s)
settled_adds (Fixed n) d c = set_adds d (NumberOf n) c
settled_adds (Named k) d c = set_adds d (VariableOf k) c
settled_adds Made d c = omega arith
