-- What is known of the form of a kernel.
use Rattle.std.proofs.Common.{◌≡◌, ℕ, ◌^◌, ◌<◌, ◌≤◌, Bool, true, false, not, ◌&&◌, cond, leb, ltb, Option, Some, None, refl, ap, subst, ◌∙◌, arith}
use Rattle.std.specs.Prelude.{option_map, option_and_then}
use Rattle.std.proofs.lemmas.Bool.{leb-true, ltb-true}
use Rattle.std.proofs.lemmas.Bool.Decides.{nat_tests}
use Rattle.vx_base.specs.declared.types.Elem.{Elem}
use Rattle.vx_base.specs.declared.types.Elem.TheVariants.{Char, Uchar, Short, Ushort, Int, Uint}
use Rattle.vx_base.specs.declared.types.Pos.{Pos}
use Rattle.ocl_ast.specs.declared.stmts.AssignOp.TheVariants.{Set}
use Rattle.ocl_program.specs.declared.exprs.ArrayRef.{ArrayRef}
use Rattle.ocl_program.specs.declared.exprs.ArrayRef.TheVariants.{Parameter, Declared}
use Rattle.ocl_program.specs.Nodes.{ExprNode, NumberNode, VariableNode, UnaryNode, BinaryNode, BothNode, EitherNode, ChooseNode, CastNode, LoadNode, CallNode, BuiltinNode, ParenNode, SetElementNode}
use Rattle.first_kernels.specs.declared.tree.Operator.{Operator}
use Rattle.first_kernels.specs.FirstForms.{is_own_id, operator_of, own_parameter, applied, sum_from, assigned, assignment_from}
use Rattle.first_kernels.specs.FirstTree.{Tree, Literal, OwnId, OwnElement, Grouped, Applied, Assigns, height}
use Rattle.first_kernels.specs.FirstValues.{IsSumOf}

above_zero : (n : ℕ) → 0 < n → false ≡ leb n 0
above_zero n some = grind (arith, nat_tests)

-- no sum has height 0
pub height_some : (t : Tree) → false ≡ leb (height t) 0
height_some t = above_zero (height t) (positive t)
  where
    positive : (t : Tree) → 0 < height t
    positive (Literal n) = omega arith
    positive OwnId = omega arith
    positive (OwnElement p) = omega arith
    positive (Grouped t) = omega arith
    positive (Applied op l r) = omega arith

-- ---- what a kernel that has a form is

pub cond_is : {A : Type 0} (b : Bool) (x y : A) → cond b (Some x) None ≡ Some y → (b ≡ true) × (x ≡ y)
cond_is true x y e = (refl, cc)
cond_is false x y e = absurd cc

pub both_hold : (a b : Bool) → (a && b) ≡ true → (a ≡ true) × (b ≡ true)
both_hold true true e = (refl, refl)
both_hold true false e = absurd cc
both_hold false b e = absurd cc

pub own_is : (n : ℕ) (array : ArrayRef) (elem : Elem) (place : ExprNode) (p : ℕ) → own_parameter n array elem place ≡ Some p → (array ≡ Parameter p) × (elem ≡ Int) × (is_own_id place ≡ true) × (p < n)
own_is n (Parameter q) Int place p e =
    let g = cond_is (is_own_id place && ltb q n) q p e in
    let b = both_hold (is_own_id place) (ltb q n) g.0 in
    (ap Parameter g.1, refl, b.0, subst (λ (m : ℕ). m < n) g.1 (ltb-true q n b.1))
own_is n (Parameter q) Char place p e = absurd cc
own_is n (Parameter q) Uchar place p e = absurd cc
own_is n (Parameter q) Short place p e = absurd cc
own_is n (Parameter q) Ushort place p e = absurd cc
own_is n (Parameter q) Uint place p e = absurd cc
own_is n (Declared q) elem place p e = absurd cc

pub applied_is : (op : Option Operator) (l r : Option Tree) (t : Tree) → applied op l r ≡ Some t
    → (o : Operator) × (a : Tree) × (b : Tree) × (op ≡ Some o) × (l ≡ Some a) × (r ≡ Some b) × (Applied o a b ≡ t)
applied_is (Some op) (Some l) (Some r) t e = (op, l, r, refl, refl, refl, cc)
applied_is (Some op) (Some l) None t e = absurd cc
applied_is (Some op) None r t e = absurd cc
applied_is None l r t e = absurd cc

pub mapped_is : {A B : Type 0} (f : A → B) (o : Option A) (y : B) → option_map f o ≡ Some y → (x : A) × (o ≡ Some x) × (f x ≡ y)
mapped_is f (Some x) y e = (x, refl, cc)
mapped_is f None y e = absurd cc

bound_is : {A B : Type 0} (f : A → Option B) (o : Option A) (y : B) → option_and_then f o ≡ Some y → (x : A) × (o ≡ Some x) × (f x ≡ Some y)
bound_is f (Some x) y e = (x, refl, e)
bound_is f None y e = absurd cc

-- the numbers of the sum are words, and its elements are of parameters
pub sum_is : (n : ℕ) (e : ExprNode) (t : Tree) → sum_from n e ≡ Some t → IsSumOf n t
sum_is n (NumberNode k unsigned) t e =
    let g = cond_is (not unsigned && ltb k (2 ^ 31)) (Literal k) t e in
    let b = both_hold (not unsigned) (ltb k (2 ^ 31)) g.0 in
    subst (IsSumOf n) g.1 (ltb-true k (2 ^ 31) b.1)
sum_is n (BuiltinNode which unsigned args) t e =
    let g = cond_is (is_own_id (BuiltinNode which unsigned args)) OwnId t e in
    subst (IsSumOf n) g.1 tt
sum_is n (LoadNode array elem place pos) t e =
    let m = mapped_is OwnElement (own_parameter n array elem place) t e in
    subst (IsSumOf n) m.2 (own_is n array elem place m.0 m.1).3
sum_is n (ParenNode part) t e =
    let m = mapped_is Grouped (sum_from n part) t e in
    subst (IsSumOf n) m.2 (sum_is n part m.0 m.1)
sum_is n (BinaryNode op unsigned l r) t e =
    let a = applied_is (operator_of op) (sum_from n l) (sum_from n r) t e in
    subst (IsSumOf n) a.6 (sum_is n l a.1 a.4, sum_is n r a.2 a.5)
sum_is n (VariableNode variable elem) t e = absurd cc
sum_is n (UnaryNode op part) t e = absurd cc
sum_is n (BothNode l r) t e = absurd cc
sum_is n (EitherNode l r) t e = absurd cc
sum_is n (ChooseNode unsigned test one other) t e = absurd cc
sum_is n (CastNode elem part) t e = absurd cc
sum_is n (CallNode call args) t e = absurd cc

-- what an assignment is of: the statement's array, its place and its value
pub record IsAssigned (n : ℕ) (array : ArrayRef) (elem : Elem) (place value : ExprNode) (a : Assigns) : Type 0 where
  pub array_is : array ≡ Parameter a.parameter
  pub elem_is : elem ≡ Int
  pub own : is_own_id place ≡ true
  pub within : a.parameter < n
  pub sum : sum_from n value ≡ Some a.value
  pub low : height a.value ≤ 16

assigned_is : (p : ℕ) (sum : Option Tree) (a : Assigns) → assigned p sum ≡ Some a → (p ≡ a.parameter) × (sum ≡ Some a.value) × (height a.value ≤ 16)
assigned_is p None a e = absurd cc
assigned_is p (Some sum) a e =
    let made : Assigns = record { parameter = p; value = sum } in
    let g = cond_is (leb (height sum) 16) made a e in
    subst (λ (b : Assigns). (p ≡ b.parameter) × (Some sum ≡ Some b.value) × (height b.value ≤ 16)) g.1 (refl, refl, leb-true _ _ g.0)

pub assignment_is : (n : ℕ) (array : ArrayRef) (elem : Elem) (place value : ExprNode) (unsigned : Bool) (pos : Pos) (a : Assigns)
    → assignment_from n (SetElementNode array elem place Set unsigned (Some value) pos) ≡ Some a → IsAssigned n array elem place value a
assignment_is n array elem place value unsigned pos a e =
    let b = bound_is (λ p. assigned p (sum_from n value)) (own_parameter n array elem place) a e in
    let o = own_is n array elem place b.0 b.1 in
    let g = assigned_is b.0 (sum_from n value) a b.2 in
    record { array_is = o.0 ∙ ap Parameter g.0; elem_is = o.1; own = o.2; within = subst (λ (m : ℕ). m < n) g.0 o.3; sum = g.1; low = g.2 }
