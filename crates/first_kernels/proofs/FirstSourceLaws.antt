-- The launch of a kernel of assignments, by the work-item semantics, leaves what that of its form leaves.
use Rattle.std.proofs.Common.{◌≡◌, ℕ, zero, suc, ◌+◌, ◌*◌, ◌/◌, ◌%◌, ◌^◌, ◌<◌, ◌≤◌, true, false, cond, leb, ltb, List, [], ◌∷◌, length, Some, None, refl, sym, ap, subst, ◌∙◌, arith}
use Rattle.std.specs.Prelude.{replicate, slice_get, slice_index}
use Rattle.std.specs.List.{AllByRecursion, list_all}
use Rattle.std.proofs.Math.Nat.{div-eq_of_lt, mod-eq_of_lt, zero-mod}
use Rattle.std.proofs.lemmas.Bool.{leb-true}
use Rattle.vx_base.specs.declared.types.ParamKind.{ParamKind}
use Rattle.vx_base.specs.declared.types.ParamKind.TheVariants.{Scalar, Pointer}
use Rattle.vx_base.specs.declared.types.Elem.TheVariants.{Char, Uchar, Short, Ushort, Int, Uint}
use Rattle.vx_base.specs.declared.types.Space.TheVariants as space
use Rattle.item_acts.specs.declared.acts.Bound.TheVariants.{Array}
use Rattle.item_acts.specs.Tame.{LaunchLeaves}
use Rattle.ocl_ast.specs.declared.units.Param.{Param}
use Rattle.ocl_program.specs.declared.exprs.ArrayRef.TheVariants.{Parameter}
use Rattle.ocl_ast.specs.declared.stmts.AssignOp.TheVariants.{Set, With, Up, Down}
use Rattle.ocl_program.specs.Nodes.{StmtNode, DeclareNode, LocalArrayNode, SetVariableNode, SetElementNode, CallStmtNode, BarrierNode, IfNode, IfElseNode, WhileNode, DoNode, ForNode, BreakNode, ContinueNode, ReturnNode, BlockNode, EmptyNode, StmtNodes, NoStmts, AndStmt, FunctionNode}
use Rattle.item_settings.specs.Settings.{bound_values, global_id, bound_array}
use Rattle.ocl_sem.specs.Settings.{setting_of, array_of}
use Rattle.ocl_sem.specs.Items.{kernel_asks, kernel_scope}
use Rattle.first_kernels.specs.First.{launch_of, array_of as buffer_of}
use Rattle.first_kernels.specs.FirstForms.{form_from, formed, has_int_arrays, is_count, is_int_array, takes_ints, assignment_from, assignments_from, IsFit}
use Rattle.first_kernels.specs.FirstSources.{one_group, int_bounds, source_launch}
use Rattle.first_kernels.specs.FirstTree.{Assigns, Form, height}
use Rattle.first_kernels.specs.FirstValues.{IsAssignmentOf, IsLaunchable}
use Rattle.first_kernels.proofs.FirstAsks.{body_alike, followed_is, int_buffer}
use Rattle.first_kernels.proofs.FirstFormLaws.{both_hold, mapped_is, sum_is, assignment_is}
use Rattle.first_kernels.proofs.SameLaunches.{leaves_there}

-- what a kernel that has a form is
pub record HasForm (f : FunctionNode) (k : Form) : Type 0 where
  pub count : is_count (length f.params) ≡ true
  pub arrays : list_all (λ p. is_int_array p) f.params ≡ true
  pub parameters : k.parameters ≡ length f.params
  pub assignments : assignments_from (length f.params) f.body ≡ Some k.assignments

pub has_form : (f : FunctionNode) (k : Form) → form_from f ≡ Some k → HasForm f k
has_form f k e =
    elim (has_int_arrays f.params) as (λ b. has_int_arrays f.params ≡ b → cond b (formed (length f.params) (assignments_from (length f.params) f.body)) None ≡ Some k → HasForm f k) [
      | true ↦ λ has made.
          let b = both_hold (is_count (length f.params)) (list_all (λ p. is_int_array p) f.params) has in
          let m = mapped_is (λ assignments. record { parameters = length f.params; assignments = assignments }) (assignments_from (length f.params) f.body) k made in
          record {
            count = b.0;
            arrays = b.1;
            parameters = ap (λ (x : Form). x.parameters) (sym m.2);
            assignments = m.1 ∙ ap (λ (x : Form). Some x.assignments) m.2;
          }
      | false ↦ λ has made. absurd cc
    ] refl e

kind_is : (kind : ParamKind) → takes_ints kind ≡ true → kind ≡ Pointer space.Global Int false
kind_is (Scalar elem) e = absurd cc
kind_is (Pointer space.Global Int false) e = refl
kind_is (Pointer space.Global Int true) e = absurd cc
kind_is (Pointer space.Global Char readonly) e = absurd cc
kind_is (Pointer space.Global Uchar readonly) e = absurd cc
kind_is (Pointer space.Global Short readonly) e = absurd cc
kind_is (Pointer space.Global Ushort readonly) e = absurd cc
kind_is (Pointer space.Global Uint readonly) e = absurd cc
kind_is (Pointer space.Constant elem readonly) e = absurd cc
kind_is (Pointer space.Local elem readonly) e = absurd cc

-- the array that parameter p of a list names, where the arguments are the buffers of these numbers
bound_is : (params : List Param) (arguments : List ℕ) (items p : ℕ) → list_all (λ q. is_int_array q) params ≡ true → length params ≡ length arguments → p < length params
    → (param : Param) × (slice_get params p ≡ Some param) × (takes_ints param.kind ≡ true) × (slice_get (int_bounds items arguments) p ≡ Some (Array (slice_index arguments p) items))
bound_is [] arguments items p all same below = absurd (omega arith)
bound_is (q ∷ params) [] items p all same below = absurd (omega arith)
bound_is (q ∷ params) (b ∷ arguments) items zero all same below = (q, refl, (both_hold (is_int_array q) (list_all (λ x. is_int_array x) params) all).0, refl)
bound_is (q ∷ params) (b ∷ arguments) items (suc p) all same below =
    bound_is params arguments items p (both_hold (is_int_array q) (list_all (λ x. is_int_array x) params) all).1 (omega arith) (omega arith)

array_is : (f : FunctionNode) (k : Form) (arguments : List ℕ) (items p : ℕ) → HasForm f k → length f.params ≡ length arguments → p < length f.params
    → array_of f (int_bounds items arguments) (Parameter p) ≡ int_buffer (buffer_of arguments p) items
array_is f k arguments items p h same below =
    let b = bound_is f.params arguments items p h.arrays same below in
    let kind = kind_is b.0.kind b.2 in
    rw (b.1, b.3) (ap (λ x. bound_array x (Array (slice_index arguments p) items)) kind)

-- the assignments of a body are over its parameters, and low
made_is : (n : ℕ) (s : StmtNode) (a : Assigns) → assignment_from n s ≡ Some a → IsAssignmentOf n a × (height a.value ≤ 16)
made_is n (SetElementNode array elem place Set unsigned (Some value) pos) a e =
    let is = assignment_is n array elem place value unsigned pos a e in
    ((is.within, sum_is n value a.value is.sum), is.low)
made_is n (SetElementNode array elem place Set unsigned None pos) a e = absurd cc
made_is n (SetElementNode array elem place (With op) unsigned value pos) a e = absurd cc
made_is n (SetElementNode array elem place Up unsigned value pos) a e = absurd cc
made_is n (SetElementNode array elem place Down unsigned value pos) a e = absurd cc
made_is n (DeclareNode variable elem value) a e = absurd cc
made_is n (LocalArrayNode array count) a e = absurd cc
made_is n (SetVariableNode variable elem op unsigned value) a e = absurd cc
made_is n (CallStmtNode call) a e = absurd cc
made_is n (BarrierNode site) a e = absurd cc
made_is n (IfNode test one) a e = absurd cc
made_is n (IfElseNode test one other) a e = absurd cc
made_is n (WhileNode test body) a e = absurd cc
made_is n (DoNode body test) a e = absurd cc
made_is n (ForNode first test step body) a e = absurd cc
made_is n BreakNode a e = absurd cc
made_is n ContinueNode a e = absurd cc
made_is n (ReturnNode value) a e = absurd cc
made_is n (BlockNode items) a e = absurd cc
made_is n EmptyNode a e = absurd cc

all_made : (n : ℕ) (body : StmtNodes) (all : List Assigns) → assignments_from n body ≡ Some all
    → AllByRecursion (IsAssignmentOf n) all × AllByRecursion (λ a. height a.value ≤ 16) all
all_made n NoStmts all e =
    let none : [] ≡ all = cc in
    subst (λ (xs : List Assigns). AllByRecursion (IsAssignmentOf n) xs × AllByRecursion (λ a. height a.value ≤ 16) xs) none (tt, tt)
all_made n (AndStmt s ss) all e =
    let f = followed_is (assignment_from n s) (assignments_from n ss) all e in
    let one = made_is n s f.0 f.2 in
    let more = all_made n ss f.1 f.3 in
    subst (λ (xs : List Assigns). AllByRecursion (IsAssignmentOf n) xs × AllByRecursion (λ a. height a.value ≤ 16) xs) f.4 ((one.0, more.0), (one.1, more.1))

few_params : (n : ℕ) → is_count n ≡ true → n ≤ 16
few_params n e = leb-true n 16 (both_hold (ltb 0 n) (leb n 16) e).1

pub form_fits : (f : FunctionNode) (k : Form) → form_from f ≡ Some k → IsFit k
form_fits f k e =
    let h = has_form f k e in
    let all = all_made (length f.params) f.body k.assignments h.assignments in
    record {
      few = subst (λ (n : ℕ). n ≤ 16) (sym h.parameters) (few_params (length f.params) h.count);
      assignments = subst (λ (n : ℕ). AllByRecursion (IsAssignmentOf n) k.assignments) (sym h.parameters) all.0;
      low = all.1;
    }

-- the item with a number has this id
own_number : (items item : ℕ) → item < items → item < 2 ^ 32 → global_id (one_group items) item 0 ≡ item
own_number items item below word =
    let size : items * 1 * 1 ≡ items = omega arith in
    let group : item / items ≡ 0 = div-eq_of_lt below in
    let number : item % items ≡ item = mod-eq_of_lt below in
    let none : 0 * items + item ≡ item = omega arith in
    rw (size, group, zero-mod, number, number, none) (mod-eq_of_lt word)

-- the launch by the work-item semantics leaves what that of the form leaves
pub source_leaves : (program : List FunctionNode) (f : FunctionNode) (k : Form) (arguments : List ℕ) (items buffers : ℕ) (given left : ℕ → ℕ → ℕ) → form_from f ≡ Some k
    → IsLaunchable k arguments items buffers → LaunchLeaves (launch_of k arguments items buffers) given left → LaunchLeaves (source_launch program f arguments items buffers) given left
source_leaves program f k arguments items buffers given left formed launchable leaves =
    let h = has_form f k formed in
    let enough : length f.params ≡ length arguments = sym h.parameters ∙ launchable.enough in
    let few : items ≤ 32 = launchable.items_few in
    let alike = λ (item : ℕ) (below : item < items).
    body_alike program (kernel_scope f) refl (setting_of f (one_group items) (int_bounds items arguments) item) (buffer_of arguments) item items (length f.params)
    (omega (arith, below, few)) below (own_number items item below (omega (arith, below, few))) (λ p inside. array_is f k arguments items p h enough inside) f.body k.assignments h.assignments
    (slice_index (bound_values f.params (int_bounds items arguments))) in
    let size : items * 1 * 1 ≡ items = omega arith in
    let asks = kernel_asks program f (one_group items) (int_bounds items arguments) in
    let of_size = λ (n : ℕ). LaunchLeaves (record { items = n; local = n; asks = asks; buffers = replicate buffers (4 * items); locals = [] }) given left in
    subst of_size (sym size) (leaves_there asks (launch_of k arguments items buffers)
    (λ item below answers a asked. let x = (alike item below).there answers a (asked.steps, asked.asked) in record { steps = x.0; asked = x.1 })
    (λ item below answers a asked. let x = (alike item below).back answers a (asked.steps, asked.asked) in record { steps = x.0; asked = x.1 })
    given left leaves)
