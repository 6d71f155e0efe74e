-- How far operations reach: no further than their weight says.
use Rattle.std.proofs.Common.{◌≡◌, ℕ, zero, suc, ◌+◌, ◌<◌, ◌≤◌, ◌^◌, List, [], ◌∷◌, length, Bool, true, false, ap, ◌∙◌, arith}
use Rattle.vx_base.specs.declared.types.ParamKind.{ParamKind}
use Rattle.vx_base.specs.declared.types.ParamKind.TheVariants.{Scalar, Pointer}
use Rattle.ocl_ast.specs.declared.units.Param.{Param}
use Rattle.ocl_program.specs.declared.exprs.Builtin.{Builtin}
use Rattle.ocl_program.specs.declared.exprs.Builtin.TheVariants.{WorkDim, GlobalId, LocalId, GroupId, GlobalSize, LocalSize, NumGroups, GlobalOffset, Min, Max, Clamp, Abs, MulHi}
use Rattle.kir.specs.Loops.{loop_nesting}
use Rattle.kir.specs.Trees.{Operand, VariableOf, NumberOf, Op, Set, Calculate, Fit, Id, Load, Store, Check, Barrier, If, Loop, Break, Continue, Return, Call, Ops, NoOps, AndOp, KirCode}
use Rattle.kir.specs.Weights.{weight, weight_in, id_words}
use Rattle.uniformity.specs.Marks.{is_uniform}
use Rattle.simt_lowering.specs.Bounds.{IsLimited, most_words}
use Rattle.simt_lowering.specs.Kept.{known_of_kernel}
use Rattle.simt_lowering.specs.Lowered.{further, past, id_count, id_end, check_end, one_place, other_place, meet_place, step_place, head_place, body_place, ops_end, op_end, behind_kind, scalars_end, body_start, registers_for}
use Rattle.simt_lowering.specs.Views.{HasPlaces, ends}

pub further_is : (count p : ℕ) → further count p ≡ p + count
further_is zero p = omega arith
further_is (suc count) p = let h : further count (suc p) ≡ suc p + count = further_is count (suc p) in omega arith

past_fits : (u : Bool) (p : ℕ) → past u p ≤ suc p
past_fits true p = omega arith
past_fits false p = omega arith

count_fits : (second any : ℕ) (a : Operand) → second ≤ 12 → any ≤ 28 → id_count second any a ≤ id_words a
count_fits second any (NumberOf zero) h h' = omega arith
count_fits second any (NumberOf (suc zero)) h h' = omega arith
count_fits second any (NumberOf (suc (suc zero))) h h' = omega arith
count_fits second any (NumberOf (suc (suc (suc n)))) h h' = omega arith
count_fits second any (VariableOf x) h h' = omega arith

reach_fits : (count words p : ℕ) → count ≤ words → further count p ≤ p + words
reach_fits count words p h = let e : further count p ≡ p + count = further_is count p in omega arith

some_words : (a : Operand) → 1 ≤ id_words a
some_words (NumberOf zero) = omega arith
some_words (NumberOf (suc n)) = omega arith
some_words (VariableOf x) = omega arith

counted_fits : (second any : ℕ) (a : Operand) (p : ℕ) → second ≤ 12 → any ≤ 28 → further (id_count second any a) p ≤ p + id_words a
counted_fits second any a p h h' = reach_fits (id_count second any a) (id_words a) p (count_fits second any a h h')

one_fits : (a : Operand) (p : ℕ) → suc p ≤ p + id_words a
one_fits a p = let h : 1 ≤ id_words a = some_words a in omega arith

id_fits : (which : Builtin) (a : Operand) (p : ℕ) → id_end which a p ≤ p + id_words a
id_fits WorkDim a p = one_fits a p
id_fits GlobalId a p = counted_fits 3 7 a p (omega arith) (omega arith)
id_fits LocalId a p = counted_fits 3 7 a p (omega arith) (omega arith)
id_fits GroupId a p = counted_fits 1 4 a p (omega arith) (omega arith)
id_fits LocalSize a p = counted_fits 1 6 a p (omega arith) (omega arith)
id_fits GlobalSize a p = counted_fits 1 6 a p (omega arith) (omega arith)
id_fits NumGroups a p = counted_fits 1 6 a p (omega arith) (omega arith)
id_fits GlobalOffset a p = one_fits a p
id_fits Min a p = one_fits a p
id_fits Max a p = one_fits a p
id_fits Clamp a p = one_fits a p
id_fits Abs a p = one_fits a p
id_fits MulHi a p = one_fits a p

check_fits : (u : Bool) (p : ℕ) → check_end u p ≤ p + 4
check_fits u p =
    let h : past u p ≤ suc p = past_fits u p in
    let h' : past u (suc (suc (past u p))) ≤ suc (suc (suc (past u p))) = past_fits u (suc (suc (past u p))) in
    omega arith

module _ (marks : ℕ → Bool) where
  mutual
    pub ops_fit : (ops : Ops) (p : ℕ) → ops_end marks ops p ≤ p + weight ops
    ops_fit NoOps p = omega arith
    ops_fit (AndOp op ops) p =
        let h : op_end marks op p ≤ p + weight_in op = op_fits op p in
        let h' : ops_end marks ops (op_end marks op p) ≤ op_end marks op p + weight ops = ops_fit ops (op_end marks op p) in
        omega arith

    op_fits : (op : Op) (p : ℕ) → op_end marks op p ≤ p + weight_in op
    op_fits (Set d a) p = omega arith
    op_fits (Calculate d op a b) p = omega arith
    op_fits (Fit d elem a) p = omega arith
    op_fits (Id d which a) p = id_fits which a p
    op_fits (Load d array elem a) p = omega arith
    op_fits (Store array elem a b) p = omega arith
    op_fits (Check array a pos) p = let h : check_end (is_uniform marks a) (suc (suc p)) ≤ suc (suc p) + 4 = check_fits (is_uniform marks a) (suc (suc p)) in omega arith
    op_fits (Barrier site) p = omega arith
    op_fits (If t one other) p =
        let u : Bool = is_uniform marks t in
        let a : past u p ≤ suc p = past_fits u p in
        let b : ops_end marks one (one_place u p) ≤ one_place u p + weight one = ops_fit one (one_place u p) in
        let d : ops_end marks other (other_place u (ends marks one) p) ≤ other_place u (ends marks one) p + weight other = ops_fit other (other_place u (ends marks one) p) in
        let e : past u (meet_place u (ends marks one) (ends marks other) p) ≤ suc (meet_place u (ends marks one) (ends marks other) p) =
        past_fits u (meet_place u (ends marks one) (ends marks other) p) in
        omega arith
    op_fits (Loop head t body step) p =
        let u : Bool = is_uniform marks t in
        let a : past u (suc p) ≤ suc (suc p) = past_fits u (suc p) in
        let b : ops_end marks step (step_place u p) ≤ step_place u p + weight step = ops_fit step (step_place u p) in
        let d : ops_end marks head (head_place u (ends marks step) p) ≤ head_place u (ends marks step) p + weight head = ops_fit head (head_place u (ends marks step) p) in
        let e : past u (ops_end marks head (head_place u (ends marks step) p)) ≤ suc (ops_end marks head (head_place u (ends marks step) p)) =
        past_fits u (ops_end marks head (head_place u (ends marks step) p)) in
        let f : ops_end marks body (body_place u (ends marks step) (ends marks head) p) ≤ body_place u (ends marks step) (ends marks head) p + weight body =
        ops_fit body (body_place u (ends marks step) (ends marks head) p) in
        omega arith
    op_fits Break p = omega arith
    op_fits Continue p = omega arith
    op_fits Return p = omega arith
    op_fits (Call body) p = omega arith

kind_fits : (kind : ParamKind) (p : ℕ) → behind_kind kind p ≤ suc p
kind_fits (Scalar elem) p = omega arith
kind_fits (Pointer space elem readonly) p = omega arith

pub scalars_fit : (params : List Param) (p : ℕ) → scalars_end params p ≤ p + length params
scalars_fit [] p = omega arith
scalars_fit (param ∷ params) p =
    let h : behind_kind param.kind p ≤ suc p = kind_fits param.kind p in
    let h' : scalars_end params (behind_kind param.kind p) ≤ behind_kind param.kind p + length params = scalars_fit params (behind_kind param.kind p) in
    omega arith

pub body_is : (params : List Param) (registers : ℕ) → body_start params registers ≡ scalars_end params (registers + 15) + 29
body_is params registers =
    further_is 29 (scalars_end params (further registers 15)) ∙ ap (λ p. scalars_end params p + 29) (let e : further registers 15 ≡ 15 + registers = further_is registers 15 in omega arith)

-- the body of a kernel ends below what its words are below
pub body_fits : (code : KirCode) (marks : ℕ → Bool) (n : ℕ) → most_words code < n
    → ops_end marks code.ops (body_start code.params (registers_for code.variables (loop_nesting code.ops))) < n
body_fits code marks n h =
    let registers : ℕ = registers_for code.variables (loop_nesting code.ops) in
    let e : body_start code.params registers ≡ scalars_end code.params (registers + 15) + 29 = body_is code.params registers in
    let f : scalars_end code.params (registers + 15) ≤ registers + 15 + length code.params = scalars_fit code.params (registers + 15) in
    let g : ops_end marks code.ops (body_start code.params registers) ≤ body_start code.params registers + weight code.ops = ops_fit marks code.ops (body_start code.params registers) in
    omega arith

-- what a kernel within the limits has
pub has_places : (code : KirCode) (marks : ℕ → Bool) → IsLimited code → most_words code < 2 ^ 32
    → HasPlaces (known_of_kernel marks code) (registers_for code.variables (loop_nesting code.ops)) code.ops
has_places code marks limited low =
    let few : length code.params ≤ 16 = limited.params in
    record {
      room = record { registers = omega arith; params = limited.params; arrays = limited.arrays };
      masks = omega arith;
      starts = omega arith;
      fits = body_fits code marks (2 ^ 32) low;
    }
