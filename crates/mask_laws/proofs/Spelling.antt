-- The operations of a kernel's spots are its code.
use Rattle.std.proofs.Common.{◌≡◌, ℕ, zero, suc, ◌+◌, ◌*◌, Bool, true, false, List, [], ◌∷◌, refl, ap, sym, ◌∙◌}
use Rattle.vx_base.specs.declared.types.Pos.{Pos}
use Rattle.ocl_ast.specs.declared.units.Param.{Param}
use Rattle.vx_base.specs.declared.types.ParamKind.{ParamKind}
use Rattle.vx_base.specs.declared.types.ParamKind.TheVariants.{Scalar, Pointer}
use Rattle.ocl_program.specs.declared.exprs.Builtin.{Builtin}
use Rattle.ocl_program.specs.declared.exprs.Builtin.TheVariants.{WorkDim, GlobalId, LocalId, GroupId, GlobalSize, LocalSize, NumGroups, GlobalOffset, Min, Max, Clamp, Abs, MulHi}
use Rattle.vx_base.specs.declared.types.Alu.TheVariants.{Sltu}
use Rattle.kir.specs.Loops.{loop_nesting}
use Rattle.kir.specs.Trees.{Operand, VariableOf, NumberOf, Op, Set, Calculate, Fit, Id, Load, Store, Check, Barrier, If, Loop, Break, Continue, Return, Call, Ops, NoOps, AndOp, KirCode}
use Rattle.uniformity.specs.Marks.{is_uniform}
use Rattle.vcode.specs.declared.ops.Csr.TheVariants.{MaskNow}
use Rattle.vcode.specs.Code.{VOp, Fresh, Copy, Compute, Word, Learn, IfZero, IfNot, Goto, Split, Join, Pred, Tmc, Wspawn, Trap, Enter, Leaves, Again}
use Rattle.simt_lowering.specs.Kept.{known_of_kernel}
use Rattle.simt_lowering.specs.Lowered.{Known, Part, own, held, mask_of, registers_for, further, kept_id, group_word, size_word, id_code, counted, checked, other_place, meet_place, step_place, head_place, loop_end, if_code, loop_code, ops_end, op_end, lowered, lowered_op, item_lanes, zeroed, scalar, scalars, ids_code, body_start, kernel_code}
use Rattle.mask_laws.specs.Spots.{Frame, Straight, Spot}
use Rattle.mask_laws.specs.Labels.{spot, flows, straight, bare, Labelled, if_spots, loop_spots, check_spots, load_code, loads_constant, flows_all, labelled, labelled_op, hidden, opening_code, kernel_spots, ops_of}

-- operations in front of others
abbrev pub puts : List VOp → List VOp → List VOp
puts [] c = c
puts (op ∷ ops) c = op ∷ puts ops c

straight_spells : (fs : List Frame) (shared : Bool) (ag : ℕ → Bool) (ops : List VOp) (c : List Spot) (c' : List VOp) → ops_of c ≡ c' → ops_of (straight fs shared ag ops c) ≡ puts ops c'
straight_spells fs shared ag [] c c' e = e
straight_spells fs shared ag (op ∷ ops) c c' e = ap (λ x. op ∷ x) (straight_spells fs shared (flows shared ag op) ops c c' e)

kept_puts : (k : Known) (i d : ℕ) (a : Operand) (c : List VOp) → kept_id k i d a c ≡ puts (kept_id k i d a []) c
kept_puts k i d (NumberOf zero) c = refl
kept_puts k i d (NumberOf (suc zero)) c = refl
kept_puts k i d (NumberOf (suc (suc zero))) c = refl
kept_puts k i d (NumberOf (suc (suc (suc n)))) c = refl
kept_puts k i d (VariableOf x) c = refl

group_puts : (k : Known) (w d : ℕ) (a : Operand) (c : List VOp) → group_word k w d a c ≡ puts (group_word k w d a []) c
group_puts k w d (NumberOf zero) c = refl
group_puts k w d (NumberOf (suc zero)) c = refl
group_puts k w d (NumberOf (suc (suc zero))) c = refl
group_puts k w d (NumberOf (suc (suc (suc n)))) c = refl
group_puts k w d (VariableOf x) c = refl

size_puts : (k : Known) (w d : ℕ) (a : Operand) (c : List VOp) → size_word k w d a c ≡ puts (size_word k w d a []) c
size_puts k w d (NumberOf zero) c = refl
size_puts k w d (NumberOf (suc zero)) c = refl
size_puts k w d (NumberOf (suc (suc zero))) c = refl
size_puts k w d (NumberOf (suc (suc (suc n)))) c = refl
size_puts k w d (VariableOf x) c = refl

id_puts : (k : Known) (d : ℕ) (which : Builtin) (a : Operand) (c : List VOp) → id_code k d which a c ≡ puts (id_code k d which a []) c
id_puts k d WorkDim a c = refl
id_puts k d GlobalId a c = kept_puts k 5 d a c
id_puts k d LocalId a c = kept_puts k 2 d a c
id_puts k d GroupId a c = group_puts k 3 d a c
id_puts k d GlobalSize a c = size_puts k 9 d a c
id_puts k d LocalSize a c = size_puts k 6 d a c
id_puts k d NumGroups a c = size_puts k 12 d a c
id_puts k d GlobalOffset a c = refl
id_puts k d Min a c = refl
id_puts k d Max a c = refl
id_puts k d Clamp a c = refl
id_puts k d Abs a c = refl
id_puts k d MulHi a c = refl

-- ---- checks, branches and loops

check_spells : (k : Known) (u : Bool) (pos : Pos) (p : ℕ) (fs : List Frame) (uni ag : ℕ → Bool) (c : List Spot) (c' : List VOp) → ops_of c ≡ c'
    → ops_of (check_spots k u pos p fs uni ag c) ≡ checked k u pos p c'
check_spells k true pos p fs uni ag c c' e = ap (λ x. IfNot (held k 0) (further 2 p) ∷ Trap pos ∷ x) e
check_spells k false pos p fs uni ag c c' e = ap (λ x. Split (held k 0) ∷ IfNot (held k 0) (further 2 (suc p)) ∷ Trap pos ∷ Join ∷ x) e

-- a part's spots have its code
abbrev pub Spells : Labelled → (ℕ → List VOp → List VOp) → Type 0
Spells lab code = (fs : List Frame) (p : ℕ) (c : List Spot) (c' : List VOp) → ops_of c ≡ c' → ops_of (lab.label fs p c) ≡ code p c'

abbrev coded : Labelled → (ℕ → List VOp → List VOp) → Part
coded lab code = record { end = lab.end; code = code }

if_spells : (u : Bool) (t : Operand) (one other : Labelled) (code code' : ℕ → List VOp → List VOp) → Spells one code → Spells other code' → (fs : List Frame) (uni : ℕ → Bool) (p : ℕ) (c : List Spot) (c' : List VOp)
    → ops_of c ≡ c' → ops_of (if_spots u t one other fs uni p c) ≡ if_code u t (coded one code) (coded other code') p c'
if_spells true t one other code code' first second fs uni p c c' e =
    ap (λ x. IfZero t (other_place true (bare one) p) ∷ x)
    (first _ _ _ _ (ap (λ x. Goto (meet_place true (bare one) (bare other) p) ∷ x) (second _ _ _ _ e)))
if_spells false t one other code code' first second fs uni p c c' e =
    ap (λ x. Split t ∷ IfZero t (other_place false (bare one) p) ∷ x)
    (first _ _ _ _ (ap (λ x. Goto (meet_place false (bare one) (bare other) p) ∷ x) (second _ _ _ _ (ap (λ x. Join ∷ x) e))))

loop_spells : (u : Bool) (t : Operand) (m : ℕ) (step head body : Labelled) (code code' code'' : ℕ → List VOp → List VOp) → Spells step code → Spells head code' → Spells body code''
    → (fs : List Frame) (uni : ℕ → Bool) (p : ℕ) (c : List Spot) (c' : List VOp)
    → ops_of c ≡ c' → ops_of (loop_spots u t m step head body fs uni p c) ≡ loop_code u t m (coded step code) (coded head code') (coded body code'') p c'
loop_spells true t m step head body code code' code'' first second third fs uni p c c' e =
    ap (λ x. Enter ∷ Goto (head_place true (bare step) p) ∷ x)
    (first _ _ _ _ (second _ _ _ _ (ap (λ x. Leaves t (loop_end true (bare step) (bare head) (bare body) p) ∷ x) (third _ _ _ _ (ap (λ x. Again (step_place true p) ∷ x) e)))))
loop_spells false t m step head body code code' code'' first second third fs uni p c c' e =
    ap (λ x. Enter ∷ Learn m MaskNow ∷ Goto (head_place false (bare step) p) ∷ x)
    (first _ _ _ _ (second _ _ _ _ (ap (λ x. Pred t m ∷ Leaves t (loop_end false (bare step) (bare head) (bare body) p) ∷ x) (third _ _ _ _ (ap (λ x. Again (step_place false p) ∷ x) e)))))

-- ---- operations

mutual
  ops_spell : (k : Known) (depth : ℕ) (ops : Ops) (fs : List Frame) (p : ℕ) (c : List Spot) (c' : List VOp) → ops_of c ≡ c' → ops_of (labelled k depth ops fs p c) ≡ lowered k depth ops p c'
  ops_spell k depth NoOps fs p c c' e = e
  ops_spell k depth (AndOp op ops) fs p c c' e = op_spells k depth op fs p _ _ (ops_spell k depth ops fs (op_end k.marks op p) c c' e)

  op_spells : (k : Known) (depth : ℕ) (op : Op) (fs : List Frame) (p : ℕ) (c : List Spot) (c' : List VOp) → ops_of c ≡ c' → ops_of (labelled_op k depth op fs p c) ≡ lowered_op k depth op p c'
  op_spells k depth (Set d a) fs p c c' e = straight_spells fs false k.marks (load_code k (Set d a)) c c' e
  op_spells k depth (Calculate d op a b) fs p c c' e = straight_spells fs false k.marks (load_code k (Calculate d op a b)) c c' e
  op_spells k depth (Fit d elem a) fs p c c' e = straight_spells fs false k.marks (load_code k (Fit d elem a)) c c' e
  op_spells k depth (Id d which a) fs p c c' e = straight_spells fs false k.marks (load_code k (Id d which a)) c c' e ∙ sym (id_puts k d which a c')
  op_spells k depth (Load d array elem a) fs p c c' e = straight_spells fs (loads_constant k (Load d array elem a)) k.marks (load_code k (Load d array elem a)) c c' e
  op_spells k depth (Store array elem a b) fs p c c' e = straight_spells fs false k.marks (load_code k (Store array elem a b)) c c' e
  op_spells k depth (Check array a pos) fs p c c' e =
      straight_spells fs false k.marks (counted k array ∷ Compute (own k 0) Sltu a (held k 0) ∷ []) _ _
      (check_spells k (is_uniform k.marks a) pos (further 2 p) fs k.marks (flows_all false k.marks (counted k array ∷ Compute (own k 0) Sltu a (held k 0) ∷ [])) c c' e)
  op_spells k depth (Barrier site) fs p c c' e = straight_spells fs false k.marks (load_code k (Barrier site)) c c' e
  op_spells k depth (If t one other) fs p c c' e =
      if_spells (is_uniform k.marks t) t (record { end = ops_end k.marks one; label = labelled k depth one }) (record { end = ops_end k.marks other; label = labelled k depth other })
      (lowered k depth one) (lowered k depth other) (λ fs' q r r' e'. ops_spell k depth one fs' q r r' e') (λ fs' q r r' e'. ops_spell k depth other fs' q r r' e') fs k.marks p c c' e
  op_spells k depth (Loop head t body step) fs p c c' e =
      loop_spells (is_uniform k.marks t) t (mask_of k depth) (record { end = ops_end k.marks step; label = labelled k (suc depth) step })
      (record { end = ops_end k.marks head; label = labelled k (suc depth) head }) (record { end = ops_end k.marks body; label = labelled k (suc depth) body })
      (lowered k (suc depth) step) (lowered k (suc depth) head) (lowered k (suc depth) body)
      (λ fs' q r r' e'. ops_spell k (suc depth) step fs' q r r' e') (λ fs' q r r' e'. ops_spell k (suc depth) head fs' q r r' e') (λ fs' q r r' e'. ops_spell k (suc depth) body fs' q r r' e')
      fs k.marks p c c' e
  op_spells k depth Break fs p c c' e = e
  op_spells k depth Continue fs p c c' e = e
  op_spells k depth Return fs p c c' e = e
  op_spells k depth (Call body) fs p c c' e = e

-- ---- the whole kernel

hidden_spells : (ops : List VOp) (c : List Spot) (c' : List VOp) → ops_of c ≡ c' → ops_of (hidden ops c) ≡ puts ops c'
hidden_spells [] c c' e = e
hidden_spells (op ∷ ops) c c' e = ap (λ x. op ∷ x) (hidden_spells ops c c' e)

pub zeroed_puts : (n r : ℕ) (c c' : List VOp) → zeroed r n (puts c c') ≡ puts (zeroed r n c) c'
zeroed_puts zero r c c' = refl
zeroed_puts (suc n) r c c' = ap (λ x. Copy r (NumberOf 0) ∷ x) (zeroed_puts n (suc r) c c')

mutual_scalar : (kind : ParamKind) (j r : ℕ) (next next' : ℕ → List VOp) (c' : List VOp) → ((r' : ℕ) → next r' ≡ puts (next' r') c') → scalar kind j r next ≡ puts (scalar kind j r next') c'
mutual_scalar (Scalar elem) j r next next' c' same = ap (λ x. Word r (16 + 2 * j) ∷ x) (same (suc r))
mutual_scalar (Pointer space elem readonly) j r next next' c' same = same r

scalars_puts : (j r : ℕ) (params : List Param) (c c' : List VOp) → scalars j r params (puts c c') ≡ puts (scalars j r params c) c'
scalars_puts j r [] c c' = refl
scalars_puts j r (param ∷ params) c c' =
    mutual_scalar param.kind j r (λ r'. scalars (suc j) r' params (puts c c')) (λ r'. scalars (suc j) r' params c) c' (λ r'. scalars_puts (suc j) r' params c c')

opening_puts : (k : Known) (registers : ℕ) (c : List VOp) → Fresh ∷ zeroed 0 registers (scalars 0 0 k.params (ids_code k c)) ≡ puts (opening_code k registers) c
opening_puts k registers c =
    ap (λ x. Fresh ∷ x) (ap (zeroed 0 registers) (scalars_puts 0 0 k.params (ids_code k []) c) ∙ zeroed_puts registers 0 (scalars 0 0 k.params (ids_code k [])) c)

pub kernel_spells : (marks : ℕ → Bool) (code : KirCode) → ops_of (kernel_spots marks code) ≡ kernel_code marks code
kernel_spells marks code =
    let k : Known = known_of_kernel marks code in
    let registers : ℕ = registers_for code.variables (loop_nesting code.ops) in
    let body : List VOp = lowered k 0 code.ops (body_start code.params registers) (Tmc (NumberOf 0) ∷ []) in
    let last : List Spot = spot (Tmc (NumberOf 0)) (Straight []) marks ∷ [] in
    let inner : List Spot = labelled k 0 code.ops [] (body_start code.params registers) last in
    hidden_spells (Fresh ∷ Word (own k 0) 0 ∷ Wspawn (held k 0) 3 ∷ Fresh ∷ item_lanes k []) (straight [] false marks (opening_code k registers) inner) _
    (straight_spells [] false marks (opening_code k registers) inner body (ops_spell k 0 code.ops [] (body_start code.params registers) last (Tmc (NumberOf 0) ∷ []) refl) ∙ sym (opening_puts k registers body))
