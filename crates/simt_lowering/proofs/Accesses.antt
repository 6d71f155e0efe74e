-- Loads, stores and checks.
use Rattle.std.proofs.Common.{◌≡◌, ℕ, suc, ◌+◌, ◌*◌, ◌%◌, ◌^◌, ◌<◌, ◌≤◌, List, ◌∷◌, Option, None, Some, slice_get, drop, Bool, true, false, nat_lt, refl, ap, sym, ◌∙◌, subst, arith, ltb-true, inl}
use Rattle.std.specs.Prelude.{◌==◌, if◌then◌else◌}
use Rattle.vx_base.specs.Values.{alu_value_of, elem_bytes, fitted}
use Rattle.vx_base.specs.declared.types.Alu.TheVariants.{Add, Sll, Sltu}
use Rattle.vx_base.specs.declared.types.Elem.{Elem}
use Rattle.vx_base.specs.declared.types.Elem.TheVariants.{Char, Uchar, Short, Ushort, Int, Uint}
use Rattle.vx_base.specs.declared.types.Pos.{Pos}
use Rattle.item_acts.specs.declared.acts.Action.TheVariants.{Load as LoadAction, Store as StoreAction, Fault}
use Rattle.item_acts.specs.Launches.{put_at}
use Rattle.item_acts.specs.Machine.{Go, Ask, Stop}
use Rattle.item_settings.specs.Settings.{elem_size, low_bytes, place_in}
use Rattle.ocl_ast.specs.declared.units.Param.{Param}
use Rattle.ocl_program.specs.declared.exprs.ArrayRef.{ArrayRef}
use Rattle.ocl_program.specs.declared.exprs.ArrayRef.TheVariants.{Parameter, Declared}
use Rattle.ocl_program.specs.declared.functions.LocalArray.{LocalArray}
use Rattle.step_machine.specs.Sims.{FirstGoes, BothAsk, BothStop}
use Rattle.kir.specs.Machine as kir
use Rattle.kir.specs.Machine.{value, State, state, Task, Do}
use Rattle.kir.specs.Measures.{Known as Checked, IsKnown, forgotten}
use Rattle.kir.specs.Numbered.{IsBelow}
use Rattle.kir.specs.Trees.{Operand, Load, Store, Check}
use Rattle.kir.specs.Typing.{HasElem}
use Rattle.vcode.specs.Code.{VOp, Compute, Fetch, Write, IfNot, Split, Join}
use Rattle.vcode.specs.Machine as vcode
use Rattle.vcode.specs.Machine.{lane, op_step, op_cost}
use Rattle.vcode.proofs.Steps.{behind, step_at, cost_at, lane_goes}
use Rattle.simt_lowering.specs.Around.{HasArrays, CountIs}
use Rattle.uniformity.specs.Marks.{is_uniform}
use Rattle.simt_lowering.specs.Lowered.{own, held, further, past, splits, joins, shift_of, start_word, address, declared_count, param_count, counted, param_start, declared_start, started, checked, check_end}
use Rattle.simt_lowering.proofs.Stands.{behind_splits}
use Rattle.simt_lowering.proofs.Sides.{Sees, kept_ids, same_value, Keeps, Sides, Along, Passes, Starts, passed_one, passes_forgotten, sees_variable, writes_own, keeps_other}
use Rattle.simt_lowering.proofs.IdsAlong.{Mid, one_is, two_is, goes_one, goes_two}

-- a step that costs nothing costs no more than another
free : (x y : ℕ) → x ≡ 0 → x ≤ y
free x y e = omega arith

some_count : (i count : ℕ) → i < count → 0 < count
some_count i count less = omega arith

none_is_some : (count : ℕ) → count ≡ 0 → 0 < count → ⊥
none_is_some count e some = absurd (omega arith)

-- an index that is shifted is a number of bytes
shifted : (elem : Elem) (i : ℕ) → alu_value_of Sll i (shift_of elem) ≡ (i * elem_bytes elem) % 2 ^ 32
shifted Char i = refl
shifted Uchar i = refl
shifted Short i = refl
shifted Ushort i = refl
shifted Int i = refl
shifted Uint i = refl

-- a value is put into the first register
one_written : (w : Sides) (n : ℕ) (s : State) (p v count : ℕ) (op : VOp) (rest : List VOp) (f vs rs : ℕ → ℕ) (ts ns : List ℕ) → drop p w.code ≡ op ∷ rest
    → op_step w.at op p rs ts ns ≡ Go (lane (suc p) (put_at (own w.known 0) v rs) ts ns) → op_cost op rs ≡ 0 → v ≡ count → Sees w.known f vs rs → Keeps (kept_ids w.setting) f
    → ((rs' : ℕ → ℕ) → Mid w vs rs' count (f 1) → Along w n s (lane (suc p) rs' ts ns)) → Along w n s (lane p rs ts ns)
one_written w n s p v count op rest f vs rs ts ns e goes free' same sees keeps next =
    writes_own w n s p 0 count op rest f vs rs ts ns ns e (goes ∙ ap (λ x. Go (lane (suc p) (put_at (own w.known 0) x rs) ts ns)) same) free' sees
    (λ rs' sees'. next rs' (record { f = put_at 0 count f; sees = sees'; keeps = keeps_other (kept_ids w.setting) f 0 count (inl (omega arith)) keeps; one = refl; two = refl }))

-- the address of an array that has an element is put there
param_begins : (w : Sides) (n : ℕ) (s : State) (p j count : ℕ) (param : Option Param) (rest : List VOp) (f vs rs : ℕ → ℕ) (ts ns : List ℕ) → CountIs w.at j param count → 0 < count
    → drop p w.code ≡ param_start (own w.known 0) j param ∷ rest → Sees w.known f vs rs → Keeps (kept_ids w.setting) f
    → ((rs' : ℕ → ℕ) → Mid w vs rs' (w.at.block (start_word (Parameter j))) (f 1) → Along w n s (lane (suc p) rs' ts ns)) → Along w n s (lane p rs ts ns)
param_begins w n s p j count None rest f vs rs ts ns is some e sees keeps next = absurd (none_is_some count is some)
param_begins w n s p j count (Some param) rest f vs rs ts ns is some e sees keeps next =
    one_written w n s p (w.at.block (start_word (Parameter j))) (w.at.block (start_word (Parameter j))) _ rest f vs rs ts ns e refl refl refl sees keeps next

declared_begins : (w : Sides) (n : ℕ) (s : State) (p j : ℕ) (array : Option LocalArray) (rest : List VOp) (f vs rs : ℕ → ℕ) (ts ns : List ℕ) → 0 < declared_count array
    → drop p w.code ≡ declared_start (own w.known 0) j array ∷ rest → Sees w.known f vs rs → Keeps (kept_ids w.setting) f
    → ((rs' : ℕ → ℕ) → Mid w vs rs' (w.at.block (start_word (Declared j))) (f 1) → Along w n s (lane (suc p) rs' ts ns)) → Along w n s (lane p rs ts ns)
declared_begins w n s p j None rest f vs rs ts ns some e sees keeps next = absurd (none_is_some 0 refl some)
declared_begins w n s p j (Some array) rest f vs rs ts ns some e sees keeps next =
    one_written w n s p (w.at.block (start_word (Declared j))) (w.at.block (start_word (Declared j))) _ rest f vs rs ts ns e refl refl refl sees keeps next

start_goes : (w : Sides) (n : ℕ) (s : State) (p : ℕ) (array : ArrayRef) (rest : List VOp) (f vs rs : ℕ → ℕ) (ts ns : List ℕ) → HasArrays w.known w.setting w.at → 0 < (w.setting.array array).count
    → drop p w.code ≡ started w.known array ∷ rest → Sees w.known f vs rs → Keeps (kept_ids w.setting) f
    → ((rs' : ℕ → ℕ) → Mid w vs rs' (w.at.block (start_word array)) (f 1) → Along w n s (lane (suc p) rs' ts ns)) → Along w n s (lane p rs ts ns)
start_goes w n s p (Parameter j) rest f vs rs ts ns arrays some e sees keeps next =
    param_begins w n s p j (w.setting.array (Parameter j)).count (slice_get w.known.params j) rest f vs rs ts ns (arrays.param j) some e sees keeps next
start_goes w n s p (Declared j) rest f vs rs ts ns arrays some e sees keeps next =
    declared_begins w n s p j (slice_get w.known.arrays j) rest f vs rs ts ns (subst (λ x. 0 < x) (sym (arrays.declared j)) some) e sees keeps next

-- the address of an element is computed
pub address_goes : (w : Sides) (n : ℕ) (s : State) (p : ℕ) (array : ArrayRef) (elem : Elem) (a : Operand) (c : List VOp) (f vs rs : ℕ → ℕ) (ts ns : List ℕ)
    → HasArrays w.known w.setting w.at → value vs a < (w.setting.array array).count → drop p w.code ≡ address w.known array elem a c → IsBelow w.known.variables a → Sees w.known f vs rs → Keeps (kept_ids w.setting) f
    → ((rs' : ℕ → ℕ) (b : ℕ) → Mid w vs rs' ((w.at.block (start_word array) + (value vs a * elem_bytes elem) % 2 ^ 32) % 2 ^ 32) b → Along w n s (lane (further 3 p) rs' ts ns))
    → Along w n s (lane p rs ts ns)
address_goes w n s p array elem a c f vs rs ts ns arrays inside e below sees keeps next =
    let e1 = behind w.code _ _ p e in
    let e2 = behind w.code _ _ (further 1 p) e1 in
    start_goes w n s p array _ f vs rs ts ns arrays (some_count (value vs a) (w.setting.array array).count inside) e sees keeps (λ rs1 mid1.
    goes_two w n s vs ts ns (further 1 p) Sll a _ _ rs1 (value vs a) (shift_of elem) _ _ e1 (same_value w.known mid1.f vs rs1 a below mid1.sees) refl mid1 (λ rs2 mid2.
    goes_one w n s vs ts ns (further 2 p) Add (held w.known 0) (held w.known 1) c rs2 (w.at.block (start_word array)) ((value vs a * elem_bytes elem) % 2 ^ 32) _ _ e2
    (one_is w vs rs2 _ _ mid2) (two_is w vs rs2 _ _ mid2 ∙ shifted elem (value vs a)) mid2 (λ rs3 mid3. next rs3 _ mid3)))

-- a load behind its check
pub load_goes : (w : Sides) (n p d : ℕ) (array : ArrayRef) (elem : Elem) (a : Operand) (c : List VOp) (ks : List Checked) (ts : List Task) (f vs rs : ℕ → ℕ) (turns ns : List ℕ)
    → HasArrays w.known w.setting w.at → drop p w.code ≡ address w.known array elem a (Fetch d elem (held w.known 0) ∷ c) → d < w.known.variables → IsBelow w.known.variables a
    → HasElem w.known.params w.known.arrays array elem → IsKnown array a ks → Starts w n (forgotten d ks) ts turns (further 4 p)
    → Sees w.known f vs rs → Keeps (kept_ids w.setting) f → Passes w.setting ks vs → Along w n (state (Do (Load d array elem a) ∷ ts) vs turns) (lane p rs turns ns)
load_goes w n p d array elem a c ks ts f vs rs turns ns arrays e low below typed known next sees keeps passes =
    let s : State = state (Do (Load d array elem a) ∷ ts) vs turns in
    let e3 = behind w.code _ _ (further 2 p) (behind w.code _ _ (further 1 p) (behind w.code _ _ p e)) in
    let inside = passed_one w.setting array a ks vs known passes in
    let here = arrays.element array elem (value vs a) typed inside in
    address_goes w n s p array elem a _ f vs rs turns ns arrays inside e below sees keeps (λ rs' b mid.
    BothAsk n s (lane (further 3 p) rs' turns ns) (LoadAction (place_in w.setting.group (w.setting.array array) elem (value vs a)) (elem_size elem))
    (λ answer. state ts (put_at d (fitted elem answer) vs) turns) (λ answer. lane (further 4 p) (put_at d (fitted elem answer) rs') turns ns) refl
    (step_at w.at w.code _ (further 3 p) rs' turns ns e3
    ∙ ap (λ x. Ask (LoadAction x (elem_size elem)) (λ answer. lane (further 4 p) (put_at d (fitted elem answer) rs') turns ns)) (ap w.at.place (one_is w vs rs' _ _ mid) ∙ here))
    (free (vcode.cost w.code (lane (further 3 p) rs' turns ns)) (kir.cost s) (cost_at w.code _ (further 3 p) rs' turns ns e3))
    (λ answer. next mid.f (put_at d (fitted elem answer) vs) (put_at d (fitted elem answer) rs') ns (sees_variable w.known mid.f vs rs' d (fitted elem answer) low mid.sees) mid.keeps
    (passes_forgotten w.setting d (fitted elem answer) ks vs passes)))

-- a store behind its check
pub store_goes : (w : Sides) (n p : ℕ) (array : ArrayRef) (elem : Elem) (a v : Operand) (c : List VOp) (ks : List Checked) (ts : List Task) (f vs rs : ℕ → ℕ) (turns ns : List ℕ)
    → HasArrays w.known w.setting w.at → drop p w.code ≡ address w.known array elem a (Write elem (held w.known 0) v ∷ c) → IsBelow w.known.variables a → IsBelow w.known.variables v
    → HasElem w.known.params w.known.arrays array elem → IsKnown array a ks → Starts w n ks ts turns (further 4 p)
    → Sees w.known f vs rs → Keeps (kept_ids w.setting) f → Passes w.setting ks vs → Along w n (state (Do (Store array elem a v) ∷ ts) vs turns) (lane p rs turns ns)
store_goes w n p array elem a v c ks ts f vs rs turns ns arrays e below below' typed known next sees keeps passes =
    let s : State = state (Do (Store array elem a v) ∷ ts) vs turns in
    let e3 = behind w.code _ _ (further 2 p) (behind w.code _ _ (further 1 p) (behind w.code _ _ p e)) in
    let inside = passed_one w.setting array a ks vs known passes in
    let here = arrays.element array elem (value vs a) typed inside in
    address_goes w n s p array elem a _ f vs rs turns ns arrays inside e below sees keeps (λ rs' b mid.
    BothAsk n s (lane (further 3 p) rs' turns ns) (StoreAction (place_in w.setting.group (w.setting.array array) elem (value vs a)) (elem_size elem) (low_bytes elem (value vs v)))
    (λ answer. state ts vs turns) (λ answer. lane (further 4 p) rs' turns ns) refl
    (step_at w.at w.code _ (further 3 p) rs' turns ns e3
    ∙ ap (λ x. Ask (StoreAction x (elem_size elem) (low_bytes elem (value rs' v))) (λ answer. lane (further 4 p) rs' turns ns)) (ap w.at.place (one_is w vs rs' _ _ mid) ∙ here)
    ∙ ap (λ x. Ask (StoreAction (place_in w.setting.group (w.setting.array array) elem (value vs a)) (elem_size elem) (low_bytes elem x)) (λ answer. lane (further 4 p) rs' turns ns))
    (same_value w.known mid.f vs rs' v below' mid.sees))
    (free (vcode.cost w.code (lane (further 3 p) rs' turns ns)) (kir.cost s) (cost_at w.code _ (further 3 p) rs' turns ns e3))
    (λ answer. next mid.f vs rs' ns mid.sees mid.keeps passes))

-- ---- checks

-- what the warp does with its lanes passes a lane by
pub past_split : (w : Sides) (n : ℕ) (s : State) (u : Bool) (t : Operand) (p : ℕ) (c : List VOp) (rs : ℕ → ℕ) (ts ns : List ℕ) → drop p w.code ≡ splits u t c
    → Along w n s (lane (past u p) rs ts ns) → Along w n s (lane p rs ts ns)
past_split w n s true t p c rs ts ns e along = along
past_split w n s false t p c rs ts ns e along = lane_goes (kir.step w.setting) kir.cost w.at w.code c (Split t) n s p rs ts ns (lane (suc p) rs ts ns) e refl refl along

pub past_join : (w : Sides) (n : ℕ) (s : State) (u : Bool) (p : ℕ) (c : List VOp) (rs : ℕ → ℕ) (ts ns : List ℕ) → drop p w.code ≡ joins u c
    → Along w n s (lane (past u p) rs ts ns) → Along w n s (lane p rs ts ns)
past_join w n s true p c rs ts ns e along = along
past_join w n s false p c rs ts ns e along = lane_goes (kir.step w.setting) kir.cost w.at w.code c Join n s p rs ts ns (lane (suc p) rs ts ns) e refl refl along

-- the count of an array is put there
param_goes : (w : Sides) (n : ℕ) (s : State) (p j count : ℕ) (param : Option Param) (rest : List VOp) (f vs rs : ℕ → ℕ) (ts ns : List ℕ) → CountIs w.at j param count
    → drop p w.code ≡ param_count (own w.known 0) j param ∷ rest → Sees w.known f vs rs → Keeps (kept_ids w.setting) f
    → ((rs' : ℕ → ℕ) → Mid w vs rs' count (f 1) → Along w n s (lane (suc p) rs' ts ns)) → Along w n s (lane p rs ts ns)
param_goes w n s p j count None rest f vs rs ts ns is e sees keeps next = one_written w n s p 0 count _ rest f vs rs ts ns e refl refl (sym is) sees keeps next
param_goes w n s p j count (Some param) rest f vs rs ts ns is e sees keeps next =
    one_written w n s p (w.at.block (17 + 2 * j)) count _ rest f vs rs ts ns e refl refl is sees keeps next

count_goes : (w : Sides) (n : ℕ) (s : State) (p : ℕ) (array : ArrayRef) (rest : List VOp) (f vs rs : ℕ → ℕ) (ts ns : List ℕ) → HasArrays w.known w.setting w.at
    → drop p w.code ≡ counted w.known array ∷ rest → Sees w.known f vs rs → Keeps (kept_ids w.setting) f
    → ((rs' : ℕ → ℕ) → Mid w vs rs' (w.setting.array array).count (f 1) → Along w n s (lane (suc p) rs' ts ns)) → Along w n s (lane p rs ts ns)
count_goes w n s p (Parameter j) rest f vs rs ts ns arrays e sees keeps next =
    param_goes w n s p j (w.setting.array (Parameter j)).count (slice_get w.known.params j) rest f vs rs ts ns (arrays.param j) e sees keeps next
count_goes w n s p (Declared j) rest f vs rs ts ns arrays e sees keeps next =
    one_written w n s p (declared_count (slice_get w.known.arrays j)) (w.setting.array (Declared j)).count _ rest f vs rs ts ns e refl refl (arrays.declared j) sees keeps next

-- the check decides
check_decides : (w : Sides) (n : ℕ) (u t : Bool) (array : ArrayRef) (a : Operand) (pos : Pos) (p : ℕ) (c : List VOp) (ts : List Task) (vs rs : ℕ → ℕ) (turns ns : List ℕ)
    → nat_lt (value vs a) (w.setting.array array).count ≡ t → drop p w.code ≡ checked w.known u pos p c → value rs (held w.known 0) ≡ (if t then 1 else 0)
    → (t ≡ true → Along w n (state ts vs turns) (lane (check_end u p) rs turns ns)) → Along w n (state (Do (Check array a pos) ∷ ts) vs turns) (lane p rs turns ns)
check_decides w n u true array a pos p c ts vs rs turns ns less e is next =
    let s : State = state (Do (Check array a pos) ∷ ts) vs turns in
    let q : ℕ = past u p in
    let e1 = behind_splits w.code u (held w.known 0) p _ e in
    let e3 = behind w.code _ _ (suc q) (behind w.code _ _ q e1) in
    past_split w n s u (held w.known 0) p _ rs turns ns e
    (FirstGoes n s (state ts vs turns) (lane q rs turns ns) (ap (λ b. if b then Go (state ts vs turns) else Stop (Fault pos)) less)
    (lane_goes (kir.step w.setting) kir.cost w.at w.code _ (IfNot (held w.known 0) (further 2 q)) n (state ts vs turns) q rs turns ns (lane (further 2 q) rs turns ns) e1
    (ap (λ x. Go (lane (if x == 0 then suc q else further 2 q) rs turns ns)) is) refl
    (past_join w n (state ts vs turns) u (further 2 q) c rs turns ns e3 (next refl))))
check_decides w n u false array a pos p c ts vs rs turns ns less e is next =
    let s : State = state (Do (Check array a pos) ∷ ts) vs turns in
    let q : ℕ = past u p in
    let e1 = behind_splits w.code u (held w.known 0) p _ e in
    let e2 = behind w.code _ _ q e1 in
    past_split w n s u (held w.known 0) p _ rs turns ns e
    (lane_goes (kir.step w.setting) kir.cost w.at w.code _ (IfNot (held w.known 0) (further 2 q)) n s q rs turns ns (lane (suc q) rs turns ns) e1
    (ap (λ x. Go (lane (if x == 0 then suc q else further 2 q) rs turns ns)) is) refl
    (BothStop n s (lane (suc q) rs turns ns) (Fault pos) (ap (λ b. if b then Go (state ts vs turns) else Stop (Fault pos)) less) (step_at w.at w.code _ (suc q) rs turns ns e2)))

pub check_goes : (w : Sides) (n p : ℕ) (array : ArrayRef) (a : Operand) (pos : Pos) (c : List VOp) (ks : List Checked) (ts : List Task) (f vs rs : ℕ → ℕ) (turns ns : List ℕ)
    → HasArrays w.known w.setting w.at → drop p w.code ≡ counted w.known array ∷ Compute (own w.known 0) Sltu a (held w.known 0) ∷ checked w.known (is_uniform w.known.marks a) pos (further 2 p) c
    → IsBelow w.known.variables a → Starts w n (record { array = array; index = a } ∷ ks) ts turns (check_end (is_uniform w.known.marks a) (further 2 p))
    → Sees w.known f vs rs → Keeps (kept_ids w.setting) f → Passes w.setting ks vs → Along w n (state (Do (Check array a pos) ∷ ts) vs turns) (lane p rs turns ns)
check_goes w n p array a pos c ks ts f vs rs turns ns arrays e below next sees keeps passes =
    let s : State = state (Do (Check array a pos) ∷ ts) vs turns in
    let count : ℕ = (w.setting.array array).count in
    let e1 = behind w.code _ _ p e in
    let e2 = behind w.code _ _ (further 1 p) e1 in
    count_goes w n s p array _ f vs rs turns ns arrays e sees keeps (λ rs1 mid1.
    goes_one w n s vs turns ns (further 1 p) Sltu a (held w.known 0) _ rs1 (value vs a) count _ _ e1 (same_value w.known mid1.f vs rs1 a below mid1.sees) (one_is w vs rs1 _ _ mid1) mid1 (λ rs2 mid2.
    check_decides w n (is_uniform w.known.marks a) (nat_lt (value vs a) count) array a pos (further 2 p) c ts vs rs2 turns ns refl e2 (one_is w vs rs2 _ _ mid2)
    (λ less. next mid2.f vs rs2 ns mid2.sees mid2.keeps (ltb-true (value vs a) count less, passes))))
