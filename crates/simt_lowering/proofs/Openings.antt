-- The first operations of a kernel: the lanes that have an item, registers that become 0, scalar parameters, and ids.
use Rattle.std.proofs.Common.{◌≡◌, ℕ, zero, suc, ◌+◌, ◌-◌, ◌*◌, ◌/◌, ◌%◌, ◌^◌, ◌<◌, ◌≤◌, inl, inr, List, [], ◌∷◌, drop, refl, ap, sym, ◌∙◌, arith, ne_eqb}
use Rattle.std.specs.Prelude.{if◌then◌else◌, slice_index}
use Rattle.std.proofs.Math.Nat.{div-div-eq-div-mul}
use Rattle.std.proofs.lemmas.Bool.{cases_eq}
use Rattle.vx_base.specs.Values.{alu_value_of}
use Rattle.vx_base.specs.declared.types.Alu.{Alu}
use Rattle.vx_base.specs.declared.types.Alu.TheVariants.{Add, Sub, Mul, Srl, Sltu, Divu, Remu}
use Rattle.vx_base.specs.declared.types.ParamKind.{ParamKind}
use Rattle.vx_base.specs.declared.types.ParamKind.TheVariants.{Scalar, Pointer}
use Rattle.item_acts.specs.declared.acts.Action.TheVariants.{End}
use Rattle.item_acts.specs.declared.acts.Bound.{Bound}
use Rattle.item_acts.specs.Launches.{put_at}
use Rattle.item_acts.specs.Machine.{Go, Stop}
use Rattle.item_acts.proofs.Launches.{put_at_same, put_at_other}
use Rattle.item_settings.specs.Settings.{Setting, bound_value, bound_values, with_value}
use Rattle.ocl_ast.specs.declared.units.Param.{Param}
use Rattle.ocl_program.specs.declared.exprs.Builtin.TheVariants.{GlobalId, LocalId}
use Rattle.kir.specs.Machine as kir
use Rattle.kir.specs.Machine.{value, State}
use Rattle.kir.specs.Trees.{Operand, NumberOf}
use Rattle.vcode.specs.declared.ops.Csr.TheVariants.{LaneNumber, WarpNumber}
use Rattle.vcode.specs.Code.{VOp, Copy, Compute, Word, Learn, Tmc}
use Rattle.vcode.specs.Machine.{Around, lane, op_step, op_cost}
use Rattle.vcode.proofs.Steps.{behind, lane_goes}
use Rattle.vx_isa.specs.Warps.{has_lane}
use Rattle.simt_lowering.specs.Around.{HasItem, HasScalars, ScalarIs}
use Rattle.simt_lowering.specs.Lowered.{Known, own, held, further, item_lanes, zeroed, scalar, scalars, scalars_end, behind_kind, local_ids_code, global_id_code, differences, ids_code}
use Rattle.simt_lowering.proofs.IdWords.{difference, second_kept, third_kept}
use Rattle.simt_lowering.proofs.LaneMasks.{lane_stays, lt_or_le}
use Rattle.simt_lowering.proofs.Sides.{Sees, kept_ids, Keeps, Sides, Along, computes_own, writes_own}

module _ (w : Sides) (n : ℕ) (s : State) (ts ns : List ℕ) where
  -- a step that leaves the registers as they are
  pub passes_by : (p : ℕ) (op : VOp) (rest : List VOp) (rs : ℕ → ℕ) → drop p w.code ≡ op ∷ rest → op_step w.at op p rs ts ns ≡ Go (lane (suc p) rs ts ns) → op_cost op rs ≡ 0
      → Along w n s (lane (suc p) rs ts ns) → Along w n s (lane p rs ts ns)
  passes_by p op rest rs e goes free along = lane_goes (kir.step w.setting) kir.cost w.at w.code rest op n s p rs ts ns (lane (suc p) rs ts ns) e goes free along

  -- what is computed into a register behind the variables, by its value
  pub computes_to : (p i : ℕ) (op : Alu) (a b : Operand) (rest : List VOp) (f vs rs : ℕ → ℕ) (x y v : ℕ) → drop p w.code ≡ Compute (own w.known i) op a b ∷ rest
      → value rs a ≡ x → value rs b ≡ y → alu_value_of op x y ≡ v → Sees w.known f vs rs
      → ((rs' : ℕ → ℕ) → Sees w.known (put_at i v f) vs rs' → Along w n s (lane (suc p) rs' ts ns)) → Along w n s (lane p rs ts ns)
  computes_to p i op a b rest f vs rs x y v e left right is sees next =
      writes_own w n s p i v (Compute (own w.known i) op a b) rest f vs rs ts ns ns e
      (ap (λ z. Go (lane (suc p) (put_at (own w.known i) (alu_value_of op z (value rs b)) rs) ts ns)) left
      ∙ ap (λ z. Go (lane (suc p) (put_at (own w.known i) (alu_value_of op x z) rs) ts ns)) right
      ∙ ap (λ z. Go (lane (suc p) (put_at (own w.known i) z rs) ts ns)) is) refl sees next

  pub word_to : (p i k : ℕ) (rest : List VOp) (f vs rs : ℕ → ℕ) → drop p w.code ≡ Word (own w.known i) k ∷ rest → Sees w.known f vs rs
      → ((rs' : ℕ → ℕ) → Sees w.known (put_at i (w.at.block k) f) vs rs' → Along w n s (lane (suc p) rs' ts ns)) → Along w n s (lane p rs ts ns)
  word_to p i k rest f vs rs e sees next = writes_own w n s p i (w.at.block k) (Word (own w.known i) k) rest f vs rs ts ns ns e refl refl sees next

  pub warp_to : (p i : ℕ) (rest : List VOp) (f vs rs : ℕ → ℕ) → drop p w.code ≡ Learn (own w.known i) WarpNumber ∷ rest → Sees w.known f vs rs
      → ((rs' : ℕ → ℕ) → Sees w.known (put_at i w.at.warp f) vs rs' → Along w n s (lane (suc p) rs' ts ns)) → Along w n s (lane p rs ts ns)
  warp_to p i rest f vs rs e sees next = writes_own w n s p i w.at.warp (Learn (own w.known i) WarpNumber) rest f vs rs ts ns ns e refl refl sees next

  pub number_to : (p i : ℕ) (rest : List VOp) (f vs rs : ℕ → ℕ) → drop p w.code ≡ Learn (own w.known i) LaneNumber ∷ rest → Sees w.known f vs rs
      → ((rs' : ℕ → ℕ) → Sees w.known (put_at i w.at.number f) vs rs' → Along w n s (lane (suc p) rs' ts ns)) → Along w n s (lane p rs ts ns)
  number_to p i rest f vs rs e sees next = writes_own w n s p i w.at.number (Learn (own w.known i) LaneNumber) rest f vs rs ts ns ns e refl refl sees next

-- any registers are seen
pub seen : (k : Known) (rs : ℕ → ℕ) → Sees k (λ i. rs (own k i)) rs rs
seen k rs = record { variable = λ j low. refl; register = λ i. refl }

-- ---- words

word_is : (a c : ℕ) → a + c < 2 ^ 32 → a % 2 ^ 32 ≡ a
word_is a c low = omega arith

product_is : (a b c : ℕ) → a * b + c < 2 ^ 32 → alu_value_of Mul a b ≡ a * b
product_is a b c low = word_is (a * b) c low

sum_is : (a b : ℕ) → a + b < 2 ^ 32 → alu_value_of Add a b ≡ a + b
sum_is a b low = omega arith

remainder_is : (a b : ℕ) → 0 < b → alu_value_of Remu a b ≡ a % b
remainder_is a b some = ap (λ t. if t then a else a % b) (ne_eqb b 0 (λ e. absurd (omega arith)))

quotient_is : (a b : ℕ) → 0 < b → alu_value_of Divu a b ≡ a / b
quotient_is a b some = ap (λ t. if t then 2 ^ 32 - 1 else a / b) (ne_eqb b 0 (λ e. absurd (omega arith)))

left_over : (items before number : ℕ) → before + number < items → items < 2 ^ 32 → alu_value_of Sub items before ≡ items - before
left_over items before number exists small = let h : alu_value_of Sub items before ≡ (items + (2 ^ 32 - before)) % 2 ^ 32 = difference items before (omega arith) (omega arith) in omega arith

below_word : (before number items : ℕ) → before + number < items → items < 2 ^ 32 → before + number < 2 ^ 32
below_word before number items exists small = omega arith

has_left : (items before number : ℕ) → before + number < items → number < items - before
has_left items before number exists = omega arith

cut_sum : (a b : ℕ) → (a % 2 ^ 32 + b) % 2 ^ 32 ≡ (a + b) % 2 ^ 32
cut_sum a b = omega arith

-- ---- the lanes that have an item

pub lanes_go : (w : Sides) (n : ℕ) (s : State) (p : ℕ) (c : List VOp) (rs : ℕ → ℕ) (ts ns : List ℕ) → HasItem w.setting w.at → drop p w.code ≡ item_lanes w.known c
    → ((rs' : ℕ → ℕ) → Along w n s (lane (further 10 p) rs' ts ns)) → Along w n s (lane p rs ts ns)
lanes_go w n s p c rs ts ns item e next =
    let k : Known = w.known in
    let items : ℕ = w.at.block 1 in
    let lanes : ℕ = w.at.block 15 in
    let before : ℕ = w.at.warp * lanes in
    let e1 = behind w.code _ _ p e in
    let e2 = behind w.code _ _ (further 1 p) e1 in
    let e3 = behind w.code _ _ (further 2 p) e2 in
    let e4 = behind w.code _ _ (further 3 p) e3 in
    let e5 = behind w.code _ _ (further 4 p) e4 in
    let e6 = behind w.code _ _ (further 5 p) e5 in
    let e7 = behind w.code _ _ (further 6 p) e6 in
    let e8 = behind w.code _ _ (further 7 p) e7 in
    let e9 = behind w.code _ _ (further 8 p) e8 in
    let exists : before + w.at.number < items = item.exists in
    let small : items < 2 ^ 32 = item.small 1 in
    let left : ℕ = items - before in
    let left_is : alu_value_of Sub items before ≡ items - before = left_over items before w.at.number exists small in
    word_to w n s ts ns p 0 1 _ _ rs rs e (seen k rs) (λ rs1 s1.
    warp_to w n s ts ns (further 1 p) 1 _ _ rs rs1 e1 s1 (λ rs2 s2.
    word_to w n s ts ns (further 2 p) 2 15 _ _ rs rs2 e2 s2 (λ rs3 s3.
    computes_to w n s ts ns (further 3 p) 1 Mul (held k 1) (held k 2) _ _ rs rs3 w.at.warp lanes before e3 (s3.register 1) (s3.register 2)
    (product_is w.at.warp lanes w.at.number (below_word before w.at.number items exists small)) s3 (λ rs4 s4.
    computes_to w n s ts ns (further 4 p) 0 Sub (held k 0) (held k 1) _ _ rs rs4 items before left e4 (s4.register 0) (s4.register 1) left_is s4 (λ rs5 s5.
    computes_own w n s (further 5 p) 1 Sltu (held k 0) (NumberOf 32) _ _ rs rs5 ts ns left 32 e5 (s5.register 0) refl s5 (λ rs6 s6.
    computes_own w n s (further 6 p) 0 Sub (NumberOf 32) (held k 0) _ _ rs rs6 ts ns 32 left e6 refl (s6.register 0) s6 (λ rs7 s7.
    computes_own w n s (further 7 p) 0 Mul (held k 0) (held k 1) _ _ rs rs7 ts ns _ _ e7 (s7.register 0) (s7.register 1) s7 (λ rs8 s8.
    computes_own w n s (further 8 p) 0 Srl (NumberOf 0xffffffff) (held k 0) _ _ rs rs8 ts ns 0xffffffff _ e8 refl (s8.register 0) s8 (λ rs9 s9.
    passes_by w n s ts ns (further 9 p) (Tmc (held k 0)) c rs9 e9
    (ap (λ b. if b then Go (lane (further 10 p) rs9 ts ns) else Stop End) (ap (λ m. has_lane m w.at.number) (s9.register 0) ∙ lane_stays left w.at.number (has_left items before w.at.number exists) item.few_lanes))
    refl (next rs9))))))))))

-- ---- registers that become 0

none_more : (r : ℕ) (rs : ℕ → ℕ) → ((j : ℕ) → j < r → rs j ≡ 0) → (j : ℕ) → j < suc r → put_at r 0 rs j ≡ 0
none_more r rs none j low = elim (cases_eq j r) [
  | inl same ↦ ap (put_at r 0 rs) same ∙ put_at_same r 0 rs
  | inr other ↦ put_at_other r 0 rs j other ∙ none j (omega arith)
]

pub zeroed_goes : (w : Sides) (n : ℕ) (s : State) (count p r : ℕ) (c : List VOp) (rs : ℕ → ℕ) (ts ns : List ℕ) → drop p w.code ≡ zeroed r count c → ((j : ℕ) → j < r → rs j ≡ 0)
    → ((rs' : ℕ → ℕ) → drop (further count p) w.code ≡ c → ((j : ℕ) → j < r + count → rs' j ≡ 0) → Along w n s (lane (further count p) rs' ts ns)) → Along w n s (lane p rs ts ns)
zeroed_goes w n s zero p r c rs ts ns e none next = next rs e (λ j low. none j (omega arith))
zeroed_goes w n s (suc count) p r c rs ts ns e none next =
    lane_goes (kir.step w.setting) kir.cost w.at w.code _ (Copy r (NumberOf 0)) n s p rs ts ns (lane (suc p) (put_at r 0 rs) ts ns) e refl refl
    (zeroed_goes w n s count (suc p) (suc r) c (put_at r 0 rs) ts ns (behind w.code _ _ p e) (none_more r rs none) (λ rs' e' none'. next rs' e' (λ j low. none' j (omega arith))))

-- ---- scalar parameters

there : (r j : ℕ) → r ≤ j → r + (j - r) ≡ j
there r j more = omega arith

here : (r j : ℕ) → j ≡ r → r + 0 ≡ j
here r j same = omega arith

next_place : (r i : ℕ) → suc r + i ≡ r + suc i
next_place r i = omega arith

-- the registers from r on are still 0, those before hold the values of the variables, and the values of the variables from r on are these
pub record Filled (vs rs : ℕ → ℕ) (count r : ℕ) (values : List ℕ) : Type 0 where
  pub before : (j : ℕ) → j < r → rs j ≡ vs j
  pub still : (j : ℕ) → r ≤ j → j < count → rs j ≡ 0
  pub values_are : (i : ℕ) → vs (r + i) ≡ slice_index values i

filled_all : (vs rs : ℕ → ℕ) (count r : ℕ) → Filled vs rs count r [] → (j : ℕ) → j < count → rs j ≡ vs j
filled_all vs rs count r filled j low = elim (lt_or_le j r) [
  | inl less ↦ filled.before j less
  | inr more ↦ filled.still j more low ∙ sym (filled.values_are (j - r)) ∙ ap vs (there r j more)
]

filled_one : (vs rs : ℕ → ℕ) (count r v : ℕ) (values : List ℕ) → Filled vs rs count r (v ∷ values) → Filled vs (put_at r v rs) count (suc r) values
filled_one vs rs count r v values filled = record {
  before = λ j low. elim (cases_eq j r) [
    | inl same ↦ ap (put_at r v rs) same ∙ put_at_same r v rs ∙ sym (filled.values_are 0) ∙ ap vs (here r j same)
    | inr other ↦ put_at_other r v rs j other ∙ filled.before j (omega arith)
  ];
  still = λ j low less. put_at_other r v rs j (λ e. omega arith) ∙ filled.still j (omega arith) less;
  values_are = λ i. ap vs (next_place r i) ∙ filled.values_are (suc i);
}

scalar_goes : (w : Sides) (n : ℕ) (s : State) (kind : ParamKind) (bound : Bound) (params : List Param) (bounds : List Bound) (j r p count : ℕ) (c : List VOp) (vs rs : ℕ → ℕ) (ts ns : List ℕ)
    → ScalarIs w.at j kind bound → drop p w.code ≡ scalar kind j r (λ r'. scalars (suc j) r' params c) → Filled vs rs count r (with_value kind bound (bound_values params bounds))
    → ((r' : ℕ) (rs' : ℕ → ℕ) → drop (behind_kind kind p) w.code ≡ scalars (suc j) r' params c → Filled vs rs' count r' (bound_values params bounds)
    → Along w n s (lane (behind_kind kind p) rs' ts ns))
    → Along w n s (lane p rs ts ns)
scalar_goes w n s (Scalar elem) bound params bounds j r p count c vs rs ts ns is e filled next =
    lane_goes (kir.step w.setting) kir.cost w.at w.code _ (Word r (16 + 2 * j)) n s p rs ts ns (lane (suc p) (put_at r (bound_value elem bound) rs) ts ns) e
    (ap (λ v. Go (lane (suc p) (put_at r v rs) ts ns)) is) refl
    (next (suc r) (put_at r (bound_value elem bound) rs) (behind w.code _ _ p e) (filled_one vs rs count r (bound_value elem bound) (bound_values params bounds) filled))
scalar_goes w n s (Pointer space elem readonly) bound params bounds j r p count c vs rs ts ns is e filled next = next r rs e filled

pub scalars_go : (w : Sides) (n : ℕ) (s : State) (params : List Param) (bounds : List Bound) (j r p count : ℕ) (c : List VOp) (vs rs : ℕ → ℕ) (ts ns : List ℕ)
    → HasScalars w.at j params bounds → drop p w.code ≡ scalars j r params c → Filled vs rs count r (bound_values params bounds)
    → ((rs' : ℕ → ℕ) → drop (scalars_end params p) w.code ≡ c → ((i : ℕ) → i < count → rs' i ≡ vs i) → Along w n s (lane (scalars_end params p) rs' ts ns))
    → Along w n s (lane p rs ts ns)
scalars_go w n s [] bounds j r p count c vs rs ts ns have e filled next = next rs e (filled_all vs rs count r filled)
scalars_go w n s (param ∷ params) [] j r p count c vs rs ts ns have e filled next = absurd have
scalars_go w n s (param ∷ params) (bound ∷ bounds) j r p count c vs rs ts ns have e filled next =
    scalar_goes w n s param.kind bound params bounds j r p count c vs rs ts ns have.0 e filled (λ r' rs' e' filled'.
    scalars_go w n s params bounds (suc j) r' (behind_kind param.kind p) count c vs rs' ts ns have.1 e' filled' next)

-- ---- ids

-- the ids of an item by its number in its group
first_id : (at : Around) (setting : Setting) → HasItem setting at → (at.warp * at.block 15 + at.number) % at.block 6 ≡ setting.id LocalId 0
first_id at setting item = item.local 0 (omega arith)

second_id : (at : Around) (setting : Setting) → HasItem setting at → (at.warp * at.block 15 + at.number) / at.block 6 % at.block 7 ≡ setting.id LocalId 1
second_id at setting item = item.local 1 (omega arith)

third_id : (at : Around) (setting : Setting) → HasItem setting at → (at.warp * at.block 15 + at.number) / at.block 6 / at.block 7 ≡ setting.id LocalId 2
third_id at setting item = div-div-eq-div-mul (at.warp * at.block 15 + at.number) (at.block 6) (at.block 7) ∙ item.local 2 (omega arith)

local_ids_go : (w : Sides) (n : ℕ) (s : State) (p : ℕ) (c : List VOp) (f vs rs : ℕ → ℕ) (ts ns : List ℕ) → HasItem w.setting w.at → drop p w.code ≡ local_ids_code w.known c
    → Sees w.known f vs rs
    → ((f' rs' : ℕ → ℕ) → drop (further 11 p) w.code ≡ c → Sees w.known f' vs rs' → f' 2 ≡ w.setting.id LocalId 0 → f' 3 ≡ w.setting.id LocalId 1 → f' 4 ≡ w.setting.id LocalId 2
    → Along w n s (lane (further 11 p) rs' ts ns)) → Along w n s (lane p rs ts ns)
local_ids_go w n s p c f vs rs ts ns item e sees next =
    let k : Known = w.known in
    let lanes : ℕ = w.at.block 15 in
    let before : ℕ = w.at.warp * lanes in
    let number : ℕ = before + w.at.number in
    let first : ℕ = w.at.block 6 in
    let second : ℕ = w.at.block 7 in
    let e1 = behind w.code _ _ p e in
    let e2 = behind w.code _ _ (further 1 p) e1 in
    let e3 = behind w.code _ _ (further 2 p) e2 in
    let e4 = behind w.code _ _ (further 3 p) e3 in
    let e5 = behind w.code _ _ (further 4 p) e4 in
    let e6 = behind w.code _ _ (further 5 p) e5 in
    let e7 = behind w.code _ _ (further 6 p) e6 in
    let e8 = behind w.code _ _ (further 7 p) e7 in
    let e9 = behind w.code _ _ (further 8 p) e8 in
    let e10 = behind w.code _ _ (further 9 p) e9 in
    let e11 = behind w.code _ _ (further 10 p) e10 in
    let low = below_word before w.at.number (w.at.block 1) item.exists (item.small 1) in
    warp_to w n s ts ns p 0 _ f vs rs e sees (λ rs1 s1.
    word_to w n s ts ns (further 1 p) 1 15 _ _ vs rs1 e1 s1 (λ rs2 s2.
    computes_to w n s ts ns (further 2 p) 0 Mul (held k 0) (held k 1) _ _ vs rs2 w.at.warp lanes before e2 (s2.register 0) (s2.register 1) (product_is w.at.warp lanes w.at.number low) s2 (λ rs3 s3.
    number_to w n s ts ns (further 3 p) 1 _ _ vs rs3 e3 s3 (λ rs4 s4.
    computes_to w n s ts ns (further 4 p) 0 Add (held k 0) (held k 1) _ _ vs rs4 before w.at.number number e4 (s4.register 0) (s4.register 1) (sum_is before w.at.number low) s4 (λ rs5 s5.
    word_to w n s ts ns (further 5 p) 1 6 _ _ vs rs5 e5 s5 (λ rs6 s6.
    computes_to w n s ts ns (further 6 p) 2 Remu (held k 0) (held k 1) _ _ vs rs6 number first (number % first) e6 (s6.register 0) (s6.register 1) (remainder_is number first item.some_first) s6 (λ rs7 s7.
    computes_to w n s ts ns (further 7 p) 0 Divu (held k 0) (held k 1) _ _ vs rs7 number first (number / first) e7 (s7.register 0) (s7.register 1) (quotient_is number first item.some_first) s7 (λ rs8 s8.
    word_to w n s ts ns (further 8 p) 1 7 _ _ vs rs8 e8 s8 (λ rs9 s9.
    computes_to w n s ts ns (further 9 p) 3 Remu (held k 0) (held k 1) _ _ vs rs9 (number / first) second (number / first % second) e9 (s9.register 0) (s9.register 1)
    (remainder_is (number / first) second item.some_second) s9 (λ rs10 s10.
    computes_to w n s ts ns (further 10 p) 4 Divu (held k 0) (held k 1) _ _ vs rs10 (number / first) second (number / first / second) e10 (s10.register 0) (s10.register 1)
    (quotient_is (number / first) second item.some_second) s10 (λ rs11 s11.
    next _ rs11 e11 s11 (first_id w.at w.setting item) (second_id w.at w.setting item) (third_id w.at w.setting item))))))))))))

-- the global id of a dimension, put behind what is kept of it
global_sum : (at : Around) (setting : Setting) (d : ℕ) → d < 3 → HasItem setting at
    → alu_value_of Add (alu_value_of Mul (at.block (3 + d)) (at.block (6 + d))) (setting.id LocalId d) ≡ setting.id GlobalId d
global_sum at setting d low item = cut_sum (at.block (3 + d) * at.block (6 + d)) (setting.id LocalId d) ∙ item.global d low

global_id_goes : (w : Sides) (n : ℕ) (s : State) (d p : ℕ) (c : List VOp) (f vs rs : ℕ → ℕ) (ts ns : List ℕ) → d < 3 → HasItem w.setting w.at → drop p w.code ≡ global_id_code w.known d c
    → Sees w.known f vs rs → f (2 + d) ≡ w.setting.id LocalId d
    → ((rs' : ℕ → ℕ) → drop (further 4 p) w.code ≡ c
    → Sees w.known (put_at (5 + d) (w.setting.id GlobalId d) (put_at 0 (alu_value_of Mul (w.at.block (3 + d)) (w.at.block (6 + d))) (put_at 1 (w.at.block (6 + d)) (put_at 0 (w.at.block (3 + d)) f)))) vs rs'
    → Along w n s (lane (further 4 p) rs' ts ns)) → Along w n s (lane p rs ts ns)
global_id_goes w n s d p c f vs rs ts ns low item e sees local next =
    let k : Known = w.known in
    let g : ℕ = w.at.block (3 + d) in
    let l : ℕ = w.at.block (6 + d) in
    let e1 = behind w.code _ _ p e in
    let e2 = behind w.code _ _ (further 1 p) e1 in
    let e3 = behind w.code _ _ (further 2 p) e2 in
    let e4 = behind w.code _ _ (further 3 p) e3 in
    word_to w n s ts ns p 0 (3 + d) _ f vs rs e sees (λ rs1 s1.
    word_to w n s ts ns (further 1 p) 1 (6 + d) _ _ vs rs1 e1 s1 (λ rs2 s2.
    computes_own w n s (further 2 p) 0 Mul (held k 0) (held k 1) _ _ vs rs2 ts ns g l e2 (s2.register 0) (s2.register 1) s2 (λ rs3 s3.
    computes_to w n s ts ns (further 3 p) (5 + d) Add (held k 0) (held k (2 + d)) _ _ vs rs3 (alu_value_of Mul g l) (w.setting.id LocalId d) (w.setting.id GlobalId d) e3 (s3.register 0)
    (s3.register (2 + d) ∙ put_at_other 0 (alu_value_of Mul g l) (put_at 1 l (put_at 0 g f)) (2 + d) (λ h. omega arith) ∙ put_at_other 1 l (put_at 0 g f) (2 + d) (λ h. omega arith)
    ∙ put_at_other 0 g f (2 + d) (λ h. omega arith) ∙ local)
    (global_sum w.at w.setting d low item) s3 (λ rs4 s4. next rs4 e4 s4))))

-- three ids become what is kept of them
differences_go : (w : Sides) (n : ℕ) (s : State) (i p : ℕ) (c : List VOp) (f vs rs : ℕ → ℕ) (ts ns : List ℕ) (x0 x1 x2 : ℕ) → drop p w.code ≡ differences w.known i c
    → Sees w.known f vs rs → f i ≡ x0 → f (i + 1) ≡ x1 → f (i + 2) ≡ x2
    → ((rs' : ℕ → ℕ) → drop (further 3 p) w.code ≡ c → Sees w.known (put_at (i + 2) (third_kept x0 x1 x2) (put_at (i + 1) (second_kept x0 x1) (put_at (i + 2) (alu_value_of Sub x2 x1) f))) vs rs'
    → Along w n s (lane (further 3 p) rs' ts ns)) → Along w n s (lane p rs ts ns)
differences_go w n s i p c f vs rs ts ns x0 x1 x2 e sees e0 e1 e2 next =
    let k : Known = w.known in
    let g1 = behind w.code _ _ p e in
    let g2 = behind w.code _ _ (further 1 p) g1 in
    let g3 = behind w.code _ _ (further 2 p) g2 in
    computes_own w n s p (i + 2) Sub (held k (i + 2)) (held k (i + 1)) _ f vs rs ts ns x2 x1 e (sees.register (i + 2) ∙ e2) (sees.register (i + 1) ∙ e1) sees (λ rs1 s1.
    computes_own w n s (further 1 p) (i + 1) Sub (held k (i + 1)) (held k i) _ _ vs rs1 ts ns x1 x0 g1 (s1.register (i + 1) ∙ put_at_other (i + 2) (alu_value_of Sub x2 x1) f (i + 1) (λ h. omega arith) ∙ e1)
    (s1.register i ∙ put_at_other (i + 2) (alu_value_of Sub x2 x1) f i (λ h. omega arith) ∙ e0) s1 (λ rs2 s2.
    computes_own w n s (further 2 p) (i + 2) Sub (held k (i + 2)) (held k (i + 1)) c _ vs rs2 ts ns (alu_value_of Sub x2 x1) (second_kept x0 x1) g2
    (s2.register (i + 2) ∙ put_at_other (i + 1) (second_kept x0 x1) (put_at (i + 2) (alu_value_of Sub x2 x1) f) (i + 2) (λ h. omega arith) ∙ put_at_same (i + 2) (alu_value_of Sub x2 x1) f)
    (s2.register (i + 1) ∙ put_at_same (i + 1) (second_kept x0 x1) (put_at (i + 2) (alu_value_of Sub x2 x1) f)) s2 (λ rs3 s3. next rs3 g3 s3)))

-- what is kept of the ids, by the registers
keeps_of : (at : Setting) (f : ℕ → ℕ) → f 2 ≡ kept_ids at 2 → f 3 ≡ kept_ids at 3 → f 4 ≡ kept_ids at 4 → f 5 ≡ kept_ids at 5 → f 6 ≡ kept_ids at 6 → f 7 ≡ kept_ids at 7
    → (j : ℕ) → 2 ≤ j → j < 8 → f j ≡ kept_ids at j
keeps_of at f e2 e3 e4 e5 e6 e7 zero from to = absurd (omega arith)
keeps_of at f e2 e3 e4 e5 e6 e7 (suc zero) from to = absurd (omega arith)
keeps_of at f e2 e3 e4 e5 e6 e7 (suc (suc zero)) from to = e2
keeps_of at f e2 e3 e4 e5 e6 e7 (suc (suc (suc zero))) from to = e3
keeps_of at f e2 e3 e4 e5 e6 e7 (suc (suc (suc (suc zero)))) from to = e4
keeps_of at f e2 e3 e4 e5 e6 e7 (suc (suc (suc (suc (suc zero))))) from to = e5
keeps_of at f e2 e3 e4 e5 e6 e7 (suc (suc (suc (suc (suc (suc zero)))))) from to = e6
keeps_of at f e2 e3 e4 e5 e6 e7 (suc (suc (suc (suc (suc (suc (suc zero))))))) from to = e7
keeps_of at f e2 e3 e4 e5 e6 e7 (suc (suc (suc (suc (suc (suc (suc (suc j)))))))) from to = absurd (omega arith)

pub ids_go : (w : Sides) (n : ℕ) (s : State) (p : ℕ) (c : List VOp) (f vs rs : ℕ → ℕ) (ts ns : List ℕ) → HasItem w.setting w.at → drop p w.code ≡ ids_code w.known c → Sees w.known f vs rs
    → ((f' rs' : ℕ → ℕ) → drop (further 29 p) w.code ≡ c → Sees w.known f' vs rs' → Keeps (kept_ids w.setting) f' → Along w n s (lane (further 29 p) rs' ts ns)) → Along w n s (lane p rs ts ns)
ids_go w n s p c f vs rs ts ns item e sees next =
    let local : ℕ → ℕ = w.setting.id LocalId in
    let global : ℕ → ℕ = w.setting.id GlobalId in
    local_ids_go w n s p _ f vs rs ts ns item e sees (λ f1 rs1 e1 s1 l0 l1 l2.
    global_id_goes w n s 0 (further 11 p) _ f1 vs rs1 ts ns (omega arith) item e1 s1 l0 (λ rs2 e2 s2.
    global_id_goes w n s 1 (further 15 p) _ _ vs rs2 ts ns (omega arith) item e2 s2 l1 (λ rs3 e3 s3.
    global_id_goes w n s 2 (further 19 p) _ _ vs rs3 ts ns (omega arith) item e3 s3 l2 (λ rs4 e4 s4.
    differences_go w n s 2 (further 23 p) _ _ vs rs4 ts ns (local 0) (local 1) (local 2) e4 s4 l0 l1 l2 (λ rs5 e5 s5.
    differences_go w n s 5 (further 26 p) c _ vs rs5 ts ns (global 0) (global 1) (global 2) e5 s5 refl refl refl (λ rs6 e6 s6.
    next _ rs6 e6 s6 (record { kept = keeps_of w.setting _ l0 refl refl refl refl refl })))))))
