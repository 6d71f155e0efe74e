-- A lane alone that loads an element of a `__constant` array asks in that array: its index has passed a check, and the address that it has
-- computed since is that of the element. By induction on its steps, along the recursion by which the kernel is lowered.
use Rattle.std.proofs.Common.{◌≡◌, ℕ, zero, suc, ◌+◌, ◌*◌, ◌%◌, ◌^◌, ◌<◌, ◌≤◌, inl, inr, Bool, true, false, nat_lt, List, [], ◌∷◌, drop, Option, None, Some, slice_get, refl, ap, sym, subst, ◌∙◌, arith, ltb-true}
use Rattle.std.specs.Prelude.{◌==◌, if◌then◌else◌}
use Rattle.vx_base.specs.Bytes.{bytes_of}
use Rattle.vx_base.specs.Values.{alu_value_of, elem_bytes, fitted}
use Rattle.vx_base.specs.declared.types.Alu.TheVariants.{Add, Sll, Sltu}
use Rattle.vx_base.specs.declared.types.Elem.{Elem}
use Rattle.vx_base.specs.declared.types.Elem.TheVariants.{Char, Uchar, Short, Ushort, Int, Uint}
use Rattle.vx_base.specs.declared.types.ParamKind.{ParamKind}
use Rattle.vx_base.specs.declared.types.ParamKind.TheVariants.{Scalar, Pointer}
use Rattle.vx_base.specs.declared.types.Pos.{Pos}
use Rattle.item_acts.specs.declared.acts.Bound.{Bound}
use Rattle.item_acts.specs.declared.acts.Range.{Range}
use Rattle.item_acts.specs.Launches.{put_at}
use Rattle.item_acts.specs.Machine.{Go}
use Rattle.item_acts.proofs.Launches.{put_at_same, put_at_other}
use Rattle.item_settings.specs.Settings.{Setting, array_of, elem_size}
use Rattle.ocl_ast.specs.declared.units.Param.{Param}
use Rattle.ocl_program.specs.declared.exprs.ArrayRef.{ArrayRef}
use Rattle.ocl_program.specs.declared.exprs.ArrayRef.TheVariants.{Parameter, Declared}
use Rattle.ocl_program.specs.declared.exprs.Builtin.{Builtin}
use Rattle.ocl_program.specs.declared.exprs.Builtin.TheVariants.{WorkDim, GlobalId, LocalId, GroupId, GlobalSize, LocalSize, NumGroups, GlobalOffset, Min, Max, Clamp, Abs, MulHi}
use Rattle.ocl_program.specs.declared.functions.LocalArray.{LocalArray}
use Rattle.step_machine.specs.Stacks.{under}
use Rattle.kir.specs.Loops.{loop_nesting}
use Rattle.kir.specs.Machine.{code_setting, value}
use Rattle.kir.specs.Measures.{Known as Checked, IsKnown, AreChecked, OpChecked, forgotten, known_behind}
use Rattle.kir.specs.Numbered.{IsBelow, AreBelow, OpBelow}
use Rattle.kir.specs.Trees.{Operand, VariableOf, NumberOf, Op, Set, Calculate, Fit, Id, Load, Store, Check, Barrier, If, Loop, Break, Continue, Return, Call, Ops, NoOps, AndOp, KirCode}
use Rattle.kir.specs.Typing.{AreTyped, OpTyped, HasElem}
use Rattle.kir.proofs.TypingLaws.{has_type}
use Rattle.uniformity.specs.Marks.{is_constant, is_constant_param, is_uniform}
use Rattle.vcode.specs.declared.ops.Csr.TheVariants.{MaskNow}
use Rattle.vcode.specs.Code.{VOp, Fresh, Copy, Compute, Word, Learn, Fetch, Write, IfZero, IfNot, Goto, Split, Join, Pred, Tmc, Trap, Enter, Leaves, Again}
use Rattle.vcode.specs.Machine.{Around, Lane, lane, op_step, step_from}
use Rattle.vcode.proofs.Steps.{step_at}
use Rattle.simt_lowering.specs.Around.{HasArrays, CountIs}
use Rattle.simt_lowering.specs.Kept.{CanLower, item_place, known_of_kernel}
use Rattle.simt_lowering.specs.Lowered.{Known, own, held, mask_of, registers_for, further, past, shift_of, started, param_start, declared_start, counted, param_count, declared_count, kept_id, group_word, size_word, id_code, one_place, other_place, meet_place, if_end, step_place, head_place, test_place, body_place, loop_end, check_end, ops_end, op_end, zeroed, scalar, scalars, scalars_end, behind_kind, ids_code, body_start, kernel_code}
use Rattle.simt_lowering.specs.Runs.{Comes, Leads, first_written}
use Rattle.simt_lowering.proofs.Sides.{Passes, passed_one}
use Rattle.mask_laws.specs.Constants.{IsConstantField, LoadsConstant, LoadsAreConstant}
use Rattle.mask_laws.specs.Labels.{straight, flows, Labelled, bare, split_spots, branch_spot, join_spots, check_spots, if_spots, loop_frame, keep_spots, pred_spots, test_spot, loop_spots, first_frames, second_frames, load_code, loads_constant, flows_all, labelled, labelled_op, kernel_spots, opening_code, spot, spot_in, ops_of, first_of_list}
use Rattle.mask_laws.specs.Spots.{Frame, Round, Turning, Straight, Spot}
use Rattle.mask_laws.proofs.Passed.{Spares, AllBelow, unread, reads_high, spares_high, spares_forgotten, forgotten_below, passes_spared, passes_fewer, SparedBy, AllSpared, Passed, op_passes}
use Rattle.mask_laws.proofs.Plain.{IsSingle, single_after}
use Rattle.mask_laws.proofs.RunLaw.{drop_ops}
use Rattle.mask_laws.proofs.Spelling.{kernel_spells}
use Rattle.mask_laws.proofs.Whole.{after, behind_spot}

-- ---- numbers

-- an index that is shifted is a number of bytes
shifted : (elem : Elem) (i : ℕ) → alu_value_of Sll i (shift_of elem) ≡ (i * elem_bytes elem) % 2 ^ 32
shifted Char i = refl
shifted Uchar i = refl
shifted Short i = refl
shifted Ushort i = refl
shifted Int i = refl
shifted Uint i = refl

-- the bytes of an element are in its array
element_inside : (elem : Elem) (i count : ℕ) → i < count → (i * elem_bytes elem) % 2 ^ 32 + bytes_of (elem_size elem) ≤ count * elem_bytes elem
element_inside Char i count below = omega (arith, below)
element_inside Uchar i count below = omega (arith, below)
element_inside Short i count below = omega (arith, below)
element_inside Ushort i count below = omega (arith, below)
element_inside Int i count below = omega (arith, below)
element_inside Uint i count below = omega (arith, below)

same_bit : (x y : Bool) → x ≡ y → ◌≡◌ {A = ℕ} (if x then 1 else 0) (if y then 1 else 0)
same_bit x y e = subst (λ z. ◌≡◌ {A = ℕ} (if x then 1 else 0) (if z then 1 else 0)) e refl

-- operations that a test leaves out or not
branch_op : (u : Bool) (op : VOp) (q e j : ℕ) (t : Operand) (fs : List Frame) (uni ag : ℕ → Bool) → (branch_spot u op q e j t fs uni ag).op ≡ op
branch_op true op q e j t fs uni ag = refl
branch_op false op q e j t fs uni ag = refl

branch_quiet : (u : Bool) (op : VOp) (q e j : ℕ) (t : Operand) (fs : List Frame) (uni ag : ℕ → Bool) → (branch_spot u op q e j t fs uni ag).shared ≡ false
branch_quiet true op q e j t fs uni ag = refl
branch_quiet false op q e j t fs uni ag = refl

test_op : (u : Bool) (op : VOp) (s p x m : ℕ) (t : Operand) (fs : List Frame) (uni : ℕ → Bool) → (test_spot u op s p x m t fs uni).op ≡ op
test_op true op s p x m t fs uni = refl
test_op false op s p x m t fs uni = refl

test_quiet : (u : Bool) (op : VOp) (s p x m : ℕ) (t : Operand) (fs : List Frame) (uni : ℕ → Bool) → (test_spot u op s p x m t fs uni).shared ≡ false
test_quiet true op s p x m t fs uni = refl
test_quiet false op s p x m t fs uni = refl

module _ (marks : ℕ → Bool) (code : KirCode) (range : Range) (bounds : List Bound) (item : ℕ) (at : Around) (arrays : HasArrays (known_of_kernel marks code) (code_setting code range bounds item) at)
    (whole : List Spot) (ops : List VOp) (spelled : ops_of whole ≡ ops) where
  abbrev k : Known
  k = known_of_kernel marks code

  abbrev setting : Setting
  setting = code_setting code range bounds item

  abbrev n0 : ℕ
  n0 = code.variables

  own_high : (i : ℕ) → n0 ≤ own k i
  own_high i = omega arith

  -- ---- from a place on

  abbrev FirstLoads : List Spot → (ℕ → ℕ) → Type 0
  FirstLoads [] rs = Unit {0}
  FirstLoads (s ∷ rest) rs = LoadsConstant code bounds at s.shared s.op rs

  abbrev Inside : Lane → Type 0
  Inside t = FirstLoads (drop t.place whole) t.registers

  -- in at most so many steps from a lane on, each such load is of the array
  abbrev From : ℕ → Lane → Type 0
  From n s = (m : ℕ) → m ≤ n → (ws : List ℕ) (t : Lane) (us : List ℕ) → Comes at ops m s ws t us → Inside t

  -- from a place on, whatever the registers are with which these checks hold
  abbrev Upto : ℕ → List Checked → ℕ → Type 0
  Upto n xs p = (rs : ℕ → ℕ) (ts ns : List ℕ) → Passes setting xs rs → From n (lane p rs ts ns)

  fewer_from : (n m : ℕ) (s : Lane) → m ≤ n → From n s → From m s
  fewer_from n m s less from j low = from j (omega (arith, less, low))

  fewer : (n m : ℕ) (xs : List Checked) (p : ℕ) → m ≤ n → Upto n xs p → Upto m xs p
  fewer n m xs p less next rs ts ns passes = fewer_from n m (lane p rs ts ns) less (next rs ts ns passes)

  -- nothing has to be known, or less
  unknown : (n : ℕ) (xs : List Checked) (p : ℕ) → Upto n [] p → Upto n xs p
  unknown n xs p next rs ts ns passes = next rs ts ns tt

  less_known : (n d : ℕ) (xs : List Checked) (p : ℕ) → Upto n (forgotten d xs) p → Upto n xs p
  less_known n d xs p next rs ts ns passes = next rs ts ns (passes_fewer setting d xs rs passes)

  op_stands : (p : ℕ) (s : Spot) (rest : List Spot) → drop p whole ≡ s ∷ rest → drop p ops ≡ s.op ∷ ops_of rest
  op_stands p s rest e = ap (λ c. drop p c) (sym spelled) ∙ drop_ops whole p ∙ ap ops_of e

  one_less : (m n : ℕ) → suc m ≤ n → m ≤ n
  one_less m n low = omega (arith, low)

  same_count : (m : ℕ) → m ≤ m
  same_count m = omega arith

  -- one operation, and what is behind it
  spot_from : (n p : ℕ) (rs : ℕ → ℕ) (ts ns : List ℕ) (s : Spot) (rest : List Spot) → drop p whole ≡ s ∷ rest → LoadsConstant code bounds at s.shared s.op rs
      → ((t : Lane) → Leads (op_step at s.op p rs ts ns) t → (m : ℕ) → suc m ≤ n → From m t) → From n (lane p rs ts ns)
  spot_from n p rs ts ns s rest e loads next zero low ws t us comes = subst Inside comes.0 (subst (λ c. FirstLoads c rs) (sym e) loads)
  spot_from n p rs ts ns s rest e loads next (suc m) low ws t us (s', leads, comes) =
      next s' (subst (λ x. Leads x s') (step_at at ops (s.op ∷ ops_of rest) p rs ts ns (op_stands p s rest e)) leads) m low m (same_count m) _ t us comes

  no_load : (s : Spot) (rs : ℕ → ℕ) → s.shared ≡ false → LoadsConstant code bounds at s.shared s.op rs
  no_load s rs e = subst (λ b. LoadsConstant code bounds at b s.op rs) (sym e) tt

  quiet_from : (n p : ℕ) (rs : ℕ → ℕ) (ts ns : List ℕ) (s : Spot) (op : VOp) (rest : List Spot) → drop p whole ≡ s ∷ rest → s.op ≡ op → s.shared ≡ false
      → ((t : Lane) → Leads (op_step at op p rs ts ns) t → (m : ℕ) → suc m ≤ n → From m t) → From n (lane p rs ts ns)
  quiet_from n p rs ts ns s op rest e is quiet next =
      spot_from n p rs ts ns s rest e (no_load s rs quiet) (λ t leads m low. next t (subst (λ o. Leads (op_step at o p rs ts ns) t) is leads) m low)

  -- an inner step
  goes_to : (n : ℕ) (q : ℕ) (rs : ℕ → ℕ) (ts ns : List ℕ) (t : Lane) (m : ℕ) → suc m ≤ n → lane q rs ts ns ≡ t → From n (lane q rs ts ns) → From m t
  goes_to n q rs ts ns t m low same next = subst (From m) same (fewer_from n m (lane q rs ts ns) (one_less m n low) next)

  quiet_goes : (n p q : ℕ) (rs rs' : ℕ → ℕ) (ts ts' ns ns' : List ℕ) (s : Spot) (op : VOp) (rest : List Spot) → drop p whole ≡ s ∷ rest → s.op ≡ op → s.shared ≡ false
      → op_step at op p rs ts ns ≡ Go (lane q rs' ts' ns') → From n (lane q rs' ts' ns') → From n (lane p rs ts ns)
  quiet_goes n p q rs rs' ts ts' ns ns' s op rest e is quiet goes next =
      quiet_from n p rs ts ns s op rest e is quiet (λ t leads m low. goes_to n q rs' ts' ns' t m low (subst (λ x. Leads x t) goes leads) next)

  -- an operation that writes no register of an index
  spared_upto : (n p : ℕ) (xs : List Checked) (s : Spot) (rest : List Spot) → drop p whole ≡ s ∷ rest → s.shared ≡ false → SparedBy xs s.op → Upto n xs (suc p) → Upto n xs p
  spared_upto n p xs s rest e quiet spared next rs ts ns passes =
      quiet_from n p rs ts ns s s.op rest e refl quiet (λ t leads m low.
      let on = op_passes at setting xs p rs ts ns t passes s.op spared leads in
      goes_to n (suc p) on.registers on.turns on.numbers t m low on.is (next on.registers on.turns on.numbers on.passes))

  all_spared : (n : ℕ) (xs : List Checked) (fs : List Frame) (ag : ℕ → Bool) (list : List VOp) (p : ℕ) (c : List Spot) → drop p whole ≡ straight fs false ag list c → AllSpared xs list
      → Upto n xs (after whole k.marks list p) → Upto n xs p
  all_spared n xs fs ag [] p c e spared next = next
  all_spared n xs fs ag (op ∷ list) p c e spared next =
      spared_upto n p xs _ _ e refl spared.0 (all_spared n xs fs (flows false ag op) list (suc p) c (behind_spot whole _ _ p e) spared.1 next)

  list_ends : (fs : List Frame) (shared : Bool) (ag : ℕ → Bool) (list : List VOp) (p : ℕ) (c : List Spot) → drop p whole ≡ straight fs shared ag list c → drop (after whole k.marks list p) whole ≡ c
  list_ends fs shared ag [] p c e = e
  list_ends fs shared ag (op ∷ list) p c e = list_ends fs shared (flows shared ag op) list (suc p) c (behind_spot whole _ _ p e)

  -- jumps
  goto_upto : (n p q : ℕ) (xs : List Checked) (s : Spot) (rest : List Spot) → drop p whole ≡ s ∷ rest → s.op ≡ Goto q → s.shared ≡ false → Upto n xs q → Upto n xs p
  goto_upto n p q xs s rest e is quiet next rs ts ns passes = quiet_goes n p q rs rs ts ts ns ns s (Goto q) rest e is quiet refl (next rs ts ns passes)

  if_zero_upto : (n p q : ℕ) (xs : List Checked) (a : Operand) (s : Spot) (rest : List Spot) → drop p whole ≡ s ∷ rest → s.op ≡ IfZero a q → s.shared ≡ false
      → Upto n xs q → Upto n xs (suc p) → Upto n xs p
  if_zero_upto n p q xs a s rest e is quiet to next rs ts ns passes = by (value rs a == 0) refl
    where
      by : (b : Bool) → (value rs a == 0) ≡ b → From n (lane p rs ts ns)
      by true zero_is = quiet_goes n p q rs rs ts ts ns ns s (IfZero a q) rest e is quiet (ap (λ b. Go (lane (if b then q else suc p) rs ts ns)) zero_is) (to rs ts ns passes)
      by false zero_is = quiet_goes n p (suc p) rs rs ts ts ns ns s (IfZero a q) rest e is quiet (ap (λ b. Go (lane (if b then q else suc p) rs ts ns)) zero_is) (next rs ts ns passes)

  trap_upto : (n p : ℕ) (pos : Pos) (rs : ℕ → ℕ) (ts ns : List ℕ) (s : Spot) (rest : List Spot) → drop p whole ≡ s ∷ rest → s.op ≡ Trap pos → s.shared ≡ false → From n (lane p rs ts ns)
  trap_upto n p pos rs ts ns s rest e is quiet = quiet_from n p rs ts ns s (Trap pos) rest e is quiet (λ t leads m low. absurd leads)

  -- what is left out where a test is uniform
  split_ends : (u : Bool) (t : Operand) (fs : List Frame) (ag : ℕ → Bool) (p : ℕ) (c : List Spot) → drop p whole ≡ split_spots u t fs ag c → drop (past u p) whole ≡ c
  split_ends true t fs ag p c e = e
  split_ends false t fs ag p c e = behind_spot whole _ _ p e

  split_upto : (n : ℕ) (xs : List Checked) (u : Bool) (t : Operand) (fs : List Frame) (ag : ℕ → Bool) (p : ℕ) (c : List Spot) → drop p whole ≡ split_spots u t fs ag c → Upto n xs (past u p) → Upto n xs p
  split_upto n xs true t fs ag p c e next = next
  split_upto n xs false t fs ag p c e next = spared_upto n p xs _ _ e refl tt next

  split_from : (n : ℕ) (u : Bool) (t : Operand) (fs : List Frame) (ag : ℕ → Bool) (p : ℕ) (c : List Spot) (rs : ℕ → ℕ) (ts ns : List ℕ) → drop p whole ≡ split_spots u t fs ag c
      → From n (lane (past u p) rs ts ns) → From n (lane p rs ts ns)
  split_from n true t fs ag p c rs ts ns e next = next
  split_from n false t fs ag p c rs ts ns e next = quiet_goes n p (suc p) rs rs ts ts ns ns _ (Split t) _ e refl refl refl next

  join_ends : (u : Bool) (q f j : ℕ) (t : Operand) (fs : List Frame) (uni : ℕ → Bool) (p : ℕ) (c : List Spot) → drop p whole ≡ join_spots u q f j t fs uni c → drop (past u p) whole ≡ c
  join_ends true q f j t fs uni p c e = e
  join_ends false q f j t fs uni p c e = behind_spot whole _ _ p e

  join_upto : (n : ℕ) (xs : List Checked) (u : Bool) (q f j : ℕ) (t : Operand) (fs : List Frame) (uni : ℕ → Bool) (p : ℕ) (c : List Spot) → drop p whole ≡ join_spots u q f j t fs uni c
      → Upto n xs (past u p) → Upto n xs p
  join_upto n xs true q f j t fs uni p c e next = next
  join_upto n xs false q f j t fs uni p c e next = spared_upto n p xs _ _ e refl tt next

  keep_ends : (u : Bool) (s x m : ℕ) (fs : List Frame) (uni : ℕ → Bool) (p : ℕ) (c : List Spot) → drop p whole ≡ keep_spots u s x m fs uni c → drop (past u p) whole ≡ c
  keep_ends true s x m fs uni p c e = e
  keep_ends false s x m fs uni p c e = behind_spot whole _ _ p e

  keep_upto : (n : ℕ) (u : Bool) (s x m : ℕ) (fs : List Frame) (uni : ℕ → Bool) (p : ℕ) (c : List Spot) → drop p whole ≡ keep_spots u s x m fs uni c → Upto n [] (past u p) → Upto n [] p
  keep_upto n true s x m fs uni p c e next = next
  keep_upto n false s x m fs uni p c e next = spared_upto n p [] _ _ e refl tt next

  pred_ends : (u : Bool) (s g x m : ℕ) (t : Operand) (fs : List Frame) (uni : ℕ → Bool) (p : ℕ) (c : List Spot) → drop p whole ≡ pred_spots u s g x m t fs uni c → drop (past u p) whole ≡ c
  pred_ends true s g x m t fs uni p c e = e
  pred_ends false s g x m t fs uni p c e = behind_spot whole _ _ p e

  pred_upto : (n : ℕ) (u : Bool) (s g x m : ℕ) (t : Operand) (fs : List Frame) (uni : ℕ → Bool) (p : ℕ) (c : List Spot) → drop p whole ≡ pred_spots u s g x m t fs uni c → Upto n [] (past u p) → Upto n [] p
  pred_upto n true s g x m t fs uni p c e next = next
  pred_upto n false s g x m t fs uni p c e next = spared_upto n p [] _ _ e refl tt next

  -- ---- loads

  module _ (xs : List Checked) (d : ℕ) (elem : Elem) (a : Operand) (low : d < n0) (below : IsBelow n0 a) (known : AllBelow n0 xs) where
    -- the registers behind the operations that compute an address
    abbrev first_rs : ℕ → (ℕ → ℕ) → ℕ → ℕ
    first_rs w rs = put_at (own k 0) w rs

    abbrev second_rs : ℕ → (ℕ → ℕ) → ℕ → ℕ
    second_rs w rs = put_at (own k 1) (alu_value_of Sll (value (first_rs w rs) a) (shift_of elem)) (first_rs w rs)

    abbrev third_rs : ℕ → (ℕ → ℕ) → ℕ → ℕ
    third_rs w rs = put_at (own k 0) (alu_value_of Add (second_rs w rs (own k 0)) (second_rs w rs (own k 1))) (second_rs w rs)

    not_same : own k 0 ≡ own k 1 → ⊥
    not_same e = absurd (omega (arith, e))

    address_is : (w : ℕ) (rs : ℕ → ℕ) → third_rs w rs (own k 0) ≡ (w + (value rs a * elem_bytes elem) % 2 ^ 32) % 2 ^ 32
    address_is w rs =
        put_at_same (own k 0) (alu_value_of Add (second_rs w rs (own k 0)) (second_rs w rs (own k 1))) (second_rs w rs)
        ∙ ap (λ x. alu_value_of Add x (second_rs w rs (own k 1)))
        (put_at_other (own k 1) (alu_value_of Sll (value (first_rs w rs) a) (shift_of elem)) (first_rs w rs) (own k 0) not_same ∙ put_at_same (own k 0) w rs)
        ∙ ap (alu_value_of Add w)
        (put_at_same (own k 1) (alu_value_of Sll (value (first_rs w rs) a) (shift_of elem)) (first_rs w rs)
        ∙ ap (λ x. alu_value_of Sll x (shift_of elem)) (unread (own k 0) w a rs (reads_high n0 (own k 0) a below (own_high 0)))
        ∙ shifted elem (value rs a))

    third_passes : (w : ℕ) (rs : ℕ → ℕ) → Passes setting xs rs → Passes setting xs (third_rs w rs)
    third_passes w rs passes =
        passes_spared setting (own k 0) _ xs (second_rs w rs) (spares_high n0 (own k 0) xs known (own_high 0))
        (passes_spared setting (own k 1) _ xs (first_rs w rs) (spares_high n0 (own k 1) xs known (own_high 1))
        (passes_spared setting (own k 0) w xs rs (spares_high n0 (own k 0) xs known (own_high 0)) passes))

    -- the place of an element whose index has passed
    field_is : (j : ℕ) (rs : ℕ → ℕ) → is_constant code.params (Parameter j) ≡ true → HasElem code.params code.arrays (Parameter j) elem
        → value rs a < (setting.array (Parameter j)).count → IsConstantField code bounds (at.place (third_rs (at.block (16 + 2 * j)) rs (own k 0))) (elem_size elem)
    field_is j rs constant typed less =
        let is = has_type code.params code.arrays bounds (Parameter j) elem typed (value rs a) less in
        record {
          param = j;
          constant = constant;
          group = setting.group;
          byte = (value rs a * elem_bytes elem) % 2 ^ 32;
          inside = subst (λ x. (value rs a * elem_bytes elem) % 2 ^ 32 + bytes_of (elem_size elem) ≤ (setting.array (Parameter j)).count * elem_bytes x) (sym is)
              (element_inside elem (value rs a) (setting.array (Parameter j)).count less);
          there = ap at.place (address_is (at.block (16 + 2 * j)) rs) ∙ arrays.element (Parameter j) elem (value rs a) typed less;
        }

    param_load : (n : ℕ) (fs : List Frame) (j : ℕ) (param : Option Param) (p : ℕ) (c : List Spot) → slice_get code.params j ≡ param → is_constant_param param ≡ true
        → drop p whole ≡ straight fs true k.marks (param_start (own k 0) j param ∷ Compute (own k 1) Sll a (NumberOf (shift_of elem)) ∷ Compute (own k 0) Add (held k 0) (held k 1) ∷ Fetch d elem (held k 0) ∷ []) c
        → IsKnown (Parameter j) a xs → HasElem code.params code.arrays (Parameter j) elem → Upto n (forgotten d xs) (further 4 p) → Upto n xs p
    param_load n fs j None p c is constant e checked typed next rs ts ns passes = absurd (no constant) where
      no : false ≡ true → ⊥
      no h = absurd (cc)
    param_load n fs j (Some param) p c is constant e checked typed next rs ts ns passes =
        let e1 = behind_spot whole _ _ p e in
        let e2 = behind_spot whole _ _ (suc p) e1 in
        let e3 = behind_spot whole _ _ (suc (suc p)) e2 in
        let less : value rs a < (setting.array (Parameter j)).count = passed_one setting (Parameter j) a xs rs checked passes in
        let field = field_is j rs (ap is_constant_param is ∙ constant) typed less in
        spot_from n p rs ts ns _ _ e tt (λ t leads m low'.
        goes_to n (suc p) (first_rs (at.block (16 + 2 * j)) rs) ts ns t m low' leads
        (spot_from n (suc p) (first_rs (at.block (16 + 2 * j)) rs) ts ns _ _ e1 tt (λ t' leads' m' low''.
        goes_to n (suc (suc p)) (second_rs (at.block (16 + 2 * j)) rs) ts ns t' m' low'' leads'
        (spot_from n (suc (suc p)) (second_rs (at.block (16 + 2 * j)) rs) ts ns _ _ e2 tt (λ t'' leads'' m'' low'''.
        goes_to n (suc (suc (suc p))) (third_rs (at.block (16 + 2 * j)) rs) ts ns t'' m'' low''' leads''
        (spot_from n (suc (suc (suc p))) (third_rs (at.block (16 + 2 * j)) rs) ts ns _ _ e3 field (λ t4 leads4 m4 low4.
        goes_to n (further 4 p) (put_at d (fitted elem leads4.0) (third_rs (at.block (16 + 2 * j)) rs)) ts ns t4 m4 low4 leads4.1
        (next (put_at d (fitted elem leads4.0) (third_rs (at.block (16 + 2 * j)) rs)) ts ns
        (passes_spared setting d (fitted elem leads4.0) (forgotten d xs) (third_rs (at.block (16 + 2 * j)) rs) (spares_forgotten d xs)
        (passes_fewer setting d xs (third_rs (at.block (16 + 2 * j)) rs) (third_passes (at.block (16 + 2 * j)) rs passes)))))))))))

  -- ---- checks

  count_goes : (array : ArrayRef) (p : ℕ) (rs : ℕ → ℕ) (ts ns : List ℕ) → op_step at (counted k array) p rs ts ns ≡ Go (lane (suc p) (put_at (own k 0) (setting.array array).count rs) ts ns)
  count_goes (Parameter j) p rs ts ns = by (slice_get code.params j) (arrays.param j)
    where
      by : (param : Option Param) → CountIs at j param (setting.array (Parameter j)).count
          → op_step at (param_count (own k 0) j param) p rs ts ns ≡ Go (lane (suc p) (put_at (own k 0) (setting.array (Parameter j)).count rs) ts ns)
      by None is = ap (λ x. Go (lane (suc p) (put_at (own k 0) x rs) ts ns)) (sym is)
      by (Some param) is = ap (λ x. Go (lane (suc p) (put_at (own k 0) x rs) ts ns)) is
  count_goes (Declared j) p rs ts ns = ap (λ x. Go (lane (suc p) (put_at (own k 0) x rs) ts ns)) (arrays.declared j)

  module _ (xs : List Checked) (array : ArrayRef) (a : Operand) (below : IsBelow n0 a) (known : AllBelow n0 xs) where
    abbrev counted_rs : (ℕ → ℕ) → ℕ → ℕ
    counted_rs rs = put_at (own k 0) (setting.array array).count rs

    abbrev tested_rs : (ℕ → ℕ) → ℕ → ℕ
    tested_rs rs = put_at (own k 0) (alu_value_of Sltu (value (counted_rs rs) a) (counted_rs rs (own k 0))) (counted_rs rs)

    tested_is : (rs : ℕ → ℕ) (b : Bool) → nat_lt (value rs a) (setting.array array).count ≡ b → tested_rs rs (own k 0) ≡ (if b then 1 else 0)
    tested_is rs b e =
        put_at_same (own k 0) (alu_value_of Sltu (value (counted_rs rs) a) (counted_rs rs (own k 0))) (counted_rs rs)
        ∙ ap (λ x. alu_value_of Sltu x (counted_rs rs (own k 0))) (unread (own k 0) (setting.array array).count a rs (reads_high n0 (own k 0) a below (own_high 0)))
        ∙ ap (alu_value_of Sltu (value rs a)) (put_at_same (own k 0) (setting.array array).count rs)
        ∙ same_bit (nat_lt (value rs a) (setting.array array).count) b e

    tested_same : (rs : ℕ → ℕ) → value (tested_rs rs) a ≡ value rs a
    tested_same rs =
        unread (own k 0) (alu_value_of Sltu (value (counted_rs rs) a) (counted_rs rs (own k 0))) a (counted_rs rs) (reads_high n0 (own k 0) a below (own_high 0))
        ∙ unread (own k 0) (setting.array array).count a rs (reads_high n0 (own k 0) a below (own_high 0))

    tested_passes : (rs : ℕ → ℕ) → nat_lt (value rs a) (setting.array array).count ≡ true → Passes setting xs rs
        → Passes setting (record { array = array; index = a } ∷ xs) (tested_rs rs)
    tested_passes rs e passes = (
      subst (λ x. x < (setting.array array).count) (sym (tested_same rs)) (ltb-true (value rs a) (setting.array array).count e),
      passes_spared setting (own k 0) _ xs (counted_rs rs) (spares_high n0 (own k 0) xs known (own_high 0))
          (passes_spared setting (own k 0) (setting.array array).count xs rs (spares_high n0 (own k 0) xs known (own_high 0)) passes),
    )

    check_ends : (u : Bool) (pos : Pos) (fs : List Frame) (ag : ℕ → Bool) (p : ℕ) (c : List Spot) → drop p whole ≡ check_spots k u pos p fs k.marks ag c → drop (check_end u p) whole ≡ c
    check_ends u pos fs ag p c e =
        join_ends u p (suc (past u p)) (further 2 (past u p)) (held k 0) fs k.marks (further 2 (past u p)) c
        (behind_spot whole _ _ (suc (past u p)) (behind_spot whole _ _ (past u p) (split_ends u (held k 0) fs ag p _ e)))

    check_from : (n : ℕ) (u : Bool) (pos : Pos) (fs : List Frame) (ag : ℕ → Bool) (p : ℕ) (c : List Spot) (rs : ℕ → ℕ) (ts ns : List ℕ)
        → drop p whole ≡ check_spots k u pos p fs k.marks ag c → Passes setting xs rs → Upto n (record { array = array; index = a } ∷ xs) (check_end u p)
        → From n (lane p (tested_rs rs) ts ns)
    check_from n u pos fs ag p c rs ts ns e passes next =
        split_from n u (held k 0) fs ag p _ (tested_rs rs) ts ns e (by (nat_lt (value rs a) (setting.array array).count) refl)
      where
        by : (b : Bool) → nat_lt (value rs a) (setting.array array).count ≡ b → From n (lane (past u p) (tested_rs rs) ts ns)
        by true is =
            let e1 = split_ends u (held k 0) fs ag p _ e in
            let e3 = behind_spot whole _ _ (suc (past u p)) (behind_spot whole _ _ (past u p) e1) in
            quiet_goes n (past u p) (further 2 (past u p)) (tested_rs rs) (tested_rs rs) ts ts ns ns _ (IfNot (held k 0) (further 2 (past u p))) _ e1
            (branch_op u (IfNot (held k 0) (further 2 (past u p))) p (suc (past u p)) (further 2 (past u p)) (held k 0) fs k.marks ag)
            (branch_quiet u (IfNot (held k 0) (further 2 (past u p))) p (suc (past u p)) (further 2 (past u p)) (held k 0) fs k.marks ag)
            (ap (λ x. Go (lane (if x == 0 then suc (past u p) else further 2 (past u p)) (tested_rs rs) ts ns)) (tested_is rs true is))
            (join_upto n (record { array = array; index = a } ∷ xs) u p (suc (past u p)) (further 2 (past u p)) (held k 0) fs k.marks (further 2 (past u p)) c e3 next (tested_rs rs) ts ns
            (tested_passes rs is passes))
        by false is =
            let e1 = split_ends u (held k 0) fs ag p _ e in
            let e2 = behind_spot whole _ _ (past u p) e1 in
            quiet_goes n (past u p) (suc (past u p)) (tested_rs rs) (tested_rs rs) ts ts ns ns _ (IfNot (held k 0) (further 2 (past u p))) _ e1
            (branch_op u (IfNot (held k 0) (further 2 (past u p))) p (suc (past u p)) (further 2 (past u p)) (held k 0) fs k.marks ag)
            (branch_quiet u (IfNot (held k 0) (further 2 (past u p))) p (suc (past u p)) (further 2 (past u p)) (held k 0) fs k.marks ag)
            (ap (λ x. Go (lane (if x == 0 then suc (past u p) else further 2 (past u p)) (tested_rs rs) ts ns)) (tested_is rs false is))
            (trap_upto n (suc (past u p)) pos (tested_rs rs) ts ns _ _ e2 refl refl)

    check_upto : (n : ℕ) (pos : Pos) (fs : List Frame) (depth p : ℕ) (c : List Spot) → drop p whole ≡ labelled_op k depth (Check array a pos) fs p c
        → Upto n (record { array = array; index = a } ∷ xs) (op_end k.marks (Check array a pos) p) → Upto n xs p
    check_upto n pos fs depth p c e next rs ts ns passes =
        let e1 = behind_spot whole _ _ p e in
        let e2 = behind_spot whole _ _ (suc p) e1 in
        quiet_goes n p (suc p) rs (counted_rs rs) ts ts ns ns _ (counted k array) _ e refl refl (count_goes array p rs ts ns)
        (quiet_goes n (suc p) (further 2 p) (counted_rs rs) (tested_rs rs) ts ts ns ns _ (Compute (own k 0) Sltu a (held k 0)) _ e1 refl refl refl
        (check_from n (is_uniform k.marks a) pos fs (flows_all false k.marks (counted k array ∷ Compute (own k 0) Sltu a (held k 0) ∷ [])) (further 2 p) c rs ts ns e2 passes next))

  -- ---- operations within others

  -- Behind a part stands what follows it. From its begin on all goes well, where these checks hold, if it does from its end on, where those hold.
  record Part (xs ys : List Checked) (p end : ℕ) (c : List Spot) : Type 0 where
    ends : drop end whole ≡ c
    upto : (n : ℕ) → Upto n ys end → Upto n xs p

  abbrev Good : Labelled → Type 0
  Good lab = (fs : List Frame) (p : ℕ) (c : List Spot) → drop p whole ≡ lab.label fs p c → Part [] [] p (lab.end p) c

  -- a branch
  if_good : (u : Bool) (t : Operand) (one other : Labelled) (fs : List Frame) (p : ℕ) (c : List Spot) → Good one → Good other → drop p whole ≡ if_spots u t one other fs k.marks p c
      → Part [] [] p (if_end u (bare one) (bare other) p) c
  if_good u t one other fs p c good good' e =
      let e1 = split_ends u t fs k.marks p _ e in
      let e2 = behind_spot whole _ _ (past u p) e1 in
      let first = good (first_frames u p (other_place u (bare one) p) (meet_place u (bare one) (bare other) p) t fs) (one_place u p) _ e2 in
      let e3 = behind_spot whole _ _ (one.end (one_place u p)) first.ends in
      let second = good' (second_frames u p (other_place u (bare one) p) (meet_place u (bare one) (bare other) p) t fs) (other_place u (bare one) p) _ e3 in
      record {
        ends = join_ends u p (other_place u (bare one) p) (meet_place u (bare one) (bare other) p) t fs k.marks (meet_place u (bare one) (bare other) p) c second.ends;
        upto = λ n next.
            let meets = join_upto n [] u p (other_place u (bare one) p) (meet_place u (bare one) (bare other) p) t fs k.marks (meet_place u (bare one) (bare other) p) c second.ends next in
            split_upto n [] u t fs k.marks p _ e
            (if_zero_upto n (past u p) (other_place u (bare one) p) [] t _ _ e1
            (branch_op u (IfZero t (other_place u (bare one) p)) p (other_place u (bare one) p) (meet_place u (bare one) (bare other) p) t fs k.marks k.marks)
            (branch_quiet u (IfZero t (other_place u (bare one) p)) p (other_place u (bare one) p) (meet_place u (bare one) (bare other) p) t fs k.marks k.marks)
            (second.upto n meets) (first.upto n (goto_upto n (one.end (one_place u p)) (meet_place u (bare one) (bare other) p) [] _ _ first.ends refl refl meets)));
      }

  -- a loop
  module _ (u : Bool) (t : Operand) (m : ℕ) (step head body : Labelled) (fs : List Frame) (p : ℕ) (c : List Spot) (step_good : Good step) (head_good : Good head) (body_good : Good body)
      (e : drop p whole ≡ loop_spots u t m step head body fs k.marks p c) where
    abbrev step_at' : ℕ
    step_at' = step_place u p

    abbrev head_at : ℕ
    head_at = head_place u (bare step) p

    abbrev pred_at : ℕ
    pred_at = head.end head_at

    abbrev test_at : ℕ
    test_at = test_place u (bare step) (bare head) p

    abbrev body_at : ℕ
    body_at = body_place u (bare step) (bare head) p

    abbrev out_at : ℕ
    out_at = loop_end u (bare step) (bare head) (bare body) p

    abbrev inner : List Frame
    inner = loop_frame u (suc p) pred_at out_at m t ∷ fs

    -- what stands behind its operations and its parts
    abbrev from_again : List Spot
    from_again = spot (Again step_at') (Straight inner) k.marks ∷ c

    abbrev from_test : List Spot
    from_test = test_spot u (Leaves t out_at) (suc p) pred_at out_at m t fs k.marks ∷ body.label inner body_at from_again

    abbrev from_pred : List Spot
    from_pred = pred_spots u (suc p) pred_at out_at m t fs k.marks from_test

    abbrev from_goto : List Spot
    from_goto = spot (Goto head_at) (Straight inner) k.marks ∷ step.label inner step_at' (head.label inner head_at from_pred)

    keep_there : drop (suc p) whole ≡ keep_spots u (suc p) out_at m fs k.marks from_goto
    keep_there = behind_spot whole _ _ p e

    goto_there : drop (past u (suc p)) whole ≡ from_goto
    goto_there = keep_ends u (suc p) out_at m fs k.marks (suc p) from_goto keep_there

    first : Part [] [] step_at' (step.end step_at') (head.label inner head_at from_pred)
    first = step_good inner step_at' (head.label inner head_at from_pred) (behind_spot whole _ _ (past u (suc p)) goto_there)

    second : Part [] [] head_at pred_at from_pred
    second = head_good inner head_at from_pred first.ends

    test_there : drop test_at whole ≡ from_test
    test_there = pred_ends u (suc p) pred_at out_at m t fs k.marks pred_at from_test second.ends

    third : Part [] [] body_at (body.end body_at) from_again
    third = body_good inner body_at from_again (behind_spot whole _ _ test_at test_there)

    again_upto : (n : ℕ) → Upto n [] step_at' → Upto n [] (body.end body_at)
    again_upto n next rs ts ns passes = quiet_goes n (body.end body_at) step_at' rs rs ts _ ns ns _ (Again step_at') c third.ends refl refl refl (next rs _ ns tt)

    test_upto : (n : ℕ) → ((j : ℕ) → suc j ≤ n → Upto j [] body_at) → Upto n [] out_at → Upto n [] test_at
    test_upto n turn next rs ts ns passes =
        quiet_from n test_at rs ts ns _ (Leaves t out_at) _ test_there (test_op u (Leaves t out_at) (suc p) pred_at out_at m t fs k.marks) (test_quiet u (Leaves t out_at) (suc p) pred_at out_at m t fs k.marks)
        (λ s leads j low. by s j low (value rs t == 0) leads)
      where
        by : (s : Lane) (j : ℕ) → suc j ≤ n → (b : Bool) → (if b then lane out_at rs (under ts) ns else lane body_at rs ts ns) ≡ s → From j s
        by s j low true leads = goes_to n out_at rs (under ts) ns s j low leads (next rs (under ts) ns tt)
        by s j low false leads = subst (From j) leads (turn j low rs ts ns tt)

    head_to : (n : ℕ) → Upto n [] test_at → Upto n [] head_at
    head_to n next = second.upto n (pred_upto n u (suc p) pred_at out_at m t fs k.marks pred_at from_test second.ends next)

    turns_upto : (n : ℕ) → Upto n [] out_at → Upto n [] head_at
    turns_upto zero next = head_to 0 (test_upto 0 (λ j low. absurd (omega (arith, low))) next)
    turns_upto (suc n) next =
        let again = turns_upto n (fewer (suc n) n [] out_at (one_less n (suc n) (same_count (suc n))) next) in
        let turn = third.upto n (again_upto n (first.upto n again)) in
        head_to (suc n) (test_upto (suc n) (λ j low. fewer n j [] body_at (omega (arith, low)) turn) next)

    loop_good : Part [] [] p out_at c
    loop_good = record {
      ends = behind_spot whole _ _ (body.end body_at) third.ends;
      upto = λ n next.
          spared_upto n p [] _ _ e refl tt
          (keep_upto n u (suc p) out_at m fs k.marks (suc p) from_goto keep_there (goto_upto n (past u (suc p)) head_at [] _ _ goto_there refl refl (turns_upto n next)));
    }

  -- ---- single operations

  module _ (d : ℕ) (xs : List Checked) (known : AllBelow n0 xs) where
    own_spared : (i : ℕ) → Spares (forgotten d xs) (own k i)
    own_spared i = spares_high n0 (own k i) (forgotten d xs) (forgotten_below n0 d xs known) (own_high i)

    here : Spares (forgotten d xs) d
    here = spares_forgotten d xs

    kept_spared : (i : ℕ) (a : Operand) → AllSpared (forgotten d xs) (kept_id k i d a [])
    kept_spared i (NumberOf zero) = (here, tt)
    kept_spared i (NumberOf (suc zero)) = (here, tt)
    kept_spared i (NumberOf (suc (suc zero))) = (own_spared 0, (own_spared 0, (here, tt)))
    kept_spared i (NumberOf (suc (suc (suc j)))) = (here, tt)
    kept_spared i (VariableOf x) = (own_spared 0, (own_spared 1, (own_spared 1, (own_spared 0, (own_spared 0, (own_spared 1, (here, tt)))))))

    group_spared : (w : ℕ) (a : Operand) → AllSpared (forgotten d xs) (group_word k w d a [])
    group_spared w (NumberOf zero) = (here, tt)
    group_spared w (NumberOf (suc zero)) = (here, tt)
    group_spared w (NumberOf (suc (suc zero))) = (here, tt)
    group_spared w (NumberOf (suc (suc (suc j)))) = (here, tt)
    group_spared w (VariableOf x) = (own_spared 0, (own_spared 1, (own_spared 1, (here, tt))))

    size_spared : (w : ℕ) (a : Operand) → AllSpared (forgotten d xs) (size_word k w d a [])
    size_spared w (NumberOf zero) = (here, tt)
    size_spared w (NumberOf (suc zero)) = (here, tt)
    size_spared w (NumberOf (suc (suc zero))) = (here, tt)
    size_spared w (NumberOf (suc (suc (suc j)))) = (here, tt)
    size_spared w (VariableOf x) = (own_spared 0, (own_spared 1, (own_spared 1, (own_spared 1, (own_spared 1, (here, tt))))))

    id_spared : (which : Builtin) (a : Operand) → AllSpared (forgotten d xs) (id_code k d which a [])
    id_spared WorkDim a = (here, tt)
    id_spared GlobalId a = kept_spared 5 a
    id_spared LocalId a = kept_spared 2 a
    id_spared GroupId a = group_spared 3 a
    id_spared LocalSize a = size_spared 6 a
    id_spared GlobalSize a = size_spared 9 a
    id_spared NumGroups a = size_spared 12 a
    id_spared GlobalOffset a = (here, tt)
    id_spared Min a = (here, tt)
    id_spared Max a = (here, tt)
    id_spared Clamp a = (here, tt)
    id_spared Abs a = (here, tt)
    id_spared MulHi a = (here, tt)

  start_spared : (xs : List Checked) (array : ArrayRef) → Spares xs (own k 0) → SparedBy xs (started k array)
  start_spared xs (Parameter j) spares = by (slice_get code.params j)
    where
      by : (param : Option Param) → SparedBy xs (param_start (own k 0) j param)
      by None = spares
      by (Some param) = spares
  start_spared xs (Declared j) spares = by (slice_get code.arrays j)
    where
      by : (array : Option LocalArray) → SparedBy xs (declared_start (own k 0) j array)
      by None = spares
      by (Some array) = spares

  -- an operation that sets a variable
  sets_good : (op : Op) (d : ℕ) (xs : List Checked) (fs : List Frame) (p : ℕ) (c : List Spot) → IsSingle op → drop p whole ≡ straight fs false k.marks (load_code k op) c
      → AllSpared (forgotten d xs) (load_code k op) → Part xs (forgotten d xs) p (op_end k.marks op p) c
  sets_good op d xs fs p c single e spared =
      let end : after whole k.marks (load_code k op) p ≡ op_end k.marks op p = single_after whole k op p single in
      record {
        ends = subst (λ q. drop q whole ≡ c) end (list_ends fs false k.marks (load_code k op) p c e);
        upto = λ n next. less_known n d xs p (all_spared n (forgotten d xs) fs k.marks (load_code k op) p c e spared (subst (λ q. Upto n (forgotten d xs) q) (sym end) next));
      }

  load_by : (b : Bool) (xs : List Checked) (d : ℕ) (array : ArrayRef) (elem : Elem) (a : Operand) (fs : List Frame) (p : ℕ) (c : List Spot) → is_constant code.params array ≡ b
      → drop p whole ≡ straight fs b k.marks (load_code k (Load d array elem a)) c → AllBelow n0 xs → d < n0 → IsBelow n0 a → IsKnown array a xs → HasElem code.params code.arrays array elem
      → Part xs (forgotten d xs) p (further 4 p) c
  load_by false xs d array elem a fs p c is e known low below checked typed =
      sets_good (Load d array elem a) d xs fs p c tt e (start_spared (forgotten d xs) array (own_spared d xs known 0), (own_spared d xs known 1, (own_spared d xs known 0, (here d xs known, tt))))
  load_by true xs d (Parameter j) elem a fs p c is e known low below checked typed = record {
    ends = list_ends fs true k.marks (load_code k (Load d (Parameter j) elem a)) p c e;
    upto = λ n next. param_load xs d elem a low below known n fs j (slice_get code.params j) p c refl is e checked typed next;
  }
  load_by true xs d (Declared j) elem a fs p c is e known low below checked typed = absurd (no is) where
    no : false ≡ true → ⊥
    no h = absurd (cc)

  store_good : (xs : List Checked) (array : ArrayRef) (elem : Elem) (a b : Operand) (fs : List Frame) (p : ℕ) (c : List Spot)
      → drop p whole ≡ straight fs false k.marks (load_code k (Store array elem a b)) c → AllBelow n0 xs → Part xs xs p (further 4 p) c
  store_good xs array elem a b fs p c e known = record {
    ends = list_ends fs false k.marks (load_code k (Store array elem a b)) p c e;
    upto = λ n next.
        all_spared n xs fs k.marks (load_code k (Store array elem a b)) p c e
        (start_spared xs array (spares_high n0 (own k 0) xs known (own_high 0)), (spares_high n0 (own k 1) xs known (own_high 1), (spares_high n0 (own k 0) xs known (own_high 0), (tt, tt)))) next;
  }

  jump_good : (xs : List Checked) (p : ℕ) (c : List Spot) → drop p whole ≡ c → Part xs [] p p c
  jump_good xs p c e = record { ends = e; upto = λ n next. unknown n xs p next }

  -- ---- all operations

  behind_below : (op : Op) (xs : List Checked) → AllBelow n0 xs → OpBelow n0 op → AllBelow n0 (known_behind op xs)
  behind_below (Set d a) xs known below = forgotten_below n0 d xs known
  behind_below (Calculate d op a b) xs known below = forgotten_below n0 d xs known
  behind_below (Fit d elem a) xs known below = forgotten_below n0 d xs known
  behind_below (Id d which a) xs known below = forgotten_below n0 d xs known
  behind_below (Load d array elem a) xs known below = forgotten_below n0 d xs known
  behind_below (Store array elem a b) xs known below = known
  behind_below (Check array a pos) xs known below = (below, known)
  behind_below (Barrier site) xs known below = known
  behind_below (If t one other) xs known below = tt
  behind_below (Loop head t body step) xs known below = tt
  behind_below Break xs known below = tt
  behind_below Continue xs known below = tt
  behind_below Return xs known below = tt
  behind_below (Call body) xs known below = tt

  mutual
    ops_good : (list : Ops) (depth : ℕ) (xs : List Checked) (fs : List Frame) (p : ℕ) (c : List Spot) → AllBelow n0 xs → AreChecked xs list → AreTyped code.params code.arrays list → AreBelow n0 list
        → drop p whole ≡ labelled k depth list fs p c → Part xs [] p (ops_end k.marks list p) c
    ops_good NoOps depth xs fs p c known checked typed below e = jump_good xs p c e
    ops_good (AndOp op list) depth xs fs p c known checked typed below e =
        let first = op_good op depth xs fs p (labelled k depth list fs (op_end k.marks op p) c) known checked.0 typed.0 below.0 e in
        let rest = ops_good list depth (known_behind op xs) fs (op_end k.marks op p) c (behind_below op xs known below.0) checked.1 typed.1 below.1 first.ends in
        record { ends = rest.ends; upto = λ n next. first.upto n (rest.upto n next) }

    op_good : (op : Op) (depth : ℕ) (xs : List Checked) (fs : List Frame) (p : ℕ) (c : List Spot) → AllBelow n0 xs → OpChecked xs op → OpTyped code.params code.arrays op → OpBelow n0 op
        → drop p whole ≡ labelled_op k depth op fs p c → Part xs (known_behind op xs) p (op_end k.marks op p) c
    op_good (Set d a) depth xs fs p c known checked typed below e = sets_good (Set d a) d xs fs p c tt e (here d xs known, tt)
    op_good (Calculate d op a b) depth xs fs p c known checked typed below e = sets_good (Calculate d op a b) d xs fs p c tt e (here d xs known, tt)
    op_good (Fit d elem a) depth xs fs p c known checked typed below e = sets_good (Fit d elem a) d xs fs p c tt e (here d xs known, tt)
    op_good (Id d which a) depth xs fs p c known checked typed below e = sets_good (Id d which a) d xs fs p c tt e (id_spared d xs known which a)
    op_good (Load d array elem a) depth xs fs p c known checked typed below e =
        load_by (is_constant code.params array) xs d array elem a fs p c refl e known below.0 below.1 checked typed
    op_good (Store array elem a b) depth xs fs p c known checked typed below e = store_good xs array elem a b fs p c e known
    op_good (Check array a pos) depth xs fs p c known checked typed below e = record {
      ends = check_ends xs array a below known (is_uniform k.marks a) pos fs _ (further 2 p) c (behind_spot whole _ _ (suc p) (behind_spot whole _ _ p e));
      upto = λ n next. check_upto xs array a below known n pos fs depth p c e next;
    }
    op_good (Barrier site) depth xs fs p c known checked typed below e = record { ends = behind_spot whole _ _ p e; upto = λ n next. spared_upto n p xs _ _ e refl tt next }
    op_good (If t one other) depth xs fs p c known checked typed below e =
        let good =
        if_good (is_uniform k.marks t) t (record { end = ops_end k.marks one; label = labelled k depth one }) (record { end = ops_end k.marks other; label = labelled k depth other }) fs p c
        (λ gs q d e'. ops_good one depth [] gs q d tt checked.0 typed.0 below.1 e') (λ gs q d e'. ops_good other depth [] gs q d tt checked.1 typed.1 below.2 e') e in
        record { ends = good.ends; upto = λ n next. unknown n xs p (good.upto n next) }
    op_good (Loop head t body step) depth xs fs p c known checked typed below e =
        let good =
        loop_good (is_uniform k.marks t) t (mask_of k depth) (record { end = ops_end k.marks step; label = labelled k (suc depth) step })
        (record { end = ops_end k.marks head; label = labelled k (suc depth) head }) (record { end = ops_end k.marks body; label = labelled k (suc depth) body }) fs p c
        (λ gs q d e'. ops_good step (suc depth) [] gs q d tt checked.2 typed.2 below.3 e') (λ gs q d e'. ops_good head (suc depth) [] gs q d tt checked.0 typed.0 below.1 e')
        (λ gs q d e'. ops_good body (suc depth) [] gs q d tt checked.1 typed.1 below.2 e') e in
        record { ends = good.ends; upto = λ n next. unknown n xs p (good.upto n next) }
    op_good Break depth xs fs p c known checked typed below e = jump_good xs p c e
    op_good Continue depth xs fs p c known checked typed below e = jump_good xs p c e
    op_good Return depth xs fs p c known checked typed below e = jump_good xs p c e
    op_good (Call body) depth xs fs p c known checked typed below e = jump_good xs p c e

  -- ---- the first operations

  zeroed_upto : (n many r p : ℕ) (ag : ℕ → Bool) (list : List VOp) (c : List Spot) → drop p whole ≡ straight [] false ag (zeroed r many list) c
      → ((ag' : ℕ → Bool) → drop (further many p) whole ≡ straight [] false ag' list c → Upto n [] (further many p)) → Upto n [] p
  zeroed_upto n zero r p ag list c e next = next ag e
  zeroed_upto n (suc many) r p ag list c e next =
      spared_upto n p [] _ _ e refl tt (zeroed_upto n many (suc r) (suc p) _ list c (behind_spot whole _ _ p e) next)

  scalar_upto : (n : ℕ) (kind : ParamKind) (j r p : ℕ) (ag : ℕ → Bool) (f : ℕ → List VOp) (c : List Spot) → drop p whole ≡ straight [] false ag (scalar kind j r f) c
      → ((ag' : ℕ → Bool) (r' : ℕ) → drop (behind_kind kind p) whole ≡ straight [] false ag' (f r') c → Upto n [] (behind_kind kind p)) → Upto n [] p
  scalar_upto n (Scalar elem) j r p ag f c e next = spared_upto n p [] _ _ e refl tt (next _ (suc r) (behind_spot whole _ _ p e))
  scalar_upto n (Pointer space elem readonly) j r p ag f c e next = next ag r e

  scalars_upto : (n : ℕ) (params : List Param) (j r p : ℕ) (ag : ℕ → Bool) (list : List VOp) (c : List Spot) → drop p whole ≡ straight [] false ag (scalars j r params list) c
      → ((ag' : ℕ → Bool) → drop (scalars_end params p) whole ≡ straight [] false ag' list c → Upto n [] (scalars_end params p)) → Upto n [] p
  scalars_upto n [] j r p ag list c e next = next ag e
  scalars_upto n (param ∷ params) j r p ag list c e next =
      scalar_upto n param.kind j r p ag (λ r'. scalars (suc j) r' params list) c e
      (λ ag' r' e'. scalars_upto n params (suc j) r' (behind_kind param.kind p) ag' list c e' next)

  ids_spared : AllSpared [] (ids_code k [])
  ids_spared =
      (tt, (tt, (tt, (tt, (tt, (tt, (tt, (tt, (tt, (tt, (tt, (tt, (tt, (tt, (tt, (tt, (tt, (tt, (tt, (tt, (tt, (tt, (tt, (tt, (tt, (tt, (tt, (tt, (tt, tt)))))))))))))))))))))))))))))

  end_upto : (n p : ℕ) → drop p whole ≡ [] → Upto n [] p
  end_upto n p e rs ts ns passes zero low ws t us comes = subst Inside comes.0 (subst (λ c. FirstLoads c rs) (sym e) tt)
  end_upto n p e rs ts ns passes (suc m) low ws t us (s, leads, comes) =
      absurd (subst (λ x. Leads x s) (step_at at ops [] p rs ts ns (ap (λ c. drop p c) (sym spelled) ∙ drop_ops whole p ∙ ap ops_of e)) leads)

  abbrev registers : ℕ
  registers = registers_for code.variables (loop_nesting code.ops)

  abbrev last : List Spot
  last = spot (Tmc (NumberOf 0)) (Straight []) marks ∷ []

  body_upto : (n : ℕ) → CanLower code → drop (body_start code.params registers) whole ≡ labelled k 0 code.ops [] (body_start code.params registers) last → Upto n [] (body_start code.params registers)
  body_upto n can e =
      let good = ops_good code.ops 0 [] [] (body_start code.params registers) last tt can.checked can.typed can.below e in
      good.upto n (spared_upto n (ops_end marks code.ops (body_start code.params registers)) [] _ _ good.ends refl tt
      (end_upto n (suc (ops_end marks code.ops (body_start code.params registers))) (behind_spot whole _ _ (ops_end marks code.ops (body_start code.params registers)) good.ends)))

  from_item : (n : ℕ) → CanLower code
      → drop item_place whole ≡ straight [] false marks (opening_code k registers) (labelled k 0 code.ops [] (body_start code.params registers) last) → Upto n [] item_place
  from_item n can e =
      spared_upto n item_place [] _ _ e refl tt
      (zeroed_upto n registers 0 15 _ _ _ (behind_spot whole _ _ item_place e) (λ ag e1.
      scalars_upto n code.params 0 0 (further registers 15) ag _ _ e1 (λ ag' e2.
      all_spared n [] [] ag' (ids_code k []) (scalars_end code.params (further registers 15)) _ e2 ids_spared
      (body_upto n can (list_ends [] false ag' (ids_code k []) (scalars_end code.params (further registers 15)) _ e2)))))

  first_loads : (list : List Spot) (rs : ℕ → ℕ) → FirstLoads list rs → LoadsConstant code bounds at (first_of_list list).shared (first_of_list list).op rs
  first_loads [] rs loads = tt
  first_loads (s ∷ rest) rs loads = loads

  pub loads_from : CanLower code → drop item_place whole ≡ straight [] false marks (opening_code k registers) (labelled k 0 code.ops [] (body_start code.params registers) last)
      → (rs : ℕ → ℕ) (ns : List ℕ) (n : ℕ) (t : Lane) (us : List ℕ) → Comes at ops n (lane item_place rs [] ns) [] t us
      → LoadsConstant code bounds at (spot_in whole t.place).shared (spot_in whole t.place).op t.registers
  loads_from can e rs ns n t us comes = first_loads (drop t.place whole) t.registers (from_item n can e rs [] ns tt n (same_count n) [] t us comes)

pub loads_are_constant : LoadsAreConstant
loads_are_constant marks code range bounds item at can arrays rs ns n t us comes =
    loads_from marks code range bounds item at arrays (kernel_spots marks code) (kernel_code marks code) (kernel_spells marks code) can refl rs ns n t us comes
