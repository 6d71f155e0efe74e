-- Built-in functions of a dimension: the lane computes what the item knows.
use Rattle.std.proofs.Common.{◌≡◌, ℕ, zero, suc, ◌+◌, ◌<◌, ◌≤◌, ◌^◌, List, ◌∷◌, drop, refl, ap, sym, ◌∙◌, arith, inl}
use Rattle.vx_base.specs.Values.{alu_value_of}
use Rattle.vx_base.specs.declared.types.Alu.{Alu}
use Rattle.vx_base.specs.declared.types.Alu.TheVariants.{Add, Sub, Mul, Srl, Sltu}
use Rattle.item_acts.specs.Launches.{put_at}
use Rattle.item_acts.specs.Machine.{Go}
use Rattle.item_settings.specs.Settings.{Setting}
use Rattle.ocl_program.specs.declared.exprs.Builtin.{Builtin}
use Rattle.ocl_program.specs.declared.exprs.Builtin.TheVariants.{WorkDim, GlobalId, LocalId, GroupId, GlobalSize, LocalSize, NumGroups, GlobalOffset, Min, Max, Clamp, Abs, MulHi}
use Rattle.kir.specs.Machine.{value, known_of, State, state, Task, Do}
use Rattle.kir.specs.Measures.{Known as Checked, forgotten}
use Rattle.kir.specs.Numbered.{IsBelow}
use Rattle.kir.specs.Trees.{Operand, VariableOf, NumberOf, Id}
use Rattle.vcode.specs.Code.{VOp, Copy, Compute, Word, WordAt}
use Rattle.vcode.specs.Machine.{lane, op_step, op_cost}
use Rattle.vcode.proofs.Steps.{behind}
use Rattle.simt_lowering.specs.Around.{HasNumbers}
use Rattle.simt_lowering.specs.Lowered.{own, held, further, kept_id, group_word, size_word, id_code, id_count, id_end}
use Rattle.simt_lowering.proofs.IdWords.{second_kept, third_kept, second_is, third_is, picked_is, group_is, size_is}
use Rattle.simt_lowering.proofs.Sides.{Sees, kept_ids, Keeps, keeps_other, Sides, Along, Passes, Starts, computes_own, writes_own, both_set}

less_two : (i : ℕ) → i + 2 < 8 → i < 8
less_two i h = omega arith

less_one : (i : ℕ) → i + 2 < 8 → i + 1 < 8
less_one i h = omega arith

more_two : (i j : ℕ) → 2 ≤ i → 2 ≤ i + j
more_two i j h = omega arith

none_more : (k : ℕ) → k ≡ k + 0
none_more k = omega arith

-- the three registers of an id, where ids are kept so
pub record KeepsId (ids x : ℕ → ℕ) (i : ℕ) : Type 0 where
  pub from : 2 ≤ i
  pub to : i + 2 < 8
  pub first : ids i ≡ x 0
  pub second : ids (i + 1) ≡ second_kept (x 0) (x 1)
  pub third : ids (i + 2) ≡ third_kept (x 0) (x 1) (x 2)

-- the lane sees the variables, keeps the ids, and has these values in the two registers that come first behind the variables
pub record Mid (w : Sides) (vs rs : ℕ → ℕ) (a b : ℕ) : Type 0 where
  pub f : ℕ → ℕ
  pub sees : Sees w.known f vs rs
  pub keeps : Keeps (kept_ids w.setting) f
  pub one : f 0 ≡ a
  pub two : f 1 ≡ b

pub mid_start : (w : Sides) (f vs rs : ℕ → ℕ) → Sees w.known f vs rs → Keeps (kept_ids w.setting) f → Mid w vs rs (f 0) (f 1)
mid_start w f vs rs sees keeps = record { f = f; sees = sees; keeps = keeps; one = refl; two = refl }

pub one_is : (w : Sides) (vs rs : ℕ → ℕ) (a b : ℕ) → Mid w vs rs a b → value rs (held w.known 0) ≡ a
one_is w vs rs a b mid = mid.sees.register 0 ∙ mid.one

pub two_is : (w : Sides) (vs rs : ℕ → ℕ) (a b : ℕ) → Mid w vs rs a b → value rs (held w.known 1) ≡ b
two_is w vs rs a b mid = mid.sees.register 1 ∙ mid.two

pub kept_is : (w : Sides) (vs rs : ℕ → ℕ) (a b i : ℕ) → 2 ≤ i → i < 8 → Mid w vs rs a b → value rs (held w.known i) ≡ (kept_ids w.setting) i
kept_is w vs rs a b i from to mid = mid.sees.register i ∙ mid.keeps.kept i from to

pub mid_one : (w : Sides) (vs rs rs' : ℕ → ℕ) (a b v : ℕ) (mid : Mid w vs rs a b) → Sees w.known (put_at 0 v mid.f) vs rs' → Mid w vs rs' v b
mid_one w vs rs rs' a b v mid sees = record { f = put_at 0 v mid.f; sees = sees; keeps = keeps_other (kept_ids w.setting) mid.f 0 v (inl (omega arith)) mid.keeps; one = refl; two = mid.two }

pub mid_two : (w : Sides) (vs rs rs' : ℕ → ℕ) (a b v : ℕ) (mid : Mid w vs rs a b) → Sees w.known (put_at 1 v mid.f) vs rs' → Mid w vs rs' a v
mid_two w vs rs rs' a b v mid sees = record { f = put_at 1 v mid.f; sees = sees; keeps = keeps_other (kept_ids w.setting) mid.f 1 v (inl (omega arith)) mid.keeps; one = mid.one; two = refl }

module _ (w : Sides) (n : ℕ) (s : State) (vs : ℕ → ℕ) (ts ns : List ℕ) where
  -- the lane computes into the first of the two, and into the second
  pub goes_one : (p : ℕ) (op : Alu) (l r : Operand) (rest : List VOp) (rs : ℕ → ℕ) (x y a b : ℕ) → drop p w.code ≡ Compute (own w.known 0) op l r ∷ rest
      → value rs l ≡ x → value rs r ≡ y → Mid w vs rs a b
      → ((rs' : ℕ → ℕ) → Mid w vs rs' (alu_value_of op x y) b → Along w n s (lane (suc p) rs' ts ns)) → Along w n s (lane p rs ts ns)
  goes_one p op l r rest rs x y a b e left right mid next =
      computes_own w n s p 0 op l r rest mid.f vs rs ts ns x y e left right mid.sees (λ rs' sees. next rs' (mid_one w vs rs rs' a b (alu_value_of op x y) mid sees))

  pub goes_two : (p : ℕ) (op : Alu) (l r : Operand) (rest : List VOp) (rs : ℕ → ℕ) (x y a b : ℕ) → drop p w.code ≡ Compute (own w.known 1) op l r ∷ rest
      → value rs l ≡ x → value rs r ≡ y → Mid w vs rs a b
      → ((rs' : ℕ → ℕ) → Mid w vs rs' a (alu_value_of op x y) → Along w n s (lane (suc p) rs' ts ns)) → Along w n s (lane p rs ts ns)
  goes_two p op l r rest rs x y a b e left right mid next =
      computes_own w n s p 1 op l r rest mid.f vs rs ts ns x y e left right mid.sees (λ rs' sees. next rs' (mid_two w vs rs rs' a b (alu_value_of op x y) mid sees))

  -- it loads a word of the block into them
  pub word_one : (p k : ℕ) (rest : List VOp) (rs : ℕ → ℕ) (a b : ℕ) → drop p w.code ≡ Word (own w.known 0) k ∷ rest → Mid w vs rs a b
      → ((rs' : ℕ → ℕ) → Mid w vs rs' (w.at.block k) b → Along w n s (lane (suc p) rs' ts ns)) → Along w n s (lane p rs ts ns)
  word_one p k rest rs a b e mid next =
      writes_own w n s p 0 (w.at.block k) (Word (own w.known 0) k) rest mid.f vs rs ts ns ns e refl refl mid.sees (λ rs' sees. next rs' (mid_one w vs rs rs' a b (w.at.block k) mid sees))

  pub word_two : (p k : ℕ) (l : Operand) (rest : List VOp) (rs : ℕ → ℕ) (x a b : ℕ) → drop p w.code ≡ WordAt (own w.known 1) l k ∷ rest → value rs l ≡ x → Mid w vs rs a b
      → ((rs' : ℕ → ℕ) → Mid w vs rs' a (w.at.block (k + x)) → Along w n s (lane (suc p) rs' ts ns)) → Along w n s (lane p rs ts ns)
  word_two p k l rest rs x a b e left mid next =
      writes_own w n s p 1 (w.at.block (k + x)) (WordAt (own w.known 1) l k) rest mid.f vs rs ts ns ns e (ap (λ v. Go (lane (suc p) (put_at (own w.known 1) (w.at.block (k + v)) rs) ts ns)) left) refl
      mid.sees (λ rs' sees. next rs' (mid_two w vs rs rs' a b (w.at.block (k + x)) mid sees))

-- ---- the variable that is set

-- what is known of an id
pub record IsId (at : Setting) (which : Builtin) (x : ℕ → ℕ) (past : ℕ) : Type 0 where
  pub known : (d : ℕ) → known_of at which d ≡ x d
  pub small : (d : ℕ) → x d < 2 ^ 32
  pub behind : (d : ℕ) → 3 ≤ d → x d ≡ past

module _ (w : Sides) (n d : ℕ) (which : Builtin) (ks : List Checked) (ts : List Task) (vs : ℕ → ℕ) (turns ns : List ℕ) (low : d < w.known.variables) (passes : Passes w.setting ks vs) where
  -- it holds what the item knows
  pub set_is : (p v : ℕ) (a : Operand) (op : VOp) (rest : List VOp) (rs : ℕ → ℕ) (x y : ℕ) → drop p w.code ≡ op ∷ rest
      → op_step w.at op p rs turns ns ≡ Go (lane (suc p) (put_at d v rs) turns ns) → op_cost op rs ≡ 0 → v ≡ known_of w.setting which (value vs a)
      → Starts w n (forgotten d ks) ts turns (suc p) → Mid w vs rs x y → Along w n (state (Do (Id d which a) ∷ ts) vs turns) (lane p rs turns ns)
  set_is p v a op rest rs x y e goes free same next mid =
      both_set w n d v p (Id d which a) op rest ks ts mid.f vs rs turns ns e (ap (λ x. Go (state ts (put_at d x vs) turns)) (sym same)) goes free low next mid.sees mid.keeps passes

  pub computed_is : (p : ℕ) (a : Operand) (op : Alu) (l r : Operand) (rest : List VOp) (rs : ℕ → ℕ) (u v x y : ℕ) → drop p w.code ≡ Compute d op l r ∷ rest
      → value rs l ≡ u → value rs r ≡ v → alu_value_of op u v ≡ known_of w.setting which (value vs a)
      → Starts w n (forgotten d ks) ts turns (suc p) → Mid w vs rs x y → Along w n (state (Do (Id d which a) ∷ ts) vs turns) (lane p rs turns ns)
  computed_is p a op l r rest rs u v x y e left right same next mid =
      set_is p (alu_value_of op u v) a (Compute d op l r) rest rs x y e
      (ap (λ z. Go (lane (suc p) (put_at d (alu_value_of op z (value rs r)) rs) turns ns)) left ∙ ap (λ z. Go (lane (suc p) (put_at d (alu_value_of op u z) rs) turns ns)) right) refl same next mid

  -- an id of which three numbers are kept
  pub kept_goes : (i p : ℕ) (x : ℕ → ℕ) (a : Operand) (c : List VOp) (f rs : ℕ → ℕ) → IsId w.setting which x 0 → KeepsId (kept_ids w.setting) x i → IsBelow w.known.variables a
      → drop p w.code ≡ kept_id w.known i d a c → Starts w n (forgotten d ks) ts turns (further (id_count 3 7 a) p)
      → Sees w.known f vs rs → Keeps (kept_ids w.setting) f → Along w n (state (Do (Id d which a) ∷ ts) vs turns) (lane p rs turns ns)
  kept_goes i p x (NumberOf zero) c f rs is id below e next sees keeps =
      let mid = mid_start w f vs rs sees keeps in
      set_is p (x 0) (NumberOf 0) (Copy d (held w.known i)) c rs (f 0) (f 1) e
      (ap (λ v. Go (lane (suc p) (put_at d v rs) turns ns)) (kept_is w vs rs (f 0) (f 1) i id.from (less_two i id.to) mid ∙ id.first)) refl (sym (is.known 0)) next mid
  kept_goes i p x (NumberOf (suc zero)) c f rs is id below e next sees keeps =
      let mid = mid_start w f vs rs sees keeps in
      computed_is p (NumberOf 1) Add (held w.known i) (held w.known (i + 1)) c rs (x 0) (second_kept (x 0) (x 1)) (f 0) (f 1) e
      (kept_is w vs rs (f 0) (f 1) i id.from (less_two i id.to) mid ∙ id.first) (kept_is w vs rs (f 0) (f 1) (i + 1) (more_two i 1 id.from) (less_one i id.to) mid ∙ id.second)
      (second_is (x 0) (x 1) (is.small 0) (is.small 1) ∙ sym (is.known 1)) next mid
  kept_goes i p x (NumberOf (suc (suc zero))) c f rs is id below e next sees keeps =
      let c1 : ℕ = second_kept (x 0) (x 1) in
      let c2 : ℕ = third_kept (x 0) (x 1) (x 2) in
      let s : State = state (Do (Id d which (NumberOf 2)) ∷ ts) vs turns in
      let e1 = behind w.code _ _ p e in
      let e2 = behind w.code _ _ (suc p) e1 in
      let mid = mid_start w f vs rs sees keeps in
      let second = kept_is w vs rs (f 0) (f 1) (i + 1) (more_two i 1 id.from) (less_one i id.to) mid ∙ id.second in
      goes_one w n s vs turns ns p Add (held w.known (i + 1)) (held w.known (i + 1)) _ rs c1 c1 (f 0) (f 1) e second second mid (λ rs1 mid1.
      goes_one w n s vs turns ns (suc p) Add (held w.known 0) (held w.known (i + 2)) _ rs1 (alu_value_of Add c1 c1) c2 _ _ e1 (one_is w vs rs1 _ _ mid1)
      (kept_is w vs rs1 _ _ (i + 2) (more_two i 2 id.from) id.to mid1 ∙ id.third) mid1 (λ rs2 mid2.
      computed_is (suc (suc p)) (NumberOf 2) Add (held w.known 0) (held w.known i) c rs2 (alu_value_of Add (alu_value_of Add c1 c1) c2) (x 0) _ _ e2 (one_is w vs rs2 _ _ mid2)
      (kept_is w vs rs2 _ _ i id.from (less_two i id.to) mid2 ∙ id.first) (third_is (x 0) (x 1) (x 2) (is.small 0) (is.small 1) (is.small 2) ∙ sym (is.known 2)) next mid2))
  kept_goes i p x (NumberOf (suc (suc (suc m)))) c f rs is id below e next sees keeps =
      set_is p 0 (NumberOf (suc (suc (suc m)))) (Copy d (NumberOf 0)) c rs (f 0) (f 1) e refl refl
      (sym (is.behind (suc (suc (suc m))) (omega arith)) ∙ sym (is.known (suc (suc (suc m))))) next (mid_start w f vs rs sees keeps)
  kept_goes i p x (VariableOf j) c f rs is id below e next sees keeps =
      let c1 : ℕ = second_kept (x 0) (x 1) in
      let c2 : ℕ = third_kept (x 0) (x 1) (x 2) in
      let v : ℕ = vs j in
      let s : State = state (Do (Id d which (VariableOf j)) ∷ ts) vs turns in
      let e1 = behind w.code _ _ p e in
      let e2 = behind w.code _ _ (further 1 p) e1 in
      let e3 = behind w.code _ _ (further 2 p) e2 in
      let e4 = behind w.code _ _ (further 3 p) e3 in
      let e5 = behind w.code _ _ (further 4 p) e4 in
      let e6 = behind w.code _ _ (further 5 p) e5 in
      let mid = mid_start w f vs rs sees keeps in
      goes_one w n s vs turns ns p Mul (VariableOf j) (held w.known (i + 1)) _ rs v c1 (f 0) (f 1) e (sees.variable j below)
      (kept_is w vs rs (f 0) (f 1) (i + 1) (more_two i 1 id.from) (less_one i id.to) mid ∙ id.second) mid (λ rs1 mid1.
      goes_two w n s vs turns ns (further 1 p) Srl (VariableOf j) (NumberOf 1) _ rs1 v 1 _ _ e1 (mid1.sees.variable j below) refl mid1 (λ rs2 mid2.
      goes_two w n s vs turns ns (further 2 p) Mul (held w.known 1) (held w.known (i + 2)) _ rs2 (alu_value_of Srl v 1) c2 _ _ e2 (two_is w vs rs2 _ _ mid2)
      (kept_is w vs rs2 _ _ (i + 2) (more_two i 2 id.from) id.to mid2 ∙ id.third) mid2 (λ rs3 mid3.
      goes_one w n s vs turns ns (further 3 p) Add (held w.known 0) (held w.known 1) _ rs3 _ _ _ _ e3 (one_is w vs rs3 _ _ mid3) (two_is w vs rs3 _ _ mid3) mid3 (λ rs4 mid4.
      goes_one w n s vs turns ns (further 4 p) Add (held w.known 0) (held w.known i) _ rs4 _ (x 0) _ _ e4 (one_is w vs rs4 _ _ mid4)
      (kept_is w vs rs4 _ _ i id.from (less_two i id.to) mid4 ∙ id.first) mid4 (λ rs5 mid5.
      goes_two w n s vs turns ns (further 5 p) Sltu (VariableOf j) (NumberOf 3) _ rs5 v 3 _ _ e5 (mid5.sees.variable j below) refl mid5 (λ rs6 mid6.
      computed_is (further 6 p) (VariableOf j) Mul (held w.known 0) (held w.known 1) c rs6 _ _ _ _ e6 (one_is w vs rs6 _ _ mid6) (two_is w vs rs6 _ _ mid6)
      (picked_is (x 0) (x 1) (x 2) (is.small 0) (is.small 1) (is.small 2) x v refl refl refl is.behind ∙ sym (is.known v)) next mid6))))))

  -- words of the block
  pub group_goes : (k p : ℕ) (x : ℕ → ℕ) (a : Operand) (c : List VOp) (f rs : ℕ → ℕ) → IsId w.setting which x 0 → ((d : ℕ) → d < 3 → w.at.block (k + d) ≡ x d)
      → IsBelow w.known.variables a → drop p w.code ≡ group_word w.known k d a c → Starts w n (forgotten d ks) ts turns (further (id_count 1 4 a) p)
      → Sees w.known f vs rs → Keeps (kept_ids w.setting) f → Along w n (state (Do (Id d which a) ∷ ts) vs turns) (lane p rs turns ns)
  group_goes k p x (NumberOf zero) c f rs is word below e next sees keeps =
      set_is p (w.at.block k) (NumberOf 0) (Word d k) c rs (f 0) (f 1) e refl refl (ap w.at.block (none_more k) ∙ word 0 (omega arith) ∙ sym (is.known 0)) next (mid_start w f vs rs sees keeps)
  group_goes k p x (NumberOf (suc zero)) c f rs is word below e next sees keeps =
      set_is p (w.at.block (k + 1)) (NumberOf 1) (Word d (k + 1)) c rs (f 0) (f 1) e refl refl (word 1 (omega arith) ∙ sym (is.known 1)) next (mid_start w f vs rs sees keeps)
  group_goes k p x (NumberOf (suc (suc zero))) c f rs is word below e next sees keeps =
      set_is p (w.at.block (k + 2)) (NumberOf 2) (Word d (k + 2)) c rs (f 0) (f 1) e refl refl (word 2 (omega arith) ∙ sym (is.known 2)) next (mid_start w f vs rs sees keeps)
  group_goes k p x (NumberOf (suc (suc (suc m)))) c f rs is word below e next sees keeps =
      set_is p 0 (NumberOf (suc (suc (suc m)))) (Copy d (NumberOf 0)) c rs (f 0) (f 1) e refl refl
      (sym (is.behind (suc (suc (suc m))) (omega arith)) ∙ sym (is.known (suc (suc (suc m))))) next (mid_start w f vs rs sees keeps)
  group_goes k p x (VariableOf j) c f rs is word below e next sees keeps =
      let v : ℕ = vs j in
      let s : State = state (Do (Id d which (VariableOf j)) ∷ ts) vs turns in
      let e1 = behind w.code _ _ p e in
      let e2 = behind w.code _ _ (further 1 p) e1 in
      let e3 = behind w.code _ _ (further 2 p) e2 in
      let mid = mid_start w f vs rs sees keeps in
      goes_one w n s vs turns ns p Sltu (VariableOf j) (NumberOf 3) _ rs v 3 (f 0) (f 1) e (sees.variable j below) refl mid (λ rs1 mid1.
      goes_two w n s vs turns ns (further 1 p) Mul (VariableOf j) (held w.known 0) _ rs1 v _ _ _ e1 (mid1.sees.variable j below) (one_is w vs rs1 _ _ mid1) mid1 (λ rs2 mid2.
      word_two w n s vs turns ns (further 2 p) k (held w.known 1) _ rs2 _ _ _ e2 (two_is w vs rs2 _ _ mid2) mid2 (λ rs3 mid3.
      computed_is (further 3 p) (VariableOf j) Mul (held w.known 1) (held w.known 0) c rs3 _ _ _ _ e3 (two_is w vs rs3 _ _ mid3) (one_is w vs rs3 _ _ mid3)
      (group_is (λ i. w.at.block (k + i)) x v word (λ i less. is.small i) is.behind ∙ sym (is.known v)) next mid3)))

  pub size_goes : (k p : ℕ) (x : ℕ → ℕ) (a : Operand) (c : List VOp) (f rs : ℕ → ℕ) → IsId w.setting which x 1 → ((d : ℕ) → d < 3 → w.at.block (k + d) ≡ x d)
      → IsBelow w.known.variables a → drop p w.code ≡ size_word w.known k d a c → Starts w n (forgotten d ks) ts turns (further (id_count 1 6 a) p)
      → Sees w.known f vs rs → Keeps (kept_ids w.setting) f → Along w n (state (Do (Id d which a) ∷ ts) vs turns) (lane p rs turns ns)
  size_goes k p x (NumberOf zero) c f rs is word below e next sees keeps =
      set_is p (w.at.block k) (NumberOf 0) (Word d k) c rs (f 0) (f 1) e refl refl (ap w.at.block (none_more k) ∙ word 0 (omega arith) ∙ sym (is.known 0)) next (mid_start w f vs rs sees keeps)
  size_goes k p x (NumberOf (suc zero)) c f rs is word below e next sees keeps =
      set_is p (w.at.block (k + 1)) (NumberOf 1) (Word d (k + 1)) c rs (f 0) (f 1) e refl refl (word 1 (omega arith) ∙ sym (is.known 1)) next (mid_start w f vs rs sees keeps)
  size_goes k p x (NumberOf (suc (suc zero))) c f rs is word below e next sees keeps =
      set_is p (w.at.block (k + 2)) (NumberOf 2) (Word d (k + 2)) c rs (f 0) (f 1) e refl refl (word 2 (omega arith) ∙ sym (is.known 2)) next (mid_start w f vs rs sees keeps)
  size_goes k p x (NumberOf (suc (suc (suc m)))) c f rs is word below e next sees keeps =
      set_is p 1 (NumberOf (suc (suc (suc m)))) (Copy d (NumberOf 1)) c rs (f 0) (f 1) e refl refl
      (sym (is.behind (suc (suc (suc m))) (omega arith)) ∙ sym (is.known (suc (suc (suc m))))) next (mid_start w f vs rs sees keeps)
  size_goes k p x (VariableOf j) c f rs is word below e next sees keeps =
      let v : ℕ = vs j in
      let s : State = state (Do (Id d which (VariableOf j)) ∷ ts) vs turns in
      let e1 = behind w.code _ _ p e in
      let e2 = behind w.code _ _ (further 1 p) e1 in
      let e3 = behind w.code _ _ (further 2 p) e2 in
      let e4 = behind w.code _ _ (further 3 p) e3 in
      let e5 = behind w.code _ _ (further 4 p) e4 in
      let mid = mid_start w f vs rs sees keeps in
      goes_one w n s vs turns ns p Sltu (VariableOf j) (NumberOf 3) _ rs v 3 (f 0) (f 1) e (sees.variable j below) refl mid (λ rs1 mid1.
      goes_two w n s vs turns ns (further 1 p) Mul (VariableOf j) (held w.known 0) _ rs1 v _ _ _ e1 (mid1.sees.variable j below) (one_is w vs rs1 _ _ mid1) mid1 (λ rs2 mid2.
      word_two w n s vs turns ns (further 2 p) k (held w.known 1) _ rs2 _ _ _ e2 (two_is w vs rs2 _ _ mid2) mid2 (λ rs3 mid3.
      goes_two w n s vs turns ns (further 3 p) Sub (held w.known 1) (NumberOf 1) _ rs3 _ 1 _ _ e3 (two_is w vs rs3 _ _ mid3) refl mid3 (λ rs4 mid4.
      goes_two w n s vs turns ns (further 4 p) Mul (held w.known 1) (held w.known 0) _ rs4 _ _ _ _ e4 (two_is w vs rs4 _ _ mid4) (one_is w vs rs4 _ _ mid4) mid4 (λ rs5 mid5.
      computed_is (further 5 p) (VariableOf j) Add (held w.known 1) (NumberOf 1) c rs5 _ 1 _ _ e5 (two_is w vs rs5 _ _ mid5) refl
      (size_is (λ i. w.at.block (k + i)) x v word (λ i less. is.small i) is.behind ∙ sym (is.known v)) next mid5)))))

-- a built-in function of any kind
pub id_goes : (w : Sides) (n d : ℕ) (which : Builtin) (ks : List Checked) (ts : List Task) (vs : ℕ → ℕ) (turns ns : List ℕ) (p : ℕ) (a : Operand) (c : List VOp) (f rs : ℕ → ℕ)
    → d < w.known.variables → Passes w.setting ks vs → HasNumbers w.setting w.at → IsBelow w.known.variables a
    → drop p w.code ≡ id_code w.known d which a c → Starts w n (forgotten d ks) ts turns (id_end which a p)
    → Sees w.known f vs rs → Keeps (kept_ids w.setting) f → Along w n (state (Do (Id d which a) ∷ ts) vs turns) (lane p rs turns ns)
id_goes w n d WorkDim ks ts vs turns ns p a c f rs low passes nums below e next sees keeps =
    set_is w n d WorkDim ks ts vs turns ns low passes p (w.at.block 2) a (Word d 2) c rs (f 0) (f 1) e refl refl nums.dims next (mid_start w f vs rs sees keeps)
id_goes w n d GlobalId ks ts vs turns ns p a c f rs low passes nums below e next sees keeps =
    kept_goes w n d GlobalId ks ts vs turns ns low passes 5 p (w.setting.id GlobalId) a c f rs (record { known = λ k. refl; small = nums.words GlobalId; behind = nums.no_global })
    (record { from = omega arith; to = omega arith; first = refl; second = refl; third = refl }) below e next sees keeps
id_goes w n d LocalId ks ts vs turns ns p a c f rs low passes nums below e next sees keeps =
    kept_goes w n d LocalId ks ts vs turns ns low passes 2 p (w.setting.id LocalId) a c f rs (record { known = λ k. refl; small = nums.words LocalId; behind = nums.no_local })
    (record { from = omega arith; to = omega arith; first = refl; second = refl; third = refl }) below e next sees keeps
id_goes w n d GroupId ks ts vs turns ns p a c f rs low passes nums below e next sees keeps =
    group_goes w n d GroupId ks ts vs turns ns low passes 3 p (w.setting.id GroupId) a c f rs (record { known = λ k. refl; small = nums.words GroupId; behind = nums.no_group })
    nums.group below e next sees keeps
id_goes w n d LocalSize ks ts vs turns ns p a c f rs low passes nums below e next sees keeps =
    size_goes w n d LocalSize ks ts vs turns ns low passes 6 p (w.setting.id LocalSize) a c f rs (record { known = λ k. refl; small = nums.words LocalSize; behind = nums.one_local })
    nums.local_size below e next sees keeps
id_goes w n d GlobalSize ks ts vs turns ns p a c f rs low passes nums below e next sees keeps =
    size_goes w n d GlobalSize ks ts vs turns ns low passes 9 p (w.setting.id GlobalSize) a c f rs (record { known = λ k. refl; small = nums.words GlobalSize; behind = nums.one_global })
    nums.global_size below e next sees keeps
id_goes w n d NumGroups ks ts vs turns ns p a c f rs low passes nums below e next sees keeps =
    size_goes w n d NumGroups ks ts vs turns ns low passes 12 p (w.setting.id NumGroups) a c f rs (record { known = λ k. refl; small = nums.words NumGroups; behind = nums.one_group })
    nums.groups below e next sees keeps
id_goes w n d GlobalOffset ks ts vs turns ns p a c f rs low passes nums below e next sees keeps =
    set_is w n d GlobalOffset ks ts vs turns ns low passes p 0 a (Copy d (NumberOf 0)) c rs (f 0) (f 1) e refl refl (sym (nums.no_offset GlobalOffset (value vs a) tt)) next (mid_start w f vs rs sees keeps)
id_goes w n d Min ks ts vs turns ns p a c f rs low passes nums below e next sees keeps =
    set_is w n d Min ks ts vs turns ns low passes p 0 a (Copy d (NumberOf 0)) c rs (f 0) (f 1) e refl refl (sym (nums.no_offset Min (value vs a) tt)) next (mid_start w f vs rs sees keeps)
id_goes w n d Max ks ts vs turns ns p a c f rs low passes nums below e next sees keeps =
    set_is w n d Max ks ts vs turns ns low passes p 0 a (Copy d (NumberOf 0)) c rs (f 0) (f 1) e refl refl (sym (nums.no_offset Max (value vs a) tt)) next (mid_start w f vs rs sees keeps)
id_goes w n d Clamp ks ts vs turns ns p a c f rs low passes nums below e next sees keeps =
    set_is w n d Clamp ks ts vs turns ns low passes p 0 a (Copy d (NumberOf 0)) c rs (f 0) (f 1) e refl refl (sym (nums.no_offset Clamp (value vs a) tt)) next (mid_start w f vs rs sees keeps)
id_goes w n d Abs ks ts vs turns ns p a c f rs low passes nums below e next sees keeps =
    set_is w n d Abs ks ts vs turns ns low passes p 0 a (Copy d (NumberOf 0)) c rs (f 0) (f 1) e refl refl (sym (nums.no_offset Abs (value vs a) tt)) next (mid_start w f vs rs sees keeps)
id_goes w n d MulHi ks ts vs turns ns p a c f rs low passes nums below e next sees keeps =
    set_is w n d MulHi ks ts vs turns ns low passes p 0 a (Copy d (NumberOf 0)) c rs (f 0) (f 1) e refl refl (sym (nums.no_offset MulHi (value vs a) tt)) next (mid_start w f vs rs sees keeps)
