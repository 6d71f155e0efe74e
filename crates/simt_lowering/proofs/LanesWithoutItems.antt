-- A lane that has no item ends with the first operations, since its bit is not in the mask that they compute.
use Rattle.std.proofs.Common.{◌≡◌, ℕ, zero, suc, ◌+◌, ◌-◌, ◌*◌, ◌/◌, ◌%◌, ◌^◌, ◌<◌, ◌≤◌, ◌⊎◌, inl, inr, List, [], ◌∷◌, drop, Bool, false, nat_eq, refl, ap, sym, subst, ◌∙◌, arith, lt-ltb}
use Rattle.std.specs.Prelude.{if◌then◌else◌}
use Rattle.std.proofs.Math.Nat.{div-div-eq-div-mul, div-eq_of_lt, pow-le-pow_right}
use Rattle.std.proofs.lemmas.Nat.{pow-add}
use Rattle.vx_base.specs.Values.{alu_value_of}
use Rattle.vx_base.specs.declared.types.Alu.{Alu}
use Rattle.vx_base.specs.declared.types.Alu.TheVariants.{Sub, Srl, Sltu, Mul}
use Rattle.item_acts.specs.declared.acts.Action.TheVariants.{End}
use Rattle.item_acts.specs.Launches.{put_at}
use Rattle.item_acts.specs.Machine.{Go, Stop}
use Rattle.kir.specs.Machine.{value}
use Rattle.kir.specs.Trees.{Operand, NumberOf, KirCode}
use Rattle.vcode.specs.declared.ops.Csr.TheVariants.{WarpNumber}
use Rattle.vcode.specs.Code.{VOp, Fresh, Compute, Word, Learn, Tmc, Wspawn}
use Rattle.vcode.specs.Machine.{Around, Lane, lane, op_step}
use Rattle.vcode.proofs.Steps.{step_at}
use Rattle.vx_isa.specs.Warps.{has_lane}
use Rattle.vx_layout.specs.Launching.{Plan, Accepted, group_size}
use Rattle.vx_layout.proofs.Located.{located}
use Rattle.simt_lowering.specs.Kept.{known_of_kernel, spawn_place}
use Rattle.simt_lowering.specs.Laid.{around_of}
use Rattle.simt_lowering.specs.Lowered.{Known, own, held, kernel_code}
use Rattle.simt_lowering.specs.Runs.{Comes, Leads, first_written}
use Rattle.simt_lowering.specs.WithoutItems.{WithoutItems}
use Rattle.simt_lowering.proofs.IdWords.{difference}
use Rattle.simt_lowering.proofs.LaneMasks.{lanes_left}
use Rattle.simt_lowering.proofs.Openings.{seen}
use Rattle.simt_lowering.proofs.Sides.{Sees, sees_own}

-- ---- the mask

-- a word of ones has no bit from bit 32 on
no_bit : (e lane : ℕ) → 32 ≤ e + lane → has_lane (0xffffffff / 2 ^ e) lane ≡ false
no_bit e lane past =
    let most : 2 ^ 32 ≤ 2 ^ (e + lane) = pow-le-pow_right (omega arith) past in
    let gone : 0xffffffff / 2 ^ (e + lane) ≡ 0 = div-eq_of_lt (omega arith) in
    ap (λ x. nat_eq (x % 2) 1) (div-div-eq-div-mul 0xffffffff (2 ^ e) (2 ^ lane) ∙ ap (λ x. 0xffffffff / x) (sym (pow-add 2 e lane)) ∙ gone)

by_one : (a b : ℕ) → a ≡ b → b < 2 ^ 32 → (a * 1) % 2 ^ 32 ≡ b
by_one a b e low = omega arith

shift_is : (left : ℕ) → left < 32 → alu_value_of Mul (alu_value_of Sub 32 left) (alu_value_of Sltu left 32) ≡ 32 - left
shift_is left few =
    let gap : alu_value_of Sub 32 left ≡ (32 + (2 ^ 32 - left)) % 2 ^ 32 = difference 32 left (omega arith) (omega arith) in
    let one : alu_value_of Sltu left 32 ≡ 1 = ap (λ b. if b then 1 else 0) (lt-ltb left 32 few) in
    ap (λ x. (alu_value_of Sub 32 left * x) % 2 ^ 32) one ∙ by_one (alu_value_of Sub 32 left) (32 - left) (omega arith) (omega arith)

-- a lane whose number is not below the number of items that are left is not in the mask, where some are left
pub lane_leaves : (left lane : ℕ) → 1 ≤ left → left ≤ lane → lane < 32 → has_lane (lanes_left left) lane ≡ false
lane_leaves left lane some past small =
    let uncut : (32 - left) % 32 ≡ 32 - left = omega arith in
    ap (λ x. has_lane (0xffffffff / 2 ^ (x % 32)) lane) (shift_is left (omega arith))
    ∙ ap (λ x. has_lane (0xffffffff / 2 ^ x) lane) uncut
    ∙ no_bit (32 - left) lane (omega arith)

items_left : (items before : ℕ) → before < items → items < 2 ^ 32 → alu_value_of Sub items before ≡ items - before
items_left items before less small = let h : alu_value_of Sub items before ≡ (items + (2 ^ 32 - before)) % 2 ^ 32 = difference items before (omega arith) (omega arith) in omega arith

before_is : (warp lanes items : ℕ) → warp * lanes < items → items < 2 ^ 32 → alu_value_of Mul warp lanes ≡ warp * lanes
before_is warp lanes items less small = by (warp * lanes) less
  where
    by : (before : ℕ) → before < items → before % 2 ^ 32 ≡ before
    by before less = omega arith

-- ---- the first operations

module _ (at : Around) (code : List VOp) (k : Known) where
  -- from a place on, with these registers, the lane stays among the first operations
  abbrev pub Stays : ℕ → (ℕ → ℕ) → Type 0
  Stays p rs = (ts ns : List ℕ) (n : ℕ) (ws : List ℕ) (t : Lane) (us : List ℕ) → Comes at code n (lane p rs ts ns) ws t us → t.place < 14

  goes : (p : ℕ) (rs rs' : ℕ → ℕ) (op : VOp) (rest : List VOp) → drop p code ≡ op ∷ rest → p < 14
      → ((ts ns : List ℕ) → op_step at op p rs ts ns ≡ Go (lane (suc p) rs' ts ns)) → Stays (suc p) rs' → Stays p rs
  goes p rs rs' op rest e low steps next ts ns zero ws t us comes = subst (λ (l : Lane). l.place < 14) comes.0 low
  goes p rs rs' op rest e low steps next ts ns (suc n) ws t us (s, leads, comes) =
      let same : lane (suc p) rs' ts ns ≡ s = subst (λ x. Leads x s) (step_at at code (op ∷ rest) p rs ts ns e ∙ steps ts ns) leads in
      next ts ns n (first_written (drop p code) ws) t us (subst (λ l. Comes at code n l (first_written (drop p code) ws) t us) (sym same) comes)

  writes : (p i v : ℕ) (op : VOp) (rest : List VOp) (f vs rs : ℕ → ℕ) → drop p code ≡ op ∷ rest → p < 14
      → ((ts ns : List ℕ) → op_step at op p rs ts ns ≡ Go (lane (suc p) (put_at (own k i) v rs) ts ns)) → Sees k f vs rs
      → ((rs' : ℕ → ℕ) → Sees k (put_at i v f) vs rs' → Stays (suc p) rs') → Stays p rs
  writes p i v op rest f vs rs e low steps sees next = goes p rs (put_at (own k i) v rs) op rest e low steps (next (put_at (own k i) v rs) (sees_own k f vs rs i v sees))

  computes : (p i : ℕ) (op : Alu) (a b : Operand) (rest : List VOp) (f vs rs : ℕ → ℕ) (x y v : ℕ) → drop p code ≡ Compute (own k i) op a b ∷ rest → p < 14
      → value rs a ≡ x → value rs b ≡ y → alu_value_of op x y ≡ v → Sees k f vs rs → ((rs' : ℕ → ℕ) → Sees k (put_at i v f) vs rs' → Stays (suc p) rs') → Stays p rs
  computes p i op a b rest f vs rs x y v e low left right is sees next =
      writes p i v (Compute (own k i) op a b) rest f vs rs e low
      (λ ts ns. ap (λ z. Go (lane (suc p) (put_at (own k i) (alu_value_of op z (value rs b)) rs) ts ns)) left
      ∙ ap (λ z. Go (lane (suc p) (put_at (own k i) (alu_value_of op x z) rs) ts ns)) right
      ∙ ap (λ z. Go (lane (suc p) (put_at (own k i) z rs) ts ns)) is) sees next

  stops : (p : ℕ) (a : Operand) (rest : List VOp) (rs : ℕ → ℕ) → drop p code ≡ Tmc a ∷ rest → p < 14 → has_lane (value rs a) at.number ≡ false → Stays p rs
  stops p a rest rs e low leaves ts ns zero ws t us comes = subst (λ (l : Lane). l.place < 14) comes.0 low
  stops p a rest rs e low leaves ts ns (suc n) ws t us (s, leads, comes) =
      absurd (subst (λ x. Leads x s) (step_at at code (Tmc a ∷ rest) p rs ts ns e ∙ ap (λ b. if b then Go (lane (suc p) rs ts ns) else Stop End) leaves) leads)

module _ (code : KirCode) (marks : ℕ → Bool) (at : Around) (some : at.warp * at.block 15 < at.block 1) (small : at.block 1 < 2 ^ 32) (past : at.block 1 ≤ at.warp * at.block 15 + at.number)
    (few : at.number < 32) where
  abbrev k : Known
  k = known_of_kernel marks code

  abbrev ops : List VOp
  ops = kernel_code marks code

  abbrev left : ℕ
  left = at.block 1 - at.warp * at.block 15

  leaves : has_lane (lanes_left left) at.number ≡ false
  leaves = by (at.warp * at.block 15) some past
    where
      by : (before : ℕ) → before < at.block 1 → at.block 1 ≤ before + at.number → has_lane (lanes_left (at.block 1 - before)) at.number ≡ false
      by before less most = lane_leaves (at.block 1 - before) at.number (omega arith) (omega arith) few

  from_spawn : (rs : ℕ → ℕ) → Stays at ops k spawn_place rs
  from_spawn rs =
      let lanes : ℕ = at.block 15 in
      let before : ℕ = at.warp * at.block 15 in
      goes at ops k 3 rs rs Fresh _ refl (omega arith) (λ ts ns. refl)
      (writes at ops k 4 0 (at.block 1) (Word (own k 0) 1) _ (λ i. rs (own k i)) rs rs refl (omega arith) (λ ts ns. refl) (seen k rs) (λ rs1 s1.
      writes at ops k 5 1 at.warp (Learn (own k 1) WarpNumber) _ _ rs rs1 refl (omega arith) (λ ts ns. refl) s1 (λ rs2 s2.
      writes at ops k 6 2 (at.block 15) (Word (own k 2) 15) _ _ rs rs2 refl (omega arith) (λ ts ns. refl) s2 (λ rs3 s3.
      computes at ops k 7 1 Mul (held k 1) (held k 2) _ _ rs rs3 at.warp (at.block 15) (at.warp * at.block 15) refl (omega arith) (s3.register 1) (s3.register 2)
      (before_is at.warp (at.block 15) (at.block 1) some small) s3 (λ rs4 s4.
      computes at ops k 8 0 Sub (held k 0) (held k 1) _ _ rs rs4 (at.block 1) (at.warp * at.block 15) left refl (omega arith) (s4.register 0) (s4.register 1)
      (items_left (at.block 1) (at.warp * at.block 15) some small) s4 (λ rs5 s5.
      computes at ops k 9 1 Sltu (held k 0) (NumberOf 32) _ _ rs rs5 left 32 _ refl (omega arith) (s5.register 0) refl refl s5 (λ rs6 s6.
      computes at ops k 10 0 Sub (NumberOf 32) (held k 0) _ _ rs rs6 32 left _ refl (omega arith) refl (s6.register 0) refl s6 (λ rs7 s7.
      computes at ops k 11 0 Mul (held k 0) (held k 1) _ _ rs rs7 _ _ _ refl (omega arith) (s7.register 0) (s7.register 1) refl s7 (λ rs8 s8.
      computes at ops k 12 0 Srl (NumberOf 0xffffffff) (held k 0) _ _ rs rs8 0xffffffff _ _ refl (omega arith) refl (s8.register 0) refl s8 (λ rs9 s9.
      stops at ops k 13 (held k 0) _ rs9 refl (omega arith) (ap (λ m. has_lane m at.number) (s9.register 0) ∙ leaves)))))))))))

  from_first : (rs : ℕ → ℕ) → Stays at ops k 0 rs
  from_first rs =
      goes at ops k 0 rs rs Fresh _ refl (omega arith) (λ ts ns. refl)
      (goes at ops k 1 rs (put_at (own k 0) (at.block 0) rs) (Word (own k 0) 0) _ refl (omega arith) (λ ts ns. refl)
      (goes at ops k 2 (put_at (own k 0) (at.block 0) rs) (put_at (own k 0) (at.block 0) rs) (Wspawn (held k 0) 3) _ refl (omega arith) (λ ts ns. refl)
      (from_spawn (put_at (own k 0) (at.block 0) rs))))

  from_begin : (q : ℕ) (rs : ℕ → ℕ) → (q ≡ 0) ⊎ (q ≡ spawn_place) → Stays at ops k q rs
  from_begin q rs (inl e) = subst (λ x. Stays at ops k x rs) (sym e) (from_first rs)
  from_begin q rs (inr e) = subst (λ x. Stays at ops k x rs) (sym e) (from_spawn rs)

few_lanes : (p : Plan) → Accepted p → (number : ℕ) → number < p.lanes → number < 32
few_lanes p ok number low = let lanes = ok.lanes in omega arith

few_items : (p : Plan) → Accepted p → group_size p.range < 2 ^ 32
few_items p ok = let size = ok.group in omega arith

pub without_items : WithoutItems
without_items code marks p ok group warp number in_warps in_warp past q rs ns begins n t us comes =
    from_begin code marks (around_of p group warp number) ((located p ok).warp_has_items warp in_warps) (few_items p ok) past (few_lanes p ok number in_warp) q rs begins
    [] ns n [] t us comes
