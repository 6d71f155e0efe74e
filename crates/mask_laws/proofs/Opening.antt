-- The first operations of a warp: with lane 0 alone, up to the operation that leaves the lanes that have an item.
use Rattle.std.proofs.Common.{◌≡◌, ℕ, zero, suc, ◌^◌, ◌<◌, ◌⊎◌, inl, inr, Bool, true, false, ◌==◌, List, [], ◌∷◌, drop, refl, ap, sym, ◌∙◌, arith, eq-eqb, ne_eqb}
use Rattle.std.specs.Prelude.{if◌then◌else◌}
use Rattle.std.proofs.Math.Path.{fun_ext}
use Rattle.vx_base.specs.Values.{alu_value_of}
use Rattle.vx_base.specs.declared.types.Alu.{Alu}
use Rattle.vx_base.specs.declared.types.Alu.TheVariants.{Sub, Srl, Sltu, Mul}
use Rattle.item_acts.specs.Launches.{put_at}
use Rattle.item_acts.proofs.Launches.{put_at_same, put_at_other}
use Rattle.item_acts.specs.declared.acts.Action.TheVariants.{End}
use Rattle.item_acts.specs.Machine.{Go, Stop}
use Rattle.kir.specs.Machine.{value}
use Rattle.kir.specs.Trees.{Operand, NumberOf, KirCode}
use Rattle.vx_isa.specs.Warps.{has_lane, leader, cut}
use Rattle.vx_isa.specs.declared.warps.Step.TheVariants as step
use Rattle.vcode.specs.declared.ops.Csr.TheVariants.{WarpNumber}
use Rattle.vcode.specs.Machine.{lane}
use Rattle.vcode.specs.Code.{VOp, Fresh, Compute, Word, Learn, Tmc, Wspawn}
use Rattle.simt_lowering.specs.Kept.{known_of_kernel, item_place}
use Rattle.simt_lowering.specs.Lowered.{Known, own, held, kernel_code}
use Rattle.simt_lowering.proofs.LaneMasks.{lanes_left}
use Rattle.warp_code.specs.Warps.{Crew, VLane, VWarp, does, lane_behind, moved, begun, stepped, ends_or_goes, with_mask, leader_value, chooses, lanes_step, warp_op, warp_from, warp_start}
use Rattle.warp_code.specs.Runs.{Passes}
use Rattle.mask_laws.specs.Laws.{nexts}
use Rattle.mask_laws.proofs.Sets.{In, Out, which, clash, leader_in, all_go, moved_in, moved_out, none_in}
use Rattle.mask_laws.proofs.Going.{lane_at}

abbrev pub no_registers : ℕ → ℕ
no_registers r = 0

-- lane 0 stands at a place, and the others where the warp began
abbrev pub solo_lanes : ℕ → ℕ → (ℕ → ℕ) → ℕ → VLane
solo_lanes start p rs l = if has_lane 1 l then lane_at p rs [] else lane_at start no_registers []

abbrev pub solo : ℕ → ℕ → (ℕ → ℕ) → VWarp
solo start p rs = record { place = p; mask = 1; lanes = solo_lanes start p rs; stack = [] }

solo_in : (start p : ℕ) (rs : ℕ → ℕ) (l : ℕ) → In 1 l → solo_lanes start p rs l ≡ lane_at p rs []
solo_in start p rs l is_in = ap (λ b. if b then lane_at p rs [] else lane_at start no_registers []) is_in

solo_out : (start p : ℕ) (rs : ℕ → ℕ) (l : ℕ) → Out 1 l → solo_lanes start p rs l ≡ lane_at start no_registers []
solo_out start p rs l is_out = ap (λ b. if b then lane_at p rs [] else lane_at start no_registers []) is_out

-- a warp begins so
pub starts_solo : (start : ℕ) → warp_start start ≡ solo start start no_registers
starts_solo start = ap (λ vs. record { place = start; mask = 1; lanes = vs; stack = [] }) (fun_ext (λ l. same l (which (has_lane 1 l)))) where
  same : (l : ℕ) → (In 1 l ⊎ Out 1 l) → lane_at start no_registers [] ≡ solo_lanes start start no_registers l
  same l (inl is_in) = sym (solo_in start start no_registers l is_in)
  same l (inr is_out) = sym (solo_out start start no_registers l is_out)

one_small : 1 < 2 ^ 32
one_small = omega arith

first_is : In 1 (leader 1)
first_is = leader_in 1 (omega arith) one_small

module _ (k : Crew) (start : ℕ) where
  -- lane 0 makes a step by itself
  solo_moved : (op : VOp) (answers : ℕ → ℕ) (p p' : ℕ) (rs rs' : ℕ → ℕ) → ((l : ℕ) → In 1 l → lane_behind (answers l) (lane_at p rs []) (does k 1 op l (lane_at p rs [])) ≡ lane_at p' rs' [])
      → moved k op answers (solo start p rs) ≡ solo_lanes start p' rs'
  solo_moved op answers p p' rs rs' step = fun_ext (λ l. each l (which (has_lane 1 l))) where
    each : (l : ℕ) → (In 1 l ⊎ Out 1 l) → moved k op answers (solo start p rs) l ≡ solo_lanes start p' rs' l
    each l (inl is_in) =
        moved_in k op answers (solo start p rs) l is_in ∙ ap (λ v. lane_behind (answers l) v (does k 1 op l v)) (solo_in start p rs l is_in) ∙ step l is_in ∙ sym (solo_in start p' rs' l is_in)
    each l (inr is_out) = moved_out k op answers (solo start p rs) l is_out ∙ solo_out start p rs l is_out ∙ sym (solo_out start p' rs' l is_out)

  solo_goes : (op : VOp) (answers : ℕ → ℕ) (p p' : ℕ) (rs rs' : ℕ → ℕ) → chooses op rs ≡ true
      → ((l : ℕ) → In 1 l → lane_behind (answers l) (lane_at p rs []) (does k 1 op l (lane_at p rs [])) ≡ lane_at p' rs' [])
      → lanes_step op (moved k op answers (solo start p rs)) (solo start p rs) ≡ record { warp = solo start p' rs'; outcome = step.Next }
  solo_goes op answers p p' rs rs' none goes =
      all_go op (moved k op answers (solo start p rs)) (solo start p rs) true (λ l is_in. ap (λ v. chooses op v.registers) (solo_in start p rs l is_in) ∙ none) first_is
      ∙ ap (λ vs. stepped step.Next (vs (leader 1)).place 1 [] vs) (solo_moved op answers p p' rs rs' goes)
      ∙ ap (λ v. stepped step.Next v.place 1 [] (solo_lanes start p' rs')) (solo_in start p' rs' (leader 1) first_is)

  module _ (marks : ℕ → Bool) (kernel : KirCode) where
    abbrev pub known : Known
    known = known_of_kernel marks kernel

    abbrev pub code : List VOp
    code = kernel_code marks kernel

    abbrev o0 : ℕ
    o0 = own known 0

    abbrev o1 : ℕ
    o1 = own known 1

    abbrev o2 : ℕ
    o2 = own known 2

    -- the three registers that the first operations write; all variables are 0
    record Regs (rs : ℕ → ℕ) (a0 a1 a2 : ℕ) : Type 0 where
      first : rs o0 ≡ a0
      second : rs o1 ≡ a1
      third : rs o2 ≡ a2
      variables : (r : ℕ) → r < kernel.variables → rs r ≡ 0

    in_first : (rs : ℕ → ℕ) (a0 a1 a2 v v' : ℕ) → v ≡ v' → Regs rs a0 a1 a2 → Regs (put_at o0 v rs) v' a1 a2
    in_first rs a0 a1 a2 v v' e h = record {
      first = put_at_same o0 v rs ∙ e;
      second = put_at_other o0 v rs o1 (λ q. omega (arith, q)) ∙ h.second;
      third = put_at_other o0 v rs o2 (λ q. omega (arith, q)) ∙ h.third;
      variables = λ r less. put_at_other o0 v rs r (λ q. omega (arith, q, less)) ∙ h.variables r less;
    }

    in_second : (rs : ℕ → ℕ) (a0 a1 a2 v v' : ℕ) → v ≡ v' → Regs rs a0 a1 a2 → Regs (put_at o1 v rs) a0 v' a2
    in_second rs a0 a1 a2 v v' e h = record {
      first = put_at_other o1 v rs o0 (λ q. omega (arith, q)) ∙ h.first;
      second = put_at_same o1 v rs ∙ e;
      third = put_at_other o1 v rs o2 (λ q. omega (arith, q)) ∙ h.third;
      variables = λ r less. put_at_other o1 v rs r (λ q. omega (arith, q, less)) ∙ h.variables r less;
    }

    in_third : (rs : ℕ → ℕ) (a0 a1 a2 v v' : ℕ) → v ≡ v' → Regs rs a0 a1 a2 → Regs (put_at o2 v rs) a0 a1 v'
    in_third rs a0 a1 a2 v v' e h = record {
      first = put_at_other o2 v rs o0 (λ q. omega (arith, q)) ∙ h.first;
      second = put_at_other o2 v rs o1 (λ q. omega (arith, q)) ∙ h.second;
      third = put_at_same o2 v rs ∙ e;
      variables = λ r less. put_at_other o2 v rs r (λ q. omega (arith, q, less)) ∙ h.variables r less;
    }

    -- how many items are left for this warp and those behind it, and the lanes that have one
    abbrev pub left : ℕ
    left = alu_value_of Sub (k.block 1) (alu_value_of Mul k.ids.warp (k.block 15))

    abbrev pub item_mask : ℕ
    item_mask = cut k.ids.lanes (lanes_left left)

    -- the warp behind the operation that leaves the lanes that have an item
    abbrev pub item_warp : (ℕ → ℕ) → VWarp
    item_warp rs = record { place = item_place; mask = item_mask; lanes = begun item_place 1 item_mask (solo_lanes start item_place rs); stack = [] }

    -- in so many steps the warp is there, and lane 0 has written no variable
    abbrev pub Opens : ℕ → (ℕ → ℕ) → ℕ → Type 0
    Opens p rs n = (rs' : ℕ → ℕ) × ((r : ℕ) → r < kernel.variables → rs' r ≡ 0) × Passes k code (solo start p rs) (nexts n) (item_warp rs')

    one_step : (op : VOp) (ops : List VOp) (p : ℕ) (rs rs' : ℕ → ℕ) (n : ℕ) → drop p code ≡ op ∷ ops → chooses op rs ≡ true
        → ((vs : ℕ → VLane) (w : VWarp) → warp_op k op vs w ≡ lanes_step op vs w)
        → ((l : ℕ) (answer : ℕ) → In 1 l → lane_behind answer (lane_at p rs []) (does k 1 op l (lane_at p rs [])) ≡ lane_at (suc p) rs' [])
        → Opens (suc p) rs' n → Opens p rs (suc n)
    one_step op ops p rs rs' n there none plain goes later = (
      later.0,
      later.1,
      (
        solo start (suc p) rs',
        (λ answers.
            ap (λ c. warp_from k c answers (solo start p rs)) there ∙ plain (moved k op answers (solo start p rs)) (solo start p rs) ∙ solo_goes op answers p (suc p) rs rs' none (λ l is_in. goes l (answers l) is_in)),
        later.2,
      ),
    )

    -- the last of them
    module _ (lane_0 : In (lanes_left left) 0) (some : In item_mask 0) where
      in_one : (l : ℕ) → In 1 l → l ≡ 0
      in_one zero is_in = refl
      in_one (suc l) is_in = clash (has_lane 1 (suc l)) is_in (above l) where
        above : (n : ℕ) → Out 1 (suc n)
        above n = grind arith

      ends : (rs : ℕ → ℕ) (a1 a2 : ℕ) → Regs rs (lanes_left left) a1 a2 → Opens 13 rs 1
      ends rs a1 a2 h = (
        rs,
        h.variables,
        (
          item_warp rs,
          (λ answers.
              ap (λ vs. with_mask (cut k.ids.lanes (leader_value (solo start 13 rs) (held known 0))) (begun 14 1 (cut k.ids.lanes (leader_value (solo start 13 rs) (held known 0))) vs) (solo start 13 rs))
              (solo_moved (Tmc (held known 0)) answers 13 14 rs rs (λ l is_in. stays l (answers l) is_in))
              ∙ ap (λ m. with_mask (cut k.ids.lanes m) (begun 14 1 (cut k.ids.lanes m) (solo_lanes start 14 rs)) (solo start 13 rs)) mask_is
              ∙ ap (λ b. stepped (ends_or_goes b) 14 item_mask [] (begun 14 1 item_mask (solo_lanes start 14 rs))) not_empty),
          refl,
        ),
      ) where
        stays : (l answer : ℕ) → In 1 l → lane_behind answer (lane_at 13 rs []) (does k 1 (Tmc (held known 0)) l (lane_at 13 rs [])) ≡ lane_at 14 rs []
        stays l answer is_in =
            ap (λ b. lane_behind answer (lane_at 13 rs []) (if b then Go (lane 14 rs [] []) else Stop End)) (ap (λ m. has_lane m l) h.first ∙ ap (has_lane (lanes_left left)) (in_one l is_in) ∙ lane_0)

        mask_is : leader_value (solo start 13 rs) (held known 0) ≡ lanes_left left
        mask_is = ap (λ v. v.registers o0) (solo_in start 13 rs (leader 1) first_is) ∙ h.first

        not_empty : (item_mask == 0) ≡ false
        not_empty = ne_eqb item_mask 0 (λ e. clash (has_lane item_mask 0) some (none_in item_mask 0 (eq-eqb item_mask 0 e)))

      -- the lanes that have an item, from their number
      counts : (rs : ℕ → ℕ) (a0 a1 a2 : ℕ) → Regs rs a0 a1 a2 → Opens 4 rs 10
      counts rs a0 a1 a2 h =
          one_step (Word o0 1) _ 4 rs (put_at o0 (k.block 1) rs) 9 refl refl (λ vs w. refl) (λ l answer is_in. refl)
          (let h1 = in_first rs a0 a1 a2 (k.block 1) (k.block 1) refl h in
          one_step (Learn o1 WarpNumber) _ 5 _ (put_at o1 k.ids.warp _) 8 refl refl (λ vs w. refl) (λ l answer is_in. refl)
          (let h2 = in_second _ _ _ _ k.ids.warp k.ids.warp refl h1 in
          one_step (Word o2 15) _ 6 _ (put_at o2 (k.block 15) _) 7 refl refl (λ vs w. refl) (λ l answer is_in. refl)
          (let h3 = in_third _ _ _ _ (k.block 15) (k.block 15) refl h2 in
          computes o1 Mul (held known 1) (held known 2) 7 _ 6 refl
          (let h4 = in_second _ _ _ _ _ (alu_value_of Mul k.ids.warp (k.block 15)) (two_values Mul h3.second h3.third) h3 in
          computes o0 Sub (held known 0) (held known 1) 8 _ 5 refl
          (let h5 = in_first _ _ _ _ _ left (two_values Sub h4.first h4.second) h4 in
          computes o1 Sltu (held known 0) (NumberOf 32) 9 _ 4 refl
          (let h6 = in_second _ _ _ _ _ (alu_value_of Sltu left 32) (two_values Sltu h5.first refl) h5 in
          computes o0 Sub (NumberOf 32) (held known 0) 10 _ 3 refl
          (let h7 = in_first _ _ _ _ _ (alu_value_of Sub 32 left) (two_values Sub refl h6.first) h6 in
          computes o0 Mul (held known 0) (held known 1) 11 _ 2 refl
          (let h8 = in_first _ _ _ _ _ (alu_value_of Mul (alu_value_of Sub 32 left) (alu_value_of Sltu left 32)) (two_values Mul h7.first h7.second) h7 in
          computes o0 Srl (NumberOf 0xffffffff) (held known 0) 12 _ 1 refl
          (let h9 = in_first _ _ _ _ _ (lanes_left left) (two_values Srl refl h8.first) h8 in
          ends _ _ _ h9))))))))) where
            two_values : (op : Alu) {a a' b b' : ℕ} → a ≡ a' → b ≡ b' → alu_value_of op a b ≡ alu_value_of op a' b'
            two_values op {a} {a'} {b} {b'} e e' = ap (λ x. alu_value_of op x b) e ∙ ap (λ x. alu_value_of op a' x) e'

            computes : (d : ℕ) (op : Alu) (a b : Operand) (p : ℕ) (rs' : ℕ → ℕ) (n : ℕ) {ops : List VOp} → drop p code ≡ Compute d op a b ∷ ops
                → Opens (suc p) (put_at d (alu_value_of op (value rs' a) (value rs' b)) rs') n → Opens p rs' (suc n)
            computes d op a b p rs' n {ops} there later = one_step (Compute d op a b) ops p rs' _ n there refl (λ vs w. refl) (λ l answer is_in. refl) later

      -- from the place at which a warp begins that another starts
      pub from_spawn : Opens 3 no_registers 11
      from_spawn =
          one_step Fresh _ 3 no_registers no_registers 10 refl refl (λ vs w. refl) (λ l answer is_in. refl)
          (counts no_registers 0 0 0 (record { first = refl; second = refl; third = refl; variables = λ r less. refl }))

      -- from the first place: the other warps are started, and then it goes as it does for them
      started_lanes : (answers : ℕ → ℕ) (rs : ℕ → ℕ) → moved k (Wspawn (held known 0) 3) answers (solo start 2 rs) ≡ solo_lanes start 3 rs
      started_lanes answers rs = solo_moved (Wspawn (held known 0) 3) answers 2 3 rs rs (λ l is_in. refl)

      first_value : (rs : ℕ → ℕ) → leader_value (solo start 2 rs) (held known 0) ≡ rs o0
      first_value rs = ap (λ v. v.registers o0) (solo_in start 2 rs (leader 1) first_is)

      abbrev first_word : ℕ → ℕ
      first_word = put_at o0 (k.block 0) no_registers

      first_regs : Regs first_word (k.block 0) 0 0
      first_regs = in_first no_registers 0 0 0 (k.block 0) (k.block 0) refl (record { first = refl; second = refl; third = refl; variables = λ r less. refl })

      then_others : Opens 3 first_word 11
      then_others = one_step Fresh _ 3 first_word first_word 10 refl refl (λ vs w. refl) (λ l answer is_in. refl) (counts first_word (k.block 0) 0 0 first_regs)

      pub from_zero : (rs' : ℕ → ℕ) × ((r : ℕ) → r < kernel.variables → rs' r ≡ 0)
          × Passes k code (solo start 0 no_registers) (step.Next ∷ step.Next ∷ step.Spawn (k.block 0) 3 ∷ nexts 11) (item_warp rs')
      from_zero = (
        then_others.0,
        then_others.1,
        (
          solo start 1 no_registers,
          (λ answers. solo_goes Fresh answers 0 1 no_registers no_registers refl (λ l is_in. refl)),
          (
            solo start 2 first_word,
            (λ answers. solo_goes (Word o0 0) answers 1 2 no_registers first_word refl (λ l is_in. refl)),
            (
              solo start 3 first_word,
              (λ answers.
                  ap (λ vs. stepped (step.Spawn (leader_value (solo start 2 first_word) (held known 0)) 3) 3 1 [] vs) (started_lanes answers first_word)
                  ∙ ap (λ n. stepped (step.Spawn n 3) 3 1 [] (solo_lanes start 3 first_word)) (first_value first_word ∙ first_regs.first)),
              then_others.2,
            ),
          ),
        ),
      )
