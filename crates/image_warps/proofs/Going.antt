-- An instruction that each active lane does, where none of them traps: the whole step of the warp, and what each lane accesses in it.
use Rattle.std.proofs.Common.{◌≡◌, ℕ, zero, suc, ◌<◌, ◌≤◌, Bool, true, false, nat_eq, nat_lt, if◌then◌else◌, List, [], ◌∷◌, ◌++◌, map, None, ap, ◌∙◌, arith, refl, lt-ltb, eq-eqb, ne_eqb, inl, inr, ◌^◌, ◌⊎◌}
use Rattle.std.specs.Prelude.{◌&&◌, is_some}
use Rattle.std.proofs.lemmas.Bool.{cases_lt}
use Rattle.vx_isa.specs.Effects.{effect_of}
use Rattle.vx_isa.specs.Operands.{rs1_of, rs2_of}
use Rattle.vx_isa.specs.Warps.{WarpState, has_lane, leader, value_in}
use Rattle.vx_isa.specs.WarpSteps.{Access, Fields, LaneAccess, access_of, accesses_below, acted_below, choice_of, effect_in, fault_of, lane_accesses, lane_fault, lanes_step, lanes_stepped, leads_to, registers_after, stop_lane}
use Rattle.vx_isa.specs.declared.instr.Instr.{Instr}
use Rattle.vx_isa.specs.declared.warps.Ids.{Ids}
use Rattle.vx_isa.specs.declared.warps.Step.TheVariants as step
use Rattle.vx_isa.proofs.MaskLaws.{has_lane-above, least_below-none}
use Rattle.image_warps.specs.Lanes.{of_lane}

-- what the instruction is to a lane
pub effect_is : (i : Instr) (w : WarpState) (l : ℕ) → effect_in i w l ≡ effect_of i w.pc (value_in (w.registers l) (rs1_of i)) (value_in (w.registers l) (rs2_of i))
unfolding effect_in
effect_is i w l = refl

-- ---- lists of accesses

of_both : (l : ℕ) (xs ys : List LaneAccess) → of_lane l (xs ++ ys) ≡ of_lane l xs ++ of_lane l ys
of_both l [] ys = refl
of_both l (x ∷ xs) ys =
    let more = of_both l xs ys in
    elim (nat_eq x.lane l) as (λ b. (if b then x.access ∷ of_lane l (xs ++ ys) else of_lane l (xs ++ ys)) ≡ (if b then x.access ∷ of_lane l xs else of_lane l xs) ++ of_lane l ys) [
      | true ↦ ap (λ zs. x.access ∷ zs) more
      | false ↦ more
    ]

of_own : (l m : ℕ) (xs : List Access) → nat_eq m l ≡ true → of_lane l (map (λ a. record { lane = m; access = a }) xs) ≡ xs
of_own l m [] e = refl
of_own l m (x ∷ xs) e = rw e (ap (λ zs. x ∷ zs) (of_own l m xs e))

of_other : (l m : ℕ) (xs : List Access) → nat_eq m l ≡ false → of_lane l (map (λ a. record { lane = m; access = a }) xs) ≡ []
of_other l m [] e = refl
of_other l m (x ∷ xs) e = rw e (of_other l m xs e)

nothing_more : (xs : List Access) → xs ++ [] ≡ xs
nothing_more [] = refl
nothing_more (x ∷ xs) = ap (λ zs. x ∷ zs) (nothing_more xs)

module _ (i : Instr) (answers : ℕ → ℕ) (w : WarpState) where
  -- what a lane accesses
  abbrev pub own_accesses : ℕ → List Access
  own_accesses l = if has_lane w.mask l then access_of (answers l) (effect_in i w l) else []

  lane_own : (l m : ℕ) → nat_eq m l ≡ true → of_lane l (lane_accesses i answers w m) ≡ own_accesses m
  lane_own l m e =
      elim (has_lane w.mask m) as (λ b. of_lane l (if b then map (λ a. record { lane = m; access = a }) (access_of (answers m) (effect_in i w m)) else []) ≡ (if b then access_of (answers m) (effect_in i w m) else [])) [
        | true ↦ of_own l m (access_of (answers m) (effect_in i w m)) e
        | false ↦ refl
      ]

  lane_other : (l m : ℕ) → nat_eq m l ≡ false → of_lane l (lane_accesses i answers w m) ≡ []
  lane_other l m e =
      elim (has_lane w.mask m) as (λ b. of_lane l (if b then map (λ a. record { lane = m; access = a }) (access_of (answers m) (effect_in i w m)) else []) ≡ []) [
        | true ↦ of_other l m (access_of (answers m) (effect_in i w m)) e
        | false ↦ refl
      ]

  pub below_past : (n l : ℕ) → n ≤ l → of_lane l (accesses_below n i answers w) ≡ []
  unfolding accesses_below
  below_past zero l less = refl
  below_past (suc n) l less =
      of_both l (accesses_below n i answers w) (lane_accesses i answers w n)
      ∙ ap (λ xs. xs ++ of_lane l (lane_accesses i answers w n)) (below_past n l (omega (arith, less)))
      ∙ lane_other l n (ne_eqb n l (λ (e : n ≡ l). omega (arith, e, less)))

  one_further : (n l : ℕ) → (l < n → of_lane l (accesses_below n i answers w) ≡ own_accesses l) → l < suc n → (l < n) ⊎ (n ≤ l)
      → of_lane l (accesses_below n i answers w) ++ of_lane l (lane_accesses i answers w n) ≡ own_accesses l
  one_further n l before less (inl low) =
      ap (λ xs. xs ++ of_lane l (lane_accesses i answers w n)) (before low)
      ∙ ap (λ xs. own_accesses l ++ xs) (lane_other l n (ne_eqb n l (λ (e : n ≡ l). omega (arith, e, low)))) ∙ nothing_more (own_accesses l)
  one_further n l before less (inr high) =
      let same : n ≡ l = omega (arith, high, less) in
      ap (λ xs. xs ++ of_lane l (lane_accesses i answers w n)) (below_past n l high) ∙ lane_own l n (eq-eqb n l same) ∙ ap own_accesses same

  -- the accesses of a lane among those of all lanes below a number
  pub accesses_of : (n l : ℕ) → l < n → of_lane l (accesses_below n i answers w) ≡ own_accesses l
  unfolding accesses_below
  accesses_of zero l less = absurd (omega (arith, less))
  accesses_of (suc n) l less =
      of_both l (accesses_below n i answers w) (lane_accesses i answers w n)
      ∙ one_further n l (λ low. accesses_of n l low) less (cases_lt l n)

  -- ---- registers

  module _ (ids : Ids) (n l : ℕ) where
    pub acted_active : l < n → has_lane w.mask l ≡ true → acted_below n ids i answers w l ≡ registers_after ids w.mask l (answers l) (effect_in i w l) (w.registers l)
    acted_active less active = let low = lt-ltb l n less in rw low (rw active refl)

    pub acted_idle : has_lane w.mask l ≡ false → acted_below n ids i answers w l ≡ w.registers l
    acted_idle idle =
        elim (nat_lt l n) as (λ b. (if b && has_lane w.mask l then registers_after ids w.mask l (answers l) (effect_in i w l) (w.registers l) else w.registers l) ≡ w.registers l) [
          | true ↦ rw idle refl
          | false ↦ refl
        ]

  -- ---- the step

  module _ (has : Fields) (ids : Ids) (small : w.mask < 2 ^ 32)
      (fine : (l : ℕ) → l < 32 → has_lane w.mask l ≡ true → fault_of has w.pc (choice_of (effect_in i w (leader w.mask))) (effect_in i w l) ≡ None) where
    no_fault : (l : ℕ) → l < 32 → lane_fault has i w l ≡ None
    no_fault l less = by (has_lane w.mask l) refl where
      by : (b : Bool) → has_lane w.mask l ≡ b → (if b then fault_of has w.pc (choice_of (effect_in i w (leader w.mask))) (effect_in i w l) else None) ≡ None
      by true e = fine l less e
      by false e = refl

    none_stops : stop_lane has i w ≡ 32
    none_stops = least_below-none 32 (λ l. is_some (lane_fault has i w l)) (λ l less. ap is_some (no_fault l less))

    none_behind : lane_fault has i w 32 ≡ None
    none_behind = rw (has_lane-above w.mask 32 small (omega arith)) refl

    pub lanes_go : lanes_step has ids i answers w
        ≡ record { warp = record w { pc = leads_to w.pc (effect_in i w (leader w.mask)); registers = acted_below 32 ids i answers w }; accesses = accesses_below 32 i answers w; outcome = step.Next }
    lanes_go =
        ap (λ n. lanes_stepped ids i answers w n (lane_fault has i w n)) none_stops ∙ ap (λ fault. lanes_stepped ids i answers w 32 fault) none_behind
