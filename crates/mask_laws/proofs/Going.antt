-- What an operation that each active lane does by itself makes of a warp: no register is written, or one.
use Rattle.std.proofs.Common.{◌≡◌, ◌≢◌, ℕ, ◌^◌, ◌<◌, inl, inr, Bool, true, false, nat_eq, if◌then◌else◌, List, refl, ap, sym, ◌∙◌, subst, eqb-true, eq-eqb}
use Rattle.item_acts.specs.Launches.{put_at}
use Rattle.kir.specs.Machine.{value}
use Rattle.kir.specs.Trees.{Operand, VariableOf, NumberOf}
use Rattle.vx_isa.specs.Warps.{has_lane, leader}
use Rattle.vcode.specs.Code.{VOp}
use Rattle.warp_code.specs.Warps.{VLane, VWarp, chooses, lanes_step}
use Rattle.mask_laws.proofs.Sets.{In, Out, which, clash, leader_in, all_go}
use Rattle.mask_laws.specs.Spots.{Frame, Shape, Spot}
use Rattle.mask_laws.proofs.Frames.{HeldBy, Clear, Whole, Turned, Uniform, InvAt, Inv}
use Rattle.mask_laws.specs.Labels.{agrees}
use Rattle.mask_laws.proofs.Fits.{LeadsOn, Fine}
use Rattle.mask_laws.proofs.FrameLaws.{held_moves, all_kept, clear_kept, whole_all, arrives}

-- active lanes that agree in an operand have one value of it
pub agree_value : (ag : ℕ → Bool) (mask : ℕ) (vs : ℕ → VLane) (a : Operand) → Uniform ag mask vs → agrees ag a ≡ true
    → (l l' : ℕ) → In mask l → In mask l' → value (vs l).registers a ≡ value (vs l').registers a
agree_value ag mask vs (VariableOf r) agreed e l l' is_in is_in' = agreed r e l l' is_in is_in'
agree_value ag mask vs (NumberOf n) agreed e l l' is_in is_in' = refl

abbrev pub lane_at : ℕ → (ℕ → ℕ) → List ℕ → VLane
lane_at p rs ts = record { place = p; registers = rs; turns = ts }

put_here : (d r v : ℕ) (f : ℕ → ℕ) → nat_eq r d ≡ true → put_at d v f r ≡ v
put_here d r v f e = ap (λ b. if b then v else f r) e

put_there : (d r v : ℕ) (f : ℕ → ℕ) → nat_eq r d ≡ false → put_at d v f r ≡ f r
put_there d r v f e = ap (λ b. if b then v else f r) e

put_bool_here : (d r : ℕ) (v : Bool) (f : ℕ → Bool) → nat_eq r d ≡ true → put_at d v f r ≡ v
put_bool_here d r v f e = ap (λ b. if b then v else f r) e

put_bool_there : (d r : ℕ) (v : Bool) (f : ℕ → Bool) → nat_eq r d ≡ false → put_at d v f r ≡ f r
put_bool_there d r v f e = ap (λ b. if b then v else f r) e

not_equal : (r d : ℕ) → r ≢ d → nat_eq r d ≡ false
not_equal r d ne = elim (which (nat_eq r d)) [
  | inl e ↦ absurd (ne (eqb-true r d e))
  | inr e ↦ e
]

module _ (spots : ℕ → Spot) (uni : ℕ → Bool) (all : ℕ) (w : VWarp) (vs : ℕ → VLane) (stay : (l : ℕ) → Out w.mask l → vs l ≡ w.lanes l) where
  -- ---- no register is written

  -- each lane has the registers that it had, where active lanes have come to places of their own and numbers of turns of their own
  pub kept_registers : (place : ℕ → ℕ) (turns : ℕ → List ℕ) → ((l : ℕ) → In w.mask l → vs l ≡ lane_at (place l) (w.lanes l).registers (turns l)) → (l : ℕ) → (vs l).registers ≡ (w.lanes l).registers
  kept_registers place turns ins l = elim (which (has_lane w.mask l)) [
    | inl is_in ↦ ap (λ v. v.registers) (ins l is_in)
    | inr is_out ↦ ap (λ v. v.registers) (stay l is_out)
  ]

  pub kept_uniform : (some : ℕ → Bool) (lanes : ℕ) → ((l : ℕ) → (vs l).registers ≡ (w.lanes l).registers) → Uniform some lanes w.lanes → Uniform some lanes vs
  kept_uniform some lanes same uniform r e l l' is_in is_in' = ap (λ f. f r) (same l) ∙ uniform r e l l' is_in is_in' ∙ sym (ap (λ f. f r) (same l'))

  -- all active lanes come to a place, and write no register
  pub rests : (ag : ℕ → Bool) (sh : Shape) (q : ℕ) (turns : ℕ → List ℕ) (fs : List Frame) (ts : List ℕ) → InvAt uni all ag sh w
      → ((l : ℕ) → In w.mask l → vs l ≡ lane_at q (w.lanes l).registers (turns l)) → ((l : ℕ) → In w.mask l → turns l ≡ ts)
      → LeadsOn spots ag fs q → HeldBy w.lanes all fs w.mask w.stack ts → Inv spots uni all (record { place = q; mask = w.mask; lanes = vs; stack = w.stack })
  rests ag sh q turns fs ts inv ins turned leads held =
      let same : (l : ℕ) → (vs l).registers ≡ (w.lanes l).registers = kept_registers (λ l. q) turns ins in
      arrives spots uni all ag fs q w.mask vs w.stack ts leads inv.small inv.some (λ l is_in. ap (λ v. v.place) (ins l is_in)) (kept_uniform uni all same inv.uniform) (kept_uniform ag w.mask same inv.agreed)
      (λ l is_in. ap (λ v. v.turns) (ins l is_in) ∙ turned l is_in) (held_moves w.lanes vs all fs w.mask w.stack ts stay (all_kept fs w.lanes vs (λ l r. ap (λ f. f r) (same l))) held)

  -- ---- a register is written

  module _ (d : ℕ) (val : ℕ → ℕ) (q : ℕ) (ins : (l : ℕ) → In w.mask l → vs l ≡ lane_at q (put_at d (val l) (w.lanes l).registers) (w.lanes l).turns) where
    pub others_kept : (l r : ℕ) → r ≢ d → (vs l).registers r ≡ (w.lanes l).registers r
    others_kept l r ne = elim (which (has_lane w.mask l)) [
      | inl is_in ↦ ap (λ v. v.registers r) (ins l is_in) ∙ put_there d r (val l) (w.lanes l).registers (not_equal r d ne)
      | inr is_out ↦ ap (λ v. v.registers r) (stay l is_out)
    ]

    others_kept' : (l r : ℕ) → nat_eq r d ≡ false → (vs l).registers r ≡ (w.lanes l).registers r
    others_kept' l r ne = others_kept l r (λ e. clash (nat_eq r d) (eq-eqb r d e) ne)

    pub written : (l r : ℕ) → In w.mask l → nat_eq r d ≡ true → (vs l).registers r ≡ val l
    written l r is_in e = ap (λ v. v.registers r) (ins l is_in) ∙ put_here d r (val l) (w.lanes l).registers e

    module _ (same : Bool) (alike : same ≡ true → (l l' : ℕ) → In w.mask l → In w.mask l' → val l ≡ val l') where
      pub put_agreed : (ag : ℕ → Bool) → Uniform ag w.mask w.lanes → Uniform (put_at d same ag) w.mask vs
      put_agreed ag agreed r e l l' is_in is_in' = elim (which (nat_eq r d)) [
        | inl here ↦
            written l r is_in here ∙ alike (sym (put_bool_here d r same ag here) ∙ e) l l' is_in is_in' ∙ sym (written l' r is_in' here)
        | inr there ↦
            others_kept' l r there ∙ agreed r (sym (put_bool_there d r same ag there) ∙ e) l l' is_in is_in' ∙ sym (others_kept' l' r there)
      ]

      pub put_uniform : (uni d ≡ true → (w.mask ≡ all) × (same ≡ true)) → Uniform uni all w.lanes → Uniform uni all vs
      put_uniform marked uniform r e l l' is_in is_in' = elim (which (nat_eq r d)) [
        | inl here ↦ of_marked here (marked (ap uni (sym (eqb-true r d here)) ∙ e))
        | inr there ↦ others_kept' l r there ∙ uniform r e l l' is_in is_in' ∙ sym (others_kept' l' r there)
      ] where
        of_marked : nat_eq r d ≡ true → (w.mask ≡ all) × (same ≡ true) → (vs l).registers r ≡ (vs l').registers r
        of_marked here m =
            let active : In w.mask l = subst (λ n. In n l) (sym m.0) is_in in
            let active' : In w.mask l' = subst (λ n. In n l') (sym m.0) is_in' in
            written l r active here ∙ alike m.1 l l' active active' ∙ sym (written l' r active' here)

      -- all active lanes come to a place, and write a register that keeps no loop's lanes
      pub writes_there : (ag : ℕ → Bool) (sh : Shape) (fs : List Frame) (ts : List ℕ) → InvAt uni all ag sh w
          → Clear d fs → (uni d ≡ true → Whole fs × (same ≡ true)) → LeadsOn spots (put_at d same ag) fs q → Turned w.lanes w.mask ts → HeldBy w.lanes all fs w.mask w.stack ts
          → Inv spots uni all (record { place = q; mask = w.mask; lanes = vs; stack = w.stack })
      writes_there ag sh fs ts inv clear marked leads turned held =
          arrives spots uni all (put_at d same ag) fs q w.mask vs w.stack ts leads inv.small inv.some (λ l is_in. ap (λ v. v.place) (ins l is_in))
          (put_uniform (λ e. (whole_all w.lanes all fs w.mask w.stack ts (marked e).0 held, (marked e).1)) inv.uniform) (put_agreed ag inv.agreed)
          (λ l is_in. ap (λ v. v.turns) (ins l is_in) ∙ turned l is_in) (held_moves w.lanes vs all fs w.mask w.stack ts stay (clear_kept d fs w.lanes vs clear others_kept) held)

  -- ---- the outcome

  -- where all active lanes choose alike and have come to one place, the warp is there
  pub goes : (op op' : VOp) (b : Bool) (q : ℕ) → ((l : ℕ) → In w.mask l → chooses op (w.lanes l).registers ≡ b) → w.mask < 2 ^ 32 → 0 < w.mask
      → ((l : ℕ) → In w.mask l → (vs l).place ≡ q) → Inv spots uni all (record { place = q; mask = w.mask; lanes = vs; stack = w.stack })
      → Fine spots uni all op' w (lanes_step op vs w)
  goes op op' b q alike small some places inv =
      let first : In w.mask (leader w.mask) = leader_in w.mask some small in
      subst (λ s. Fine spots uni all op' w s) (sym (all_go op vs w b alike first))
      (subst (λ p. Inv spots uni all (record { place = p; mask = w.mask; lanes = vs; stack = w.stack })) (sym (places (leader w.mask) first)) inv)
