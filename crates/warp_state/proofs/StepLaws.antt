-- From what the lanes have done to the step that it is.
use Rattle.std.proofs.Common.{◌≡◌, ℕ, zero, suc, ◌<◌, ◌^◌, ◌++◌, List, Some, None, is_some, ap, sym, ◌∙◌, subst, arith, refl}
use Rattle.vx_isa.specs.Warps.{Registers, WarpState, leader}
use Rattle.vx_isa.specs.WarpSteps.{Access, LaneAccess, Fields, Stepped, Makes, Takes, effect_in, leads_to, lane_fault, lane_accesses, stop_lane, accesses_below, lanes_stepped, lanes_step}
use Rattle.vx_isa.specs.declared.instr.Instr.{Instr}
use Rattle.vx_isa.specs.declared.instr.LaneEffect.{LaneEffect}
use Rattle.vx_isa.specs.declared.warps.Held.{Held}
use Rattle.vx_isa.specs.declared.warps.Ids.{Ids}
use Rattle.vx_isa.specs.declared.warps.MachineTrap.{MachineTrap}
use Rattle.vx_isa.specs.declared.warps.Step.{Step}
use Rattle.vx_isa.specs.declared.warps.Step.TheVariants as step
use Rattle.vx_isa.proofs.MaskLaws.{least_below-found, least_below-none, has_lane-above}
use Rattle.warp_state.specs.Acts.{HaveActed, HaveStopped, Leaves, effect_at}
use Rattle.warp_state.specs.declared.lanes.Stop.{Stop}

-- the warp with another stack
abbrev pub with_stack : List Held → WarpState → WarpState
with_stack stack w = record { pc = w.pc; mask = w.mask; registers = w.registers; stack = stack }

-- the stack does not matter to what the lanes do
accesses_below-stack : (n : ℕ) (i : Instr) (a : ℕ → ℕ) (w : WarpState) (stack : List Held) → accesses_below n i a w ≡ accesses_below n i a (with_stack stack w)
unfolding accesses_below effect_in
accesses_below-stack zero i a w stack = refl
accesses_below-stack (suc n) i a w stack = ap (λ (xs : List LaneAccess). xs ++ lane_accesses i a w n) (accesses_below-stack n i a w stack)

pub HaveActed-stack : {M : Type 0} (acts : M → Access → M → Type 0) (has : Fields) (ids : Ids) (i : Instr) (w : WarpState) (m : M) (n : ℕ) (registers : ℕ → Registers) (m' : M) (stack : List Held) → HaveActed acts has ids i w m n registers m' → HaveActed acts has ids i (with_stack stack w) m n registers m'
unfolding effect_in
HaveActed-stack acts has ids i w m n registers m' stack acted = record {
  answers = acted.answers;
  made = λ a same. subst (λ (xs : List LaneAccess). Makes acts m xs m') (accesses_below-stack n i a w stack) (acted.made a same);
  registers_are = acted.registers_are;
  no_fault = acted.no_fault;
}

pub HaveStopped-stack : {M : Type 0} (acts : M → Access → M → Type 0) (has : Fields) (ids : Ids) (i : Instr) (w : WarpState) (m : M) (stop : Stop) (registers : ℕ → Registers) (m' : M) (stack : List Held) → HaveStopped acts has ids i w m stop registers m' → HaveStopped acts has ids i (with_stack stack w) m stop registers m'
unfolding effect_in
HaveStopped-stack acts has ids i w m stop registers m' stack stopped = record {
  below = HaveActed-stack acts has ids i w m stop.lane registers m' stack stopped.below;
  is_lane = stopped.is_lane;
  fault_is = stopped.fault_is;
}

-- where no lane has a cause to trap, all have acted
step_of_all : (has : Fields) (ids : Ids) (i : Instr) (a : ℕ → ℕ) (w : WarpState) → w.mask < 2 ^ 32 → ((lane : ℕ) → lane < 32 → lane_fault has i w lane ≡ None) → lanes_step has ids i a w ≡ lanes_stepped ids i a w 32 None
step_of_all has ids i a w below none =
    let stop : stop_lane has i w ≡ 32 = least_below-none 32 (λ lane. is_some (lane_fault has i w lane)) (λ lane less. ap is_some (none lane less)) in
    let past : lane_fault has i w 32 ≡ None = rw (has_lane-above w.mask 32 below (omega arith)) refl in
    ap (λ (n : ℕ). lanes_stepped ids i a w n (lane_fault has i w n)) stop ∙ ap (lanes_stepped ids i a w 32) past

-- the lane that traps
step_of_stop : (has : Fields) (ids : Ids) (i : Instr) (a : ℕ → ℕ) (w : WarpState) (lane : ℕ) (fault : MachineTrap) → lane < 32 → ((l : ℕ) → l < lane → lane_fault has i w l ≡ None) → lane_fault has i w lane ≡ Some fault → lanes_step has ids i a w ≡ lanes_stepped ids i a w lane (Some fault)
step_of_stop has ids i a w lane fault is_lane none fault_is =
    let stop : stop_lane has i w ≡ lane = least_below-found 32 (λ l. is_some (lane_fault has i w l)) lane is_lane (λ l less. ap is_some (none l less)) (ap is_some fault_is) in
    ap (λ (n : ℕ). lanes_stepped ids i a w n (lane_fault has i w n)) stop ∙ ap (lanes_stepped ids i a w lane) fault_is

-- all active lanes have acted, and the warp goes where the least of them goes
pub acted_takes : {M : Type 0} (acts : M → Access → M → Type 0) (has : Fields) (ids : Ids) (i : Instr) (w : WarpState) (m : M) (registers : ℕ → Registers) (m' : M) → w.mask < 2 ^ 32 → HaveActed acts has ids i w m 32 registers m' →
    (pc : ℕ) → pc ≡ leads_to w.pc (effect_in i w (leader w.mask)) →
    Takes acts (λ a. lanes_step has ids i a w) m step.Next (record { pc = pc; mask = w.mask; registers = registers; stack = w.stack }) m'
acted_takes acts has ids i w m registers m' below acted pc pc_is =
    let a = acted.answers in
    let eq : lanes_step has ids i a w ≡ lanes_stepped ids i a w 32 None = step_of_all has ids i a w below acted.no_fault in
    let moved : WarpState = record { pc = leads_to w.pc (effect_in i w (leader w.mask)); mask = w.mask; registers = registers; stack = w.stack } in
    let goes : record { pc = pc; mask = w.mask; registers = registers; stack = w.stack } ≡ moved = ap (λ (p : ℕ). record { pc = p; mask = w.mask; registers = registers; stack = w.stack }) pc_is in
    let has_acted : moved ≡ (lanes_stepped ids i a w 32 None).warp =
    ap (λ (r : ℕ → Registers). record { pc = leads_to w.pc (effect_in i w (leader w.mask)); mask = w.mask; registers = r; stack = w.stack }) (acted.registers_are a (λ l less. refl)) in
    record {
      answers = a;
      made = subst (λ (s : Stepped). Makes acts m s.accesses m') (sym eq) (acted.made a (λ l less. refl));
      warp_is = goes ∙ has_acted ∙ ap (λ (s : Stepped). s.warp) (sym eq);
      outcome_is = ap (λ (s : Stepped). s.outcome) (sym eq);
    }

-- an active lane has trapped
pub stopped_takes : {M : Type 0} (acts : M → Access → M → Type 0) (has : Fields) (ids : Ids) (i : Instr) (w : WarpState) (m : M) (stop : Stop) (registers : ℕ → Registers) (m' : M) → HaveStopped acts has ids i w m stop registers m' →
    Takes acts (λ a. lanes_step has ids i a w) m (step.Trap stop.fault stop.lane w.pc) (record { pc = w.pc; mask = w.mask; registers = registers; stack = w.stack }) m'
stopped_takes acts has ids i w m stop registers m' stopped =
    let acted = stopped.below in
    let a = acted.answers in
    let eq : lanes_step has ids i a w ≡ lanes_stepped ids i a w stop.lane (Some stop.fault) = step_of_stop has ids i a w stop.lane stop.fault stopped.is_lane acted.no_fault stopped.fault_is in
    let has_acted : record { pc = w.pc; mask = w.mask; registers = registers; stack = w.stack } ≡ (lanes_stepped ids i a w stop.lane (Some stop.fault)).warp =
    ap (λ (r : ℕ → Registers). record { pc = w.pc; mask = w.mask; registers = r; stack = w.stack }) (acted.registers_are a (λ l less. refl)) in
    record {
      answers = a;
      made = subst (λ (s : Stepped). Makes acts m s.accesses m') (sym eq) (acted.made a (λ l less. refl));
      warp_is = has_acted ∙ ap (λ (s : Stepped). s.warp) (sym eq);
      outcome_is = ap (λ (s : Stepped). s.outcome) (sym eq);
    }

-- a step without accesses, whatever is answered
pub leaves_takes : {M : Type 0} (acts : M → Access → M → Type 0) (stepped : (ℕ → ℕ) → Stepped) (left : Stepped) (m : M) (outcome : Step) (w' : WarpState) → ((a : ℕ → ℕ) → left ≡ stepped a) → Leaves left outcome w' → Takes acts stepped m outcome w' m
leaves_takes acts stepped left m outcome w' same leaves =
    let answers : ℕ → ℕ = λ lane. 0 in
    record {
      answers = answers;
      made = subst (λ (s : Stepped). Makes acts m s.accesses m) (same answers) (subst (λ (xs : List LaneAccess). Makes acts m xs m) (sym leaves.no_access) refl);
      warp_is = leaves.warp_is ∙ ap (λ (s : Stepped). s.warp) (same answers);
      outcome_is = leaves.outcome_is ∙ ap (λ (s : Stepped). s.outcome) (same answers);
    }

-- what the instruction is to the least active lane
pub leader_effect : (i : Instr) (w : WarpState) (lane : ℕ) (did : LaneEffect) → lane ≡ leader w.mask → did ≡ effect_at i w.pc (w.registers lane) → did ≡ effect_in i w (leader w.mask)
unfolding effect_in
leader_effect i w lane did lane_is did_is = subst (λ (l : ℕ). did ≡ effect_in i w l) lane_is did_is
