-- The active lanes of a warp do an instruction one after another.
use Rattle.std.proofs.Common.{◌≡◌, ℕ, suc, ◌<◌, ◌≤◌, true, false, nat_eq, if◌then◌else◌, List, [], ◌∷◌, ◌++◌, Some, None, inl, inr, ap, sym, ◌∙◌, subst, arith, refl, lt-ltb, le-ltb, eq-eqb, ne_eqb}
use Rattle.std.proofs.Math.Path.{fun_ext}
use Rattle.std.proofs.lemmas.Bool.{cases_lt, cases_eq}
use Rattle.vx_isa.specs.Warps.{Registers, WarpState, has_lane, leader}
use Rattle.vx_isa.specs.WarpSteps.{Access, LaneAccess, Fields, Makes, choice_of, fault_of, effect_in, registers_after, lane_fault, lane_accesses, acted_below, accesses_below}
use Rattle.vx_isa.specs.declared.instr.Instr.{Instr}
use Rattle.vx_isa.specs.declared.warps.Ids.{Ids}
use Rattle.warp_state.specs.Acts.{HasActed, HasTrapped, HaveActed, HaveStopped, effect_at}
use Rattle.warp_state.specs.declared.lanes.Stop.{Stop}

-- accesses, and then further ones
pub Makes-append : {M : Type 0} (acts : M → Access → M → Type 0) (first later : List LaneAccess) (m m' m'' : M) → Makes acts m first m' → Makes acts m' later m'' → Makes acts m (first ++ later) m''
Makes-append {M} acts [] later m m' m'' same made = subst (λ (n : M). Makes acts n later m'') same made
Makes-append acts (a ∷ rest) later m m' m'' made more =
    (made.0, made.1, Makes-append acts rest later made.0 m' m'' made.2 more)

-- before the first lane
pub none_acted : {M : Type 0} (acts : M → Access → M → Type 0) (has : Fields) (ids : Ids) (i : Instr) (w : WarpState) (m : M) → HaveActed acts has ids i w m 0 w.registers m
unfolding accesses_below
none_acted acts has ids i w m = record {
  answers = λ lane. 0;
  made = λ a same. refl;
  registers_are = λ a same. fun_ext (λ lane. rw (le-ltb lane 0 (omega arith)) refl);
  no_fault = λ lane less. let none : ⊥ = omega arith in absurd none;
}

-- answers with one at a lane
with_answer : ℕ → ℕ → (ℕ → ℕ) → ℕ → ℕ
with_answer lane answer answers = λ l. if nat_eq l lane then answer else answers l

with_answer-same : (lane answer : ℕ) (answers : ℕ → ℕ) → with_answer lane answer answers lane ≡ answer
unfolding with_answer
with_answer-same lane answer answers = rw (eq-eqb lane lane refl) refl

with_answer-other : (lane answer : ℕ) (answers : ℕ → ℕ) (l : ℕ) → l < lane → with_answer lane answer answers l ≡ answers l
unfolding with_answer
with_answer-other lane answer answers l less = rw (ne_eqb l lane (λ same. omega arith)) refl

-- the registers of a lane once it has acted, or where it is not active
abbrev pub lane_after : Ids → Instr → WarpState → ℕ → ℕ → Registers
lane_after ids i w lane answer =
    if has_lane w.mask lane then registers_after ids w.mask lane answer (effect_in i w lane) (w.registers lane) else w.registers lane

-- registers of lane l, of which the lanes below k have acted: what one more lane changes
at_lane : (ids : Ids) (i : Instr) (a : ℕ → ℕ) (w : WarpState) (k : ℕ) → lane_after ids i w k (a k) ≡ acted_below (suc k) ids i a w k
at_lane ids i a w k = rw (lt-ltb k (suc k) (omega arith)) refl

at_other : (ids : Ids) (i : Instr) (a : ℕ → ℕ) (w : WarpState) (k l : ℕ) → (l ≡ k → ⊥) → acted_below k ids i a w l ≡ acted_below (suc k) ids i a w l
at_other ids i a w k l other =
    elim (cases_lt l k) [
      | inl below ↦ rw (lt-ltb l k below, lt-ltb l (suc k) (omega arith)) refl
      | inr above ↦ rw (le-ltb l k above, le-ltb l (suc k) (omega arith)) refl
    ]

-- lanes that have not acted have their registers
pub not_yet_acted : (ids : Ids) (i : Instr) (a : ℕ → ℕ) (w : WarpState) (k l : ℕ) → k ≤ l → acted_below k ids i a w l ≡ w.registers l
not_yet_acted ids i a w k l above = rw (le-ltb l k above) refl

-- one lane more
pub one_more_acted : {M : Type 0} (acts : M → Access → M → Type 0) (has : Fields) (ids : Ids) (i : Instr) (w : WarpState) (m : M) (k : ℕ) (registers : ℕ → Registers) (m' : M) → HaveActed acts has ids i w m k registers m' →
    (answer : ℕ) (registers' : ℕ → Registers) (m'' : M) → Makes acts m' (lane_accesses i (λ lane. answer) w k) m'' →
    registers' k ≡ lane_after ids i w k answer → ((l : ℕ) → (l ≡ k → ⊥) → registers' l ≡ registers l) →
    lane_fault has i w k ≡ None → HaveActed acts has ids i w m (suc k) registers' m''
unfolding accesses_below
one_more_acted acts has ids i w m k registers m' acted answer registers' m'' made here there no_fault =
    let below : (a : ℕ → ℕ) → ((l : ℕ) → l < suc k → a l ≡ with_answer k answer acted.answers l) → (l : ℕ) → l < k → a l ≡ acted.answers l =
    λ a same l less. same l (omega arith) ∙ with_answer-other k answer acted.answers l less in
    let at : (a : ℕ → ℕ) → ((l : ℕ) → l < suc k → a l ≡ with_answer k answer acted.answers l) → a k ≡ answer =
    λ a same. same k (omega arith) ∙ with_answer-same k answer acted.answers in
    record {
      answers = with_answer k answer acted.answers;
      made = λ a same.
          Makes-append acts (accesses_below k i a w) (lane_accesses i a w k) m m' m'' (acted.made a (below a same))
          (subst (λ (v : ℕ). Makes acts m' (lane_accesses i (λ lane. v) w k) m'') (sym (at a same)) made);
      registers_are = λ a same. fun_ext (λ l.
          elim (cases_eq l k) [
            | inl equal ↦
                subst (λ (n : ℕ). registers' n ≡ acted_below (suc k) ids i a w n) (sym equal)
                (here ∙ ap (lane_after ids i w k) (sym (at a same)) ∙ at_lane ids i a w k)
            | inr other ↦
                there l other ∙ ap (λ (r : ℕ → Registers). r l) (acted.registers_are a (below a same)) ∙ at_other ids i a w k l other
          ]);
      no_fault = λ l less.
          elim (cases_eq l k) [
            | inl equal ↦ subst (λ (n : ℕ). lane_fault has i w n ≡ None) (sym equal) no_fault
            | inr other ↦ acted.no_fault l (omega arith)
          ];
    }

-- a lane that has not acted has its registers
own_registers : {M : Type 0} {acts : M → Access → M → Type 0} {has : Fields} {ids : Ids} {i : Instr} {w : WarpState} {m : M} {k : ℕ} {registers : ℕ → Registers} {m' : M} → HaveActed acts has ids i w m k registers m' → registers k ≡ w.registers k
own_registers {ids = ids} {i = i} {w = w} {k = k} acted =
    ap (λ (r : ℕ → Registers). r k) (acted.registers_are acted.answers (λ l less. refl)) ∙ not_yet_acted ids i acted.answers w k k (omega arith)

-- the next lane is active, and does its effect
pub active_acted : {M : Type 0} (acts : M → Access → M → Type 0) (has : Fields) (ids : Ids) (i : Instr) (w : WarpState) (m : M) (k : ℕ) (registers : ℕ → Registers) (m' : M) → HaveActed acts has ids i w m k registers m' →
    (chosen : ℕ) → chosen ≡ choice_of (effect_in i w (leader w.mask)) → true ≡ has_lane w.mask k → (registers' : ℕ → Registers) (m'' : M) →
    HasActed acts has ids w.mask k w.pc chosen (effect_at i w.pc (registers k)) (registers k) m' (registers' k) m'' →
    ((l : ℕ) → (l ≡ k → ⊥) → registers' l ≡ registers l) →
    HaveActed acts has ids i w m (suc k) registers' m''
unfolding effect_in
active_acted {M} acts has ids i w m k registers m' acted chosen chose is_active registers' m'' one others =
    let own : registers k ≡ w.registers k = own_registers acted in
    let P : Registers → Type 0 = λ r. HasActed acts has ids w.mask k w.pc chosen (effect_at i w.pc r) r m' (registers' k) m'' in
    let did : HasActed acts has ids w.mask k w.pc chosen (effect_at i w.pc (w.registers k)) (w.registers k) m' (registers' k) m'' = subst P own one in
    let no_fault : fault_of has w.pc (choice_of (effect_in i w (leader w.mask))) (effect_in i w k) ≡ None =
    subst (λ (c : ℕ). fault_of has w.pc c (effect_in i w k) ≡ None) chose did.no_fault in
    one_more_acted acts has ids i w m k registers m' acted did.answer registers' m''
    (rw (← is_active) did.made) (rw (← is_active) did.registers_are) others (rw (← is_active) no_fault)

-- the next lane is not active
pub idle_acted : {M : Type 0} (acts : M → Access → M → Type 0) (has : Fields) (ids : Ids) (i : Instr) (w : WarpState) (m : M) (k : ℕ) (registers : ℕ → Registers) (m' : M) → HaveActed acts has ids i w m k registers m' → false ≡ has_lane w.mask k → HaveActed acts has ids i w m (suc k) registers m'
idle_acted acts has ids i w m k registers m' acted is_idle =
    one_more_acted acts has ids i w m k registers m' acted 0 registers m'
    (rw (← is_idle) refl) (rw (← is_idle) (own_registers acted)) (λ l other. refl) (rw (← is_idle) refl)

-- the next lane is active, and traps
pub active_trapped : {M : Type 0} (acts : M → Access → M → Type 0) (has : Fields) (ids : Ids) (i : Instr) (w : WarpState) (m : M) (stop : Stop) (registers : ℕ → Registers) (m' : M) → HaveActed acts has ids i w m stop.lane registers m' → stop.lane < 32 →
    (chosen : ℕ) → chosen ≡ choice_of (effect_in i w (leader w.mask)) → true ≡ has_lane w.mask stop.lane → (registers' : ℕ → Registers) (m'' : M) →
    HasTrapped has w.pc chosen (effect_at i w.pc (registers stop.lane)) stop.fault (registers stop.lane) m' (registers' stop.lane) m'' →
    ((l : ℕ) → (l ≡ stop.lane → ⊥) → registers' l ≡ registers l) →
    HaveStopped acts has ids i w m stop registers' m''
unfolding effect_in
active_trapped {M} acts has ids i w m stop registers m' acted below chosen chose is_active registers' m'' one others =
    let own : registers stop.lane ≡ w.registers stop.lane = own_registers acted in
    let fault_is : fault_of has w.pc chosen (effect_at i w.pc (w.registers stop.lane)) ≡ Some stop.fault =
    subst (λ (r : Registers). fault_of has w.pc chosen (effect_at i w.pc r) ≡ Some stop.fault) own one.fault_is in
    let fault_is' : fault_of has w.pc (choice_of (effect_in i w (leader w.mask))) (effect_in i w stop.lane) ≡ Some stop.fault =
    subst (λ (c : ℕ). fault_of has w.pc c (effect_in i w stop.lane) ≡ Some stop.fault) chose fault_is in
    let same : registers ≡ registers' = fun_ext (λ l.
    elim (cases_eq l stop.lane) [
      | inl equal ↦ subst (λ (n : ℕ). registers n ≡ registers' n) (sym equal) (sym one.same_registers)
      | inr other ↦ sym (others l other)
    ]) in
    let kept : HaveActed acts has ids i w m stop.lane registers' m' =
    subst (λ (r : ℕ → Registers). HaveActed acts has ids i w m stop.lane r m') same acted in
    record {
      below = subst (λ (n : M). HaveActed acts has ids i w m stop.lane registers' n) (sym one.same_memory) kept;
      is_lane = below;
      fault_is = rw (← is_active) fault_is';
    }
