-- What each lane makes by itself, all lanes of a warp make together.
use Rattle.std.proofs.Common.{◌≡◌, ◌≢◌, ℕ, ◌+◌, ◌<◌, ◌≤◌, ◌⊎◌, inl, inr, cond, ltb, List, [], ◌∷◌, length, get_or, set, drop, Result, Ok, Err, refl, ap, sym, ◌∙◌, subst, arith, length-set}
use Rattle.std.specs.Result.{IsOk}
use Rattle.std.proofs.lemmas.Bool.{true≢false, cases_lt, cases_eq, cond-true, cond-false, lt-ltb, le-ltb}
use Rattle.std.proofs.lemmas.List.{get_or-set_same, get_or-set_other, get_or_default, drop_more, drop_all}
use Rattle.vx_isa.specs.declared.instr.Instr.{Instr}
use Rattle.vx_isa.specs.declared.instr.Instr.TheVariants.{Tmc}
use Rattle.first_kernels.specs.declared.warp.Lane.{Lane}
use Rattle.first_kernels.specs.declared.warp.WarpFault.{WarpFault}
use Rattle.first_kernels.specs.FirstLane.{Alone, Steps, Ends}
use Rattle.first_kernels.specs.FirstWarp.{idle, StandsAs, AllStandAs, Fits, StepAmongOthers, StepTogether, EndTogether}

-- the lanes below this one are one instruction further
abbrev pub mixed : ℕ → (ℕ → Alone) → (ℕ → Alone) → ℕ → Alone
mixed next after before lane = cond (ltb lane next) (after lane) (before lane)

-- where each lane by itself makes the instruction, the lanes below this one have made it
abbrev pub MidStep : Instr → List Lane → List ℕ → ℕ → List Lane → List ℕ → Type 0
MidStep i lanes memory next lanes' memory' =
    (items buffers : ℕ) (before after : ℕ → Alone) → Fits items buffers lanes memory →
    AllStandAs items buffers lanes memory before →
    ((lane : ℕ) → lane < items → Steps items buffers lane i (before lane) (after lane)) →
    Fits items buffers lanes' memory' × AllStandAs items buffers lanes' memory' (mixed next after before)

pub step_none : (i : Instr) (lanes : List Lane) (memory : List ℕ) → MidStep i lanes memory 0 lanes memory
step_none i lanes memory items buffers before after fits stand steps =
    (fits, λ lane below. rw (cond-false (ltb lane 0) (after lane) (before lane) (le-ltb lane 0 (omega arith))) (stand lane below))

-- one lane more is one instruction further, and each other lane as it was
mixed_here : (next : ℕ) (after before : ℕ → Alone) → mixed next after before next ≡ before next
mixed_here next after before = cond-false (ltb next next) (after next) (before next) (le-ltb next next (omega arith))

mixed_more_here : (next : ℕ) (after before : ℕ → Alone) → mixed (next + 1) after before next ≡ after next
mixed_more_here next after before = cond-true (ltb next (next + 1)) (after next) (before next) (lt-ltb next (next + 1) (omega arith))

mixed_more_other : (next : ℕ) (after before : ℕ → Alone) (lane : ℕ) → lane ≢ next → mixed (next + 1) after before lane ≡ mixed next after before lane
mixed_more_other next after before lane other =
    elim (cases_lt lane next) [
      | inl less ↦
          cond-true (ltb lane (next + 1)) (after lane) (before lane) (lt-ltb lane (next + 1) (omega arith))
          ∙ sym (cond-true (ltb lane next) (after lane) (before lane) (lt-ltb lane next less))
      | inr more ↦
          cond-false (ltb lane (next + 1)) (after lane) (before lane) (le-ltb lane (next + 1) (omega arith))
          ∙ sym (cond-false (ltb lane next) (after lane) (before lane) (le-ltb lane next more))
    ]

-- the lane at this place makes the instruction
pub step_more : (i : Instr) (lanes : List Lane) (memory : List ℕ) (next : ℕ) (lanes' : List Lane) (memory' : List ℕ)
    (lane lane' : Lane) (memory'' : List ℕ) (result : Result Unit WarpFault) → MidStep i lanes memory next lanes' memory' →
    StepAmongOthers i next lane memory' result lane' memory'' → lane ≡ get_or lanes' next lane → next < length lanes →
    length memory'' ≡ length memory' →
    (items buffers : ℕ) (before after : ℕ → Alone) → Fits items buffers lanes memory → AllStandAs items buffers lanes memory before →
    ((lane : ℕ) → lane < items → Steps items buffers lane i (before lane) (after lane)) →
    IsOk result × (Fits items buffers (set lanes' next lane') memory'' × AllStandAs items buffers (set lanes' next lane') memory'' (mixed (next + 1) after before))
step_more i lanes memory next lanes' memory' lane lane' memory'' result mid makes is_lane is_next same_length items buffers before after fits stand steps =
    let now = mid items buffers before after fits stand steps in
    let below : next < items = let e = fits.one_each in omega arith in
    let within : next < length lanes' = let e = now.0.one_each in omega arith in
    let here : get_or lanes' next idle ≡ lane = get_or_default lanes' next idle lane within ∙ sym is_lane in
    let stood : StandsAs items buffers next lane.registers memory' (before next) =
    let at = now.1 next below in
    let P : Lane → Type 0 = λ l. StandsAs items buffers next l.registers memory' (before next) in
    let Q : Alone → Type 0 = λ s. StandsAs items buffers next (get_or lanes' next idle).registers memory' s in
    subst P here (subst Q (mixed_here next after before) at) in
    let made = makes items buffers (before next) (after next) below now.0.whole stood (steps next below) in
    let P : ℕ → Type 0 = λ j. StandsAs items buffers j (get_or (set lanes' next lane') j idle).registers memory'' (mixed (next + 1) after before j) in
    let own : P next =
    let Q : Lane → Type 0 = λ l. StandsAs items buffers next l.registers memory'' (mixed (next + 1) after before next) in
    let R : Alone → Type 0 = λ s. StandsAs items buffers next lane'.registers memory'' s in
    subst Q (sym (get_or-set_same lanes' next lane' idle within)) (subst R (sym (mixed_more_here next after before)) made.1) in
    let another : (j : ℕ) → j < items → j ≢ next → P j =
    λ j is_lane other.
    let stood = now.1 j is_lane in
    let Q : Lane → Type 0 = λ l. StandsAs items buffers j l.registers memory'' (mixed (next + 1) after before j) in
    let R : Alone → Type 0 = λ s. StandsAs items buffers j (get_or lanes' j idle).registers memory'' s in
    subst Q (sym (get_or-set_other lanes' next j lane' idle other))
    (subst R (sym (mixed_more_other next after before j other))
    (record { values = stood.values; elements = λ b is_buffer. made.2 j b other is_lane is_buffer ∙ stood.elements b is_buffer })) in (
      made.0,
      (
        record { some = fits.some; one_each = length-set lanes' next lane' ∙ now.0.one_each; whole = same_length ∙ now.0.whole },
        λ j is_lane. elim (cases_eq j next) [ inl same ↦ subst P (sym same) own | inr other ↦ another j is_lane other ],
      ),
    )

-- once the last lane has made the instruction, all have
pub step_all : (i : Instr) (lanes : List Lane) (memory : List ℕ) (next : ℕ) (lanes' : List Lane) (memory' : List ℕ) →
    MidStep i lanes memory next lanes' memory' → length lanes ≤ next → StepTogether i lanes memory (Ok tt) lanes' memory'
step_all i lanes memory next lanes' memory' mid is_end items buffers before after fits stand steps =
    let now = mid items buffers before after fits stand steps in (
      refl,
      λ lane below.
          let less : lane < next = let e = fits.one_each in omega arith in
          let Q : Alone → Type 0 = λ s. StandsAs items buffers lane (get_or lanes' lane idle).registers memory' s in
          subst Q (cond-true (ltb lane next) (after lane) (before lane) (lt-ltb lane next less)) (now.1 lane below),
    )

-- a result is not both Ok and an error
pub not_both : (result : Result Unit WarpFault) (fault : WarpFault) → IsOk result → result ≡ Err fault → ⊥
not_both (Ok x) fault is_ok is_err = cc
not_both (Err x) fault is_ok is_err = true≢false (sym is_ok)

-- where for each lane there is a state, there is a function to them
abbrev picked : (n : ℕ) (P : ℕ → Alone → Type 0) → Alone → ((lane : ℕ) → lane < n → (m : Alone) × P lane m) → (lane : ℕ) → (lane < n) ⊎ (n ≤ lane) → Alone
picked n P other each lane (inl below) = (each lane below).0
picked n P other each lane (inr above) = other

picked_is : (n : ℕ) (P : ℕ → Alone → Type 0) (other : Alone) (each : (lane : ℕ) → lane < n → (m : Alone) × P lane m) (lane : ℕ) (side : (lane < n) ⊎ (n ≤ lane)) →
    lane < n → P lane (picked n P other each lane side)
picked_is n P other each lane (inl below) is_lane = (each lane below).1
picked_is n P other each lane (inr above) is_lane = absurd (omega arith)

pub chosen : (n : ℕ) (P : ℕ → Alone → Type 0) → Alone → ((lane : ℕ) → lane < n → (m : Alone) × P lane m) →
    (f : ℕ → Alone) × ((lane : ℕ) → lane < n → P lane (f lane))
chosen n P other each =
    (λ lane. picked n P other each lane (cases_lt lane n), λ lane below. picked_is n P other each lane (cases_lt lane n) below)

-- the lanes stand somewhere from where each by itself comes to its end
pub record Halfway (items buffers : ℕ) (lanes : List Lane) (memory : List ℕ) (rest : List Instr) (after : ℕ → Alone) : Type 0 where
  pub now : ℕ → Alone
  pub stand : AllStandAs items buffers lanes memory now
  pub ends : (lane : ℕ) → lane < items → Ends items buffers lane rest (now lane) (after lane)

-- where each lane by itself comes to the end, all lanes together have made the instructions below this one
abbrev pub MidRun : List Instr → List Lane → List ℕ → ℕ → List Lane → List ℕ → Type 0
MidRun code lanes memory next lanes' memory' =
    (items buffers : ℕ) (before after : ℕ → Alone) → Fits items buffers lanes memory →
    AllStandAs items buffers lanes memory before →
    ((lane : ℕ) → lane < items → Ends items buffers lane code (before lane) (after lane)) →
    Fits items buffers lanes' memory' × Halfway items buffers lanes' memory' (drop next code) after

pub run_none : (code : List Instr) (lanes : List Lane) (memory : List ℕ) → MidRun code lanes memory 0 lanes memory
run_none code lanes memory items buffers before after fits stand ends = (fits, record { now = before; stand = stand; ends = ends })

-- an instruction that does not end the warp is stepped over
step_over : (items buffers lane : ℕ) (i : Instr) (more : List Instr) (s t : Alone) → Ends items buffers lane (i ∷ more) s t → (i ≡ Tmc 0 → ⊥) →
    (m : Alone) × (Steps items buffers lane i s m × Ends items buffers lane more m t)
step_over items buffers lane i more s t (inl stops) goes = absurd (goes stops.0)
step_over items buffers lane i more s t (inr steps) goes = (steps.0, (steps.1, steps.2))

-- and one that ends it leaves the lane as it is
stop_there : (items buffers lane : ℕ) (more : List Instr) (s t : Alone) → Ends items buffers lane (Tmc 0 ∷ more) s t → s ≡ t
stop_there items buffers lane more s t (inl stops) = stops.1
stop_there items buffers lane more s t (inr steps) = absurd (steps.1 0)

pub run_more : (code : List Instr) (lanes : List Lane) (memory : List ℕ) (next : ℕ) (lanes' : List Lane) (memory' : List ℕ)
    (i : Instr) (lanes'' : List Lane) (memory'' : List ℕ) (result : Result Unit WarpFault) →
    MidRun code lanes memory next lanes' memory' → StepTogether i lanes' memory' result lanes'' memory'' → i ≡ get_or code next i →
    next < length code → (i ≡ Tmc 0 → ⊥) → length lanes'' ≡ length lanes' → length memory'' ≡ length memory' →
    (items buffers : ℕ) (before after : ℕ → Alone) → Fits items buffers lanes memory → AllStandAs items buffers lanes memory before →
    ((lane : ℕ) → lane < items → Ends items buffers lane code (before lane) (after lane)) →
    IsOk result × (Fits items buffers lanes'' memory'' × Halfway items buffers lanes'' memory'' (drop (next + 1) code) after)
run_more code lanes memory next lanes' memory' i lanes'' memory'' result mid makes is_next within goes same_lanes same_memory items buffers before after fits stand ends =
    let half = mid items buffers before after fits stand ends in
    let cut : drop next code ≡ i ∷ drop (next + 1) code = drop_more code next i within ∙ ap (λ (j : Instr). j ∷ drop (next + 1) code) (sym is_next) in
    let P : ℕ → Alone → Type 0 = λ lane m. Steps items buffers lane i (half.1.now lane) m × Ends items buffers lane (drop (next + 1) code) m (after lane) in
    let each : (lane : ℕ) → lane < items → (m : Alone) × P lane m =
    λ lane below.
    let Q : List Instr → Type 0 = λ is. Ends items buffers lane is (half.1.now lane) (after lane) in
    step_over items buffers lane i (drop (next + 1) code) (half.1.now lane) (after lane) (subst Q cut (half.1.ends lane below)) goes in
    let then = chosen items P (before 0) each in
    let made = makes items buffers half.1.now then.0 half.0 half.1.stand (λ lane below. (then.1 lane below).0) in (
      made.0,
      (
        record { some = fits.some; one_each = same_lanes ∙ half.0.one_each; whole = same_memory ∙ half.0.whole },
        record { now = then.0; stand = made.1; ends = λ lane below. (then.1 lane below).1 },
      ),
    )

pub run_stops : (code : List Instr) (lanes : List Lane) (memory : List ℕ) (next : ℕ) (lanes' : List Lane) (memory' : List ℕ) (i : Instr) →
    MidRun code lanes memory next lanes' memory' → i ≡ get_or code next i → next < length code → i ≡ Tmc 0 →
    EndTogether code lanes memory (Ok tt) lanes' memory'
run_stops code lanes memory next lanes' memory' i mid is_next within stops items buffers before after fits stand ends =
    let half = mid items buffers before after fits stand ends in
    let cut : drop next code ≡ Tmc 0 ∷ drop (next + 1) code = drop_more code next i within ∙ ap (λ (j : Instr). j ∷ drop (next + 1) code) (sym is_next ∙ stops) in (
      refl,
      λ lane below.
          let Q : List Instr → Type 0 = λ is. Ends items buffers lane is (half.1.now lane) (after lane) in
          let R : Alone → Type 0 = λ s. StandsAs items buffers lane (get_or lanes' lane idle).registers memory' s in
          subst R (stop_there items buffers lane (drop (next + 1) code) (half.1.now lane) (after lane) (subst Q cut (half.1.ends lane below))) (half.1.stand lane below),
    )

-- no lane comes to an end behind the last instruction
pub run_falls : (code : List Instr) (lanes : List Lane) (memory : List ℕ) (next : ℕ) (lanes' : List Lane) (memory' : List ℕ) (result : Result Unit WarpFault) →
    MidRun code lanes memory next lanes' memory' → length code ≤ next → EndTogether code lanes memory result lanes' memory'
run_falls code lanes memory next lanes' memory' result mid is_end items buffers before after fits stand ends =
    let half = mid items buffers before after fits stand ends in
    let none : drop next code ≡ [] = drop_all next code is_end in
    let Q : List Instr → Type 0 = λ is. Ends items buffers 0 is (half.1.now 0) (after 0) in
    absurd (subst Q none (half.1.ends 0 fits.some))
