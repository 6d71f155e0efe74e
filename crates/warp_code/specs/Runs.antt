-- Runs of a warp, and what each of its lanes took part in: the answers to what it asked for, and what its control registers answered.
use Rattle.std.specs.Prelude.{◌≡◌, ℕ, if◌then◌else◌, List, [], ◌∷◌, drop}
use Rattle.item_acts.specs.declared.acts.Action.{Action}
use Rattle.item_acts.specs.Machine as lanes
use Rattle.item_acts.specs.Machine.{Go, Ask, Stop}
use Rattle.vx_isa.specs.Warps.{has_lane}
use Rattle.vx_isa.specs.declared.warps.Step.{Step}
use Rattle.vx_isa.specs.declared.warps.Step.TheVariants as step
use Rattle.vcode.specs.Code.{VOp}
use Rattle.vcode.specs.Machine.{Lane, lane}
use Rattle.warp_code.specs.Warps.{Crew, VLane, VWarp, does, told, warp_step}

-- the warp goes on behind a step
abbrev pub GoesOn : Step → Type 0
GoesOn step.Ended = ⊥
GoesOn (step.Trap fault lane place) = ⊥
GoesOn other = Unit {0}

-- A warp goes from one state to another, in steps that are answered so, the first step's answers first.
abbrev pub Runs : Crew → List VOp → VWarp → List (ℕ → ℕ) → VWarp → Type 0
Runs k code w [] w' = w ≡ w'
Runs k code w (answers ∷ later) w' = GoesOn (warp_step k code answers w).outcome × Runs k code (warp_step k code answers w).warp later w'

-- ---- one lane

-- the answer that a step takes, and what it is told, in front of what comes later
abbrev pub with_answer : lanes.Step Lane → ℕ → List ℕ → List ℕ
with_answer (Go s) answer later = later
with_answer (Ask a next) answer later = answer ∷ later
with_answer (Stop a) answer later = later

abbrev pub in_front : List ℕ → List ℕ → List ℕ
in_front [] later = later
in_front (n ∷ ns) later = n ∷ in_front ns later

abbrev pub with_told : lanes.Step Lane → List ℕ → List ℕ → List ℕ
with_told (Go s) ns later = in_front ns later
with_told (Ask a next) ns later = in_front ns later
with_told (Stop a) ns later = later

-- what a lane of a warp takes at operations, if it is active
abbrev pub answer_at : Crew → List VOp → ℕ → VWarp → ℕ → List ℕ → List ℕ
answer_at k [] l w answer later = later
answer_at k (op ∷ ops) l w answer later = if has_lane w.mask l then with_answer (does k w.mask op l (w.lanes l)) answer later else later

abbrev pub told_at : Crew → List VOp → ℕ → VWarp → List ℕ → List ℕ
told_at k [] l w later = later
told_at k (op ∷ ops) l w later = if has_lane w.mask l then with_told (does k w.mask op l (w.lanes l)) (told k w.mask op) later else later

-- the answers that a lane takes in a run, and what it is told there and later
abbrev pub answers_in : Crew → List VOp → ℕ → VWarp → List (ℕ → ℕ) → List ℕ
answers_in k code l w [] = []
answers_in k code l w (answers ∷ more) = answer_at k (drop w.place code) l w (answers l) (answers_in k code l (warp_step k code answers w).warp more)

abbrev pub numbers_in : Crew → List VOp → ℕ → VWarp → List (ℕ → ℕ) → List ℕ → List ℕ
numbers_in k code l w [] later = later
numbers_in k code l w (answers ∷ more) later = told_at k (drop w.place code) l w (numbers_in k code l (warp_step k code answers w).warp more later)

-- a lane of a warp alone, with what its control registers answer from now on
abbrev pub alone : VLane → List ℕ → Lane
alone v numbers = lane v.place v.registers v.turns numbers

-- ---- runs of one lane

-- a machine comes from one state to another, and takes these answers on the way
pub data Comes {S : Type 0} (step : S → lanes.Step S) : S → List ℕ → S → Type 0 where
  Stays : (s : S) → Comes step s [] s
  Goes : (s s' t : S) (answers : List ℕ) → step s ≡ Go s' → Comes step s' answers t → Comes step s answers t
  Takes : (s : S) (a : Action) (next : ℕ → S) (answer : ℕ) (t : S) (answers : List ℕ) → step s ≡ Ask a next → Comes step (next answer) answers t → Comes step s (answer ∷ answers) t

-- ---- steps whose outcomes do not hang on answers

-- A warp passes from one state to another with these outcomes, whatever is answered.
abbrev pub Passes : Crew → List VOp → VWarp → List Step → VWarp → Type 0
Passes k code w [] w' = w ≡ w'
Passes k code w (outcome ∷ outcomes) w' =
    (between : VWarp) × ((answers : ℕ → ℕ) → warp_step k code answers w ≡ record { warp = between; outcome = outcome }) × Passes k code between outcomes w'
