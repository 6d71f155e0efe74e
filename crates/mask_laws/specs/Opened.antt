-- Honest answers: a load at a place of a `__constant` array is answered the bytes with which the launch opens, whatever operation asks.
use Rattle.std.specs.Prelude.{◌≡◌, ℕ, Bool, true, List, [], ◌∷◌, drop}
use Rattle.vx_base.specs.Bytes.{bytes_of}
use Rattle.item_acts.specs.declared.acts.Bound.{Bound}
use Rattle.item_acts.specs.declared.acts.Place.{Place}
use Rattle.item_acts.specs.declared.acts.Range.{Range}
use Rattle.item_acts.specs.Launches.{field_at}
use Rattle.item_settings.specs.Settings.{elem_size}
use Rattle.kir.specs.Machine.{code_setting, value}
use Rattle.kir.specs.Trees.{KirCode}
use Rattle.vx_isa.specs.Warps.{has_lane}
use Rattle.vcode.specs.Code.{VOp, Fetch}
use Rattle.simt_lowering.specs.Around.{HasArrays}
use Rattle.simt_lowering.specs.Kept.{CanLower, known_of_kernel}
use Rattle.simt_lowering.specs.Lowered.{kernel_code}
use Rattle.warp_code.specs.Warps.{Crew, VWarp, around_of, warp_step}
use Rattle.warp_code.specs.Runs.{Runs}
use Rattle.mask_laws.specs.Constants.{IsConstantField}
use Rattle.mask_laws.specs.Honest.{IsHonestRun, IsHonestStep}
use Rattle.mask_laws.specs.Laws.{HasItem, HasItems, InStep, MayLower, RunsInStep}

-- each active lane that loads a field of such an array is answered its bytes
abbrev pub OpAnswers : KirCode → List Bound → (Place → ℕ) → Crew → VOp → VWarp → (ℕ → ℕ) → Type 0
OpAnswers code bounds opening k (Fetch d elem a) w answers =
    (l : ℕ) → has_lane w.mask l ≡ true → IsConstantField code bounds (k.places l (value (w.lanes l).registers a)) (elem_size elem)
    → answers l ≡ field_at opening (k.places l (value (w.lanes l).registers a)) (bytes_of (elem_size elem))
OpAnswers code bounds opening k op w answers = Unit {0}

abbrev pub FirstAnswers : KirCode → List Bound → (Place → ℕ) → Crew → List VOp → VWarp → (ℕ → ℕ) → Type 0
FirstAnswers code bounds opening k [] w answers = Unit {0}
FirstAnswers code bounds opening k (op ∷ ops) w answers = OpAnswers code bounds opening k op w answers

-- so it is at one step of a kernel's code, and at each step of a run
abbrev pub StepAnswers : (ℕ → Bool) → KirCode → List Bound → (Place → ℕ) → Crew → VWarp → (ℕ → ℕ) → Type 0
StepAnswers marks code bounds opening k w answers = FirstAnswers code bounds opening k (drop w.place (kernel_code marks code)) w answers

abbrev pub RunAnswers : (ℕ → Bool) → KirCode → List Bound → (Place → ℕ) → Crew → VWarp → List (ℕ → ℕ) → Type 0
RunAnswers marks code bounds opening k w [] = Unit {0}
RunAnswers marks code bounds opening k w (answers ∷ later) =
    StepAnswers marks code bounds opening k w answers × RunAnswers marks code bounds opening k (warp_step k (kernel_code marks code) answers w).warp later

-- The warp is one of a launch: what stands around each lane that has an item are the counts and the addresses of the arrays that some item knows,
-- and an address names one place to all lanes, as those of one group have it.
pub record IsOfLaunch (marks : ℕ → Bool) (code : KirCode) (bounds : List Bound) (k : Crew) : Type 0 where
  pub range : Range
  pub item : ℕ → ℕ
  pub arrays : (l : ℕ) → HasItem k l → HasArrays (known_of_kernel marks code) (code_setting code range bounds (item l)) (around_of k l)
  pub one_place : (l l' address : ℕ) → k.places l address ≡ k.places l' address

-- Answers to a run of a warp of a launch are honest: they are the bytes with which the launch opens.
pub record HonestAnswers (marks : ℕ → Bool) (code : KirCode) (k : Crew) (w : VWarp) (run : List (ℕ → ℕ)) : Type 0 where
  pub bounds : List Bound
  pub opening : Place → ℕ
  pub launch : IsOfLaunch marks code bounds k
  pub loads : RunAnswers marks code bounds opening k w run

-- The law: then active lanes that load an element of a `__constant` array at one address in one step get one answer; also in the step behind
-- the run, if its answers are honest too.
abbrev pub HonestAnswersGiveHonestRuns : Type 0
HonestAnswersGiveHonestRuns = (marks : ℕ → Bool) (code : KirCode) (k : Crew) (is_first : Bool) → CanLower code → (from : InStep marks code k is_first)
    → (run : List (ℕ → ℕ)) (w' : VWarp) (honest : HonestAnswers marks code k from.w run) → Runs k (kernel_code marks code) from.w run w'
    → IsHonestRun marks code k from.w run
    × ((answers : ℕ → ℕ) → StepAnswers marks code honest.bounds honest.opening k w' answers → IsHonestStep marks code w' answers)

-- A warp is in step, and takes honest answers: behind each run that is answered so all holds that holds of a warp in step. Its next step is one of
-- which that speaks, if its answers are honest too.
pub record HonestlyInStep (marks : ℕ → Bool) (code : KirCode) (k : Crew) (is_first : Bool) : Type 0 where
  pub in_step : InStep marks code k is_first
  pub runs : (run : List (ℕ → ℕ)) (w' : VWarp) → HonestAnswers marks code k in_step.w run → Runs k (kernel_code marks code) in_step.w run w'
      → RunsInStep marks code k in_step.w run w'
  pub next : (run : List (ℕ → ℕ)) (w' : VWarp) (honest : HonestAnswers marks code k in_step.w run) → Runs k (kernel_code marks code) in_step.w run w'
      → (answers : ℕ → ℕ) → StepAnswers marks code honest.bounds honest.opening k w' answers → IsHonestStep marks code w' answers

-- The law: so it is with each warp of a kernel whose loads and stores are checked.
abbrev pub WarpsTakeHonestAnswers : Type 0
WarpsTakeHonestAnswers = (marks : ℕ → Bool) (code : KirCode) (k : Crew) (is_first : Bool) → MayLower marks code → CanLower code → HasItems k → HonestlyInStep marks code k is_first
