-- The law of a warp over a lowered kernel: it does for each of its lanes what the lane does alone, and its stack and its masks never fail it.
use Rattle.std.specs.List.{IsDistinct}
use Rattle.std.specs.Prelude.{◌≡◌, ℕ, zero, suc, ◌+◌, ◌*◌, ◌^◌, ◌<◌, ◌≤◌, ◌==◌, Bool, true, false, List, [], ◌∷◌, ◌++◌, drop, length}
use Rattle.item_acts.specs.declared.acts.Action.{Action}
use Rattle.item_acts.specs.declared.acts.Action.TheVariants.{Barrier, Fault}
use Rattle.item_acts.specs.declared.acts.Bound.{Bound}
use Rattle.item_acts.specs.declared.acts.Point.{Point}
use Rattle.item_acts.specs.Machine.{Asks}
use Rattle.item_settings.specs.Settings.{Setting}
use Rattle.kir.specs.Machine as kir
use Rattle.kir.specs.Machine.{kir_start}
use Rattle.kir.specs.Measures.{branching, sites}
use Rattle.kir.specs.Numbered.{AreBelow}
use Rattle.kir.specs.Trees.{KirCode}
use Rattle.uniformity.specs.Marks.{AreClosed}
use Rattle.vx_isa.specs.Warps.{has_lane, leader}
use Rattle.vx_isa.specs.declared.warps.MachineTrap.{MachineTrap}
use Rattle.vx_isa.specs.declared.warps.MachineTrap.TheVariants as trap
use Rattle.vx_isa.specs.declared.warps.Step.{Step}
use Rattle.vx_isa.specs.declared.warps.Step.TheVariants as step
use Rattle.vx_base.specs.declared.types.Pos.{Pos}
use Rattle.vcode.specs.Code.{VOp, Bar}
use Rattle.vcode.specs.Machine as vcode
use Rattle.vcode.specs.Machine.{Lane}
use Rattle.simt_lowering.specs.Kept.{AsksAs, item_place, spawn_place}
use Rattle.simt_lowering.specs.Lowered.{kernel_code}
use Rattle.warp_code.specs.Warps.{Crew, VLane, VWarp, around_of, told, lane_behind, warp_step, warp_start}
use Rattle.warp_code.specs.Runs.{GoesOn, Runs, Passes, answers_in, numbers_in, alone, Comes}
use Rattle.mask_laws.specs.Honest.{IsHonestStep, IsHonestRun}

-- What the law asks of a kernel and of the marks that it was lowered by: the marks are closed under what its operations write, and at most 31
-- branches stand within one another. Its barriers have different numbers.
pub record MayLower (marks : ℕ → Bool) (code : KirCode) : Type 0 where
  pub within : (r : ℕ) → marks r ≡ true → r < code.variables
  pub closed : AreClosed code.params marks true code.ops
  pub below : AreBelow code.variables code.ops
  pub few : branching code.ops ≤ 31
  pub distinct : IsDistinct (λ (m n : ℕ). m == n) (sites code.ops)

-- What it asks of a warp: it has some lanes and at most 32, they are as many as the launch block says, and its first one has an item.
pub record HasItems (k : Crew) : Type 0 where
  pub some : 0 < k.ids.lanes
  pub few : k.ids.lanes ≤ 32
  pub lanes : k.block 15 ≡ k.ids.lanes
  pub first : k.ids.warp * k.block 15 < k.block 1
  pub small : k.block 1 < 2 ^ 32

-- a lane of a warp that has an item
abbrev pub HasItem : Crew → ℕ → Type 0
HasItem k l = (l < k.ids.lanes) × (k.ids.warp * k.block 15 + l < k.block 1)

-- ---- the first phase

-- so many steps that just go on
abbrev pub nexts : ℕ → List Step
nexts zero = []
nexts (suc n) = step.Next ∷ nexts n

-- The outcomes of the first steps: warp 0 begins at place 0 and starts the others, once, and each other begins at the place that it names.
-- Whatever is answered they are the same, and no lane asks for anything.
abbrev pub first_outcomes : Crew → Bool → List Step
first_outcomes k true = step.Next ∷ step.Next ∷ step.Spawn (k.block 0) spawn_place ∷ nexts 11
first_outcomes k false = nexts 11

abbrev pub first_place : Bool → ℕ
first_place true = 0
first_place false = spawn_place

-- What there is behind them: the lanes that have an item are active, and no others, and they stand in no loop at the place where the items
-- begin.
pub record AtItems (k : Crew) (w : VWarp) : Type 0 where
  pub active : (l : ℕ) → HasItem k l → has_lane w.mask l ≡ true
  pub only : (l : ℕ) → has_lane w.mask l ≡ true → HasItem k l
  pub place : w.place ≡ item_place
  pub stack : w.stack ≡ []
  pub lanes : (l : ℕ) → has_lane w.mask l ≡ true → (registers : ℕ → ℕ) × (w.lanes l ≡ record { place = item_place; registers = registers; turns = [] })

-- ---- from there on

-- at its next operation a lane asks for an action, or stops with it
abbrev pub AsksNow : Crew → List VOp → VWarp → ℕ → Action → Type 0
AsksNow k code w l a = Asks (vcode.step (around_of k l) code) (alone (w.lanes l) []) [] a

-- a lane behind one step alone, where what it asks for has this answer, and its control registers answer these numbers
abbrev pub alone_behind : Crew → List VOp → ℕ → VLane → ℕ → List ℕ → VLane
alone_behind k code l v answer numbers = lane_behind answer v (vcode.step (around_of k l) code (alone v numbers))

-- no item for which a lane is laid out asks for a barrier at this point any more, behind what the lane has taken in a run
abbrev pub NeverAgain : (ℕ → Bool) → KirCode → Crew → VWarp → List (ℕ → ℕ) → ℕ → Point → Type 0
NeverAgain marks code k w run l point =
    (setting : Setting) (bounds : List Bound) (more : List ℕ) → AsksAs code (kernel_code marks code) setting bounds (around_of k l) (alone (w.lanes l) (numbers_in k (kernel_code marks code) l w run []))
    → Asks (kir.step setting) (kir_start code bounds) (answers_in k (kernel_code marks code) l w run ++ more) (Barrier point) → ⊥

-- What holds behind each run from a warp `w` to a warp `w'`, of the kernel's code.
pub record RunsInStep (marks : ℕ → Bool) (code : KirCode) (k : Crew) (w : VWarp) (run : List (ℕ → ℕ)) (w' : VWarp) : Type 0 where
  -- each lane has come alone to where it stands, with the answers that it took and what its control registers answered, whatever comes later
  pub comes : (l : ℕ) (later : List ℕ)
      → Comes (vcode.step (around_of k l) (kernel_code marks code)) (alone (w.lanes l) (numbers_in k (kernel_code marks code) l w run later)) (answers_in k (kernel_code marks code) l w run) (alone (w'.lanes l) later)
  -- A step that goes on is one step alone of each active lane, told what its control registers answer there, and none of the others.
  pub moves : (answers : ℕ → ℕ) (l : ℕ) (op : VOp) (ops : List VOp) → has_lane w'.mask l ≡ true → drop w'.place (kernel_code marks code) ≡ op ∷ ops
      → GoesOn (warp_step k (kernel_code marks code) answers w').outcome
      → (warp_step k (kernel_code marks code) answers w').warp.lanes l ≡ alone_behind k (kernel_code marks code) l (w'.lanes l) (answers l) (told k w'.mask op)
  pub stays : (answers : ℕ → ℕ) (l : ℕ) → has_lane w'.mask l ≡ false → GoesOn (warp_step k (kernel_code marks code) answers w').outcome
      → (warp_step k (kernel_code marks code) answers w').warp.lanes l ≡ w'.lanes l
  -- active lanes have items, and stand where the warp does
  pub active : (l : ℕ) → has_lane w'.mask l ≡ true → has_lane w.mask l ≡ true
  pub here : (l : ℕ) → has_lane w'.mask l ≡ true → (w'.lanes l).place ≡ w'.place
  -- each lane that has an item is at a place of the code
  pub inside : (l : ℕ) → has_lane w.mask l ≡ true → (op : VOp) × ((ops : List VOp) × (drop (w'.lanes l).place (kernel_code marks code) ≡ op ∷ ops))
  -- what an active lane asks for next, its item asks for
  pub asks : (l : ℕ) (setting : Setting) (bounds : List Bound) (a : Action) → has_lane w'.mask l ≡ true → AsksAs code (kernel_code marks code) setting bounds (around_of k l) (alone (w.lanes l) (numbers_in k (kernel_code marks code) l w run []))
      → AsksNow k (kernel_code marks code) w' l a → Asks (kir.step setting) (kir_start code bounds) (answers_in k (kernel_code marks code) l w run) a
  -- the stack has at most 64 entries
  pub room : length w'.stack ≤ 64
  -- The only trap is at a failed check: by the least active lane, where every active lane asks for that fault. So active lanes agree at each
  -- branch, no join finds an empty stack, and no split a full one.
  pub traps : (answers : ℕ → ℕ) (fault : MachineTrap) (l place : ℕ) → IsHonestStep marks code w' answers → (warp_step k (kernel_code marks code) answers w').outcome ≡ step.Trap fault l place
      → (fault ≡ trap.Break) × (l ≡ leader w'.mask) × ((pos : Pos) × ((l' : ℕ) → has_lane w'.mask l' ≡ true → AsksNow k (kernel_code marks code) w' l' (Fault pos)))
  -- a warp ends with all lanes that have an item, and an empty stack
  pub ends : (answers : ℕ → ℕ) → IsHonestStep marks code w' answers → (warp_step k (kernel_code marks code) answers w').outcome ≡ step.Ended → (w'.mask ≡ w.mask) × (w'.stack ≡ [])
  -- no warp is started any more
  pub no_start : (answers : ℕ → ℕ) (count place : ℕ) → IsHonestStep marks code w' answers → (warp_step k (kernel_code marks code) answers w').outcome ≡ step.Spawn count place → ⊥
  -- At a barrier all active lanes wait at one point, and no item of another lane comes to that point any more, whatever it is told.
  pub waits : (site : ℕ) (ops : List VOp) → drop w'.place (kernel_code marks code) ≡ Bar site ∷ ops
      → (point : Point) × (point.site ≡ site) × ((l : ℕ) → has_lane w'.mask l ≡ true → AsksNow k (kernel_code marks code) w' l (Barrier point))
      × ((l : ℕ) → has_lane w.mask l ≡ true → has_lane w'.mask l ≡ false → NeverAgain marks code k w run l point)

-- The law: from its start each warp passes to its items, and whatever run comes behind, if reads of constants are honest, is in step.
pub record InStep (marks : ℕ → Bool) (code : KirCode) (k : Crew) (is_first : Bool) : Type 0 where
  pub w : VWarp
  pub passes : Passes k (kernel_code marks code) (warp_start (first_place is_first)) (first_outcomes k is_first) w
  pub at_items : AtItems k w
  pub runs : (run : List (ℕ → ℕ)) (w' : VWarp) → IsHonestRun marks code k w run → Runs k (kernel_code marks code) w run w' → RunsInStep marks code k w run w'

abbrev pub WarpsInStep : Type 0
WarpsInStep = (marks : ℕ → Bool) (code : KirCode) (k : Crew) (is_first : Bool) → MayLower marks code → HasItems k → InStep marks code k is_first
