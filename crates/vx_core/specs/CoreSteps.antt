-- A core, what a step makes of it, and how a group runs on it. Read `StepsOnce` and `RunsGroup` at the end first.
use Rattle.std.specs.Prelude.{◌≡◌, ℕ, zero, suc, ◌<◌, true, length, Option, Some, None}
use Rattle.vx_isa.specs.Warps.{WarpState, has_lane}
use Rattle.vx_isa.specs.declared.image.Image.{Image}
use Rattle.vx_isa.specs.declared.warps.Step.{Step}
use Rattle.memory_banks.specs.declared.entry.BusEntry.{BusEntry}
use Rattle.vx_core.specs.Blocks.{with_zeros, with_block}
use Rattle.vx_core.specs.Counting.{counts_in, tally_after}
use Rattle.vx_core.specs.Crews.{CrewState, Opens, crew_after, ready_warps, with_warp}
use Rattle.vx_core.specs.Ends.{end_after}
use Rattle.vx_core.specs.Places.{DrainsWords, Reach, TakesInstruction}
use Rattle.vx_core.specs.declared.counts.CoreCounts.{CoreCounts}
use Rattle.vx_core.specs.declared.counts.Tally.{Tally}
use Rattle.vx_core.specs.declared.end.GroupEnd.{GroupEnd}
use Rattle.vx_core.specs.declared.end.GroupEnd.TheVariants.{Turns}
use Rattle.vx_core.specs.declared.job.GroupJob.{GroupJob}

-- a core with its bus and its policies: its warps and barriers, what it has counted of instructions, what its lanes reach, and
-- the policy by which it picks warps
pub record CoreState (B E P : Type 0) : Type 0 where
  pub crew : CrewState
  pub tally : Tally
  pub reach : Reach B E
  pub picker : P

-- what it has counted since its launch began
abbrev pub counts_of : {B E P : Type 0} → CoreState B E P → CoreCounts
counts_of s = counts_in s.tally s.reach.lines s.reach.steps

-- what stays the same while a group runs: the number of the core, how many banks it counts, how many words its bus has, under
-- which number its entries stand, the image, and the job
pub record Setting : Type 0 where
  pub core : ℕ
  pub banks : ℕ
  pub words : ℕ
  pub port : ℕ
  pub image : Image
  pub job : GroupJob

-- A step of a core: the policy picks a ready warp. It takes an instruction, of which the accesses act on what the lanes reach;
-- then follows what the instruction does to the barriers and to other warps. It is counted, and may end the group.
pub record StepsOnce {B E P : Type 0} (acts : B → BusEntry → B → Type 0) (evicts : E → ℕ → ℕ → ℕ → ℕ → E → Type 0) (picks : P → ℕ → ℕ → P → Type 0) (g : Setting) (s : CoreState B E P) (end : Option GroupEnd) (s' : CoreState B E P) : Type 0 where
  pub warp : ℕ
  pub is_ready : has_lane (ready_warps s.crew) warp ≡ true
  pub picked : picks s.picker (ready_warps s.crew) warp s'.picker
  pub outcome : Step
  pub moved : WarpState
  pub took : TakesInstruction acts evicts g.words g.port g.banks (record { core = g.core; warp = warp; lanes = g.job.lanes }) g.image.words (s.crew.warps warp) s.reach outcome moved s'.reach
  pub crew_is : s'.crew ≡ crew_after g.job.warps warp outcome (with_warp warp moved s.crew)
  pub tally_is : s'.tally ≡ tally_after outcome (length moved.stack) s.tally
  pub end_is : end ≡ end_after g.image.sites g.job warp outcome s'.crew

-- so many steps, of which none ends the group
abbrev pub GoesOn : {B E P : Type 0} → (B → BusEntry → B → Type 0) → (E → ℕ → ℕ → ℕ → ℕ → E → Type 0) → (P → ℕ → ℕ → P → Type 0) → Setting → ℕ → CoreState B E P → CoreState B E P → Type 0
GoesOn acts evicts picks g zero s s' = s' ≡ s
GoesOn {B} {E} {P} acts evicts picks g (suc n) s s' = (between : CoreState B E P) × GoesOn acts evicts picks g n s between × StepsOnce acts evicts picks g between None s'

-- Steps up to one that ends the group, or as many as it may take
pub data Runs {B E P : Type 0} (acts : B → BusEntry → B → Type 0) (evicts : E → ℕ → ℕ → ℕ → ℕ → E → Type 0) (picks : P → ℕ → ℕ → P → Type 0) (g : Setting) (s : CoreState B E P) (end : GroupEnd) (s' : CoreState B E P) : Type 0 where
  Ends : (n : ℕ) (last : CoreState B E P) → n < g.job.turns → GoesOn acts evicts picks g n s last → StepsOnce acts evicts picks g last (Some end) s' → Runs acts evicts picks g s end s'
  RunsOut : GoesOn acts evicts picks g g.job.turns s s' → end ≡ Turns g.job.turns → Runs acts evicts picks g s end s'

-- the core as a group finds it: the bytes of its scratchpad and the policy that picks warps are begun for it, and the rest is as
-- it was
pub record OpensGroup {B E P : Type 0} (begins : P → ℕ → P → Type 0) (job : GroupJob) (s s' : CoreState B E P) : Type 0 where
  pub crew : Opens s'.crew
  pub same_tally : s'.tally ≡ s.tally
  pub reach_is : s'.reach ≡ record s.reach { scratch = with_block job.block (with_zeros job.clear s.reach.scratch) }
  pub begun : begins s.picker job.group s'.picker

-- behind the last step what waits in the cache is carried out
pub record ClosesGroup {B E P : Type 0} (acts : B → BusEntry → B → Type 0) (g : Setting) (s s' : CoreState B E P) : Type 0 where
  pub drained : DrainsWords acts g.port g.banks s.reach s'.reach
  pub same_crew : s'.crew ≡ s.crew
  pub same_tally : s'.tally ≡ s.tally
  pub same_picker : s'.picker ≡ s.picker

-- A group runs on a core, from its beginning on, to an end.
pub record RunsGroup {B E P : Type 0} (acts : B → BusEntry → B → Type 0) (evicts : E → ℕ → ℕ → ℕ → ℕ → E → Type 0) (begins : P → ℕ → P → Type 0) (picks : P → ℕ → ℕ → P → Type 0) (g : Setting) (s : CoreState B E P) (end : GroupEnd) (s' : CoreState B E P) : Type 0 where
  pub first : CoreState B E P
  pub last : CoreState B E P
  pub opened : OpensGroup begins g.job s first
  pub runs : Runs acts evicts picks g first end last
  pub closed : ClosesGroup acts g last s'
