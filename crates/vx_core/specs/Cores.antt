-- The core that lies in a program's structs.
use Rattle.std.specs.Prelude.{◌≡◌, ℕ, replicate}
use Rattle.vx_isa.specs.declared.image.Image.{Image}
use Rattle.l1_cache.specs.Caches.{lines_of}
use Rattle.l1_cache.specs.Lines.{emptied, no_lines}
use Rattle.vx_core.specs.Blocks.{with_zeros, zeros}
use Rattle.vx_core.specs.Counting.{counts_in, no_tally}
use Rattle.vx_core.specs.Crews.{CrewState}
use Rattle.vx_core.specs.CoreSteps.{CoreState, Setting}
use Rattle.vx_core.specs.Places.{Reach}
use Rattle.vx_core.specs.WarpLists.{warps_of}
use Rattle.vx_core.specs.declared.core_run.Core.{Core}
use Rattle.vx_core.specs.declared.counts.CoreCounts.{CoreCounts}
use Rattle.vx_core.specs.declared.counts.Tally.{Tally}
use Rattle.vx_core.specs.declared.crew.Crew.{Crew}
use Rattle.vx_core.specs.declared.job.GroupJob.{GroupJob}

abbrev pub crew_of : Crew → CrewState
crew_of c = record { warps = warps_of c.warps.items; begun = c.started; barriers = c.barriers }

abbrev pub core_crew : Core → CrewState
core_crew core = crew_of core.crew

abbrev pub number_of : Core → ℕ
number_of core = core.number

abbrev pub banks_of : Core → ℕ
banks_of core = core.banks

abbrev pub tally_of : Core → Tally
tally_of core = core.tally

-- the core has the same number and counts by as many banks
pub record KeepsNumbers (old new : Core) : Type 0 where
  pub number : number_of new ≡ number_of old
  pub banks : banks_of new ≡ banks_of old

-- what the lanes of a core reach, with its bus and the policy of its cache
abbrev pub core_reach : {B E : Type 0} → Core → B → E → Reach B E
core_reach core bus evict = record { scratch = core.scratch; lines = lines_of core.cache; bus = bus; policy = evict; steps = core.steps }

-- a core with its bus and its policies
abbrev pub core_state : {B E P : Type 0} → Core → B → E → P → CoreState B E P
core_state core bus evict pick = record { crew = crew_of core.crew; tally = core.tally; reach = core_reach core bus evict; picker = pick }

-- what stays the same while a group runs on it
abbrev pub setting_of : Core → ℕ → ℕ → Image → GroupJob → Setting
setting_of core words port image job = record { core = core.number; banks = core.banks; words = words; port = port; image = image; job = job }

-- what it has counted since its launch began: `counts_of` of each of its states
abbrev pub core_counts : Core → CoreCounts
core_counts core = counts_in core.tally (lines_of core.cache) core.steps

-- a new core: with a number, so many banks and so many sets, a scratchpad of zeros, a cache that keeps no line, and counts of 0
pub record IsNew (number banks sets : ℕ) (core : Core) : Type 0 where
  pub number_is : core.number ≡ number
  pub banks_are : core.banks ≡ banks
  pub scratch_is : core.scratch ≡ zeros 1048576
  pub lines_are : lines_of core.cache ≡ no_lines sets 0 0
  pub tally_is : core.tally ≡ no_tally
  pub steps_are : core.steps ≡ replicate 16 0

-- a launch begins: all bytes of the scratchpad are 0, the cache keeps no line, and all counts are 0
pub record BeginsLaunch (old new : Core) : Type 0 where
  pub same_core : KeepsNumbers old new
  pub scratch_is : new.scratch ≡ with_zeros 1048576 old.scratch
  pub lines_are : lines_of new.cache ≡ emptied (lines_of old.cache)
  pub tally_is : new.tally ≡ no_tally
  pub steps_are : new.steps ≡ replicate 16 0
