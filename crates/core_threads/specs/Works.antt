-- What a core's thread needs, and what it leaves, said of what the core owns alone.
use Rattle.std.specs.Prelude.{◌≡◌, ℕ, ◌+◌, ◌*◌, ◌%◌, ◌^◌, ◌<◌, ◌≤◌, List, [], ◌∷◌, ◌++◌, Option, Some, None, length, All}
use Rattle.std.specs.Vec.{vec_capacity}
use Rattle.group_dispenser.specs.Claimers.{IsOf as draws_from, drawn, gathered, groups_of, spare}
use Rattle.group_dispenser.specs.declared.dispenser.Dispenser.{Dispenser}
use Rattle.memory_banks.specs.Buses.{AddsEntry}
use Rattle.memory_banks.specs.Ports.{IsOf, number, opening_of}
use Rattle.memory_banks.specs.declared.port_bus.PortBus.{PortBus}
use Rattle.vx_isa.specs.declared.image.Image.{Image}
use Rattle.vx_core.specs.Cores.{KeepsNumbers, core_state, setting_of}
use Rattle.vx_core.specs.CoreSteps.{CoreState, Setting}
use Rattle.vx_core.specs.declared.end.GroupEnd.{GroupEnd}
use Rattle.vx_core.specs.declared.job.GroupJob.{GroupJob}
use Rattle.core_threads.specs.GroupRuns.{RunsGroups}
use Rattle.core_threads.specs.declared.work.CoreWork.{CoreWork}

-- a job that a core can take on
pub record Fits (group : ℕ) (job : GroupJob) : Type 0 where
  pub group_is : job.group ≡ group
  pub clear : job.clear ≤ 1048576
  pub lanes : job.lanes ≤ 32
  pub items : job.group * job.local + 512 < 2 ^ 32

abbrev pub state_of : {P E : Type 0} → CoreWork P E → CoreState PortBus E P
state_of w = core_state w.core w.bus w.evictor w.picker

-- how many words its bus has
abbrev pub words_of : {P E : Type 0} → CoreWork P E → ℕ
words_of w = length (opening_of w.bus.banks.now)

-- what stays the same while a group runs on it
abbrev pub setting_on : {P E : Type 0} → Image → (ℕ → GroupJob) → CoreWork P E → ℕ → Setting
setting_on image job w group = setting_of w.core (words_of w) (number w.bus.port) image (job group)

-- Before: nothing was claimed, there is room for all groups, and the bus has whole cache lines.
pub record CanRun {P E : Type 0} (d : Dispenser) (groups : ℕ) (w : CoreWork P E) : Type 0 where
  pub none_claimed : w.claimed.items ≡ []
  pub room : groups ≤ vec_capacity w.claimed
  pub no_end : w.end ≡ None
  pub draws : draws_from d w.claimer
  pub groups_are : groups_of d ≡ groups
  pub none_drawn : drawn w.claimer ≡ []
  pub sound : IsOf w.bus.banks.now w.bus.port
  pub lines : words_of w % 16 ≡ 0

-- Why a core stops: there is no group left, which its last ticket shows; it has claimed all groups itself; or it had a bad end.
pub data Stops (groups : ℕ) (tickets claimed : List ℕ) (end : Option GroupEnd) : Type 0 where
  NoneLeft : (ticket : ℕ) → groups ≤ ticket → tickets ≡ claimed ++ ticket ∷ [] → end ≡ None → Stops groups tickets claimed end
  HasAll : tickets ≡ claimed → length claimed ≡ groups → end ≡ None → Stops groups tickets claimed end
  HasBroken : (bad : GroupEnd) → tickets ≡ claimed → end ≡ Some bad → Stops groups tickets claimed end

-- Behind: it has run the groups that it claimed, each of which is a ticket that it drew, and stopped for one of those reasons.
pub record HasRun {P E : Type 0} (evicts : E → ℕ → ℕ → ℕ → ℕ → E → Type 0) (begins : P → ℕ → P → Type 0) (picks : P → ℕ → ℕ → P → Type 0) (image : Image) (job : ℕ → GroupJob) (d : Dispenser) (groups : ℕ) (old new : CoreWork P E) : Type 0 where
  pub runs : RunsGroups AddsEntry evicts begins picks (setting_on image job old) new.claimed.items (state_of old) new.end (state_of new)
  pub stops : Stops groups (drawn new.claimer) new.claimed.items new.end
  pub below : All (λ g. g < groups) new.claimed.items
  pub draws : draws_from d new.claimer
  pub gathered_is : gathered new.claimer ≡ gathered old.claimer
  pub spare_is : spare new.claimer ≡ spare old.claimer
  pub sound : IsOf new.bus.banks.now new.bus.port
  pub same_core : KeepsNumbers old.core new.core
  pub same_number : new.number ≡ old.number
