-- What a core is made ready from.
use Rattle.std.specs.Prelude.{◌≡◌, ℕ, suc, ◌<◌, ◌≤◌, List, [], ◌∷◌, length, slice_index_or}
use Rattle.group_dispenser.specs.Claimers.{IsOf as draws_from, lists, spare}
use Rattle.group_dispenser.specs.declared.claimer.Claimer.{Claimer}
use Rattle.group_dispenser.specs.declared.dispenser.Dispenser.{Dispenser}
use Rattle.memory_banks.specs.Ports.{IsOf, number, numbers, seen}
use Rattle.memory_banks.specs.Rule.{one_of}
use Rattle.memory_banks.specs.declared.banks.Banks.{Banks}
use Rattle.memory_banks.specs.declared.port.Port.{Port}
use Rattle.vx_isa.specs.declared.image.Image.{Image}
use Rattle.vx_core.specs.declared.job.GroupJob.{GroupJob}
use Rattle.core_threads.specs.MachineRuns.{Plan}
use Rattle.core_threads.specs.declared.machine.Machine.{Machine}

-- a machine within its limits
pub record IsMachine (m : Machine) : Type 0 where
  pub cores : (1 ≤ m.cores) × (m.cores ≤ 8)
  pub banks : (1 ≤ m.banks) × (m.banks ≤ 16)
  pub sets : (1 ≤ m.sets) × (m.sets ≤ 64)
  pub ways : (1 ≤ m.ways) × (m.ways ≤ 8)

-- what runs on a machine
abbrev pub plan_of : Image → ℕ → (ℕ → GroupJob) → Machine → Plan
plan_of image groups job m = record { image = image; groups = groups; job = job; cores = m.cores; banks = m.banks; sets = m.sets }

-- a port for the core with a number: it has seen nothing
pub record IsPortOf (banks : Banks) (core : ℕ) (p : Port) : Type 0 where
  pub of : IsOf banks p
  pub port_is : number p ≡ suc core
  pub alone : numbers p ≡ one_of (suc core)
  pub none_seen : seen p ≡ []

abbrev pub ArePortsOf : Banks → List Port → Type 0
ArePortsOf banks ports = (core : ℕ) (p : Port) → core < length ports → IsPortOf banks core (slice_index_or ports core p)

-- a claimer that has drawn nothing
pub record IsClaimerOf (d : Dispenser) (c : Claimer) : Type 0 where
  pub of : draws_from d c
  pub none_drawn : lists c ≡ [] ∷ []
  pub makes_none : spare c ≡ 0

abbrev pub AreClaimersOf : Dispenser → List Claimer → Type 0
AreClaimersOf d claimers = (k : ℕ) (c : Claimer) → k < length claimers → IsClaimerOf d (slice_index_or claimers k c)
