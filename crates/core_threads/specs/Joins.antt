-- What all cores of a launch have done, and what they give back.
use Rattle.std.specs.Prelude.{◌≡◌, ℕ, ◌+◌, ◌<◌, List, ◌++◌, All, length, map, slice_index_or, sum_by}
use Rattle.std.specs.List.{flat_map}
use Rattle.group_dispenser.specs.Claimers.{IsOf as draws_from, lists, spare}
use Rattle.group_dispenser.specs.declared.claimer.Claimer.{Claimer}
use Rattle.group_dispenser.specs.declared.dispenser.Dispenser.{Dispenser}
use Rattle.memory_banks.specs.Ports.{IsOf, KeptIn, number, numbers, union}
use Rattle.memory_banks.specs.declared.banks.Banks.{Banks}
use Rattle.memory_banks.specs.declared.port.Port.{Port}
use Rattle.vx_isa.specs.declared.image.Image.{Image}
use Rattle.vx_core.specs.Cores.{core_counts}
use Rattle.vx_core.specs.declared.job.GroupJob.{GroupJob}
use Rattle.core_threads.specs.Works.{HasRun}
use Rattle.core_threads.specs.declared.record.CoreRecord.{CoreRecord}
use Rattle.core_threads.specs.declared.work.CoreWork.{CoreWork}

-- each core has run
pub record AllRan {P E : Type 0} (evicts : E → ℕ → ℕ → ℕ → ℕ → E → Type 0) (begins : P → ℕ → P → Type 0) (picks : P → ℕ → ℕ → P → Type 0) (image : Image) (job : ℕ → GroupJob) (d : Dispenser) (groups : ℕ) (old new : List (CoreWork P E)) : Type 0 where
  pub count : length new ≡ length old
  pub each : (k : ℕ) (w : CoreWork P E) → k < length old → HasRun evicts begins picks image job d groups (slice_index_or old k w) (slice_index_or new k w)

-- what a core gives back: its port, its claimer, and the record of what it did
abbrev pub port_in : {P E : Type 0} → CoreWork P E → Port
port_in w = w.bus.port

abbrev pub claimer_in : {P E : Type 0} → CoreWork P E → Claimer
claimer_in w = w.claimer

abbrev pub record_of : {P E : Type 0} → CoreWork P E → CoreRecord
record_of w = record { claimed = w.claimed.items; counts = core_counts w.core; end = w.end }

-- Cores have run, and what they gave back was gathered: by the first port and the first claimer, as they are behind that, and in records.
pub record AreJoined {P E : Type 0} (evicts : E → ℕ → ℕ → ℕ → ℕ → E → Type 0) (begins : P → ℕ → P → Type 0) (picks : P → ℕ → ℕ → P → Type 0) (image : Image) (job : ℕ → GroupJob) (banks : Banks) (d : Dispenser) (groups : ℕ) (old : List (CoreWork P E)) (p : Port) (c : Claimer) (q : Port) (f : Claimer) (records : List CoreRecord) : Type 0 where
  pub new : List (CoreWork P E)
  pub ran : AllRan evicts begins picks image job d groups old new
  pub records_are : records ≡ map record_of new
  pub port_is : IsOf banks q
  pub number_is : number q ≡ number p
  pub numbers_are : numbers q ≡ union (numbers p) (map numbers (map port_in new))
  pub kept : KeptIn (numbers p) p q
  pub lists_are : All (λ r. KeptIn (numbers r) r q) (map port_in new)
  pub claimer_is : draws_from d f
  pub tickets_are : lists f ≡ lists c ++ flat_map lists (map claimer_in new)
  pub spare_is : spare f ≡ spare c + sum_by spare (map claimer_in new)
