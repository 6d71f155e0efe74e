-- The cores of a machine before a launch, with all that each owns.
use Rattle.std.specs.Prelude.{◌≡◌, ℕ, suc, ◌+◌, ◌<◌, List, [], ◌∷◌, length, map, slice_index_or}
use Rattle.group_dispenser.specs.Claimers.{IsOf as draws_from, gathered, lists, spare}
use Rattle.group_dispenser.specs.declared.claimer.Claimer.{Claimer}
use Rattle.group_dispenser.specs.declared.dispenser.Dispenser.{Dispenser}
use Rattle.memory_banks.specs.Ports.{IsOf, number, numbers, seen, union}
use Rattle.memory_banks.specs.Rule.{one_of}
use Rattle.memory_banks.specs.declared.banks.Banks.{Banks}
use Rattle.memory_banks.specs.declared.port.Port.{Port}
use Rattle.vx_core.specs.Cores.{IsNew}
use Rattle.core_threads.specs.Joins.{port_in}
use Rattle.core_threads.specs.Works.{CanRun}
use Rattle.core_threads.specs.declared.work.CoreWork.{CoreWork}

-- A core before a launch: it is new and can run, the policy of its cache has begun, its port has the number behind its own and has
-- seen nothing, and its claimer has drawn nothing.
pub record IsSeated {P E : Type 0} (evictor_begins : E → ℕ → E → Type 0) (groups bank_count sets : ℕ) (banks : Banks) (d : Dispenser) (core : ℕ) (w : CoreWork P E) : Type 0 where
  pub can : CanRun d groups w
  pub banks_are : w.bus.banks.now ≡ banks
  pub number_is : w.number ≡ core
  pub core_is : IsNew core bank_count sets w.core
  pub before : E
  pub begun : evictor_begins before core w.evictor
  pub port_is : number w.bus.port ≡ suc core
  pub alone : numbers w.bus.port ≡ one_of (suc core)
  pub none_seen : seen w.bus.port ≡ []
  pub none_gathered : gathered w.claimer ≡ []
  pub makes_none : spare w.claimer ≡ 0

abbrev pub EachSeated : {P E : Type 0} → (E → ℕ → E → Type 0) → ℕ → ℕ → ℕ → Banks → Dispenser → List (CoreWork P E) → Type 0
EachSeated {P} {E} evictor_begins groups bank_count sets banks d works =
    (core : ℕ) (w : CoreWork P E) → core < length works → IsSeated evictor_begins groups bank_count sets banks d core (slice_index_or works core w)

-- All cores, with the first port and the first claimer, from which theirs were made. Nothing has been done yet.
pub record AreSeated {P E : Type 0} (evictor_begins : E → ℕ → E → Type 0) (groups cores bank_count sets : ℕ) (banks : Banks) (p : Port) (d : Dispenser) (c : Claimer) (works : List (CoreWork P E)) : Type 0 where
  pub count : length works ≡ cores
  pub each : EachSeated evictor_begins groups bank_count sets banks d works
  pub port_is : IsOf banks p
  pub first : number p ≡ 0
  pub none_seen : seen p ≡ []
  pub all_numbers : union (numbers p) (map numbers (map port_in works)) ≡ 65535
  pub claimer_is : draws_from d c
  pub none_drawn : lists c ≡ [] ∷ []
  pub all_claimers : spare c + length works ≡ 8
