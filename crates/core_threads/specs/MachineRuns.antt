-- A launch on the cores of a machine: what each core did, and the one history of the words that they share. Read `MachineRun` at
-- the end first.
use Rattle.std.specs.Prelude.{◌≡◌, ℕ, suc, ◌<◌, ◌≤◌, ◌==◌, List, [], ◌∷◌, ◌++◌, All, Option, Some, None, count_by, find, length, replicate, slice_get}
use Rattle.std.specs.List.{flat_map}
use Rattle.std.specs.Option.{is_some, option_map, unwrap_or}
use Rattle.std.specs.List.Sorted.{IsStrictlyIncreasing}
use Rattle.vx_isa.specs.declared.image.Image.{Image}
use Rattle.memory_banks.specs.declared.entry.BusEntry.{BusEntry}
use Rattle.memory_banks.specs.Entries.{IsLegal, entries_of, replay}
use Rattle.l1_cache.specs.Lines.{no_lines}
use Rattle.vx_core.specs.Blocks.{zeros}
use Rattle.vx_core.specs.Counting.{no_tally}
use Rattle.vx_core.specs.CoreSteps.{CoreState, Setting, counts_of}
use Rattle.vx_core.specs.declared.end.GroupEnd.{GroupEnd}
use Rattle.vx_core.specs.declared.job.GroupJob.{GroupJob}
use Rattle.core_bytes.specs.BusRuns.{IsOfCore}
use Rattle.core_threads.specs.GroupRuns.{RunsGroups}
use Rattle.core_threads.specs.declared.record.CoreRecord.{CoreRecord}

-- What runs, and on which machine: the image, how many groups there are and the job of each; how many cores there are, by how
-- many banks each counts, and how many sets its cache has.
pub record Plan : Type 0 where
  pub image : Image
  pub groups : ℕ
  pub job : ℕ → GroupJob
  pub cores : ℕ
  pub banks : ℕ
  pub sets : ℕ

-- what stays the same while a group runs on a core, where the cores share so many words; core c has the port c + 1
abbrev pub setting_at : Plan → ℕ → ℕ → ℕ → Setting
setting_at plan words core group = record { core = core; banks = plan.banks; words = words; port = suc core; image = plan.image; job = plan.job group }

-- the entries that a core has made, as its bus: one more goes to the end
abbrev pub Appends : List BusEntry → BusEntry → List BusEntry → Type 0
Appends made e made' = made' ≡ made ++ e ∷ []

-- A core as the launch finds it: it has made no entry and counted nothing, its scratchpad is 0, its cache keeps no line, and the
-- policy of the cache has begun with the core's number.
pub record StartsLaunch {E P : Type 0} (evictor_begins : E → ℕ → E → Type 0) (plan : Plan) (core : ℕ) (s : CoreState (List BusEntry) E P) : Type 0 where
  pub none_made : s.reach.bus ≡ []
  pub scratch_is : s.reach.scratch ≡ zeros 1048576
  pub lines_are : s.reach.lines ≡ no_lines plan.sets 0 0
  pub steps_are : s.reach.steps ≡ replicate 16 0
  pub tally_is : s.tally ≡ no_tally
  pub before : E
  pub begun : evictor_begins before core s.reach.policy

-- What a core did: from such a start it ran the groups of its record in order, made these entries, and had its record's end and
-- counts.
pub record CoreRan {E P : Type 0} (evicts : E → ℕ → ℕ → ℕ → ℕ → E → Type 0) (evictor_begins : E → ℕ → E → Type 0) (begins : P → ℕ → P → Type 0) (picks : P → ℕ → ℕ → P → Type 0) (plan : Plan) (words core : ℕ) (r : CoreRecord) (entries : List BusEntry) : Type 0 where
  pub first : CoreState (List BusEntry) E P
  pub last : CoreState (List BusEntry) E P
  pub starts : StartsLaunch evictor_begins plan core first
  pub runs : RunsGroups Appends evicts begins picks (setting_at plan words core) r.claimed first r.end last
  pub entries_are : entries ≡ last.reach.bus
  pub counts_are : r.counts ≡ counts_of last

-- how often a group stands in the records
abbrev pub times : ℕ → List CoreRecord → ℕ
times group records = count_by (λ g. g == group) (flat_map (λ r. r.claimed) records)

-- The groups of each core ascend, and no group is on two. Where some core had no bad end, each group is on one.
pub record AreClaimed (groups : ℕ) (records : List CoreRecord) : Type 0 where
  pub ascending : All (λ r. IsStrictlyIncreasing r.claimed) records
  pub below : All (λ r. All (λ g. g < groups) r.claimed) records
  pub once : (group : ℕ) → times group records ≤ 1
  pub all : (core : ℕ) (r : CoreRecord) → slice_get records core ≡ Some r → r.end ≡ None → (group : ℕ) → group < groups → times group records ≡ 1

-- the bad end of the least core that has one
abbrev pub least_bad : List CoreRecord → Option GroupEnd
least_bad records = unwrap_or (option_map (λ r. r.end) (find (λ r. is_some r.end) records)) None

-- A run of the machine on words: each core did what its record says. There is one legal history, of which each entry is of some
-- core's port, and those of a core's port are the core's entries, in their order. The words end as the history leaves them.
pub record MachineRun {E P : Type 0} (evicts : E → ℕ → ℕ → ℕ → ℕ → E → Type 0) (evictor_begins : E → ℕ → E → Type 0) (begins : P → ℕ → P → Type 0) (picks : P → ℕ → ℕ → P → Type 0) (plan : Plan) (opening : List ℕ) (records : List CoreRecord) (history : List BusEntry) (final : List ℕ) (end : Option GroupEnd) : Type 0 where
  pub count : length records ≡ plan.cores
  pub claims : AreClaimed plan.groups records
  pub legal : IsLegal opening history
  pub of_cores : All (IsOfCore plan.cores) history
  pub ran : (core : ℕ) (r : CoreRecord) → slice_get records core ≡ Some r → CoreRan evicts evictor_begins begins picks plan (length opening) core r (entries_of (suc core) history)
  pub final_is : final ≡ replay opening history
  pub end_is : end ≡ least_bad records
