-- A worked run of a machine, computed from the definitions: two cores on one word, and one group, which may take no instruction. The
-- second core claims it, so its end is that of the run.
use Rattle.std.proofs.Common.{◌≡◌, ℕ, zero, suc, ◌<◌, List, [], ◌∷◌, Option, Some, None, All, cond, eqb, replicate, refl, sym, subst, ap, arith, slice_get, true≢false, is_some, Bool, true, false, ne_eqb, ◌≤◌, ◌+◌}
use Rattle.std.specs.List.Sorted.{IsStrictlyIncreasing}
use Rattle.std.proofs.lemmas.List.Elements.{All-from_recursion, All-nil}
use Rattle.vx_isa.specs.Warps.{started}
use Rattle.vx_isa.specs.WarpSteps.{code_start}
use Rattle.vx_isa.specs.declared.image.Image.{Image}
use Rattle.memory_banks.specs.Entries.{entries_of, load_entry, replay, store_entry}
use Rattle.memory_banks.specs.declared.entry.BusEntry.{BusEntry}
use Rattle.l1_cache.specs.Lines.{no_lines}
use Rattle.vx_core.specs.Blocks.{with_block, with_zeros, zeros}
use Rattle.vx_core.specs.Counting.{no_tally}
use Rattle.vx_core.specs.CoreSteps.{CoreState, RunsGroup, RunsOut, counts_of}
use Rattle.vx_core.specs.Crews.{CrewState, Opens}
use Rattle.vx_core.specs.declared.end.GroupEnd.TheVariants.{Turns}
use Rattle.vx_core.specs.declared.job.GroupJob.{GroupJob}
use Rattle.core_bytes.specs.BusRuns.{IsOfCore}
use Rattle.core_threads.specs.GroupRuns.{AllFinish, LastBreaks}
use Rattle.core_threads.specs.MachineRuns.{Appends, AreClaimed, CoreRan, MachineRun, Plan, StartsLaunch, setting_at, times}
use Rattle.core_threads.specs.declared.record.CoreRecord.{CoreRecord}

-- policies that are never asked
abbrev Any : Type 0
Any = Unit {0}

abbrev evicts : Any → ℕ → ℕ → ℕ → ℕ → Any → Type 0
evicts before set oldest ways way after = Any

abbrev begins : Any → ℕ → Any → Type 0
begins before number after = Any

abbrev picks : Any → ℕ → ℕ → Any → Type 0
picks before ready warp after = Any

abbrev the_some : {A : Type 0} → A → Option A → A
the_some d (Some a) = a
the_some d None = d

at_most_one : (b : Bool) → 0 + cond b 1 0 ≤ 1
at_most_one true = omega arith
at_most_one false = omega arith

module _ (image : Image) where
  abbrev the_job : GroupJob
  the_job = record { warps = 1; lanes = 1; local = 1; group = 0; block = []; clear = 0; turns = 0 }

  abbrev the_plan : Plan
  the_plan = record { image = image; groups = 1; job = λ group. the_job; cores = 2; banks = 1; sets = 1 }

  abbrev crew : CrewState
  crew = record { warps = λ w. started code_start (cond (eqb w 0) 1 0); begun = 1; barriers = replicate 16 0 }

  -- a core that has done nothing, and the same with the scratchpad that a group finds
  abbrev idle : CoreState (List BusEntry) Any Any
  idle = record { crew = crew; tally = no_tally; reach = record { scratch = zeros 1048576; lines = no_lines 1 0 0; bus = []; policy = tt; steps = replicate 16 0 }; picker = tt }

  abbrev opened : CoreState (List BusEntry) Any Any
  opened = record { crew = crew; tally = no_tally; reach = record { scratch = with_block [] (with_zeros 0 (zeros 1048576)); lines = no_lines 1 0 0; bus = []; policy = tt; steps = replicate 16 0 }; picker = tt }

  abbrev none_claimed : CoreRecord
  none_claimed = record { claimed = []; counts = counts_of idle; end = None }

  abbrev one_claimed : CoreRecord
  one_claimed = record { claimed = 0 ∷ []; counts = counts_of opened; end = Some (Turns 0) }

  abbrev records : List CoreRecord
  records = none_claimed ∷ one_claimed ∷ []

  opens : Opens crew
  opens = record {
    first = refl;
    others = λ w apart. ap (λ (b : Bool). cond b 1 0) (ne_eqb w 0 apart);
    begun_is = refl;
    none_wait = refl;
  }

  starts : (core : ℕ) → StartsLaunch {E = Any} {P = Any} begins the_plan core idle
  starts core = record { none_made = refl; scratch_is = refl; lines_are = refl; steps_are = refl; tally_is = refl; before = tt; begun = tt }

  -- the group, which may take no instruction
  runs : RunsGroup Appends evicts begins picks (setting_at the_plan 1 1 0) idle (Turns 0) opened
  runs = record {
    first = opened;
    last = opened;
    opened = record { crew = opens; same_tally = refl; reach_is = refl; begun = tt };
    runs = RunsOut refl refl;
    closed = record {
      drained = record { drained = record { entries = []; made = refl; drained = record { carries = refl; lines_are = refl } }; counted = refl; same_scratch = refl; same_policy = refl };
      same_crew = refl;
      same_tally = refl;
      same_picker = refl;
    };
  }

  its_cores : (core : ℕ) (r : CoreRecord) → slice_get records core ≡ Some r → CoreRan evicts begins begins picks the_plan 1 core r []
  its_cores zero r is =
      subst (λ (q : CoreRecord). CoreRan evicts begins begins picks the_plan 1 0 q []) (ap (the_some none_claimed) is)
      (record { first = idle; last = idle; starts = starts 0; runs = AllFinish refl refl; entries_are = refl; counts_are = refl })
  its_cores (suc zero) r is =
      subst (λ (q : CoreRecord). CoreRan evicts begins begins picks the_plan 1 1 q []) (ap (the_some one_claimed) is)
      (record { first = idle; last = opened; starts = starts 1; runs = LastBreaks [] 0 (Turns 0) idle refl refl runs refl refl; entries_are = refl; counts_are = refl })
  its_cores (suc (suc core)) r is = absurd (true≢false (sym (ap is_some is)))

  -- of one group the second core has claimed each
  its_groups : (core : ℕ) (r : CoreRecord) → slice_get records core ≡ Some r → r.end ≡ None → (group : ℕ) → group < 1 → times group records ≡ 1
  its_groups core r is none zero below = refl
  its_groups core r is none (suc group) below = absurd (omega arith)

  at_most_once : (group : ℕ) → times group records ≤ 1
  at_most_once group = at_most_one (eqb 0 group)

  claims : AreClaimed 1 records
  claims = record {
    ascending = All-from_recursion (λ (r : CoreRecord). IsStrictlyIncreasing r.claimed) records ((λ k within. absurd (omega arith)), ((λ k within. absurd (omega arith)), tt));
    below = All-from_recursion (λ (r : CoreRecord). All (λ g. g < 1) r.claimed) records (All-nil (λ g. g < 1), (All-from_recursion (λ g. g < 1) (0 ∷ []) (omega arith, tt), tt));
    once = at_most_once;
    all = its_groups;
  }

  pub worked_run : MachineRun evicts begins begins picks the_plan (7 ∷ []) records [] (7 ∷ []) (Some (Turns 0))
  worked_run = record {
    count = refl;
    claims = claims;
    legal = tt;
    of_cores = All-nil (IsOfCore 2);
    ran = its_cores;
    final_is = refl;
    end_is = refl;
  }

-- A history of two cores: what stands in it of each, and the words that it leaves.
abbrev its_history : List BusEntry
its_history = store_entry 2 0 5 ∷ load_entry 1 0 5 ∷ store_entry 2 1 6 ∷ []

pub of_first : entries_of 1 its_history ≡ load_entry 1 0 5 ∷ []
of_first = refl

pub of_second : entries_of 2 its_history ≡ store_entry 2 0 5 ∷ store_entry 2 1 6 ∷ []
of_second = refl

pub left : replay (1 ∷ 2 ∷ []) its_history ≡ 5 ∷ 6 ∷ []
left = refl
