-- What a core did through its port, said by the entries of the port alone.
use Rattle.std.proofs.Common.{◌≡◌, ℕ, List, [], ◌∷◌, ◌++◌, Option, length, ap, refl, subst, ◌∙◌}
use Rattle.std.proofs.Math.Path.{fun_ext}
use Rattle.group_dispenser.specs.declared.dispenser.Dispenser.{Dispenser}
use Rattle.memory_banks.specs.Buses.{AddsEntry, MakesAll}
use Rattle.memory_banks.specs.Entries.{entries_of}
use Rattle.memory_banks.specs.Ports.{list_of, number, opening_of}
use Rattle.memory_banks.specs.declared.banks.Banks.{Banks}
use Rattle.memory_banks.specs.declared.entry.BusEntry.{BusEntry}
use Rattle.memory_banks.specs.declared.port_bus.PortBus.{PortBus}
use Rattle.vx_isa.specs.declared.image.Image.{Image}
use Rattle.vx_core.specs.CoreSteps.{CoreState, RunsGroup, Setting}
use Rattle.vx_core.specs.declared.end.GroupEnd.{GroupEnd}
use Rattle.vx_core.specs.declared.end.GroupEnd.TheVariants.{Finished}
use Rattle.vx_core.specs.declared.job.GroupJob.{GroupJob}
use Rattle.core_bytes.specs.Deeds.{entries_in}
use Rattle.core_bytes.specs.Mapped.{mapped}
use Rattle.core_bytes.proofs.Covariant.{covariant}
use Rattle.core_bytes.proofs.Entries.{MakesAll-append}
use Rattle.core_bytes.proofs.GroupDeeds.{group_does}
use Rattle.core_bytes.proofs.PortLists.{Added, added}
use Rattle.core_threads.specs.GroupRuns.{AllFinish, FinishAll, LastBreaks, RunsGroups}
use Rattle.core_threads.specs.Joins.{record_of}
use Rattle.core_threads.specs.MachineRuns.{Appends, CoreRan, Plan, setting_at}
use Rattle.core_threads.specs.Starts.{IsSeated}
use Rattle.core_threads.specs.Works.{HasRun, setting_on, state_of, words_of}
use Rattle.core_threads.specs.declared.work.CoreWork.{CoreWork}

-- the entries that were made through a port
abbrev made_by : PortBus → List BusEntry
made_by b = list_of b.port

goes_behind : (b : PortBus) (e : BusEntry) (c : PortBus) → AddsEntry b e c → Appends (made_by b) e (made_by c)
goes_behind b e c adds = adds.steps.list

-- entries lead from one bus to another
record IsMade (b c : PortBus) : Type 0 where
  entries : List BusEntry
  made : MakesAll AddsEntry b entries c

module _ {P E : Type 0} (evicts : E → ℕ → ℕ → ℕ → ℕ → E → Type 0) (begins : P → ℕ → P → Type 0) (picks : P → ℕ → ℕ → P → Type 0) (at : ℕ → Setting) where
  one_mapped : (group : ℕ) (s s' : CoreState PortBus E P) (end : GroupEnd) → RunsGroup AddsEntry evicts begins picks (at group) s end s' → RunsGroup Appends evicts begins picks (at group) (mapped made_by s) end (mapped made_by s')
  one_mapped group s s' end r = covariant AddsEntry Appends made_by goes_behind evicts begins picks (at group) s s' end r

  finish_mapped : (groups : List ℕ) (s s' : CoreState PortBus E P) → FinishAll AddsEntry evicts begins picks at groups s s' → FinishAll Appends evicts begins picks at groups (mapped made_by s) (mapped made_by s')
  finish_mapped [] s s' same = ap (mapped made_by) same
  finish_mapped (group ∷ groups) s s' all = (mapped made_by all.0, one_mapped group s all.0 Finished all.1, finish_mapped groups all.0 s' all.2)

  pub groups_mapped : (groups : List ℕ) (s s' : CoreState PortBus E P) (end : Option GroupEnd) → RunsGroups AddsEntry evicts begins picks at groups s end s'
      → RunsGroups Appends evicts begins picks at groups (mapped made_by s) end (mapped made_by s')
  groups_mapped groups s s' end (AllFinish all none) = AllFinish (finish_mapped groups s s' all) none
  groups_mapped groups s s' end (LastBreaks done last bad between is all ran bad_is end_is) =
      LastBreaks done last bad (mapped made_by between) is (finish_mapped done s between all) (one_mapped last between s' bad ran) bad_is end_is

  one_made : (group : ℕ) (s s' : CoreState PortBus E P) (end : GroupEnd) → RunsGroup AddsEntry evicts begins picks (at group) s end s' → IsMade s.reach.bus s'.reach.bus
  one_made group s s' end r =
      let led = group_does AddsEntry evicts begins picks (at group) s s' end r in
      record { entries = entries_in led.deeds; made = led.leads.made }

  both_made : (b c d : PortBus) → IsMade b c → IsMade c d → IsMade b d
  both_made b c d first next = record { entries = first.entries ++ next.entries; made = MakesAll-append AddsEntry b first.entries c next.entries d first.made next.made }

  finish_made : (groups : List ℕ) (s s' : CoreState PortBus E P) → FinishAll AddsEntry evicts begins picks at groups s s' → IsMade s.reach.bus s'.reach.bus
  finish_made [] s s' same = record { entries = []; made = ap (λ (t : CoreState PortBus E P). t.reach.bus) same }
  finish_made (group ∷ groups) s s' all =
      both_made s.reach.bus all.0.reach.bus s'.reach.bus (one_made group s all.0 Finished all.1) (finish_made groups all.0 s' all.2)

  groups_made : (groups : List ℕ) (s s' : CoreState PortBus E P) (end : Option GroupEnd) → RunsGroups AddsEntry evicts begins picks at groups s end s' → IsMade s.reach.bus s'.reach.bus
  groups_made groups s s' end (AllFinish all none) = finish_made groups s s' all
  groups_made groups s s' end (LastBreaks done last bad between is all ran bad_is end_is) =
      both_made s.reach.bus between.reach.bus s'.reach.bus (finish_made done s between all) (one_made last between s' bad ran)

module _ {P E : Type 0} (evicts : E → ℕ → ℕ → ℕ → ℕ → E → Type 0) (begins : P → ℕ → P → Type 0) (picks : P → ℕ → ℕ → P → Type 0) where
  -- the port behind a core's run: its number, the numbers that it holds, and its banks are as before
  pub port_behind : (image : Image) (job : ℕ → GroupJob) (d : Dispenser) (groups : ℕ) (old new : CoreWork P E) → HasRun evicts begins picks image job d groups old new → (entries : List BusEntry) × Added old.bus entries new.bus
  port_behind image job d groups old new ran =
      let all = groups_made evicts begins picks (setting_on image job old) new.claimed.items (state_of old) (state_of new) new.end ran.runs in
      (all.entries, added old.bus all.entries new.bus all.made)

  setting_is : (evictor_begins : E → ℕ → E → Type 0) (plan : Plan) (banks : Banks) (d : Dispenser) (core : ℕ) (old : CoreWork P E) → IsSeated evictor_begins plan.groups plan.banks plan.sets banks d core old
      → (group : ℕ) → setting_on plan.image plan.job old group ≡ setting_at plan (length (opening_of banks)) core group
  setting_is evictor_begins plan banks d core old seated group =
      let setting : ℕ → ℕ → ℕ → ℕ → Setting = λ c b w p. record { core = c; banks = b; words = w; port = p; image = plan.image; job = plan.job group } in
      ap (λ (c : ℕ). setting c old.core.banks (words_of old) (number old.bus.port)) seated.core_is.number_is
      ∙ ap (λ (b : ℕ). setting core b (words_of old) (number old.bus.port)) seated.core_is.banks_are
      ∙ ap (λ (b : Banks). setting core plan.banks (length (opening_of b)) (number old.bus.port)) seated.banks_are
      ∙ ap (λ (p : ℕ). setting core plan.banks (length (opening_of banks)) p) seated.port_is

  -- what a core did in a launch
  pub core_ran : (evictor_begins : E → ℕ → E → Type 0) (plan : Plan) (banks : Banks) (d : Dispenser) (core : ℕ) (old new : CoreWork P E) (entries : List BusEntry)
      → IsSeated evictor_begins plan.groups plan.banks plan.sets banks d core old → HasRun evicts begins picks plan.image plan.job d plan.groups old new → entries ≡ list_of new.bus.port
      → CoreRan evicts evictor_begins begins picks plan (length (opening_of banks)) core (record_of new) entries
  core_ran evictor_begins plan banks d core old new entries seated ran is = record {
    first = mapped made_by (state_of old);
    last = mapped made_by (state_of new);
    starts = record {
      none_made = ap (λ (es : List BusEntry). entries_of (number old.bus.port) es) seated.none_seen;
      scratch_is = seated.core_is.scratch_is;
      lines_are = seated.core_is.lines_are;
      steps_are = seated.core_is.steps_are;
      tally_is = seated.core_is.tally_is;
      before = seated.before;
      begun = seated.begun;
    };
    runs = subst (λ (at : ℕ → Setting). RunsGroups Appends evicts begins picks at new.claimed.items (mapped made_by (state_of old)) new.end (mapped made_by (state_of new)))
        (fun_ext (setting_is evictor_begins plan banks d core old seated))
        (groups_mapped evicts begins picks (setting_on plan.image plan.job old) new.claimed.items (state_of old) (state_of new) new.end ran.runs);
    entries_are = is;
    counts_are = refl;
  }
