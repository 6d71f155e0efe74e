-- A run of a group, step by step.
use Rattle.std.proofs.Common.{◌≡◌, ℕ, suc, ◌<◌, List, [], Option, Some, None, ap, ◌∙◌, subst, arith, refl}
use Rattle.vx_isa.specs.declared.image.Image.{Image}
use Rattle.memory_banks.specs.declared.entry.BusEntry.{BusEntry}
use Rattle.l1_cache.specs.Caches.{lines_of}
use Rattle.l1_cache.specs.Lines.{Lines}
use Rattle.vx_core.specs.Blocks.{with_zeros, with_block}
use Rattle.vx_core.specs.CoreSteps.{ClosesGroup, CoreState, Ends, GoesOn, OpensGroup, RunsGroup, RunsOut, Setting, StepsOnce}
use Rattle.vx_core.specs.Cores.{KeepsNumbers, core_crew, core_state, setting_of}
use Rattle.vx_core.specs.Crews.{Opens, ready_warps}
use Rattle.vx_core.specs.Places.{Reach}
use Rattle.vx_core.specs.declared.core_run.Core.{Core}
use Rattle.vx_core.specs.declared.end.GroupEnd.{GroupEnd}
use Rattle.vx_core.specs.declared.end.GroupEnd.TheVariants.{Turns}
use Rattle.vx_core.specs.declared.job.GroupJob.{GroupJob}
use Rattle.vx_core.proofs.SetLaws.{ready-opening}

-- the core as a group finds it
pub opens_group : {B E P : Type 0} (begins : P → ℕ → P → Type 0) (old new : Core) (bus : B) (evict : E) (pick picker : P) (job : GroupJob) →
    Opens (core_crew new) → new.scratch ≡ with_block job.block (with_zeros job.clear old.scratch) → new.cache ≡ old.cache → new.steps ≡ old.steps → new.tally ≡ old.tally → begins pick job.group picker →
    OpensGroup begins job (core_state old bus evict pick) (core_state new bus evict picker)
opens_group {B} {E} {P} begins old new bus evict pick picker job crew scratch lines steps tally begun =
    let reach : List ℕ → Lines → List ℕ → Reach B E = λ s l n. record { scratch = s; lines = l; bus = bus; policy = evict; steps = n } in
    record {
      crew = crew;
      same_tally = tally;
      reach_is =
          ap (λ (s : List ℕ). reach s (lines_of new.cache) new.steps) scratch
          ∙ ap (λ (l : Lines). reach (with_block job.block (with_zeros job.clear old.scratch)) l new.steps) (ap lines_of lines)
          ∙ ap (λ (n : List ℕ). reach (with_block job.block (with_zeros job.clear old.scratch)) (lines_of old.cache) n) steps;
      begun = begun;
    }

-- no change waits in its cache
pub closes_group : {B E P : Type 0} (acts : B → BusEntry → B → Type 0) (g : Setting) (core : Core) (bus : B) (evict : E) (pick : P) → ClosesGroup acts g (core_state core bus evict pick) (core_state core bus evict pick)
closes_group acts g core bus evict pick = record {
  drained = record {
    drained = record { entries = []; made = refl; drained = record { carries = refl; lines_are = refl } };
    counted = refl;
    same_scratch = refl;
    same_policy = refl;
  };
  same_crew = refl;
  same_tally = refl;
  same_picker = refl;
}

-- a group goes on: it has taken so many steps, none of which ended it, and some warp can take the next
pub record IsGoing {B E P : Type 0} (acts : B → BusEntry → B → Type 0) (evicts : E → ℕ → ℕ → ℕ → ℕ → E → Type 0) (picks : P → ℕ → ℕ → P → Type 0) (is_sound : B → Type 0) (count number : B → ℕ) (image : Image) (job : GroupJob) (old : Core) (old_bus : B) (first : CoreState B E P) (turn : ℕ) (core : Core) (bus : B) (evict : E) (pick : P) : Type 0 where
  pub goes : GoesOn acts evicts picks (setting_of old (count old_bus) (number old_bus) image job) turn first (core_state core bus evict pick)
  pub some_ready : ready_warps (core_crew core) ≡ 0 → ⊥
  pub same_core : KeepsNumbers old core
  pub sound : is_sound bus
  pub words : count bus ≡ count old_bus
  pub port : number bus ≡ number old_bus

-- what stays the same stays the same
setting_of-same : (old core : Core) (words port words' port' : ℕ) (image : Image) (job : GroupJob) → KeepsNumbers old core → words' ≡ words → port' ≡ port → setting_of core words' port' image job ≡ setting_of old words port image job
setting_of-same old core words port words' port' image job kept same_words same_port =
    let setting : ℕ → ℕ → ℕ → ℕ → Setting = λ c b w p. record { core = c; banks = b; words = w; port = p; image = image; job = job } in
    ap (λ (c : ℕ). setting c core.banks words' port') kept.number
    ∙ ap (λ (b : ℕ). setting old.number b words' port') kept.banks
    ∙ ap (λ (w : ℕ). setting old.number old.banks w port') same_words
    ∙ ap (λ (p : ℕ). setting old.number old.banks words p) same_port

-- before the first step
pub none_gone : {B E P : Type 0} (acts : B → BusEntry → B → Type 0) (evicts : E → ℕ → ℕ → ℕ → ℕ → E → Type 0) (picks : P → ℕ → ℕ → P → Type 0) (is_sound : B → Type 0) (count number : B → ℕ) (image : Image) (job : GroupJob) (old : Core) (bus : B) (evict : E) (picker : P) (core : Core) →
    Opens (core_crew core) → KeepsNumbers old core → is_sound bus →
    IsGoing acts evicts picks is_sound count number image job old bus (core_state core bus evict picker) 0 core bus evict picker
none_gone acts evicts picks is_sound count number image job old bus evict picker core crew kept sound = record {
  goes = refl;
  some_ready = λ none. let one : ready_warps (core_crew core) ≡ 1 = ready-opening (core_crew core) crew in let bad : ⊥ = omega (arith, one, none) in bad;
  same_core = kept;
  sound = sound;
  words = refl;
  port = refl;
}

-- a step in the terms of the group's beginning
same_step : {B E P : Type 0} {acts : B → BusEntry → B → Type 0} {evicts : E → ℕ → ℕ → ℕ → ℕ → E → Type 0} {picks : P → ℕ → ℕ → P → Type 0} (count number : B → ℕ) (image : Image) (job : GroupJob) (old : Core) (old_bus : B) (core : Core) (bus : B) (s s' : CoreState B E P) (end : Option GroupEnd) →
    KeepsNumbers old core → count bus ≡ count old_bus → number bus ≡ number old_bus → StepsOnce acts evicts picks (setting_of core (count bus) (number bus) image job) s end s' → StepsOnce acts evicts picks (setting_of old (count old_bus) (number old_bus) image job) s end s'
same_step {acts = acts} {evicts = evicts} {picks = picks} count number image job old old_bus core bus s s' end kept words port step =
    subst (λ (g : Setting). StepsOnce acts evicts picks g s end s') (setting_of-same old core (count old_bus) (number old_bus) (count bus) (number bus) image job kept words port) step

-- one step more
pub one_more_gone : {B E P : Type 0} (acts : B → BusEntry → B → Type 0) (evicts : E → ℕ → ℕ → ℕ → ℕ → E → Type 0) (picks : P → ℕ → ℕ → P → Type 0) (is_sound : B → Type 0) (count number : B → ℕ) (image : Image) (job : GroupJob) (old : Core) (old_bus : B) (first : CoreState B E P) (turn : ℕ) (core : Core) (bus : B) (evict : E) (pick : P) →
    IsGoing acts evicts picks is_sound count number image job old old_bus first turn core bus evict pick →
    (core' : Core) (bus' : B) (evict' : E) (pick' : P) →
    StepsOnce acts evicts picks (setting_of core (count bus) (number bus) image job) (core_state core bus evict pick) None (core_state core' bus' evict' pick') →
    (ready_warps (core_crew core') ≡ 0 → ⊥) → KeepsNumbers core core' → is_sound bus' → count bus' ≡ count bus → number bus' ≡ number bus →
    IsGoing acts evicts picks is_sound count number image job old old_bus first (suc turn) core' bus' evict' pick'
one_more_gone acts evicts picks is_sound count number image job old old_bus first turn core bus evict pick going core' bus' evict' pick' step some kept sound words port = record {
  goes = (core_state core bus evict pick, going.goes, same_step count number image job old old_bus core bus (core_state core bus evict pick) (core_state core' bus' evict' pick') None going.same_core going.words going.port step);
  some_ready = some;
  same_core = record { number = kept.number ∙ going.same_core.number; banks = kept.banks ∙ going.same_core.banks };
  sound = sound;
  words = words ∙ going.words;
  port = port ∙ going.port;
}

-- a step that ends the group
pub group_ended : {B E P : Type 0} (acts : B → BusEntry → B → Type 0) (evicts : E → ℕ → ℕ → ℕ → ℕ → E → Type 0) (begins : P → ℕ → P → Type 0) (picks : P → ℕ → ℕ → P → Type 0) (is_sound : B → Type 0) (count number : B → ℕ) (image : Image) (job : GroupJob) (old : Core) (old_bus : B) (old_evict : E) (old_pick : P) (first : CoreState B E P) (turn : ℕ) (core : Core) (bus : B) (evict : E) (pick : P) →
    OpensGroup begins job (core_state old old_bus old_evict old_pick) first → turn < job.turns →
    IsGoing acts evicts picks is_sound count number image job old old_bus first turn core bus evict pick →
    (core' : Core) (bus' : B) (evict' : E) (pick' : P) (end : GroupEnd) →
    StepsOnce acts evicts picks (setting_of core (count bus) (number bus) image job) (core_state core bus evict pick) (Some end) (core_state core' bus' evict' pick') →
    RunsGroup acts evicts begins picks (setting_of old (count old_bus) (number old_bus) image job) (core_state old old_bus old_evict old_pick) end (core_state core' bus' evict' pick')
group_ended acts evicts begins picks is_sound count number image job old old_bus old_evict old_pick first turn core bus evict pick opened below going core' bus' evict' pick' end step = record {
  first = first;
  last = core_state core' bus' evict' pick';
  opened = opened;
  runs = Ends turn (core_state core bus evict pick) below going.goes (same_step count number image job old old_bus core bus (core_state core bus evict pick) (core_state core' bus' evict' pick') (Some end) going.same_core going.words going.port step);
  closed = closes_group acts (setting_of old (count old_bus) (number old_bus) image job) core' bus' evict' pick';
}

-- as many steps as the group may take
pub turns_gone : {B E P : Type 0} (acts : B → BusEntry → B → Type 0) (evicts : E → ℕ → ℕ → ℕ → ℕ → E → Type 0) (begins : P → ℕ → P → Type 0) (picks : P → ℕ → ℕ → P → Type 0) (is_sound : B → Type 0) (count number : B → ℕ) (image : Image) (job : GroupJob) (old : Core) (old_bus : B) (old_evict : E) (old_pick : P) (first : CoreState B E P) (turn : ℕ) (core : Core) (bus : B) (evict : E) (pick : P) →
    OpensGroup begins job (core_state old old_bus old_evict old_pick) first → turn ≡ job.turns →
    IsGoing acts evicts picks is_sound count number image job old old_bus first turn core bus evict pick →
    RunsGroup acts evicts begins picks (setting_of old (count old_bus) (number old_bus) image job) (core_state old old_bus old_evict old_pick) (Turns job.turns) (core_state core bus evict pick)
turns_gone acts evicts begins picks is_sound count number image job old old_bus old_evict old_pick first turn core bus evict pick opened all going = record {
  first = first;
  last = core_state core bus evict pick;
  opened = opened;
  runs = RunsOut (subst (λ (n : ℕ). GoesOn acts evicts picks (setting_of old (count old_bus) (number old_bus) image job) n first (core_state core bus evict pick)) all going.goes) refl;
  closed = closes_group acts (setting_of old (count old_bus) (number old_bus) image job) core bus evict pick;
}
