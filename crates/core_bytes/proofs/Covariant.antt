-- A map of buses that keeps each entry keeps the runs of groups.
use Rattle.std.proofs.Common.{ℕ, zero, suc, List, [], ◌∷◌, ap}
use Rattle.std.specs.Prelude.{Option, Some, None}
use Rattle.vx_base.specs.declared.types.Size.{Size}
use Rattle.vx_isa.specs.WarpSteps.{Access, LaneAccess, Makes, Reads, Writes}
use Rattle.memory_banks.specs.declared.entry.BusEntry.{BusEntry}
use Rattle.vx_core.specs.CoreSteps.{CoreState, Ends, GoesOn, Runs, RunsGroup, RunsOut, Setting, StepsOnce}
use Rattle.vx_core.specs.Places.{DrainsWords, Reach, Reaches, ReadsAt, WritesAt, place_at}
use Rattle.vx_core.specs.declared.end.GroupEnd.{GroupEnd}
use Rattle.vx_core.specs.declared.place.Place.{Place}
use Rattle.vx_core.specs.declared.place.Place.TheVariants as place
use Rattle.core_bytes.specs.Mapped.{mapped, mapped_reach}
use Rattle.core_bytes.proofs.Entries.{MakesAll-map}

module _ {B C E : Type 0} (acts : B → BusEntry → B → Type 0) (acts' : C → BusEntry → C → Type 0) (f : B → C) (keeps : (b : B) (e : BusEntry) (c : B) → acts b e c → acts' (f b) e (f c)) (evicts : E → ℕ → ℕ → ℕ → ℕ → E → Type 0) where
  read_mapped : (port banks : ℕ) (at : Place) (p q : Reach B E) (size : Size) (answer : ℕ) → ReadsAt acts evicts port banks at p size answer q → ReadsAt acts' evicts port banks at (mapped_reach f p) size answer (mapped_reach f q)
  read_mapped port banks (place.Scratchpad offset) p q size answer r = record { answer_is = r.answer_is; same = ap (mapped_reach f) r.same }
  read_mapped port banks (place.Words offset) p q size answer r = record {
    aligned = r.aligned;
    read = record { entries = r.read.entries; made = MakesAll-map acts acts' f keeps p.bus r.read.entries q.bus r.read.made; read = r.read.read };
    counted = r.counted;
    same_scratch = r.same_scratch;
  }
  read_mapped port banks place.Outside p q size answer r = r

  write_mapped : (port banks : ℕ) (at : Place) (p q : Reach B E) (size : Size) (value : ℕ) → WritesAt acts port banks at p size value q → WritesAt acts' port banks at (mapped_reach f p) size value (mapped_reach f q)
  write_mapped port banks (place.Scratchpad offset) p q size value w = ap (mapped_reach f) w
  write_mapped port banks (place.Words offset) p q size value w = record {
    aligned = w.aligned;
    written = record { entries = w.written.entries; made = MakesAll-map acts acts' f keeps p.bus w.written.entries q.bus w.written.made; written = w.written.written };
    counted = w.counted;
    same_scratch = w.same_scratch;
    same_policy = w.same_policy;
  }
  write_mapped port banks place.Outside p q size value w = w

  access_mapped : (words port banks : ℕ) (a : Access) (p q : Reach B E) → Reaches acts evicts words port banks p a q → Reaches acts' evicts words port banks (mapped_reach f p) a (mapped_reach f q)
  access_mapped words port banks (Reads address size answer) p q r = read_mapped port banks (place_at words address size) p q size answer r
  access_mapped words port banks (Writes address size value) p q w = write_mapped port banks (place_at words address size) p q size value w

  accesses_mapped : (words port banks : ℕ) (accesses : List LaneAccess) (p q : Reach B E) → Makes (Reaches acts evicts words port banks) p accesses q → Makes (Reaches acts' evicts words port banks) (mapped_reach f p) accesses (mapped_reach f q)
  accesses_mapped words port banks [] p q e = ap (mapped_reach f) e
  accesses_mapped words port banks (a ∷ accesses) p q made =
      (mapped_reach f made.0, access_mapped words port banks a.access p made.0 made.1, accesses_mapped words port banks accesses made.0 q made.2)

  drain_mapped : (port banks : ℕ) (p q : Reach B E) → DrainsWords acts port banks p q → DrainsWords acts' port banks (mapped_reach f p) (mapped_reach f q)
  drain_mapped port banks p q d = record {
    drained = record { entries = d.drained.entries; made = MakesAll-map acts acts' f keeps p.bus d.drained.entries q.bus d.drained.made; drained = d.drained.drained };
    counted = d.counted;
    same_scratch = d.same_scratch;
    same_policy = d.same_policy;
  }

module _ {B C E P : Type 0} (acts : B → BusEntry → B → Type 0) (acts' : C → BusEntry → C → Type 0) (f : B → C) (keeps : (b : B) (e : BusEntry) (c : B) → acts b e c → acts' (f b) e (f c)) (evicts : E → ℕ → ℕ → ℕ → ℕ → E → Type 0) (begins : P → ℕ → P → Type 0) (picks : P → ℕ → ℕ → P → Type 0) (g : Setting) where
  step_mapped : (s s' : CoreState B E P) (end : Option GroupEnd) → StepsOnce acts evicts picks g s end s' → StepsOnce acts' evicts picks g (mapped f s) end (mapped f s')
  step_mapped s s' end step = record {
    warp = step.warp;
    is_ready = step.is_ready;
    picked = step.picked;
    outcome = step.outcome;
    moved = step.moved;
    took = record {
      answers = step.took.answers;
      made = accesses_mapped acts acts' f keeps evicts g.words g.port g.banks _ s.reach s'.reach step.took.made;
      warp_is = step.took.warp_is;
      outcome_is = step.took.outcome_is;
    };
    crew_is = step.crew_is;
    tally_is = step.tally_is;
    end_is = step.end_is;
  }

  goes_mapped : (n : ℕ) (s s' : CoreState B E P) → GoesOn acts evicts picks g n s s' → GoesOn acts' evicts picks g n (mapped f s) (mapped f s')
  goes_mapped zero s s' e = ap (mapped f) e
  goes_mapped (suc n) s s' goes = (mapped f goes.0, goes_mapped n s goes.0 goes.1, step_mapped goes.0 s' None goes.2)

  runs_mapped : (s s' : CoreState B E P) (end : GroupEnd) → Runs acts evicts picks g s end s' → Runs acts' evicts picks g (mapped f s) end (mapped f s')
  runs_mapped s s' end (Ends n last below goes step) = Ends n (mapped f last) below (goes_mapped n s last goes) (step_mapped last s' (Some end) step)
  runs_mapped s s' end (RunsOut goes out) = RunsOut (goes_mapped g.job.turns s s' goes) out

  -- the runs of groups
  pub covariant : (s s' : CoreState B E P) (end : GroupEnd) → RunsGroup acts evicts begins picks g s end s' → RunsGroup acts' evicts begins picks g (mapped f s) end (mapped f s')
  covariant s s' end r = record {
    first = mapped f r.first;
    last = mapped f r.last;
    opened = record { crew = r.opened.crew; same_tally = r.opened.same_tally; reach_is = ap (mapped_reach f) r.opened.reach_is; begun = r.opened.begun };
    runs = runs_mapped r.first r.last end r.runs;
    closed = record {
      drained = drain_mapped acts acts' f keeps evicts g.port g.banks r.last.reach s'.reach r.closed.drained;
      same_crew = r.closed.same_crew;
      same_tally = r.closed.same_tally;
      same_picker = r.closed.same_picker;
    };
  }
