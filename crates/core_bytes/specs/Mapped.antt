-- A core on another bus, where each bus has one that stands for it.
use Rattle.vx_core.specs.CoreSteps.{CoreState}
use Rattle.vx_core.specs.Places.{Reach}

abbrev pub mapped_reach : {B C E : Type 0} → (B → C) → Reach B E → Reach C E
mapped_reach f p = record { scratch = p.scratch; lines = p.lines; bus = f p.bus; policy = p.policy; steps = p.steps }

abbrev pub mapped : {B C E P : Type 0} → (B → C) → CoreState B E P → CoreState C E P
mapped f s = record { crew = s.crew; tally = s.tally; reach = mapped_reach f s.reach; picker = s.picker }
