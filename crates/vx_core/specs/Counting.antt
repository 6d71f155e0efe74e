-- What a core counts.
use Rattle.std.specs.Prelude.{ℕ, List, max}
use Rattle.vx_isa.specs.declared.warps.Step.{Step}
use Rattle.vx_isa.specs.declared.warps.Step.TheVariants as step
use Rattle.vx_core.specs.Places.{more}
use Rattle.l1_cache.specs.Lines.{Lines}
use Rattle.vx_core.specs.declared.counts.CoreCounts.{CoreCounts}
use Rattle.vx_core.specs.declared.counts.Tally.{Tally}

abbrev pub no_tally : Tally
no_tally = record { instructions = 0; splits = 0; diverged = 0; depth = 0 }

-- whether an instruction was a `split` that did not trap, and whether it found lanes for both sides
abbrev pub splits_in : Step → ℕ
splits_in step.Diverged = 1
splits_in step.Agreed = 1
splits_in outcome = 0

abbrev pub diverged_in : Step → ℕ
diverged_in step.Diverged = 1
diverged_in outcome = 0

-- an instruction ended so, and left a divergence stack of so many entries
abbrev pub tally_after : Step → ℕ → Tally → Tally
tally_after outcome depth t = record {
  instructions = more t.instructions 1;
  splits = more t.splits (splits_in outcome);
  diverged = more t.diverged (diverged_in outcome);
  depth = max t.depth depth;
}

-- its counts: those of its instructions, those of its cache, and the entries on each bank
abbrev pub counts_in : Tally → Lines → List ℕ → CoreCounts
counts_in tally lines steps = record {
  instructions = tally.instructions;
  splits = tally.splits;
  diverged = tally.diverged;
  depth = tally.depth;
  hits = lines.hits;
  misses = lines.misses;
  banks = steps;
}
