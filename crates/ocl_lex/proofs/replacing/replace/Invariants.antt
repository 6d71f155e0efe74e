use Rattle.std.proofs.Common.{◌≡◌, ◌++◌, ◌+◌, ◌*◌, List}
use Rattle.indexmap.specs.IndexMap.{index_map_len}
use Rattle.ocl_lex.specs.Events.{Event}
use Rattle.ocl_lex.specs.Frames.{inner_events, pending}
use Rattle.ocl_lex.specs.Macros.{without}
use Rattle.ocl_lex.specs.Telling.{answer}
use Rattle.ocl_lex.proofs.replacing.replace.Given as goal

abbrev pub invariant-loop-frames : goal.invariant-loop-frames
invariant-loop-frames l =
    (more : List Event) → answer l.out (pending l.text l.at l.macros l.frames.entries ++ more) ≡ answer l.fn.out (inner_events l.text l.at (without l.name l.macros) l.body ++ more)

abbrev pub decreases-loop-frames : goal.decreases-loop-frames
decreases-loop-frames l = 2 * l.out.left + index_map_len l.frames
