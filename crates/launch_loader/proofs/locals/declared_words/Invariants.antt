use Rattle.std.proofs.Common.{◌≡◌, ◌*◌, ◌^◌, ◌≤◌}
use Rattle.std.specs.Prelude.{slice_index}
use Rattle.launch_loader.specs.Locals.{words_below}
use Rattle.launch_loader.proofs.locals.declared_words.Given as goal

abbrev pub invariant-loop-place : goal.invariant-loop-place
invariant-loop-place l = (l.bytes ≡ words_below (slice_index l.sizes) l.place) × (l.bytes ≤ l.place * 2 ^ 36)
