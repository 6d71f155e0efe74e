use Rattle.std.proofs.Common.{ℕ, ◌<◌, slice_get}
use Rattle.launch_loader.specs.Words.{IsWordIn}
use Rattle.launch_loader.proofs.words.are_word_args.Given as goal

abbrev pub invariant-loop-place : goal.invariant-loop-place
invariant-loop-place l = (k : ℕ) → k < l.place → IsWordIn (slice_get l.args k)
