use Rattle.std.proofs.Common.{◌≢◌, ℕ, ◌<◌, map}
use Rattle.std.specs.Prelude.{slice_get}
use Rattle.vx_words.proofs.numbers.has_distinct_names.Given as goal

abbrev pub invariant-loop-number : goal.invariant-loop-number
invariant-loop-number l = (k j : ℕ) → k < l.number → j < k → slice_get (map (λ b. b.name) l.buffers) j ≢ slice_get (map (λ b. b.name) l.buffers) k
