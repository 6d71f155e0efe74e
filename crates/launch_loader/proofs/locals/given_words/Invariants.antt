use Rattle.std.proofs.Common.{◌≡◌, ◌*◌, ◌^◌, ◌≤◌}
use Rattle.launch_loader.specs.Locals.{given_at, words_below}
use Rattle.launch_loader.proofs.locals.given_words.Given as goal

abbrev pub invariant-loop-place : goal.invariant-loop-place
invariant-loop-place l = (l.bytes ≡ words_below (given_at l.kinds l.args) l.place) × (l.bytes ≤ l.place * 2 ^ 36)
