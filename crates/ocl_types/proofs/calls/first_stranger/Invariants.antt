use Rattle.std.proofs.Common.{◌≡◌, drop}
use Rattle.ocl_types.specs.Exprs.{first_stranger as first_stranger_of}
use Rattle.ocl_types.proofs.calls.first_stranger.Given as goal

-- the first stranger is among the arguments that are left
abbrev pub invariant-loop-place : goal.invariant-loop-place
invariant-loop-place l = first_stranger_of (drop l.place l.params) (drop l.place l.given) ≡ first_stranger_of l.params l.given
