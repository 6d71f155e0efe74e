use Rattle.std.proofs.Common.{◌≡◌, drop}
use Rattle.ocl_types.specs.Exprs.{first_not_word as first_not_word_of}
use Rattle.ocl_types.proofs.calls.first_not_word.Given as goal

-- the first that is not a word is among the arguments that are left
abbrev pub invariant-loop-one : goal.invariant-loop-one
invariant-loop-one l = first_not_word_of (drop l.one-index l.given) ≡ first_not_word_of l.given
