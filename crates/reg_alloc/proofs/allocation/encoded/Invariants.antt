use Rattle.std.proofs.Common.{◌≡◌, ◌++◌, drop, map}
use Rattle.vx_isa.specs.Words.{word_of}
use Rattle.reg_alloc.proofs.allocation.encoded.Given as goal

-- the words so far, and those of what is left
abbrev pub invariant-loop-k : goal.invariant-loop-k
invariant-loop-k l = l.words.items ++ map word_of (drop l.k l.code) ≡ map word_of l.code
