use Rattle.std.proofs.Common.{◌≡◌, ◌+◌, ◌++◌, drop}
use Rattle.vcode.specs.Shapes.{vops_of}
use Rattle.vcode.specs.Words.{words}
use Rattle.reg_alloc.specs.Views.{starts_from}
use Rattle.reg_alloc.proofs.starts.find_starts.Given as goal

-- the starts so far, and those of what is left
abbrev pub invariant-loop-k : goal.invariant-loop-k
invariant-loop-k l =
    (l.list.items ++ starts_from l.end (vops_of (drop l.k l.ops)) ≡ starts_from 0 (vops_of l.ops)) × (words (vops_of (drop l.k l.ops)) + l.end ≡ words (vops_of l.ops))
