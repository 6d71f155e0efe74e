use Rattle.std.proofs.Common.{◌≡◌, ◌+◌, ◌++◌, drop}
use Rattle.vcode.specs.Shapes.{vops_of}
use Rattle.vcode.specs.Words.{words}
use Rattle.reg_alloc.specs.Layout.{sites_from}
use Rattle.reg_alloc.proofs.allocation.find_sites.Given as goal

-- the checks so far, and those of what is left
abbrev pub invariant-loop-k : goal.invariant-loop-k
invariant-loop-k l =
    (l.sites.items ++ sites_from l.word (vops_of (drop l.k l.ops)) ≡ sites_from 0 (vops_of l.ops)) × (words (vops_of (drop l.k l.ops)) + l.word ≡ words (vops_of l.ops))
