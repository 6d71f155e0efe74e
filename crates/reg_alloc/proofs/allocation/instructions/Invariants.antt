use Rattle.std.proofs.Common.{◌≡◌, ◌+◌, ◌++◌, drop}
use Rattle.vcode.specs.Shapes.{vops_of}
use Rattle.vcode.specs.Words.{words}
use Rattle.simt_lowering.specs.Bounds.{AreWithin}
use Rattle.reg_alloc.specs.Layout.{instrs_from}
use Rattle.reg_alloc.specs.Views.{starts_in}
use Rattle.reg_alloc.proofs.allocation.instructions.Given as goal

-- the instructions so far, and those of what is left
abbrev pub invariant-loop-k : goal.invariant-loop-k
invariant-loop-k l =
    (l.out.items ++ instrs_from l.slots (starts_in l.starts) l.end (vops_of (drop l.k l.ops)) ≡ instrs_from l.slots (starts_in l.starts) 0 (vops_of l.ops))
    × (words (vops_of (drop l.k l.ops)) + l.end ≡ words (vops_of l.ops))
    × AreWithin 256 (vops_of (drop l.k l.ops))
