use Rattle.std.proofs.Common.{◌≡◌, ◌++◌, drop, map}
use Rattle.simt_lowering.specs.Laid.{kind_of}
use Rattle.kernel_images.proofs.parts.kinds_of.Given as goal

-- the kinds so far, and those of what is left
abbrev pub invariant-loop-param : goal.invariant-loop-param
invariant-loop-param l = l.items.items ++ map kind_of (drop l.param-index l.params) ≡ map kind_of l.params
