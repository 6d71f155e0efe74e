use Rattle.std.proofs.Common.{◌≡◌, take}
use Rattle.std.specs.List.{flat_map}
use Rattle.vx_run.specs.Layout.{padded}
use Rattle.vx_run.proofs.layout.lay_out.Given as goal

abbrev pub invariant-loop-content : goal.invariant-loop-content
invariant-loop-content l = l.memory.items ≡ flat_map (padded l.items) (take l.content-index l.contents)
