use Rattle.std.proofs.Common.{◌≡◌, take}
use Rattle.std.specs.List.{flat_map}
use Rattle.vx_run.specs.Layout.{shown_text}
use Rattle.vx_run.proofs.layout.print_buffers.Given as goal

abbrev pub invariant-loop-number : goal.invariant-loop-number
invariant-loop-number l = l.text.items ≡ flat_map (shown_text l.buffers l.items l.memory) (take l.number-index l.shows)
