use Rattle.std.specs.Prelude.{◌+◌, ◌*◌, ◌≤◌, length}
use Rattle.vx_base.specs.Values.{elem_bytes}
use Rattle.text_speed.proofs.print_lines.Given as goal

abbrev pub invariant-loop-count : goal.invariant-loop-count
invariant-loop-count l = record { room : l.lines.at + elem_bytes l.lines.elem * l.lines.count ≤ 4 * length l.words }
