use Rattle.std.proofs.Common.{◌≡◌, ◌++◌}
use Rattle.buf_text.specs.Lines.{rest_text}
use Rattle.buf_text.proofs.lines.BufLines.push_rest.Given as goal

abbrev pub invariant-loop-step : goal.invariant-loop-step
invariant-loop-step l = l.text.items ≡ l.fn.text.items ++ rest_text l.words l.self.elem l.self.at l.first l.step
