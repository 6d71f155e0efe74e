use Rattle.std.proofs.Common.{◌≡◌, ◌++◌, take}
use Rattle.vx_run.specs.Output.{rest_text}
use Rattle.vx_run.proofs.output.push_rest.Given as goal

abbrev pub invariant-loop-word : goal.invariant-loop-word
invariant-loop-word l = l.text.items ≡ l.fn.text.items ++ rest_text (take l.word-index l.words)
