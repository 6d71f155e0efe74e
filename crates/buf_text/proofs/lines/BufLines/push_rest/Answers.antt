use Rattle.std.proofs.Common.{◌+◌, ◌++◌, ap, sym, ◌∙◌, append_assoc, arith}
use Rattle.buf_text.specs.Lines.{behind_text, rest_text}
use Rattle.buf_text.proofs.LineLaws.{rest_more}
use Rattle.buf_text.proofs.lines.BufLines.push_rest.Goals as goal

-- the elements so far and one more
pub loop-step-preserved : goal.loop-step-preserved
loop-step-preserved c =
    let lines = c.args.self.now in
    let words = c.args.words.now in
    let step = c.loop-step.step in
    c.in_ok-push_behind.ensures ∙ ap (λ x. x ++ behind_text words lines.elem lines.at (c.args.first + step)) c.loop-step.invariant
    ∙ append_assoc c.args.text.now.items (rest_text words lines.elem lines.at c.args.first step) (behind_text words lines.elem lines.at (c.args.first + step))
    ∙ ap (λ x. c.args.text.now.items ++ x) (sym (rest_more words lines.elem lines.at c.args.first step (omega arith)))
