use Rattle.std.proofs.Common.{◌-◌, ◌*◌, ◌≤◌, ◌++◌, length, take, drop, arith, ap, ◌∙◌, sym, append_assoc}
use Rattle.std.specs.List.{flat_map, range_with_len}
use Rattle.vx_run.specs.Output.{line_at, row_text}
use Rattle.vx_run.proofs.OutputLaws.{take_cut, flat_map-more}
use Rattle.vx_run.proofs.output.push_lines.Goals as goal

-- the lines so far and this one are one line more
pub loop-line-preserved : goal.loop-line-preserved
loop-line-preserved c =
    let words = c.args.words.now in
    let line = c.loop-line.line in
    let row = take (c.min-end.result - 16 * line) (drop (16 * line) words) in
    let within : 16 * line ≤ length words = omega arith in
    let cut = take_cut words (16 * line) 16 c.min-end.result within c.min-end.ensures in
    let so_far = flat_map (line_at words) (range_with_len 0 line) in
    c.in_ok-push_row.ensures ∙ ap (λ x. x ++ row_text row) c.loop-line.invariant ∙ append_assoc c.args.text.now.items so_far (row_text row)
    ∙ ap (λ x. c.args.text.now.items ++ x) (ap (λ r. so_far ++ row_text r) cut ∙ sym (flat_map-more (line_at words) line))
