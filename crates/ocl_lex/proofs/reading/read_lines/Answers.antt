use Rattle.std.proofs.Common.{◌≡◌, length, sym, ap, ◌∙◌, arith}
use Rattle.std.proofs.lemmas.Bool.Decides.{nat_tests}
use Rattle.ocl_lex.specs.Doing.{state_of}
use Rattle.ocl_lex.specs.Lines.{events, lines}
use Rattle.ocl_lex.specs.Telling.{answer}
use Rattle.ocl_lex.proofs.DoingLaws.{line_stopped, line_told, lines_end}
use Rattle.ocl_lex.proofs.reading.read_lines.Goals as goal

pub returns-in_err-read_line : goal.returns-in_err-read_line
returns-in_err-read_line c =
    line_stopped _ c.from_residual.result c.in_err-read_line.field-0.0 c.args.text.now c.cut_line.result.0.now (lines c.cut_line.result.1.now) c.args.out.now c.loop-rest.out
    _ (state_of c.loop-rest.context) c.from_residual.ensures.1 c.in_err-read_line.ensures
    (ap (λ l. answer c.loop-rest.out (events c.args.text.now (state_of c.loop-rest.context) l)) (sym c.cut_line.ensures.cut) ∙ c.loop-rest.invariant)

pub loop-rest-preserved : goal.loop-rest-preserved
loop-rest-preserved c =
    line_told c.args.text.now c.cut_line.result.0.now (lines c.cut_line.result.1.now) c.args.out.now c.loop-rest.out c.read_line.new.out
    _ (state_of c.loop-rest.context) (state_of c.read_line.new.context) c.in_ok-read_line.ensures
    (ap (λ l. answer c.loop-rest.out (events c.args.text.now (state_of c.loop-rest.context) l)) (sym c.cut_line.ensures.cut) ∙ c.loop-rest.invariant)

pub returns : goal.returns
returns c =
    let none : length c.loop-rest.rest.now ≡ 0 = grind (arith, nat_tests) in
    ap (answer c.loop-rest.out) (sym (lines_end c.args.text.now (state_of c.loop-rest.context) c.loop-rest.rest.now none)) ∙ c.loop-rest.invariant
