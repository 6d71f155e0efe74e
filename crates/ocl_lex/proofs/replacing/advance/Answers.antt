use Rattle.std.proofs.Common.{◌++◌, sym, ap, ◌∙◌}
use Rattle.ocl_lex.specs.Frames.{pending}
use Rattle.ocl_lex.specs.Telling.{answer}
use Rattle.ocl_lex.proofs.FrameLaws.{closes_last, left_at_end, pending_close, pending_part}
use Rattle.ocl_lex.proofs.StepLaws.{passes_fault}
use Rattle.ocl_lex.proofs.replacing.advance.Goals as goal

pub returns-in_default-split_first-clause-tells : goal.returns-in_default-split_first-clause-tells
returns-in_default-split_first-clause-tells c = λ more.
    let f = c.in-Some.ensures in
    let closed = closes_last c.args.frames.now.entries c.pop-closed.new.self.entries f.0 (f.1, c.in-Some.parts) c.pop-closed.result f.2 c.pop-closed.ensures.entries
    c.pop-closed.ensures.len c.pop-closed.ensures.found.1 in
    sym (ap (λ l. answer c.args.out.now (l ++ more)) (pending_close c.args.text.now c.args.at c.args.macros.now c.args.frames.now.entries f.0 (f.1, c.in-Some.parts) f.2
    c.in_default-split_first.ensures.cases ∙ ap (pending c.args.text.now c.args.at c.args.macros.now) closed))

pub returns-in_err-tell_part-clause-tells : goal.returns-in_err-tell_part-clause-tells
returns-in_err-tell_part-clause-tells c =
    let f = c.in-Some.ensures in
    let left = c.set_innermost.ensures.entries ∙ left_at_end c.args.frames.now.entries f.0 f.1 c.in-Some.parts c.in-Some-split_first.rest f.2 in
    let same = pending_part c.args.text.now c.args.at c.args.macros.now c.args.frames.now.entries f.0 c.set_innermost.new.frames.entries f.1 c.in-Some.parts c.in-Some-split_first.rest
    c.in-Some-split_first.part.now f.2 c.in-Some-split_first.ensures.cases.0 left in
    passes_fault c.from_residual.result c.in_err-tell_part.field-0.0 c.args.out.now c.tell_part.new.out _ _ _ c.from_residual.ensures.1 same c.in_err-tell_part.ensures.steps

pub returns-clause-tells : goal.returns-clause-tells
returns-clause-tells c =
    let f = c.in-Some.ensures in
    let left = c.set_innermost.ensures.entries ∙ left_at_end c.args.frames.now.entries f.0 f.1 c.in-Some.parts c.in-Some-split_first.rest f.2 in
    let same = pending_part c.args.text.now c.args.at c.args.macros.now c.args.frames.now.entries f.0 c.set_innermost.new.frames.entries f.1 c.in-Some.parts c.in-Some-split_first.rest
    c.in-Some-split_first.part.now f.2 c.in-Some-split_first.ensures.cases.0 left in
    λ more. c.in_ok-tell_part.ensures.steps more ∙ sym (ap (λ l. answer c.args.out.now (l ++ more)) same)
