use Rattle.std.proofs.Common.{refl, subst}
use Rattle.std.proofs.lemmas.Result.{err_from_is_err_and}
use Rattle.vx_run.specs.Answers.{assembly_text_outcome, most_assembly, FromBytes, FromText}
use Rattle.vx_run.proofs.AnswerLaws.{ComesTo-map}
use Rattle.vx_run.proofs.TextLaws.{unread_text, text_comes}
use Rattle.vx_run.proofs.texts.answer_asm.Goals as goal

pub returns-in_err-text-clause-comes : goal.returns-in_err-text-clause-comes
returns-in_err-text-clause-comes g c =
    let p = err_from_is_err_and c.from_residual.result c.from_residual.ensures.1 in
    rw (p.1, p.2) (unread_text (g.F.Files.held c.args.files.now) c.args.file.now most_assembly assembly_text_outcome _ c.in_err-text.ensures.stop)

pub returns-clause-comes : goal.returns-clause-comes
returns-clause-comes g c =
    ComesTo-map (FromBytes most_assembly assembly_text_outcome c.deref.result.now) (FromText (g.F.Files.held c.args.files.now) c.args.file.now most_assembly assembly_text_outcome)
    (λ o h. text_comes (g.F.Files.held c.args.files.now) c.args.file.now most_assembly _ assembly_text_outcome c.in_ok-text.text.items refl c.in_ok-text.ensures.front o
    (subst (λ x. FromBytes most_assembly assembly_text_outcome x o) c.deref.ensures.value h)) c.lines_of_assembly.result c.lines_of_assembly.ensures.comes
