use Rattle.std.proofs.Common.{refl, subst}
use Rattle.std.proofs.lemmas.Result.{err_from_is_err_and}
use Rattle.vx_run.specs.Answers.{word_text_outcome, most_word_text, FromBytes, FromText}
use Rattle.vx_run.proofs.AnswerLaws.{ComesTo-map}
use Rattle.vx_run.proofs.TextLaws.{unread_text, text_comes}
use Rattle.vx_run.proofs.texts.answer_dis.Goals as goal

pub returns-in_err-text-clause-comes : goal.returns-in_err-text-clause-comes
returns-in_err-text-clause-comes g c =
    let p = err_from_is_err_and c.from_residual.result c.from_residual.ensures.1 in
    rw (p.1, p.2) (unread_text (g.F.Files.held c.args.files.now) c.args.file.now most_word_text word_text_outcome _ c.in_err-text.ensures.stop)

pub returns-clause-comes : goal.returns-clause-comes
returns-clause-comes g c =
    ComesTo-map (FromBytes most_word_text word_text_outcome c.deref.result.now) (FromText (g.F.Files.held c.args.files.now) c.args.file.now most_word_text word_text_outcome)
    (λ o h. text_comes (g.F.Files.held c.args.files.now) c.args.file.now most_word_text _ word_text_outcome c.in_ok-text.text.items refl c.in_ok-text.ensures.front o
    (subst (λ x. FromBytes most_word_text word_text_outcome x o) c.deref.ensures.value h)) c.assembly_of_lines.result c.assembly_of_lines.ensures.comes
