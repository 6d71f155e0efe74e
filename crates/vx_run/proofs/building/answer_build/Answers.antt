use Rattle.std.proofs.Common.{subst}
use Rattle.std.proofs.lemmas.Result.{err_from_is_err_and}
use Rattle.vx_run.specs.Answers.{FromEntry, FromFile, FromSource}
use Rattle.vx_run.specs.Stages.{ComesTo}
use Rattle.vx_run.proofs.AnswerLaws.{ComesTo-map, source_comes, unread_file}
use Rattle.vx_run.proofs.building.answer_build.Goals as goal

pub returns-in_err-source-clause-comes : goal.returns-in_err-source-clause-comes
returns-in_err-source-clause-comes g c =
    let p = err_from_is_err_and c.from_residual.result c.from_residual.ensures.1 in
    rw (p.1, p.2) (unread_file (g.F.Files.held c.args.files.now) c.args.file.now (FromEntry c.args.entry.now) _ c.in_err-source.ensures.stop)

pub returns-clause-comes : goal.returns-clause-comes
returns-clause-comes g c =
    let held = g.F.Files.held c.args.files.now in
    let file = c.args.file.now in
    let entry = c.args.entry.now in
    let source = c.in_ok-source.source.items in
    let read = subst (λ x. ComesTo (FromSource (FromEntry c.as_slice.result.now) x) c.lines_of_source.result) c.deref.ensures.value c.lines_of_source.ensures.comes in
    let named = subst (λ x. ComesTo (FromSource (FromEntry x) source) c.lines_of_source.result) c.as_slice.ensures read in
    ComesTo-map (FromSource (FromEntry entry) source) (FromFile held file (FromEntry entry)) (source_comes held file source (FromEntry entry) c.in_ok-source.ensures.front)
    c.lines_of_source.result named
