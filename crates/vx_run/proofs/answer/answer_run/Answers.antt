use Rattle.std.proofs.Common.{[], subst}
use Rattle.std.proofs.lemmas.Result.{err_from_is_err_and}
use Rattle.first_kernels.specs.FirstTree.{form_of}
use Rattle.vx_run.specs.Answers.{FromArguments, FromBuffers, FromProgram, FromRun, Prints}
use Rattle.vx_run.specs.Stages.{IsNoKernelOf, SourceHasKernel, StopsAt}
use Rattle.vx_run.proofs.AnswerLaws.{buffers_come, chosen_of, source_stops, unread_file}
use Rattle.vx_run.proofs.LoadingLaws.{StopsAt-map}
use Rattle.vx_run.proofs.answer.answer_run.Goals as goal

pub returns-in_err-source-clause-comes : goal.returns-in_err-source-clause-comes
returns-in_err-source-clause-comes g c =
    let p = err_from_is_err_and c.from_residual.result c.from_residual.ensures.1 in
    rw (p.1, p.2) (unread_file (g.F.Files.held c.args.files.now) c.args.run.now.file (FromProgram (g.F.Files.held c.args.files.now) c.args.run.now) _ c.in_err-source.ensures.stop)

pub returns-in_err-kernel-clause-comes : goal.returns-in_err-kernel-clause-comes
returns-in_err-kernel-clause-comes g c =
    let s = c.in_err-kernel.field-0.0 in
    let none = subst (λ x. IsNoKernelOf x c.as_slice.result.now s) c.deref.ensures.value c.in_err-kernel.ensures.stop in
    let p = err_from_is_err_and c.from_residual-in_err-kernel.result c.from_residual-in_err-kernel.ensures.1 in
    rw (p.1, p.2) (source_stops (g.F.Files.held c.args.files.now) c.args.run.now c.in_ok-source.source.items c.in_ok-source.ensures.front s
    (subst (λ x. IsNoKernelOf c.in_ok-source.source.items x s) c.as_slice.ensures none))

pub returns-in_err-contents-clause-comes : goal.returns-in_err-contents-clause-comes
returns-in_err-contents-clause-comes g c =
    let held = g.F.Files.held c.args.files.now in
    let run = c.args.run.now in
    let source = c.in_ok-source.source.items in
    let form = form_of c.in_ok-kernel.kernel in
    let s = c.in_err-contents.field-0.0 in
    let found = subst (λ x. SourceHasKernel x c.as_slice.result.now form) c.deref.ensures.value c.in_ok-kernel.ensures.found in
    let has : SourceHasKernel source run.entry form = subst (λ x. SourceHasKernel source x form) c.as_slice.ensures found in
    let k = chosen_of source run.entry form has in
    let p = err_from_is_err_and c.from_residual-in_err-contents.result c.from_residual-in_err-contents.ensures.1 in
    rw (p.1, p.2) (StopsAt-map (FromBuffers held run k 0 run.buffers []) (FromRun held run) (buffers_come held run source form c.in_ok-source.ensures.front has) s
    (subst (λ h. StopsAt (FromBuffers h run k 0 run.buffers []) s) c.in_ok-source.ensures.held (c.in_err-contents.ensures.stop k)))

pub returns-in_err-text-clause-comes : goal.returns-in_err-text-clause-comes
returns-in_err-text-clause-comes g c =
    let held = g.F.Files.held c.args.files.now in
    let run = c.args.run.now in
    let source = c.in_ok-source.source.items in
    let contents = c.in_ok-contents.contents.items in
    let form = form_of c.in_ok-kernel.kernel in
    let s = c.in_err-text.field-0.0 in
    let found = subst (λ x. SourceHasKernel x c.as_slice.result.now form) c.deref.ensures.value c.in_ok-kernel.ensures.found in
    let has : SourceHasKernel source run.entry form = subst (λ x. SourceHasKernel source x form) c.as_slice.ensures found in
    let k = chosen_of source run.entry form has in
    let p = err_from_is_err_and c.from_residual-in_err-text.result c.from_residual-in_err-text.ensures.1 in
    rw (p.1, p.2) (StopsAt-map (FromArguments run k contents) (FromRun held run)
    (λ o h. buffers_come held run source form c.in_ok-source.ensures.front has o
    (subst (λ x. FromBuffers x run k 0 run.buffers [] o) c.in_ok-source.ensures.held (c.in_ok-contents.ensures.loaded k o h))) s
    (subst (λ x. StopsAt (FromArguments run k x) s) c.deref-2.ensures.value (c.in_err-text.ensures.stop k has.has.formed)))

pub returns-clause-comes : goal.returns-clause-comes
returns-clause-comes g c =
    let held = g.F.Files.held c.args.files.now in
    let run = c.args.run.now in
    let source = c.in_ok-source.source.items in
    let form = form_of c.in_ok-kernel.kernel in
    let found = subst (λ x. SourceHasKernel x c.as_slice.result.now form) c.deref.ensures.value c.in_ok-kernel.ensures.found in
    let has : SourceHasKernel source run.entry form = subst (λ x. SourceHasKernel source x form) c.as_slice.ensures found in
    let k = chosen_of source run.entry form has in
    let text = c.in_ok-text.text in
    let prints = subst (λ x. FromArguments run k x (Prints text)) c.deref-2.ensures.value (c.in_ok-text.ensures.text k has.has.formed) in
    rw (c.printed.ensures) (buffers_come held run source form c.in_ok-source.ensures.front has (Prints text)
    (subst (λ x. FromBuffers x run k 0 run.buffers [] (Prints text)) c.in_ok-source.ensures.held (c.in_ok-contents.ensures.loaded k (Prints text) prints)))
