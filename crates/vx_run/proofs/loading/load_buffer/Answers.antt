use Rattle.std.proofs.Common.{◌≡◌, ◌≢◌, ◌*◌, length, ◌∙◌}
use Rattle.std.proofs.lemmas.Result.{err_from_is_err_and}
use Rattle.vx_run.proofs.LoadingLaws.{zeros_refused, file_refused, file_stops}
use Rattle.vx_run.proofs.loading.load_buffer.Goals as goal

pub returns-then-count-run-clause-stop : goal.returns-then-count-run-clause-stop
returns-then-count-run-clause-stop g c = λ k more contents.
    rw c.wrong_length.ensures (zeros_refused _ c.args.run.now k c.args.index more contents c.args.word.now.name c.args.word.now.from c.in-Zero.count c.in-Zero.is c.if-count-run.true)

pub returns-in_err-items-in-File-clause-stop : goal.returns-in_err-items-in-File-clause-stop
returns-in_err-items-in-File-clause-stop g c =
    let p = err_from_is_err_and c.from_residual-in_err-items-in-File.result c.from_residual-in_err-items-in-File.ensures.1 in
    rw (p.1, p.2) (λ k more contents. file_stops _ c.args.run.now k c.args.index more contents c.args.word.now.name c.args.word.now.from c.in-File.path _ c.in-File.is c.in_err-items-in-File.ensures.stop)

pub returns-then-len-wanted-clause-stop : goal.returns-then-len-wanted-clause-stop
returns-then-len-wanted-clause-stop g c = λ k more contents.
    let items = c.in_ok-items-in-File.items in
    let other : length items.items ≢ 4 * c.args.run.now.items = λ e. c.if-len-wanted.true (c.len.ensures ∙ items.ok.0 ∙ e) in
    let n : c.len-then-len-wanted.result ≡ length items.items = c.len-then-len-wanted.ensures ∙ items.ok.0 in
    rw (c.wrong_length-then-len-wanted.ensures, n)
    (file_refused _ c.args.run.now k c.args.index more contents c.args.word.now.name c.args.word.now.from c.in-File.path items.items c.in-File.is c.in_ok-items-in-File.ensures.front other)
