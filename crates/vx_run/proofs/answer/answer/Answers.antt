use Rattle.std.proofs.Common.{map, string_bytes, ap, Err}
use Rattle.std.proofs.lemmas.Result.{err_from_is_err_and}
use Rattle.vx_run.proofs.AnswerLaws.{ComesTo-map, command_reads, reads_nothing, runnable_command, usage_stops}
use Rattle.vx_run.specs.Answers.{FromCommand, FromWords, RightWords}
use Rattle.vx_run.proofs.answer.answer.Goals as goal

pub answer_command-requires : goal.answer_command-requires
answer_command-requires g c = runnable_command (map string_bytes c.args.words.now) c.in_ok-command.command c.in_ok-command.ensures.spelled

pub returns-clause-comes : goal.returns-clause-comes
returns-clause-comes g c =
    let held = g.F.Files.held c.args.files.now in
    let words = map string_bytes c.args.words.now in
    ComesTo-map (FromCommand held c.in_ok-command.command) (FromWords held words) (λ o h. RightWords c.in_ok-command.command o c.in_ok-command.ensures.spelled h)
    c.answer_command.result c.answer_command.ensures.comes

pub returns-in_err-command-clause-comes : goal.returns-in_err-command-clause-comes
returns-in_err-command-clause-comes g c =
    let p = err_from_is_err_and c.from_residual.result c.from_residual.ensures.1 in
    rw (p.1) (usage_stops (g.F.Files.held c.args.files.now) (map string_bytes c.args.words.now) c.in_err-command.field-0.0 p.0
    (λ word kind e. c.in_err-command.ensures.fault word kind (ap Err e)) p.2)

pub returns-clause-words : goal.returns-clause-words
returns-clause-words g c = command_reads (map string_bytes c.args.words.now) c.in_ok-command.command c.in_ok-command.ensures.spelled c.answer_command.result

pub returns-in_err-command-clause-words : goal.returns-in_err-command-clause-words
returns-in_err-command-clause-words g c =
    let p = err_from_is_err_and c.from_residual.result c.from_residual.ensures.1 in
    rw (p.1) (reads_nothing (map string_bytes c.args.words.now) c.in_err-command.field-0.0 p.0 p.2)
