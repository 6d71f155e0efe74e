use Rattle.std.proofs.lemmas.Result.{err_from_is_err_and}
use Rattle.vx_run.specs.Answers.{most_word_text}
use Rattle.vx_run.proofs.TextLaws.{long_stops, words_print, word_text_stops}
use Rattle.vx_run.proofs.texts.assembly_of_lines.Goals as goal

pub returns-then-text-gt-WORD_TEXT_LIMIT-clause-comes : goal.returns-then-text-gt-WORD_TEXT_LIMIT-clause-comes
returns-then-text-gt-WORD_TEXT_LIMIT-clause-comes c = long_stops most_word_text _ c.args.text.now _ c.too_long.ensures c.if-text-gt-WORD_TEXT_LIMIT.true

pub returns-in_err-words-clause-comes : goal.returns-in_err-words-clause-comes
returns-in_err-words-clause-comes c =
    let p = err_from_is_err_and c.from_residual.result c.from_residual.ensures.1 in
    rw (p.1) (word_text_stops most_word_text c.args.text.now c.in_err-words.field-0.0 p.0 c.if-text-gt-WORD_TEXT_LIMIT.false p.2 c.in_err-words.ensures.fault)

pub returns-clause-comes : goal.returns-clause-comes
returns-clause-comes c =
    rw (c.printed.ensures) (words_print most_word_text c.args.text.now _ _ _ c.if-text-gt-WORD_TEXT_LIMIT.false c.in_ok-words.ensures.words c.as_slice.ensures c.in_ok-disassemble.ensures.text)
