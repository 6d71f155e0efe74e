use Rattle.std.proofs.Common.{length, ◌≡◌, sym, inr, arith}
use Rattle.std.proofs.lemmas.Bool.Decides.{nat_tests}
use Rattle.std.proofs.lemmas.Result.{err_from_is_err_and}
use Rattle.asm_text.specs.HexLines.{hex_words_of}
use Rattle.asm_text.proofs.HexLaws.{goes_on, is_refused, is_too_large, is_done}
use Rattle.asm_text.proofs.hexadecimal.hex_words.Goals as goal

pub returns-in_err-word-clause-fault : goal.returns-in_err-word-clause-fault
returns-in_err-word-clause-fault c =
    let p = err_from_is_err_and c.from_residual.result c.from_residual.ensures.1 in
    rw (p.1, p.2) (inr (is_refused c.loop-rest.number c.loop-rest.items.items c.loop-rest.rest.now c.cut_line.result.0.now c.cut_line.result.1.now c.in_err-word.field-0.0 (hex_words_of c.args.text.now) c.cut_line.ensures.cut (sym c.in_err-word.ensures) c.loop-rest.invariant.1))

pub returns-then-number-gt-MOST_WORDS-clause-fault :
    goal.returns-then-number-gt-MOST_WORDS-clause-fault
returns-then-number-gt-MOST_WORDS-clause-fault c =
    inr (is_too_large c.loop-rest.number c.loop-rest.items.items c.loop-rest.rest.now c.cut_line.result.0.now c.cut_line.result.1.now c.in_ok-word.word (hex_words_of c.args.text.now) c.cut_line.ensures.cut (sym c.in_ok-word.ensures) (omega arith) c.loop-rest.invariant.1)

pub loop-rest-preserved : goal.loop-rest-preserved
loop-rest-preserved c = (
  omega arith,
  rw c.in_ok-push.ensures.items (goes_on c.loop-rest.number c.loop-rest.items.items c.loop-rest.rest.now c.cut_line.result.0.now c.cut_line.result.1.now c.in_ok-word.word (hex_words_of c.args.text.now) c.cut_line.ensures.cut (sym c.in_ok-word.ensures) (omega arith) c.loop-rest.invariant.1),
)

pub returns-clause-words : goal.returns-clause-words
returns-clause-words c =
    let none : length c.loop-rest.rest.now ≡ 0 = grind (arith, nat_tests) in
    is_done c.loop-rest.number c.loop-rest.items.items c.loop-rest.rest.now (hex_words_of c.args.text.now) none c.loop-rest.invariant.1
