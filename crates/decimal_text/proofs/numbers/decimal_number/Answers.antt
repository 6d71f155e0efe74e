use Rattle.std.proofs.Common.{sym, ◌∙◌, arith}
use Rattle.std.specs.Fmt.{decimal}
use Rattle.std.proofs.lemmas.Bool.{false≢true}
use Rattle.std.proofs.lemmas.Fmt.{IsAscii-decimal}
use Rattle.std.proofs.lemmas.Str.{IsUtf8-from_ascii}
use Rattle.std.specs.Str.{IsUtf8}
use Rattle.decimal_text.proofs.DecimalTexts.{decimal_plain, read_is_spelled, spelled_is_read}
use Rattle.decimal_text.proofs.numbers.decimal_number.Goals as goal

pub returns-then-not-is_plain : goal.returns-then-not-is_plain
returns-then-not-is_plain c = λ n lt e.
    let plain = rw (← e) at (decimal_plain n (omega arith)) in
    false≢true (sym c.if-not-is_plain.true ∙ c.is_plain.ensures.1 plain)

pub returns-in_default : goal.returns-in_default
returns-in_default c = λ n lt e.
    let text : IsUtf8 (decimal n) = IsUtf8-from_ascii (decimal n) (IsAscii-decimal n (omega arith)) in
    c.in_default.ensures.cases.0 (rw e text)

pub returns-in-Ok-parse : goal.returns-in-Ok-parse
returns-in-Ok-parse c =
    let plain = c.is_plain.ensures.0 c.if-not-is_plain.false in
    let same = c.in-Ok.ensures.cases.0 in
    let parses = rw same at c.parse.ensures.value.0 in
    read_is_spelled c.args.text.now _ c.parse.result c.in-Ok-parse.is parses plain.0 plain.1

pub returns-in-Err : goal.returns-in-Err
returns-in-Err c = λ n lt e.
    let same = c.in-Ok.ensures.cases.0 in
    let parses = rw same at c.parse.ensures.value.0 in
    spelled_is_read c.args.text.now n c.parse.result _ c.in-Err.is parses lt e
