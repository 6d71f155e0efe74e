use Rattle.std.proofs.Common.{◌≡◌, true, Ok, sym, ap, ◌∙◌, arith}
use Rattle.std.proofs.lemmas.Bool.{false≢true}
use Rattle.std.specs.Fmt.{decimal}
use Rattle.decimal_text.specs.Numerals.{is_decimal, decimal_value}
use Rattle.decimal_text.proofs.DecimalTexts.{utf8_decimal, decimal_spelled, decimal_read, decimal_too_large, spelled_decimal, spelled_value}
use Rattle.decimal_text.proofs.numbers.read_decimal.Goals as goal

pub returns-then-not-is_decimal-clause-only : goal.returns-then-not-is_decimal-clause-only
returns-then-not-is_decimal-clause-only c = λ n small e. absurd (false≢true (sym c.if-not-is_decimal.true ∙ c.is_decimal.ensures ∙ ap is_decimal e ∙ spelled_decimal n small))

pub returns-in_default-clause-exact : goal.returns-in_default-clause-exact
returns-in_default-clause-exact c = absurd (c.in_default.ensures.cases.0 (utf8_decimal c.args.text.now (sym c.is_decimal.ensures ∙ c.if-not-is_decimal.false)))

pub returns-in_default-clause-only : goal.returns-in_default-clause-only
returns-in_default-clause-only c = λ n small e. absurd (c.in_default.ensures.cases.0 (utf8_decimal c.args.text.now (sym c.is_decimal.ensures ∙ c.if-not-is_decimal.false)))

pub returns-in-Ok-parse-clause-spelled : goal.returns-in-Ok-parse-clause-spelled
returns-in-Ok-parse-clause-spelled c =
    let plain : is_decimal c.args.text.now ≡ true = sym c.is_decimal.ensures ∙ c.if-not-is_decimal.false in
    let parses = rw c.in-Ok.ensures.cases.0 at c.parse.ensures.value.0 in
    let read = decimal_read c.args.text.now plain c.in-Ok-parse.number c.parse.result c.in-Ok-parse.is parses in
    decimal_spelled c.args.text.now plain read.0 ∙ ap (λ m. decimal m) (sym read.1)

pub returns-in-Ok-parse-clause-only : goal.returns-in-Ok-parse-clause-only
returns-in-Ok-parse-clause-only c = λ n small e.
    let plain : is_decimal c.args.text.now ≡ true = sym c.is_decimal.ensures ∙ c.if-not-is_decimal.false in
    let parses = rw c.in-Ok.ensures.cases.0 at c.parse.ensures.value.0 in
    let read = decimal_read c.args.text.now plain c.in-Ok-parse.number c.parse.result c.in-Ok-parse.is parses in
    ap (λ m. Ok m) (read.1 ∙ ap decimal_value e ∙ spelled_value n small)

pub returns-in-Err-clause-exact : goal.returns-in-Err-clause-exact
returns-in-Err-clause-exact c =
    let plain : is_decimal c.args.text.now ≡ true = sym c.is_decimal.ensures ∙ c.if-not-is_decimal.false in
    let parses = rw c.in-Ok.ensures.cases.0 at c.parse.ensures.value.0 in
    (plain, decimal_too_large c.args.text.now plain c.in-Err.field-0 c.parse.result c.in-Err.is parses)

pub returns-in-Err-clause-only : goal.returns-in-Err-clause-only
returns-in-Err-clause-only c = λ n small e.
    let plain : is_decimal c.args.text.now ≡ true = sym c.is_decimal.ensures ∙ c.if-not-is_decimal.false in
    let parses = rw c.in-Ok.ensures.cases.0 at c.parse.ensures.value.0 in
    let large = decimal_too_large c.args.text.now plain c.in-Err.field-0 c.parse.result c.in-Err.is parses in
    absurd (omega (arith, small, large, ap decimal_value e ∙ spelled_value n small))
