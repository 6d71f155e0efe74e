use Rattle.std.proofs.Common.{◌≡◌, true, false, drop, arith, sym, ap, ◌∙◌}
use Rattle.ocl_lex.specs.Pieces.{closes}
use Rattle.ocl_lex.proofs.Comments.{closing_starts, closing_goes_on, closing_found, closing_ends, within_text}
use Rattle.ocl_lex.proofs.pieces.closing_len.Goals as goal

pub loop-place-init : goal.loop-place-init
loop-place-init c = closing_starts c.args.bytes.now

pub returns-then-closes-clause-value : goal.returns-then-closes-clause-value
returns-then-closes-clause-value c =
    let test : closes (drop c.loop-place.place c.args.bytes.now) ≡ true = sym (c.closes.ensures ∙ ap closes c.bytes_from.ensures) ∙ c.if-closes.true in
    closing_found c.args.bytes.now c.loop-place.place c.loop-place-test.true test c.loop-place.invariant

pub returns-then-closes-clause-within : goal.returns-then-closes-clause-within
returns-then-closes-clause-within c =
    let test : closes (drop c.loop-place.place c.args.bytes.now) ≡ true = sym (c.closes.ensures ∙ ap closes c.bytes_from.ensures) ∙ c.if-closes.true in
    within_text c.args.bytes.now c.loop-place.place test

pub loop-place-preserved : goal.loop-place-preserved
loop-place-preserved c =
    let test : closes (drop c.loop-place.place c.args.bytes.now) ≡ false = sym (c.closes.ensures ∙ ap closes c.bytes_from.ensures) ∙ c.if-closes.false in
    closing_goes_on c.args.bytes.now c.loop-place.place c.loop-place-test.true test c.loop-place.invariant

pub returns-clause-value : goal.returns-clause-value
returns-clause-value c = closing_ends c.args.bytes.now c.loop-place.place (omega arith) c.loop-place.invariant
