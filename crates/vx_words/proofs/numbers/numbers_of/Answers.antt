use Rattle.std.proofs.Common.{Some, refl, sym, ap, ◌∙◌, arith}
use Rattle.vx_words.proofs.NumberedNames.{no_numbers, AreNumbersOf-more}
use Rattle.vx_words.proofs.numbers.numbers_of.Goals as goal

pub returns-in_default : goal.returns-in_default
returns-in_default c =
    (refl, refl, λ ns h. no_numbers c.args.buffers.now ns c.args.names.now c.loop-name.name-index c.name-item.result (omega arith) (λ n e. c.in_default.ensures n (e ∙ ap Some (sym c.name-item.is))) h)

pub loop-name-preserved : goal.loop-name-preserved
loop-name-preserved c =
    let more = AreNumbersOf-more c.args.buffers.now c.loop-name.items.items c.args.names.now c.loop-name.name-index c.in-Some.number c.name-item.result (omega arith) c.name-item.is c.loop-name.invariant c.in-Some.ensures.0 c.in-Some.ensures.1.0 in
    rw c.in_ok-push.ensures.items more
