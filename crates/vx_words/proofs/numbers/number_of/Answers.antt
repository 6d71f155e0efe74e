use Rattle.std.proofs.Common.{◌≡◌, ap, ◌∙◌, Some, arith, rules, below_more}
use Rattle.std.proofs.lemmas.Bool.{false≢true}
use Rattle.vx_words.proofs.NumberedNames.{name_at, name_apart, name_within}
use Rattle.vx_words.proofs.numbers.number_of.Goals as goal

pub returns-then-is_named : goal.returns-then-is_named
returns-then-is_named c =
    let same : c.index-buffers-number.result.name ≡ c.args.name.now = search rules in
    (omega arith, (name_at c.args.buffers.now c.loop-number.number c.index-buffers-number.result (omega arith) c.index-buffers-number.is ∙ ap Some same, c.loop-number.invariant))

pub loop-number-preserved : goal.loop-number-preserved
loop-number-preserved c =
    below_more _ _ c.loop-number.invariant (name_apart c.args.buffers.now c.loop-number.number c.index-buffers-number.result c.args.name.now (omega arith) c.index-buffers-number.is (λ e. let differs = c.if-is_named.ensures in false≢true (differs.1 e)))

pub returns : goal.returns
returns c = λ n e. c.loop-number.invariant n (omega (arith, name_within c.args.buffers.now n c.args.name.now e)) e
