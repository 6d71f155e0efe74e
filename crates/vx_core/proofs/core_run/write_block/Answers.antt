use Rattle.std.proofs.Common.{ℕ, ◌*◌, Bool, true, false, List, get_or, ap, ◌∙◌, arith, refl}
use Rattle.std.specs.Prelude.{MatchBool}
use Rattle.vx_base.specs.Bytes.{with_field}
use Rattle.vx_core.proofs.BlockLaws.{block_below-more}
use Rattle.vx_core.proofs.core_run.write_block.Goals as goal

written : (b : Bool) (P Q : Type 0) → MatchBool b P Q → (Q → ⊥) → P
written true P Q fact not_q = fact
written false P Q fact not_q = absurd (not_q fact)

pub loop-place-preserved : goal.loop-place-preserved
loop-place-preserved c =
    let k = c.loop-place.place in
    let word = get_or c.args.block.now k 0 in
    let wrote = written c.write.result _ _ c.write.ensures (λ past. omega (arith, past.0)) in
    wrote.1
    ∙ ap (λ (s : List ℕ). with_field s (4 * k) 4 word) c.loop-place.invariant
    ∙ block_below-more k c.args.block.now c.args.scratch.now word (omega arith) refl
