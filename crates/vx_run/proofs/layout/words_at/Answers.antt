use Rattle.std.proofs.Common.{◌++◌, ◌∷◌, [], ap, sym, ◌∙◌}
use Rattle.vx_run.specs.Layout.{fields_from}
use Rattle.vx_run.proofs.LayoutLaws.{fields_from-more}
use Rattle.vx_run.proofs.layout.words_at.Goals as goal

pub loop-k-preserved : goal.loop-k-preserved
loop-k-preserved c =
    c.in_ok-push.ensures.items ∙ ap (λ ws. ws ++ c.get_le.result ∷ []) c.loop-k.invariant
    ∙ ap (λ w. fields_from c.args.memory.now c.args.start c.loop-k.k ++ w ∷ []) c.get_le.ensures ∙ sym (fields_from-more c.args.memory.now c.args.start c.loop-k.k)
