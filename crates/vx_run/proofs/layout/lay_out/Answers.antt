use Rattle.std.proofs.Common.{◌-◌, ◌*◌, ◌++◌, take, replicate, sym, ap, ◌∙◌}
use Rattle.std.specs.List.{flat_map}
use Rattle.vx_run.specs.Layout.{padded}
use Rattle.vx_run.proofs.LayoutLaws.{flat_map-take-more}
use Rattle.vx_run.proofs.layout.lay_out.Goals as goal

pub loop-content-preserved : goal.loop-content-preserved
loop-content-preserved c =
    let so_far = flat_map (padded c.args.items) (take c.loop-content.content-index c.args.contents.now) in
    c.in_ok-push_padded.ensures ∙ ap (λ m. m ++ (c.as_slice.result.now ++ replicate (c.stride.result - 4 * c.args.items) 0)) c.loop-content.invariant
    ∙ ap (λ x. so_far ++ (x ++ replicate (c.stride.result - 4 * c.args.items) 0)) c.as_slice.ensures
    ∙ ap (λ n. so_far ++ (c.content-item.result ++ replicate (n - 4 * c.args.items) 0)) c.stride.ensures
    ∙ sym (flat_map-take-more (padded c.args.items) c.args.contents.now c.loop-content.content-index c.content-item.result c.loop-content-test.true c.content-item.is)
