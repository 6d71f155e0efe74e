use Rattle.std.proofs.Common.{ℕ, ◌*◌, ◌%◌, ◌^◌, map, rules, ap, ◌∙◌}
use Rattle.first_kernels.specs.FirstTree.{form_of}
use Rattle.first_kernels.proofs.FirstEmit.{kernel_parts}
use Rattle.first_kernels.proofs.code.kernel_instrs.Goals as goal

pub returns : goal.returns
returns c =
    kernel_parts c.args.arguments.now c.in_ok-places.places.items c.args.items (form_of c.args.kernel.now) c.emit_opening.new.code.items c.emit_body.new.code.items c.emit.new.code.items
    (c.in_ok-places.ensures ∙ ap (λ (s : ℕ). map (λ b. b * s % 2 ^ 32) c.args.arguments.now) c.stride.ensures)
    c.requires.launchable.within c.requires.launchable.items_few c.in_ok-emit_opening.ensures (search rules) c.in_ok-emit.ensures
