use Rattle.std.proofs.Common.{◌≡◌, sym, ap, ◌∙◌, map}
use Rattle.ocl_program.specs.Nodes.{arg_nodes}
use Rattle.ocl_program.specs.Shapes.{argument_node, node_of}
use Rattle.ocl_program.proofs.Rows.{builtin_node}
use Rattle.first_kernels.specs.FirstForms.{is_zero}
use Rattle.first_kernels.proofs.forms.is_own_id.Goals as goal

pub returns-then-is_global_id : goal.returns-then-is_global_id
returns-then-is_global_id c =
    let same : is_zero (arg_nodes (map argument_node c.as_slice.result.now)) ≡ is_zero (arg_nodes (map argument_node c.in-Builtin.args.items)) =
    ap (λ xs. is_zero (arg_nodes (map argument_node xs))) c.as_slice.ensures.value in
    let node = ap node_of c.in-Builtin.is ∙ builtin_node c.in-Builtin.which c.in-Builtin.unsigned c.in-Builtin.args in
    rw (node, sym c.if-is_global_id.ensures) (c.is_zero.ensures ∙ same)
