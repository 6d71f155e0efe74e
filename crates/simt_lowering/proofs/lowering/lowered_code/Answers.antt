use Rattle.std.proofs.Common.{◌≡◌, ◌+◌, ap, sym, subst, ◌∙◌}
use Rattle.kir.specs.Loops.{loop_nesting}
use Rattle.kir.specs.Shapes.{code_of, ops_of}
use Rattle.kir.specs.Trees.{Ops, KirCode}
use Rattle.uniformity.specs.Marks.{marked}
use Rattle.simt_lowering.specs.Kept.{known_of_kernel}
use Rattle.simt_lowering.specs.Lowered.{Known, registers_for}
use Rattle.simt_lowering.specs.Views.{HasPlaces}
use Rattle.simt_lowering.proofs.Fitting.{has_places}
use Rattle.simt_lowering.proofs.lowering.lowered_code.Goals as goal

pub kernel_ops-requires : goal.kernel_ops-requires
kernel_ops-requires c =
    let code : KirCode = code_of c.args.code.now in
    let known : Known = known_of_kernel (marked c.args.marks.now) code in
    let ops : Ops = ops_of c.as_slice-4.result.now in
    let ops_is : ops ≡ code.ops = ap ops_of c.as_slice-4.ensures.value in
    let loops_is : c.loops.result ≡ loop_nesting code.ops = c.loops.ensures ∙ ap (λ xs. loop_nesting (ops_of xs)) c.as_slice.ensures.value in
    let registers_are : code.variables + (8 + c.loops.result) ≡ registers_for code.variables (loop_nesting code.ops) = ap (registers_for code.variables) loops_is in
    record {
      places = subst (λ k. HasPlaces k (code.variables + (8 + c.loops.result)) ops) (sym c.of-known.ensures)
          (subst (λ n. HasPlaces known n ops) (sym registers_are)
          (subst (HasPlaces known (registers_for code.variables (loop_nesting code.ops))) (sym ops_is) (has_places code (marked c.args.marks.now) c.requires.limited c.requires.fits)));
    }
