-- Code that is ready to be lowered meets what `lower` asks for.
use Rattle.std.proofs.Common.{refl, ◌≡◌, ℕ, ◌+◌, ◌*◌, ◌≤◌, ◌<◌, ◌^◌, true, List, suc, length, Some, slice_get, arith}
use Rattle.std.specs.Prelude.{cond, count_by}
use Rattle.std.proofs.lemmas.List.Recursion.{is_count_by}
use Rattle.kir.specs.Loops.{loop_nesting}
use Rattle.kir.specs.Trees.{KirCode}
use Rattle.kir.specs.Weights.{weight}
use Rattle.ocl_ast.specs.declared.units.Param.{Param}
use Rattle.ocl_program.specs.Measures.{cut, measured, own_depth}
use Rattle.ocl_program.specs.Nodes.{FunctionNode}
use Rattle.ocl_program.specs.declared.functions.LocalArray.{LocalArray}
use Rattle.ocl_sem.specs.Source.{is_scalar, is_scalar_kind}
use Rattle.simt_lowering.specs.Bounds.{IsLimited, most_words, scalar_count, with_scalar}
use Rattle.structured.specs.Ready.{IsReadyFor}
use Rattle.vx_base.specs.declared.types.ParamKind.{ParamKind}
use Rattle.vx_base.specs.declared.types.ParamKind.TheVariants.{Scalar, Pointer}

one_more : (kind : ParamKind) (n : ℕ) → with_scalar kind n ≡ cond (is_scalar_kind kind) (1 + n) n
one_more (Scalar elem) n = let e : suc n ≡ 1 + n = omega arith in e
one_more (Pointer space elem readonly) n = refl

-- both ways to count the parameters that are scalars come to the same
scalars_counted : (params : List Param) → scalar_count params ≡ count_by is_scalar params
scalars_counted params = is_count_by scalar_count is_scalar refl (λ param more. one_more param.kind (scalar_count more)) params

pub limited : (program : List FunctionNode) (number : ℕ) (code : KirCode) → IsReadyFor program number code → IsLimited code
limited program number code held = record {
  params = held.ready.few_params;
  arrays = held.ready.few_arrays;
  scalars = let counted : scalar_count code.params ≡ count_by is_scalar code.params = scalars_counted code.params in
      let among : count_by is_scalar code.params ≤ code.variables = held.ready.scalars in omega arith;
  counts = λ j array there. let small : array.count ≤ 262144 = (held.ready.small_arrays j array there).1 in omega arith;
  below = held.ready.below;
}

pub few_words : (program : List FunctionNode) (number : ℕ) (code : KirCode) → IsReadyFor program number code → most_words code < 2 ^ 32
few_words program number code held =
    let words : weight code.ops + (code.variables + loop_nesting code.ops) ≤ 39 * 16384 + 21 =
    (let these = held.ready.words in let nodes = held.ready.limits.nodes in omega arith) in
    let params : length code.params ≤ 16 = held.ready.few_params in omega arith

-- a number that was cut to a small one was not cut
pub few_levels : (program : List FunctionNode) (number : ℕ) → cut (measured own_depth program number) ≤ 2 ^ 31 → measured own_depth program number ≤ 2 ^ 31
few_levels program number small = omega arith
