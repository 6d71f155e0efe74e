-- Structured code that is ready is within the limits of lowering, and its sizes are within those of the kernel's measures.
use Rattle.std.proofs.Common.{◌≡◌, refl, ap, sym, ◌∙◌, ℕ, suc, ◌+◌, ◌<◌, ◌≤◌, ◌^◌, Bool, List, [], ◌∷◌, cond, arith}
use Rattle.std.specs.List.{count_by}
use Rattle.std.proofs.lemmas.List.Sums.{sum_by-cons}
use Rattle.vx_base.specs.declared.types.ParamKind.{ParamKind}
use Rattle.vx_base.specs.declared.types.ParamKind.TheVariants.{Scalar, Pointer}
use Rattle.ocl_ast.specs.declared.units.Param.{Param}
use Rattle.ocl_sem.specs.Source.{is_scalar, is_scalar_kind}
use Rattle.kir.specs.Loops.{loop_nesting}
use Rattle.kir.specs.Trees.{KirCode}
use Rattle.uniformity.specs.Marks.{AreGreatest}
use Rattle.structured.specs.Ready.{IsReady, Measures}
use Rattle.simt_lowering.specs.Bounds.{IsLimited, most_words as words_of, scalar_count, with_scalar}
use Rattle.simt_lowering.specs.Kept.{CanLower}
use Rattle.simt_lowering.specs.Lowered.{registers_for}
use Rattle.mask_laws.specs.Laws.{MayLower}
use Rattle.lane_kernels.specs.Sizes.{registers_by, words_by}

-- scalar parameters are counted alike
with_one : (param : Param) (n : ℕ) → with_scalar param.kind n ≡ cond (is_scalar param) 1 0 + n
with_one param n = by param.kind
  where
    by : (kind : ParamKind) → with_scalar kind n ≡ cond (is_scalar_kind kind) 1 0 + n
    by (Scalar elem) = let one : suc n ≡ 1 + n = omega arith in one
    by (Pointer space elem readonly) = let none : n ≡ 0 + n = omega arith in none

scalars_counted : (params : List Param) → scalar_count params ≡ count_by is_scalar params
scalars_counted [] = refl
scalars_counted (param ∷ params) =
    with_one param (scalar_count params) ∙ ap (λ n. cond (is_scalar param) 1 0 + n) (scalars_counted params)
    ∙ sym (sum_by-cons (λ (param : Param). cond (is_scalar param) 1 0) param params)

pub limited : (m : Measures) (barriers : ℕ) (code : KirCode) → IsReady m barriers code → IsLimited code
limited m barriers code ready = record {
  params = ready.few_params;
  arrays = ready.few_arrays;
  scalars = let same = scalars_counted code.params in let few = ready.scalars in omega arith;
  counts = λ j array at. let small = (ready.small_arrays j array at).1 in omega arith;
  below = ready.below;
}

pub can_lower : (m : Measures) (barriers : ℕ) (code : KirCode) → IsReady m barriers code → CanLower code
can_lower m barriers code ready = record { no_jumps = ready.no_jumps; checked = ready.checked; below = ready.below; typed = ready.typed }

-- Its uniform variables are those of a warp's law.
pub may_lower : (m : Measures) (barriers : ℕ) (code : KirCode) (marks : ℕ → Bool) → IsReady m barriers code → AreGreatest code marks → MayLower marks code
may_lower m barriers code marks ready greatest = record {
  within = greatest.closed.inside;
  closed = greatest.closed.closed;
  below = ready.below;
  few = let branched = ready.branched in let control = ready.limits.control in omega arith;
  distinct = ready.distinct;
}

-- words of machine code
pub words_few : (m : Measures) (barriers : ℕ) (code : KirCode) → IsReady m barriers code → words_of code ≤ words_by m
words_few m barriers code ready = let params = ready.few_params in let words = ready.words in omega arith

pub words_fit : (m : Measures) (barriers : ℕ) (code : KirCode) → IsReady m barriers code → words_of code < 2 ^ 32
words_fit m barriers code ready = let few = words_few m barriers code ready in let nodes = ready.limits.nodes in omega arith

-- registers
pub registers_few : (m : Measures) (barriers : ℕ) (code : KirCode) → IsReady m barriers code → registers_for code.variables (loop_nesting code.ops) ≤ registers_by m
registers_few m barriers code ready = let levels = ready.limits.levels in let counted = ready.counted in let looped = ready.looped in omega arith
