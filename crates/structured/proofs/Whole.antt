-- The code of the three passes does as the source and is ready.
use Rattle.std.proofs.Common.{◌≡◌, sym, ap, ◌∙◌, subst, ℕ, ◌≤◌, true, List, length, Some, slice_get, arith}
use Rattle.std.specs.Prelude.{count_by}
use Rattle.kir.specs.Trees.{KirCode}
use Rattle.kir_flow.proofs.FlagsKeep.{flags_keep}
use Rattle.kir_flow.specs.Flagging.{flags}
use Rattle.kir_flow.specs.WithoutJumps.{WithoutJumps}
use Rattle.ocl_inline.proofs.Flats.{flat_is}
use Rattle.ocl_inline.specs.Expansion.{kernel_flat}
use Rattle.ocl_inline.specs.FlatNumbers.{AreDifferent}
use Rattle.ocl_inline.specs.Proper.{IsProperKernel, NumbersAreWords}
use Rattle.ocl_inline.specs.Trees.{FlatKernel}
use Rattle.ocl_norm.proofs.NormalKeeps.{normal_keeps}
use Rattle.ocl_norm.proofs.NormalMeasures.{normal_measures}
use Rattle.ocl_norm.specs.Kept.{KeepsMeasures}
use Rattle.ocl_norm.specs.Laws.{DoesTheSame}
use Rattle.ocl_norm.specs.Normal.{normal_kernel}
use Rattle.ocl_program.specs.Measures.{measured, own_sites}
use Rattle.ocl_program.specs.Nodes.{FunctionNode}
use Rattle.ocl_sem.specs.Source.{is_scalar}
use Rattle.ocl_types.specs.Functions.{IsProgram}
use Rattle.program_laws.specs.Formed.{AreBelow as NumbersAreBelow}
use Rattle.structured.specs.Passes.{IsPassed}
use Rattle.structured.specs.Ready.{AreLimited, IsKernel, IsReadyFor, measures_of}
use Rattle.structured.specs.Source.{DoesAsSource}
use Rattle.structured.proofs.Asking.{does_as_source, proper_held}
use Rattle.structured.proofs.Held.{Stands, arrays_held, limits_held, params_held, small_held, some_same, stands}
use Rattle.structured.proofs.Numbers.{normal_barriers}
use Rattle.structured.proofs.Sizes.{AreKept, few_scalars, flagged_sizes, normal_sizes}

-- the scalar parameters are among the variables still
scalars_below : (flat : FlatKernel) → count_by is_scalar flat.params ≤ flat.variables → count_by is_scalar flat.params ≤ (flags (normal_kernel flat)).variables
scalars_below flat within = omega arith

kernel_ready : (program : List FunctionNode) → ∥ IsProgram program ∥₁ → (number : ℕ) (f : FunctionNode) → slice_get program number ≡ Some f → f.kernel ≡ true
    → NumbersAreWords (kernel_flat program number f) → IsReadyFor program number (flags (normal_kernel (kernel_flat program number f)))
kernel_ready program typed number f at marked words =
    let flat : FlatKernel = kernel_flat program number f in
    let normal : KirCode = normal_kernel (kernel_flat program number f) in
    let proper : IsProperKernel (kernel_flat program number f) = proper_held program typed number f at marked words in
    let does : DoesTheSame (kernel_flat program number f) (normal_kernel (kernel_flat program number f)) = normal_keeps (kernel_flat program number f) proper in
    let keeps : KeepsMeasures (kernel_flat program number f) (normal_kernel (kernel_flat program number f)) = normal_measures (kernel_flat program number f) in
    let kept : WithoutJumps (normal_kernel (kernel_flat program number f)) (flags (normal_kernel (kernel_flat program number f))) = flags_keep (normal_kernel (kernel_flat program number f)) in
    let sizes : AreKept (measures_of program number) (flags (normal_kernel (kernel_flat program number f))) =
    flagged_sizes (measures_of program number) (count_by is_scalar f.params) (normal_kernel (kernel_flat program number f)) (limits_held program typed number f at marked) (few_scalars program typed number f at)
    (normal_sizes program typed number f at marked) in
    let barriers = normal_barriers program typed number f at marked in
    let params : (flags (normal_kernel (kernel_flat program number f))).params ≡ f.params = kept.same_params ∙ does.same_params in
    let arrays : (flags (normal_kernel (kernel_flat program number f))).arrays ≡ f.arrays = kept.same_arrays ∙ does.same_arrays in
    record {
      same_params = λ g there. params ∙ ap (λ (x : FunctionNode). x.params) (some_same f g (sym at ∙ there));
      same_arrays = λ g there. arrays ∙ ap (λ (x : FunctionNode). x.arrays) (some_same f g (sym at ∙ there));
      ready = record {
        limits = subst (λ ps. AreLimited (measures_of program number) (count_by is_scalar ps)) (sym params) (limits_held program typed number f at marked);
        few_params = subst (λ ps. length ps ≤ 16) (sym params) (params_held program typed number f at);
        few_arrays = subst (λ xs. length xs ≤ 16) (sym arrays) (arrays_held program typed number f at marked);
        small_arrays = λ k array there. small_held program typed number f at k array (ap (λ xs. slice_get xs k) (sym arrays) ∙ there);
        no_jumps = kept.no_jumps;
        checked = kept.checked (keeps.checked proper);
        typed = kept.typed (keeps.typed proper.typed);
        below = kept.below (keeps.below proper);
        scalars = subst (λ ps. count_by is_scalar ps ≤ (flags (normal_kernel (kernel_flat program number f))).variables) (sym params) (scalars_below (kernel_flat program number f) proper.typed.scalars);
        distinct = subst AreDifferent (sym kept.same_sites) barriers.0;
        numbered = subst (NumbersAreBelow (measured own_sites program number)) (sym kept.same_sites) barriers.1;
        nested = sizes.nested;
        branched = sizes.branched;
        looped = sizes.looped;
        counted = sizes.counted;
        words = sizes.words;
      };
    }

-- ---- whatever passed

pub passed_does : (program : List FunctionNode) → ∥ IsProgram program ∥₁ → (number : ℕ) → IsKernel program number → (code : KirCode) → IsPassed program number code → DoesAsSource program number code
passed_does program typed number kernel code passed =
    let there : Stands program number = stands program number kernel in
    let flat : passed.flat ≡ kernel_flat program number there.kernel = flat_is program number passed.flat passed.expanded there.kernel there.at in
    subst (DoesAsSource program number) (sym (passed.flagged ∙ ap (λ (x : FlatKernel). flags (normal_kernel x)) flat))
    (does_as_source program typed number there.kernel there.at there.marked (subst NumbersAreWords flat passed.words))

pub passed_ready : (program : List FunctionNode) → ∥ IsProgram program ∥₁ → (number : ℕ) → IsKernel program number → (code : KirCode) → IsPassed program number code → IsReadyFor program number code
passed_ready program typed number kernel code passed =
    let there : Stands program number = stands program number kernel in
    let flat : passed.flat ≡ kernel_flat program number there.kernel = flat_is program number passed.flat passed.expanded there.kernel there.at in
    subst (IsReadyFor program number) (sym (passed.flagged ∙ ap (λ (x : FlatKernel). flags (normal_kernel x)) flat))
    (kernel_ready program typed number there.kernel there.at there.marked (subst NumbersAreWords flat passed.words))
