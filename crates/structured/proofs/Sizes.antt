-- How large the code is, by the measures of the kernel.
use Rattle.std.proofs.Common.{◌≡◌, sym, ap, ◌∙◌, subst, ℕ, ◌+◌, ◌-◌, ◌*◌, ◌<◌, ◌≤◌, ◌^◌, true, List, length, Some, slice_get, arith}
use Rattle.std.specs.Prelude.{count_by}
use Rattle.std.proofs.lemmas.List.Sums.{count_by-le-length}
use Rattle.kir.specs.FlaggedWords.{flagged_words}
use Rattle.kir.specs.Loops.{loop_nesting}
use Rattle.kir.specs.Measures.{branching, calls, nesting}
use Rattle.kir.specs.Trees.{KirCode}
use Rattle.kir.specs.Weights.{weight}
use Rattle.kir_flow.proofs.FlagsKeep.{flags_keep}
use Rattle.kir_flow.specs.Flagging.{flags}
use Rattle.kir_flow.specs.WithoutJumps.{WithoutJumps}
use Rattle.ocl_inline.proofs.Flats.{flat_is}
use Rattle.ocl_inline.proofs.KernelLaws.{kernel_measures}
use Rattle.ocl_inline.specs.Expansion.{kernel_flat}
use Rattle.ocl_inline.specs.FlatItems.{flat_at}
use Rattle.ocl_inline.specs.FlatLaws.{HaveMeasures}
use Rattle.ocl_inline.specs.FlatMeasures.{flat_calls, flat_control, flat_depth, flat_nodes}
use Rattle.ocl_inline.specs.Trees.{FlatKernel}
use Rattle.ocl_norm.proofs.NormalMeasures.{normal_measures}
use Rattle.ocl_norm.specs.Kept.{KeepsMeasures}
use Rattle.ocl_norm.specs.Normal.{normal_kernel}
use Rattle.ocl_program.specs.Measures.{cut, measured, own_calls, own_control, own_depth, own_nodes, own_variables}
use Rattle.ocl_program.specs.Nodes.{FunctionNode}
use Rattle.ocl_sem.specs.Source.{is_scalar}
use Rattle.ocl_types.specs.Functions.{IsProgram}
use Rattle.structured.specs.Ready.{AreLimited, IsKernel, Measures, measures_of}
use Rattle.structured.proofs.Held.{Stands, limits_held, params_held, some_same, stands}

-- what is known of the code of a normal form, of a flat kernel with so many variables
pub record AreSizes (m : Measures) (code : KirCode) : Type 0 where
  pub counted : code.variables ≤ m.variables + (m.depth + 2 * m.calls + 4)
  pub nested : nesting code.ops ≤ m.control
  pub branched : branching code.ops ≤ m.control
  pub looped : loop_nesting code.ops ≤ m.control
  pub called : calls code.ops ≤ m.calls
  pub words : flagged_words code.ops + (code.variables - m.variables - 1 + m.calls + 4 * m.control) ≤ 38 * m.nodes

pub normal_sizes : (program : List FunctionNode) → ∥ IsProgram program ∥₁ → (number : ℕ) (f : FunctionNode) → slice_get program number ≡ Some f → f.kernel ≡ true
    → AreSizes (measures_of program number) (normal_kernel (kernel_flat program number f))
normal_sizes program typed number f at marked =
    let flat : FlatKernel = kernel_flat program number f in
    let limits : AreLimited (measures_of program number) (count_by is_scalar f.params) = limits_held program typed number f at marked in
    let same : HaveMeasures program number (kernel_flat program number f) =
    kernel_measures program typed number (kernel_flat program number f) (λ g there. ap (kernel_flat program number) (some_same f g (sym at ∙ there))) f at marked in
    let keeps : KeepsMeasures (kernel_flat program number f) (normal_kernel (kernel_flat program number f)) = normal_measures (kernel_flat program number f) in
    let few : measured own_variables program number ≤ 256 = limits.variables in
    let nodes : flat_nodes (kernel_flat program number f).body ≡ measured own_nodes program number = same.nodes in
    let depth : flat_depth (kernel_flat program number f).body ≡ measured own_depth program number = same.depth in
    let control : flat_control (kernel_flat program number f).body ≡ measured own_control program number = same.control in
    let called : flat_calls (kernel_flat program number f).body ≡ measured own_calls program number = same.calls in
    let counted : (normal_kernel (kernel_flat program number f)).variables ≤ cut (measured own_variables program number)
    + (flat_depth (kernel_flat program number f).body + 2 * flat_calls (kernel_flat program number f).body + 4) = keeps.counted in
    let words : flagged_words (normal_kernel (kernel_flat program number f)).ops + ((normal_kernel (kernel_flat program number f)).variables - cut (measured own_variables program number) - 1
    + flat_calls (kernel_flat program number f).body + 4 * flat_control (kernel_flat program number f).body) ≤ 38 * flat_nodes (kernel_flat program number f).body = keeps.words in
    record {
      counted = omega arith;
      nested = omega (arith, keeps.nested);
      branched = omega (arith, keeps.branched);
      looped = omega (arith, keeps.looped);
      called = omega (arith, keeps.called);
      words = omega arith;
    }

-- the variables of the normal form, and those with flags, can be numbered where expressions have no more levels than this
pub normal_numbers : (program : List FunctionNode) → ∥ IsProgram program ∥₁ → (number : ℕ) (f : FunctionNode) → slice_get program number ≡ Some f → f.kernel ≡ true
    → measured own_depth program number ≤ 2 ^ 31 → (normal_kernel (kernel_flat program number f)).variables < 2 ^ 32
normal_numbers program typed number f at marked few =
    let limits : AreLimited (measures_of program number) (count_by is_scalar f.params) = limits_held program typed number f at marked in
    let sizes : AreSizes (measures_of program number) (normal_kernel (kernel_flat program number f)) = normal_sizes program typed number f at marked in
    omega (arith, limits.variables, limits.calls, sizes.counted)

pub flagged_numbers : (program : List FunctionNode) → ∥ IsProgram program ∥₁ → (number : ℕ) (f : FunctionNode) → slice_get program number ≡ Some f → f.kernel ≡ true
    → measured own_depth program number ≤ 2 ^ 31 → (flags (normal_kernel (kernel_flat program number f))).variables < 2 ^ 32
flagged_numbers program typed number f at marked few =
    let limits : AreLimited (measures_of program number) (count_by is_scalar f.params) = limits_held program typed number f at marked in
    let sizes : AreSizes (measures_of program number) (normal_kernel (kernel_flat program number f)) = normal_sizes program typed number f at marked in
    let kept : WithoutJumps (normal_kernel (kernel_flat program number f)) (flags (normal_kernel (kernel_flat program number f))) = flags_keep (normal_kernel (kernel_flat program number f)) in
    omega (arith, limits.variables, limits.calls, limits.control, sizes.counted, sizes.looped, sizes.called, kept.counted)

-- ---- the code with flags

pub record AreKept (m : Measures) (code : KirCode) : Type 0 where
  pub nested : nesting code.ops ≤ m.control + 1
  pub branched : branching code.ops ≤ m.control + 1
  pub looped : loop_nesting code.ops ≤ m.control
  pub counted : code.variables ≤ m.variables + (m.depth + 3 * m.calls + 2 * m.control + 5)
  pub words : weight code.ops + (code.variables + loop_nesting code.ops) ≤ 39 * m.nodes + 21

pub flagged_sizes : (m : Measures) (scalars : ℕ) (code : KirCode) → AreLimited m scalars → scalars ≤ 16 → AreSizes m code → AreKept m (flags code)
flagged_sizes m scalars code limits few sizes =
    let kept : WithoutJumps code (flags code) = flags_keep code in
    record {
      nested = omega (arith, sizes.nested, kept.nested);
      branched = omega (arith, sizes.branched, kept.branched);
      looped = omega (arith, sizes.looped, kept.looped);
      counted = omega (arith, sizes.counted, sizes.looped, sizes.called, kept.counted);
      words = omega (arith, limits.declared, sizes.words, sizes.looped, sizes.called, kept.counted, kept.looped, kept.words);
    }

pub few_scalars : (program : List FunctionNode) → ∥ IsProgram program ∥₁ → (number : ℕ) (f : FunctionNode) → slice_get program number ≡ Some f → count_by is_scalar f.params ≤ 16
few_scalars program typed number f at =
    let few : length f.params ≤ 16 = params_held program typed number f at in
    let some : count_by is_scalar f.params ≤ length f.params = count_by-le-length is_scalar f.params in omega arith

-- ---- what the passes owe of the kernel that they are given

pub normal_fits : (program : List FunctionNode) → ∥ IsProgram program ∥₁ → (number : ℕ) → IsKernel program number → measured own_depth program number ≤ 2 ^ 31
    → (flat : FlatKernel) → flat_at program number ≡ Some flat → (normal_kernel flat).variables < 2 ^ 32
normal_fits program typed number kernel few flat expanded =
    let there : Stands program number = stands program number kernel in
    let same : flat ≡ kernel_flat program number there.kernel = flat_is program number flat expanded there.kernel there.at in
    subst (λ (x : FlatKernel). (normal_kernel x).variables < 2 ^ 32) (sym same) (normal_numbers program typed number there.kernel there.at there.marked few)

pub flagged_fits : (program : List FunctionNode) → ∥ IsProgram program ∥₁ → (number : ℕ) → IsKernel program number → measured own_depth program number ≤ 2 ^ 31
    → (flat : FlatKernel) → flat_at program number ≡ Some flat → (code : KirCode) → code ≡ normal_kernel flat → (flags code).variables < 2 ^ 32
flagged_fits program typed number kernel few flat expanded code normal =
    let there : Stands program number = stands program number kernel in
    let same : flat ≡ kernel_flat program number there.kernel = flat_is program number flat expanded there.kernel there.at in
    subst (λ (x : KirCode). (flags x).variables < 2 ^ 32) (sym (normal ∙ ap normal_kernel same)) (flagged_numbers program typed number there.kernel there.at there.marked few)
