-- What the flat form of a kernel has, of a program of which no more is known than that it is of some file.
use Rattle.std.proofs.Common.{◌≡◌, ℕ, List, [], ◌∷◌, Some, slice_get, refl, sym, subst}
use Rattle.std.proofs.Math.Bridge.{le_prop}
use Rattle.std.proofs.Math.Logic.{∥∥₁_elim}
use Rattle.std.proofs.Math.Nat.{ℕ_set}
use Rattle.std.proofs.lemmas.Map.Keys.{IsDistinct-prop}
use mathlib.Core.HLevel.{×_prop}
use Rattle.ocl_program.specs.Nodes.{FunctionNode}
use Rattle.ocl_types.specs.Functions.{IsProgram}
use Rattle.program_laws.specs.Formed.{AreBelow}
use Rattle.ocl_inline.specs.Expansion.{kernel_flat}
use Rattle.ocl_inline.specs.FlatLaws.{HaveMeasures, HaveSites, HaveVariables, WhereKernel}
use Rattle.ocl_inline.specs.Trees.{FlatKernel}
use Rattle.ocl_inline.proofs.MeasuresAlike.{measures_kept}
use Rattle.ocl_inline.proofs.SiteNumbers.{sites_differ}
use Rattle.ocl_inline.proofs.Sound.{of_kernels}
use Rattle.ocl_inline.proofs.VariableNumbers.{variables_are_below}

below_prop : (bound : ℕ) (ns : List ℕ) → IsProp (AreBelow bound ns)
below_prop bound [] = λ x y. refl
below_prop bound (n ∷ ns) = ×_prop le_prop (below_prop bound ns)

-- the flat form of the function that stands there
abbrev pub IsFlatOf : List FunctionNode → ℕ → FlatKernel → Type 0
IsFlatOf program number flat = (kernel : FunctionNode) → slice_get program number ≡ Some kernel → flat ≡ kernel_flat program number kernel

pub kernel_sites : (program : List FunctionNode) → ∥ IsProgram program ∥₁ → (number : ℕ) (flat : FlatKernel) → IsFlatOf program number flat → WhereKernel program number (HaveSites program number flat)
kernel_sites program typed number flat is kernel here marked =
    subst (HaveSites program number) (sym (is kernel here))
    (∥∥₁_elim typed (×_prop (IsDistinct-prop _ _) (below_prop _ _)) (λ of_file. of_kernels HaveSites sites_differ program of_file number kernel here marked))

pub kernel_variables : (program : List FunctionNode) → ∥ IsProgram program ∥₁ → (number : ℕ) (flat : FlatKernel) → IsFlatOf program number flat → WhereKernel program number (HaveVariables program number flat)
kernel_variables program typed number flat is kernel here marked =
    subst (HaveVariables program number) (sym (is kernel here))
    (∥∥₁_elim typed (below_prop _ _) (λ of_file. of_kernels HaveVariables variables_are_below program of_file number kernel here marked))

pub kernel_measures : (program : List FunctionNode) → ∥ IsProgram program ∥₁ → (number : ℕ) (flat : FlatKernel) → IsFlatOf program number flat → WhereKernel program number (HaveMeasures program number flat)
kernel_measures program typed number flat is kernel here marked =
    let law : IsProgram program → HaveMeasures program number (kernel_flat program number kernel) =
    λ of_file. of_kernels HaveMeasures measures_kept program of_file number kernel here marked in
    subst (HaveMeasures program number) (sym (is kernel here)) (record {
      nodes = ∥∥₁_elim typed (ℕ_set _ _) (λ of_file. (law of_file).nodes);
      depth = ∥∥₁_elim typed (ℕ_set _ _) (λ of_file. (law of_file).depth);
      control = ∥∥₁_elim typed (ℕ_set _ _) (λ of_file. (law of_file).control);
      calls = ∥∥₁_elim typed (ℕ_set _ _) (λ of_file. (law of_file).calls);
    })
