-- What a kernel has of a program of which no more is known than that it is of some file.
use Rattle.std.proofs.Common.{◌≡◌, refl, ℕ, ◌<◌, ◌≤◌, true, List, length, Option, None, Some, option_map, slice_get}
use Rattle.std.specs.Prelude.{count_by}
use Rattle.std.proofs.Math.Bridge.{le_prop}
use Rattle.std.proofs.Math.Logic.{∥∥₁_elim}
use Rattle.std.proofs.lemmas.Option.{slice_get_within}
use mathlib.Core.HLevel.{×_prop}
use Rattle.item_acts.specs.declared.acts.Bound.{Bound}
use Rattle.ocl_program.specs.declared.exprs.ArrayRef.TheVariants.{Parameter, Declared}
use Rattle.ocl_program.specs.declared.functions.LocalArray.{LocalArray}
use Rattle.ocl_program.specs.Nodes.{FunctionNode}
use Rattle.ocl_sem.specs.Launched.{IsRoomy}
use Rattle.ocl_sem.specs.Source.{is_scalar}
use Rattle.ocl_types.specs.Functions.{IsProgram}
use Rattle.program_laws.proofs.Bodies.{arrays_small}
use Rattle.program_laws.proofs.Levels.{calls_are_levels}
use Rattle.program_laws.proofs.Limits.{kernel_arrays_few, kernels_shallow, kernels_small, params_few}
use Rattle.program_laws.proofs.Rooms.{HasRoom, declared_room}
use Rattle.flat_typing.proofs.Variables.{variables_few}
use Rattle.item_settings.specs.Settings.{array_bound}
use Rattle.structured.specs.Ready.{AreLimited, IsKernel, measures_of}

pub some_same : {A : Type 0} (x y : A) → Some x ≡ Some y → x ≡ y
some_same x y h = cc

-- the kernel that stands there
pub record Stands (program : List FunctionNode) (number : ℕ) : Type 0 where
  pub kernel : FunctionNode
  pub at : slice_get program number ≡ Some kernel
  pub marked : kernel.kernel ≡ true

found_stands : (program : List FunctionNode) (number : ℕ) (found : Option FunctionNode) → slice_get program number ≡ found → option_map (λ (f : FunctionNode). f.kernel) found ≡ Some true → Stands program number
found_stands program number None at e = cc
found_stands program number (Some f) at e = record { kernel = f; at = at; marked = cc }

pub stands : (program : List FunctionNode) (number : ℕ) → IsKernel program number → Stands program number
stands program number e = found_stands program number (slice_get program number) refl e

pub kernel_within : (program : List FunctionNode) (number : ℕ) → IsKernel program number → number < length program
kernel_within program number e = let there = stands program number e in slice_get_within program number there.kernel there.at

pub limits_held : (program : List FunctionNode) → ∥ IsProgram program ∥₁ → (number : ℕ) (f : FunctionNode) → slice_get program number ≡ Some f → f.kernel ≡ true
    → AreLimited (measures_of program number) (count_by is_scalar f.params)
limits_held program typed number f at marked = record {
  variables = ∥∥₁_elim typed le_prop (λ p. (kernels_small program p number f at marked).0);
  nodes = ∥∥₁_elim typed le_prop (λ p. (kernels_small program p number f at marked).1);
  control = ∥∥₁_elim typed le_prop (λ p. (kernels_shallow program p number f at marked).0);
  calls = ∥∥₁_elim typed le_prop (λ p. (kernels_shallow program p number f at marked).1);
  levels = ∥∥₁_elim typed le_prop (λ p. calls_are_levels program p number (kernels_small program p number f at marked));
  declared = ∥∥₁_elim typed le_prop (λ p. variables_few program p number f (kernels_small program p number f at marked) at);
}

pub params_held : (program : List FunctionNode) → ∥ IsProgram program ∥₁ → (number : ℕ) (f : FunctionNode) → slice_get program number ≡ Some f → length f.params ≤ 16
params_held program typed number f at = ∥∥₁_elim typed le_prop (λ p. params_few program p number f at)

pub arrays_held : (program : List FunctionNode) → ∥ IsProgram program ∥₁ → (number : ℕ) (f : FunctionNode) → slice_get program number ≡ Some f → f.kernel ≡ true → length f.arrays ≤ 16
arrays_held program typed number f at marked = ∥∥₁_elim typed le_prop (λ p. kernel_arrays_few program p number f at marked)

pub small_held : (program : List FunctionNode) → ∥ IsProgram program ∥₁ → (number : ℕ) (f : FunctionNode) → slice_get program number ≡ Some f → (k : ℕ) (array : LocalArray)
    → slice_get f.arrays k ≡ Some array → (1 ≤ array.count) × (array.count ≤ 262144)
small_held program typed number f at k array there = ∥∥₁_elim typed (×_prop le_prop le_prop) (λ p. arrays_small program p number k f array at there)

-- where what its parameters are bound to has room, all its arrays have
pub room_held : (program : List FunctionNode) → ∥ IsProgram program ∥₁ → (number : ℕ) (f : FunctionNode) (bounds : List Bound) → slice_get program number ≡ Some f
    → ((k : ℕ) → HasRoom (array_bound (slice_get f.params k) (slice_get bounds k))) → IsRoomy f bounds
room_held program typed number f bounds at room (Parameter k) = room k
room_held program typed number f bounds at room (Declared k) = declared_room f.params k (slice_get f.arrays k) (λ array there. (small_held program typed number f at k array there).1)
