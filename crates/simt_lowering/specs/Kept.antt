-- What lowering keeps of the items of a structured kernel.
use Rattle.std.specs.Prelude.{◌≡◌, ℕ, Bool, false, List, []}
use Rattle.item_acts.specs.declared.acts.Bound.{Bound}
use Rattle.item_settings.specs.Settings.{Setting}
use Rattle.step_machine.specs.Alike.{AskAlike}
use Rattle.kir.specs.Machine as kir
use Rattle.kir.specs.Machine.{kir_start}
use Rattle.kir.specs.Measures.{IsChecked, jumps}
use Rattle.kir.specs.Numbered.{AreBelow}
use Rattle.kir.specs.Trees.{KirCode}
use Rattle.kir.specs.Typing.{AreTyped}
use Rattle.vcode.specs.Code.{VOp}
use Rattle.vcode.specs.Machine as vcode
use Rattle.vcode.specs.Machine.{Around, lane, lane_start}
use Rattle.simt_lowering.specs.Around.{HasArrays, HasItem, HasNumbers, HasScalars}
use Rattle.simt_lowering.specs.Lowered.{Known, kernel_code}

-- what is known of a kernel
abbrev pub known_of_kernel : (ℕ → Bool) → KirCode → Known
known_of_kernel marks code = record { marks = marks; params = code.params; arrays = code.arrays; variables = code.variables }

-- Code that can be lowered: no jump and no call is left, each load and store stands behind its check and is by its array's type, and
-- variables are numbered below their count.
pub record CanLower (code : KirCode) : Type 0 where
  pub no_jumps : jumps code.ops ≡ false
  pub checked : IsChecked code.ops
  pub below : AreBelow code.variables code.ops
  pub typed : AreTyped code.params code.arrays code.ops

-- A lane is laid out for an item of the kernel in this setting, with these bounds.
pub record IsLaidFor (code : KirCode) (marks : ℕ → Bool) (setting : Setting) (bounds : List Bound) (at : Around) : Type 0 where
  pub numbers : HasNumbers setting at
  pub arrays : HasArrays (known_of_kernel marks code) setting at
  pub item : HasItem setting at
  pub scalars : HasScalars at 0 code.params bounds

-- the lane asks for what the item asks for, and for nothing else, and begins no more turns of loops until then
abbrev pub AsksAs : KirCode → List VOp → Setting → List Bound → Around → vcode.Lane → Type 0
AsksAs code ops setting bounds at l = AskAlike (kir.step setting) (vcode.step at ops) kir.cost (vcode.cost ops) (kir_start code bounds) l

-- The place of the first operation, the place at which other warps begin, and the place behind the operation that leaves the lanes that have
-- an item.
abbrev pub spawn_place : ℕ
spawn_place = 3

abbrev pub item_place : ℕ
item_place = 14

-- From its start on, and from each of the two other places with any registers, whatever the control registers of the core and of the mask answer.
pub record IsKept (code : KirCode) (ops : List VOp) (setting : Setting) (bounds : List Bound) (at : Around) : Type 0 where
  pub from_start : (numbers : List ℕ) → AsksAs code ops setting bounds at (lane_start numbers)
  pub from_spawn : (registers : ℕ → ℕ) (numbers : List ℕ) → AsksAs code ops setting bounds at (lane spawn_place registers [] numbers)
  pub from_item : (registers : ℕ → ℕ) (numbers : List ℕ) → AsksAs code ops setting bounds at (lane item_place registers [] numbers)

-- These operations keep each item of a kernel for which a lane is laid out.
abbrev pub AreKept : KirCode → (ℕ → Bool) → List VOp → Type 0
AreKept code marks ops = (setting : Setting) (bounds : List Bound) (at : Around) → CanLower code → IsLaidFor code marks setting bounds at → IsKept code ops setting bounds at

-- the law: those of the kernel do
abbrev pub KernelKept : Type 0
KernelKept = (code : KirCode) (marks : ℕ → Bool) → AreKept code marks (kernel_code marks code)
