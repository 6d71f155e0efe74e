-- When a launch is refused, and what a launch gives that is not.
use Rattle.std.specs.Prelude.{◌≡◌, ℕ, ◌<◌, ◌≤◌, ◌⊎◌, map, sum}
use Rattle.vx_layout.specs.Addresses.{in_words}
use Rattle.vx_layout.specs.Launching.{Accepted, local_sizes}
use Rattle.launch_loader.specs.declared.checked.Checked.{Checked}
use Rattle.launch_loader.specs.declared.faults.LaunchFault.{LaunchFault}
use Rattle.launch_loader.specs.declared.faults.LaunchFault.TheVariants.{LocalMemory, Memory}
use Rattle.launch_loader.specs.Conditions.{Case, layout_of}
use Rattle.launch_loader.specs.Refusals.{RefusesArguments, RefusesRange, TakesArguments, TakesRange}

-- the bytes of the `__local` arrays of a group, each rounded up to whole words
abbrev pub local_bytes : Case → ℕ
local_bytes c = sum (map in_words (local_sizes (layout_of c)))

-- why the `__local` arrays of a group are refused
abbrev pub RefusesLocals : Case → LaunchFault → Type 0
RefusesLocals c (LocalMemory bytes) = (262144 < local_bytes c) × (bytes ≡ local_bytes c)
RefusesLocals c fault = ⊥

-- why the launch's arguments are refused, and why its range
abbrev pub RefusesItsArguments : Case → LaunchFault → Type 0
RefusesItsArguments c fault = RefusesArguments c.buffers c.image.params c.plan.args fault

abbrev pub RefusesItsRange : Case → LaunchFault → Type 0
RefusesItsRange c fault = RefusesRange c.plan.range c.shape.warps c.shape.lanes fault

-- the kernel takes its arguments, and the machine its range
abbrev pub TakesItsArguments : Case → Type 0
TakesItsArguments c = TakesArguments c.buffers c.image.params c.plan.args

abbrev pub TakesItsRange : Case → Type 0
TakesItsRange c = TakesRange c.plan.range c.shape.warps c.shape.lanes

-- nothing refuses the launch
pub record Passes (c : Case) : Type 0 where
  pub arguments : TakesItsArguments c
  pub range : TakesItsRange c
  pub locals : local_bytes c ≤ 262144

-- the launch is refused: for its arguments, or else for its range, or else for its `__local` arrays
abbrev pub IsRefused : Case → LaunchFault → Type 0
IsRefused c fault =
    RefusesItsArguments c fault
    ⊎ (TakesItsArguments c × RefusesItsRange c fault)
    ⊎ (TakesItsArguments c × TakesItsRange c × RefusesLocals c fault)

-- it is not checked: it is refused, or nothing refuses it and memory ran out
abbrev pub IsUnchecked : Case → LaunchFault → Type 0
IsUnchecked c fault = IsRefused c fault ⊎ ((fault ≡ Memory) × Passes c)

-- it is checked: what is kept of it, that nothing refuses it, and that it may run
pub record IsChecked (c : Case) (checked : Checked) : Type 0 where
  pub plan : checked.plan ≡ c.plan
  pub buffers : checked.buffers ≡ c.buffers
  pub passes : Passes c
  pub accepted : Accepted (layout_of c)
