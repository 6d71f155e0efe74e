-- What the normal form keeps of a flat kernel apart from what is asked.
use Rattle.std.specs.Prelude.{ℕ, ◌+◌, ◌-◌, ◌*◌, ◌≤◌, ◌==◌, List}
use Rattle.std.specs.List.{count_by}
use Rattle.kir.specs.FlaggedWords.{flagged_words}
use Rattle.kir.specs.Loops.{loop_nesting}
use Rattle.kir.specs.Measures.{IsChecked, branching, calls, nesting, sites}
use Rattle.kir.specs.Numbered.{AreBelow}
use Rattle.kir.specs.Trees.{KirCode}
use Rattle.kir.specs.Typing.{AreTyped}
use Rattle.ocl_inline.specs.FlatMeasures.{flat_calls, flat_control, flat_depth, flat_nodes}
use Rattle.ocl_inline.specs.FlatNumbers.{AreDifferent, flat_sites}
use Rattle.ocl_inline.specs.Trees.{FlatKernel}
use Rattle.ocl_norm.specs.Normal.{normal_kernel}
use Rattle.ocl_inline.specs.Proper.{IsProperKernel, IsTypedKernel}

-- how often a barrier stands in a list
abbrev pub times : ℕ → List ℕ → ℕ
times site list = count_by (λ (k : ℕ). site == k) list

pub record KeepsMeasures (kernel : FlatKernel) (code : KirCode) : Type 0 where
  -- each barrier is one of the kernel's and stands no more often; their order may be another one, since the step of a `for` stands
  -- behind its body
  pub barriers : (site : ℕ) → times site (sites code.ops) ≤ times site (flat_sites kernel.body)
  -- barriers that differ from one another do so still
  pub distinct : AreDifferent (flat_sites kernel.body) → AreDifferent (sites code.ops)
  -- branches and loops stand within no more others than in the kernel, branches alone and loops alone too, and calls within no more
  -- calls
  pub nested : nesting code.ops ≤ flat_control kernel.body
  pub branched : branching code.ops ≤ flat_control kernel.body
  pub looped : loop_nesting code.ops ≤ flat_control kernel.body
  pub called : calls code.ops ≤ flat_calls kernel.body
  -- behind the kernel's variables stand at most one for each level of an expression, two for each call that stands within another, and
  -- four
  pub counted : code.variables ≤ kernel.variables + (flat_depth kernel.body + 2 * flat_calls kernel.body + 4)
  -- Once jumps are flags, 38 words for each node are enough, with one for each variable but the first that stands behind the kernel's,
  -- one for each call within another and four for each branch or loop within another.
  pub words : flagged_words code.ops + (code.variables - kernel.variables - 1 + flat_calls kernel.body + 4 * flat_control kernel.body)
      ≤ 38 * flat_nodes kernel.body
  -- each load and each store is by the type of its array's elements, and no store is to an array that may not be changed
  pub typed : IsTypedKernel kernel → AreTyped code.params code.arrays code.ops
  -- each load and each store stands behind its check
  pub checked : IsProperKernel kernel → IsChecked code.ops
  -- variables are numbered below their count, and numbers are words
  pub below : IsProperKernel kernel → AreBelow code.variables code.ops

-- the normal form of every kernel does so
abbrev pub NormalMeasures : Type 0
NormalMeasures = (kernel : FlatKernel) → KeepsMeasures kernel (normal_kernel kernel)
