-- What a kernel with flags in place of jumps keeps of the one with jumps.
use Rattle.std.specs.Prelude.{◌≡◌, ℕ, suc, ◌+◌, ◌*◌, ◌≤◌, false, List}
use Rattle.item_acts.specs.declared.acts.Bound.{Bound}
use Rattle.item_acts.specs.declared.acts.Range.{Range}
use Rattle.step_machine.specs.Alike.{AskAlike}
use Rattle.kir.specs.Machine.{code_setting, cost, kir_start, step}
use Rattle.kir.specs.Loops.{loop_nesting}
use Rattle.kir.specs.Measures.{IsChecked, branching, calls, jumps, nesting, sites}
use Rattle.kir.specs.Trees.{KirCode}
use Rattle.kir.specs.Typing.{AreTyped}
use Rattle.kir.specs.Weights.{weight}
use Rattle.kir.specs.FlaggedWords.{flagged_words}
use Rattle.kir.specs.Numbered.{AreBelow, GivesWords}

pub record WithoutJumps (code flat : KirCode) : Type 0 where
  -- the parameters and the arrays are the same
  pub same_params : flat.params ≡ code.params
  pub same_arrays : flat.arrays ≡ code.arrays
  -- no jump and no call is left
  pub no_jumps : jumps flat.ops ≡ false
  -- the barriers stand in the same order
  pub same_sites : sites flat.ops ≡ sites code.ops
  -- branches and loops stand within at most one branch more, and loops within no more loops
  pub nested : nesting flat.ops ≤ suc (nesting code.ops)
  pub branched : branching flat.ops ≤ suc (branching code.ops)
  pub looped : loop_nesting flat.ops ≤ loop_nesting code.ops
  -- one variable more, and at most two for each loop and one for each call that stand within one another
  pub counted : flat.variables ≤ suc code.variables + (2 * loop_nesting code.ops + calls code.ops)
  -- no more words than are set aside for flags
  pub words : weight flat.ops ≤ 3 + flagged_words code.ops
  -- each load and each store is by the type of its array's elements, and no store is to an array that may not be changed
  pub typed : AreTyped code.params code.arrays code.ops → AreTyped flat.params flat.arrays flat.ops
  -- each load and each store stands behind its check
  pub checked : IsChecked code.ops → IsChecked flat.ops
  -- the variables are numbered below their count, and numbers are words
  pub below : AreBelow code.variables code.ops → AreBelow flat.variables flat.ops
  -- for every launch of which items learn words it asks for the same, and begins no more turns of loops until then
  pub asks : AreBelow code.variables code.ops → (range : Range) (bounds : List Bound) (item : ℕ) → GivesWords (code_setting code range bounds item)
      → AskAlike (step (code_setting code range bounds item)) (step (code_setting flat range bounds item)) cost cost (kir_start code bounds) (kir_start flat bounds)
