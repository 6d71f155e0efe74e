-- How many turns of loops an item begins.
use Rattle.std.specs.Prelude.{ℕ, List}
use Rattle.item_acts.specs.declared.acts.Bound.{Bound}
use Rattle.item_acts.specs.declared.acts.Range.{Range}
use Rattle.ocl_program.specs.Nodes.{FunctionNode}
use Rattle.step_machine.specs.Costs.{spent}
use Rattle.ocl_sem.specs.Items.{item_start, item_step}
use Rattle.ocl_sem.specs.Settings.{setting_of}
use Rattle.task_machine.specs.Tasks.{cost}

-- how many turns of loops an item begins in its first steps, with these answers
abbrev pub turns_begun : List FunctionNode → FunctionNode → Range → List Bound → ℕ → List ℕ → ℕ → ℕ
turns_begun program kernel range bounds item answers fuel =
    spent (item_step program (setting_of kernel range bounds item)) cost fuel (item_start program kernel bounds) answers
