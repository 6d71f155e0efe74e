-- Which code the passes make, one after another.
use Rattle.std.specs.Prelude.{◌≡◌, ℕ, Bool, List}
use Rattle.kir.specs.Trees.{KirCode}
use Rattle.ocl_program.specs.Nodes.{FunctionNode}
use Rattle.vcode.specs.Code.{Code}
use Rattle.structured.specs.Ready.{IsReadyFor}
use Rattle.structured.specs.Source.{DoesAsSource}
use Rattle.uniformity.specs.Marks.{AreGreatest}
use Rattle.uniformity.specs.Pairs.{ItemsAgree}
use Rattle.simt_lowering.specs.Lowered.{lowered_kernel}
use Rattle.simt_lowering.specs.Partings.{PartsAt}
use Rattle.warp_code.specs.Warps.{Crew}
use Rattle.mask_laws.specs.Laws.{HasItems, InStep}
use Rattle.mask_laws.specs.Opened.{HonestlyInStep}

-- It is lowered from structured code of the kernel, by the uniform variables of that code. A warp parts exactly at the tests of that code that
-- are not uniform, and each warp whose first lane has an item is in step: it does for each of its lanes what the lane does alone. It takes honest
-- answers: loads at places of `__constant` arrays that are answered the bytes with which the launch opens.
pub record IsLoweredFrom (program : List FunctionNode) (number : ℕ) (made : Code) : Type 0 where
  pub code : KirCode
  pub marks : ℕ → Bool
  pub source : DoesAsSource program number code
  pub ready : IsReadyFor program number code
  pub greatest : AreGreatest code marks
  pub agree : ItemsAgree code marks
  pub lowered : made ≡ lowered_kernel marks code
  pub parts : PartsAt code marks made.ops
  pub in_step : (k : Crew) (is_first : Bool) → HasItems k → InStep marks code k is_first
  pub honest : (k : Crew) (is_first : Bool) → HasItems k → HonestlyInStep marks code k is_first
