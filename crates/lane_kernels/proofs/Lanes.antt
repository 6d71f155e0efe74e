-- Lanes of lowered code do as the items of the source.
use Rattle.std.proofs.Common.{◌≡◌, sym, ap, ◌∙◌, subst, ℕ, Bool, List, [], map, slice_get, Some, drop}
use Rattle.kir.specs.Machine as kir
use Rattle.kir.specs.Machine.{code_setting, kir_start}
use Rattle.kir.specs.Trees.{KirCode}
use Rattle.item_settings.specs.Settings.{Setting}
use Rattle.item_settings.specs.Settings as settings
use Rattle.ocl_ast.specs.declared.units.Param.{Param}
use Rattle.ocl_program.specs.declared.functions.LocalArray.{LocalArray}
use Rattle.ocl_program.specs.Measures.{measured, own_sites}
use Rattle.ocl_program.specs.Nodes.{FunctionNode}
use Rattle.ocl_sem.specs.Items.{item_start, item_step}
use Rattle.ocl_sem.specs.Settings.{setting_of}
use Rattle.step_machine.proofs.AlikeLaws.{alike_on}
use Rattle.step_machine.specs.Alike.{AskAlike}
use Rattle.task_machine.specs.Tasks.{cost as item_cost}
use Rattle.vcode.specs.Code.{VOp}
use Rattle.vcode.specs.Machine as vcode
use Rattle.vcode.specs.Machine.{Around, Lane, lane, lane_start}
use Rattle.vx_layout.specs.Launching.{Plan, Accepted}
use Rattle.structured.specs.Ready.{IsReadyFor, measures_of}
use Rattle.structured.specs.Source.{DoesAsSource}
use Rattle.simt_lowering.specs.InArrays as lowering
use Rattle.simt_lowering.specs.InArrays.{FirstInArray}
use Rattle.simt_lowering.specs.Kept as kept
use Rattle.simt_lowering.specs.Kept.{AreKept, IsKept, item_place, spawn_place}
use Rattle.simt_lowering.specs.Laid as laid
use Rattle.simt_lowering.specs.Laid.{HasLane, LaysOut, around_of, array_bytes, kind_of}
use Rattle.simt_lowering.proofs.LaidLanes.{accepted_is_laid}
use Rattle.lane_kernels.specs.Accesses.{AccessArrays}
use Rattle.lane_kernels.specs.Source.{AsksAs, DoesAs, IsLaunchOf, LanesDoAsSource}
use Rattle.lane_kernels.proofs.Limits.{can_lower}
use Rattle.lane_kernels.proofs.Ranges.{same_setting, within}
use Rattle.lane_kernels.proofs.WordItems.{is_word_item}

module _ (program : List FunctionNode) (number : ℕ) (code : KirCode) (ready : IsReadyFor program number code) (kernel : FunctionNode) (at : slice_get program number ≡ Some kernel) where
  -- a launch of the kernel is one of its structured code
  launch_of : (p : Plan) → IsLaunchOf kernel p → laid.IsLaunchOf code p
  launch_of p plan = record {
    params = plan.params ∙ ap (map kind_of) (sym (ready.same_params kernel at));
    arrays = plan.arrays ∙ ap (map array_bytes) (sym (ready.same_arrays kernel at));
  }

  -- items know of it what those of the kernel know
  setting_is : (p : Plan) (item : ℕ) → code_setting code p.range p.bounds item ≡ setting_of kernel p.range p.bounds item
  setting_is p item =
      ap (λ (ps : List Param). settings.setting_of ps code.arrays p.range p.bounds item) (ready.same_params kernel at)
      ∙ ap (λ (xs : List LocalArray). settings.setting_of kernel.params xs p.range p.bounds item) (ready.same_arrays kernel at)

  module _ (does : DoesAsSource program number code) (p : Plan) (ok : Accepted p) (plan : IsLaunchOf kernel p) (item group warp lane_number : ℕ) (has : HasLane p item group warp lane_number) where
    abbrev Alike : Setting → Setting → Type 0
    Alike one other = AskAlike (item_step program one) (kir.step other) item_cost kir.cost (item_start program kernel p.bounds) (kir_start code p.bounds)

    -- the item of the structured code asks as that of the source
    structured_asks : Alike (setting_of kernel p.range p.bounds item) (code_setting code p.range p.bounds item)
    structured_asks =
        subst (λ s. Alike s (code_setting code p.range p.bounds item)) (same_setting p.range kernel.params kernel.arrays p.bounds item)
        (subst (Alike (setting_of kernel (within p.range) p.bounds item)) (same_setting p.range code.params code.arrays p.bounds item)
        (does kernel at (within p.range) p.bounds item (is_word_item kernel p ok plan item group warp lane_number has)))

    lane_asks : (ops : List VOp) (around : Around) (l : Lane) → kept.AsksAs code ops (code_setting code p.range p.bounds item) p.bounds around l → AsksAs program kernel ops p item around l
    lane_asks ops around l asks =
        alike_on (item_step program (setting_of kernel p.range p.bounds item)) (kir.step (code_setting code p.range p.bounds item)) (vcode.step around ops)
        item_cost kir.cost (vcode.cost ops) (item_start program kernel p.bounds) (kir_start code p.bounds) l structured_asks asks

    lane_does : (ops : List VOp) (around : Around) → IsKept code ops (code_setting code p.range p.bounds item) p.bounds around → DoesAs program kernel ops p item around
    lane_does ops around asks = record {
      from_start = λ numbers. lane_asks ops around (lane_start numbers) (asks.from_start numbers);
      from_spawn = λ registers numbers. lane_asks ops around (lane spawn_place registers [] numbers) (asks.from_spawn registers numbers);
      from_item = λ registers numbers. lane_asks ops around (lane item_place registers [] numbers) (asks.from_item registers numbers);
    }

pub lanes_do : (program : List FunctionNode) (number : ℕ) (code : KirCode) (marks : ℕ → Bool) (ops : List VOp) → DoesAsSource program number code → IsReadyFor program number code → AreKept code marks ops
    → LanesDoAsSource program number ops
lanes_do program number code marks ops does ready keeps kernel at p ok plan =
    let lays : LaysOut code marks p = accepted_is_laid code marks p ok (launch_of program number code ready kernel at p plan) in
    record {
      each_item = lays.each_item;
      each_lane = lays.each_lane;
      does = λ item group warp lane_number has.
          lane_does program number code ready kernel at does p ok plan item group warp lane_number has ops (around_of p group warp lane_number)
          (keeps (code_setting code p.range p.bounds item) p.bounds (around_of p group warp lane_number)
          (can_lower (measures_of program number) (measured own_sites program number) code ready.ready) (lays.laid item group warp lane_number has));
    }

pub lanes_access : (program : List FunctionNode) (number : ℕ) (code : KirCode) (ops : List VOp) → IsReadyFor program number code → lowering.AccessArrays code ops → AccessArrays program number ops
lanes_access program number code ops ready accesses kernel at p ok plan item group warp lane_number has q rs ns begins n t us comes =
    subst (λ s. FirstInArray p s group (drop t.place ops) t.registers) (setting_is program number code ready kernel at p item)
    (accesses p ok (launch_of program number code ready kernel at p plan) (can_lower (measures_of program number) (measured own_sites program number) code ready.ready)
    item group warp lane_number has q rs ns begins n t us comes)
