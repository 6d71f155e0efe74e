-- The code asks for what the source asks for.
use Rattle.std.proofs.Common.{◌≡◌, sym, ap, ◌∙◌, subst, ℕ, true, List, Some, slice_get, arith}
use Rattle.item_acts.specs.declared.acts.Bound.{Bound}
use Rattle.item_acts.specs.declared.acts.Range.{Range}
use Rattle.kir.specs.Machine.{code_setting, cost as code_cost, kir_start, step as code_step}
use Rattle.kir.specs.Numbered.{GivesWords}
use Rattle.kir.specs.Trees.{KirCode, NoOps}
use Rattle.kir_flow.proofs.FlagsKeep.{flags_keep}
use Rattle.kir_flow.proofs.WordsGiven.{gives_words}
use Rattle.kir_flow.specs.Flagging.{flags}
use Rattle.kir_flow.specs.WithoutJumps.{WithoutJumps}
use Rattle.ocl_inline.proofs.Flats.{asks_as, no_recursion, spends_as}
use Rattle.ocl_inline.specs.Expansion.{kernel_flat}
use Rattle.ocl_inline.specs.FlatItems.{AsksAs, SpendsAs, flat_setting, flat_start}
use Rattle.ocl_inline.specs.FlatTasks.{flat_parts}
use Rattle.ocl_inline.specs.Proper.{IsProperKernel, NumbersAreWords}
use Rattle.ocl_inline.specs.Trees.{FlatKernel}
use Rattle.ocl_norm.proofs.NormalKeeps.{normal_keeps}
use Rattle.ocl_norm.proofs.NormalMeasures.{normal_measures}
use Rattle.ocl_norm.specs.Laws.{DoesTheSame}
use Rattle.ocl_norm.specs.Normal.{normal_kernel}
use Rattle.ocl_program.specs.Nodes.{FunctionNode}
use Rattle.ocl_sem.specs.Items.{item_start, item_step}
use Rattle.ocl_sem.specs.Settings.{setting_of}
use Rattle.ocl_types.specs.Functions.{IsProgram}
use Rattle.flat_typing.proofs.Propositions.{held_typed}
use Rattle.program_laws.proofs.NoRecursion.{none_recursive}
use Rattle.step_machine.proofs.AlikeLaws.{alike_on}
use Rattle.step_machine.specs.Alike.{AskAlike}
use Rattle.step_machine.specs.Costs.{spent}
use Rattle.task_machine.specs.Tasks.{cost as item_cost, step as flat_step}
use Rattle.structured.specs.Source.{DoesAsSource, IsWordItem}
use Rattle.structured.proofs.Held.{room_held, some_same}

-- the flat kernel makes the steps of the source
source_flat : (program : List FunctionNode) (number : ℕ) (kernel : FunctionNode) (flat : FlatKernel) → slice_get program number ≡ Some kernel → AsksAs flat program number → SpendsAs flat program number
    → (range : Range) (bounds : List Bound) (item : ℕ)
    → AskAlike (item_step program (setting_of kernel range bounds item)) (flat_step flat_parts (flat_setting flat range bounds item)) item_cost item_cost
    (item_start program kernel bounds) (flat_start flat bounds)
source_flat program number kernel flat at asks spends range bounds item = record {
  kept = λ n answers a e.
      let same : spent (flat_step flat_parts (flat_setting flat range bounds item)) item_cost n (flat_start flat bounds) answers
      ≡ spent (item_step program (setting_of kernel range bounds item)) item_cost n (item_start program kernel bounds) answers = spends kernel at range bounds item answers n in
      record { steps = n; asks = asks kernel at range bounds item answers n ∙ e; within = omega arith };
  no_more = λ answers a found. (found.0, sym (asks kernel at range bounds item answers found.0) ∙ found.1);
}

-- a flat kernel of a file whose numbers are words is proper
pub proper_held : (program : List FunctionNode) → ∥ IsProgram program ∥₁ → (number : ℕ) (kernel : FunctionNode) → slice_get program number ≡ Some kernel → kernel.kernel ≡ true
    → NumbersAreWords (kernel_flat program number kernel) → IsProperKernel (kernel_flat program number kernel)
proper_held program typed number kernel at marked words = record {
  words = words;
  typed = held_typed program typed number (kernel_flat program number kernel) (λ f there. ap (kernel_flat program number) (some_same kernel f (sym at ∙ there))) kernel at marked;
}

-- the three passes, one after another
kernel_asks : (program : List FunctionNode) → ∥ IsProgram program ∥₁ → (number : ℕ) (kernel : FunctionNode) → slice_get program number ≡ Some kernel → kernel.kernel ≡ true
    → NumbersAreWords (kernel_flat program number kernel) → (range : Range) (bounds : List Bound) (item : ℕ) → IsWordItem kernel range bounds item
    → AskAlike (item_step program (setting_of kernel range bounds item)) (code_step (code_setting (flags (normal_kernel (kernel_flat program number kernel))) range bounds item)) item_cost code_cost
    (item_start program kernel bounds) (kir_start (flags (normal_kernel (kernel_flat program number kernel))) bounds)
kernel_asks program typed number kernel at marked words range bounds item small =
    let flat : FlatKernel = kernel_flat program number kernel in
    let normal : KirCode = normal_kernel flat in
    let none = no_recursion program none_recursive typed in
    let same : (f : FunctionNode) → slice_get program number ≡ Some f → flat ≡ kernel_flat program number f = λ f there. ap (kernel_flat program number) (some_same kernel f (sym at ∙ there)) in
    let proper : IsProperKernel (kernel_flat program number kernel) = proper_held program typed number kernel at marked words in
    let does : DoesTheSame (kernel_flat program number kernel) (normal_kernel (kernel_flat program number kernel)) = normal_keeps (kernel_flat program number kernel) proper in
    let flagged : WithoutJumps (normal_kernel (kernel_flat program number kernel)) (flags (normal_kernel (kernel_flat program number kernel))) = flags_keep (normal_kernel (kernel_flat program number kernel)) in
    let bare : KirCode = record { params = kernel.params; arrays = kernel.arrays; variables = 0; ops = NoOps } in
    let learned : GivesWords (flat_setting (kernel_flat program number kernel) range bounds item) = gives_words bare range bounds item small.dims small.global small.local small.number in
    let one = source_flat program number kernel (kernel_flat program number kernel) at (asks_as program none number flat same) (spends_as program none number flat same) range bounds item in
    let two = does.asks range bounds item (room_held program typed number kernel bounds at small.room) learned in
    let three = flagged.asks ((normal_measures flat).below proper) range bounds item (gives_words normal range bounds item small.dims small.global small.local small.number) in
    alike_on _ _ _ item_cost code_cost code_cost _ _ _ (alike_on _ _ _ item_cost item_cost code_cost _ _ _ one two) three

pub does_as_source : (program : List FunctionNode) → ∥ IsProgram program ∥₁ → (number : ℕ) (kernel : FunctionNode) → slice_get program number ≡ Some kernel → kernel.kernel ≡ true
    → NumbersAreWords (kernel_flat program number kernel) → DoesAsSource program number (flags (normal_kernel (kernel_flat program number kernel)))
does_as_source program typed number kernel at marked words f there range bounds item small =
    let same : kernel ≡ f = some_same kernel f (sym at ∙ there) in
    subst (λ (x : FunctionNode). AskAlike (item_step program (setting_of x range bounds item)) (code_step (code_setting (flags (normal_kernel (kernel_flat program number kernel))) range bounds item)) item_cost code_cost
    (item_start program x bounds) (kir_start (flags (normal_kernel (kernel_flat program number kernel))) bounds)) same
    (kernel_asks program typed number kernel at marked words range bounds item (subst (λ (x : FunctionNode). IsWordItem x range bounds item) (sym same) small))
