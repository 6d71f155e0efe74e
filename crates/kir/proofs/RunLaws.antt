-- Runs of the code are runs of the machine.
use Rattle.std.proofs.Common.{◌≡◌, ℕ, List, Result, Ok, Err, IfOk, ap, ◌∙◌}
use Rattle.item_acts.specs.declared.acts.Asked.{Asked}
use Rattle.item_acts.specs.declared.acts.Bound.{Bound}
use Rattle.item_acts.specs.declared.acts.Range.{Range}
use Rattle.item_acts.specs.Machine.{asked}
use Rattle.item_settings.specs.Settings.{setting_of}
use Rattle.kir.specs.Machine.{State, code_setting, kir_asks, kir_start, step}
use Rattle.kir.specs.Trees.{KirCode}
use Rattle.ocl_ast.specs.declared.units.Param.{Param}
use Rattle.ocl_program.specs.declared.functions.LocalArray.{LocalArray}

-- a run from the start of an item, whose setting has the lists as slices
pub asked_as : {E : Type 0} (r : Result Asked E) (code : KirCode) (range : Range) (bounds : List Bound) (item : ℕ) (answers : List ℕ) (fuel : ℕ)
    (params : List Param) (arrays : List LocalArray) (s : State) → params ≡ code.params → arrays ≡ code.arrays → s ≡ kir_start code bounds
    → IfOk r (λ a. a ≡ asked (step (setting_of params arrays range bounds item)) fuel s answers) → IfOk r (λ a. a ≡ kir_asks code range bounds item answers fuel)
asked_as (Ok a) code range bounds item answers fuel params arrays s e e' e'' h =
    h ∙ ap (λ ps. asked (step (setting_of ps arrays range bounds item)) fuel s answers) e
    ∙ ap (λ xs. asked (step (setting_of code.params xs range bounds item)) fuel s answers) e'
    ∙ ap (λ t. asked (step (code_setting code range bounds item)) fuel t answers) e''
asked_as (Err fault) code range bounds item answers fuel params arrays s e e' e'' h = h
