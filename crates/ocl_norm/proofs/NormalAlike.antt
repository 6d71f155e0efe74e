-- A proper kernel and its normal form ask for the same.
use Rattle.std.proofs.Common.{◌≡◌, ℕ, zero, suc, ◌+◌, ◌<◌, ◌≤◌, ◌^◌, List, [], ◌∷◌, refl, arith}
use Rattle.std.specs.Prelude.{slice_index, count_by, if◌then◌else◌}
use Rattle.std.proofs.lemmas.List.Sums.{sum_by-cons}
use Rattle.vx_base.proofs.ValueLaws.{fitted-lt}
use Rattle.vx_base.specs.declared.types.Elem.{Elem}
use Rattle.vx_base.specs.declared.types.ParamKind.{ParamKind}
use Rattle.vx_base.specs.declared.types.ParamKind.TheVariants.{Scalar, Pointer}
use Rattle.item_acts.specs.declared.acts.Action.TheVariants.{End}
use Rattle.item_acts.specs.declared.acts.Bound.{Bound}
use Rattle.item_acts.specs.declared.acts.Bound.TheVariants.{Value, Array}
use Rattle.item_acts.specs.declared.acts.Range.{Range}
use Rattle.item_settings.specs.Settings.{Setting, bound_value, with_value, bound_values}
use Rattle.item_settings.specs.Views.{IsRoomy}
use Rattle.ocl_ast.specs.declared.units.Param.{Param}
use Rattle.task_machine.specs.Tasks as flat
use Rattle.step_machine.specs.Alike.{AskAlike}
use Rattle.step_machine.specs.Sims.{BothStop}
use Rattle.step_machine.proofs.AlongLaws.{along_alike}
use Rattle.kir.specs.Machine.{state, step, cost, code_setting, kir_start}
use Rattle.kir.specs.Trees.{NoOps}
use Rattle.ocl_inline.specs.FlatItems.{flat_setting, flat_start}
use Rattle.ocl_inline.specs.FlatTasks.{flat_parts}
use Rattle.ocl_inline.specs.Trees.{FlatKernel}
use Rattle.ocl_norm.specs.Normal.{normal_kernel}
use Rattle.kir.specs.Numbered.{GivesWords}
use Rattle.ocl_inline.specs.Proper.{IsProperKernel}
use Rattle.ocl_sem.specs.Source.{is_scalar, is_scalar_kind}
use Rattle.ocl_norm.proofs.ProperParts.{body_proper}
use Rattle.ocl_norm.proofs.AccessLaws.{accesses_of, changes_of}
use Rattle.ocl_norm.proofs.KernelsAlong.{Knows, stmts_go}
use Rattle.ocl_norm.proofs.Relations.{flat_state, Along, Alike}

-- ---- the scalar parameters are words, and the variables behind them are 0

bound_word : (elem : Elem) (bound : Bound) → bound_value elem bound < 2 ^ 32
bound_word elem (Value value) = fitted-lt elem value
bound_word elem (Array place count) = omega arith

with_word : (kind : ParamKind) (bound : Bound) (values : List ℕ) → ((k : ℕ) → slice_index values k < 2 ^ 32) → (k : ℕ) → slice_index (with_value kind bound values) k < 2 ^ 32
with_word (Scalar elem) bound values words zero = bound_word elem bound
with_word (Scalar elem) bound values words (suc k) = words k
with_word (Pointer space elem readonly) bound values words k = words k

abbrev no_values : List ℕ
no_values = []

no_value : (k : ℕ) → slice_index no_values k ≡ 0
no_value zero = refl
no_value (suc k) = refl

no_word : (k : ℕ) → slice_index no_values k < 2 ^ 32
no_word zero = omega arith
no_word (suc k) = omega arith

start_word : (params : List Param) (bounds : List Bound) (k : ℕ) → slice_index (bound_values params bounds) k < 2 ^ 32
start_word [] bounds k = no_word k
start_word (param ∷ params) [] k = no_word k
start_word (param ∷ params) (bound ∷ bounds) k = with_word param.kind bound (bound_values params bounds) (start_word params bounds) k

abbrev of_kind : ParamKind → ℕ
of_kind kind = if is_scalar_kind kind then 1 else 0

behind_value : (kind : ParamKind) (bound : Bound) (values : List ℕ) (few k : ℕ) → ((j : ℕ) → few ≤ j → slice_index values j ≡ 0) → of_kind kind + few ≤ k
    → slice_index (with_value kind bound values) k ≡ 0
behind_value (Scalar elem) bound values few zero none le = absurd (omega arith)
behind_value (Scalar elem) bound values few (suc k) none le = none k (omega arith)
behind_value (Pointer space elem readonly) bound values few k none le = none k (omega arith)

behind_scalars : (params : List Param) (bounds : List Bound) (k : ℕ) → count_by is_scalar params ≤ k → slice_index (bound_values params bounds) k ≡ 0
behind_scalars [] bounds k le = no_value k
behind_scalars (param ∷ params) [] k le = no_value k
behind_scalars (param ∷ params) (bound ∷ bounds) k le =
    let sum : count_by is_scalar (param ∷ params) ≡ of_kind param.kind + count_by is_scalar params = sum_by-cons (λ p. if is_scalar p then 1 else 0) param params in
    behind_value param.kind bound (bound_values params bounds) (count_by is_scalar params) k (λ j more. behind_scalars params bounds j more) (omega arith)

-- ---- the whole

ends_both : (at : Setting) (n : ℕ) (values : List ℕ) (vs vs' : ℕ → ℕ) → Along at n (flat_state [] values vs []) (state [] vs' [])
ends_both at n values vs vs' = BothStop n (flat_state [] values vs []) (state [] vs' []) End refl refl

-- For every launch whose arrays have room and of which items learn words: the normal form asks for what the flat kernel asks for, and for
-- nothing else, and begins no more turns of loops until then.
pub normal_alike : (flat_kernel : FlatKernel) → IsProperKernel flat_kernel → (range : Range) (bounds : List Bound) (item : ℕ)
    → IsRoomy flat_kernel.params flat_kernel.arrays bounds → GivesWords (flat_setting flat_kernel range bounds item)
    → AskAlike (flat.step flat_parts (flat_setting flat_kernel range bounds item)) (step (code_setting (normal_kernel flat_kernel) range bounds item)) flat.cost cost
    (flat_start flat_kernel bounds) (kir_start (normal_kernel flat_kernel) bounds)
normal_alike flat_kernel proper range bounds item room words =
    let at : Setting = flat_setting flat_kernel range bounds item in
    let count : ℕ = flat_kernel.variables in
    let vs : ℕ → ℕ = slice_index (bound_values flat_kernel.params bounds) in
    let start : Alike count (suc count) vs vs vs =
    record { equal = λ k below. refl; words = λ k below. start_word flat_kernel.params bounds k; frame = λ k more less. refl } in
    let knows : Knows at flat_kernel.params flat_kernel.arrays = record {
      words = words;
      accesses = λ array elem has. accesses_of flat_kernel.params flat_kernel.arrays range bounds item room array elem has;
      changes = λ array written. changes_of flat_kernel.params flat_kernel.arrays range bounds item array written;
    } in
    along_alike (flat.step flat_parts at) (step at) flat.cost cost (flat_start flat_kernel bounds) (kir_start (normal_kernel flat_kernel) bounds)
    (λ n. stmts_go at flat_kernel.params flat_kernel.arrays count knows flat_kernel.body (body_proper flat_kernel proper) n count NoOps [] [] [] vs vs [] (omega arith) start
    (behind_scalars flat_kernel.params bounds count proper.typed.scalars)
    (λ vs1 vs1' a. ends_both at n [] vs1 vs1')
    (record {
      breaks = λ xs vs1 vs1' a. ends_both at n [] vs1 vs1';
      continues = λ xs vs1 vs1' a. ends_both at n [] vs1 vs1';
      returns = λ xs v vs1 vs1' a e word. ends_both at n (v ∷ []) vs1 vs1';
    }))
