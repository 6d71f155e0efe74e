-- A kernel and the same with flags in place of jumps ask for the same.
use Rattle.std.proofs.Common.{◌≡◌, ℕ, zero, suc, ◌<◌, ◌^◌, List, [], ◌∷◌, refl, sym, subst, arith, true, false}
use Rattle.std.specs.Prelude.{slice_index}
use Rattle.vx_base.proofs.ValueLaws.{fitted-lt}
use Rattle.vx_base.specs.declared.types.Elem.{Elem}
use Rattle.vx_base.specs.declared.types.ParamKind.{ParamKind}
use Rattle.vx_base.specs.declared.types.ParamKind.TheVariants.{Scalar, Pointer}
use Rattle.item_acts.specs.declared.acts.Action.TheVariants.{End}
use Rattle.item_acts.specs.declared.acts.Bound.{Bound}
use Rattle.item_acts.specs.declared.acts.Bound.TheVariants.{Value, Array}
use Rattle.item_acts.specs.declared.acts.Range.{Range}
use Rattle.item_acts.specs.Launches.{put_at}
use Rattle.item_acts.proofs.Launches.{put_at_same, put_at_other}
use Rattle.item_settings.specs.Settings.{Setting, bound_value, with_value, bound_values}
use Rattle.ocl_ast.specs.declared.units.Param.{Param}
use Rattle.step_machine.specs.Alike.{AskAlike}
use Rattle.step_machine.specs.Sims.{BothStop}
use Rattle.step_machine.proofs.AlongLaws.{along_alike}
use Rattle.kir.specs.Machine.{state, ops_tasks, step, cost, code_setting, kir_start}
use Rattle.kir.specs.Trees.{NumberOf, Ops, NoOps, KirCode}
use Rattle.kir_flow.specs.declared.scopes.Jump.{Jump}
use Rattle.kir_flow.specs.declared.scopes.Jump.TheVariants.{ByBreak, ByContinue, ByReturn}
use Rattle.kir_flow.specs.declared.scopes.Scope.TheVariants.{InCall}
use Rattle.kir_flow.specs.Flagging.{flagged, flags}
use Rattle.kir.specs.Numbered.{AreBelow, GivesWords}
use Rattle.kir_flow.proofs.FlagStates.{Along, sets}
use Rattle.kir_flow.proofs.FollowStates.{jumped}
use Rattle.kir_flow.proofs.Follows.{follows}

-- ---- the scalar parameters are words

bound_word : (elem : Elem) (bound : Bound) → bound_value elem bound < 2 ^ 32
bound_word elem (Value value) = fitted-lt elem value
bound_word elem (Array place count) = omega arith

with_word : (kind : ParamKind) (bound : Bound) (values : List ℕ) → ((k : ℕ) → slice_index values k < 2 ^ 32) → (k : ℕ) → slice_index (with_value kind bound values) k < 2 ^ 32
with_word (Scalar elem) bound values words zero = bound_word elem bound
with_word (Scalar elem) bound values words (suc k) = words k
with_word (Pointer space elem readonly) bound values words k = words k

abbrev no_values : List ℕ
no_values = []

no_word : (k : ℕ) → slice_index no_values k < 2 ^ 32
no_word zero = omega arith
no_word (suc k) = omega arith

start_word : (params : List Param) (bounds : List Bound) (k : ℕ) → slice_index (bound_values params bounds) k < 2 ^ 32
start_word [] bounds k = no_word k
start_word (param ∷ params) [] k = no_word k
start_word (param ∷ params) (bound ∷ bounds) k = with_word param.kind bound (bound_values params bounds) (start_word params bounds) k

-- ---- the whole

-- a jump that nothing stands round ends the item
jump_ends : (j : Jump) (vs : ℕ → ℕ) (ns : List ℕ) → jumped j [] vs ns ≡ state [] vs ns
jump_ends ByBreak vs ns = refl
jump_ends ByContinue vs ns = refl
jump_ends ByReturn vs ns = refl

ends_both : (at : Setting) (n : ℕ) (vs vs' : ℕ → ℕ) → Along at n (state [] vs []) (state [] vs' [])
ends_both at n vs vs' = BothStop n (state [] vs []) (state [] vs' []) End refl refl

-- from variables that are words on
pub ops_alike : (at : Setting) (count : ℕ) (ops : Ops) (vs : ℕ → ℕ) → GivesWords at → AreBelow count ops → ((k : ℕ) → k < count → vs k < 2 ^ 32) → (n : ℕ)
    → Along at n (state (ops_tasks ops []) vs []) (state (ops_tasks (flagged false (InCall count) true ops NoOps) []) (put_at count 1 vs) [])
ops_alike at count ops vs gives below words n =
    let vs' : ℕ → ℕ = put_at count 1 vs in
    follows at count gives ops below n (InCall count) true NoOps [] [] vs' vs vs' [] (record { behind = omega arith; ordered = tt })
    (λ vs1 vs1' a. ends_both at n vs1 vs1')
    (λ j left vs1 vs1' a. subst (λ s. Along at n s (state [] vs1' [])) (sym (jump_ends j vs1 [])) (ends_both at n vs1 vs1'))
    (record {
      rest = record { equal = λ k less. put_at_other count 1 vs k (λ e. absurd (omega arith)); words = words; frame = λ k more less differs. refl };
      stands = record { live = put_at_same count 1 vs; run = put_at_same count 1 vs; whole = put_at_same count 1 vs };
    })

-- For every code whose variables are numbered below its count and whose numbers are words, and every launch of which items learn
-- words: with flags it asks for what it asks for with jumps, and for nothing else, and begins no more turns of loops until then.
pub flags_alike : (code : KirCode) (range : Range) (bounds : List Bound) (item : ℕ) → AreBelow code.variables code.ops → GivesWords (code_setting code range bounds item)
    → AskAlike (step (code_setting code range bounds item)) (step (code_setting code range bounds item)) cost cost (kir_start code bounds) (kir_start (flags code) bounds)
flags_alike code range bounds item below gives =
    let at : Setting = code_setting code range bounds item in
    let vs : ℕ → ℕ = slice_index (bound_values code.params bounds) in
    along_alike (step at) (step at) cost cost (kir_start code bounds) (kir_start (flags code) bounds)
    (λ n. sets at n (kir_start code bounds) code.variables (NumberOf 1) (ops_tasks (flagged false (InCall code.variables) true code.ops NoOps) []) vs [] 1 refl
    (ops_alike at code.variables code.ops vs gives below (λ k less. start_word code.params bounds k) n))
