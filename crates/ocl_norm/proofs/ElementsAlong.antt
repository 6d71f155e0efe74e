-- Loads in expressions, and assignments to elements, in both.
use Rattle.std.proofs.Common.{◌≡◌, ℕ, suc, ◌≤◌, Bool, List, ◌∷◌, refl, ◌∙◌, arith, lt-ltb}
use Rattle.vx_base.specs.Values.{fitted}
use Rattle.vx_base.proofs.ValueLaws.{fitted-lt}
use Rattle.vx_base.specs.declared.types.Elem.{Elem}
use Rattle.vx_base.specs.declared.types.Pos.{Pos}
use Rattle.item_acts.specs.Launches.{put_at}
use Rattle.item_acts.proofs.Launches.{put_at_same}
use Rattle.item_settings.specs.Settings.{Setting}
use Rattle.ocl_ast.specs.declared.exprs.BinOp.{BinOp}
use Rattle.ocl_program.specs.declared.exprs.ArrayRef.{ArrayRef}
use Rattle.ocl_program.specs.Values.{binary_value}
use Rattle.task_machine.specs.declared.tasks.Task.TheVariants as task
use Rattle.step_machine.specs.Sims.{FirstGoes}
use Rattle.kir.specs.Machine.{state, Task, value, ops_tasks}
use Rattle.kir.specs.Trees.{Operand, VariableOf, Ops}
use Rattle.ocl_inline.specs.FlatTasks.{FlatTask}
use Rattle.ocl_inline.specs.Trees.{FlatExpr, LoadFlat}
use Rattle.ocl_norm.specs.Normal.{Fragment, pair_ops, load_ops, store_ops, restore_ops, combined_element, changed_element}
use Rattle.ocl_norm.specs.Operators.{binary_ops}
use Rattle.ocl_norm.specs.Standings.{Standing, standing, operand_at, copied, held_at, above}
use Rattle.ocl_norm.proofs.AccessesAlong.{Accesses, Changes, load_both, store_both, restores}
use Rattle.ocl_norm.proofs.ChoicesAlong.{ValueGoes}
use Rattle.ocl_norm.proofs.OperatorLaws.{binary_holds}
use Rattle.ocl_norm.proofs.Relations.{flat_state, Along, Alike, SameBelow, kept_put, alike_self, alike_on, alike_kept}
use Rattle.ocl_norm.proofs.StatementsAlong.{Acts, Behind}
use Rattle.ocl_norm.proofs.ValuesAlong.{Gives, IsStanding, Stays, above_from, holds_it, pair_goes}

pub load_goes : (at : Setting) (count : ℕ) (array : ArrayRef) (elem : Elem) (place : FlatExpr) (pos : Pos) → Accesses at array elem → ValueGoes at count place
    → ValueGoes at count (LoadFlat array elem place pos)
load_goes at count array elem place pos accesses gives n d c ts ts' values vs vs' us le alike next =
    gives n d (load_ops array elem pos (operand_at (standing place) d) d c) (task.Load array pos ∷ ts) ts' values vs vs' us le alike
    (λ i vs1 vs1' a same e word.
    load_both at n array elem pos (flat_state (task.Load array pos ∷ ts) (i ∷ values) vs1 us) ts values (i ∷ values) vs1 us (operand_at (standing place) d) d c ts' vs1' us i
    accesses refl e
    (λ below answer.
    let z : ℕ = fitted elem answer in
    next z vs1 (put_at d z vs1') (alike_kept count d d vs' vs1 vs1' (put_at d z vs1') le (omega arith) (kept_put d d z vs1' (omega arith)) a) same
    (put_at_same d z vs1') (fitted-lt elem answer)))

-- `=`
pub set_element_acts : (at : Setting) (count : ℕ) (array : ArrayRef) (elem : Elem) (pos : Pos) (tasks : List FlatTask → List FlatTask) (place : Fragment) (p : Standing) (place_calls : Bool)
    (tasks' : List FlatTask → List FlatTask) (right : Fragment) (s : Standing) (right_calls : Bool) → Accesses at array elem → Changes at array → IsStanding count p
    → Gives at count tasks place p place_calls → Gives at count tasks' right s right_calls
    → Acts at count (λ ts. tasks (tasks' (task.Store array pos ∷ ts)))
    (λ r c. pair_ops place p right s right_calls (λ a b first after. store_ops array elem pos a b after) (suc r) c)
set_element_acts at count array elem pos tasks place p place_calls tasks' right s right_calls accesses changes stands gives gives' n r c ts ts' values vs vs' us le alike none next leave =
    let d : ℕ = suc r in
    let a : Operand = held_at right_calls p d in
    let b : Operand = operand_at s (above right_calls p d) in
    pair_goes at count tasks place p place_calls tasks' right s right_calls stands gives gives' n d (store_ops array elem pos a b c) (task.Store array pos ∷ ts) ts' values vs vs' us
    (omega arith) alike
    (λ i v vs1 vs1' al same e e' word word'.
    store_both at n array elem pos (flat_state (task.Store array pos ∷ ts) (v ∷ i ∷ values) vs1 us) ts values vs1 us a b c ts' vs1' us i v accesses changes refl e e'
    (next vs1 vs1' al))

-- an operator: what stood there is loaded before the right side is evaluated
combines : (at : Setting) (count : ℕ) (op : BinOp) (unsigned : Bool) (array : ArrayRef) (elem : Elem) (pos : Pos) (p : Standing)
    (tasks' : List FlatTask → List FlatTask) (right : Fragment) (s : Standing) (right_calls checks : Bool) → Accesses at array elem → Changes at array
    → Gives at count tasks' right s right_calls
    → (n r : ℕ) (c : Ops) (ts : List FlatTask) (ts' : List Task) (values : List ℕ) (vs' vs1 vs2' : ℕ → ℕ) (us : List ℕ) (i : ℕ) → count ≤ r
    → Alike count (suc r) vs' vs1 vs2' → value vs2' (held_at right_calls p (suc r)) ≡ i → Stays count right_calls p (suc r) i vs1 vs2' → Behind at count n r ts (ops_tasks c ts') values vs' us
    → Along at n (flat_state (task.Reread array pos ∷ tasks' (task.Binary op unsigned ∷ task.Store array pos ∷ ts)) (i ∷ values) vs1 us)
    (state (ops_tasks (combined_element op unsigned array elem pos right s checks (held_at right_calls p (suc r)) (above right_calls p (suc r)) c) ts') vs2' us)
combines at count op unsigned array elem pos p tasks' right s right_calls checks accesses changes gives n r c ts ts' values vs' vs1 vs2' us i le alike e stays next =
    let d : ℕ = suc r in
    let x : Operand = held_at right_calls p d in
    let t : ℕ = above right_calls p d in
    let from : d ≤ t = above_from right_calls p d in
    let y : Operand = operand_at s (suc t) in
    let stored : Ops = restore_ops checks array elem pos x (VariableOf t) c in
    let rest : List FlatTask = task.Binary op unsigned ∷ task.Store array pos ∷ ts in
    load_both at n array elem pos (flat_state (task.Reread array pos ∷ tasks' rest) (i ∷ values) vs1 us) (tasks' rest) (i ∷ values) (i ∷ values) vs1 us x t
    (right (suc t) (binary_ops op unsigned (VariableOf t) y t stored)) ts' vs2' us i accesses refl e
    (λ below answer.
    let old : ℕ = fitted elem answer in
    let vs3' : ℕ → ℕ = put_at t old vs2' in
    let kept3 : SameBelow t vs2' vs3' = kept_put t t old vs2' (omega arith) in
    let a3 : Alike count t vs2' vs1 vs3' = alike_kept count t t vs2' vs1 vs2' vs3' (omega arith) (omega arith) kept3 (alike_self count (suc r) vs' vs1 vs2' t alike) in
    gives n (suc t) (binary_ops op unsigned (VariableOf t) y t stored) rest ts' (old ∷ i ∷ values) vs1 vs3' us (omega arith) (alike_self count t vs2' vs1 vs3' (suc t) a3)
    (λ w vs4 vs4' a4 same e4 word4.
    let z : ℕ = binary_value op unsigned old w in
    FirstGoes n (flat_state rest (w ∷ old ∷ i ∷ values) vs4 us) (flat_state (task.Store array pos ∷ ts) (z ∷ i ∷ values) vs4 us)
    (state (ops_tasks (binary_ops op unsigned (VariableOf t) y t stored) ts') vs4' us) refl
    (binary_holds at n (flat_state (task.Store array pos ∷ ts) (z ∷ i ∷ values) vs4 us) op unsigned (VariableOf t) y t stored ts' vs4' us old w
    (a4.frame t (omega arith) (omega arith) ∙ put_at_same t old vs2') e4
    (λ vs5' kept5 at5.
    let a5 : Alike count t vs2' vs4 vs5' =
    alike_kept count t t vs2' vs4 vs4' vs5' (omega arith) (omega arith) kept5 (alike_on count t (suc t) vs2' vs1 vs3' vs4 vs4' (omega arith) a3 a4) in
    restores at n checks array elem pos (flat_state (task.Store array pos ∷ ts) (z ∷ i ∷ values) vs4 us) ts values vs4 us x (VariableOf t) c ts' vs5' us i z accesses changes refl
    (stays vs4 vs5' a5 same) at5 (lt-ltb i (at.array array).count below)
    (next vs4 vs5' (alike_on count (suc r) t vs' vs1 vs2' vs4 vs5' from alike a5))))))

pub change_element_acts : (at : Setting) (count : ℕ) (op : BinOp) (unsigned : Bool) (array : ArrayRef) (elem : Elem) (pos : Pos) (tasks : List FlatTask → List FlatTask) (place : Fragment)
    (p : Standing) (place_calls : Bool) (tasks' : List FlatTask → List FlatTask) (right : Fragment) (s : Standing) (right_calls checks : Bool) → Accesses at array elem → Changes at array
    → IsStanding count p → Gives at count tasks place p place_calls → Gives at count tasks' right s right_calls
    → Acts at count (λ ts. tasks (task.Reread array pos ∷ tasks' (task.Binary op unsigned ∷ task.Store array pos ∷ ts)))
    (λ r c. changed_element op unsigned array elem pos place p right s right_calls checks (suc r) c)
change_element_acts at count op unsigned array elem pos tasks place p place_calls tasks' right s right_calls checks accesses changes stands gives gives'
    n r c ts ts' values vs vs' us le alike none next leave =
    let d : ℕ = suc r in
    let combined : Ops = combined_element op unsigned array elem pos right s checks (held_at right_calls p d) (above right_calls p d) c in
    let rest : List FlatTask = task.Reread array pos ∷ tasks' (task.Binary op unsigned ∷ task.Store array pos ∷ ts) in
    gives n d (copied right_calls p d combined) rest ts' values vs vs' us (omega arith) alike
    (λ i vs1 vs1' a same e word.
    holds_it at count n (flat_state rest (i ∷ values) vs1 us) right_calls p d combined ts' vs1 vs1' us i (omega arith) stands a.equal e
    (λ vs2' kept stays.
    let a2 : Alike count (suc r) vs' vs1 vs2' = alike_kept count d (suc r) vs' vs1 vs1' vs2' (omega arith) (omega arith) kept a in
    combines at count op unsigned array elem pos p tasks' right s right_calls checks accesses changes gives' n r c ts ts' values vs' vs1 vs2' us i le a2
    (stays vs1 vs2' (alike_self count (suc r) vs' vs1 vs2' (above right_calls p d) a2) (λ free. refl)) stays next))
