-- Each load and store of an item is of an element that is there, and no store is to an array that may not be changed.
use Rattle.std.proofs.Common.{◌≡◌, ℕ, zero, suc, true, List, [], ◌∷◌, nat_lt, refl, subst, ltb-true}
use Rattle.std.proofs.lemmas.Bool.{cond_both}
use Rattle.vx_base.specs.declared.types.Pos.{Pos}
use Rattle.item_acts.specs.declared.acts.Action.{Action}
use Rattle.item_acts.specs.declared.acts.Asked.{Asked}
use Rattle.item_acts.specs.declared.acts.Asked.TheVariants.{Act}
use Rattle.item_acts.specs.Machine.{Step, Go, Ask, Stop, asked_at_once, asked_behind, asked}
use Rattle.ocl_program.specs.declared.exprs.ArrayRef.{ArrayRef}
use Rattle.ocl_sem.specs.Items.{IsElement, IsInArrays, item_start}
use Rattle.ocl_sem.specs.Launched.{StaysInArrays}
use Rattle.item_settings.specs.Settings.{Setting, elem_size, element_in}
use Rattle.ocl_sem.specs.Settings.{setting_of}
use Rattle.ocl_sem.specs.Source.{source_parts}
use Rattle.task_machine.specs.declared.tasks.Task.{Task}
use Rattle.task_machine.specs.declared.tasks.Task.TheVariants.{Number, Variable, Unary, Binary, Fit, Call, Truth, AndThen, OrElse, Choose, Load, Reread, Store, Clear, Assign, Discard, Wait, Branch, Enter, EnterTurn, Decide, Begin, Again, Invoke, CallEnd, Break, Continue, Return}
use Rattle.task_machine.specs.Tasks.{Parts, State, load_step, store_step, step, step_from, task_step, onward}

-- what a step asks for is within the arrays
abbrev ActsIn : {S : Type 0} → Setting → Step S → Type 0
ActsIn at (Go s) = Unit {0}
ActsIn at (Ask a s) = IsInArrays at a
ActsIn at (Stop a) = IsInArrays at a

element_is : (at : Setting) (array : ArrayRef) (i : ℕ) → nat_lt i (at.array array).count ≡ true
    → IsElement at array (element_in at.group (at.array array) i) (elem_size (at.array array).elem)
element_is at array i e = record { index = i; within = ltb-true i (at.array array).count e; place_is = refl; size_is = refl }

load_acts : {V T : Type 0} (at : Setting) (array : ArrayRef) (i : ℕ) (pos : Pos) (vs : List ℕ) (s : State V T)
    → ActsIn at (load_step at.group (at.array array) i pos vs s)
load_acts {V = V} {T = T} at array i pos vs s =
    let P : Step (State V T) → Type 0 = λ x. ActsIn at x in
    cond_both (nat_lt i (at.array array).count) _ _ P (λ e. (array, element_is at array i e)) (λ _. tt)

store_acts : {V T : Type 0} (at : Setting) (array : ArrayRef) (i v : ℕ) (pos : Pos) (s : State V T)
    → ActsIn at (store_step at.group (at.array array) i v pos s)
store_acts {V = V} {T = T} at array i v pos s =
    let P : Step (State V T) → Type 0 = λ x. ActsIn at x in
    cond_both (nat_lt i (at.array array).count) _ _ P
    (λ e. cond_both (at.array array).writable _ _ P (λ e'. (array, (element_is at array i e, e'))) (λ _. tt)) (λ _. tt)

task_acts : {V T : Type 0} (parts : Parts V T) (at : Setting) (t : Task V T) (s : State V T) → ActsIn at (task_step parts at t s)
task_acts parts at (Number n) s = tt
task_acts parts at (Variable k) s = tt
task_acts parts at (Unary op) s = tt
task_acts parts at (Binary op unsigned) s = tt
task_acts parts at (Fit elem) s = tt
task_acts parts at (Call which unsigned) s = tt
task_acts parts at Truth s = tt
task_acts parts at (AndThen right) s = tt
task_acts parts at (OrElse right) s = tt
task_acts parts at (Choose one other) s = tt
task_acts parts at (Load array pos) s = load_acts at array _ pos _ s
task_acts parts at (Reread array pos) s = load_acts at array _ pos _ s
task_acts parts at (Store array pos) s = store_acts at array _ _ pos _
task_acts parts at (Clear k) s = tt
task_acts parts at (Assign k elem) s = tt
task_acts parts at Discard s = tt
task_acts parts at (Wait site) s = tt
task_acts parts at (Branch one other) s = tt
task_acts parts at (Enter loop) s = tt
task_acts parts at (EnterTurn loop) s = tt
task_acts parts at (Decide loop) s = tt
task_acts parts at (Begin loop) s = tt
task_acts parts at (Again loop) s = tt
task_acts parts at (Invoke body) s = tt
task_acts parts at CallEnd s = tt
task_acts parts at Break s = tt
task_acts parts at Continue s = tt
task_acts parts at Return s = tt

tasks_act : {V T : Type 0} (parts : Parts V T) (at : Setting) (ts : List (Task V T)) (s : State V T) → ActsIn at (step_from parts at ts s)
tasks_act parts at [] s = tt
tasks_act parts at (t ∷ ts) s = task_acts parts at t (onward ts s)

-- the action that is asked for
act_is : (a b : Action) → Act a ≡ Act b → a ≡ b
act_is a b e = cc

at_once_in : {S : Type 0} (at : Setting) (x : Step S) (answers : List ℕ) (a : Action) → ActsIn at x → asked_at_once x answers ≡ Act a → IsInArrays at a
at_once_in at (Go s) answers a h e = absurd (cc)
at_once_in at (Ask b f) [] a h e = subst (IsInArrays at) (act_is b a e) h
at_once_in at (Ask b f) (answer ∷ answers) a h e = absurd (cc)
at_once_in at (Stop b) [] a h e = subst (IsInArrays at) (act_is b a e) h
at_once_in at (Stop b) (answer ∷ answers) a h e = absurd (cc)

behind_in : {S : Type 0} (at : Setting) (next : S → List ℕ → Asked) → ((s : S) (answers : List ℕ) (a : Action) → next s answers ≡ Act a → IsInArrays at a)
    → (x : Step S) (answers : List ℕ) (a : Action) → ActsIn at x → asked_behind next x answers ≡ Act a → IsInArrays at a
behind_in at next more (Go s) answers a h e = more s answers a e
behind_in at next more (Ask b f) [] a h e = subst (IsInArrays at) (act_is b a e) h
behind_in at next more (Ask b f) (answer ∷ answers) a h e = more (f answer) answers a e
behind_in at next more (Stop b) [] a h e = subst (IsInArrays at) (act_is b a e) h
behind_in at next more (Stop b) (answer ∷ answers) a h e = absurd (cc)

-- whatever an item asks for is within the arrays
pub asked_in : {V T : Type 0} (parts : Parts V T) (at : Setting) (n : ℕ) (s : State V T) (answers : List ℕ) (a : Action)
    → asked (step parts at) n s answers ≡ Act a → IsInArrays at a
asked_in parts at zero s answers a e = at_once_in at (step parts at s) answers a (tasks_act parts at s.tasks s) e
asked_in parts at (suc n) s answers a e =
    behind_in at (asked (step parts at) n) (λ s' answers' a' e'. asked_in parts at n s' answers' a' e') (step parts at s) answers a (tasks_act parts at s.tasks s) e

-- whatever an item of a launch asks for is within its arrays
pub stays_in_arrays : StaysInArrays
stays_in_arrays l item answers fuel action e =
    asked_in (source_parts l.program) (setting_of l.kernel l.range l.bounds item) fuel (item_start l.program l.kernel l.bounds) answers action e
