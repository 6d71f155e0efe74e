-- An item of a structured kernel without jumps accesses elements that its arrays have, since each access stands behind its check.
use Rattle.std.proofs.Common.{◌≡◌, ℕ, zero, suc, ◌<◌, ◌⊎◌, inl, inr, List, [], ◌∷◌, Bool, true, false, nat_lt, refl, subst, ltb-true}
use Rattle.std.specs.Prelude.{◌==◌, ◌||◌, if◌then◌else◌}
use Rattle.vx_base.specs.Values.{alu_value_of, fitted}
use Rattle.vx_base.specs.declared.types.Elem.{Elem}
use Rattle.vx_base.specs.declared.types.Pos.{Pos}
use Rattle.vx_base.specs.declared.types.Size.{Size}
use Rattle.item_acts.specs.declared.acts.Action.{Action}
use Rattle.item_acts.specs.declared.acts.Action.TheVariants.{Load as LoadAction, Store as StoreAction, Fault}
use Rattle.item_acts.specs.declared.acts.Asked.{Asked}
use Rattle.item_acts.specs.declared.acts.Asked.TheVariants.{Act}
use Rattle.item_acts.specs.declared.acts.Place.{Place}
use Rattle.item_acts.specs.Machine.{Step, Go, Ask, Stop, asked_at_once, asked_behind, asked}
use Rattle.ocl_ast.specs.declared.units.Param.{Param}
use Rattle.ocl_program.specs.declared.exprs.ArrayRef.{ArrayRef}
use Rattle.ocl_program.specs.declared.functions.LocalArray.{LocalArray}
use Rattle.item_settings.specs.Settings.{Setting, elem_size, place_in}
use Rattle.step_machine.specs.Stacks.{under}
use Rattle.step_machine.specs.Turns.{risen}
use Rattle.kir.specs.Machine.{value, known_of, State, state, Task, Do, Decide, Again, CallEnd, Turning, ops_tasks, head_tasks, turn_tasks, step_tasks, entered, op_step, step_from, step}
use Rattle.kir.specs.Measures.{Known as Checked, AreChecked, OpChecked, known_behind, jumps, jumps_in}
use Rattle.kir.specs.Trees.{Operand, Op, Set, Calculate, Fit, Id, Load, Store, Check, Barrier, If, Loop, Break, Continue, Return, Call, Ops, NoOps, AndOp}
use Rattle.kir.specs.Typing.{AreTyped, OpTyped, HasElem, IsWritten}
use Rattle.simt_lowering.proofs.Sides.{Passes, passed_one, passes_forgotten}

-- the place is that of an element, which its array has, by the type of the array
pub record IsOfArray (params : List Param) (arrays : List LocalArray) (setting : Setting) (q : Place) (size : Size) : Type 0 where
  pub array : ArrayRef
  pub elem : Elem
  pub index : ℕ
  pub typed : HasElem params arrays array elem
  pub below : index < (setting.array array).count
  pub place : q ≡ place_in setting.group (setting.array array) elem index
  pub wide : size ≡ elem_size elem

pub record IsOfWritten (params : List Param) (arrays : List LocalArray) (setting : Setting) (q : Place) (size : Size) : Type 0 where
  pub of : IsOfArray params arrays setting q size
  pub written : IsWritten params of.array

abbrev pub IsWithin : List Param → List LocalArray → Setting → Action → Type 0
IsWithin params arrays setting (LoadAction q size) = IsOfArray params arrays setting q size
IsWithin params arrays setting (StoreAction q size v) = IsOfWritten params arrays setting q size
IsWithin params arrays setting other = Unit {0}

none_of_both : (a b : Bool) → (a || b) ≡ false → (a ≡ false) × (b ≡ false)
none_of_both true b e = absurd (cc)
none_of_both false b e = (refl, e)

true_is_not : true ≡ false → ⊥
true_is_not e = absurd (cc)

module _ (params : List Param) (arrays : List LocalArray) (setting : Setting) where
  -- operations that are checked where nothing is known before them
  abbrev Fits : Ops → Type 0
  Fits ops = AreChecked [] ops × AreTyped params arrays ops × (jumps ops ≡ false)

  abbrev LoopFits : Turning → Type 0
  LoopFits loop = Fits loop.head × Fits loop.body × Fits loop.step

  -- Tasks that are checked where this much is known before them. Behind operations within others nothing has to be known.
  abbrev AreReady : List Checked → List Task → Type 0
  AreReady ks [] = Unit {0}
  AreReady ks (Do op ∷ ts) = OpChecked ks op × OpTyped params arrays op × (jumps_in op ≡ false) × (AreReady (known_behind op ks) ts ⊎ AreReady [] ts)
  AreReady ks (Decide loop ∷ ts) = LoopFits loop × AreReady [] ts
  AreReady ks (Again loop ∷ ts) = LoopFits loop × AreReady [] ts
  AreReady ks (CallEnd ∷ ts) = ⊥

  abbrev IsReady : State → Type 0
  IsReady s = (ks : List Checked) × Passes setting ks s.variables × AreReady ks s.tasks

  either : {P : Type 0} → P ⊎ P → P
  either (inl x) = x
  either (inr x) = x

  -- operations as tasks in front of tasks for which nothing has to be known
  ops_ready : (ops : Ops) (ks : List Checked) (ts : List Task) → AreChecked ks ops → AreTyped params arrays ops → jumps ops ≡ false → AreReady [] ts
      → AreReady ks (ops_tasks ops ts) ⊎ AreReady [] (ops_tasks ops ts)
  ops_ready NoOps ks ts checked typed none ready = inr ready
  ops_ready (AndOp op ops) ks ts checked typed none ready =
      let both = none_of_both (jumps_in op) (jumps ops) none in
      inl (checked.0, typed.0, both.0, ops_ready ops (known_behind op ks) ts checked.1 typed.1 both.1 ready)

  fits_ready : (ops : Ops) (ts : List Task) → Fits ops → AreReady [] ts → AreReady [] (ops_tasks ops ts)
  fits_ready ops ts fits ready = either (ops_ready ops [] ts fits.0 fits.1 fits.2 ready)

  -- what is left of a state, where nothing is known or where this much is
  left_ready : (ks : List Checked) (ts : List Task) (vs : ℕ → ℕ) (ns : List ℕ) → Passes setting ks vs → AreReady ks ts ⊎ AreReady [] ts → IsReady (state ts vs ns)
  left_ready ks ts vs ns passes (inl ready) = (ks, passes, ready)
  left_ready ks ts vs ns passes (inr ready) = ([], tt, ready)

  none_ready : (ts : List Task) (vs : ℕ → ℕ) (ns : List ℕ) → AreReady [] ts → IsReady (state ts vs ns)
  none_ready ts vs ns ready = ([], tt, ready)

  abbrev StepReady : Step State → Type 0
  StepReady (Go s) = IsReady s
  StepReady (Ask a behind) = IsWithin params arrays setting a × ((answer : ℕ) → IsReady (behind answer))
  StepReady (Stop a) = IsWithin params arrays setting a

  check_ready : (b : Bool) (array : ArrayRef) (a : Operand) (pos : Pos) (ks : List Checked) (ts : List Task) (vs : ℕ → ℕ) (ns : List ℕ) → nat_lt (value vs a) (setting.array array).count ≡ b
      → Passes setting ks vs → AreReady (record { array = array; index = a } ∷ ks) ts ⊎ AreReady [] ts → StepReady (if b then Go (state ts vs ns) else Stop (Fault pos))
  check_ready true array a pos ks ts vs ns e passes ready =
      left_ready (record { array = array; index = a } ∷ ks) ts vs ns (ltb-true (value vs a) (setting.array array).count e, passes) ready
  check_ready false array a pos ks ts vs ns e passes ready = tt

  if_ready : (b : Bool) (one other ts : List Task) (vs : ℕ → ℕ) (ns : List ℕ) → AreReady [] one → AreReady [] other → IsReady (state (if b then other else one) vs ns)
  if_ready true one other ts vs ns ready ready' = none_ready other vs ns ready'
  if_ready false one other ts vs ns ready ready' = none_ready one vs ns ready

  op_ready : (op : Op) (ts : List Task) (vs : ℕ → ℕ) (ns : List ℕ) (ks : List Checked) → Passes setting ks vs → OpChecked ks op → OpTyped params arrays op → jumps_in op ≡ false
      → AreReady (known_behind op ks) ts ⊎ AreReady [] ts → StepReady (op_step setting op ts vs ns)
  op_ready (Set d a) ts vs ns ks passes checked typed none ready = left_ready _ ts _ ns (passes_forgotten setting d (value vs a) ks vs passes) ready
  op_ready (Calculate d op a b) ts vs ns ks passes checked typed none ready =
      left_ready _ ts _ ns (passes_forgotten setting d (alu_value_of op (value vs a) (value vs b)) ks vs passes) ready
  op_ready (Fit d elem a) ts vs ns ks passes checked typed none ready = left_ready _ ts _ ns (passes_forgotten setting d (fitted elem (value vs a)) ks vs passes) ready
  op_ready (Id d which a) ts vs ns ks passes checked typed none ready =
      left_ready _ ts _ ns (passes_forgotten setting d (known_of setting which (value vs a)) ks vs passes) ready
  op_ready (Load d array elem a) ts vs ns ks passes checked typed none ready = (
    record { array = array; elem = elem; index = value vs a; typed = typed; below = passed_one setting array a ks vs checked passes; place = refl; wide = refl },
    λ answer. left_ready _ ts _ ns (passes_forgotten setting d (fitted elem answer) ks vs passes) ready,
  )
  op_ready (Store array elem a b) ts vs ns ks passes checked typed none ready = (
    record {
      of = record { array = array; elem = elem; index = value vs a; typed = typed.0; below = passed_one setting array a ks vs checked passes; place = refl; wide = refl };
      written = typed.1;
    },
    λ answer. left_ready ks ts vs ns passes ready,
  )
  op_ready (Check array a pos) ts vs ns ks passes checked typed none ready = check_ready (nat_lt (value vs a) (setting.array array).count) array a pos ks ts vs ns refl passes ready
  op_ready (Barrier site) ts vs ns ks passes checked typed none ready = (tt, λ answer. left_ready ks ts vs ns passes ready)
  op_ready (If test one other) ts vs ns ks passes checked typed none ready =
      let both = none_of_both (jumps one) (jumps other) none in
      if_ready (value vs test == 0) (ops_tasks one ts) (ops_tasks other ts) ts vs ns
      (fits_ready one ts (checked.0, typed.0, both.0) (either ready)) (fits_ready other ts (checked.1, typed.1, both.1) (either ready))
  op_ready (Loop head test body step) ts vs ns ks passes checked typed none ready =
      let outer = none_of_both (jumps head) (jumps body || jumps step) none in
      let inner = none_of_both (jumps body) (jumps step) outer.1 in
      let loop : Turning = record { head = head; test = test; body = body; step = step } in
      let fits : LoopFits loop = ((checked.0, typed.0, outer.0), (checked.1, typed.1, inner.0), (checked.2, typed.2, inner.1)) in
      none_ready (head_tasks loop ts) vs (entered ns) (fits_ready head (Decide loop ∷ ts) fits.0 (fits, either ready))
  op_ready Break ts vs ns ks passes checked typed none ready = absurd (true_is_not none)
  op_ready Continue ts vs ns ks passes checked typed none ready = absurd (true_is_not none)
  op_ready Return ts vs ns ks passes checked typed none ready = absurd (true_is_not none)
  op_ready (Call body) ts vs ns ks passes checked typed none ready = absurd (true_is_not none)

  decide_ready : (b : Bool) (loop : Turning) (ts : List Task) (vs : ℕ → ℕ) (ns : List ℕ) → LoopFits loop → AreReady [] ts
      → IsReady (if b then state ts vs (under ns) else state (turn_tasks loop ts) vs ns)
  decide_ready true loop ts vs ns fits ready = none_ready ts vs (under ns) ready
  decide_ready false loop ts vs ns fits ready = none_ready (turn_tasks loop ts) vs ns (fits_ready loop.body (Again loop ∷ ts) fits.1 (fits, ready))

  tasks_ready : (ts : List Task) (vs : ℕ → ℕ) (ns : List ℕ) (ks : List Checked) → Passes setting ks vs → AreReady ks ts → StepReady (step_from setting ts vs ns)
  tasks_ready [] vs ns ks passes ready = tt
  tasks_ready (Do op ∷ ts) vs ns ks passes ready = op_ready op ts vs ns ks passes ready.0 ready.1 ready.2 ready.3
  tasks_ready (Decide loop ∷ ts) vs ns ks passes ready = decide_ready (value vs loop.test == 0) loop ts vs ns ready.0 ready.1
  tasks_ready (Again loop ∷ ts) vs ns ks passes ready =
      none_ready (step_tasks loop ts) vs (risen ns)
      (fits_ready loop.step (head_tasks loop ts) ready.0.2 (fits_ready loop.head (Decide loop ∷ ts) ready.0.0 (ready.0, ready.1)))
  tasks_ready (CallEnd ∷ ts) vs ns ks passes ready = absurd ready

  -- what is asked for
  at_once_within : (x : Step State) (answers : List ℕ) (a : Action) → StepReady x → asked_at_once x answers ≡ Act a → IsWithin params arrays setting a
  at_once_within (Go s) answers a ready e = absurd (cc)
  at_once_within (Ask b behind) [] a ready e = let same : b ≡ a = cc in subst (IsWithin params arrays setting) same ready.0
  at_once_within (Ask b behind) (answer ∷ answers) a ready e = absurd (cc)
  at_once_within (Stop b) [] a ready e = let same : b ≡ a = cc in subst (IsWithin params arrays setting) same ready
  at_once_within (Stop b) (answer ∷ answers) a ready e = absurd (cc)

  behind_within : (next : State → List ℕ → Asked) → ((s : State) (answers : List ℕ) (a : Action) → IsReady s → next s answers ≡ Act a → IsWithin params arrays setting a)
      → (x : Step State) (answers : List ℕ) (a : Action) → StepReady x → asked_behind next x answers ≡ Act a → IsWithin params arrays setting a
  behind_within next each (Go s) answers a ready e = each s answers a ready e
  behind_within next each (Ask b behind) [] a ready e = let same : b ≡ a = cc in subst (IsWithin params arrays setting) same ready.0
  behind_within next each (Ask b behind) (answer ∷ answers) a ready e = each (behind answer) answers a (ready.1 answer) e
  behind_within next each (Stop b) [] a ready e = let same : b ≡ a = cc in subst (IsWithin params arrays setting) same ready
  behind_within next each (Stop b) (answer ∷ answers) a ready e = absurd (cc)

  asked_within : (n : ℕ) (s : State) (answers : List ℕ) (a : Action) → IsReady s → asked (step setting) n s answers ≡ Act a → IsWithin params arrays setting a
  asked_within zero s answers a (ks, passes, ready) e =
      at_once_within (step setting s) answers a (tasks_ready s.tasks s.variables s.turns ks passes ready) e
  asked_within (suc n) s answers a (ks, passes, ready) e =
      behind_within (asked (step setting) n) (asked_within n) (step setting s) answers a (tasks_ready s.tasks s.variables s.turns ks passes ready) e

  pub item_within : (ops : Ops) (vs : ℕ → ℕ) (ns : List ℕ) (n : ℕ) (answers : List ℕ) (a : Action) → AreChecked [] ops → AreTyped params arrays ops → jumps ops ≡ false
      → asked (step setting) n (state (ops_tasks ops []) vs ns) answers ≡ Act a → IsWithin params arrays setting a
  item_within ops vs ns n answers a checked typed none e =
      asked_within n (state (ops_tasks ops []) vs ns) answers a (none_ready (ops_tasks ops []) vs ns (fits_ready ops [] (checked, typed, none) tt)) e
