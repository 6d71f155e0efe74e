-- `&&`, `||` and `?:` in both: the flat machine chooses which part it evaluates, and the normal form branches.
use Rattle.std.proofs.Common.{◌≡◌, ◌≢◌, ℕ, zero, suc, ◌<◌, ◌≤◌, ◌^◌, Bool, true, false, ◌||◌, List, ◌∷◌, refl, ap, sym, ◌∙◌, arith, ne_eqb}
use Rattle.std.specs.Prelude.{if◌then◌else◌, ◌==◌}
use Rattle.item_acts.specs.Launches.{put_at}
use Rattle.item_acts.specs.Machine.{Go}
use Rattle.item_acts.proofs.Launches.{put_at_same}
use Rattle.item_settings.specs.Settings.{Setting}
use Rattle.task_machine.specs.declared.tasks.Task.TheVariants as task
use Rattle.step_machine.specs.Sims.{FirstGoes}
use Rattle.kir.specs.Machine.{state, Task, Do, value, ops_tasks}
use Rattle.kir.specs.Trees.{VariableOf, If, Ops, NoOps, AndOp}
use Rattle.ocl_inline.specs.FlatTasks.{FlatTask, value_tasks}
use Rattle.ocl_inline.specs.Trees.{FlatExpr, BothFlat, EitherFlat, ChooseFlat}
use Rattle.ocl_norm.specs.Normal.{calls, value_ops}
use Rattle.ocl_norm.specs.Operators.{truth_ops}
use Rattle.ocl_norm.specs.Standings.{Standing, Fixed, Named, Made, standing, operand_at, settled}
use Rattle.ocl_norm.proofs.OperatorLaws.{Holds, truth_holds}
use Rattle.ocl_norm.proofs.Relations.{FlatState, flat_state, Along, Alike, kept_same, kept_put, alike_self, alike_on, alike_kept, sets, takes_one, takes_other}
use Rattle.ocl_norm.proofs.ValuesAlong.{Gives, not_first, not_second}

-- an expression and its operations give the same value
abbrev pub ValueGoes : Setting → ℕ → FlatExpr → Type 0
ValueGoes at count e = Gives at count (value_tasks e) (value_ops e) (standing e) (calls e)

-- what is to follow a value
abbrev pub BehindValue : Setting → ℕ → Standing → Bool → (n d : ℕ) → Ops → List FlatTask → List Task → List ℕ → (ℕ → ℕ) → (ℕ → ℕ) → List ℕ → Type 0
BehindValue at count s calls n d c ts ts' values vs vs' us =
    (v : ℕ) (vs1 vs1' : ℕ → ℕ) → Alike count d vs' vs1 vs1' → (calls ≡ false → vs1 ≡ vs) → value vs1' (operand_at s d) ≡ v → v < 2 ^ 32
    → Along at n (flat_state ts (v ∷ values) vs1 us) (state (ops_tasks c ts') vs1' us)

-- ---- values that are 1 or 0

bit_word : (b : Bool) → (if b then 0 else 1) < 2 ^ 32
bit_word true = omega arith
bit_word false = omega arith

pub not_zero : (v : ℕ) → (suc v == 0) ≡ false
not_zero v = ne_eqb (suc v) 0 (λ e. absurd (omega arith))

pub suc_not_zero : (v : ℕ) → suc v ≢ 0
suc_not_zero v e = absurd (omega arith)

abbrev on_zero : {A : Type 0} → Bool → A → A → A
on_zero b x y = if b then x else y

-- a part whose value becomes 1 or 0 behind a variable that is set
truth_goes : (at : Setting) (count : ℕ) (right : FlatExpr) → ValueGoes at count right
    → (n d : ℕ) (c : Ops) (ts : List FlatTask) (ts' : List Task) (values : List ℕ) (vs0 vs0' vs vs' : ℕ → ℕ) (us : List ℕ) (before : Bool) → count ≤ d
    → Alike count d vs0' vs vs' → (before ≡ false → vs ≡ vs0) → BehindValue at count Made (before || calls right) n d c ts ts' values vs0 vs0' us
    → Along at n (flat_state (value_tasks right (task.Truth ∷ ts)) values vs us)
    (state (ops_tasks (value_ops right (suc d) (truth_ops (operand_at (standing right) (suc d)) d NoOps)) (ops_tasks c ts')) vs' us)
truth_goes at count right gives n d c ts ts' values vs0 vs0' vs vs' us before le alike same next =
    gives n (suc d) (truth_ops (operand_at (standing right) (suc d)) d NoOps) (task.Truth ∷ ts) (ops_tasks c ts') values vs vs' us (omega arith)
    (alike_self count d vs0' vs vs' (suc d) alike)
    (λ w vs1 vs1' b same' e word.
    let z : ℕ = if w == 0 then 0 else 1 in
    let b1 : Alike count d vs0' vs1 vs1' = alike_on count d (suc d) vs0' vs vs' vs1 vs1' (omega arith) alike b in
    FirstGoes n (flat_state (task.Truth ∷ ts) (w ∷ values) vs1 us) (flat_state ts (z ∷ values) vs1 us)
    (state (ops_tasks (truth_ops (operand_at (standing right) (suc d)) d NoOps) (ops_tasks c ts')) vs1' us) refl
    (truth_holds at n (flat_state ts (z ∷ values) vs1 us) (operand_at (standing right) (suc d)) d NoOps (ops_tasks c ts') vs1' us w e
    (λ vs2' kept at2. next z vs1 vs2' (alike_kept count d d vs0' vs1 vs1' vs2' le (omega arith) kept b1)
    (λ none. same' (not_second before (calls right) none) ∙ same (not_first before (calls right) none)) at2 (truth_word w))))
  where
    truth_word : (w : ℕ) → (if w == 0 then 0 else 1) < 2 ^ 32
    truth_word w = bit_word (w == 0)

pub both_goes : (at : Setting) (count : ℕ) (left right : FlatExpr) → ValueGoes at count left → ValueGoes at count right → ValueGoes at count (BothFlat left right)
both_goes at count left right gives gives' n d c ts ts' values vs vs' us le alike next =
    let rest : Ops = AndOp (If (VariableOf d) (value_ops right (suc d) (truth_ops (operand_at (standing right) (suc d)) d NoOps)) NoOps) c in
    gives n d (truth_ops (operand_at (standing left) d) d rest) (task.AndThen right ∷ ts) ts' values vs vs' us le alike
    (λ v vs1 vs1' a same e word.
    truth_holds at n (flat_state (task.AndThen right ∷ ts) (v ∷ values) vs1 us) (operand_at (standing left) d) d rest ts' vs1' us v e
    (λ vs2' kept at2. by_value v vs1 vs2' (alike_kept count d d vs' vs1 vs1' vs2' le (omega arith) kept a) same at2))
  where
    by_value : (v : ℕ) (vs1 vs2' : ℕ → ℕ) → Alike count d vs' vs1 vs2' → (calls left ≡ false → vs1 ≡ vs) → vs2' d ≡ (if v == 0 then 0 else 1)
        → Along at n (flat_state (task.AndThen right ∷ ts) (v ∷ values) vs1 us)
        (state (Do (If (VariableOf d) (value_ops right (suc d) (truth_ops (operand_at (standing right) (suc d)) d NoOps)) NoOps) ∷ ops_tasks c ts') vs2' us)
    by_value zero vs1 vs2' a same at2 =
        takes_other at n (flat_state (task.AndThen right ∷ ts) (0 ∷ values) vs1 us) (VariableOf d)
        (value_ops right (suc d) (truth_ops (operand_at (standing right) (suc d)) d NoOps)) NoOps (ops_tasks c ts') vs2' us at2
        (FirstGoes n (flat_state (task.AndThen right ∷ ts) (0 ∷ values) vs1 us) (flat_state ts (0 ∷ values) vs1 us) (state (ops_tasks c ts') vs2' us) refl
        (next 0 vs1 vs2' a (λ none. same (not_first (calls left) (calls right) none)) at2 (omega arith)))
    by_value (suc v) vs1 vs2' a same at2 =
        let at3 : vs2' d ≡ 1 = at2 ∙ ap (λ (b : Bool). if b then 0 else 1) (not_zero v) in
        takes_one at n (flat_state (task.AndThen right ∷ ts) (suc v ∷ values) vs1 us) (VariableOf d)
        (value_ops right (suc d) (truth_ops (operand_at (standing right) (suc d)) d NoOps)) NoOps (ops_tasks c ts') vs2' us (λ none. absurd (suc_not_zero 0 (sym at3 ∙ none)))
        (FirstGoes n (flat_state (task.AndThen right ∷ ts) (suc v ∷ values) vs1 us) (flat_state (value_tasks right (task.Truth ∷ ts)) values vs1 us)
        (state (ops_tasks (value_ops right (suc d) (truth_ops (operand_at (standing right) (suc d)) d NoOps)) (ops_tasks c ts')) vs2' us)
        (ap (λ (b : Bool). Go (on_zero b (flat_state ts (0 ∷ values) vs1 us) (flat_state (value_tasks right (task.Truth ∷ ts)) values vs1 us))) (not_zero v))
        (truth_goes at count right gives' n d c ts ts' values vs vs' vs1 vs2' us (calls left) le a same next))

pub either_goes : (at : Setting) (count : ℕ) (left right : FlatExpr) → ValueGoes at count left → ValueGoes at count right → ValueGoes at count (EitherFlat left right)
either_goes at count left right gives gives' n d c ts ts' values vs vs' us le alike next =
    let rest : Ops = AndOp (If (VariableOf d) NoOps (value_ops right (suc d) (truth_ops (operand_at (standing right) (suc d)) d NoOps))) c in
    gives n d (truth_ops (operand_at (standing left) d) d rest) (task.OrElse right ∷ ts) ts' values vs vs' us le alike
    (λ v vs1 vs1' a same e word.
    truth_holds at n (flat_state (task.OrElse right ∷ ts) (v ∷ values) vs1 us) (operand_at (standing left) d) d rest ts' vs1' us v e
    (λ vs2' kept at2. by_value v vs1 vs2' (alike_kept count d d vs' vs1 vs1' vs2' le (omega arith) kept a) same at2))
  where
    by_value : (v : ℕ) (vs1 vs2' : ℕ → ℕ) → Alike count d vs' vs1 vs2' → (calls left ≡ false → vs1 ≡ vs) → vs2' d ≡ (if v == 0 then 0 else 1)
        → Along at n (flat_state (task.OrElse right ∷ ts) (v ∷ values) vs1 us)
        (state (Do (If (VariableOf d) NoOps (value_ops right (suc d) (truth_ops (operand_at (standing right) (suc d)) d NoOps))) ∷ ops_tasks c ts') vs2' us)
    by_value zero vs1 vs2' a same at2 =
        takes_other at n (flat_state (task.OrElse right ∷ ts) (0 ∷ values) vs1 us) (VariableOf d)
        NoOps (value_ops right (suc d) (truth_ops (operand_at (standing right) (suc d)) d NoOps)) (ops_tasks c ts') vs2' us at2
        (FirstGoes n (flat_state (task.OrElse right ∷ ts) (0 ∷ values) vs1 us) (flat_state (value_tasks right (task.Truth ∷ ts)) values vs1 us)
        (state (ops_tasks (value_ops right (suc d) (truth_ops (operand_at (standing right) (suc d)) d NoOps)) (ops_tasks c ts')) vs2' us) refl
        (truth_goes at count right gives' n d c ts ts' values vs vs' vs1 vs2' us (calls left) le a same next))
    by_value (suc v) vs1 vs2' a same at2 =
        let at3 : vs2' d ≡ 1 = at2 ∙ ap (λ (b : Bool). if b then 0 else 1) (not_zero v) in
        takes_one at n (flat_state (task.OrElse right ∷ ts) (suc v ∷ values) vs1 us) (VariableOf d)
        NoOps (value_ops right (suc d) (truth_ops (operand_at (standing right) (suc d)) d NoOps)) (ops_tasks c ts') vs2' us (λ none. absurd (suc_not_zero 0 (sym at3 ∙ none)))
        (FirstGoes n (flat_state (task.OrElse right ∷ ts) (suc v ∷ values) vs1 us) (flat_state ts (1 ∷ values) vs1 us) (state (ops_tasks c ts') vs2' us)
        (ap (λ (b : Bool). Go (on_zero b (flat_state (value_tasks right (task.Truth ∷ ts)) values vs1 us) (flat_state ts (1 ∷ values) vs1 us))) (not_zero v))
        (next 1 vs1 vs2' a (λ none. same (not_first (calls left) (calls right) none)) at3 (omega arith)))

-- ---- `?:`

-- a value that has to stand in the first variable
pub settles : (at : Setting) (n : ℕ) (st : FlatState) (s : Standing) (d : ℕ) (c : Ops) (ts : List Task) (vs : ℕ → ℕ) (ns : List ℕ) (x : ℕ)
    → value vs (operand_at s d) ≡ x → Holds at n st d x vs (ops_tasks c ts) ns → Along at n st (state (ops_tasks (settled s d c) ts) vs ns)
settles at n st (Fixed m) d c ts vs ns x e next = sets at n st d (operand_at (Fixed m) d) (ops_tasks c ts) vs ns x e (next (put_at d x vs) (kept_put d d x vs (omega arith)) (put_at_same d x vs))
settles at n st (Named k) d c ts vs ns x e next = sets at n st d (operand_at (Named k) d) (ops_tasks c ts) vs ns x e (next (put_at d x vs) (kept_put d d x vs (omega arith)) (put_at_same d x vs))
settles at n st Made d c ts vs ns x e next = next vs (kept_same d vs) e

-- one of the two
chosen_goes : (at : Setting) (count : ℕ) (part : FlatExpr) → ValueGoes at count part
    → (n d : ℕ) (c : Ops) (ts : List FlatTask) (ts' : List Task) (values : List ℕ) (vs0 vs0' vs vs' : ℕ → ℕ) (us : List ℕ) (all : Bool) → count ≤ d
    → Alike count d vs0' vs vs' → (all ≡ false → vs ≡ vs0) → (all ≡ false → calls part ≡ false) → BehindValue at count Made all n d c ts ts' values vs0 vs0' us
    → Along at n (flat_state (value_tasks part ts) values vs us)
    (state (ops_tasks (value_ops part d (settled (standing part) d NoOps)) (ops_tasks c ts')) vs' us)
chosen_goes at count part gives n d c ts ts' values vs0 vs0' vs vs' us all le alike same within next =
    gives n d (settled (standing part) d NoOps) ts (ops_tasks c ts') values vs vs' us le (alike_self count d vs0' vs vs' d alike)
    (λ w vs1 vs1' b same' e word.
    settles at n (flat_state ts (w ∷ values) vs1 us) (standing part) d NoOps (ops_tasks c ts') vs1' us w e
    (λ vs2' kept at2. next w vs1 vs2' (alike_kept count d d vs0' vs1 vs1' vs2' le (omega arith) kept (alike_on count d d vs0' vs vs' vs1 vs1' (omega arith) alike b))
    (λ none. same' (within none) ∙ same none) at2 word))

pub choose_goes : (at : Setting) (count : ℕ) (unsigned : Bool) (test one other : FlatExpr) → ValueGoes at count test → ValueGoes at count one → ValueGoes at count other
    → ValueGoes at count (ChooseFlat unsigned test one other)
choose_goes at count unsigned test one other gives gives1 gives2 n d c ts ts' values vs vs' us le alike next =
    gives n d (AndOp (If (operand_at (standing test) d) one_ops other_ops) c) (task.Choose one other ∷ ts) ts' values vs vs' us le alike
    (λ v vs1 vs1' a same e word. by_value v vs1 vs1' a same e)
  where
    one_ops : Ops
    one_ops = value_ops one d (settled (standing one) d NoOps)

    other_ops : Ops
    other_ops = value_ops other d (settled (standing other) d NoOps)

    all : Bool
    all = calls test || (calls one || calls other)

    by_value : (v : ℕ) (vs1 vs1' : ℕ → ℕ) → Alike count d vs' vs1 vs1' → (calls test ≡ false → vs1 ≡ vs) → value vs1' (operand_at (standing test) d) ≡ v
        → Along at n (flat_state (task.Choose one other ∷ ts) (v ∷ values) vs1 us) (state (Do (If (operand_at (standing test) d) one_ops other_ops) ∷ ops_tasks c ts') vs1' us)
    by_value zero vs1 vs1' a same e =
        takes_other at n (flat_state (task.Choose one other ∷ ts) (0 ∷ values) vs1 us) (operand_at (standing test) d) one_ops other_ops (ops_tasks c ts') vs1' us e
        (FirstGoes n (flat_state (task.Choose one other ∷ ts) (0 ∷ values) vs1 us) (flat_state (value_tasks other ts) values vs1 us)
        (state (ops_tasks other_ops (ops_tasks c ts')) vs1' us) refl
        (chosen_goes at count other gives2 n d c ts ts' values vs vs' vs1 vs1' us all le a (λ none. same (not_first (calls test) (calls one || calls other) none))
        (λ none. not_second (calls one) (calls other) (not_second (calls test) (calls one || calls other) none)) next))
    by_value (suc v) vs1 vs1' a same e =
        takes_one at n (flat_state (task.Choose one other ∷ ts) (suc v ∷ values) vs1 us) (operand_at (standing test) d) one_ops other_ops (ops_tasks c ts') vs1' us
        (λ none. absurd (suc_not_zero v (sym e ∙ none)))
        (FirstGoes n (flat_state (task.Choose one other ∷ ts) (suc v ∷ values) vs1 us) (flat_state (value_tasks one ts) values vs1 us)
        (state (ops_tasks one_ops (ops_tasks c ts')) vs1' us)
        (ap (λ (b : Bool). Go (flat_state (on_zero b (value_tasks other ts) (value_tasks one ts)) values vs1 us)) (not_zero v))
        (chosen_goes at count one gives1 n d c ts ts' values vs vs' vs1 vs1' us all le a (λ none. same (not_first (calls test) (calls one || calls other) none))
        (λ none. not_first (calls one) (calls other) (not_second (calls test) (calls one || calls other) none)) next))
