-- Loads and stores in both: a fault where the array has no element, else the same action.
use Rattle.std.proofs.Common.{◌≡◌, ℕ, ◌<◌, Bool, true, false, nat_lt, List, ◌∷◌, refl, ap, sym, ◌∙◌, subst, arith, ltb-true}
use Rattle.std.specs.Prelude.{if◌then◌else◌}
use Rattle.vx_base.specs.Values.{fitted}
use Rattle.vx_base.specs.declared.types.Elem.{Elem}
use Rattle.vx_base.specs.declared.types.Pos.{Pos}
use Rattle.item_acts.specs.declared.acts.Action.TheVariants.{Load as LoadAction, Store as StoreAction, Fault}
use Rattle.item_acts.specs.Launches.{put_at}
use Rattle.item_acts.specs.Machine.{Step, Go, Ask, Stop}
use Rattle.item_settings.specs.Settings.{Setting, elem_size, element_in, low_bytes, place_in}
use Rattle.ocl_program.specs.declared.exprs.ArrayRef.{ArrayRef}
use Rattle.task_machine.specs.Tasks as flat
use Rattle.step_machine.specs.Sims.{SecondGoes, BothAsk, BothStop}
use Rattle.kir.specs.Machine.{state, Task, Do, value, step, ops_tasks}
use Rattle.kir.specs.Trees.{Operand, Load, Store, Check, Ops}
use Rattle.ocl_inline.specs.FlatTasks.{FlatTask, flat_parts}
use Rattle.ocl_norm.specs.Normal.{load_ops, store_ops, restore_ops}
use Rattle.ocl_norm.proofs.Relations.{FlatState, flat_state, Along}

-- Elements of the array that is named so are of this type, and begin where numbers of bytes are words.
pub record Accesses (at : Setting) (array : ArrayRef) (elem : Elem) : Type 0 where
  pub type : (i : ℕ) → i < (at.array array).count → (at.array array).elem ≡ elem
  pub place : (i : ℕ) → i < (at.array array).count → place_in at.group (at.array array) elem i ≡ element_in at.group (at.array array) i

-- and the array may be changed
abbrev pub Changes : Setting → ArrayRef → Type 0
Changes at array = (i : ℕ) → i < (at.array array).count → (at.array array).writable ≡ true

-- a step by a test
abbrev on_test : {S : Type 0} → Bool → Step S → Step S → Step S
on_test b one other = if b then one else other

-- ---- a check

checked : (at : Setting) (array : ArrayRef) (x : Operand) (pos : Pos) (ts : List Task) (vs : ℕ → ℕ) (ns : List ℕ) (i : ℕ) (b : Bool) → value vs x ≡ i → nat_lt i (at.array array).count ≡ b
    → step at (state (Do (Check array x pos) ∷ ts) vs ns) ≡ on_test b (Go (state ts vs ns)) (Stop (Fault pos))
checked at array x pos ts vs ns i b e e' =
    ap (λ (j : ℕ). on_test (nat_lt j (at.array array).count) (Go (state ts vs ns)) (Stop (Fault pos))) e ∙ ap (λ (t : Bool). on_test t (Go (state ts vs ns)) (Stop (Fault pos))) e'

-- ---- a load

loads : (at : Setting) (array : ArrayRef) (elem : Elem) (x : Operand) (d : ℕ) (ts : List Task) (vs : ℕ → ℕ) (ns : List ℕ) (i : ℕ) → value vs x ≡ i
    → place_in at.group (at.array array) elem i ≡ element_in at.group (at.array array) i → (at.array array).elem ≡ elem
    → step at (state (Do (Load d array elem x) ∷ ts) vs ns)
    ≡ Ask (LoadAction (element_in at.group (at.array array) i) (elem_size (at.array array).elem)) (λ answer. state ts (put_at d (fitted elem answer) vs) ns)
loads at array elem x d ts vs ns i e e' e'' =
    ap (λ (j : ℕ). Ask (LoadAction (place_in at.group (at.array array) elem j) (elem_size elem)) (λ answer. state ts (put_at d (fitted elem answer) vs) ns)) e
    ∙ ap (λ p. Ask (LoadAction p (elem_size elem)) (λ answer. state ts (put_at d (fitted elem answer) vs) ns)) e'
    ∙ ap (λ el. Ask (LoadAction (element_in at.group (at.array array) i) (elem_size el)) (λ answer. state ts (put_at d (fitted elem answer) vs) ns)) (sym e'')

-- The values that stay are `values`.
pub load_both : (at : Setting) (n : ℕ) (array : ArrayRef) (elem : Elem) (pos : Pos) (s : FlatState) (ts : List FlatTask) (values others : List ℕ) (vs : ℕ → ℕ) (us : List ℕ)
    (x : Operand) (d : ℕ) (c : Ops) (ts' : List Task) (vs' : ℕ → ℕ) (ns : List ℕ) (i : ℕ) → Accesses at array elem
    → flat.step flat_parts at s ≡ flat.load_step at.group (at.array array) i pos values (flat_state ts others vs us) → value vs' x ≡ i
    → (i < (at.array array).count → (answer : ℕ) → Along at n (flat_state ts (fitted elem answer ∷ values) vs us) (state (ops_tasks c ts') (put_at d (fitted elem answer) vs') ns))
    → Along at n s (state (ops_tasks (load_ops array elem pos x d c) ts') vs' ns)
load_both at n array elem pos s ts values others vs us x d c ts' vs' ns i accesses first e next = by_test (nat_lt i (at.array array).count) refl
  where
    asks : Step FlatState
    asks = Ask (LoadAction (element_in at.group (at.array array) i) (elem_size (at.array array).elem)) (λ answer. flat_state ts (fitted (at.array array).elem answer ∷ values) vs us)

    by_test : (b : Bool) → nat_lt i (at.array array).count ≡ b → Along at n s (state (ops_tasks (load_ops array elem pos x d c) ts') vs' ns)
    by_test true e' =
        let below : i < (at.array array).count = ltb-true i (at.array array).count e' in
        SecondGoes n s (state (ops_tasks (load_ops array elem pos x d c) ts') vs' ns) (state (Do (Load d array elem x) ∷ ops_tasks c ts') vs' ns)
        (checked at array x pos (Do (Load d array elem x) ∷ ops_tasks c ts') vs' ns i true e e') refl
        (BothAsk n s (state (Do (Load d array elem x) ∷ ops_tasks c ts') vs' ns)
        (LoadAction (element_in at.group (at.array array) i) (elem_size (at.array array).elem))
        (λ answer. flat_state ts (fitted (at.array array).elem answer ∷ values) vs us) (λ answer. state (ops_tasks c ts') (put_at d (fitted elem answer) vs') ns)
        (first ∙ ap (λ (t : Bool). on_test t asks (Stop (Fault pos))) e')
        (loads at array elem x d (ops_tasks c ts') vs' ns i e (accesses.place i below) (accesses.type i below)) (omega arith)
        (λ answer. subst (λ el. Along at n (flat_state ts (fitted el answer ∷ values) vs us) (state (ops_tasks c ts') (put_at d (fitted elem answer) vs') ns))
        (sym (accesses.type i below)) (next below answer)))
    by_test false e' =
        BothStop n s (state (ops_tasks (load_ops array elem pos x d c) ts') vs' ns) (Fault pos)
        (first ∙ ap (λ (t : Bool). on_test t asks (Stop (Fault pos))) e')
        (checked at array x pos (Do (Load d array elem x) ∷ ops_tasks c ts') vs' ns i false e e')

-- ---- a store

stores : (at : Setting) (array : ArrayRef) (elem : Elem) (x y : Operand) (ts : List Task) (vs : ℕ → ℕ) (ns : List ℕ) (i v : ℕ) → value vs x ≡ i → value vs y ≡ v
    → place_in at.group (at.array array) elem i ≡ element_in at.group (at.array array) i → (at.array array).elem ≡ elem
    → step at (state (Do (Store array elem x y) ∷ ts) vs ns)
    ≡ Ask (StoreAction (element_in at.group (at.array array) i) (elem_size (at.array array).elem) (low_bytes (at.array array).elem v)) (λ answer. state ts vs ns)
stores at array elem x y ts vs ns i v e e' e'' e''' =
    ap (λ (j : ℕ). Ask (StoreAction (place_in at.group (at.array array) elem j) (elem_size elem) (low_bytes elem (value vs y))) (λ answer. state ts vs ns)) e
    ∙ ap (λ (w : ℕ). Ask (StoreAction (place_in at.group (at.array array) elem i) (elem_size elem) (low_bytes elem w)) (λ answer. state ts vs ns)) e'
    ∙ ap (λ p. Ask (StoreAction p (elem_size elem) (low_bytes elem v)) (λ answer. state ts vs ns)) e''
    ∙ ap (λ el. Ask (StoreAction (element_in at.group (at.array array) i) (elem_size el) (low_bytes el v)) (λ answer. state ts vs ns)) (sym e''')

-- one whose index is known to be below the count
pub store_known : (at : Setting) (n : ℕ) (array : ArrayRef) (elem : Elem) (pos : Pos) (s : FlatState) (ts : List FlatTask) (values : List ℕ) (vs : ℕ → ℕ) (us : List ℕ)
    (x y : Operand) (c : Ops) (ts' : List Task) (vs' : ℕ → ℕ) (ns : List ℕ) (i v : ℕ) → Accesses at array elem → Changes at array
    → flat.step flat_parts at s ≡ flat.store_step at.group (at.array array) i v pos (flat_state ts values vs us) → value vs' x ≡ i → value vs' y ≡ v
    → nat_lt i (at.array array).count ≡ true
    → Along at n (flat_state ts values vs us) (state (ops_tasks c ts') vs' ns)
    → Along at n s (state (Do (Store array elem x y) ∷ ops_tasks c ts') vs' ns)
store_known at n array elem pos s ts values vs us x y c ts' vs' ns i v accesses changes first e e' e'' next =
    let below : i < (at.array array).count = ltb-true i (at.array array).count e'' in
    let behind : FlatState = flat_state ts values vs us in
    let asks : Step FlatState =
    Ask (StoreAction (element_in at.group (at.array array) i) (elem_size (at.array array).elem) (low_bytes (at.array array).elem v)) (λ answer. behind) in
    BothAsk n s (state (Do (Store array elem x y) ∷ ops_tasks c ts') vs' ns)
    (StoreAction (element_in at.group (at.array array) i) (elem_size (at.array array).elem) (low_bytes (at.array array).elem v))
    (λ answer. behind) (λ answer. state (ops_tasks c ts') vs' ns)
    (first ∙ ap (λ (t : Bool). on_test t (on_test (at.array array).writable asks (Go behind)) (Stop (Fault pos))) e''
    ∙ ap (λ (t : Bool). on_test t asks (Go behind)) (changes i below))
    (stores at array elem x y (ops_tasks c ts') vs' ns i v e e' (accesses.place i below) (accesses.type i below)) (omega arith)
    (λ answer. next)

pub store_both : (at : Setting) (n : ℕ) (array : ArrayRef) (elem : Elem) (pos : Pos) (s : FlatState) (ts : List FlatTask) (values : List ℕ) (vs : ℕ → ℕ) (us : List ℕ)
    (x y : Operand) (c : Ops) (ts' : List Task) (vs' : ℕ → ℕ) (ns : List ℕ) (i v : ℕ) → Accesses at array elem → Changes at array
    → flat.step flat_parts at s ≡ flat.store_step at.group (at.array array) i v pos (flat_state ts values vs us) → value vs' x ≡ i → value vs' y ≡ v
    → Along at n (flat_state ts values vs us) (state (ops_tasks c ts') vs' ns)
    → Along at n s (state (ops_tasks (store_ops array elem pos x y c) ts') vs' ns)
store_both at n array elem pos s ts values vs us x y c ts' vs' ns i v accesses changes first e e' next = by_test (nat_lt i (at.array array).count) refl
  where
    behind : FlatState
    behind = flat_state ts values vs us

    asks : Step FlatState
    asks = Ask (StoreAction (element_in at.group (at.array array) i) (elem_size (at.array array).elem) (low_bytes (at.array array).elem v)) (λ answer. behind)

    by_test : (b : Bool) → nat_lt i (at.array array).count ≡ b → Along at n s (state (ops_tasks (store_ops array elem pos x y c) ts') vs' ns)
    by_test true e'' =
        SecondGoes n s (state (ops_tasks (store_ops array elem pos x y c) ts') vs' ns) (state (Do (Store array elem x y) ∷ ops_tasks c ts') vs' ns)
        (checked at array x pos (Do (Store array elem x y) ∷ ops_tasks c ts') vs' ns i true e e'') refl
        (store_known at n array elem pos s ts values vs us x y c ts' vs' ns i v accesses changes first e e' e'' next)
    by_test false e'' =
        BothStop n s (state (ops_tasks (store_ops array elem pos x y c) ts') vs' ns) (Fault pos)
        (first ∙ ap (λ (t : Bool). on_test t (on_test (at.array array).writable asks (Go behind)) (Stop (Fault pos))) e'')
        (checked at array x pos (Do (Store array elem x y) ∷ ops_tasks c ts') vs' ns i false e e'')

-- one that is checked again, or not
pub restores : (at : Setting) (n : ℕ) (checks : Bool) (array : ArrayRef) (elem : Elem) (pos : Pos) (s : FlatState) (ts : List FlatTask) (values : List ℕ) (vs : ℕ → ℕ) (us : List ℕ)
    (x y : Operand) (c : Ops) (ts' : List Task) (vs' : ℕ → ℕ) (ns : List ℕ) (i v : ℕ) → Accesses at array elem → Changes at array
    → flat.step flat_parts at s ≡ flat.store_step at.group (at.array array) i v pos (flat_state ts values vs us) → value vs' x ≡ i → value vs' y ≡ v
    → nat_lt i (at.array array).count ≡ true
    → Along at n (flat_state ts values vs us) (state (ops_tasks c ts') vs' ns)
    → Along at n s (state (ops_tasks (restore_ops checks array elem pos x y c) ts') vs' ns)
restores at n true array elem pos s ts values vs us x y c ts' vs' ns i v accesses changes first e e' e'' next =
    store_both at n array elem pos s ts values vs us x y c ts' vs' ns i v accesses changes first e e' next
restores at n false array elem pos s ts values vs us x y c ts' vs' ns i v accesses changes first e e' e'' next =
    store_known at n array elem pos s ts values vs us x y c ts' vs' ns i v accesses changes first e e' e'' next
