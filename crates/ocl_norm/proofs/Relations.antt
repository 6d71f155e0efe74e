-- A flat kernel and its normal form while both go along: their states, and which variables are the same.
use Rattle.std.proofs.Common.{◌≡◌, ◌≢◌, ℕ, ◌<◌, ◌≤◌, ◌^◌, List, ◌∷◌, refl, ap, sym, ◌∙◌, subst, arith, inl, inr, Bool, ne_eqb}
use Rattle.std.specs.Prelude.{◌==◌, if◌then◌else◌}
use Rattle.std.proofs.lemmas.Bool.{cases_eq}
use Rattle.vx_base.specs.Values.{alu_value_of, fitted}
use Rattle.vx_base.specs.declared.types.Alu.{Alu}
use Rattle.vx_base.specs.declared.types.Elem.{Elem}
use Rattle.item_acts.specs.Launches.{put_at}
use Rattle.item_acts.specs.Machine.{Go}
use Rattle.item_acts.proofs.Launches.{put_at_same, put_at_other}
use Rattle.item_settings.specs.Settings.{Setting}
use Rattle.ocl_program.specs.declared.exprs.Builtin.{Builtin}
use Rattle.task_machine.specs.Tasks as flat
use Rattle.step_machine.specs.Sims.{GoAlong, SecondGoes}
use Rattle.kir.specs.Machine.{State, state, Task, Do, value, known_of, step, cost, ops_tasks}
use Rattle.kir.specs.Trees.{Operand, VariableOf, NumberOf, Set, Calculate, Fit, Id, If, Ops}
use Rattle.ocl_inline.specs.FlatTasks.{FlatTask, flat_parts}
use Rattle.ocl_inline.specs.Trees.{FlatExpr, FlatStmt}

abbrev pub FlatState : Type 0
FlatState = flat.State FlatExpr FlatStmt

abbrev pub flat_state : List FlatTask → List ℕ → (ℕ → ℕ) → List ℕ → FlatState
flat_state ts values vs us = record { tasks = ts; values = values; variables = vs; turns = us }

abbrev pub Along : Setting → ℕ → FlatState → State → Type 0
Along at n s t = GoAlong (flat.step flat_parts at) (step at) flat.cost cost n s t

-- ---- variables

-- The kernel's variables are the same in both and are words, and those behind them up to a bound are what they were.
pub record Alike (count bound : ℕ) (vs0 vs vs' : ℕ → ℕ) : Type 0 where
  pub equal : (k : ℕ) → k < count → vs' k ≡ vs k
  pub words : (k : ℕ) → k < count → vs k < 2 ^ 32
  pub frame : (k : ℕ) → count ≤ k → k < bound → vs' k ≡ vs0 k

-- variables below a bound are what they were
abbrev pub SameBelow : ℕ → (ℕ → ℕ) → (ℕ → ℕ) → Type 0
SameBelow bound vs vs' = (k : ℕ) → k < bound → vs' k ≡ vs k

pub kept_same : (bound : ℕ) (vs : ℕ → ℕ) → SameBelow bound vs vs
kept_same bound vs k below = refl

pub kept_on : (few bound : ℕ) (vs vs' vs'' : ℕ → ℕ) → few ≤ bound → SameBelow few vs vs' → SameBelow bound vs' vs'' → SameBelow few vs vs''
kept_on few bound vs vs' vs'' le one other k below = other k (omega arith) ∙ one k below

pub kept_put : (bound d x : ℕ) (vs : ℕ → ℕ) → bound ≤ d → SameBelow bound vs (put_at d x vs)
kept_put bound d x vs le k below = put_at_other d x vs k (λ e. absurd (omega arith))

pub alike_self : (count bound : ℕ) (vs0 vs vs' : ℕ → ℕ) (bound' : ℕ) → Alike count bound vs0 vs vs' → Alike count bound' vs' vs vs'
alike_self count bound vs0 vs vs' bound' alike = record { equal = alike.equal; words = alike.words; frame = λ k more less. refl }

-- from one moment to a later one
pub alike_on : (count few bound : ℕ) (vs0 vs vs' vs1 vs1' : ℕ → ℕ) → few ≤ bound → Alike count few vs0 vs vs' → Alike count bound vs' vs1 vs1' → Alike count few vs0 vs1 vs1'
alike_on count few bound vs0 vs vs' vs1 vs1' le one other = record {
  equal = other.equal;
  words = other.words;
  frame = λ k more less. other.frame k more (omega arith) ∙ one.frame k more less;
}

-- and with a lower bound
pub alike_less : (count few bound : ℕ) (vs0 vs vs' : ℕ → ℕ) → few ≤ bound → Alike count bound vs0 vs vs' → Alike count few vs0 vs vs'
alike_less count few bound vs0 vs vs' le alike = record { equal = alike.equal; words = alike.words; frame = λ k more less. alike.frame k more (omega arith) }

-- variables from the bound on may change in the second
pub alike_kept : (count bound few : ℕ) (vs0 vs vs' vs'' : ℕ → ℕ) → count ≤ bound → few ≤ bound → SameBelow bound vs' vs'' → Alike count few vs0 vs vs' → Alike count few vs0 vs vs''
alike_kept count bound few vs0 vs vs' vs'' le le' kept alike = record {
  equal = λ k below. kept k (omega arith) ∙ alike.equal k below;
  words = alike.words;
  frame = λ k more less. kept k (omega arith) ∙ alike.frame k more less;
}

put_equal : (d x : ℕ) (vs vs' : ℕ → ℕ) (k : ℕ) → vs' k ≡ vs k → put_at d x vs' k ≡ put_at d x vs k
put_equal d x vs vs' k e = elim (cases_eq k d) [
  | inl at ↦ ap (put_at d x vs') at ∙ put_at_same d x vs' ∙ sym (put_at_same d x vs) ∙ ap (put_at d x vs) (sym at)
  | inr other ↦ put_at_other d x vs' k other ∙ e ∙ sym (put_at_other d x vs k other)
]

put_word : (d x : ℕ) (vs : ℕ → ℕ) (k : ℕ) → x < 2 ^ 32 → vs k < 2 ^ 32 → put_at d x vs k < 2 ^ 32
put_word d x vs k word below = elim (cases_eq k d) [
  | inl at ↦ subst (λ (y : ℕ). y < 2 ^ 32) (sym (ap (put_at d x vs) at ∙ put_at_same d x vs)) word
  | inr other ↦ subst (λ (y : ℕ). y < 2 ^ 32) (sym (put_at_other d x vs k other)) below
]

-- one of the kernel is set in both
pub alike_put : (count bound : ℕ) (vs0 vs vs' : ℕ → ℕ) (d x : ℕ) → d < count → x < 2 ^ 32 → Alike count bound vs0 vs vs' → Alike count bound vs0 (put_at d x vs) (put_at d x vs')
alike_put count bound vs0 vs vs' d x below word alike = record {
  equal = λ k less. put_equal d x vs vs' k (alike.equal k less);
  words = λ k less. put_word d x vs k word (alike.words k less);
  frame = λ k more less. put_at_other d x vs' k (λ e. absurd (omega arith)) ∙ alike.frame k more less;
}

-- ---- operands

-- an operand that names a variable below a bound
abbrev pub IsUnder : ℕ → Operand → Type 0
IsUnder bound (VariableOf k) = k < bound
IsUnder bound (NumberOf n) = Unit {0}

pub value_kept : (bound : ℕ) (a : Operand) (vs vs' : ℕ → ℕ) → IsUnder bound a → SameBelow bound vs vs' → value vs' a ≡ value vs a
value_kept bound (VariableOf k) vs vs' under kept = kept k under
value_kept bound (NumberOf n) vs vs' under kept = refl

pub under_more : (few bound : ℕ) (a : Operand) → few ≤ bound → IsUnder few a → IsUnder bound a
under_more few bound (VariableOf k) le under = omega arith
under_more few bound (NumberOf n) le under = tt

-- ---- steps of the second machine

pub sets : (at : Setting) (n : ℕ) (s : FlatState) (d : ℕ) (a : Operand) (ts : List Task) (vs : ℕ → ℕ) (ns : List ℕ) (x : ℕ) → value vs a ≡ x
    → Along at n s (state ts (put_at d x vs) ns) → Along at n s (state (Do (Set d a) ∷ ts) vs ns)
sets at n s d a ts vs ns x e h = SecondGoes n s (state (Do (Set d a) ∷ ts) vs ns) (state ts (put_at d x vs) ns) (ap (λ y. Go (state ts (put_at d y vs) ns)) e) refl h

pub calculates : (at : Setting) (n : ℕ) (s : FlatState) (d : ℕ) (op : Alu) (a b : Operand) (ts : List Task) (vs : ℕ → ℕ) (ns : List ℕ) (x y z : ℕ)
    → value vs a ≡ x → value vs b ≡ y → alu_value_of op x y ≡ z
    → Along at n s (state ts (put_at d z vs) ns) → Along at n s (state (Do (Calculate d op a b) ∷ ts) vs ns)
calculates at n s d op a b ts vs ns x y z e e' e'' h =
    SecondGoes n s (state (Do (Calculate d op a b) ∷ ts) vs ns) (state ts (put_at d z vs) ns)
    (ap (λ x'. Go (state ts (put_at d (alu_value_of op x' (value vs b)) vs) ns)) e ∙ ap (λ y'. Go (state ts (put_at d (alu_value_of op x y') vs) ns)) e'
    ∙ ap (λ z'. Go (state ts (put_at d z' vs) ns)) e'') refl h

pub fits : (at : Setting) (n : ℕ) (s : FlatState) (d : ℕ) (elem : Elem) (a : Operand) (ts : List Task) (vs : ℕ → ℕ) (ns : List ℕ) (x : ℕ) → value vs a ≡ x
    → Along at n s (state ts (put_at d (fitted elem x) vs) ns) → Along at n s (state (Do (Fit d elem a) ∷ ts) vs ns)
fits at n s d elem a ts vs ns x e h =
    SecondGoes n s (state (Do (Fit d elem a) ∷ ts) vs ns) (state ts (put_at d (fitted elem x) vs) ns) (ap (λ y. Go (state ts (put_at d (fitted elem y) vs) ns)) e) refl h

pub learns : (at : Setting) (n : ℕ) (s : FlatState) (d : ℕ) (which : Builtin) (a : Operand) (ts : List Task) (vs : ℕ → ℕ) (ns : List ℕ) (x : ℕ) → value vs a ≡ x
    → Along at n s (state ts (put_at d (known_of at which x) vs) ns) → Along at n s (state (Do (Id d which a) ∷ ts) vs ns)
learns at n s d which a ts vs ns x e h =
    SecondGoes n s (state (Do (Id d which a) ∷ ts) vs ns) (state ts (put_at d (known_of at which x) vs) ns) (ap (λ y. Go (state ts (put_at d (known_of at which y) vs) ns)) e) refl h

pub takes_one : (at : Setting) (n : ℕ) (s : FlatState) (test : Operand) (one other : Ops) (ts : List Task) (vs : ℕ → ℕ) (ns : List ℕ) → value vs test ≢ 0
    → Along at n s (state (ops_tasks one ts) vs ns) → Along at n s (state (Do (If test one other) ∷ ts) vs ns)
takes_one at n s test one other ts vs ns differs h =
    SecondGoes n s (state (Do (If test one other) ∷ ts) vs ns) (state (ops_tasks one ts) vs ns)
    (ap (λ (y : Bool). Go (state (if y then ops_tasks other ts else ops_tasks one ts) vs ns)) (ne_eqb (value vs test) 0 differs)) refl h

pub takes_other : (at : Setting) (n : ℕ) (s : FlatState) (test : Operand) (one other : Ops) (ts : List Task) (vs : ℕ → ℕ) (ns : List ℕ) → value vs test ≡ 0
    → Along at n s (state (ops_tasks other ts) vs ns) → Along at n s (state (Do (If test one other) ∷ ts) vs ns)
takes_other at n s test one other ts vs ns e h =
    SecondGoes n s (state (Do (If test one other) ∷ ts) vs ns) (state (ops_tasks other ts) vs ns)
    (ap (λ y. Go (state (if y == 0 then ops_tasks other ts else ops_tasks one ts) vs ns)) e) refl h
