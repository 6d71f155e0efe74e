-- Flags as variables of a machine: what they are when all is alive and behind each jump, and steps of the second machine alone.
use Rattle.std.proofs.Common.{◌≡◌, ◌≢◌, ℕ, ◌<◌, ◌≤◌, ◌^◌, pos, ◌-ℤ◌, List, ◌∷◌, refl, ap, sym, ◌∙◌, arith, inl, inr, Bool, ne_eqb}
use Rattle.std.specs.Prelude.{bit_and, ◌==◌, if◌then◌else◌}
use Rattle.std.proofs.lemmas.Bool.{cases_eq}
use Rattle.vx_base.specs.Values.{alu_value_of, word_of}
use Rattle.vx_base.specs.declared.types.Alu.{Alu}
use Rattle.vx_base.specs.declared.types.Alu.TheVariants.{Mul}
use Rattle.item_acts.specs.Launches.{put_at}
use Rattle.item_acts.specs.Machine.{Go}
use Rattle.item_acts.proofs.Launches.{put_at_same, put_at_other}
use Rattle.item_settings.specs.Settings.{Setting}
use Rattle.step_machine.specs.Sims.{GoAlong, SecondGoes}
use Rattle.step_machine.specs.Stacks.{under}
use Rattle.kir.specs.Machine.{State, state, Task, Do, Decide, Turning, value, step, cost, ops_tasks, turn_tasks}
use Rattle.kir.specs.Trees.{Operand, Set, Calculate, If, Ops}
use Rattle.kir_flow.specs.declared.scopes.Jump.{Jump}
use Rattle.kir_flow.specs.declared.scopes.Scope.{Scope}
use Rattle.kir_flow.specs.declared.scopes.Jump.TheVariants.{ByBreak, ByContinue, ByReturn}
use Rattle.kir_flow.specs.declared.scopes.Scope.TheVariants.{InCall, InBody, InEdge}
use Rattle.kir_flow.specs.Flagging.{live, run, whole, inside}

abbrev pub Along : Setting → ℕ → State → State → Type 0
Along at n s t = GoAlong (step at) (step at) cost cost n s t

-- ---- what becomes of a turn or call

pub data Fate : Type 0 where
  Alive : Fate
  Skipped : Fate
  Broken : Fate
  Returned : Fate

abbrev pub live_bit : Fate → ℕ
live_bit Alive = 1
live_bit other = 0

abbrev pub run_bit : Fate → ℕ
run_bit Alive = 1
run_bit Skipped = 1
run_bit other = 0

abbrev pub whole_bit : Fate → ℕ
whole_bit Returned = 0
whole_bit other = 1

-- behind a jump
abbrev pub fate_of : Scope → Jump → Fate
fate_of (InCall call) j = Returned
fate_of (InBody call first) ByBreak = Broken
fate_of (InBody call first) ByContinue = Skipped
fate_of (InBody call first) ByReturn = Returned
fate_of (InEdge call first) ByReturn = Returned
fate_of (InEdge call first) j = Broken

-- the flags say so
pub record Stands (f : Scope) (fate : Fate) (vs : ℕ → ℕ) : Type 0 where
  pub live : vs (live f) ≡ live_bit fate
  pub run : vs (run f) ≡ run_bit fate
  pub whole : vs (whole f) ≡ whole_bit fate

-- the flag of the call is numbered before the loop's
abbrev pub Ordered : Scope → Type 0
Ordered (InCall call) = Unit {0}
Ordered (InBody call first) = call < first
Ordered (InEdge call first) = call < first

pub whole_inside : (f : Scope) → Ordered f → whole f < inside f
whole_inside (InCall call) o = omega arith
whole_inside (InBody call first) o = omega arith
whole_inside (InEdge call first) o = omega arith

pub run_inside : (f : Scope) → run f < inside f
run_inside (InCall call) = omega arith
run_inside (InBody call first) = omega arith
run_inside (InEdge call first) = omega arith

pub live_inside : (f : Scope) → live f < inside f
live_inside f = omega arith

-- ---- variables below a bound are those that were

abbrev pub SameTo : ℕ → (ℕ → ℕ) → (ℕ → ℕ) → Type 0
SameTo bound vs vs' = (k : ℕ) → k < bound → vs' k ≡ vs k

pub put_above : (bound i x : ℕ) (vs vs' : ℕ → ℕ) → bound ≤ i → SameTo bound vs vs' → SameTo bound vs (put_at i x vs')
put_above bound i x vs vs' above same k below = put_at_other i x vs' k (λ e. absurd (omega arith)) ∙ same k below

pub put_again : (bound i x : ℕ) (vs vs' : ℕ → ℕ) → x ≡ vs i → SameTo bound vs vs' → SameTo bound vs (put_at i x vs')
put_again bound i x vs vs' e same k below = elim (cases_eq k i) [
  | inl at ↦ ap (put_at i x vs') at ∙ put_at_same i x vs' ∙ e ∙ ap vs (sym at)
  | inr other ↦ put_at_other i x vs' k other ∙ same k below
]

pub narrow : (few bound : ℕ) (vs vs' vs'' : ℕ → ℕ) → few ≤ bound → SameTo few vs vs' → SameTo bound vs' vs'' → SameTo few vs vs''
narrow few bound vs vs' vs'' le one other k below = other k (omega arith) ∙ one k below

-- ---- steps of the second machine

pub sets : (at : Setting) (n : ℕ) (s : State) (d : ℕ) (a : Operand) (ts : List Task) (vs : ℕ → ℕ) (ns : List ℕ) (x : ℕ) → value vs a ≡ x
    → Along at n s (state ts (put_at d x vs) ns) → Along at n s (state (Do (Set d a) ∷ ts) vs ns)
sets at n s d a ts vs ns x e h = SecondGoes n s (state (Do (Set d a) ∷ ts) vs ns) (state ts (put_at d x vs) ns) (ap (λ y. Go (state ts (put_at d y vs) ns)) e) refl h

pub calculates : (at : Setting) (n : ℕ) (s : State) (d : ℕ) (op : Alu) (a b : Operand) (ts : List Task) (vs : ℕ → ℕ) (ns : List ℕ) (x y z : ℕ)
    → value vs a ≡ x → value vs b ≡ y → alu_value_of op x y ≡ z
    → Along at n s (state ts (put_at d z vs) ns) → Along at n s (state (Do (Calculate d op a b) ∷ ts) vs ns)
calculates at n s d op a b ts vs ns x y z e e' e'' h =
    SecondGoes n s (state (Do (Calculate d op a b) ∷ ts) vs ns) (state ts (put_at d z vs) ns)
    (ap (λ x'. Go (state ts (put_at d (alu_value_of op x' (value vs b)) vs) ns)) e ∙ ap (λ y'. Go (state ts (put_at d (alu_value_of op x y') vs) ns)) e'
    ∙ ap (λ z'. Go (state ts (put_at d z' vs) ns)) e'') refl h

pub takes_one : (at : Setting) (n : ℕ) (s : State) (test : Operand) (one other : Ops) (ts : List Task) (vs : ℕ → ℕ) (ns : List ℕ) → value vs test ≢ 0
    → Along at n s (state (ops_tasks one ts) vs ns) → Along at n s (state (Do (If test one other) ∷ ts) vs ns)
takes_one at n s test one other ts vs ns differs h =
    SecondGoes n s (state (Do (If test one other) ∷ ts) vs ns) (state (ops_tasks one ts) vs ns)
    (ap (λ (y : Bool). Go (state (if y then ops_tasks other ts else ops_tasks one ts) vs ns)) (ne_eqb (value vs test) 0 differs)) refl h

pub takes_other : (at : Setting) (n : ℕ) (s : State) (test : Operand) (one other : Ops) (ts : List Task) (vs : ℕ → ℕ) (ns : List ℕ) → value vs test ≡ 0
    → Along at n s (state (ops_tasks other ts) vs ns) → Along at n s (state (Do (If test one other) ∷ ts) vs ns)
takes_other at n s test one other ts vs ns e h =
    SecondGoes n s (state (Do (If test one other) ∷ ts) vs ns) (state (ops_tasks other ts) vs ns)
    (ap (λ y. Go (state (if y == 0 then ops_tasks other ts else ops_tasks one ts) vs ns)) e) refl h

-- a loop is left at its test
pub ends : (at : Setting) (n : ℕ) (s : State) (loop : Turning) (ts : List Task) (vs : ℕ → ℕ) (ns : List ℕ) → value vs loop.test ≡ 0
    → Along at n s (state ts vs (under ns)) → Along at n s (state (Decide loop ∷ ts) vs ns)
ends at n s loop ts vs ns e h =
    SecondGoes n s (state (Decide loop ∷ ts) vs ns) (state ts vs (under ns))
    (ap (λ y. Go (if y == 0 then state ts vs (under ns) else state (turn_tasks loop ts) vs ns)) e) (ap (λ y. if y == 0 then 0 else 1) e) h

-- ---- operations on flags that are 1 or 0

pub kept_bit : (fate : Fate) → word_of (pos (run_bit fate) -ℤ pos 0) ≡ run_bit fate
kept_bit Alive = refl
kept_bit Skipped = refl
kept_bit Broken = refl
kept_bit Returned = refl

pub kept_whole_bit : (fate : Fate) → word_of (pos (whole_bit fate) -ℤ pos 0) ≡ whole_bit fate
kept_whole_bit Alive = refl
kept_whole_bit Skipped = refl
kept_whole_bit Broken = refl
kept_whole_bit Returned = refl

pub and_run : (fate : Fate) → bit_and (run_bit fate) (whole_bit fate) ≡ run_bit fate
and_run Alive = refl
and_run Skipped = refl
and_run Broken = refl
and_run Returned = refl

pub and_live : (fate : Fate) → bit_and (live_bit fate) (whole_bit fate) ≡ live_bit fate
and_live Alive = refl
and_live Skipped = refl
and_live Broken = refl
and_live Returned = refl

pub dead_test : (t : ℕ) → alu_value_of Mul 0 t ≡ 0
dead_test t = omega arith

pub live_test : (t : ℕ) → t < 2 ^ 32 → alu_value_of Mul 1 t ≡ t
live_test t below = omega arith
