-- Variables of a kernel with jumps and of the same with flags while both go along, and single operations in both.
use Rattle.std.proofs.Common.{◌≡◌, ◌≢◌, ℕ, ◌<◌, ◌≤◌, ◌^◌, Bool, true, false, nat_lt, List, ◌∷◌, refl, ap, sym, ◌∙◌, subst, arith, inl, inr, true≢false}
use Rattle.std.specs.Prelude.{if◌then◌else◌, reverse}
use Rattle.std.proofs.lemmas.Bool.{cases_eq}
use Rattle.vx_base.specs.Values.{alu_value_of, fitted}
use Rattle.vx_base.proofs.ValueLaws.{alu_value_of-lt, fitted-lt}
use Rattle.vx_base.specs.declared.types.Pos.{Pos}
use Rattle.ocl_program.specs.declared.exprs.ArrayRef.{ArrayRef}
use Rattle.item_acts.specs.declared.acts.Action.TheVariants.{Load as LoadAction, Store as StoreAction, Barrier as BarrierAction, Fault}
use Rattle.item_acts.specs.Launches.{put_at}
use Rattle.item_acts.specs.Machine.{Go, Ask, Stop}
use Rattle.item_acts.proofs.Launches.{put_at_same, put_at_other}
use Rattle.item_settings.specs.Settings.{Setting, elem_size, low_bytes, place_in}
use Rattle.step_machine.specs.Sims.{BothGo, BothAsk, BothStop}
use Rattle.kir.specs.Machine.{State, state, Task, Do, value, known_of, ops_tasks, step, broken, continued, returned}
use Rattle.kir.specs.Measures.{is_single}
use Rattle.kir.specs.Trees.{Operand, VariableOf, NumberOf, Op, Set, Calculate, Fit, Id, Load, Store, Check, Barrier, If, Loop, Break, Continue, Return, Call, Ops, NoOps, AndOp}
use Rattle.kir_flow.specs.declared.scopes.Jump.{Jump}
use Rattle.kir_flow.specs.declared.scopes.Scope.{Scope}
use Rattle.kir_flow.specs.declared.scopes.Jump.TheVariants.{ByBreak, ByContinue, ByReturn}
use Rattle.kir_flow.specs.declared.scopes.Scope.TheVariants.{InCall, InBody, InEdge}
use Rattle.kir_flow.specs.Flagging.{live, run, whole, inside, leaves, op_leaves, flagged, flagged_op}
use Rattle.kir.specs.Numbered.{IsBelow, OpBelow, GivesWords}
use Rattle.kir_flow.proofs.FlagStates.{Along, Fate, Alive, live_bit, fate_of, Stands, Ordered, whole_inside, run_inside, live_inside, SameTo}

-- the flags are numbered behind the variables of the kernel
pub record Fine (count : ℕ) (f : Scope) : Type 0 where
  pub behind : count ≤ whole f
  pub ordered : Ordered f

-- Variables of the kernel are the same in both and are words, and no flag but those of the innermost loop and call has changed since.
pub record Rest (count : ℕ) (f : Scope) (vs0 vs vs' : ℕ → ℕ) : Type 0 where
  pub equal : (k : ℕ) → k < count → vs' k ≡ vs k
  pub words : (k : ℕ) → k < count → vs k < 2 ^ 32
  pub frame : (k : ℕ) → count ≤ k → k < run f → k ≢ whole f → vs' k ≡ vs0 k

pub record Alike (count : ℕ) (f : Scope) (fate : Fate) (vs0 vs vs' : ℕ → ℕ) : Type 0 where
  pub rest : Rest count f vs0 vs vs'
  pub stands : Stands f fate vs'

pub run_behind : (count : ℕ) (f : Scope) → Fine count f → count ≤ run f
run_behind count (InCall call) fine = fine.behind
run_behind count (InBody call first) fine = let h : count ≤ call = fine.behind in let o : call < first = fine.ordered in omega arith
run_behind count (InEdge call first) fine = let h : count ≤ call = fine.behind in let o : call < first = fine.ordered in omega arith

pub live_behind : (count : ℕ) (f : Scope) → Fine count f → count ≤ live f
live_behind count (InCall call) fine = fine.behind
live_behind count (InBody call first) fine = let h : count ≤ first = run_behind count (InBody call first) fine in omega arith
live_behind count (InEdge call first) fine = let h : count ≤ first = run_behind count (InEdge call first) fine in omega arith

-- ---- operands

pub value_same : (count : ℕ) (f : Scope) (vs0 vs vs' : ℕ → ℕ) (a : Operand) → Rest count f vs0 vs vs' → IsBelow count a → value vs' a ≡ value vs a
value_same count f vs0 vs vs' (VariableOf k) rest below = rest.equal k below
value_same count f vs0 vs vs' (NumberOf n) rest below = refl

pub value_word : (count : ℕ) (f : Scope) (vs0 vs vs' : ℕ → ℕ) (a : Operand) → Rest count f vs0 vs vs' → IsBelow count a → value vs a < 2 ^ 32
value_word count f vs0 vs vs' (VariableOf k) rest below = rest.words k below
value_word count f vs0 vs vs' (NumberOf n) rest below = below

-- ---- a variable is set

put_equal : (d x : ℕ) (vs vs' : ℕ → ℕ) (k : ℕ) → vs' k ≡ vs k → put_at d x vs' k ≡ put_at d x vs k
put_equal d x vs vs' k e = elim (cases_eq k d) [
  | inl at ↦ ap (put_at d x vs') at ∙ put_at_same d x vs' ∙ sym (put_at_same d x vs) ∙ ap (put_at d x vs) (sym at)
  | inr other ↦ put_at_other d x vs' k other ∙ e ∙ sym (put_at_other d x vs k other)
]

put_word : (d x : ℕ) (vs : ℕ → ℕ) (k : ℕ) → x < 2 ^ 32 → vs k < 2 ^ 32 → put_at d x vs k < 2 ^ 32
put_word d x vs k word below = elim (cases_eq k d) [
  | inl at ↦ subst (λ (y : ℕ). y < 2 ^ 32) (sym (ap (put_at d x vs) at ∙ put_at_same d x vs)) word
  | inr other ↦ subst (λ (y : ℕ). y < 2 ^ 32) (sym (put_at_other d x vs k other)) below
]

-- one of the kernel in both
pub put_both : (count : ℕ) (f : Scope) (fate : Fate) (vs0 vs vs' : ℕ → ℕ) (d x : ℕ) → Fine count f → d < count → x < 2 ^ 32
    → Alike count f fate vs0 vs vs' → Alike count f fate vs0 (put_at d x vs) (put_at d x vs')
put_both count f fate vs0 vs vs' d x fine below word alike =
    let from : count ≤ whole f = fine.behind in
    let from' : count ≤ run f = run_behind count f fine in
    let from'' : count ≤ live f = live_behind count f fine in
    record {
      rest = record {
        equal = λ k less. put_equal d x vs vs' k (alike.rest.equal k less);
        words = λ k less. put_word d x vs k word (alike.rest.words k less);
        frame = λ k more less differs. put_at_other d x vs' k (λ e. absurd (omega arith)) ∙ alike.rest.frame k more less differs;
      };
      stands = record {
        live = put_at_other d x vs' (live f) (λ e. absurd (omega arith)) ∙ alike.stands.live;
        run = put_at_other d x vs' (run f) (λ e. absurd (omega arith)) ∙ alike.stands.run;
        whole = put_at_other d x vs' (whole f) (λ e. absurd (omega arith)) ∙ alike.stands.whole;
      };
    }

-- a flag in the second
pub put_flag : (count : ℕ) (f : Scope) (vs0 vs vs' : ℕ → ℕ) (d x : ℕ) → count ≤ d → ((k : ℕ) → k < run f → k ≢ whole f → k ≢ d)
    → Rest count f vs0 vs vs' → Rest count f vs0 vs (put_at d x vs')
put_flag count f vs0 vs vs' d x from differs rest = record {
  equal = λ k less. put_at_other d x vs' k (λ e. absurd (omega arith)) ∙ rest.equal k less;
  words = rest.words;
  frame = λ k more less other. put_at_other d x vs' k (differs k less other) ∙ rest.frame k more less other;
}

-- what leaves all variables up to these flags leaves them as they are
pub alike_same : (count : ℕ) (f : Scope) (fate : Fate) (vs0 vs vs' vs'' : ℕ → ℕ) → Fine count f → SameTo (inside f) vs' vs''
    → Alike count f fate vs0 vs vs' → Alike count f fate vs0 vs vs''
alike_same count f fate vs0 vs vs' vs'' fine same alike =
    let from : count ≤ live f = live_behind count f fine in
    let within : run f < inside f = run_inside f in
    record {
      rest = record {
        equal = λ k less. same k (omega arith) ∙ alike.rest.equal k less;
        words = alike.rest.words;
        frame = λ k more less differs. same k (omega arith) ∙ alike.rest.frame k more less differs;
      };
      stands = record {
        live = same (live f) (live_inside f) ∙ alike.stands.live;
        run = same (run f) (run_inside f) ∙ alike.stands.run;
        whole = same (whole f) (whole_inside f fine.ordered) ∙ alike.stands.whole;
      };
    }

-- What holds of flags inside, seen from outside: the flags here are as they were.
pub outward : (count : ℕ) (f g : Scope) (fate fate' : Fate) (vs0 vs vs' vs2 vs2' : ℕ → ℕ) → Fine count f
    → ((k : ℕ) → count ≤ k → k < inside f → vs2' k ≡ vs' k)
    → Alike count f fate vs0 vs vs' → (vs1 : ℕ → ℕ) → Alike count g fate' vs1 vs2 vs2' → Alike count f fate vs0 vs2 vs2'
outward count f g fate fate' vs0 vs vs' vs2 vs2' fine kept alike vs1 inner =
    let within : run f < inside f = run_inside f in
    record {
      rest = record {
        equal = inner.rest.equal;
        words = inner.rest.words;
        frame = λ k more less differs. kept k more (omega arith) ∙ alike.rest.frame k more less differs;
      };
      stands = record {
        live = kept (live f) (live_behind count f fine) (live_inside f) ∙ alike.stands.live;
        run = kept (run f) (run_behind count f fine) (run_inside f) ∙ alike.stands.run;
        whole = kept (whole f) fine.behind (whole_inside f fine.ordered) ∙ alike.stands.whole;
      };
    }

-- ---- jumps

-- where a jump of the first leads
abbrev pub jumped : Jump → List Task → (ℕ → ℕ) → List ℕ → State
jumped ByBreak ts vs ns = broken ts vs ns
jumped ByContinue ts vs ns = continued ts vs ns
jumped ByReturn ts vs ns = returned ts vs ns

pub jump_skips : (j : Jump) (ops : Ops) (ts : List Task) (vs : ℕ → ℕ) (ns : List ℕ) → jumped j (ops_tasks ops ts) vs ns ≡ jumped j ts vs ns
jump_skips j NoOps ts vs ns = refl
jump_skips ByBreak (AndOp op ops) ts vs ns = jump_skips ByBreak ops ts vs ns
jump_skips ByContinue (AndOp op ops) ts vs ns = jump_skips ByContinue ops ts vs ns
jump_skips ByReturn (AndOp op ops) ts vs ns = jump_skips ByReturn ops ts vs ns

pub jump_kills : (f : Scope) (j : Jump) → live_bit (fate_of f j) ≡ 0
jump_kills (InCall call) j = refl
jump_kills (InBody call first) ByBreak = refl
jump_kills (InBody call first) ByContinue = refl
jump_kills (InBody call first) ByReturn = refl
jump_kills (InEdge call first) ByBreak = refl
jump_kills (InEdge call first) ByContinue = refl
jump_kills (InEdge call first) ByReturn = refl

-- what is to hold behind operations that go on, and behind those that a jump leaves
abbrev pub Next : Setting → ℕ → ℕ → Scope → (ℕ → ℕ) → List Task → List Task → List ℕ → Type 0
Next at count n f vs0 ts ts' ns = (vs vs' : ℕ → ℕ) → Alike count f Alive vs0 vs vs' → Along at n (state ts vs ns) (state ts' vs' ns)

abbrev pub Leave : Setting → ℕ → ℕ → Scope → (ℕ → ℕ) → (Jump → Bool) → List Task → List Task → List ℕ → Type 0
Leave at count n f vs0 leaves ts ts' ns =
    (j : Jump) → leaves j ≡ true → (vs vs' : ℕ → ℕ) → Alike count f (fate_of f j) vs0 vs vs' → Along at n (jumped j ts vs ns) (state ts' vs' ns)

-- operations and the same with flags go along, where what follows does
abbrev pub Follows : Setting → ℕ → Ops → Type 0
Follows at count ops = (n : ℕ) (f : Scope) (sure : Bool) (c : Ops) (ts ts' : List Task) (vs0 vs vs' : ℕ → ℕ) (ns : List ℕ) → Fine count f
    → Next at count n f vs0 ts (ops_tasks c ts') ns → Leave at count n f vs0 (λ j. leaves j ops) ts (ops_tasks c ts') ns
    → Alike count f Alive vs0 vs vs' → Along at n (state (ops_tasks ops ts) vs ns) (state (ops_tasks (flagged false f sure ops c) ts') vs' ns)

abbrev pub FollowsOp : Setting → ℕ → Op → Type 0
FollowsOp at count op = (n : ℕ) (f : Scope) (sure : Bool) (c : Ops) (ts ts' : List Task) (vs0 vs vs' : ℕ → ℕ) (ns : List ℕ) → Fine count f
    → Next at count n f vs0 ts (ops_tasks c ts') ns → Leave at count n f vs0 (λ j. op_leaves j op) ts (ops_tasks c ts') ns
    → Alike count f Alive vs0 vs vs' → Along at n (state (Do op ∷ ts) vs ns) (state (ops_tasks (flagged_op f sure op c) ts') vs' ns)

-- ---- single operations

-- both set a variable to the same
sets_both : (at : Setting) (count n : ℕ) (f : Scope) (fate : Fate) (op : Op) (ts ts' : List Task) (vs0 vs vs' : ℕ → ℕ) (ns : List ℕ) (d x : ℕ) → Fine count f → d < count
    → x < 2 ^ 32
    → step at (state (Do op ∷ ts) vs ns) ≡ Go (state ts (put_at d x vs) ns) → step at (state (Do op ∷ ts') vs' ns) ≡ Go (state ts' (put_at d x vs') ns)
    → ((vs1 vs1' : ℕ → ℕ) → Alike count f fate vs0 vs1 vs1' → Along at n (state ts vs1 ns) (state ts' vs1' ns))
    → Alike count f fate vs0 vs vs' → Along at n (state (Do op ∷ ts) vs ns) (state (Do op ∷ ts') vs' ns)
sets_both at count n f fate op ts ts' vs0 vs vs' ns d x fine below word e e' next alike =
    BothGo n (state (Do op ∷ ts) vs ns) (state ts (put_at d x vs) ns) (state (Do op ∷ ts') vs' ns) (state ts' (put_at d x vs') ns) e e' (omega arith)
    (next (put_at d x vs) (put_at d x vs') (put_both count f fate vs0 vs vs' d x fine below word alike))

-- both check the same
checks_both : (at : Setting) (n : ℕ) (array : ArrayRef) (a : Operand) (pos : Pos) (ts ts' : List Task) (vs vs' : ℕ → ℕ) (ns : List ℕ) → value vs' a ≡ value vs a
    → Along at n (state ts vs ns) (state ts' vs' ns) → Along at n (state (Do (Check array a pos) ∷ ts) vs ns) (state (Do (Check array a pos) ∷ ts') vs' ns)
checks_both at n array a pos ts ts' vs vs' ns e next = by_test (nat_lt (value vs a) (at.array array).count) refl
  where
    second : step at (state (Do (Check array a pos) ∷ ts') vs' ns) ≡ (if nat_lt (value vs a) (at.array array).count then Go (state ts' vs' ns) else Stop (Fault pos))
    second = ap (λ (x : ℕ). if nat_lt x (at.array array).count then Go (state ts' vs' ns) else Stop (Fault pos)) e

    by_test : (b : Bool) → nat_lt (value vs a) (at.array array).count ≡ b → Along at n (state (Do (Check array a pos) ∷ ts) vs ns) (state (Do (Check array a pos) ∷ ts') vs' ns)
    by_test true e' = BothGo n (state (Do (Check array a pos) ∷ ts) vs ns) (state ts vs ns) (state (Do (Check array a pos) ∷ ts') vs' ns) (state ts' vs' ns)
        (ap (λ (b : Bool). if b then Go (state ts vs ns) else Stop (Fault pos)) e') (second ∙ ap (λ (b : Bool). if b then Go (state ts' vs' ns) else Stop (Fault pos)) e')
        (omega arith) next
    by_test false e' = BothStop n (state (Do (Check array a pos) ∷ ts) vs ns) (state (Do (Check array a pos) ∷ ts') vs' ns) (Fault pos)
        (ap (λ (b : Bool). if b then Go (state ts vs ns) else Stop (Fault pos)) e') (second ∙ ap (λ (b : Bool). if b then Go (state ts' vs' ns) else Stop (Fault pos)) e')

-- a single operation is the same in both
pub single_follows : (at : Setting) (count n : ℕ) (f : Scope) (fate : Fate) (op : Op) (ts ts' : List Task) (vs0 vs vs' : ℕ → ℕ) (ns : List ℕ) → is_single op ≡ true
    → GivesWords at → Fine count f → OpBelow count op
    → ((vs1 vs1' : ℕ → ℕ) → Alike count f fate vs0 vs1 vs1' → Along at n (state ts vs1 ns) (state ts' vs1' ns))
    → Alike count f fate vs0 vs vs' → Along at n (state (Do op ∷ ts) vs ns) (state (Do op ∷ ts') vs' ns)
single_follows at count n f fate (Set d a) ts ts' vs0 vs vs' ns single gives fine (below, small) next alike =
    sets_both at count n f fate (Set d a) ts ts' vs0 vs vs' ns d (value vs a) fine below (value_word count f vs0 vs vs' a alike.rest small)
    refl (ap (λ x. Go (state ts' (put_at d x vs') ns)) (value_same count f vs0 vs vs' a alike.rest small)) next alike
single_follows at count n f fate (Calculate d op a b) ts ts' vs0 vs vs' ns single gives fine (below, small, small') next alike =
    sets_both at count n f fate (Calculate d op a b) ts ts' vs0 vs vs' ns d (alu_value_of op (value vs a) (value vs b)) fine below
    (alu_value_of-lt op (value vs a) (value vs b) (value_word count f vs0 vs vs' a alike.rest small) (value_word count f vs0 vs vs' b alike.rest small'))
    refl
    (ap (λ x. Go (state ts' (put_at d (alu_value_of op x (value vs' b)) vs') ns)) (value_same count f vs0 vs vs' a alike.rest small)
    ∙ ap (λ x. Go (state ts' (put_at d (alu_value_of op (value vs a) x) vs') ns)) (value_same count f vs0 vs vs' b alike.rest small')) next alike
single_follows at count n f fate (Fit d elem a) ts ts' vs0 vs vs' ns single gives fine (below, small) next alike =
    sets_both at count n f fate (Fit d elem a) ts ts' vs0 vs vs' ns d (fitted elem (value vs a)) fine below (fitted-lt elem (value vs a))
    refl (ap (λ x. Go (state ts' (put_at d (fitted elem x) vs') ns)) (value_same count f vs0 vs vs' a alike.rest small)) next alike
single_follows at count n f fate (Id d which a) ts ts' vs0 vs vs' ns single gives fine (below, small) next alike =
    sets_both at count n f fate (Id d which a) ts ts' vs0 vs vs' ns d (known_of at which (value vs a)) fine below (gives which (value vs a))
    refl (ap (λ x. Go (state ts' (put_at d (known_of at which x) vs') ns)) (value_same count f vs0 vs vs' a alike.rest small)) next alike
single_follows at count n f fate (Load d array elem a) ts ts' vs0 vs vs' ns single gives fine (below, small) next alike =
    BothAsk n (state (Do (Load d array elem a) ∷ ts) vs ns) (state (Do (Load d array elem a) ∷ ts') vs' ns)
    (LoadAction (place_in at.group (at.array array) elem (value vs a)) (elem_size elem))
    (λ answer. state ts (put_at d (fitted elem answer) vs) ns) (λ answer. state ts' (put_at d (fitted elem answer) vs') ns)
    refl (ap (λ x. Ask (LoadAction (place_in at.group (at.array array) elem x) (elem_size elem)) (λ answer. state ts' (put_at d (fitted elem answer) vs') ns))
    (value_same count f vs0 vs vs' a alike.rest small))
    (omega arith)
    (λ answer. next (put_at d (fitted elem answer) vs) (put_at d (fitted elem answer) vs')
    (put_both count f fate vs0 vs vs' d (fitted elem answer) fine below (fitted-lt elem answer) alike))
single_follows at count n f fate (Store array elem a b) ts ts' vs0 vs vs' ns single gives fine (small, small') next alike =
    BothAsk n (state (Do (Store array elem a b) ∷ ts) vs ns) (state (Do (Store array elem a b) ∷ ts') vs' ns)
    (StoreAction (place_in at.group (at.array array) elem (value vs a)) (elem_size elem) (low_bytes elem (value vs b)))
    (λ answer. state ts vs ns) (λ answer. state ts' vs' ns)
    refl
    (ap (λ x. Ask (StoreAction (place_in at.group (at.array array) elem x) (elem_size elem) (low_bytes elem (value vs' b))) (λ answer. state ts' vs' ns))
    (value_same count f vs0 vs vs' a alike.rest small)
    ∙ ap (λ x. Ask (StoreAction (place_in at.group (at.array array) elem (value vs a)) (elem_size elem) (low_bytes elem x)) (λ answer. state ts' vs' ns))
    (value_same count f vs0 vs vs' b alike.rest small'))
    (omega arith) (λ answer. next vs vs' alike)
single_follows at count n f fate (Check array a pos) ts ts' vs0 vs vs' ns single gives fine small next alike =
    checks_both at n array a pos ts ts' vs vs' ns (value_same count f vs0 vs vs' a alike.rest small) (next vs vs' alike)
single_follows at count n f fate (Barrier site) ts ts' vs0 vs vs' ns single gives fine small next alike =
    BothAsk n (state (Do (Barrier site) ∷ ts) vs ns) (state (Do (Barrier site) ∷ ts') vs' ns) (BarrierAction (record { site = site; turns = reverse ns }))
    (λ answer. state ts vs ns) (λ answer. state ts' vs' ns) refl refl (omega arith) (λ answer. next vs vs' alike)
single_follows at count n f fate (If test one other) ts ts' vs0 vs vs' ns single gives fine small next alike = absurd (true≢false (sym single))
single_follows at count n f fate (Loop head test body st) ts ts' vs0 vs vs' ns single gives fine small next alike = absurd (true≢false (sym single))
single_follows at count n f fate Break ts ts' vs0 vs vs' ns single gives fine small next alike = absurd (true≢false (sym single))
single_follows at count n f fate Continue ts ts' vs0 vs vs' ns single gives fine small next alike = absurd (true≢false (sym single))
single_follows at count n f fate Return ts ts' vs0 vs vs' ns single gives fine small next alike = absurd (true≢false (sym single))
single_follows at count n f fate (Call body) ts ts' vs0 vs vs' ns single gives fine small next alike = absurd (true≢false (sym single))
