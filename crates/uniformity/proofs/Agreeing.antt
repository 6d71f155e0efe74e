-- Marked variables agree where two items of a group end, and where the same is left to do in the same turns.
use Rattle.std.proofs.Common.{◌≡◌, ◌≢◌, ℕ, zero, suc, ◌+◌, ◌<◌, ◌≤◌, ◌⊎◌, inl, inr, Bool, true, false, ◌&&◌, nat_eq, List, [], ◌∷◌, ◌++◌, Option, None, Some, refl, sym, ap, ◌∙◌, subst, arith, eqb-true}
use Rattle.std.specs.Prelude.{if◌then◌else◌}
use Rattle.std.proofs.lemmas.Bool.{cases_Bool, false≢true}
use Rattle.vx_base.specs.declared.types.Elem.{Elem}
use Rattle.vx_base.specs.Values.{alu_value_of, fitted}
use Rattle.item_acts.specs.declared.acts.Action.TheVariants.{Load as LoadAction}
use Rattle.item_acts.specs.Launches.{put_at}
use Rattle.ocl_ast.specs.declared.units.Param.{Param}
use Rattle.ocl_program.specs.declared.exprs.ArrayRef.{ArrayRef}
use Rattle.ocl_program.specs.declared.exprs.Builtin.{Builtin}
use Rattle.ocl_program.specs.declared.exprs.Builtin.TheVariants as b
use Rattle.item_settings.specs.declared.arrays.ItemArray.{ItemArray}
use Rattle.item_settings.specs.Settings.{Setting, elem_size, place_in}
use Rattle.kir.specs.Machine.{State, state, Task, Do, Decide, Again, Turning, value, known_of, ops_tasks, head_tasks}
use Rattle.kir.specs.Trees.{Operand, VariableOf, NumberOf, Op, Set, Calculate, Fit, Id, Load, Store, Check, Barrier, If, Loop, Break, Continue, Return, Call, Ops, NoOps, AndOp}
use Rattle.uniformity.specs.Marks.{is_uniform, is_constant, is_of_group, gives_uniform, target, OnlyIf, AreClosed, OpClosed}
use Rattle.uniformity.specs.Pairs.{Agree}
use Rattle.uniformity.proofs.Visits.{Honesty, given, HonestAt, put_target, SingleEnds, Way, OneTurn, Turned, LoopEnds, Ends, OpEnds, Section, AtHead, AtTest, InBody, AtEnd, InStep, Meeting, TurnMeets, Meets, OpMeets, Inside}
use Rattle.uniformity.proofs.Sections.{size, inner_size, tasks_size, size_tasks, IsIn, one_section, number_at, one_number, Lies, LiesIn, same_turn, turn_lies, meets_lie, op_lies, inside_lies}

-- ---- settings of one group

pub record OfOneGroup (at at' : Setting) : Type 0 where
  pub group : at.group ≡ at'.group
  pub array : at.array ≡ at'.array
  pub known : (which : Builtin) (d : ℕ) → is_of_group which true ≡ true → known_of at which d ≡ known_of at' which d

-- two honest answers to a load from a `__constant` array are the same
abbrev pub AreSettled : List Param → Setting → Honesty → Type 0
AreSettled params at H = (array : ArrayRef) (elem : Elem) (i m n : ℕ) → is_constant params array ≡ true
    → H (LoadAction (place_in at.group (at.array array) elem i) (elem_size elem)) m → H (LoadAction (place_in at.group (at.array array) elem i) (elem_size elem)) n → m ≡ n

-- ---- Bool

both_parts : (x y : Bool) → (x && y) ≡ true → (x ≡ true) × (y ≡ true)
both_parts true y e = (refl, e)
both_parts false y e = absurd (false≢true e)

group_same : (which : Builtin) (x : Bool) → is_of_group which x ≡ true → is_of_group which true ≡ true
group_same b.WorkDim x e = refl
group_same b.GlobalId x e = e
group_same b.LocalId x e = e
group_same b.GroupId x e = refl
group_same b.GlobalSize x e = refl
group_same b.LocalSize x e = refl
group_same b.NumGroups x e = refl
group_same b.GlobalOffset x e = refl
group_same b.Min x e = refl
group_same b.Max x e = refl
group_same b.Clamp x e = refl
group_same b.Abs x e = refl
group_same b.MulHi x e = refl

-- what is of a dimension gives the same for the same one
known_same : (at at' : Setting) → OfOneGroup at at' → (which : Builtin) (x : Bool) (d d' : ℕ) → is_of_group which x ≡ true → (x ≡ true → d ≡ d')
    → known_of at which d ≡ known_of at' which d'
known_same at at' alike b.WorkDim x d d' e same = alike.known b.WorkDim d refl
known_same at at' alike b.GlobalId x d d' e same = absurd (false≢true e)
known_same at at' alike b.LocalId x d d' e same = absurd (false≢true e)
known_same at at' alike b.GroupId x d d' e same = alike.known b.GroupId d refl ∙ ap (known_of at' b.GroupId) (same e)
known_same at at' alike b.GlobalSize x d d' e same = alike.known b.GlobalSize d refl ∙ ap (known_of at' b.GlobalSize) (same e)
known_same at at' alike b.LocalSize x d d' e same = alike.known b.LocalSize d refl ∙ ap (known_of at' b.LocalSize) (same e)
known_same at at' alike b.NumGroups x d d' e same = alike.known b.NumGroups d refl ∙ ap (known_of at' b.NumGroups) (same e)
known_same at at' alike b.GlobalOffset x d d' e same = alike.known b.GlobalOffset d refl ∙ ap (known_of at' b.GlobalOffset) (same e)
known_same at at' alike b.Min x d d' e same = alike.known b.Min d refl ∙ ap (known_of at' b.Min) (same e)
known_same at at' alike b.Max x d d' e same = alike.known b.Max d refl ∙ ap (known_of at' b.Max) (same e)
known_same at at' alike b.Clamp x d d' e same = alike.known b.Clamp d refl ∙ ap (known_of at' b.Clamp) (same e)
known_same at at' alike b.Abs x d d' e same = alike.known b.Abs d refl ∙ ap (known_of at' b.Abs) (same e)
known_same at at' alike b.MulHi x d d' e same = alike.known b.MulHi d refl ∙ ap (known_of at' b.MulHi) (same e)

branches : (x : Bool) (m n m' n' : ℕ) → (x ≡ true → m ≡ m') → n ≡ n' → (if x then m else n) ≡ (if x then m' else n')
branches true m n m' n' e q = e refl
branches false m n m' n' e q = q

unchanged : (x : Bool) (m n : ℕ) → (x ≡ true → ⊥) → n ≡ (if x then m else n)
unchanged true m n e = absurd (e refl)
unchanged false m n e = refl

order : (j k : ℕ) → (j < k) ⊎ ((j ≡ k) ⊎ (k < j))
order zero zero = inr (inl refl)
order zero (suc k) = inl (omega arith)
order (suc j) zero = inr (inr (omega arith))
order (suc j) (suc k) = elim (order j k) as (λ _. (suc j < suc k) ⊎ ((suc j ≡ suc k) ⊎ (suc k < suc j))) [
  | inl h ↦ inl (omega arith)
  | inr rest ↦ elim rest as (λ _. (suc j < suc k) ⊎ ((suc j ≡ suc k) ⊎ (suc k < suc j))) [ inl e ↦ inr (inl (ap suc e)) | inr h ↦ inr (inr (omega arith)) ]
]

last_turn : (k j : ℕ) → k < suc j → (k ≡ j) ⊎ (k < j)
last_turn k j h = elim (order k j) as (λ _. (k ≡ j) ⊎ (k < j)) [
  | inl below ↦ inr below
  | inr rest ↦ elim rest as (λ _. (k ≡ j) ⊎ (k < j)) [ inl e ↦ inl e | inr above ↦ absurd (omega arith) ]
]

-- before a later turn an earlier one was begun
pub record Began (head : Way) (test : Operand) (body step : Way) (k : ℕ) (vs : ℕ → ℕ) : Type 0 where
  pub before : ℕ → ℕ
  pub tested : ℕ → ℕ
  pub turned : Turned head test body step k vs before
  pub headed : head before tested
  pub going : value tested test ≢ 0

module _ (params : List Param) (marks : ℕ → Bool) where
  value_agree : (a : Operand) (vs vs' : ℕ → ℕ) → Agree marks vs vs' → is_uniform marks a ≡ true → value vs a ≡ value vs' a
  value_agree (VariableOf k) vs vs' agree e = agree k e
  value_agree (NumberOf n) vs vs' agree e = refl

  round : (vs vs' ws ws' : ℕ → ℕ) → Agree marks vs vs' → Agree marks vs ws → Agree marks vs' ws' → Agree marks ws ws'
  round vs vs' ws ws' f g h k m = sym (g k m) ∙ f k m ∙ h k m

  -- ---- where nothing that is marked is written

  abbrev Stays : Way → Type 0
  Stays way = (vs ws : ℕ → ℕ) → way vs ws → Agree marks vs ws

  target_stays : (at : Option ℕ) (v : ℕ) (vs : ℕ → ℕ) → OnlyIf false marks at → Agree marks vs (put_target at v vs)
  target_stays None v vs only k m = refl
  target_stays (Some d) v vs only k m =
      unchanged (nat_eq k d) v (vs k) (λ e. false≢true (only (subst (λ x. marks x ≡ true) (eqb-true k d e) m)))

  turned_stays : (head : Way) (test : Operand) (body step : Way) → Stays head → Stays body → Stays step → (k : ℕ) → Stays (Turned head test body step k)
  turned_stays head test body step h s t zero vs ws e = λ k m. ap (λ x. x k) e
  turned_stays head test body step h s t (suc k) vs ws e = λ j m.
      turned_stays head test body step h s t k vs e.0 e.1 j m ∙ h e.0 e.2.0 e.2.1 j m ∙ s e.2.0 e.2.3.0 e.2.3.1 j m ∙ t e.2.3.0 ws e.2.3.2 j m

  module _ (at : Setting) (H : Honesty) where
    single_stays : (op : Op) → OnlyIf false marks (target op) → Stays (SingleEnds at H op)
    single_stays op only vs ws e = subst (Agree marks vs) (sym e.2) (target_stays (target op) (given at op vs e.0) vs only)

    mutual
      ends_stay : (ops : Ops) → AreClosed params marks false ops → Stays (Ends at H ops)
      ends_stay NoOps closed vs ws e = λ k m. ap (λ x. x k) e
      ends_stay (AndOp op ops) closed vs ws e = λ k m. op_stays op closed.0 vs e.0 e.1 k m ∙ ends_stay ops closed.1 e.0 ws e.2 k m

      op_stays : (op : Op) → OpClosed params marks false op → Stays (OpEnds at H op)
      op_stays (If test one other) closed vs ws (inl e) = ends_stay one closed.0 vs ws e.1
      op_stays (If test one other) closed vs ws (inr e) = ends_stay other closed.1 vs ws e.1
      op_stays (Loop head test body step) closed vs ws e = λ k m.
          turned_stays (Ends at H head) test (Ends at H body) (Ends at H step) (ends_stay head closed.0) (ends_stay body closed.1) (ends_stay step closed.2) e.0 vs e.1.0 e.1.1 k m
          ∙ ends_stay head closed.0 e.1.0 ws e.1.2 k m
      op_stays (Set d a) closed vs ws e = single_stays (Set d a) closed vs ws e
      op_stays (Calculate d op a b) closed vs ws e = single_stays (Calculate d op a b) closed vs ws e
      op_stays (Fit d elem a) closed vs ws e = single_stays (Fit d elem a) closed vs ws e
      op_stays (Id d which a) closed vs ws e = single_stays (Id d which a) closed vs ws e
      op_stays (Load d array elem a) closed vs ws e = single_stays (Load d array elem a) closed vs ws e
      op_stays (Store array elem a b) closed vs ws e = single_stays (Store array elem a b) tt vs ws e
      op_stays (Check array a pos) closed vs ws e = single_stays (Check array a pos) tt vs ws e
      op_stays (Barrier site) closed vs ws e = single_stays (Barrier site) tt vs ws e
      op_stays Break closed vs ws e = single_stays Break tt vs ws e
      op_stays Continue closed vs ws e = single_stays Continue tt vs ws e
      op_stays Return closed vs ws e = single_stays Return tt vs ws e
      op_stays (Call body) closed vs ws e = single_stays (Call body) tt vs ws e

    abbrev MeetStays : Meeting → Type 0
    MeetStays meeting = (ts : List Task) (ns : List ℕ) (vs : ℕ → ℕ) (s : State) → meeting ts ns vs s → Agree marks vs s.variables

    at_state : (ts : List Task) (ns : List ℕ) (vs : ℕ → ℕ) (s : State) → s ≡ state ts vs ns → Agree marks vs s.variables
    at_state ts ns vs s e = λ k m. ap (λ (x : State). x.variables k) (sym e)

    turn_stays : (loop : Turning) (head body : Way) (in_head in_body in_step : Meeting) → Stays head → Stays body
        → MeetStays in_head → MeetStays in_body → MeetStays in_step → (section : Section) (k : ℕ)
        → MeetStays (TurnMeets loop head body in_head in_body in_step section k)
    turn_stays loop head body in_head in_body in_step h s mh mb ms AtHead k ts ns vs end m = mh _ _ vs end m
    turn_stays loop head body in_head in_body in_step h s mh mb ms AtTest k ts ns vs end m = λ j x. h vs m.0 m.1 j x ∙ at_state _ _ m.0 end m.2 j x
    turn_stays loop head body in_head in_body in_step h s mh mb ms InBody k ts ns vs end m = λ j x. h vs m.0 m.1 j x ∙ mb _ _ m.0 end m.3 j x
    turn_stays loop head body in_head in_body in_step h s mh mb ms AtEnd k ts ns vs end m = λ j x.
        h vs m.0 m.1 j x ∙ s m.0 m.3.0 m.3.1 j x ∙ at_state _ _ m.3.0 end m.3.2 j x
    turn_stays loop head body in_head in_body in_step h s mh mb ms InStep k ts ns vs end m = λ j x.
        h vs m.0 m.1 j x ∙ s m.0 m.3.0 m.3.1 j x ∙ ms _ _ m.3.0 end m.3.2 j x

    op_meet_stays : (op : Op) → MeetStays (Inside at H op) → MeetStays (OpMeets at H op)
    op_meet_stays op inside ts ns vs s (inl e) = at_state (Do op ∷ ts) ns vs s e
    op_meet_stays op inside ts ns vs s (inr m) = inside ts ns vs s m

    mutual
      meets_stay : (ops : Ops) → AreClosed params marks false ops → MeetStays (Meets at H ops)
      meets_stay NoOps closed ts ns vs s m = absurd m
      meets_stay (AndOp op ops) closed ts ns vs s (inl m) = op_meet_stays op (inside_stays op closed.0) (ops_tasks ops ts) ns vs s m
      meets_stay (AndOp op ops) closed ts ns vs s (inr m) = λ k x. op_stays op closed.0 vs m.0 m.1 k x ∙ meets_stay ops closed.1 ts ns m.0 s m.2 k x

      inside_stays : (op : Op) → OpClosed params marks false op → MeetStays (Inside at H op)
      inside_stays (If test one other) closed ts ns vs s (inl m) = meets_stay one closed.0 ts ns vs s m.1
      inside_stays (If test one other) closed ts ns vs s (inr m) = meets_stay other closed.1 ts ns vs s m.1
      inside_stays (Loop head test body step) closed ts ns vs s m = λ k x.
          turned_stays (Ends at H head) test (Ends at H body) (Ends at H step) (ends_stay head closed.0) (ends_stay body closed.1) (ends_stay step closed.2)
          m.1.0 vs m.1.1.0 m.1.1.1 k x
          ∙ turn_stays (record { head = head; test = test; body = body; step = step }) (Ends at H head) (Ends at H body) (Meets at H head) (Meets at H body) (Meets at H step)
          (ends_stay head closed.0) (ends_stay body closed.1) (meets_stay head closed.0) (meets_stay body closed.1) (meets_stay step closed.2)
          m.0 m.1.0 ts ns m.1.1.0 s m.1.1.2 k x
      inside_stays (Set d a) closed ts ns vs s m = absurd m
      inside_stays (Calculate d op a b) closed ts ns vs s m = absurd m
      inside_stays (Fit d elem a) closed ts ns vs s m = absurd m
      inside_stays (Id d which a) closed ts ns vs s m = absurd m
      inside_stays (Load d array elem a) closed ts ns vs s m = absurd m
      inside_stays (Store array elem a b) closed ts ns vs s m = absurd m
      inside_stays (Check array a pos) closed ts ns vs s m = absurd m
      inside_stays (Barrier site) closed ts ns vs s m = absurd m
      inside_stays Break closed ts ns vs s m = absurd m
      inside_stays Continue closed ts ns vs s m = absurd m
      inside_stays Return closed ts ns vs s m = absurd m
      inside_stays (Call body) closed ts ns vs s m = absurd m

  -- ---- two items

  abbrev Pair : Way → Way → Type 0
  Pair way way' = (vs vs' ws ws' : ℕ → ℕ) → Agree marks vs vs' → way vs ws → way' vs' ws' → Agree marks ws ws'

  target_agree : (may : Bool) (at : Option ℕ) (v v' : ℕ) (vs vs' : ℕ → ℕ) → OnlyIf may marks at → (may ≡ true → v ≡ v') → Agree marks vs vs'
      → Agree marks (put_target at v vs) (put_target at v' vs')
  target_agree may None v v' vs vs' only same agree k m = agree k m
  target_agree may (Some d) v v' vs vs' only same agree k m =
      branches (nat_eq k d) v (vs k) v' (vs' k) (λ e. same (only (subst (λ x. marks x ≡ true) (eqb-true k d e) m))) (agree k m)

  -- ---- loops with a marked test

  turned_pair : (head : Way) (test : Operand) (body step head' body' step' : Way) → Pair head head' → Pair body body' → Pair step step' → (k : ℕ)
      → Pair (Turned head test body step k) (Turned head' test body' step' k)
  turned_pair head test body step head' body' step' h s t zero vs vs' ws ws' agree e e' = λ k m. ap (λ x. x k) (sym e) ∙ agree k m ∙ ap (λ x. x k) e'
  turned_pair head test body step head' body' step' h s t (suc k) vs vs' ws ws' agree e e' =
      let a = turned_pair head test body step head' body' step' h s t k vs vs' e.0 e'.0 agree e.1 e'.1 in
      let a' = h e.0 e'.0 e.2.0 e'.2.0 a e.2.1 e'.2.1 in
      let a'' = s e.2.0 e'.2.0 e.2.3.0 e'.2.3.0 a' e.2.3.1 e'.2.3.1 in
      t e.2.3.0 e'.2.3.0 ws ws' a'' e.2.3.2 e'.2.3.2

  began : (head : Way) (test : Operand) (body step : Way) (k j : ℕ) (vs ws : ℕ → ℕ) → k < j → Turned head test body step j vs ws → Began head test body step k vs
  began head test body step k zero vs ws h e = absurd (omega arith)
  began head test body step k (suc j) vs ws h e = elim (last_turn k j h) as (λ _. Began head test body step k vs) [
    | inl same ↦ record {
      before = e.0;
      tested = e.2.0;
      turned = subst (λ i. Turned head test body step i vs e.0) (sym same) e.1;
      headed = e.2.1;
      going = e.2.2;
    }
    | inr below ↦ began head test body step k j vs e.0 below e.1
  ]

  loop_pair : (head : Way) (test : Operand) (body step head' body' step' : Way) → Pair head head' → Pair body body' → Pair step step' → is_uniform marks test ≡ true
      → Pair (LoopEnds head test body step) (LoopEnds head' test body' step')
  loop_pair head test body step head' body' step' h s t u vs vs' ws ws' agree e e' =
      elim (order e.0 e'.0) as (λ _. Agree marks ws ws') [
        | inl less ↦
            let b = began head' test body' step' e.0 e'.0 vs' e'.1.0 less e'.1.1 in
            let a = turned_pair head test body step head' body' step' h s t e.0 vs vs' e.1.0 b.before agree e.1.1 b.turned in
            let a' = h e.1.0 b.before ws b.tested a e.1.2 b.headed in
            absurd (b.going (sym (value_agree test ws b.tested a' u) ∙ e.1.3))
        | inr rest ↦ elim rest as (λ _. Agree marks ws ws') [
          | inl same ↦
              let e'' : Turned head' test body' step' e.0 vs' e'.1.0 = subst (λ i. Turned head' test body' step' i vs' e'.1.0) (sym same) e'.1.1 in
              h e.1.0 e'.1.0 ws ws' (turned_pair head test body step head' body' step' h s t e.0 vs vs' e.1.0 e'.1.0 agree e.1.1 e'') e.1.2 e'.1.2
          | inr more ↦
              let b = began head test body step e'.0 e.0 vs e.1.0 more e.1.1 in
              let a = turned_pair head test body step head' body' step' h s t e'.0 vs vs' b.before e'.1.0 agree b.turned e'.1.1 in
              let a' = h b.before e'.1.0 b.tested ws' a b.headed e'.1.2 in
              absurd (b.going (value_agree test b.tested ws' a' u ∙ e'.1.3))
        ]
      ]

  -- ---- what is met in one turn

  abbrev MeetPair : Meeting → Meeting → Type 0
  MeetPair meeting meeting' = (ts : List Task) (ns : List ℕ) (vs vs' : ℕ → ℕ) (s s' : State) → Agree marks vs vs' → meeting ts ns vs s → meeting' ts ns vs' s'
      → s.tasks ≡ s'.tasks → s.turns ≡ s'.turns → Agree marks s.variables s'.variables

  states_pair : (ts : List Task) (ns : List ℕ) (vs vs' : ℕ → ℕ) (s s' : State) → Agree marks vs vs' → s ≡ state ts vs ns → s' ≡ state ts vs' ns
      → Agree marks s.variables s'.variables
  states_pair ts ns vs vs' s s' agree e e' = λ k m.
      ap (λ (x : State). x.variables k) e ∙ agree k m ∙ ap (λ (x : State). x.variables k) (sym e')

  turn_pair : (loop : Turning) (head body head' body' : Way) (in_head in_body in_step in_head' in_body' in_step' : Meeting)
      → Pair head head' → Pair body body' → MeetPair in_head in_head' → MeetPair in_body in_body' → MeetPair in_step in_step' → (section : Section) (k : ℕ)
      → MeetPair (TurnMeets loop head body in_head in_body in_step section k) (TurnMeets loop head' body' in_head' in_body' in_step' section k)
  turn_pair loop head body head' body' mh mb ms mh' mb' ms' h s ph pb ps AtHead k ts ns vs vs' t t' agree m m' e q = ph _ _ vs vs' t t' agree m m' e q
  turn_pair loop head body head' body' mh mb ms mh' mb' ms' h s ph pb ps AtTest k ts ns vs vs' t t' agree m m' e q =
      states_pair _ _ m.0 m'.0 t t' (h vs vs' m.0 m'.0 agree m.1 m'.1) m.2 m'.2
  turn_pair loop head body head' body' mh mb ms mh' mb' ms' h s ph pb ps InBody k ts ns vs vs' t t' agree m m' e q =
      pb _ _ m.0 m'.0 t t' (h vs vs' m.0 m'.0 agree m.1 m'.1) m.3 m'.3 e q
  turn_pair loop head body head' body' mh mb ms mh' mb' ms' h s ph pb ps AtEnd k ts ns vs vs' t t' agree m m' e q =
      states_pair _ _ m.3.0 m'.3.0 t t' (s m.0 m'.0 m.3.0 m'.3.0 (h vs vs' m.0 m'.0 agree m.1 m'.1) m.3.1 m'.3.1) m.3.2 m'.3.2
  turn_pair loop head body head' body' mh mb ms mh' mb' ms' h s ph pb ps InStep k ts ns vs vs' t t' agree m m' e q =
      ps _ _ m.3.0 m'.3.0 t t' (s m.0 m'.0 m.3.0 m'.3.0 (h vs vs' m.0 m'.0 agree m.1 m'.1) m.3.1 m'.3.1) m.3.2 m'.3.2 e q

  -- where two items take different branches, the test is not marked
  parts_ways : (same : Bool) (test : Operand) (vs vs' : ℕ → ℕ) → Agree marks vs vs' → value vs test ≢ 0 → value vs' test ≡ 0 → (same && is_uniform marks test) ≡ false
  parts_ways same test vs vs' agree holds fails = elim (cases_Bool (same && is_uniform marks test)) as (λ _. (same && is_uniform marks test) ≡ false) [
    | inl e ↦ absurd (holds (value_agree test vs vs' agree (both_parts same (is_uniform marks test) e).1 ∙ fails))
    | inr e ↦ e
  ]

  closed_false : (u : Bool) (ops : Ops) → u ≡ false → AreClosed params marks u ops → AreClosed params marks false ops
  closed_false u ops e closed = subst (λ x. AreClosed params marks x ops) e closed

  agree_back : (vs vs' : ℕ → ℕ) → Agree marks vs vs' → Agree marks vs' vs
  agree_back vs vs' agree k m = sym (agree k m)

  module _ (at at' : Setting) (H : Honesty) (alike : OfOneGroup at at') (settled : AreSettled params at H) where
    given_same : (op : Op) (vs vs' : ℕ → ℕ) (n n' : ℕ) → Agree marks vs vs' → HonestAt at H op vs n → HonestAt at' H op vs' n' → gives_uniform params marks op ≡ true
        → given at op vs n ≡ given at' op vs' n'
    given_same (Set d a) vs vs' n n' agree h h' e = value_agree a vs vs' agree e
    given_same (Calculate d op a b) vs vs' n n' agree h h' e =
        let p = both_parts (is_uniform marks a) (is_uniform marks b) e in
        ap (λ x. alu_value_of op x (value vs b)) (value_agree a vs vs' agree p.0) ∙ ap (alu_value_of op (value vs' a)) (value_agree b vs vs' agree p.1)
    given_same (Fit d elem a) vs vs' n n' agree h h' e = ap (fitted elem) (value_agree a vs vs' agree e)
    given_same (Id d which a) vs vs' n n' agree h h' e = known_same at at' alike which (is_uniform marks a) (value vs a) (value vs' a) e (value_agree a vs vs' agree)
    given_same (Load d array elem a) vs vs' n n' agree h h' e =
        let p = both_parts (is_constant params array) (is_uniform marks a) e in
        let x : H (LoadAction (place_in at.group (at'.array array) elem (value vs' a)) (elem_size elem)) n' =
        subst (λ (g : ℕ). H (LoadAction (place_in g (at'.array array) elem (value vs' a)) (elem_size elem)) n') (sym alike.group) h' in
        let y : H (LoadAction (place_in at.group (at.array array) elem (value vs' a)) (elem_size elem)) n' =
        subst (λ (f : ArrayRef → ItemArray). H (LoadAction (place_in at.group (f array) elem (value vs' a)) (elem_size elem)) n') (sym alike.array) x in
        let z : H (LoadAction (place_in at.group (at.array array) elem (value vs a)) (elem_size elem)) n' =
        subst (λ (i : ℕ). H (LoadAction (place_in at.group (at.array array) elem i) (elem_size elem)) n') (sym (value_agree a vs vs' agree p.1)) y in
        ap (fitted elem) (settled array elem (value vs a) n n' p.0 h z)
    given_same (Store array elem a b) vs vs' n n' agree h h' e = refl
    given_same (Check array a pos) vs vs' n n' agree h h' e = refl
    given_same (Barrier site) vs vs' n n' agree h h' e = refl
    given_same (If test one other) vs vs' n n' agree h h' e = refl
    given_same (Loop head test body step) vs vs' n n' agree h h' e = refl
    given_same Break vs vs' n n' agree h h' e = refl
    given_same Continue vs vs' n n' agree h h' e = refl
    given_same Return vs vs' n n' agree h h' e = refl
    given_same (Call body) vs vs' n n' agree h h' e = refl

    single_pair : (same : Bool) (op : Op) → OnlyIf (same && gives_uniform params marks op) marks (target op) → Pair (SingleEnds at H op) (SingleEnds at' H op)
    single_pair same op only vs vs' ws ws' agree e e' =
        let a : Agree marks (put_target (target op) (given at op vs e.0) vs) (put_target (target op) (given at' op vs' e'.0) vs') =
        target_agree (same && gives_uniform params marks op) (target op) (given at op vs e.0) (given at' op vs' e'.0) vs vs' only
        (λ x. given_same op vs vs' e.0 e'.0 agree e.1 e'.1 (both_parts same (gives_uniform params marks op) x).1) agree in
        λ k m. ap (λ f. f k) e.2 ∙ a k m ∙ ap (λ f. f k) (sym e'.2)

    mutual
      pub ends_pair : (same : Bool) (ops : Ops) → AreClosed params marks same ops → Pair (Ends at H ops) (Ends at' H ops)
      ends_pair same NoOps closed vs vs' ws ws' agree e e' = λ k m. ap (λ x. x k) (sym e) ∙ agree k m ∙ ap (λ x. x k) e'
      ends_pair same (AndOp op ops) closed vs vs' ws ws' agree e e' =
          ends_pair same ops closed.1 e.0 e'.0 ws ws' (op_pair same op closed.0 vs vs' e.0 e'.0 agree e.1 e'.1) e.2 e'.2

      op_pair : (same : Bool) (op : Op) → OpClosed params marks same op → Pair (OpEnds at H op) (OpEnds at' H op)
      op_pair same (If test one other) closed vs vs' ws ws' agree (inl e) (inl e') = ends_pair (same && is_uniform marks test) one closed.0 vs vs' ws ws' agree e.1 e'.1
      op_pair same (If test one other) closed vs vs' ws ws' agree (inr e) (inr e') = ends_pair (same && is_uniform marks test) other closed.1 vs vs' ws ws' agree e.1 e'.1
      op_pair same (If test one other) closed vs vs' ws ws' agree (inl e) (inr e') =
          let fails = parts_ways same test vs vs' agree e.0 e'.0 in
          round vs vs' ws ws' agree (ends_stay at H one (closed_false _ one fails closed.0) vs ws e.1) (ends_stay at' H other (closed_false _ other fails closed.1) vs' ws' e'.1)
      op_pair same (If test one other) closed vs vs' ws ws' agree (inr e) (inl e') =
          let fails = parts_ways same test vs' vs (agree_back vs vs' agree) e'.0 e.0 in
          round vs vs' ws ws' agree (ends_stay at H other (closed_false _ other fails closed.1) vs ws e.1) (ends_stay at' H one (closed_false _ one fails closed.0) vs' ws' e'.1)
      op_pair same (Loop head test body step) closed vs vs' ws ws' agree e e' =
          elim (cases_Bool (same && is_uniform marks test)) as (λ _. Agree marks ws ws') [
            | inl holds ↦
                loop_pair (Ends at H head) test (Ends at H body) (Ends at H step) (Ends at' H head) (Ends at' H body) (Ends at' H step)
                (ends_pair (same && is_uniform marks test) head closed.0) (ends_pair (same && is_uniform marks test) body closed.1)
                (ends_pair (same && is_uniform marks test) step closed.2)
                (both_parts same (is_uniform marks test) holds).1 vs vs' ws ws' agree e e'
            | inr fails ↦
                let all : OpClosed params marks false (Loop head test body step) = (closed_false _ head fails closed.0, closed_false _ body fails closed.1, closed_false _ step fails closed.2) in
                round vs vs' ws ws' agree (op_stays at H (Loop head test body step) all vs ws e) (op_stays at' H (Loop head test body step) all vs' ws' e')
          ]
      op_pair same (Set d a) closed vs vs' ws ws' agree e e' = single_pair same (Set d a) closed vs vs' ws ws' agree e e'
      op_pair same (Calculate d op a b) closed vs vs' ws ws' agree e e' = single_pair same (Calculate d op a b) closed vs vs' ws ws' agree e e'
      op_pair same (Fit d elem a) closed vs vs' ws ws' agree e e' = single_pair same (Fit d elem a) closed vs vs' ws ws' agree e e'
      op_pair same (Id d which a) closed vs vs' ws ws' agree e e' = single_pair same (Id d which a) closed vs vs' ws ws' agree e e'
      op_pair same (Load d array elem a) closed vs vs' ws ws' agree e e' = single_pair same (Load d array elem a) closed vs vs' ws ws' agree e e'
      op_pair same (Store array elem a b) closed vs vs' ws ws' agree e e' = single_pair same (Store array elem a b) tt vs vs' ws ws' agree e e'
      op_pair same (Check array a pos) closed vs vs' ws ws' agree e e' = single_pair same (Check array a pos) tt vs vs' ws ws' agree e e'
      op_pair same (Barrier site) closed vs vs' ws ws' agree e e' = single_pair same (Barrier site) tt vs vs' ws ws' agree e e'
      op_pair same Break closed vs vs' ws ws' agree e e' = single_pair same Break tt vs vs' ws ws' agree e e'
      op_pair same Continue closed vs vs' ws ws' agree e e' = single_pair same Continue tt vs vs' ws ws' agree e e'
      op_pair same Return closed vs vs' ws ws' agree e e' = single_pair same Return tt vs vs' ws ws' agree e e'
      op_pair same (Call body) closed vs vs' ws ws' agree e e' = single_pair same (Call body) tt vs vs' ws ws' agree e e'

    -- one stands at an operation, and the other within it or behind it
    sizes_differ : (s s' : State) (n : ℕ) → tasks_size s.tasks ≤ n → n < tasks_size s'.tasks → s.tasks ≡ s'.tasks → ⊥
    sizes_differ s s' n h h' e = let q : tasks_size s.tasks ≡ tasks_size s'.tasks = ap tasks_size e in omega arith

    -- in a turn of a loop with a marked test
    inside_loop : (head : Ops) (test : Operand) (body step : Ops) → Pair (Ends at H head) (Ends at' H head) → Pair (Ends at H body) (Ends at' H body)
        → Pair (Ends at H step) (Ends at' H step) → MeetPair (Meets at H head) (Meets at' H head) → MeetPair (Meets at H body) (Meets at' H body)
        → MeetPair (Meets at H step) (Meets at' H step)
        → MeetPair (Inside at H (Loop head test body step)) (Inside at' H (Loop head test body step))
    inside_loop head test body step h s t mh mb ms ts ns vs vs' met met' agree m m' e q =
        let loop : Turning = record { head = head; test = test; body = body; step = step } in
        let lies = turn_lies at H head test body step (meets_lie at H head) (meets_lie at H body) (meets_lie at H step) m.0 m.1.0 ts ns m.1.1.0 met m.1.1.2 in
        let lies' = turn_lies at' H head test body step (meets_lie at' H head) (meets_lie at' H body) (meets_lie at' H step) m'.0 m'.1.0 ts ns m'.1.1.0 met' m'.1.1.2 in
        let same_section : m'.0 ≡ m.0 = one_section m'.0 m.0 (size head) (size step) (size body) (tasks_size ts) (tasks_size met'.tasks) lies'.is
        (subst (IsIn m.0 (size head) (size step) (size body) (tasks_size ts)) (ap tasks_size e) lies.is) in
        let turns : (lies.inner ++ number_at m.0 m.1.0 ∷ ns) ≡ (lies'.inner ++ number_at m'.0 m'.1.0 ∷ ns) = sym lies.turns ∙ q ∙ lies'.turns in
        let number : number_at m.0 m.1.0 ≡ number_at m'.0 m'.1.0 = same_turn lies.inner lies'.inner (number_at m.0 m.1.0) (number_at m'.0 m'.1.0) ns turns in
        let same_k : m.1.0 ≡ m'.1.0 = one_number m.0 m.1.0 m'.1.0 (number ∙ ap (λ i. number_at i m'.1.0) same_section) in
        let turned : Turned (Ends at' H head) test (Ends at' H body) (Ends at' H step) m.1.0 vs' m'.1.1.0 =
        subst (λ k. Turned (Ends at' H head) test (Ends at' H body) (Ends at' H step) k vs' m'.1.1.0) (sym same_k) m'.1.1.1 in
        let meets : TurnMeets loop (Ends at' H head) (Ends at' H body) (Meets at' H head) (Meets at' H body) (Meets at' H step) m.0 m'.1.0 ts ns m'.1.1.0 met' =
        subst (λ i. TurnMeets loop (Ends at' H head) (Ends at' H body) (Meets at' H head) (Meets at' H body) (Meets at' H step) i m'.1.0 ts ns m'.1.1.0 met')
        same_section m'.1.1.2 in
        let meets_too : TurnMeets loop (Ends at' H head) (Ends at' H body) (Meets at' H head) (Meets at' H body) (Meets at' H step) m.0 m.1.0 ts ns m'.1.1.0 met' =
        subst (λ k. TurnMeets loop (Ends at' H head) (Ends at' H body) (Meets at' H head) (Meets at' H body) (Meets at' H step) m.0 k ts ns m'.1.1.0 met')
        (sym same_k) meets in
        let begin = turned_pair (Ends at H head) test (Ends at H body) (Ends at H step) (Ends at' H head) (Ends at' H body) (Ends at' H step) h s t m.1.0
        vs vs' m.1.1.0 m'.1.1.0 agree m.1.1.1 turned in
        turn_pair loop (Ends at H head) (Ends at H body) (Ends at' H head) (Ends at' H body) (Meets at H head) (Meets at H body) (Meets at H step)
        (Meets at' H head) (Meets at' H body) (Meets at' H step) h s mh mb ms m.0 m.1.0 ts ns m.1.1.0 m'.1.1.0 met met' begin m.1.1.2 meets_too e q

    op_meet_pair : (op : Op) → MeetPair (Inside at H op) (Inside at' H op) → MeetPair (OpMeets at H op) (OpMeets at' H op)
    op_meet_pair op inside ts ns vs vs' s s' agree (inl m) (inl m') e q = states_pair (Do op ∷ ts) ns vs vs' s s' agree m m'
    op_meet_pair op inside ts ns vs vs' s s' agree (inl m) (inr m') e q =
        let h = (inside_lies at' H op ts ns vs' s' m').within in
        let h' : tasks_size s.tasks ≡ (1 + inner_size op) + tasks_size ts = ap (λ (x : State). tasks_size x.tasks) m in
        absurd (sizes_differ s' s (inner_size op + tasks_size ts) h (omega arith) (sym e))
    op_meet_pair op inside ts ns vs vs' s s' agree (inr m) (inl m') e q =
        let h = (inside_lies at H op ts ns vs s m).within in
        let h' : tasks_size s'.tasks ≡ (1 + inner_size op) + tasks_size ts = ap (λ (x : State). tasks_size x.tasks) m' in
        absurd (sizes_differ s s' (inner_size op + tasks_size ts) h (omega arith) e)
    op_meet_pair op inside ts ns vs vs' s s' agree (inr m) (inr m') e q = inside ts ns vs vs' s s' agree m m' e q

    mutual
      pub meets_pair : (same : Bool) (ops : Ops) → AreClosed params marks same ops → MeetPair (Meets at H ops) (Meets at' H ops)
      meets_pair same NoOps closed ts ns vs vs' s s' agree m m' e q = absurd m
      meets_pair same (AndOp op ops) closed ts ns vs vs' s s' agree (inl m) (inl m') e q = op_meet_pair op (inside_pair same op closed.0) (ops_tasks ops ts) ns vs vs' s s' agree m m' e q
      meets_pair same (AndOp op ops) closed ts ns vs vs' s s' agree (inl m) (inr m') e q =
          let h = (op_lies at H op (ops_tasks ops ts) ns vs s m).more in
          let h' = (meets_lie at' H ops ts ns m'.0 s' m'.2).within in
          absurd (sizes_differ s' s (size ops + tasks_size ts) h' (subst (λ n. n < tasks_size s.tasks) (size_tasks ops ts) h) (sym e))
      meets_pair same (AndOp op ops) closed ts ns vs vs' s s' agree (inr m) (inl m') e q =
          let h = (op_lies at' H op (ops_tasks ops ts) ns vs' s' m').more in
          let h' = (meets_lie at H ops ts ns m.0 s m.2).within in
          absurd (sizes_differ s s' (size ops + tasks_size ts) h' (subst (λ n. n < tasks_size s'.tasks) (size_tasks ops ts) h) e)
      meets_pair same (AndOp op ops) closed ts ns vs vs' s s' agree (inr m) (inr m') e q =
          meets_pair same ops closed.1 ts ns m.0 m'.0 s s' (op_pair same op closed.0 vs vs' m.0 m'.0 agree m.1 m'.1) m.2 m'.2 e q

      inside_pair : (same : Bool) (op : Op) → OpClosed params marks same op → MeetPair (Inside at H op) (Inside at' H op)
      inside_pair same (If test one other) closed ts ns vs vs' s s' agree (inl m) (inl m') e q =
          meets_pair (same && is_uniform marks test) one closed.0 ts ns vs vs' s s' agree m.1 m'.1 e q
      inside_pair same (If test one other) closed ts ns vs vs' s s' agree (inr m) (inr m') e q =
          meets_pair (same && is_uniform marks test) other closed.1 ts ns vs vs' s s' agree m.1 m'.1 e q
      inside_pair same (If test one other) closed ts ns vs vs' s s' agree (inl m) (inr m') e q =
          let fails = parts_ways same test vs vs' agree m.0 m'.0 in
          round vs vs' s.variables s'.variables agree (meets_stay at H one (closed_false _ one fails closed.0) ts ns vs s m.1)
          (meets_stay at' H other (closed_false _ other fails closed.1) ts ns vs' s' m'.1)
      inside_pair same (If test one other) closed ts ns vs vs' s s' agree (inr m) (inl m') e q =
          let fails = parts_ways same test vs' vs (agree_back vs vs' agree) m'.0 m.0 in
          round vs vs' s.variables s'.variables agree (meets_stay at H other (closed_false _ other fails closed.1) ts ns vs s m.1)
          (meets_stay at' H one (closed_false _ one fails closed.0) ts ns vs' s' m'.1)
      inside_pair same (Loop head test body step) closed ts ns vs vs' s s' agree m m' e q =
          elim (cases_Bool (same && is_uniform marks test)) as (λ _. Agree marks s.variables s'.variables) [
            | inl holds ↦
                inside_loop head test body step
                (ends_pair (same && is_uniform marks test) head closed.0) (ends_pair (same && is_uniform marks test) body closed.1)
                (ends_pair (same && is_uniform marks test) step closed.2)
                (meets_pair (same && is_uniform marks test) head closed.0) (meets_pair (same && is_uniform marks test) body closed.1)
                (meets_pair (same && is_uniform marks test) step closed.2)
                ts ns vs vs' s s' agree m m' e q
            | inr fails ↦
                let all : OpClosed params marks false (Loop head test body step) = (closed_false _ head fails closed.0, closed_false _ body fails closed.1, closed_false _ step fails closed.2) in
                round vs vs' s.variables s'.variables agree (inside_stays at H (Loop head test body step) all ts ns vs s m)
                (inside_stays at' H (Loop head test body step) all ts ns vs' s' m')
          ]
      inside_pair same (Set d a) closed ts ns vs vs' s s' agree m m' e q = absurd m
      inside_pair same (Calculate d op a b) closed ts ns vs vs' s s' agree m m' e q = absurd m
      inside_pair same (Fit d elem a) closed ts ns vs vs' s s' agree m m' e q = absurd m
      inside_pair same (Id d which a) closed ts ns vs vs' s s' agree m m' e q = absurd m
      inside_pair same (Load d array elem a) closed ts ns vs vs' s s' agree m m' e q = absurd m
      inside_pair same (Store array elem a b) closed ts ns vs vs' s s' agree m m' e q = absurd m
      inside_pair same (Check array a pos) closed ts ns vs vs' s s' agree m m' e q = absurd m
      inside_pair same (Barrier site) closed ts ns vs vs' s s' agree m m' e q = absurd m
      inside_pair same Break closed ts ns vs vs' s s' agree m m' e q = absurd m
      inside_pair same Continue closed ts ns vs vs' s s' agree m m' e q = absurd m
      inside_pair same Return closed ts ns vs vs' s s' agree m m' e q = absurd m
      inside_pair same (Call body) closed ts ns vs vs' s s' agree m m' e q = absurd m
