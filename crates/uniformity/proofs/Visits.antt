-- Where operations end, and the states that are met in them, by recursion on the tree: answers are honest, and any number of turns of the
-- loops within.
use Rattle.std.proofs.Common.{◌≡◌, ◌≢◌, ℕ, zero, suc, ◌+◌, ◌⊎◌, List, [], ◌∷◌, Option, None, Some}
use Rattle.vx_base.specs.Values.{alu_value_of, fitted}
use Rattle.item_acts.specs.declared.acts.Action.{Action}
use Rattle.item_acts.specs.declared.acts.Action.TheVariants.{Load as LoadAction}
use Rattle.item_acts.specs.Launches.{put_at}
use Rattle.item_settings.specs.Settings.{Setting, elem_size, place_in}
use Rattle.kir.specs.Machine.{State, state, Task, Do, Decide, Again, CallEnd, Turning, value, known_of, ops_tasks, head_tasks}
use Rattle.kir.specs.Trees.{Operand, Op, Set, Calculate, Fit, Id, Load, Store, Check, Barrier, If, Loop, Break, Continue, Return, Call, Ops, NoOps, AndOp}
use Rattle.uniformity.specs.Marks.{target}

abbrev pub Honesty : Type 1
Honesty = Action → ℕ → Type 0

-- ---- single operations

-- what an operation writes, where a load has this answer
abbrev pub given : Setting → Op → (ℕ → ℕ) → ℕ → ℕ
given at (Set d a) vs n = value vs a
given at (Calculate d op a b) vs n = alu_value_of op (value vs a) (value vs b)
given at (Fit d elem a) vs n = fitted elem (value vs a)
given at (Id d which a) vs n = known_of at which (value vs a)
given at (Load d array elem a) vs n = fitted elem n
given at other vs n = 0

abbrev pub HonestAt : Setting → Honesty → Op → (ℕ → ℕ) → ℕ → Type 0
HonestAt at H (Load d array elem a) vs n = H (LoadAction (place_in at.group (at.array array) elem (value vs a)) (elem_size elem)) n
HonestAt at H other vs n = Unit {0}

abbrev pub put_target : Option ℕ → ℕ → (ℕ → ℕ) → ℕ → ℕ
put_target None v vs = vs
put_target (Some d) v vs = put_at d v vs

abbrev pub SingleEnds : Setting → Honesty → Op → (ℕ → ℕ) → (ℕ → ℕ) → Type 0
SingleEnds at H op vs ws = (n : ℕ) × HonestAt at H op vs n × (ws ≡ put_target (target op) (given at op vs n) vs)

-- ---- loops, by what their parts do

abbrev pub Way : Type 1
Way = (ℕ → ℕ) → (ℕ → ℕ) → Type 0

-- a turn of a loop whose test is not 0
abbrev pub OneTurn : Way → Operand → Way → Way → Way
OneTurn head test body step vs ws = (ms : ℕ → ℕ) × head vs ms × (value ms test ≢ 0) × ((us : ℕ → ℕ) × body ms us × step us ws)

-- so many turns
abbrev pub Turned : Way → Operand → Way → Way → ℕ → Way
Turned head test body step zero vs ws = vs ≡ ws
Turned head test body step (suc k) vs ws = (ms : ℕ → ℕ) × Turned head test body step k vs ms × OneTurn head test body step ms ws

abbrev pub LoopEnds : Way → Operand → Way → Way → Way
LoopEnds head test body step vs ws = (k : ℕ) × ((ms : ℕ → ℕ) × Turned head test body step k vs ms × head ms ws × (value ws test ≡ 0))

-- ---- where operations end

abbrev mutual
  pub Ends : Setting → Honesty → Ops → (ℕ → ℕ) → (ℕ → ℕ) → Type 0
  Ends at H NoOps vs ws = vs ≡ ws
  Ends at H (AndOp op ops) vs ws = (ms : ℕ → ℕ) × OpEnds at H op vs ms × Ends at H ops ms ws

  pub OpEnds : Setting → Honesty → Op → (ℕ → ℕ) → (ℕ → ℕ) → Type 0
  OpEnds at H (If test one other) vs ws = ((value vs test ≢ 0) × Ends at H one vs ws) ⊎ ((value vs test ≡ 0) × Ends at H other vs ws)
  OpEnds at H (Loop head test body step) vs ws = LoopEnds (Ends at H head) test (Ends at H body) (Ends at H step) vs ws
  OpEnds at H other vs ws = SingleEnds at H other vs ws

-- ---- states that are met

-- the parts of a loop at which an item may be
pub data Section : Type 0 where
  AtHead : Section
  AtTest : Section
  InBody : Section
  AtEnd : Section
  InStep : Section

-- what is met from these variables on
abbrev pub Meeting : Type 1
Meeting = List Task → List ℕ → (ℕ → ℕ) → State → Type 0

-- in the turn of this number
abbrev pub TurnMeets : Turning → Way → Way → Meeting → Meeting → Meeting → Section → ℕ → List Task → List ℕ → (ℕ → ℕ) → State → Type 0
TurnMeets loop head body in_head in_body in_step AtHead k ts ns vs s = in_head (Decide loop ∷ ts) (k ∷ ns) vs s
TurnMeets loop head body in_head in_body in_step AtTest k ts ns vs s = (ms : ℕ → ℕ) × head vs ms × (s ≡ state (Decide loop ∷ ts) ms (k ∷ ns))
TurnMeets loop head body in_head in_body in_step InBody k ts ns vs s =
    (ms : ℕ → ℕ) × head vs ms × (value ms loop.test ≢ 0) × in_body (Again loop ∷ ts) (k ∷ ns) ms s
TurnMeets loop head body in_head in_body in_step AtEnd k ts ns vs s =
    (ms : ℕ → ℕ) × head vs ms × (value ms loop.test ≢ 0) × ((us : ℕ → ℕ) × body ms us × (s ≡ state (Again loop ∷ ts) us (k ∷ ns)))
TurnMeets loop head body in_head in_body in_step InStep k ts ns vs s =
    (ms : ℕ → ℕ) × head vs ms × (value ms loop.test ≢ 0) × ((us : ℕ → ℕ) × body ms us × in_step (head_tasks loop ts) ((k + 1) ∷ ns) us s)

abbrev mutual
  pub Meets : Setting → Honesty → Ops → List Task → List ℕ → (ℕ → ℕ) → State → Type 0
  Meets at H NoOps ts ns vs s = ⊥
  Meets at H (AndOp op ops) ts ns vs s =
      ((s ≡ state (Do op ∷ ops_tasks ops ts) vs ns) ⊎ Inside at H op (ops_tasks ops ts) ns vs s)
      ⊎ ((ms : ℕ → ℕ) × OpEnds at H op vs ms × Meets at H ops ts ns ms s)

  pub Inside : Setting → Honesty → Op → List Task → List ℕ → (ℕ → ℕ) → State → Type 0
  Inside at H (If test one other) ts ns vs s = ((value vs test ≢ 0) × Meets at H one ts ns vs s) ⊎ ((value vs test ≡ 0) × Meets at H other ts ns vs s)
  Inside at H (Loop head test body step) ts ns vs s = (section : Section) × ((k : ℕ) × ((ms : ℕ → ℕ)
      × Turned (Ends at H head) test (Ends at H body) (Ends at H step) k vs ms
      × TurnMeets (record { head = head; test = test; body = body; step = step }) (Ends at H head) (Ends at H body) (Meets at H head) (Meets at H body) (Meets at H step)
      section k ts ns ms s))
  Inside at H other ts ns vs s = ⊥

abbrev pub OpMeets : Setting → Honesty → Op → List Task → List ℕ → (ℕ → ℕ) → State → Type 0
OpMeets at H op ts ns vs s = (s ≡ state (Do op ∷ ts) vs ns) ⊎ Inside at H op ts ns vs s
