-- What is left to do tells at which part of a loop an item is, and the turns tell in which turn.
use Rattle.std.proofs.Common.{◌≡◌, ◌≢◌, ℕ, zero, suc, ◌+◌, ◌<◌, ◌≤◌, ◌⊎◌, inl, inr, List, [], ◌∷◌, ◌++◌, length, refl, sym, ap, ◌∙◌, subst, arith, append_assoc, length-append}
use Rattle.item_settings.specs.Settings.{Setting}
use Rattle.kir.specs.Machine.{State, state, Task, Do, Decide, Again, CallEnd, Turning, value, ops_tasks, head_tasks}
use Rattle.kir.specs.Trees.{Operand, Op, Set, Calculate, Fit, Id, Load, Store, Check, Barrier, If, Loop, Break, Continue, Return, Call, Ops, NoOps, AndOp}
use Rattle.uniformity.proofs.Visits.{Honesty, Way, Meeting, Turned, Ends, OpEnds, Section, AtHead, AtTest, InBody, AtEnd, InStep, TurnMeets, Meets, OpMeets, Inside}

-- ---- sizes of what is left to do

abbrev mutual
  pub size : Ops → ℕ
  size NoOps = 0
  size (AndOp op ops) = 1 + (inner_size op + size ops)

  -- of what an operation holds
  pub inner_size : Op → ℕ
  inner_size (If test one other) = size one + size other
  inner_size (Loop head test body step) = 2 + (size head + (size step + size body))
  inner_size other = 0

abbrev pub task_size : Task → ℕ
task_size (Do op) = 1 + inner_size op
task_size (Decide loop) = 1
task_size (Again loop) = 2 + (size loop.head + size loop.step)
task_size CallEnd = 1

abbrev pub tasks_size : List Task → ℕ
tasks_size [] = 0
tasks_size (t ∷ ts) = task_size t + tasks_size ts

pub size_tasks : (ops : Ops) (ts : List Task) → tasks_size (ops_tasks ops ts) ≡ size ops + tasks_size ts
size_tasks NoOps ts = omega arith
size_tasks (AndOp op ops) ts = let e : tasks_size (ops_tasks ops ts) ≡ size ops + tasks_size ts = size_tasks ops ts in omega arith

-- ---- where in the size of a loop each part is

-- with these sizes of head, step and body, and of what stands behind the loop
abbrev pub IsIn : Section → ℕ → ℕ → ℕ → ℕ → ℕ → Type 0
IsIn AtHead h s b w n = (1 + w < n) × (n ≤ 1 + (h + w))
IsIn AtTest h s b w n = n ≡ 1 + w
IsIn InBody h s b w n = (2 + (h + (s + w)) < n) × (n ≤ 2 + (h + (s + (b + w))))
IsIn AtEnd h s b w n = n ≡ 2 + (h + (s + w))
IsIn InStep h s b w n = (1 + (h + w) < n) × (n ≤ 1 + (h + (s + w)))

pub one_section : (i j : Section) (h s b w n : ℕ) → IsIn i h s b w n → IsIn j h s b w n → i ≡ j
one_section AtHead AtHead h s b w n x y = refl
one_section AtHead AtTest h s b w n x y = absurd (omega (arith, x.0, y))
one_section AtHead InBody h s b w n x y = absurd (omega (arith, x.1, y.0))
one_section AtHead AtEnd h s b w n x y = absurd (omega (arith, x.1, y))
one_section AtHead InStep h s b w n x y = absurd (omega (arith, x.1, y.0))
one_section AtTest AtHead h s b w n x y = absurd (omega (arith, x, y.0))
one_section AtTest AtTest h s b w n x y = refl
one_section AtTest InBody h s b w n x y = absurd (omega (arith, x, y.0))
one_section AtTest AtEnd h s b w n x y = absurd (omega (arith, x, y))
one_section AtTest InStep h s b w n x y = absurd (omega (arith, x, y.0))
one_section InBody AtHead h s b w n x y = absurd (omega (arith, x.0, y.1))
one_section InBody AtTest h s b w n x y = absurd (omega (arith, x.0, y))
one_section InBody InBody h s b w n x y = refl
one_section InBody AtEnd h s b w n x y = absurd (omega (arith, x.0, y))
one_section InBody InStep h s b w n x y = absurd (omega (arith, x.0, y.1))
one_section AtEnd AtHead h s b w n x y = absurd (omega (arith, x, y.1))
one_section AtEnd AtTest h s b w n x y = absurd (omega (arith, x, y))
one_section AtEnd InBody h s b w n x y = absurd (omega (arith, x, y.0))
one_section AtEnd AtEnd h s b w n x y = refl
one_section AtEnd InStep h s b w n x y = absurd (omega (arith, x, y.1))
one_section InStep AtHead h s b w n x y = absurd (omega (arith, x.0, y.1))
one_section InStep AtTest h s b w n x y = absurd (omega (arith, x.0, y))
one_section InStep InBody h s b w n x y = absurd (omega (arith, x.1, y.0))
one_section InStep AtEnd h s b w n x y = absurd (omega (arith, x.1, y))
one_section InStep InStep h s b w n x y = refl

-- ---- what is met lies within, and in the turns round it

-- more is left to do than stands behind, and no more than with all of it; the turns have those round it last
pub record Lies (least most : ℕ) (ns : List ℕ) (s : State) : Type 0 where
  pub more : least < tasks_size s.tasks
  pub within : tasks_size s.tasks ≤ most
  pub inner : List ℕ
  pub turns : s.turns ≡ inner ++ ns

wider : (least least' most most' : ℕ) (ns : List ℕ) (s : State) → Lies least most ns s → least' ≤ least → most ≤ most' → Lies least' most' ns s
wider least least' most most' ns s lies h k =
    let a : least < tasks_size s.tasks = lies.more in
    let b : tasks_size s.tasks ≤ most = lies.within in
    record { more = omega arith; within = omega arith; inner = lies.inner; turns = lies.turns }

-- a state of these tasks itself
here : (least : ℕ) (ts : List Task) (vs : ℕ → ℕ) (ns : List ℕ) (s : State) → least < tasks_size ts → s ≡ state ts vs ns → Lies least (tasks_size ts) ns s
here least ts vs ns s h e = subst (Lies least (tasks_size ts) ns) (sym e) (record { more = h; within = omega arith; inner = []; turns = refl })

-- the number of a turn: behind a turn's body it has risen
abbrev pub number_at : Section → ℕ → ℕ
number_at AtHead k = k
number_at AtTest k = k
number_at InBody k = k
number_at AtEnd k = k
number_at InStep k = k + 1

pub one_number : (i : Section) (j k : ℕ) → number_at i j ≡ number_at i k → j ≡ k
one_number AtHead j k e = e
one_number AtTest j k e = e
one_number InBody j k e = e
one_number AtEnd j k e = e
one_number InStep j k e = omega arith

-- what is met in a part of a loop is in it, in a turn of this number
pub record LiesIn (section : Section) (h s b w k : ℕ) (ns : List ℕ) (met : State) : Type 0 where
  pub is : IsIn section h s b w (tasks_size met.tasks)
  pub inner : List ℕ
  pub turns : met.turns ≡ inner ++ number_at section k ∷ ns

in_loop : (section : Section) (h s b w k n : ℕ) → IsIn section h s b w n → (w < n) × (n ≤ 2 + (h + (s + b)) + w)
in_loop AtHead h s b w k n x = (omega (arith, x.0), omega (arith, x.1))
in_loop AtTest h s b w k n x = (omega (arith, x), omega (arith, x))
in_loop InBody h s b w k n x = (omega (arith, x.0), omega (arith, x.1))
in_loop AtEnd h s b w k n x = (omega (arith, x), omega (arith, x))
in_loop InStep h s b w k n x = (omega (arith, x.0), omega (arith, x.1))

abbrev first_of_list : List ℕ → ℕ
first_of_list [] = 0
first_of_list (n ∷ ns) = n

abbrev rest_of_list : List ℕ → List ℕ
rest_of_list [] = []
rest_of_list (n ∷ ns) = ns

pub same_turn : (xs ys : List ℕ) (a b : ℕ) (ns : List ℕ) → (xs ++ a ∷ ns) ≡ (ys ++ b ∷ ns) → a ≡ b
same_turn [] [] a b ns e = ap first_of_list e
same_turn [] (y ∷ ys) a b ns e =
    let q : length ns ≡ length (ys ++ b ∷ ns) = ap (λ zs. length (rest_of_list zs)) e in absurd (omega (arith, length-append ys (b ∷ ns)))
same_turn (x ∷ xs) [] a b ns e =
    let q : length (xs ++ a ∷ ns) ≡ length ns = ap (λ zs. length (rest_of_list zs)) e in absurd (omega (arith, length-append xs (a ∷ ns)))
same_turn (x ∷ xs) (y ∷ ys) a b ns e = same_turn xs ys a b ns (ap rest_of_list e)

module _ (at : Setting) (H : Honesty) where
  abbrev pub Lie : Ops → Type 0
  Lie ops = (ts : List Task) (ns : List ℕ) (vs : ℕ → ℕ) (s : State) → Meets at H ops ts ns vs s → Lies (tasks_size ts) (size ops + tasks_size ts) ns s

  pub turn_lies : (head : Ops) (test : Operand) (body step : Ops) → Lie head → Lie body → Lie step
      → (section : Section) (k : ℕ) (ts : List Task) (ns : List ℕ) (vs : ℕ → ℕ) (s : State)
      → TurnMeets (record { head = head; test = test; body = body; step = step }) (Ends at H head) (Ends at H body) (Meets at H head) (Meets at H body) (Meets at H step)
      section k ts ns vs s
      → LiesIn section (size head) (size step) (size body) (tasks_size ts) k ns s
  turn_lies head test body step in_head in_body in_step AtHead k ts ns vs s m =
      let lies = in_head (Decide (record { head = head; test = test; body = body; step = step }) ∷ ts) (k ∷ ns) vs s m in
      let a : 1 + tasks_size ts < tasks_size s.tasks = lies.more in
      let b : tasks_size s.tasks ≤ size head + (1 + tasks_size ts) = lies.within in
      record { is = (a, omega arith); inner = lies.inner; turns = lies.turns }
  turn_lies head test body step in_head in_body in_step AtTest k ts ns vs s m =
      record { is = ap (λ (x : State). tasks_size x.tasks) m.2; inner = []; turns = ap (λ (x : State). x.turns) m.2 }
  turn_lies head test body step in_head in_body in_step InBody k ts ns vs s m =
      let lies = in_body (Again (record { head = head; test = test; body = body; step = step }) ∷ ts) (k ∷ ns) m.0 s m.3 in
      let a : (2 + (size head + size step)) + tasks_size ts < tasks_size s.tasks = lies.more in
      let b : tasks_size s.tasks ≤ size body + ((2 + (size head + size step)) + tasks_size ts) = lies.within in
      record { is = (omega arith, omega arith); inner = lies.inner; turns = lies.turns }
  turn_lies head test body step in_head in_body in_step AtEnd k ts ns vs s m =
      let e : tasks_size s.tasks ≡ (2 + (size head + size step)) + tasks_size ts = ap (λ (x : State). tasks_size x.tasks) m.3.2 in
      record { is = omega arith; inner = []; turns = ap (λ (x : State). x.turns) m.3.2 }
  turn_lies head test body step in_head in_body in_step InStep k ts ns vs s m =
      let loop : Turning = record { head = head; test = test; body = body; step = step } in
      let lies = in_step (head_tasks loop ts) ((k + 1) ∷ ns) m.3.0 s m.3.2 in
      let e : tasks_size (head_tasks loop ts) ≡ size head + (1 + tasks_size ts) = size_tasks head (Decide loop ∷ ts) in
      let a : tasks_size (head_tasks loop ts) < tasks_size s.tasks = lies.more in
      let b : tasks_size s.tasks ≤ size step + tasks_size (head_tasks loop ts) = lies.within in
      record { is = (omega arith, omega arith); inner = lies.inner; turns = lies.turns }

  abbrev pub InsideLie : Op → Type 0
  InsideLie op = (ts : List Task) (ns : List ℕ) (vs : ℕ → ℕ) (s : State) → Inside at H op ts ns vs s → Lies (tasks_size ts) (inner_size op + tasks_size ts) ns s

  op_lie : (op : Op) → InsideLie op → (ts : List Task) (ns : List ℕ) (vs : ℕ → ℕ) (s : State) → OpMeets at H op ts ns vs s
      → Lies (tasks_size ts) (1 + (inner_size op + tasks_size ts)) ns s
  op_lie op inside ts ns vs s (inl e) = wider _ _ _ _ ns s (here (tasks_size ts) (Do op ∷ ts) vs ns s (omega arith) e) (omega arith) (omega arith)
  op_lie op inside ts ns vs s (inr m) = wider _ _ _ _ ns s (inside ts ns vs s m) (omega arith) (omega arith)

  mutual
    pub meets_lie : (ops : Ops) → Lie ops
    meets_lie NoOps ts ns vs s m = absurd m
    meets_lie (AndOp op ops) ts ns vs s (inl m) =
        let e : tasks_size (ops_tasks ops ts) ≡ size ops + tasks_size ts = size_tasks ops ts in
        wider _ _ _ _ ns s (op_lie op (inside_lies op) (ops_tasks ops ts) ns vs s m) (omega arith) (omega arith)
    meets_lie (AndOp op ops) ts ns vs s (inr m) = wider _ _ _ _ ns s (meets_lie ops ts ns m.0 s m.2) (omega arith) (omega arith)

    pub inside_lies : (op : Op) → InsideLie op
    inside_lies (If test one other) ts ns vs s (inl m) = wider _ _ _ _ ns s (meets_lie one ts ns vs s m.1) (omega arith) (omega arith)
    inside_lies (If test one other) ts ns vs s (inr m) = wider _ _ _ _ ns s (meets_lie other ts ns vs s m.1) (omega arith) (omega arith)
    inside_lies (Loop head test body step) ts ns vs s m =
        let lies = turn_lies head test body step (meets_lie head) (meets_lie body) (meets_lie step) m.0 m.1.0 ts ns m.1.1.0 s m.1.1.2 in
        let x = in_loop m.0 (size head) (size step) (size body) (tasks_size ts) 0 (tasks_size s.tasks) lies.is in
        record {
          more = x.0;
          within = x.1;
          inner = lies.inner ++ number_at m.0 m.1.0 ∷ [];
          turns = lies.turns ∙ sym (append_assoc lies.inner (number_at m.0 m.1.0 ∷ []) ns);
        }
    inside_lies (Set d a) ts ns vs s m = absurd m
    inside_lies (Calculate d op a b) ts ns vs s m = absurd m
    inside_lies (Fit d elem a) ts ns vs s m = absurd m
    inside_lies (Id d which a) ts ns vs s m = absurd m
    inside_lies (Load d array elem a) ts ns vs s m = absurd m
    inside_lies (Store array elem a b) ts ns vs s m = absurd m
    inside_lies (Check array a pos) ts ns vs s m = absurd m
    inside_lies (Barrier site) ts ns vs s m = absurd m
    inside_lies Break ts ns vs s m = absurd m
    inside_lies Continue ts ns vs s m = absurd m
    inside_lies Return ts ns vs s m = absurd m
    inside_lies (Call body) ts ns vs s m = absurd m

  pub op_lies : (op : Op) (ts : List Task) (ns : List ℕ) (vs : ℕ → ℕ) (s : State) → OpMeets at H op ts ns vs s
      → Lies (tasks_size ts) (1 + (inner_size op + tasks_size ts)) ns s
  op_lies op = op_lie op (inside_lies op)
