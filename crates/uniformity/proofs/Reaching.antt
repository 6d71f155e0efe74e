-- Each state that an item comes to in operations is met in them, or they have ended.
use Rattle.std.proofs.Common.{◌≡◌, ◌≢◌, ℕ, zero, suc, ◌+◌, ◌<◌, ◌≤◌, ◌⊎◌, inl, inr, Bool, true, false, ◌||◌, List, [], ◌∷◌, refl, sym, ap, ◌∙◌, subst, arith, eqb-true, true≢false}
use Rattle.std.proofs.lemmas.Bool.{eqb-false}
use Rattle.std.specs.Prelude.{if◌then◌else◌, nat_lt, ◌==◌}
use Rattle.vx_base.specs.Values.{alu_value_of, fitted}
use Rattle.item_acts.specs.declared.acts.Action.{Action}
use Rattle.item_acts.specs.declared.acts.Action.TheVariants.{Fault}
use Rattle.item_acts.specs.Launches.{put_at}
use Rattle.item_acts.specs.Machine.{Step, Go, Stop}
use Rattle.item_settings.specs.Settings.{Setting}
use Rattle.kir.specs.Machine.{State, state, Task, Do, Decide, Again, Turning, value, known_of, ops_tasks, head_tasks, turn_tasks, step_tasks, step}
use Rattle.kir.specs.Measures.{jumps, jumps_in}
use Rattle.kir.specs.Trees.{Operand, Op, Set, Calculate, Fit, Id, Load, Store, Check, Barrier, If, Loop, Break, Continue, Return, Call, Ops, NoOps, AndOp}
use Rattle.uniformity.specs.Pairs.{GoesOn, Leads}
use Rattle.uniformity.proofs.Visits.{Honesty, Turned, Ends, OpEnds, Section, AtHead, AtTest, InBody, AtEnd, InStep, Meets, OpMeets, Inside}

neither : (x y : Bool) → (x || y) ≡ false → (x ≡ false) × (y ≡ false)
neither true y e = absurd (true≢false e)
neither false y e = (refl, e)

passes : (next : State → List ℕ → Type 0) (H : Honesty) (x : Bool) (t : State) (a : Action) (answers : List ℕ)
    → GoesOn next H (if x then Go t else Stop a) answers → next t answers
passes next H true t a answers r = r
passes next H false t a answers r = absurd r

takes : (next : State → Type 0) (x : Bool) (t u : State) → next (if x then t else u) → ((x ≡ true) × next t) ⊎ ((x ≡ false) × next u)
takes next true t u r = inl (refl, r)
takes next false t u r = inr (refl, r)

takes_tasks : (next : List Task → Type 0) (x : Bool) (t u : List Task) → next (if x then t else u) → ((x ≡ true) × next t) ⊎ ((x ≡ false) × next u)
takes_tasks next true t u r = inl (refl, r)
takes_tasks next false t u r = inr (refl, r)

-- the operations have ended, and the rest of the run goes on behind them
pub record Left (at : Setting) (H : Honesty) (ends_at : (ℕ → ℕ) → Type 0) (ts : List Task) (ns : List ℕ) (n : ℕ) (s : State) : Type 0 where
  pub variables : ℕ → ℕ
  pub answers : List ℕ
  pub steps : ℕ
  pub ends : ends_at variables
  pub fewer : steps ≤ n
  pub runs : Leads (step at) H steps (state ts variables ns) answers s

module _ (at : Setting) (H : Honesty) where
  abbrev pub Run : Ops → Type 0
  Run ops = (n : ℕ) (ts : List Task) (vs : ℕ → ℕ) (ns answers : List ℕ) (s : State) → Leads (step at) H n (state (ops_tasks ops ts) vs ns) answers s
      → Meets at H ops ts ns vs s ⊎ Left at H (Ends at H ops vs) ts ns n s

  module _ (head : Ops) (test : Operand) (body st : Ops) (head_run : Run head) (body_run : Run body) (step_run : Run st)
      (ts : List Task) (ns : List ℕ) (first : ℕ → ℕ) (s : State) (top : ℕ) where
    abbrev loop : Turning
    loop = record { head = head; test = test; body = body; step = st }

    abbrev Outcome : Type 0
    Outcome = Inside at H (Loop head test body st) ts ns first s ⊎ Left at H (OpEnds at H (Loop head test body st) first) ts ns top s

    abbrev Begun : ℕ → (ℕ → ℕ) → Type 0
    Begun k vs = Turned (Ends at H head) test (Ends at H body) (Ends at H st) k first vs

    -- the loop from a turn on, in so many steps
    abbrev Next : ℕ → Type 0
    Next f = (n k : ℕ) (vs : ℕ → ℕ) (answers : List ℕ) → n ≤ f → Begun k vs → Leads (step at) H n (state (head_tasks loop ts) vs (k ∷ ns)) answers s → Outcome

    from_step : (f : ℕ) → Next f → (n k : ℕ) (vs ws us : ℕ → ℕ) → n ≤ f → Begun k vs → Ends at H head vs ws → value ws test ≢ 0 → Ends at H body ws us
        → Meets at H st (head_tasks loop ts) ((k + 1) ∷ ns) us s ⊎ Left at H (Ends at H st us) (head_tasks loop ts) ((k + 1) ∷ ns) n s → Outcome
    from_step f next n k vs ws us h begun headed going bodied (inl m) = inl (InStep, (k, (vs, begun, (ws, headed, going, (us, bodied, m)))))
    from_step f next n k vs ws us h begun headed going bodied (inr left) =
        let few : left.steps ≤ n = left.fewer in
        let e : k + 1 ≡ suc k = omega arith in
        next left.steps (suc k) left.variables left.answers (omega arith) (vs, begun, (ws, headed, going, (us, bodied, left.ends)))
        (subst (λ j. Leads (step at) H left.steps (state (head_tasks loop ts) left.variables (j ∷ ns)) left.answers s) e left.runs)

    from_end : (f : ℕ) → Next f → (n k : ℕ) (vs ws us : ℕ → ℕ) (answers : List ℕ) → n ≤ f → Begun k vs → Ends at H head vs ws → value ws test ≢ 0 → Ends at H body ws us
        → Leads (step at) H n (state (Again loop ∷ ts) us (k ∷ ns)) answers s → Outcome
    from_end f next zero k vs ws us answers h begun headed going bodied r = inl (AtEnd, (k, (vs, begun, (ws, headed, going, (us, bodied, sym r.0)))))
    from_end f next (suc n) k vs ws us answers h begun headed going bodied r =
        from_step f next n k vs ws us (omega arith) begun headed going bodied (step_run n (head_tasks loop ts) us ((k + 1) ∷ ns) answers s r)

    from_body : (f : ℕ) → Next f → (n k : ℕ) (vs ws : ℕ → ℕ) → n ≤ f → Begun k vs → Ends at H head vs ws → value ws test ≢ 0
        → Meets at H body (Again loop ∷ ts) (k ∷ ns) ws s ⊎ Left at H (Ends at H body ws) (Again loop ∷ ts) (k ∷ ns) n s → Outcome
    from_body f next n k vs ws h begun headed going (inl m) = inl (InBody, (k, (vs, begun, (ws, headed, going, m))))
    from_body f next n k vs ws h begun headed going (inr left) =
        let few : left.steps ≤ n = left.fewer in
        from_end f next left.steps k vs ws left.variables left.answers (omega arith) begun headed going left.ends left.runs

    decided : (f : ℕ) → Next f → (n k : ℕ) (vs ws : ℕ → ℕ) (answers : List ℕ) → n ≤ f → f < top → Begun k vs → Ends at H head vs ws
        → (((value ws test == 0) ≡ true) × Leads (step at) H n (state ts ws ns) answers s)
        ⊎ (((value ws test == 0) ≡ false) × Leads (step at) H n (state (turn_tasks loop ts) ws (k ∷ ns)) answers s)
        → Outcome
    decided f next n k vs ws answers h h' begun headed (inl r) = inr (record {
      variables = ws;
      answers = answers;
      steps = n;
      ends = (k, (vs, begun, headed, eqb-true (value ws test) 0 r.0));
      fewer = omega arith;
      runs = r.1;
    })
    decided f next n k vs ws answers h h' begun headed (inr r) =
        from_body f next n k vs ws h begun headed (eqb-false (value ws test) 0 r.0) (body_run n (Again loop ∷ ts) ws (k ∷ ns) answers s r.1)

    from_test : (f : ℕ) → ((g : ℕ) → g < f → Next g) → (n k : ℕ) (vs ws : ℕ → ℕ) (answers : List ℕ) → n ≤ f → f ≤ top → Begun k vs → Ends at H head vs ws
        → Leads (step at) H n (state (Decide loop ∷ ts) ws (k ∷ ns)) answers s → Outcome
    from_test f next zero k vs ws answers h h' begun headed r = inl (AtTest, (k, (vs, begun, (ws, headed, sym r.0))))
    from_test f next (suc n) k vs ws answers h h' begun headed r =
        decided n (next n (omega arith)) n k vs ws answers (omega arith) (omega arith) begun headed
        (takes (λ t. Leads (step at) H n t answers s) (value ws test == 0) (state ts ws ns) (state (turn_tasks loop ts) ws (k ∷ ns)) r)

    from_head : (f : ℕ) → ((g : ℕ) → g < f → Next g) → (n k : ℕ) (vs : ℕ → ℕ) → n ≤ f → f ≤ top → Begun k vs
        → Meets at H head (Decide loop ∷ ts) (k ∷ ns) vs s ⊎ Left at H (Ends at H head vs) (Decide loop ∷ ts) (k ∷ ns) n s → Outcome
    from_head f next n k vs h h' begun (inl m) = inl (AtHead, (k, (vs, begun, m)))
    from_head f next n k vs h h' begun (inr left) =
        let few : left.steps ≤ n = left.fewer in
        from_test f next left.steps k vs left.variables left.answers (omega arith) h' begun left.ends left.runs

    -- by the number of steps that are left
    below : (f g : ℕ) → f ≤ top → g < f → Next g
    below zero g h h' = absurd (omega arith)
    below (suc f) g h h' = λ n k vs answers few begun r.
        from_head g (λ i smaller. below f i (omega arith) (omega arith)) n k vs few (omega arith) begun (head_run n (Decide loop ∷ ts) vs (k ∷ ns) answers s r)

    loop_run : (n : ℕ) (answers : List ℕ) → n ≤ top → Leads (step at) H n (state (head_tasks loop ts) first (0 ∷ ns)) answers s → Outcome
    loop_run n answers h r =
        from_head n (λ g smaller. below n g h smaller) n 0 first (omega arith) h refl (head_run n (Decide loop ∷ ts) first (0 ∷ ns) answers s r)

  abbrev OpRun : Op → Type 0
  OpRun op = (n : ℕ) (ts : List Task) (vs : ℕ → ℕ) (ns answers : List ℕ) (s : State) → Leads (step at) H n (state (Do op ∷ ts) vs ns) answers s
      → OpMeets at H op ts ns vs s ⊎ Left at H (OpEnds at H op vs) ts ns n s

  -- a branch that was taken
  branch_met : (test : Operand) (one other : Ops) (n : ℕ) (ts : List Task) (vs : ℕ → ℕ) (ns : List ℕ) (s : State) → value vs test ≢ 0
      → Meets at H one ts ns vs s ⊎ Left at H (Ends at H one vs) ts ns n s
      → OpMeets at H (If test one other) ts ns vs s ⊎ Left at H (OpEnds at H (If test one other) vs) ts ns (suc n) s
  branch_met test one other n ts vs ns s e (inl m) = inl (inr (inl (e, m)))
  branch_met test one other n ts vs ns s e (inr left) =
      let few : left.steps ≤ n = left.fewer in
      inr (record { variables = left.variables; answers = left.answers; steps = left.steps; ends = inl (e, left.ends); fewer = omega arith; runs = left.runs })

  other_met : (test : Operand) (one other : Ops) (n : ℕ) (ts : List Task) (vs : ℕ → ℕ) (ns : List ℕ) (s : State) → value vs test ≡ 0
      → Meets at H other ts ns vs s ⊎ Left at H (Ends at H other vs) ts ns n s
      → OpMeets at H (If test one other) ts ns vs s ⊎ Left at H (OpEnds at H (If test one other) vs) ts ns (suc n) s
  other_met test one other n ts vs ns s e (inl m) = inl (inr (inr (e, m)))
  other_met test one other n ts vs ns s e (inr left) =
      let few : left.steps ≤ n = left.fewer in
      inr (record { variables = left.variables; answers = left.answers; steps = left.steps; ends = inr (e, left.ends); fewer = omega arith; runs = left.runs })

  chosen : (test : Operand) (one other : Ops) → Run one → Run other → (n : ℕ) (ts : List Task) (vs : ℕ → ℕ) (ns answers : List ℕ) (s : State)
      → (((value vs test == 0) ≡ true) × Leads (step at) H n (state (ops_tasks other ts) vs ns) answers s)
      ⊎ (((value vs test == 0) ≡ false) × Leads (step at) H n (state (ops_tasks one ts) vs ns) answers s)
      → OpMeets at H (If test one other) ts ns vs s ⊎ Left at H (OpEnds at H (If test one other) vs) ts ns (suc n) s
  chosen test one other one_run other_run n ts vs ns answers s (inl r) =
      other_met test one other n ts vs ns s (eqb-true (value vs test) 0 r.0) (other_run n ts vs ns answers s r.1)
  chosen test one other one_run other_run n ts vs ns answers s (inr r) =
      branch_met test one other n ts vs ns s (eqb-false (value vs test) 0 r.0) (one_run n ts vs ns answers s r.1)

  looped : (head : Ops) (test : Operand) (body st : Ops) (n : ℕ) (ts : List Task) (vs : ℕ → ℕ) (ns : List ℕ) (s : State)
      → Inside at H (Loop head test body st) ts ns vs s ⊎ Left at H (OpEnds at H (Loop head test body st) vs) ts ns n s
      → OpMeets at H (Loop head test body st) ts ns vs s ⊎ Left at H (OpEnds at H (Loop head test body st) vs) ts ns (suc n) s
  looped head test body st n ts vs ns s (inl m) = inl (inr m)
  looped head test body st n ts vs ns s (inr left) =
      let few : left.steps ≤ n = left.fewer in
      inr (record { variables = left.variables; answers = left.answers; steps = left.steps; ends = left.ends; fewer = omega arith; runs = left.runs })

  -- an operation that has ended at once
  went_on : (op : Op) (n : ℕ) (ts : List Task) (vs ws : ℕ → ℕ) (ns answers : List ℕ) (s : State) → OpEnds at H op vs ws → Leads (step at) H n (state ts ws ns) answers s
      → OpMeets at H op ts ns vs s ⊎ Left at H (OpEnds at H op vs) ts ns (suc n) s
  went_on op n ts vs ws ns answers s e r =
      inr (record { variables = ws; answers = answers; steps = n; ends = e; fewer = omega arith; runs = r })

  -- behind the first of some operations
  behind_first : (op : Op) (ops : Ops) → Run ops → (n : ℕ) (ts : List Task) (vs : ℕ → ℕ) (ns : List ℕ) (s : State)
      → OpMeets at H op (ops_tasks ops ts) ns vs s ⊎ Left at H (OpEnds at H op vs) (ops_tasks ops ts) ns n s
      → Meets at H (AndOp op ops) ts ns vs s ⊎ Left at H (Ends at H (AndOp op ops) vs) ts ns n s
  behind_first op ops rest_run n ts vs ns s (inl m) = inl (inl m)
  behind_first op ops rest_run n ts vs ns s (inr left) =
      let few : left.steps ≤ n = left.fewer in
      elim (rest_run left.steps ts left.variables ns left.answers s left.runs)
      as (λ _. Meets at H (AndOp op ops) ts ns vs s ⊎ Left at H (Ends at H (AndOp op ops) vs) ts ns n s) [
        | inl m ↦ inl (inr (left.variables, left.ends, m))
        | inr last ↦
            let fewer_still : last.steps ≤ left.steps = last.fewer in
            inr (record {
              variables = last.variables;
              answers = last.answers;
              steps = last.steps;
              ends = (left.variables, left.ends, last.ends);
              fewer = omega arith;
              runs = last.runs;
            })
      ]

  mutual
    pub ops_run : (ops : Ops) → jumps ops ≡ false → Run ops
    ops_run NoOps none n ts vs ns answers s r = inr (record { variables = vs; answers = answers; steps = n; ends = refl; fewer = omega arith; runs = r })
    ops_run (AndOp op ops) none n ts vs ns answers s r =
        let no = neither (jumps_in op) (jumps ops) none in
        behind_first op ops (ops_run ops no.1) n ts vs ns s (op_run op no.0 n (ops_tasks ops ts) vs ns answers s r)

    op_run : (op : Op) → jumps_in op ≡ false → OpRun op
    op_run op none zero ts vs ns answers s r = inl (inl (sym r.0))
    op_run (Set d a) none (suc n) ts vs ns answers s r = went_on (Set d a) n ts vs (put_at d (value vs a) vs) ns answers s (0, tt, refl) r
    op_run (Calculate d op a b) none (suc n) ts vs ns answers s r = went_on (Calculate d op a b) n ts vs (put_at d (alu_value_of op (value vs a) (value vs b)) vs) ns answers s (0, tt, refl) r
    op_run (Fit d elem a) none (suc n) ts vs ns answers s r = went_on (Fit d elem a) n ts vs (put_at d (fitted elem (value vs a)) vs) ns answers s (0, tt, refl) r
    op_run (Id d which a) none (suc n) ts vs ns answers s r = went_on (Id d which a) n ts vs (put_at d (known_of at which (value vs a)) vs) ns answers s (0, tt, refl) r
    op_run (Load d array elem a) none (suc n) ts vs ns [] s r = absurd r
    op_run (Load d array elem a) none (suc n) ts vs ns (answer ∷ answers) s r = went_on (Load d array elem a) n ts vs (put_at d (fitted elem answer) vs) ns answers s (answer, r.0, refl) r.1
    op_run (Store array elem a b) none (suc n) ts vs ns [] s r = absurd r
    op_run (Store array elem a b) none (suc n) ts vs ns (answer ∷ answers) s r = went_on (Store array elem a b) n ts vs vs ns answers s (0, tt, refl) r.1
    op_run (Check array a pos) none (suc n) ts vs ns answers s r =
        went_on (Check array a pos) n ts vs vs ns answers s (0, tt, refl) (passes (λ t rest. Leads (step at) H n t rest s) H (nat_lt (value vs a) (at.array array).count) (state ts vs ns) (Fault pos) answers r)
    op_run (Barrier site) none (suc n) ts vs ns [] s r = absurd r
    op_run (Barrier site) none (suc n) ts vs ns (answer ∷ answers) s r = went_on (Barrier site) n ts vs vs ns answers s (0, tt, refl) r.1
    op_run (If test one other) none (suc n) ts vs ns answers s r =
        let no = neither (jumps one) (jumps other) none in
        chosen test one other (ops_run one no.0) (ops_run other no.1) n ts vs ns answers s
        (takes_tasks (λ us. Leads (step at) H n (state us vs ns) answers s) (value vs test == 0) (ops_tasks other ts) (ops_tasks one ts) r)
    op_run (Loop head test body st) none (suc n) ts vs ns answers s r =
        let no = neither (jumps head) (jumps body || jumps st) none in
        let no' = neither (jumps body) (jumps st) no.1 in
        looped head test body st n ts vs ns s
        (loop_run head test body st (ops_run head no.0) (ops_run body no'.0) (ops_run st no'.1) ts ns vs s n n answers (omega arith) r)
    op_run Break none (suc n) ts vs ns answers s r = absurd (true≢false none)
    op_run Continue none (suc n) ts vs ns answers s r = absurd (true≢false none)
    op_run Return none (suc n) ts vs ns answers s r = absurd (true≢false none)
    op_run (Call body) none (suc n) ts vs ns answers s r = absurd (true≢false none)
