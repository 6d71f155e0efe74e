-- What the operations on flags make of them, where the jump or the loop that they stand for was reached alive.
use Rattle.std.proofs.Common.{◌≡◌, ℕ, ◌<◌, List, refl, ap, sym, ◌∙◌, arith, inl, inr}
use Rattle.std.specs.Prelude.{bit_and}
use Rattle.std.proofs.lemmas.Bool.{cases_eq}
use Rattle.vx_base.specs.declared.types.Alu.TheVariants.{Sub, And}
use Rattle.item_acts.specs.Launches.{put_at}
use Rattle.item_acts.proofs.Launches.{put_at_same, put_at_other}
use Rattle.item_settings.specs.Settings.{Setting}
use Rattle.kir.specs.Machine.{State, state, Task, ops_tasks}
use Rattle.kir.specs.Trees.{VariableOf, NumberOf, Calculate, Ops, AndOp}
use Rattle.kir_flow.specs.declared.scopes.Jump.{Jump}
use Rattle.kir_flow.specs.declared.scopes.Scope.{Scope}
use Rattle.kir_flow.specs.declared.scopes.Jump.TheVariants.{ByBreak, ByContinue, ByReturn}
use Rattle.kir_flow.specs.declared.scopes.Scope.TheVariants.{InCall, InBody, InEdge}
use Rattle.kir_flow.specs.Flagging.{live, run, whole, inside, edge_scope, clear, dies, jump_ops, passed_on}
use Rattle.kir_flow.proofs.FlagStates.{Along, Fate, Alive, Skipped, Broken, Returned, live_bit, run_bit, whole_bit, fate_of, run_inside, live_inside, SameTo, sets, calculates}
use Rattle.kir_flow.proofs.FollowStates.{Fine, Rest, Alike, run_behind, live_behind, put_flag, outward}

-- the three flags in a loop are three
pub record Apart (f : Scope) : Type 0 where
  pub whole_first : whole f < run f
  pub run_first : run f < live f

-- the flags have these values
pub record Has (count : ℕ) (f : Scope) (l r w : ℕ) (vs0 vs vs' : ℕ → ℕ) : Type 0 where
  pub rest : Rest count f vs0 vs vs'
  pub live : vs' (live f) ≡ l
  pub run : vs' (run f) ≡ r
  pub whole : vs' (whole f) ≡ w

-- from these tasks on all goes well where the flags have these values
abbrev pub Goes : Setting → ℕ → ℕ → State → Scope → ℕ → ℕ → ℕ → (ℕ → ℕ) → (ℕ → ℕ) → List Task → List ℕ → Type 0
Goes at count n s f l r w vs0 vs ts ns = (vs' : ℕ → ℕ) → Has count f l r w vs0 vs vs' → Along at n s (state ts vs' ns)

pub has_live : (count : ℕ) (f : Scope) (l r w x : ℕ) (vs0 vs vs' : ℕ → ℕ) → Apart f → Fine count f → Has count f l r w vs0 vs vs' → Has count f x r w vs0 vs (put_at (live f) x vs')
has_live count f l r w x vs0 vs vs' apart fine has =
    let a : whole f < run f = apart.whole_first in
    let b : run f < live f = apart.run_first in
    record {
      rest = put_flag count f vs0 vs vs' (live f) x (live_behind count f fine) (λ k less other e. omega arith) has.rest;
      live = put_at_same (live f) x vs';
      run = put_at_other (live f) x vs' (run f) (λ e. omega arith) ∙ has.run;
      whole = put_at_other (live f) x vs' (whole f) (λ e. omega arith) ∙ has.whole;
    }

has_run : (count : ℕ) (f : Scope) (l r w x : ℕ) (vs0 vs vs' : ℕ → ℕ) → Apart f → Fine count f → Has count f l r w vs0 vs vs' → Has count f l x w vs0 vs (put_at (run f) x vs')
has_run count f l r w x vs0 vs vs' apart fine has =
    let a : whole f < run f = apart.whole_first in
    let b : run f < live f = apart.run_first in
    record {
      rest = put_flag count f vs0 vs vs' (run f) x (run_behind count f fine) (λ k less other e. omega arith) has.rest;
      live = put_at_other (run f) x vs' (live f) (λ e. omega arith) ∙ has.live;
      run = put_at_same (run f) x vs';
      whole = put_at_other (run f) x vs' (whole f) (λ e. omega arith) ∙ has.whole;
    }

has_whole : (count : ℕ) (f : Scope) (l r w x : ℕ) (vs0 vs vs' : ℕ → ℕ) → Apart f → Fine count f → Has count f l r w vs0 vs vs' → Has count f l r x vs0 vs (put_at (whole f) x vs')
has_whole count f l r w x vs0 vs vs' apart fine has =
    let a : whole f < run f = apart.whole_first in
    let b : run f < live f = apart.run_first in
    record {
      rest = put_flag count f vs0 vs vs' (whole f) x fine.behind (λ k less other e. other e) has.rest;
      live = put_at_other (whole f) x vs' (live f) (λ e. omega arith) ∙ has.live;
      run = put_at_other (whole f) x vs' (run f) (λ e. omega arith) ∙ has.run;
      whole = put_at_same (whole f) x vs';
    }

-- ---- jumps

clears_run : (at : Setting) (count n : ℕ) (s : State) (f : Scope) (w : ℕ) (c : Ops) (ts : List Task) (vs0 vs : ℕ → ℕ) (ns : List ℕ) → Apart f → Fine count f
    → Goes at count n s f 1 0 w vs0 vs (ops_tasks c ts) ns → Goes at count n s f 1 1 w vs0 vs (ops_tasks (clear (run f) (live f) c) ts) ns
clears_run at count n s f w c ts vs0 vs ns apart fine next vs' has =
    calculates at n s (run f) Sub (VariableOf (run f)) (VariableOf (live f)) (ops_tasks c ts) vs' ns 1 1 0 has.run has.live refl
    (next (put_at (run f) 0 vs') (has_run count f 1 1 w 0 vs0 vs vs' apart fine has))

clears_whole : (at : Setting) (count n : ℕ) (s : State) (f : Scope) (c : Ops) (ts : List Task) (vs0 vs : ℕ → ℕ) (ns : List ℕ) → Apart f → Fine count f
    → Goes at count n s f 1 1 0 vs0 vs (ops_tasks c ts) ns → Goes at count n s f 1 1 1 vs0 vs (ops_tasks (clear (whole f) (live f) c) ts) ns
clears_whole at count n s f c ts vs0 vs ns apart fine next vs' has =
    calculates at n s (whole f) Sub (VariableOf (whole f)) (VariableOf (live f)) (ops_tasks c ts) vs' ns 1 1 0 has.whole has.live refl
    (next (put_at (whole f) 0 vs') (has_whole count f 1 1 1 0 vs0 vs vs' apart fine has))

clears_live : (at : Setting) (count n : ℕ) (s : State) (f : Scope) (l r w : ℕ) (c : Ops) (ts : List Task) (vs0 vs : ℕ → ℕ) (ns : List ℕ) → Apart f → Fine count f
    → Goes at count n s f 0 r w vs0 vs (ops_tasks c ts) ns → Goes at count n s f l r w vs0 vs (ops_tasks (dies (live f) c) ts) ns
clears_live at count n s f l r w c ts vs0 vs ns apart fine next vs' has =
    sets at n s (live f) (NumberOf 0) (ops_tasks c ts) vs' ns 0 refl (next (put_at (live f) 0 vs') (has_live count f l r w 0 vs0 vs vs' apart fine has))

-- from these tasks on all goes well behind this
abbrev pub Behind : Setting → ℕ → ℕ → State → Scope → Fate → (ℕ → ℕ) → (ℕ → ℕ) → List Task → List ℕ → Type 0
Behind at count n s f fate vs0 vs ts ns = (vs' : ℕ → ℕ) → Alike count f fate vs0 vs vs' → Along at n s (state ts vs' ns)

pub has_of : (count : ℕ) (f : Scope) (fate : Fate) (vs0 vs vs' : ℕ → ℕ) → Alike count f fate vs0 vs vs' → Has count f (live_bit fate) (run_bit fate) (whole_bit fate) vs0 vs vs'
has_of count f fate vs0 vs vs' alike = record { rest = alike.rest; live = alike.stands.live; run = alike.stands.run; whole = alike.stands.whole }

pub alike_of : (count : ℕ) (f : Scope) (fate : Fate) (vs0 vs vs' : ℕ → ℕ) → Has count f (live_bit fate) (run_bit fate) (whole_bit fate) vs0 vs vs' → Alike count f fate vs0 vs vs'
alike_of count f fate vs0 vs vs' has = record { rest = has.rest; stands = record { live = has.live; run = has.run; whole = has.whole } }

breaks_down : (at : Setting) (count n : ℕ) (s : State) (f : Scope) (c : Ops) (ts : List Task) (vs0 vs : ℕ → ℕ) (ns : List ℕ) → Apart f → Fine count f
    → Behind at count n s f Broken vs0 vs (ops_tasks c ts) ns → Behind at count n s f Alive vs0 vs (ops_tasks (clear (run f) (live f) (dies (live f) c)) ts) ns
breaks_down at count n s f c ts vs0 vs ns apart fine next vs' alike =
    clears_run at count n s f 1 (dies (live f) c) ts vs0 vs ns apart fine
    (clears_live at count n s f 1 0 1 c ts vs0 vs ns apart fine (λ vs1 has. next vs1 (alike_of count f Broken vs0 vs vs1 has))) vs' (has_of count f Alive vs0 vs vs' alike)

skips_down : (at : Setting) (count n : ℕ) (s : State) (f : Scope) (c : Ops) (ts : List Task) (vs0 vs : ℕ → ℕ) (ns : List ℕ) → Apart f → Fine count f
    → Behind at count n s f Skipped vs0 vs (ops_tasks c ts) ns → Behind at count n s f Alive vs0 vs (ops_tasks (dies (live f) c) ts) ns
skips_down at count n s f c ts vs0 vs ns apart fine next vs' alike =
    clears_live at count n s f 1 1 1 c ts vs0 vs ns apart fine (λ vs1 has. next vs1 (alike_of count f Skipped vs0 vs vs1 has)) vs' (has_of count f Alive vs0 vs vs' alike)

returns_down : (at : Setting) (count n : ℕ) (s : State) (f : Scope) (c : Ops) (ts : List Task) (vs0 vs : ℕ → ℕ) (ns : List ℕ) → Apart f → Fine count f
    → Behind at count n s f Returned vs0 vs (ops_tasks c ts) ns
    → Behind at count n s f Alive vs0 vs (ops_tasks (clear (whole f) (live f) (clear (run f) (live f) (dies (live f) c))) ts) ns
returns_down at count n s f c ts vs0 vs ns apart fine next vs' alike =
    clears_whole at count n s f (clear (run f) (live f) (dies (live f) c)) ts vs0 vs ns apart fine
    (clears_run at count n s f 0 (dies (live f) c) ts vs0 vs ns apart fine
    (clears_live at count n s f 1 0 0 c ts vs0 vs ns apart fine (λ vs1 has. next vs1 (alike_of count f Returned vs0 vs vs1 has)))) vs' (has_of count f Alive vs0 vs vs' alike)

pub body_apart : (call first : ℕ) → call < first → Apart (InBody call first)
body_apart call first o = record { whole_first = o; run_first = omega arith }

pub edge_apart : (call first : ℕ) → call < first → Apart (InEdge call first)
edge_apart call first o = record { whole_first = o; run_first = omega arith }

-- in a call that no loop stands round, its flag is cleared
call_down : (at : Setting) (count n : ℕ) (s : State) (call : ℕ) (c : Ops) (ts : List Task) (vs0 vs : ℕ → ℕ) (ns : List ℕ) → Fine count (InCall call)
    → Behind at count n s (InCall call) Returned vs0 vs (ops_tasks c ts) ns → Behind at count n s (InCall call) Alive vs0 vs (ops_tasks (dies call c) ts) ns
call_down at count n s call c ts vs0 vs ns fine next vs' alike =
    sets at n s call (NumberOf 0) (ops_tasks c ts) vs' ns 0 refl (next (put_at call 0 vs')
    (record {
      rest = put_flag count (InCall call) vs0 vs vs' call 0 fine.behind (λ k less other. other) alike.rest;
      stands = record { live = put_at_same call 0 vs'; run = put_at_same call 0 vs'; whole = put_at_same call 0 vs' };
    }))

-- behind what a jump comes to the flags say so
pub jump_down : (at : Setting) (count n : ℕ) (s : State) (f : Scope) (j : Jump) (c : Ops) (ts : List Task) (vs0 vs : ℕ → ℕ) (ns : List ℕ) → Fine count f
    → Behind at count n s f (fate_of f j) vs0 vs (ops_tasks c ts) ns → Behind at count n s f Alive vs0 vs (ops_tasks (jump_ops f j c) ts) ns
jump_down at count n s (InCall call) j c ts vs0 vs ns fine next = call_down at count n s call c ts vs0 vs ns fine next
jump_down at count n s (InBody call first) ByBreak c ts vs0 vs ns fine next = breaks_down at count n s (InBody call first) c ts vs0 vs ns
    (body_apart call first fine.ordered) fine next
jump_down at count n s (InBody call first) ByContinue c ts vs0 vs ns fine next = skips_down at count n s (InBody call first) c ts vs0 vs ns
    (body_apart call first fine.ordered) fine next
jump_down at count n s (InBody call first) ByReturn c ts vs0 vs ns fine next = returns_down at count n s (InBody call first) c ts vs0 vs ns
    (body_apart call first fine.ordered) fine next
jump_down at count n s (InEdge call first) ByBreak c ts vs0 vs ns fine next = breaks_down at count n s (InEdge call first) c ts vs0 vs ns
    (edge_apart call first fine.ordered) fine next
jump_down at count n s (InEdge call first) ByContinue c ts vs0 vs ns fine next = breaks_down at count n s (InEdge call first) c ts vs0 vs ns
    (edge_apart call first fine.ordered) fine next
jump_down at count n s (InEdge call first) ByReturn c ts vs0 vs ns fine next = returns_down at count n s (InEdge call first) c ts vs0 vs ns
    (edge_apart call first fine.ordered) fine next

-- ---- behind a loop

passes : (at : Setting) (count n : ℕ) (s : State) (f : Scope) (w x : ℕ) (c : Ops) (ts : List Task) (vs0 vs : ℕ → ℕ) (ns : List ℕ) → Apart f → Fine count f → bit_and 1 w ≡ x
    → Goes at count n s f x x w vs0 vs (ops_tasks c ts) ns
    → Goes at count n s f 1 1 w vs0 vs (ops_tasks
    (AndOp (Calculate (live f) And (VariableOf (live f)) (VariableOf (whole f))) (AndOp (Calculate (run f) And (VariableOf (run f)) (VariableOf (whole f))) c)) ts) ns
passes at count n s f w x c ts vs0 vs ns apart fine e next vs' has =
    let has1 : Has count f x 1 w vs0 vs (put_at (live f) x vs') = has_live count f 1 1 w x vs0 vs vs' apart fine has in
    calculates at n s (live f) And (VariableOf (live f)) (VariableOf (whole f))
    (ops_tasks (AndOp (Calculate (run f) And (VariableOf (run f)) (VariableOf (whole f))) c) ts) vs' ns 1 w x
    has.live has.whole e
    (calculates at n s (run f) And (VariableOf (run f)) (VariableOf (whole f)) (ops_tasks c ts) (put_at (live f) x vs') ns 1 w x has1.run has1.whole e
    (next (put_at (run f) x (put_at (live f) x vs')) (has_run count f x 1 w x vs0 vs (put_at (live f) x vs') apart fine has1)))

passes_alive : (at : Setting) (count n : ℕ) (s : State) (f : Scope) (c : Ops) (ts : List Task) (vs0 vs : ℕ → ℕ) (ns : List ℕ) → Apart f → Fine count f
    → Behind at count n s f Alive vs0 vs (ops_tasks c ts) ns
    → Behind at count n s f Alive vs0 vs (ops_tasks
    (AndOp (Calculate (live f) And (VariableOf (live f)) (VariableOf (whole f))) (AndOp (Calculate (run f) And (VariableOf (run f)) (VariableOf (whole f))) c)) ts) ns
passes_alive at count n s f c ts vs0 vs ns apart fine next vs' alike =
    passes at count n s f 1 1 c ts vs0 vs ns apart fine refl (λ vs1 has. next vs1 (alike_of count f Alive vs0 vs vs1 has)) vs' (has_of count f Alive vs0 vs vs' alike)

-- where the call goes on, nothing changes
pub passed_alive : (at : Setting) (count n : ℕ) (s : State) (f : Scope) (c : Ops) (ts : List Task) (vs0 vs : ℕ → ℕ) (ns : List ℕ) → Fine count f
    → Behind at count n s f Alive vs0 vs (ops_tasks c ts) ns → Behind at count n s f Alive vs0 vs (ops_tasks (passed_on f c) ts) ns
passed_alive at count n s (InCall call) c ts vs0 vs ns fine next = next
passed_alive at count n s (InBody call first) c ts vs0 vs ns fine next = passes_alive at count n s (InBody call first) c ts vs0 vs ns (body_apart call first fine.ordered) fine next
passed_alive at count n s (InEdge call first) c ts vs0 vs ns fine next = passes_alive at count n s (InEdge call first) c ts vs0 vs ns (edge_apart call first fine.ordered) fine next

-- what holds of the flags of a loop inside that is left, seen from outside
pub loop_over : (count : ℕ) (f : Scope) (fate : Fate) (vs0 vs vs' vs1 vs2 vs2' : ℕ → ℕ) → Fine count f → SameTo (inside f) vs' vs1 → whole_bit fate ≡ 1
    → Alike count f Alive vs0 vs vs' → Alike count (edge_scope f) fate vs1 vs2 vs2' → Alike count f Alive vs0 vs2 vs2'
loop_over count f fate vs0 vs vs' vs1 vs2 vs2' fine same goes alike inner =
    outward count f (edge_scope f) Alive fate vs0 vs vs' vs2 vs2' fine
    (λ k more less. elim (cases_eq k (whole f)) [
      | inl at ↦ ap vs2' at ∙ inner.stands.whole ∙ goes ∙ sym alike.stands.whole ∙ sym (ap vs' at)
      | inr other ↦ inner.rest.frame k more less other ∙ same k less
    ]) alike vs1 inner

-- and of one that a `Return` has left
over_rest : (count : ℕ) (f : Scope) (fate : Fate) (vs0 vs vs' vs1 vs2 vs2' : ℕ → ℕ) → SameTo (inside f) vs' vs1
    → Rest count f vs0 vs vs' → Alike count (edge_scope f) fate vs1 vs2 vs2' → Rest count f vs0 vs2 vs2'
over_rest count f fate vs0 vs vs' vs1 vs2 vs2' same rest inner =
    let within : run f < inside f = run_inside f in
    record {
      equal = inner.rest.equal;
      words = inner.rest.words;
      frame = λ k more less differs. inner.rest.frame k more (omega arith) differs ∙ same k (omega arith) ∙ rest.frame k more less differs;
    }

returned_over : (count : ℕ) (f : Scope) (vs0 vs vs' vs1 vs2 vs2' : ℕ → ℕ) → Apart f → Fine count f → SameTo (inside f) vs' vs1
    → Alike count f Alive vs0 vs vs' → Alike count (edge_scope f) Returned vs1 vs2 vs2' → Has count f 1 1 0 vs0 vs2 vs2'
returned_over count f vs0 vs vs' vs1 vs2 vs2' apart fine same alike inner =
    let a : whole f < run f = apart.whole_first in
    let b : run f < live f = apart.run_first in
    record {
      rest = over_rest count f Returned vs0 vs vs' vs1 vs2 vs2' same alike.rest inner;
      live = inner.rest.frame (live f) (live_behind count f fine) (live_inside f) (λ e. omega arith) ∙ same (live f) (live_inside f) ∙ alike.stands.live;
      run = inner.rest.frame (run f) (run_behind count f fine) (run_inside f) (λ e. omega arith) ∙ same (run f) (run_inside f) ∙ alike.stands.run;
      whole = inner.stands.whole;
    }

passes_returned : (at : Setting) (count n : ℕ) (s : State) (f : Scope) (c : Ops) (ts : List Task) (vs0 vs vs' vs1 vs2 : ℕ → ℕ) (ns : List ℕ) → Apart f → Fine count f
    → SameTo (inside f) vs' vs1 → Alike count f Alive vs0 vs vs' → Behind at count n s f Returned vs0 vs2 (ops_tasks c ts) ns
    → Behind at count n s (edge_scope f) Returned vs1 vs2
    (ops_tasks (AndOp (Calculate (live f) And (VariableOf (live f)) (VariableOf (whole f))) (AndOp (Calculate (run f) And (VariableOf (run f)) (VariableOf (whole f))) c)) ts) ns
passes_returned at count n s f c ts vs0 vs vs' vs1 vs2 ns apart fine same alike next vs2' inner =
    passes at count n s f 0 0 c ts vs0 vs2 ns apart fine refl (λ vs3 has. next vs3 (alike_of count f Returned vs0 vs2 vs3 has))
    vs2' (returned_over count f vs0 vs vs' vs1 vs2 vs2' apart fine same alike inner)

pub passed_returned : (at : Setting) (count n : ℕ) (s : State) (f : Scope) (c : Ops) (ts : List Task) (vs0 vs vs' vs1 vs2 : ℕ → ℕ) (ns : List ℕ) → Fine count f
    → SameTo (inside f) vs' vs1 → Alike count f Alive vs0 vs vs' → Behind at count n s f Returned vs0 vs2 (ops_tasks c ts) ns
    → Behind at count n s (edge_scope f) Returned vs1 vs2 (ops_tasks (passed_on f c) ts) ns
passed_returned at count n s (InCall call) c ts vs0 vs vs' vs1 vs2 ns fine same alike next vs2' inner = next vs2' (record {
  rest = over_rest count (InCall call) Returned vs0 vs vs' vs1 vs2 vs2' same alike.rest inner;
  stands = record { live = inner.stands.whole; run = inner.stands.whole; whole = inner.stands.whole };
})
passed_returned at count n s (InBody call first) c ts vs0 vs vs' vs1 vs2 ns fine same alike next vs2' inner =
    passes_returned at count n s (InBody call first) c ts vs0 vs vs' vs1 vs2 ns (body_apart call first fine.ordered) fine same alike next vs2' inner
passed_returned at count n s (InEdge call first) c ts vs0 vs vs' vs1 vs2 ns fine same alike next vs2' inner =
    passes_returned at count n s (InEdge call first) c ts vs0 vs vs' vs1 vs2 ns (edge_apart call first fine.ordered) fine same alike next vs2' inner
