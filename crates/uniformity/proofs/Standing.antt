-- Each item stands at a place, and what is left to do there is one.
use Rattle.std.proofs.Common.{◌≡◌, ℕ, false, ◌||◌, ◌⊎◌, inl, inr, List, [], ◌∷◌, refl, sym, ap, ◌∙◌}
use Rattle.std.specs.Prelude.{slice_index}
use Rattle.item_settings.specs.Settings.{Setting, bound_values}
use Rattle.kir.specs.Machine.{State, state, Task, Do, Decide, Again, Turning, code_setting, head_tasks, ops_tasks}
use Rattle.kir.specs.Trees.{Operand, Op, Set, Calculate, Fit, Id, Load, Store, Check, Barrier, If, Loop, Break, Continue, Return, Call, Ops, NoOps, AndOp}
use Rattle.uniformity.specs.Pairs.{IsHonest}
use Rattle.uniformity.specs.Places.{Spot, First, Past, Inner, Here, InOne, InOther, InHead, AtTest, InBody, AtEnd, InStep, StandsAt, StandsIn, PlacesAgree, EachStands}
use Rattle.uniformity.proofs.Visits as v
use Rattle.uniformity.proofs.Visits.{Ends, Honesty, Inside, Meets, Section, TurnMeets}
use Rattle.uniformity.proofs.Reaching.{Left, ops_run}
use Rattle.uniformity.proofs.Law.{closed_agree, stays_at_end}

mutual
  one_left : (ops : Ops) (spot : Spot) (ts l l' : List Task) → StandsAt ops spot ts l → StandsAt ops spot ts l' → l ≡ l'
  one_left NoOps spot ts l l' x y = absurd x
  one_left (AndOp op ops) (First inner) ts l l' x y = one_left_in op inner (ops_tasks ops ts) l l' x y
  one_left (AndOp op ops) (Past spot) ts l l' x y = one_left ops spot ts l l' x y

  one_left_in : (op : Op) (inner : Inner) (ts l l' : List Task) → StandsIn op inner ts l → StandsIn op inner ts l' → l ≡ l'
  one_left_in (If test one other) Here ts l l' x y = x ∙ sym y
  one_left_in (If test one other) (InOne spot) ts l l' x y = one_left one spot ts l l' x y
  one_left_in (If test one other) (InOther spot) ts l l' x y = one_left other spot ts l l' x y
  one_left_in (If test one other) inner ts l l' x y = absurd x
  one_left_in (Loop head test body step) Here ts l l' x y = x ∙ sym y
  one_left_in (Loop head test body step) (InHead spot) ts l l' x y = one_left head spot _ l l' x y
  one_left_in (Loop head test body step) AtTest ts l l' x y = x ∙ sym y
  one_left_in (Loop head test body step) (InBody spot) ts l l' x y = one_left body spot _ l l' x y
  one_left_in (Loop head test body step) AtEnd ts l l' x y = x ∙ sym y
  one_left_in (Loop head test body step) (InStep spot) ts l l' x y = one_left step spot _ l l' x y
  one_left_in (Loop head test body step) inner ts l l' x y = absurd x
  one_left_in op Here ts l l' x y = x ∙ sym y
  one_left_in op inner ts l l' x y = absurd x

here_stands : (op : Op) (ts left : List Task) → left ≡ Do op ∷ ts → StandsIn op Here ts left
here_stands (Set d a) ts left e = e
here_stands (Calculate d op a b) ts left e = e
here_stands (Fit d elem a) ts left e = e
here_stands (Id d which a) ts left e = e
here_stands (Load d array elem a) ts left e = e
here_stands (Store array elem a b) ts left e = e
here_stands (Check array a pos) ts left e = e
here_stands (Barrier site) ts left e = e
here_stands (If test one other) ts left e = e
here_stands (Loop head test body step) ts left e = e
here_stands Break ts left e = e
here_stands Continue ts left e = e
here_stands Return ts left e = e
here_stands (Call body) ts left e = e

module _ (at : Setting) (H : Honesty) where
  abbrev Stand : Ops → Type 0
  Stand ops = (ts : List Task) (ns : List ℕ) (vs : ℕ → ℕ) (s : State) → Meets at H ops ts ns vs s → (spot : Spot) × StandsAt ops spot ts s.tasks

  turn_stands : (head : Ops) (test : Operand) (body step : Ops) → Stand head → Stand body → Stand step
      → (section : Section) (k : ℕ) (ts : List Task) (ns : List ℕ) (vs : ℕ → ℕ) (s : State)
      → TurnMeets (record { head = head; test = test; body = body; step = step }) (Ends at H head) (Ends at H body) (Meets at H head) (Meets at H body) (Meets at H step)
      section k ts ns vs s
      → (inner : Inner) × StandsIn (Loop head test body step) inner ts s.tasks
  turn_stands head test body step h b st v.AtHead k ts ns vs s m = let r = h _ _ vs s m in (InHead r.0, r.1)
  turn_stands head test body step h b st v.AtTest k ts ns vs s m = (AtTest, ap (λ (x : State). x.tasks) m.2)
  turn_stands head test body step h b st v.InBody k ts ns vs s m = let r = b _ _ m.0 s m.3 in (InBody r.0, r.1)
  turn_stands head test body step h b st v.AtEnd k ts ns vs s m = (AtEnd, ap (λ (x : State). x.tasks) m.3.2)
  turn_stands head test body step h b st v.InStep k ts ns vs s m = let r = st _ _ m.3.0 s m.3.2 in (InStep r.0, r.1)

  mutual
    meets_stand : (ops : Ops) → Stand ops
    meets_stand NoOps ts ns vs s m = absurd m
    meets_stand (AndOp op ops) ts ns vs s (inl (inl e)) = (First Here, here_stands op (ops_tasks ops ts) s.tasks (ap (λ (x : State). x.tasks) e))
    meets_stand (AndOp op ops) ts ns vs s (inl (inr m)) = let r = inside_stands op (ops_tasks ops ts) ns vs s m in (First r.0, r.1)
    meets_stand (AndOp op ops) ts ns vs s (inr m) = let r = meets_stand ops ts ns m.0 s m.2 in (Past r.0, r.1)

    inside_stands : (op : Op) (ts : List Task) (ns : List ℕ) (vs : ℕ → ℕ) (s : State) → Inside at H op ts ns vs s → (inner : Inner) × StandsIn op inner ts s.tasks
    inside_stands (If test one other) ts ns vs s (inl m) = let r = meets_stand one ts ns vs s m.1 in (InOne r.0, r.1)
    inside_stands (If test one other) ts ns vs s (inr m) = let r = meets_stand other ts ns vs s m.1 in (InOther r.0, r.1)
    inside_stands (Loop head test body step) ts ns vs s m =
        turn_stands head test body step (meets_stand head) (meets_stand body) (meets_stand step) m.0 m.1.0 ts ns m.1.1.0 s m.1.1.2
    inside_stands op ts ns vs s m = absurd m

pub places_agree : PlacesAgree
places_agree code marks closed none range bounds opening one other s t same r r' spot x y q =
    closed_agree code marks closed none range bounds opening one other s t same r r' (one_left code.ops spot [] s.tasks t.tasks x y) q

stands_or_ended : (at : Setting) (H : Honesty) (ops : Ops) (vs : ℕ → ℕ) (n : ℕ) (s : State)
    → Meets at H ops [] [] vs s ⊎ Left at H (Ends at H ops vs) [] [] n s → ((spot : Spot) × StandsAt ops spot [] s.tasks) ⊎ (s.tasks ≡ [])
stands_or_ended at H ops vs n s (inl m) = inl (meets_stand at H ops [] [] vs s m)
stands_or_ended at H ops vs n s (inr left) =
    inr (sym (ap (λ (x : State). x.tasks) (stays_at_end at H left.steps left.variables [] left.answers s left.runs)))

pub each_stands : EachStands
each_stands code none range bounds opening item s r =
    let at = code_setting code range bounds item in
    let H = IsHonest code bounds opening in
    let start = slice_index (bound_values code.params bounds) in
    stands_or_ended at H code.ops start r.steps s (ops_run at H code.ops none r.steps [] start [] r.answers s r.leads)
