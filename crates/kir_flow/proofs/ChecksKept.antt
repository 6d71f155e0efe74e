-- Loads and stores stand behind checks as they stood.
use Rattle.std.proofs.Common.{◌≡◌, ℕ, suc, Bool, true, false, ◌&&◌, not, List, [], ◌∷◌, inl, inr, refl, ap, sym, ◌∙◌, subst, true≢false}
use Rattle.std.specs.Prelude.{if◌then◌else◌}
use Rattle.std.proofs.lemmas.Bool.{cond_both}
use Rattle.ocl_program.specs.declared.exprs.ArrayRef.{ArrayRef}
use Rattle.kir.specs.Measures.{is_single, Known, IsKnown, reads, forgotten, known_behind, AreChecked, OpChecked, IsChecked}
use Rattle.kir.specs.Trees.{Operand, NumberOf, Op, Set, Calculate, Fit, Id, Load, Store, Check, Barrier, If, Loop, Break, Continue, Return, Call, Ops, NoOps, AndOp, KirCode}
use Rattle.kir_flow.specs.declared.scopes.Jump.{Jump}
use Rattle.kir_flow.specs.declared.scopes.Scope.{Scope}
use Rattle.kir_flow.specs.declared.scopes.Jump.TheVariants.{ByBreak, ByContinue, ByReturn}
use Rattle.kir_flow.specs.declared.scopes.Scope.TheVariants.{InCall, InBody, InEdge}
use Rattle.kir_flow.specs.Flagging.{inside, leaves, op_leaves, is_left, op_is_left, is_flagged, body_scope}
use Rattle.kir_flow.specs.Flagging.{edge_scope, jump_ops, passed_on, tests, alive, singles, guarded, flagged_loop, flagged, flagged_op, flags}

-- ---- what is known

-- all that is known is known there too
abbrev pub Within : List Known → List Known → Type 0
Within ks ks' = (array : ArrayRef) (a : Operand) → IsKnown array a ks → IsKnown array a ks'

-- what is known once a variable is set does not read it
pub record StillKnown (d : ℕ) (ks : List Known) (array : ArrayRef) (a : Operand) : Type 0 where
  pub known : IsKnown array a ks
  pub unread : reads d a ≡ false

more_kept : (d : ℕ) (k : Known) (ks : List Known) (array : ArrayRef) (a : Operand) → StillKnown d ks array a → StillKnown d (k ∷ ks) array a
more_kept d k ks array a kept = record { known = inr kept.known; unread = kept.unread }

not_true : (b : Bool) → not b ≡ true → b ≡ false
not_true true e = absurd (true≢false (sym e))
not_true false e = refl

pub kept_of : (d : ℕ) (ks : List Known) (array : ArrayRef) (a : Operand) → IsKnown array a (forgotten d ks) → StillKnown d ks array a
kept_of d [] array a = λ known. absurd known
kept_of d (k ∷ ks) array a =
    cond_both (not (reads d k.index)) (k ∷ forgotten d ks) (forgotten d ks) (λ xs. IsKnown array a xs → StillKnown d (k ∷ ks) array a)
    (λ e known. elim known [
      | inl same ↦ record { known = inl same; unread = ap (λ (x : Known). reads d x.index) (sym same) ∙ not_true (reads d k.index) e }
      | inr later ↦ more_kept d k ks array a (kept_of d ks array a later)
    ])
    (λ e known. more_kept d k ks array a (kept_of d ks array a known))

pub kept_to : (d : ℕ) (ks : List Known) (array : ArrayRef) (a : Operand) → IsKnown array a ks → reads d a ≡ false → IsKnown array a (forgotten d ks)
kept_to d [] array a known unread = known
kept_to d (k ∷ ks) array a known unread =
    cond_both (not (reads d k.index)) (k ∷ forgotten d ks) (forgotten d ks) (λ xs. IsKnown array a xs)
    (λ e. elim known [
      | inl same ↦ inl same
      | inr later ↦ inr (kept_to d ks array a later unread)
    ])
    (λ e. elim known [
      | inl same ↦ absurd (true≢false (sym (ap not (ap (λ (x : Known). reads d x.index) same ∙ unread)) ∙ e))
      | inr later ↦ kept_to d ks array a later unread
    ])

forgotten_within : (d : ℕ) (ks ks' : List Known) → Within ks ks' → Within (forgotten d ks) (forgotten d ks')
forgotten_within d ks ks' within array a known = let kept : StillKnown d ks array a = kept_of d ks array a known in kept_to d ks' array a (within array a kept.known) kept.unread

behind_within : (op : Op) (ks ks' : List Known) → Within ks ks' → Within (known_behind op ks) (known_behind op ks')
behind_within (Set d a) ks ks' within = forgotten_within d ks ks' within
behind_within (Calculate d op a b) ks ks' within = forgotten_within d ks ks' within
behind_within (Fit d elem a) ks ks' within = forgotten_within d ks ks' within
behind_within (Id d which a) ks ks' within = forgotten_within d ks ks' within
behind_within (Load d array elem a) ks ks' within = forgotten_within d ks ks' within
behind_within (Store array elem a b) ks ks' within = within
behind_within (Check array a pos) ks ks' within = λ array' a' known. elim known [
  | inl same ↦ inl same
  | inr later ↦ inr (within array' a' later)
]
behind_within (Barrier site) ks ks' within = within
behind_within (If test one other) ks ks' within = λ array a known. known
behind_within (Loop head test body st) ks ks' within = λ array a known. known
behind_within Break ks ks' within = λ array a known. known
behind_within Continue ks ks' within = λ array a known. known
behind_within Return ks ks' within = λ array a known. known
behind_within (Call body) ks ks' within = λ array a known. known

-- an operation that is checked is so where more is known
op_checked_more : (op : Op) (ks ks' : List Known) → Within ks ks' → OpChecked ks op → OpChecked ks' op
op_checked_more (Set d a) ks ks' within checked = tt
op_checked_more (Calculate d op a b) ks ks' within checked = tt
op_checked_more (Fit d elem a) ks ks' within checked = tt
op_checked_more (Id d which a) ks ks' within checked = tt
op_checked_more (Load d array elem a) ks ks' within checked = within array a checked
op_checked_more (Store array elem a b) ks ks' within checked = within array a checked
op_checked_more (Check array a pos) ks ks' within checked = tt
op_checked_more (Barrier site) ks ks' within checked = tt
op_checked_more (If test one other) ks ks' within checked = checked
op_checked_more (Loop head test body st) ks ks' within checked = checked
op_checked_more Break ks ks' within checked = tt
op_checked_more Continue ks ks' within checked = tt
op_checked_more Return ks ks' within checked = tt
op_checked_more (Call body) ks ks' within checked = checked

-- the run of single operations in front is checked
singles_checked : (ops : Ops) (ks : List Known) → AreChecked ks ops → AreChecked ks (singles ops)
singles_checked NoOps ks checked = tt
singles_checked (AndOp op ops) ks (checked, rest) =
    cond_both (is_single op) (AndOp op (singles ops)) NoOps (AreChecked ks) (λ e. (checked, singles_checked ops (known_behind op ks) rest)) (λ e. tt)

-- nothing is known behind an operation that is not single
nothing_behind : (op : Op) (ks : List Known) → is_single op ≡ false → known_behind op ks ≡ []
nothing_behind (If test one other) ks e = refl
nothing_behind (Loop head test body st) ks e = refl
nothing_behind Break ks e = refl
nothing_behind Continue ks e = refl
nothing_behind Return ks e = refl
nothing_behind (Call body) ks e = refl
nothing_behind (Set d a) ks e = absurd (true≢false e)
nothing_behind (Calculate d op a b) ks e = absurd (true≢false e)
nothing_behind (Fit d elem a) ks e = absurd (true≢false e)
nothing_behind (Id d which a) ks e = absurd (true≢false e)
nothing_behind (Load d array elem a) ks e = absurd (true≢false e)
nothing_behind (Store array elem a b) ks e = absurd (true≢false e)
nothing_behind (Check array a pos) ks e = absurd (true≢false e)
nothing_behind (Barrier site) ks e = absurd (true≢false e)

-- ---- operations that are checked whatever is known

abbrev pub Always : Ops → Type 0
Always ops = (ks : List Known) → AreChecked ks ops

jump_checked : (f : Scope) (j : Jump) (c : Ops) → Always c → Always (jump_ops f j c)
jump_checked (InCall call) j c after ks = (tt, after (forgotten call ks))
jump_checked (InBody call first) ByBreak c after ks = (tt, (tt, after (forgotten (suc first) (forgotten first ks))))
jump_checked (InBody call first) ByContinue c after ks = (tt, after (forgotten (suc first) ks))
jump_checked (InBody call first) ByReturn c after ks = (tt, (tt, (tt, after (forgotten (suc first) (forgotten first (forgotten call ks))))))
jump_checked (InEdge call first) ByBreak c after ks = (tt, (tt, after (forgotten (suc first) (forgotten first ks))))
jump_checked (InEdge call first) ByContinue c after ks = (tt, (tt, after (forgotten (suc first) (forgotten first ks))))
jump_checked (InEdge call first) ByReturn c after ks = (tt, (tt, (tt, after (forgotten (suc first) (forgotten first (forgotten call ks))))))

passed_checked : (f : Scope) (c : Ops) → Always c → Always (passed_on f c)
passed_checked (InCall call) c after ks = after ks
passed_checked (InBody call first) c after ks = (tt, (tt, after (forgotten first (forgotten (suc first) ks))))
passed_checked (InEdge call first) c after ks = (tt, (tt, after (forgotten first (forgotten (suc first) ks))))

after_checked : (b : Bool) (f : Scope) (c : Ops) → Always c → Always (if b then passed_on f c else c)
after_checked true f c after = passed_checked f c after
after_checked false f c after = after

-- parts, which begin with nothing known
abbrev pub PartChecked : Ops → Type 0
PartChecked ops = (f : Scope) (sure : Bool) (c : Ops) → Always c → Always (flagged false f sure ops c)

none_checked : Always NoOps
none_checked ks = tt

loop_checked : (f : Scope) (sure : Bool) (head : Ops) (test : Operand) (body st c : Ops) → PartChecked head → PartChecked body → PartChecked st → Always c
    → Always (flagged_op f sure (Loop head test body st) c)
loop_checked f sure head test body st c heads bodies steps after = by_form (is_flagged sure head body st) (leaves ByContinue body)
  where
    by_form : (b k : Bool) → Always (if b then
        flagged_loop f sure (flagged false (edge_scope f) false head (tests f test)) (flagged false (body_scope f) true body NoOps) (flagged false (edge_scope f) false st NoOps)
        (if op_leaves ByReturn (Loop head test body st) then passed_on f c else c)
        else if k then
        AndOp (Loop (flagged false f true head NoOps) test (AndOp (Set (inside f) (NumberOf 1)) (flagged false (InCall (inside f)) true body NoOps))
        (flagged false f true st NoOps)) c
        else AndOp (Loop (flagged false f true head NoOps) test (flagged false f true body NoOps) (flagged false f true st NoOps)) c)
    by_form true k ks = (
      tt,
      (
        tt,
        (
          (
            heads (edge_scope f) false (tests f test) (λ ks'. (tt, tt)) [],
            (tt, bodies (body_scope f) true NoOps none_checked []),
            (tt, steps (edge_scope f) false NoOps none_checked []),
          ),
          after_checked (op_leaves ByReturn (Loop head test body st)) f c after [],
        ),
      ),
    )
    by_form false true ks = ((heads f true NoOps none_checked [], (tt, bodies (InCall (inside f)) true NoOps none_checked []), steps f true NoOps none_checked []), after [])
    by_form false false ks = ((heads f true NoOps none_checked [], bodies f true NoOps none_checked [], steps f true NoOps none_checked []), after [])

call_checked : (f : Scope) (sure : Bool) (body c : Ops) → PartChecked body → Always c → Always (flagged_op f sure (Call body) c)
call_checked f sure body c bodies after =
    cond_both (is_left body) (AndOp (Set (inside f) (alive f sure)) (flagged false (InCall (inside f)) sure body c)) (flagged false f sure body c) Always
    (λ e ks. (tt, bodies (InCall (inside f)) sure c after (forgotten (inside f) ks))) (λ e. bodies f sure c after)

-- a single operation, where nothing is known at the first of a run under a branch
guarded_checked : (f : Scope) (sure : Bool) (op : Op) (ops c : Ops) (ks ks' : List Known) → OpChecked ks op → AreChecked (known_behind op ks) ops → (sure ≡ false → ks ≡ [])
    → Within ks ks'
    → (sure ≡ true → AreChecked (known_behind op ks') c) → (sure ≡ false → AreChecked [] c) → AreChecked ks' (guarded false f sure op ops c)
guarded_checked f true op ops c ks ks' checked rest none within after after' = (op_checked_more op ks ks' within checked, after refl)
guarded_checked f false op ops c ks ks' checked rest none within after after' =
    ((subst (λ xs. AreChecked xs (AndOp op (singles ops))) (none refl) (checked, singles_checked ops (known_behind op ks) rest), tt), after' refl)

mutual
  pub flagged_checked : (ops : Ops) (f : Scope) (sure : Bool) (c : Ops) (ks ks' : List Known) → AreChecked ks ops → (sure ≡ false → ks ≡ []) → Within ks ks' → Always c
      → AreChecked ks' (flagged false f sure ops c)
  flagged_checked NoOps f sure c ks ks' checked none within after = after ks'
  flagged_checked (AndOp op ops) f sure c ks ks' (checked, rest) none within after =
      cond_both (is_single op) (guarded false f sure op ops (flagged (not sure) f sure ops c)) (flagged_op f sure op (flagged false f (sure && not (op_is_left op)) ops c))
      (AreChecked ks')
      (λ e. guarded_checked f sure op ops (flagged (not sure) f sure ops c) ks ks' checked rest none within
      (λ e'. subst (λ b. AreChecked (known_behind op ks') (flagged (not b) f b ops c)) (sym e')
      (flagged_checked ops f true c (known_behind op ks) (known_behind op ks') rest (λ e''. absurd (true≢false e'')) (behind_within op ks ks' within) after))
      (λ e'. subst (λ b. AreChecked [] (flagged (not b) f b ops c)) (sym e') (among_checked ops f c (known_behind op ks) rest after [])))
      (λ e. op_checked op e f sure (flagged false f (sure && not (op_is_left op)) ops c) ks checked
      (λ ks''. flagged_checked ops f (sure && not (op_is_left op)) c [] ks'' (subst (λ xs. AreChecked xs ops) (nothing_behind op ks e) rest) (λ e'. refl)
      (λ array a known. absurd known) after)
      ks')

  among_checked : (ops : Ops) (f : Scope) (c : Ops) (ks : List Known) → AreChecked ks ops → Always c → Always (flagged true f false ops c)
  among_checked NoOps f c ks checked after = after
  among_checked (AndOp op ops) f c ks (checked, rest) after =
      cond_both (is_single op) (flagged true f false ops c) (flagged_op f false op (flagged false f false ops c)) Always
      (λ e. among_checked ops f c (known_behind op ks) rest after)
      (λ e. op_checked op e f false (flagged false f false ops c) ks checked
      (λ ks''. flagged_checked ops f false c [] ks'' (subst (λ xs. AreChecked xs ops) (nothing_behind op ks e) rest) (λ e'. refl) (λ array a known. absurd known) after))

  op_checked : (op : Op) → is_single op ≡ false → (f : Scope) (sure : Bool) (c : Ops) (ks : List Known) → OpChecked ks op → Always c → Always (flagged_op f sure op c)
  op_checked (If test one other) e f sure c ks (first, second) after =
      λ ks'. (
        (
          flagged_checked one f sure NoOps [] [] first (λ e'. refl) (λ array a known. known) none_checked,
          flagged_checked other f sure NoOps [] [] second (λ e'. refl)
              (λ array a known. known) none_checked,
        ),
        after [],
      )
  op_checked (Loop head test body st) e f sure c ks (heads, bodies, steps) after =
      loop_checked f sure head test body st c
      (λ g b x after' ks'. flagged_checked head g b x [] ks' heads (λ e'. refl) (λ array a known. absurd known) after')
      (λ g b x after' ks'. flagged_checked body g b x [] ks' bodies (λ e'. refl) (λ array a known. absurd known) after')
      (λ g b x after' ks'. flagged_checked st g b x [] ks' steps (λ e'. refl) (λ array a known. absurd known) after') after
  op_checked (Call body) e f sure c ks checked after =
      call_checked f sure body c (λ g b x after' ks'. flagged_checked body g b x [] ks' checked (λ e'. refl) (λ array a known. absurd known) after') after
  op_checked Break e f sure c ks checked after = jump_checked f ByBreak c after
  op_checked Continue e f sure c ks checked after = jump_checked f ByContinue c after
  op_checked Return e f sure c ks checked after = jump_checked f ByReturn c after
  op_checked (Set d a) e f sure c ks checked after = absurd (true≢false e)
  op_checked (Calculate d op a b) e f sure c ks checked after = absurd (true≢false e)
  op_checked (Fit d elem a) e f sure c ks checked after = absurd (true≢false e)
  op_checked (Id d which a) e f sure c ks checked after = absurd (true≢false e)
  op_checked (Load d array elem a) e f sure c ks checked after = absurd (true≢false e)
  op_checked (Store array elem a b) e f sure c ks checked after = absurd (true≢false e)
  op_checked (Check array a pos) e f sure c ks checked after = absurd (true≢false e)
  op_checked (Barrier site) e f sure c ks checked after = absurd (true≢false e)

-- each load and each store stands behind its check, where it did so with jumps
pub flags_checked : (code : KirCode) → IsChecked code.ops → IsChecked (flags code).ops
flags_checked code checked =
    (tt, flagged_checked code.ops (InCall code.variables) true NoOps [] (forgotten code.variables []) checked (λ e. refl) (λ array a known. absurd known) none_checked)
