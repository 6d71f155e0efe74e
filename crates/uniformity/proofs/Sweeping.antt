-- A sweep takes no mark of any closed set, and marks that a sweep leaves as they are are closed.
use Rattle.std.proofs.Common.{◌≡◌, ℕ, zero, suc, ◌<◌, ◌≤◌, Bool, true, false, ◌&&◌, ◌≢◌, List, [], ◌∷◌, length, replicate, ◌⊎◌, inl, inr, slice_set, Option, None, Some, refl, sym, ap, ◌∙◌, subst, arith}
use Rattle.std.specs.Prelude.{slice_index_or}
use Rattle.std.proofs.lemmas.Bool.{false≢true}
use Rattle.ocl_ast.specs.declared.units.Param.{Param}
use Rattle.ocl_program.specs.declared.exprs.ArrayRef.{ArrayRef}
use Rattle.ocl_program.specs.declared.exprs.Builtin.{Builtin}
use Rattle.ocl_program.specs.declared.exprs.Builtin.TheVariants as b
use Rattle.kir.specs.Trees.{Operand, VariableOf, NumberOf, Op, Set, Calculate, Fit, Id, Load, Store, Check, Barrier, If, Loop, Break, Continue, Return, Call, Ops, NoOps, AndOp, KirCode}
use Rattle.uniformity.specs.Marks.{is_uniform, is_constant, is_of_group, gives_uniform, target, OnlyIf, AreClosed, OpClosed, IsClosed, AreWithin, AreGreatest, marked}
use Rattle.uniformity.specs.Sweeps.{swept_target, under_test, swept, swept_op, mark_count}

-- ---- Bool

-- what holds in one way holds in the other
abbrev Follows : Bool → Bool → Type 0
Follows a b = a ≡ true → b ≡ true

both_follow : (a b a' b' : Bool) → Follows a a' → Follows b b' → Follows (a && b) (a' && b')
both_follow true true a' b' f g e = ap (λ x. x && b') (f refl) ∙ g refl
both_follow true false a' b' f g e = absurd (false≢true e)
both_follow false b a' b' f g e = absurd (false≢true e)

uniform_follows : (others marks : ℕ → Bool) (a : Operand) → AreWithin others marks → Follows (is_uniform others a) (is_uniform marks a)
uniform_follows others marks (VariableOf k) within e = within k e
uniform_follows others marks (NumberOf n) within e = refl

group_follows : (which : Builtin) (x y : Bool) → Follows x y → Follows (is_of_group which x) (is_of_group which y)
group_follows b.WorkDim x y f e = refl
group_follows b.GlobalId x y f e = e
group_follows b.LocalId x y f e = e
group_follows b.GroupId x y f e = f e
group_follows b.GlobalSize x y f e = f e
group_follows b.LocalSize x y f e = f e
group_follows b.NumGroups x y f e = f e
group_follows b.GlobalOffset x y f e = f e
group_follows b.Min x y f e = f e
group_follows b.Max x y f e = f e
group_follows b.Clamp x y f e = f e
group_follows b.Abs x y f e = f e
group_follows b.MulHi x y f e = f e

gives_follows : (params : List Param) (others marks : ℕ → Bool) (op : Op) → AreWithin others marks
    → Follows (gives_uniform params others op) (gives_uniform params marks op)
gives_follows params others marks (Set d a) within e = uniform_follows others marks a within e
gives_follows params others marks (Calculate d op a b) within e =
    both_follow (is_uniform others a) (is_uniform others b) _ _ (uniform_follows others marks a within) (uniform_follows others marks b within) e
gives_follows params others marks (Fit d elem a) within e = uniform_follows others marks a within e
gives_follows params others marks (Id d which a) within e = group_follows which _ _ (uniform_follows others marks a within) e
gives_follows params others marks (Load d array elem a) within e =
    both_follow (is_constant params array) (is_uniform others a) _ _ (λ x. x) (uniform_follows others marks a within) e
gives_follows params others marks op within e = refl

-- ---- marks that are taken off

off_there : (ms : List Bool) (d : ℕ) → marked (slice_set ms d false) d ≡ false
off_there [] d = refl
off_there (m ∷ ms) zero = refl
off_there (m ∷ ms) (suc d) = off_there ms d

off_keeps : (ms : List Bool) (d k : ℕ) → marked ms k ≡ true → (k ≡ d → ⊥) → marked (slice_set ms d false) k ≡ true
off_keeps [] d k e other = e
off_keeps (m ∷ ms) zero zero e other = absurd (other refl)
off_keeps (m ∷ ms) zero (suc k) e other = e
off_keeps (m ∷ ms) (suc d) zero e other = e
off_keeps (m ∷ ms) (suc d) (suc k) e other = off_keeps ms d k e (λ q. other (ap suc q))

-- marks are as they were, or there are fewer
abbrev Fell : List Bool → List Bool → Type 0
Fell after before = (after ≡ before) ⊎ (mark_count after < mark_count before)

fell_through : (c b a : List Bool) → Fell c b → Fell b a → Fell c a
fell_through c b a (inl e) (inl q) = inl (e ∙ q)
fell_through c b a (inl e) (inr h) = inr (subst (λ x. mark_count x < mark_count a) (sym e) h)
fell_through c b a (inr h) (inl e) = inr (subst (λ x. mark_count c < mark_count x) e h)
fell_through c b a (inr h) (inr h') = inr (omega arith)

fell_count : (b a : List Bool) → Fell b a → mark_count b ≤ mark_count a
fell_count b a (inl e) = let q : mark_count b ≡ mark_count a = ap mark_count e in omega arith
fell_count b a (inr h) = omega arith

-- where marks stay through two falls, they stay through each
first_stays : (c b a : List Bool) → Fell c b → Fell b a → c ≡ a → b ≡ a
first_stays c b a f (inl e) same = e
first_stays c b a f (inr h) same =
    let q : mark_count c ≡ mark_count a = ap mark_count same in
    let h' : mark_count c ≤ mark_count b = fell_count c b f in
    absurd (omega arith)

more_fell : (m : Bool) (b a : List Bool) → Fell b a → Fell (m ∷ b) (m ∷ a)
more_fell m b a (inl e) = inl (ap (λ xs. m ∷ xs) e)
more_fell true b a (inr h) = inr (omega arith)
more_fell false b a (inr h) = inr h

counted : (b a : List Bool) → Fell b a → mark_count b ≡ mark_count a → b ≡ a
counted b a (inl e) same = e
counted b a (inr h) same = absurd (omega arith)

fewer : (b a : List Bool) → Fell b a → mark_count b ≢ mark_count a → mark_count b < mark_count a
fewer b a (inl e) other = absurd (other (ap mark_count e))
fewer b a (inr h) other = h

off_fell : (ms : List Bool) (d : ℕ) → Fell (slice_set ms d false) ms
off_fell [] d = inl refl
off_fell (true ∷ ms) zero = inr (omega arith)
off_fell (false ∷ ms) zero = inl refl
off_fell (true ∷ ms) (suc d) = more_fell true (slice_set ms d false) ms (off_fell ms d)
off_fell (false ∷ ms) (suc d) = more_fell false (slice_set ms d false) ms (off_fell ms d)

target_fell : (may : Bool) (at : Option ℕ) (ms : List Bool) → Fell (swept_target may at ms) ms
target_fell true at ms = inl refl
target_fell false None ms = inl refl
target_fell false (Some d) ms = off_fell ms d

mutual
  swept_fell : (params : List Param) (same : Bool) (ops : Ops) (ms : List Bool) → Fell (swept params same ops ms) ms
  swept_fell params same NoOps ms = inl refl
  swept_fell params same (AndOp op ops) ms =
      fell_through _ (swept_op params same op ms) ms (swept_fell params same ops (swept_op params same op ms)) (op_fell params same op ms)

  op_fell : (params : List Param) (same : Bool) (op : Op) (ms : List Bool) → Fell (swept_op params same op ms) ms
  op_fell params same (If test one other) ms =
      let u = under_test ms same test in
      fell_through _ (swept params u one ms) ms (swept_fell params u other (swept params u one ms)) (swept_fell params u one ms)
  op_fell params same (Loop head test body step) ms =
      let u = under_test ms same test in
      let h = swept params u head ms in
      let b = swept params u body h in
      fell_through _ h ms (fell_through _ b h (swept_fell params u step b) (swept_fell params u body h)) (swept_fell params u head ms)
  op_fell params same (Call body) ms = swept_fell params same body ms
  op_fell params same op ms = target_fell (same && gives_uniform params (marked ms) op) (target op) ms

-- ---- marks that a sweep leaves as they are

target_steady : (may : Bool) (at : Option ℕ) (ms : List Bool) → swept_target may at ms ≡ ms → OnlyIf may (marked ms) at
target_steady may None ms e = tt
target_steady true (Some d) ms e = λ m. refl
target_steady false (Some d) ms e = λ m. absurd (false≢true (sym (off_there ms d) ∙ ap (λ xs. marked xs d) e ∙ m))

mutual
  steady_closed : (params : List Param) (same : Bool) (ops : Ops) (ms : List Bool) → swept params same ops ms ≡ ms → AreClosed params (marked ms) same ops
  steady_closed params same NoOps ms e = tt
  steady_closed params same (AndOp op ops) ms e =
      let b = swept_op params same op ms in
      let first : b ≡ ms = first_stays _ b ms (swept_fell params same ops b) (op_fell params same op ms) e in
      (steady_op params same op ms first, steady_closed params same ops ms (ap (swept params same ops) (sym first) ∙ e))

  steady_op : (params : List Param) (same : Bool) (op : Op) (ms : List Bool) → swept_op params same op ms ≡ ms → OpClosed params (marked ms) same op
  steady_op params same (If test one other) ms e =
      let u = under_test ms same test in
      let b = swept params u one ms in
      let first : b ≡ ms = first_stays _ b ms (swept_fell params u other b) (swept_fell params u one ms) e in
      (steady_closed params u one ms first, steady_closed params u other ms (ap (swept params u other) (sym first) ∙ e))
  steady_op params same (Loop head test body step) ms e =
      let u = under_test ms same test in
      let h = swept params u head ms in
      let b = swept params u body h in
      let first : h ≡ ms =
      first_stays _ h ms (fell_through _ b h (swept_fell params u step b) (swept_fell params u body h)) (swept_fell params u head ms) e in
      let rest : swept params u step (swept params u body ms) ≡ ms = ap (λ x. swept params u step (swept params u body x)) (sym first) ∙ e in
      let second : swept params u body ms ≡ ms =
      first_stays _ (swept params u body ms) ms (swept_fell params u step (swept params u body ms)) (swept_fell params u body ms) rest in
      (steady_closed params u head ms first, steady_closed params u body ms second, steady_closed params u step ms (ap (swept params u step) (sym second) ∙ rest))
  steady_op params same (Call body) ms e = steady_closed params same body ms e
  steady_op params same (Set d a) ms e = target_steady (same && gives_uniform params (marked ms) (Set d a)) (Some d) ms e
  steady_op params same (Calculate d op a b) ms e = target_steady (same && gives_uniform params (marked ms) (Calculate d op a b)) (Some d) ms e
  steady_op params same (Fit d elem a) ms e = target_steady (same && gives_uniform params (marked ms) (Fit d elem a)) (Some d) ms e
  steady_op params same (Id d which a) ms e = target_steady (same && gives_uniform params (marked ms) (Id d which a)) (Some d) ms e
  steady_op params same (Load d array elem a) ms e = target_steady (same && gives_uniform params (marked ms) (Load d array elem a)) (Some d) ms e
  steady_op params same (Store array elem a b) ms e = tt
  steady_op params same (Check array a pos) ms e = tt
  steady_op params same (Barrier site) ms e = tt
  steady_op params same Break ms e = tt
  steady_op params same Continue ms e = tt
  steady_op params same Return ms e = tt

-- ---- marks of closed sets

target_keeps : (may may' : Bool) (at : Option ℕ) (others : ℕ → Bool) (ms : List Bool) → Follows may may' → AreWithin others (marked ms) → OnlyIf may others at
    → AreWithin others (marked (swept_target may' at ms))
target_keeps may true at others ms f within only = within
target_keeps may false None others ms f within only = within
target_keeps may false (Some d) others ms f within only =
    λ k e. off_keeps ms d k (within k e) (λ q. false≢true (f (only (subst (λ x. others x ≡ true) q e))))

single_keeps : (params : List Param) (others : ℕ → Bool) (s s' : Bool) (op : Op) (ms : List Bool) → Follows s s' → AreWithin others (marked ms)
    → OnlyIf (s && gives_uniform params others op) others (target op)
    → AreWithin others (marked (swept_target (s' && gives_uniform params (marked ms) op) (target op) ms))
single_keeps params others s s' op ms f within only =
    target_keeps (s && gives_uniform params others op) (s' && gives_uniform params (marked ms) op) (target op) others ms
    (both_follow s (gives_uniform params others op) s' (gives_uniform params (marked ms) op) f (gives_follows params others (marked ms) op within))
    within only

mutual
  sweep_keeps : (params : List Param) (others : ℕ → Bool) (s s' : Bool) (ops : Ops) (ms : List Bool) → Follows s s' → AreWithin others (marked ms)
      → AreClosed params others s ops → AreWithin others (marked (swept params s' ops ms))
  sweep_keeps params others s s' NoOps ms f within closed = within
  sweep_keeps params others s s' (AndOp op ops) ms f within closed =
      sweep_keeps params others s s' ops (swept_op params s' op ms) f (op_keeps params others s s' op ms f within closed.0) closed.1

  op_keeps : (params : List Param) (others : ℕ → Bool) (s s' : Bool) (op : Op) (ms : List Bool) → Follows s s' → AreWithin others (marked ms)
      → OpClosed params others s op → AreWithin others (marked (swept_op params s' op ms))
  op_keeps params others s s' (If test one other) ms f within closed =
      let u = s && is_uniform others test in
      let u' = under_test ms s' test in
      let g : Follows u u' = both_follow s (is_uniform others test) s' (is_uniform (marked ms) test) f (uniform_follows others (marked ms) test within) in
      sweep_keeps params others u u' other (swept params u' one ms) g (sweep_keeps params others u u' one ms g within closed.0) closed.1
  op_keeps params others s s' (Loop head test body step) ms f within closed =
      let u = s && is_uniform others test in
      let u' = under_test ms s' test in
      let g : Follows u u' = both_follow s (is_uniform others test) s' (is_uniform (marked ms) test) f (uniform_follows others (marked ms) test within) in
      let h = swept params u' head ms in
      let b = swept params u' body h in
      sweep_keeps params others u u' step b g (sweep_keeps params others u u' body h g (sweep_keeps params others u u' head ms g within closed.0) closed.1) closed.2
  op_keeps params others s s' (Call body) ms f within closed = sweep_keeps params others s s' body ms f within closed
  op_keeps params others s s' (Set d a) ms f within closed = single_keeps params others s s' (Set d a) ms f within closed
  op_keeps params others s s' (Calculate d op a b) ms f within closed = single_keeps params others s s' (Calculate d op a b) ms f within closed
  op_keeps params others s s' (Fit d elem a) ms f within closed = single_keeps params others s s' (Fit d elem a) ms f within closed
  op_keeps params others s s' (Id d which a) ms f within closed = single_keeps params others s s' (Id d which a) ms f within closed
  op_keeps params others s s' (Load d array elem a) ms f within closed = single_keeps params others s s' (Load d array elem a) ms f within closed
  op_keeps params others s s' (Store array elem a b) ms f within closed = single_keeps params others s s' (Store array elem a b) ms f within closed
  op_keeps params others s s' (Check array a pos) ms f within closed = single_keeps params others s s' (Check array a pos) ms f within closed
  op_keeps params others s s' (Barrier site) ms f within closed = single_keeps params others s s' (Barrier site) ms f within closed
  op_keeps params others s s' Break ms f within closed = single_keeps params others s s' Break ms f within closed
  op_keeps params others s s' Continue ms f within closed = single_keeps params others s s' Continue ms f within closed
  op_keeps params others s s' Return ms f within closed = single_keeps params others s s' Return ms f within closed

-- ---- the whole

-- Marks between sweeps: of variables that the kernel has, with those of every closed set.
pub record AreAbove (code : KirCode) (ms : List Bool) : Type 0 where
  pub as_many : length ms ≡ code.variables
  pub above : (others : ℕ → Bool) → IsClosed code others → AreWithin others (marked ms)

length_off : (ms : List Bool) (d : ℕ) → length (slice_set ms d false) ≡ length ms
length_off [] d = refl
length_off (m ∷ ms) zero = refl
length_off (m ∷ ms) (suc d) = ap suc (length_off ms d)

length_target : (may : Bool) (at : Option ℕ) (ms : List Bool) → length (swept_target may at ms) ≡ length ms
length_target true at ms = refl
length_target false None ms = refl
length_target false (Some d) ms = length_off ms d

mutual
  length_swept : (params : List Param) (same : Bool) (ops : Ops) (ms : List Bool) → length (swept params same ops ms) ≡ length ms
  length_swept params same NoOps ms = refl
  length_swept params same (AndOp op ops) ms = length_swept params same ops (swept_op params same op ms) ∙ length_op params same op ms

  length_op : (params : List Param) (same : Bool) (op : Op) (ms : List Bool) → length (swept_op params same op ms) ≡ length ms
  length_op params same (If test one other) ms =
      let u = under_test ms same test in length_swept params u other (swept params u one ms) ∙ length_swept params u one ms
  length_op params same (Loop head test body step) ms =
      let u = under_test ms same test in
      let h = swept params u head ms in
      length_swept params u step (swept params u body h) ∙ length_swept params u body h ∙ length_swept params u head ms
  length_op params same (Call body) ms = length_swept params same body ms
  length_op params same op ms = length_target (same && gives_uniform params (marked ms) op) (target op) ms

inside_length : (ms : List Bool) (k : ℕ) → marked ms k ≡ true → k < length ms
inside_length [] k e = absurd (false≢true e)
inside_length (m ∷ ms) zero e = omega arith
inside_length (m ∷ ms) (suc k) e = let h : k < length ms = inside_length ms k e in omega arith

all_marked : (n k : ℕ) → k < n → marked (replicate n true) k ≡ true
all_marked zero k h = absurd (omega arith)
all_marked (suc n) zero h = refl
all_marked (suc n) (suc k) h = all_marked n k (omega arith)

length_all : (n : ℕ) → length (replicate n true) ≡ n
length_all zero = refl
length_all (suc n) = ap suc (length_all n)

pub all_above : (code : KirCode) → AreAbove code (replicate code.variables true)
all_above code = record {
  as_many = length_all code.variables;
  above = λ others closed k e. all_marked code.variables k (closed.inside k e);
}

pub sweep_above : (code : KirCode) (ms : List Bool) → AreAbove code ms → AreAbove code (swept code.params true code.ops ms)
sweep_above code ms are = record {
  as_many = length_swept code.params true code.ops ms ∙ are.as_many;
  above = λ others closed. sweep_keeps code.params others true true code.ops ms (λ e. e) (are.above others closed) closed.closed;
}

-- no mark fell: the marks are the greatest closed set
pub last_sweep : (code : KirCode) (ms : List Bool) → AreAbove code ms → mark_count (swept code.params true code.ops ms) ≡ mark_count ms
    → AreGreatest code (marked (swept code.params true code.ops ms))
last_sweep code ms are count =
    let now = swept code.params true code.ops ms in
    let stays : now ≡ ms = counted now ms (swept_fell code.params true code.ops ms) count in
    let now_above : AreAbove code now = sweep_above code ms are in
    record {
      closed = record {
        inside = λ k e. subst (λ n. k < n) now_above.as_many (inside_length now k e);
        closed = steady_closed code.params true code.ops now (ap (swept code.params true code.ops) stays);
      };
      greatest = now_above.above;
    }

-- a mark fell, so that fewer are left
pub sweep_fewer : (code : KirCode) (ms : List Bool) → mark_count (swept code.params true code.ops ms) ≢ mark_count ms
    → mark_count (swept code.params true code.ops ms) < mark_count ms
sweep_fewer code ms other = fewer (swept code.params true code.ops ms) ms (swept_fell code.params true code.ops ms) other

-- the same, where a sweep is seen as what it is called with
pub none_fell : (code : KirCode) (old new : List Bool) → new ≡ swept code.params true code.ops old → AreAbove code old → mark_count new ≡ mark_count old
    → AreGreatest code (marked new)
none_fell code old new e are same =
    subst (λ ms. AreGreatest code (marked ms)) (sym e) (last_sweep code old are (ap mark_count (sym e) ∙ same))

pub some_fell : (code : KirCode) (old new : List Bool) → new ≡ swept code.params true code.ops old → mark_count new ≢ mark_count old
    → mark_count new < mark_count old
some_fell code old new e other =
    subst (λ ms. mark_count ms < mark_count old) (sym e) (sweep_fewer code old (λ q. other (ap mark_count e ∙ q)))

pub still_above : (code : KirCode) (old new : List Bool) → new ≡ swept code.params true code.ops old → AreAbove code old → AreAbove code new
still_above code old new e are = subst (AreAbove code) (sym e) (sweep_above code old are)
