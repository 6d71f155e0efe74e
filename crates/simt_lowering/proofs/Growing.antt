-- Operations end behind their start, and so do the parts of a branch or a loop.
use Rattle.std.proofs.Common.{ℕ, zero, suc, ◌<◌, ◌≤◌, Bool, true, false, arith}
use Rattle.ocl_program.specs.declared.exprs.Builtin.{Builtin}
use Rattle.ocl_program.specs.declared.exprs.Builtin.TheVariants.{WorkDim, GlobalId, LocalId, GroupId, GlobalSize, LocalSize, NumGroups, GlobalOffset, Min, Max, Clamp, Abs, MulHi}
use Rattle.kir.specs.Trees.{Operand, Op, Set, Calculate, Fit, Id, Load, Store, Check, Barrier, If, Loop, Break, Continue, Return, Call, Ops, NoOps, AndOp}
use Rattle.uniformity.specs.Marks.{is_uniform}
use Rattle.simt_lowering.specs.Lowered.{Part, further, past, one_place, other_place, meet_place, if_end, step_place, head_place, body_place, loop_end, ops_end, op_end, id_count, id_end, check_end}

pub past_grows : (u : Bool) (p : ℕ) → p ≤ past u p
past_grows true p = omega arith
past_grows false p = omega arith

pub further_grows : (count p : ℕ) → p ≤ further count p
further_grows zero p = omega arith
further_grows (suc count) p = let h : suc p ≤ further count (suc p) = further_grows count (suc p) in omega arith

-- a part ends behind its start
abbrev pub Grows : Part → Type 0
Grows part = (p : ℕ) → p ≤ part.end p

-- the places of a branch in order
pub other_low : (u : Bool) (one : Part) (p : ℕ) → Grows one → p < other_place u one p
other_low u one p grows = let h : p ≤ past u p = past_grows u p in let h' : one_place u p ≤ one.end (one_place u p) = grows (one_place u p) in omega arith

pub meet_low : (u : Bool) (one other : Part) (p : ℕ) → Grows other → other_place u one p ≤ meet_place u one other p
meet_low u one other p grows = grows (other_place u one p)

pub if_grows : (u : Bool) (one other : Part) (p : ℕ) → meet_place u one other p ≤ if_end u one other p
if_grows u one other p = past_grows u (meet_place u one other p)

-- the places of a loop in order
pub step_low : (u : Bool) (p : ℕ) → p < step_place u p
step_low u p = let h : suc p ≤ past u (suc p) = past_grows u (suc p) in omega arith

pub head_low : (u : Bool) (step : Part) (p : ℕ) → Grows step → step_place u p ≤ head_place u step p
head_low u step p grows = grows (step_place u p)

pub body_low : (u : Bool) (step head : Part) (p : ℕ) → Grows head → head_place u step p < body_place u step head p
body_low u step head p grows =
    let h : head_place u step p ≤ head.end (head_place u step p) = grows (head_place u step p) in
    let h' : head.end (head_place u step p) ≤ past u (head.end (head_place u step p)) = past_grows u (head.end (head_place u step p)) in omega arith

pub loop_low : (u : Bool) (step head body : Part) (p : ℕ) → Grows body → body_place u step head p < loop_end u step head body p
loop_low u step head body p grows = let h : body_place u step head p ≤ body.end (body_place u step head p) = grows (body_place u step head p) in omega arith

pub check_grows : (u : Bool) (p : ℕ) → further 2 (past u p) ≤ check_end u p
check_grows u p = past_grows u (further 2 (past u p))

pub three : (a b c : ℕ) → a ≤ b → b ≤ c → a ≤ c
three a b c h h' = omega arith

pub if_sum : (p other meet end : ℕ) → p < other → other ≤ meet → meet ≤ end → p ≤ end
if_sum p other meet end h h' h'' = omega arith

pub loop_sum : (p step head body end : ℕ) → p < step → step ≤ head → head < body → body < end → p ≤ end
loop_sum p step head body end h h' h'' g = omega arith

pub id_grows : (which : Builtin) (a : Operand) (p : ℕ) → p ≤ id_end which a p
id_grows WorkDim a p = further_grows 1 p
id_grows GlobalId a p = further_grows (id_count 3 7 a) p
id_grows LocalId a p = further_grows (id_count 3 7 a) p
id_grows GroupId a p = further_grows (id_count 1 4 a) p
id_grows LocalSize a p = further_grows (id_count 1 6 a) p
id_grows GlobalSize a p = further_grows (id_count 1 6 a) p
id_grows NumGroups a p = further_grows (id_count 1 6 a) p
id_grows GlobalOffset a p = further_grows 1 p
id_grows Min a p = further_grows 1 p
id_grows Max a p = further_grows 1 p
id_grows Clamp a p = further_grows 1 p
id_grows Abs a p = further_grows 1 p
id_grows MulHi a p = further_grows 1 p

module _ (marks : ℕ → Bool) where
  abbrev pub part : Ops → Part
  part ops = record { end = ops_end marks ops; code = λ q c. c }

  mutual
    pub ops_grow : (ops : Ops) (p : ℕ) → p ≤ ops_end marks ops p
    ops_grow NoOps p = omega arith
    ops_grow (AndOp op ops) p = three p (op_end marks op p) (ops_end marks ops (op_end marks op p)) (op_grows op p) (ops_grow ops (op_end marks op p))

    pub op_grows : (op : Op) (p : ℕ) → p ≤ op_end marks op p
    op_grows (Set d a) p = further_grows 1 p
    op_grows (Calculate d op a b) p = further_grows 1 p
    op_grows (Fit d elem a) p = further_grows 1 p
    op_grows (Id d which a) p = id_grows which a p
    op_grows (Load d array elem a) p = further_grows 4 p
    op_grows (Store array elem a b) p = further_grows 4 p
    op_grows (Check array a pos) p =
        three p (further 2 (past (is_uniform marks a) (further 2 p))) (check_end (is_uniform marks a) (further 2 p))
        (three p (past (is_uniform marks a) (further 2 p)) _ (three p (further 2 p) _ (further_grows 2 p) (past_grows (is_uniform marks a) (further 2 p))) (further_grows 2 (past (is_uniform marks a) (further 2 p))))
        (check_grows (is_uniform marks a) (further 2 p))
    op_grows (Barrier site) p = further_grows 1 p
    op_grows (If t one other) p =
        if_sum p (other_place (is_uniform marks t) (part one) p) (meet_place (is_uniform marks t) (part one) (part other) p) (if_end (is_uniform marks t) (part one) (part other) p)
        (other_low (is_uniform marks t) (part one) p (λ q. ops_grow one q)) (meet_low (is_uniform marks t) (part one) (part other) p (λ q. ops_grow other q))
        (if_grows (is_uniform marks t) (part one) (part other) p)
    op_grows (Loop head t body step) p =
        loop_sum p (step_place (is_uniform marks t) p) (head_place (is_uniform marks t) (part step) p) (body_place (is_uniform marks t) (part step) (part head) p)
        (loop_end (is_uniform marks t) (part step) (part head) (part body) p)
        (step_low (is_uniform marks t) p) (head_low (is_uniform marks t) (part step) p (λ q. ops_grow step q)) (body_low (is_uniform marks t) (part step) (part head) p (λ q. ops_grow head q))
        (loop_low (is_uniform marks t) (part step) (part head) (part body) p (λ q. ops_grow body q))
    op_grows Break p = omega arith
    op_grows Continue p = omega arith
    op_grows Return p = omega arith
    op_grows (Call body) p = omega arith
