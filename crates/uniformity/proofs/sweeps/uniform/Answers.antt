use Rattle.std.proofs.Common.{◌≡◌, ◌≢◌, ◌<◌, ℕ, true, List, Bool, refl, sym, ap, ◌∙◌, subst, arith}
use Rattle.kir.specs.declared.ops.Kir.{Kir}
use Rattle.kir.specs.declared.ops.Op.{Op}
use Rattle.ocl_ast.specs.declared.units.Param.{Param}
use Rattle.kir.specs.Shapes.{code_of, ops_of}
use Rattle.uniformity.specs.Marks.{AreGreatest, marked}
use Rattle.uniformity.specs.Sweeps.{mark_count, swept}
use Rattle.uniformity.proofs.Law.{closed_agree}
use Rattle.uniformity.proofs.Sweeping.{none_fell, some_fell, still_above}
use Rattle.uniformity.proofs.sweeps.uniform.Goals as goal

seen : (params params' : List Param) (ops ops' : List Op) (old new : List Bool) → new ≡ swept params true (ops_of ops) old → params ≡ params' → ops ≡ ops'
    → new ≡ swept params' true (ops_of ops') old
seen params params' ops ops' old new e p q = e ∙ ap (λ ps. swept ps true (ops_of ops) old) p ∙ ap (λ os. swept params' true (ops_of os) old) q

pub returns-then-count-left : goal.returns-then-count-left
returns-then-count-left c =
    let e = seen _ _ _ _ _ _ c.sweep.ensures c.as_slice.ensures c.as_slice-in-loop-left.ensures.value in
    let same : mark_count c.sweep.new.marks ≡ mark_count c.loop-left.marks = sym c.count-count.ensures ∙ c.if-count-left.true ∙ c.loop-left.invariant.0 in
    let greatest : AreGreatest (code_of c.args.code.now) (marked c.sweep.new.marks) =
    none_fell (code_of c.args.code.now) c.loop-left.marks c.sweep.new.marks e c.loop-left.invariant.1 same in
    record { greatest = greatest; agree = closed_agree (code_of c.args.code.now) (marked c.sweep.new.marks) greatest.closed }

pub loop-left-smaller : goal.loop-left-smaller
loop-left-smaller c =
    let e = seen _ _ _ _ _ _ c.sweep.ensures c.as_slice.ensures c.as_slice-in-loop-left.ensures.value in
    let count : c.count-count.result ≡ mark_count c.sweep.new.marks = c.count-count.ensures in
    let left : c.loop-left.left ≡ mark_count c.loop-left.marks = c.loop-left.invariant.0 in
    let other : c.count-count.result ≢ c.loop-left.left = c.if-count-left.false in
    let fewer : mark_count c.sweep.new.marks < mark_count c.loop-left.marks =
    some_fell (code_of c.args.code.now) c.loop-left.marks c.sweep.new.marks e (λ q. other (count ∙ q ∙ sym left)) in
    omega arith

pub loop-left-preserved : goal.loop-left-preserved
loop-left-preserved c =
    let e = seen _ _ _ _ _ _ c.sweep.ensures c.as_slice.ensures c.as_slice-in-loop-left.ensures.value in
    (c.count-count.ensures, still_above (code_of c.args.code.now) c.loop-left.marks c.sweep.new.marks e c.loop-left.invariant.1)
