use Rattle.std.proofs.Common.{◌≡◌, ◌+◌, ◌++◌, [], drop, ap, sym, ◌∙◌, arith}
use Rattle.std.proofs.lemmas.List.{append-nil}
use Rattle.vcode.specs.Shapes.{vops_of}
use Rattle.vcode.specs.Words.{words}
use Rattle.reg_alloc.specs.Views.{starts_from}
use Rattle.reg_alloc.proofs.Starting.{none_at, starts_of}
use Rattle.reg_alloc.proofs.starts.find_starts.Goals as goal

pub returns : goal.returns
returns c =
    let ops = c.args.ops.now in
    let l = c.loop-k in
    let none : vops_of (drop l.k ops) ≡ [] = none_at ops l.k c.loop-k-test.false in
    let list : l.list.items ≡ starts_from 0 (vops_of ops) =
    sym (append-nil l.list.items) ∙ sym (ap (λ os. l.list.items ++ starts_from l.end os) none) ∙ l.invariant.0 in
    let end : l.end ≡ words (vops_of ops) = sym (let e : words (vops_of (drop l.k ops)) + l.end ≡ l.end = ap (λ os. words os + l.end) none ∙ omega arith in e) ∙ l.invariant.1 in
    record { starts = starts_of (vops_of ops) l.list.items l.end list end }
