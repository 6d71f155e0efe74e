use Rattle.std.proofs.Common.{◌∙◌, sym, ◌+◌, ◌-◌, arith, get_or, [], subst}
use Rattle.item_acts.specs.Worlds.{HaveAnswered}
use Rattle.item_acts.proofs.Answering.{answered_less, answered_all_back}
use Rattle.item_acts.proofs.passing.take_back.Goals as goal

pub loop-k-preserved : goal.loop-k-preserved
loop-k-preserved c = (
  c.drop_answer.ensures.same_length ∙ c.loop-k.invariant.0,
  λ old h.
      let done = c.loop-k.invariant.1 old h in
      let own = done.inside (c.args.first + c.loop-k.k) (omega arith) (omega arith) in
      let left = c.drop_answer.ensures.dropped (get_or old (c.args.first + c.loop-k.k) []) 0 own in
      subst (HaveAnswered (c.args.first + (c.loop-k.k + 1)) (c.args.count - (c.loop-k.k + 1)) old) (sym left)
      (answered_less (c.args.first + c.loop-k.k) (c.args.count - c.loop-k.k) (c.args.count - (c.loop-k.k + 1)) (c.args.first + (c.loop-k.k + 1)) old c.loop-k.lists done
      (let same = c.loop-k.invariant.0 in let fits = c.requires in omega arith) (omega arith) (omega arith)),
)

pub returns : goal.returns
returns c = λ old h. answered_all_back (c.args.first + c.loop-k.k) (c.args.count - c.loop-k.k) old c.loop-k.lists (c.loop-k.invariant.1 old h) (omega arith)
