use Rattle.item_acts.proofs.world.World.laws_apply.Goals as goal

pub returns-clause-settled : goal.returns-clause-settled
returns-clause-settled g c = record {
  more = λ item answers n k action asked. g.met.C.ItemCode.settles c.args.self.now.code item answers n k action asked;
}
