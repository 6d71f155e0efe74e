use Rattle.std.proofs.Common.{◌*◌, ◌∙◌, ap, [], get_or, length, arith}
use Rattle.item_acts.specs.Worlds.{state_of}
use Rattle.item_acts.proofs.Answering.{epoch_room, passed_state}
use Rattle.item_acts.proofs.held.Held.release.Goals as goal

pub raise_count-requires-clause-below : goal.raise_count-requires-clause-below
raise_count-requires-clause-below c =
    let room = epoch_room c.args.self.now c.requires.held c.args.group c.answer_all.new.lists c.requires.exists c.in_ok-answer_all.ensures.ok in
    let same = ap (λ lists. length (get_or lists (c.args.group * c.args.self.now.local) [])) c.as_slice.ensures in
    omega (arith, c.count_answers-answers.ensures)

pub returns-clause-done : goal.returns-clause-done
returns-clause-done c = λ asks point.
    ap (λ epochs. state_of (record c.args.self.now { answers = c.answer_all.new.lists; epochs = epochs })) c.raise_count.ensures
    ∙ passed_state c.args.self.now c.requires.held c.args.group c.answer_all.new.lists c.requires.exists c.in_ok-answer_all.ensures.ok asks point
