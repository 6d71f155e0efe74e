use Rattle.std.proofs.Common.{sym}
use Rattle.vx_asm.proofs.LabelLaws.{label_is_added}
use Rattle.vx_asm.proofs.labels.Labels.add.Goals as goal

pub returns-clause-added : goal.returns-clause-added
returns-clause-added c = label_is_added c.self.inside.places c.insert.new.self.entries c.args.self.now c.args.name c.args.word (sym c.self.view_is) c.requires c.in_ok-insert.ensures.entries
