use Rattle.std.proofs.Common.{sym}
use Rattle.ocl_types.proofs.TableLaws.{entry_is_added}
use Rattle.ocl_types.proofs.scopes.NameTable.add.Goals as goal

pub returns : goal.returns
returns c = entry_is_added c.self.inside.names c.insert.new.self.entries c.args.self.now c.args.name c.args.binding (sym c.self.view_is) c.requires c.in_ok-insert.ensures.entries
