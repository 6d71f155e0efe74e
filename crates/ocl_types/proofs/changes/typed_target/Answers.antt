use Rattle.ocl_types.specs.Tables.{trees_of}
use Rattle.ocl_types.proofs.Rules.{target_named}
use Rattle.ocl_types.proofs.changes.typed_target.Goals as goal

pub returns-in-Name : goal.returns-in-Name
returns-in-Name c =
    target_named c.assigned_name.result (trees_of c.args.functions.now.functions.now) c.args.scopes.now c.args.calls.now.items c.args.target.now c.in-Name.name c.as_slice.result.now c.meaning_of.result
    c.in-Name.is c.as_slice.ensures c.meaning_of.ensures (c.assigned_name.ensures c.args.calls.now.items)
