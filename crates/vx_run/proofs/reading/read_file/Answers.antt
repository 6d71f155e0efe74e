use Rattle.std.proofs.Common.{◌≡◌, ◌∙◌}
use Rattle.vx_run.proofs.ReadingLaws.{front_read}
use Rattle.vx_run.proofs.reading.read_file.Goals as goal

pub returns-in-Ok-clause-front : goal.returns-in-Ok-clause-front
returns-in-Ok-clause-front g c =
    let same : c.deref.result.now ≡ c.args.name.now = c.deref.ensures.value ∙ c.name.view_is in
    rw (same) at (front_read (g.F.Files.held c.args.files.now) c.deref.result.now c.args.most c.in-Ok.bytes.items c.in-Ok.ensures.told c.in-Ok.ensures.bound)
