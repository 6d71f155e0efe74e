use Rattle.item_acts.proofs.RaceTests.{share_global_test, share_local_test}
use Rattle.item_acts.proofs.races.share_byte.Goals as goal

pub returns-else-buffer-other_buffer : goal.returns-else-buffer-other_buffer
returns-else-buffer-other_buffer c =
    rw (c.in-Global.is, c.in-Global-other.is) (share_global_test _ _ _ _ _ _ _ c.if-buffer-other_buffer.false c.overlap.ensures)

pub returns-else-array-other_array : goal.returns-else-array-other_array
returns-else-array-other_array c =
    rw (c.in-Local.is, c.in-Local-other-2.is) (share_local_test _ _ _ _ _ _ _ _ _ c.if-group-other_group.false c.if-array-other_array.false c.overlap-in-Local-other-2.ensures)
