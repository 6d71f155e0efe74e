use Rattle.vx_words.proofs.WordParts.{IsParts-buffer, IsParts-launch, IsParts-show}
use Rattle.vx_words.proofs.form.parts_of.Goals as goal

pub loop-word-preserved-in-Continue-1 : goal.loop-word-preserved-in-Continue-1
loop-word-preserved-in-Continue-1 c =
    let h = IsParts-buffer _ _ _ _ c.loop-word.invariant c.in-Buf.buffer in
    rw (c.in-Buf.is, c.in_ok-push-in-Buf.ensures.items) h

pub loop-word-preserved-in-Continue-branch-2 : goal.loop-word-preserved-in-Continue-branch-2
loop-word-preserved-in-Continue-branch-2 c =
    let h = IsParts-launch _ _ _ _ c.loop-word.invariant c.in-Do.launch in
    rw (c.in-Do.is, c.in_ok-push-in-Do.ensures.items) h

pub loop-word-preserved : goal.loop-word-preserved
loop-word-preserved c =
    let h = IsParts-show _ _ _ _ c.loop-word.invariant c.in-Print.name in
    rw (c.in-Print.is, c.in_ok-push-in-Print.ensures.items) h
