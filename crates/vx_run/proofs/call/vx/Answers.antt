use Rattle.std.proofs.Common.{map, string_bytes, subst}
use Rattle.vx_run.specs.Answers.{FromWords}
use Rattle.vx_run.specs.Delivery.{Delivers}
use Rattle.vx_run.specs.Stages.{ReadsBehind, StopsAt, StopFaults, StopMisses}
use Rattle.vx_run.proofs.MeetsLaws.{meets_answer, meets_refused}
use Rattle.vx_run.proofs.call.vx.Goals as goal

pub returns-in-Ok : goal.returns-in-Ok
returns-in-Ok g c = meets_answer _ _ _ _ _ c.in-Ok.answer c.in-Ok.ensures.comes c.deliver_answer.ensures

pub returns-in-Ok-refusal : goal.returns-in-Ok-refusal
returns-in-Ok-refusal g c =
    let held = g.F.Files.held in
    let faults = g.F.Files.faults in
    let misses = g.F.Files.misses in
    let cause = c.in-Err-Refused.cause in
    let comes = subst (StopsAt (FromWords (held c.args.files.now) (map string_bytes c.args.words.now))) c.in-Err-Refused.field-0-is c.in-Err-Refused.ensures.comes in
    let fault = subst (λ s. StopFaults s (faults c.args.files.now) (faults c.answer.new.files)) c.in-Err-Refused.field-0-is c.in-Err-Refused.ensures.faults in
    let miss = subst (λ s. StopMisses s (misses c.args.files.now) (misses c.answer.new.files)) c.in-Err-Refused.field-0-is c.in-Err-Refused.ensures.misses in
    let behind = subst (ReadsBehind (map string_bytes c.args.words.now)) c.in-Err-Refused.field-0-is c.in-Err-Refused.ensures.words in
    meets_refused _ _ _ _ _ cause comes fault miss behind
    (subst (λ a. Delivers a (g.O.Out.written c.args.out.now) (g.O.Out.written c.deliver_answer-in-Ok-refusal.new.out) (g.O.Out.faults c.args.out.now)
    (g.O.Out.faults c.deliver_answer-in-Ok-refusal.new.out) c.deliver_answer-in-Ok-refusal.result) c.in-Ok-refusal.ensures c.deliver_answer-in-Ok-refusal.ensures)
