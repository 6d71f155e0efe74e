use Rattle.std.proofs.Common.{rules, ◌≡◌, All, List, sym, subst, ◌∙◌}
use Rattle.std.proofs.lemmas.List.{map-id}
use Rattle.std.proofs.lemmas.List.Elements.{All-push, All-weaker}
use Rattle.std.proofs.lemmas.Iterator.Consumers.{YieldsList-end}
use Rattle.std.proofs.lemmas.Iterator.Adapters.{YieldsList-from_vec}
use Rattle.memory_banks.specs.declared.port.Port.{Port}
use Rattle.memory_banks.specs.Ports.{KeptIn, numbers}
use Rattle.memory_banks.proofs.PortLaws.{KeptIn-trans, union-push}
use Rattle.memory_banks.proofs.crew.gather.Goals as goal

pub loop-port-preserved : goal.loop-port-preserved
loop-port-preserved c =
    let before = c.loop-port.invariant in
    let step = c.gather.ensures in
    record {
      can = search rules;
      finite = search rules;
      of = step.of;
      same = step.number ∙ before.same;
      joined = step.numbers ∙ union-push numbers (numbers c.args.into.now) c.loop-port.yielded c.in-Some.port (numbers c.loop-port.into) before.joined;
      kept = KeptIn-trans (numbers c.args.into.now) c.args.into.now c.loop-port.into c.gather.new.self before.kept step.kept.0;
      lists = All-push (λ (p : Port). KeptIn (numbers p) p c.gather.new.self) c.loop-port.yielded c.in-Some.port
          (All-weaker (λ (p : Port). KeptIn (numbers p) p c.loop-port.into) (λ (p : Port). KeptIn (numbers p) p c.gather.new.self)
          (λ p kept. KeptIn-trans (numbers p) p c.loop-port.into c.gather.new.self kept step.kept.0) c.loop-port.yielded before.lists)
          step.kept.1;
    }

pub returns-clause-lists : goal.returns-clause-lists
returns-clause-lists c =
    let end = YieldsList-end (YieldsList-from_vec c.args.from (cc) (cc)) c.loop-port.yielded c.loop-port.port-iterator c.loop-port.yielded_by c.next.result c.next.new.self c.in-None.is c.next.ensures.steps in
    let all : c.loop-port.yielded ≡ c.args.from = sym (map-id c.loop-port.yielded) ∙ end.0 in
    subst (λ (ps : List Port). All (λ p. KeptIn (numbers p) p c.loop-port.into) ps) all c.loop-port.invariant.lists
