use Rattle.std.proofs.Common.{◌∙◌, ◌++◌, ◌+◌, All, List, ap, length, map, subst, sum_by, sym}
use Rattle.std.specs.List.{flat_map}
use Rattle.group_dispenser.specs.Claimers.{lists, spare}
use Rattle.group_dispenser.specs.declared.claimer.Claimer.{Claimer}
use Rattle.memory_banks.specs.Ports.{KeptIn, numbers, union}
use Rattle.memory_banks.specs.declared.port.Port.{Port}
use Rattle.memory_banks.proofs.Rows.{whole_row}
use Rattle.core_threads.specs.Joins.{claimer_in, port_in, record_of}
use Rattle.core_threads.proofs.Joining.{all_can, claimers_of, ports_behind, ports_of, put_in, ran_from}
use Rattle.core_threads.proofs.launch.run_cores.Goals as goal

pub run_all-requires-after_bounds : goal.run_all-requires-after_bounds
run_all-requires-after_bounds g c κs within = all_can g.E.Evictor.evicts g.E.Evictor.begins g.P.Picker.begins g.P.Picker.picks c.args.image.now (g.J.Jobs.job_of c.args.jobs.now) (g.J.Jobs.groups c.args.jobs.now) c.args.machine.cores c.args.machine.banks c.args.machine.sets c.args.banks.now c.args.port.now c.args.dispenser.now c.args.claimer.now c.args.works.items c.requires.seated c.as_mut_slice.result.now c.as_mut_slice.ensures.value

pub gather-requires-clause-others : goal.gather-requires-clause-others
gather-requires-clause-others g c =
    let lent = c.as_mut_slice.ensures in
    let long = ap (λ ws. length ws) lent.value in
    let whole = whole_row c.args.works.len c.args.works.items c.run_all.new.works (sym lent.len ∙ long) (c.run_all.ensures.count ∙ long) in
    let ran = ran_from g.E.Evictor.evicts g.E.Evictor.begins g.P.Picker.begins g.P.Picker.picks c.args.image.now (g.J.Jobs.job_of c.args.jobs.now) (g.J.Jobs.groups c.args.jobs.now) c.args.machine.cores c.args.machine.banks c.args.machine.sets c.args.banks.now c.args.port.now c.args.dispenser.now c.args.claimer.now c.args.works.items c.requires.seated c.as_mut_slice.result.now c.run_all.new.works lent.value c.run_all.ensures in
    ports_of g.E.Evictor.evicts g.E.Evictor.begins g.P.Picker.begins g.P.Picker.picks c.args.image.now (g.J.Jobs.job_of c.args.jobs.now) (g.J.Jobs.groups c.args.jobs.now) c.args.machine.cores c.args.machine.banks c.args.machine.sets c.args.banks.now c.args.port.now c.args.dispenser.now c.args.claimer.now c.args.works.items c.requires.seated c.run_all.new.works ran
    c.take_all.new.self.ports.items (put_in port_in c.take_all.new.self.ports.items c.args.room.ports.items _ c.run_all.new.works c.take_all.ensures.ports c.requires.room.1.ports whole)

pub gather-requires-clause-first : goal.gather-requires-clause-first
gather-requires-clause-first g c =
    let lent = c.as_mut_slice.ensures in
    let long = ap (λ ws. length ws) lent.value in
    let whole = whole_row c.args.works.len c.args.works.items c.run_all.new.works (sym lent.len ∙ long) (c.run_all.ensures.count ∙ long) in
    let ran = ran_from g.E.Evictor.evicts g.E.Evictor.begins g.P.Picker.begins g.P.Picker.picks c.args.image.now (g.J.Jobs.job_of c.args.jobs.now) (g.J.Jobs.groups c.args.jobs.now) c.args.machine.cores c.args.machine.banks c.args.machine.sets c.args.banks.now c.args.port.now c.args.dispenser.now c.args.claimer.now c.args.works.items c.requires.seated c.as_mut_slice.result.now c.run_all.new.works lent.value c.run_all.ensures in
    ports_behind g.E.Evictor.evicts g.E.Evictor.begins g.P.Picker.begins g.P.Picker.picks c.args.image.now (g.J.Jobs.job_of c.args.jobs.now) (g.J.Jobs.groups c.args.jobs.now) c.args.machine.cores c.args.machine.banks c.args.machine.sets c.args.banks.now c.args.port.now c.args.dispenser.now c.args.claimer.now c.args.works.items c.requires.seated c.run_all.new.works ran
    c.take_all.new.self.ports.items (put_in port_in c.take_all.new.self.ports.items c.args.room.ports.items _ c.run_all.new.works c.take_all.ensures.ports c.requires.room.1.ports whole)

pub gather-requires-2-clause-others : goal.gather-requires-2-clause-others
gather-requires-2-clause-others g c =
    let lent = c.as_mut_slice.ensures in
    let long = ap (λ ws. length ws) lent.value in
    let whole = whole_row c.args.works.len c.args.works.items c.run_all.new.works (sym lent.len ∙ long) (c.run_all.ensures.count ∙ long) in
    let ran = ran_from g.E.Evictor.evicts g.E.Evictor.begins g.P.Picker.begins g.P.Picker.picks c.args.image.now (g.J.Jobs.job_of c.args.jobs.now) (g.J.Jobs.groups c.args.jobs.now) c.args.machine.cores c.args.machine.banks c.args.machine.sets c.args.banks.now c.args.port.now c.args.dispenser.now c.args.claimer.now c.args.works.items c.requires.seated c.as_mut_slice.result.now c.run_all.new.works lent.value c.run_all.ensures in
    claimers_of g.E.Evictor.evicts g.E.Evictor.begins g.P.Picker.begins g.P.Picker.picks c.args.image.now (g.J.Jobs.job_of c.args.jobs.now) (g.J.Jobs.groups c.args.jobs.now) c.args.machine.cores c.args.machine.banks c.args.machine.sets c.args.banks.now c.args.port.now c.args.dispenser.now c.args.claimer.now c.args.works.items c.requires.seated c.run_all.new.works ran
    c.take_all.new.self.claimers.items (put_in claimer_in c.take_all.new.self.claimers.items c.args.room.claimers.items _ c.run_all.new.works c.take_all.ensures.claimers c.requires.room.1.claimers whole)

pub returns : goal.returns
returns g c =
    let lent = c.as_mut_slice.ensures in
    let long = ap (λ ws. length ws) lent.value in
    let whole = whole_row c.args.works.len c.args.works.items c.run_all.new.works (sym lent.len ∙ long) (c.run_all.ensures.count ∙ long) in
    let ran = ran_from g.E.Evictor.evicts g.E.Evictor.begins g.P.Picker.begins g.P.Picker.picks c.args.image.now (g.J.Jobs.job_of c.args.jobs.now) (g.J.Jobs.groups c.args.jobs.now) c.args.machine.cores c.args.machine.banks c.args.machine.sets c.args.banks.now c.args.port.now c.args.dispenser.now c.args.claimer.now c.args.works.items c.requires.seated c.as_mut_slice.result.now c.run_all.new.works lent.value c.run_all.ensures in
    let ports = put_in port_in c.take_all.new.self.ports.items c.args.room.ports.items _ c.run_all.new.works c.take_all.ensures.ports c.requires.room.1.ports whole in
    let claimers = put_in claimer_in c.take_all.new.self.claimers.items c.args.room.claimers.items _ c.run_all.new.works c.take_all.ensures.claimers c.requires.room.1.claimers whole in
    record {
      new = c.run_all.new.works;
      ran = ran;
      records_are = put_in record_of c.take_all.new.self.records.items c.args.room.records.items _ c.run_all.new.works c.take_all.ensures.records c.requires.room.1.records whole;
      port_is = c.gather.ensures.of;
      number_is = c.gather.ensures.number;
      numbers_are = c.gather.ensures.numbers ∙ ap (λ (ps : List Port). union (numbers c.args.port.now) (map numbers ps)) ports;
      kept = c.gather.ensures.kept;
      lists_are = subst (λ (ps : List Port). All (λ r. KeptIn (numbers r) r c.gather.new.into) ps) ports c.gather.ensures.lists;
      claimer_is = c.gather-2.ensures.of;
      tickets_are = c.gather-2.ensures.lists ∙ ap (λ (cs : List Claimer). lists c.args.claimer.now ++ flat_map lists cs) claimers;
      spare_is = c.gather-2.ensures.spare ∙ ap (λ (cs : List Claimer). spare c.args.claimer.now + sum_by spare cs) claimers;
    }
