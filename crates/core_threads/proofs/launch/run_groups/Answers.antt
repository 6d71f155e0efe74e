use Rattle.std.proofs.Common.{◌∙◌, List, ap, subst, ℕ}
use Rattle.memory_banks.specs.Ports.{seen}
use Rattle.memory_banks.specs.declared.entry.BusEntry.{BusEntry}
use Rattle.core_threads.specs.MachineRuns.{MachineRun, least_bad}
use Rattle.core_threads.specs.Seats.{plan_of}
use Rattle.core_threads.proofs.Assembly.{has_all, has_all_claimers, machine_run}
use Rattle.core_threads.proofs.Joining.{are_seated}
use Rattle.core_threads.proofs.SeatLists.{made_ports}
use Rattle.core_threads.proofs.launch.run_groups.Goals as goal

pub seat_all-requires-clause-ports : goal.seat_all-requires-clause-ports
seat_all-requires-clause-ports g c =
    made_ports c.in_ok-banks.banks c.in_ok-banks.port c.args.machine.cores c.in_ok-ports.ports c.requires.machine.cores.1 c.in_ok-banks.ensures.holds c.in_ok-banks.ensures.seen c.in_ok-ports.ensures.numbers c.in_ok-ports.ensures.new

pub seat_all-requires-clause-claimers : goal.seat_all-requires-clause-claimers
seat_all-requires-clause-claimers g c = (
  c.in_ok-claimers.ensures.count,
  λ k e within.
      let made = c.in_ok-claimers.ensures.made k e within in
      record { of = made.0; none_drawn = made.1; makes_none = made.2 },
)

pub run_cores-records-requires-clause-seated : goal.run_cores-records-requires-clause-seated
run_cores-records-requires-clause-seated g c κs within =
    are_seated g.E.Evictor.begins c.count-groups.result (g.J.Jobs.groups c.args.jobs.now) c.args.machine.cores c.args.machine.banks c.args.machine.sets c.in_ok-banks.banks c.in_ok-banks.port c.ports.new.port c.in_ok-dispenser.dispenser c.in_ok-dispenser.claimer c.claimers.new.c c.in_ok-ports.ports c.in_ok-works.works.items
    c.in_ok-works.ensures.count c.in_ok-works.ensures.each c.in_ok-works.ensures.ports c.count-groups.ensures.is c.in_ok-banks.ensures.port.1 c.in_ok-banks.ensures.seen c.in_ok-ports.ensures.same c.in_ok-ports.ensures.back c.in_ok-claimers.ensures.same c.in_ok-dispenser.ensures.nothing c.in_ok-claimers.ensures.spare

pub close-requires-clause-all : goal.close-requires-clause-all
close-requires-clause-all g c =
    let seated = are_seated g.E.Evictor.begins c.count-groups.result (g.J.Jobs.groups c.args.jobs.now) c.args.machine.cores c.args.machine.banks c.args.machine.sets c.in_ok-banks.banks c.in_ok-banks.port c.ports.new.port c.in_ok-dispenser.dispenser c.in_ok-dispenser.claimer c.claimers.new.c c.in_ok-ports.ports c.in_ok-works.works.items
    c.in_ok-works.ensures.count c.in_ok-works.ensures.each c.in_ok-works.ensures.ports c.count-groups.ensures.is c.in_ok-banks.ensures.port.1 c.in_ok-banks.ensures.seen c.in_ok-ports.ensures.same c.in_ok-ports.ensures.back c.in_ok-claimers.ensures.same c.in_ok-dispenser.ensures.nothing c.in_ok-claimers.ensures.spare in
    has_all_claimers g.E.Evictor.evicts g.E.Evictor.begins g.P.Picker.begins g.P.Picker.picks (plan_of c.args.image.now (g.J.Jobs.groups c.args.jobs.now) (g.J.Jobs.job_of c.args.jobs.now) c.args.machine) c.in_ok-banks.banks c.ports.new.port c.in_ok-dispenser.dispenser c.claimers.new.c c.in_ok-works.works.items seated c.run_cores-records.new.port c.run_cores-records.new.claimer c.run_cores-records.result c.run_cores-records.ensures

pub returns-clause-ran : goal.returns-clause-ran
returns-clause-ran g c =
    let seated = are_seated g.E.Evictor.begins c.count-groups.result (g.J.Jobs.groups c.args.jobs.now) c.args.machine.cores c.args.machine.banks c.args.machine.sets c.in_ok-banks.banks c.in_ok-banks.port c.ports.new.port c.in_ok-dispenser.dispenser c.in_ok-dispenser.claimer c.claimers.new.c c.in_ok-ports.ports c.in_ok-works.works.items
    c.in_ok-works.ensures.count c.in_ok-works.ensures.each c.in_ok-works.ensures.ports c.count-groups.ensures.is c.in_ok-banks.ensures.port.1 c.in_ok-banks.ensures.seen c.in_ok-ports.ensures.same c.in_ok-ports.ensures.back c.in_ok-claimers.ensures.same c.in_ok-dispenser.ensures.nothing c.in_ok-claimers.ensures.spare in
    let run = machine_run g.E.Evictor.evicts g.E.Evictor.begins g.P.Picker.begins g.P.Picker.picks (plan_of c.args.image.now (g.J.Jobs.groups c.args.jobs.now) (g.J.Jobs.job_of c.args.jobs.now) c.args.machine) c.in_ok-banks.banks c.ports.new.port c.in_ok-dispenser.dispenser c.claimers.new.c c.in_ok-works.works.items seated c.run_cores-records.new.port c.run_cores-records.new.claimer c.run_cores-records.result c.run_cores-records.ensures
    c.close.result c.close-2.new.out c.least_end-end.result c.close.ensures.once c.close.ensures.ascending c.close-2.ensures.legal c.close-2.ensures.ports (c.close-2.ensures.words (has_all g.E.Evictor.evicts g.E.Evictor.begins g.P.Picker.begins g.P.Picker.picks (plan_of c.args.image.now (g.J.Jobs.groups c.args.jobs.now) (g.J.Jobs.job_of c.args.jobs.now) c.args.machine) c.in_ok-banks.banks c.ports.new.port c.in_ok-dispenser.dispenser c.claimers.new.c c.in_ok-works.works.items seated c.run_cores-records.new.port c.run_cores-records.new.claimer c.run_cores-records.result c.run_cores-records.ensures))
    (c.least_end-end.ensures ∙ ap least_bad c.as_slice.ensures) in
    subst (λ (words : List ℕ). (history : List BusEntry) × MachineRun g.E.Evictor.evicts g.E.Evictor.begins g.P.Picker.begins g.P.Picker.picks (plan_of c.args.image.now (g.J.Jobs.groups c.args.jobs.now) (g.J.Jobs.job_of c.args.jobs.now) c.args.machine) words c.run_cores-records.result history c.close-2.new.out c.least_end-end.result)
    c.in_ok-banks.ensures.opening (seen c.run_cores-records.new.port, run)
