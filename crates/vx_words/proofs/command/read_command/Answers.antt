use Rattle.std.proofs.Common.{◌≡◌, ◌∷◌, List, ℕ, map, inl, inr, ap, sym, subst, rules}
use Rattle.std.specs.Prelude.{codes}
use Rattle.std.specs.String.{string_bytes}
use Rattle.vx_words.proofs.OneReading.{run_reads, run_refused, build_reads, asm_reads, dis_reads, file_refused, no_command}
use Rattle.vx_words.proofs.command.read_command.Goals as goal

pub returns-in_err-read_form : goal.returns-in_err-read_form
returns-in_err-read_form c =
    let run : c.args.name.now ≡ codes "run" = search rules in
    run_refused c.args.name.now (map string_bytes c.args.behind.now) c.from_residual.result c.in_err-read_form.field-0.0 run c.from_residual.ensures.1 c.in_err-read_form.ensures

pub returns-then-eq : goal.returns-then-eq
returns-then-eq c =
    let run : c.args.name.now ≡ codes "run" = search rules in
    run_reads c.args.name.now (map string_bytes c.args.behind.now) c.in_ok-read_form.field-0 run c.in_ok-read_form.ensures

pub returns-then-eq-2 : goal.returns-then-eq-2
returns-then-eq-2 c =
    let build : c.args.name.now ≡ codes "build" = search rules in
    build_reads c.args.name.now (map string_bytes c.args.behind.now) c.read_build.result build c.read_build.ensures

pub returns-then-eq-3 : goal.returns-then-eq-3
returns-then-eq-3 c =
    let asm : c.args.name.now ≡ codes "asm" = search rules in
    asm_reads c.args.name.now (map string_bytes c.args.behind.now) c.in_ok-only_file.field-0 asm c.in_ok-only_file.ensures

pub returns-then-eq-4 : goal.returns-then-eq-4
returns-then-eq-4 c =
    let dis : c.args.name.now ≡ codes "dis" = search rules in
    dis_reads c.args.name.now (map string_bytes c.args.behind.now) c.in_ok-only_file-2.field-0 dis c.in_ok-only_file-2.ensures

pub returns : goal.returns
returns c =
    let run : c.args.name.now ≡ codes "run" → ⊥ = search rules in
    let build : c.args.name.now ≡ codes "build" → ⊥ = search rules in
    let asm : c.args.name.now ≡ codes "asm" → ⊥ = search rules in
    let dis : c.args.name.now ≡ codes "dis" → ⊥ = search rules in
    no_command c.args.name.now (map string_bytes c.args.behind.now) run build asm dis
