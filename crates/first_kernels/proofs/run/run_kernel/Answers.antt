use Rattle.std.proofs.Common.{◌∙◌, ℕ, ◌<◌, List, get_or, sym, subst, rules}
use Rattle.vx_isa.specs.declared.instr.Instr.{Instr}
use Rattle.first_kernels.specs.FirstCode.{IsCodeOf}
use Rattle.first_kernels.specs.FirstTree.{form_of}
use Rattle.first_kernels.proofs.FirstTogether.{not_both}
use Rattle.first_kernels.proofs.FirstRuns.{ran}
use Rattle.first_kernels.proofs.run.run_kernel.Goals as goal

pub unreachable-requires : goal.unreachable-requires
unreachable-requires c =
    let bytes : (b : ℕ) → get_or c.args.memory.now b 0 < 256 = λ b. search rules in
    let P : List Instr → Type 0 = λ code. IsCodeOf (form_of c.args.kernel.now) c.args.arguments.now c.args.items code in
    let is_code : P c.as_slice.result.now = subst P (sym c.as_slice.ensures.value) c.in_ok-code.ensures in
    let all = ran (form_of c.args.kernel.now) c.args.arguments.now c.args.items c.args.buffers c.as_slice.result.now c.as_mut_slice.result.now c.run_code.new.lanes c.args.memory.now c.run_code.new.memory c.run_code.result c.requires.launchable c.requires.few is_code (c.as_mut_slice.ensures.value ∙ c.in-Ok.ensures) c.requires.room bytes c.run_code.auto.memory c.run_code.ensures in
    not_both c.run_code.result _ all.0 c.in-Err.is

pub returns-clause-run : goal.returns-clause-run
returns-clause-run c =
    let bytes : (b : ℕ) → get_or c.args.memory.now b 0 < 256 = λ b. search rules in
    let P : List Instr → Type 0 = λ code. IsCodeOf (form_of c.args.kernel.now) c.args.arguments.now c.args.items code in
    let is_code : P c.as_slice.result.now = subst P (sym c.as_slice.ensures.value) c.in_ok-code.ensures in
    let all = ran (form_of c.args.kernel.now) c.args.arguments.now c.args.items c.args.buffers c.as_slice.result.now c.as_mut_slice.result.now c.run_code.new.lanes c.args.memory.now c.run_code.new.memory c.run_code.result c.requires.launchable c.requires.few is_code (c.as_mut_slice.ensures.value ∙ c.in-Ok.ensures) c.requires.room bytes c.run_code.auto.memory c.run_code.ensures in
    all.1
