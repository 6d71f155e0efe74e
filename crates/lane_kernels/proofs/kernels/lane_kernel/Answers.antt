use Rattle.std.proofs.Common.{map, ap, sym, subst, ◌≤◌, arith}
use Rattle.kir.specs.Shapes.{code_of}
use Rattle.ocl_program.specs.Shapes.{function_node}
use Rattle.ocl_program.specs.Measures.{measured, own_sites}
use Rattle.uniformity.specs.Marks.{marked}
use Rattle.vcode.specs.Code.{Code}
use Rattle.vcode.specs.Shapes.{vops_of}
use Rattle.vcode.specs.Words.{words}
use Rattle.structured.specs.Ready.{measures_of}
use Rattle.simt_lowering.specs.Bounds.{most_words as words_of}
use Rattle.mask_laws.proofs.HonestRuns.{take_honest}
use Rattle.mask_laws.proofs.Law.{warps_in_step}
use Rattle.lane_kernels.specs.Sizes.{most_registers, most_words}
use Rattle.lane_kernels.proofs.Lanes.{lanes_access, lanes_do}
use Rattle.lane_kernels.proofs.Limits.{can_lower, limited, may_lower, registers_few, words_few, words_fit}
use Rattle.lane_kernels.proofs.kernels.lane_kernel.Goals as goal

pub lower-requires : goal.lower-requires
lower-requires c =
    let ready = c.in_ok-code.ensures.ready.ready in
    record { limited = limited _ _ (code_of c.in_ok-code.code) ready; fits = words_fit _ _ (code_of c.in_ok-code.code) ready }

pub returns-clause-asks : goal.returns-clause-asks
returns-clause-asks c =
    lanes_do (map function_node c.args.program.now.functions.items) c.args.kernel (code_of c.in_ok-code.code) (marked c.in_ok-marks.marks) (vops_of c.in_ok-made.made.ops.items)
    c.in_ok-code.ensures.asks c.in_ok-code.ensures.ready c.in_ok-made.ensures.kept

pub returns-clause-passes : goal.returns-clause-passes
returns-clause-passes c = record {
  code = code_of c.in_ok-code.code;
  marks = marked c.in_ok-marks.marks;
  source = c.in_ok-code.ensures.asks;
  ready = c.in_ok-code.ensures.ready;
  greatest = c.in_ok-marks.ensures.greatest;
  agree = c.in_ok-marks.ensures.agree;
  lowered = c.in_ok-made.ensures.lowered;
  parts = c.in_ok-made.ensures.parts;
  in_step = λ k is_first has.
      warps_in_step (marked c.in_ok-marks.marks) (code_of c.in_ok-code.code) k is_first
      (may_lower (measures_of (map function_node c.args.program.now.functions.items) c.args.kernel) (measured own_sites (map function_node c.args.program.now.functions.items) c.args.kernel)
      (code_of c.in_ok-code.code) (marked c.in_ok-marks.marks) c.in_ok-code.ensures.ready.ready c.in_ok-marks.ensures.greatest) has;
  honest = λ k is_first has.
      take_honest (marked c.in_ok-marks.marks) (code_of c.in_ok-code.code) k is_first
      (may_lower (measures_of (map function_node c.args.program.now.functions.items) c.args.kernel) (measured own_sites (map function_node c.args.program.now.functions.items) c.args.kernel)
      (code_of c.in_ok-code.code) (marked c.in_ok-marks.marks) c.in_ok-code.ensures.ready.ready c.in_ok-marks.ensures.greatest)
      (can_lower (measures_of (map function_node c.args.program.now.functions.items) c.args.kernel) (measured own_sites (map function_node c.args.program.now.functions.items) c.args.kernel)
      (code_of c.in_ok-code.code) c.in_ok-code.ensures.ready.ready) has;
}

pub returns-clause-few_registers : goal.returns-clause-few_registers
returns-clause-few_registers c =
    let program = map function_node c.args.program.now.functions.items in
    let code = code_of c.in_ok-code.code in
    subst (λ n. n ≤ most_registers program c.args.kernel) (sym (ap (λ (x : Code). x.registers) c.in_ok-made.ensures.lowered))
    (registers_few (measures_of program c.args.kernel) (measured own_sites program c.args.kernel) code c.in_ok-code.ensures.ready.ready)

pub returns-clause-few_words : goal.returns-clause-few_words
returns-clause-few_words c =
    let program = map function_node c.args.program.now.functions.items in
    let few : words_of (code_of c.in_ok-code.code) ≤ most_words program c.args.kernel
    = words_few (measures_of program c.args.kernel) (measured own_sites program c.args.kernel) (code_of c.in_ok-code.code) c.in_ok-code.ensures.ready.ready in
    let made : words (vops_of c.in_ok-made.made.ops.items) ≤ words_of (code_of c.in_ok-code.code) = c.in_ok-made.ensures.words in
    omega arith

pub returns-clause-accesses : goal.returns-clause-accesses
returns-clause-accesses c =
    lanes_access (map function_node c.args.program.now.functions.items) c.args.kernel (code_of c.in_ok-code.code) (vops_of c.in_ok-made.made.ops.items)
    c.in_ok-code.ensures.ready c.in_ok-made.ensures.accesses
