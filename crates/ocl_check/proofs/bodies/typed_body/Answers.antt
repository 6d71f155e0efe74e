use Rattle.ocl_types.specs.Answers.{standing_of}
use Rattle.ocl_types.specs.Tables.{trees_of}
use Rattle.ocl_types.proofs.Loops.{body_made}
use Rattle.ocl_check.proofs.bodies.typed_body.Goals as goal

pub returns : goal.returns
returns c =
    body_made (trees_of c.args.functions.now.functions.now) c.args.function.now (standing_of c.in_ok-st.st) (standing_of c.declare_params.new.st) (standing_of c.typed_stmts.new.st)
    c.as_slice.result.now c.as_slice-2.result.now c.in_ok-items.items.items c.in_ok-st.ensures.start c.as_slice.ensures c.in_ok-declare_params.ensures c.as_slice-2.ensures.value c.in_ok-items.ensures
