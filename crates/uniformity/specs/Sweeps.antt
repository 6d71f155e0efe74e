-- A sweep over operations in order, which takes off the mark of each variable that is written where it may not be by the marks that stand
-- then.
use Rattle.std.specs.Prelude.{◌≡◌, ℕ, suc, Bool, true, false, ◌&&◌, List, [], ◌∷◌, slice_set, Option, None, Some}
use Rattle.ocl_ast.specs.declared.units.Param.{Param}
use Rattle.kir.specs.Trees.{Operand, Op, If, Loop, Call, Ops, NoOps, AndOp}
use Rattle.uniformity.specs.Marks.{gives_uniform, is_uniform, marked, target}

-- the marks behind a write of a variable, or none
abbrev pub swept_target : Bool → Option ℕ → List Bool → List Bool
swept_target true target ms = ms
swept_target false None ms = ms
swept_target false (Some d) ms = slice_set ms d false

-- the marks behind an operation that holds no others
abbrev pub swept_single : List Param → Bool → Op → List Bool → List Bool
swept_single params same op ms = swept_target (same && gives_uniform params (marked ms) op) (target op) ms

-- whether operations under a test are under no divergent one
abbrev pub under_test : List Bool → Bool → Operand → Bool
under_test ms same test = same && is_uniform (marked ms) test

abbrev mutual
  pub swept : List Param → Bool → Ops → List Bool → List Bool
  swept params same NoOps ms = ms
  swept params same (AndOp op ops) ms = swept params same ops (swept_op params same op ms)

  pub swept_op : List Param → Bool → Op → List Bool → List Bool
  swept_op params same (If test one other) ms =
      swept params (under_test ms same test) other (swept params (under_test ms same test) one ms)
  swept_op params same (Loop head test body step) ms =
      swept params (under_test ms same test) step (swept params (under_test ms same test) body (swept params (under_test ms same test) head ms))
  swept_op params same (Call body) ms = swept params same body ms
  swept_op params same other ms = swept_single params same other ms

-- how many marks there are
abbrev pub mark_count : List Bool → ℕ
mark_count [] = 0
mark_count (true ∷ ms) = suc (mark_count ms)
mark_count (false ∷ ms) = mark_count ms
