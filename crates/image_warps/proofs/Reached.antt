-- The words in front of an operation reach what they read.
use Rattle.std.proofs.Common.{◌≡◌, ℕ, true, List, [], ◌∙◌, arith, refl}
use Rattle.vx_base.specs.declared.types.Alu.TheVariants as alu
use Rattle.kir.specs.Numbered.{IsBelow}
use Rattle.kir.specs.Trees.{Operand}
use Rattle.vcode.specs.Machine.{Around}
use Rattle.vcode.specs.Code.{VOp, Fresh, Copy, Compute, Cut, Word, WordAt, Learn, Fetch, Write, IfZero, IfNot, Goto, Split, Join, Pred, Tmc, Wspawn, Bar, Trap, Enter, Leaves, Again}
use Rattle.simt_lowering.specs.Bounds.{OpWithin}
use Rattle.warp_code.specs.Warps.{around_of}
use Rattle.reg_alloc.specs.Plain.{Held, Plain, left}
use Rattle.reg_alloc.specs.Blocks.{block, operand_before, right_before}
use Rattle.reg_alloc.proofs.Bringing.{based_for, brought, operand_reaches, others_kept}
use Rattle.reg_alloc.proofs.Computing.{right_reaches}
use Rattle.reg_alloc.proofs.Goings.{ReachAll}
use Rattle.image_warps.specs.Lanes.{Ground, Known, Same, frame_start}
use Rattle.image_warps.specs.Premises.{IsBased}

module _ (g : Ground) (l : ℕ) (k : Known) (rs : ℕ → ℕ) (h : Held) (same : Same g l k rs h) where
  abbrev pub at : Around
  at = around_of g.crew l

  abbrev pub start : ℕ
  start = frame_start g l

  one : k.based ≡ true → (a : Operand) (ws : List Plain) → IsBelow g.slots a → ReachAll g.slots start at ws (brought left a h) → ReachAll g.slots start at (operand_before left a ws) h
  one based a ws below reach = operand_reaches left refl refl refl at g.slots start a ws h below (based_for start h a (same.frame based)) reach

  still : k.based ≡ true → (a : Operand) → (brought left a h).registers 4 ≡ start
  still based a = others_kept left refl refl refl a h 4 refl ∙ same.frame based

  pub op_reaches : (starts : ℕ → ℕ) (end : ℕ) (op : VOp) → OpWithin g.slots op → IsBased op k.based → ReachAll g.slots start at (block g.slots starts end op).before h
  op_reaches starts end Fresh within based = (tt, (tt, ((refl, omega arith), (tt, (tt, (tt, (tt, (tt, (tt, tt)))))))))
  op_reaches starts end (Copy d a) within based = one based a [] within.1 tt
  op_reaches starts end (Compute d op a b) within based = one based a (right_before op b []) within.1 (right_reaches at g.slots start op b [] (brought left a h) within.2 (still based a) tt)
  op_reaches starts end (Cut d e a) within based = one based a _ within.1 (tt, tt)
  op_reaches starts end (Word d n) within based = tt
  op_reaches starts end (WordAt d a n) within based = one based a _ within.1 (tt, (tt, tt))
  op_reaches starts end (Learn d c) within based = tt
  op_reaches starts end (Fetch d e a) within based = one based a [] within.1 tt
  op_reaches starts end (Write e a b) within based = one based a (right_before alu.Add b []) within.0 (right_reaches at g.slots start alu.Add b [] (brought left a h) within.1 (still based a) tt)
  op_reaches starts end (IfZero a q) within based = one based a [] within tt
  op_reaches starts end (IfNot a q) within based = one based a [] within tt
  op_reaches starts end (Goto q) within based = tt
  op_reaches starts end (Split a) within based = one based a [] within tt
  op_reaches starts end Join within based = tt
  op_reaches starts end (Pred a m) within based = one based a _ within.0 ((still based a, within.1), tt)
  op_reaches starts end (Tmc a) within based = one based a [] within tt
  op_reaches starts end (Wspawn a q) within based = one based a _ within (tt, (tt, tt))
  op_reaches starts end (Bar site) within based = (tt, (tt, ((same.block based, omega arith), tt)))
  op_reaches starts end (Trap pos) within based = tt
  op_reaches starts end Enter within based = tt
  op_reaches starts end (Leaves a q) within based = one based a [] within tt
  op_reaches starts end (Again q) within based = tt
