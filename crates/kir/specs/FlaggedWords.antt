-- How many words of code operations come to at most once jumps are flags.
use Rattle.std.specs.Prelude.{ℕ, ◌+◌, ◌*◌, false}
use Rattle.kir.specs.Measures.{runs}
use Rattle.kir.specs.Trees.{Operand, Op, If, Loop, Break, Continue, Return, Call, Ops, NoOps, AndOp}
use Rattle.kir.specs.Weights.{if_words, single_words, test_words}

-- a loop with its two flags, and what is passed on behind it
abbrev pub flagged_loop_words : Operand → ℕ
flagged_loop_words test = test_words test + 31

-- a jump clears up to three flags, two of them by a difference
abbrev pub jump_words : ℕ
jump_words = 11

-- a call has a flag
abbrev pub call_words : ℕ
call_words = 8

-- the branch that a run of single operations stands under
abbrev pub guard_words : ℕ
guard_words = 9

abbrev mutual
  -- all but the branches round runs of single operations
  pub unguarded : Ops → ℕ
  unguarded NoOps = 0
  unguarded (AndOp op ops) = op_unguarded op + unguarded ops

  pub op_unguarded : Op → ℕ
  op_unguarded (If test one other) = if_words test + (unguarded one + unguarded other)
  op_unguarded (Loop head test body step) = flagged_loop_words test + (unguarded head + (unguarded body + unguarded step))
  op_unguarded Break = jump_words
  op_unguarded Continue = jump_words
  op_unguarded Return = jump_words
  op_unguarded (Call body) = call_words + unguarded body
  op_unguarded other = single_words other

abbrev pub flagged_words : Ops → ℕ
flagged_words ops = unguarded ops + guard_words * runs false ops
