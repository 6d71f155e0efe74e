-- Which lane of the machine the code's lane is, and operations by what they do.
use Rattle.std.specs.Prelude.{ℕ, suc, ◌+◌, ◌==◌, if◌then◌else◌, slice_index, reverse, List, ◌∷◌, Option, None, Some}
use Rattle.vx_base.specs.Values.{alu_value_of, fitted}
use Rattle.item_acts.specs.Launches.{put_at}
use Rattle.item_acts.specs.declared.acts.Action.TheVariants.{Barrier}
use Rattle.item_acts.specs.Machine.{Step, Go, Ask}
use Rattle.step_machine.specs.Stacks.{under}
use Rattle.step_machine.specs.Turns.{risen}
use Rattle.kir.specs.Machine.{value}
use Rattle.vcode.specs.Code.{VOp, Copy, Compute, Cut, Word, WordAt, Learn, Fetch, Write, Bar, IfZero, IfNot, Goto, Enter, Leaves, Again}
use Rattle.vcode.specs.Machine.{Around, Lane, lane, learned, op_step, unlearned}
use Rattle.vcode.specs.declared.lanes.Lane.{Lane as HeldLane}
use Rattle.vcode.specs.declared.lanes.Target.{Target}

abbrev pub registers_of : HeldLane → ℕ → ℕ
registers_of s = slice_index s.registers.items.items

abbrev pub lane_of : HeldLane → Lane
lane_of s = lane s.place (registers_of s) s.turns s.numbers.now

-- The lane behind a step that gives a register a value, and behind one that only goes on; and the lane whom control registers answer other
-- numbers.
abbrev pub set_to : ℕ → ℕ → Lane → Lane
set_to d v s = lane (suc s.place) (put_at d v s.registers) s.turns s.numbers

abbrev pub gone_on : Lane → Lane
gone_on s = lane (suc s.place) s.registers s.turns s.numbers

abbrev pub with_numbers : List ℕ → Lane → Lane
with_numbers ns s = lane s.place s.registers s.turns ns

-- one step at an operation
abbrev pub stepped : Around → VOp → Lane → Step Lane
stepped at op s = op_step at op s.place s.registers s.turns s.numbers

-- what a barrier asks for
abbrev pub waiting : ℕ → Lane → Step Lane
waiting site s = Ask (Barrier (record { site = site; turns = reverse s.turns })) (λ answer. gone_on s)

-- the lane behind an answer that becomes the value of a register
abbrev pub told_register : Target → ℕ → Lane → Lane
told_register target answer s = lane s.place (put_at target.register (fitted target.elem answer) s.registers) s.turns s.numbers

-- the lane behind an answer that becomes the value of a register, or nothing
abbrev pub told_value : Option Target → ℕ → Lane → Lane
told_value None answer s = s
told_value (Some target) answer s = told_register target answer s

-- ---- what is of another kind leaves all as it was

-- the lane behind an operation that computes the value of a register
abbrev pub computed : Around → VOp → Lane → Lane
computed at (Copy d a) s = set_to d (value s.registers a) s
computed at (Compute d op a b) s = set_to d (alu_value_of op (value s.registers a) (value s.registers b)) s
computed at (Cut d elem a) s = set_to d (fitted elem (value s.registers a)) s
computed at (Word d k) s = set_to d (at.block k) s
computed at (WordAt d a k) s = set_to d (at.block (k + value s.registers a)) s
computed at (Learn d csr) s = set_to d (learned at csr s.numbers) (with_numbers (unlearned csr s.numbers) s)
computed at other s = s

-- the lane behind an operation that leads to a place, or enters a loop or leaves it
abbrev pub led : VOp → Lane → Lane
led (IfZero a q) s = lane (if value s.registers a == 0 then q else suc s.place) s.registers s.turns s.numbers
led (IfNot a q) s = lane (if value s.registers a == 0 then suc s.place else q) s.registers s.turns s.numbers
led (Goto q) s = lane q s.registers s.turns s.numbers
led Enter s = lane (suc s.place) s.registers (0 ∷ s.turns) s.numbers
led (Leaves a q) s = if value s.registers a == 0 then lane q s.registers (under s.turns) s.numbers else lane (suc s.place) s.registers s.turns s.numbers
led (Again q) s = lane q s.registers (risen s.turns) s.numbers
led other s = s

-- what an operation finds that asks for something
abbrev pub accessed : Around → VOp → Lane → Step Lane
accessed at (Fetch d elem a) s = stepped at (Fetch d elem a) s
accessed at (Write elem a b) s = stepped at (Write elem a b) s
accessed at (Bar site) s = stepped at (Bar site) s
accessed at other s = Go s
