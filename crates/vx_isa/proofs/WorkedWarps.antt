-- Worked steps of a warp, by the definitions. In each the warp has four lanes, and its code begins at 0x80000000.
use Rattle.std.proofs.Common.{◌≡◌, ℕ, zero, suc, ◌*◌, ◌/◌, ◌%◌, ◌+◌, nat_eq, nat_lt, if◌then◌else◌, List, [], ◌∷◌, length, replicate, refl}
use Rattle.vx_base.specs.declared.types.Size.TheVariants.{Four}
use Rattle.vx_isa.specs.Words.{word_of}
use Rattle.vx_isa.specs.Warps.{Registers, WarpState, least_below, lanes_below}
use Rattle.vx_isa.specs.WarpSteps.{Fields, Reads, Writes, warp_step, accesses_below, effect_in, fetched}
use Rattle.vx_isa.specs.declared.instr.Instr.TheVariants.{Addi, Beq, Bne, Jal, Jalr, Lb, Lw, Sw, Ebreak, Csrr, Tmc, Wspawn, Split, Join, Bar, Pred}
use Rattle.vx_isa.specs.declared.warps.Held.{Held}
use Rattle.vx_isa.specs.declared.warps.Held.TheVariants.{Restore, Else}
use Rattle.vx_isa.specs.declared.warps.Ids.{Ids}
use Rattle.vx_isa.specs.declared.warps.MachineTrap.TheVariants as trap
use Rattle.vx_isa.specs.declared.warps.Step.{Step}
use Rattle.vx_isa.specs.declared.warps.Step.TheVariants as step

-- core 1, warp 2
abbrev ids : Ids
ids = record { core = 1; warp = 2; lanes = 4 }

-- the fields below address 0x100 are in the memory
abbrev has : Fields
has address size = nat_lt address 0x100

-- each read is answered by 0x80 and the lane
abbrev answers : ℕ → ℕ
answers lane = 0x80 + lane

-- In lane k, x5 is k mod 2, x6 is k / 2, x7 is 8 * k, and every other register is 0.
abbrev registers : ℕ → Registers
registers lane r =
    if nat_eq r 5 then lane % 2
    else if nat_eq r 6 then lane / 2
    else if nat_eq r 7 then 8 * lane
    else 0

abbrev warp : ℕ → List Held → WarpState
warp mask stack = record { pc = 0x80000000; mask = mask; registers = registers; stack = stack }

-- the warp after some steps
abbrev after : ℕ → List ℕ → WarpState → WarpState
after zero code w = w
after (suc n) code w = after n code (warp_step has ids code answers w).warp

-- how the first instruction of the code ends
abbrev ends : List ℕ → WarpState → Step
ends code w = (warp_step has ids code answers w).outcome

-- ---- split and join

-- Lanes 1 and 3 go on at a split on x5, and lane 3 alone behind a second one on x6.
abbrev nested : List ℕ
nested = word_of (Split 5) ∷ word_of (Split 6) ∷ word_of Join ∷ []

split_outcome : ends nested (warp 15 []) ≡ step.Diverged
unfolding least_below lanes_below accesses_below effect_in fetched
split_outcome = refl

split_mask : (after 1 nested (warp 15 [])).mask ≡ 10
unfolding least_below lanes_below accesses_below effect_in fetched
split_mask = refl

split_stack : (after 1 nested (warp 15 [])).stack ≡ Else 5 0x80000004 ∷ Restore 15 ∷ []
unfolding least_below lanes_below accesses_below effect_in fetched
split_stack = refl

nested_mask : (after 2 nested (warp 15 [])).mask ≡ 8
unfolding least_below lanes_below accesses_below effect_in fetched
nested_mask = refl

nested_stack : (after 2 nested (warp 15 [])).stack ≡ Else 2 0x80000008 ∷ Restore 10 ∷ Else 5 0x80000004 ∷ Restore 15 ∷ []
unfolding least_below lanes_below accesses_below effect_in fetched
nested_stack = refl

-- The first join goes back to lane 1, at the instruction behind the second split. There it meets the join again, which
-- takes both lanes on.
joined_mask : (after 3 nested (warp 15 [])).mask ≡ 2
unfolding least_below lanes_below accesses_below effect_in fetched
joined_mask = refl

joined_pc : (after 3 nested (warp 15 [])).pc ≡ 0x80000008
unfolding least_below lanes_below accesses_below effect_in fetched
joined_pc = refl

joined_again_mask : (after 4 nested (warp 15 [])).mask ≡ 10
unfolding least_below lanes_below accesses_below effect_in fetched
joined_again_mask = refl

joined_again_pc : (after 4 nested (warp 15 [])).pc ≡ 0x8000000c
unfolding least_below lanes_below accesses_below effect_in fetched
joined_again_pc = refl

joined_again_stack : (after 4 nested (warp 15 [])).stack ≡ Else 5 0x80000004 ∷ Restore 15 ∷ []
unfolding least_below lanes_below accesses_below effect_in fetched
joined_again_stack = refl

-- where the active lanes agree, one entry is pushed all the same
agreed_outcome : ends nested (warp 10 []) ≡ step.Agreed
unfolding least_below lanes_below accesses_below effect_in fetched
agreed_outcome = refl

agreed_stack : (after 1 nested (warp 10 [])).stack ≡ Restore 10 ∷ []
unfolding least_below lanes_below accesses_below effect_in fetched
agreed_stack = refl

join_empty : ends (word_of Join ∷ []) (warp 12 []) ≡ step.Trap trap.JoinEmpty 2 0x80000000
unfolding least_below lanes_below accesses_below effect_in fetched
join_empty = refl

-- the last free entry serves lanes that agree, and not lanes that disagree
last_entry_agreed : ends nested (warp 10 (replicate 63 (Restore 15))) ≡ step.Agreed
unfolding least_below lanes_below accesses_below effect_in fetched
last_entry_agreed = refl

last_entry_diverged : ends nested (warp 15 (replicate 63 (Restore 15))) ≡ step.Trap trap.StackFull 0 0x80000000
unfolding least_below lanes_below accesses_below effect_in fetched
last_entry_diverged = refl

full_agreed : ends nested (warp 10 (replicate 64 (Restore 15))) ≡ step.Trap trap.StackFull 1 0x80000000
unfolding least_below lanes_below accesses_below effect_in fetched
full_agreed = refl

full_pushes_nothing : length (after 1 nested (warp 15 (replicate 63 (Restore 15)))).stack ≡ 63
unfolding least_below lanes_below accesses_below effect_in fetched
full_pushes_nothing = refl

-- ---- pred, tmc

-- A loop that lane k leaves after k / 2 turns: its head keeps the lanes whose x6 is not 0, and the lanes of x8 stand in
-- where there is none.
abbrev loop : List ℕ
loop =
    word_of (Csrr 8 0xcc4)
    ∷ word_of (Pred 6 8)
    ∷ word_of (Beq 6 0 12)
    ∷ word_of (Addi 6 6 0xffffffff)
    ∷ word_of (Jal 0 0xfffffff4)
    ∷ word_of (Tmc 0)
    ∷ []

loop_first_mask : (after 2 loop (warp 15 [])).mask ≡ 12
unfolding least_below lanes_below accesses_below effect_in fetched
loop_first_mask = refl

loop_turn_pc : (after 5 loop (warp 15 [])).pc ≡ 0x80000004
unfolding least_below lanes_below accesses_below effect_in fetched
loop_turn_pc = refl

loop_last_mask : (after 6 loop (warp 15 [])).mask ≡ 15
unfolding least_below lanes_below accesses_below effect_in fetched
loop_last_mask = refl

-- in the second turn no lane stays, and all lanes that entered go on
loop_exit_pc : (after 7 loop (warp 15 [])).pc ≡ 0x80000014
unfolding least_below lanes_below accesses_below effect_in fetched
loop_exit_pc = refl

loop_end_mask : (after 8 loop (warp 15 [])).mask ≡ 0
unfolding least_below lanes_below accesses_below effect_in fetched
loop_end_mask = refl

pred_of_no_lane : ends (word_of (Pred 0 0) ∷ []) (warp 15 []) ≡ step.Ended
unfolding least_below lanes_below accesses_below effect_in fetched
pred_of_no_lane = refl

-- x7 is 24 in lane 3, which names lanes 3 and 4, and the warp has no lane 4
tmc_mask : (after 1 (word_of (Tmc 7) ∷ []) (warp 8 [])).mask ≡ 8
unfolding least_below lanes_below accesses_below effect_in fetched
tmc_mask = refl

-- the operand is that of the least active lane
tmc_least : (after 1 (word_of (Tmc 7) ∷ []) (warp 10 [])).mask ≡ 8
unfolding least_below lanes_below accesses_below effect_in fetched
tmc_least = refl

tmc_ends : ends (word_of (Tmc 0) ∷ []) (warp 15 []) ≡ step.Ended
unfolding least_below lanes_below accesses_below effect_in fetched
tmc_ends = refl

-- ---- wspawn, bar

spawn : ends (word_of (Wspawn 5 7) ∷ []) (warp 10 []) ≡ step.Spawn 1 8
unfolding least_below lanes_below accesses_below effect_in fetched
spawn = refl

-- 24 mod 16 is 8
wait : ends (word_of (Bar 7 6) ∷ []) (warp 8 []) ≡ step.Wait 8 1
unfolding least_below lanes_below accesses_below effect_in fetched
wait = refl

-- ---- the lanes

csr_lane : (after 1 (word_of (Csrr 9 0xcc0) ∷ []) (warp 15 [])).registers 3 9 ≡ 3
unfolding least_below lanes_below accesses_below effect_in fetched
csr_lane = refl

csr_warp : (after 1 (word_of (Csrr 9 0xcc1) ∷ []) (warp 15 [])).registers 3 9 ≡ 2
unfolding least_below lanes_below accesses_below effect_in fetched
csr_warp = refl

-- a lane that is not active does nothing
inactive : (after 1 (word_of (Addi 9 0 1) ∷ []) (warp 11 [])).registers 2 9 ≡ 0
unfolding least_below lanes_below accesses_below effect_in fetched
inactive = refl

active : (after 1 (word_of (Addi 9 0 1) ∷ []) (warp 11 [])).registers 3 9 ≡ 1
unfolding least_below lanes_below accesses_below effect_in fetched
active = refl

x0_stays : (after 1 (word_of (Addi 0 0 1) ∷ []) (warp 15 [])).registers 1 0 ≡ 0
unfolding least_below lanes_below accesses_below effect_in fetched
x0_stays = refl

-- lanes 0 and 1 disagree on a branch
branch_split : ends (word_of (Beq 5 0 8) ∷ []) (warp 15 []) ≡ step.Trap trap.Split 1 0x80000000
unfolding least_below lanes_below accesses_below effect_in fetched
branch_split = refl

-- also where both outcomes lead to one instruction
branch_to_next : ends (word_of (Beq 5 0 4) ∷ []) (warp 15 []) ≡ step.Trap trap.Split 1 0x80000000
unfolding least_below lanes_below accesses_below effect_in fetched
branch_to_next = refl

branch_agreed : (after 1 (word_of (Beq 5 0 8) ∷ []) (warp 5 [])).pc ≡ 0x80000008
unfolding least_below lanes_below accesses_below effect_in fetched
branch_agreed = refl

-- a target that is no multiple of 4 is the least active lane's trap, and the disagreement of a later lane does not count
branch_misaligned : ends (word_of (Beq 5 0 6) ∷ []) (warp 15 []) ≡ step.Trap trap.Misaligned 0 0x80000000
unfolding least_below lanes_below accesses_below effect_in fetched
branch_misaligned = refl

-- a lane that disagrees, and whose own target is no multiple of 4
branch_split_misaligned : ends (word_of (Bne 5 0 6) ∷ []) (warp 15 []) ≡ step.Trap trap.Split 1 0x80000000
unfolding least_below lanes_below accesses_below effect_in fetched
branch_split_misaligned = refl

-- Lanes 0 and 1 go to 0, lane 2 to 2: it disagrees, and lanes 0 and 1 have the link.
abbrev jumps : List ℕ
jumps = word_of (Jalr 1 1 6) ∷ []

jalr_split : ends jumps (warp 15 []) ≡ step.Trap trap.Split 2 0x80000000
unfolding least_below lanes_below accesses_below effect_in fetched
jalr_split = refl

jalr_below : (after 1 jumps (warp 15 [])).registers 1 1 ≡ 0x80000004
unfolding least_below lanes_below accesses_below effect_in fetched
jalr_below = refl

jalr_named : (after 1 jumps (warp 15 [])).registers 2 1 ≡ 0
unfolding least_below lanes_below accesses_below effect_in fetched
jalr_named = refl

jalr_pc : (after 1 jumps (warp 15 [])).pc ≡ 0x80000000
unfolding least_below lanes_below accesses_below effect_in fetched
jalr_pc = refl

-- Lane k loads the word at 0xf4 + 8 * k, which is past the memory in lane 2.
abbrev loads : List ℕ
loads = word_of (Lw 9 0xf4 7) ∷ []

bus_lane : ends loads (warp 15 []) ≡ step.Trap trap.Bus 2 0x80000000
unfolding least_below lanes_below accesses_below effect_in fetched
bus_lane = refl

bus_below : (after 1 loads (warp 15 [])).registers 1 9 ≡ 0x81
unfolding least_below lanes_below accesses_below effect_in fetched
bus_below = refl

bus_accesses : (warp_step has ids loads answers (warp 15 [])).accesses
    ≡ record { lane = 0; access = Reads 0xf4 Four 0x80 } ∷ record { lane = 1; access = Reads 0xfc Four 0x81 } ∷ []
unfolding least_below lanes_below accesses_below effect_in fetched
bus_accesses = refl

-- the sign of a byte is extended
signed_byte : (after 1 (word_of (Lb 9 0 7) ∷ []) (warp 15 [])).registers 1 9 ≡ 0xffffff81
unfolding least_below lanes_below accesses_below effect_in fetched
signed_byte = refl

-- x5 is 1 in lane 1, which cannot store a word there; lane 0 has stored
stores_misaligned : ends (word_of (Sw 7 0 5) ∷ []) (warp 15 []) ≡ step.Trap trap.Misaligned 1 0x80000000
unfolding least_below lanes_below accesses_below effect_in fetched
stores_misaligned = refl

stores_below : (warp_step has ids (word_of (Sw 7 0 5) ∷ []) answers (warp 15 [])).accesses
    ≡ record { lane = 0; access = Writes 0 Four 0 } ∷ []
unfolding least_below lanes_below accesses_below effect_in fetched
stores_below = refl

-- of two causes for one lane the first row counts
misaligned_outside : ends (word_of (Lw 9 0x102 7) ∷ []) (warp 15 []) ≡ step.Trap trap.Misaligned 0 0x80000000
unfolding least_below lanes_below accesses_below effect_in fetched
misaligned_outside = refl

-- the target of the least active lane is no multiple of 4, and it has no link
jalr_misaligned : ends jumps (warp 12 []) ≡ step.Trap trap.Misaligned 2 0x80000000
unfolding least_below lanes_below accesses_below effect_in fetched
jalr_misaligned = refl

jalr_misaligned_link : (after 1 jumps (warp 12 [])).registers 2 1 ≡ 0
unfolding least_below lanes_below accesses_below effect_in fetched
jalr_misaligned_link = refl

break_least : ends (word_of Ebreak ∷ []) (warp 12 []) ≡ step.Trap trap.Break 2 0x80000000
unfolding least_below lanes_below accesses_below effect_in fetched
break_least = refl

-- ---- no instruction

outside : ends [] (warp 12 []) ≡ step.Trap trap.Bus 2 0x80000000
unfolding least_below lanes_below accesses_below effect_in fetched
outside = refl

no_instruction : ends (0 ∷ []) (warp 12 []) ≡ step.Trap trap.Illegal 2 0x80000000
unfolding least_below lanes_below accesses_below effect_in fetched
no_instruction = refl
