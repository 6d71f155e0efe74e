-- One step of a warp keeps what holds of it, at every place whose operation fits.
use Rattle.std.proofs.Common.{ℕ, ◌^◌, ◌<◌, ◌≤◌, Bool, List}
use Rattle.kir.specs.Trees.{Operand}
use Rattle.vcode.specs.Code.{VOp, Fresh, Copy, Compute, Cut, Word, WordAt, Learn, Fetch, Write, IfZero, IfNot, Goto, Split, Join, Pred, Tmc, Wspawn, Bar, Trap, Enter, Leaves, Again}
use Rattle.warp_code.specs.Warps.{Crew, VWarp, moved, warp_op}
use Rattle.mask_laws.specs.Spots.{Frame, Shape, Straight, Sides, Test, Meet, Nowhere, Spot}
use Rattle.mask_laws.proofs.Frames.{InvAt, Inv}
use Rattle.mask_laws.proofs.Fits.{FitsAt, StraightFits, SidesFit, TestFits, MeetFits, Fits, Fine}
use Rattle.mask_laws.specs.Honest.{IsHonest}
use Rattle.mask_laws.proofs.Straight.{at_fresh, at_copy, at_compute, at_cut, at_word, at_word_at, at_learn, at_fetch, at_write, at_if_zero, at_if_not, at_goto, at_bar, at_enter, at_leaves, at_again}
use Rattle.mask_laws.proofs.Parting.{at_split, at_side_zero, at_side_not, at_test}
use Rattle.mask_laws.proofs.Meeting.{at_join, at_pred, at_tmc, at_trap}

module _ (spots : ℕ → Spot) (uni : ℕ → Bool) (all : ℕ) (k : Crew) (few : k.ids.lanes ≤ 32) (low : all < 2 ^ k.ids.lanes) (w : VWarp) (answers : ℕ → ℕ) where
  abbrev Steps : VOp → Type 0
  Steps op = Fine spots uni all op w (warp_op k op (moved k op answers w) w)

  straight_steps : (op : VOp) (fs : List Frame) (ag : ℕ → Bool) (shared : Bool) → InvAt uni all ag (Straight fs) w → IsHonest shared op w answers → StraightFits spots uni w.place fs ag shared op → Steps op
  straight_steps Fresh fs ag shared inv honest fits = at_fresh spots uni all k w answers fs ag inv fits
  straight_steps (Copy d a) fs ag shared inv honest fits = at_copy spots uni all k w answers fs ag inv d a fits
  straight_steps (Compute d op a b) fs ag shared inv honest fits = at_compute spots uni all k w answers fs ag inv d op a b fits
  straight_steps (Cut d elem a) fs ag shared inv honest fits = at_cut spots uni all k w answers fs ag inv d elem a fits
  straight_steps (Word d n) fs ag shared inv honest fits = at_word spots uni all k w answers fs ag inv d n fits
  straight_steps (WordAt d a n) fs ag shared inv honest fits = at_word_at spots uni all k w answers fs ag inv d a n fits
  straight_steps (Learn d csr) fs ag shared inv honest fits = at_learn spots uni all k w answers fs ag inv d csr fits
  straight_steps (Fetch d elem a) fs ag shared inv honest fits = at_fetch spots uni all k w answers fs ag inv d elem a shared honest fits
  straight_steps (Write elem a b) fs ag shared inv honest fits = at_write spots uni all k w answers fs ag inv elem a b fits
  straight_steps (IfZero a q) fs ag shared inv honest fits = at_if_zero spots uni all k w answers fs ag inv a q fits
  straight_steps (IfNot a q) fs ag shared inv honest fits = at_if_not spots uni all k w answers fs ag inv a q fits
  straight_steps (Goto q) fs ag shared inv honest fits = at_goto spots uni all k w answers fs ag inv q fits.0
  straight_steps (Split t) fs ag shared inv honest fits = at_split spots uni all k w answers t fs ag inv fits
  straight_steps Join fs ag shared inv honest fits = absurd fits
  straight_steps (Pred t m) fs ag shared inv honest fits = at_pred spots uni all k w answers t m fs ag inv fits few low
  straight_steps (Tmc a) fs ag shared inv honest fits = at_tmc spots uni all k w answers fs ag inv a fits
  straight_steps (Wspawn a q) fs ag shared inv honest fits = absurd fits
  straight_steps (Bar site) fs ag shared inv honest fits = at_bar spots uni all k w answers fs ag inv site fits.0
  straight_steps (Trap pos) fs ag shared inv honest fits = at_trap spots uni all k w answers fs ag inv pos
  straight_steps Enter fs ag shared inv honest fits = at_enter spots uni all k w answers fs ag inv fits
  straight_steps (Leaves a x) fs ag shared inv honest fits = at_leaves spots uni all k w answers fs ag inv a x fits
  straight_steps (Again q) fs ag shared inv honest fits = at_again spots uni all k w answers fs ag inv q fits

  sides_steps : (op : VOp) (q e j : ℕ) (t : Operand) (fs : List Frame) (ag : ℕ → Bool) → InvAt uni all ag (Sides q e j t fs) w → SidesFit spots w.place q e j t fs ag op → Steps op
  sides_steps (IfZero a o) q e j t fs ag inv fits = at_side_zero spots uni all k w answers q e j t fs ag inv a o fits
  sides_steps (IfNot a o) q e j t fs ag inv fits = at_side_not spots uni all k w answers q e j t fs ag inv a o fits
  sides_steps other q e j t fs ag inv fits = absurd fits

  test_steps : (op : VOp) (s p x m : ℕ) (t : Operand) (fs : List Frame) (ag : ℕ → Bool) → InvAt uni all ag (Test s p x m t fs) w → TestFits spots w.place s p x m t fs ag op → Steps op
  test_steps (Leaves a o) s p x m t fs ag inv fits = at_test spots uni all k w answers s p x m t fs ag inv a o fits
  test_steps other s p x m t fs ag inv fits = absurd fits

  meet_steps : (op : VOp) (q e j : ℕ) (t : Operand) (fs : List Frame) (ag : ℕ → Bool) → InvAt uni all ag (Meet q e j t fs) w → MeetFits spots uni w.place q e j t fs op → Steps op
  meet_steps Join q e j t fs ag inv fits = at_join spots uni all k w answers q e j t fs ag inv fits
  meet_steps other q e j t fs ag inv fits = absurd fits

  steps_at : (op : VOp) (sh : Shape) (ag : ℕ → Bool) (shared : Bool) → InvAt uni all ag sh w → IsHonest shared op w answers → FitsAt spots uni w.place op sh ag shared → Steps op
  steps_at op (Straight fs) ag shared inv honest fits = straight_steps op fs ag shared inv honest fits
  steps_at op (Sides q e j t fs) ag shared inv honest fits = sides_steps op q e j t fs ag inv fits
  steps_at op (Test s p x m t fs) ag shared inv honest fits = test_steps op s p x m t fs ag inv fits
  steps_at op (Meet q e j t fs) ag shared inv honest fits = meet_steps op q e j t fs ag inv fits
  steps_at op Nowhere ag shared inv honest fits = absurd (inv.held)

  pub step_keeps : Inv spots uni all w → Fits spots uni w.place → IsHonest (spots w.place).shared (spots w.place).op w answers → Steps (spots w.place).op
  step_keeps inv fits honest = steps_at (spots w.place).op (spots w.place).shape (spots w.place).agree (spots w.place).shared inv honest fits
