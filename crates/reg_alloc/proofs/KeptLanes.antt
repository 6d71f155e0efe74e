-- A lane alone at the words of a kernel asks for what the lane of the code asks for.
use Rattle.std.proofs.Common.{◌≡◌, ℕ, zero, suc, ◌≤◌, false, List, [], ◌∷◌, drop, refl}
use Rattle.item_acts.specs.declared.acts.Place.{Place}
use Rattle.step_machine.specs.Sims.{Unseen}
use Rattle.step_machine.proofs.AlongLaws.{along_alike}
use Rattle.vcode.specs.Code.{VOp, Fresh, Copy, Compute, Cut, Word, WordAt, Learn, Fetch, Write, IfZero, IfNot, Goto, Split, Join, Pred, Tmc, Wspawn, Bar, Trap, Enter, Leaves, Again}
use Rattle.vcode.specs.Machine.{lane, step}
use Rattle.vcode.specs.Words.{words}
use Rattle.vcode.proofs.Steps.{behind}
use Rattle.simt_lowering.specs.Bounds.{AreWithin}
use Rattle.reg_alloc.specs.Plain.{held}
use Rattle.reg_alloc.specs.Layout.{word_of_place}
use Rattle.reg_alloc.specs.Alone.{Setting, image_step}
use Rattle.reg_alloc.specs.Keeping.{IsSettingOf, around_in}
use Rattle.reg_alloc.specs.Laws.{LanesAreKept}
use Rattle.reg_alloc.proofs.Asking.{bar_from, fetch_from, write_from}
use Rattle.reg_alloc.proofs.Bare.{alike_bare}
use Rattle.reg_alloc.proofs.Going.{From, code_step, free}
use Rattle.reg_alloc.proofs.Goings.{lane_at}
use Rattle.reg_alloc.proofs.Knowing.{clean_from}
use Rattle.reg_alloc.proofs.Forward.{compute_from, copy_from, cut_from, enter_from, fresh_from, join_from, learn_from, pred_from, spawn_from, split_from, word_at_from, word_from}
use Rattle.reg_alloc.proofs.Turning.{again_from, end_from, goto_from, if_not_from, if_zero_from, leaves_from, tmc_from, trap_from}

module _ (slots : ℕ) (ops : List VOp) (few : slots ≤ 256) (within : AreWithin slots ops) (low : words ops ≤ 65536)
    (k : Setting) (place : ℕ → Place) (at : IsSettingOf slots ops k) where
  -- Operations that go on to the place behind them do so by the operations that are left; the others lead to any place, where one step less is
  -- looked at.
  onward : (m : ℕ) → ((q : ℕ) → From k place slots ops m q) → (left : List VOp) (p : ℕ) → drop p ops ≡ left → From k place slots ops (suc m) p
  onward m there [] p e = end_from slots ops few within low k place at (suc m) p e
  onward m there (Fresh ∷ rest) p e = fresh_from slots ops few within low k place at rest (suc m) p e (onward m there rest (suc p) (behind ops rest Fresh p e))
  onward m there (Copy d a ∷ rest) p e = copy_from slots ops few within low k place at d a rest (suc m) p e (onward m there rest (suc p) (behind ops rest (Copy d a) p e))
  onward m there (Compute d op a c ∷ rest) p e = compute_from slots ops few within low k place at d op a c rest (suc m) p e (onward m there rest (suc p) (behind ops rest (Compute d op a c) p e))
  onward m there (Cut d t a ∷ rest) p e = cut_from slots ops few within low k place at d t a rest (suc m) p e (onward m there rest (suc p) (behind ops rest (Cut d t a) p e))
  onward m there (Word d w ∷ rest) p e = word_from slots ops few within low k place at d w rest (suc m) p e (onward m there rest (suc p) (behind ops rest (Word d w) p e))
  onward m there (WordAt d a w ∷ rest) p e = word_at_from slots ops few within low k place at d a w rest (suc m) p e (onward m there rest (suc p) (behind ops rest (WordAt d a w) p e))
  onward m there (Learn d c ∷ rest) p e = learn_from slots ops few within low k place at d c rest (suc m) p e (onward m there rest (suc p) (behind ops rest (Learn d c) p e))
  onward m there (Fetch d t a ∷ rest) p e = fetch_from slots ops few within low k place at d t a rest (suc m) p e (onward m there rest (suc p) (behind ops rest (Fetch d t a) p e))
  onward m there (Write t a c ∷ rest) p e = write_from slots ops few within low k place at t a c rest (suc m) p e (onward m there rest (suc p) (behind ops rest (Write t a c) p e))
  onward m there (IfZero a q ∷ rest) p e = if_zero_from slots ops few within low k place at a q rest m p e (there q) (there (suc p))
  onward m there (IfNot a q ∷ rest) p e = if_not_from slots ops few within low k place at a q rest m p e (there q) (there (suc p))
  onward m there (Goto q ∷ rest) p e = goto_from slots ops few within low k place at q rest m p e (there q)
  onward m there (Split a ∷ rest) p e = split_from slots ops few within low k place at a rest (suc m) p e (onward m there rest (suc p) (behind ops rest (Split a) p e))
  onward m there (Join ∷ rest) p e = join_from slots ops few within low k place at rest (suc m) p e (onward m there rest (suc p) (behind ops rest Join p e))
  onward m there (Pred a r ∷ rest) p e = pred_from slots ops few within low k place at a r rest (suc m) p e (onward m there rest (suc p) (behind ops rest (Pred a r) p e))
  onward m there (Tmc a ∷ rest) p e = tmc_from slots ops few within low k place at a rest (suc m) p e (onward m there rest (suc p) (behind ops rest (Tmc a) p e))
  onward m there (Wspawn a q ∷ rest) p e = spawn_from slots ops few within low k place at a q rest (suc m) p e (onward m there rest (suc p) (behind ops rest (Wspawn a q) p e))
  onward m there (Bar site ∷ rest) p e = bar_from slots ops few within low k place at site rest (suc m) p e (onward m there rest (suc p) (behind ops rest (Bar site) p e))
  onward m there (Trap pos ∷ rest) p e = trap_from slots ops few within low k place at pos rest (suc m) p e
  onward m there (Enter ∷ rest) p e = enter_from slots ops few within low k place at rest (suc m) p e (onward m there rest (suc p) (behind ops rest Enter p e))
  onward m there (Leaves a q ∷ rest) p e = leaves_from slots ops few within low k place at a q rest m p e (there q) (there (suc p))
  onward m there (Again q ∷ rest) p e = again_from slots ops few within low k place at q rest m p e (there q)

  everywhere : (n p : ℕ) → From k place slots ops n p
  everywhere zero p = λ rs ts ns h ws b small clean same. Unseen (lane p rs ts ns) (lane_at (word_of_place ops p) h ns)
  everywhere (suc m) p = onward m (λ q. everywhere m q) (drop p ops) p refl

pub lanes_are_kept : LanesAreKept
lanes_are_kept slots ops few within low k place at s small clean registers frame =
    alike_bare (step (around_in k place) ops) (image_step k) s (lane_at (word_of_place ops s.place) (held registers frame) s.numbers)
    (along_alike (code_step k place ops) (image_step k) free (λ t. 0) s (lane_at (word_of_place ops s.place) (held registers frame) s.numbers)
    (λ n. everywhere slots ops few within low k place at n s.place s.registers s.turns s.numbers (held registers frame) [] false small (clean_from k place ops s clean)
    (record { read = λ r one. absurd one; base = λ on. absurd (cc) })))
