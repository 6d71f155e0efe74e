-- What the lanes of a warp access.
use Rattle.std.proofs.Common.{◌≡◌, ℕ, suc, inr, List, [], ◌∷◌, drop, refl, ap, sym, ◌∙◌, subst}
use Rattle.item_acts.specs.declared.acts.Action.{Action}
use Rattle.item_acts.specs.declared.acts.Action.TheVariants.{Load, Store}
use Rattle.item_acts.specs.Machine.{Ask}
use Rattle.item_settings.specs.Settings.{elem_size, low_bytes}
use Rattle.kir.specs.Machine.{value}
use Rattle.vcode.specs.Code.{VOp, Word, WordAt, Fetch, Write}
use Rattle.vcode.specs.Machine as vcode
use Rattle.vcode.specs.Machine.{Around, Lane, lane, op_step, step_from}
use Rattle.simt_lowering.specs.InBlock.{FirstInBlock, OpInBlock}
use Rattle.simt_lowering.specs.Kept.{item_place}
use Rattle.simt_lowering.specs.Lowered.{kernel_code}
use Rattle.simt_lowering.specs.Runs as lowering
use Rattle.simt_lowering.specs.Runs.{Leads, begin, first_written}
use Rattle.simt_lowering.proofs.BlockWords.{in_block}
use Rattle.warp_code.specs.Warps.{Crew, VLane, around_of}
use Rattle.warp_code.specs.Runs.{Comes, Stays, Goes, Takes, answers_in, numbers_in, alone}
use Rattle.mask_laws.specs.Accesses.{OpAccesses, AccessesAreNamed}
use Rattle.mask_laws.proofs.Promising.{asks_now}

-- ---- a run of a lane, with how many steps it has and which registers they write

pub record Led (at : Around) (code : List VOp) (s : Lane) (ws : List ℕ) (t : Lane) : Type 0 where
  pub steps : ℕ
  pub written : List ℕ
  pub comes : lowering.Comes at code steps s ws t written

one_more : (at : Around) (code : List VOp) (s m t : Lane) (ws : List ℕ) → Leads (vcode.step at code s) m → Led at code m (first_written (drop s.place code) ws) t → Led at code s ws t
one_more at code s m t ws leads on = record { steps = suc on.steps; written = on.written; comes = (m, leads, on.comes) }

pub led : (at : Around) (code : List VOp) (ws : List ℕ) {s t : Lane} {answers : List ℕ} → Comes (vcode.step at code) s answers t → Led at code s ws t
led at code ws (Stays s) = record { steps = 0; written = ws; comes = (refl, refl) }
led at code ws (Goes s m t answers goes comes) = one_more at code s m t ws (subst (λ d. Leads d m) (sym goes) refl) (led at code (first_written (drop s.place code) ws) comes)
led at code ws (Takes s a next answer t rest takes comes) =
    one_more at code s (next answer) t ws (subst (λ d. Leads d (next answer)) (sym takes) (answer, refl)) (led at code (first_written (drop s.place code) ws) comes)

-- ---- by the operation

accesses_by : (k : Crew) (l : ℕ) (item_asks : Action → Type 0) (op : VOp) (v : VLane) → OpInBlock op v.registers
    → ((a : Action) (next : ℕ → Lane) → op_step (around_of k l) op v.place v.registers v.turns [] ≡ Ask a next → item_asks a) → OpAccesses k l item_asks op v.registers
accesses_by k l item_asks (Word d n) v inside asks = inside
accesses_by k l item_asks (WordAt d a n) v inside asks = inside
accesses_by k l item_asks (Fetch d elem a) v inside asks = asks (Load (k.places l (value v.registers a)) (elem_size elem)) _ refl
accesses_by k l item_asks (Write elem a b) v inside asks = asks (Store (k.places l (value v.registers a)) (elem_size elem) (low_bytes elem (value v.registers b))) _ refl
accesses_by k l item_asks other v inside asks = tt

pub accesses_named : AccessesAreNamed
accesses_named marks code k is_first limited from run w' honest runs l is_in op ops stands setting bounds as_item =
    let now = from.runs run w' honest runs in
    let start = from.at_items.lanes l (now.active l is_in) in
    let numbers : List ℕ = numbers_in k (kernel_code marks code) l from.w run [] in
    let there : drop (w'.lanes l).place (kernel_code marks code) ≡ op ∷ ops = ap (λ p. drop p (kernel_code marks code)) (now.here l is_in) ∙ stands in
    let reached : Led (around_of k l) (kernel_code marks code) (begin item_place start.0 numbers) [] (alone (w'.lanes l) []) =
    led (around_of k l) (kernel_code marks code) []
    (subst (λ v. Comes (vcode.step (around_of k l) (kernel_code marks code)) (alone v numbers) (answers_in k (kernel_code marks code) l from.w run) (alone (w'.lanes l) [])) start.1 (now.comes l [])) in
    let inside : OpInBlock op (w'.lanes l).registers =
    subst (λ c. FirstInBlock c (w'.lanes l).registers) there
    (in_block code marks limited (around_of k l) item_place start.0 numbers (inr (inr refl)) reached.steps (alone (w'.lanes l) []) reached.written reached.comes) in
    accesses_by k l _ op (w'.lanes l) inside
    (λ a next e.
    now.asks l setting bounds a is_in as_item
    (asks_now (around_of k l) (kernel_code marks code) (w'.lanes l) a next
    (ap (λ c. step_from (around_of k l) c (w'.lanes l).place (w'.lanes l).registers (w'.lanes l).turns []) there ∙ e)))
