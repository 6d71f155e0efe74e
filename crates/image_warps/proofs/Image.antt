-- The law of a warp at the words of operations.
use Rattle.std.proofs.Common.{◌≡◌, ℕ, zero, suc, ◌+◌, ◌≤◌, List, [], ◌∷◌, ◌++◌, drop, length, ap, subst, ◌∙◌, refl}
use Rattle.vx_isa.specs.Warps.{Registers}
use Rattle.vcode.specs.Code.{VOp}
use Rattle.vcode.specs.Words.{op_words, words}
use Rattle.simt_lowering.specs.Bounds.{AreWithin, OpWithin}
use Rattle.warp_code.specs.Warps.{VWarp}
use Rattle.reg_alloc.specs.Plain.{Plain}
use Rattle.reg_alloc.specs.Layout.{word_of_place}
use Rattle.image_warps.specs.Lanes.{Ground, Known, Laid}
use Rattle.image_warps.specs.Warps.{Along, Jumping, Position, Stands, Storing, block_at, word_at}
use Rattle.image_warps.specs.Premises.{InOrder, TakesWord}
use Rattle.image_warps.specs.Laws.{EnterLaw, FramesAnswer, ImageLaw, Inside, OneStep}
use Rattle.image_warps.proofs.Reached.{op_reaches}
use Rattle.image_warps.proofs.Stepping.{Scene, after}
use Rattle.image_warps.proofs.Inside.{along, jumping, storing}
use Rattle.image_warps.proofs.Acting.{Begun}
use Rattle.image_warps.proofs.Acts.{Ready, acts}
use Rattle.image_warps.proofs.Ends.{enters}

-- an operation of code that names few registers names few
fits_at : (slots : ℕ) (ops rest : List VOp) (op : VOp) (p : ℕ) → AreWithin slots ops → drop p ops ≡ op ∷ rest → OpWithin slots op
fits_at slots [] rest op zero within e = absurd (cc)
fits_at slots [] rest op (suc p) within e = absurd (cc)
fits_at slots (x ∷ ops) rest op zero within e = let same : x ≡ op = cc in subst (OpWithin slots) same within.0
fits_at slots (x ∷ ops) rest op (suc p) within e = fits_at slots ops rest op p within.1 e

whole : (done : List Plain) → done ++ [] ≡ done
whole [] = refl
whole (p ∷ done) = ap (λ ps. p ∷ ps) (whole done)

abbrev pub scene_of : (g : Ground) (ops : List VOp) → Laid g → AreWithin g.slots ops → words ops ≤ 65536 → (known : ℕ → Known) (w : VWarp) (xs : ℕ → Registers) (frames : ℕ → ℕ → ℕ) (answers : ℕ → ℕ)
    → InOrder g ops known w answers → Scene
scene_of g ops laid within near known w xs frames answers order = record {
  g = g;
  ops = ops;
  laid = laid;
  within = within;
  near = near;
  w = w;
  some = order.some;
  small = order.small;
  xs = xs;
  frames = frames;
  answers = answers;
}

module _ (g : Ground) (ops : List VOp) (laid : Laid g) (within : AreWithin g.slots ops) (near : words ops ≤ 65536)
    (known : ℕ → Known) (w : VWarp) (xs : ℕ → Registers) (frames : ℕ → ℕ → ℕ) (answers : ℕ → ℕ) (order : InOrder g ops known w answers) where
  abbrev pub c : Scene
  c = scene_of g ops laid within near known w xs frames answers order

  fits : OpWithin g.slots order.op
  fits = fits_at g.slots ops order.rest order.op w.place within order.there

  ready : Ready c known order.op
  ready = record {
    ordered = record { rest = order.rest; there = order.there; here = order.here; traps = order.traps };
    fits = fits;
    clean = order.clean;
    based = order.based;
    reaches = order.reaches;
  }

  -- the words in front of the operation are done
  acts_behind : (done : List Plain) → block_at g ops w.place order.op ≡ done → TakesWord (Along done) order.op → Stands g ops known w (Along done) xs frames
      → FramesAnswer g (after c (word_of_place ops w.place + length done)) frames → OneStep g ops known w xs answers frames order.op (after c (word_of_place ops w.place + length done))
  acts_behind done e takes stands answered =
      subst (λ ps. Begun c known ps → FramesAnswer g (after c (word_of_place ops w.place + length ps)) frames → OneStep g ops known w xs answers frames order.op (after c (word_of_place ops w.place + length ps)))
      e (acts c known stands.idle order.op takes ready) stands.active answered

  step_along : (done ws : List Plain) → block_at g ops w.place order.op ≡ done ++ ws → TakesWord (Along done) order.op → Stands g ops known w (Along done) xs frames
      → FramesAnswer g (after c (word_of_place ops w.place + length done)) frames → OneStep g ops known w xs answers frames order.op (after c (word_of_place ops w.place + length done))
  step_along done [] e takes stands answered = acts_behind done (e ∙ whole done) takes stands answered
  step_along done (p ∷ ws) e takes stands answered =
      Inside (along c known stands.idle order.op order.rest done p ws order.there e stands.active
      (λ l from low active same. op_reaches g l (known l) (w.lanes l).registers from same (word_of_place ops) (op_words order.op + word_of_place ops w.place) order.op fits (order.based l active)) answered)

  step_from : (at : Position) → TakesWord at order.op → Stands g ops known w at xs frames → FramesAnswer g (after c (word_at ops w at)) frames
      → OneStep g ops known w xs answers frames order.op (after c (word_at ops w at))
  step_from (Along done) takes stands answered =
      let left = stands.left order.op order.rest order.there in
      step_along done left.0 left.1 takes stands answered
  step_from (Storing d) takes stands answered = Inside (storing c known stands.idle d stands.left stands.active answered)
  step_from (Jumping k) takes stands answered = Inside (jumping c known stands.idle k stands.left stands.active answered)

pub image_law : ImageLaw
image_law g ops laid within near known w at xs frames answers order takes stands answered = step_from g ops laid within near known w xs frames answers order at takes stands answered

pub enter_law : EnterLaw
enter_law g ops rest laid within near known w xs frames answers order there stands =
    enters (scene_of g ops laid within near known w xs frames answers order) known (record { rest = rest; there = there; here = order.here; traps = order.traps }) stands
