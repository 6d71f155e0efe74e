-- Steps that a warp makes with all its lanes together: the masks and the stack are those of the warp of the code.
use Rattle.std.proofs.Common.{◌≡◌, ℕ, suc, ◌+◌, ◌<◌, Bool, true, false, if◌then◌else◌, List, [], ◌∷◌, length, map, ap, sym, subst, refl}
use Rattle.vx_isa.specs.WarpSteps.{Stepped}
use Rattle.vx_isa.specs.declared.warps.Held.{Held as Entry}
use Rattle.vx_isa.specs.declared.warps.Step.{Step}
use Rattle.vcode.specs.Code.{VOp}
use Rattle.warp_code.specs.Warps as code
use Rattle.warp_code.specs.Warps.{VLane, stepped, warp_step}
use Rattle.reg_alloc.specs.Plain.{held}
use Rattle.reg_alloc.specs.Blocks.{address_of_word}
use Rattle.reg_alloc.specs.Layout.{word_of_place}
use Rattle.image_warps.specs.Lanes.{Known, Same, AsksAlike, known_behind}
use Rattle.image_warps.specs.Warps.{Along, Stands, block_at, entry_at, image_warp, outcome_at, word_at}
use Rattle.image_warps.specs.Laws.{IsOver, all_known}
use Rattle.image_warps.proofs.Stepping.{Scene, after, is_active}

pub map_length : (ops : List VOp) (st : List Entry) → length (map (entry_at ops) st) ≡ length st
map_length ops [] = refl
map_length ops (x ∷ st) = ap suc (map_length ops st)

-- all lanes stand for those of the code
abbrev pub AllSame : Scene → (ℕ → Known) → Type 0
AllSame c known = (l : ℕ) → l < 32 → Same c.g l (known l) (c.w.lanes l).registers (held (c.xs l) (c.frames l))

-- such an operation leaves what is known, and a lane asks for nothing there
abbrev pub AsksNone : (c : Scene) → VOp → Type 0
AsksNone c op = (l : ℕ) → AsksAlike (c.g.at l) (c.answers l) (code.does c.g.crew c.w.mask op l (c.w.lanes l)) []

module _ (c : Scene) (known : ℕ → Known) (op : VOp) (same : AllSame c known) (none : AsksNone c op) (keeps : (l : ℕ) → known_behind op (known l) ≡ known l) where
  still : (l : ℕ) → all_known op c.w known l ≡ known l
  still l = by (is_active c l) where
    by : (b : Bool) → (if b then known_behind op (known l) else known l) ≡ known l
    by true = keeps l
    by false = refl

  -- the step at word k is this one, and that of the code is this one
  pub whole_over : (k place mask : ℕ) (stack : List Entry) (vs : ℕ → VLane) (outcome : Step)
      → after c k ≡ record { warp = record { pc = address_of_word (word_of_place c.ops place + 0); mask = mask; registers = c.xs; stack = map (entry_at c.ops) stack }; accesses = []; outcome = outcome_at c.ops outcome }
      → warp_step c.g.crew c.ops c.answers c.w ≡ stepped outcome place mask stack vs
      → ((l : ℕ) → (vs l).registers ≡ (c.w.lanes l).registers)
      → IsOver c.g c.ops known c.w c.answers c.frames op (after c k)
  whole_over k place mask stack vs outcome s_is v_is kept =
      subst (λ (s : Stepped). IsOver c.g c.ops known c.w c.answers c.frames op s) (sym s_is) (record {
        at = Along [];
        warp = ap (λ (v : code.Stepped). image_warp c.ops (word_at c.ops v.warp (Along [])) v.warp c.xs) (sym v_is);
        outcome = ap (λ (v : code.Stepped). outcome_at c.ops v.outcome) (sym v_is);
        asks = λ l low active. none l;
        others = λ l low idle. refl;
        stands = subst (λ (v : code.Stepped). Stands c.g c.ops (all_known op c.w known) v.warp (Along []) c.xs c.frames) (sym v_is) stands;
      }) where
        lane_same : (l : ℕ) → l < 32 → Same c.g l (all_known op c.w known l) (vs l).registers (held (c.xs l) (c.frames l))
        lane_same l low =
            subst (λ kn. Same c.g l kn (vs l).registers (held (c.xs l) (c.frames l))) (sym (still l))
            (subst (λ rs. Same c.g l (known l) rs (held (c.xs l) (c.frames l))) (sym (kept l)) (same l low))

        stands : Stands c.g c.ops (all_known op c.w known) (stepped outcome place mask stack vs).warp (Along []) c.xs c.frames
        stands = record {
          left = λ op' rest there. (block_at c.g c.ops place op', refl);
          active = λ l low active. (held (c.xs l) (c.frames l), (lane_same l low, refl));
          idle = λ l low idle. lane_same l low;
        }
