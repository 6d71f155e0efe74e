-- The word by which an operation is made, where its block stands.
use Rattle.std.proofs.Common.{◌≡◌, ℕ, suc, ◌+◌, ◌-◌, ◌%◌, ◌<◌, true, List, [], ◌∷◌, ◌++◌, drop, length, ap, sym, subst, ◌∙◌, arith, refl}
use Rattle.vx_isa.specs.Effects.{address_at}
use Rattle.vx_isa.specs.declared.instr.Instr.{Instr}
use Rattle.vx_isa.specs.declared.instr.LaneEffect.TheVariants as effect
use Rattle.vx_isa.specs.declared.warps.Step.TheVariants as step
use Rattle.vcode.specs.Code.{VOp}
use Rattle.vcode.specs.Words.{op_words}
use Rattle.warp_code.specs.Warps as code
use Rattle.warp_code.specs.Warps.{around_of, warp_op}
use Rattle.reg_alloc.specs.Plain.{Held, Plain, PutSlot, do_all, held, instr_of, made}
use Rattle.reg_alloc.specs.Blocks.{Block, address_of_word, block, distance, ends, jump, leads, stores}
use Rattle.reg_alloc.specs.Layout.{instrs_from, instrs_of, onto, word_of_place}
use Rattle.reg_alloc.proofs.Goings.{rest_at}
use Rattle.reg_alloc.proofs.Sizes.{block_size, size}
use Rattle.reg_alloc.proofs.Standing.{jumps_land, places_are_within}
use Rattle.image_warps.specs.Lanes.{Known, Same, known_behind}
use Rattle.image_warps.specs.Warps.{Along, Jumping, Position, Storing, block_at}
use Rattle.image_warps.specs.Laws.{FramesAnswer, IsOver}
use Rattle.image_warps.proofs.Quiet.{effect_at}
use Rattle.image_warps.proofs.Computed.{IsLanes}
use Rattle.image_warps.proofs.Made.{Answered, Made}
use Rattle.image_warps.proofs.Stepping.{Moves, Scene, Word, after, is_active, word_low}
use Rattle.image_warps.proofs.Inside.{Idle, left_there, next_word}
use Rattle.image_warps.proofs.Overs.{Ordered, Over, goes_to, lanes_behind, next_place, one_behind, over}

nothing_more : (ws : List Plain) → ws ≡ ws ++ []
nothing_more [] = refl
nothing_more (p ∷ ws) = ap (λ ps. p ∷ ps) (nothing_more ws)

-- the active lanes began the block standing for those of the code, and have done these words
abbrev pub Begun : Scene → (ℕ → Known) → List Plain → Type 0
Begun c known ws =
    (l : ℕ) → l < 32 → is_active c l ≡ true → (from : Held) × (Same c.g l (known l) (c.w.lanes l).registers from × (held (c.xs l) (c.frames l) ≡ do_all (around_of c.g.crew l) ws from))

module _ (c : Scene) (known : ℕ → Known) (idle : Idle c known) (op : VOp) (o : Ordered c op) where
  abbrev pub start : ℕ
  start = word_of_place c.ops c.w.place

  abbrev pub end : ℕ
  end = op_words op + word_of_place c.ops c.w.place

  abbrev pub later : List Instr
  later = instrs_from c.g.slots (word_of_place c.ops) (op_words op + word_of_place c.ops c.w.place) o.rest

  abbrev pub this_block : Block
  this_block = block c.g.slots (word_of_place c.ops) (op_words op + word_of_place c.ops c.w.place) op

  pub word_there : (b : Block) → this_block ≡ b
      → drop (word_of_place c.ops c.w.place + length b.before) (instrs_of c.g.slots c.ops) ≡ onto b.acting (onto b.behind (instrs_from c.g.slots (word_of_place c.ops) (op_words op + word_of_place c.ops c.w.place) o.rest))
  word_there b e =
      subst (λ (x : Block). drop (start + length x.before) (instrs_of c.g.slots c.ops) ≡ onto x.acting (onto x.behind later)) e
      (left_there c.g c.ops o.rest op c.w.place this_block.before [] o.there (nothing_more this_block.before))

  pub size_is : (b : Block) → this_block ≡ b → size b ≡ op_words op
  size_is b e = ap size (sym e) ∙ block_size c.g.slots (word_of_place c.ops) end op

  -- the operation is made so by a word, for each active lane
  abbrev pub MadeBy : List Plain → Instr → Position → ℕ → ℕ → Type 0
  MadeBy ws i at choice target =
      (l : ℕ) → l < 32 → is_active c l ≡ true → (from : Held) → Same c.g l (known l) (c.w.lanes l).registers from → (answer : ℕ)
      → Answered c.g l answer (do_all (around_of c.g.crew l) ws from) (effect_at i (address_of_word (word_of_place c.ops c.w.place + length ws)) (do_all (around_of c.g.crew l) ws from).registers)
      → Made c.g c.w.mask l (address_of_word (word_of_place c.ops c.w.place + length ws)) answer choice target at (known_behind op (known l)) (one_behind c op l answer).registers
      (code.does c.g.crew c.w.mask op l (c.w.lanes l)) (effect_at i (address_of_word (word_of_place c.ops c.w.place + length ws)) (do_all (around_of c.g.crew l) ws from).registers) (do_all (around_of c.g.crew l) ws from)

  moves_by : (ws : List Plain) (d : Word c) (at : Position) (choice target : ℕ) → d.k ≡ start + length ws → Begun c known ws → MadeBy ws d.i at choice target → Moves c d choice target (Over c op o known d at)
  moves_by ws d at choice target e begun by l low active answer given =
      let h = held (c.xs l) (c.frames l) in
      let from = (begun l low active).0 in
      let same = (begun l low active).1.0 in
      let did = (begun l low active).1.1 in
      let pc = address_of_word d.k in
      let m = subst (λ n. Answered c.g l answer (do_all (around_of c.g.crew l) ws from) (effect_at d.i (address_of_word n) (do_all (around_of c.g.crew l) ws from).registers)
      → Made c.g c.w.mask l (address_of_word n) answer choice target at (known_behind op (known l)) (one_behind c op l answer).registers
      (code.does c.g.crew c.w.mask op l (c.w.lanes l)) (effect_at d.i (address_of_word n) (do_all (around_of c.g.crew l) ws from).registers) (do_all (around_of c.g.crew l) ws from))
      (sym e) (by l low active from same answer) in
      let m' = subst (λ (x : Held). Answered c.g l answer x (effect_at d.i pc x.registers)
      → Made c.g c.w.mask l pc answer choice target at (known_behind op (known l)) (one_behind c op l answer).registers (code.does c.g.crew c.w.mask op l (c.w.lanes l)) (effect_at d.i pc x.registers) x)
      (sym did) m given in
      (m'.after, (m'.goes, (m'.stands, m'.asks)))

  module _ (lanes : warp_op c.g.crew op (lanes_behind c op) c.w ≡ code.lanes_step op (lanes_behind c op) c.w) where
    -- all lanes go on to the next place
    goes_on : ((l : ℕ) → is_active c l ≡ true → (one_behind c op l (c.answers l)).place ≡ suc (c.w.lanes l).place)
        → code.warp_step c.g.crew c.ops c.answers c.w ≡ code.stepped step.Next (suc c.w.place) c.w.mask c.w.stack (lanes_behind c op)
    goes_on placed = goes_to c op o lanes (suc c.w.place) (λ l low active. placed l active ∙ ap suc (o.here l active))

    abbrev pub Placed : (ℕ → ℕ) → Type 0
    Placed place = (l : ℕ) → is_active c l ≡ true → (one_behind c op l (c.answers l)).place ≡ place l

    abbrev pub next_of : ℕ → ℕ
    next_of l = suc (c.w.lanes l).place

    abbrev pub IsOverAt : ℕ → Type 0
    IsOverAt k = IsOver c.g c.ops known c.w c.answers c.frames op (after c k)

    -- the value is stored by the next word
    module _ (ws : List Plain) (i : Instr) (slot : ℕ) (e : this_block ≡ stores slot ws i) (less : slot < c.g.slots) (each : IsLanes i) (placed : Placed next_of) (begun : Begun c known ws)
        (answered : FramesAnswer c.g (after c (word_of_place c.ops c.w.place + length ws)) c.frames)
        (by : MadeBy ws i (Storing slot) 0 (address_at (address_of_word (word_of_place c.ops c.w.place + length ws)) 4)) where
      abbrev pub stores_word : Word c
      stores_word = record { k = start + length ws; i = i; rest = instr_of (PutSlot made slot) ∷ later; there = word_there (stores slot ws i) e; lanes = each }

      stores_behind : word_of_place c.ops (suc c.w.place) ≡ suc (suc (start + length ws))
      stores_behind =
          let n = next_place c.ops o.rest op c.w.place o.there in
          let m : length ws + (1 + 1) ≡ op_words op = size_is (stores slot ws i) e in
          omega (arith, n, m)

      stores_last : word_of_place c.ops (suc c.w.place) - 1 ≡ suc (start + length ws)
      stores_last = let n = stores_behind in omega (arith, n)

      stores_lands : address_at (address_of_word (start + length ws)) 4 ≡ address_of_word (word_of_place c.ops (suc c.w.place) - 1)
      stores_lands =
          next_word (start + length ws) (word_low c.g.slots c.ops c.laid.slots c.within c.near stores_word.i stores_word.rest stores_word.k stores_word.there) ∙ ap address_of_word (sym stores_last)

      stores_put : drop (word_of_place c.ops (suc c.w.place) - 1) (instrs_of c.g.slots c.ops) ≡ instr_of (PutSlot made slot) ∷ later
      stores_put =
          ap (λ n. drop n (instrs_of c.g.slots c.ops)) stores_last
          ∙ rest_at (instrs_of c.g.slots c.ops) (instr_of (PutSlot made slot) ∷ later) i (start + length ws) (word_there (stores slot ws i) e)

      pub stores_over : IsOverAt (word_of_place c.ops c.w.place + length ws)
      stores_over =
          over c op o known idle stores_word 0 (address_at (address_of_word (start + length ws)) 4) (Storing slot) (suc c.w.place) (goes_on placed) stores_lands
          (record { slot = less; some = (let n = stores_behind in omega (arith, n)); rest = later; there = stores_put })
          answered (moves_by ws stores_word (Storing slot) 0 (address_at (address_of_word (start + length ws)) 4) refl begun by)

    -- nothing is left
    module _ (ws : List Plain) (i : Instr) (e : this_block ≡ ends ws i) (each : IsLanes i) (placed : Placed next_of) (begun : Begun c known ws)
        (answered : FramesAnswer c.g (after c (word_of_place c.ops c.w.place + length ws)) c.frames)
        (by : MadeBy ws i (Along []) 0 (address_at (address_of_word (word_of_place c.ops c.w.place + length ws)) 4)) where
      abbrev pub ends_word : Word c
      ends_word = record { k = start + length ws; i = i; rest = later; there = word_there (ends ws i) e; lanes = each }

      ends_behind : word_of_place c.ops (suc c.w.place) ≡ suc (start + length ws)
      ends_behind =
          let n = next_place c.ops o.rest op c.w.place o.there in
          let m : length ws + (1 + 0) ≡ op_words op = size_is (ends ws i) e in
          omega (arith, n, m)

      ends_lands : address_at (address_of_word (start + length ws)) 4 ≡ address_of_word (word_of_place c.ops (suc c.w.place) + 0)
      ends_lands =
          next_word (start + length ws) (word_low c.g.slots c.ops c.laid.slots c.within c.near ends_word.i ends_word.rest ends_word.k ends_word.there)
          ∙ ap address_of_word (let n = ends_behind in omega (arith, n))

      pub ends_over : IsOverAt (word_of_place c.ops c.w.place + length ws)
      ends_over =
          over c op o known idle ends_word 0 (address_at (address_of_word (start + length ws)) 4) (Along []) (suc c.w.place) (goes_on placed) ends_lands
          (λ op' rest there. (block_at c.g c.ops (suc c.w.place) op', refl))
          answered (moves_by ws ends_word (Along []) 0 (address_at (address_of_word (start + length ws)) 4) refl begun by)

    -- A branch over the jump behind it: either no active lane is to jump, and they go over it, or all are, and the jump is left.
    module _ (ws : List Plain) (i : Instr) (q : ℕ) (e : this_block ≡ leads ws i (jump (op_words op + word_of_place c.ops c.w.place - 1) (word_of_place c.ops q))) (each : IsLanes i) (begun : Begun c known ws)
        (answered : FramesAnswer c.g (after c (word_of_place c.ops c.w.place + length ws)) c.frames) where
      abbrev pub branch_word : Word c
      branch_word = record {
        k = start + length ws;
        i = i;
        rest = jump (end - 1) (word_of_place c.ops q) ∷ later;
        there = word_there (leads ws i (jump (end - 1) (word_of_place c.ops q))) e;
        lanes = each;
      }

      branch_size : length ws + (1 + 1) ≡ op_words op
      branch_size = size_is (leads ws i (jump (end - 1) (word_of_place c.ops q))) e

      branch_low : start + length ws < 65536
      branch_low = word_low c.g.slots c.ops c.laid.slots c.within c.near branch_word.i branch_word.rest branch_word.k branch_word.there

      skips_lands : address_at (address_of_word (start + length ws)) 8 ≡ address_of_word (word_of_place c.ops (suc c.w.place) + 0)
      skips_lands =
          let n = next_place c.ops o.rest op c.w.place o.there in
          let m = branch_size in
          let low = branch_low in
          omega (arith, n, m, low)

      pub skips_over : Placed next_of → MadeBy ws i (Along []) 1 (address_at (address_of_word (word_of_place c.ops c.w.place + length ws)) 8) → IsOverAt (word_of_place c.ops c.w.place + length ws)
      skips_over placed by =
          over c op o known idle branch_word 1 (address_at (address_of_word (start + length ws)) 8) (Along []) (suc c.w.place) (goes_on placed) skips_lands
          (λ op' rest there. (block_at c.g c.ops (suc c.w.place) op', refl))
          answered (moves_by ws branch_word (Along []) 1 (address_at (address_of_word (start + length ws)) 8) refl begun by)

      jump_last : end - 1 ≡ suc (start + length ws)
      jump_last = let m = branch_size in omega (arith, m)

      jump_there : drop (suc (start + length ws)) (instrs_of c.g.slots c.ops) ≡ jump (suc (start + length ws)) (word_of_place c.ops q) ∷ later
      jump_there =
          rest_at (instrs_of c.g.slots c.ops) (jump (end - 1) (word_of_place c.ops q) ∷ later) i (start + length ws) (word_there (leads ws i (jump (end - 1) (word_of_place c.ops q))) e)
          ∙ ap (λ n. jump n (word_of_place c.ops q) ∷ later) jump_last

      pub jumps_over : Placed (λ l. q) → MadeBy ws i (Jumping (suc (word_of_place c.ops c.w.place + length ws))) 0 (address_at (address_of_word (word_of_place c.ops c.w.place + length ws)) 4)
          → IsOverAt (word_of_place c.ops c.w.place + length ws)
      jumps_over placed by =
          over c op o known idle branch_word 0 (address_at (address_of_word (start + length ws)) 4) (Jumping (suc (start + length ws))) q (goes_to c op o lanes q (λ l low active. placed l active))
          (next_word (start + length ws) branch_low)
          (record {
            small = word_low c.g.slots c.ops c.laid.slots c.within c.near (jump (suc (start + length ws)) (word_of_place c.ops q)) later (suc (start + length ws)) jump_there;
            rest = later;
            there = jump_there;
          })
          answered (moves_by ws branch_word (Jumping (suc (start + length ws))) 0 (address_at (address_of_word (start + length ws)) 4) refl begun by)

    -- a jump by itself
    module _ (q : ℕ) (e : this_block ≡ ends [] (jump (op_words op + word_of_place c.ops c.w.place - 1) (word_of_place c.ops q))) (placed : Placed (λ l. q)) (begun : Begun c known [])
        (answered : FramesAnswer c.g (after c (word_of_place c.ops c.w.place + 0)) c.frames)
        (by : (l : ℕ) (from : Held) → l < 32 → is_active c l ≡ true → Same c.g l (known l) (c.w.lanes l).registers from → (answer target : ℕ) → target % 4 ≡ 0
        → Made c.g c.w.mask l (address_of_word (word_of_place c.ops c.w.place + 0)) answer target target (Along []) (known_behind op (known l)) (one_behind c op l answer).registers
        (code.does c.g.crew c.w.mask op l (c.w.lanes l)) (effect.Jump 0 (address_at (address_of_word (word_of_place c.ops c.w.place + 0)) 4) target) from) where
      abbrev pub goes_target : ℕ
      goes_target = address_at (address_of_word (start + 0)) (distance (end - 1) (word_of_place c.ops q))

      abbrev pub goes_word : Word c
      goes_word = record {
        k = start + 0;
        i = jump (end - 1) (word_of_place c.ops q);
        rest = later;
        there = word_there (ends [] (jump (end - 1) (word_of_place c.ops q))) e;
        lanes = λ has ids answers w. refl;
      }

      goes_first : start + 0 ≡ end - 1
      goes_first =
          let m : 0 + (1 + 0) ≡ op_words op = size_is (ends [] (jump (end - 1) (word_of_place c.ops q))) e in
          omega (arith, m)

      goes_lands : goes_target ≡ address_of_word (word_of_place c.ops q)
      goes_lands =
          let low = word_low c.g.slots c.ops c.laid.slots c.within c.near goes_word.i goes_word.rest goes_word.k goes_word.there in
          let first = goes_first in
          let most = places_are_within c.ops q in
          let near = c.near in
          ap (λ n. address_at (address_of_word n) (distance (end - 1) (word_of_place c.ops q))) first
          ∙ jumps_land (end - 1) (word_of_place c.ops q) (omega (arith, low, first)) (omega (arith, most, near))

      goes_whole : goes_target % 4 ≡ 0
      goes_whole =
          let fourth : address_of_word (word_of_place c.ops q) % 4 ≡ 0 = omega arith in
          ap (λ n. n % 4) goes_lands ∙ fourth

      pub goes_over : IsOverAt (word_of_place c.ops c.w.place + 0)
      goes_over =
          over c op o known idle goes_word goes_target goes_target (Along []) q (goes_to c op o lanes q (λ l low active. placed l active)) (goes_lands ∙ ap address_of_word (omega arith))
          (λ op' rest there. (block_at c.g c.ops q op', refl))
          answered (moves_by [] goes_word (Along []) goes_target goes_target refl begun (λ l low active from same answer given. by l from low active same answer goes_target goes_whole))
