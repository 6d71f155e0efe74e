-- Steps in a block in which no lane asks for anything.
use Rattle.std.proofs.Common.{◌≡◌, ℕ, suc, ◌+◌, ◌-◌, ◌%◌, ◌<◌, Bool, true, false, List, [], ◌∷◌, ◌++◌, drop, length, map, ap, sym, subst, ◌∙◌, arith, refl}
use Rattle.vx_isa.specs.Effects.{address_at}
use Rattle.vx_isa.specs.WarpSteps.{access_of}
use Rattle.vx_isa.specs.declared.instr.Instr.{Instr}
use Rattle.vcode.specs.Code.{VOp}
use Rattle.vcode.specs.Machine.{Around}
use Rattle.vcode.specs.Words.{op_words}
use Rattle.warp_code.specs.Warps.{around_of}
use Rattle.reg_alloc.specs.Plain.{Held, Plain, PutSlot, do_all, does, held, instr_of, made}
use Rattle.reg_alloc.specs.Blocks.{address_of_word, block, distance, jump}
use Rattle.reg_alloc.specs.Layout.{instrs_from, instrs_of, onto, plain_onto, word_of_place}
use Rattle.reg_alloc.proofs.Acting.{plain_rest}
use Rattle.reg_alloc.proofs.Goings.{ReachAll}
use Rattle.reg_alloc.proofs.Standing.{blocks_stand, jumps_land, places_are_within}
use Rattle.reg_alloc.proofs.Walking.{Reaches}
use Rattle.image_warps.specs.Lanes.{Ground, Known, Same, AsksNothing, frame_start, of_lane}
use Rattle.image_warps.specs.Warps.{Along, Jumping, LaneStands, Position, Storing, WordsLeft, block_at, entry_at, word_at}
use Rattle.image_warps.specs.Laws.{FramesAnswer, InBlock}
use Rattle.image_warps.proofs.Quiet.{plain_lanes, plain_quiet, slot_written}
use Rattle.image_warps.proofs.Leading.{jump_goes}
use Rattle.image_warps.proofs.Stepping.{Moves, Scene, Word, accesses_are, accesses_none, after, effect_to, holds, is_active, lane_kept, outcome_is, warp_is, word_low}

-- ---- words that are done and words that are left

pub onto_both : (done ws : List Plain) (rest : List Instr) → plain_onto (done ++ ws) rest ≡ plain_onto done (plain_onto ws rest)
onto_both [] ws rest = refl
onto_both (p ∷ done) ws rest = ap (λ is. instr_of p ∷ is) (onto_both done ws rest)

pub one_more : (done : List Plain) (p : Plain) (ws : List Plain) → done ++ (p ∷ ws) ≡ (done ++ (p ∷ [])) ++ ws
one_more [] p ws = refl
one_more (q ∷ done) p ws = ap (λ ps. q ∷ ps) (one_more done p ws)

more_length : (done : List Plain) (p : Plain) → length (done ++ (p ∷ [])) ≡ suc (length done)
more_length [] p = refl
more_length (q ∷ done) p = ap suc (more_length done p)

do_more : (at : Around) (done : List Plain) (p : Plain) (h : Held) → do_all at (done ++ (p ∷ [])) h ≡ does at p (do_all at done h)
do_more at [] p h = refl
do_more at (q ∷ done) p h = do_more at done p (does at q h)

reach_rest : (slots start : ℕ) (at : Around) (done ws : List Plain) (h : Held) → ReachAll slots start at (done ++ ws) h → ReachAll slots start at ws (do_all at done h)
reach_rest slots start at [] ws h reach = reach
reach_rest slots start at (q ∷ done) ws h reach = reach_rest slots start at done ws (does at q h) reach.1

pub next_word : (k : ℕ) → k < 65536 → address_at (address_of_word k) 4 ≡ address_of_word (suc k)
next_word k low = omega (arith, low)

-- the words of an operation's block from one on
pub left_there : (g : Ground) (ops rest : List VOp) (op : VOp) (p : ℕ) (done ws : List Plain) → drop p ops ≡ op ∷ rest → block_at g ops p op ≡ done ++ ws
    → drop (word_of_place ops p + length done) (instrs_of g.slots ops)
    ≡ plain_onto ws (onto (block g.slots (word_of_place ops) (op_words op + word_of_place ops p) op).acting (onto (block g.slots (word_of_place ops) (op_words op + word_of_place ops p) op).behind
    (instrs_from g.slots (word_of_place ops) (op_words op + word_of_place ops p) rest)))
left_there g ops rest op p done ws e shown =
    let b = block g.slots (word_of_place ops) (op_words op + word_of_place ops p) op in
    let last = onto b.acting (onto b.behind (instrs_from g.slots (word_of_place ops) (op_words op + word_of_place ops p) rest)) in
    plain_rest (instrs_of g.slots ops) done (plain_onto ws last) (word_of_place ops p)
    (blocks_stand g.slots ops rest op p e ∙ ap (λ ps. plain_onto ps last) shown ∙ onto_both done ws last)

-- ---- one step

-- the lanes that are not active stand for those of the code
abbrev pub Idle : Scene → (ℕ → Known) → Type 0
Idle c known = (l : ℕ) → l < 32 → is_active c l ≡ false → Same c.g l (known l) (c.w.lanes l).registers (held (c.xs l) (c.frames l))

-- an active lane stands so, and has asked for nothing
abbrev Quietly : (c : Scene) → Word c → (ℕ → Known) → Position → ℕ → ℕ → Held → Type 0
Quietly c d known at l answer h = LaneStands c.g at l (known l) (c.w.lanes l).registers h × AsksNothing (c.g.at l) (access_of answer (effect_to c d l))

module _ (c : Scene) (known : ℕ → Known) (idle : Idle c known) where
  in_block : (d : Word c) (choice target : ℕ) (at : Position) → target ≡ address_of_word (word_at c.ops c.w at) → WordsLeft c.g c.ops c.w at
      → FramesAnswer c.g (after c d.k) c.frames → Moves c d choice target (Quietly c d known at) → InBlock c.g c.ops known c.w c.frames (after c d.k)
  in_block d choice target at leads left answered moves = record {
    at = at;
    warp = warp_is c d choice target (Quietly c d known at) moves
        ∙ ap (λ n. record { pc = n; mask = c.w.mask; registers = (after c d.k).warp.registers; stack = map (entry_at c.ops) c.w.stack }) leads;
    outcome = outcome_is c d choice target (Quietly c d known at) moves;
    quiet = λ l low. quiet l low (is_active c l) refl;
    stands = record {
      left = left;
      active = λ l low active. (holds c d choice target (Quietly c d known at) moves l low active answered).0;
      idle = λ l low none. subst (Same c.g l (known l) (c.w.lanes l).registers) (sym (lane_kept c d choice target (Quietly c d known at) moves l low none)) (idle l low none);
    };
  } where
    quiet : (l : ℕ) → l < 32 → (b : Bool) → is_active c l ≡ b → AsksNothing (c.g.at l) (of_lane l (after c d.k).accesses)
    quiet l low true active =
        subst (AsksNothing (c.g.at l)) (sym (accesses_are c d choice target (Quietly c d known at) moves l low active))
        (holds c d choice target (Quietly c d known at) moves l low active answered).1
    quiet l low false none = subst (AsksNothing (c.g.at l)) (sym (accesses_none c d choice target (Quietly c d known at) moves l low none)) tt

  -- a word that computes
  module _ (op : VOp) (rest : List VOp) (done : List Plain) (p : Plain) (ws : List Plain) (there : drop c.w.place c.ops ≡ op ∷ rest)
      (shown : block_at c.g c.ops c.w.place op ≡ done ++ (p ∷ ws))
      (begun : (l : ℕ) → l < 32 → is_active c l ≡ true → (from : Held) × (Same c.g l (known l) (c.w.lanes l).registers from × (held (c.xs l) (c.frames l) ≡ do_all (around_of c.g.crew l) done from)))
      (reaches : (l : ℕ) → (from : Held) → l < 32 → is_active c l ≡ true → Same c.g l (known l) (c.w.lanes l).registers from → ReachAll c.g.slots (frame_start c.g l) (around_of c.g.crew l) (block_at c.g c.ops c.w.place op) from)
      (answered : FramesAnswer c.g (after c (word_of_place c.ops c.w.place + length done)) c.frames) where
    abbrev pub along_word : Word c
    along_word = record {
      k = word_of_place c.ops c.w.place + length done;
      i = instr_of p;
      rest = plain_onto ws (onto (block c.g.slots (word_of_place c.ops) (op_words op + word_of_place c.ops c.w.place) op).acting (onto (block c.g.slots (word_of_place c.ops) (op_words op + word_of_place c.ops c.w.place) op).behind
          (instrs_from c.g.slots (word_of_place c.ops) (op_words op + word_of_place c.ops c.w.place) rest)));
      there = left_there c.g c.ops rest op c.w.place done (p ∷ ws) there shown;
      lanes = λ has ids answers w. plain_lanes has ids answers w p;
    }

    abbrev pub along_target : ℕ
    along_target = address_at (address_of_word (word_of_place c.ops c.w.place + length done)) 4

    along_leads : along_target ≡ address_of_word (word_of_place c.ops c.w.place + length (done ++ (p ∷ [])))
    along_leads =
        next_word (word_of_place c.ops c.w.place + length done) (word_low c.g.slots c.ops c.laid.slots c.within c.near along_word.i along_word.rest along_word.k along_word.there)
        ∙ ap address_of_word (let e = more_length done p in omega (arith, e))

    along_left : WordsLeft c.g c.ops c.w (Along (done ++ (p ∷ [])))
    along_left op' rest' there' =
        let same : op ∷ rest ≡ op' ∷ rest' = sym there ∙ there' in
        let first : op ≡ op' = cc in
        (ws, subst (λ o. block_at c.g c.ops c.w.place o ≡ (done ++ (p ∷ [])) ++ ws) first (shown ∙ one_more done p ws))

    along_moves : Moves c along_word 0 along_target (Quietly c along_word known (Along (done ++ (p ∷ []))))
    along_moves l low active answer given =
        let h = held (c.xs l) (c.frames l) in
        let from = (begun l low active).0 in
        let same = (begun l low active).1.0 in
        let did = (begun l low active).1.1 in
        let all = subst (λ ps. ReachAll c.g.slots (frame_start c.g l) (around_of c.g.crew l) ps from) shown (reaches l from low active same) in
        let reach = (reach_rest c.g.slots (frame_start c.g l) (around_of c.g.crew l) done (p ∷ ws) from all).0 in
        let here : Reaches c.g.slots (frame_start c.g l) h.registers p = subst (λ (x : Held). Reaches c.g.slots (frame_start c.g l) x.registers p) (sym did) reach in
        let q = plain_quiet c.g c.w.mask l (address_of_word along_word.k) answer h c.laid low p here given in (
          does (around_of c.g.crew l) p h,
          (q.goes, ((from, (same, ap (does (around_of c.g.crew l) p) did ∙ sym (do_more (around_of c.g.crew l) done p from))), q.quiet)),
        )

    pub along : InBlock c.g c.ops known c.w c.frames (after c (word_of_place c.ops c.w.place + length done))
    along = in_block along_word 0 along_target (Along (done ++ (p ∷ []))) along_leads along_left answered along_moves

  -- the word that stores the result of the operation before
  module _ (slot : ℕ) (left : WordsLeft c.g c.ops c.w (Storing slot))
      (stands : (l : ℕ) → l < 32 → is_active c l ≡ true → LaneStands c.g (Storing slot) l (known l) (c.w.lanes l).registers (held (c.xs l) (c.frames l)))
      (answered : FramesAnswer c.g (after c (word_of_place c.ops c.w.place - 1)) c.frames) where
    abbrev pub storing_word : Word c
    storing_word = record {
      k = word_of_place c.ops c.w.place - 1;
      i = instr_of (PutSlot made slot);
      rest = left.rest;
      there = left.there;
      lanes = λ has ids answers w. plain_lanes has ids answers w (PutSlot made slot);
    }

    abbrev pub storing_target : ℕ
    storing_target = address_at (address_of_word (word_of_place c.ops c.w.place - 1)) 4

    storing_leads : storing_target ≡ address_of_word (word_of_place c.ops c.w.place + 0)
    storing_leads =
        let some = left.some in
        next_word (word_of_place c.ops c.w.place - 1) (word_low c.g.slots c.ops c.laid.slots c.within c.near storing_word.i left.rest storing_word.k left.there) ∙ ap address_of_word (omega (arith, some))

    storing_moves : Moves c storing_word 0 storing_target (Quietly c storing_word known (Along []))
    storing_moves l low active answer given =
        let h = held (c.xs l) (c.frames l) in
        let h' = does (around_of c.g.crew l) (PutSlot made slot) h in
        let s = stands l low active in
        let q = slot_written c.g c.w.mask l (address_of_word storing_word.k) answer h c.laid low made slot (s.1.frame s.0) left.slot in
        (h', (q.goes, ((h', (s.1, refl)), q.quiet)))

    pub storing : InBlock c.g c.ops known c.w c.frames (after c (word_of_place c.ops c.w.place - 1))
    storing = in_block storing_word 0 storing_target (Along []) storing_leads (λ op rest there. (block_at c.g c.ops c.w.place op, refl)) answered storing_moves

  -- the jump to the place that the warp goes to
  module _ (k : ℕ) (left : WordsLeft c.g c.ops c.w (Jumping k))
      (stands : (l : ℕ) → l < 32 → is_active c l ≡ true → LaneStands c.g (Jumping k) l (known l) (c.w.lanes l).registers (held (c.xs l) (c.frames l)))
      (answered : FramesAnswer c.g (after c k) c.frames) where
    abbrev pub jumping_target : ℕ
    jumping_target = address_at (address_of_word k) (distance k (word_of_place c.ops c.w.place))

    abbrev pub jumping_word : Word c
    jumping_word = record { k = k; i = jump k (word_of_place c.ops c.w.place); rest = left.rest; there = left.there; lanes = λ has ids answers w. refl }

    jumping_lands : jumping_target ≡ address_of_word (word_of_place c.ops c.w.place)
    jumping_lands =
        let less = left.small in
        let most = places_are_within c.ops c.w.place in
        let near = c.near in
        jumps_land k (word_of_place c.ops c.w.place) (omega (arith, less)) (omega (arith, most, near))

    jumping_leads : jumping_target ≡ address_of_word (word_of_place c.ops c.w.place + 0)
    jumping_leads = jumping_lands ∙ ap address_of_word (omega arith)

    jumping_whole : jumping_target % 4 ≡ 0
    jumping_whole =
        let fourth : address_of_word (word_of_place c.ops c.w.place) % 4 ≡ 0 = omega arith in
        ap (λ n. n % 4) jumping_lands ∙ fourth

    jumping_moves : Moves c jumping_word jumping_target jumping_target (Quietly c jumping_word known (Along []))
    jumping_moves l low active answer given =
        let h = held (c.xs l) (c.frames l) in (
          h,
          (
            jump_goes c.g c.w.mask l (address_of_word k) answer (known l) (c.w.lanes l).registers h (stands l low active) (address_at (address_of_word k) 4) jumping_target jumping_whole,
            ((h, (stands l low active, refl)), tt),
          ),
        )

    pub jumping : InBlock c.g c.ops known c.w c.frames (after c k)
    jumping = in_block jumping_word jumping_target jumping_target (Along []) jumping_leads (λ op rest there. (block_at c.g c.ops c.w.place op, refl)) answered jumping_moves
