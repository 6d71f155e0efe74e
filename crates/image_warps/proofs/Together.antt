-- What a warp does with all its lanes together, operation by operation: it parts and meets, keeps and leaves lanes, starts warps, and waits.
use Rattle.std.proofs.Common.{◌≡◌, ℕ, suc, ◌+◌, ◌%◌, ◌<◌, Bool, true, false, not, nat_eq, nat_le, if◌then◌else◌, List, [], ◌∷◌, drop, map, ap, ◌∙◌, arith, refl}
use Rattle.std.specs.Prelude.{◌&&◌, ◌==◌}
use Rattle.item_acts.specs.declared.acts.Action.TheVariants.{End}
use Rattle.item_acts.specs.Machine as lanes
use Rattle.kir.specs.Machine.{value}
use Rattle.kir.specs.Trees.{Operand, VariableOf}
use Rattle.vx_isa.specs.Effects.{address_at}
use Rattle.vx_isa.specs.Warps.{cut, has_lane, leader, value_in}
use Rattle.vx_isa.specs.WarpSteps as isa
use Rattle.vx_isa.specs.WarpSteps.{Stepped, fetched_step, go_on, instr_step, pred_mask}
use Rattle.vx_isa.specs.declared.instr.Instr.{Instr}
use Rattle.vx_isa.specs.declared.instr.Instr.TheVariants as instr
use Rattle.vx_isa.specs.declared.warps.Held.{Held as Entry}
use Rattle.vx_isa.specs.declared.warps.Held.TheVariants.{Restore, Else}
use Rattle.vx_isa.specs.declared.warps.MachineTrap.TheVariants as trap
use Rattle.vx_isa.specs.declared.warps.Step.{Step}
use Rattle.vx_isa.specs.declared.warps.Step.TheVariants as step
use Rattle.vcode.specs.Code.{VOp, Split, Join, Pred, Tmc, Wspawn, Bar}
use Rattle.vcode.specs.Machine.{lane}
use Rattle.warp_code.specs.Warps as code
use Rattle.warp_code.specs.Warps.{VLane, begun, ends_or_goes, stepped, warp_step}
use Rattle.reg_alloc.specs.Blocks.{address_of_word}
use Rattle.reg_alloc.specs.Layout.{instrs_of, word_of_place}
use Rattle.image_warps.specs.Lanes.{Known, AsksAlike, known_behind}
use Rattle.image_warps.specs.Warps.{address_of_place, entry_at}
use Rattle.image_warps.specs.Laws.{IsOver}
use Rattle.image_warps.proofs.Sets.{below_same, leader_leads}
use Rattle.image_warps.proofs.Stepping.{Scene, after, fetched_here, image, is_active}
use Rattle.image_warps.proofs.Overs.{Ordered, lanes_behind, one_behind, step_of}
use Rattle.image_warps.proofs.Whole.{AllSame, AsksNone, map_length, whole_over}

-- a lane with its registers as they were
abbrev pub LanesKept : Scene → VOp → Type 0
LanesKept c op = (l : ℕ) → (one_behind c op l (c.answers l)).registers ≡ (c.w.lanes l).registers

lanes_kept : (c : Scene) (op : VOp) → LanesKept c op → (l : ℕ) → (lanes_behind c op l).registers ≡ (c.w.lanes l).registers
lanes_kept c op kept l = by (is_active c l) where
  by : (b : Bool) → (if b then one_behind c op l (c.answers l) else c.w.lanes l).registers ≡ (c.w.lanes l).registers
  by true = kept l
  by false = refl

begun_kept : (place before after : ℕ) (vs : ℕ → VLane) (l : ℕ) → (begun place before after vs l).registers ≡ (vs l).registers
begun_kept place before after vs l = by (has_lane after l && not (has_lane before l)) where
  by : (b : Bool) → (if b then record { place = place; registers = (vs l).registers; turns = [] } else vs l).registers ≡ (vs l).registers
  by true = refl
  by false = refl

module _ (c : Scene) (known : ℕ → Known) (same : AllSame c known) (k : ℕ) (rest : List Instr) where
  -- the register has the operand's value in each active lane
  abbrev pub HasValue : ℕ → Operand → Type 0
  HasValue r a = (l : ℕ) → l < 32 → is_active c l ≡ true → value_in (c.xs l) r ≡ value (c.w.lanes l).registers a

  leads : (is_active c (leader c.w.mask) ≡ true) × (leader c.w.mask < 32)
  leads = leader_leads c.w.mask c.some.0 c.some.1.0 c.some.1.1

  leader_same : (r : ℕ) (a : Operand) → HasValue r a → isa.leader_value (image c k) r ≡ code.leader_value c.w a
  leader_same r a has = has (leader c.w.mask) leads.1 leads.0

  nonzero_same : (r : ℕ) (a : Operand) → HasValue r a → isa.nonzero_lanes (image c k) r ≡ code.nonzero_lanes c.w a
  nonzero_same r a has =
      below_same 32 (λ l. is_active c l && not (nat_eq (value_in (c.xs l) r) 0)) (λ l. is_active c l && not (value (c.w.lanes l).registers a == 0)) (λ l low. by l low (is_active c l) refl) where
        by : (l : ℕ) → l < 32 → (b : Bool) → is_active c l ≡ b → (b && not (nat_eq (value_in (c.xs l) r) 0)) ≡ (b && not (value (c.w.lanes l).registers a == 0))
        by l low true active = ap (λ n. not (nat_eq n 0)) (has l low active)
        by l low false none = refl

  zero_same : (r : ℕ) (a : Operand) → HasValue r a → isa.zero_lanes (image c k) r ≡ code.zero_lanes c.w a
  zero_same r a has =
      below_same 32 (λ l. is_active c l && nat_eq (value_in (c.xs l) r) 0) (λ l. is_active c l && value (c.w.lanes l).registers a == 0) (λ l low. by l low (is_active c l) refl) where
        by : (l : ℕ) → l < 32 → (b : Bool) → is_active c l ≡ b → (b && nat_eq (value_in (c.xs l) r) 0) ≡ (b && value (c.w.lanes l).registers a == 0)
        by l low true active = ap (λ n. nat_eq n 0) (has l low active)
        by l low false none = refl

  abbrev pub pc : ℕ
  pc = address_of_word k

  abbrev pub next : ℕ
  next = word_of_place c.ops (suc c.w.place)

  abbrev pub stack : List Entry
  stack = map (entry_at c.ops) c.w.stack

  made_by : (i : Instr) → drop k (instrs_of c.g.slots c.ops) ≡ i ∷ rest → after c k ≡ instr_step c.g.has c.g.crew.ids c.answers (image c k) i
  made_by i there = ap (fetched_step c.g.has c.g.crew.ids c.answers (image c k)) (fetched_here c.g.slots c.ops c.laid.slots c.within c.near i rest k there)

  module _ (lands : address_at (address_of_word k) 4 ≡ address_of_word (word_of_place c.ops (suc c.w.place))) where
    on_zero : (n : ℕ) → address_of_word n ≡ address_of_word (n + 0)
    on_zero n = ap address_of_word (omega arith)

    -- the warp goes on at the next place
    goes : (outcome : Step) (mask : ℕ) (st : List Entry) → go_on outcome (address_at pc 4) mask st (image c k) ≡ go_on outcome (address_of_word (next + 0)) mask st (image c k)
    goes outcome mask st = ap (λ n. go_on outcome n mask st (image c k)) (lands ∙ on_zero next)

    -- ---- it parts

    split_full : (b : Bool) → code.has_room 2 c.w.stack ≡ b → isa.has_room 2 (image c k) ≡ b
    split_full b e = ap (λ n. nat_le (n + 2) 64) (map_length c.ops c.w.stack) ∙ e

    split_some : (b : Bool) → code.has_room 1 c.w.stack ≡ b → isa.has_room 1 (image c k) ≡ b
    split_some b e = ap (λ n. nat_le (n + 1) 64) (map_length c.ops c.w.stack) ∙ e

    module _ (r : ℕ) (a : Operand) (has : HasValue r a) (o : Ordered c (Split a)) (there : drop k (instrs_of c.g.slots c.ops) ≡ instr.Split r ∷ rest) where
      abbrev pub on : ℕ
      on = code.nonzero_lanes c.w a

      abbrev pub off : ℕ
      off = code.zero_lanes c.w a

      abbrev pub parted : ℕ → VLane
      parted = lanes_behind c (Split a)

      abbrev pub IsSplit : Type 0
      IsSplit = IsOver c.g c.ops known c.w c.answers c.frames (Split a) (after c k)

      split_is : after c k ≡ isa.split_step on off (image c k)
      split_is =
          made_by (instr.Split r) there ∙ ap (λ n. isa.split_step n (isa.zero_lanes (image c k) r) (image c k)) (nonzero_same r a has)
          ∙ ap (λ n. isa.split_step on n (image c k)) (zero_same r a has)

      full : warp_step c.g.crew c.ops c.answers c.w ≡ code.trapped trap.StackFull (leader c.w.mask) c.w → ⊥
      full e =
          let never : trap.StackFull ≡ trap.Break = o.traps trap.StackFull (leader c.w.mask) c.w.place (ap (λ (s : code.Stepped). s.outcome) e) in
          absurd (cc)

      parts : (b : Bool) → code.has_room 2 c.w.stack ≡ b → after c k ≡ isa.diverge on off (image c k) → warp_step c.g.crew c.ops c.answers c.w ≡ code.diverge b on off parted c.w → IsSplit
      parts false e s v = absurd (full v)
      parts true e s v =
          whole_over c known (Split a) same (λ l. tt) (λ l. refl) k (suc c.w.place) on (Else off (suc c.w.place) ∷ Restore c.w.mask ∷ c.w.stack) parted step.Diverged
          (s ∙ ap (λ b. if b then go_on step.Diverged (address_at pc 4) on (Else off (address_at pc 4) ∷ Restore c.w.mask ∷ stack) (image c k) else isa.whole_trap trap.StackFull (image c k)) (split_full true e)
          ∙ ap (λ n. go_on step.Diverged (address_at pc 4) on (Else off n ∷ Restore c.w.mask ∷ stack) (image c k)) lands
          ∙ goes step.Diverged on (Else off (address_of_word next) ∷ Restore c.w.mask ∷ stack))
          v (lanes_kept c (Split a) (λ l. refl))

      together : (b : Bool) → code.has_room 1 c.w.stack ≡ b → after c k ≡ isa.agree (image c k) → warp_step c.g.crew c.ops c.answers c.w ≡ code.agree b parted c.w → IsSplit
      together false e s v = absurd (full v)
      together true e s v =
          whole_over c known (Split a) same (λ l. tt) (λ l. refl) k (suc c.w.place) c.w.mask (Restore c.w.mask ∷ c.w.stack) parted step.Agreed
          (s ∙ ap (λ b. if b then go_on step.Agreed (address_at pc 4) c.w.mask (Restore c.w.mask ∷ stack) (image c k) else isa.whole_trap trap.StackFull (image c k)) (split_some true e)
          ∙ goes step.Agreed c.w.mask (Restore c.w.mask ∷ stack))
          v (lanes_kept c (Split a) (λ l. refl))

      split_by : (b : Bool) → (not (on == 0) && not (off == 0)) ≡ b → IsSplit
      split_by true e =
          parts (code.has_room 2 c.w.stack) refl (split_is ∙ ap (λ b. if b then isa.diverge on off (image c k) else isa.agree (image c k)) e) (step_of c (Split a) o ∙ ap (λ b. code.split_by b on off parted c.w) e)
      split_by false e =
          together (code.has_room 1 c.w.stack) refl (split_is ∙ ap (λ b. if b then isa.diverge on off (image c k) else isa.agree (image c k)) e) (step_of c (Split a) o ∙ ap (λ b. code.split_by b on off parted c.w) e)

      pub split_over : IsSplit
      split_over = split_by (not (on == 0) && not (off == 0)) refl

    -- ---- it meets

    pub join_over : Ordered c Join → drop k (instrs_of c.g.slots c.ops) ≡ instr.Join ∷ rest → IsOver c.g c.ops known c.w c.answers c.frames Join (after c k)
    join_over o there = by c.w.stack (made_by instr.Join there) (step_of c Join o) where
      by : (st : List Entry) → after c k ≡ isa.join_step (map (entry_at c.ops) st) (image c k) → warp_step c.g.crew c.ops c.answers c.w ≡ code.join_step st (lanes_behind c Join) c.w
          → IsOver c.g c.ops known c.w c.answers c.frames Join (after c k)
      by [] s v =
          let never : trap.JoinEmpty ≡ trap.Break = o.traps trap.JoinEmpty (leader c.w.mask) c.w.place (ap (λ (x : code.Stepped). x.outcome) v) in
          absurd (cc)
      by (Restore mask ∷ st) s v =
          whole_over c known Join same (λ l. tt) (λ l. refl) k (suc c.w.place) mask st (lanes_behind c Join) step.Next (s ∙ goes step.Next mask (map (entry_at c.ops) st)) v (lanes_kept c Join (λ l. refl))
      by (Else mask q ∷ st) s v =
          whole_over c known Join same (λ l. tt) (λ l. refl) k q mask st (lanes_behind c Join) step.Next
          (s ∙ ap (λ n. go_on step.Next n mask (map (entry_at c.ops) st) (image c k)) (on_zero (word_of_place c.ops q))) v (lanes_kept c Join (λ l. refl))

    -- ---- it keeps lanes and leaves lanes

    masked : (op : VOp) → AsksNone c op → ((l : ℕ) → known_behind op (known l) ≡ known l) → (mask : ℕ) (vs : ℕ → VLane) → ((l : ℕ) → (vs l).registers ≡ (c.w.lanes l).registers)
        → after c k ≡ isa.with_mask mask (image c k) → warp_step c.g.crew c.ops c.answers c.w ≡ code.with_mask mask vs c.w → IsOver c.g c.ops known c.w c.answers c.frames op (after c k)
    masked op asks keeps mask vs kept s v = by (mask == 0) s v where
      by : (b : Bool) → after c k ≡ go_on (if b then step.Ended else step.Next) (address_at pc 4) mask stack (image c k)
          → warp_step c.g.crew c.ops c.answers c.w ≡ stepped (ends_or_goes b) (suc c.w.place) mask c.w.stack vs → IsOver c.g c.ops known c.w c.answers c.frames op (after c k)
      by true s v = whole_over c known op same asks keeps k (suc c.w.place) mask c.w.stack vs step.Ended (s ∙ goes step.Ended mask stack) v kept
      by false s v = whole_over c known op same asks keeps k (suc c.w.place) mask c.w.stack vs step.Next (s ∙ goes step.Next mask stack) v kept

    pub pred_over : (r m : ℕ) (a : Operand) (r' : ℕ) → HasValue r a → HasValue r' (VariableOf m) → Ordered c (Pred a m) → drop k (instrs_of c.g.slots c.ops) ≡ instr.Pred r r' ∷ rest
        → IsOver c.g c.ops known c.w c.answers c.frames (Pred a m) (after c k)
    pred_over r m a r' has has' o there =
        masked (Pred a m) (λ l. tt) (λ l. refl) (pred_mask (code.nonzero_lanes c.w a) (cut c.g.crew.ids.lanes (code.leader_value c.w (VariableOf m)))) (lanes_behind c (Pred a m))
        (lanes_kept c (Pred a m) (λ l. refl))
        (made_by (instr.Pred r r') there
        ∙ ap (λ n. isa.with_mask (pred_mask n (cut c.g.crew.ids.lanes (isa.leader_value (image c k) r'))) (image c k)) (nonzero_same r a has)
        ∙ ap (λ n. isa.with_mask (pred_mask (code.nonzero_lanes c.w a) (cut c.g.crew.ids.lanes n)) (image c k)) (leader_same r' (VariableOf m) has'))
        (step_of c (Pred a m) o)

    tmc_lane : (a : Operand) → LanesKept c (Tmc a)
    tmc_lane a l = by (has_lane (value (c.w.lanes l).registers a) l) where
      by : (b : Bool) → (code.lane_behind (c.answers l) (c.w.lanes l) (if b then lanes.Go (lane (suc (c.w.lanes l).place) (c.w.lanes l).registers (c.w.lanes l).turns []) else lanes.Stop End)).registers ≡ (c.w.lanes l).registers
      by true = refl
      by false = refl

    tmc_asks : (a : Operand) → AsksNone c (Tmc a)
    tmc_asks a l = by (has_lane (value (c.w.lanes l).registers a) l) where
      by : (b : Bool) → AsksAlike (c.g.at l) (c.answers l) (if b then lanes.Go (lane (suc (c.w.lanes l).place) (c.w.lanes l).registers (c.w.lanes l).turns []) else lanes.Stop End) []
      by true = tt
      by false = tt

    pub tmc_over : (r : ℕ) (a : Operand) → HasValue r a → Ordered c (Tmc a) → drop k (instrs_of c.g.slots c.ops) ≡ instr.Tmc r ∷ rest → IsOver c.g c.ops known c.w c.answers c.frames (Tmc a) (after c k)
    tmc_over r a has o there =
        let mask = cut c.g.crew.ids.lanes (code.leader_value c.w a) in
        let vs = lanes_behind c (Tmc a) in
        masked (Tmc a) (tmc_asks a) (λ l. refl) mask (begun (suc c.w.place) c.w.mask mask vs)
        (λ l. begun_kept (suc c.w.place) c.w.mask mask vs l ∙ lanes_kept c (Tmc a) (tmc_lane a) l)
        (made_by (instr.Tmc r) there ∙ ap (λ n. isa.with_mask (cut c.g.crew.ids.lanes n) (image c k)) (leader_same r a has))
        (step_of c (Tmc a) o)

    -- ---- it starts warps, and waits

    pub spawn_over : (r r' q : ℕ) (a : Operand) → HasValue r a → ((l : ℕ) → l < 32 → is_active c l ≡ true → value_in (c.xs l) r' ≡ address_of_place c.ops q) → Ordered c (Wspawn a q)
        → drop k (instrs_of c.g.slots c.ops) ≡ instr.Wspawn r r' ∷ rest → IsOver c.g c.ops known c.w c.answers c.frames (Wspawn a q) (after c k)
    spawn_over r r' q a has at o there =
        whole_over c known (Wspawn a q) same (λ l. tt) (λ l. refl) k (suc c.w.place) c.w.mask c.w.stack (lanes_behind c (Wspawn a q)) (step.Spawn (code.leader_value c.w a) q)
        (made_by (instr.Wspawn r r') there
        ∙ ap (λ n. go_on (step.Spawn n (isa.leader_value (image c k) r')) (address_at pc 4) c.w.mask stack (image c k)) (leader_same r a has)
        ∙ ap (λ n. go_on (step.Spawn (code.leader_value c.w a) n) (address_at pc 4) c.w.mask stack (image c k)) (at (leader c.w.mask) leads.1 leads.0)
        ∙ goes (step.Spawn (code.leader_value c.w a) (address_of_place c.ops q)) c.w.mask stack)
        (step_of c (Wspawn a q) o) (lanes_kept c (Wspawn a q) (λ l. refl))

    pub bar_over : (r r' site : ℕ) → ((l : ℕ) → l < 32 → is_active c l ≡ true → (value_in (c.xs l) r % 16 ≡ site % 16) × (value_in (c.xs l) r' ≡ c.g.crew.block 0)) → Ordered c (Bar site)
        → drop k (instrs_of c.g.slots c.ops) ≡ instr.Bar r r' ∷ rest → IsOver c.g c.ops known c.w c.answers c.frames (Bar site) (after c k)
    bar_over r r' site at o there =
        let first = at (leader c.w.mask) leads.1 leads.0 in
        whole_over c known (Bar site) same (λ l. tt) (λ l. refl) k (suc c.w.place) c.w.mask c.w.stack (lanes_behind c (Bar site)) (step.Wait (site % 16) (c.g.crew.block 0))
        (made_by (instr.Bar r r') there
        ∙ ap (λ n. go_on (step.Wait n (isa.leader_value (image c k) r')) (address_at pc 4) c.w.mask stack (image c k)) first.0
        ∙ ap (λ n. go_on (step.Wait (site % 16) n) (address_at pc 4) c.w.mask stack (image c k)) first.1
        ∙ goes (step.Wait (site % 16) (c.g.crew.block 0)) c.w.mask stack)
        (step_of c (Bar site) o) (lanes_kept c (Bar site) (λ l. refl))
