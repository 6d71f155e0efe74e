-- A lane alone goes through a block whose result is stored.
use Rattle.std.proofs.Common.{◌≡◌, ℕ, suc, ◌+◌, ◌<◌, ◌≤◌, List, [], ◌∷◌, drop, length, map, ap, sym, subst, ◌∙◌, arith, refl}
use Rattle.item_acts.specs.declared.acts.Place.{Place}
use Rattle.item_acts.specs.Launches.{put_at}
use Rattle.item_acts.specs.Machine.{Step, Go}
use Rattle.step_machine.specs.Sims.{GoAlong, SecondGoes}
use Rattle.vx_isa.specs.Words.{word_of}
use Rattle.vx_isa.specs.Warps.{value_in, with_register}
use Rattle.vx_isa.specs.declared.instr.Instr.{Instr}
use Rattle.reg_alloc.specs.Plain.{Held, Plain, PutSlot, do_all, held, instr_of, made, set}
use Rattle.reg_alloc.specs.Blocks.{address_of_word}
use Rattle.reg_alloc.specs.Layout.{plain_onto}
use Rattle.reg_alloc.specs.Alone.{ImageLane, Setting, fetched_step, goes_with, image_lane, image_step, instr_step, next_pc}
use Rattle.reg_alloc.proofs.Bringing.{has_value}
use Rattle.reg_alloc.proofs.Fitting.{AllFit}
use Rattle.reg_alloc.proofs.Goings.{ReachAll, lane_at, plain_along, plain_goes, rest_at, step_at}
use Rattle.reg_alloc.specs.Keeping.{Stands, around_in}

-- what is left of the words behind those that compute
pub plain_rest : (is : List Instr) (ws : List Plain) (rest : List Instr) (j : ℕ) → drop j is ≡ plain_onto ws rest → drop (j + length ws) is ≡ rest
plain_rest is [] rest j e = let none : j + 0 ≡ j = omega arith in ap (λ q. drop q is) none ∙ e
plain_rest is (w ∷ ws) rest j e =
    let more : j + suc (length ws) ≡ suc j + length ws = omega arith in
    ap (λ q. drop q is) more ∙ plain_rest is ws rest (suc j) (rest_at is (plain_onto ws rest) (instr_of w) j e)

module _ {S : Type 0} (f : S → Step S) (c : S → ℕ) (k : Setting) (place : ℕ → Place) (slots start : ℕ) (stands : Stands k slots start)
    (is : List Instr) (code : k.words ≡ map word_of is) (fits : AllFit is) where
  -- the word that makes a value
  pub acting_goes : (i : Instr) (rest : List Instr) (q : ℕ) (h : Held) (ns : List ℕ) (v : ℕ) → q < 65536 → drop q is ≡ i ∷ rest
      → instr_step k i (lane_at q h ns) ≡ Go (goes_with (next_pc (lane_at q h ns)) made v (lane_at q h ns))
      → image_step k (lane_at q h ns) ≡ Go (lane_at (suc q) (set made v h) ns)
  acting_goes i rest q h ns v low e makes =
      let next : next_pc (lane_at q h ns) ≡ address_of_word (suc q) = omega (arith, low) in
      ap (λ found. fetched_step k found (lane_at q h ns)) (step_at f c k place slots start stands is code fits i rest q (lane_at q h ns) refl e)
      ∙ makes ∙ ap (λ pc. Go (image_lane pc (with_register made v h.registers) h.frame ns)) next

  -- Words that compute, the word that makes a value of what they leave, and the word that stores it: one word of the frame has the value then.
  pub stored_along : (ws : List Plain) (i : Instr) (d v : ℕ) (rest : List Instr) (j : ℕ) (h : Held) (ns : List ℕ)
      → j + (length ws + 2) ≤ 65536 → drop j is ≡ plain_onto ws (i ∷ instr_of (PutSlot made d) ∷ rest)
      → ReachAll slots start (around_in k place) ws h → (do_all (around_in k place) ws h).registers 4 ≡ start → d < slots
      → ((s : ImageLane) → s.registers ≡ (do_all (around_in k place) ws h).registers → instr_step k i s ≡ Go (goes_with (next_pc s) made v s))
      → (n : ℕ) (s : S)
      → GoAlong f (image_step k) c (λ t. 0) n s
      (lane_at (j + (length ws + 2)) (held (with_register made v (do_all (around_in k place) ws h).registers) (put_at d v (do_all (around_in k place) ws h).frame)) ns)
      → GoAlong f (image_step k) c (λ t. 0) n s (lane_at j h ns)
  stored_along ws i d v rest j h ns low e reach based less makes n s along =
      let q = j + length ws in
      let h1 = do_all (around_in k place) ws h in
      let h2 = set made v h1 in
      let put = instr_of (PutSlot made d) in
      let there = plain_rest is ws (i ∷ put ∷ rest) j e in
      let end : j + (length ws + 2) ≡ suc (suc q) = omega arith in
      let value : v ≡ value_in h2.registers made = sym (has_value made refl refl refl v h1.registers) in
      let moved = subst (λ p. GoAlong f (image_step k) c (λ t. 0) n s (lane_at p (held h2.registers (put_at d v h1.frame)) ns)) end along in
      let done = subst (λ x. GoAlong f (image_step k) c (λ t. 0) n s (lane_at (suc (suc q)) (held h2.registers (put_at d x h1.frame)) ns)) value moved in
      plain_along f c k place slots start stands is code fits ws (i ∷ put ∷ rest) j h ns (omega (arith, low)) e reach n s
      (SecondGoes n s (lane_at q h1 ns) (lane_at (suc q) h2 ns) (acting_goes i (put ∷ rest) q h1 ns v (omega (arith, low)) there (makes (lane_at q h1 ns) refl)) refl
      (SecondGoes n s (lane_at (suc q) h2 ns) (lane_at (suc (suc q)) (held h2.registers (put_at d (value_in h2.registers made) h1.frame)) ns)
      (plain_goes f c k place slots start stands is code fits (PutSlot made d) rest (suc q) h2 ns (omega (arith, low)) (rest_at is (put ∷ rest) i q there) (based, less)) refl done))
