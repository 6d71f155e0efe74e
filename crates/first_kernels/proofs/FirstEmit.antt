-- The code of the assignments, one after the other.
use Rattle.std.proofs.Common.{◌≡◌, ℕ, zero, suc, ◌+◌, ◌*◌, ◌%◌, ◌^◌, ◌<◌, ◌≤◌, List, [], ◌∷◌, ◌++◌, length, get_or, drop, map, refl, ap, sym, ◌∙◌, arith, append_assoc}
use Rattle.std.specs.List.{All, AllByRecursion}
use Rattle.std.proofs.Math.Nat.{mul-le-mul_left, mod-eq_of_lt}
use Rattle.std.proofs.lemmas.List.{drop_more, drop_all, append-nil}
use Rattle.vx_isa.specs.declared.instr.Instr.{Instr}
use Rattle.vx_isa.specs.declared.instr.Instr.TheVariants.{Tmc}
use Rattle.first_kernels.specs.declared.tree.Assignment.{Assignment}
use Rattle.first_kernels.specs.FirstTree.{assigns_of, Form}
use Rattle.first_kernels.specs.FirstMemory.{stride}
use Rattle.first_kernels.specs.FirstCode.{assignment_code, body_code, opening_code, kernel_code, places_of}

-- what holds of each element holds at each place
pub at_place : {X Y : Type 0} (P : Y → Type 0) (f : X → Y) (xs : List X) (k : ℕ) (x : X) → AllByRecursion P (map f xs) → k < length xs →
    x ≡ get_or xs k x → P (f x)
at_place P f [] k x all below is_x = absurd (omega arith)
at_place P f (y ∷ ys) zero x all below is_x = rw is_x all.0
at_place P f (y ∷ ys) (suc k) x all below is_x = at_place P f ys k x all.1 (omega arith) is_x

-- one assignment more is behind
pub body_more : (places : List ℕ) (assignments : List Assignment) (code code' whole : List Instr) (k : ℕ) (a : Assignment) →
    k < length assignments → a ≡ get_or assignments k a → code' ≡ code ++ assignment_code places (assigns_of a) →
    code ++ body_code places (map assigns_of (drop k assignments)) ≡ whole →
    code' ++ body_code places (map assigns_of (drop (k + 1) assignments)) ≡ whole
body_more places assignments code code' whole k a below is_a written before =
    let cut : drop k assignments ≡ a ∷ drop (k + 1) assignments =
    drop_more assignments k a below ∙ ap (λ (x : Assignment). x ∷ drop (k + 1) assignments) (sym is_a) in
    ap (λ (is : List Instr). is ++ body_code places (map assigns_of (drop (k + 1) assignments))) written
    ∙ append_assoc code (assignment_code places (assigns_of a)) (body_code places (map assigns_of (drop (k + 1) assignments)))
    ∙ ap (λ (xs : List Assignment). code ++ body_code places (map assigns_of xs)) (sym cut)
    ∙ before

-- all are behind
pub body_all : (places : List ℕ) (assignments : List Assignment) (code whole : List Instr) (k : ℕ) → length assignments ≤ k →
    code ++ body_code places (map assigns_of (drop k assignments)) ≡ whole → code ≡ whole
body_all places assignments code whole k over before =
    sym (append-nil code)
    ∙ ap (λ (xs : List Assignment). code ++ body_code places (map assigns_of xs)) (sym (drop_all k assignments over))
    ∙ before

-- few buffers of few bytes lie at small places
pub places_small : (arguments : List ℕ) (s : ℕ) → All (λ b. b < 16) arguments → s ≤ 128 → map (λ b. b * s % 2 ^ 32) arguments ≡ map (λ b. b * s) arguments
places_small [] s all short = refl
places_small (b ∷ more) s all short =
    let first : b < 16 = all 0 b (omega arith) in
    let bound : b * s ≤ b * 128 = mul-le-mul_left b short in
    let here : b * s % 2 ^ 32 ≡ b * s = mod-eq_of_lt (omega arith) in
    let rest = places_small more s (λ k d below. all (suc k) d (omega arith)) short in
    ap (λ (x : ℕ). x ∷ map (λ b. b * s % 2 ^ 32) more) here ∙ ap (λ (xs : List ℕ). b * s ∷ xs) rest

-- the code of a kernel from its parts
pub kernel_parts : (arguments places : List ℕ) (items : ℕ) (k : Form) (opening body code : List Instr) →
    places ≡ map (λ b. b * stride items % 2 ^ 32) arguments → All (λ b. b < 16) arguments → items ≤ 32 → opening ≡ opening_code →
    body ≡ opening ++ body_code places k.assignments → code ≡ body ++ Tmc 0 ∷ [] → code ≡ kernel_code (places_of arguments items) k
kernel_parts arguments places items k opening body code are_places few few_items is_opening is_body is_code =
    let short : stride items ≤ 128 = omega arith in
    let same : places ≡ places_of arguments items = are_places ∙ places_small arguments (stride items) few short in
    is_code
    ∙ ap (λ (is : List Instr). is ++ Tmc 0 ∷ []) (is_body ∙ ap (λ (is : List Instr). is ++ body_code places k.assignments) is_opening ∙ ap (λ (ps : List ℕ). opening_code ++ body_code ps k.assignments) same)
    ∙ append_assoc opening_code (body_code (places_of arguments items) k.assignments) (Tmc 0 ∷ [])
