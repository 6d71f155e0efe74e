-- A lane that is laid out for an item accesses elements that the arrays of the launch have, since it asks for what the item asks for.
use Rattle.std.proofs.Common.{◌≡◌, ℕ, zero, suc, ◌+◌, ◌-◌, ◌*◌, ◌%◌, ◌<◌, ◌≤◌, inl, inr, Bool, List, [], ◌∷◌, length, drop, Option, None, Some, slice_get, refl, ap, sym, subst, ◌∙◌, arith}
use Rattle.std.specs.Prelude.{slice_index}
use Rattle.std.proofs.lemmas.Option.{slice_get_past}
use Rattle.vx_base.specs.Values.{elem_bytes}
use Rattle.vx_base.specs.declared.types.Elem.{Elem}
use Rattle.vx_base.specs.declared.types.Elem.TheVariants.{Char, Uchar, Short, Ushort, Int, Uint}
use Rattle.vx_base.specs.declared.types.Size.{Size}
use Rattle.vx_base.specs.declared.types.Size.TheVariants.{One, Two, Four}
use Rattle.vx_base.specs.declared.types.Space.{Space}
use Rattle.vx_base.specs.declared.types.Space.TheVariants as space
use Rattle.item_acts.specs.declared.acts.Action.{Action}
use Rattle.item_acts.specs.declared.acts.Action.TheVariants.{Load as LoadAction, Store as StoreAction}
use Rattle.item_acts.specs.declared.acts.Asked.TheVariants.{Act}
use Rattle.item_acts.specs.declared.acts.Place.{Place}
use Rattle.item_acts.specs.declared.acts.Place.TheVariants.{Global}
use Rattle.item_acts.specs.Machine.{Step, Go, Ask, Stop, Asks, asked, asked_at_once, asked_behind}
use Rattle.item_settings.specs.declared.arrays.ItemArray.{ItemArray}
use Rattle.item_settings.specs.Settings as settings
use Rattle.item_settings.specs.Settings.{Setting, bound_values, elem_size, element_in, low_bytes, place_in}
use Rattle.kir.specs.Machine as kir
use Rattle.kir.specs.Machine.{kir_start, value}
use Rattle.kir.specs.Trees.{KirCode}
use Rattle.kir.proofs.TypingLaws.{has_type, may_be_written}
use Rattle.vcode.specs.Code.{VOp, Fresh, Word, Wspawn, Copy, Compute, Cut, WordAt, Learn, Fetch, Write, IfZero, IfNot, Goto, Split, Join, Pred, Tmc, Bar, Trap, Enter, Leaves, Again}
use Rattle.vcode.specs.Machine as vcode
use Rattle.vcode.specs.Machine.{Around, Lane, lane, op_step}
use Rattle.vcode.proofs.Steps.{step_at}
use Rattle.vx_layout.specs.Addresses.{place_at}
use Rattle.vx_layout.specs.Launching.{Plan, Accepted, local_sizes, map_of}
use Rattle.vx_layout.specs.Located.{HasBytes, Holds, byte_in, size_of_span}
use Rattle.vx_layout.proofs.Located.{located}
use Rattle.simt_lowering.specs.InArrays.{FirstInArray, InArrays, IsElement, IsWritable}
use Rattle.simt_lowering.specs.Kept.{CanLower, IsKept, spawn_place, item_place, known_of_kernel}
use Rattle.simt_lowering.specs.Laid.{HasLane, IsLaunchOf, around_of, named, place_or, setting_for}
use Rattle.simt_lowering.specs.Lowered.{own, held, kernel_code, start_word}
use Rattle.simt_lowering.specs.Runs.{Begins, Comes, Leads, first_written}
use Rattle.simt_lowering.proofs.ArraysStand.{Stands, array_stands, bytes_below, is_word}
use Rattle.simt_lowering.proofs.ItemAccesses.{IsOfArray, IsOfWritten, IsWithin, item_within}
use Rattle.simt_lowering.proofs.Kernels.{kernel_kept}
use Rattle.simt_lowering.proofs.LaidLanes.{accepted_is_laid}

-- ---- elements by their addresses

some_bytes : (elem : Elem) → 1 ≤ elem_bytes elem
some_bytes Char = omega arith
some_bytes Uchar = omega arith
some_bytes Short = omega arith
some_bytes Ushort = omega arith
some_bytes Int = omega arith
some_bytes Uint = omega arith

last_below : (elem : Elem) (i count : ℕ) → i < count → i * elem_bytes elem + (elem_bytes elem - 1) < count * elem_bytes elem
last_below Char i count below = omega arith
last_below Uchar i count below = omega arith
last_below Short i count below = omega arith
last_below Ushort i count below = omega arith
last_below Int i count below = omega arith
last_below Uint i count below = omega arith

element_aligned : (elem : Elem) (i address : ℕ) → address % 4 ≡ 0 → (address + i * elem_bytes elem) % elem_bytes elem ≡ 0
element_aligned Char i address even = omega arith
element_aligned Uchar i address even = omega arith
element_aligned Short i address even = omega arith
element_aligned Ushort i address even = omega arith
element_aligned Int i address even = omega arith
element_aligned Uint i address even = omega arith

-- how many bytes a size is
abbrev size_bytes : Size → ℕ
size_bytes One = 1
size_bytes Two = 2
size_bytes Four = 4

size_is : (elem : Elem) → elem_bytes elem ≡ size_bytes (elem_size elem)
size_is Char = refl
size_is Uchar = refl
size_is Short = refl
size_is Ushort = refl
size_is Int = refl
size_is Uint = refl

same_bytes : (elem elem' : Elem) → elem_size elem ≡ elem_size elem' → elem_bytes elem ≡ elem_bytes elem'
same_bytes elem elem' e = size_is elem ∙ ap size_bytes e ∙ sym (size_is elem')

-- an array that has the last byte of a field has the field
holds_field : (size : Option ℕ) (byte n : ℕ) → 1 ≤ n → Holds size (byte + (n - 1)) 1 → Holds size byte n
holds_field None byte n some holds = absurd holds
holds_field (Some size) byte n some holds = omega arith

has_field : (p : Plan) (group : ℕ) (space : Space) (number byte n : ℕ) → 1 ≤ n → HasBytes p group (byte_in space group number (byte + (n - 1))) 1
    → HasBytes p group (byte_in space group number byte) n
has_field p group space.Local number byte n some has = (has.0, holds_field (slice_get (local_sizes p) number) byte n some has.1)
has_field p group space.Global number byte n some has = holds_field (size_of_span (slice_get p.buffers number)) byte n some has
has_field p group space.Constant number byte n some has = holds_field (size_of_span (slice_get p.buffers number)) byte n some has

-- no array has a byte of a buffer that is not there
no_such_buffer : (p : Plan) (group byte : ℕ) → HasBytes p group (Global (length p.buffers) byte) 1 → ⊥
no_such_buffer p group byte has = subst (λ o. Holds (size_of_span o) byte 1) (slice_get_past p.buffers (length p.buffers) (omega arith)) has

-- where a byte is named that an array has, the address is its own
names_it : (p : Plan) (group address : ℕ) (q : Place) (o : Option Place) → place_or (Global (length p.buffers) address) o ≡ q → HasBytes p group q 1 → o ≡ Some q
names_it p group address q (Some q') e has = ap Some e
names_it p group address q None e has = absurd (no_such_buffer p group address (subst (λ x. HasBytes p group x 1) (sym e) has))

same_address : (a b : ℕ) → Some a ≡ Some b → a ≡ b
same_address a b e = cc

pub element_is : (p : Plan) → Accepted p → (group address word i : ℕ) (array : ItemArray) → Stands p group array word → i < array.count
    → named p group address ≡ place_in group array array.elem i
    → (place_at (map_of p) group address ≡ Some (element_in group array i)) × HasBytes p group (element_in group array i) (elem_bytes array.elem)
    × (address % elem_bytes array.elem ≡ 0)
element_is p ok group address word i array at below e =
    let n : ℕ = i * elem_bytes array.elem in
    let size : ℕ = array.count * elem_bytes array.elem in
    let less : i * elem_bytes array.elem < array.count * elem_bytes array.elem = bytes_below array.elem i array.count below in
    let here : named p group address ≡ element_in group array i =
    e ∙ ap (settings.byte_in group array) (is_word (i * elem_bytes array.elem) (array.count * elem_bytes array.elem) at.address less at.stands.small) in
    let first : place_at (map_of p) group (at.address + n) ≡ Some (element_in group array i) = at.stands.names group n less ∙ ap Some (at.is n) in
    let has : HasBytes p group (element_in group array i) 1 = (located p ok).has_place group (at.address + n) (element_in group array i) first in
    let last : HasBytes p group (byte_in at.space group at.number (n + (elem_bytes array.elem - 1))) 1 =
    (located p ok).has_place group (at.address + (n + (elem_bytes array.elem - 1))) _ (at.stands.names group (n + (elem_bytes array.elem - 1)) (last_below array.elem i array.count below)) in
    let names : place_at (map_of p) group address ≡ Some (element_in group array i) = names_it p group address (element_in group array i) (place_at (map_of p) group address) here has in
    let same : address ≡ at.address + n =
    same_address address (at.address + n)
    (sym ((located p ok).has_address group address (element_in group array i) names) ∙ (located p ok).has_address group (at.address + n) (element_in group array i) first) in (
      names,
      subst (λ q. HasBytes p group q (elem_bytes array.elem)) (at.is n) (has_field p group at.space at.number n (elem_bytes array.elem) (some_bytes array.elem) last),
      subst (λ a. a % elem_bytes array.elem ≡ 0) (sym same) (element_aligned array.elem i at.address at.stands.aligned),
    )

-- ---- what a lane asks for where it comes to

module _ (at : Around) (code : List VOp) where
  behind_asks : (x : Step Lane) (m : Lane) (k : ℕ) (answers : List ℕ) (a : Action) → Leads x m → asked (vcode.step at code) k m answers ≡ Act a
      → (answers' : List ℕ) × (asked_behind (asked (vcode.step at code) k) x answers' ≡ Act a)
  behind_asks (Go t) m k answers a leads e = (answers, subst (λ (l : Lane). asked (vcode.step at code) k l answers ≡ Act a) (sym leads) e)
  behind_asks (Ask b behind) m k answers a leads e = (leads.0 ∷ answers, subst (λ (l : Lane). asked (vcode.step at code) k l answers ≡ Act a) (sym leads.1) e)
  behind_asks (Stop b) m k answers a leads e = absurd leads

  pub comes_asks : (n : ℕ) (s : Lane) (ws : List ℕ) (t : Lane) (us : List ℕ) → Comes at code n s ws t us → (a : Action) → asked_at_once (vcode.step at code t) [] ≡ Act a
      → (answers : List ℕ) × Asks (vcode.step at code) s answers a
  comes_asks zero s ws t us comes a e = ([], (0, subst (λ (l : Lane). asked_at_once (vcode.step at code l) [] ≡ Act a) (sym comes.0) e))
  comes_asks (suc n) s ws t us (m, leads, comes) a e =
      let later = comes_asks n m (first_written (drop s.place code) ws) t us comes a e in
      let here = behind_asks (vcode.step at code s) m later.1.0 later.0 a leads later.1.1 in
      (here.0, (suc later.1.0, here.1))

-- ---- a lane with its item

module _ (code : KirCode) (marks : ℕ → Bool) (p : Plan) (ok : Accepted p) (plan : IsLaunchOf code p) (can : CanLower code) (item group warp number : ℕ) (has : HasLane p item group warp number) where
  abbrev setting : Setting
  setting = setting_for code p item

  abbrev at : Around
  at = around_of p group warp number

  abbrev ops : List VOp
  ops = kernel_code marks code

  abbrev Inside : Lane → Type 0
  Inside t = FirstInArray p setting group (drop t.place ops) t.registers

  kept : IsKept code (kernel_code marks code) setting p.bounds at
  kept = kernel_kept code marks setting p.bounds at can ((accepted_is_laid code marks p ok plan).laid item group warp number has)

  -- what the item asks for is within
  item_asks : (answers : List ℕ) (a : Action) → Asks (kir.step setting) (kir_start code p.bounds) answers a → IsWithin code.params code.arrays setting a
  item_asks answers a asks = item_within code.params code.arrays setting code.ops (slice_index (bound_values code.params p.bounds)) [] asks.0 answers a can.checked can.typed can.no_jumps asks.1

  place_of : (elem elem' : Elem) (array : ItemArray) (i : ℕ) → array.elem ≡ elem' → place_in setting.group array elem' i ≡ place_in group array array.elem i
  place_of elem elem' array i typed = ap (λ g. place_in g array elem' i) has.group_is ∙ ap (λ x. place_in group array x i) (sym typed)

  of_array : (elem : Elem) (address : ℕ) → IsOfArray code.params code.arrays setting (named p group address) (elem_size elem) → IsElement p setting group elem address
  of_array elem address of =
      let array : ItemArray = setting.array of.array in
      let typed : array.elem ≡ of.elem = has_type code.params code.arrays p.bounds of.array of.elem of.typed of.index of.below in
      let is = element_is p ok group address (start_word of.array) of.index array (array_stands code p ok plan group of.array of.index of.below) of.below
      (of.place ∙ place_of elem of.elem array of.index typed) in
      let wide : elem_size array.elem ≡ elem_size elem = ap elem_size typed ∙ sym of.wide in
      let bytes : elem_bytes array.elem ≡ elem_bytes elem = same_bytes array.elem elem wide in
      record {
        array = of.array;
        index = of.index;
        below = of.below;
        wide = wide;
        names = is.0;
        bytes = subst (HasBytes p group (element_in group array of.index)) bytes is.1;
        aligned = subst (λ n. address % n ≡ 0) bytes is.2;
      }

  of_written : (elem : Elem) (address : ℕ) → IsOfWritten code.params code.arrays setting (named p group address) (elem_size elem) → IsWritable p setting group elem address
  unfolding of_array
  of_written elem address of = record {
    element = of_array elem address of.of;
    writable = may_be_written code.params code.arrays p.bounds of.of.array of.written of.of.index of.of.below;
  }

  -- what the lane asks for where it comes to is within, if it goes on as the item from where it begins
  abbrev AreAsked : Lane → Type 0
  AreAsked s = (answers : List ℕ) (a : Action) → Asks (vcode.step at ops) s answers a → IsWithin code.params code.arrays setting a

  op_inside : (op : VOp) (q : ℕ) (rs : ℕ → ℕ) (ts ns : List ℕ) → ((a : Action) → asked_at_once (op_step at op q rs ts ns) [] ≡ Act a → IsWithin code.params code.arrays setting a)
      → FirstInArray p setting group (op ∷ []) rs
  op_inside (Fetch d elem a) q rs ts ns asks = of_array elem (value rs a) (asks (LoadAction (named p group (value rs a)) (elem_size elem)) refl)
  op_inside (Write elem a b) q rs ts ns asks = of_written elem (value rs a) (asks (StoreAction (named p group (value rs a)) (elem_size elem) (low_bytes elem (value rs b))) refl)
  op_inside Fresh q rs ts ns asks = tt
  op_inside (Copy d a) q rs ts ns asks = tt
  op_inside (Compute d op a b) q rs ts ns asks = tt
  op_inside (Cut d elem a) q rs ts ns asks = tt
  op_inside (Word d k) q rs ts ns asks = tt
  op_inside (WordAt d a k) q rs ts ns asks = tt
  op_inside (Learn d csr) q rs ts ns asks = tt
  op_inside (IfZero a to) q rs ts ns asks = tt
  op_inside (IfNot a to) q rs ts ns asks = tt
  op_inside (Goto to) q rs ts ns asks = tt
  op_inside (Split a) q rs ts ns asks = tt
  op_inside Join q rs ts ns asks = tt
  op_inside (Pred a m) q rs ts ns asks = tt
  op_inside (Tmc a) q rs ts ns asks = tt
  op_inside (Wspawn a to) q rs ts ns asks = tt
  op_inside (Bar site) q rs ts ns asks = tt
  op_inside (Trap pos) q rs ts ns asks = tt
  op_inside Enter q rs ts ns asks = tt
  op_inside (Leaves a to) q rs ts ns asks = tt
  op_inside (Again to) q rs ts ns asks = tt

  first_inside : (c : List VOp) (t : Lane) → drop t.place ops ≡ c → ((a : Action) → asked_at_once (vcode.step at ops t) [] ≡ Act a → IsWithin code.params code.arrays setting a)
      → FirstInArray p setting group c t.registers
  first_inside [] t e asks = tt
  first_inside (op ∷ c) t e asks =
      op_inside op t.place t.registers t.turns t.numbers
      (λ a now. asks a (ap (λ x. asked_at_once x []) (step_at at ops (op ∷ c) t.place t.registers t.turns t.numbers e) ∙ now))

  -- from a place on, each access is
  abbrev InsideFrom : ℕ → Type 0
  InsideFrom q = (rs : ℕ → ℕ) (ns : List ℕ) (n : ℕ) (ws : List ℕ) (t : Lane) (us : List ℕ) → Comes at ops n (lane q rs [] ns) ws t us → Inside t

  asked_inside : (q : ℕ) → ((rs : ℕ → ℕ) (ns : List ℕ) → AreAsked (lane q rs [] ns)) → InsideFrom q
  asked_inside q asks rs ns n ws t us comes =
      first_inside (drop t.place ops) t refl (λ a now. let reached = comes_asks at ops n (lane q rs [] ns) ws t us comes a now in asks rs ns reached.0 a reached.1)

  one_inside : (q : ℕ) (op : VOp) (rest : List VOp) → drop q ops ≡ op ∷ rest → ((rs : ℕ → ℕ) (ns : List ℕ) (m : Lane) → Leads (op_step at op q rs [] ns) m → (rs' : ℕ → ℕ) × (ns' : List ℕ) × (lane (suc q) rs' [] ns' ≡ m))
      → ((rs : ℕ → ℕ) → FirstInArray p setting group (op ∷ rest) rs) → InsideFrom (suc q) → InsideFrom q
  one_inside q op rest e goes inside next rs ns zero ws t us comes =
      subst Inside comes.0 (subst (λ c. FirstInArray p setting group c rs) (sym e) (inside rs))
  one_inside q op rest e goes inside next rs ns (suc n) ws t us (m, leads, comes) =
      let on = goes rs ns m (subst (λ x. Leads x m) (step_at at ops (op ∷ rest) q rs [] ns e) leads) in
      next on.0 on.1 n (first_written (drop q ops) ws) t us (subst (λ l. Comes at ops n l (first_written (drop q ops) ws) t us) (sym on.2) comes)

  from_item : InsideFrom item_place
  from_item = asked_inside item_place (λ rs ns answers a asks. let alike = kept.from_item rs ns in item_asks answers a (alike.no_more answers a asks))

  from_spawn : InsideFrom spawn_place
  from_spawn = asked_inside spawn_place (λ rs ns answers a asks. let alike = kept.from_spawn rs ns in item_asks answers a (alike.no_more answers a asks))

  from_first : InsideFrom 0
  from_first =
      one_inside 0 Fresh _ refl (λ rs ns m leads. (_, _, leads)) (λ rs. tt)
      (one_inside 1 (Word (own (known_of_kernel marks code) 0) 0) _ refl (λ rs ns m leads. (_, _, leads)) (λ rs. tt)
      (one_inside 2 (Wspawn (held (known_of_kernel marks code) 0) 3) _ refl (λ rs ns m leads. (_, _, leads)) (λ rs. tt) from_spawn))

  from_begin : (q : ℕ) → Begins q → InsideFrom q
  from_begin q (inl e) = subst InsideFrom (sym e) from_first
  from_begin q (inr (inl e)) = subst InsideFrom (sym e) from_spawn
  from_begin q (inr (inr e)) = subst InsideFrom (sym e) from_item

pub in_arrays : InArrays
in_arrays code marks p ok plan can item group warp number has q rs ns begins n t us comes =
    from_begin code marks p ok plan can item group warp number has q begins rs ns n [] t us comes
