-- The arguments of a typed call are what its function takes.
use Rattle.std.proofs.Common.{◌≡◌, refl, sym, subst, ℕ, zero, suc, Bool, true, false, ◌&&◌, ◌||◌, not, if◌then◌else◌, List, [], ◌∷◌, ◌++◌, length, find, Option, None, Some, option_map, arith}
use Rattle.std.specs.Prelude.{zip}
use Rattle.vx_base.specs.declared.types.Elem.{Elem}
use Rattle.vx_base.specs.declared.types.Elem.TheVariants.{Char, Uchar, Short, Ushort, Int, Uint}
use Rattle.vx_base.specs.declared.types.ParamKind.{ParamKind}
use Rattle.vx_base.specs.declared.types.ParamKind.TheVariants.{Scalar, Pointer}
use Rattle.vx_base.specs.declared.types.Pos.{Pos}
use Rattle.vx_base.specs.declared.types.Space.{Space}
use Rattle.vx_base.specs.declared.types.Space.TheVariants.{Global, Constant, Local}
use Rattle.ocl_ast.specs.declared.units.Param.{Param}
use Rattle.ocl_program.specs.Nodes.{ArgNode, ValueNode, ArrayNode, arg_nodes}
use Rattle.ocl_types.specs.declared.names.Given.{Given}
use Rattle.ocl_types.specs.declared.names.Given.TheVariants.{Value as ValueGiven, Array as ArrayGiven}
use Rattle.ocl_types.specs.Exprs.{same_space, same_elem, is_of_kind, given_pos, first_stranger}
use Rattle.ocl_types.specs.Names.{is_fixed}
use Rattle.program_laws.proofs.StmtMoves.{left_true, right_true}
use Rattle.flat_typing.specs.Typed.{ArrayKind, AreTypedArgs, AreValues, Fits, Frame, IsTypedExpr, MayServe, kind_of, named_kind}

-- ---- arguments and what is known of them

-- an argument by what it gives
abbrev pub IsGiven : Frame → ArgNode → Given → Type 0
IsGiven frame (ValueNode e) (ValueGiven elem pos) = IsTypedExpr frame e
IsGiven frame (ArrayNode array) (ArrayGiven space elem readonly pos) = named_kind frame array ≡ Some (record { space = space; elem = elem; fixed = readonly })
IsGiven frame (ValueNode e) (ArrayGiven space elem readonly pos) = ⊥
IsGiven frame (ArrayNode array) (ValueGiven elem pos) = ⊥

abbrev pub AreGiven : Frame → List ArgNode → List Given → Type 0
AreGiven frame [] [] = Unit {0}
AreGiven frame (arg ∷ args) (given ∷ more) = IsGiven frame arg given × AreGiven frame args more
AreGiven frame [] (given ∷ more) = ⊥
AreGiven frame (arg ∷ args) [] = ⊥

pub given_behind : (frame : Frame) (args : List ArgNode) (given : List Given) (arg : ArgNode) (one : Given) → AreGiven frame args given → IsGiven frame arg one
    → AreGiven frame (args ++ arg ∷ []) (given ++ one ∷ [])
given_behind frame [] [] arg one h is = (is, tt)
given_behind frame (a ∷ args) (g ∷ given) arg one h is = (h.0, given_behind frame args given arg one h.1 is)
given_behind frame [] (g ∷ given) arg one h is = absurd h
given_behind frame (a ∷ args) [] arg one h is = absurd h

pub given_typed : (frame : Frame) (args : List ArgNode) (given : List Given) → AreGiven frame args given → AreTypedArgs frame (arg_nodes args)
given_typed frame [] [] h = tt
given_typed frame (ValueNode e ∷ args) (ValueGiven elem pos ∷ given) h = (h.0, given_typed frame args given h.1)
given_typed frame (ArrayNode array ∷ args) (ArrayGiven space elem readonly pos ∷ given) h = given_typed frame args given h.1
given_typed frame (ValueNode e ∷ args) (ArrayGiven space elem readonly pos ∷ given) h = absurd h.0
given_typed frame (ArrayNode array ∷ args) (ValueGiven elem pos ∷ given) h = absurd h.0
given_typed frame [] (g ∷ given) h = absurd h
given_typed frame (a ∷ args) [] h = absurd h

-- ---- values

abbrev pub GivesValues : List Given → Type 0
GivesValues [] = Unit {0}
GivesValues (ValueGiven elem pos ∷ given) = GivesValues given
GivesValues (ArrayGiven space elem readonly pos ∷ given) = ⊥

pub values_behind : (given : List Given) (elem : Elem) (pos : Pos) → GivesValues given → GivesValues (given ++ ValueGiven elem pos ∷ [])
values_behind [] elem pos h = tt
values_behind (ValueGiven e p ∷ given) elem pos h = values_behind given elem pos h
values_behind (ArrayGiven space e readonly p ∷ given) elem pos h = absurd h

pub given_values : (frame : Frame) (args : List ArgNode) (given : List Given) (n : ℕ) → AreGiven frame args given → GivesValues given → length given ≡ n → AreValues n (arg_nodes args)
given_values frame [] [] zero h values e = tt
given_values frame [] [] (suc n) h values e = absurd (omega arith)
given_values frame (ValueNode a ∷ args) (ValueGiven elem pos ∷ given) zero h values e = absurd (omega arith)
given_values frame (ValueNode a ∷ args) (ValueGiven elem pos ∷ given) (suc n) h values e = given_values frame args given n h.1 values (omega arith)
given_values frame (ValueNode a ∷ args) (ArrayGiven space elem readonly pos ∷ given) n h values e = absurd values
given_values frame (ArrayNode a ∷ args) (ArrayGiven space elem readonly pos ∷ given) n h values e = absurd values
given_values frame (ArrayNode a ∷ args) (ValueGiven elem pos ∷ given) n h values e = absurd h.0
given_values frame [] (g ∷ given) n h values e = absurd h
given_values frame (a ∷ args) [] n h values e = absurd h

-- ---- kinds

space_same : (one other : Space) → same_space one other ≡ true → other ≡ one
space_same Global Global h = refl
space_same Global Constant h = cc
space_same Global Local h = cc
space_same Constant Global h = cc
space_same Constant Constant h = refl
space_same Constant Local h = cc
space_same Local Global h = cc
space_same Local Constant h = cc
space_same Local Local h = refl

elem_same : (one other : Elem) → same_elem one other ≡ true → other ≡ one
elem_same Char Char h = refl
elem_same Char Uchar h = cc
elem_same Char Short h = cc
elem_same Char Ushort h = cc
elem_same Char Int h = cc
elem_same Char Uint h = cc
elem_same Uchar Char h = cc
elem_same Uchar Uchar h = refl
elem_same Uchar Short h = cc
elem_same Uchar Ushort h = cc
elem_same Uchar Int h = cc
elem_same Uchar Uint h = cc
elem_same Short Char h = cc
elem_same Short Uchar h = cc
elem_same Short Short h = refl
elem_same Short Ushort h = cc
elem_same Short Int h = cc
elem_same Short Uint h = cc
elem_same Ushort Char h = cc
elem_same Ushort Uchar h = cc
elem_same Ushort Short h = cc
elem_same Ushort Ushort h = refl
elem_same Ushort Int h = cc
elem_same Ushort Uint h = cc
elem_same Int Char h = cc
elem_same Int Uchar h = cc
elem_same Int Short h = cc
elem_same Int Ushort h = cc
elem_same Int Int h = refl
elem_same Int Uint h = cc
elem_same Uint Char h = cc
elem_same Uint Uchar h = cc
elem_same Uint Short h = cc
elem_same Uint Ushort h = cc
elem_same Uint Int h = cc
elem_same Uint Uint h = refl

accepted_by : (readonly fixed : Bool) → not readonly || fixed ≡ true → fixed ≡ false → readonly ≡ false
accepted_by false fixed h open_is = refl
accepted_by true true h open_is = cc
accepted_by true false h open_is = cc

value_fits : (kind : ParamKind) (elem : Elem) (pos : Pos) → is_of_kind kind (ValueGiven elem pos) ≡ true → kind_of kind ≡ None
value_fits (Scalar wants) elem pos h = refl
value_fits (Pointer wants wants_elem may) elem pos h = cc

array_fits : (kind : ParamKind) (space : Space) (elem : Elem) (readonly : Bool) (pos : Pos) (found : Option ArrayKind) → is_of_kind kind (ArrayGiven space elem readonly pos) ≡ true
    → found ≡ Some (record { space = space; elem = elem; fixed = readonly }) → MayServe found (kind_of kind)
array_fits (Scalar wants) space elem readonly pos found h is = cc
array_fits (Pointer wants wants_elem may) space elem readonly pos found h is =
    let spaces : same_space wants space ≡ true = left_true (same_space wants space) (same_elem wants_elem elem && (not readonly || is_fixed wants may)) h in
    let rest : same_elem wants_elem elem && (not readonly || is_fixed wants may) ≡ true = right_true (same_space wants space) (same_elem wants_elem elem && (not readonly || is_fixed wants may)) h in
    subst (λ (x : Option ArrayKind). MayServe x (kind_of (Pointer wants wants_elem may))) (sym is) (record {
      space = space_same wants space spaces;
      elem = elem_same wants_elem elem (left_true (same_elem wants_elem elem) (not readonly || is_fixed wants may) rest);
      accepts = λ accepting. accepted_by readonly (is_fixed wants may) (right_true (same_elem wants_elem elem) (not readonly || is_fixed wants may) rest) accepting;
    })

-- ---- all arguments

-- nothing is found in a list: not at its head, and not behind it
record NotFound {A B : Type 0} (test : A → Bool) (f : A → B) (x : A) (xs : List A) : Type 0 where
  here : test x ≡ false
  more : option_map f (find test xs) ≡ None

not_found_by : {A B : Type 0} (test : A → Bool) (f : A → B) (x : A) (xs : List A) (found : Bool) → test x ≡ found → option_map f (if found then Some x else find test xs) ≡ None → NotFound test f x xs
not_found_by test f x xs true e h = cc
not_found_by test f x xs false e h = record { here = e; more = h }

not_found : {A B : Type 0} (test : A → Bool) (f : A → B) (x : A) (xs : List A) → option_map f (find test (x ∷ xs)) ≡ None → NotFound test f x xs
not_found test f x xs h = not_found_by test f x xs (test x) refl h

not_false : (b : Bool) → not b ≡ false → b ≡ true
not_false true h = refl
not_false false h = cc

pub given_fits : (frame : Frame) (params : List Param) (args : List ArgNode) (given : List Given) → AreGiven frame args given → length given ≡ length params
    → first_stranger params given ≡ None → Fits frame params (arg_nodes args)
given_fits frame [] [] [] h e none = tt
given_fits frame (param ∷ params) [] [] h e none = absurd (omega arith)
given_fits frame [] (a ∷ args) (g ∷ given) h e none = absurd (omega arith)
given_fits frame (param ∷ params) (ValueNode a ∷ args) (ValueGiven elem pos ∷ given) h e none =
    let found = not_found (λ (pair : Param × Given). not (is_of_kind pair.0.kind pair.1)) (λ (pair : Param × Given). given_pos pair.1) (param, ValueGiven elem pos) (zip params given) none in
    (value_fits param.kind elem pos (not_false (is_of_kind param.kind (ValueGiven elem pos)) found.here), given_fits frame params args given h.1 (omega arith) found.more)
given_fits frame (param ∷ params) (ArrayNode a ∷ args) (ArrayGiven space elem readonly pos ∷ given) h e none =
    let found = not_found (λ (pair : Param × Given). not (is_of_kind pair.0.kind pair.1)) (λ (pair : Param × Given). given_pos pair.1) (param, ArrayGiven space elem readonly pos) (zip params given) none in
    (array_fits param.kind space elem readonly pos (named_kind frame a) (not_false (is_of_kind param.kind (ArrayGiven space elem readonly pos)) found.here) h.0, given_fits frame params args given h.1 (omega arith) found.more)
given_fits frame (param ∷ params) (ValueNode a ∷ args) (ArrayGiven space elem readonly pos ∷ given) h e none = absurd h.0
given_fits frame (param ∷ params) (ArrayNode a ∷ args) (ValueGiven elem pos ∷ given) h e none = absurd h.0
given_fits frame params [] (g ∷ given) h e none = absurd h
given_fits frame params (a ∷ args) [] h e none = absurd h
