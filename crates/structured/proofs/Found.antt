-- What a program finds by its name is a kernel.
use Rattle.std.proofs.Common.{◌≡◌, refl, ap, subst, ℕ, suc, ◌+◌, Bool, true, false, ◌&&◌, if◌then◌else◌, List, [], ◌∷◌, Option, Some, arith}
use Rattle.std.specs.Str.{bytes_eq}
use Rattle.std.proofs.lemmas.Bool.{and_parts}
use Rattle.ocl_program.specs.Nodes.{FunctionNode}
use Rattle.ocl_types.specs.Functions.{kernel_from}
use Rattle.structured.specs.Ready.{IsKernel}

-- the number that is found, counted from n
record IsFound (n : ℕ) (program : List FunctionNode) (number : ℕ) : Type 0 where
  place : ℕ
  counted : number ≡ n + place
  kernel : IsKernel program place

here : (n : ℕ) (f : FunctionNode) (more : List FunctionNode) (number : ℕ) → f.kernel ≡ true → Some n ≡ Some number → IsFound n (f ∷ more) number
here n f more number marked e = let same : n ≡ number = cc in record { place = 0; counted = omega arith; kernel = ap Some marked }

later : (n : ℕ) (f : FunctionNode) (more : List FunctionNode) (number : ℕ) → IsFound (n + 1) more number → IsFound n (f ∷ more) number
later n f more number there = record { place = suc there.place; counted = omega (arith, there.counted); kernel = there.kernel }

chosen : (n : ℕ) (f : FunctionNode) (more : List FunctionNode) (number : ℕ) (named test : Bool) (rest : Option ℕ) → (f.kernel && named) ≡ test → (if test then Some n else rest) ≡ Some number
    → (rest ≡ Some number → IsFound (n + 1) more number) → IsFound n (f ∷ more) number
chosen n f more number named true rest is e behind = here n f more number (and_parts f.kernel named is).0 e
chosen n f more number named false rest is e behind = later n f more number (behind e)

found : (name : List ℕ) (n : ℕ) (program : List FunctionNode) (number : ℕ) → kernel_from n name program ≡ Some number → IsFound n program number
found name n [] number e = cc
found name n (f ∷ more) number e =
    chosen n f more number (bytes_eq name f.name.text) (f.kernel && bytes_eq name f.name.text) (kernel_from (n + 1) name more) refl e (found name (n + 1) more number)

pub found_kernel : (program : List FunctionNode) (name : List ℕ) (number : ℕ) → kernel_from 0 name program ≡ Some number → IsKernel program number
found_kernel program name number e =
    let there : IsFound 0 program number = found name 0 program number e in
    let same : there.place ≡ number = omega (arith, there.counted) in
    subst (IsKernel program) same there.kernel
