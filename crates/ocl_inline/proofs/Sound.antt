-- What the laws of flat kernels stand on, in one record, and that each program of a file has it.
use Rattle.std.proofs.Common.{◌≡◌, ℕ, ◌≤◌, List, Some}
use Rattle.std.specs.Prelude.{slice_get}
use Rattle.ocl_program.specs.declared.functions.CallSite.{CallSite}
use Rattle.ocl_program.specs.Measures.{measured, own_calls, own_control, own_depth, own_nodes, own_sites, own_variables}
use Rattle.ocl_program.specs.Nodes.{FunctionNode}
use Rattle.ocl_types.specs.Functions.{IsProgram}
use Rattle.program_laws.specs.Formed.{IsFormed, IsSmall}
use Rattle.program_laws.specs.Laws.{Settles}
use Rattle.program_laws.proofs.Forming.{small_formed}
use Rattle.program_laws.proofs.Limits.{callees_small, kernels_small, sites_few}
use Rattle.program_laws.proofs.Settling.{measures_settle}
use Rattle.ocl_inline.specs.Expansion.{kernel_flat}
use Rattle.ocl_inline.specs.FlatLaws.{OfFlatKernels}
use Rattle.ocl_inline.specs.Trees.{FlatKernel}

-- A small function is formed, and calls small functions.
pub record IsSound (program : List FunctionNode) : Type 0 where
  pub variables : Settles own_variables program
  pub sites : Settles own_sites program
  pub nodes : Settles own_nodes program
  pub depth : Settles own_depth program
  pub control : Settles own_control program
  pub calls : Settles own_calls program
  pub callees : (k i : ℕ) (f : FunctionNode) (site : CallSite) → IsSmall program k → slice_get program k ≡ Some f → slice_get f.calls i ≡ Some site → IsSmall program site.callee
  pub formed : (k : ℕ) (f : FunctionNode) → IsSmall program k → slice_get program k ≡ Some f → IsFormed program f
  pub few_sites : (k : ℕ) → IsSmall program k → measured own_sites program k ≤ measured own_nodes program k

pub sound_of : (program : List FunctionNode) → IsProgram program → IsSound program
sound_of program is =
    let settle = measures_settle program is in
    record {
      variables = settle.variables;
      sites = settle.sites;
      nodes = settle.nodes;
      depth = settle.depth;
      control = settle.control;
      calls = settle.calls;
      callees = callees_small program is;
      formed = small_formed program is;
      few_sites = sites_few program is;
    }

-- a property of each small function of a sound program, expanded
abbrev pub OfSmallFunctions : (List FunctionNode → ℕ → FlatKernel → Type 0) → Type 0
OfSmallFunctions P = (program : List FunctionNode) → IsSound program → (number : ℕ) (kernel : FunctionNode) → IsSmall program number → slice_get program number ≡ Some kernel
    → P program number (kernel_flat program number kernel)

-- what small functions have, kernels have
pub of_kernels : (P : List FunctionNode → ℕ → FlatKernel → Type 0) → OfSmallFunctions P → OfFlatKernels P
of_kernels P law program is number kernel here marked = law program (sound_of program is) number kernel (kernels_small program is number kernel here marked) here
