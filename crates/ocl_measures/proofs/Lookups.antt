-- The callee of a call in a table of calls.
use Rattle.std.proofs.Common.{◌≡◌, ℕ, List, map, slice_get, None, Some, option_map, ap, ◌∙◌}
use Rattle.std.proofs.lemmas.Option.{slice_get-map}
use Rattle.ocl_program.specs.declared.functions.CallSite.{CallSite}

pub callee_found : (calls : List CallSite) (k : ℕ) (site : CallSite) → slice_get calls k ≡ Some site → slice_get (map (λ (c : CallSite). c.callee) calls) k ≡ Some site.callee
callee_found calls k site found = slice_get-map (λ (c : CallSite). c.callee) calls k ∙ ap (option_map (λ (c : CallSite). c.callee)) found

pub callee_missing : (calls : List CallSite) (k : ℕ) → slice_get calls k ≡ None → slice_get (map (λ (c : CallSite). c.callee) calls) k ≡ None
callee_missing calls k found = slice_get-map (λ (c : CallSite). c.callee) calls k ∙ ap (option_map (λ (c : CallSite). c.callee)) found
