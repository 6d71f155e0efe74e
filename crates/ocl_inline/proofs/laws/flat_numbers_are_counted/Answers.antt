use Rattle.ocl_inline.specs.FlatLaws.{HaveSites, HaveVariables}
use Rattle.ocl_inline.proofs.SiteNumbers.{sites_differ}
use Rattle.ocl_inline.proofs.Sound.{of_kernels}
use Rattle.ocl_inline.proofs.VariableNumbers.{variables_are_below}
use Rattle.ocl_inline.proofs.laws.flat_numbers_are_counted.Goals as goal

pub returns : goal.returns
returns c = record { sites = of_kernels HaveSites sites_differ; variables = of_kernels HaveVariables variables_are_below }
