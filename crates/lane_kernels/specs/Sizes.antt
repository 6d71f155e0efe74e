-- How large the code of a kernel is, by its measures.
use Rattle.std.specs.Prelude.{ℕ, ◌+◌, ◌*◌, List}
use Rattle.ocl_program.specs.Nodes.{FunctionNode}
use Rattle.structured.specs.Ready.{Measures, measures_of}

-- registers, and words of machine code, of a kernel with these measures
abbrev pub registers_by : Measures → ℕ
registers_by m = m.variables + 2 * m.depth + 4 * m.control + 2 * m.calls + 16

abbrev pub words_by : Measures → ℕ
words_by m = 40 * m.nodes + 256

-- the same of function `number` of a program
abbrev pub most_registers : List FunctionNode → ℕ → ℕ
most_registers program number = registers_by (measures_of program number)

abbrev pub most_words : List FunctionNode → ℕ → ℕ
most_words program number = words_by (measures_of program number)
