use Rattle.vx_isa.proofs.RowLaws as law
use Rattle.vx_isa.proofs.laws.words_tell_rows.Goals as goal

pub returns-clause-found : goal.returns-clause-found
returns-clause-found c = law.row_is_spelled

pub returns-clause-spelled : goal.returns-clause-spelled
returns-clause-spelled c = law.spelled_is_row

pub returns-clause-none : goal.returns-clause-none
returns-clause-none c = law.no_row_spells

pub returns-clause-one : goal.returns-clause-one
returns-clause-one c = law.spells_one

pub returns-clause-word : goal.returns-clause-word
returns-clause-word c = law.spelled_is_word
