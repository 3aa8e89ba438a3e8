-- public: the word for how a search came out.
use Rattle.std.specs.Prelude.{ℕ, List, codes}
use Rattle.qc_search.specs.declared.done.Kind.{Kind}
use Rattle.qc_search.specs.declared.done.Kind.TheVariants as kind

-- the word for how a search came out, as a plan's report begins
abbrev pub kind_word : Kind → List ℕ
kind_word kind.Optimal = codes "Optimal"
kind_word kind.Infeasible = codes "Infeasible"
kind_word kind.Budget = codes "Budget"
