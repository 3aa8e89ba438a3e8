-- public: the summary of a trial.
use Rattle.std.specs.Prelude.{ℕ, List, ◌++◌, Option, None, Some, codes, decimal}
use Rattle.qc_num.specs.declared.bound.Bound.{Bound}
use Rattle.qc_num.specs.declared.bound.Bound.TheVariants.{Least, Never}
use Rattle.qc_search.specs.Words.{kind_word}
use Rattle.qc_trial.specs.declared.made.Made.{Made}
use Rattle.qc_trial.specs.declared.made.Verdict.{Verdict}
use Rattle.qc_trial.specs.declared.made.Verdict.TheVariants as verdict

-- the word for what a check says, as its report begins
abbrev pub verdict_word : Verdict → List ℕ
verdict_word verdict.Optimal = codes "Optimal"
verdict_word verdict.Weaker = codes "Weaker"
verdict_word verdict.Bound = codes "Bound"
verdict_word verdict.Infeasible = codes "Infeasible"
verdict_word verdict.Broken = codes "Broken"

abbrev pub end_word : Option ℕ → List ℕ
end_word None = codes "none"
end_word (Some end) = decimal end

abbrev pub bound_word : Bound → List ℕ
bound_word (Least tick) = end_word (Some tick)
bound_word Never = end_word None

-- what is printed of a made ship and its list: the numbers that they are made from, and how much work there is
abbrev pub size_text : Made → List ℕ
size_text told =
    codes "make " ++ decimal told.number ++ codes " " ++ decimal told.hatches ++ codes " " ++ decimal told.cranes
    ++ codes "\nrows " ++ decimal told.rows ++ codes "\ntasks " ++ decimal told.tasks
    ++ codes "\nwork " ++ decimal told.work ++ codes "\n"

-- what the search of its instance came to, and what the check says
abbrev pub found_text : Made → List ℕ
found_text told =
    codes "plan " ++ kind_word told.kind ++ codes "\nend " ++ end_word told.end
    ++ codes "\nbound " ++ bound_word told.bound ++ codes "\ncheck " ++ verdict_word told.verdict ++ codes "\n"

abbrev pub made_text : Made → List ℕ
made_text told = size_text told ++ found_text told
