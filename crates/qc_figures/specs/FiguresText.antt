-- public: the figures of all cranes as a comma-separated table.
use Rattle.std.specs.Prelude.{ℕ, List, ◌++◌, codes, decimal, length}
use Rattle.std.specs.List.{flat_map, range_with_len}
use Rattle.qc_model.specs.Instance.{crane}
use Rattle.qc_figures.specs.declared.crane.Figures.{Figures}
use Rattle.qc_figures.specs.Figures.{PlanView, figures}

-- the row of a crane: its name and its figures
abbrev pub row_text : List ℕ → Figures → List ℕ
row_text name f =
    name ++ codes "," ++ decimal f.tasks ++ codes "," ++ decimal f.moves ++ codes "," ++ decimal f.not_ready
    ++ codes "," ++ decimal f.work ++ codes "," ++ decimal f.moving ++ codes "," ++ decimal f.waiting
    ++ codes "," ++ decimal f.idle ++ codes "," ++ decimal f.end ++ codes "," ++ decimal f.share ++ codes "\n"

abbrev pub row_of : PlanView → ℕ → List ℕ
row_of p k = row_text (crane p.inst k).name (figures p k)

-- the header, and a row for each crane
abbrev pub figures_text : PlanView → List ℕ
figures_text p =
    codes "crane,tasks,moves,not_ready,work,moving,waiting,idle,end,share\n"
    ++ flat_map (row_of p) (range_with_len 0 (length p.inst.cranes))
