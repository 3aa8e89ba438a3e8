-- public: bay plans: which containers stand where.
use Rattle.std.specs.Prelude.{◌≡◌, ◌≢◌, ℕ, ◌≤◌, List, length, All, AllPairs, false, IsTrue}
use Rattle.qc_ship.specs.Cells.{IsCell, overlap}
use Rattle.qc_stow.specs.Fields.{is_id}
use Rattle.qc_bayplan.specs.declared.plan.Container.{Container}

-- the most containers of a plan
abbrev pub most_containers : ℕ
most_containers = 25000

-- a container has the id of a stowage list, and stands in a cell
pub record IsContainer (container : Container) : Type 0 where
  pub id : IsTrue (is_id container.id)
  pub cell : IsCell container.cell

-- what the containers of a plan keep: no two have one id, and no two cells overlap
pub record AreContainers (containers : List Container) : Type 0 where
  pub count : length containers ≤ most_containers
  pub each : All IsContainer containers
  pub ids : AllPairs (λ a b. a.id ≢ b.id) containers
  pub apart : AllPairs (λ a b. overlap b.cell a.cell ≡ false) containers

-- a plan: its containers in the order of the file, how many of them had no id of their own, how
-- many further ones were bundled with one, and how many places hold something else
pub record PlanView : Type 0 where
  pub containers : List Container
  pub unnamed : ℕ
  pub bundled : ℕ
  pub other : ℕ
