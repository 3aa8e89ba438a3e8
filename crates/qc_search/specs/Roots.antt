-- inner: the roots of the parts of a tree, as clauses see them and as they are kept.
use Rattle.std.specs.Prelude.{◌≡◌, [], Option, None, Some}
use Rattle.qc_dist.specs.Node.{Node}
use Rattle.qc_close.specs.Model.{OneWay, Free, InstanceView, mirror}
use Rattle.qc_search.specs.declared.roots.Roots.TheInside.{Inside}

-- where cranes go one way there is a root of the mirror too
abbrev pub IsTurned : InstanceView → Option Node → Type 0
IsTurned inst None = inst.turn ≡ Free
IsTurned inst (Some down) = (inst.turn ≡ OneWay) × (down.inst ≡ mirror inst) × (down.decisions ≡ [])

abbrev pub roots_of : Inside → InstanceView
roots_of f = f.up.inst

-- nothing is decided at the roots
pub record AreRoots (f : Inside) : Type 0 where
  pub up : f.up.decisions ≡ []
  pub down : IsTurned f.up.inst f.down
