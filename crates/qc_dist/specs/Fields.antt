-- inner: the fields of decisions, as clauses see them and as they are kept.
use Rattle.std.specs.Prelude.{reverse, vec_capacity}
use Rattle.qc_dist.specs.declared.decisions.Decisions.TheInside.{Inside}
use Rattle.qc_dist.specs.Kept.{AreKept, Beside}
use Rattle.qc_dist.specs.Node.{Node}

abbrev pub node_of : Inside → Node
node_of f = record { inst = f.inst; decisions = reverse f.made.items }

abbrev pub beside : Inside → Beside
beside f = record {
  room = vec_capacity f.made;
  cranes = f.cranes.items;
  before = f.before.items;
  ordered = f.ordered.items;
  heads = f.heads.items;
}

abbrev pub IsKept : Inside → Type 0
IsKept f = AreKept f.inst (reverse f.made.items) (beside f)
