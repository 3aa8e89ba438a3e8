use Rattle.qc_laws.proofs.NodeLemmas.{closed_node_le, packed_end_le}
use Rattle.qc_laws.proofs.nodes_end_no_earlier.Goals as goal

pub returns : goal.returns
returns c = record { packed = packed_end_le; closed = closed_node_le }
