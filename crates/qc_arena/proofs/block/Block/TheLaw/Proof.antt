-- A `&` to a block reaches its cells. Assumes `Logic`.
use denote.Struct.Field.{RawPtr-field}
use denote.Struct.Laws.{RawPtr-copy}
use denote.Param.Shared.{copy_shared}
use denote.Struct.Lending.{of_Lends}
use Rattle.qc_arena.specs.contracts.block.Block as B
use Rattle.qc_arena.specs.contracts.block.Cell.{the_row as R}
use Rattle.qc_arena.proofs.block.Cell.TheLaws.{the_row_laws}
use Rattle.qc_arena.proofs.block.Block.TheLaw.Statement.{statement}
use Rattle.qc_arena.proofs.Lent.{block_laws, lends_block}

pub shares : statement
shares = of_Lends B.struct B.the_codes B.the_heap B.the_lent (λ d p. block_laws R the_row_laws.shr_laws d.at d.cells) (copy_shared RawPtr-field RawPtr-copy, tt)
    (λ M 𝓤 𝓛 d p. lends_block 𝓛 B.the_row.lives R the_row_laws (λ a m. m) d.at d.cells d.spare)
