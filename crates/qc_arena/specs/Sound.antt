-- inner: what holds of the fields of an arena.
use Rattle.std.specs.Prelude.{◌≡◌, ◌+◌, ◌<◌, ◌^◌, length, vec_len}
use Rattle.qc_arena.specs.declared.arcs.ArcArena.TheInside.{Inside}
use Rattle.qc_arena.specs.Chains.{IsThreaded}
use Rattle.qc_arena.specs.declared.block.Side.TheVariants.{Out, In}

pub record IsSound (a : Inside) : Type 0 where
  pub out : IsThreaded a.block.at Out a.block.cells a.newest_out.items
  pub into : IsThreaded a.block.at In a.block.cells a.newest_in.items
  pub nodes : vec_len a.newest_in ≡ vec_len a.newest_out
  pub count : a.len ≡ length a.block.cells
  pub room : a.len + a.block.spare ≡ a.cap
  pub few : a.cap < 2 ^ 32
  pub at : a.lease.at ≡ a.block.at
  pub size : a.lease.cap ≡ a.cap
  pub from : a.lease.alloc ≡ a.alloc
