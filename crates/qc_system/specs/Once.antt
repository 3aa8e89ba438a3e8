-- inner: what one call of a writer or a reader of the system does.
use Rattle.std.specs.Prelude.{ℕ, ◌<◌, List, length, Option, Result, IfOk}
use Rattle.std.specs.Io.{ReadsAtMost, WritesAtMost}
use Rattle.std.specs.Io.KnownBytes.{WriteAppends, ReadConsumes}
use Rattle.qc_io.specs.declared.sink.Failed.{Failed}

-- the writer took the front of the piece that the answer says, at least the first byte where there is one
pub record WritesOnce (held now : Option (List ℕ)) (piece : List ℕ) (result : Result ℕ Failed) : Type 0 where
  pub at_least : IfOk result (λ count. 0 < length piece → 0 < count)
  pub at_most : WritesAtMost result piece
  pub bytes : WriteAppends held now result piece

-- the reader gave the bytes that the answer says, and none only at the end
pub record ReadsOnce (left now : Option (List ℕ)) (buf : List ℕ) (result : Result ℕ Failed) : Type 0 where
  pub at_most : ReadsAtMost result buf
  pub bytes : ReadConsumes left now result buf
