use Rattle.std.proofs.Common.{◌≡◌, ◌≤◌, ◌++◌, List, vec_len, vec_capacity}
use Rattle.qc_arena.specs.Trails.{written_back}
use Rattle.qc_arena.specs.declared.trail.Note.{Note}
use Rattle.qc_arena.proofs.trail.Trail.back.Given as goal

-- the notes that were written back are those past the ones that are left
abbrev pub invariant-loop-self : goal.invariant-loop-self
invariant-loop-self l = (done : List Note)
    × (l.fn.self.notes ≡ l.self-inside.notes.items ++ done)
    × (l.cells ≡ written_back done l.fn.cells)
    × (l.mark ≤ vec_len l.self-inside.notes)
    × (l.self-inside.cap ≡ l.fn.self.cap)
    × (l.self-inside.cap ≤ vec_capacity l.self-inside.notes)

abbrev pub decreases-loop-self : goal.decreases-loop-self
decreases-loop-self l = vec_len l.self-inside.notes
