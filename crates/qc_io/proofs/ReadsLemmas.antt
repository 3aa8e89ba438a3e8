-- Calls that only read from a shelf, one after the other.
use Rattle.std.proofs.Common.{◌≡◌, ℕ, Result, Ok, Err, subst, ◌∙◌, arith}
use Rattle.qc_io.specs.Outside.{View, Rose}
use Rattle.qc_io.specs.Reads.{Reads, ReadsOn}

-- what came through is no fault
pub never_failed : {A E : Type 0} (a : A) (fault : E) → ◌≡◌ {A = Result A E} (Ok a) (Err fault) → ⊥
never_failed a fault e = cc

-- the same call, where what it promises to hold under is asked for otherwise
pub reads_when : {P Q : Type 0} (before after : View) → Reads before after P → (Q → P) → Reads before after Q
reads_when before after r through = record {
  written = r.written;
  faults = r.faults;
  files = r.files;
  made = r.made;
  never_falls = r.never_falls;
  unfailed = λ q. r.unfailed (through q);
}

-- one call after another that came through
pub reads_then : {P Q : Type 0} (before mid after : View) → Reads before mid P → P → Reads mid after Q → Reads before after Q
reads_then before mid after first through second = record {
  written = second.written ∙ first.written;
  faults = second.faults ∙ first.faults;
  files = second.files ∙ first.files;
  made = second.made ∙ first.made;
  never_falls = omega (arith, first.never_falls, second.never_falls);
  unfailed = λ q. second.unfailed q ∙ first.unfailed through;
}

-- one read from the open file after another that came through
pub reads_on : {A B E : Type 0} (fault : E) (a : A) (before mid after : View) (result : Result B E)
    → ReadsOn {A = A} {E = E} before mid fault (Ok a) → ReadsOn mid after fault result → ReadsOn before after fault result
reads_on fault a before mid after result first second =
    let same = first.reads.unfailed (never_failed a fault) in
    record {
      reads = reads_then before mid after first.reads (never_failed a fault) second.reads;
      reading = second.reading;
      rose = λ e. subst (λ (n : ℕ). Rose n after.read_faults) same (second.rose e);
    }
