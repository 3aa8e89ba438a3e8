use Rattle.std.proofs.Common.{◌≡◌, true, List, ℕ, sym, subst}
use Rattle.qc_model.specs.Names.{is_name}
use Rattle.qc_rest_files.proofs.TextLemmas.{match_ok, name_utf8}
use Rattle.qc_rest_files.proofs.cranes.name_of.Goals as goal

pub unwrap-requires : goal.unwrap-requires
unwrap-requires c =
    match_ok c.from_utf8.result _ _ c.from_utf8.ensures.cases (λ e bad. bad.0
    (name_utf8 c.as_bytes.result.now (subst (λ (bs : List ℕ). is_name bs ≡ true) (sym c.as_bytes.ensures.bytes) c.as_bytes.ensures.name)))
