-- A ship with its moves and their instance, where a file of it is missing.
use Rattle.std.proofs.Common.{Ok, refl, inl}
use Rattle.qc_num.specs.Reading.{◌>>=◌}
use Rattle.qc_run.specs.Due.{moves_due, order_due, ship_due}
use Rattle.qc_run.proofs.StepLemmas.{Steady, moves_steady, ship_steady, then_steady}
use Rattle.qc_sheet_command.specs.Due.{cargo_due}

pub cargo_steady : Steady cargo_due
cargo_steady =
    then_steady ship_due (λ ship contents. moves_due ship contents >>= λ rows. order_due ship rows >>= λ inst. Ok (record { ship = ship; moves = rows; inst = inst })) ship_steady
    (λ ship. then_steady (moves_due ship) (λ rows contents. order_due ship rows >>= λ inst. Ok (record { ship = ship; moves = rows; inst = inst })) (moves_steady ship)
    (λ rows file contents. inl refl))
