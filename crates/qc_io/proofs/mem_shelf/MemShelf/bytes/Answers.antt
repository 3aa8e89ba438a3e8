use Rattle.std.proofs.Common.{ap, sym, ◌∙◌, Some, rules}
use Rattle.qc_io.specs.Memory.{Held}
use Rattle.qc_io.proofs.Named.{held_named, missing_named}
use Rattle.qc_io.proofs.mem_shelf.MemShelf.bytes.Goals as goal

pub returns-in_err-get : goal.returns-in_err-get
returns-in_err-get c =
    let missing = missing_named c.self.inside.files c.args.self.now.files c.args.name.now (ap (λ (h : Held). h.files) c.self.view_is) c.in_err-get.ensures.value in
    search rules

pub returns : goal.returns
returns c =
    ap Some c.as_slice.ensures.value
    ∙ sym (held_named c.self.inside.files c.args.self.now.files c.args.name.now c.in_ok-get.field-0.now (ap (λ (h : Held). h.files) c.self.view_is) c.in_ok-get.ensures.value)
