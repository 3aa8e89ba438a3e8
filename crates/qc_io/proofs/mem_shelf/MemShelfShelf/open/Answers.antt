use Rattle.std.proofs.Common.{◌≡◌, ap, sym, ◌∙◌, subst, refl, Some, None, IsSome, inr, List, ℕ}
use Rattle.std.specs.Option.{option_copied}
use Rattle.std.specs.FinMap.{get}
use Rattle.qc_io.specs.Calls.{counted}
use Rattle.qc_io.specs.Memory.{Held, files_of}
use Rattle.qc_io.specs.contracts.mem_shelf.MemShelf.{the_view}
use Rattle.qc_io.proofs.Named.{held_named, missing_named}
use Rattle.qc_io.proofs.mem_shelf.MemShelfShelf.open.Goals as goal

abbrev opened : Held → List ℕ → Held
opened old name = record old { rest = get old.files name; calls = counted old.calls }

missing : (c : goal.In_default) → get c.args.self.now.files c.args.name.now ≡ None
missing c =
    missing_named c.self.inside.files c.args.self.now.files c.args.name.now (ap (λ (h : Held). h.files) c.self.view_is)
    (sym (ap option_copied c.in_default.is) ∙ c.get.ensures.value)

pub returns-in_default-clause-held : goal.returns-in_default-clause-held
returns-in_default-clause-held c = λ held. cc (subst (λ o. IsSome o) (missing c) held)

pub returns-in_default-clause-err_cause : goal.returns-in_default-clause-err_cause
returns-in_default-clause-err_cause c = inr (missing c)

pub returns-in-Ok-clause-ok : goal.returns-in-Ok-clause-ok
returns-in-Ok-clause-ok c =
    let rest : Some c.of.result ≡ get (files_of c.self.inside.files) c.args.name.now =
    ap Some (c.of.ensures ∙ c.in-Ok.ensures.items ∙ c.as_slice.ensures.value)
    ∙ sym (held_named c.self.inside.files _ c.args.name.now c.in-Some.bytes.now refl c.in-Some.ensures.value) in
    let inside : record {
      files = files_of c.self.inside.files;
      rest = Some c.of.result;
      making = c.self.inside.making;
      faults = c.self.inside.faults;
      read_faults = c.self.inside.read_faults;
      calls = c.next_fails.new.self;
      most = c.self.inside.most;
    } ≡ opened (the_view c.self.inside) c.args.name.now = λ i. record (the_view c.self.inside) { rest = rest i; calls = c.next_fails.ensures.counts i } in
    inside ∙ ap (λ old. opened old c.args.name.now) c.self.view_is

pub returns-in-Ok-clause-missing : goal.returns-in-Ok-clause-missing
returns-in-Ok-clause-missing c =
    let held = held_named c.self.inside.files c.args.self.now.files c.args.name.now c.in-Some.bytes.now (ap (λ (h : Held). h.files) c.self.view_is) c.in-Some.ensures.value in
    λ none. cc (held, none)

pub returns-in-Err-clause-not_counted : goal.returns-in-Err-clause-not_counted
returns-in-Err-clause-not_counted c =
    let held = held_named c.self.inside.files c.args.self.now.files c.args.name.now c.in-Some.bytes.now (ap (λ (h : Held). h.files) c.self.view_is) c.in-Some.ensures.value in
    λ called none. cc (held, none)
