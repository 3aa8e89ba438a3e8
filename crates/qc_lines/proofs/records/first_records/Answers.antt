-- The loop has read these records so far, and no more than the limit.
use Rattle.std.proofs.Common.{Bor, List, ℕ, ◌≡◌, ◌≤◌, ◌∙◌, sym, refl, rules, arith, inl, inr, true, map, length, Some, ◌∷◌, []}
use Rattle.std.specs.Result.{is_ok}
use Rattle.std.proofs.lemmas.List.{length-map, map-append, take_all}
use Rattle.csv.specs.Reading.{Reached, error_kind, default_config, strip_bom}
use Rattle.csv.specs.Records.{fields_of}
use Rattle.csv.specs.declared.parser.State.TheVariants as st
use Rattle.csv.proofs.ReadFacts.{rows-end, rows-more}
use Rattle.qc_lines.proofs.WholeReads.{all-of, explained, first-of}
use Rattle.qc_lines.proofs.records.first_records.Goals as goal
use Rattle.qc_lines.proofs.records.first_records.Goals.{else-loop-items-test, then-loop-items-test+in-None}

pub loop-items-init : goal.loop-items-init
unfolding Reached
loop-items-init c =
    let fr = c.from_reader-reader.ensures in
    let headers = c.has_headers.ensures in
    let flexible = c.flexible.ensures in
    let rdr = c.into_byte_records-items.ensures.rdr in
    let left = c.into_byte_records-items.ensures.left in
    rw (rdr, c.new-records.ensures.items) (
      rw (flexible, headers) at fr.trim ∙ c.new.ensures.trim,
      inr (inr (rw (flexible, headers) at fr.has_headers, fr.headers)),
      left,
      rw (flexible, headers) at fr.config ∙ c.new.ensures.config,
      strip_bom c.args.text.now,
      fr.source,
      (sym fr.state, refl),
      omega (arith, c.new-records.ensures.len),
      rw flexible at fr.flexible,
    )

pub stopped-requires : goal.stopped-requires
stopped-requires c =
    let inv = c.loop-items.invariant in
    let why = rw (c.in-Some-Err.is, c.in-Some-Err.field-0-is) at ((c.next.ensures.steps inv.2 inv.0).0 inv.1) in
    explained (λ (s : Bor (List ℕ)). Some s.now) c.loop-items.items.rdr c.next.new.self.rdr (error_kind c.in-Some-Err.error) inv.8 why

pub loop-items-preserved : goal.loop-items-preserved
loop-items-preserved c =
    let inv = c.loop-items.invariant in
    let s = rw (c.in-Some-Ok.is, c.in-Some-Ok.field-0-is) at ((c.next.ensures.steps inv.2 inv.0).0 inv.1) in
    let flexible = rw (c.in-Some-Ok.is, c.in-Some-Ok.field-0-is) at (c.next.ensures.steps inv.2 inv.0).3 in
    let good : is_ok c.push.result ≡ true = search rules in
    let items = rw good at c.push.ensures.items in
    let len = rw good at c.push.ensures.len in
    let m = rows-more (λ (s : Bor (List ℕ)). Some s.now) c.loop-items.items.rdr c.next.new.self.rdr (fields_of c.in-Some-Ok.record) default_config st.StartRecord (strip_bom c.args.text.now) inv.4 (map fields_of c.loop-items.records.items) inv.3 inv.5 inv.6 s.0 in
    (s.0.3 ∙ inv.0, inl s.1, s.2, s.0.2 ∙ inv.3, m.0, m.1, rw (items, map-append fields_of c.loop-items.records.items (c.in-Some-Ok.record ∷ [])) m.2, omega arith, flexible ∙ inv.8)

pub returns : goal.returns
returns c =
    let inv = c.loop-items.invariant in
    elim c.loop-items-test.branch [
      | else-loop-items-test w ↦
          let size : length (map fields_of c.loop-items.records.items) ≡ c.args.limit =
          length-map c.loop-items.records.items fields_of ∙ omega (arith, c.loop-items.records.ok.0, c.len.ensures, w.loop-items-test) in
          first-of c.loop-items.items.rdr.state (strip_bom c.args.text.now) inv.4 (map fields_of c.loop-items.records.items) c.args.limit inv.6 size
      | then-loop-items-test+in-None w ↦
          let s = rw w.in-None.is at ((w.next.ensures.steps inv.2 inv.0).0 inv.1) in
          let ended = rows-end (λ (s : Bor (List ℕ)). Some s.now) c.loop-items.items.rdr w.next.new.self.rdr [] default_config inv.4 inv.3 inv.5 s in
          let all = all-of c.loop-items.items.rdr.state (strip_bom c.args.text.now) inv.4 (map fields_of c.loop-items.records.items) inv.6 ended in
          let size : length (map fields_of c.loop-items.records.items) ≤ c.args.limit = rw length-map (omega (arith, c.loop-items.records.ok.0)) in
          rw (← all) (sym (take_all c.args.limit (map fields_of c.loop-items.records.items) size))
    ]
