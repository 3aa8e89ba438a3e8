-- Lines, taken from a file one after the other.
use Rattle.std.proofs.Common.{◌≡◌, ℕ, ◌+◌, true, false, List, [], ◌∷◌, ◌++◌, length, Option, None, Some, IfSome, Result, Ok, Err, refl, sym, ap, ◌∙◌, append_assoc, IsSomeAnd}
use Rattle.std.proofs.lemmas.Bool.{lt-ltb, true≢false}
use Rattle.std.proofs.lemmas.List.{append-nil}
use Rattle.std.proofs.lemmas.Grind.{flat_map-append}
use Rattle.qc_num.specs.Reading.{◌>>=◌}
use Rattle.qc_model.specs.Instance.{InstanceView}
use Rattle.qc_tree.specs.declared.line.Line.{Line}
use Rattle.qc_tree.specs.LineIn.{Listed}
use Rattle.qc_tree.specs.Lines.{line_text, most_bytes}
use Rattle.qc_tree.specs.Trees.{whole_line}
use Rattle.qc_tree.proofs.LineInLemmas.{line_in_of, split_line}
use Rattle.qc_tree.specs.declared.fault.TreeFault.{TreeFault}
use Rattle.qc_tree.specs.declared.fault.TreeKind.{TreeKind}
use Rattle.qc_replay.specs.File.{Fails, IsFaulty, IsNext, Leads, texts}
use Rattle.qc_replay.specs.Read.{lines_text, with_line, with_lines}
use Rattle.qc_replay.specs.Stages.{is_over, none_due}
use Rattle.qc_replay.specs.Walk.{Coming, Reading, numbered, texts_from}
use Rattle.qc_replay.proofs.FileFacts.{parts}

-- ---- one line

module _ (inst : InstanceView) (n : ℕ) (r : Reading) (before : Option (List ℕ)) where
  -- no line is there, where one must come
  pub faulty_here : is_over r ≡ false → (fault : TreeFault) → (fault.line ≡ n) × IsFaulty before fault.kind
      → Fails inst n r before fault
  faulty_here due fault h = at_bytes before h.1
    where
      must : (coming : List Coming) → r.coming ≡ coming → none_due coming ≡ false
          → (c : Coming) × (more : List Coming) × (r.coming ≡ c ∷ more)
      must [] e none = absurd (true≢false none)
      must (c ∷ more) e none = (c, more, e)

      at_bytes : (left : Option (List ℕ)) → IsFaulty left fault.kind → Fails inst n r left fault
      at_bytes None faulty = tt
      at_bytes (Some bytes) faulty =
          let due_now = must r.coming refl due in
          faulty inst n r due_now.0 due_now.1 due_now.2
          ∙ ap (λ line. Err (record { line = line; kind = fault.kind })) (sym h.0)

  module _ (line : Line) (list : List ℕ) (after : Option (List ℕ)) (next : IsNext before line list after) where
    abbrev seen : Listed
    seen = record { line = line; list = list }

    -- the line, judged
    text_is : (rest : List ℕ) → texts_from inst n r (texts (whole_line line list ++ rest))
        ≡ (numbered n (with_line inst r seen) >>= λ now. texts_from inst (n + 1) now (texts rest))
    text_is rest =
        let p = parts rest in
        ap (texts_from inst n r) (split_line line list rest next.spelled.in_range ∙ ap (λ all. line_text line list ∷ all) p.are)
        ∙ rw (lt-ltb (length (line_text line list)) most_bytes next.short, line_in_of (line_text line list) line list next.spelled, p.are) refl

    pub refused_here : (fault : TreeFault) → fault.line ≡ n → with_line inst r seen ≡ Err fault.kind
        → Fails inst n r before fault
    refused_here fault number refuses = at_bytes before after next.taken
      where
        at_bytes : (b a : Option (List ℕ)) → IfSome b (λ x. IsSomeAnd a (λ y. x ≡ whole_line line list ++ y)) → Fails inst n r b fault
        at_bytes None a h = tt
        at_bytes (Some x) None h = absurd h
        at_bytes (Some x) (Some y) h =
            ap (λ bytes. texts_from inst n r (texts bytes)) h ∙ text_is y
            ∙ ap (λ now. numbered n now >>= λ now. texts_from inst (n + 1) now (texts y)) refuses
            ∙ ap (λ line. Err (record { line = line; kind = fault.kind })) (sym number)

    pub led_here : (now : Reading) → with_line inst r seen ≡ Ok now → Leads inst n r before (n + 1) now after
    led_here now goes = record {
      lines = seen ∷ [];
      reading = ap (λ result. result >>= λ now. Ok now) goes;
      taken = at_bytes before after next.taken;
    }
      where
        at_bytes : (b a : Option (List ℕ)) → IfSome b (λ x. IsSomeAnd a (λ y. x ≡ whole_line line list ++ y))
            → IfSome b (λ x. IsSomeAnd a (λ y. (x ≡ lines_text (seen ∷ []) ++ y)
            × (texts_from inst n r (texts x) ≡ texts_from inst (n + 1) now (texts y))))
        at_bytes None a h = tt
        at_bytes (Some x) None h = absurd h
        at_bytes (Some x) (Some y) h = (
          h ∙ ap (λ t. t ++ y) (sym (append-nil (whole_line line list))),
          ap (λ bytes. texts_from inst n r (texts bytes)) h ∙ text_is y
              ∙ ap (λ now. numbered n now >>= λ now. texts_from inst (n + 1) now (texts y)) goes,
        )

-- no line must come any more
pub over_now : (r : Reading) → is_over r ≡ true → r.coming ≡ []
over_now r over = by_coming r.coming over
  where
    by_coming : (coming : List Coming) → none_due coming ≡ true → coming ≡ []
    by_coming [] e = refl
    by_coming (c ∷ more) e = absurd (cc e)

-- ---- some lines, one after the other

goes_on : (inst : InstanceView) (mid : Reading) (front back : List Listed) (first : Result Reading TreeKind)
    → ((now : Reading) → with_lines inst now front ≡ Ok mid → with_lines inst now (front ++ back) ≡ with_lines inst mid back)
    → (first >>= λ now. with_lines inst now front) ≡ Ok mid
    → (first >>= λ now. with_lines inst now (front ++ back)) ≡ with_lines inst mid back
goes_on inst mid front back (Ok now) more leads = more now leads
goes_on inst mid front back (Err why) more leads = absurd (cc leads)

lines_after : (inst : InstanceView) (mid : Reading) (front back : List Listed) (r : Reading) → with_lines inst r front ≡ Ok mid
    → with_lines inst r (front ++ back) ≡ with_lines inst mid back
lines_after inst mid [] back r leads = ap (λ (result : Result Reading TreeKind). result >>= λ now. with_lines inst now back) leads
lines_after inst mid (seen ∷ front) back r leads =
    goes_on inst mid front back (with_line inst r seen) (lines_after inst mid front back) leads

module _ (inst : InstanceView) (n m : ℕ) (r mid : Reading) (left rest : Option (List ℕ)) (first : Leads inst n r left m mid rest) where
  -- what is left has a fault
  pub fails_after : (fault : TreeFault) → Fails inst m mid rest fault → Fails inst n r left fault
  fails_after fault = at_bytes left rest first.taken
    where
      at_bytes : (b a : Option (List ℕ)) → IfSome b (λ x. IsSomeAnd a (λ y. (x ≡ lines_text first.lines ++ y)
          × (texts_from inst n r (texts x) ≡ texts_from inst m mid (texts y)))) → Fails inst m mid a fault → Fails inst n r b fault
      at_bytes None a h fails = tt
      at_bytes (Some x) None h fails = absurd h
      at_bytes (Some x) (Some y) h fails = h.1 ∙ fails

  -- more lines lead on
  pub leads_after : (k : ℕ) (now : Reading) (behind : Option (List ℕ)) → Leads inst m mid rest k now behind
      → Leads inst n r left k now behind
  leads_after k now behind second = record {
    lines = first.lines ++ second.lines;
    reading = lines_after inst mid first.lines second.lines r first.reading ∙ second.reading;
    taken = at_bytes left rest behind first.taken second.taken;
  }
    where
      at_bytes : (b a t : Option (List ℕ))
          → IfSome b (λ x. IsSomeAnd a (λ y. (x ≡ lines_text first.lines ++ y)
          × (texts_from inst n r (texts x) ≡ texts_from inst m mid (texts y))))
          → IfSome a (λ y. IsSomeAnd t (λ z. (y ≡ lines_text second.lines ++ z)
          × (texts_from inst m mid (texts y) ≡ texts_from inst k now (texts z))))
          → IfSome b (λ x. IsSomeAnd t (λ z. (x ≡ lines_text (first.lines ++ second.lines) ++ z)
          × (texts_from inst n r (texts x) ≡ texts_from inst k now (texts z))))
      at_bytes None a t f g = tt
      at_bytes (Some x) None t f g = absurd f
      at_bytes (Some x) (Some y) None f g = absurd g
      at_bytes (Some x) (Some y) (Some z) f g = (
        f.0 ∙ ap (λ t. lines_text first.lines ++ t) g.0
            ∙ sym (append_assoc (lines_text first.lines) (lines_text second.lines) z)
            ∙ ap (λ t. t ++ z) (sym (flat_map-append (λ (s : Listed). whole_line s.line s.list) first.lines second.lines)),
        f.1 ∙ g.1,
      )
