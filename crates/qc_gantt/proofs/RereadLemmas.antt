-- What was written is read as the schedule that it was.
use Rattle.std.proofs.Common.{◌≡◌, ◌≢◌, ℕ, ◌+◌, ◌<◌, ◌≤◌, ◌^◌, ◌++◌, ◌∷◌, ◌==◌, List, [], zero, suc, Bool, true, false, cond, length, get_or, take, drop, map, All, ◌&&◌, nat_le, None, Some, Result, Ok, Err, refl, sym, ap, subst, inl, inr, ◌∙◌, arith, IsTrue, OnOk, codes, decimal, nat_lt}
use Rattle.std.specs.Char.{is_ascii_digit}
use Rattle.std.specs.List.{flat_map, list_all, list_any, position_or_len, zip}
use Rattle.std.proofs.lemmas.List.Sums.{position_or_len_is}
use Rattle.std.proofs.lemmas.Slice.Eq.{bytes_eq-Decides}
use Rattle.std.specs.Str.{bytes_eq}
use Rattle.std.proofs.lemmas.Bool.{and_parts, cases_Bool}
use Rattle.std.proofs.lemmas.Bool.Decides.{nat_tests}
use Rattle.std.proofs.lemmas.Fmt.{decimal_injective}
use Rattle.std.proofs.Math.Seq.{take-append_seam}
use Rattle.std.proofs.lemmas.List.{append-nil, append_assoc, get_or-map, length-map, drop_at, length-append}
use Rattle.csv.specs.Writing.{default_writer, needs_byte, row_text}
use Rattle.qc_io.specs.declared.writing.WriteFault.{WriteFault}
use Rattle.qc_num.proofs.DigitLemmas.{decimal_digits, number_in-decimal}
use Rattle.qc_model.specs.declared.task.Task.{Task}
use Rattle.qc_model.specs.declared.task.Phase.{Phase}
use Rattle.qc_model.specs.declared.task.Phase.TheVariants.{DeckOut, HoldOut, HoldIn, DeckIn}
use Rattle.qc_model.specs.declared.schedule.Slot.{Slot}
use Rattle.qc_model.specs.declared.crane.Crane.{Crane}
use Rattle.qc_model.specs.Instance.{InstanceView, Valid, crane, no_crane, no_task, task, ticks_of}
use Rattle.qc_model.specs.Judge.{IsJudgeable}
use Rattle.qc_lines.specs.Records.{records_of}
use Rattle.qc_lines.proofs.WholeReads.{all-of}
use Rattle.csv.specs.Machine.{next_record}
use Rattle.csv.specs.Reading.{Reached, default_config, strip_bom}
use Rattle.csv.specs.declared.parser.State.TheVariants as st
use Rattle.csv.proofs.RoundTrip.{read-write-many}
use Rattle.std.proofs.lemmas.List.Elements.{All-cons, All-head, All-nil, All-tail}
use Rattle.qc_num.specs.Reading.{each}
use Rattle.qc_model.specs.Rules.{crane_of, no_slot}
use Rattle.qc_gantt.specs.Entries.{entry_in, slot_given}
use Rattle.qc_gantt.specs.Plan.{HasShortEnds, all_given, next_entry, plan_in, plan_of, slots_given}
use Rattle.qc_gantt.proofs.EntryLemmas.{given_push}
use Rattle.qc_gantt.proofs.PlanLemmas.{given_by}
use Rattle.std.proofs.lemmas.Slice.Zip.{get_or-zip, length-zip}
use Rattle.std.proofs.lemmas.List.FromFn.{get_or-map-range_with_len, length-map-range_with_len}
use Rattle.qc_gantt.specs.declared.entry.Entry.{Entry}
use Rattle.qc_model.specs.Names.{is_name, is_name_byte}
use Rattle.qc_model.specs.Tasks.{phase_rank, phase_text, task_rank, task_text}
use Rattle.qc_gantt.specs.Names.{crane_names, number_of, task_names}
use Rattle.qc_gantt.specs.PlanText.{plan_line, plan_text}
use Rattle.qc_lines.proofs.PlainRows.{four_fields, none_special}

digit_plain : (b : ℕ) → is_ascii_digit b ≡ true → needs_byte default_writer b ≡ false
digit_plain b d = grind (arith, nat_tests, d)

name_plain : (b : ℕ) → is_name_byte b ≡ true → needs_byte default_writer b ≡ false
name_plain b d = grind (arith, nat_tests, d)

any_append : (p : ℕ → Bool) (xs ys : List ℕ) → list_any p xs ≡ false → list_any p ys ≡ false → list_any p (xs ++ ys) ≡ false
any_append p [] ys x y = y
any_append p (a ∷ xs) ys x y = elim (cases_Bool (p a)) [
  | inl yes_ ↦ cc (rw yes_ at x)
  | inr no_ ↦ rw no_ (any_append p xs ys (rw no_ at x) y)
]

phase_plain : (phase : Phase) → list_any (needs_byte default_writer) (45 ∷ phase_text phase) ≡ false
phase_plain DeckOut = refl
phase_plain HoldOut = refl
phase_plain HoldIn = refl
phase_plain DeckIn = refl

task_plain : (t : Task) → t.hatch < 2 ^ 16 → list_any (needs_byte default_writer) (task_text t) ≡ false
task_plain t small =
    any_append (needs_byte default_writer) (decimal t.hatch) (45 ∷ phase_text t.phase)
    (none_special is_ascii_digit digit_plain (decimal t.hatch) (decimal_digits t.hatch (omega arith))) (phase_plain t.phase)

abbrev pub line_fields : InstanceView → Task → Slot → List (List ℕ)
line_fields inst t s = task_text t ∷ (crane inst s.crane).name ∷ decimal s.start ∷ decimal (s.start + t.ticks) ∷ []

-- two tasks with one name are of one hatch and one phase; a phase is told by two bytes
rank_in : List ℕ → ℕ
rank_in t = cond (get_or t 0 0 == 68) (cond (get_or t 1 0 == 68) 0 1) (cond (get_or t 1 0 == 72) 2 3)

rank_back : (p : Phase) → rank_in (phase_text p) ≡ phase_rank p
unfolding rank_in
rank_back DeckOut = refl
rank_back HoldOut = refl
rank_back HoldIn = refl
rank_back DeckIn = refl

same_phase : (p q : Phase) → phase_text p ≡ phase_text q → phase_rank p ≡ phase_rank q
same_phase p q e = sym (rank_back p) ∙ ap rank_in e ∙ rank_back q

phase_length : (p : Phase) → length (phase_text p) ≡ 2
phase_length DeckOut = refl
phase_length HoldOut = refl
phase_length HoldIn = refl
phase_length DeckIn = refl

same_parts : (xs ys ps qs : List ℕ) → length ps ≡ length qs → xs ++ ps ≡ ys ++ qs → (xs ≡ ys) × (ps ≡ qs)
same_parts xs ys ps qs long same =
    let size : length xs ≡ length ys = omega (arith, ap length same, length-append xs ps, length-append ys qs, long) in (
      sym (take-append_seam xs ps) ∙ ap (take (length xs)) same ∙ ap (λ n. take n (ys ++ qs)) size ∙ take-append_seam ys qs,
      sym (drop_at xs ps (length xs) refl) ∙ ap (drop (length xs)) same ∙ drop_at ys qs (length xs) (sym size),
    )

pub one_name : (t u : Task) → t.hatch < 2 ^ 16 → u.hatch < 2 ^ 16 → task_text t ≡ task_text u → task_rank t ≡ task_rank u
one_name t u small less same =
    let parts = same_parts (decimal t.hatch) (decimal u.hatch) (45 ∷ phase_text t.phase) (45 ∷ phase_text u.phase) (omega (arith, phase_length t.phase, phase_length u.phase)) same in
    let hatch = decimal_injective t.hatch u.hatch (omega arith) (omega arith) parts.0 in
    let phase = same_phase t.phase u.phase (ap (drop 1) parts.1) in
    omega (arith, hatch, phase)

-- the number of a name that stands at one place alone
pub number_at : (names : List (List ℕ)) (j : ℕ) → j < length names → ((k : ℕ) → k < j → get_or names k [] ≢ get_or names j []) → number_of names (get_or names j []) ≡ Some j
number_at names j lt differ =
    let first : position_or_len (bytes_eq (get_or names j [])) names ≡ j = position_or_len_is (bytes_eq (get_or names j [])) names j [] (omega arith)
    (λ k before. apart (get_or names j []) (get_or names k []) (λ same. differ k before (sym same)))
    (λ inside. alike (get_or names j [])) in
    let inside : nat_lt j (length names) ≡ true = grind (arith, nat_tests, lt) in
    rw (first, inside) refl
  where
    apart : (a b : List ℕ) → ¬ (a ≡ b) → bytes_eq a b ≡ false
    apart a b other = elim (cases_Bool (bytes_eq a b)) [
      | inl same ↦ absurd (other ((bytes_eq-Decides a b).0 same))
      | inr no_ ↦ no_
    ]

    alike : (a : List ℕ) → bytes_eq a a ≡ true
    alike a = elim (cases_Bool (bytes_eq a a)) [
      | inl same ↦ same
      | inr no_ ↦ (bytes_eq-Decides a a).1 refl
    ]

-- ---- the records of a text that was written
-- what is known of a task and of the crane that does it: the hatch has 16 bits, and the crane's name is one
pub record IsNamed (inst : InstanceView) (t : Task) (s : Slot) : Type 0 where
  pub hatch : t.hatch < 2 ^ 16
  pub name : is_name (crane inst s.crane).name ≡ true
  pub start : s.start < 10 ^ 12
  pub end : s.start + t.ticks < 10 ^ 12

name_bytes : (name : List ℕ) → is_name name ≡ true → list_all is_name_byte name ≡ true
name_bytes name e = (and_parts (nat_le 1 (length name) && nat_le (length name) 12) (list_all is_name_byte name) e).1

number_plain : (k : ℕ) → k < 10 ^ 12 → list_any (needs_byte default_writer) (decimal k) ≡ false
number_plain k small = none_special is_ascii_digit digit_plain (decimal k) (decimal_digits k (omega (arith, small)))

line_is : (inst : InstanceView) (t : Task) (s : Slot) → IsNamed inst t s → plan_line inst t s ≡ row_text default_writer (line_fields inst t s)
line_is inst t s named =
    sym (four_fields (task_text t) (crane inst s.crane).name (decimal s.start) (decimal (s.start + t.ticks)) (task_plain t named.hatch)
    (none_special is_name_byte name_plain (crane inst s.crane).name (name_bytes (crane inst s.crane).name named.name)) (number_plain s.start named.start) (number_plain (s.start + t.ticks) named.end))

lines_reached : (inst : InstanceView) (ls : List (Task × Slot)) → All (λ l. IsNamed inst l.0 l.1) ls
    → Reached default_config st.StartRecord (flat_map (λ l. plan_line inst l.0 l.1) ls) (map (λ l. line_fields inst l.0 l.1) ls) st.StartRecord []
unfolding Reached
lines_reached inst [] all = (refl, refl)
lines_reached inst (l ∷ ls) all =
    let rest = flat_map (λ (x : Task × Slot). plan_line inst x.0 x.1) ls in
    let first = line_is inst l.0 l.1 (All-head (λ (x : Task × Slot). IsNamed inst x.0 x.1) l ls all) in (
      (line_fields inst l.0 l.1, st.StartRecord, rest),
      rw first (read-write-many (task_text l.0) (crane inst l.1.crane).name (decimal l.1.start ∷ decimal (l.1.start + l.0.ticks) ∷ []) rest),
      refl,
      lines_reached inst ls (All-tail (λ (x : Task × Slot). IsNamed inst x.0 x.1) l ls all),
    )

abbrev header : List (List ℕ)
header = codes "task" ∷ codes "crane" ∷ codes "start" ∷ codes "end" ∷ []

text_records : (inst : InstanceView) (ls : List (Task × Slot)) → All (λ l. IsNamed inst l.0 l.1) ls
    → records_of (codes "task,crane,start,end\n" ++ flat_map (λ l. plan_line inst l.0 l.1) ls) ≡ header ∷ map (λ l. line_fields inst l.0 l.1) ls
unfolding Reached strip_bom next_record
text_records inst ls all =
    let rest = flat_map (λ (x : Task × Slot). plan_line inst x.0 x.1) ls in
    let titled : row_text default_writer header ≡ codes "task,crane,start,end\n" = four_fields (codes "task") (codes "crane") (codes "start") (codes "end") refl refl refl refl in
    let whole : Reached default_config st.StartRecord (codes "task,crane,start,end\n" ++ rest) (header ∷ map (λ (l : Task × Slot). line_fields inst l.0 l.1) ls) st.StartRecord [] = (
      (header, st.StartRecord, rest),
      subst (λ (first : List ℕ). next_record default_config st.StartRecord [] [] (first ++ rest) ≡ Some (header, st.StartRecord, rest)) titled
          (read-write-many (codes "task") (codes "crane") (codes "start" ∷ codes "end" ∷ []) rest),
      refl,
      lines_reached inst ls all,
    ) in
    sym (all-of st.StartRecord (codes "task,crane,start,end\n" ++ rest) [] (header ∷ map (λ (l : Task × Slot). line_fields inst l.0 l.1) ls) whole refl)

-- ---- the entries of these records
line_entry : (inst : InstanceView) (j : ℕ) (t : Task) (s : Slot) → IsNamed inst t s → number_of (task_names inst) (task_text t) ≡ Some j
    → number_of (crane_names inst) (crane inst s.crane).name ≡ Some s.crane → ticks_of inst j ≡ t.ticks → entry_in inst (line_fields inst t s) ≡ Ok (record { task = j; slot = s })
line_entry inst j t s named known called ticks =
    let same : (s.start + t.ticks == s.start + ticks_of inst j) ≡ true = grind (arith, nat_tests, ticks) in
    rw (known, called, number_in-decimal 12 s.start (omega arith) (omega arith) named.start, number_in-decimal 12 (s.start + t.ticks) (omega arith) (omega arith) named.end, same) refl

-- a line whose task has this number
pub record IsLine (inst : InstanceView) (j : ℕ) (l : Task × Slot) : Type 0 where
  pub named : IsNamed inst l.0 l.1
  pub known : number_of (task_names inst) (task_text l.0) ≡ Some j
  pub called : number_of (crane_names inst) (crane inst l.1.crane).name ≡ Some l.1.crane
  pub ticks : ticks_of inst j ≡ l.0.ticks

abbrev AreLines : InstanceView → ℕ → List (Task × Slot) → Type 0
AreLines inst k [] = Unit {0}
AreLines inst k (l ∷ ls) = IsLine inst k l × AreLines inst (k + 1) ls

abbrev entries_from : ℕ → List (Task × Slot) → List Entry
entries_from k [] = []
entries_from k (l ∷ ls) = record { task = k; slot = l.1 } ∷ entries_from (k + 1) ls

each_line : (inst : InstanceView) (before : List Entry) (k : ℕ) (ls : List (Task × Slot)) → AreLines inst k ls → ((j : ℕ) → k ≤ j → slot_given before j ≡ None)
    → each (next_entry inst) before (map (λ l. line_fields inst l.0 l.1) ls) ≡ Ok (before ++ entries_from k ls)
each_line inst before k [] are none = ap Ok (sym (append-nil before))
each_line inst before k (l ∷ ls) are none =
    let line = are.0 in
    let e : Entry = record { task = k; slot = l.1 } in
    let entry = line_entry inst k l.0 l.1 line.named line.known line.called line.ticks in
    let next : next_entry inst before (line_fields inst l.0 l.1) ≡ Ok e = rw (entry, none k (omega arith)) refl in
    let later : (j : ℕ) → k + 1 ≤ j → slot_given (before ++ e ∷ []) j ≡ None = λ j le.
    let other : (k == j) ≡ false = grind (arith, nat_tests, le) in given_push before e j ∙ rw (none j (omega arith), other) refl in
    rw next (each_line inst (before ++ e ∷ []) (k + 1) ls are.1 later ∙ ap Ok (append_assoc before (e ∷ []) (entries_from (k + 1) ls)))

given_from : (k : ℕ) (ls : List (Task × Slot)) (i m : ℕ) (d : Task × Slot) → k + i ≡ m → i < length ls → slot_given (entries_from k ls) m ≡ Some (get_or ls i d).1
given_from k [] i m d is lt = absurd (omega arith)
given_from k (l ∷ ls) zero m d is lt = let here : (k == m) ≡ true = grind (arith, nat_tests, is) in rw here refl
given_from k (l ∷ ls) (suc i) m d is lt =
    let other : (k == m) ≡ false = grind (arith, nat_tests, is) in
    rw other (given_from (k + 1) ls i m d (omega (arith, is)) (omega arith))

are_lines : (inst : InstanceView) (k : ℕ) (ls : List (Task × Slot)) (d : Task × Slot) → ((i : ℕ) → i < length ls → IsLine inst (k + i) (get_or ls i d)) → AreLines inst k ls
are_lines inst k [] d h = tt
are_lines inst k (l ∷ ls) d h =
    let here : k + 0 ≡ k = omega arith in (
      subst (λ j. IsLine inst j l) here (h 0 (omega arith)),
      are_lines inst (k + 1) ls d (λ i lt. let same : k + suc i ≡ (k + 1) + i = omega arith in subst (λ j. IsLine inst j (get_or ls i d)) same (h (suc i) (omega arith))),
    )

all_named : (inst : InstanceView) (k : ℕ) (ls : List (Task × Slot)) → AreLines inst k ls → All (λ l. IsNamed inst l.0 l.1) ls
all_named inst k [] are = All-nil (λ (l : Task × Slot). IsNamed inst l.0 l.1)
all_named inst k (l ∷ ls) are = All-cons (λ (l : Task × Slot). IsNamed inst l.0 l.1) l ls are.0.named (all_named inst (k + 1) ls are.1)

module _ (inst : InstanceView) (valid : Valid inst) (sched : List Slot) (judgeable : IsJudgeable inst sched) (short : HasShortEnds inst sched)
    (hatches : (j : ℕ) → j < length inst.tasks → (task inst j).hatch < 2 ^ 16)
    (names : (j : ℕ) → j < length inst.tasks → is_name (crane inst (crane_of sched j)).name ≡ true) where
  task_known : (j : ℕ) → j < length inst.tasks → number_of (task_names inst) (task_text (task inst j)) ≡ Some j
  task_known j lt =
      let at : (k : ℕ) → k < length inst.tasks → get_or (task_names inst) k [] ≡ task_text (task inst k) = λ k kl. get_or-map task_text inst.tasks k no_task [] kl in
      let inside : j < length (task_names inst) = rw length-map lt in
      subst (λ (name : List ℕ). number_of (task_names inst) name ≡ Some j) (at j lt)
      (number_at (task_names inst) j inside (λ k before same.
      let kl : k < length inst.tasks = omega arith in
      let rank = one_name (task inst k) (task inst j) (hatches k kl) (hatches j lt) (sym (at k kl) ∙ same ∙ at j lt) in
      let sorted = valid.tasks.sorted k j before lt in
      omega (arith, rank, sorted)))

  crane_known : (c : ℕ) → c < length inst.cranes → number_of (crane_names inst) (crane inst c).name ≡ Some c
  crane_known c lt =
      let at : (k : ℕ) → k < length inst.cranes → get_or (crane_names inst) k [] ≡ (crane inst k).name = λ k kl. get_or-map (λ (x : Crane). x.name) inst.cranes k no_crane [] kl in
      let inside : c < length (crane_names inst) = rw length-map lt in
      subst (λ (name : List ℕ). number_of (crane_names inst) name ≡ Some c) (at c lt)
      (number_at (crane_names inst) c inside (λ k before same. valid.cranes.names k c before lt (sym (at k (omega arith)) ∙ same ∙ at c lt)))

  line_at : (j : ℕ) → j < length inst.tasks → IsLine inst j (get_or (zip inst.tasks sched) j (no_task, no_slot))
  line_at j lt =
      let end = short j lt in
      let line : IsLine inst j (task inst j, get_or sched j no_slot) = record {
        named = record { hatch = hatches j lt; name = names j lt; start = omega (arith, end); end = end };
        known = task_known j lt;
        called = crane_known (crane_of sched j) (judgeable.crane_range j lt);
        ticks = refl;
      } in
      subst (IsLine inst j) (sym (get_or-zip inst.tasks sched j (no_task, no_slot) lt (rw judgeable.all_tasks lt))) line

  pub reread : plan_in inst (plan_text inst sched) ≡ Ok sched
  reread =
      let ls = zip inst.tasks sched in
      let size : length ls ≡ length inst.tasks = omega (arith, length-zip inst.tasks sched, judgeable.all_tasks) in
      let are : AreLines inst 0 ls = are_lines inst 0 ls (no_task, no_slot) (λ i lt. let same : 0 + i ≡ i = omega arith in subst (λ j. IsLine inst j (get_or ls i (no_task, no_slot))) (sym same) (line_at i (omega (arith, size)))) in
      let entries = entries_from 0 ls in
      let read : each (next_entry inst) [] (map (λ (l : Task × Slot). line_fields inst l.0 l.1) ls) ≡ Ok entries = each_line inst [] 0 ls are (λ j le. refl) in
      let long = length-map-range_with_len (slot_given entries) 0 (length inst.tasks) in
      let given : all_given (slots_given inst entries) ≡ Some sched = given_by (slots_given inst entries) sched (judgeable.all_tasks ∙ sym long) (λ i lt.
      let il : i < length inst.tasks = omega (arith, long) in
      get_or-map-range_with_len (slot_given entries) 0 (length inst.tasks) i i None il (omega arith)
      ∙ given_from 0 ls i i (no_task, no_slot) (omega arith) (omega (arith, size))
      ∙ ap (λ (p : Task × Slot). Some p.1) (get_or-zip inst.tasks sched i (no_task, no_slot) il (rw judgeable.all_tasks il))) in
      ap (plan_of inst) (text_records inst ls (all_named inst 0 ls are)) ∙ rw (read, given) refl

-- a writing that came through
pub reread_ok : (inst : InstanceView) (sched : List Slot) (r : Result (Unit {0}) WriteFault) → Valid inst → IsJudgeable inst sched
    → OnOk r ((j : ℕ) → j < length inst.tasks → (task inst j).hatch < 2 ^ 16)
    → OnOk r ((j : ℕ) → j < length inst.tasks → IsTrue (is_name (crane inst (crane_of sched j)).name))
    → OnOk r (HasShortEnds inst sched → plan_in inst (plan_text inst sched) ≡ Ok sched)
reread_ok inst sched (Ok u) valid judgeable hatches names = λ short. reread inst valid sched judgeable short hatches names
reread_ok inst sched (Err why) valid judgeable hatches names = tt
