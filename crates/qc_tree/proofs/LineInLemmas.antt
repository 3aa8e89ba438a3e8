-- The reading of a text as a value: it is the line whose text this is.
use Rattle.std.proofs.Common.{◌≡◌, ℕ, ◌<◌, ◌^◌, Bool, true, false, ◌==◌, cond, List, [], ◌∷◌, ◌++◌, length, map, not, get_or, All, Option, None, Some, refl, sym, ap, subst, ◌∙◌, arith, MatchResult, Ok, Err, Result, bytes_eq, codes, decimal, nat_le, nat_lt}
use Rattle.std.specs.Char.{is_ascii_digit}
use Rattle.std.specs.List.{list_all, slice_split}
use Rattle.std.specs.Str.Parse.{digits_value}
use Rattle.std.proofs.lemmas.Bool.{and_from, and_parts, cond-false, cond-true, cond_both, false_from_ne_true, not-true, le-leb, leb-true, lt-ltb, ltb-true}
use Rattle.std.proofs.lemmas.Bool.Decides.{nat_tests}
use Rattle.std.proofs.lemmas.Fmt.{digits_value-decimal}
use Rattle.std.proofs.lemmas.List.{append-nil, append_assoc}
use Rattle.std.proofs.lemmas.List.Elements.{All-append, All-head, All-nil, All-cons, All-tail}
use Rattle.std.proofs.lemmas.List.Splits.{slice_split_at, slice_split_none}
use Rattle.std.proofs.lemmas.List.Sums.{AllPass-from_list_all}
use Rattle.std.proofs.lemmas.Slice.Eq.{bytes_eq-Decides}
use Rattle.qc_num.specs.declared.bound.Bound.{Bound}
use Rattle.qc_num.specs.declared.bound.Bound.TheVariants.{Least, Never}
use Rattle.qc_tree.specs.declared.line.BadLine.{BadLine}
use Rattle.qc_tree.specs.declared.line.Line.{Line}
use Rattle.qc_tree.specs.declared.line.Line.TheVariants.{Title, FreeTitle, Up, Down, Assign, Order, Chain, Ring, Reach, Work, Clash, End}
use Rattle.qc_tree.specs.Lines.{AreTasks, IsLine, IsTask, IsTextOf, IsValue, Reads, bound_field, fields, line_list, line_text}
use Rattle.qc_tree.specs.LineIn.{Listed, alone, are_tasks, candidate, in_range, is_task, is_value, is_word, is_written, line_in, words}
use Rattle.qc_tree.specs.Trees.{whole_line}
use Rattle.qc_num.proofs.DigitLemmas.{decimal_digits, own}
use Rattle.qc_tree.proofs.OneSpelling.{never_digits}

-- ---- the ranges, as tests and as facts

all_tasks : (list : List ℕ) → list_all is_task list ≡ true → All IsTask list
all_tasks list e = λ k d lt. ltb-true (get_or list k d) (10 ^ 4) (AllPass-from_list_all is_task list e k d lt)

tasks_pass : (list : List ℕ) → All IsTask list → list_all is_task list ≡ true
tasks_pass [] h = refl
tasks_pass (i ∷ is) h =
    and_from (is_task i) (list_all is_task is) (lt-ltb i (10 ^ 4) (All-head IsTask i is h))
    (tasks_pass is (All-tail IsTask i is h))

tasks_of : (list : List ℕ) → are_tasks list ≡ true → AreTasks list
tasks_of list e =
    let p = and_parts (nat_le (length list) 240) (list_all is_task list) e in
    (leb-true (length list) 240 p.0, all_tasks list p.1)

are_tasks_of : (list : List ℕ) → AreTasks list → are_tasks list ≡ true
are_tasks_of list h =
    and_from (nat_le (length list) 240) (list_all is_task list) (le-leb (length list) 240 h.0)
    (tasks_pass list h.1)

value_of : (x : Bound) → is_value x ≡ true → IsValue x
value_of Never e = tt
value_of (Least x) e = ltb-true x (10 ^ 15) e

is_value_of : (x : Bound) → IsValue x → is_value x ≡ true
is_value_of Never h = refl
is_value_of (Least x) h = lt-ltb x (10 ^ 15) h

pub line_of : (line : Line) (list : List ℕ) → in_range line list ≡ true → IsLine line list
line_of Title list e = tt
line_of FreeTitle list e = tt
line_of Up list e = tt
line_of Down list e = tt
line_of Reach list e = tt
line_of (Assign i) list e = ltb-true i (10 ^ 4) e
line_of (Order i j) list e =
    let p = and_parts (is_task i) (is_task j) e in
    (ltb-true i (10 ^ 4) p.0, ltb-true j (10 ^ 4) p.1)
line_of Chain list e = tasks_of list e
line_of Ring list e =
    let p = and_parts (nat_le 2 (length list)) (are_tasks list) e in
    (leb-true 2 (length list) p.0, tasks_of list p.1)
line_of Clash list e =
    let p = and_parts (nat_le 1 (length list)) (are_tasks list) e in
    (leb-true 1 (length list) p.0, tasks_of list p.1)
line_of (Work v) list e =
    let p = and_parts (nat_le 1 v) (nat_lt v (10 ^ 15)) e in
    (leb-true 1 v p.0, ltb-true v (10 ^ 15) p.1)
line_of (End b x) list e =
    let p = and_parts (nat_lt b (10 ^ 7)) (is_value x) e in
    (ltb-true b (10 ^ 7) p.0, value_of x p.1)

pub in_range_of : (line : Line) (list : List ℕ) → IsLine line list → in_range line list ≡ true
in_range_of Title list h = refl
in_range_of FreeTitle list h = refl
in_range_of Up list h = refl
in_range_of Down list h = refl
in_range_of Reach list h = refl
in_range_of (Assign i) list h = lt-ltb i (10 ^ 4) h
in_range_of (Order i j) list h = and_from (is_task i) (is_task j) (lt-ltb i (10 ^ 4) h.0) (lt-ltb j (10 ^ 4) h.1)
in_range_of Chain list h = are_tasks_of list h
in_range_of Ring list h =
    and_from (nat_le 2 (length list)) (are_tasks list) (le-leb 2 (length list) h.0) (are_tasks_of list h.1)
in_range_of Clash list h =
    and_from (nat_le 1 (length list)) (are_tasks list) (le-leb 1 (length list) h.0) (are_tasks_of list h.1)
in_range_of (Work v) list h =
    and_from (nat_le 1 v) (nat_lt v (10 ^ 15)) (le-leb 1 v h.0) (lt-ltb v (10 ^ 15) h.1)
in_range_of (End b x) list h =
    and_from (nat_lt b (10 ^ 7)) (is_value x) (lt-ltb b (10 ^ 7) h.0) (is_value_of x h.1)

-- ---- what is read is a line with its text

-- only a chain, a ring and packed tasks have a list
abbrev IsListed : Listed → Type 0
IsListed seen = seen.list ≡ line_list seen.line seen.list

candidate_listed : (ws : List (List ℕ)) → IsListed (candidate ws)
candidate_listed ws =
    cond_both (is_word ws 0 (codes "QCTREE")) _ _ IsListed (λ _. refl)
    (λ _. cond_both (is_word ws 0 (codes "QCFREE")) _ _ IsListed (λ _. refl)
    (λ _. cond_both (is_word ws 0 (codes "up")) _ _ IsListed (λ _. refl)
    (λ _. cond_both (is_word ws 0 (codes "down")) _ _ IsListed (λ _. refl)
    (λ _. cond_both (is_word ws 0 (codes "X")) _ _ IsListed (λ _. refl)
    (λ _. cond_both (is_word ws 0 (codes "A")) _ _ IsListed (λ _. refl)
    (λ _. cond_both (is_word ws 0 (codes "O")) _ _ IsListed (λ _. refl)
    (λ _. cond_both (is_word ws 0 (codes "W")) _ _ IsListed (λ _. refl)
    (λ _. cond_both (is_word ws 0 (codes "P")) _ _ IsListed (λ _. refl)
    (λ _. cond_both (is_word ws 0 (codes "C")) _ _ IsListed (λ _. refl)
    (λ _. cond_both (is_word ws 0 (codes "Q")) _ _ IsListed (λ _. refl) (λ _. refl)))))))))))

written_is : (text : List ℕ) (seen : Listed) → IsListed seen → is_written text seen ≡ true
    → IsTextOf text seen.line seen.list
written_is text seen listed e =
    let p = and_parts (bytes_eq (line_text seen.line seen.list) text) (in_range seen.line seen.list) e in
    record {
      same = sym ((bytes_eq-Decides (line_text seen.line seen.list) text).0 p.0);
      in_range = line_of seen.line seen.list p.1;
      list = listed;
    }

pub is_text_of : (text : List ℕ) (seen : Listed) → line_in text ≡ Some seen → IsTextOf text seen.line seen.list
is_text_of text seen =
    cond_both (is_written text (candidate (words text))) (Some (candidate (words text))) None
    (λ o. o ≡ Some seen → IsTextOf text seen.line seen.list)
    (λ e same.
    let here : candidate (words text) ≡ seen = cc in
    subst (λ (s : Listed). IsTextOf text s.line s.list) here
    (written_is text (candidate (words text)) (candidate_listed (words text)) e))
    (λ _ same. absurd (cc same))

-- ---- the words of a line

abbrev is_space : ℕ → Bool
is_space b = b == 32

abbrev pub IsNot : ℕ → ℕ → Type 0
IsNot c b = (b == c) ≡ false

-- none of these bytes is c
abbrev pub IsFreeOf : ℕ → List ℕ → Type 0
IsFreeOf c bytes = All (IsNot c) bytes

-- what is written out, and a number, which has no byte below that of 0
pub written_free : (c : ℕ) (word : List ℕ) → list_all (λ b. not (b == c)) word ≡ true → IsFreeOf c word
written_free c word e = λ k d lt.
    not-true (get_or word k d == c) (AllPass-from_list_all (λ b. not (b == c)) word e k d lt)

pub number_free : (c : ℕ) → c < 48 → (n : ℕ) → n < 2 ^ 64 → IsFreeOf c (decimal n)
number_free c low n wide = λ k d lt.
    let digit : is_ascii_digit (get_or (decimal n) k d) ≡ true =
    AllPass-from_list_all is_ascii_digit (decimal n) (decimal_digits n wide) k d lt
    in
    grind (arith, nat_tests, digit)

abbrev IsWide : ℕ → Type 0
IsWide n = n < 2 ^ 64

-- the words of a word and numbers behind it
words_of : (word : List ℕ) (ns : List ℕ) → IsFreeOf 32 word → All IsWide ns → words (word ++ fields ns)
    ≡ word ∷ map decimal ns
words_of word [] solid wide = ap words (append-nil word) ∙ slice_split_none is_space word solid
words_of word (n ∷ ns) solid wide =
    slice_split_at is_space word 32 (decimal n ++ fields ns) solid refl
    ∙ ap (λ ws. word ∷ ws) (words_of (decimal n) ns (number_free 32 (omega arith) n (All-head IsWide n ns wide))
    (All-tail IsWide n ns wide))

value_is : (n : ℕ) → n < 2 ^ 64 → digits_value 10 (decimal n) ≡ n
value_is n wide = digits_value-decimal own n wide

values_are : (ns : List ℕ) → All IsWide ns → map (digits_value 10) (map decimal ns) ≡ ns
values_are [] wide = refl
values_are (n ∷ ns) wide =
    ap (λ m. m ∷ map (digits_value 10) (map decimal ns)) (value_is n (All-head IsWide n ns wide))
    ∙ ap (λ ms. n ∷ ms) (values_are ns (All-tail IsWide n ns wide))

task_wide : (i : ℕ) → IsTask i → i < 2 ^ 64
task_wide i h = omega (arith, h)

tasks_wide : (list : List ℕ) → All IsTask list → All IsWide list
tasks_wide list h = λ k d lt. task_wide (get_or list k d) (h k d lt)

one_wide : (n : ℕ) → n < 2 ^ 64 → All IsWide (n ∷ [])
one_wide n wide = All-cons IsWide n [] wide (All-nil IsWide)

-- ---- the text of a line is read

-- the candidate of a text that is a line's is that line
abbrev IsCandidate : Line → List ℕ → Type 0
IsCandidate line list = candidate (words (line_text line list)) ≡ record { line = line; list = list }

-- the word for no end is no number
no_word : (x : ℕ) → x < 2 ^ 64 → bytes_eq (decimal x) (codes "never") ≡ false
no_word x wide = false_from_ne_true (bytes_eq (decimal x) (codes "never"))
    (λ e. never_digits x wide (append-nil (decimal x) ∙ (bytes_eq-Decides (decimal x) (codes "never")).0 e))

candidate_end : (b : ℕ) (x : Bound) → b < 10 ^ 7 → IsValue x → IsCandidate (End b x) []
candidate_end b Never small value =
    let wide : b < 2 ^ 64 = omega (arith, small) in
    ap (λ ws. candidate (codes "end" ∷ ws))
    (slice_split_at is_space (decimal b) 32 (codes "never") (number_free 32 (omega arith) b wide) refl
    ∙ ap (λ ws. decimal b ∷ ws)
    (slice_split_none is_space (codes "never") (written_free 32 (codes "never") refl)))
    ∙ ap (λ n. alone (End n Never)) (value_is b wide)
candidate_end b (Least x) small value =
    let wide : b < 2 ^ 64 = omega (arith, small) in
    let wide' : x < 2 ^ 64 = omega (arith, value) in
    ap (λ ws. candidate (codes "end" ∷ ws))
    (words_of (decimal b) (x ∷ []) (number_free 32 (omega arith) b wide) (one_wide x wide'))
    ∙ ap (λ n. alone (End n (cond (bytes_eq (decimal x) (codes "never")) Never
    (Least (digits_value 10 (decimal x)))))) (value_is b wide)
    ∙ ap (λ y. alone (End b y))
    (cond-false (bytes_eq (decimal x) (codes "never")) Never (Least (digits_value 10 (decimal x)))
    (no_word x wide'))
    ∙ ap (λ n. alone (End b (Least n))) (value_is x wide')

candidate_of : (line : Line) (list : List ℕ) → IsLine line list → list ≡ line_list line list
    → IsCandidate line list
candidate_of Title list h e = rw e refl
candidate_of FreeTitle list h e = rw e refl
candidate_of Up list h e = rw e refl
candidate_of Down list h e = rw e refl
candidate_of Reach list h e = rw e refl
candidate_of (Assign i) list h e =
    let wide = task_wide i h in
    ap candidate (words_of (codes "A") (i ∷ []) (written_free 32 (codes "A") refl) (one_wide i wide))
    ∙ ap (λ n. alone (Assign n)) (value_is i wide) ∙ ap (λ l. record { line = Assign i; list = l }) (sym e)
candidate_of (Order i j) list h e =
    let wide = task_wide i h.0 in
    let wide' = task_wide j h.1 in
    ap candidate (words_of (codes "O") (i ∷ j ∷ []) (written_free 32 (codes "O") refl)
    (All-cons IsWide i (j ∷ []) wide (one_wide j wide')))
    ∙ ap (λ n. alone (Order n (digits_value 10 (decimal j)))) (value_is i wide) ∙ ap (λ n. alone (Order i n))
    (value_is j wide')
    ∙ ap (λ l. record { line = Order i j; list = l }) (sym e)
candidate_of Chain list h e =
    let wide = tasks_wide list h.1 in
    ap candidate (words_of (codes "P") list (written_free 32 (codes "P") refl) wide)
    ∙ ap (λ l. record { line = Chain; list = l }) (values_are list wide)
candidate_of Ring list h e =
    let wide = tasks_wide list h.1.1 in
    ap candidate (words_of (codes "C") list (written_free 32 (codes "C") refl) wide)
    ∙ ap (λ l. record { line = Ring; list = l }) (values_are list wide)
candidate_of Clash list h e =
    let wide = tasks_wide list h.1.1 in
    ap candidate (words_of (codes "Q") list (written_free 32 (codes "Q") refl) wide)
    ∙ ap (λ l. record { line = Clash; list = l }) (values_are list wide)
candidate_of (Work v) list h e =
    let wide : v < 2 ^ 64 = omega (arith, h.1) in
    ap candidate (words_of (codes "W") (v ∷ []) (written_free 32 (codes "W") refl) (one_wide v wide))
    ∙ ap (λ n. alone (Work n)) (value_is v wide) ∙ ap (λ l. record { line = Work v; list = l }) (sym e)
candidate_of (End b x) list h e =
    ap (λ l. candidate (words (line_text (End b x) l))) e ∙ candidate_end b x h.0 h.1
    ∙ ap (λ l. record { line = End b x; list = l }) (sym e)

line_in_at : (text : List ℕ) (seen : Listed) → candidate (words text) ≡ seen → is_written text seen ≡ true
    → line_in text ≡ Some seen
line_in_at text seen same e =
    subst (λ (s : Listed). cond (is_written text s) (Some s) None ≡ Some seen) (sym same)
    (cond-true (is_written text seen) (Some seen) None e)

pub line_in_of : (text : List ℕ) (line : Line) (list : List ℕ) → IsTextOf text line list → line_in text
    ≡ Some (record { line = line; list = list })
line_in_of text line list h =
    line_in_at text (record { line = line; list = list })
    (ap (λ t. candidate (words t)) h.same ∙ candidate_of line list h.in_range h.list)
    (and_from (bytes_eq (line_text line list) text) (in_range line list)
    ((bytes_eq-Decides (line_text line list) text).1 (sym h.same)) (in_range_of line list h.in_range))

-- what is read as a relation says is what is read as a value
pub line_read :
    (text list : List ℕ) (result : Result Line BadLine) → Reads text list result
    → MatchResult result (λ line. line_in text ≡ Some (record { line = line; list = list })) (λ _. line_in text
    ≡ None)
line_read text list (Ok line) reads = line_in_of text line list reads
line_read text list (Err bad) reads = none (line_in text) refl
  where
    none : (o : Option Listed) → line_in text ≡ o → line_in text ≡ None
    none None e = e
    none (Some seen) e = absurd (reads seen.line seen.list (is_text_of text seen e))

-- ---- lines in a file

abbrev is_feed : ℕ → Bool
is_feed b = b == 10

fields_free : (ns : List ℕ) → All IsWide ns → IsFreeOf 10 (fields ns)
fields_free [] wide = All-nil (IsNot 10)
fields_free (n ∷ ns) wide =
    let number = number_free 10 (omega arith) n (All-head IsWide n ns wide) in
    All-append (IsNot 10) (32 ∷ decimal n) (fields ns) (All-cons (IsNot 10) 32 (decimal n) refl number)
    (fields_free ns (All-tail IsWide n ns wide))

bound_free : (x : Bound) → IsValue x → IsFreeOf 10 (bound_field x)
bound_free Never value = written_free 10 (codes " never") refl
bound_free (Least x) value = fields_free (x ∷ []) (one_wide x (omega (arith, value)))

-- a word and numbers
with_fields : (word : List ℕ) (ns : List ℕ) → list_all (λ b. not (b == 10)) word ≡ true → All IsWide ns
    → IsFreeOf 10 (word ++ fields ns)
with_fields word ns e wide = All-append (IsNot 10) word (fields ns) (written_free 10 word e) (fields_free ns wide)

-- no line's text has a line feed
pub line_free : (line : Line) (list : List ℕ) → IsLine line list → IsFreeOf 10 (line_text line list)
line_free Title list h = written_free 10 (codes "QCTREE 3") refl
line_free FreeTitle list h = written_free 10 (codes "QCFREE 1") refl
line_free Up list h = written_free 10 (codes "up") refl
line_free Down list h = written_free 10 (codes "down") refl
line_free Reach list h = written_free 10 (codes "X") refl
line_free (Assign i) list h = with_fields (codes "A") (i ∷ []) refl (one_wide i (task_wide i h))
line_free (Order i j) list h =
    with_fields (codes "O") (i ∷ j ∷ []) refl
    (All-cons IsWide i (j ∷ []) (task_wide i h.0) (one_wide j (task_wide j h.1)))
line_free Chain list h = with_fields (codes "P") list refl (tasks_wide list h.1)
line_free Ring list h = with_fields (codes "C") list refl (tasks_wide list h.1.1)
line_free Clash list h = with_fields (codes "Q") list refl (tasks_wide list h.1.1)
line_free (Work v) list h = with_fields (codes "W") (v ∷ []) refl (one_wide v (omega (arith, h.1)))
line_free (End b x) list h =
    All-append (IsNot 10) (codes "end ") (decimal b ++ bound_field x) (written_free 10 (codes "end ") refl)
    (All-append (IsNot 10) (decimal b) (bound_field x) (number_free 10 (omega arith) b (omega (arith, h.0)))
    (bound_free x h.1))

-- a whole line is the first of the texts between line feeds
pub split_line :
    (line : Line) (list rest : List ℕ) → IsLine line list
    → slice_split (λ b. b == 10) (whole_line line list ++ rest)
    ≡ line_text line list ∷ slice_split (λ b. b == 10) rest
split_line line list rest h =
    ap (slice_split is_feed) (append_assoc (line_text line list) (10 ∷ []) rest)
    ∙ slice_split_at is_feed (line_text line list) 10 rest (line_free line list h) refl
