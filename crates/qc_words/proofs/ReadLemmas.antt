-- What a command reads from words that it takes.
use Rattle.std.proofs.Common.{◌≡◌, ℕ, ◌<◌, ◌+◌, ◌∙◌, ap, sym, cond, length, map, take, get_or, List, [], ◌∷◌, ◌++◌, None, Some}
use Rattle.std.proofs.lemmas.List.{append_assoc, map-append, take_more}
use Rattle.std.specs.Borrow.{Bor}
use Rattle.std.specs.Option.{option_map_or}
use Rattle.clap.specs.Walk.{is_empty}
use Rattle.clap.specs.Words.{App, Kinds, Row, Rule, Text, fault_of, matches_of, with_rule}
use Rattle.qc_words.specs.Asked.{Asked, usage}
use Rattle.qc_words.specs.Commands.{read_by, with_rules}

pub read_some : (a : App) (words : List Text) (rows : List Row) → fault_of a words ≡ [] → rows ≡ matches_of a words → Some rows ≡ read_by a words
read_some a words rows none is =
    ap Some is ∙ ap (λ (kinds : Kinds). cond (is_empty kinds) (Some (matches_of a words)) None) (sym none)

-- one rule more, told to `clap` after the others: the next of some names
pub rule_more : (name : Text) (front : List Rule) (rule : Text → Rule) (names : List (Bor Text)) (i : ℕ) (d : Bor Text) → i < length names
    → with_rule (with_rules name (front ++ map rule (map (λ o. o.now) (take i names)))) (rule (get_or names i d).now)
    ≡ with_rules name (front ++ map rule (map (λ o. o.now) (take (i + 1) names)))
rule_more name front rule names i d lt =
    let now : Bor Text → Text = λ o. o.now in
    let more = ap (map now) (take_more names i d lt) ∙ map-append now (take i names) (get_or names i d ∷ []) in
    ap (with_rules name)
    (append_assoc front (map rule (map now (take i names))) (rule (get_or names i d).now ∷ [])
    ∙ ap (λ (rules : List Rule). front ++ rules)
    (sym (map-append rule (map now (take i names)) ((get_or names i d).now ∷ [])) ∙ ap (map rule) (sym more)))

-- what a command asks for follows from what it reads
pub asks_what_is_read : (f : List Row → Asked) (a b : App) (words : List Text) (rows : List Row) (asked : Asked)
    → asked ≡ f rows → Some rows ≡ read_by a words → a ≡ b → asked ≡ option_map_or f (read_by b words) usage
asks_what_is_read f a b words rows asked e read is =
    e ∙ ap (λ o. option_map_or f o usage) (read ∙ ap (λ c. read_by c words) is)
