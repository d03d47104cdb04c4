-- The conditions of a clause: what is read was spelled so, and what is spelled is read again.
use Rattle.std.proofs.Common.{◌≡◌, ℕ, Bool, true, false, cond, List, [], ◌∷◌, ◌++◌, take, drop, length, Option, Some, None, refl, sym, ap, subst, ◌∙◌}
use Rattle.std.specs.Prelude.{codes}
use Rattle.std.specs.List.{list_all, flat_map}
use Rattle.std.specs.Str.{bytes_eq}
use Rattle.std.proofs.lemmas.Bool.{and_parts, and_from}
use Rattle.std.proofs.lemmas.Slice.Eq.{bytes_eq-Decides}
use Rattle.std.proofs.lemmas.List.{take-append-drop}
use Rattle.cx_caps.specs.declared.kinds.ConditionKind.{ConditionKind}
use Rattle.cx_caps.specs.declared.kinds.ConditionKind.TheVariants.{Pool, Namespace, ObjectPrefix}
use Rattle.cx_base.specs.Texts.{is_long_part}
use Rattle.cx_caps.specs.Grammar.{Condition, condition_words, words_by}
use Rattle.cx_caps.specs.Reading.{begins, condition_on, condition_of, conditions_from, in_front}

-- these words are those of these conditions, whose values are good
pub record Spelled (ws : List (List ℕ)) (conditions : List Condition) : Type 0 where
  pub words : ws ≡ flat_map condition_words conditions
  pub values : list_all (λ condition. is_long_part condition.value) conditions ≡ true

-- ---- what is read

-- this condition, whose value is good
record On (kind : ConditionKind) (value : List ℕ) (condition : Condition) : Type 0 where
  same : record { kind = kind; value = value } ≡ condition
  good : is_long_part value ≡ true

on_cases : (kind : ConditionKind) (value : List ℕ) (condition : Condition) (b : Bool) → is_long_part value ≡ b
    → cond b (Some (record { kind = kind; value = value })) None ≡ Some condition → On kind value condition
on_cases kind value condition true good e = record { same = cc; good = good }
on_cases kind value condition false bad e = absurd cc

begins_is : (word front : List ℕ) → begins word front ≡ true → word ≡ front ++ drop (length front) word
begins_is word front e =
    let same = (bytes_eq-Decides (take (length front) word) front).0 e in
    sym (take-append-drop (length front) word) ∙ ap (λ xs. xs ++ drop (length front) word) same

-- the one word of a condition
record OneWord (word : List ℕ) (condition : Condition) : Type 0 where
  words : word ∷ [] ≡ condition_words condition
  good : is_long_part condition.value ≡ true

one_pool : (word : List ℕ) (condition : Condition) → begins word (codes "pool=") ≡ true → On Pool (drop 5 word) condition → OneWord word condition
one_pool word condition b on = record {
  words = ap (λ w. w ∷ []) (begins_is word (codes "pool=") b) ∙ ap condition_words on.same;
  good = ap (λ c. is_long_part c.value) (sym on.same) ∙ on.good;
}

one_namespace : (word : List ℕ) (condition : Condition) → begins word (codes "namespace=") ≡ true → On Namespace (drop 10 word) condition → OneWord word condition
one_namespace word condition b on = record {
  words = ap (λ w. w ∷ []) (begins_is word (codes "namespace=") b) ∙ ap condition_words on.same;
  good = ap (λ c. is_long_part c.value) (sym on.same) ∙ on.good;
}

word_cases : (word : List ℕ) (condition : Condition) (p n : Bool) → begins word (codes "pool=") ≡ p → begins word (codes "namespace=") ≡ n
    → cond p (condition_on Pool (drop 5 word)) (cond n (condition_on Namespace (drop 10 word)) None) ≡ Some condition
    → OneWord word condition
word_cases word condition true n is_pool other e =
    one_pool word condition is_pool (on_cases Pool (drop 5 word) condition (is_long_part (drop 5 word)) refl e)
word_cases word condition false true other is_namespace e =
    one_namespace word condition is_namespace (on_cases Namespace (drop 10 word) condition (is_long_part (drop 10 word)) refl e)
word_cases word condition false false p n e = absurd (let q : None ≡ Some condition = e in cc)

condition_of-is : (word : List ℕ) (condition : Condition) → condition_of word ≡ Some condition → OneWord word condition
condition_of-is word condition e = word_cases word condition (begins word (codes "pool=")) (begins word (codes "namespace=")) refl refl e

-- a condition in front of others
record Front (first : Option Condition) (rest : Option (List Condition)) (conditions : List Condition) : Type 0 where
  condition : Condition
  others : List Condition
  is_first : first ≡ Some condition
  is_rest : rest ≡ Some others
  all : condition ∷ others ≡ conditions

front_cases : (first : Option Condition) (rest : Option (List Condition)) (conditions : List Condition)
    → in_front first rest ≡ Some conditions → Front first rest conditions
front_cases None rest conditions e = absurd (let p : None ≡ Some conditions = e in cc)
front_cases (Some c) None conditions e = absurd (let p : None ≡ Some conditions = e in cc)
front_cases (Some c) (Some cs) conditions e = record {
  condition = c;
  others = cs;
  is_first = refl;
  is_rest = refl;
  all = let p : Some (c ∷ cs) ≡ Some conditions = e in cc;
}

-- the words with the one before them
abbrev pub whole : Bool → List (List ℕ) → List (List ℕ)
whole false words = words
whole true words = codes "object_prefix" ∷ words

joined : (front : List (List ℕ)) (words : List (List ℕ)) (condition : Condition) (others conditions : List Condition)
    → front ≡ condition_words condition → is_long_part condition.value ≡ true → Spelled words others → condition ∷ others ≡ conditions
    → Spelled (front ++ words) conditions
joined front words condition others conditions is_front good s all = record {
  words = ap (λ ws. ws ++ words) is_front ∙ ap (λ ws. condition_words condition ++ ws) s.words ∙ ap (flat_map condition_words) all;
  values = ap (list_all (λ c. is_long_part c.value)) (sym all) ∙ and_from (is_long_part condition.value) (list_all (λ c. is_long_part c.value) others) good s.values;
}

word_step : (word : List ℕ) (words : List (List ℕ)) (conditions : List Condition) (b : Bool) → bytes_eq word (codes "object_prefix") ≡ b
    → cond b (conditions_from true words) (in_front (condition_of word) (conditions_from false words)) ≡ Some conditions
    → (conditions_from true words ≡ Some conditions → Spelled (whole true words) conditions)
    → ((others : List Condition) → conditions_from false words ≡ Some others → Spelled words others)
    → Spelled (word ∷ words) conditions
word_step word words conditions true named e behind others =
    let same : codes "object_prefix" ≡ word = sym ((bytes_eq-Decides word (codes "object_prefix")).0 named) in
    let P : List ℕ → Type 0 = λ w. Spelled (w ∷ words) conditions in
    subst P same (behind e)
word_step word words conditions false other e behind others =
    let front = front_cases (condition_of word) (conditions_from false words) conditions e in
    let one = condition_of-is word front.condition front.is_first in
    joined (word ∷ []) words front.condition front.others conditions one.words one.good (others front.others front.is_rest) front.all

pub conditions_from-is : (named : Bool) (words : List (List ℕ)) (conditions : List Condition) → conditions_from named words ≡ Some conditions
    → Spelled (whole named words) conditions
conditions_from-is false [] conditions e =
    let same : [] ≡ conditions = (let p : Some [] ≡ Some conditions = e in cc) in
    record { words = ap (flat_map condition_words) same; values = ap (list_all (λ c. is_long_part c.value)) (sym same) }
conditions_from-is true [] conditions e = absurd (let p : None ≡ Some conditions = e in cc)
conditions_from-is true (word ∷ words) conditions e =
    let front = front_cases (condition_on ObjectPrefix word) (conditions_from false words) conditions e in
    let on = on_cases ObjectPrefix word front.condition (is_long_part word) refl front.is_first in
    joined (codes "object_prefix" ∷ word ∷ []) words front.condition front.others conditions (ap condition_words on.same)
    (ap (λ c. is_long_part c.value) (sym on.same) ∙ on.good) (conditions_from-is false words front.others front.is_rest) front.all
conditions_from-is false (word ∷ words) conditions e =
    word_step word words conditions (bytes_eq word (codes "object_prefix")) refl e (conditions_from-is true words conditions)
    (conditions_from-is false words)

-- ---- what is spelled

spelled_step : (kind : ConditionKind) (value : List ℕ) (words : List (List ℕ)) (others : Option (List Condition))
    → is_long_part value ≡ true → conditions_from false words ≡ others
    → conditions_from false (words_by kind value ++ words) ≡ in_front (Some (record { kind = kind; value = value })) others
spelled_step Pool value words others good rest = rw (good, rest) refl
spelled_step Namespace value words others good rest = rw (good, rest) refl
spelled_step ObjectPrefix value words others good rest = rw (good, rest) refl

pub conditions_from-words : (conditions : List Condition) → list_all (λ condition. is_long_part condition.value) conditions ≡ true
    → conditions_from false (flat_map condition_words conditions) ≡ Some conditions
conditions_from-words [] good = refl
conditions_from-words (condition ∷ conditions) good =
    let parts = and_parts (is_long_part condition.value) (list_all (λ c. is_long_part c.value) conditions) good in
    spelled_step condition.kind condition.value (flat_map condition_words conditions) (Some conditions) parts.0 (conditions_from-words conditions parts.1)
