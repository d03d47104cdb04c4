-- The same as a test that computes: what the words of a clause are read as, and whether a text allows an operation. Its
-- law is that it says `CapAllows`.
use Rattle.std.specs.Prelude.{ℕ, Bool, true, false, not, ◌&&◌, if◌then◌else◌, List, [], ◌∷◌, take, drop, length, codes, Option, Some, None}
use Rattle.std.specs.List.{list_all, list_any}
use Rattle.std.specs.Str.{bytes_eq}
use Rattle.cx_base.specs.Texts.{is_long_part}
use Rattle.cx_base.specs.declared.operations.Operation.{Operation}
use Rattle.cx_caps.specs.declared.kinds.ConditionKind.{ConditionKind}
use Rattle.cx_caps.specs.declared.kinds.ConditionKind.TheVariants.{Pool, Namespace, ObjectPrefix}
use Rattle.cx_caps.specs.Grammar.{Condition, clauses_of, words_of, is_rights, has_right, repeats, is_met}

-- the condition of this kind, where the word can be a pool, a namespace or an object's
abbrev pub condition_on : ConditionKind → List ℕ → Option Condition
condition_on kind value = if is_long_part value then Some (record { kind = kind; value = value }) else None

-- whether a word begins with these bytes
abbrev pub begins : List ℕ → List ℕ → Bool
begins word front = bytes_eq (take (length front) word) front

-- the condition that one word is: pool=VALUE or namespace=VALUE
abbrev pub condition_of : List ℕ → Option Condition
condition_of word =
    if begins word (codes "pool=") then condition_on Pool (drop 5 word)
    else if begins word (codes "namespace=") then condition_on Namespace (drop 10 word)
    else None

-- a condition in front of others, where all are there
abbrev pub in_front : Option Condition → Option (List Condition) → Option (List Condition)
in_front None conditions = None
in_front (Some condition) None = None
in_front (Some condition) (Some conditions) = Some (condition ∷ conditions)

-- the conditions that these words are, where the word before them was object_prefix or wasn't
abbrev pub conditions_from : Bool → List (List ℕ) → Option (List Condition)
conditions_from false [] = Some []
conditions_from true [] = None
conditions_from false (word ∷ words) =
    if bytes_eq word (codes "object_prefix") then conditions_from true words
    else in_front (condition_of word) (conditions_from false words)
conditions_from true (word ∷ words) = in_front (condition_on ObjectPrefix word) (conditions_from false words)

-- whether there are conditions, each kind at most once, and the operation meets them
abbrev pub allows_by : Operation → Option (List Condition) → Bool
allows_by ask None = false
allows_by ask (Some conditions) = not (repeats conditions) && list_all (is_met ask) conditions

-- whether a clause of these words allows the operation
abbrev pub words_allow : Operation → List (List ℕ) → Bool
words_allow ask [] = false
words_allow ask (first ∷ []) = false
words_allow ask (first ∷ rights ∷ words) =
    bytes_eq first (codes "allow") && is_rights rights && has_right rights ask.access && allows_by ask (conditions_from false words)

abbrev pub clause_allows : Operation → List ℕ → Bool
clause_allows ask clause = words_allow ask (words_of clause)

-- whether a text allows the operation
unfoldable pub cap_allows : List ℕ → Operation → Bool
cap_allows text ask = list_any (clause_allows ask) (clauses_of text)
