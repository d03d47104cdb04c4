-- What a capability text allows, by the clauses between its commas and the words between their spaces: the part of Ceph's
-- capability grammar that this project grants by ("User Management", "Authorization (capabilities)": an access
-- specification, and a match of pool, namespace and object prefix). A clause outside of this grammar grants nothing.
use Rattle.std.specs.Prelude.{ℕ, ◌==◌, ◌≡◌, Bool, not, ◌&&◌, ◌||◌, nat_le, nat_eq, if◌then◌else◌, List, [], ◌∷◌, length, codes, filter, count_by, Any, IsTrue, false, true}
use Rattle.std.specs.List.{list_all, list_any, flat_map, slice_split, starts_with}
use Rattle.std.specs.Str.{bytes_eq}
use Rattle.cx_base.specs.Joined.{◌<>◌}
use Rattle.cx_base.specs.Texts.{is_long_part}
use Rattle.cx_base.specs.declared.operations.Operation.{Operation}
use Rattle.cx_base.specs.declared.kinds.Access.{Access}
use Rattle.cx_base.specs.declared.kinds.Access.TheVariants.{Read, Write, Exec}
use Rattle.cx_caps.specs.declared.kinds.ConditionKind.{ConditionKind}
use Rattle.cx_caps.specs.declared.kinds.ConditionKind.TheVariants.{Pool, Namespace, ObjectPrefix}

-- ---- clauses and words

-- a comma (44) and a space (32)
abbrev pub is_comma : ℕ → Bool
is_comma b = b == 44

abbrev pub is_space : ℕ → Bool
is_space b = b == 32

-- the clauses of a text: what stands between its commas, of which there is always one
abbrev pub clauses_of : List ℕ → List (List ℕ)
clauses_of text = slice_split is_comma text

-- the words of a clause: what stands between its spaces and isn't empty, so that several spaces are as one and those at
-- either end are dropped
abbrev pub is_filled : List ℕ → Bool
is_filled [] = false
is_filled (b ∷ bs) = true

abbrev pub words_of : List ℕ → List (List ℕ)
words_of clause = filter is_filled (slice_split is_space clause)

-- ---- rights

-- r, w and x
abbrev pub letter_of : Access → ℕ
letter_of Read = 114
letter_of Write = 119
letter_of Exec = 120

abbrev pub is_letter : ℕ → Bool
is_letter b = (b == 114) || (b == 119) || (b == 120)

-- how often a byte stands in a word
abbrev pub count_of : List ℕ → ℕ → ℕ
count_of word b = count_by (λ c. c == b) word

-- one letter or more of r, w and x, each once
abbrev pub is_letters : List ℕ → Bool
is_letters word = nat_le 1 (length word) && list_all (λ b. is_letter b && (count_of word b == 1)) word

-- the letters that a word of rights stands for: `*` and `all` stand for each
abbrev pub letters_of : List ℕ → List ℕ
letters_of word = if bytes_eq word (codes "*") || bytes_eq word (codes "all") then codes "rwx" else word

-- whether a word gives rights, and whether it gives the one that an access takes
abbrev pub is_rights : List ℕ → Bool
is_rights word = is_letters (letters_of word)

abbrev pub has_right : List ℕ → Access → Bool
has_right word access = list_any (λ b. b == letter_of access) (letters_of word)

-- ---- conditions

-- what a clause asks of an operation besides its access: the pool, the namespace, or what the object's name begins with
pub record Condition : Type 0 where
  pub kind : ConditionKind
  pub value : List ℕ

-- the words of a condition
abbrev pub words_by : ConditionKind → List ℕ → List (List ℕ)
words_by Pool value = (codes "pool=" <> value) ∷ []
words_by Namespace value = (codes "namespace=" <> value) ∷ []
words_by ObjectPrefix value = codes "object_prefix" ∷ value ∷ []

abbrev pub condition_words : Condition → List (List ℕ)
condition_words condition = words_by condition.kind condition.value

-- whether two conditions are of one kind
abbrev pub same_condition_kind : ConditionKind → ConditionKind → Bool
same_condition_kind Pool Pool = true
same_condition_kind Namespace Namespace = true
same_condition_kind ObjectPrefix ObjectPrefix = true
same_condition_kind _ _ = false

-- whether two conditions of a list are of one kind
abbrev pub repeats : List Condition → Bool
repeats [] = false
repeats (condition ∷ conditions) = list_any (λ other. same_condition_kind condition.kind other.kind) conditions || repeats conditions

-- whether an operation meets a condition
abbrev pub is_met_by : ConditionKind → List ℕ → Operation → Bool
is_met_by Pool value ask = bytes_eq ask.pool value
is_met_by Namespace value ask = bytes_eq ask.namespace value
is_met_by ObjectPrefix value ask = starts_with nat_eq ask.object value

abbrev pub is_met : Operation → Condition → Bool
is_met ask condition = is_met_by condition.kind condition.value ask

-- ---- what a text allows

-- these words are a clause of the grammar: `allow`, a word of rights, and conditions, in any order and each kind at most once
pub record IsClause (words : List (List ℕ)) (rights : List ℕ) (conditions : List Condition) : Type 0 where
  pub spelled : words ≡ codes "allow" ∷ rights ∷ flat_map condition_words conditions
  pub letters : IsTrue (is_rights rights)
  pub values : IsTrue (list_all (λ condition. is_long_part condition.value) conditions)
  pub once : IsTrue (not (repeats conditions))

-- the clause is in the grammar, has the operation's letter, and the operation meets its conditions
pub record ClauseAllows (ask : Operation) (clause : List ℕ) : Type 0 where
  pub rights : List ℕ
  pub conditions : List Condition
  pub grammar : IsClause (words_of clause) rights conditions
  pub letter : IsTrue (has_right rights ask.access)
  pub met : IsTrue (list_all (is_met ask) conditions)

-- some clause of the text allows the operation
abbrev pub CapAllows : List ℕ → Operation → Type 0
CapAllows text ask = Any (ClauseAllows ask) (clauses_of text)
