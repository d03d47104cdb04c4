-- Whether a clause of caps grants something.
use Rattle.std.specs.Prelude.{ℕ, ◌==◌, Bool, not, ◌||◌, List, [], ◌∷◌, length, drop, codes, if◌then◌else◌}
use Rattle.std.specs.List.{take_while}
use Rattle.cx_base.specs.Texts.{is_long_part}
use Rattle.cx_base.specs.declared.kinds.Access.{Access}
use Rattle.cx_base.specs.declared.kinds.Access.TheVariants.{Read, Write, Exec}
use Rattle.cx_base.specs.declared.operations.Operation.{Operation}
use Rattle.cx_caps.specs.Reading.{cap_allows}
use Rattle.cx_help.specs.line.Remarks.{starts}
use Rattle.cx_help.specs.keyring.Settings.{behind_blanks, is_filling}

-- the first word of a text
abbrev pub first_word : List ℕ → List ℕ
first_word text = take_while is_filling (behind_blanks text)

-- the word behind the first of these texts in a clause
abbrev pub word_behind : List ℕ → List ℕ → List ℕ
word_behind key [] = []
word_behind key (b ∷ bs) =
    if starts key (b ∷ bs) then first_word (drop (length key) (b ∷ bs)) else word_behind key bs

-- a pool, a namespace or the front of an object's name, where the word is one
abbrev pub part_in : List ℕ → List ℕ
part_in word = if is_long_part word then word else []

-- an operation that meets the conditions of a clause, where one does
abbrev pub ask_for : List ℕ → Access → Operation
ask_for clause access = record {
  access = access;
  pool = part_in (word_behind (codes "pool=") clause);
  namespace = part_in (word_behind (codes "namespace=") clause);
  object = part_in (word_behind (codes "object_prefix") clause);
  bytes = [];
}

-- the clause grants something: a read, a write or an exec that meets its conditions
abbrev pub clause_grants : List ℕ → Bool
clause_grants clause = cap_allows clause (ask_for clause Read) || cap_allows clause (ask_for clause Write) || cap_allows clause (ask_for clause Exec)

-- the clause with which a text begins, up to a comma (44)
abbrev pub is_of_clause : ℕ → Bool
is_of_clause b = not (b == 44)

abbrev pub clause_at : List ℕ → List ℕ
clause_at text = take_while is_of_clause text
