-- The test that computes says `CapAllows`.
use Rattle.std.proofs.Common.{◌≡◌, ℕ, ◌+◌, Bool, true, false, not, ◌&&◌, List, [], ◌∷◌, length, Option, Some, None, refl, sym, ap, ◌∙◌}
use Rattle.std.specs.Prelude.{IsTrue, ◌↔◌, count_by, codes}
use Rattle.std.specs.List.{list_all}
use Rattle.std.specs.Str.{bytes_eq}
use Rattle.std.proofs.lemmas.Bool.{and_parts}
use Rattle.std.proofs.lemmas.List.Splits.{length-slice_split}
use Rattle.std.proofs.lemmas.List.Folds.{Any-from_list_any, list_any-from_Any}
use Rattle.std.proofs.lemmas.Slice.Eq.{bytes_eq-Decides}
use Rattle.cx_base.specs.declared.operations.Operation.{Operation}
use Rattle.cx_caps.specs.Grammar.{Condition, IsClause, ClauseAllows, CapAllows, is_comma, clauses_of, words_of, is_rights, has_right, repeats, is_met}
use Rattle.cx_caps.specs.Reading.{cap_allows, clause_allows, words_allow, allows_by, conditions_from}
use Rattle.cx_caps.proofs.Read.{conditions_from-is, conditions_from-words}

-- what the words of a clause that allows the operation are
record Allows (ask : Operation) (words : List (List ℕ)) : Type 0 where
  rights : List ℕ
  conditions : List Condition
  grammar : IsClause words rights conditions
  letter : has_right rights ask.access ≡ true
  met : list_all (is_met ask) conditions ≡ true

record Judged (ask : Operation) (read : Option (List Condition)) : Type 0 where
  conditions : List Condition
  is_read : read ≡ Some conditions
  once : not (repeats conditions) ≡ true
  met : list_all (is_met ask) conditions ≡ true

judged : (ask : Operation) (read : Option (List Condition)) → allows_by ask read ≡ true → Judged ask read
judged ask None e = absurd cc
judged ask (Some conditions) e =
    let parts = and_parts (not (repeats conditions)) (list_all (is_met ask) conditions) e in
    record { conditions = conditions; is_read = refl; once = parts.0; met = parts.1 }

words_allowed : (ask : Operation) (words : List (List ℕ)) → words_allow ask words ≡ true → Allows ask words
words_allowed ask [] e = absurd cc
words_allowed ask (first ∷ []) e = absurd cc
words_allowed ask (first ∷ rights ∷ words) e =
    let outer = and_parts (bytes_eq first (codes "allow") && is_rights rights && has_right rights ask.access) (allows_by ask (conditions_from false words)) e in
    let middle = and_parts (bytes_eq first (codes "allow") && is_rights rights) (has_right rights ask.access) outer.0 in
    let inner = and_parts (bytes_eq first (codes "allow")) (is_rights rights) middle.0 in
    let found = judged ask (conditions_from false words) outer.1 in
    let spelled = conditions_from-is false words found.conditions found.is_read in
    record {
      rights = rights;
      conditions = found.conditions;
      grammar = record {
        spelled = ap (λ w. w ∷ rights ∷ words) ((bytes_eq-Decides first (codes "allow")).0 inner.0) ∙ ap (λ ws. codes "allow" ∷ rights ∷ ws) spelled.words;
        letters = inner.1;
        values = spelled.values;
        once = found.once;
      };
      letter = middle.1;
      met = found.met;
    }

allowed_words : (ask : Operation) (rights : List ℕ) (conditions : List Condition) (words : List (List ℕ)) → IsClause words rights conditions
    → has_right rights ask.access ≡ true → list_all (is_met ask) conditions ≡ true → words_allow ask words ≡ true
allowed_words ask rights conditions words clause letter met =
    rw (clause.spelled, clause.letters, letter, conditions_from-words conditions clause.values, clause.once, met) refl

clause_allowed : (ask : Operation) (clause : List ℕ) → clause_allows ask clause ≡ true → ClauseAllows ask clause
clause_allowed ask clause e =
    let a = words_allowed ask (words_of clause) e in
    record { rights = a.rights; conditions = a.conditions; grammar = a.grammar; letter = a.letter; met = a.met }

allowed_clause : (ask : Operation) (clause : List ℕ) → ClauseAllows ask clause → clause_allows ask clause ≡ true
allowed_clause ask clause a = allowed_words ask a.rights a.conditions (words_of clause) a.grammar a.letter a.met

-- the test says what the grammar says
pub cap_allows-is : (text : List ℕ) (ask : Operation) → IsTrue (cap_allows text ask) ↔ CapAllows text ask
unfolding cap_allows
cap_allows-is text ask = (
  λ e. let some = Any-from_list_any (clause_allows ask) (clauses_of text) e in (some.0, some.1, some.2, some.3, clause_allowed ask some.1 some.4),
  λ some. list_any-from_Any (clause_allows ask) (clauses_of text) (some.0, some.1, some.2, some.3, allowed_clause ask some.1 some.4),
)

pub allows_exactly : (text : List ℕ) (ask : Operation) (answer : Bool) → answer ≡ cap_allows text ask → IsTrue answer ↔ CapAllows text ask
allows_exactly text ask answer e =
    let law = cap_allows-is text ask in
    (λ yes. law.0 (sym e ∙ yes), λ some. e ∙ law.1 some)

pub allowed : (text : List ℕ) (ask : Operation) → cap_allows text ask ≡ true → CapAllows text ask
allowed text ask e = (cap_allows-is text ask).0 e

pub denied : (text : List ℕ) (ask : Operation) → cap_allows text ask ≡ false → CapAllows text ask → ⊥
denied text ask e some = let allows : cap_allows text ask ≡ true = (cap_allows-is text ask).1 some in cc

pub clauses_counted : (text : List ℕ) → length (clauses_of text) ≡ count_by is_comma text + 1
clauses_counted text = length-slice_split is_comma text
