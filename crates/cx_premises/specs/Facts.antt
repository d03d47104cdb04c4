-- What an entry of a log leaves behind, by which later entries are judged.
use Rattle.std.specs.Prelude.{ℕ, ◌≡◌, ◌+◌, ◌*◌, ◌%◌, ◌^◌, Bool, true, false, List, [], ◌∷◌, Option, Some, None, IsTrue, ◌↔◌, ◌||◌, cond, take, slice_index}
use Rattle.std.specs.Int.{w32, from_le_bytes}
use Rattle.std.specs.List.{list_any}
use Rattle.cx_base.specs.Names.{Name}
use Rattle.cx_words.specs.lines.Named.{is_among}
use Rattle.cx_premises.specs.declared.facts.Fact.{Fact}
use Rattle.cx_premises.specs.declared.facts.Fact.TheVariants as fact
use Rattle.cx_premises.specs.contracts.facts.FactPartialEq.TheImpl as fact_equality
use Rattle.cx_steps.specs.Onto.{SomeOf}
use Rattle.cx_steps.specs.declared.seals.DrawMark.{DrawMark}
use Rattle.cx_steps.specs.declared.seals.DrawMark.TheVariants as draw
use Rattle.cx_steps.specs.declared.seals.Logged.{Logged}
use Rattle.cx_steps.specs.declared.seals.SealEntry.{SealEntry}
use Rattle.cx_steps.specs.declared.seals.SealEntry.TheVariants as entry
use Rattle.cx_steps.specs.declared.seals.SealMark.{SealMark}

-- the number in the four bytes from a place on
abbrev pub four_at : List ℕ → ℕ → ℕ
four_at bytes place =
    from_le_bytes w32
    (slice_index bytes place ∷ slice_index bytes (place + 1) ∷ slice_index bytes (place + 2) ∷ slice_index bytes (place + 3) ∷ [])

-- a number by which contents under keys are soon told apart: bytes of the key, and below them the count in a nonce, where a content begins with that,
-- and bytes of a session key, where one has that
abbrev pub number_in : List ℕ → List ℕ → ℕ
number_in key bytes = four_at key 0 * 2 ^ 32 + (four_at bytes 4 + four_at bytes 16) % 2 ^ 32

-- a number by which facts are soon told apart
abbrev pub number_of : Fact → ℕ
number_of (fact.Sealed content key) = number_in key content
number_of (fact.Signed content key) = number_in key content
number_of (fact.Key key) = number_in key key
number_of (fact.LeakedKey key) = number_in key key
number_of (fact.Challenge value) = value
number_of (fact.Nonce value) = value
number_of (fact.Cookie value) = value

abbrev pub sealed_fact : SealMark → Fact
sealed_fact mark = fact.Sealed mark.content mark.key

abbrev pub signed_fact : SealMark → Fact
signed_fact mark = fact.Signed mark.content mark.key

-- a key that was drawn, for a leaked client or not
abbrev pub key_fact : Bool → List ℕ → Fact
key_fact true key = fact.LeakedKey key
key_fact false key = fact.Key key

-- what a draw leaves, where these clients leaked
abbrev pub draw_fact : List Name → DrawMark → Fact
draw_fact leaked (draw.Principal secret whose) = key_fact (is_among leaked whose) secret
draw_fact leaked (draw.Connection secret whose) = key_fact (is_among leaked whose) (take 16 secret)
draw_fact leaked (draw.Session key whose) = key_fact (is_among leaked whose) key
draw_fact leaked (draw.Rotation key) = fact.Key key
draw_fact leaked (draw.Challenge value) = fact.Challenge value
draw_fact leaked (draw.Nonce value) = fact.Nonce value
draw_fact leaked (draw.Cookie value) = fact.Cookie value

-- what an entry leaves
abbrev pub fact_of : List Name → SealEntry → Option Fact
fact_of leaked (entry.Sealed mark) = Some (sealed_fact mark)
fact_of leaked (entry.Signed mark) = Some (signed_fact mark)
fact_of leaked (entry.Drawn mark) = Some (draw_fact leaked mark)
fact_of leaked _ = None

-- ---- what is kept of a log

abbrev pub is_same : Fact → Fact → Bool
is_same = (fact_equality.ghosts).eq

abbrev pub is_kept : List Fact → Fact → Bool
is_kept facts wanted = list_any (is_same wanted) facts

-- whether what is kept has a draw that this one repeats
abbrev pub is_repeated : List Fact → Fact → Bool
is_repeated facts (fact.Key key) = is_kept facts (fact.Key key) || is_kept facts (fact.LeakedKey key)
is_repeated facts (fact.LeakedKey key) = is_kept facts (fact.Key key) || is_kept facts (fact.LeakedKey key)
is_repeated facts drawn = is_kept facts drawn

-- whether what is kept has the key of a draw in the other form
abbrev pub has_twin : List Fact → Fact → Bool
has_twin facts (fact.Key key) = is_kept facts (fact.LeakedKey key)
has_twin facts (fact.LeakedKey key) = is_kept facts (fact.Key key)
has_twin facts _ = false

-- the fact is among them now, and the others are those that were
pub record Adds (old new : List Fact) (added : Fact) : Type 0 where
  pub each : (left : Fact) → is_kept new left ≡ cond (is_same added left) true (is_kept old left)

-- an entry of the log left this
abbrev pub HasLeft : List Name → List Logged → Fact → Type 0
HasLeft leaked log left = SomeOf (λ at. fact_of leaked at.entry ≡ Some left) log

-- what is kept is what the log left: what was sealed and signed, the keys that were drawn, and the other draws by their kinds
pub record AreLeft (leaked : List Name) (log : List Logged) (facts : List Fact) : Type 0 where
  pub each : (left : Fact) → IsTrue (is_kept facts left) ↔ HasLeft leaked log left
