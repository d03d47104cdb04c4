-- Words have no fault exactly where each is good at its place and the line may stand there.
use Rattle.std.proofs.Common.{◌≡◌, ℕ, ◌+◌, Bool, true, false, cond, List, [], ◌∷◌, ◌++◌, length, Option, Some, None, refl, arith}
use Rattle.std.specs.Prelude.{◌==◌, is_none, is_some, nat_lt, codes}
use Rattle.std.specs.List.{list_any}
use Rattle.std.specs.Str.{bytes_eq}
use Rattle.std.proofs.lemmas.Bool.{and_parts}
use Rattle.std.proofs.lemmas.Bool.Decides.{nat_tests}
use Rattle.cx_words.specs.Words.{number_of, reading_of, name_of, service_of, services_of, access_of, part_of, hex_of, caps_of}
use Rattle.cx_words.specs.declared.faults.FaultAt.{FaultAt}
use Rattle.cx_words.specs.declared.faults.LineFault.{LineFault}
use Rattle.cx_words.specs.declared.faults.LineFault.TheVariants.{UnknownWord, Missing, Extra, BadNumber, BadName, BadText, UnknownNode, Repeated, Order}
use Rattle.cx_words.specs.declared.known.Known.{Known}
use Rattle.cx_words.specs.declared.places.WordPlace.{WordPlace}
use Rattle.cx_words.specs.declared.places.WordPlace.TheVariants as at
use Rattle.cx_words.specs.lines.Choices.{command_form_of, modes_of, side_of, state_of}
use Rattle.cx_words.specs.lines.Faults.{at_first, extra, fault_among, fault_at, first_fault, first_with, is_fault, missing, number_with, or_fault, or_number}
use Rattle.cx_words.specs.lines.Known.{is_client, is_daemon, is_declarable, is_node, is_seeded}
use Rattle.cx_words.specs.lines.Named.{is_among}
use Rattle.cx_words.specs.lines.Places.{are_good, is_good, is_whole, known_fault, name_fault, never, node_of, passes, service_fault, unless, word_fault}
use Rattle.cx_words.specs.lines.Values.{is_fit, is_life}

-- ---- good words have no fault

no_fault : (found : Option LineFault) → is_none found ≡ true → found ≡ None
no_fault None good = refl
no_fault (Some why) good = absurd (let e : false ≡ true = good in cc)

first_none : (known : Known) (why : LineFault) (before : List (List ℕ)) (places : List WordPlace) (words : List (List ℕ)) → are_good known before places words ≡ true → first_with known why before places words ≡ None
first_none e why b [] ws g = refl
first_none e why b (p ∷ ps) [] g = refl
first_none e why b (p ∷ ps) (w ∷ ws) g =
    let parts = and_parts (is_good e b p w) (are_good e (b ++ w ∷ []) ps ws) g in
    let none : word_fault e b p w ≡ None = no_fault (word_fault e b p w) parts.0 in
    rw none (first_none e why (b ++ w ∷ []) ps ws parts.1)

none_missing : (wanted found : ℕ) → wanted ≡ found → missing wanted found ≡ None
none_missing wanted found same = let e : nat_lt found wanted ≡ false = grind (arith, nat_tests, same) in rw e refl

none_extra : (wanted found : ℕ) → wanted ≡ found → extra wanted found ≡ None
none_extra wanted found same = let e : nat_lt wanted found ≡ false = grind (arith, nat_tests, same) in rw e refl

pub none_among : (known : Known) (spent late : Bool) (places : List WordPlace) (words : List (List ℕ)) → length places ≡ length words → are_good known [] places words ≡ true → spent ≡ false → late ≡ false → fault_among known spent late places words ≡ None
none_among k spent late ps ws same good once early =
    rw (none_missing (length ps) (length ws) same, none_extra (length ps) (length ws) same, first_none k BadNumber [] ps ws good, first_none k BadName [] ps ws good, first_none k BadText [] ps ws good, first_none k UnknownNode [] ps ws good, once, first_none k Repeated [] ps ws good, early) refl

-- ---- words without a fault are good

-- the faults that a word can have at its place
abbrev IsOfWord : Option LineFault → Type 0
IsOfWord None = Unit {0}
IsOfWord (Some BadNumber) = Unit {0}
IsOfWord (Some BadName) = Unit {0}
IsOfWord (Some BadText) = Unit {0}
IsOfWord (Some UnknownNode) = Unit {0}
IsOfWord (Some Repeated) = Unit {0}
IsOfWord (Some UnknownWord) = ⊥
IsOfWord (Some Missing) = ⊥
IsOfWord (Some Extra) = ⊥
IsOfWord (Some Order) = ⊥

of_unless : (b : Bool) (why : LineFault) → IsOfWord (Some why) → IsOfWord (unless b why)
of_unless true why is = tt
of_unless false why is = is

of_known : (known again : Bool) → IsOfWord (known_fault known again)
of_known true true = tt
of_known true false = tt
of_known false again = tt

of_name : {X : Type 0} (known again : X → Bool) (found : Option X) → IsOfWord (name_fault known again found)
of_name known again None = tt
of_name known again (Some n) = of_known (known n) (again n)

of_service : (found again : Bool) → IsOfWord (service_fault found again)
of_service true true = tt
of_service true false = tt
of_service false again = tt

of_word : (known : Known) (before : List (List ℕ)) (place : WordPlace) (word : List ℕ) → IsOfWord (word_fault known before place word)
of_word k b at.Life w = of_unless (passes is_life (number_of w)) BadNumber tt
of_word k b at.Reading w = of_unless (is_some (reading_of w)) BadNumber tt
of_word k b at.Number w = of_unless (is_some (number_of w)) BadNumber tt
of_word k b at.Entity w = of_name is_declarable (is_among k.declared) (name_of w)
of_word k b at.Service w = of_service (is_some (service_of w)) (list_any (bytes_eq w) b)
of_word k b at.Caps w = of_unless (is_some (caps_of w)) BadText tt
of_word k b at.Client w = of_name (is_client k) never (name_of w)
of_word k b at.Unmoded w = of_name (is_client k) (is_among k.moded) (name_of w)
of_word k b at.Unleaked w = of_name (is_client k) (is_among k.leaked) (name_of w)
of_word k b at.Daemon w = of_name (is_daemon k) never (name_of w)
of_word k b at.Node w = of_name (is_node k) never (node_of w)
of_word k b at.Unseeded w = of_name (is_node k) (is_seeded k) (node_of w)
of_word k b at.Services w = of_unless (is_some (services_of w)) BadText tt
of_word k b at.Access w = of_unless (is_some (access_of w)) BadText tt
of_word k b at.Part w = of_unless (is_some (part_of w)) BadText tt
of_word k b at.Data w = of_unless (passes is_fit (hex_of w)) BadText tt
of_word k b at.Bytes w = of_unless (is_some (hex_of w)) BadText tt
of_word k b at.Modes w = of_unless (is_some (modes_of w)) BadText tt
of_word k b at.Side w = of_unless (is_some (side_of w)) BadText tt
of_word k b at.Lossy w = of_unless (bytes_eq w (codes "lossy")) BadText tt
of_word k b at.LeftState w = of_unless (is_some (state_of w)) BadText tt
of_word k b at.Command w = of_unless (is_some (command_form_of w)) BadText tt
of_word k b at.Anything w = tt

-- a word without one of those has none
good_of : (found : Option LineFault) → IsOfWord found → is_fault BadNumber found ≡ false → is_fault BadName found ≡ false → is_fault BadText found ≡ false → is_fault UnknownNode found ≡ false → is_fault Repeated found ≡ false → is_none found ≡ true
good_of None is a b c d f = refl
good_of (Some BadNumber) is a b c d f = absurd (let e : true ≡ false = a in cc)
good_of (Some BadName) is a b c d f = absurd (let e : true ≡ false = b in cc)
good_of (Some BadText) is a b c d f = absurd (let e : true ≡ false = c in cc)
good_of (Some UnknownNode) is a b c d f = absurd (let e : true ≡ false = d in cc)
good_of (Some Repeated) is a b c d f = absurd (let e : true ≡ false = f in cc)
good_of (Some UnknownWord) is a b c d f = absurd is
good_of (Some Missing) is a b c d f = absurd is
good_of (Some Extra) is a b c d f = absurd is
good_of (Some Order) is a b c d f = absurd is

-- no word has the fault
parted : (b : Bool) (n : ℕ) (rest : Option ℕ) → cond b (Some n) rest ≡ None → (b ≡ false) × (rest ≡ None)
parted true n rest none = absurd (let e : Some n ≡ None = none in cc)
parted false n rest none = (refl, none)

record HasNone (known : Known) (before : List (List ℕ)) (places : List WordPlace) (words : List (List ℕ)) : Type 0 where
  numbers : first_with known BadNumber before places words ≡ None
  names : first_with known BadName before places words ≡ None
  texts : first_with known BadText before places words ≡ None
  nodes : first_with known UnknownNode before places words ≡ None
  again : first_with known Repeated before places words ≡ None

all_good : (known : Known) (before : List (List ℕ)) (places : List WordPlace) (words : List (List ℕ)) → length places ≡ length words → HasNone known before places words → are_good known before places words ≡ true
all_good e b [] [] same none = refl
all_good e b [] (w ∷ ws) same none = absurd (omega arith)
all_good e b (p ∷ ps) [] same none = absurd (omega arith)
all_good e b (p ∷ ps) (w ∷ ws) same none =
    let found = word_fault e b p w in
    let n : ℕ = length b + 2 in
    let next = b ++ w ∷ [] in
    let numbers = parted (is_fault BadNumber found) n (first_with e BadNumber next ps ws) none.numbers in
    let names = parted (is_fault BadName found) n (first_with e BadName next ps ws) none.names in
    let texts = parted (is_fault BadText found) n (first_with e BadText next ps ws) none.texts in
    let nodes = parted (is_fault UnknownNode found) n (first_with e UnknownNode next ps ws) none.nodes in
    let again = parted (is_fault Repeated found) n (first_with e Repeated next ps ws) none.again in
    let here : is_good e b p w ≡ true = good_of found (of_word e b p w) numbers.0 names.0 texts.0 nodes.0 again.0 in
    let left : length ps ≡ length ws = omega arith in
    let rest = all_good e next ps ws left (record { numbers = numbers.1; names = names.1; texts = texts.1; nodes = nodes.1; again = again.1 }) in
    rw (here, rest) refl

both_none : (why : LineFault) (found : Option ℕ) (other : Option FaultAt) → or_fault why found other ≡ None → (found ≡ None) × (other ≡ None)
both_none why None other none = (refl, none)
both_none why (Some n) other none = absurd (let e : Some (fault_at why n) ≡ None = none in cc)

neither : (found other : Option ℕ) → or_number found other ≡ None → (found ≡ None) × (other ≡ None)
neither None other none = (refl, none)
neither (Some n) other none = absurd (let e : Some n ≡ None = none in cc)

not_first : (b : Bool) → at_first b ≡ None → b ≡ false
not_first true none = absurd (let e : Some 1 ≡ None = none in cc)
not_first false none = refl

missing_none : (wanted found : ℕ) → missing wanted found ≡ None → nat_lt found wanted ≡ false
missing_none wanted found none = (parted (nat_lt found wanted) (wanted + 1) None none).0

extra_none : (wanted found : ℕ) → extra wanted found ≡ None → nat_lt wanted found ≡ false
extra_none wanted found none = (parted (nat_lt wanted found) (wanted + 2) None none).0

as_many : (a b : ℕ) → nat_lt a b ≡ false → nat_lt b a ≡ false → a ≡ b
as_many a b p q = grind (arith, nat_tests, p, q)

equal : (a b : ℕ) → a ≡ b → (a == b) ≡ true
equal a b e = grind (arith, nat_tests, e)

-- what words without a fault are
pub record IsFaultless (known : Known) (spent late : Bool) (places : List WordPlace) (words : List (List ℕ)) : Type 0 where
  pub good : are_good known [] places words ≡ true
  pub whole : is_whole known [] places words ≡ true
  pub once : spent ≡ false
  pub early : late ≡ false

pub faultless : (known : Known) (spent late : Bool) (places : List WordPlace) (words : List (List ℕ)) → fault_among known spent late places words ≡ None → IsFaultless known spent late places words
faultless k spent late ps ws none =
    let number = number_with k spent late ps ws in
    let a = both_none Missing (number Missing) (first_fault number (Extra ∷ BadNumber ∷ BadName ∷ BadText ∷ UnknownNode ∷ Repeated ∷ Order ∷ [])) none in
    let b = both_none Extra (number Extra) (first_fault number (BadNumber ∷ BadName ∷ BadText ∷ UnknownNode ∷ Repeated ∷ Order ∷ [])) a.1 in
    let c = both_none BadNumber (number BadNumber) (first_fault number (BadName ∷ BadText ∷ UnknownNode ∷ Repeated ∷ Order ∷ [])) b.1 in
    let d = both_none BadName (number BadName) (first_fault number (BadText ∷ UnknownNode ∷ Repeated ∷ Order ∷ [])) c.1 in
    let f = both_none BadText (number BadText) (first_fault number (UnknownNode ∷ Repeated ∷ Order ∷ [])) d.1 in
    let g = both_none UnknownNode (number UnknownNode) (first_fault number (Repeated ∷ Order ∷ [])) f.1 in
    let h = both_none Repeated (number Repeated) (first_fault number (Order ∷ [])) g.1 in
    let i = both_none Order (number Order) None h.1 in
    let again = neither (at_first spent) (first_with k Repeated [] ps ws) h.0 in
    let same : length ps ≡ length ws = as_many (length ps) (length ws) (extra_none (length ps) (length ws) b.0) (missing_none (length ps) (length ws) a.0) in
    let all = all_good k [] ps ws same (record { numbers = c.0; names = d.0; texts = f.0; nodes = g.0; again = again.1 }) in
    record {
      good = all;
      whole = rw (equal (length ps) (length ws) same, all) refl;
      once = not_first spent again.0;
      early = not_first late i.0;
    }

-- ---- why words have a fault
