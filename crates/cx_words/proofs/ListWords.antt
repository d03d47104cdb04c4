-- Lists of services: what is read was spelled so, and what is spelled is read again.
use Rattle.std.proofs.Common.{◌≡◌, ℕ, ◌+◌, ◌-◌, ◌<◌, ◌≤◌, Bool, true, false, cond, List, [], ◌∷◌, ◌++◌, take, drop, length, map, nat_le, Option, Some, None, IsTrue, refl, sym, ap, ◌∙◌, arith, append_assoc, lit<, length-drop}
use Rattle.std.specs.Prelude.{option_map, option_and_then}
use Rattle.std.specs.List.{list_all, list_any, join_with_byte, position_from}
use Rattle.std.proofs.lemmas.Bool.{and_parts, and_from, not-true}
use Rattle.std.proofs.lemmas.Bool.Decides.{nat_tests, Decides-eqb}
use Rattle.cx_base.specs.Names.{is_daemon_type, type_word}
use Rattle.cx_base.specs.declared.kinds.EntityType.{EntityType}
use Rattle.cx_base.specs.declared.kinds.EntityType.TheVariants.{Mon, Mds, Osd, Client, Mgr, Auth}
use Rattle.cx_words.specs.Cutting.{onto_first}
use Rattle.cx_words.specs.Words.{all_services, in_front, is_comma, is_service_list, pieces_of, repeats, services_of, services_word, ticket_service_of, without_repeats}
use Rattle.cx_words.proofs.NameWords.{ticket_service_of-is, ticket_service_of-word}
use Rattle.cx_words.proofs.Pieces.{pieces_behind, pieces_alone, pieces_cut, pieces_whole}
use Rattle.cx_words.proofs.FirstPlace.{take_rest}

-- ---- pieces

-- the pieces, joined by commas
join_front : (b : ℕ) (pieces : List (List ℕ)) → 0 < length pieces → join_with_byte 44 (onto_first b pieces) ≡ b ∷ join_with_byte 44 pieces
join_front b [] some = absurd (omega arith)
join_front b (p ∷ []) some = refl
join_front b (p ∷ q ∷ pieces) some = refl

front_some : (b : ℕ) (pieces : List (List ℕ)) → 0 < length (onto_first b pieces)
front_some b [] = lit< tt
front_some b (p ∷ pieces) = omega arith

piece_some : (b : ℕ) (bs : List ℕ) (hit : Bool) → 0 < length (pieces_of bs)
    → 0 < length (cond hit ([] ∷ pieces_of bs) (onto_first b (pieces_of bs)))
piece_some b bs true some = omega arith
piece_some b bs false some = front_some b (pieces_of bs)

pieces_some : (word : List ℕ) → 0 < length (pieces_of word)
unfolding pieces_of
pieces_some [] = lit< tt
pieces_some (b ∷ bs) = piece_some b bs (is_comma b) (pieces_some bs)

join_comma : (pieces : List (List ℕ)) → 0 < length pieces → join_with_byte 44 ([] ∷ pieces) ≡ 44 ∷ join_with_byte 44 pieces
join_comma [] some = absurd (omega arith)
join_comma (p ∷ pieces) some = refl

join_step : (b : ℕ) (bs : List ℕ) (hit : Bool) → is_comma b ≡ hit → join_with_byte 44 (pieces_of bs) ≡ bs
    → join_with_byte 44 (cond hit ([] ∷ pieces_of bs) (onto_first b (pieces_of bs))) ≡ b ∷ bs
join_step b bs true h rest =
    let comma : 44 ≡ b = sym ((Decides-eqb b 44).0 h) in
    join_comma (pieces_of bs) (pieces_some bs) ∙ ap (λ ys. 44 ∷ ys) rest ∙ ap (λ c. c ∷ bs) comma
join_step b bs false h rest = join_front b (pieces_of bs) (pieces_some bs) ∙ ap (λ ys. b ∷ ys) rest

join_pieces : (word : List ℕ) → join_with_byte 44 (pieces_of word) ≡ word
unfolding pieces_of
join_pieces [] = refl
join_pieces (b ∷ bs) = join_step b bs (is_comma b) refl (join_pieces bs)

-- ---- what is read

-- these words are those of these services
record Read (words : List (List ℕ)) (kinds : List EntityType) : Type 0 where
  spelled : words ≡ map type_word kinds
  asked : list_all is_daemon_type kinds ≡ true

front_cases : (kind : Option EntityType) (rest : Option (List EntityType)) (kinds : List EntityType) → in_front kind rest ≡ Some kinds
    → (k : EntityType) × (ks : List EntityType) × (kind ≡ Some k) × (rest ≡ Some ks) × (k ∷ ks ≡ kinds)
front_cases None rest kinds e = absurd (let p : None ≡ Some kinds = e in cc)
front_cases (Some k) None kinds e = absurd (let p : None ≡ Some kinds = e in cc)
front_cases (Some k) (Some ks) kinds e = (k, ks, refl, refl, let p : Some (k ∷ ks) ≡ Some kinds = e in cc)

all_is : (words : List (List ℕ)) (kinds : List EntityType) → all_services words ≡ Some kinds → Read words kinds
unfolding all_services
all_is [] kinds e =
    let same : [] ≡ kinds = (let p : Some [] ≡ Some kinds = e in cc) in
    record { spelled = ap (map type_word) same; asked = ap (list_all is_daemon_type) (sym same) }
all_is (word ∷ words) kinds e =
    let parts = front_cases (ticket_service_of word) (all_services words) kinds e in
    let first = ticket_service_of-is word parts.0 parts.2 in
    let rest = all_is words parts.1 parts.3 in
    record {
      spelled = ap (λ w. w ∷ words) first.1 ∙ ap (λ ws. type_word parts.0 ∷ ws) rest.spelled ∙ ap (map type_word) parts.4;
      asked = ap (list_all is_daemon_type) (sym parts.4) ∙ and_from (is_daemon_type parts.0) (list_all is_daemon_type parts.1) first.0 rest.asked;
    }

some_kinds : (words : List (List ℕ)) (kinds : List EntityType) → words ≡ map type_word kinds → 0 < length words → nat_le 1 (length kinds) ≡ true
some_kinds words [] e some = absurd (let n = ap length e in omega (arith, n))
some_kinds words (kind ∷ kinds) e some = grind (arith, nat_tests)

repeats_cases : (kinds found : List EntityType) (b : Bool) → repeats found ≡ b → cond b None (Some found) ≡ Some kinds
    → (found ≡ kinds) × (repeats found ≡ false)
repeats_cases kinds found true hit e = absurd (let p : None ≡ Some kinds = e in cc)
repeats_cases kinds found false miss e = (let p : Some found ≡ Some kinds = e in cc, miss)

list_is : (word : List ℕ) (kinds : List EntityType) (found : Option (List EntityType)) → all_services (pieces_of word) ≡ found
    → option_and_then without_repeats found ≡ Some kinds → IsTrue (is_service_list kinds) × (word ≡ services_word kinds)
list_is word kinds None f e = absurd (let p : None ≡ Some kinds = e in cc)
list_is word kinds (Some found) f e =
    let once = repeats_cases kinds found (repeats found) refl e in
    let read = all_is (pieces_of word) kinds (f ∙ ap Some once.0) in
    let some = some_kinds (pieces_of word) kinds read.spelled (pieces_some word) in
    let apart : repeats kinds ≡ false = ap repeats (sym once.0) ∙ once.1 in (
      rw (some, read.asked, apart) refl,
      sym (join_pieces word) ∙ ap (join_with_byte 44) read.spelled,
    )

pub services_of-is : (word : List ℕ) (kinds : List EntityType) → services_of word ≡ Some kinds
    → IsTrue (is_service_list kinds) × (word ≡ services_word kinds)
unfolding services_of
services_of-is word kinds e = list_is word kinds (all_services (pieces_of word)) refl e

-- ---- what is spelled

no_comma : (kind : EntityType) → list_any is_comma (type_word kind) ≡ false
no_comma Mon = refl
no_comma Mds = refl
no_comma Osd = refl
no_comma Client = refl
no_comma Mgr = refl
no_comma Auth = refl

pieces_joined : (kind : EntityType) (kinds : List EntityType) → pieces_of (services_word (kind ∷ kinds)) ≡ map type_word (kind ∷ kinds)
pieces_joined kind [] = pieces_alone (type_word kind) (no_comma kind)
pieces_joined kind (next ∷ kinds) =
    pieces_behind (type_word kind) 44 (services_word (next ∷ kinds)) (no_comma kind) refl
    ∙ ap (λ ws. type_word kind ∷ ws) (pieces_joined next kinds)

all_read : (kinds : List EntityType) → list_all is_daemon_type kinds ≡ true → all_services (map type_word kinds) ≡ Some kinds
unfolding all_services
all_read [] h = refl
all_read (kind ∷ kinds) h =
    let parts = and_parts (is_daemon_type kind) (list_all is_daemon_type kinds) h in
    rw (ticket_service_of-word kind parts.0, all_read kinds parts.1) refl

pub services_of-word : (kinds : List EntityType) → IsTrue (is_service_list kinds) → services_of (services_word kinds) ≡ Some kinds
unfolding services_of
services_of-word [] h = absurd (let p : false ≡ true = h in cc)
services_of-word (kind ∷ kinds) h =
    let all : list_all is_daemon_type (kind ∷ kinds) ≡ true = (and_parts _ _ ((and_parts _ _ h).0)).1 in
    let once : repeats (kind ∷ kinds) ≡ false = not-true (repeats (kind ∷ kinds)) ((and_parts _ _ h).1) in
    ap (option_and_then without_repeats) (ap all_services (pieces_joined kind kinds) ∙ all_read (kind ∷ kinds) all)
    ∙ ap (λ t. cond t None (Some (kind ∷ kinds))) once

-- ---- what the readers of words say

moved : (found more : List EntityType) (kind : EntityType) (first : Option EntityType) (rest : Option (List EntityType))
    → Some kind ≡ first → more ≡ found ++ kind ∷ []
    → option_map (λ kinds. found ++ kinds) (in_front first rest) ≡ option_map (λ kinds. more ++ kinds) rest
moved found more kind None rest e is_more = absurd cc
moved found more kind (Some first) None e is_more = refl
moved found more kind (Some first) (Some kinds) e is_more =
    let same : kind ≡ first = cc in
    ap Some (ap (λ k. found ++ k ∷ kinds) (sym same) ∙ sym (append_assoc found (kind ∷ []) kinds) ∙ ap (λ ks. ks ++ kinds) (sym is_more))

-- a step over a comma: what was read and what is left stay together
pub after_comma : (found more : List EntityType) (kind : EntityType) (rest : List ℕ) (place : ℕ) (all : Option (List EntityType))
    → all ≡ option_map (λ kinds. found ++ kinds) (all_services (pieces_of rest)) → position_from is_comma 0 rest ≡ Some place
    → Some kind ≡ ticket_service_of (take place rest) → more ≡ found ++ kind ∷ []
    → all ≡ option_map (λ kinds. more ++ kinds) (all_services (pieces_of (take (length rest - (place + 1)) (drop (place + 1) rest))))
unfolding all_services
after_comma found more kind rest place all is_all here is_kind is_more =
    rw (take_rest (place + 1) rest)
    (is_all ∙ ap (λ ws. option_map (λ kinds. found ++ kinds) (all_services ws)) (pieces_cut rest place here)
    ∙ moved found more kind (ticket_service_of (take place rest)) (all_services (pieces_of (drop (place + 1) rest))) is_kind is_more)

pub shorter_rest : (rest : List ℕ) (place bound : ℕ) → length rest ≤ bound → length (take (length rest - (place + 1)) (drop (place + 1) rest)) ≤ bound
shorter_rest rest place bound le = rw (take_rest (place + 1) rest) (omega (arith, length-drop (place + 1) rest))

-- a piece that names no service ends the reading
pub refused_comma : (found : List EntityType) (rest : List ℕ) (place : ℕ) (all : Option (List EntityType))
    → all ≡ option_map (λ kinds. found ++ kinds) (all_services (pieces_of rest)) → position_from is_comma 0 rest ≡ Some place
    → None ≡ ticket_service_of (take place rest) → None ≡ all
unfolding all_services
refused_comma found rest place all is_all here is_none =
    sym (is_all ∙ ap (λ ws. option_map (λ kinds. found ++ kinds) (all_services ws)) (pieces_cut rest place here)
    ∙ ap (λ kind. option_map (λ kinds. found ++ kinds) (in_front kind (all_services (pieces_of (drop (place + 1) rest))))) (sym is_none))

-- the last piece
pub last_piece : (found more : List EntityType) (kind : EntityType) (rest : List ℕ) (all : Option (List EntityType))
    → all ≡ option_map (λ kinds. found ++ kinds) (all_services (pieces_of rest)) → position_from is_comma 0 rest ≡ None
    → Some kind ≡ ticket_service_of rest → more ≡ found ++ kind ∷ [] → Some more ≡ all
unfolding all_services
last_piece found more kind rest all is_all here is_kind is_more =
    sym (is_all ∙ ap (λ ws. option_map (λ kinds. found ++ kinds) (all_services ws)) (pieces_whole rest here)
    ∙ ap (λ k. option_map (λ kinds. found ++ kinds) (in_front k (Some []))) (sym is_kind) ∙ ap Some (sym is_more))

pub refused_last : (found : List EntityType) (rest : List ℕ) (all : Option (List EntityType))
    → all ≡ option_map (λ kinds. found ++ kinds) (all_services (pieces_of rest)) → position_from is_comma 0 rest ≡ None
    → None ≡ ticket_service_of rest → None ≡ all
unfolding all_services
refused_last found rest all is_all here is_none =
    sym (is_all ∙ ap (λ ws. option_map (λ kinds. found ++ kinds) (all_services ws)) (pieces_whole rest here)
    ∙ ap (λ k. option_map (λ kinds. found ++ kinds) (in_front k (Some []))) (sym is_none))
