-- What is handled and what is sent, entry by entry.
use Rattle.std.proofs.Common.{◌≡◌, ℕ, suc, ◌-◌, Bool, true, false, cond, List, [], ◌∷◌, ◌++◌, length, Option, Some, None, refl, sym, ap, ◌∙◌, ◌==◌, arith, append-nil, append_assoc, eq-eqb}
use Rattle.std.specs.Prelude.{◌&&◌}
use Rattle.std.specs.List.{cons_option, filter_map}
use Rattle.std.specs.Option.{option_map_or}
use Rattle.std.specs.Str.{bytes_eq}
use Rattle.std.proofs.lemmas.Bool.{eqb-true}
use Rattle.std.proofs.lemmas.Bool.Decides.{nat_tests}
use Rattle.std.proofs.lemmas.List.Elements.{filter_map-append}
use Rattle.cx_base.specs.Names.{Name, same_name}
use Rattle.cx_base.specs.declared.kinds.Access.{Access}
use Rattle.cx_base.specs.declared.kinds.Access.TheVariants.{Read, Write, Exec}
use Rattle.cx_base.specs.declared.operations.Operation.{Operation}
use Rattle.cx_base.proofs.Names.{same_name_is, same_name_self}
use Rattle.cx_journal.specs.Behind.{EachBehind}
use Rattle.cx_journal.specs.Leaks.{IsUnleaked}
use Rattle.cx_journal.specs.PrefixOfSent.{IsPrefix, all_handled_under, handled_under, sent_under}
use Rattle.cx_journal.specs.Sessions.{session_at}
use Rattle.cx_journal.specs.declared.entries.Admitted.{Admitted}
use Rattle.cx_journal.specs.declared.entries.Entry.{Entry}
use Rattle.cx_journal.specs.declared.entries.Entry.TheVariants as entry
use Rattle.cx_journal.specs.declared.entries.Handled.{Handled}
use Rattle.cx_journal.proofs.SessionLemmas.{session_from}
use Rattle.cx_audit.specs.ruled.Rules.{KeepsOrderBy}
use Rattle.cx_audit.specs.ruled.Tests.{is_sent, is_sent_behind, same_access, same_operation}
use Rattle.cx_audit.proofs.ruled.Tests.{both, unequal}
use Rattle.cx_audit.proofs.ruled.TicketLaws.{same_bytes_are, same_bytes_self}

-- ---- lists that carry the earlier entries

cons_append : {X : Type 0} (o : Option X) (xs ys : List X) → cons_option o xs ++ ys ≡ cons_option o (xs ++ ys)
cons_append None xs ys = refl
cons_append (Some x) xs ys = refl

pub handled_push : (c : ℕ) (n : Name) (earlier xs : List Entry) (e : Entry)
    → all_handled_under c n earlier (xs ++ e ∷ []) ≡ all_handled_under c n earlier xs ++ cons_option (handled_under c n (earlier ++ xs) e) []
handled_push c n earlier [] e = ap (λ es. cons_option (handled_under c n es e) []) (sym (append-nil earlier))
handled_push c n earlier (x ∷ xs) e =
    ap (cons_option (handled_under c n earlier x)) (handled_push c n (earlier ++ x ∷ []) xs e)
    ∙ sym (cons_append (handled_under c n earlier x) (all_handled_under c n (earlier ++ x ∷ []) xs) (cons_option (handled_under c n ((earlier ++ x ∷ []) ++ xs) e) []))
    ∙ ap (λ es. all_handled_under c n earlier (x ∷ xs) ++ cons_option (handled_under c n es e) []) (append_assoc earlier (x ∷ []) xs)

pub sent_push : (c : ℕ) (n : Name) (xs : List Entry) (e : Entry) → filter_map (sent_under c n) (xs ++ e ∷ []) ≡ filter_map (sent_under c n) xs ++ cons_option (sent_under c n e) []
sent_push c n xs e = filter_map-append (sent_under c n) xs (e ∷ [])

abbrev pub pair_of : Handled → ℕ × Operation
pair_of h = (h.seq, h.operation)

-- ---- what is sent next

abbrev pub is_at : ℕ × Operation → ℕ → List (ℕ × Operation) → Bool
is_at what left [] = false
is_at what left (s ∷ ss) = cond (left == 0) (is_sent s what) (is_at what (left - 1) ss)

sent_step : (c : ℕ) (n : Name) (what : ℕ × Operation) (left : ℕ) (o : Option (ℕ × Operation)) (es : List Entry)
    → ((k : ℕ) → is_sent_behind c n what k es ≡ is_at what k (filter_map (sent_under c n) es))
    → option_map_or (λ sent. cond (left == 0) (is_sent sent what) (is_sent_behind c n what (left - 1) es)) o (is_sent_behind c n what left es)
    ≡ is_at what left (cons_option o (filter_map (sent_under c n) es))
sent_step c n what left None es same = same left
sent_step c n what left (Some s) es same = ap (λ b. cond (left == 0) (is_sent s what) b) (same (left - 1))

pub sent_is : (c : ℕ) (n : Name) (what : ℕ × Operation) (es : List Entry) (left : ℕ) → is_sent_behind c n what left es ≡ is_at what left (filter_map (sent_under c n) es)
sent_is c n what [] left = refl
sent_is c n what (e ∷ es) left = sent_step c n what left (sent_under c n e) es (sent_is c n what es)

is_behind : (what : ℕ × Operation) (front rest : List (ℕ × Operation)) → is_at what (length front) (front ++ rest) ≡ is_at what 0 rest
is_behind what [] rest = refl
is_behind what (s ∷ front) rest =
    let apart : (suc (length front) == 0) ≡ false = grind (arith, nat_tests) in
    let one : suc (length front) - 1 ≡ length front = omega arith in
    ap (λ b. cond b (is_sent s what) (is_at what (suc (length front) - 1) (front ++ rest))) apart ∙ ap (λ k. is_at what k (front ++ rest)) one ∙ is_behind what front rest

access_is : (a b : Access) → same_access a b ≡ true → a ≡ b
access_is Read Read e = refl
access_is Write Write e = refl
access_is Exec Exec e = refl
access_is _ _ e = cc

access_self : (a : Access) → same_access a a ≡ true
access_self Read = refl
access_self Write = refl
access_self Exec = refl

operation_is : (a b : Operation) → same_operation a b ≡ true → a ≡ b
operation_is a b e =
    let four = both (same_access a.access b.access && bytes_eq a.pool b.pool && bytes_eq a.namespace b.namespace && bytes_eq a.object b.object) (bytes_eq a.bytes b.bytes) e in
    let three = both (same_access a.access b.access && bytes_eq a.pool b.pool && bytes_eq a.namespace b.namespace) (bytes_eq a.object b.object) four.0 in
    let two = both (same_access a.access b.access && bytes_eq a.pool b.pool) (bytes_eq a.namespace b.namespace) three.0 in
    let one = both (same_access a.access b.access) (bytes_eq a.pool b.pool) two.0 in
    let with_access : Access → Operation = λ x. record { access = x; pool = a.pool; namespace = a.namespace; object = a.object; bytes = a.bytes } in
    let with_pool : List ℕ → Operation = λ x. record { access = b.access; pool = x; namespace = a.namespace; object = a.object; bytes = a.bytes } in
    let with_namespace : List ℕ → Operation = λ x. record { access = b.access; pool = b.pool; namespace = x; object = a.object; bytes = a.bytes } in
    let with_object : List ℕ → Operation = λ x. record { access = b.access; pool = b.pool; namespace = b.namespace; object = x; bytes = a.bytes } in
    let with_bytes : List ℕ → Operation = λ x. record { access = b.access; pool = b.pool; namespace = b.namespace; object = b.object; bytes = x } in
    ap with_access (access_is a.access b.access one.0) ∙ ap with_pool (same_bytes_are a.pool b.pool one.1) ∙ ap with_namespace (same_bytes_are a.namespace b.namespace two.1)
    ∙ ap with_object (same_bytes_are a.object b.object three.1) ∙ ap with_bytes (same_bytes_are a.bytes b.bytes four.1)

operation_self : (a : Operation) → same_operation a a ≡ true
operation_self a = rw (access_self a.access, same_bytes_self a.pool a.pool refl, same_bytes_self a.namespace a.namespace refl, same_bytes_self a.object a.object refl, same_bytes_self a.bytes a.bytes refl) refl

sent_same : (a b : ℕ × Operation) → is_sent a b ≡ true → a ≡ b
sent_same (q, o) (r, p) e =
    let parts = both (q == r) (same_operation o p) e in
    let seqs : q ≡ r = eqb-true q r parts.0 in
    let operations : o ≡ p = operation_is o p parts.1 in
    rw (seqs, operations) refl

sent_self : (a : ℕ × Operation) → is_sent a a ≡ true
sent_self (q, o) = rw (eq-eqb q q refl, operation_self o) refl

next_is : (what : ℕ × Operation) (rest : List (ℕ × Operation)) → is_at what 0 rest ≡ true → (more : List (ℕ × Operation)) × (rest ≡ what ∷ more)
next_is what [] e = unequal (sym e)
next_is what (s ∷ ss) e = (ss, ap (λ k. k ∷ ss) (sent_same s what e))

-- what was handled is a front of what was sent: with one operation more it is so exactly where that one was sent next
pub sent_next : (c : ℕ) (n : Name) (what : ℕ × Operation) (es : List Entry) (front : List (ℕ × Operation)) → IsPrefix front (filter_map (sent_under c n) es)
    → is_sent_behind c n what (length front) es ≡ true → IsPrefix (front ++ what ∷ []) (filter_map (sent_under c n) es)
sent_next c n what es front prefix e =
    let at : is_at what 0 prefix.0 ≡ true =
    sym (is_behind what front prefix.0) ∙ ap (is_at what (length front)) (sym prefix.1) ∙ sym (sent_is c n what es (length front)) ∙ e in
    let next = next_is what prefix.0 at in
    (next.0, prefix.1 ∙ ap (λ rest. front ++ rest) next.1 ∙ sym (append_assoc front (what ∷ []) next.0))

pub not_sent_next : (c : ℕ) (n : Name) (what : ℕ × Operation) (es : List Entry) (front : List (ℕ × Operation))
    → is_sent_behind c n what (length front) es ≡ false → IsPrefix (front ++ what ∷ []) (filter_map (sent_under c n) es) → ⊥
not_sent_next c n what es front e prefix =
    let whole : filter_map (sent_under c n) es ≡ front ++ what ∷ prefix.0 = prefix.1 ∙ append_assoc front (what ∷ []) prefix.0 in
    let at : is_at what (length front) (front ++ what ∷ prefix.0) ≡ false =
    ap (is_at what (length front)) (sym whole) ∙ sym (sent_is c n what es (length front)) ∙ e in
    unequal (sym (sent_self what) ∙ sym (is_behind what front (what ∷ prefix.0)) ∙ at)

-- ---- what is handled, at one entry

pub handled_one : (earlier : List Entry) (h : Handled) (s : Admitted) → session_at earlier h ≡ Some s
    → all_handled_under h.cookie s.entity [] (earlier ++ entry.Handled h ∷ []) ≡ all_handled_under h.cookie s.entity [] earlier ++ pair_of h ∷ []
handled_one earlier h s is =
    let under : handled_under h.cookie s.entity earlier (entry.Handled h) ≡ Some (pair_of h) = rw (eq-eqb h.cookie h.cookie refl, is, same_name_self s.entity) refl in
    handled_push h.cookie s.entity [] earlier (entry.Handled h) ∙ ap (λ o. all_handled_under h.cookie s.entity [] earlier ++ cons_option o []) under

longer : {X : Type 0} (front whole more : List X) → IsPrefix front whole → IsPrefix front (whole ++ more)
longer front whole more prefix = (prefix.0 ++ more, ap (λ w. w ++ more) prefix.1 ∙ append_assoc front prefix.0 more)

same_both : {X : Type 0} (front other whole same : List X) → other ≡ front → same ≡ whole → IsPrefix front whole → IsPrefix other same
same_both front other whole same fronts wholes prefix = (prefix.0, wholes ∙ prefix.1 ∙ ap (λ f. f ++ prefix.0) (sym fronts))

-- where the entry isn't handled there, what is handled stays
unhandled : (c : ℕ) (n : Name) (earlier : List Entry) (e : Entry) → handled_under c n earlier e ≡ None
    → IsPrefix (all_handled_under c n [] earlier) (filter_map (sent_under c n) earlier)
    → IsPrefix (all_handled_under c n [] (earlier ++ e ∷ [])) (filter_map (sent_under c n) (earlier ++ e ∷ []))
unhandled c n earlier e none prefix =
    same_both (all_handled_under c n [] earlier) (all_handled_under c n [] (earlier ++ e ∷ [])) (filter_map (sent_under c n) earlier ++ cons_option (sent_under c n e) []) (filter_map (sent_under c n) (earlier ++ e ∷ []))
    (handled_push c n [] earlier e ∙ ap (λ o. all_handled_under c n [] earlier ++ cons_option o []) none ∙ append-nil (all_handled_under c n [] earlier))
    (sent_push c n earlier e)
    (longer (all_handled_under c n [] earlier) (filter_map (sent_under c n) earlier) (cons_option (sent_under c n e) []) prefix)

moved : (earlier : List Entry) (h : Handled) (c d : ℕ) (n m : Name) → c ≡ d → n ≡ m
    → IsPrefix (all_handled_under c n [] (earlier ++ entry.Handled h ∷ [])) (filter_map (sent_under c n) earlier)
    → IsPrefix (all_handled_under d m [] (earlier ++ entry.Handled h ∷ [])) (filter_map (sent_under d m) earlier)
moved earlier h c d n m cookies entities prefix = rw (← cookies, ← entities) prefix

-- where it is, the rule of that entry says so
handled_case : (whole earlier : List Entry) (h : Handled) (c : ℕ) (n : Name) (o : Option Admitted) (b : Bool) → IsUnleaked whole n → KeepsOrderBy whole earlier (entry.Handled h)
    → session_at earlier h ≡ o → ((h.cookie == c) && option_map_or (λ session. same_name session.entity n) o false) ≡ b
    → IsPrefix (all_handled_under c n [] earlier) (filter_map (sent_under c n) earlier)
    → IsPrefix (all_handled_under c n [] (earlier ++ entry.Handled h ∷ [])) (filter_map (sent_under c n) (earlier ++ entry.Handled h ∷ []))
handled_case whole earlier h c n o false un keeps is e prefix =
    unhandled c n earlier (entry.Handled h) (ap (λ k. cond ((h.cookie == c) && option_map_or (λ session. same_name session.entity n) k false) (Some (pair_of h)) None) is ∙ ap (λ b. cond b (Some (pair_of h)) None) e) prefix
handled_case whole earlier h c n None true un keeps is e prefix = unequal (sym (both (h.cookie == c) false e).1)
handled_case whole earlier h c n (Some s) true un keeps is e prefix =
    let parts = both (h.cookie == c) (same_name s.entity n) e in
    let cookie : h.cookie ≡ c = eqb-true h.cookie c parts.0 in
    let entity : s.entity ≡ n = same_name_is s.entity n parts.1 in
    let unleaked : IsUnleaked whole s.entity = rw entity un in
    let own = keeps s (session_from earlier h s is) unleaked in
    let there = moved earlier h h.cookie c s.entity n cookie entity own in
    same_both (all_handled_under c n [] (earlier ++ entry.Handled h ∷ [])) (all_handled_under c n [] (earlier ++ entry.Handled h ∷ [])) (filter_map (sent_under c n) earlier) (filter_map (sent_under c n) (earlier ++ entry.Handled h ∷ []))
    refl (sent_push c n earlier (entry.Handled h) ∙ append-nil (filter_map (sent_under c n) earlier)) there

prefix_one : (whole earlier : List Entry) (e : Entry) (c : ℕ) (n : Name) → IsUnleaked whole n → KeepsOrderBy whole earlier e
    → IsPrefix (all_handled_under c n [] earlier) (filter_map (sent_under c n) earlier)
    → IsPrefix (all_handled_under c n [] (earlier ++ e ∷ [])) (filter_map (sent_under c n) (earlier ++ e ∷ []))
prefix_one whole earlier (entry.Handled h) c n un keeps prefix =
    handled_case whole earlier h c n (session_at earlier h) ((h.cookie == c) && option_map_or (λ session. same_name session.entity n) (session_at earlier h) false) un keeps refl refl prefix
prefix_one whole earlier e c n un keeps prefix = unhandled c n earlier e refl prefix

pub prefix_all : (whole earlier es : List Entry) (c : ℕ) (n : Name) → IsUnleaked whole n → EachBehind (KeepsOrderBy whole) earlier es
    → IsPrefix (all_handled_under c n [] earlier) (filter_map (sent_under c n) earlier)
    → IsPrefix (all_handled_under c n [] (earlier ++ es)) (filter_map (sent_under c n) (earlier ++ es))
prefix_all whole earlier [] c n un each prefix = rw (append-nil earlier) prefix
prefix_all whole earlier (e ∷ es) c n un each prefix =
    let rest = prefix_all whole (earlier ++ e ∷ []) es c n un each.1 (prefix_one whole earlier e c n un each.0 prefix) in
    rw (append_assoc earlier (e ∷ []) es) at rest
