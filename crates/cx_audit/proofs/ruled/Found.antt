-- What the tests say of an entry is what it keeps, or the least rule that it breaks.
use Rattle.std.proofs.Common.{◌≡◌, ℕ, ◌<◌, Bool, true, false, List, [], ◌∷◌, ◌++◌, length, Option, Some, None, refl, sym, ap, ◌∙◌, arith}
use Rattle.std.specs.List.{filter_map, list_any}
use Rattle.cx_base.specs.Names.{Name}
use Rattle.cx_base.specs.declared.nodes.NodeName.{NodeName}
use Rattle.cx_base.specs.declared.nodes.NodeName.TheVariants as node
use Rattle.cx_journal.specs.Behind.{EachBehind}
use Rattle.cx_journal.specs.KeepsKeys.{NeedsFor, NeedsLook}
use Rattle.cx_journal.specs.Leaks.{IsUnleaked, is_leak}
use Rattle.cx_journal.specs.PrefixOfSent.{IsPrefix, all_handled_under, sent_under}
use Rattle.cx_journal.specs.Sessions.{session_at}
use Rattle.cx_journal.specs.declared.entries.Admitted.{Admitted}
use Rattle.cx_journal.specs.declared.entries.Entry.{Entry}
use Rattle.cx_journal.specs.declared.entries.Entry.TheVariants as entry
use Rattle.cx_journal.specs.declared.entries.Handled.{Handled}
use Rattle.cx_journal.specs.declared.entries.Issued.{Issued}
use Rattle.cx_journal.specs.declared.entries.Refused.{Refused}
use Rattle.cx_journal.specs.declared.outcomes.Reason.{Reason}
use Rattle.cx_journal.specs.declared.outcomes.Reason.TheVariants as reason
use Rattle.cx_journal.specs.declared.outcomes.TicketFault.{TicketFault}
use Rattle.cx_journal.specs.declared.outcomes.TicketFault.TheVariants as fault
use Rattle.cx_journal.proofs.SessionLemmas.{session_from, session_is}
use Rattle.cx_audit.specs.ruled.Rules.{BreaksLeast, IsFoundAt, Keeps, KeepsAll, KeepsOrderBy, rule_number}
use Rattle.cx_audit.specs.ruled.Tests.{backs, broken_unleaked, is_sent_behind, judged, judged_generation, judged_handled, judged_order, judged_refusal, keeps_key, shares_gid, unless}
use Rattle.cx_audit.specs.declared.rules.Rule.{Rule}
use Rattle.cx_audit.specs.declared.rules.Rule.TheVariants as rule
use Rattle.cx_audit.proofs.ruled.Looks.{broken_key, kept_key}
use Rattle.cx_audit.proofs.ruled.Order.{handled_one, not_sent_next, prefix_all, sent_next}
use Rattle.cx_audit.proofs.ruled.RuleLaws.{keeps_each, order_kept}
use Rattle.cx_audit.proofs.ruled.Tests.{unequal}
use Rattle.cx_audit.proofs.ruled.TicketLaws.{backed, shares, unbacked, unshared}

same_rule : {P : Type 0} (n : ℕ) → n < n → P
same_rule n low = absurd (omega (arith, low))

-- ---- tickets

issued_least : (whole earlier : List Entry) (t : Issued) (r : Rule) → rule_number r < 16 → Keeps r whole earlier (entry.Issued t)
issued_least whole earlier t rule.Backed low = tt
issued_least whole earlier t rule.InSession low = tt
issued_least whole earlier t rule.KeepsKeys low = tt
issued_least whole earlier t rule.PrefixOfSent low = tt
issued_least whole earlier t rule.GidOnce low = same_rule 16 low

issued_found : (whole earlier : List Entry) (t : Issued) (b : Bool) → shares_gid earlier earlier t ≡ b → IsFoundAt whole earlier (entry.Issued t) (unless b rule.GidOnce)
issued_found whole earlier t true is = keeps_each whole earlier (entry.Issued t) tt tt tt tt (shares earlier t is)
issued_found whole earlier t false is = record { breaks = unshared earlier t is; least = issued_least whole earlier t }

admitted_least : (whole earlier : List Entry) (a : Admitted) (r : Rule) → rule_number r < 11 → Keeps r whole earlier (entry.Admitted a)
admitted_least whole earlier a rule.Backed low = same_rule 11 low
admitted_least whole earlier a rule.InSession low = tt
admitted_least whole earlier a rule.KeepsKeys low = tt
admitted_least whole earlier a rule.PrefixOfSent low = tt
admitted_least whole earlier a rule.GidOnce low = tt

admitted_found : (whole earlier : List Entry) (a : Admitted) (b : Bool) → list_any (backs a) earlier ≡ b → IsFoundAt whole earlier (entry.Admitted a) (unless b rule.Backed)
admitted_found whole earlier a true is = keeps_each whole earlier (entry.Admitted a) (backed earlier a is) tt tt tt tt
admitted_found whole earlier a false is = record { breaks = unbacked earlier a is; least = admitted_least whole earlier a }

resumed_least : (whole earlier : List Entry) (a : Admitted) (r : Rule) → rule_number r < 11 → Keeps r whole earlier (entry.Resumed a)
resumed_least whole earlier a rule.Backed low = same_rule 11 low
resumed_least whole earlier a rule.InSession low = tt
resumed_least whole earlier a rule.KeepsKeys low = tt
resumed_least whole earlier a rule.PrefixOfSent low = tt
resumed_least whole earlier a rule.GidOnce low = tt

resumed_found : (whole earlier : List Entry) (a : Admitted) (b : Bool) → list_any (backs a) earlier ≡ b → IsFoundAt whole earlier (entry.Resumed a) (unless b rule.Backed)
resumed_found whole earlier a true is = keeps_each whole earlier (entry.Resumed a) (backed earlier a is) tt tt tt tt
resumed_found whole earlier a false is = record { breaks = unbacked earlier a is; least = resumed_least whole earlier a }

-- ---- refusals

refused_least : (whole earlier : List Entry) (r : Refused) (rl : Rule) → rule_number rl < 13 → Keeps rl whole earlier (entry.Refused r)
refused_least whole earlier r rule.Backed low = tt
refused_least whole earlier r rule.InSession low = tt
refused_least whole earlier r rule.KeepsKeys low = same_rule 13 low
refused_least whole earlier r rule.PrefixOfSent low = tt
refused_least whole earlier r rule.GidOnce low = tt

-- what a refusal is found to need: what it has, or what it lacks
abbrev IsNeed : Type 0 → Option Rule → Type 0
IsNeed need None = need
IsNeed need (Some r) = (need → ⊥) × (r ≡ rule.KeepsKeys)

key_need : (earlier : List Entry) (d : Name) (link g : ℕ) (blob : List ℕ) (b : Bool) → keeps_key earlier earlier d link g blob ≡ b → IsNeed (NeedsLook earlier d link (fault.UnknownGeneration g) blob) (unless b rule.KeepsKeys)
key_need earlier d link g blob true is = kept_key earlier d link g blob is
key_need earlier d link g blob false is = (broken_key earlier d link g blob is, refl)

generation_need : (earlier : List Entry) (d : Name) (link : ℕ) (why : TicketFault) (blob : List ℕ) → IsNeed (NeedsLook earlier d link why blob) (judged_generation earlier d link why blob)
generation_need earlier d link (fault.UnknownGeneration g) blob = key_need earlier d link g blob (keeps_key earlier earlier d link g blob) refl
generation_need earlier d link (fault.TicketUnopened g) blob = key_need earlier d link g blob (keeps_key earlier earlier d link g blob) refl
generation_need earlier d link _ blob = tt

daemon_need : (earlier : List Entry) (d : Name) (link : ℕ) (why : Reason) → IsNeed (NeedsFor earlier (node.Entity d) link why) (judged_refusal earlier (node.Entity d) link why)
daemon_need earlier d link (reason.Ticket why blob) = generation_need earlier d link why blob
daemon_need earlier d link _ = tt

refusal_need : (earlier : List Entry) (n : NodeName) (link : ℕ) (why : Reason) → IsNeed (NeedsFor earlier n link why) (judged_refusal earlier n link why)
refusal_need earlier (node.Entity d) link why = daemon_need earlier d link why
refusal_need earlier node.Monitor link why = tt

refused_found : (whole earlier : List Entry) (r : Refused) (o : Option Rule) → IsNeed (NeedsFor earlier r.node r.link r.reason) o → IsFoundAt whole earlier (entry.Refused r) o
refused_found whole earlier r None need = keeps_each whole earlier (entry.Refused r) tt tt need tt tt
refused_found whole earlier r (Some rl) need =
    let broken : BreaksLeast whole earlier (entry.Refused r) rule.KeepsKeys = record { breaks = need.0; least = refused_least whole earlier r } in
    rw need.1 broken

-- ---- operations

outside_least : (whole earlier : List Entry) (h : Handled) (r : Rule) → rule_number r < 12 → Keeps r whole earlier (entry.Handled h)
outside_least whole earlier h rule.Backed low = tt
outside_least whole earlier h rule.InSession low = same_rule 12 low
outside_least whole earlier h rule.KeepsKeys low = tt
outside_least whole earlier h rule.PrefixOfSent low = absurd (let bad : 15 < 12 = low in omega arith)
outside_least whole earlier h rule.GidOnce low = tt

order_least : (whole earlier : List Entry) (h : Handled) (s : Admitted) → session_at earlier h ≡ Some s → (r : Rule) → rule_number r < 15 → Keeps r whole earlier (entry.Handled h)
order_least whole earlier h s is rule.Backed low = tt
order_least whole earlier h s is rule.InSession low = (s, session_from earlier h s is)
order_least whole earlier h s is rule.KeepsKeys low = tt
order_least whole earlier h s is rule.PrefixOfSent low = same_rule 15 low
order_least whole earlier h s is rule.GidOnce low = tt

one_session : (earlier : List Entry) (h : Handled) (s other : Admitted) → session_at earlier h ≡ Some s → session_at earlier h ≡ Some other → s ≡ other
one_session earlier h s other is also = let e : Some s ≡ Some other = sym is ∙ also in cc

leaked_keeps : (whole earlier : List Entry) (h : Handled) (s : Admitted) → session_at earlier h ≡ Some s → list_any (is_leak s.entity) whole ≡ true → KeepsOrderBy whole earlier (entry.Handled h)
leaked_keeps whole earlier h s is leaked session handled unleaked =
    let same = one_session earlier h s session is (session_is earlier h session handled) in
    unequal (sym leaked ∙ ap (λ k. list_any (is_leak k.entity) whole) same ∙ unleaked)

record InOrder (whole earlier : List Entry) (h : Handled) (s : Admitted) (sent : Bool) : Type 0 where
  own : session_at earlier h ≡ Some s
  unleaked : IsUnleaked whole s.entity
  prefix : IsPrefix (all_handled_under h.cookie s.entity [] earlier) (filter_map (sent_under h.cookie s.entity) earlier)
  tested : is_sent_behind h.cookie s.entity (h.seq, h.operation) (length (all_handled_under h.cookie s.entity [] earlier)) earlier ≡ sent

ordered : (whole earlier : List Entry) (h : Handled) (s : Admitted) → InOrder whole earlier h s true → KeepsOrderBy whole earlier (entry.Handled h)
ordered whole earlier h s o session handled unleaked =
    let same = one_session earlier h s session o.own (session_is earlier h session handled) in
    let next = sent_next h.cookie s.entity (h.seq, h.operation) earlier (all_handled_under h.cookie s.entity [] earlier) o.prefix o.tested in
    let here : IsPrefix (all_handled_under h.cookie s.entity [] (earlier ++ entry.Handled h ∷ [])) (filter_map (sent_under h.cookie s.entity) earlier) =
    rw (handled_one earlier h s o.own) next in
    rw same at here

disordered : (whole earlier : List Entry) (h : Handled) (s : Admitted) → InOrder whole earlier h s false → KeepsOrderBy whole earlier (entry.Handled h) → ⊥
disordered whole earlier h s o keeps =
    let here = keeps s (session_from earlier h s o.own) o.unleaked in
    not_sent_next h.cookie s.entity (h.seq, h.operation) earlier (all_handled_under h.cookie s.entity [] earlier) o.tested (rw (handled_one earlier h s o.own) at here)

order_found : (whole earlier : List Entry) (h : Handled) (s : Admitted) (sent : Bool) → InOrder whole earlier h s sent → IsFoundAt whole earlier (entry.Handled h) (unless sent rule.PrefixOfSent)
order_found whole earlier h s true o =
    keeps_each whole earlier (entry.Handled h) tt (s, session_from earlier h s o.own) tt (ordered whole earlier h s o) tt
order_found whole earlier h s false o = record { breaks = disordered whole earlier h s o; least = order_least whole earlier h s o.own }

session_found : (whole earlier : List Entry) (h : Handled) (s : Admitted) (b : Bool) → EachBehind (KeepsAll whole) [] earlier → session_at earlier h ≡ Some s → list_any (is_leak s.entity) whole ≡ b
    → IsFoundAt whole earlier (entry.Handled h) (broken_unleaked b (judged_order earlier h s))
session_found whole earlier h s true each is leaked = keeps_each whole earlier (entry.Handled h) tt (s, session_from earlier h s is) tt (leaked_keeps whole earlier h s is leaked) tt
session_found whole earlier h s false each is leaked =
    order_found whole earlier h s (is_sent_behind h.cookie s.entity (h.seq, h.operation) (length (all_handled_under h.cookie s.entity [] earlier)) earlier) (record {
      own = is;
      unleaked = leaked;
      prefix = prefix_all whole [] earlier h.cookie s.entity leaked (order_kept whole [] earlier each) ([], refl);
      tested = refl;
    })

no_session : (earlier : List Entry) (h : Handled) → session_at earlier h ≡ None → ((s : Admitted) × (session_at earlier h ≡ Some s)) → ⊥
no_session earlier h none some = let e : None ≡ Some some.0 = sym none ∙ some.1 in cc

handled_found : (whole earlier : List Entry) (h : Handled) (o : Option Admitted) → EachBehind (KeepsAll whole) [] earlier → session_at earlier h ≡ o
    → IsFoundAt whole earlier (entry.Handled h) (judged_handled whole earlier h o)
handled_found whole earlier h None each is = record {
  breaks = λ held. no_session earlier h is (held.0, session_is earlier h held.0 held.1);
  least = outside_least whole earlier h;
}
handled_found whole earlier h (Some s) each is = session_found whole earlier h s (list_any (is_leak s.entity) whole) each is refl

-- ---- any entry

pub found_at : (whole earlier : List Entry) (e : Entry) → EachBehind (KeepsAll whole) [] earlier → IsFoundAt whole earlier e (judged whole earlier e)
found_at whole earlier (entry.Issued t) each = issued_found whole earlier t (shares_gid earlier earlier t) refl
found_at whole earlier (entry.Admitted a) each = admitted_found whole earlier a (list_any (backs a) earlier) refl
found_at whole earlier (entry.Resumed a) each = resumed_found whole earlier a (list_any (backs a) earlier) refl
found_at whole earlier (entry.Handled h) each = handled_found whole earlier h (session_at earlier h) each refl
found_at whole earlier (entry.Refused r) each = refused_found whole earlier r (judged_refusal earlier r.node r.link r.reason) (refusal_need earlier r.node r.link r.reason)
found_at whole earlier e each = keeps_each whole earlier e tt tt tt tt tt
