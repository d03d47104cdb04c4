-- What is known of the earlier entries tells of the next one what they do.
use Rattle.std.proofs.Common.{◌≡◌, ℕ, zero, suc, ◌-◌, Bool, true, false, cond, List, [], ◌∷◌, filter, drop, length, Option, Some, None, refl, sym, ap, ◌∙◌, ◌==◌, arith, nat_lt}
use Rattle.std.specs.Prelude.{◌&&◌}
use Rattle.std.specs.List.{cons_option, filter_map, list_any}
use Rattle.std.specs.Str.{bytes_eq}
use Rattle.std.proofs.Math.Seq.{drop-nil}
use Rattle.std.proofs.lemmas.Bool.Decides.{nat_tests}
use Rattle.cx_base.specs.Names.{Name, same_kind, same_name}
use Rattle.cx_base.specs.declared.kinds.EntityType.TheVariants.{Auth}
use Rattle.cx_base.specs.declared.nodes.NodeName.{NodeName}
use Rattle.cx_base.specs.declared.nodes.NodeName.TheVariants as node
use Rattle.cx_base.specs.declared.operations.Operation.{Operation}
use Rattle.cx_journal.specs.KeepsKeys.{is_look}
use Rattle.cx_journal.specs.Leaks.{is_leak}
use Rattle.cx_journal.specs.PrefixOfSent.{all_handled_under, sent_under}
use Rattle.cx_journal.specs.Sessions.{last_such, session_at}
use Rattle.cx_journal.specs.declared.entries.Admitted.{Admitted}
use Rattle.cx_journal.specs.declared.entries.Entry.{Entry}
use Rattle.cx_journal.specs.declared.entries.Entry.TheVariants as entry
use Rattle.cx_journal.specs.declared.entries.Handled.{Handled}
use Rattle.cx_journal.specs.declared.entries.Issued.{Issued}
use Rattle.cx_journal.specs.declared.outcomes.Reason.{Reason}
use Rattle.cx_journal.specs.declared.outcomes.Reason.TheVariants as reason
use Rattle.cx_journal.specs.declared.outcomes.TicketFault.{TicketFault}
use Rattle.cx_journal.specs.declared.outcomes.TicketFault.TheVariants as fault
use Rattle.cx_audit.specs.indexed.Keyed.{bytes_key, name_key, number_key, under}
use Rattle.cx_audit.proofs.indexed.Filed.{any_filed, last_filed}
use Rattle.cx_audit.specs.ruled.Tests.{Knows, backs, broken_by, broken_generation, broken_handled, broken_order, broken_refusal, broken_unleaked, gives, is_blob, is_issued_as, is_next, is_of_client, is_sent, is_this, judged, judged_generation, judged_handled, judged_order, judged_refusal, keeps_key, renews, shares_gid, unless}
use Rattle.cx_audit.specs.declared.known.Known.{Known}
use Rattle.cx_audit.specs.declared.rules.Rule.TheVariants as rule
use Rattle.cx_audit.proofs.ruled.Order.{is_at, sent_is}
use Rattle.cx_audit.proofs.ruled.Tests.{both}

-- ---- what the tests of tickets ask stands under the key

renews_gives : (t : Issued) (e : Entry) → renews t e ≡ true → gives t.gid e ≡ true
renews_gives t (entry.Issued old) e =
    let three = both (same_kind old.service Auth && same_name old.entity t.entity && (old.gid == t.gid)) (nat_lt t.created old.expires) e in
    (both (same_kind old.service Auth && same_name old.entity t.entity) (old.gid == t.gid) three.0).1
renews_gives t _ e = cc

backs_gives : (a : Admitted) (e : Entry) → backs a e ≡ true → gives a.gid e ≡ true
backs_gives a (entry.Issued t) e =
    let four = both (same_name t.entity a.entity && (t.gid == a.gid) && bytes_eq t.caps a.caps && same_kind t.service a.daemon.kind) (nat_lt a.at t.expires) e in
    let three = both (same_name t.entity a.entity && (t.gid == a.gid) && bytes_eq t.caps a.caps) (same_kind t.service a.daemon.kind) four.0 in
    let two = both (same_name t.entity a.entity && (t.gid == a.gid)) (bytes_eq t.caps a.caps) three.0 in
    (both (same_name t.entity a.entity) (t.gid == a.gid) two.0).1
backs_gives a _ e = cc

and_of : (a b : Bool) → a ≡ true → b ≡ true → (a && b) ≡ true
and_of true true ia ib = refl
and_of true false ia ib = ib
and_of false b ia ib = ia

issued_blob : (d : Name) (g : ℕ) (blob : List ℕ) (e : Entry) → is_issued_as d g blob e ≡ true → is_blob blob g e ≡ true
issued_blob d g blob (entry.Issued t) e =
    let two = both (bytes_eq t.blob blob && same_kind t.service d.kind) (t.generation == g) e in
    and_of (bytes_eq t.blob blob) (t.generation == g) (both (bytes_eq t.blob blob) (same_kind t.service d.kind) two.0).0 two.1
issued_blob d g blob _ e = cc

-- ---- what was sent next

next_step : (what x : ℕ × Operation) (e : Entry) (F : List Entry) (M : List (ℕ × Operation)) → is_this what e ≡ is_sent x what → ((k : ℕ) → is_next what (drop k F) ≡ is_at what k M)
    → (a b : Bool) (k : ℕ) → is_next what (drop k (cond (a && b) (e ∷ F) F)) ≡ is_at what k (cons_option (cond (b && a) (Some x) None) M)
next_step what x e F M same more true true zero = same
next_step what x e F M same more true true (suc k) =
    let apart : (suc k == 0) ≡ false = grind (arith, nat_tests) in
    let one : suc k - 1 ≡ k = omega arith in
    more k ∙ ap (λ j. is_at what j M) (sym one) ∙ ap (λ b. cond b (is_sent x what) (is_at what (suc k - 1) M)) (sym apart)
next_step what x e F M same more true false k = more k
next_step what x e F M same more false true k = more k
next_step what x e F M same more false false k = more k

next_filed : (c : ℕ) (n : Name) (what : ℕ × Operation) (es : List Entry) (k : ℕ) → is_next what (drop k (filter (is_of_client n c) es)) ≡ is_at what k (filter_map (sent_under c n) es)
next_filed c n what [] k = ap (is_next what) (drop-nil k)
next_filed c n what (entry.Sent s ∷ es) k =
    next_step what (s.seq, s.operation) (entry.Sent s) (filter (is_of_client n c) es) (filter_map (sent_under c n) es) refl (next_filed c n what es) (same_name s.client n) (s.cookie == c) k
next_filed c n what (e ∷ es) k = next_filed c n what es k

-- ---- by each kind of entry

module _ (whole earlier : List Entry) (known : Known) (knows : Knows whole earlier known) where
  any_ticket : (p : Entry → Bool) (gid : ℕ) → ((e : Entry) → p e ≡ true → gives gid e ≡ true) → list_any p (under known.tickets (number_key gid)) ≡ list_any p earlier
  any_ticket p gid within = ap (list_any p) (knows.tickets gid) ∙ any_filed p (gives gid) within earlier

  gid_by : (t : Issued) → shares_gid (under known.owners (number_key t.gid)) (under known.tickets (number_key t.gid)) t ≡ shares_gid earlier earlier t
  gid_by t = rw (knows.taken t, knows.given t, any_ticket (renews t) t.gid (renews_gives t)) refl

  key_by : (d : Name) (link g : ℕ) (blob : List ℕ) → keeps_key (under known.blobs (bytes_key blob g)) (under known.looks (name_key d link 0)) d link g blob ≡ keeps_key earlier earlier d link g blob
  key_by d link g blob =
      let issued : list_any (is_issued_as d g blob) (under known.blobs (bytes_key blob g)) ≡ list_any (is_issued_as d g blob) earlier =
      ap (list_any (is_issued_as d g blob)) (knows.blobs blob g) ∙ any_filed (is_issued_as d g blob) (is_blob blob g) (issued_blob d g blob) earlier in
      let looked : last_such (is_look d link) (under known.looks (name_key d link 0)) ≡ last_such (is_look d link) earlier =
      ap (last_such (is_look d link)) (knows.looks d link) ∙ last_filed (is_look d link) earlier in
      rw (issued, looked) refl

  generation_by : (d : Name) (link : ℕ) (why : TicketFault) (blob : List ℕ) → broken_generation known d link why blob ≡ judged_generation earlier d link why blob
  generation_by d link (fault.UnknownGeneration g) blob = ap (λ b. unless b rule.KeepsKeys) (key_by d link g blob)
  generation_by d link (fault.TicketUnopened g) blob = ap (λ b. unless b rule.KeepsKeys) (key_by d link g blob)
  generation_by d link _ blob = refl

  daemon_by : (d : Name) (link : ℕ) (why : Reason) → broken_refusal known (node.Entity d) link why ≡ judged_refusal earlier (node.Entity d) link why
  daemon_by d link (reason.Ticket why blob) = generation_by d link why blob
  daemon_by d link _ = refl

  refusal_by : (at : NodeName) (link : ℕ) (why : Reason) → broken_refusal known at link why ≡ judged_refusal earlier at link why
  refusal_by (node.Entity d) link why = daemon_by d link why
  refusal_by node.Monitor link why = refl

  order_by : (h : Handled) (s : Admitted) → broken_order known h s ≡ judged_order earlier h s
  order_by h s =
      let what : ℕ × Operation = (h.seq, h.operation) in
      let key = name_key s.entity h.cookie 0 in
      let done = length (all_handled_under h.cookie s.entity [] earlier) in
      ap (λ b. unless b rule.PrefixOfSent)
      (ap (λ k. is_next what (drop k (under known.sent key))) (knows.handled s.entity h.cookie)
      ∙ ap (λ es. is_next what (drop done es)) (knows.sent s.entity h.cookie)
      ∙ next_filed h.cookie s.entity what earlier done
      ∙ sym (sent_is h.cookie s.entity what earlier done))

  leaked_by : (n : Name) → list_any (is_leak n) (under known.leaks (name_key n 0 0)) ≡ list_any (is_leak n) whole
  leaked_by n = ap (list_any (is_leak n)) (knows.leaked n) ∙ any_filed (is_leak n) (is_leak n) (λ e hit. hit) whole

  handled_by : (h : Handled) (o : Option Admitted) → broken_handled known h o ≡ judged_handled whole earlier h o
  handled_by h None = refl
  handled_by h (Some s) =
      ap (λ b. broken_unleaked b (broken_order known h s)) (leaked_by s.entity) ∙ ap (broken_unleaked (list_any (is_leak s.entity) whole)) (order_by h s)

  pub judged_by : (e : Entry) → broken_by known e ≡ judged whole earlier e
  judged_by (entry.Issued t) = ap (λ b. unless b rule.GidOnce) (gid_by t)
  judged_by (entry.Admitted a) = ap (λ b. unless b rule.Backed) (any_ticket (backs a) a.gid (backs_gives a))
  judged_by (entry.Resumed a) = ap (λ b. unless b rule.Backed) (any_ticket (backs a) a.gid (backs_gives a))
  judged_by (entry.Handled h) = ap (broken_handled known h) (knows.stands h) ∙ handled_by h (session_at earlier h)
  judged_by (entry.Refused r) = refusal_by r.node r.link r.reason
  judged_by _ = refl
