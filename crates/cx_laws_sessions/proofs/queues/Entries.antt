-- Which entries send, admit and handle, at which node, and what a journal says of one behind those of another.
use Rattle.std.proofs.Common.{◌≡◌, ℕ, Bool, false, List, [], ◌∷◌, ◌++◌, Option, Some, None, refl, ap, ◌∙◌}
use Rattle.std.proofs.lemmas.List.{append-nil}
use Rattle.std.proofs.lemmas.List.Elements.{filter_map-append}
use Rattle.std.specs.List.{AllByRecursion, cons_option}
use Rattle.std.specs.Prelude.{◌+◌, ◌==◌, ◌&&◌, if◌then◌else◌}
use Rattle.cx_base.specs.Names.{Name, same_name}
use Rattle.cx_base.specs.declared.nodes.NodeName.{NodeName}
use Rattle.cx_base.specs.declared.nodes.NodeName.TheVariants as node
use Rattle.cx_base.specs.declared.operations.Operation.{Operation}
use Rattle.cx_journal.specs.Behind.{EachBehind}
use Rattle.cx_journal.specs.Nodes.{is_node_of}
use Rattle.cx_journal.specs.declared.entries.Entry.{Entry}
use Rattle.cx_journal.specs.declared.entries.Entry.TheVariants as entry
use Rattle.cx_laws_sessions.specs.queues.Counting.{IsHandledInOrderBy, counted, counted_all, handled_since}
use Rattle.cx_laws_sessions.specs.queues.Sending.{IsSentInOrderBy, all_sent_to, sent_to}
use Rattle.cx_laws_sessions.proofs.session.Clients.{IsMute}
use Rattle.cx_laws_sessions.proofs.session.Lists.{all-map}
use Rattle.cx_laws_sessions.proofs.session.Moves.{IsQuiet}
use Rattle.cx_laws_sessions.specs.cx_rules.specs.Holdings.{MonClient}
use Rattle.cx_laws_sessions.specs.cx_run.proofs.CallKeeps.{IsCallEntry}

-- ---- which entries count

-- nothing is sent, admitted and handled
abbrev pub IsPlain : Entry → Type 0
IsPlain (entry.Admitted a) = ⊥
IsPlain (entry.Sent s) = ⊥
IsPlain (entry.Handled h) = ⊥
IsPlain _ = Unit {0}

-- nothing is sent
abbrev pub IsSilent : Entry → Type 0
IsSilent (entry.Sent s) = ⊥
IsSilent _ = Unit {0}

pub plain-silent : (e : Entry) → IsPlain e → IsSilent e
plain-silent (entry.Sent x) h = h
plain-silent _ h = tt

-- what is sent, admitted and handled is so at this node
abbrev pub IsOf : NodeName → Entry → Type 0
IsOf who (entry.Admitted a) = node.Entity a.daemon ≡ who
IsOf who (entry.Sent s) = node.Entity s.client ≡ who
IsOf who (entry.Handled h) = node.Entity h.daemon ≡ who
IsOf who _ = Unit {0}

pub quiet-plain : (e : Entry) → IsQuiet e → IsPlain e
quiet-plain (entry.Saved x) h = tt
quiet-plain (entry.Issued x) h = tt
quiet-plain (entry.Fetched x) h = tt
quiet-plain (entry.Looked x) h = tt
quiet-plain (entry.Admitted x) h = absurd h
quiet-plain (entry.Resumed x) h = absurd h
quiet-plain (entry.Sent x) h = absurd h
quiet-plain (entry.Handled x) h = absurd h
quiet-plain (entry.Answered x) h = absurd h
quiet-plain (entry.Refused x) h = tt
quiet-plain (entry.Ended x) h = absurd h
quiet-plain (entry.Restarted x) h = absurd h
quiet-plain (entry.Broken x) h = tt
quiet-plain (entry.Leaked x) h = tt

pub call-plain : (mon_client : MonClient) (e : Entry) → IsCallEntry mon_client e → IsPlain e
call-plain mon_client (entry.Saved x) h = absurd h
call-plain mon_client (entry.Issued x) h = absurd h
call-plain mon_client (entry.Fetched x) h = absurd h
call-plain mon_client (entry.Looked x) h = absurd h
call-plain mon_client (entry.Admitted x) h = absurd h
call-plain mon_client (entry.Resumed x) h = absurd h
call-plain mon_client (entry.Sent x) h = absurd h
call-plain mon_client (entry.Handled x) h = absurd h
call-plain mon_client (entry.Answered x) h = tt
call-plain mon_client (entry.Refused x) h = tt
call-plain mon_client (entry.Ended x) h = absurd h
call-plain mon_client (entry.Restarted x) h = absurd h
call-plain mon_client (entry.Broken x) h = absurd h
call-plain mon_client (entry.Leaked x) h = absurd h

pub plain-of : (who : NodeName) (e : Entry) → IsPlain e → IsOf who e
plain-of who (entry.Saved x) h = tt
plain-of who (entry.Issued x) h = tt
plain-of who (entry.Fetched x) h = tt
plain-of who (entry.Looked x) h = tt
plain-of who (entry.Admitted x) h = absurd h
plain-of who (entry.Resumed x) h = tt
plain-of who (entry.Sent x) h = absurd h
plain-of who (entry.Handled x) h = absurd h
plain-of who (entry.Answered x) h = tt
plain-of who (entry.Refused x) h = tt
plain-of who (entry.Ended x) h = tt
plain-of who (entry.Restarted x) h = tt
plain-of who (entry.Broken x) h = tt
plain-of who (entry.Leaked x) h = tt

pub mute-of : (who : NodeName) (e : Entry) → IsMute who e → IsOf who e
mute-of who (entry.Saved x) h = tt
mute-of who (entry.Issued x) h = tt
mute-of who (entry.Fetched x) h = tt
mute-of who (entry.Looked x) h = tt
mute-of who (entry.Admitted x) h = absurd h
mute-of who (entry.Resumed x) h = tt
mute-of who (entry.Sent x) h = h
mute-of who (entry.Handled x) h = absurd h
mute-of who (entry.Answered x) h = tt
mute-of who (entry.Refused x) h = tt
mute-of who (entry.Ended x) h = tt
mute-of who (entry.Restarted x) h = tt
mute-of who (entry.Broken x) h = tt
mute-of who (entry.Leaked x) h = tt

-- ---- what they change

-- this entity sends nothing there, and of its sessions none is admitted and nothing is handled
pub record Untouched (name : Name) (e : Entry) : Type 0 where
  pub unsent : (daemon : Name) → sent_to name daemon e ≡ None
  pub uncounted : (number count : ℕ) → counted name number count e ≡ count

pub plain-untouched : (name : Name) (e : Entry) → IsPlain e → Untouched name e
plain-untouched name (entry.Saved x) h = record { unsent = λ daemon. refl; uncounted = λ number count. refl }
plain-untouched name (entry.Issued x) h = record { unsent = λ daemon. refl; uncounted = λ number count. refl }
plain-untouched name (entry.Fetched x) h = record { unsent = λ daemon. refl; uncounted = λ number count. refl }
plain-untouched name (entry.Looked x) h = record { unsent = λ daemon. refl; uncounted = λ number count. refl }
plain-untouched name (entry.Admitted x) h = absurd h
plain-untouched name (entry.Resumed x) h = record { unsent = λ daemon. refl; uncounted = λ number count. refl }
plain-untouched name (entry.Sent x) h = absurd h
plain-untouched name (entry.Handled x) h = absurd h
plain-untouched name (entry.Answered x) h = record { unsent = λ daemon. refl; uncounted = λ number count. refl }
plain-untouched name (entry.Refused x) h = record { unsent = λ daemon. refl; uncounted = λ number count. refl }
plain-untouched name (entry.Ended x) h = record { unsent = λ daemon. refl; uncounted = λ number count. refl }
plain-untouched name (entry.Restarted x) h = record { unsent = λ daemon. refl; uncounted = λ number count. refl }
plain-untouched name (entry.Broken x) h = record { unsent = λ daemon. refl; uncounted = λ number count. refl }
plain-untouched name (entry.Leaked x) h = record { unsent = λ daemon. refl; uncounted = λ number count. refl }

-- what was sent, where it was so there
abbrev pub sent_where : Bool → ℕ × (ℕ × Operation) → Option (ℕ × (ℕ × Operation))
sent_where there what = if there then Some what else None

apart-untouched : (who : NodeName) (other : Name) → is_node_of other who ≡ false → (e : Entry) → IsOf who e → Untouched other e
apart-untouched who other apart (entry.Saved x) h = record { unsent = λ daemon. refl; uncounted = λ number count. refl }
apart-untouched who other apart (entry.Issued x) h = record { unsent = λ daemon. refl; uncounted = λ number count. refl }
apart-untouched who other apart (entry.Fetched x) h = record { unsent = λ daemon. refl; uncounted = λ number count. refl }
apart-untouched who other apart (entry.Looked x) h = record { unsent = λ daemon. refl; uncounted = λ number count. refl }
apart-untouched who other apart (entry.Admitted x) h =
    let off : same_name x.daemon other ≡ false = ap (λ (n : NodeName). is_node_of other n) h ∙ apart in
    record { unsent = λ daemon. refl; uncounted = λ number count. ap (λ (t : Bool). if t && (x.session == number) then 0 else count) off }
apart-untouched who other apart (entry.Resumed x) h = record { unsent = λ daemon. refl; uncounted = λ number count. refl }
apart-untouched who other apart (entry.Sent x) h =
    let off : same_name x.client other ≡ false = ap (λ (n : NodeName). is_node_of other n) h ∙ apart in
    record {
      unsent = λ daemon. ap (λ (t : Bool). sent_where (t && same_name x.daemon daemon) (x.cookie, (x.seq, x.operation))) off;
      uncounted = λ number count. refl;
    }
apart-untouched who other apart (entry.Handled x) h =
    let off : same_name x.daemon other ≡ false = ap (λ (n : NodeName). is_node_of other n) h ∙ apart in
    record { unsent = λ daemon. refl; uncounted = λ number count. ap (λ (t : Bool). if t && (x.session == number) then count + 1 else count) off }
apart-untouched who other apart (entry.Answered x) h = record { unsent = λ daemon. refl; uncounted = λ number count. refl }
apart-untouched who other apart (entry.Refused x) h = record { unsent = λ daemon. refl; uncounted = λ number count. refl }
apart-untouched who other apart (entry.Ended x) h = record { unsent = λ daemon. refl; uncounted = λ number count. refl }
apart-untouched who other apart (entry.Restarted x) h = record { unsent = λ daemon. refl; uncounted = λ number count. refl }
apart-untouched who other apart (entry.Broken x) h = record { unsent = λ daemon. refl; uncounted = λ number count. refl }
apart-untouched who other apart (entry.Leaked x) h = record { unsent = λ daemon. refl; uncounted = λ number count. refl }

-- what is of a node leaves each other one
pub others-untouched : (who : NodeName) (other : Name) → is_node_of other who ≡ false → (es : List Entry) → AllByRecursion (IsOf who) es → AllByRecursion (Untouched other) es
others-untouched who other apart es h = all-map (IsOf who) (Untouched other) (apart-untouched who other apart) es h

-- ---- of a list of them

-- nothing of them is sent to this daemon
pub none-sent : (name daemon : Name) (es : List Entry) → AllByRecursion (λ (e : Entry). sent_to name daemon e ≡ None) es → all_sent_to name daemon es ≡ []
none-sent name daemon [] h = refl
none-sent name daemon (e ∷ es) h =
    ap (λ (o : Option (ℕ × (ℕ × Operation))). cons_option o (all_sent_to name daemon es)) h.0 ∙ none-sent name daemon es h.1

pub unsent-still : (name daemon : Name) (J es : List Entry) → AllByRecursion (λ (e : Entry). sent_to name daemon e ≡ None) es → all_sent_to name daemon (J ++ es) ≡ all_sent_to name daemon J
unsent-still name daemon J es h =
    filter_map-append (sent_to name daemon) J es ∙ ap (λ (l : List (ℕ × (ℕ × Operation))). all_sent_to name daemon J ++ l) (none-sent name daemon es h) ∙ append-nil (all_sent_to name daemon J)

pub all-unsent : (name daemon : Name) (es : List Entry) → AllByRecursion (Untouched name) es → AllByRecursion (λ (e : Entry). sent_to name daemon e ≡ None) es
all-unsent name daemon es h = all-map (Untouched name) (λ (e : Entry). sent_to name daemon e ≡ None) (λ e left. left.unsent daemon) es h

pub sent-still : (name daemon : Name) (J es : List Entry) → AllByRecursion (Untouched name) es → all_sent_to name daemon (J ++ es) ≡ all_sent_to name daemon J
sent-still name daemon J es h = unsent-still name daemon J es (all-unsent name daemon es h)

pub counted-append : (name : Name) (number count : ℕ) (xs ys : List Entry) → counted_all name number count (xs ++ ys) ≡ counted_all name number (counted_all name number count xs) ys
counted-append name number count [] ys = refl
counted-append name number count (x ∷ xs) ys = counted-append name number (counted name number count x) xs ys

none-counted : (name : Name) (number count : ℕ) (es : List Entry) → AllByRecursion (Untouched name) es → counted_all name number count es ≡ count
none-counted name number count [] h = refl
none-counted name number count (e ∷ es) h = none-counted name number (counted name number count e) es h.1 ∙ h.0.uncounted number count

pub count-still : (name : Name) (number : ℕ) (J es : List Entry) → AllByRecursion (Untouched name) es → handled_since name number (J ++ es) ≡ handled_since name number J
count-still name number J es h = counted-append name number 0 J es ∙ none-counted name number (handled_since name number J) es h

-- behind one that counts, and more that don't
pub count-first : (name : Name) (number : ℕ) (J : List Entry) (e : Entry) (es : List Entry) → AllByRecursion (Untouched name) es
    → handled_since name number (J ++ e ∷ es) ≡ counted name number (handled_since name number J) e
count-first name number J e es h = counted-append name number 0 J (e ∷ es) ∙ none-counted name number (counted name number (handled_since name number J) e) es h

-- ---- the laws of one entry

-- it is sent and handled in order
abbrev pub IsInOrderBy : List Entry → Entry → Type 0
IsInOrderBy earlier e = IsSentInOrderBy earlier e × IsHandledInOrderBy earlier e

pub plain-ordered : (es J : List Entry) → AllByRecursion IsPlain es → EachBehind IsInOrderBy J es
plain-ordered [] J h = tt
plain-ordered (e ∷ es) J h = (one e h.0, plain-ordered es (J ++ e ∷ []) h.1)
  where
    one : (e : Entry) → IsPlain e → IsInOrderBy J e
    one (entry.Sent x) h = absurd h
    one (entry.Handled x) h = absurd h
    one (entry.Admitted x) h = absurd h
    one (entry.Saved x) h = (tt, tt)
    one (entry.Issued x) h = (tt, tt)
    one (entry.Fetched x) h = (tt, tt)
    one (entry.Looked x) h = (tt, tt)
    one (entry.Resumed x) h = (tt, tt)
    one (entry.Answered x) h = (tt, tt)
    one (entry.Refused x) h = (tt, tt)
    one (entry.Ended x) h = (tt, tt)
    one (entry.Restarted x) h = (tt, tt)
    one (entry.Broken x) h = (tt, tt)
    one (entry.Leaked x) h = (tt, tt)
