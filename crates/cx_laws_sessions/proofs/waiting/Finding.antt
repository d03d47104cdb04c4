-- Which session of a client is with a daemon, where one is put in its place, or some are forgotten; and which node has a name, behind an event.
use Rattle.std.proofs.Common.{◌≡◌, Bool, true, false, cond, List, [], ◌∷◌, filter, find, map, Option, Some, None, refl, sym, ap, ◌∙◌, subst}
use Rattle.std.specs.Prelude.{◌&&◌, not, if◌then◌else◌}
use Rattle.cx_base.proofs.Names.{same_name_is, same_name_self}
use Rattle.cx_base.specs.Names.{Name, same_name}
use Rattle.cx_laws_sessions.proofs.queues.Sessions.{AreApart, HeldIs, NoneWith}
use Rattle.cx_laws_sessions.proofs.session.Lists.{found-passes}
use Rattle.cx_laws_sessions.specs.cx_rules.specs.Monitor.{MonitorNode}
use Rattle.cx_laws_sessions.specs.cx_rules.specs.Rows.{Outcome}
use Rattle.cx_laws_sessions.specs.cx_rules_session.specs.Sessions.{HeldSession, put_session, session_with, with_session, without_session}
use Rattle.cx_laws_sessions.specs.cx_run.proofs.EntityNamed.{entity-named}
use Rattle.cx_laws_sessions.specs.cx_run.specs.Happenings.{EntityNode, Happening, Nodes, mon_client_in, entity_of, entity_rule, entity_steps, is_of, monitor_steps, with_entity}
use Rattle.cx_words.specs.declared.choices.LeftState.{LeftState}
use Rattle.cx_rotate.specs.declared.states.KeptState.{KeptState}

-- ---- sessions

-- none is with a daemon without which they are kept
none-without : (daemon : Name) (sessions : List HeldSession) → session_with daemon (without_session daemon sessions) ≡ None
none-without daemon [] = refl
none-without daemon (s ∷ sessions) = by_test (same_name s.daemon daemon) refl (none-without daemon sessions)
  where
    by_test : (t : Bool) → same_name s.daemon daemon ≡ t → session_with daemon (without_session daemon sessions) ≡ None
        → session_with daemon (cond (not t) (s ∷ without_session daemon sessions) (without_session daemon sessions)) ≡ None
    by_test true is rest = rest
    by_test false is rest = ap (λ (t : Bool). cond t (Some s) (session_with daemon (without_session daemon sessions))) is ∙ rest

put-found : (new : HeldSession) (sessions : List HeldSession) → session_with new.daemon (put_session new sessions) ≡ Some new
put-found new [] = ap (λ (t : Bool). cond t (Some new) (let o : Option HeldSession = None in o)) (same_name_self new.daemon)
put-found new (s ∷ sessions) = by_test (same_name s.daemon new.daemon) refl (put-found new sessions)
  where
    by_test : (t : Bool) → same_name s.daemon new.daemon ≡ t → session_with new.daemon (put_session new sessions) ≡ Some new
        → session_with new.daemon (if t then new ∷ sessions else s ∷ put_session new sessions) ≡ Some new
    by_test true is rest = ap (λ (t : Bool). cond t (Some new) (session_with new.daemon sessions)) (same_name_self new.daemon)
    by_test false is rest = ap (λ (t : Bool). cond t (Some s) (session_with new.daemon (put_session new sessions))) is ∙ rest

-- the one with a daemon is the one that was put there
pub own-found : (daemon : Name) (put : Option HeldSession) (sessions : List HeldSession) → HeldIs (λ (s : HeldSession). s.daemon ≡ daemon) put
    → session_with daemon (with_session daemon put sessions) ≡ put
own-found daemon None sessions is = none-without daemon sessions
own-found daemon (Some new) sessions is = subst (λ (d : Name). session_with d (put_session new sessions) ≡ Some new) is (put-found new sessions)

-- and that one is with it
pub with-own : (daemon : Name) (sessions : List HeldSession) (session : HeldSession) → session_with daemon sessions ≡ Some session → session.daemon ≡ daemon
with-own daemon sessions session is = same_name_is session.daemon daemon (found-passes (λ (s : HeldSession). same_name s.daemon daemon) sessions session is)

-- what isn't with a daemon is kept
module _ (daemon other : Name) (apart : same_name daemon other ≡ false) (keeps : HeldSession → Bool) (all : (s : HeldSession) → same_name s.daemon daemon ≡ false → keeps s ≡ true) where
  pub others-found : (sessions : List HeldSession) → session_with other (filter keeps sessions) ≡ session_with other sessions
  others-found [] = refl
  others-found (s ∷ sessions) = by_tests (keeps s) (same_name s.daemon daemon) refl refl (others-found sessions)
    where
      by_tests : (t same : Bool) → keeps s ≡ t → same_name s.daemon daemon ≡ same → session_with other (filter keeps sessions) ≡ session_with other sessions
          → session_with other (cond t (s ∷ filter keeps sessions) (filter keeps sessions)) ≡ session_with other (s ∷ sessions)
      by_tests true same k is rest = ap (λ (o : Option HeldSession). cond (same_name s.daemon other) (Some s) o) rest
      by_tests false true k is rest =
          let off : same_name s.daemon other ≡ false = ap (λ (d : Name). same_name d other) (same_name_is s.daemon daemon is) ∙ apart in
          rest ∙ sym (ap (λ (t : Bool). cond t (Some s) (session_with other sessions)) off)
      by_tests false false k is rest = absurd (let e : true ≡ false = sym (all s is) ∙ k in cc)

put-others : (new : HeldSession) (other : Name) → same_name new.daemon other ≡ false → (sessions : List HeldSession) → session_with other (put_session new sessions) ≡ session_with other sessions
put-others new other apart [] = ap (λ (t : Bool). cond t (Some new) (let o : Option HeldSession = None in o)) apart
put-others new other apart (s ∷ sessions) = by_test (same_name s.daemon new.daemon) refl (put-others new other apart sessions)
  where
    by_test : (t : Bool) → same_name s.daemon new.daemon ≡ t → session_with other (put_session new sessions) ≡ session_with other sessions
        → session_with other (if t then new ∷ sessions else s ∷ put_session new sessions) ≡ session_with other (s ∷ sessions)
    by_test true is rest =
        let off : same_name s.daemon other ≡ false = ap (λ (d : Name). same_name d other) (same_name_is s.daemon new.daemon is) ∙ apart in
        ap (λ (t : Bool). cond t (Some new) (session_with other sessions)) apart ∙ sym (ap (λ (t : Bool). cond t (Some s) (session_with other sessions)) off)
    by_test false is rest = ap (λ (o : Option HeldSession). cond (same_name s.daemon other) (Some s) o) rest

-- the one with another daemon is as before
pub other-found : (daemon other : Name) → same_name daemon other ≡ false → (put : Option HeldSession) (sessions : List HeldSession) → HeldIs (λ (s : HeldSession). s.daemon ≡ daemon) put
    → session_with other (with_session daemon put sessions) ≡ session_with other sessions
other-found daemon other apart None sessions is =
    others-found daemon other apart (λ (s : HeldSession). not (same_name s.daemon daemon)) (λ s off. ap (λ (t : Bool). not t) off) sessions
other-found daemon other apart (Some new) sessions is = put-others new other (ap (λ (d : Name). same_name d other) is ∙ apart) sessions

-- ---- sessions that end with a link

none-with : (daemon : Name) (keeps : HeldSession → Bool) (sessions : List HeldSession) → NoneWith daemon sessions → session_with daemon (filter keeps sessions) ≡ None
none-with daemon keeps [] h = refl
none-with daemon keeps (s ∷ sessions) h = by_test (keeps s) (none-with daemon keeps sessions h.1)
  where
    by_test : (t : Bool) → session_with daemon (filter keeps sessions) ≡ None → session_with daemon (cond t (s ∷ filter keeps sessions) (filter keeps sessions)) ≡ None
    by_test true rest = ap (λ (t : Bool). cond t (Some s) (session_with daemon (filter keeps sessions))) h.0 ∙ rest
    by_test false rest = rest

-- a lossy one is forgotten
abbrev pub unless_lossy : Option HeldSession → Option HeldSession
unless_lossy None = None
unless_lossy (Some s) = if s.lossy then None else Some s

abbrev pub stays_without : Name → HeldSession → Bool
stays_without daemon s = not (s.lossy && same_name s.daemon daemon)

pub gone-found : (daemon : Name) (sessions : List HeldSession) → AreApart sessions → session_with daemon (filter (stays_without daemon) sessions) ≡ unless_lossy (session_with daemon sessions)
gone-found daemon [] apart = refl
gone-found daemon (s ∷ sessions) apart = by_tests (same_name s.daemon daemon) s.lossy refl refl (gone-found daemon sessions apart.1)
  where
    kept : List HeldSession
    kept = filter (stays_without daemon) sessions

    by_tests : (t lossy : Bool) → same_name s.daemon daemon ≡ t → s.lossy ≡ lossy → session_with daemon (filter (stays_without daemon) sessions) ≡ unless_lossy (session_with daemon sessions)
        → session_with daemon (cond (not (lossy && t)) (s ∷ filter (stays_without daemon) sessions) (filter (stays_without daemon) sessions))
        ≡ unless_lossy (cond t (Some s) (session_with daemon sessions))
    by_tests true true is loses rest =
        none-with daemon (stays_without daemon) sessions (subst (λ (d : Name). NoneWith d sessions) (same_name_is s.daemon daemon is) apart.0)
        ∙ sym (ap (λ (t : Bool). if t then (let o : Option HeldSession = None in o) else Some s) loses)
    by_tests true false is loses rest =
        ap (λ (t : Bool). cond t (Some s) (session_with daemon kept)) is ∙ sym (ap (λ (t : Bool). if t then (let o : Option HeldSession = None in o) else Some s) loses)
    by_tests false true is loses rest = ap (λ (t : Bool). cond t (Some s) (session_with daemon kept)) is ∙ rest
    by_tests false false is loses rest = ap (λ (t : Bool). cond t (Some s) (session_with daemon kept)) is ∙ rest

-- ---- nodes

module _ {X : Type 0} (passes replaces : X → Bool) (new : X) where
  abbrev replaced : List X → List X
  replaced xs = map (λ (x : X). if replaces x then new else x) xs

  -- those that are replaced don't pass, as little as the new one
  others-stay : ((x : X) → replaces x ≡ true → passes x ≡ false) → passes new ≡ false → (xs : List X) → find passes (replaced xs) ≡ find passes xs
  others-stay apart off [] = refl
  others-stay apart off (x ∷ xs) = by_test (replaces x) refl (others-stay apart off xs)
    where
      by_test : (t : Bool) → replaces x ≡ t → find passes (replaced xs) ≡ find passes xs
          → cond (passes (if t then new else x)) (Some (if t then new else x)) (find passes (replaced xs)) ≡ cond (passes x) (Some x) (find passes xs)
      by_test true is rest =
          ap (λ (k : Bool). cond k (Some new) (find passes (replaced xs))) off ∙ rest ∙ sym (ap (λ (k : Bool). cond k (Some x) (find passes xs)) (apart x is))
      by_test false is rest = ap (λ (o : Option X). cond (passes x) (Some x) o) rest

-- the one that is found is replaced
new-found : {X : Type 0} (passes : X → Bool) (new : X) → passes new ≡ true → (xs : List X) (old : X) → find passes xs ≡ Some old → find passes (replaced passes passes new xs) ≡ Some new
new-found passes new is [] old e = absurd cc
new-found {X} passes new is (x ∷ xs) old e = by_test (passes x) refl e (new-found passes new is xs old)
  where
    by_test : (t : Bool) → passes x ≡ t → cond t (Some x) (find passes xs) ≡ Some old → (find passes xs ≡ Some old → find passes (replaced passes passes new xs) ≡ Some new)
        → cond (passes (if t then new else x)) (Some (if t then new else x)) (find passes (replaced passes passes new xs)) ≡ Some new
    by_test true passes_it found rest = ap (λ (k : Bool). cond k (Some new) (find passes (replaced passes passes new xs))) is
    by_test false fails found rest = ap (λ (k : Bool). cond k (Some x) (find passes (replaced passes passes new xs))) fails ∙ rest found

abbrev pub entity_behind : Nodes → Happening → EntityNode → EntityNode
entity_behind nodes h e = (entity_rule nodes.handlers e h.input h.reading h.draw).state

-- it keeps its name
named-alike : (nodes : Nodes) (h : Happening) (name : Name) (e : EntityNode) → is_of name (entity_behind nodes h e) ≡ is_of name e
named-alike nodes h name e = ap (λ (n : Name). same_name n name) (entity-named nodes.handlers e h.input h.reading h.draw)

-- an event of this entity
pub own-entity : (nodes : Nodes) (h : Happening) (name : Name) (e : EntityNode) → entity_of name nodes ≡ Some e
    → entity_of name (with_entity nodes name (entity_behind nodes h e)) ≡ Some (entity_behind nodes h e)
own-entity nodes h name e is =
    new-found (is_of name) (entity_behind nodes h e) (named-alike nodes h name e ∙ found-passes (is_of name) nodes.entities e is) nodes.entities e is

-- an event of another one
pub other-entity : (nodes : Nodes) (h : Happening) (name other : Name) → same_name other name ≡ false → (found : Option EntityNode) → entity_of other nodes ≡ found
    → entity_of name (entity_steps nodes h other found).nodes ≡ entity_of name nodes
other-entity nodes h name other apart None is = refl
other-entity nodes h name other apart (Some e) is =
    let differs : (d : EntityNode) → is_of other d ≡ true → is_of name d ≡ false =
    λ d e. ap (λ (n : Name). same_name n name) (same_name_is (mon_client_in d).name other e) ∙ apart in
    others-stay (is_of name) (is_of other) (entity_behind nodes h e) differs
    (differs (entity_behind nodes h e) (named-alike nodes h other e ∙ found-passes (is_of other) nodes.entities e is)) nodes.entities

-- an event of the monitor
pub monitor-entity : (nodes : Nodes) (name : Name) (o : Outcome MonitorNode) (left : Option LeftState) (save : Option KeptState)
    → entity_of name (monitor_steps nodes o left save).nodes ≡ entity_of name nodes
monitor-entity nodes name o (Some left) (Some saved) = refl
monitor-entity nodes name o (Some left) None = refl
monitor-entity nodes name o None save = refl
