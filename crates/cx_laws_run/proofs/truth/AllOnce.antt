-- Of a journal whose entries keep the laws of sessions: no operation of an entity that didn't leak is handled twice under a cookie; and each session in which one is
-- handled was admitted once.
use Rattle.std.proofs.Common.{◌≡◌, ℕ, ◌+◌, ◌≤◌, ◌==◌, true, List, [], ◌∷◌, ◌++◌, length, Option, Some, None, ◌⊎◌, inl, inr, refl, sym, ap, ◌∙◌, subst, arith, eq-eqb}
use Rattle.std.proofs.lemmas.List.{append-nil, append_assoc}
use Rattle.std.proofs.lemmas.List.Elements.{Contains-append_left, Contains-append_right, Contains-push}
use Rattle.std.specs.Prelude.{Contains}
use Rattle.std.specs.List.{cons_option, filter_map}
use Rattle.cx_base.proofs.Names.{same_name_self}
use Rattle.cx_base.specs.Names.{Name, same_name}
use Rattle.cx_base.specs.declared.operations.Operation.{Operation}
use Rattle.cx_journal.proofs.SessionLemmas.{session_is}
use Rattle.cx_journal.specs.Behind.{EachBehind}
use Rattle.cx_journal.specs.PrefixOfSent.{all_handled_under, handled_under, sent_under}
use Rattle.cx_journal.specs.Sessions.{IsHandledIn, session_at}
use Rattle.cx_journal.specs.declared.entries.Admitted.{Admitted}
use Rattle.cx_journal.specs.declared.entries.Entry.{Entry}
use Rattle.cx_journal.specs.declared.entries.Entry.TheVariants as journal
use Rattle.cx_journal.specs.declared.entries.Handled.{Handled}
use Rattle.cx_laws_run.specs.cx_laws_keys.proofs.keys.Uses.{WholeRun}
use Rattle.cx_laws_run.specs.cx_laws_links.proofs.links.IncomingTakes.{IsServedIn}
use Rattle.cx_laws_run.specs.cx_laws_sessions.specs.queues.Counting.{IsHandledInOrderBy, handled_since}
use Rattle.cx_laws_run.specs.cx_laws_sessions.specs.queues.Sending.{IsNumbered}
use Rattle.cx_laws_run.specs.cx_laws_sessions.proofs.session.Standing.{standing, standing-handles}
use Rattle.cx_session.specs.Queue.{IsRun}
use Rattle.cx_laws_run.specs.cx_laws_links.proofs.answers.Known.{WasServed}
use Rattle.cx_laws_run.proofs.sent.Fronted.{Born, Fronted, IsAt, StandsBy, Unborn, along, each-front, first-fronted, handled, sent, sent-front}
use Rattle.cx_laws_run.proofs.sent.Fronts.{front-numbered, within-front}
use Rattle.cx_laws_run.proofs.sent.Lives.{OnceBy}
use Rattle.cx_laws_run.proofs.sent.Prefix.{DidntLeak}
use Rattle.cx_laws_run.proofs.sent.Said.{WasSaidBy}
use Rattle.cx_laws_run.proofs.truth.OnceHandled.{HandledOnce}

-- ---- places of a journal

-- what is said of each entry is said of this one
pub each-at : (P : List Entry → Entry → Type 0) (J xs : List Entry) (e : Entry) (ys : List Entry) → EachBehind P J (xs ++ e ∷ ys) → P (J ++ xs) e
each-at P J [] e ys h = subst (λ (l : List Entry). P l e) (sym (append-nil J)) h.0
each-at P J (x ∷ xs) e ys h = subst (λ (l : List Entry). P l e) (append_assoc J (x ∷ []) xs) (each-at P (J ++ x ∷ []) xs e ys h.1)

-- what is so at each place is said of each entry
pub each-split : (P : List Entry → Entry → Type 0) (J es : List Entry) → ((xs : List Entry) (e : Entry) (ys : List Entry) → es ≡ xs ++ e ∷ ys → P (J ++ xs) e) → EachBehind P J es
each-split P J [] f = tt
each-split P J (e ∷ es) f = (
  subst (λ (l : List Entry). P l e) (append-nil J) (f [] e es refl),
  each-split P (J ++ e ∷ []) es (λ xs x ys is. subst (λ (l : List Entry). P l x) (sym (append_assoc J (e ∷ []) xs)) (f (e ∷ xs) x ys (ap (λ (l : List Entry). e ∷ l) is))),
)

-- what was handled so is among all that was
pub handled-there : (cookie : ℕ) (entity : Name) (K before : List Entry) (e : Entry) (after : List Entry) (v : ℕ × Operation) → handled_under cookie entity (K ++ before) e ≡ Some v
    → Contains (all_handled_under cookie entity K (before ++ e ∷ after)) v
handled-there cookie entity K [] e after v is =
    subst (λ (o : Option (ℕ × Operation)). Contains (cons_option o (all_handled_under cookie entity (K ++ e ∷ []) after)) v)
    (sym (ap (λ (l : List Entry). handled_under cookie entity l e) (sym (append-nil K)) ∙ is))
    (Contains-append_left (v ∷ []) (all_handled_under cookie entity (K ++ e ∷ []) after) v (Contains-push [] v))
handled-there cookie entity K (x ∷ before) e after v is =
    more (handled_under cookie entity K x)
    (handled-there cookie entity (K ++ x ∷ []) before e after v (ap (λ (l : List Entry). handled_under cookie entity l e) (append_assoc K (x ∷ []) before) ∙ is))
  where
    rest : List (ℕ × Operation)
    rest = all_handled_under cookie entity (K ++ x ∷ []) (before ++ e ∷ after)

    more : (o : Option (ℕ × Operation)) → Contains (all_handled_under cookie entity (K ++ x ∷ []) (before ++ e ∷ after)) v
        → Contains (cons_option o (all_handled_under cookie entity (K ++ x ∷ []) (before ++ e ∷ after))) v
    more None there = there
    more (Some y) there = Contains-append_right (y ∷ []) rest v there

module _ (run : WholeRun) (entries : List Entry) (stands : EachBehind StandsBy [] entries) (once : EachBehind OnceBy [] entries) (said : EachBehind (WasSaidBy (DidntLeak run.leaked)) [] entries)
    (order : EachBehind IsHandledInOrderBy [] entries) (numbered : (client : Name) (cookie : ℕ) → IsNumbered (filter_map (sent_under cookie client) entries)) where
  -- the session in which an operation is handled
  pub record IsHeldIn (J : List Entry) (h : Handled) (name : Name) : Type 0 where
    pub session : Admitted
    pub stood : standing h.daemon h.session J ≡ Some session
    pub handled_in : IsHandledIn J h session
    pub entity : session.entity ≡ name
    pub cookie : session.cookie ≡ h.cookie

  pub held-in : (J : List Entry) (h : Handled) (rest : List Entry) → entries ≡ J ++ journal.Handled h ∷ rest → (name : Name) → IsServedIn J name h → IsHeldIn J h name
  held-in J h rest is name served =
      let st : StandsBy J (journal.Handled h) = each-at StandsBy [] J (journal.Handled h) rest (subst (λ (l : List Entry). EachBehind StandsBy [] l) is stands) in
      let on : OnceBy J (journal.Handled h) = each-at OnceBy [] J (journal.Handled h) rest (subst (λ (l : List Entry). EachBehind OnceBy [] l) is once) in
      let same : served.session ≡ st.0 = on served.session served.opens served.daemon_is served.number served.epoch st.0 st.1 st.2 in
      record {
        session = st.0;
        stood = st.1;
        handled_in = standing-handles J h st.0 st.1 st.2 st.3;
        entity = ap (λ (a : Admitted). a.entity) (sym same) ∙ served.entity;
        cookie = st.3;
      }

  -- what was handled under a cookie for an entity that didn't leak, up to a place
  fronted : (J rest : List Entry) → entries ≡ J ++ rest → (entity : Name) (free : DidntLeak run.leaked entity) (cookie : ℕ) → Fronted (DidntLeak run.leaked) entity free cookie J
  fronted J rest is entity free cookie =
      along (DidntLeak run.leaked) entity free cookie J []
      (each-front StandsBy [] J rest (subst (λ (l : List Entry). EachBehind StandsBy [] l) is stands))
      (each-front (WasSaidBy (DidntLeak run.leaked)) [] J rest (subst (λ (l : List Entry). EachBehind (WasSaidBy (DidntLeak run.leaked)) [] l) is said))
      (each-front IsHandledInOrderBy [] J rest (subst (λ (l : List Entry). EachBehind IsHandledInOrderBy [] l) is order))
      (sent-front (DidntLeak run.leaked) entity free cookie J rest (subst (λ (l : List Entry). IsNumbered (filter_map (sent_under cookie entity) l)) is (numbered entity cookie)))
      (first-fronted (DidntLeak run.leaked) entity free cookie)

  -- ---- an operation is handled once

  module _ (J : List Entry) (x : Handled) (rest : List Entry) (is : entries ≡ J ++ journal.Handled x ∷ rest) (name : Name) (free : DidntLeak run.leaked name) (served : IsServedIn J name x) where
    held : IsHeldIn J x name
    held = held-in J x rest is name served

    front : Fronted (DidntLeak run.leaked) name free x.cookie J
    front = fronted J (journal.Handled x ∷ rest) is name free x.cookie

    born : Unborn (DidntLeak run.leaked) name free x.cookie J ⊎ Born (DidntLeak run.leaked) name free x.cookie J → Born (DidntLeak run.leaked) name free x.cookie J
    born (inl u) = absurd (u.stands x.daemon x.session held.session held.stood (held.entity, held.cookie))
    born (inr b) = b

    -- its seq is above those of all that were
    above : x.seq ≡ length (handled (DidntLeak run.leaked) name free x.cookie J) + 1
    above =
        let b = born front.state in
        let at : IsAt (DidntLeak run.leaked) name free x.cookie J b.first x.daemon x.session = b.stands x.daemon x.session held.session held.stood (held.entity, held.cookie) in
        let next : x.seq ≡ handled_since x.daemon x.session J + 1 =
        each-at IsHandledInOrderBy [] J (journal.Handled x) rest (subst (λ (l : List Entry). EachBehind IsHandledInOrderBy [] l) is order) in
        next ∙ ap (λ (m : ℕ). m + 1) at.count

    -- one that was handled is among them
    among : (y : Handled) → WasServed J name y → y.cookie ≡ x.cookie → Contains (handled (DidntLeak run.leaked) name free x.cookie J) (y.seq, y.operation)
    among y was same =
        let place : entries ≡ was.before ++ journal.Handled y ∷ (was.after ++ journal.Handled x ∷ rest) =
        is ∙ ap (λ (l : List Entry). l ++ journal.Handled x ∷ rest) was.place ∙ append_assoc was.before (journal.Handled y ∷ was.after) (journal.Handled x ∷ rest) in
        let there : IsHeldIn was.before y name = held-in was.before y (was.after ++ journal.Handled x ∷ rest) place name was.served in
        let cookie_is : (y.cookie == x.cookie) ≡ true = eq-eqb y.cookie x.cookie same in
        let found : session_at was.before y ≡ Some there.session = session_is was.before y there.session there.handled_in in
        let named : same_name there.session.entity name ≡ true = ap (λ (m : Name). same_name m name) there.entity ∙ same_name_self name in
        let so : handled_under x.cookie name was.before (journal.Handled y) ≡ Some (y.seq, y.operation) = rw (cookie_is, found, named) refl in
        subst (λ (l : List Entry). Contains (all_handled_under x.cookie name [] l) (y.seq, y.operation)) (sym was.place)
        (handled-there x.cookie name [] was.before (journal.Handled y) was.after (y.seq, y.operation) so)

    pub not-again : (y : Handled) → WasServed J name y → y.cookie ≡ x.cookie → y.seq ≡ x.seq → ⊥
    not-again y was same seq =
        let all : List (ℕ × Operation) = handled (DidntLeak run.leaked) name free x.cookie J in
        let rest_numbered : IsNumbered (sent (DidntLeak run.leaked) name free x.cookie J) =
        sent-front (DidntLeak run.leaked) name free x.cookie J (journal.Handled x ∷ rest) (subst (λ (l : List Entry). IsNumbered (filter_map (sent_under x.cookie name) l)) is (numbered name x.cookie)) in
        let run_of : IsNumbered all = front-numbered all front.prefix.0 (subst (λ (l : List (ℕ × Operation)). IsNumbered l) front.prefix.1 rest_numbered) in
        let low : y.seq + length {A = ℕ × Operation} [] ≤ length all =
        within-front all [] (length all) (y.seq, y.operation) (subst (λ (l : List (ℕ × Operation)). IsRun (length all) l) (sym (append-nil all)) run_of) (among y was same) in
        let high = above in
        omega (arith, low, high, seq)

  one-handled : (J : List Entry) (e : Entry) (rest : List Entry) → entries ≡ J ++ e ∷ rest → HandledOnce run J e
  one-handled J (journal.Handled x) rest is = λ name free served y was same seq. not-again J x rest is name free served y was same seq
  one-handled J (journal.Admitted x) rest is = tt
  one-handled J (journal.Resumed x) rest is = tt
  one-handled J (journal.Saved x) rest is = tt
  one-handled J (journal.Issued x) rest is = tt
  one-handled J (journal.Fetched x) rest is = tt
  one-handled J (journal.Looked x) rest is = tt
  one-handled J (journal.Sent x) rest is = tt
  one-handled J (journal.Answered x) rest is = tt
  one-handled J (journal.Refused x) rest is = tt
  one-handled J (journal.Ended x) rest is = tt
  one-handled J (journal.Restarted x) rest is = tt
  one-handled J (journal.Broken x) rest is = tt
  one-handled J (journal.Leaked x) rest is = tt

  -- so it is of each entry
  pub all-handled-once : EachBehind (HandledOnce run) [] entries
  all-handled-once = each-split (HandledOnce run) [] entries (λ J e rest is. one-handled J e rest is)
