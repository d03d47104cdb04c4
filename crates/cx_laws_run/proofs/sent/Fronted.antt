-- Of a journal: what is handled in the sessions of an entity under a cookie is a front of what the entity sent under it, where the entries keep these laws.
use Rattle.std.proofs.Common.{◌≡◌, ℕ, ◌+◌, ◌==◌, Bool, true, false, List, [], ◌∷◌, ◌++◌, length, Option, Some, None, ◌⊎◌, inl, inr, refl, sym, ap, ◌∙◌, subst, arith, eqb-true, eq-eqb, length-append}
use Rattle.std.proofs.lemmas.Bool.{and_parts}
use Rattle.std.proofs.lemmas.List.{append-nil, append_assoc}
use Rattle.std.proofs.lemmas.List.Elements.{Contains-append_left, Contains-append_right, Contains-push, Contains-push_cases, filter_map-append}
use Rattle.std.specs.Prelude.{◌&&◌, Contains, if◌then◌else◌}
use Rattle.std.specs.List.{cons_option, filter_map}
use Rattle.std.specs.Option.{option_map_or}
use Rattle.cx_base.proofs.Names.{same_name_is, same_name_self}
use Rattle.cx_base.specs.Names.{Name, same_name}
use Rattle.cx_base.specs.declared.operations.Operation.{Operation}
use Rattle.cx_journal.proofs.SessionLemmas.{session_is}
use Rattle.cx_journal.specs.Behind.{EachBehind}
use Rattle.cx_journal.specs.Leaks.{IsUnleaked}
use Rattle.cx_journal.specs.PrefixOfSent.{IsPrefix, IsPrefixOfSent, all_handled_under, handled_under, sent_under}
use Rattle.cx_journal.specs.Sessions.{session_at, session_of}
use Rattle.cx_journal.specs.declared.entries.Admitted.{Admitted}
use Rattle.cx_journal.specs.declared.entries.Entry.{Entry}
use Rattle.cx_journal.specs.declared.entries.Entry.TheVariants as journal
use Rattle.cx_journal.specs.declared.entries.Handled.{Handled}
use Rattle.cx_laws_links.proofs.links.IncomingTakes.{WasSentAs}
use Rattle.cx_laws_sessions.proofs.queues.Entries.{counted-append}
use Rattle.cx_laws_sessions.specs.queues.Counting.{IsHandledInOrderBy, counted, handled_since}
use Rattle.cx_laws_sessions.specs.queues.Sending.{IsNumbered}
use Rattle.cx_laws_run.proofs.sent.Fronts.{cons-cases, front-numbered, prefix-more, prefix-next}
use Rattle.cx_laws_run.proofs.sent.Said.{WasSaidBy}
use Rattle.cx_laws_sessions.proofs.session.Standing.{own-turn, standing, standing-handles, stood, stood-append, turns_session}

-- ---- what entries keep

-- a session that is resumed stands, with the same entity and cookie; and an operation is handled in the session that stands
abbrev pub StandsBy : List Entry → Entry → Type 0
StandsBy J (journal.Resumed r) = (b : Admitted) × (standing r.daemon r.session J ≡ Some b) × (b.entity ≡ r.entity) × (b.cookie ≡ r.cookie)
StandsBy J (journal.Handled h) = (a : Admitted) × (standing h.daemon h.session J ≡ Some a) × (a.epoch ≡ h.epoch) × (a.cookie ≡ h.cookie)
StandsBy J _ = Unit {0}

-- ---- one entry more

cons-append : (o : Option (ℕ × Operation)) (xs ys : List (ℕ × Operation)) → cons_option o (xs ++ ys) ≡ cons_option o xs ++ ys
cons-append None xs ys = refl
cons-append (Some y) xs ys = refl

handled-more : (cookie : ℕ) (entity : Name) (K J : List Entry) (e : Entry)
    → all_handled_under cookie entity K (J ++ e ∷ []) ≡ all_handled_under cookie entity K J ++ cons_option (handled_under cookie entity (K ++ J) e) []
handled-more cookie entity K [] e = ap (λ (l : List Entry). cons_option (handled_under cookie entity l e) []) (sym (append-nil K))
handled-more cookie entity K (x ∷ J) e =
    let first : Option (ℕ × Operation) = handled_under cookie entity K x in
    let rest : List (ℕ × Operation) = all_handled_under cookie entity (K ++ x ∷ []) J in
    ap (λ (l : List (ℕ × Operation)). cons_option first l) (handled-more cookie entity (K ++ x ∷ []) J e
    ∙ ap (λ (l : List Entry). rest ++ cons_option (handled_under cookie entity l e) []) (append_assoc K (x ∷ []) J))
    ∙ cons-append first rest (cons_option (handled_under cookie entity (K ++ x ∷ J) e) [])

standing-push : (daemon : Name) (number : ℕ) (J : List Entry) (e : Entry) → standing daemon number (J ++ e ∷ []) ≡ stood daemon number (standing daemon number J) e
standing-push daemon number J e = stood-append daemon number None J (e ∷ [])

count-push : (daemon : Name) (number : ℕ) (J : List Entry) (e : Entry) → handled_since daemon number (J ++ e ∷ []) ≡ counted daemon number (handled_since daemon number J) e
count-push daemon number J e = counted-append daemon number 0 J (e ∷ [])

some-one : {X : Type 0} (x y : X) → Some x ≡ Some y → x ≡ y
some-one x y e = cc

no-one : {X : Type 0} (x : X) → None ≡ Some x → ⊥
no-one x e = cc

-- ---- what is sent

-- what was sent by this client under this cookie is among all that it sent under it
pub sent-there : (cookie : ℕ) (client daemon : Name) (seq : ℕ) (operation : Operation) (J : List Entry)
    → Contains J (journal.Sent (record { client = client; daemon = daemon; cookie = cookie; seq = seq; operation = operation })) → Contains (filter_map (sent_under cookie client) J) (seq, operation)
sent-there cookie client daemon seq operation [] has = absurd (omega (arith, has.1))
sent-there cookie client daemon seq operation (x ∷ J) has =
    by_place (cons-cases x J (journal.Sent (record { client = client; daemon = daemon; cookie = cookie; seq = seq; operation = operation })) has)
    (λ later. sent-there cookie client daemon seq operation J later)
  where
    e : Entry
    e = journal.Sent (record { client = client; daemon = daemon; cookie = cookie; seq = seq; operation = operation })

    all : List (ℕ × Operation)
    all = filter_map (sent_under cookie client) J

    more : (o : Option (ℕ × Operation)) → Contains all (seq, operation) → Contains (cons_option o all) (seq, operation)
    more None there = there
    more (Some y) there = Contains-append_right (y ∷ []) all (seq, operation) there

    own : sent_under cookie client e ≡ Some (seq, operation)
    own = rw (eq-eqb cookie cookie refl, same_name_self client) refl

    by_place : (x ≡ e) ⊎ Contains J e → (Contains J e → Contains all (seq, operation)) → Contains (cons_option (sent_under cookie client x) all) (seq, operation)
    by_place (inl same) rest =
        subst (λ (o : Option (ℕ × Operation)). Contains (cons_option o all) (seq, operation)) (sym (ap (sent_under cookie client) same ∙ own))
        (Contains-append_left ((seq, operation) ∷ []) all (seq, operation) (Contains-push [] (seq, operation)))
    by_place (inr later) rest = more (sent_under cookie client x) (rest later)

-- ---- one entity and one cookie

module _ (Free : Name → Type 0) (entity : Name) (free : Free entity) (cookie : ℕ) where
  -- a session is the entity's, under the cookie
  abbrev pub Its : Admitted → Type 0
  Its a = (a.entity ≡ entity) × (a.cookie ≡ cookie)

  abbrev pub handled : List Entry → List (ℕ × Operation)
  handled J = all_handled_under cookie entity [] J

  abbrev pub sent : List Entry → List (ℕ × Operation)
  sent J = filter_map (sent_under cookie entity) J

  -- no such session was admitted
  pub record Unborn (J : List Entry) : Type 0 where
    pub none : (b : Admitted) → Contains J (journal.Admitted b) → Its b → ⊥
    pub empty : handled J ≡ []
    pub stands : (daemon : Name) (number : ℕ) (a : Admitted) → standing daemon number J ≡ Some a → Its a → ⊥

  -- it stands where the first one was admitted, and all that was handled in it was so since then
  pub record IsAt (J : List Entry) (first : Admitted) (daemon : Name) (number : ℕ) : Type 0 where
    pub daemon_is : daemon ≡ first.daemon
    pub number_is : number ≡ first.session
    pub count : handled_since daemon number J ≡ length (handled J)

  -- one was
  pub record Born (J : List Entry) : Type 0 where
    pub first : Admitted
    pub here : Contains J (journal.Admitted first)
    pub its : Its first
    pub stands : (daemon : Name) (number : ℕ) (a : Admitted) → standing daemon number J ≡ Some a → Its a → IsAt J first daemon number

  -- and what was handled in it is a front of what was sent
  pub record Fronted (J : List Entry) : Type 0 where
    pub state : Unborn J ⊎ Born J
    pub prefix : IsPrefix (handled J) (sent J)

  sent-push : (J : List Entry) (e : Entry) → sent (J ++ e ∷ []) ≡ sent J ++ cons_option (sent_under cookie entity e) []
  sent-push J e = filter_map-append (sent_under cookie entity) J (e ∷ [])

  -- where nothing is handled so, the front stays
  prefix-still : (J : List Entry) (e : Entry) → handled (J ++ e ∷ []) ≡ handled J → IsPrefix (handled J) (sent J) → IsPrefix (handled (J ++ e ∷ [])) (sent (J ++ e ∷ []))
  prefix-still J e same p =
      subst (λ (l : List (ℕ × Operation)). IsPrefix l (sent (J ++ e ∷ []))) (sym same)
      (subst (λ (l : List (ℕ × Operation)). IsPrefix (handled J) l) (sym (sent-push J e)) (prefix-more (handled J) (sent J) (cons_option (sent_under cookie entity e) []) p))

  none-handled : (J : List Entry) (e : Entry) → handled_under cookie entity J e ≡ None → handled (J ++ e ∷ []) ≡ handled J
  none-handled J e none =
      handled-more cookie entity [] J e ∙ ap (λ (o : Option (ℕ × Operation)). handled J ++ cons_option o []) none ∙ append-nil (handled J)

  -- ---- an entry that admits, resumes and handles nothing

  record IsOther (e : Entry) : Type 0 where
    opens : session_of e ≡ None
    counts : (daemon : Name) (number count : ℕ) → counted daemon number count e ≡ count
    unhandled : (J : List Entry) → handled_under cookie entity J e ≡ None
    unadmitted : (b : Admitted) → journal.Admitted b ≡ e → ⊥

  module _ (J : List Entry) (e : Entry) (o : IsOther e) where
    other-stood : (daemon : Name) (number : ℕ) (a : Admitted) → standing daemon number (J ++ e ∷ []) ≡ Some a → standing daemon number J ≡ Some a
    other-stood daemon number a is = by_test (turns_session daemon number e) (sym (standing-push daemon number J e) ∙ is)
      where
        by_test : (t : Bool) → (if t then session_of e else standing daemon number J) ≡ Some a → standing daemon number J ≡ Some a
        by_test true now = absurd (no-one a (sym o.opens ∙ now))
        by_test false now = now

    other-was : (b : Admitted) → Contains (J ++ e ∷ []) (journal.Admitted b) → Contains J (journal.Admitted b)
    other-was b has = by_place (Contains-push_cases J e (journal.Admitted b) has)
      where
        by_place : Contains J (journal.Admitted b) ⊎ (e ≡ journal.Admitted b) → Contains J (journal.Admitted b)
        by_place (inl was) = was
        by_place (inr now) = absurd (o.unadmitted b (sym now))

    other-same : handled (J ++ e ∷ []) ≡ handled J
    other-same = none-handled J e (o.unhandled J)

    other-at : (first : Admitted) (daemon : Name) (number : ℕ) → IsAt J first daemon number → IsAt (J ++ e ∷ []) first daemon number
    other-at first daemon number at = record {
      daemon_is = at.daemon_is;
      number_is = at.number_is;
      count = count-push daemon number J e ∙ o.counts daemon number (handled_since daemon number J) ∙ at.count ∙ ap (λ (l : List (ℕ × Operation)). length l) (sym other-same);
    }

    other-state : Unborn J ⊎ Born J → Unborn (J ++ e ∷ []) ⊎ Born (J ++ e ∷ [])
    other-state (inl u) = inl (record {
      none = λ b has its. u.none b (other-was b has) its;
      empty = other-same ∙ u.empty;
      stands = λ daemon number a is its. u.stands daemon number a (other-stood daemon number a is) its;
    })
    other-state (inr b) = inr (record {
      first = b.first;
      here = Contains-append_left J (e ∷ []) (journal.Admitted b.first) b.here;
      its = b.its;
      stands = λ daemon number a is its. other-at b.first daemon number (b.stands daemon number a (other-stood daemon number a is) its);
    })

    other-step : Fronted J → Fronted (J ++ e ∷ [])
    other-step f = record { state = other-state f.state; prefix = prefix-still J e other-same f.prefix }

  -- ---- one that admits a session

  module _ (J : List Entry) (a : Admitted) (said : WasSaidBy Free J (journal.Admitted a)) where
    abbrev now : List Entry
    now = J ++ journal.Admitted a ∷ []

    admitted-same : handled now ≡ handled J
    admitted-same = none-handled J (journal.Admitted a) refl

    -- what stands is this one, or another one as before
    admitted-stood : (daemon : Name) (number : ℕ) (b : Admitted) → standing daemon number now ≡ Some b
        → ((a ≡ b) × (a.daemon ≡ daemon) × (a.session ≡ number) × (handled_since daemon number now ≡ 0)) ⊎ ((standing daemon number J ≡ Some b) × (handled_since daemon number now ≡ handled_since daemon number J))
    admitted-stood daemon number b is = by_test (same_name a.daemon daemon && (a.session == number)) refl (sym (standing-push daemon number J (journal.Admitted a)) ∙ is) (count-push daemon number J (journal.Admitted a))
      where
        by_test : (t : Bool) → (same_name a.daemon daemon && (a.session == number)) ≡ t → (if t then Some a else standing daemon number J) ≡ Some b
            → handled_since daemon number now ≡ (if t then 0 else handled_since daemon number J)
            → ((a ≡ b) × (a.daemon ≡ daemon) × (a.session ≡ number) × (handled_since daemon number now ≡ 0)) ⊎ ((standing daemon number J ≡ Some b) × (handled_since daemon number now ≡ handled_since daemon number J))
        by_test true turns stands count =
            let both = and_parts (same_name a.daemon daemon) (a.session == number) turns in
            inl (some-one a b stands, same_name_is a.daemon daemon both.0, eqb-true a.session number both.1, count)
        by_test false turns stands count = inr (stands, count)

    admitted-was : (b : Admitted) → Contains now (journal.Admitted b) → Contains J (journal.Admitted b) ⊎ (a ≡ b)
    admitted-was b has = by_place (Contains-push_cases J (journal.Admitted a) (journal.Admitted b) has)
      where
        by_place : Contains J (journal.Admitted b) ⊎ (journal.Admitted a ≡ journal.Admitted b) → Contains J (journal.Admitted b) ⊎ (a ≡ b)
        by_place (inl was) = inl was
        by_place (inr same) = inr cc

    -- it isn't the entity's, or is under another cookie
    else-state : (Its a → ⊥) → Unborn J ⊎ Born J → Unborn now ⊎ Born now
    else-state not (inl u) = inl (record {
      none = λ b has its. by_place b its (admitted-was b has);
      empty = admitted-same ∙ u.empty;
      stands = λ daemon number b is its. by_stood daemon number b its (admitted-stood daemon number b is);
    })
      where
        by_place : (b : Admitted) → Its b → Contains J (journal.Admitted b) ⊎ (a ≡ b) → ⊥
        by_place b its (inl was) = u.none b was its
        by_place b its (inr same) = not (subst Its (sym same) its)

        by_stood : (daemon : Name) (number : ℕ) (b : Admitted) → Its b
            → ((a ≡ b) × (a.daemon ≡ daemon) × (a.session ≡ number) × (handled_since daemon number now ≡ 0)) ⊎ ((standing daemon number J ≡ Some b) × (handled_since daemon number now ≡ handled_since daemon number J))
            → ⊥
        by_stood daemon number b its (inl own) = not (subst Its (sym own.0) its)
        by_stood daemon number b its (inr was) = u.stands daemon number b was.0 its
    else-state not (inr o) = inr (record {
      first = o.first;
      here = Contains-append_left J (journal.Admitted a ∷ []) (journal.Admitted o.first) o.here;
      its = o.its;
      stands = λ daemon number b is its. by_stood daemon number b its (admitted-stood daemon number b is);
    })
      where
        still : (daemon : Name) (number : ℕ) → handled_since daemon number now ≡ handled_since daemon number J → IsAt J o.first daemon number → IsAt now o.first daemon number
        still daemon number count at = record {
          daemon_is = at.daemon_is;
          number_is = at.number_is;
          count = count ∙ at.count ∙ ap (λ (l : List (ℕ × Operation)). length l) (sym admitted-same);
        }

        by_stood : (daemon : Name) (number : ℕ) (b : Admitted) → Its b
            → ((a ≡ b) × (a.daemon ≡ daemon) × (a.session ≡ number) × (handled_since daemon number now ≡ 0)) ⊎ ((standing daemon number J ≡ Some b) × (handled_since daemon number now ≡ handled_since daemon number J))
            → IsAt now o.first daemon number
        by_stood daemon number b its (inl own) = absurd (not (subst Its (sym own.0) its))
        by_stood daemon number b its (inr was) = still daemon number was.1 (o.stands daemon number b was.0 its)

    -- it is the first one of the entity under the cookie
    its-state : Its a → Unborn J ⊎ Born J → Unborn now ⊎ Born now
    its-state its (inr o) =
        absurd (said (subst Free (sym its.0) free) o.first o.here (o.its.0 ∙ sym its.0) (o.its.1 ∙ sym its.1))
    its-state its (inl u) = inr (record {
      first = a;
      here = Contains-push J (journal.Admitted a);
      its = its;
      stands = λ daemon number b is own. by_stood daemon number b own (admitted-stood daemon number b is);
    })
      where
        by_stood : (daemon : Name) (number : ℕ) (b : Admitted) → Its b
            → ((a ≡ b) × (a.daemon ≡ daemon) × (a.session ≡ number) × (handled_since daemon number now ≡ 0)) ⊎ ((standing daemon number J ≡ Some b) × (handled_since daemon number now ≡ handled_since daemon number J))
            → IsAt now a daemon number
        by_stood daemon number b own (inl first) = record {
          daemon_is = sym first.1;
          number_is = sym first.2;
          count = first.3 ∙ sym (ap (λ (l : List (ℕ × Operation)). length l) (admitted-same ∙ u.empty));
        }
        by_stood daemon number b own (inr was) = absurd (u.stands daemon number b was.0 own)

    admitted-step : Fronted J → Fronted now
    admitted-step f = record { state = by_tests (same_name a.entity entity) (a.cookie == cookie) refl refl; prefix = prefix-still J (journal.Admitted a) admitted-same f.prefix }
      where
        differ : (t : Bool) → t ≡ true → t ≡ false → ⊥
        differ t is off = cc

        by_tests : (named under : Bool) → same_name a.entity entity ≡ named → (a.cookie == cookie) ≡ under → Unborn now ⊎ Born now
        by_tests true true n c = its-state (same_name_is a.entity entity n, eqb-true a.cookie cookie c) f.state
        by_tests false under n c =
            else-state (λ its. differ (same_name a.entity entity) (ap (λ (x : Name). same_name x entity) its.0 ∙ same_name_self entity) n) f.state
        by_tests true false n c = else-state (λ its. differ (a.cookie == cookie) (eq-eqb a.cookie cookie its.1) c) f.state

  -- ---- one that resumes a session

  module _ (J : List Entry) (r : Admitted) (stood_by : StandsBy J (journal.Resumed r)) where
    abbrev again : List Entry
    again = J ++ journal.Resumed r ∷ []

    resumed-same : handled again ≡ handled J
    resumed-same = none-handled J (journal.Resumed r) refl

    resumed-was : (b : Admitted) → Contains again (journal.Admitted b) → Contains J (journal.Admitted b)
    resumed-was b has = by_place (Contains-push_cases J (journal.Resumed r) (journal.Admitted b) has)
      where
        by_place : Contains J (journal.Admitted b) ⊎ (journal.Resumed r ≡ journal.Admitted b) → Contains J (journal.Admitted b)
        by_place (inl was) = was
        by_place (inr same) = absurd cc

    -- a session of the entity under the cookie that stands did so before
    resumed-stood : (daemon : Name) (number : ℕ) (b : Admitted) → standing daemon number again ≡ Some b → Its b → (c : Admitted) × (standing daemon number J ≡ Some c) × Its c
    resumed-stood daemon number b is its = by_test (same_name r.daemon daemon && (r.session == number)) refl (sym (standing-push daemon number J (journal.Resumed r)) ∙ is)
      where
        by_test : (t : Bool) → (same_name r.daemon daemon && (r.session == number)) ≡ t → (if t then Some r else standing daemon number J) ≡ Some b → (c : Admitted) × (standing daemon number J ≡ Some c) × Its c
        by_test true turns stands =
            let both = and_parts (same_name r.daemon daemon) (r.session == number) turns in
            let one : r ≡ b = some-one r b stands in
            let own : Its r = subst Its (sym one) its in (
              stood_by.0,
              sym (ap (λ (n : Name). standing n number J) (same_name_is r.daemon daemon both.0)) ∙ sym (ap (λ (k : ℕ). standing r.daemon k J) (eqb-true r.session number both.1)) ∙ stood_by.1,
              (stood_by.2 ∙ own.0, stood_by.3 ∙ own.1),
            )
        by_test false turns stands = (b, stands, its)

    resumed-at : (first : Admitted) (daemon : Name) (number : ℕ) → IsAt J first daemon number → IsAt again first daemon number
    resumed-at first daemon number at = record {
      daemon_is = at.daemon_is;
      number_is = at.number_is;
      count = count-push daemon number J (journal.Resumed r) ∙ at.count ∙ ap (λ (l : List (ℕ × Operation)). length l) (sym resumed-same);
    }

    resumed-state : Unborn J ⊎ Born J → Unborn again ⊎ Born again
    resumed-state (inl u) = inl (record {
      none = λ b has its. u.none b (resumed-was b has) its;
      empty = resumed-same ∙ u.empty;
      stands = λ daemon number b is its. let c = resumed-stood daemon number b is its in u.stands daemon number c.0 c.1 c.2;
    })
    resumed-state (inr o) = inr (record {
      first = o.first;
      here = Contains-append_left J (journal.Resumed r ∷ []) (journal.Admitted o.first) o.here;
      its = o.its;
      stands = λ daemon number b is its. let c = resumed-stood daemon number b is its in resumed-at o.first daemon number (o.stands daemon number c.0 c.1 c.2);
    })

    resumed-step : Fronted J → Fronted again
    resumed-step f = record { state = resumed-state f.state; prefix = prefix-still J (journal.Resumed r) resumed-same f.prefix }

  -- ---- one that handles an operation

  module _ (J : List Entry) (h : Handled) (stood_by : StandsBy J (journal.Handled h)) (said : WasSaidBy Free J (journal.Handled h)) (order : IsHandledInOrderBy J (journal.Handled h)) where
    abbrev behind : List Entry
    behind = J ++ journal.Handled h ∷ []

    -- the session that it is handled in
    abbrev in_session : Admitted
    in_session = stood_by.0

    session-found : session_at J h ≡ Some in_session
    session-found = session_is J h in_session (standing-handles J h in_session stood_by.1 stood_by.2 stood_by.3)

    -- what is handled for the entity under the cookie, where this is so or not
    abbrev one_where : Bool → Option (ℕ × Operation)
    one_where there = if there then Some (h.seq, h.operation) else None

    handled-by : handled_under cookie entity J (journal.Handled h) ≡ one_where ((h.cookie == cookie) && same_name in_session.entity entity)
    handled-by = ap (λ (o : Option Admitted). one_where ((h.cookie == cookie) && option_map_or (λ session. same_name session.entity entity) o false)) session-found

    handled-push : (there : Bool) → ((h.cookie == cookie) && same_name in_session.entity entity) ≡ there → handled behind ≡ handled J ++ cons_option (one_where there) []
    handled-push there is =
        handled-more cookie entity [] J (journal.Handled h) ∙ ap (λ (o : Option (ℕ × Operation)). handled J ++ cons_option o []) (handled-by ∙ ap one_where is)

    handled-was : (b : Admitted) → Contains behind (journal.Admitted b) → Contains J (journal.Admitted b)
    handled-was b has = by_place (Contains-push_cases J (journal.Handled h) (journal.Admitted b) has)
      where
        by_place : Contains J (journal.Admitted b) ⊎ (journal.Handled h ≡ journal.Admitted b) → Contains J (journal.Admitted b)
        by_place (inl was) = was
        by_place (inr same) = absurd cc

    handled-stood : (daemon : Name) (number : ℕ) (b : Admitted) → standing daemon number behind ≡ Some b → standing daemon number J ≡ Some b
    handled-stood daemon number b is = sym (standing-push daemon number J (journal.Handled h)) ∙ is

    -- a session is that one, or not
    own-session : (daemon : Name) (number : ℕ) (b : Admitted) → standing daemon number J ≡ Some b → (same_name h.daemon daemon && (h.session == number)) ≡ true → in_session ≡ b
    own-session daemon number b is turns =
        let both = and_parts (same_name h.daemon daemon) (h.session == number) turns in
        some-one in_session b
        (sym stood_by.1 ∙ ap (λ (n : Name). standing n h.session J) (same_name_is h.daemon daemon both.0) ∙ ap (λ (k : ℕ). standing daemon k J) (eqb-true h.session number both.1) ∙ is)

    counts-where : (daemon : Name) (number : ℕ) (there : Bool) → (same_name h.daemon daemon && (h.session == number)) ≡ there
        → handled_since daemon number behind ≡ (if there then handled_since daemon number J + 1 else handled_since daemon number J)
    counts-where daemon number there is =
        count-push daemon number J (journal.Handled h) ∙ ap (λ (b : Bool). if b then handled_since daemon number J + 1 else handled_since daemon number J) is

    -- it is none of the entity's, or under another cookie
    module _ (not : Its in_session → ⊥) (same : handled behind ≡ handled J) where
      unturned : (daemon : Name) (number : ℕ) (b : Admitted) → standing daemon number J ≡ Some b → Its b → (t : Bool) → (same_name h.daemon daemon && (h.session == number)) ≡ t
          → handled_since daemon number behind ≡ handled_since daemon number J
      unturned daemon number b is its true turns = absurd (not (subst Its (sym (own-session daemon number b is turns)) its))
      unturned daemon number b is its false turns = counts-where daemon number false turns

      away-at : (first : Admitted) (daemon : Name) (number : ℕ) → handled_since daemon number behind ≡ handled_since daemon number J → IsAt J first daemon number → IsAt behind first daemon number
      away-at first daemon number count at = record {
        daemon_is = at.daemon_is;
        number_is = at.number_is;
        count = count ∙ at.count ∙ ap (λ (l : List (ℕ × Operation)). length l) (sym same);
      }

      away-state : Unborn J ⊎ Born J → Unborn behind ⊎ Born behind
      away-state (inl u) = inl (record {
        none = λ b has its. u.none b (handled-was b has) its;
        empty = same ∙ u.empty;
        stands = λ daemon number b is its. u.stands daemon number b (handled-stood daemon number b is) its;
      })
      away-state (inr o) = inr (record {
        first = o.first;
        here = Contains-append_left J (journal.Handled h ∷ []) (journal.Admitted o.first) o.here;
        its = o.its;
        stands = λ daemon number b is its.
            let was : standing daemon number J ≡ Some b = handled-stood daemon number b is in
            away-at o.first daemon number (unturned daemon number b was its (same_name h.daemon daemon && (h.session == number)) refl) (o.stands daemon number b was its);
      })

      away-step : Fronted J → Fronted behind
      away-step f = record { state = away-state f.state; prefix = prefix-still J (journal.Handled h) same f.prefix }

    -- it is the next of the entity's session under the cookie
    module _ (its : Its in_session) (more : handled behind ≡ handled J ++ (h.seq, h.operation) ∷ []) where
      more-long : length (handled behind) ≡ length (handled J) + 1
      more-long = ap (λ (l : List (ℕ × Operation)). length l) more ∙ length-append (handled J) ((h.seq, h.operation) ∷ [])

      module _ (o : Born J) where
        here-at : IsAt J o.first h.daemon h.session
        here-at = o.stands h.daemon h.session in_session stood_by.1 its

        next-at : (daemon : Name) (number : ℕ) → IsAt J o.first daemon number → IsAt behind o.first daemon number
        next-at daemon number at =
            let one : h.daemon ≡ daemon = here-at.daemon_is ∙ sym at.daemon_is in
            let same : h.session ≡ number = here-at.number_is ∙ sym at.number_is in
            record {
              daemon_is = at.daemon_is;
              number_is = at.number_is;
              count = counts-where daemon number true (own-turn h.daemon daemon h.session number one same) ∙ ap (λ (n : ℕ). n + 1) at.count ∙ sym more-long;
            }

        next-born : Born behind
        next-born = record {
          first = o.first;
          here = Contains-append_left J (journal.Handled h ∷ []) (journal.Admitted o.first) o.here;
          its = o.its;
          stands = λ daemon number b is own. next-at daemon number (o.stands daemon number b (handled-stood daemon number b is) own);
        }

        -- its seq is the next one
        next-seq : h.seq ≡ length (handled J) + 1
        next-seq = order ∙ ap (λ (n : ℕ). n + 1) here-at.count

        was-sent : Contains (sent J) (h.seq, h.operation)
        was-sent =
            let s : WasSentAs J in_session.entity h = said in_session session-found (subst Free (sym its.0) free) in
            let under : h.cookie ≡ cookie = sym stood_by.3 ∙ its.1 in
            sent-there cookie entity s.0 h.seq h.operation J
            (subst (λ (n : Name). Contains J (journal.Sent (record { client = n; daemon = s.0; cookie = cookie; seq = h.seq; operation = h.operation }))) its.0
            (subst (λ (k : ℕ). Contains J (journal.Sent (record { client = in_session.entity; daemon = s.0; cookie = k; seq = h.seq; operation = h.operation }))) under s.1))

        next-prefix : IsNumbered (sent J) → IsPrefix (handled J) (sent J) → IsPrefix (handled behind) (sent behind)
        next-prefix numbered p =
            subst (λ (l : List (ℕ × Operation)). IsPrefix l (sent behind)) (sym more)
            (subst (λ (l : List (ℕ × Operation)). IsPrefix (handled J ++ (h.seq, h.operation) ∷ []) l) (sym (sent-push J (journal.Handled h)))
            (prefix-more (handled J ++ (h.seq, h.operation) ∷ []) (sent J) [] (prefix-next (handled J) (sent J) (h.seq, h.operation) numbered p was-sent next-seq)))

      next-step : IsNumbered (sent J) → Fronted J → Fronted behind
      next-step numbered f = by_state f.state
        where
          by_state : Unborn J ⊎ Born J → Fronted behind
          by_state (inl u) = absurd (u.stands h.daemon h.session in_session stood_by.1 its)
          by_state (inr o) = record { state = inr (next-born o); prefix = next-prefix o numbered f.prefix }

    handled-step : IsNumbered (sent J) → Fronted J → Fronted behind
    handled-step numbered f = by_tests (h.cookie == cookie) (same_name in_session.entity entity) refl refl
      where
        differ : (t : Bool) → t ≡ true → t ≡ false → ⊥
        differ t is off = cc

        by_tests : (under named : Bool) → (h.cookie == cookie) ≡ under → same_name in_session.entity entity ≡ named → Fronted behind
        by_tests true true c n =
            next-step (same_name_is in_session.entity entity n, stood_by.3 ∙ eqb-true h.cookie cookie c) (handled-push true (rw (c, n) refl)) numbered f
        by_tests true false c n =
            away-step (λ its. differ (same_name in_session.entity entity) (ap (λ (x : Name). same_name x entity) its.0 ∙ same_name_self entity) n)
            (handled-push false (rw (c, n) refl) ∙ append-nil (handled J)) f
        by_tests false named c n =
            away-step (λ its. differ (h.cookie == cookie) (eq-eqb h.cookie cookie (sym stood_by.3 ∙ its.1)) c)
            (handled-push false (rw c refl) ∙ append-nil (handled J)) f

  -- ---- any entry

  one-step : (J : List Entry) (e : Entry) → StandsBy J e → WasSaidBy Free J e → IsHandledInOrderBy J e → IsNumbered (sent J) → Fronted J → Fronted (J ++ e ∷ [])
  one-step J (journal.Admitted x) stands said order numbered f = admitted-step J x said f
  one-step J (journal.Resumed x) stands said order numbered f = resumed-step J x stands f
  one-step J (journal.Handled x) stands said order numbered f = handled-step J x stands said order numbered f
  one-step J (journal.Saved x) stands said order numbered f =
      other-step J (journal.Saved x) (record { opens = refl; counts = λ d n c. refl; unhandled = λ j. refl; unadmitted = λ b same. cc }) f
  one-step J (journal.Issued x) stands said order numbered f =
      other-step J (journal.Issued x) (record { opens = refl; counts = λ d n c. refl; unhandled = λ j. refl; unadmitted = λ b same. cc }) f
  one-step J (journal.Fetched x) stands said order numbered f =
      other-step J (journal.Fetched x) (record { opens = refl; counts = λ d n c. refl; unhandled = λ j. refl; unadmitted = λ b same. cc }) f
  one-step J (journal.Looked x) stands said order numbered f =
      other-step J (journal.Looked x) (record { opens = refl; counts = λ d n c. refl; unhandled = λ j. refl; unadmitted = λ b same. cc }) f
  one-step J (journal.Sent x) stands said order numbered f =
      other-step J (journal.Sent x) (record { opens = refl; counts = λ d n c. refl; unhandled = λ j. refl; unadmitted = λ b same. cc }) f
  one-step J (journal.Answered x) stands said order numbered f =
      other-step J (journal.Answered x) (record { opens = refl; counts = λ d n c. refl; unhandled = λ j. refl; unadmitted = λ b same. cc }) f
  one-step J (journal.Refused x) stands said order numbered f =
      other-step J (journal.Refused x) (record { opens = refl; counts = λ d n c. refl; unhandled = λ j. refl; unadmitted = λ b same. cc }) f
  one-step J (journal.Ended x) stands said order numbered f =
      other-step J (journal.Ended x) (record { opens = refl; counts = λ d n c. refl; unhandled = λ j. refl; unadmitted = λ b same. cc }) f
  one-step J (journal.Restarted x) stands said order numbered f =
      other-step J (journal.Restarted x) (record { opens = refl; counts = λ d n c. refl; unhandled = λ j. refl; unadmitted = λ b same. cc }) f
  one-step J (journal.Broken x) stands said order numbered f =
      other-step J (journal.Broken x) (record { opens = refl; counts = λ d n c. refl; unhandled = λ j. refl; unadmitted = λ b same. cc }) f
  one-step J (journal.Leaked x) stands said order numbered f =
      other-step J (journal.Leaked x) (record { opens = refl; counts = λ d n c. refl; unhandled = λ j. refl; unadmitted = λ b same. cc }) f

  pub first-fronted : Fronted []
  first-fronted = record {
    state = inl (record { none = λ b has its. omega (arith, has.1); empty = refl; stands = λ daemon number a is its. no-one a is });
    prefix = ([], refl);
  }

  pub sent-front : (J es : List Entry) → IsNumbered (sent (J ++ es)) → IsNumbered (sent J)
  sent-front J es numbered =
      front-numbered (sent J) (sent es) (subst IsNumbered (filter_map-append (sent_under cookie entity) J es) numbered)

  pub along : (es J : List Entry) → EachBehind StandsBy J es → EachBehind (WasSaidBy Free) J es → EachBehind IsHandledInOrderBy J es → IsNumbered (sent (J ++ es)) → Fronted J → Fronted (J ++ es)
  along [] J stands said order numbered f = subst Fronted (sym (append-nil J)) f
  along (e ∷ es) J stands said order numbered f =
      subst Fronted (append_assoc J (e ∷ []) es)
      (along es (J ++ e ∷ []) stands.1 said.1 order.1 (subst (λ (l : List Entry). IsNumbered (sent l)) (sym (append_assoc J (e ∷ []) es)) numbered)
      (one-step J e stands.0 said.0 order.0 (sent-front J (e ∷ es) numbered) f))

-- ---- a journal

pub each-front : (P : List Entry → Entry → Type 0) (J xs ys : List Entry) → EachBehind P J (xs ++ ys) → EachBehind P J xs
each-front P J [] ys h = tt
each-front P J (x ∷ xs) ys h = (h.0, each-front P (J ++ x ∷ []) xs ys h.1)

-- where its entries keep the laws, and what is sent under each cookie is numbered
pub all-fronts : (Free : Name → Type 0) (entries : List Entry) → EachBehind StandsBy [] entries → EachBehind (WasSaidBy Free) [] entries → EachBehind IsHandledInOrderBy [] entries
    → ((client : Name) (cookie : ℕ) → IsNumbered (filter_map (sent_under cookie client) entries)) → ((entity : Name) → IsUnleaked entries entity → Free entity) → IsPrefixOfSent entries
all-fronts Free entries stands said order numbered told before after is cookie entity unleaked =
    let free : Free entity = told entity unleaked in
    (along Free entity free cookie before [] (each-front StandsBy [] before after (subst (λ (l : List Entry). EachBehind StandsBy [] l) is stands))
    (each-front (WasSaidBy Free) [] before after (subst (λ (l : List Entry). EachBehind (WasSaidBy Free) [] l) is said))
    (each-front IsHandledInOrderBy [] before after (subst (λ (l : List Entry). EachBehind IsHandledInOrderBy [] l) is order))
    (sent-front Free entity free cookie before after (subst (λ (l : List Entry). IsNumbered (filter_map (sent_under cookie entity) l)) is (numbered entity cookie)))
    (first-fronted Free entity free cookie)).prefix
