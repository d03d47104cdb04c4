-- Of a journal that keeps the laws of answers and of order, in which what is sent under a cookie is numbered: each answer is of the operation that its client sent
-- under its number.
use Rattle.std.proofs.Common.{◌≡◌, ◌⊎◌, ◌==◌, ℕ, Bool, true, false, List, [], ◌∷◌, ◌++◌, length, Option, Some, None, inl, inr, refl, sym, ap, ◌∙◌, subst, arith, eqb-true, eq-eqb, append_assoc}
use Rattle.std.proofs.lemmas.List.Elements.{Contains-append_cases, Contains-append_left, Contains-append_right, Contains-push}
use Rattle.std.specs.Prelude.{◌&&◌, Contains, if◌then◌else◌}
use Rattle.std.specs.List.{cons_option, filter_map}
use Rattle.cx_base.proofs.Names.{same_name_is, same_name_self}
use Rattle.cx_base.specs.Names.{Name, same_name}
use Rattle.cx_base.specs.declared.operations.Operation.{Operation}
use Rattle.cx_journal.proofs.SessionLemmas.{session_is}
use Rattle.cx_journal.specs.Behind.{EachBehind}
use Rattle.cx_journal.specs.PrefixOfSent.{IsPrefix, IsPrefixOfSent, all_handled_under, handled_under, sent_under}
use Rattle.cx_journal.specs.Sessions.{session_at}
use Rattle.cx_journal.specs.Truthful.{IsTold, IsTruthful, IsTruthfulBy, WasHandled}
use Rattle.cx_journal.specs.declared.entries.Answered.{Answered}
use Rattle.cx_journal.specs.declared.entries.Entry.{Entry}
use Rattle.cx_journal.specs.declared.entries.Entry.TheVariants as journal
use Rattle.cx_journal.specs.declared.entries.Handled.{Handled}
use Rattle.cx_journal.specs.declared.entries.Sent.{Sent}
use Rattle.cx_laws_run.specs.cx_laws_sessions.specs.queues.Sending.{IsNumbered}
use Rattle.cx_laws_run.proofs.sent.Fronted.{sent-there}
use Rattle.cx_laws_run.proofs.sent.Fronts.{cons-cases, same-number}
use Rattle.cx_laws_run.proofs.truth.AllOnce.{handled-there}
use Rattle.cx_laws_run.specs.sent.Answering.{AnswerWhatWasSent, IsOfSent, IsOfSentBy, IsSentAs}

-- ---- what was sent under a cookie

-- some entry says that it was
record SaysSent (cookie : ℕ) (client : Name) (J : List Entry) (v : ℕ × Operation) : Type 0 where
  sent : Sent
  has : Contains J (journal.Sent sent)
  client_is : sent.client ≡ client
  cookie_is : sent.cookie ≡ cookie
  is : (sent.seq, sent.operation) ≡ v

nowhere : {X : Type 0} (x : X) → Contains [] x → ⊥
nowhere x has = omega (arith, has.1)

first-says : (cookie : ℕ) (client : Name) (e : Entry) (J : List Entry) (v : ℕ × Operation) → sent_under cookie client e ≡ Some v → SaysSent cookie client (e ∷ J) v
first-says cookie client (journal.Sent s) J v is = by_tests (s.cookie == cookie) (same_name s.client client) refl refl is
  where
    by_tests : (one other : Bool) → (s.cookie == cookie) ≡ one → same_name s.client client ≡ other → (if one && other then Some (s.seq, s.operation) else None) ≡ Some v
        → SaysSent cookie client (journal.Sent s ∷ J) v
    by_tests true true same named said = record {
      sent = s;
      has = Contains-append_left (journal.Sent s ∷ []) J (journal.Sent s) (Contains-push [] (journal.Sent s));
      client_is = same_name_is s.client client named;
      cookie_is = eqb-true s.cookie cookie same;
      is = let value : (s.seq, s.operation) ≡ v = cc in value;
    }
    by_tests true false same named said = absurd (let none : None ≡ Some v = said in cc)
    by_tests false true same named said = absurd (let none : None ≡ Some v = said in cc)
    by_tests false false same named said = absurd (let none : None ≡ Some v = said in cc)
first-says cookie client _ J v is = absurd (let none : None ≡ Some v = is in cc)

says-sent : (cookie : ℕ) (client : Name) (J : List Entry) (v : ℕ × Operation) → Contains (filter_map (sent_under cookie client) J) v → SaysSent cookie client J v
says-sent cookie client [] v has = absurd (nowhere v has)
says-sent cookie client (e ∷ J) v has = by_first (sent_under cookie client e) refl has (λ there. says-sent cookie client J v there)
  where
    later : SaysSent cookie client J v → SaysSent cookie client (e ∷ J) v
    later s = record {
      sent = s.sent;
      has = Contains-append_right (e ∷ []) J (journal.Sent s.sent) s.has;
      client_is = s.client_is;
      cookie_is = s.cookie_is;
      is = s.is;
    }

    by_place : (w : ℕ × Operation) → sent_under cookie client e ≡ Some w → (w ≡ v) ⊎ Contains (filter_map (sent_under cookie client) J) v
        → (Contains (filter_map (sent_under cookie client) J) v → SaysSent cookie client J v) → SaysSent cookie client (e ∷ J) v
    by_place w is (inl same) rest = first-says cookie client e J v (is ∙ ap (λ (x : ℕ × Operation). Some x) same)
    by_place w is (inr there) rest = later (rest there)

    by_first : (o : Option (ℕ × Operation)) → sent_under cookie client e ≡ o → Contains (cons_option o (filter_map (sent_under cookie client) J)) v
        → (Contains (filter_map (sent_under cookie client) J) v → SaysSent cookie client J v) → SaysSent cookie client (e ∷ J) v
    by_first None is there rest = later (rest there)
    by_first (Some w) is there rest = by_place w is (cons-cases w (filter_map (sent_under cookie client) J) v there) rest

-- ---- an answer

module _ (entries : List Entry) (order : IsPrefixOfSent entries) (numbered : (client : Name) (cookie : ℕ) → IsNumbered (filter_map (sent_under cookie client) entries)) where
  module _ (earlier later : List Entry) (x : Answered) (whole : entries ≡ earlier ++ later) (told : IsTold entries x) (w : WasHandled earlier x) where
    abbrev h : Handled
    h = w.handled

    abbrev all : List Entry → List (ℕ × Operation)
    all J = filter_map (sent_under x.cookie x.client) J

    place : entries ≡ (w.before ++ journal.Handled h ∷ []) ++ (w.after ++ later)
    place =
        whole ∙ ap (λ (l : List Entry). l ++ later) w.place ∙ append_assoc w.before (journal.Handled h ∷ w.after) later
        ∙ sym (append_assoc w.before (journal.Handled h ∷ []) (w.after ++ later))

    so : handled_under x.cookie x.client w.before (journal.Handled h) ≡ Some (h.seq, h.operation)
    so =
        let cookie_is : (h.cookie == x.cookie) ≡ true = eq-eqb h.cookie x.cookie w.cookie in
        let found : session_at w.before h ≡ Some w.session = session_is w.before h w.session w.handled_in in
        let named : same_name w.session.entity x.client ≡ true = ap (λ (m : Name). same_name m x.client) w.client ∙ same_name_self x.client in
        rw (cookie_is, found, named) refl

    -- it was sent at this place, and so before
    here : Contains (all (w.before ++ journal.Handled h ∷ [])) (h.seq, h.operation)
    here =
        let front : IsPrefix (all_handled_under x.cookie x.client [] (w.before ++ journal.Handled h ∷ [])) (all (w.before ++ journal.Handled h ∷ [])) =
        order (w.before ++ journal.Handled h ∷ []) (w.after ++ later) place x.cookie x.client told.client in
        subst (λ (l : List (ℕ × Operation)). Contains l (h.seq, h.operation)) (sym front.1)
        (Contains-append_left (all_handled_under x.cookie x.client [] (w.before ++ journal.Handled h ∷ [])) front.0 (h.seq, h.operation)
        (handled-there x.cookie x.client [] w.before (journal.Handled h) [] (h.seq, h.operation) so))

    says : SaysSent x.cookie x.client (w.before ++ journal.Handled h ∷ []) (h.seq, h.operation)
    says = says-sent x.cookie x.client (w.before ++ journal.Handled h ∷ []) (h.seq, h.operation) here

    before : Contains w.before (journal.Sent says.sent)
    before = by_place (Contains-append_cases w.before (journal.Handled h ∷ []) (journal.Sent says.sent) says.has)
      where
        by_last : (journal.Handled h ≡ journal.Sent says.sent) ⊎ Contains {X = Entry} [] (journal.Sent says.sent) → Contains w.before (journal.Sent says.sent)
        by_last (inl same) = absurd cc
        by_last (inr none) = absurd (nowhere (journal.Sent says.sent) none)

        by_place : Contains w.before (journal.Sent says.sent) ⊎ Contains (journal.Handled h ∷ []) (journal.Sent says.sent) → Contains w.before (journal.Sent says.sent)
        by_place (inl has) = has
        by_place (inr last) = by_last (cons-cases (journal.Handled h) [] (journal.Sent says.sent) last)

    seq_is : says.sent.seq ≡ x.tid
    seq_is = ap (λ (ask : ℕ × Operation). ask.0) says.is ∙ w.seq

    -- whatever was sent so is among all that was
    among : (s : Sent) → Contains entries (journal.Sent s) → IsSentAs x s → Contains (all entries) (s.seq, s.operation)
    among s has under =
        subst (λ (c : ℕ). Contains (filter_map (sent_under c x.client) entries) (s.seq, s.operation)) under.cookie
        (subst (λ (n : Name). Contains (filter_map (sent_under s.cookie n) entries) (s.seq, s.operation)) under.client
        (sent-there s.cookie s.client s.daemon s.seq s.operation entries has))

    of-sent : IsOfSent entries earlier x
    of-sent =
        let own_is : IsSentAs x says.sent = record { client = says.client_is; cookie = says.cookie_is; seq = seq_is } in
        let own : Contains entries (journal.Sent says.sent) =
        subst (λ (l : List Entry). Contains l (journal.Sent says.sent)) (sym place)
        (Contains-append_left (w.before ++ journal.Handled h ∷ []) (w.after ++ later) (journal.Sent says.sent) says.has) in
        record {
          handled = w;
          sent = says.sent;
          before = before;
          sent_as = own_is;
          operation = ap (λ (ask : ℕ × Operation). ask.1) (sym says.is);
          only = λ other has other_as.
              ap (λ (ask : ℕ × Operation). ask.1)
              (same-number (all entries) (length (all entries)) (other.seq, other.operation) (says.sent.seq, says.sent.operation) (numbered x.client x.cookie)
              (among other has other_as) (among says.sent own own_is) (other_as.seq ∙ sym seq_is));
        }

  entry-of-sent : (earlier later : List Entry) (e : Entry) → entries ≡ earlier ++ e ∷ later → IsTruthfulBy entries earlier e → IsOfSentBy entries earlier e
  entry-of-sent earlier later (journal.Answered x) whole law = λ told. of-sent earlier (journal.Answered x ∷ later) x whole told (law told).handled
  entry-of-sent earlier later _ whole law = tt

  each-of-sent : (earlier es : List Entry) → entries ≡ earlier ++ es → EachBehind (IsTruthfulBy entries) earlier es → EachBehind (IsOfSentBy entries) earlier es
  each-of-sent earlier [] whole law = tt
  each-of-sent earlier (e ∷ es) whole law = (entry-of-sent earlier es e whole law.0, each-of-sent (earlier ++ e ∷ []) es (whole ∙ sym (append_assoc earlier (e ∷ []) es)) law.1)

  -- so it is of each answer
  pub answers-sent : IsTruthful entries → AnswerWhatWasSent entries
  answers-sent truthful = each-of-sent [] entries refl truthful
