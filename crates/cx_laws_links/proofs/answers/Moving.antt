-- What is known of a link stays known behind a step on another one: what is given there follows under another key, and what is spoken there too; and what is
-- replied to stays a front of what is asked for.
use Rattle.std.proofs.Common.{◌≡◌, ℕ, List, [], ◌∷◌, ◌++◌, length, None, Bool, true, false, refl, sym, ap, ◌∙◌, subst, append-nil, append_assoc}
use Rattle.std.proofs.lemmas.Slice.Eq.{bytes_eq-Decides}
use Rattle.std.specs.Prelude.{Contains}
use Rattle.std.specs.Str.{bytes_eq}
use Rattle.cx_base.specs.Names.{Name}
use Rattle.cx_base.specs.declared.nodes.NodeName.{NodeName}
use Rattle.cx_journal.specs.declared.entries.Entry.{Entry}
use Rattle.cx_laws_links.specs.cx_laws_keys.proofs.keys.Known.{IsOfAcceptor}
use Rattle.cx_laws_links.specs.cx_laws_keys.proofs.keys.Premises.{behind}
use Rattle.cx_laws_links.specs.cx_laws_keys.proofs.keys.Uses.{AtDaemon, Connected, Grows, Means, Use, Uses, WholeRun}
use Rattle.cx_laws_links.specs.cx_laws_keys.proofs.series.Contents.{contents-behind, contents_by, contents_in}
use Rattle.cx_laws_links.specs.cx_rules.specs.Acceptor as acceptor
use Rattle.cx_laws_links.specs.cx_rules.specs.Secured.{Secured, Way}
use Rattle.cx_laws_links.specs.cx_rules_session.specs.IncomingLinks.{IncomingStage}
use Rattle.cx_laws_links.specs.cx_rules_session.specs.Presenter as call
use Rattle.cx_laws_links.specs.cx_rules_session.specs.Presenter.{CallStage}
use Rattle.cx_secure.specs.Contents.{sealed_contents}
use Rattle.cx_steps.specs.declared.seals.Logged.{Logged}
use Rattle.cx_steps.specs.declared.seals.SealEntry.{SealEntry}
use Rattle.cx_laws_links.proofs.links.Known.{Told}
use Rattle.cx_laws_links.proofs.links.Others.{link-one}
use Rattle.cx_laws_links.proofs.links.Speaking.{said-append}
use Rattle.cx_laws_links.proofs.links.Spoken.{Spoken, asked, asked-append, said_under}
use Rattle.cx_laws_links.proofs.links.Written.{IsLinkKey}
use Rattle.cx_laws_links.proofs.answers.CallHeard.{CallHeard, Hears}
use Rattle.cx_laws_links.proofs.answers.Given.{Given, given_parts, given_under, gives_under, is_acceptors, replied, served_behind}
use Rattle.cx_laws_links.proofs.answers.Keyed.{given-has, given-other, under-append}
use Rattle.cx_laws_links.proofs.answers.Known.{AreGiven}
use Rattle.cx_laws_links.proofs.answers.Replied.{AreInStep, IncomingGiven, HasReplied, IsGiver, IsInStep}

-- more is spoken, under any key
pub record Longer (told next : Told) : Type 0 where
  pub more : List (List ℕ × Spoken)
  pub is : next.said ≡ told.said ++ more

said-longer : (told next : Told) (key : List ℕ) → Longer told next → (more : List Spoken) × (said_under key next.said ≡ said_under key told.said ++ more)
said-longer told next key l = (said_under key l.more, ap (λ (all : List (List ℕ × Spoken)). said_under key all) l.is ∙ said-append key told.said l.more)

-- ---- links of clients

-- a link that goes on under the same key, and has taken as much, hears what it heard
pub hears-same : (run : WholeRun) (told next : Told) (given : List (List ℕ × Given)) (name : Name) (s r : Secured) (pending : List ℕ) → r.keys.key ≡ s.keys.key → r.keys.into ≡ s.keys.into
    → asked (said_under s.keys.key next.said) ≡ asked (said_under s.keys.key told.said) → Hears run told given name s pending → Hears run next given name r pending
hears-same run told next given name s r pending key into same h =
    let fixed : r.keys.into.fixed ≡ s.keys.into.fixed = ap (λ (x : Way). x.fixed) into in (
      subst IsOfAcceptor (sym fixed) h.0,
      ap (λ (l : List ℕ). length l) fixed ∙ h.1,
      λ free. let k = h.2 free in
          record {
            taken = k.taken;
            heard = record {
              rest = k.heard.rest;
              front = ap (λ (l : List ℕ). given_under l given) key ∙ k.heard.front;
              counter = ap (λ (x : Way). x.counter) into ∙ k.heard.counter;
            };
            step = ap (λ (l : List ℕ). asked (said_under l next.said)) key ∙ same ∙ k.step;
          },
    )

-- where what was asked for under its key stays, and more is given under any key
module _ (run : WholeRun) (told next : Told) (given more : List (List ℕ × Given)) (name : Name) where
  pub hears-stays : (s : Secured) (pending : List ℕ) → asked (said_under s.keys.key next.said) ≡ asked (said_under s.keys.key told.said) → Hears run told given name s pending
      → Hears run next (given ++ more) name s pending
  hears-stays s pending same h = (
    h.0,
    h.1,
    λ free. let k = h.2 free in
        record {
          taken = k.taken;
          heard = record {
            rest = k.heard.rest ++ given_under s.keys.key more;
            front = under-append s.keys.key given more ∙ ap (λ (l : List Given). l ++ given_under s.keys.key more) k.heard.front
                ∙ append_assoc k.taken k.heard.rest (given_under s.keys.key more);
            counter = k.heard.counter;
          };
          step = same ∙ k.step;
        },
  )

  -- what a link has asked for stays
  abbrev pub AsksNoMore : CallStage → Type 0
  AsksNoMore (call.AwaitsSignature s callee) = asked (said_under s.keys.key next.said) ≡ asked (said_under s.keys.key told.said)
  AsksNoMore (call.AwaitsIdent s callee cookie) = asked (said_under s.keys.key next.said) ≡ asked (said_under s.keys.key told.said)
  AsksNoMore (call.AwaitsReconnect s callee cookie) = asked (said_under s.keys.key next.said) ≡ asked (said_under s.keys.key told.said)
  AsksNoMore (call.Open s callee cookie) = asked (said_under s.keys.key next.said) ≡ asked (said_under s.keys.key told.said)
  AsksNoMore _ = Unit {0}

  pub call-stays : (stage : CallStage) → AsksNoMore stage → CallHeard run told given name stage → CallHeard run next (given ++ more) name stage
  call-stays (call.AwaitsSignature s callee) same h = hears-stays s [] same h
  call-stays (call.AwaitsIdent s callee cookie) same h = hears-stays s (cookie ∷ []) same h
  call-stays (call.AwaitsReconnect s callee cookie) same h = hears-stays s (cookie ∷ []) same h
  call-stays (call.Open s callee cookie) same h = hears-stays s [] same h
  call-stays (call.AwaitsBanner called) same h = tt
  call-stays (call.AwaitsHello called) same h = tt
  call-stays (call.AwaitsChallenge callee p) same h = tt
  call-stays (call.AwaitsDone callee answered) same h = tt

-- ---- incoming links

-- where nothing is sealed and given under its key, and more is spoken under any
module _ (run : WholeRun) (us vs : Uses) (f : Grows us vs) (told next : Told) (l : Longer told next) (given now : List (List ℕ × Given)) (log : List Logged) (n : NodeName) (line : ℕ)
    (es : List SealEntry) (at : NodeName) (daemon : Name) (number : ℕ) where
  abbrev later : List Logged
  later = behind n line es log

  -- nothing of its acceptor follows under this key
  pub record QuietUnder (key : List ℕ) : Type 0 where
    pub sealed : contents_by key is_acceptors es ≡ []
    pub given_is : given_under key now ≡ given_under key given

  giver-stays : (s : Secured) (name : Name) → QuietUnder s.keys.key → IsGiver us given log at daemon number s name → IsGiver vs now later at daemon number s name
  giver-stays s name q k = record {
    tie = k.tie;
    means = f.means s.keys.key (Connected at number name (AtDaemon daemon.kind k.tie)) k.means;
    parts = record {
      sealed = contents-behind s.keys.key is_acceptors n line es log ∙ ap (λ (x : List (List ℕ)). contents_in s.keys.key is_acceptors log ++ x) q.sealed
          ∙ append-nil (contents_in s.keys.key is_acceptors log) ∙ k.parts.sealed
          ∙ ap (λ (x : List Given). sealed_contents s.keys.out.fixed 0 (given_parts x)) (sym q.given_is);
      counter = k.parts.counter ∙ ap (λ (x : List Given). length (given_parts x)) (sym q.given_is);
    };
    out = k.out;
    out_four = k.out_four;
    into = k.into;
    into_four = k.into_four;
    fits = k.fits;
  }

  replied-stays : (s : Secured) → given_under s.keys.key now ≡ given_under s.keys.key given → HasReplied told given s → HasReplied next now s
  replied-stays s same k =
      let more = said-longer told next s.keys.key l in
      record {
        taken = k.taken;
        so = record {
          rest = k.so.rest ++ more.0;
          front = more.1 ∙ ap (λ (x : List Spoken). x ++ more.0) k.so.front ∙ append_assoc k.taken k.so.rest more.0;
          counter = k.so.counter;
        };
        step = ap (λ (x : List Given). replied x) same ∙ k.step;
      }

  abbrev pub QuietAt : IncomingStage → Type 0
  QuietAt (acceptor.AwaitsSignature s owner) = QuietUnder s.keys.key
  QuietAt (acceptor.AwaitsIdent s owner) = QuietUnder s.keys.key
  QuietAt (acceptor.Open s served) = QuietUnder s.keys.key
  QuietAt _ = Unit {0}

  pub incoming-stays : (stage : IncomingStage) → QuietAt stage → IncomingGiven run us told given log at daemon number stage → IncomingGiven run vs next now later at daemon number stage
  incoming-stays (acceptor.AwaitsSignature s owner) q h = (giver-stays s owner.ticket.name q h.0, λ free. replied-stays s q.given_is (h.1 free))
  incoming-stays (acceptor.AwaitsIdent s owner) q h = (giver-stays s owner.ticket.name q h.0, λ free. replied-stays s q.given_is (h.1 free))
  incoming-stays (acceptor.Open s served) q h =
      (h.0, giver-stays s h.0 q h.1, ap (λ (x : List Given). served_behind None x) q.given_is ∙ h.2, λ free. replied-stays s q.given_is (h.3 free))
  incoming-stays acceptor.AwaitsBanner q h = tt
  incoming-stays acceptor.AwaitsHello q h = tt
  incoming-stays acceptor.AwaitsRequest q h = tt
  incoming-stays (acceptor.AwaitsProof awaited) q h = tt

-- ---- in step

-- where more is spoken
pub in-step-speaks : (run : WholeRun) (us vs : Uses) (told next : Told) (given : List (List ℕ × Given)) (log : List Logged) (J : List Entry)
    → ((k : List ℕ) (u v : Use) → Means vs k u → Means vs k v → u ≡ v) → Grows us vs → Longer told next → AreGiven run us given log J → AreInStep run us told given → AreInStep run vs next given
in-step-speaks run us vs told next given log J one f l h step = λ key name tie is free. by_given key name tie is free (given_under key given) refl
  where
    longer : (key : List ℕ) → IsInStep told given key → IsInStep next given key
    longer key s =
        let more = said-longer told next key l in (
          s.0 ++ asked more.0,
          ap (λ (x : List Spoken). asked x) more.1 ∙ asked-append (said_under key told.said) more.0 ∙ ap (λ (x : List ℕ). x ++ asked more.0) s.1
              ∙ append_assoc (replied (given_under key given)) s.0 (asked more.0),
        )

    by_given : (key : List ℕ) (name : Name) (tie : ℕ) → IsLinkKey vs key name tie → (Contains run.leaked name → ⊥) → (xs : List Given) → given_under key given ≡ xs → IsInStep next given key
    by_given key name tie is free [] e = (asked (said_under key next.said), ap (λ (x : List Given). replied x ++ asked (said_under key next.said)) (sym e))
    by_given key name tie is free (x ∷ xs) e =
        let k = h.known key x (given-has key given x xs e) in
        let before : IsLinkKey us key k.0 k.1 = k.2 in
        let later : IsLinkKey vs key k.0 k.1 = record { acceptor = before.acceptor; number = before.number; service = before.service; means = f.means key _ before.means } in
        let same : k.0 ≡ name = (link-one vs one key k.0 name k.1 tie later is).0 in
        longer key (step key k.0 k.1 before (subst (λ (m : Name). Contains run.leaked m → ⊥) (sym same) free))

-- where a link gives some words, and stays in step
pub in-step-gives : (run : WholeRun) (us : Uses) (told : Told) (given : List (List ℕ × Given)) (key : List ℕ) (name : Name) (tie : ℕ) (words : List Given)
    → ((k : List ℕ) (u v : Use) → Means us k u → Means us k v → u ≡ v) → IsLinkKey us key name tie
    → ((Contains run.leaked name → ⊥) → IsInStep told given key → IsInStep told (given ++ gives_under key words) key) → AreInStep run us told given
    → AreInStep run us told (given ++ gives_under key words)
in-step-gives run us told given key name tie words one link own step = λ other whose tied is free. by_key other whose tied is free (bytes_eq key other) refl
  where
    by_key : (other : List ℕ) (whose : Name) (tied : ℕ) → IsLinkKey us other whose tied → (Contains run.leaked whose → ⊥) → (same : Bool) → bytes_eq key other ≡ same
        → IsInStep told (given ++ gives_under key words) other
    by_key other whose tied is free true e =
        let same : key ≡ other = (bytes_eq-Decides key other).0 e in
        let there : IsLinkKey us key whose tied = subst (λ (k : List ℕ). IsLinkKey us k whose tied) (sym same) is in
        let whose_is : whose ≡ name = (link-one us one key whose name tied tie there link).0 in
        subst (λ (k : List ℕ). IsInStep told (given ++ gives_under key words) k) same (own (subst (λ (m : Name). Contains run.leaked m → ⊥) whose_is free) (step key whose tied there free))
    by_key other whose tied is free false e =
        let s = step other whose tied is free in
        (s.0, s.1 ∙ ap (λ (x : List Given). replied x ++ s.0) (sym (given-other other key given words e)))
