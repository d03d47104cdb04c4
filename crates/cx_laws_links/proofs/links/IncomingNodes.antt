-- The links of a daemon behind a turn of one to a client: what is known of each of them stays known.
use Rattle.std.proofs.Common.{◌≡◌, ℕ, ◌==◌, ◌<◌, Bool, true, false, cond, nat_lt, List, [], ◌∷◌, filter, Option, Some, None, inl, refl, sym, ◌∙◌, arith}
use Rattle.std.proofs.lemmas.Bool.{eq-eqb, ltb-true}
use Rattle.std.specs.Prelude.{not}
use Rattle.std.specs.List.{AllByRecursion}
use Rattle.std.specs.Option.{option_map}
use Rattle.cx_base.specs.Names.{Name}
use Rattle.cx_base.specs.declared.nodes.NodeName.{NodeName}
use Rattle.cx_journal.specs.declared.entries.Entry.{Entry}
use Rattle.cx_laws_keys.proofs.keys.Journal.{entered}
use Rattle.cx_laws_keys.proofs.keys.Lists.{all-append, all-map}
use Rattle.cx_laws_keys.proofs.keys.Uses.{Means, Use, Uses, WholeRun, stays}
use Rattle.cx_laws_keys.specs.cx_rules.specs.Acceptor as acceptor
use Rattle.cx_laws_keys.specs.cx_rules.specs.Links.{Link}
use Rattle.cx_laws_keys.specs.cx_rules.specs.Rows.{links_behind}
use Rattle.cx_laws_keys.specs.cx_rules.specs.Secured.{Secured}
use Rattle.cx_laws_tickets.specs.cx_run.specs.cx_rules_session.specs.DaemonRule.{AsAcceptor, AsConnector, DaemonStage}
use Rattle.cx_laws_tickets.specs.cx_run.specs.cx_rules_session.specs.IncomingLinks.{IncomingRow, IncomingStage}
use Rattle.cx_laws_tickets.specs.cx_run.specs.cx_rules_session.specs.Kinds.{of_kind}
use Rattle.cx_laws_links.proofs.links.IncomingJoins.{incoming_links-apart}
use Rattle.cx_laws_links.proofs.links.IncomingSteps.{IsApartFrom, ServesOpen, heard-goes, others-told, serves-stays, stage-serves}
use Rattle.cx_laws_links.proofs.links.Since.{Goes, since-within}
use Rattle.cx_laws_links.proofs.links.IncomingTakes.{EntryHeard, HearsRow, LinkHeard, LinkServes, told_by}
use Rattle.cx_laws_links.proofs.links.Known.{IncomingTold, IsIncoming, Told}
use Rattle.cx_laws_links.proofs.links.Written.{IsLinkKey}

-- what is known of a link of a daemon: where it is one to a client, what it has taken, and that it serves a session of that client
abbrev pub HostKnown : WholeRun → Uses → Told → List Entry → Name → NodeName → ℕ → DaemonStage → Type 0
HostKnown run us told J daemon n number (AsAcceptor stage) = (h : IncomingTold run us told n number stage) × ServesOpen run us told J daemon n number stage h
HostKnown run us told J daemon n number (AsConnector stage) = Unit {0}

abbrev pub LinksKnown : WholeRun → Uses → Told → List Entry → Name → NodeName → List (Link DaemonStage) → Type 0
LinksKnown run us told J daemon n links = AllByRecursion (λ (link : Link DaemonStage). HostKnown run us told J daemon n link.number link.stage) links

-- what holds of each item that passes, where something else does of all
pub passing : {X : Type 0} (P Q : X → Type 0) (test : X → Bool) → ((x : X) → test x ≡ true → P x → Q x) → (xs : List X) → AllByRecursion P xs → AllByRecursion Q (filter test xs)
passing P Q test f [] h = tt
passing P Q test f (x ∷ xs) h = by_test (test x) refl (passing P Q test f xs h.1)
  where
    by_test : (t : Bool) → test x ≡ t → AllByRecursion Q (filter test xs) → AllByRecursion Q (cond t (x ∷ filter test xs) (filter test xs))
    by_test true is rest = (f x is h.0, rest)
    by_test false is rest = rest

not-both : (t : Bool) → t ≡ true → not t ≡ true → ⊥
not-both true is other = cc
not-both false is other = cc

module _ (run : WholeRun) (us : Uses) (told : Told) (J : List Entry) (n : NodeName) (daemon name : Name) (number : ℕ) (s : Secured)
    (one : (k : List ℕ) (u v : Use) → Means us k u → Means us k v → u ≡ v) (g : IsIncoming run us told n number s name) (row : IncomingRow) where
  abbrev key : List ℕ
  key = s.keys.key

  abbrev next : Told
  next = told_by told key row.entries

  abbrev later : List Entry
  later = entered J row.entries

  is-link : IsLinkKey us key name g.tie
  is-link = record { acceptor = n; number = number; service = g.service; means = g.means }

  apart-from : (second : ℕ) → (second ≡ number → ⊥) → (stage : IncomingStage) → IncomingTold run us told n second stage → IsApartFrom key stage
  apart-from second other (acceptor.AwaitsSignature r owner) h = incoming_links-apart run us told n second number r s owner.ticket.name name one h.0 g other
  apart-from second other (acceptor.AwaitsIdent r owner) h = incoming_links-apart run us told n second number r s owner.ticket.name name one h.0 g other
  apart-from second other (acceptor.Open r served) h = tt
  apart-from second other acceptor.AwaitsBanner h = tt
  apart-from second other acceptor.AwaitsHello h = tt
  apart-from second other acceptor.AwaitsRequest h = tt
  apart-from second other (acceptor.AwaitsProof awaited) h = tt

  -- a link of another number, behind a row that says nothing of a restart
  other-known : AllByRecursion (Goes daemon) row.entries → (second : ℕ) → (second ≡ number → ⊥) → (stage : DaemonStage) → HostKnown run us told J daemon n second stage → HostKnown run us next later daemon n second stage
  other-known goes second other (AsAcceptor stage) h =
      let kept : IncomingTold run us next n second stage = others-told run us told n second key row.entries stage (apart-from second other stage h.0) h.0 in
      (kept, serves-stays run us us told next J later daemon n second one (stays us) (since-within daemon row.entries J goes) stage h.0 kept h.1)
  other-known goes second other (AsConnector stage) h = tt

  -- what is known of the links behind the row
  pub links-known : (Given : Type 0) → HearsRow run us told J n daemon key name Given row → Given → ((link : Link IncomingStage) → row.link ≡ Some link → link.number ≡ number)
      → (links : List (Link DaemonStage)) → LinksKnown run us told J daemon n links
      → LinksKnown run us next later daemon n (links_behind links number row.sends (option_map (of_kind AsAcceptor) row.link))
  links-known Given h given same links known = by_link row.link same (h.link given) h.serves
    where
      goes : AllByRecursion (Goes daemon) row.entries
      goes = all-map (EntryHeard run told.said J key name) (Goes daemon) (heard-goes run told.said J key name daemon) row.entries (h.entries given)

      by_link : (found : Option (Link IncomingStage)) → ((link : Link IncomingStage) → found ≡ Some link → link.number ≡ number) → LinkHeard run us (told_by told s.keys.key row.entries) n found
          → LinkServes J row.entries daemon s.keys.key name found
          → LinksKnown run us (told_by told s.keys.key row.entries) (entered J row.entries) daemon n (links_behind links number row.sends (option_map (of_kind AsAcceptor) found))
      by_link None is heard serves =
          passing (λ (link : Link DaemonStage). HostKnown run us told J daemon n link.number link.stage) (λ (link : Link DaemonStage). HostKnown run us next later daemon n link.number link.stage)
          (λ (link : Link DaemonStage). not (link.number == number))
          (λ link test was. other-known goes link.number (λ e. not-both (link.number == number) (eq-eqb link.number number e) test) link.stage was) links known
      by_link (Some link) is heard serves =
          let own : link.number ≡ number = is link refl in
          all-append (λ (l : Link DaemonStage). HostKnown run us next later daemon n l.number l.stage) _ _
          (passing (λ (l : Link DaemonStage). HostKnown run us told J daemon n l.number l.stage) (λ (l : Link DaemonStage). HostKnown run us next later daemon n l.number l.stage)
          (λ (l : Link DaemonStage). nat_lt l.number link.number)
          (λ l test was. other-known goes l.number (λ e. lower-apart l.number link.number test (e ∙ sym own)) l.stage was) links known) (
            (heard, stage-serves run us next J row.entries daemon n link.number key name g.tie one is-link goes link.stage heard serves),
            passing (λ (l : Link DaemonStage). HostKnown run us told J daemon n l.number l.stage) (λ (l : Link DaemonStage). HostKnown run us next later daemon n l.number l.stage)
                (λ (l : Link DaemonStage). nat_lt link.number l.number)
                (λ l test was. other-known goes l.number (λ e. lower-apart link.number l.number test (own ∙ sym e)) l.stage was) links known,
          )
        where
          lower-apart : (a b : ℕ) → nat_lt a b ≡ true → a ≡ b → ⊥
          lower-apart a b test e = let low : a < b = ltb-true a b test in omega (arith, low, e)
