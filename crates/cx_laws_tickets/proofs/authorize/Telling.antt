-- What a daemon enters at a turn of an incoming link keeps the laws of the journal, by what is known of a run's keys; and so does the authority of each link
-- behind a step have its ticket.
use Rattle.std.proofs.Common.{◌≡◌, ◌⊎◌, ℕ, true, false, List, [], ◌∷◌, ◌++◌, inl, inr, refl, sym, ap, ◌∙◌, subst, append_assoc, append-nil}
use Rattle.std.specs.Prelude.{◌==◌}
use Rattle.std.specs.List.{AllByRecursion}
use Rattle.cx_run.specs.cx_authorize.specs.Daemon.{Authority}
use Rattle.cx_base.specs.declared.kinds.EntityType.{EntityType}
use Rattle.cx_base.specs.declared.nodes.NodeName.{NodeName}
use Rattle.cx_cbc.proofs.OpeningLaws.{opened-Opens}
use Rattle.cx_journal.specs.Backed.{IsBackedBy}
use Rattle.cx_journal.specs.Behind.{EachBehind}
use Rattle.cx_journal.specs.KeepsKeys.{KeepsKeysBy, NeedsFor}
use Rattle.cx_journal.specs.declared.entries.Entry.{Entry}
use Rattle.cx_journal.specs.declared.entries.Entry.TheVariants as journal
use Rattle.cx_journal.specs.declared.entries.Looked.{Looked}
use Rattle.cx_journal.specs.declared.entries.Refused.{Refused}
use Rattle.cx_journal.specs.declared.outcomes.Reason.{Reason}
use Rattle.cx_journal.specs.declared.outcomes.Reason.TheVariants as reason
use Rattle.cx_journal.specs.declared.outcomes.TicketFault.{TicketFault}
use Rattle.cx_journal.specs.declared.outcomes.TicketFault.TheVariants as told
use Rattle.cx_journal.specs.declared.premises.KeyKind.TheVariants as kind
use Rattle.cx_laws_keys.specs.cx_rules.specs.Holdings.{MonClient}
use Rattle.cx_laws_keys.specs.cx_rules.specs.Inputs.{Input}
use Rattle.cx_laws_keys.specs.cx_rules.specs.Links.{Link}
use Rattle.cx_run.specs.cx_rules_session.specs.DaemonRule.{AsAcceptor, DaemonStage, DaemonState}
use Rattle.cx_run.specs.cx_rules_session.specs.IncomingLinks.{IncomingStage}
use Rattle.cx_laws_keys.specs.cx_steps.specs.Premises.{HasSealed, IsExcepted}
use Rattle.cx_laws_keys.specs.cx_steps.specs.declared.seals.Logged.{Logged}
use Rattle.cx_laws_keys.specs.cx_steps.specs.declared.seals.SealEntry.{SealEntry}
use Rattle.cx_laws_tickets.proofs.authorize.Backing.{AllGood, AreGood, HasBacking, authorized-backed, backing-grows, session-backed}
use Rattle.cx_laws_tickets.proofs.authorize.KeepingKeys.{kept-of, told-keeps}
use Rattle.cx_laws_tickets.specs.authorize.Admission.{EntryTold, FaultTells, GetsAuthority, IncomingHas, HadAuthority, IsOwned, IsTold, LinkAuthorized, RefusalTold, StageHas}
use Rattle.cx_laws_keys.proofs.keys.Journal.{EntryLaw, ToldLaw, IsNotIssued, entered, expired-none, needs-none}
use Rattle.cx_laws_keys.proofs.keys.Known.{HasTicket, Inv, Says, Within, opened_says}
use Rattle.cx_laws_keys.proofs.keys.Lists.{found_all, some-of}
use Rattle.cx_laws_keys.proofs.keys.Premises.{AreGranted}
use Rattle.cx_laws_keys.proofs.keys.Steps.{within-entered}
use Rattle.cx_laws_keys.proofs.keys.Uses.{Generated, Means, Uses, WholeRun}
use Rattle.cx_laws_keys.specs.keys.KeepsExpiry.{ExpiredFor, KeepsExpiryBy, NeedsExpired}
use Rattle.cx_laws_keys.proofs.login.Entering.{within-all}
use Rattle.cx_laws_keys.proofs.login.Facts.{AreFetched}
use Rattle.cx_laws_keys.proofs.login.Opens.{generation-free, generation_means}
use Rattle.cx_laws_keys.proofs.login.Rows.{none-given}

-- each authority of a link has its ticket
abbrev pub IsBackedLink : List Entry → EntityType → Link DaemonStage → Type 0
IsBackedLink J service l = (x : Authority) → StageHas l.stage x → HasBacking J service x

-- where two entries are all, what comes before the second is the first
second-is : (front es : List Entry) (a b : Entry) → (b ≡ a → ⊥) → front ++ b ∷ es ≡ a ∷ b ∷ [] → front ≡ a ∷ []
second-is [] es a b other e = let same : b ≡ a = cc in absurd (other same)
second-is (x ∷ []) es a b other e = let same : x ≡ a = cc in ap (λ (y : Entry). y ∷ []) same
second-is (x ∷ y ∷ []) es a b other e = absurd cc
second-is (x ∷ y ∷ z ∷ zs) es a b other e = absurd cc

module _ (run : WholeRun) (whole : List Logged) (n : NodeName) (line : ℕ) (us : Uses) (log : List Logged) (J : List Entry) (d : DaemonState) (input : Input) (reading : ℕ) where
  abbrev mon_client : MonClient
  mon_client = d.node.own.mon_client

  abbrev service : EntityType
  service = d.node.own.mon_client.name.kind

  module _ (entries : List Entry) (seals : List SealEntry) (i : Inv run whole us log J) (fetched : AreFetched run us service mon_client.view.generations) (good : AreGood run J)
      (backed : AllByRecursion (IsBackedLink J service) d.node.links) where
    -- ---- authorities

    -- the authority that a link in a stage has
    found-backed : (link : Link DaemonStage) (number : ℕ) (stage : IncomingStage) → IsBackedLink J service link → link.stage ≡ AsAcceptor stage
        → (x : Authority) → IncomingHas stage x → HasBacking J service x
    found-backed link number stage h is x has = h x (subst (λ (s : DaemonStage). StageHas s x) (sym is) has)

    had-backed : (number : ℕ) (x : Authority) → HadAuthority d number x → HasBacking J service x
    had-backed number x had =
        some-of (λ (l : Link DaemonStage). (l.number ≡ number) × StageHas l.stage x) (IsBackedLink J service) (HasBacking J service x) (λ l has all. all x has.1) d.node.links had backed

    gets-backed : AreGranted run.leaked whole n line log seals → (number : ℕ) (x : Authority) → GetsAuthority d input number reading x entries seals → HasBacking J service x
    gets-backed g number x h = authorized-backed run whole n line us log J mon_client service number reading h.stage x entries seals i fetched.generated good g h.authorized

    pub backed-behind : AreGranted run.leaked whole n line log seals → (links : List (Link DaemonStage)) → AllByRecursion (LinkAuthorized d input reading entries seals) links
        → AllByRecursion (IsBackedLink (entered J entries) service) links
    backed-behind g [] h = tt
    backed-behind g (l ∷ links) h = (
      λ x has. backing-grows J (entered J entries) service x (within-all J entries) (by_gain x (h.0 x has)),
      backed-behind g links h.1,
    )
      where
        by_gain : (x : Authority) → HadAuthority d l.number x ⊎ GetsAuthority d input l.number reading x entries seals → HasBacking J service x
        by_gain x (inl had) = had-backed l.number x had
        by_gain x (inr gets) = gets-backed g l.number x gets

    -- ---- sessions

    owned-backed : (K : List Entry) → Within J K → (e : Entry) → EntryTold d input reading entries seals e → IsBackedBy K e
    owned-backed K w (journal.Admitted session) h = by_owned h
      where
        by_owned : IsOwned d input session → IsBackedBy K (journal.Admitted session)
        by_owned o =
            let link : IsBackedLink J service o.turn.link = found_all (IsBackedLink J service) (λ (l : Link DaemonStage). l.number == o.number) d.node.links o.turn.link backed o.turn.found in
            session-backed K mon_client o.stage session
            (λ x has. backing-grows J K service x w (found-backed o.turn.link o.number o.stage link o.turn.stage_is x has)) o.owned
    owned-backed K w (journal.Resumed session) h = by_owned h
      where
        by_owned : IsOwned d input session → IsBackedBy K (journal.Resumed session)
        by_owned o =
            let link : IsBackedLink J service o.turn.link = found_all (IsBackedLink J service) (λ (l : Link DaemonStage). l.number == o.number) d.node.links o.turn.link backed o.turn.found in
            session-backed K mon_client o.stage session
            (λ x has. backing-grows J K service x w (found-backed o.turn.link o.number o.stage link o.turn.stage_is x has)) o.owned
    owned-backed K w (journal.Saved x) h = tt
    owned-backed K w (journal.Issued x) h = tt
    owned-backed K w (journal.Fetched x) h = tt
    owned-backed K w (journal.Looked x) h = tt
    owned-backed K w (journal.Sent x) h = tt
    owned-backed K w (journal.Handled x) h = tt
    owned-backed K w (journal.Answered x) h = tt
    owned-backed K w (journal.Refused x) h = tt
    owned-backed K w (journal.Ended x) h = tt
    owned-backed K w (journal.Restarted x) h = tt
    owned-backed K w (journal.Broken x) h = tt
    owned-backed K w (journal.Leaked x) h = tt

    -- ---- refusals

    looked_no_refusal : (r : Refused) (l : Looked) → journal.Refused r ≡ journal.Looked l → ⊥
    looked_no_refusal r l e = cc

    -- what stands before a refusal of a ticket is the look
    before-told : (front es : List Entry) (r : Refused) (why : TicketFault) (blob : List ℕ) → front ++ journal.Refused r ∷ es ≡ entries → (t : IsTold d input reading entries seals r why blob)
        → front ≡ journal.Looked (record { daemon = mon_client.name; link = t.number; view = mon_client.view }) ∷ []
    before-told front es r why blob place t =
        second-is front es (journal.Looked (record { daemon = mon_client.name; link = t.number; view = mon_client.view })) (journal.Refused r)
        (looked_no_refusal r (record { daemon = mon_client.name; link = t.number; view = mon_client.view })) (place ∙ t.told_at.entries_are)

    reason-keeps : (front es : List Entry) (r : Refused) → front ++ journal.Refused r ∷ es ≡ entries → (why : Reason) → RefusalTold d input reading entries seals r why
        → NeedsFor (J ++ front) r.node r.link why
    reason-keeps front es r place (reason.Ticket why blob) t =
        subst (λ (l : List Entry). NeedsFor (J ++ l) r.node r.link (reason.Ticket why blob)) (sym (before-told front es r why blob place t))
        (told-keeps J mon_client t.number reading (kept-of run J service mon_client.view.generations good fetched.saved) entries seals r why blob t.told_at)
    reason-keeps front es r place why t = needs-none (J ++ front) r.node r.link why tt

    -- the ticket that is said to have expired
    expired-issued : AreGranted run.leaked whole n line log seals → (K : List Entry) → Within J K → (why : TicketFault) (blob : List ℕ)
        → FaultTells mon_client.view reading why blob seals → NeedsExpired K mon_client.name why blob
    expired-issued g K w (told.Expired expires now) blob (id, key, content, ticket, rest, known, opens, shown, says, until, at, late) =
        let m = generation_means us service mon_client.view.generations id key fetched.generated known in
        let granted = subst (λ (es : List SealEntry). AreGranted run.leaked whole n line log es) opens g in
        by_owed m.0 m.1 granted.0.owes
      where
        by_owed : (of : ℕ) → Means us key (Generated service of)
            → IsExcepted run.leaked whole n key ⊎ HasSealed log (record { key = key; kind = kind.Service; content = content })
            → NeedsExpired K mon_client.name (told.Expired expires now) blob
        by_owed of means (inl excepted) = absurd (generation-free run whole n line us log J key service of i means excepted)
        by_owed of means (inr sealed) =
            let said : Says us J key (Generated service of) content =
            opened_says run whole us log J i (record { key = key; kind = kind.Service; content = content }) sealed (Generated service of) means in
            let t : HasTicket J service of key content ticket = (said ticket says).0 in (
              record {
                ticket = t.ticket;
                issued = w.has (journal.Issued t.ticket) t.issued;
                has_blob = t.blob ∙ sym (opened-Opens key blob content shown).is_sealed;
                service = t.service_is;
                until = sym (t.exact (good t.ticket t.issued).early) ∙ until;
              },
              late,
            )
    expired-issued g K w why blob t = tt

    reason-expires : AreGranted run.leaked whole n line log seals → (K : List Entry) → Within J K → (r : Refused) (why : Reason) → RefusalTold d input reading entries seals r why
        → ExpiredFor K r.node why
    reason-expires g K w r (reason.Ticket why blob) t =
        subst (λ (at : NodeName). ExpiredFor K at (reason.Ticket why blob)) (sym t.told_at.node_is) (expired-issued g K w why blob t.told_at.tells)
    reason-expires g K w r why t = expired-none K r.node why tt

    -- ---- each entry

    entry-keeps : (front es : List Entry) (e : Entry) → front ++ e ∷ es ≡ entries → EntryTold d input reading entries seals e → KeepsKeysBy (J ++ front) e
    entry-keeps front es (journal.Refused r) place h = reason-keeps front es r place r.reason h
    entry-keeps front es _ place h = tt

    entry-expires : AreGranted run.leaked whole n line log seals → (K : List Entry) → Within J K → (e : Entry) → EntryTold d input reading entries seals e → KeepsExpiryBy K e
    entry-expires g K w (journal.Refused r) h = reason-expires g K w r r.reason h
    entry-expires g K w _ h = tt

    pub entry-told-law : AreGranted run.leaked whole n line log seals → (front es : List Entry) (e : Entry) → front ++ e ∷ es ≡ entries → EntryTold d input reading entries seals e
        → ToldLaw (J ++ front) e
    entry-told-law g front es e place told = record {
      backed = owned-backed (J ++ front) (within-entered J front) e told;
      keeps_keys = entry-keeps front es e place told;
      keeps_expiry = entry-expires g (J ++ front) (within-entered J front) e told;
    }

  module _ (entries : List Entry) (seals : List SealEntry) (i : Inv run whole us log J) (fetched : AreFetched run us service mon_client.view.generations) (good : AllGood run J)
      (backed : run.good ≡ true → AllByRecursion (IsBackedLink J service) d.node.links) (come : run.incoming_links ≡ false → ⊥) (g : AreGranted run.leaked whole n line log seals) where
    each-law : (front es : List Entry) → front ++ es ≡ entries → AllByRecursion IsNotIssued es → AllByRecursion (EntryTold d input reading entries seals) es
        → EachBehind (EntryLaw run) (J ++ front) es
    each-law front [] place none told = tt
    each-law front (e ∷ es) place none told = (
      record {
        login = λ no. absurd (come no);
        told = λ known. entry-told-law entries seals i fetched (good known) (backed known) g front es e place told.0;
        gid_once = none-given (J ++ front) e none.0;
      },
      subst (λ (l : List Entry). EachBehind (EntryLaw run) l es) (sym (append_assoc J front (e ∷ [])))
          (each-law (front ++ e ∷ []) es (append_assoc front (e ∷ []) es ∙ place) none.1 told.1),
    )

  -- the entries of a turn of an incoming link
  pub told-laws : (entries : List Entry) (seals : List SealEntry) → Inv run whole us log J → AreFetched run us service mon_client.view.generations → AllGood run J
      → (run.good ≡ true → AllByRecursion (IsBackedLink J service) d.node.links) → (run.incoming_links ≡ false → ⊥) → AreGranted run.leaked whole n line log seals
      → AllByRecursion IsNotIssued entries → AllByRecursion (EntryTold d input reading entries seals) entries → EachBehind (EntryLaw run) J entries
  told-laws entries seals i fetched good backed come g none told =
      subst (λ (l : List Entry). EachBehind (EntryLaw run) l entries) (append-nil J) (each-law entries seals i fetched good backed come g [] entries refl none told)
