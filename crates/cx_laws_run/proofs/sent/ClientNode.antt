-- A client behind a step on one of its links to daemons: what is known of it then, by what its link comes to.
use Rattle.std.proofs.Common.{◌≡◌, ℕ, ◌+◌, true, false, List, [], ◌++◌, Option, Some, None, refl, sym, ap, ◌∙◌, subst, arith}
use Rattle.std.specs.List.{AllByRecursion}
use Rattle.std.specs.Option.{option_map}
use Rattle.cx_base.proofs.Names.{same_name_self}
use Rattle.cx_base.specs.Names.{Name, same_name}
use Rattle.cx_base.specs.declared.nodes.NodeName.{NodeName}
use Rattle.cx_laws_run.specs.cx_laws_keys.proofs.keys.Lists.{all-map}
use Rattle.cx_laws_run.specs.cx_laws_keys.proofs.keys.Premises.{behind}
use Rattle.cx_laws_run.specs.cx_laws_keys.proofs.keys.Uses.{Grows, Means, Use, Uses}
use Rattle.cx_laws_links.specs.cx_laws_keys.proofs.series.Contents.{contents_by}
use Rattle.cx_laws_sessions.specs.cx_rules.specs.Links.{Link, put_link, without_link}
use Rattle.cx_laws_sessions.specs.cx_rules.specs.Rows.{links_behind}
use Rattle.cx_laws_sessions.specs.cx_rules_session.specs.ClientRule.{ClientStage, Dial, ToDaemon, ToMonitor, WholeClient, WholeClientNode, is_to}
use Rattle.cx_laws_sessions.specs.cx_rules_session.specs.Kinds.{of_kind}
use Rattle.cx_laws_sessions.specs.cx_rules_session.specs.Presenter.{CallStage, callee_of}
use Rattle.cx_laws_sessions.specs.cx_rules_session.specs.Sessions.{Callee, HeldSession}
use Rattle.cx_steps.specs.Onto.{SomeOf}
use Rattle.cx_steps.specs.declared.seals.Logged.{Logged}
use Rattle.cx_steps.specs.declared.seals.SealEntry.{SealEntry}
use Rattle.cx_laws_links.proofs.links.CallTold.{same-nonces}
use Rattle.cx_laws_links.proofs.links.Known.{CallTold, IsOfSession, StageTold, Told}
use Rattle.cx_laws_links.proofs.links.Moving.{Moved, Quiets, moved-call}
use Rattle.cx_laws_links.proofs.links.Single.{IsSingle, to_where}
use Rattle.cx_laws_links.proofs.links.Spoken.{is_connectors}
use Rattle.cx_laws_links.proofs.links.Written.{IsLinkKey}
use Rattle.cx_laws_run.proofs.sent.ClientLinks.{all-put, all-without, alone, single-put, single-shut}
use Rattle.cx_laws_run.proofs.sent.State.{CallFits, ClientKnown, SessionFits, StageFits}
use Rattle.cx_laws_run.proofs.sent.Waiting.{all-both}

module _ (us vs : Uses) (one : (k : List ℕ) (u v : Use) → Means us k u → Means us k v → u ≡ v) (f : Grows us vs) (told : Told) (log : List Logged) (n : NodeName) (line : ℕ) (es : List SealEntry)
    (name : Name) (c : WholeClientNode) (named : c.own.mon_client.name ≡ name) (known : ClientKnown us told log c) where
  abbrev later : List Logged
  later = behind n line es log

  -- sessions are as before but for the one with this daemon
  abbrev pub StillOf : (CallStage → Type 0) → List HeldSession → Type 0
  StillOf P sessions = (stage : CallStage) → P stage → IsOfSession c.own.sessions stage → IsOfSession sessions stage

  abbrev pub Any : CallStage → Type 0
  Any stage = Unit {0}

  abbrev pub To_others : Name → CallStage → Type 0
  To_others daemon stage = same_name (callee_of stage).daemon daemon ≡ false

  -- ---- a step that says nothing, and touches no link

  module _ (own : WholeClient) (still : own.mon_client.name ≡ name) (dials : own.dials ≡ c.own.dials) (fits : AllByRecursion SessionFits own.sessions) where
    as-named : (us_ : Uses) (told_ : Told) (log_ : List Logged) (number : ℕ) (stage : CallStage) → CallTold us_ told_ log_ name number stage → CallTold us_ told_ log_ own.mon_client.name number stage
    as-named us_ told_ log_ number stage h = subst (λ (m : Name). CallTold us_ told_ log_ m number stage) (sym still) h

    single-as : (links : List (Link ClientStage)) → IsSingle links c.own.dials → IsSingle links own.dials
    single-as links h = subst (λ (ds : List Dial). IsSingle links ds) (sym dials) h

    pub quiet-known : ((other : List ℕ) (whose : Name) (tie : ℕ) → IsLinkKey vs other whose tie → contents_by other is_connectors es ≡ []) → StillOf Any own.sessions
        → ClientKnown vs told later (record c { own = own })
    quiet-known none of = record {
      links = record {
        links = all-map (λ (l : Link ClientStage). StageTold us told log c.own l.number l.stage) (λ (l : Link ClientStage). StageTold vs told later own l.number l.stage)
            (λ l h. by_stage l.number l.stage h) c.links known.links.links;
      };
      single = single-as c.links known.single;
      sessions = fits;
      stages = known.stages;
    }
      where
        next-apart : (m : ℕ) → m ≡ m + 1 → ⊥
        next-apart m e = omega (arith, e)

        by_stage : (number : ℕ) (stage : ClientStage) → StageTold us told log c.own number stage → StageTold vs told later own number stage
        by_stage number (ToMonitor stage) h = tt
        by_stage number (ToDaemon stage) h = (
          as-named vs told later number stage
              (moved-call us vs one f told log n line es name (number + 1) told (Quiets told.nonces (same-nonces told name (number + 1)) none) name number (λ e. next-apart number e.1) stage
              (subst (λ (m : Name). CallTold us told log m number stage) named h.0)),
          of stage tt h.1,
        )

    -- ---- a step on a link to a daemon

    module _ (link : Link ClientStage) (stage : CallStage) (there : SomeOf (λ (l : Link ClientStage). l ≡ link) c.links) (is : link.stage ≡ ToDaemon stage) (next : Told)
        (moved : Moved us vs told log es name link.number next) (of : StillOf (To_others (callee_of stage).daemon) own.sessions) where
      abbrev daemon : Name
      daemon = (callee_of stage).daemon

      -- what is so of the link, where it goes on
      pub record LeftIs (l : Link CallStage) : Type 0 where
        pub number : l.number ≡ link.number
        pub call_told : CallTold vs next later name link.number l.stage
        pub cookie_fits : CallFits l.stage
        pub calls : callee_of l.stage ≡ callee_of stage
        pub session : IsOfSession own.sessions l.stage

      abbrev Was : Link ClientStage → Type 0
      Was l = StageTold us told log c.own l.number l.stage × ((l.number ≡ link.number → ⊥) → to_where daemon l ≡ false)

      abbrev Now : Link ClientStage → Type 0
      Now l = StageTold vs next later own l.number l.stage

      itself-to : to_where daemon link ≡ true
      itself-to = ap (λ (st : ClientStage). is_to daemon st) is ∙ same_name_self daemon

      all-was : AllByRecursion Was c.links
      all-was = all-both (λ (l : Link ClientStage). StageTold us told log c.own l.number l.stage) (λ (l : Link ClientStage). (l.number ≡ link.number → ⊥) → to_where daemon l ≡ false) c.links known.links.links
          (alone (to_where daemon) link c.links there itself-to (let h = known.single daemon in omega (arith, h)))

      other-now : (l : Link ClientStage) → (l.number ≡ link.number → ⊥) → Was l → Now l
      other-now l apart h = by_stage l.stage h.0 (h.1 apart)
        where
          by_stage : (st : ClientStage) → StageTold us told log c.own l.number st → is_to daemon st ≡ false → StageTold vs next later own l.number st
          by_stage (ToMonitor st) g off = tt
          by_stage (ToDaemon st) g off = (
            as-named vs next later l.number st
                (moved-call us vs one f told log n line es name link.number next moved name l.number (λ e. apart e.1) st (subst (λ (m : Name). CallTold us told log m l.number st) named g.0)),
            of st off g.1,
          )

      shut-known : ClientKnown vs next later (record { own = own; links = without_link link.number c.links })
      shut-known = record {
        links = record { links = all-without Was Now link.number other-now c.links all-was };
        single = single-as (without_link link.number c.links) (single-shut c.links c.own.dials link.number known.single);
        sessions = fits;
        stages = all-without (λ (l : Link ClientStage). StageFits l.stage) (λ (l : Link ClientStage). StageFits l.stage) link.number (λ l apart h. h) c.links known.stages;
      }

      abbrev put_of : Link CallStage → List ℕ → Link ClientStage
      put_of l bytes = record (of_kind ToDaemon l) { sent = l.sent ++ bytes }

      goes-known : (l : Link CallStage) → LeftIs l → (bytes : List ℕ) → ClientKnown vs next later (record { own = own; links = put_link (put_of l bytes) c.links })
      goes-known l h bytes = record {
        links = record { links = all-put Was Now (put_of l bytes) now (λ other apart g. other-now other (λ e. apart (e ∙ sym h.number)) g) c.links all-was };
        single = single-as (put_link (put_of l bytes) c.links) (single-put c.links c.own.dials link (put_of l bytes) there h.number calls known.single);
        sessions = fits;
        stages = all-put (λ (other : Link ClientStage). StageFits other.stage) (λ (other : Link ClientStage). StageFits other.stage) (put_of l bytes) h.cookie_fits (λ other apart g. g) c.links known.stages;
      }
        where
          now : Now (put_of l bytes)
          now = (as-named vs next later l.number l.stage (subst (λ (m : ℕ). CallTold vs next later name m l.stage) (sym h.number) h.call_told), h.session)

          calls : (whom : Name) → to_where whom (put_of l bytes) ≡ true → to_where whom link ≡ true
          calls whom to = ap (λ (st : ClientStage). is_to whom st) is ∙ ap (λ (x : Callee). same_name x.daemon whom) (sym h.calls) ∙ to

      pub left-known : (left : Option (Link CallStage)) → ((l : Link CallStage) → left ≡ Some l → LeftIs l) → (bytes : List ℕ)
          → ClientKnown vs next later (record { own = own; links = links_behind c.links link.number bytes (option_map (of_kind ToDaemon) left) })
      left-known None h bytes = shut-known
      left-known (Some l) h bytes = goes-known l (h l refl) bytes
