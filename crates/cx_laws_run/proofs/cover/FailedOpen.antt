-- A turn of an open link of the monitor whose save fails: nothing is said; and where a word would have been said, the link is lost.
use Rattle.std.proofs.Common.{◌≡◌, ℕ, true, List, ◌∷◌, Option, Some, None, Ok, inl, inr, ◌⊎◌, sym, subst}
use Rattle.std.specs.Prelude.{IfSome}
use Rattle.cx_base.specs.Names.{Name}
use Rattle.cx_base.specs.declared.nodes.NodeName.TheVariants as node
use Rattle.cx_frame.specs.declared.frame.Frame.{Frame}
use Rattle.cx_journal.specs.declared.entries.Entry.{Entry}
use Rattle.cx_laws_run.specs.cx_laws_keys.proofs.keys.Premises.{AreGranted, behind, granted-first}
use Rattle.cx_laws_run.specs.cx_laws_keys.proofs.keys.Uses.{Grows, Uses, WholeRun}
use Rattle.cx_laws_run.specs.cx_laws_keys.proofs.login.Facts.{BearerOk}
use Rattle.cx_laws_run.proofs.run.Saves.{thick}
use Rattle.cx_laws_run.specs.cx_laws_keys.proofs.series.Frames.{frame-sealed}
use Rattle.cx_laws_run.specs.cx_rules.specs.Acceptor.{Open}
use Rattle.cx_laws_run.specs.cx_rules.specs.Fronts.{keys_behind, opened_parts, sealed_ahead, taking}
use Rattle.cx_laws_run.specs.cx_rules.specs.Links.{Link}
use Rattle.cx_laws_run.specs.cx_rules.specs.Monitor.{MonitorArrival, MonitorRow, MonitorStage}
use Rattle.cx_laws_run.specs.cx_rules.specs.MonitorRequests.{on_open}
use Rattle.cx_laws_run.specs.cx_rules.specs.Rows.{at, links_behind, with_opened}
use Rattle.cx_laws_run.specs.cx_rules.specs.Secured.{SealedFrame, Secured, sealed_under, under}
use Rattle.cx_laws_run.specs.cx_rules.specs.declared.responses.Bearer.{Bearer}
use Rattle.cx_laws_run.specs.cx_run.specs.Points.{Point}
use Rattle.cx_steps.specs.declared.seals.Logged.{Logged}
use Rattle.cx_steps.specs.declared.seals.SealEntry.{SealEntry}
use Rattle.cx_laws_run.specs.cx_stream.specs.SecureStreams.{secure_frame_at}
use Rattle.cx_laws_run.specs.cx_laws_tickets.proofs.fetch.AskedKnown.{IsBearing, Told}
use Rattle.cx_laws_run.specs.cx_laws_tickets.proofs.fetch.AskedMoving.{Quiets, bearing-stays}
use Rattle.cx_laws_run.specs.cx_laws_tickets.proofs.fetch.AskedWords.{given_frame}
use Rattle.cx_laws_run.specs.cx_laws_tickets.proofs.fetch.HandingFirst.{silent-quiet}
use Rattle.cx_laws_run.specs.cx_laws_tickets.proofs.fetch.Later.{of_acceptor}
use Rattle.cx_laws_run.specs.cx_laws_tickets.proofs.fetch.MonitorGives.{TellsBy}
use Rattle.cx_laws_run.specs.cx_laws_tickets.proofs.fetch.MonitorHands.{AreSilent}
use Rattle.cx_laws_run.specs.cx_laws_tickets.proofs.fetch.MonitorMoves.{IsAnyLogin, bearer-takes}
use Rattle.cx_laws_run.specs.cx_laws_tickets.proofs.fetch.PointEvents.{arrival_at, events_of, more-events}
use Rattle.cx_laws_run.specs.cx_laws_tickets.proofs.fetch.Retied.{Handed, retied}
use Rattle.cx_laws_run.specs.cx_laws_tickets.proofs.fetch.RowWords.{AreQuiet, RowSays, quiet-none}
use Rattle.cx_laws_run.proofs.cover.LostLinks.{lost-begins, lost-skips}
use Rattle.cx_laws_run.proofs.cover.MonitorOpenRows.{Kept, says}
use Rattle.cx_laws_run.proofs.cover.MonitorQuiet.{MonitorReady, failed-silent, grows-here, inv-here, left_of, one-behind, quiet-behind}
use Rattle.cx_laws_run.proofs.cover.MonitorStays.{lost-stays}
use Rattle.cx_laws_run.proofs.cover.OtherLinks.{behind-others}
use Rattle.cx_laws_run.proofs.cover.State.{IsLost, MonitorHas}
use Rattle.cx_laws_run.proofs.cover.Steps.{MonitorBehind}

module _ (run : WholeRun) (whole : List Logged) (us vs : Uses) (logins : List Handed) (told : Told) (past : List Point) (p : Point) (log : List Logged) (J K : List Entry)
    (link : Link MonitorStage) (s : Secured) (bearer : Bearer) (g : Frame) (m : ℕ) (read : secure_frame_at (sealed_ahead s.keys link) ≡ Ok (Some (g, m))) where
  abbrev ws : Uses
  ws = retied logins us

  abbrev xs : Uses
  xs = retied logins vs

  abbrev a : MonitorArrival
  a = at (arrival_at p link) (taking link m)

  abbrev k : Secured
  k = under s (keys_behind s.keys g)

  abbrev opened : List SealEntry
  opened = opened_parts (sealed_ahead s.keys link)

  abbrev row : MonitorRow
  row = with_opened opened (on_open Open a k bearer g)

  abbrev links : List (Link MonitorStage)
  links = links_behind p.nodes.monitor.links link.number row.sends row.link

  abbrev es : List SealEntry
  es = left_of true row.seals

  abbrev line : ℕ
  line = p.happening.line

  abbrev later : List Logged
  later = behind node.Monitor line es log

  module _ (r : MonitorReady run whole us vs logins told past p log J K es row.own links) (ok : BearerOk r.owner us s.keys bearer) where
    silent : AreSilent es
    silent = failed-silent row.seals

    quiet : AreQuiet es
    quiet = silent-quiet es silent

    grows : Grows ws xs
    grows = grows-here run whole us vs logins told past p log J K es row.own links r

    -- where the link is like this behind the row
    fails-as : ((u : Secured) → MonitorHas run xs told later link.number (Open u bearer) → IfSome row.link (Kept run whole us vs logins told past p log J K link s bearer g m read None u)
        → MonitorBehind run us vs logins told past p log es links)
    fails-as u has kept =
        quiet-behind run whole us vs logins told past p log J K es row.own links r silent
        (λ h. behind-others (λ (l : Link MonitorStage). MonitorHas run xs told later l.number l.stage) (λ (l : Link MonitorStage). MonitorHas run xs told later l.number l.stage) link.number (λ l apart x. x)
        p.nodes.monitor.links row.sends row.link (by_link row.link kept) h)
      where
        named : (who : Bearer) → who.name ≡ bearer.name → MonitorHas run xs told later link.number (Open u who)
        named who same = by_either has
          where
            by_either : IsBearing run xs told later link.number u bearer.name ⊎ IsLost xs told later link.number u bearer.name → MonitorHas run xs told later link.number (Open u who)
            by_either (inl b) = inl (subst (λ (n : Name). IsBearing run xs told later link.number u n) (sym same) b)
            by_either (inr b) = inr (subst (λ (n : Name). IsLost xs told later link.number u n) (sym same) b)

        by_link : (o : Option (Link MonitorStage)) → IfSome o (Kept run whole us vs logins told past p log J K link s bearer g m read None u)
            → IfSome o (λ (l : Link MonitorStage). (l.number ≡ link.number) × MonitorHas run xs told later l.number l.stage)
        by_link None h = tt
        by_link (Some l) (same, who, is, its) =
            (same, subst (λ (n : ℕ). MonitorHas run xs told later n l.stage) (sym same) (subst (λ (st : MonitorStage). MonitorHas run xs told later link.number st) (sym is) (named who its)))

    abbrev Says : Type 0
    Says = RowSays given_frame (IsAnyLogin xs) (Kept run whole us vs logins told past p log J K link s bearer g m read) (TellsBy a bearer g) k row

    row-says : Says
    row-says = says run whole us vs logins told past p log J K link s bearer g m read es r ok

    -- all was said until then
    pub failed-said : IsBearing run ws told log link.number s bearer.name → MonitorBehind run us vs logins told past p log es links
    failed-said b = by_says row-says
      where
        granted : AreGranted run.leaked whole node.Monitor line log opened
        granted = granted-first run.leaked whole node.Monitor line log opened (on_open Open a k bearer g).seals (thick run whole node.Monitor line log row.seals r.granted)

        still : IsBearing run xs told later link.number s bearer.name
        still = bearing-stays told told Quiets run (events_of past) (events_of (p ∷ past)) (more-events p past) ws xs grows log node.Monitor line es link.number s bearer.name tt
            (quiet-none s.keys.key of_acceptor es quiet) b

        taken-so : IsBearing run xs told later link.number k bearer.name
        taken-so = record {
          challenge = still.challenge;
          means = still.means;
          parts = record { sealed = still.parts.sealed; counter = still.parts.counter };
          out = still.out;
          into = still.into;
          fits = still.fits;
          taken = λ free. (bearer-takes run whole ws xs log J node.Monitor line (one-behind run whole us vs logins told past p log J K es row.own links r) grows
              (inv-here run whole us vs logins told past p log J K es row.own links r) (events_of past) (events_of (p ∷ past)) (more-events p past) told r.has.known_of link.number bearer.name s b
              free link g m granted read).behind;
        }

        by_says : Says → MonitorBehind run us vs logins told past p log es links
        by_says (inl x) = fails-as k (inl taken-so) x.link
        by_says (inr x) =
            let is = frame-sealed k.keys (given_frame x.word) x.sealed x.made in
            fails-as (under k (sealed_under k.keys (given_frame x.word)).keys) (inr (lost-begins run xs told link.number bearer.name x.word later k taken-so is.1))
            (subst (λ (f : SealedFrame). IfSome row.link (Kept run whole us vs logins told past p log J K link s bearer g m read None (under k f.keys))) is.0 x.link)

    -- or it was lost before
    pub failed-lost : IsLost ws told log link.number s bearer.name → MonitorBehind run us vs logins told past p log es links
    failed-lost h = by_says row-says
      where
        still : IsLost xs told later link.number s bearer.name
        still = lost-stays ws xs grows told told Quiets node.Monitor line es log link.number s bearer.name tt (quiet-none s.keys.key of_acceptor es quiet) h

        taken-so : IsLost xs told later link.number k bearer.name
        taken-so = record {
          challenge = still.challenge;
          means = still.means;
          beyond = still.beyond;
          some = still.some;
          among = still.among;
          counter = still.counter;
          out = still.out;
          fits = still.fits;
        }

        by_says : Says → MonitorBehind run us vs logins told past p log es links
        by_says (inl x) = fails-as k (inr taken-so) x.link
        by_says (inr x) =
            let is = frame-sealed k.keys (given_frame x.word) x.sealed x.made in
            fails-as (under k (sealed_under k.keys (given_frame x.word)).keys) (inr (lost-skips run xs told link.number bearer.name x.word later k taken-so is.1))
            (subst (λ (f : SealedFrame). IfSome row.link (Kept run whole us vs logins told past p log J K link s bearer g m read None (under k f.keys))) is.0 x.link)
