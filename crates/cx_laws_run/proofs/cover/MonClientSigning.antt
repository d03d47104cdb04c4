-- A link to the monitor of one that logs in, at AUTH_DONE and at the monitor's signature: AUTH_SIGNATURE is sealed under the key of a login, and where the monitor's is
-- found right, that is the key of the challenge that this link drew, and CLIENT_IDENT is said.
use Rattle.std.proofs.Common.{◌≡◌, ◌==◌, ℕ, Bool, true, false, List, [], ◌∷◌, ◌++◌, take, Option, Some, None, Result, Ok, Err, inl, inr, ◌⊎◌, refl, sym, ap, ◌∙◌, subst}
use Rattle.std.proofs.lemmas.Bool.{eqb-true}
use Rattle.std.specs.Prelude.{IfSome, if◌then◌else◌}
use Rattle.std.specs.List.{AllByRecursion}
use Rattle.cx_base.specs.Names.{Name}
use Rattle.cx_base.specs.declared.nodes.NodeName.{NodeName}
use Rattle.cx_base.specs.declared.nodes.NodeName.TheVariants as node
use Rattle.cx_control.specs.Auth.{auth_done_layout, auth_signature_layout}
use Rattle.cx_control.specs.BadMethod.{bad_method_layout}
use Rattle.cx_control.specs.declared.auth.AuthDone.{AuthDone}
use Rattle.cx_control.specs.declared.auth.AuthSignature.{AuthSignature}
use Rattle.cx_frame.specs.declared.frame.Frame.{Frame}
use Rattle.cx_journal.specs.declared.entries.Entry.{Entry}
use Rattle.cx_journal.specs.declared.faults.BytesFault.{BytesFault}
use Rattle.cx_journal.specs.declared.faults.BytesFault.TheVariants.{Unexpected}
use Rattle.cx_laws_run.proofs.cover.MonClientBehind.{MonClientReady, IsRowAt, mon_client-says, mon_client-still, plain-grows}
use Rattle.cx_laws_run.proofs.cover.MonClientStays.{IsUntouched, handed_keys-grow, own_answer-stays}
use Rattle.cx_laws_run.proofs.cover.State.{IsOwnAnswer}
use Rattle.cx_laws_run.specs.cx_laws_tickets.proofs.fetch.AskedKnown.{IsMonClient, IsLoginKey, Told}
use Rattle.cx_laws_run.specs.cx_laws_tickets.proofs.fetch.AskedMoving.{Quiets}
use Rattle.cx_laws_run.specs.cx_laws_tickets.proofs.fetch.AskedWords.{Asked, Asks, Acknowledges, Idents, asked_frame, last_number}
use Rattle.cx_laws_run.specs.cx_laws_tickets.proofs.fetch.MonClientFacts.{HasHeard, HearsOne, heard-one}
use Rattle.cx_laws_run.specs.cx_laws_tickets.proofs.fetch.MonClientMoves.{words_of}
use Rattle.cx_laws_run.specs.cx_laws_tickets.proofs.fetch.MonClientOpening.{signature-moves}
use Rattle.cx_laws_run.specs.cx_laws_tickets.proofs.fetch.MonClientPlain.{signature-plain}
use Rattle.cx_laws_run.specs.cx_laws_tickets.proofs.fetch.MonClientSays.{IsSaidAt, KeepsIdent, signature-says}
use Rattle.cx_laws_run.specs.cx_laws_tickets.proofs.fetch.MonClientSigned.{signed-finds}
use Rattle.cx_laws_run.specs.cx_laws_tickets.proofs.fetch.Handed.{IsHanded, IsPlain, handed-in}
use Rattle.cx_laws_run.specs.cx_laws_tickets.proofs.fetch.HandedLogin.{GoesSigned, HasHandedKeys, SealsNothing, SignsRow, no-login, proved-row}
use Rattle.cx_laws_run.specs.cx_laws_tickets.proofs.fetch.MonitorMoves.{IsAnyLogin, if-some}
use Rattle.cx_laws_run.specs.cx_laws_tickets.proofs.fetch.MonitorPlain.{opened-plain}
use Rattle.cx_laws_run.specs.cx_laws_tickets.proofs.fetch.PointEvents.{events_of, more-events}
use Rattle.cx_laws_run.specs.cx_laws_tickets.proofs.fetch.Retied.{Handed}
use Rattle.cx_laws_run.specs.cx_laws_tickets.proofs.fetch.RowWords.{AreQuiet, opened-quiet, opened-says}
use Rattle.cx_laws_run.specs.cx_laws_tickets.proofs.fetch.SameChallenge.{TellsReply}
use Rattle.cx_laws_run.specs.cx_laws_tickets.proofs.fetch.Words.{said_under}
use Rattle.cx_laws_run.specs.cx_laws_keys.proofs.keys.Lists.{all-append}
use Rattle.cx_laws_run.specs.cx_laws_keys.proofs.keys.Premises.{behind}
use Rattle.cx_laws_run.specs.cx_laws_keys.proofs.keys.Uses.{AtMonitor, Connected, Means, Secret, Use, Uses, WholeRun}
use Rattle.cx_laws_run.specs.cx_rules.specs.Connector.{MonClientArrival, MonClientRow, Stage, Login, on_bad_method, on_done, on_signature, while_proved}
use Rattle.cx_laws_run.specs.cx_rules.specs.Fronts.{keys_behind, opened_parts, sealed_ahead, taking}
use Rattle.cx_laws_run.specs.cx_rules.specs.Links.{Link}
use Rattle.cx_laws_run.specs.cx_rules.specs.Payloads.{due, payload}
use Rattle.cx_laws_run.specs.cx_rules.specs.Rows.{at, with_opened}
use Rattle.cx_laws_run.specs.cx_rules.specs.Secured.{Secured, under}
use Rattle.cx_laws_run.specs.cx_run.specs.Points.{Point}
use Rattle.cx_steps.specs.declared.seals.Logged.{Logged}
use Rattle.cx_steps.specs.declared.seals.SealEntry.{SealEntry}
use Rattle.cx_laws_run.proofs.cover.MonClientFirst as first

module _ (run : WholeRun) (whole : List Logged) (us vs : Uses) (logins : List Handed) (told : Told) (past : List Point) (p : Point) (name : Name) (log : List Logged) (J : List Entry)
    (r : MonClientReady run whole us vs logins told past p name log J) (link : ℕ) where
  abbrev n : NodeName
  n = node.Entity name

  abbrev line : ℕ
  line = p.happening.line

  abbrev HasBehind : Told → List Logged → List ℕ → Stage → Type 0
  HasBehind next later sent stage = first.HasBehind run whole us vs logins told past p name log J r link next later sent stage

  abbrev Behind : MonClientRow → Type 0
  Behind row = first.Behind run whole us vs logins told past p name log J r link row

  abbrev BehindAt : MonClientRow → Type 0
  BehindAt row = first.BehindAt run whole us vs logins told past p name log J r link row

  module _ (a : MonClientArrival) (here : a.link.number ≡ link) (reads : a.reading ≡ p.happening.reading) (draws : a.draw ≡ p.happening.draw) where
    -- ---- AUTH_DONE

    -- under no key of a login anything is sealed: so this link is untouched by it
    silent-apart : (row : MonClientRow) → SealsNothing row.seals
        → IsUntouched run whole us vs log J n line row.seals r.one r.grows r.inv (events_of past) (events_of (p ∷ past)) (more-events p past) told r.known_of logins logins (λ h has. has) told Quiets
        name link
    silent-apart row none challenge drew key is = (tt, (none key).0)

    -- the row that reads it, which signs
    signed-behind : (b : MonClientArrival) (row : MonClientRow) → b.link.number ≡ link → IsOwnAnswer (events_of past) us told name link b.link.sent → SignsRow us logins name b.link.number b.link.sent row
        → Behind row
    signed-behind b row number own h =
        mon_client-still run whole us vs logins told past p name log J r link HasBehind row h.none (plain-grows us vs r.grows row.seals h.plain)
        (if-some (GoesSigned us logins name b.link.number b.link.sent) (λ (l : Link Stage). (l.number ≡ link) × HasBehind told (behind n line row.seals log) (l.sent ++ row.sends) l.stage) row.link
        (λ l g. (
          g.number_is ∙ number,
          subst (λ (stage : Stage). HasBehind told (behind n line row.seals log) (l.sent ++ row.sends) stage) (sym g.stage_is) (
            own_answer-stays run whole us vs log J n line row.seals r.one r.grows r.inv (events_of past) (events_of (p ∷ past)) (more-events p past) told r.known_of logins logins (λ k has. has) told
                Quiets name link g.s.covered (silent-apart row h.none) (subst (λ (bytes : List ℕ). IsOwnAnswer (events_of past) us told name link bytes) (sym g.covered) own),
            handed_keys-grow us vs r.grows logins logins (λ k has. has) name g.s g.keys,
          ),
        )) h.link)

    -- any other frame is refused
    refused-behind : (b : MonClientArrival) (f : Frame) → (f.tag == 6) ≡ false → Behind (while_proved b f)
    refused-behind b f other = by_test (f.tag == 3)
      where
        by_denied : (read : Result (ℕ × (ℕ × (List ℕ × List ℕ))) BytesFault) → Behind (on_bad_method b read)
        by_denied (Err why) = first.quiet-behind run whole us vs logins told past p name log J r link a here reads draws (on_bad_method b (Err why)) tt tt tt
        by_denied (Ok fields) = first.quiet-behind run whole us vs logins told past p name log J r link a here reads draws (on_bad_method b (Ok fields)) tt tt tt

        by_due : (six : Bool) → six ≡ false → Behind (on_done b (let read : Result AuthDone BytesFault = (if six then payload auth_done_layout.form f else Err (Unexpected f.tag)) in read))
        by_due true e = absurd cc
        by_due false e = first.quiet-behind run whole us vs logins told past p name log J r link a here reads draws (on_done b (Err (Unexpected f.tag))) tt tt tt

        by_test : (denied : Bool) → Behind (if denied then on_bad_method b (payload bad_method_layout.form f) else on_done b (due 6 auth_done_layout.form f))
        by_test true = by_denied (payload bad_method_layout.form f)
        by_test false = by_due (f.tag == 6) other

    pub done-behind : (b : MonClientArrival) (f : Frame) → b.link.number ≡ link → Means us b.own.secret (Secret name) → IsOwnAnswer (events_of past) us told name link b.link.sent
        → HearsOne b.link.received b.link.taken (1 ∷ 4 ∷ []) f → BehindAt (while_proved b f)
    done-behind b f number secret own heard = λ row_at. by_tag (f.tag == 6) refl row_at
      where
        by_tag : (six : Bool) → (f.tag == 6) ≡ six → IsRowAt run whole p name log link (while_proved b f).seals (while_proved b f).sends → Behind (while_proved b f)
        by_tag false e row_at = refused-behind b f e
        by_tag true e row_at =
            let all : HasHeard b.link.received b.link.taken (1 ∷ 4 ∷ 6 ∷ []) = heard-one b.link.received b.link.taken (1 ∷ 4 ∷ []) f 6 heard (eqb-true f.tag 6 e) in
            let reply : TellsReply (take b.link.taken b.link.received) = record { received = b.link.received; taken = b.link.taken; heard = all; bytes_are = refl } in
            signed-behind b (while_proved b f) number own
            (proved-row run whole n line us J name r.free logins r.handed.handed b reply log (r.inv, r.handed.known) secret f row_at.granted)

    -- ---- behind AUTH_DONE

    pub signature-behind : (s : Secured) (login : Login) → IsOwnAnswer (events_of past) us told name link s.covered → HasHandedKeys us logins name s → (g : Frame) (m : ℕ)
        → BehindAt (with_opened (opened_parts (sealed_ahead s.keys a.link)) (on_signature (at a (taking a.link m)) (under s (keys_behind s.keys g)) login (due 7 auth_signature_layout.form g)))
    signature-behind s login own keys g m row_at =
        by_found (signed-finds run whole us vs log J n line r.one r.grows r.inv (events_of past) (events_of (p ∷ past)) (more-events p past) told r.known_of name link s a.link g m r.free logins
        r.handed keys own.answered own.small own.unsaid login a (first.now run whole us vs logins told past p name log J r link a here reads draws) row_at.granted)
      where
        k : Secured
        k = under s (keys_behind s.keys g)

        opened : List SealEntry
        opened = opened_parts (sealed_ahead s.keys a.link)

        row : MonClientRow
        row = with_opened opened (on_signature (at a (taking a.link m)) k login (due 7 auth_signature_layout.form g))

        linked : IsHanded us keys.handed
        linked = handed-in us logins keys.handed r.handed.handed keys.has

        use_of : Use
        use_of = Connected node.Monitor keys.handed.number linked.name (AtMonitor keys.handed.challenge)

        plain : AllByRecursion (IsPlain vs) row.seals
        plain =
            all-append (IsPlain vs) opened _ (opened-plain vs (sealed_ahead s.keys a.link))
            (signature-plain vs k use_of (r.grows.means s.keys.key use_of (subst (λ (key : List ℕ). Means us key use_of) keys.key_is linked.means))
            (no-login node.Monitor keys.handed.number linked.name (AtMonitor keys.handed.challenge)) (at a (taking a.link m)) login (due 7 auth_signature_layout.form g))

        by_found : AreQuiet row.seals × (row.link ≡ None)
            ⊎ ((found : AuthSignature) × (due 7 auth_signature_layout.form g ≡ Ok found) × IsLoginKey us s.keys.key name own.answered.challenge) → Behind row
        by_found (inl (quiet, shut)) =
            first.quiet-behind run whole us vs logins told past p name log J r link a here reads draws row quiet plain
            (subst (λ (left : Option (Link Stage)). IfSome left (λ (l : Link Stage). (l.number ≡ link) × HasBehind told (behind n line row.seals log) (l.sent ++ row.sends) l.stage)) (sym shut) tt)
        by_found (inr (found, read, is)) =
            let moves = signature-moves run whole us vs log J n line r.one r.grows r.inv (events_of past) (events_of (p ∷ past)) (more-events p past) told r.known_of name link s a.link g m
            own.answered.challenge is own.unsaid keys.first login a (first.now run whole us vs logins told past p name log J r link a here reads draws) found read in
            mon_client-says run whole us vs logins told past p name log J r link HasBehind (KeepsIdent a.link.number) (IsSaidAt a.reading 0) k own.answered.challenge is own.unsaid.drew keys.first.out row
            (opened-says asked_frame (IsAnyLogin vs) (KeepsIdent a.link.number) (IsSaidAt a.reading 0) opened k _ (opened-quiet (sealed_ahead s.keys a.link))
            (signature-says (IsAnyLogin vs) (at a (taking a.link m)) k login (due 7 auth_signature_layout.form g))) moves plain
            (λ l word u kept mon_client same said. ident-has moves.next l word u kept mon_client same said)
          where
            ident-has : (next : Told) (l : Link Stage) (word : Option Asked) (u : Secured) → KeepsIdent a.link.number word u l
                → IsMonClient (events_of (p ∷ past)) vs next (behind n line row.seals log) name link u → u.keys.key ≡ s.keys.key
                → said_under s.keys.key next.asked ≡ said_under s.keys.key told.asked ++ words_of word
                → (l.number ≡ link) × HasBehind next (behind n line row.seals log) (l.sent ++ row.sends) l.stage
            ident-has next l None u kept mon_client same said = absurd kept
            ident-has next l (Some (Asks number reading request)) u kept mon_client same said = absurd kept
            ident-has next l (Some (Acknowledges ack)) u kept mon_client same said = absurd kept
            ident-has next l (Some (Idents by gid cookie)) u kept mon_client same said =
                let none : said_under s.keys.key told.asked ≡ [] = own.unsaid.silent s.keys.key is in
                let word : said_under s.keys.key next.asked ≡ Idents by gid cookie ∷ [] = said ∙ ap (λ (xs : List Asked). xs ++ Idents by gid cookie ∷ []) none in
                let counted : last_number 0 (said_under u.keys.key next.asked) ≡ 0 =
                ap (λ (key : List ℕ). last_number 0 (said_under key next.asked)) same ∙ ap (λ (xs : List Asked). last_number 0 xs) word in (
                  kept.0 ∙ here,
                  subst (λ (stage : Stage). HasBehind next (behind n line row.seals log) (l.sent ++ row.sends) stage) (sym kept.2) (mon_client, counted),
                )
