-- A turn of a client's link to a daemon, in any stage: what is known of the link behind it, and that what it logs is harmless.
use Rattle.std.proofs.Common.{◌≡◌, ℕ, List, [], ◌∷◌, ◌++◌, map, drop, take, Option, Some, None, Result, Ok, Err, refl, subst, arith, ◌+◌}
use Rattle.cx_laws_run.specs.cx_authorize.specs.Client.{reply_in}
use Rattle.cx_control.specs.Auth.{auth_signature_layout}
use Rattle.cx_control.specs.Hello.{hello_layout}
use Rattle.cx_control.specs.declared.hello.Hello.{Hello}
use Rattle.cx_dice.specs.Draws.{challenge_of}
use Rattle.cx_frame.specs.Banners.{banner_at}
use Rattle.cx_frame.specs.declared.banner.Banner.{Banner}
use Rattle.cx_frame.specs.declared.frame.Frame.{Frame}
use Rattle.cx_frame.specs.declared.refusals.BannerRefusal.{BannerRefusal}
use Rattle.cx_frame.specs.declared.refusals.FrameRefusal.{FrameRefusal}
use Rattle.cx_journal.specs.declared.faults.BytesFault.{BytesFault}
use Rattle.cx_journal.specs.declared.premises.KeyKind.TheVariants as kind
use Rattle.cx_laws_run.specs.cx_rules.specs.Fronts.{ahead_of, banner_next, banner_read, keys_behind, opened_parts, plain_next, plain_read, sealed_ahead, secure_next, secure_read, taking}
use Rattle.cx_laws_run.specs.cx_rules.specs.Links.{Link}
use Rattle.cx_laws_run.specs.cx_rules.specs.Messages.{on_upkeep_or}
use Rattle.cx_laws_run.specs.cx_rules.specs.Payloads.{due}
use Rattle.cx_laws_run.specs.cx_rules.specs.Rows.{Turned, Waits, Refuses, Handles, at, turned_by, with_opened}
use Rattle.cx_laws_run.specs.cx_rules.specs.Secured.{Keys, under}
use Rattle.cx_laws_run.specs.cx_rules_session.specs.Presenter.{CallArrival, CallRow, CallStage, Caller, AwaitsBanner, AwaitsHello, AwaitsChallenge, AwaitsDone, AwaitsSignature, AwaitsIdent, AwaitsReconnect, Open, on_answer_or_ack, on_banner, on_hello, on_signature, presented, turned_at, while_answered, while_challenged, while_identified, while_reconnecting}
use Rattle.cx_laws_run.specs.cx_sealed.specs.declared.authorize_reply.AuthorizeReply.{AuthorizeReply}
use Rattle.cx_secure.specs.declared.refusals.SecureRefusal.{SecureRefusal}
use Rattle.cx_steps.specs.declared.seals.SealEntry.{SealEntry}
use Rattle.cx_steps.specs.declared.seals.SealEntry.TheVariants as entry
use Rattle.cx_laws_run.specs.cx_stream.specs.Openings.{front_contents}
use Rattle.cx_laws_run.specs.cx_stream.specs.PlainStreams.{plain_frame_at}
use Rattle.cx_laws_run.specs.cx_stream.specs.SecureStreams.{Ahead, secure_frame_at}
use Rattle.cx_laws_run.proofs.cover.CallKnown.{AreHarmless, CallKnown, IsOfDaemon}
use Rattle.cx_laws_run.proofs.cover.CallOpen.{identified-known, open-known, opened-known, reconnecting-known, signature-known}
use Rattle.cx_laws_run.proofs.cover.CallOpening.{IsTicketKey, RowKnown, answered-known, banner-known, challenged-known, hello-known}
use Rattle.cx_laws_run.specs.cx_laws_tickets.proofs.fetch.MonClientFacts.{HasHeard, heard-one, hears-one}
use Rattle.cx_laws_run.specs.cx_laws_tickets.proofs.fetch.Banners.{IsRead, read-banner}
use Rattle.cx_laws_run.specs.cx_laws_tickets.proofs.fetch.WrittenFrames.{due-tag}
use Rattle.cx_laws_run.specs.cx_laws_keys.proofs.keys.Uses.{Uses}

-- what a turn comes to: a row, of which this is known; or a refusal, before which what opened is harmless
abbrev pub TurnKnown : Uses → (CallRow → Type 0) → Turned Caller CallStage → Type 0
TurnKnown us P Waits = Unit {0}
TurnKnown us P (Refuses why opened) = AreHarmless us opened
TurnKnown us P (Handles row) = P row

-- what opens of a secure frame
parts-opened : (us : Uses) (ahead : Ahead) → AreHarmless us (opened_parts ahead)
parts-opened us ahead = over (front_contents ahead)
  where
    over : (contents : List (List ℕ)) → AreHarmless us (map (λ (content : List ℕ). entry.Opened (record { key = ahead.key; kind = kind.Connection; content = content })) contents)
    over [] = tt
    over (content ∷ contents) = (tt, over contents)

module _ (us : Uses) (G : List SealEntry → Type 0) (first : (xs ys : List SealEntry) → G (xs ++ ys) → G xs) (a : CallArrival) where
  -- a row, where what it logs is granted
  abbrev P : CallRow → Type 0
  P row = G row.seals → RowKnown us a.link.number row

  abbrev T : Turned Caller CallStage → Type 0
  T turned = TurnKnown us P turned

  -- the session keys of what is shown, and what opens of a reply
  abbrev pub CallShows : CallStage → Type 0
  CallShows (AwaitsHello called) = IsTicketKey us (presented called a.own.mon_client (challenge_of a.draw)).held.session
  CallShows (AwaitsChallenge callee p) = IsTicketKey us p.held.session
  CallShows (AwaitsDone callee answered) =
      (bytes : List ℕ) (x : AuthorizeReply) → (reply_in answered.session bytes).value ≡ Some x → G (reply_in answered.session bytes).seals → IsOfDaemon us (take 16 x.secret)
  CallShows _ = Unit {0}

  secure-turned : (keys : Keys) (row : Link CallStage × Frame × Keys → List SealEntry → CallRow)
      → ((f : Frame) (n : ℕ) (opened : List SealEntry) → AreHarmless us opened → RowKnown us a.link.number (row (taking a.link n, f, keys_behind keys f) opened)) → T (turned_by row (secure_next keys a.link))
  secure-turned keys row each = by_read (opened_parts (sealed_ahead keys a.link)) (parts-opened us (sealed_ahead keys a.link)) (secure_frame_at (sealed_ahead keys a.link))
    where
      by_read : (opened : List SealEntry) → AreHarmless us opened → (r : Result (Option (Frame × ℕ)) SecureRefusal) → T (turned_by row (secure_read keys a.link opened r))
      by_read opened h (Ok None) = tt
      by_read opened h (Ok (Some (f, n))) = λ g. each f n opened h
      by_read opened h (Err e) = h

  plain-turned : (row : Link CallStage × Frame → List SealEntry → CallRow) → ((f : Frame) (n : ℕ) → plain_frame_at (ahead_of a.link) ≡ Ok (Some (f, n)) → P (row (taking a.link n, f) []))
      → T (turned_by row (plain_next a.link))
  plain-turned row each = by_read (plain_frame_at (ahead_of a.link)) refl
    where
      by_read : (r : Result (Option (Frame × ℕ)) FrameRefusal) → plain_frame_at (ahead_of a.link) ≡ r → T (turned_by row (plain_read a.link r))
      by_read (Ok None) is = tt
      by_read (Ok (Some (f, n))) is = each f n is
      by_read (Err e) is = tt

  banner-turned : (row : Link CallStage → List SealEntry → CallRow) → ((b : Banner) (n : ℕ) → banner_at (ahead_of a.link) ≡ Ok (Some (b, n)) → P (row (taking a.link n) []))
      → T (turned_by row (banner_next a.link))
  banner-turned row each = by_read (banner_at (ahead_of a.link)) refl
    where
      by_read : (r : Result (Option (Banner × ℕ)) BannerRefusal) → banner_at (ahead_of a.link) ≡ r → T (turned_by row (banner_read a.link r))
      by_read (Ok None) is = tt
      by_read (Ok (Some (b, n))) is = each b n is
      by_read (Err e) is = tt

  -- what is known of a link stays known behind its turn
  pub call-turn : (stage : CallStage) → CallKnown us a.link.received a.link.taken stage → CallShows stage → T (turned_at a stage)
  call-turn (AwaitsBanner called) start shows = banner-turned (λ link _. on_banner (at a link) called) (λ b n read g. banner-known us (at a (taking a.link n)) called (heard b n read))
    where
      heard : (b : Banner) (n : ℕ) → banner_at (ahead_of a.link) ≡ Ok (Some (b, n)) → HasHeard a.link.received (a.link.taken + n) []
      heard b n read =
          let none : a.link.taken ≡ 0 = start in
          let here : banner_at a.link.received ≡ Ok (Some (b, n)) = subst (λ (k : ℕ). banner_at (drop k a.link.received) ≡ Ok (Some (b, n))) none read in
          let size : n ≡ a.link.taken + n = omega arith in
          record { frames = []; read = subst (λ (k : ℕ). IsRead a.link.received [] k) size (read-banner a.link.received b n here); tags_are = refl }
  call-turn (AwaitsHello called) known shows = plain-turned (λ (link, f) _. on_hello (at a link) called (due 1 hello_layout.form f)) (λ f n read g. by_hello f n read (due 1 hello_layout.form f) refl)
    where
      by_hello : (f : Frame) (n : ℕ) → plain_frame_at (ahead_of a.link) ≡ Ok (Some (f, n)) → (r : Result Hello BytesFault) → due 1 hello_layout.form f ≡ r
          → RowKnown us a.link.number (on_hello (at a (taking a.link n)) called r)
      by_hello f n read (Err why) is = record { link = tt; harmless = tt }
      by_hello f n read (Ok hello) is =
          let one = hears-one a.link.received a.link.taken [] f n known read in
          hello-known us (at a (taking a.link n)) called shows (heard-one a.link.received (a.link.taken + n) [] f 1 one (due-tag 1 hello_layout.form f hello is)) (Ok hello)
  call-turn (AwaitsChallenge callee p) known shows =
      plain-turned (λ (link, f) _. while_challenged (at a link) callee p f) (λ f n read g.
      challenged-known us (at a (taking a.link n)) callee p shows f
      (λ tag. heard-one a.link.received (a.link.taken + n) (1 ∷ []) f 4 (hears-one a.link.received a.link.taken (1 ∷ []) f n known read) tag))
  call-turn (AwaitsDone callee answered) known shows =
      plain-turned (λ (link, f) _. while_answered (at a link) callee answered f) (λ f n read g.
      answered-known us (at a (taking a.link n)) G first callee answered shows f
      (λ tag. heard-one a.link.received (a.link.taken + n) (1 ∷ 4 ∷ []) f 6 (hears-one a.link.received a.link.taken (1 ∷ 4 ∷ []) f n known read) tag) g)
  call-turn (AwaitsSignature s callee) key shows =
      secure-turned s.keys (λ (link, f, keys) opened. with_opened opened (on_signature (at a link) (under s keys) callee (due 7 auth_signature_layout.form f)))
      (λ f n opened h. opened-known us a.link.number opened _ h
      (signature-known us (under s (keys_behind s.keys f)) callee key (at a (taking a.link n)) (due 7 auth_signature_layout.form f)))
  call-turn (AwaitsIdent s callee cookie) key shows =
      secure-turned s.keys (λ (link, f, keys) opened. with_opened opened (while_identified (at a link) (under s keys) callee cookie f))
      (λ f n opened h. opened-known us a.link.number opened _ h (identified-known us (under s (keys_behind s.keys f)) callee key (at a (taking a.link n)) cookie f))
  call-turn (AwaitsReconnect s callee cookie) key shows =
      secure-turned s.keys (λ (link, f, keys) opened. with_opened opened (while_reconnecting (at a link) (under s keys) callee cookie f))
      (λ f n opened h. opened-known us a.link.number opened _ h (reconnecting-known us (under s (keys_behind s.keys f)) callee key (at a (taking a.link n)) cookie f))
  call-turn (Open s callee cookie) key shows =
      secure-turned s.keys (λ (link, f, keys) opened. with_opened opened
      (on_upkeep_or (on_answer_or_ack (at a link) (under s keys) callee cookie) (at a link) (under s keys) (λ behind. Open behind callee cookie) f))
      (λ f n opened h. opened-known us a.link.number opened _ h (open-known us (under s (keys_behind s.keys f)) callee key (at a (taking a.link n)) cookie f))
