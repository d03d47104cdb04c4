-- A turn of a client's link to a daemon behind authentication: the frame that was read, what its row says, at which frames it goes on, and which answers it enters.
use Rattle.std.proofs.Common.{◌≡◌, ℕ, List, ◌++◌, Option, Some, None, Result, Ok, Err, refl}
use Rattle.cx_base.specs.declared.operations.Operation.{Operation}
use Rattle.cx_control.specs.Auth.{auth_signature_layout}
use Rattle.cx_frame.specs.declared.frame.Frame.{Frame}
use Rattle.cx_laws_links.specs.cx_rules.specs.Fronts.{keys_behind, opened_parts, sealed_ahead, secure_next, secure_read, taking}
use Rattle.cx_laws_links.specs.cx_rules.specs.Links.{Link}
use Rattle.cx_laws_links.specs.cx_rules.specs.Messages.{on_upkeep_or}
use Rattle.cx_laws_links.specs.cx_rules.specs.Payloads.{due}
use Rattle.cx_laws_links.specs.cx_rules.specs.Rows.{at, turned_by, with_opened}
use Rattle.cx_laws_links.specs.cx_rules.specs.Secured.{Keys, Secured, under}
use Rattle.cx_laws_links.specs.cx_rules_session.specs.Presenter.{CallArrival, CallRow, CallStage, AwaitsSignature, AwaitsIdent, AwaitsReconnect, Open, callee_of, on_answer_or_ack, on_signature, turned_at, while_identified, while_reconnecting}
use Rattle.cx_laws_links.specs.cx_run.proofs.Taking.{EachRow}
use Rattle.cx_secure.specs.declared.refusals.SecureRefusal.{SecureRefusal}
use Rattle.cx_steps.specs.declared.seals.SealEntry.{SealEntry}
use Rattle.cx_laws_links.specs.cx_stream.specs.SecureStreams.{secure_frame_at}
use Rattle.cx_laws_links.proofs.links.CallTurn.{IsHeldOn, quiet-opened}
use Rattle.cx_laws_links.proofs.links.CallWords.{Identified, KeyedStage, Opened, Reconnecting, Says, SignedOn, identified-says, open-says, opened-says, reconnecting-says, signature-says}
use Rattle.cx_laws_links.proofs.answers.CallHears.{GoesAt, RowHears, TellsEnd, identified-hears, open-hears, reconnecting-hears, signature-hears}

-- a turn handles the frame that is read, behind what opened of it, under the keys behind it
secure-read : (P : CallRow → Type 0) (keys : Keys) (link : Link CallStage) (row : Link CallStage × Frame × Keys → List SealEntry → CallRow)
    → ((f : Frame) (n : ℕ) → secure_frame_at (sealed_ahead keys link) ≡ Ok (Some (f, n)) → P (row (taking link n, f, keys_behind keys f) (opened_parts (sealed_ahead keys link))))
    → EachRow P (turned_by row (secure_next keys link))
secure-read P keys link row each = by_read (secure_frame_at (sealed_ahead keys link)) refl
  where
    by_read : (r : Result (Option (Frame × ℕ)) SecureRefusal) → secure_frame_at (sealed_ahead keys link) ≡ r
        → EachRow P (turned_by row (secure_read keys link (opened_parts (sealed_ahead keys link)) r))
    by_read (Ok None) e = tt
    by_read (Ok (Some (f, n))) e = each f n e
    by_read (Err why) e = tt

module _ (W : ℕ → ℕ × Operation → Type 0) (a : CallArrival) where
  -- a row that read this frame on the link
  pub record TurnHears (stage : CallStage) (s : Secured) (before : Option ℕ) (row : CallRow) : Type 0 where
    pub frame : Frame
    pub size : ℕ
    pub read : secure_frame_at (sealed_ahead s.keys a.link) ≡ Ok (Some (frame, size))
    pub rest : List SealEntry
    pub opened : row.seals ≡ opened_parts (sealed_ahead s.keys a.link) ++ rest
    pub says : Says W a.link.number (callee_of stage) (under s (keys_behind s.keys frame)) before row
    pub hears : RowHears (GoesAt stage frame.tag) (TellsEnd a.own.mon_client frame stage) row

  behind-opened : (stage : CallStage) (s : Secured) (before : Option ℕ) (f : Frame) (n : ℕ) → secure_frame_at (sealed_ahead s.keys a.link) ≡ Ok (Some (f, n)) → (row : CallRow)
      → Says W a.link.number (callee_of stage) (under s (keys_behind s.keys f)) before row → RowHears (GoesAt stage f.tag) (TellsEnd a.own.mon_client f stage) row
      → TurnHears stage s before (with_opened (opened_parts (sealed_ahead s.keys a.link)) row)
  behind-opened stage s before f n read row says hears = record {
    frame = f;
    size = n;
    read = read;
    rest = row.seals;
    opened = refl;
    says = opened-says W before (callee_of stage) (at a (taking a.link n)) (under s (keys_behind s.keys f)) (opened_parts (sealed_ahead s.keys a.link)) row (quiet-opened (sealed_ahead s.keys a.link)) says;
    hears = record { goes = hears.goes; entries = hears.entries; alone = hears.alone };
  }

  pub keyed-hears : (stage : CallStage) (s : Secured) (before : Option ℕ) → KeyedStage stage s before → IsHeldOn W stage before a → EachRow (TurnHears stage s before) (turned_at a stage)
  keyed-hears _ _ _ (SignedOn s callee) held =
      secure-read (TurnHears (AwaitsSignature s callee) s None) s.keys a.link
      (λ (link, f, keys) opened. with_opened opened (on_signature (at a link) (under s keys) callee (due 7 auth_signature_layout.form f)))
      (λ f n e. behind-opened (AwaitsSignature s callee) s None f n e _
      (signature-says W None (at a (taking a.link n)) (under s (keys_behind s.keys f)) callee (due 7 auth_signature_layout.form f))
      (signature-hears (at a (taking a.link n)) (under s (keys_behind s.keys f)) s callee f))
  keyed-hears _ _ _ (Identified s callee cookie) held =
      secure-read (TurnHears (AwaitsIdent s callee cookie) s (Some cookie)) s.keys a.link
      (λ (link, f, keys) opened. with_opened opened (while_identified (at a link) (under s keys) callee cookie f))
      (λ f n e. behind-opened (AwaitsIdent s callee cookie) s (Some cookie) f n e _
      (identified-says W (Some cookie) (at a (taking a.link n)) (under s (keys_behind s.keys f)) callee cookie refl f)
      (identified-hears (at a (taking a.link n)) (under s (keys_behind s.keys f)) s callee cookie f))
  keyed-hears _ _ _ (Reconnecting s callee cookie) held =
      secure-read (TurnHears (AwaitsReconnect s callee cookie) s (Some cookie)) s.keys a.link
      (λ (link, f, keys) opened. with_opened opened (while_reconnecting (at a link) (under s keys) callee cookie f))
      (λ f n e. behind-opened (AwaitsReconnect s callee cookie) s (Some cookie) f n e _
      (reconnecting-says W (Some cookie) (at a (taking a.link n)) (under s (keys_behind s.keys f)) callee cookie refl held f)
      (reconnecting-hears (at a (taking a.link n)) (under s (keys_behind s.keys f)) s callee cookie f))
  keyed-hears _ _ _ (Opened s callee cookie) held =
      secure-read (TurnHears (Open s callee cookie) s (Some cookie)) s.keys a.link
      (λ (link, f, keys) opened. with_opened opened
      (on_upkeep_or (on_answer_or_ack (at a link) (under s keys) callee cookie) (at a link) (under s keys) (λ behind. Open behind callee cookie) f))
      (λ f n e. behind-opened (Open s callee cookie) s (Some cookie) f n e _
      (open-says W (Some cookie) (at a (taking a.link n)) (under s (keys_behind s.keys f)) callee cookie refl held f)
      (open-hears (at a (taking a.link n)) (under s (keys_behind s.keys f)) s callee cookie f))
