-- A turn of a client's link to a daemon behind authentication: what its row says, behind what opened.
use Rattle.std.proofs.Common.{◌≡◌, ℕ, List, [], ◌∷◌, map, Option, Some, None, Result, Ok, Err, refl}
use Rattle.std.specs.List.{AllByRecursion}
use Rattle.cx_base.specs.Names.{Name}
use Rattle.cx_base.specs.declared.operations.Operation.{Operation}
use Rattle.cx_control.specs.Auth.{auth_signature_layout}
use Rattle.cx_frame.specs.declared.frame.Frame.{Frame}
use Rattle.cx_journal.specs.declared.premises.KeyKind.TheVariants as kind
use Rattle.cx_laws_keys.proofs.keys.Uses.{Uses}
use Rattle.cx_laws_keys.specs.cx_rules.specs.Fronts.{keys_behind, opened_parts, sealed_ahead, secure_next, secure_read, taking}
use Rattle.cx_laws_keys.specs.cx_rules.specs.Links.{Link}
use Rattle.cx_laws_keys.specs.cx_rules.specs.Messages.{on_upkeep_or}
use Rattle.cx_laws_keys.specs.cx_rules.specs.Payloads.{due}
use Rattle.cx_laws_keys.specs.cx_rules.specs.Rows.{at, turned_by, with_opened}
use Rattle.cx_laws_keys.specs.cx_rules.specs.Secured.{Keys, Secured, under}
use Rattle.cx_laws_tickets.specs.cx_run.specs.cx_rules_session.specs.Presenter.{CallArrival, CallRow, CallStage, AwaitsSignature, AwaitsIdent, AwaitsReconnect, Open, callee_of, on_answer_or_ack, on_signature, turned_at, while_identified, while_reconnecting}
use Rattle.cx_laws_tickets.specs.cx_run.specs.cx_rules_session.specs.Sessions.{Callee}
use Rattle.cx_laws_tickets.specs.cx_run.proofs.Taking.{EachRow}
use Rattle.cx_secure.specs.declared.refusals.SecureRefusal.{SecureRefusal}
use Rattle.cx_steps.specs.declared.seals.Logged.{Logged}
use Rattle.cx_steps.specs.declared.seals.SealEntry.{SealEntry}
use Rattle.cx_steps.specs.declared.seals.SealEntry.TheVariants as entry
use Rattle.cx_laws_keys.specs.cx_stream.specs.Openings.{front_contents}
use Rattle.cx_laws_keys.specs.cx_stream.specs.SecureStreams.{Ahead, secure_frame_at}
use Rattle.cx_laws_links.proofs.links.CallWords.{AreQuiet, Identified, IsHeldHere, KeyedStage, Opened, Reconnecting, Says, SignedOn, identified-says, open-says, opened-says, reconnecting-says, signature-says}
use Rattle.cx_laws_links.proofs.links.Known.{IsKeyed, Told}

-- what opens is quiet
pub quiet-opened : (ahead : Ahead) → AreQuiet (opened_parts ahead)
quiet-opened ahead = over (front_contents ahead)
  where
    over : (contents : List (List ℕ)) → AreQuiet (map (λ (content : List ℕ). entry.Opened (record { key = ahead.key; kind = kind.Connection; content = content })) contents)
    over [] = tt
    over (content ∷ contents) = (tt, over contents)

-- a turn handles the frame that is read, behind what opened of it, under the keys behind it
pub secure-turned : (P : CallRow → Type 0) (keys : Keys) (link : Link CallStage) (row : Link CallStage × Frame × Keys → List SealEntry → CallRow)
    → ((f : Frame) (n : ℕ) → P (row (taking link n, f, keys_behind keys f) (opened_parts (sealed_ahead keys link)))) → EachRow P (turned_by row (secure_next keys link))
secure-turned P keys link row each = by_read (secure_frame_at (sealed_ahead keys link))
  where
    by_read : (r : Result (Option (Frame × ℕ)) SecureRefusal) → EachRow P (turned_by row (secure_read keys link (opened_parts (sealed_ahead keys link)) r))
    by_read (Ok None) = tt
    by_read (Ok (Some (f, n))) = each f n
    by_read (Err e) = tt

-- the keys of a link behind a frame that it took are those with which it sends
pub keyed-behind : (us : Uses) (told : Told) (log : List Logged) (name : Name) (number : ℕ) (s : Secured) (f : Frame) (cookie : Option ℕ) → IsKeyed us told log name number s cookie
    → IsKeyed us told log name number (under s (keys_behind s.keys f)) cookie
keyed-behind us told log name number s f cookie h = record {
  nonce = h.nonce;
  low = h.low;
  is = h.is;
  stands = h.stands;
  parts = record { sealed = h.parts.sealed; counter = h.parts.counter };
  connector = h.connector;
  four = h.four;
  fits = h.fits;
  session = h.session;
}

module _ (W : ℕ → ℕ × Operation → Type 0) where
  -- a row that says some words under the keys behind a frame that was taken
  pub record TurnSays (number : ℕ) (s : Secured) (callee : Callee) (before : Option ℕ) (row : CallRow) : Type 0 where
    pub frame : Frame
    pub says : Says W number callee (under s (keys_behind s.keys frame)) before row

  -- on a link that takes a session up, or has it open, the session that is held is the one that was spoken of last
  abbrev pub IsHeldOn : CallStage → Option ℕ → CallArrival → Type 0
  IsHeldOn (AwaitsReconnect s callee cookie) before a = IsHeldHere W before a.own.session
  IsHeldOn (Open s callee cookie) before a = IsHeldHere W before a.own.session
  IsHeldOn stage before a = Unit {0}

  pub keyed-turn : (a : CallArrival) (stage : CallStage) (s : Secured) (before : Option ℕ) → KeyedStage stage s before → IsHeldOn stage before a
      → EachRow (TurnSays a.link.number s (callee_of stage) before) (turned_at a stage)
  keyed-turn a _ _ _ (SignedOn s callee) held =
      secure-turned (TurnSays a.link.number s callee None) s.keys a.link
      (λ (link, f, keys) opened. with_opened opened (on_signature (at a link) (under s keys) callee (due 7 auth_signature_layout.form f)))
      (λ f n. record {
        frame = f;
        says = opened-says W None callee (at a (taking a.link n)) (under s (keys_behind s.keys f)) (opened_parts (sealed_ahead s.keys a.link)) _ (quiet-opened (sealed_ahead s.keys a.link))
            (signature-says W None (at a (taking a.link n)) (under s (keys_behind s.keys f)) callee (due 7 auth_signature_layout.form f));
      })
  keyed-turn a _ _ _ (Identified s callee cookie) held =
      secure-turned (TurnSays a.link.number s callee (Some cookie)) s.keys a.link
      (λ (link, f, keys) opened. with_opened opened (while_identified (at a link) (under s keys) callee cookie f))
      (λ f n. record {
        frame = f;
        says = opened-says W (Some cookie) callee (at a (taking a.link n)) (under s (keys_behind s.keys f)) (opened_parts (sealed_ahead s.keys a.link)) _ (quiet-opened (sealed_ahead s.keys a.link))
            (identified-says W (Some cookie) (at a (taking a.link n)) (under s (keys_behind s.keys f)) callee cookie refl f);
      })
  keyed-turn a _ _ _ (Reconnecting s callee cookie) held =
      secure-turned (TurnSays a.link.number s callee (Some cookie)) s.keys a.link
      (λ (link, f, keys) opened. with_opened opened (while_reconnecting (at a link) (under s keys) callee cookie f))
      (λ f n. record {
        frame = f;
        says = opened-says W (Some cookie) callee (at a (taking a.link n)) (under s (keys_behind s.keys f)) (opened_parts (sealed_ahead s.keys a.link)) _ (quiet-opened (sealed_ahead s.keys a.link))
            (reconnecting-says W (Some cookie) (at a (taking a.link n)) (under s (keys_behind s.keys f)) callee cookie refl held f);
      })
  keyed-turn a _ _ _ (Opened s callee cookie) held =
      secure-turned (TurnSays a.link.number s callee (Some cookie)) s.keys a.link
      (λ (link, f, keys) opened. with_opened opened
      (on_upkeep_or (on_answer_or_ack (at a link) (under s keys) callee cookie) (at a link) (under s keys) (λ behind. Open behind callee cookie) f))
      (λ f n. record {
        frame = f;
        says = opened-says W (Some cookie) callee (at a (taking a.link n)) (under s (keys_behind s.keys f)) (opened_parts (sealed_ahead s.keys a.link)) _ (quiet-opened (sealed_ahead s.keys a.link))
            (open-says W (Some cookie) (at a (taking a.link n)) (under s (keys_behind s.keys f)) callee cookie refl held f);
      })
