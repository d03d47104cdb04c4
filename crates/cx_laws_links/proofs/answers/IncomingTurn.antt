-- A turn of an incoming link behind authentication: what its row gives, behind what opened of the frame that was read, under the keys behind that.
use Rattle.std.proofs.Common.{◌≡◌, ℕ, List, [], ◌∷◌, ◌++◌, map, Option, Some, Ok, refl}
use Rattle.cx_desk.specs.Handlers.{Handlers}
use Rattle.cx_frame.specs.declared.frame.Frame.{Frame}
use Rattle.cx_journal.specs.declared.entries.Entry.{Entry}
use Rattle.cx_journal.specs.declared.premises.KeyKind.TheVariants as kind
use Rattle.cx_laws_links.proofs.answers.Given.{Given}
use Rattle.cx_laws_links.proofs.answers.IncomingGives.{AlwaysGives, IdentGives, OpenGives, RowGives, SignedGives, TurnedGives, ident-gives, open-gives, opened-gives, signature-gives}
use Rattle.cx_laws_links.proofs.links.CallWords.{AreQuiet}
use Rattle.cx_laws_links.specs.cx_rules.specs.Acceptor.{AwaitsBanner, AwaitsHello, AwaitsRequest, AwaitsProof, AwaitsSignature, AwaitsIdent, Open}
use Rattle.cx_laws_links.specs.cx_rules.specs.Fronts.{keys_behind, opened_parts, sealed_ahead, taking}
use Rattle.cx_laws_links.specs.cx_rules.specs.Holdings.{MonClient}
use Rattle.cx_laws_links.specs.cx_rules.specs.Links.{Link}
use Rattle.cx_laws_links.specs.cx_rules.specs.Rows.{Turned, Waits, Refuses, Handles, at, with_opened}
use Rattle.cx_laws_links.specs.cx_rules.specs.Secured.{Secured, under}
use Rattle.cx_laws_links.specs.cx_rules_session.specs.IncomingLinks.{IncomingArrival, IncomingRow, IncomingStage}
use Rattle.cx_laws_links.specs.cx_rules_session.specs.Hosting.{Deciding, Hosted, incoming_turned}
use Rattle.cx_laws_links.specs.cx_run.proofs.Always.{Always, always-weaker, TurnOf, always-unit, turn-weaker}
use Rattle.cx_laws_links.specs.cx_run.proofs.IncomingWalk.{ClosesTurn, incoming-turn}
use Rattle.cx_laws_links.specs.cx_stream.specs.Openings.{front_contents}
use Rattle.cx_laws_links.specs.cx_stream.specs.SecureStreams.{Ahead, secure_frame_at}
use Rattle.cx_steps.specs.declared.seals.SealEntry.{SealEntry}
use Rattle.cx_steps.specs.declared.seals.SealEntry.TheVariants as entry

-- what opens is quiet
quiet-opened : (ahead : Ahead) → AreQuiet (opened_parts ahead)
quiet-opened ahead = over (front_contents ahead)
  where
    over : (contents : List (List ℕ)) → AreQuiet (map (λ (content : List ℕ). entry.Opened (record { key = ahead.key; kind = kind.Connection; content = content })) contents)
    over [] = tt
    over (content ∷ contents) = (tt, over contents)

abbrev pub Said : Type 1
Said = Frame → List Given → List Entry → Option (Link IncomingStage) → Type 0

-- a row that read this frame on a link, and gives some words under the keys behind it
pub record TurnGives (P : Said) (link : Link IncomingStage) (s : Secured) (row : IncomingRow) : Type 0 where
  pub frame : Frame
  pub size : ℕ
  pub read : secure_frame_at (sealed_ahead s.keys link) ≡ Ok (Some (frame, size))
  pub rest : List SealEntry
  pub opened : row.seals ≡ opened_parts (sealed_ahead s.keys link) ++ rest
  pub gives : RowGives (P frame) link.number (under s (keys_behind s.keys frame)) row

abbrev pub EachGives : Said → Link IncomingStage → Secured → Turned MonClient IncomingStage → Type 0
EachGives P link s Waits = Unit {0}
EachGives P link s (Refuses why opened) = AreQuiet opened
EachGives P link s (Handles row) = TurnGives P link s row

module _ (P : Said) (a : IncomingArrival) (s : Secured) where
  turn-row : (f : Frame) (m : ℕ) → secure_frame_at (sealed_ahead s.keys a.link) ≡ Ok (Some (f, m)) → (row : IncomingRow) → RowGives (P f) a.link.number (under s (keys_behind s.keys f)) row
      → TurnGives P a.link s (with_opened (opened_parts (sealed_ahead s.keys a.link)) row)
  turn-row f m read row h = record {
    frame = f;
    size = m;
    read = read;
    rest = row.seals;
    opened = refl;
    gives = opened-gives (P f) (at a (taking a.link m)) (under s (keys_behind s.keys f)) (opened_parts (sealed_ahead s.keys a.link)) row (quiet-opened (sealed_ahead s.keys a.link)) h;
  }

  behind-rule : (f : Frame) (m : ℕ) → secure_frame_at (sealed_ahead s.keys a.link) ≡ Ok (Some (f, m)) → (rule : Deciding Hosted)
      → AlwaysGives (P f) a.link.number (under s (keys_behind s.keys f)) rule
      → Always (λ (h : Hosted). TurnOf AreQuiet (λ (row : IncomingRow). TurnGives P a.link s (with_opened (opened_parts (sealed_ahead s.keys a.link)) row)) h.turned) rule
  behind-rule f m read rule =
      always-weaker (λ (h : Hosted). TurnedGives (P f) a.link.number (under s (keys_behind s.keys f)) h.turned)
      (λ (h : Hosted). TurnOf AreQuiet (λ (row : IncomingRow). TurnGives P a.link s (with_opened (opened_parts (sealed_ahead s.keys a.link)) row)) h.turned)
      (λ h. turn-weaker AreQuiet (RowGives (P f) a.link.number (under s (keys_behind s.keys f)))
      (λ (row : IncomingRow). TurnGives P a.link s (with_opened (opened_parts (sealed_ahead s.keys a.link)) row)) (turn-row f m read) h.turned) rule

  each-of : (turned : Turned MonClient IncomingStage) → TurnOf AreQuiet (TurnGives P a.link s) turned → EachGives P a.link s turned
  each-of Waits h = tt
  each-of (Refuses why opened) h = h
  each-of (Handles row) h = h

  keyed-gives : (handlers : Handlers) (stage : IncomingStage) → ClosesTurn handlers a AreQuiet (TurnGives P a.link s) stage
      → Always (λ (h : Hosted). EachGives P a.link s h.turned) (incoming_turned handlers a stage)
  keyed-gives handlers stage closes =
      always-weaker (λ (h : Hosted). TurnOf AreQuiet (TurnGives P a.link s) h.turned) (λ (h : Hosted). EachGives P a.link s h.turned) (λ h. each-of h.turned) (incoming_turned handlers a stage)
      (incoming-turn handlers a AreQuiet (TurnGives P a.link s) tt (λ keys. quiet-opened (sealed_ahead keys a.link)) stage closes)

-- by the stage of the link
abbrev pub GivesAt : IncomingArrival → IncomingStage → Hosted → Type 0
GivesAt a (AwaitsSignature s owner) h = EachGives (SignedGives owner) a.link s h.turned
GivesAt a (AwaitsIdent s owner) h = EachGives (IdentGives owner) a.link s h.turned
GivesAt a (Open s served) h = EachGives (OpenGives a.own.name served) a.link s h.turned
GivesAt a stage h = Unit {0}

pub incoming-gives : (handlers : Handlers) (a : IncomingArrival) (stage : IncomingStage) → Always (GivesAt a stage) (incoming_turned handlers a stage)
incoming-gives handlers a (AwaitsSignature s owner) =
    keyed-gives (SignedGives owner) a s handlers (AwaitsSignature s owner)
    (λ f m is. turn-row (SignedGives owner) a s f m is.read _ (signature-gives (at a (taking a.link m)) (under s (keys_behind s.keys f)) owner f))
incoming-gives handlers a (AwaitsIdent s owner) =
    keyed-gives (IdentGives owner) a s handlers (AwaitsIdent s owner)
    (λ f m is. behind-rule (IdentGives owner) a s f m is.read _ (ident-gives (at a (taking a.link m)) (under s (keys_behind s.keys f)) owner f))
incoming-gives handlers a (Open s served) =
    keyed-gives (OpenGives a.own.name served) a s handlers (Open s served)
    (λ f m is. behind-rule (OpenGives a.own.name served) a s f m is.read _ (open-gives handlers (at a (taking a.link m)) (under s (keys_behind s.keys f)) served f))
incoming-gives handlers a AwaitsBanner = always-unit (incoming_turned handlers a AwaitsBanner)
incoming-gives handlers a AwaitsHello = always-unit (incoming_turned handlers a AwaitsHello)
incoming-gives handlers a AwaitsRequest = always-unit (incoming_turned handlers a AwaitsRequest)
incoming-gives handlers a (AwaitsProof awaited) = always-unit (incoming_turned handlers a (AwaitsProof awaited))
