-- What is signed under which keys: under another than the session key of a ticket it says nothing of tickets. One who knows one key alone signs under that; the parts of frames
-- are sealed and not signed, nor is what opens.
use Rattle.std.proofs.Common.{◌≡◌, ℕ, ◌+◌, false, List, [], ◌∷◌, map, Option, Some, None, Result, Ok, Err, inl, inr, ◌⊎◌, refl, sym, subst}
use Rattle.std.specs.List.{AllByRecursion}
use Rattle.cx_base.specs.Names.{Name, is_daemon_type}
use Rattle.cx_base.specs.declared.kinds.EntityType.{EntityType}
use Rattle.cx_base.specs.declared.nodes.NodeName.{NodeName}
use Rattle.cx_frame.specs.Banners.{banner_at}
use Rattle.cx_frame.specs.declared.banner.Banner.{Banner}
use Rattle.cx_frame.specs.declared.frame.Frame.{Frame}
use Rattle.cx_frame.specs.declared.refusals.BannerRefusal.{BannerRefusal}
use Rattle.cx_frame.specs.declared.refusals.FrameRefusal.{FrameRefusal}
use Rattle.cx_journal.specs.declared.entries.Entry.{Entry}
use Rattle.cx_journal.specs.declared.premises.KeyKind.TheVariants as kind
use Rattle.cx_laws_run.specs.cx_laws_tickets.proofs.fetch.Handed.{IsPlain}
use Rattle.cx_laws_run.specs.cx_laws_tickets.proofs.fetch.SameChallenge.{TellsReply}
use Rattle.cx_laws_run.specs.cx_laws_keys.proofs.keys.Known.{IsAllowed}
use Rattle.cx_laws_run.specs.cx_laws_keys.proofs.keys.Uses.{Connected, Means, Secret, Login, Ticketed, Tie, Use, Uses}
use Rattle.cx_laws_run.specs.cx_laws_keys.proofs.series.Frames.{frame-sealed}
use Rattle.cx_laws_run.specs.cx_rules.specs.Fronts.{ahead_of, banner_next, banner_read, keys_behind, opened_parts, plain_next, plain_read, sealed_ahead, secure_next, secure_read, taking}
use Rattle.cx_laws_run.specs.cx_rules.specs.Links.{Link}
use Rattle.cx_laws_run.specs.cx_rules.specs.Rows.{Handles, Refuses, Row, Turned, Waits, turned_by}
use Rattle.cx_laws_run.specs.cx_rules.specs.Secured.{Keys, SealedFrame, part_seals, secure_frame}
use Rattle.cx_laws_run.specs.cx_secure.specs.Plains.{plains}
use Rattle.cx_laws_run.specs.cx_secure.specs.declared.refusals.SecureRefusal.{SecureRefusal}
use Rattle.cx_steps.specs.declared.seals.SealEntry.{SealEntry}
use Rattle.cx_steps.specs.declared.seals.SealEntry.TheVariants as entry
use Rattle.cx_steps.specs.declared.seals.SealMark.{SealMark}
use Rattle.cx_laws_run.specs.cx_stream.specs.Openings.{front_contents}
use Rattle.cx_laws_run.specs.cx_stream.specs.PlainStreams.{plain_frame_at}
use Rattle.cx_laws_run.specs.cx_stream.specs.SecureStreams.{Ahead, secure_frame_at}
use Rattle.cx_laws_run.specs.cx_laws_links.proofs.answers.SameService.{HearsService}
use Rattle.cx_laws_run.specs.cx_laws_links.proofs.answers.Signed.{SignedSo}

-- what a step signs
abbrev pub AllSigned : Uses → List SealEntry → Type 0
AllSigned vs es = AllByRecursion (SignedSo vs) es

-- ---- keys that are for no ticket

abbrev pub IsNoTicket : Use → Type 0
IsNoTicket u = (name : Name) (service : EntityType) → u ≡ Ticketed name service → ⊥

pub link-no_ticket : (at : NodeName) (number : ℕ) (name : Name) (tie : Tie) → IsNoTicket (Connected at number name tie)
link-no_ticket at number name tie = λ other service e. cc

pub secret-no_ticket : (name : Name) → IsNoTicket (Secret name)
secret-no_ticket name = λ other service e. cc

pub login-no_ticket : (name : Name) → IsNoTicket (Login name)
login-no_ticket name = λ other service e. cc

-- one key alone is known, with this use
abbrev pub alone : List ℕ → Use → Uses
alone key u = record { keys = (key, u) ∷ []; saved = [] }

pub alone-is : (key : List ℕ) (u : Use) (other : List ℕ) (v : Use) → Means (alone key u) other v → (key ≡ other) × (u ≡ v)
alone-is key u other v (inl h) = (h.0, h.1)
alone-is key u other v (inr h) = absurd h

module _ (vs : Uses) (one : (k : List ℕ) (u v : Use) → Means vs k u → Means vs k v → u ≡ v) where
  -- what is signed under such a key
  pub under-signed : (u : Use) (key content : List ℕ) → IsNoTicket u → Means vs key u → (name : Name) (service : EntityType) → Means vs key (Ticketed name service) → is_daemon_type name.kind ≡ false
      → HearsService service content ⊎ TellsReply content
  under-signed u key content none means name service m client = absurd (none name service (one key u (Ticketed name service) means m))

  module _ (key : List ℕ) (u : Use) (none : IsNoTicket u) (means : Means vs key u) where
    same-signed : (mark : SealMark) → key ≡ mark.key → SignedSo vs (entry.Signed mark)
    same-signed mark same = under-signed u mark.key mark.content none (subst (λ (k : List ℕ). Means vs k u) same means)

    -- by one who knows it alone
    pub allowed-signed : (J : List Entry) (n : NodeName) (es : List SealEntry) → AllByRecursion (IsAllowed (alone key u) J n) es → AllSigned vs es
    allowed-signed J n [] h = tt
    allowed-signed J n (entry.Signed mark ∷ es) h = (same-signed mark (alone-is key u mark.key h.0.0 h.0.1).0, allowed-signed J n es h.1)
    allowed-signed J n (entry.Sealed mark ∷ es) h = (tt, allowed-signed J n es h.1)
    allowed-signed J n (entry.Opened mark ∷ es) h = (tt, allowed-signed J n es h.1)
    allowed-signed J n (entry.Checked mark ∷ es) h = (tt, allowed-signed J n es h.1)
    allowed-signed J n (entry.Drawn mark ∷ es) h = (tt, allowed-signed J n es h.1)

    pub plain-signed : (es : List SealEntry) → AllByRecursion (IsPlain (alone key u)) es → AllSigned vs es
    plain-signed [] h = tt
    plain-signed (entry.Signed mark ∷ es) h = (by_plain h.0, plain-signed es h.1)
      where
        by_plain : IsPlain (alone key u) (entry.Signed mark) → SignedSo vs (entry.Signed mark)
        by_plain (inl (v, is, off)) = same-signed mark (alone-is key u mark.key v is).0
        by_plain (inr reply) = λ name service m client. inr reply
    plain-signed (entry.Sealed mark ∷ es) h = (tt, plain-signed es h.1)
    plain-signed (entry.Opened mark ∷ es) h = (tt, plain-signed es h.1)
    plain-signed (entry.Checked mark ∷ es) h = (tt, plain-signed es h.1)
    plain-signed (entry.Drawn mark ∷ es) h = (tt, plain-signed es h.1)

-- ---- what is sealed, and what opens

module _ (vs : Uses) where
  part-signed : (key fixed : List ℕ) (counter : ℕ) (parts : List (List ℕ)) → AllSigned vs (part_seals key fixed counter parts)
  part-signed key fixed counter [] = tt
  part-signed key fixed counter (part ∷ parts) = (tt, part-signed key fixed (counter + 1) parts)

  pub frame-signed : (keys : Keys) (f : Frame) (one : SealedFrame) → secure_frame keys f ≡ Ok one → AllSigned vs one.seals
  frame-signed keys f one made =
      subst (λ (x : SealedFrame). AllSigned vs x.seals) (sym (frame-sealed keys f one made).0) (part-signed keys.key keys.out.fixed keys.out.counter (plains f))

  pub parts-signed : (ahead : Ahead) → AllSigned vs (opened_parts ahead)
  parts-signed ahead = over (front_contents ahead)
    where
      over : (contents : List (List ℕ)) → AllSigned vs (map (λ (content : List ℕ). entry.Opened (record { key = ahead.key; kind = kind.Connection; content = content })) contents)
      over [] = tt
      over (content ∷ contents) = (tt, over contents)

  -- ---- a turn

  -- where it refuses, what opened; and its row
  abbrev pub TurnSigns : {Own S : Type 0} → (Row Own S → Type 0) → Turned Own S → Type 0
  TurnSigns P Waits = Unit {0}
  TurnSigns P (Refuses why opened) = AllSigned vs opened
  TurnSigns P (Handles row) = P row

  module _ {Own S : Type 0} (P : Row Own S → Type 0) (link : Link S) where
    pub banner-turn : (row : Link S → List SealEntry → Row Own S) → ((x : Banner) (n : ℕ) → banner_at (ahead_of link) ≡ Ok (Some (x, n)) → P (row (taking link n) []))
        → TurnSigns P (turned_by row (banner_next link))
    banner-turn row each = by_read (banner_at (ahead_of link)) refl
      where
        by_read : (r : Result (Option (Banner × ℕ)) BannerRefusal) → banner_at (ahead_of link) ≡ r → TurnSigns P (turned_by row (banner_read link r))
        by_read (Ok None) e = tt
        by_read (Ok (Some (x, n))) e = each x n e
        by_read (Err why) e = tt

    pub plain-turn : (row : Link S × Frame → List SealEntry → Row Own S) → ((f : Frame) (n : ℕ) → plain_frame_at (ahead_of link) ≡ Ok (Some (f, n)) → P (row (taking link n, f) []))
        → TurnSigns P (turned_by row (plain_next link))
    plain-turn row each = by_read (plain_frame_at (ahead_of link)) refl
      where
        by_read : (r : Result (Option (Frame × ℕ)) FrameRefusal) → plain_frame_at (ahead_of link) ≡ r → TurnSigns P (turned_by row (plain_read link r))
        by_read (Ok None) e = tt
        by_read (Ok (Some (f, n))) e = each f n e
        by_read (Err why) e = tt

    pub secure-turn : (keys : Keys) (row : Link S × Frame × Keys → List SealEntry → Row Own S)
        → ((f : Frame) (n : ℕ) → P (row (taking link n, f, keys_behind keys f) (opened_parts (sealed_ahead keys link)))) → TurnSigns P (turned_by row (secure_next keys link))
    secure-turn keys row each = by_read (secure_frame_at (sealed_ahead keys link))
      where
        by_read : (r : Result (Option (Frame × ℕ)) SecureRefusal) → TurnSigns P (turned_by row (secure_read keys link (opened_parts (sealed_ahead keys link)) r))
        by_read (Ok None) = tt
        by_read (Ok (Some (f, n))) = each f n
        by_read (Err why) = parts-signed (sealed_ahead keys link)
