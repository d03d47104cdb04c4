-- What is said of each link to the monitor of one that logs in there: which frames were heard and which were sent on it, the third of these with a
-- challenge of one's own; and when each request for generations was made that waits on it.
use Rattle.std.proofs.Common.{◌≡◌, ◌⊎◌, ◌+◌, ℕ, List, [], ◌∷◌, ◌++◌, drop, map, Option, Some, None, Ok, inl, inr, refl, sym, ap, ◌∙◌, subst, append_assoc}
use Rattle.std.specs.List.{AllByRecursion}
use Rattle.cx_base.specs.declared.kinds.EntityType.{EntityType}
use Rattle.cx_dice.specs.Draws.{challenge_of}
use Rattle.cx_frame.specs.Frames.{frame_text}
use Rattle.cx_frame.specs.declared.frame.Frame.{Frame}
use Rattle.cx_laws_tickets.specs.cx_rules_session.specs.cx_rules.specs.Connector.{Stage, AwaitsBanner, AwaitsHello, AwaitsChallenge, AwaitsDone, AwaitsSignature, AwaitsIdent, Open, kept_open, login_request}
use Rattle.cx_laws_tickets.specs.cx_rules_session.specs.cx_rules.specs.Greetings.{own_banner, own_hello}
use Rattle.cx_laws_tickets.specs.cx_rules_session.specs.cx_rules.specs.Holdings.{MonClient}
use Rattle.cx_laws_tickets.specs.cx_rules_session.specs.cx_rules.specs.Judged.{LogsDraw}
use Rattle.cx_laws_tickets.specs.cx_rules_session.specs.cx_rules.specs.Links.{Link}
use Rattle.cx_laws_tickets.specs.cx_rules_session.specs.cx_rules.specs.Requests.{Requests, behind_request, first_open, later, open_or, taken}
use Rattle.cx_laws_tickets.specs.cx_rules_session.specs.cx_rules.specs.Rows.{piece}
use Rattle.cx_laws_tickets.specs.cx_rules_session.specs.cx_rules.specs.Secured.{Keys, Secured, under}
use Rattle.cx_laws_tickets.specs.cx_rules_session.specs.cx_rules.specs.declared.requests.Waiting.{Waiting}
use Rattle.cx_laws_tickets.specs.cx_rules_session.specs.cx_rules.specs.declared.requests.Want.{Want}
use Rattle.cx_laws_tickets.specs.cx_rules_session.specs.cx_rules.specs.declared.requests.Want.TheVariants.{Tickets, Rotating}
use Rattle.cx_laws_tickets.specs.cx_rules_session.specs.cx_rules.specs.cx_login.specs.Client.{Ask}
use Rattle.cx_laws_tickets.specs.cx_rules_session.specs.cx_rules.specs.cx_steps.specs.declared.effects.Effects.{Effects}
use Rattle.cx_laws_tickets.specs.cx_rules_session.specs.cx_rules.specs.cx_steps.specs.declared.seals.DrawMark.TheVariants as draw
use Rattle.cx_laws_tickets.specs.cx_rules_session.specs.cx_rules.specs.cx_steps.specs.declared.seals.SealEntry.{SealEntry}
use Rattle.cx_laws_keys.specs.cx_stream.specs.PlainStreams.{plain_frame_at}
use Rattle.cx_laws_tickets.specs.cx_laws_keys.proofs.keys.Lists.{all-append, all-map, map-append}
use Rattle.cx_laws_tickets.proofs.fetch.Banners.{IsRead, read-frame, read-grows}
use Rattle.cx_laws_tickets.proofs.fetch.WrittenFrames.{IsWritten, answer_frame, written-first}

-- ---- what was heard

abbrev pub tag_of : Frame → ℕ
tag_of f = f.tag

-- frames of these tags were read, in so many bytes
pub record HasHeard (received : List ℕ) (taken : ℕ) (tags : List ℕ) : Type 0 where
  pub frames : List Frame
  pub read : IsRead received frames taken
  pub tags_are : map tag_of frames ≡ tags

pub heard-grows : (received more : List ℕ) (taken : ℕ) (tags : List ℕ) → HasHeard received taken tags → HasHeard (received ++ more) taken tags
heard-grows received more taken tags h = record { frames = h.frames; read = read-grows received more h.frames taken h.read; tags_are = h.tags_are }

-- one frame more was read, of whatever tag
pub record HearsOne (received : List ℕ) (taken : ℕ) (tags : List ℕ) (f : Frame) : Type 0 where
  pub frames : List Frame
  pub read : IsRead received (frames ++ f ∷ []) taken
  pub tags_are : map tag_of frames ≡ tags

pub hears-one : (received : List ℕ) (taken : ℕ) (tags : List ℕ) (f : Frame) (n : ℕ) → HasHeard received taken tags → plain_frame_at (drop taken received) ≡ Ok (Some (f, n))
    → HearsOne received (taken + n) tags f
hears-one received taken tags f n h read = record { frames = h.frames; read = read-frame received h.frames taken f n h.read read; tags_are = h.tags_are }

pub heard-one : (received : List ℕ) (taken : ℕ) (tags : List ℕ) (f : Frame) (tag : ℕ) → HearsOne received taken tags f → f.tag ≡ tag → HasHeard received taken (tags ++ tag ∷ [])
heard-one received taken tags f tag h is = record {
  frames = h.frames ++ f ∷ [];
  read = h.read;
  tags_are = map-append tag_of h.frames (f ∷ []) ∙ ap (λ (l : List ℕ). l ++ f.tag ∷ []) h.tags_are ∙ ap (λ (t : ℕ). tags ++ t ∷ []) is;
}

-- ---- what was sent

-- HELLO, AUTH_REQUEST, and an AUTH_REQUEST_MORE with a challenge of one's own
pub record HasAnswered (D : ℕ → Frame → Type 0) (bytes : List ℕ) : Type 0 where
  pub kind : EntityType
  pub mon_client : MonClient
  pub ask : Ask
  pub server : ℕ
  pub challenge : ℕ
  pub written : IsWritten bytes (own_hello kind ∷ login_request mon_client ∷ answer_frame ask server challenge ∷ [])
  pub own : D challenge (answer_frame ask server challenge)

-- so it is of what the peer's signature has to cover, which was sent first
pub record Covers (D : ℕ → Frame → Type 0) (sent covered : List ℕ) : Type 0 where
  pub answered : HasAnswered D covered
  pub more : List ℕ
  pub first : sent ≡ covered ++ more

pub covers-more : (D : ℕ → Frame → Type 0) (sent covered bytes : List ℕ) → Covers D sent covered → Covers D (sent ++ bytes) covered
covers-more D sent covered bytes c = record {
  answered = c.answered;
  more = c.more ++ bytes;
  first = ap (λ (l : List ℕ). l ++ bytes) c.first ∙ append_assoc covered c.more bytes;
}

-- ---- what waits

-- a request for generations was made at such a reading
abbrev pub IsAskedAt : (ℕ → Type 0) → Want → Type 0
IsAskedAt A Tickets = Unit {0}
IsAskedAt A (Rotating reading) = A reading

abbrev pub AreAskedAt : (ℕ → Type 0) → List Waiting → Type 0
AreAskedAt A waiting = AllByRecursion (λ (w : Waiting). IsAskedAt A w.want) waiting

asked-map : (A B : ℕ → Type 0) → ((reading : ℕ) → A reading → B reading) → (want : Want) → IsAskedAt A want → IsAskedAt B want
asked-map A B f Tickets h = tt
asked-map A B f (Rotating reading) h = f reading h

pub later-asked : (A : ℕ → Type 0) (waiting : List Waiting) → AreAskedAt A waiting → AreAskedAt A (later waiting)
later-asked A [] h = tt
later-asked A (first ∷ rest) h = h.1

-- ---- a link

-- by its stage, where `D` is said of challenges of one's own, in the frames that have them, and `A` of readings
abbrev pub StageTold : (ℕ → Frame → Type 0) → (ℕ → Type 0) → List ℕ → ℕ → List ℕ → Stage → Type 0
StageTold D A received taken sent (AwaitsBanner asked) = (taken ≡ 0) × IsWritten sent []
StageTold D A received taken sent (AwaitsHello asked) = IsRead received [] taken × ((kind : EntityType) × IsWritten sent (own_hello kind ∷ []))
StageTold D A received taken sent (AwaitsChallenge asked) =
    HasHeard received taken (1 ∷ []) × ((kind : EntityType) × (mon_client : MonClient) × IsWritten sent (own_hello kind ∷ login_request mon_client ∷ []))
StageTold D A received taken sent AwaitsDone = HasHeard received taken (1 ∷ 4 ∷ []) × HasAnswered D sent
StageTold D A received taken sent (AwaitsSignature s login) = HasHeard received taken (1 ∷ 4 ∷ 6 ∷ []) × Covers D sent s.covered
StageTold D A received taken sent (AwaitsIdent s session) = Covers D sent s.covered
StageTold D A received taken sent (Open s requests) = Covers D sent s.covered × AreAskedAt A requests.waiting

-- what came is all that changes
pub told-grows : (D : ℕ → Frame → Type 0) (A : ℕ → Type 0) (received more : List ℕ) (taken : ℕ) (sent : List ℕ) (stage : Stage) → StageTold D A received taken sent stage
    → StageTold D A (received ++ more) taken sent stage
told-grows D A received more taken sent (AwaitsBanner asked) h = h
told-grows D A received more taken sent (AwaitsHello asked) h = (read-grows received more [] taken h.0, h.1)
told-grows D A received more taken sent (AwaitsChallenge asked) h = (heard-grows received more taken (1 ∷ []) h.0, h.1)
told-grows D A received more taken sent AwaitsDone h = (heard-grows received more taken (1 ∷ 4 ∷ []) h.0, h.1)
told-grows D A received more taken sent (AwaitsSignature s login) h = (heard-grows received more taken (1 ∷ 4 ∷ 6 ∷ []) h.0, h.1)
told-grows D A received more taken sent (AwaitsIdent s session) h = h
told-grows D A received more taken sent (Open s requests) h = h

-- what is said of challenges and of readings may be said otherwise
module _ (D E : ℕ → Frame → Type 0) (A B : ℕ → Type 0) (drew : (challenge : ℕ) (f : Frame) → D challenge f → E challenge f) (asking : (reading : ℕ) → A reading → B reading) where
  pub answered-map : (bytes : List ℕ) → HasAnswered D bytes → HasAnswered E bytes
  answered-map bytes h = record {
    kind = h.kind;
    mon_client = h.mon_client;
    ask = h.ask;
    server = h.server;
    challenge = h.challenge;
    written = h.written;
    own = drew h.challenge (answer_frame h.ask h.server h.challenge) h.own;
  }

  covers-map : (sent covered : List ℕ) → Covers D sent covered → Covers E sent covered
  covers-map sent covered c = record { answered = answered-map covered c.answered; more = c.more; first = c.first }

  pub told-map : (received : List ℕ) (taken : ℕ) (sent : List ℕ) (stage : Stage) → StageTold D A received taken sent stage → StageTold E B received taken sent stage
  told-map received taken sent (AwaitsBanner asked) h = h
  told-map received taken sent (AwaitsHello asked) h = h
  told-map received taken sent (AwaitsChallenge asked) h = h
  told-map received taken sent AwaitsDone h = (h.0, answered-map sent h.1)
  told-map received taken sent (AwaitsSignature s login) h = (h.0, covers-map sent s.covered h.1)
  told-map received taken sent (AwaitsIdent s session) h = covers-map sent s.covered h
  told-map received taken sent (Open s requests) h =
      (covers-map sent s.covered h.0, all-map (λ (w : Waiting). IsAskedAt A w.want) (λ (w : Waiting). IsAskedAt B w.want) (λ w. asked-map A B asking w.want) requests.waiting h.1)

-- a link that opens, on which the banner is sent
pub first-told : (D : ℕ → Frame → Type 0) (A : ℕ → Type 0) (asked : ℕ) → StageTold D A [] 0 ([] ++ own_banner) (AwaitsBanner asked)
first-told D A asked = (refl, written-first)

-- ---- behind an event

-- a challenge of one's own; or the one in this draw, which these entries log, in the frame that is sent
abbrev pub Drew : (ℕ → Frame → Type 0) → List ℕ → List SealEntry → List ℕ → ℕ → Frame → Type 0
Drew D block seals bytes challenge f = D challenge f ⊎ ((challenge ≡ challenge_of block) × LogsDraw (draw.Challenge challenge) seals × (bytes ≡ frame_text f))

-- a challenge of one's own on the link of this number; or the one in this draw, which is logged, in the frame that is sent on that link
abbrev pub DrewBehind : (ℕ → ℕ → Frame → Type 0) → List ℕ → Effects → ℕ → ℕ → Frame → Type 0
DrewBehind D block out number challenge f =
    D number challenge f ⊎ ((challenge ≡ challenge_of block) × LogsDraw (draw.Challenge challenge) out.seals × (out.sends ≡ piece number (frame_text f)))

-- a reading of before, or this one
abbrev pub AskedBehind : (ℕ → Type 0) → ℕ → ℕ → Type 0
AskedBehind A now reading = A reading ⊎ (reading ≡ now)

-- a link that is left by a row of the link of this number
pub row-behind : (D : ℕ → ℕ → Frame → Type 0) (A : ℕ → Type 0) (block : List ℕ) (number : ℕ) (out : Effects) (seals : List SealEntry) (bytes : List ℕ) → out.seals ≡ seals
    → out.sends ≡ piece number bytes → (n : ℕ) → n ≡ number → (received : List ℕ) (taken : ℕ) (sent : List ℕ) (stage : Stage)
    → StageTold (Drew (D number) block seals bytes) A received taken sent stage → StageTold (DrewBehind D block out n) A received taken sent stage
row-behind D A block number out seals bytes logged sends n same received taken sent stage h =
    told-map (Drew (D number) block seals bytes) (DrewBehind D block out n) A A by_draw (λ reading r. r) received taken sent stage h
  where
    by_draw : (challenge : ℕ) (f : Frame) → Drew (D number) block seals bytes challenge f → DrewBehind D block out n challenge f
    by_draw challenge f (inl d) = inl (subst (λ (k : ℕ). D k challenge f) (sym same) d)
    by_draw challenge f (inr (drawn, logs, is)) = inr (
      drawn,
      subst (λ (es : List SealEntry). LogsDraw (draw.Challenge challenge) es) (sym logged) logs,
      sends ∙ ap (λ (b : List ℕ). piece number b) is ∙ ap (λ (k : ℕ). piece k (frame_text f)) (sym same),
    )

-- an open link on which a request is sent
pub request-told : (D : ℕ → Frame → Type 0) (A : ℕ → Type 0) (received : List ℕ) (taken : ℕ) (sent bytes : List ℕ) (s : Secured) (keys : Keys) (r : Requests) (want : Want)
    → StageTold D A received taken sent (Open s r) → IsAskedAt A want → StageTold D A received taken (sent ++ bytes) (Open (under s keys) (behind_request r want))
request-told D A received taken sent bytes s keys r want (c, h) here =
    (covers-more D sent s.covered bytes c, all-append (λ (w : Waiting). IsAskedAt A w.want) r.waiting (record { tid = r.count + 1; want = want } ∷ []) h (here, tt))

-- ---- the link on which one asks

some_is : {X : Type 0} (x y : X) → Some x ≡ Some y → x ≡ y
some_is x y e = cc

-- what is found open is one of the links, and keeps what is found
pub found-open : {T : Type 0} (P : Link T → Type 0) (kept_of : T → Option (Secured × Requests)) (links : List (Link T)) (link : Link T) (s : Secured) (r : Requests)
    → first_open kept_of links ≡ Some (link, (s, r)) → AllByRecursion P links → P link × (kept_of link.stage ≡ Some (s, r))
found-open P kept_of [] link s r is h = absurd cc
found-open {T} P kept_of (l ∷ links) link s r is h = by_kept (kept_of l.stage) refl is (λ later. found-open P kept_of links link s r later h.1)
  where
    by_kept : (kept : Option (Secured × Requests)) → kept_of l.stage ≡ kept → open_or l kept (first_open kept_of links) ≡ Some (link, (s, r))
        → (first_open kept_of links ≡ Some (link, (s, r)) → P link × (kept_of link.stage ≡ Some (s, r))) → P link × (kept_of link.stage ≡ Some (s, r))
    by_kept None keeps found rest = rest found
    by_kept (Some kept) keeps found rest =
        let both : (l, kept) ≡ (link, (s, r)) = some_is {X = Link T × (Secured × Requests)} (l, kept) (link, (s, r)) found in
        let same : l ≡ link = ap (λ (x : Link T × (Secured × Requests)). x.0) both in
        let what : kept ≡ (s, r) = ap (λ (x : Link T × (Secured × Requests)). x.1) both in
        (subst P same h.0, ap (λ (k : Link T). kept_of k.stage) (sym same) ∙ keeps ∙ ap (λ (x : Secured × Requests). some_of x) what)
      where
        some_of : Secured × Requests → Option (Secured × Requests)
        some_of x = Some x

-- a stage that keeps keys and requests is the open one
pub kept-is : (stage : Stage) (s : Secured) (r : Requests) → kept_open stage ≡ Some (s, r) → stage ≡ Open s r
kept-is (AwaitsBanner asked) s r e = absurd cc
kept-is (AwaitsHello asked) s r e = absurd cc
kept-is (AwaitsChallenge asked) s r e = absurd cc
kept-is AwaitsDone s r e = absurd cc
kept-is (AwaitsSignature t login) s r e = absurd cc
kept-is (AwaitsIdent t session) s r e = absurd cc
kept-is (Open t q) s r e = ap (λ (x : Secured × Requests). Open x.0 x.1) (some_is {X = Secured × Requests} (t, q) (s, r) e)
