-- A turn of an open link of the monitor keeps all that is known: what it reads of an entity that didn't leak is what that said next, and what it says is sealed
-- next under the link's key, a reply under the number of the request that it has just taken.
use Rattle.std.proofs.Common.{◌≡◌, ◌≤◌, ◌<◌, ◌+◌, ◌^◌, ℕ, Bool, List, [], ◌∷◌, ◌++◌, length, Option, Some, None, Ok, inl, inr, refl, sym, ap, ◌∙◌, subst, arith}
use Rattle.std.specs.Prelude.{Contains, IfSome}
use Rattle.cx_base.specs.Names.{Name}
use Rattle.cx_base.specs.declared.nodes.NodeName.{NodeName}
use Rattle.cx_base.specs.declared.nodes.NodeName.TheVariants as node
use Rattle.cx_frame.specs.Frames.{total}
use Rattle.cx_frame.specs.declared.frame.Frame.{Frame}
use Rattle.cx_journal.specs.declared.entries.Entry.{Entry}
use Rattle.cx_laws_tickets.specs.cx_laws_keys.proofs.keys.Known.{Inv}
use Rattle.cx_laws_tickets.specs.cx_laws_keys.proofs.keys.Premises.{AreGranted, behind, behind-append}
use Rattle.cx_laws_tickets.specs.cx_laws_keys.proofs.keys.Uses.{AtMonitor, Connected, Grows, Means, Use, Uses, WholeRun}
use Rattle.cx_laws_keys.proofs.series.Contents.{contents_by}
use Rattle.cx_laws_keys.proofs.series.Frames.{frame-sealed}
use Rattle.cx_laws_keys.specs.cx_rules.specs.Fronts.{keys_behind, opened_parts, sealed_ahead}
use Rattle.cx_laws_keys.specs.cx_rules.specs.Links.{Link}
use Rattle.cx_laws_keys.specs.cx_rules.specs.Monitor.{MonitorRow, MonitorStage}
use Rattle.cx_laws_keys.specs.cx_rules.specs.Secured.{SealedFrame, Secured, sealed_under, secure_frame, under}
use Rattle.cx_secure.specs.Plains.{plains}
use Rattle.cx_steps.specs.declared.seals.Logged.{Logged}
use Rattle.cx_steps.specs.declared.seals.SealEntry.{SealEntry}
use Rattle.cx_laws_keys.specs.cx_stream.specs.SecureStreams.{secure_frame_at}
use Rattle.cx_laws_tickets.proofs.fetch.AskedKnown.{AreAnswers, AreSaid, AreTold, Events, HasTaken, IsBearing, IsLoginKey, IsSilent, IsTrueAsked, IsTrueGiven, MoreEvents, Told}
use Rattle.cx_laws_tickets.proofs.fetch.AskedLifting.{login-grows, said-holds, said-more, said-stays, silent-stays}
use Rattle.cx_laws_tickets.proofs.fetch.AskedMoving.{GivesMore, GivesUnder, Moved, Quiets, answers-append, asked-more, given-more, later-stays}
use Rattle.cx_laws_tickets.proofs.fetch.AskedTaking.{TakesWord, none-excepted, takes-word}
use Rattle.cx_laws_tickets.proofs.fetch.AskedWords.{Given, asked-shaped, asked_frame, given_frame}
use Rattle.cx_laws_tickets.proofs.fetch.Later.{HasLater, IsLaterSeries, IsNextFrame, acceptors-apart, exact-series, next-frame, of_acceptor, of_connector}
use Rattle.cx_laws_tickets.proofs.fetch.RowWords.{AreStill, RowSays, by-append}
use Rattle.cx_laws_tickets.proofs.fetch.Words.{parts-one, parts_of, said-here, said_under, saying}

-- the keys of logins
abbrev pub IsAnyLogin : Uses → List ℕ → Type 0
IsAnyLogin us key = (name : Name) × (challenge : ℕ) × IsLoginKey us key name challenge

-- what is so behind a step of a link of the monitor that was this entity's: all is known, with what it said; and so is the link, where it goes on
pub record MonitorMoves (Kept : Option Given → Secured → Link MonitorStage → Type 0) (run : WholeRun) (F : Events) (vs : Uses) (told : Told) (later : List Logged) (number : ℕ) (name : Name)
    (key : List ℕ) (row : MonitorRow) : Type 0 where
  pub next : Told
  pub moved : Moved told next
  pub only : GivesUnder moved key
  pub known : AreTold run F vs next later
  pub link : IfSome row.link (λ (l : Link MonitorStage). (word : Option Given) × (u : Secured) × Kept word u l × IsBearing run vs next later number u name)

pub if-some : {X : Type 0} (P Q : X → Type 0) (o : Option X) → ((x : X) → P x → Q x) → IfSome o P → IfSome o Q
if-some P Q None g h = tt
if-some P Q (Some x) g h = g x h

pub both-none : (key : List ℕ) (test : List ℕ → Bool) (xs ys : List SealEntry) → contents_by key test xs ≡ [] → contents_by key test ys ≡ [] → contents_by key test (xs ++ ys) ≡ []
both-none key test xs ys h g = by-append key test xs ys ∙ ap (λ (l : List (List ℕ)). l ++ contents_by key test ys) h ∙ g

module _ (run : WholeRun) (whole : List Logged) (us vs : Uses) (log : List Logged) (J : List Entry) (n : NodeName) (line : ℕ)
    (one : (k : List ℕ) (u v : Use) → Means vs k u → Means vs k v → u ≡ v) (f : Grows us vs) (i : Inv run whole us log J) (E F : Events) (more : MoreEvents E F) (told : Told)
    (t : AreTold run E us told log) (number : ℕ) (name : Name) (s : Secured) (b : IsBearing run us told log number s name) where
  abbrev pub is-login : IsLoginKey us s.keys.key name b.challenge
  is-login = record { number = number; means = b.means }

  -- ---- what is taken

  -- the frame that is read, of an entity that didn't leak, is what that said next
  pub bearer-takes : {Stage : Type 0} → (Contains run.leaked name → ⊥) → (link : Link Stage) (g : Frame) (m : ℕ)
      → AreGranted run.leaked whole n line log (opened_parts (sealed_ahead s.keys link)) → secure_frame_at (sealed_ahead s.keys link) ≡ Ok (Some (g, m))
      → TakesWord asked_frame asked-shaped of_connector (IsTrueAsked E) us told.asked log t.asked s.keys.key name b.challenge is-login g (keys_behind s.keys g).into.counter
  bearer-takes free link g m granted read =
      takes-word asked_frame asked-shaped of_connector (IsTrueAsked E) us told.asked log t.asked s.keys.key name b.challenge is-login run whole n line
      (none-excepted run whole us log J node.Monitor n s.keys.key number name (AtMonitor b.challenge) i b.means free) s.keys refl b.into (b.taken free) link g m granted read

  -- ---- what is said

  module _ (g : Frame) (Kept : Option Given → Secured → Link MonitorStage → Type 0) (Tells : Given → Type 0) (row : MonitorRow)
      (taken : (Contains run.leaked name → ⊥) → HasTaken asked_frame (said_under s.keys.key told.asked) (keys_behind s.keys g).into.counter)
      (answered : (Contains run.leaked name → ⊥) → (word : Given) → Tells word → secure_frame (keys_behind s.keys g) (given_frame word) ≡ Ok (sealed_under (keys_behind s.keys g) (given_frame word))
      → AreAnswers F name (said_under s.keys.key told.asked) (word ∷ [])) where
    abbrev k : Secured
    k = under s (keys_behind s.keys g)

    abbrev key : List ℕ
    key = s.keys.key

    abbrev later : List Logged
    later = behind n line row.seals log

    abbrev said : List Given
    said = said_under key told.given

    abbrev parts : List (List ℕ)
    parts = parts_of given_frame said

    there : IsAnyLogin vs key
    there = (name, b.challenge, login-grows us vs key name b.challenge f is-login)

    -- one that logs in says nothing by it
    asked-known : ((other : List ℕ) → IsAnyLogin vs other → contents_by other of_connector row.seals ≡ [])
        → AreSaid asked_frame of_connector (IsTrueAsked F) vs told.asked later
    asked-known none =
        said-stays asked_frame of_connector run whole us vs log J n line row.seals one f i (IsTrueAsked E) (IsTrueAsked F) told.asked t.asked (λ other whose c is. none other (whose, c, is))
        (asked-more E F more)

    unsaid-known : ((other : List ℕ) → IsAnyLogin vs other → contents_by other of_connector row.seals ≡ []) → IsSilent of_connector vs told.asked later
    unsaid-known none =
        silent-stays asked_frame of_connector run whole us vs log J n line row.seals one f i (IsTrueAsked E) (IsTrueAsked F) told.asked t.asked t.unsaid
        (λ other whose c is. none other (whose, c, is))

    quiet-known : AreStill (IsAnyLogin vs) row.seals → AreTold run F vs told later
    quiet-known still = record {
      asked = asked-known (λ other is. still other of_connector is);
      given = said-stays given_frame of_acceptor run whole us vs log J n line row.seals one f i (IsTrueGiven run E told.asked) (IsTrueGiven run F told.asked) told.given t.given
          (λ other whose c is. still other of_acceptor (whose, c, is)) (given-more run E F more told.asked);
      unsaid = unsaid-known (λ other is. still other of_connector is);
    }

    quiet-bearing : AreStill (IsAnyLogin vs) row.seals → IsBearing run vs told later number k name
    quiet-bearing still = record {
      challenge = b.challenge;
      means = f.means key (Connected node.Monitor number name (AtMonitor b.challenge)) b.means;
      parts = let h = later-stays of_acceptor s.keys parts n line row.seals log (still key of_acceptor there) b.parts in record { sealed = h.sealed; counter = h.counter };
      out = b.out;
      into = b.into;
      fits = b.fits;
      taken = taken;
    }

    -- one word
    module _ (word : Given) (tells : Tells word) (before : List SealEntry) (still : AreStill (IsAnyLogin vs) before) (low : k.keys.out.counter + length (plains (given_frame word)) < 2 ^ 64)
        (fits : total (given_frame word) ≤ 1048576) (made : secure_frame k.keys (given_frame word) ≡ Ok (sealed_under k.keys (given_frame word)))
        (seals : row.seals ≡ before ++ (sealed_under k.keys (given_frame word)).seals) where
      abbrev sealed : SealedFrame
      sealed = sealed_under k.keys (given_frame word)

      abbrev next : Told
      next = record told { given = saying told.given key word }

      next-parts : IsNextFrame of_acceptor k.keys (given_frame word) sealed
      next-parts = next-frame of_acceptor k.keys (given_frame word) sealed b.out made

      later-is : later ≡ behind n line sealed.seals (behind n line before log)
      later-is = ap (λ (es : List SealEntry). behind n line es log) seals ∙ behind-append n line before sealed.seals log

      parts-behind : HasLater of_acceptor sealed.keys (parts ++ plains (given_frame word)) later
      parts-behind =
          let h = later-stays of_acceptor s.keys parts n line before log (still key of_acceptor there) b.parts in
          subst (λ (l : List Logged). HasLater of_acceptor sealed.keys (parts ++ plains (given_frame word)) l) (sym later-is)
          (next-parts.parts parts n line (behind n line before log) (record { sealed = h.sealed; counter = h.counter }))

      one-more : HasLater of_acceptor sealed.keys (parts_of given_frame (said ++ word ∷ [])) later
      one-more = subst (λ (ps : List (List ℕ)). HasLater of_acceptor sealed.keys ps later) (sym (parts-one given_frame said word)) parts-behind

      series : IsLaterSeries of_acceptor later key (parts_of given_frame (said ++ word ∷ []))
      series = exact-series of_acceptor later key s.keys.out.fixed (parts_of given_frame (said ++ word ∷ [])) b.out one-more.sealed (omega (arith, one-more.counter, low))

      so-far : IsTrueGiven run E told.asked key name b.challenge said
      so-far =
          said-holds given_frame of_acceptor run whole us vs log J n line row.seals one f i (IsTrueGiven run E told.asked) (IsTrueGiven run F told.asked) told.given t.given key name b.challenge is-login
          (λ free. tt)

      connector-none : (other : List ℕ) → IsAnyLogin vs other → contents_by other of_connector row.seals ≡ []
      connector-none other is =
          ap (λ (es : List SealEntry). contents_by other of_connector es) seals
          ∙ both-none other of_connector before sealed.seals (still other of_connector is) (next-parts.apart other of_connector (acceptors-apart s.keys.out.fixed b.out))

      word-known : AreTold run F vs next later
      word-known = record {
        asked = asked-known connector-none;
        given = said-more given_frame of_acceptor run whole us vs log J n line row.seals one f i (IsTrueGiven run E told.asked) (IsTrueGiven run F told.asked) told.given t.given key name b.challenge
            is-login word series fits
            (λ other whose c is apart. ap (λ (es : List SealEntry). contents_by other of_acceptor es) seals
            ∙ both-none other of_acceptor before sealed.seals (still other of_acceptor (whose, c, is)) (next-parts.others other of_acceptor apart))
            (given-more run E F more told.asked)
            (λ free. answers-append F name (said_under key told.asked) said (word ∷ []) (given-more run E F more told.asked key name b.challenge said so-far free) (answered free word tells made));
        unsaid = unsaid-known connector-none;
      }

      word-bearing : IsBearing run vs next later number (under k sealed.keys) name
      word-bearing = record {
        challenge = b.challenge;
        means = f.means key (Connected node.Monitor number name (AtMonitor b.challenge)) b.means;
        parts = subst (λ (l : List Given). HasLater of_acceptor sealed.keys (parts_of given_frame l) later) (sym (said-here told.given key word)) one-more;
        out = b.out;
        into = b.into;
        fits = omega (arith, low);
        taken = taken;
      }

    -- so whatever the row says
    pub bearer-moves : RowSays given_frame (IsAnyLogin vs) Kept Tells k row → MonitorMoves Kept run F vs told later number name key row
    bearer-moves (inl h) = record {
      next = told;
      moved = Quiets;
      only = tt;
      known = quiet-known h.still;
      link = if-some (λ (l : Link MonitorStage). Kept None k l)
          (λ (l : Link MonitorStage). (word : Option Given) × (u : Secured) × Kept word u l × IsBearing run vs told later number u name) row.link
          (λ l kept. (None, k, kept, quiet-bearing h.still)) h.link;
    }
    bearer-moves (inr h) =
        let is = frame-sealed k.keys (given_frame h.word) h.sealed h.made in
        let made : secure_frame k.keys (given_frame h.word) ≡ Ok (sealed_under k.keys (given_frame h.word)) =
        subst (λ (x : SealedFrame). secure_frame k.keys (given_frame h.word) ≡ Ok x) is.0 h.made in
        let seals : row.seals ≡ h.before ++ (sealed_under k.keys (given_frame h.word)).seals = subst (λ (x : SealedFrame). row.seals ≡ h.before ++ x.seals) is.0 h.seals in
        let bearing = word-bearing h.word h.told h.before h.still is.1 is.2 made seals in
        record {
          next = record told { given = saying told.given key h.word };
          moved = GivesMore key h.word;
          only = refl;
          known = word-known h.word h.told h.before h.still is.1 is.2 made seals;
          link = if-some (λ (l : Link MonitorStage). Kept (Some h.word) (under k h.sealed.keys) l)
              (λ (l : Link MonitorStage). (word : Option Given) × (u : Secured) × Kept word u l × IsBearing run vs (record told { given = saying told.given key h.word }) later number u name)
              row.link (λ l kept. (
                Some h.word,
                under k h.sealed.keys,
                kept,
                subst (λ (x : SealedFrame). IsBearing run vs (record told { given = saying told.given key h.word }) later number (under k x.keys) name) (sym is.0) bearing,
              )) h.link;
        }
