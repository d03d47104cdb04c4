-- A turn of a link to the monitor of one that logs in, behind the monitor's signature, keeps all that is known: what it reads is what the monitor said next, and
-- what it says is sealed next under the link's key, each request under the next number.
use Rattle.std.proofs.Common.{◌≡◌, ◌≤◌, ◌<◌, ◌+◌, ◌^◌, ℕ, false, List, [], ◌∷◌, ◌++◌, length, Option, Some, None, Ok, inl, inr, refl, sym, ap, ◌∙◌, subst, arith, append-nil}
use Rattle.std.specs.Prelude.{IfSome}
use Rattle.std.specs.Str.{bytes_eq}
use Rattle.cx_base.specs.Names.{Name}
use Rattle.cx_base.specs.declared.nodes.NodeName.{NodeName}
use Rattle.cx_frame.specs.Frames.{total}
use Rattle.cx_frame.specs.declared.frame.Frame.{Frame}
use Rattle.cx_journal.specs.declared.entries.Entry.{Entry}
use Rattle.cx_laws_tickets.specs.cx_laws_keys.proofs.keys.Known.{Inv}
use Rattle.cx_laws_tickets.specs.cx_laws_keys.proofs.keys.Premises.{AreGranted, behind, behind-append}
use Rattle.cx_laws_tickets.specs.cx_laws_keys.proofs.keys.Uses.{Grows, Means, Use, Uses, WholeRun}
use Rattle.cx_laws_keys.proofs.series.Contents.{contents_by}
use Rattle.cx_laws_keys.proofs.series.Frames.{frame-sealed}
use Rattle.cx_laws_keys.specs.cx_rules.specs.Fronts.{keys_behind, opened_parts, sealed_ahead}
use Rattle.cx_laws_keys.specs.cx_rules.specs.Holdings.{MonClient}
use Rattle.cx_laws_keys.specs.cx_rules.specs.Links.{Link}
use Rattle.cx_laws_keys.specs.cx_rules.specs.Rows.{Row}
use Rattle.cx_laws_keys.specs.cx_rules.specs.Secured.{SealedFrame, Secured, sealed_under, secure_frame, under}
use Rattle.cx_secure.specs.Plains.{plains}
use Rattle.cx_steps.specs.Premises.{IsExcepted}
use Rattle.cx_steps.specs.declared.seals.Logged.{Logged}
use Rattle.cx_steps.specs.declared.seals.SealEntry.{SealEntry}
use Rattle.cx_laws_keys.specs.cx_stream.specs.SecureStreams.{secure_frame_at}
use Rattle.cx_laws_tickets.proofs.fetch.AskedKnown.{AreTold, Events, HasTaken, IsMonClient, IsLoginKey, IsTrueAsked, IsTrueGiven, MoreEvents, Told, WereMade}
use Rattle.cx_laws_tickets.proofs.fetch.AskedLifting.{login-grows, said-holds, said-more, said-stays, silent-more, silent-stays}
use Rattle.cx_laws_tickets.proofs.fetch.AskedMoving.{AsksMore, AsksUnder, Moved, Quiets, asked-more, given-asked, given-more, later-stays}
use Rattle.cx_laws_tickets.proofs.fetch.AskedTaking.{TakesWord, takes-word}
use Rattle.cx_laws_tickets.proofs.fetch.AskedWords.{Acknowledges, AreNumbered, Asked, Asks, Idents, IsNumbered, asked_frame, given-shaped, given_frame, last_number, number_after, numbered-append}
use Rattle.cx_laws_tickets.proofs.fetch.MonClientSays.{IsSaidAt}
use Rattle.cx_laws_tickets.proofs.fetch.Later.{HasLater, IsLaterSeries, IsNextFrame, connectors-apart, exact-series, next-frame, of_acceptor, of_connector}
use Rattle.cx_laws_tickets.proofs.fetch.MonitorMoves.{IsAnyLogin, both-none, if-some}
use Rattle.cx_laws_tickets.proofs.fetch.RowWords.{AreStill, RowSays}
use Rattle.cx_laws_tickets.proofs.fetch.Words.{parts-one, parts_of, said-here, said_under, saying}

-- ---- words

pub made-append : (E : Events) (name : Name) (xs ys : List Asked) → WereMade E name xs → WereMade E name ys → WereMade E name (xs ++ ys)
made-append E name [] ys h g = g
made-append E name (Asks number reading request ∷ xs) ys h g = (h.0, made-append E name xs ys h.1 g)
made-append E name (Idents mon_client gid cookie ∷ xs) ys h g = made-append E name xs ys h g
made-append E name (Acknowledges ack ∷ xs) ys h g = made-append E name xs ys h g

-- the last number can be written
last-low : (before : ℕ) (xs : List Asked) → before < 2 ^ 64 → AreNumbered before xs → last_number before xs < 2 ^ 64
last-low before [] low h = low
last-low before (x ∷ xs) low h = last-low (number_after before x) xs (by_word x h.0) h.1
  where
    by_word : (y : Asked) → IsNumbered before y → number_after before y < 2 ^ 64
    by_word (Asks number reading request) g = g.1
    by_word (Idents mon_client gid cookie) g = low
    by_word (Acknowledges ack) g = low

-- what is said at this reading under the next number is true
said-numbered : (now count : ℕ) (word : Asked) → count < 2 ^ 64 → IsSaidAt now count word → IsNumbered count word
said-numbered now count (Asks number reading request) low h = (h.1, h.2 low)
said-numbered now count (Idents mon_client gid cookie) low h = tt
said-numbered now count (Acknowledges ack) low h = tt

said-made : (F : Events) (name : Name) (now count : ℕ) (word : Asked) → F.was_asked name now → IsSaidAt now count word → WereMade F name (word ∷ [])
said-made F name now count (Asks number reading request) at h = (subst (λ (r : ℕ). F.was_asked name r) (sym h.0) at, tt)
said-made F name now count (Idents mon_client gid cookie) at h = tt
said-made F name now count (Acknowledges ack) at h = tt

-- one word, or none
abbrev pub words_of : Option Asked → List Asked
words_of None = []
words_of (Some word) = word ∷ []

-- what is so behind a step of a link of one that logs in, behind the monitor's signature: all is known, with what it said; and so is the link, where it goes on
pub record MonClientMoves {S : Type 0} (Kept : Option Asked → Secured → Link S → Type 0) (run : WholeRun) (F : Events) (vs : Uses) (told : Told) (later : List Logged) (name : Name) (link : ℕ)
    (key : List ℕ) (row : Row MonClient S) : Type 0 where
  pub next : Told
  pub moved : Moved told next
  pub only : AsksUnder moved key
  pub known : AreTold run F vs next later
  pub link_is : IfSome row.link (λ (l : Link S). (word : Option Asked) × (u : Secured) × Kept word u l × IsMonClient F vs next later name link u × (u.keys.key ≡ key)
      × (said_under key next.asked ≡ said_under key told.asked ++ words_of word))

module _ (run : WholeRun) (whole : List Logged) (us vs : Uses) (log : List Logged) (J : List Entry) (n : NodeName) (line : ℕ)
    (one : (k : List ℕ) (u v : Use) → Means vs k u → Means vs k v → u ≡ v) (f : Grows us vs) (i : Inv run whole us log J) (E F : Events) (more : MoreEvents E F) (told : Told)
    (t : AreTold run E us told log) (name : Name) (link : ℕ) (s : Secured) (b : IsMonClient E us told log name link s) where
  -- ---- what is taken

  -- the frame that is read is what the monitor said next
  pub mon_client-takes : {Stage : Type 0} → (IsExcepted run.leaked whole n s.keys.key → ⊥) → (l : Link Stage) (g : Frame) (m : ℕ)
      → AreGranted run.leaked whole n line log (opened_parts (sealed_ahead s.keys l)) → secure_frame_at (sealed_ahead s.keys l) ≡ Ok (Some (g, m))
      → TakesWord given_frame given-shaped of_acceptor (IsTrueGiven run E told.asked) us told.given log t.given s.keys.key name b.challenge b.is g (keys_behind s.keys g).into.counter
  mon_client-takes held l g m granted read =
      takes-word given_frame given-shaped of_acceptor (IsTrueGiven run E told.asked) us told.given log t.given s.keys.key name b.challenge b.is run whole n line held s.keys refl b.into b.taken l g m
      granted read

  -- and the link has taken it
  pub mon_client-taken : (g : Frame) → HasTaken given_frame (said_under s.keys.key told.given) (keys_behind s.keys g).into.counter
      → IsMonClient E us told log name link (under s (keys_behind s.keys g))
  mon_client-taken g taken = record {
    challenge = b.challenge;
    is = b.is;
    drew = b.drew;
    parts = record { sealed = b.parts.sealed; counter = b.parts.counter };
    out = b.out;
    into = b.into;
    fits = b.fits;
    taken = taken;
  }

  -- ---- what is said

  module _ {S : Type 0} (Kept : Option Asked → Secured → Link S → Type 0) (now count : ℕ) (at : F.was_asked name now) (counted : last_number 0 (said_under s.keys.key told.asked) ≡ count)
      (row : Row MonClient S) where
    abbrev key : List ℕ
    key = s.keys.key

    abbrev behind_it : List Logged
    behind_it = behind n line row.seals log

    abbrev said : List Asked
    said = said_under key told.asked

    abbrev parts : List (List ℕ)
    parts = parts_of asked_frame said

    there : IsAnyLogin vs key
    there = (name, b.challenge, login-grows us vs key name b.challenge f b.is)

    quiet-known : AreStill (IsAnyLogin vs) row.seals → AreTold run F vs told behind_it
    quiet-known still = record {
      asked = said-stays asked_frame of_connector run whole us vs log J n line row.seals one f i (IsTrueAsked E) (IsTrueAsked F) told.asked t.asked
          (λ other whose c is. still other of_connector (whose, c, is)) (asked-more E F more);
      given = said-stays given_frame of_acceptor run whole us vs log J n line row.seals one f i (IsTrueGiven run E told.asked) (IsTrueGiven run F told.asked) told.given t.given
          (λ other whose c is. still other of_acceptor (whose, c, is)) (given-more run E F more told.asked);
      unsaid = silent-stays asked_frame of_connector run whole us vs log J n line row.seals one f i (IsTrueAsked E) (IsTrueAsked F) told.asked t.asked t.unsaid
          (λ other whose c is. still other of_connector (whose, c, is));
    }

    quiet-mon_client : AreStill (IsAnyLogin vs) row.seals → IsMonClient F vs told behind_it name link s
    quiet-mon_client still = record {
      challenge = b.challenge;
      is = login-grows us vs key name b.challenge f b.is;
      drew = more.drew name link b.challenge b.drew;
      parts = later-stays of_connector s.keys parts n line row.seals log (still key of_connector there) b.parts;
      out = b.out;
      into = b.into;
      fits = b.fits;
      taken = b.taken;
    }

    -- one word
    module _ (word : Asked) (tells : IsSaidAt now count word) (before : List SealEntry) (still : AreStill (IsAnyLogin vs) before)
        (low : s.keys.out.counter + length (plains (asked_frame word)) < 2 ^ 64) (fits : total (asked_frame word) ≤ 1048576)
        (made : secure_frame s.keys (asked_frame word) ≡ Ok (sealed_under s.keys (asked_frame word))) (seals : row.seals ≡ before ++ (sealed_under s.keys (asked_frame word)).seals) where
      abbrev sealed : SealedFrame
      sealed = sealed_under s.keys (asked_frame word)

      abbrev next : Told
      next = record told { asked = saying told.asked key word }

      next-parts : IsNextFrame of_connector s.keys (asked_frame word) sealed
      next-parts = next-frame of_connector s.keys (asked_frame word) sealed b.out made

      later-is : behind_it ≡ behind n line sealed.seals (behind n line before log)
      later-is = ap (λ (es : List SealEntry). behind n line es log) seals ∙ behind-append n line before sealed.seals log

      one-more : HasLater of_connector sealed.keys (parts_of asked_frame (said ++ word ∷ [])) behind_it
      one-more =
          subst (λ (ps : List (List ℕ)). HasLater of_connector sealed.keys ps behind_it) (sym (parts-one asked_frame said word))
          (subst (λ (l : List Logged). HasLater of_connector sealed.keys (parts ++ plains (asked_frame word)) l) (sym later-is)
          (next-parts.parts parts n line (behind n line before log) (later-stays of_connector s.keys parts n line before log (still key of_connector there) b.parts)))

      series : IsLaterSeries of_connector behind_it key (parts_of asked_frame (said ++ word ∷ []))
      series = exact-series of_connector behind_it key s.keys.out.fixed (parts_of asked_frame (said ++ word ∷ [])) b.out one-more.sealed (omega (arith, one-more.counter, low))

      so-far : IsTrueAsked E key name b.challenge said
      so-far =
          said-holds asked_frame of_connector run whole us vs log J n line row.seals one f i (IsTrueAsked E) (IsTrueAsked F) told.asked t.asked key name b.challenge b.is
          (record { link = link; drew = b.drew; numbered = tt; made = tt })

      count-low : count < 2 ^ 64
      count-low = subst (λ (c : ℕ). c < 2 ^ 64) counted (last-low 0 said (omega arith) so-far.numbered)

      true-words : IsTrueAsked F key name b.challenge (said ++ word ∷ [])
      true-words = let before_it = asked-more E F more key name b.challenge said so-far in
          record {
            link = link;
            drew = more.drew name link b.challenge b.drew;
            numbered = numbered-append 0 said (word ∷ []) so-far.numbered
                (subst (λ (c : ℕ). AreNumbered c (word ∷ [])) (sym counted) (said-numbered now count word count-low tells, tt));
            made = made-append F name said (word ∷ []) before_it.made (said-made F name now count word at tells);
          }

      others : (other : List ℕ) (whose : Name) (c : ℕ) → IsLoginKey vs other whose c → bytes_eq key other ≡ false → contents_by other of_connector row.seals ≡ []
      others other whose c is apart =
          ap (λ (es : List SealEntry). contents_by other of_connector es) seals
          ∙ both-none other of_connector before sealed.seals (still other of_connector (whose, c, is)) (next-parts.others other of_connector apart)

      word-known : AreTold run F vs next behind_it
      word-known = record {
        asked = said-more asked_frame of_connector run whole us vs log J n line row.seals one f i (IsTrueAsked E) (IsTrueAsked F) told.asked t.asked key name b.challenge b.is word series fits
            others (asked-more E F more) true-words;
        given = said-stays given_frame of_acceptor run whole us vs log J n line row.seals one f i (IsTrueGiven run E told.asked) (IsTrueGiven run F next.asked) told.given t.given
            (λ other whose c is. ap (λ (es : List SealEntry). contents_by other of_acceptor es) seals
            ∙ both-none other of_acceptor before sealed.seals (still other of_acceptor (whose, c, is)) (next-parts.apart other of_acceptor (connectors-apart s.keys.out.fixed b.out)))
            (given-asked run E F more told.asked key word);
        unsaid = silent-more asked_frame of_connector run whole us vs log J n line row.seals one f i (IsTrueAsked E) (IsTrueAsked F) told.asked t.asked key name b.challenge b.is word series fits
            others (asked-more E F more) true-words t.unsaid;
      }

      word-mon_client : IsMonClient F vs next behind_it name link (under s sealed.keys)
      word-mon_client = record {
        challenge = b.challenge;
        is = login-grows us vs key name b.challenge f b.is;
        drew = more.drew name link b.challenge b.drew;
        parts = subst (λ (l : List Asked). HasLater of_connector sealed.keys (parts_of asked_frame l) behind_it) (sym (said-here told.asked key word)) one-more;
        out = b.out;
        into = b.into;
        fits = omega (arith, low);
        taken = b.taken;
      }

    -- so whatever the row says
    pub mon_client-moves : RowSays asked_frame (IsAnyLogin vs) Kept (IsSaidAt now count) s row → MonClientMoves Kept run F vs told behind_it name link key row
    mon_client-moves (inl h) = record {
      next = told;
      moved = Quiets;
      only = tt;
      known = quiet-known h.still;
      link_is = if-some (λ (l : Link S). Kept None s l)
          (λ (l : Link S). (word : Option Asked) × (u : Secured) × Kept word u l × IsMonClient F vs told behind_it name link u × (u.keys.key ≡ key)
          × (said_under key told.asked ≡ said_under key told.asked ++ words_of word)) row.link
          (λ l kept. (None, s, kept, quiet-mon_client h.still, refl, sym (append-nil said))) h.link;
    }
    mon_client-moves (inr h) =
        let is = frame-sealed s.keys (asked_frame h.word) h.sealed h.made in
        let made : secure_frame s.keys (asked_frame h.word) ≡ Ok (sealed_under s.keys (asked_frame h.word)) =
        subst (λ (x : SealedFrame). secure_frame s.keys (asked_frame h.word) ≡ Ok x) is.0 h.made in
        let seals : row.seals ≡ h.before ++ (sealed_under s.keys (asked_frame h.word)).seals = subst (λ (x : SealedFrame). row.seals ≡ h.before ++ x.seals) is.0 h.seals in
        let mon_client = word-mon_client h.word h.told h.before h.still is.1 is.2 made seals in
        let more_said : Told = record told { asked = saying told.asked key h.word } in
        record {
          next = more_said;
          moved = AsksMore key h.word;
          only = refl;
          known = word-known h.word h.told h.before h.still is.1 is.2 made seals;
          link_is = if-some (λ (l : Link S). Kept (Some h.word) (under s h.sealed.keys) l)
              (λ (l : Link S). (word : Option Asked) × (u : Secured) × Kept word u l × IsMonClient F vs more_said behind_it name link u × (u.keys.key ≡ key)
              × (said_under key more_said.asked ≡ said_under key told.asked ++ words_of word)) row.link
              (λ l kept. (
                Some h.word,
                under s h.sealed.keys,
                kept,
                subst (λ (x : SealedFrame). IsMonClient F vs more_said behind_it name link (under s x.keys)) (sym is.0) mon_client,
                ap (λ (x : SealedFrame). x.keys.key) is.0,
                said-here told.asked key h.word,
              )) h.link;
        }
