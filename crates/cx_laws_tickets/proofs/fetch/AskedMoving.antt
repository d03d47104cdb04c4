-- What a step on one link to the monitor does to all that is known of such links: nothing is said, or a word more by one end under the key of that link. So all
-- other links, at either end, keep what is known of them.
use Rattle.std.proofs.Common.{◌≡◌, ℕ, Bool, true, false, List, [], ◌∷◌, ◌++◌, refl, sym, ap, ◌∙◌, subst, append-nil, append_assoc}
use Rattle.std.proofs.lemmas.Slice.Eq.{bytes_eq-Decides}
use Rattle.std.specs.Str.{bytes_eq}
use Rattle.cx_base.specs.Names.{Name}
use Rattle.cx_base.specs.declared.nodes.NodeName.{NodeName}
use Rattle.cx_base.specs.declared.nodes.NodeName.TheVariants as node
use Rattle.cx_frame.specs.declared.frame.Frame.{Frame}
use Rattle.cx_laws_tickets.specs.cx_laws_keys.proofs.keys.Premises.{behind}
use Rattle.cx_laws_tickets.specs.cx_laws_keys.proofs.keys.Uses.{AtMonitor, Connected, Grows, Uses, WholeRun}
use Rattle.cx_laws_keys.proofs.series.Contents.{contents-behind, contents_by, contents_in}
use Rattle.cx_laws_keys.specs.cx_rules.specs.Secured.{Keys, Secured}
use Rattle.cx_steps.specs.declared.seals.Logged.{Logged}
use Rattle.cx_steps.specs.declared.seals.SealEntry.{SealEntry}
use Rattle.cx_wire.specs.declared.bodies.Reply.{Reply}
use Rattle.cx_laws_tickets.proofs.fetch.AskedKnown.{Answers, AreAnswers, Events, HasTaken, IsMonClient, IsBearing, IsBearingFirst, IsTrueAsked, IsTrueGiven, MoreEvents, Told, WereMade}
use Rattle.cx_laws_tickets.proofs.fetch.AskedLifting.{login-grows}
use Rattle.cx_laws_tickets.proofs.fetch.AskedWords.{Acknowledges, Asked, Asks, Confirms, Given, Greets, Idents, Lacks, Replies, Resets, asked_frame, given_frame}
use Rattle.cx_laws_tickets.proofs.fetch.Later.{HasLater, of_acceptor, of_connector}
use Rattle.cx_laws_tickets.proofs.fetch.Words.{in-left, parts_of, said-elsewhere, said-here, said_under, saying}

-- ---- with more events

pub made-more : (E F : Events) (name : Name) → MoreEvents E F → (xs : List Asked) → WereMade E name xs → WereMade F name xs
made-more E F name m [] h = tt
made-more E F name m (Asks number reading request ∷ xs) h = (m.was_asked name reading h.0, made-more E F name m xs h.1)
made-more E F name m (Idents mon_client gid cookie ∷ xs) h = made-more E F name m xs h
made-more E F name m (Acknowledges ack ∷ xs) h = made-more E F name m xs h

pub asked-more : (E F : Events) → MoreEvents E F → (key : List ℕ) (name : Name) (challenge : ℕ) (xs : List Asked) → IsTrueAsked E key name challenge xs → IsTrueAsked F key name challenge xs
asked-more E F m key name challenge xs h =
    record { link = h.link; drew = m.drew name h.link challenge h.drew; numbered = h.numbered; made = made-more E F name m xs h.made }

-- among more requests
answer-more : (E F : Events) (name : Name) (requests more : List Asked) → MoreEvents E F → (number : ℕ) (reply : Reply) → Answers E name requests number reply
    → Answers F name (requests ++ more) number reply
answer-more E F name requests more m number reply h = record {
  reading = h.reading;
  request = h.request;
  asks = in-left (Asks number h.reading h.request) requests more h.asks;
  replied = m.replied name h.reading reply h.replied;
}

pub answers-more : (E F : Events) (name : Name) (requests more : List Asked) → MoreEvents E F → (xs : List Given) → AreAnswers E name requests xs → AreAnswers F name (requests ++ more) xs
answers-more E F name requests more m [] h = tt
answers-more E F name requests more m (Replies number reply ∷ xs) h = (answer-more E F name requests more m number reply h.0, answers-more E F name requests more m xs h.1)
answers-more E F name requests more m (Greets address ∷ xs) h = answers-more E F name requests more m xs h
answers-more E F name requests more m (Resets ∷ xs) h = answers-more E F name requests more m xs h
answers-more E F name requests more m (Lacks features ∷ xs) h = answers-more E F name requests more m xs h
answers-more E F name requests more m (Confirms ack ∷ xs) h = answers-more E F name requests more m xs h

pub answers-append : (E : Events) (name : Name) (requests : List Asked) (xs ys : List Given) → AreAnswers E name requests xs → AreAnswers E name requests ys
    → AreAnswers E name requests (xs ++ ys)
answers-append E name requests [] ys h g = g
answers-append E name requests (Replies number reply ∷ xs) ys h g = (h.0, answers-append E name requests xs ys h.1 g)
answers-append E name requests (Greets address ∷ xs) ys h g = answers-append E name requests xs ys h g
answers-append E name requests (Resets ∷ xs) ys h g = answers-append E name requests xs ys h g
answers-append E name requests (Lacks features ∷ xs) ys h g = answers-append E name requests xs ys h g
answers-append E name requests (Confirms ack ∷ xs) ys h g = answers-append E name requests xs ys h g

pub given-more : (run : WholeRun) (E F : Events) → MoreEvents E F → (said : List (List ℕ × Asked)) (key : List ℕ) (name : Name) (challenge : ℕ) (xs : List Given)
    → IsTrueGiven run E said key name challenge xs → IsTrueGiven run F said key name challenge xs
given-more run E F m said key name challenge xs h = λ free.
    subst (λ (l : List Asked). AreAnswers F name l xs) (append-nil (said_under key said)) (answers-more E F name (said_under key said) [] m xs (h free))

-- under a key there are as many words, or one more behind them
said-behind : {W : Type 0} (said : List (List ℕ × W)) (key other : List ℕ) (word : W) → (more : List W) × (said_under other (saying said key word) ≡ said_under other said ++ more)
said-behind {W} said key other word = by_test (bytes_eq key other) refl
  where
    by_test : (same : Bool) → bytes_eq key other ≡ same → (more : List W) × (said_under other (saying said key word) ≡ said_under other said ++ more)
    by_test true e =
        (word ∷ [], subst (λ (k : List ℕ). said_under k (saying said key word) ≡ said_under k said ++ word ∷ []) ((bytes_eq-Decides key other).0 e) (said-here said key word))
    by_test false e = ([], said-elsewhere said key other word e ∙ sym (append-nil (said_under other said)))

-- so the answers of all keys stay so, where one asks more
pub given-asked : (run : WholeRun) (E F : Events) → MoreEvents E F → (said : List (List ℕ × Asked)) (key : List ℕ) (word : Asked) (other : List ℕ) (name : Name) (challenge : ℕ) (xs : List Given)
    → IsTrueGiven run E said other name challenge xs → IsTrueGiven run F (saying said key word) other name challenge xs
given-asked run E F m said key word other name challenge xs h = λ free.
    let more = said-behind said key other word in
    subst (λ (l : List Asked). AreAnswers F name l xs) (sym more.1) (answers-more E F name (said_under other said) more.0 m xs (h free))

-- ---- what was taken

-- it is the front of what is said, whatever is said behind it
pub taken-more : {W : Type 0} (frame_of : W → Frame) (said : List (List ℕ × W)) (key other : List ℕ) (word : W) (counter : ℕ) → HasTaken frame_of (said_under other said) counter
    → HasTaken frame_of (said_under other (saying said key word)) counter
taken-more {W} frame_of said key other word counter h =
    let more = said-behind said key other word in
    record {
      taken = h.taken;
      rest = h.rest ++ more.0;
      front = more.1 ∙ ap (λ (l : List W). l ++ more.0) h.front ∙ append_assoc h.taken h.rest more.0;
      counter_is = h.counter_is;
    }

-- ---- what was sealed

pub later-stays : (test : List ℕ → Bool) (keys : Keys) (parts : List (List ℕ)) (n : NodeName) (line : ℕ) (es : List SealEntry) (log : List Logged) → contents_by keys.key test es ≡ []
    → HasLater test keys parts log → HasLater test keys parts (behind n line es log)
later-stays test keys parts n line es log none h = record {
  sealed = contents-behind keys.key test n line es log ∙ ap (λ (l : List (List ℕ)). contents_in keys.key test log ++ l) none ∙ append-nil (contents_in keys.key test log) ∙ h.sealed;
  counter = h.counter;
}

-- ---- a step

-- nothing is said; or a word more by one that logs in, or by the monitor, under this key
pub data Moved (told : Told) : Told → Type 0 where
  Quiets : Moved told told
  AsksMore : (key : List ℕ) (word : Asked) → Moved told (record told { asked = saying told.asked key word })
  GivesMore : (key : List ℕ) (word : Given) → Moved told (record told { given = saying told.given key word })

-- under this key no word is said by one that logs in
abbrev pub IsNotAsked : {told next : Told} → Moved told next → List ℕ → Type 0
IsNotAsked Quiets other = Unit {0}
IsNotAsked (AsksMore key word) other = bytes_eq key other ≡ false
IsNotAsked (GivesMore key word) other = Unit {0}

-- or none by the monitor
abbrev pub IsNotGiven : {told next : Told} → Moved told next → List ℕ → Type 0
IsNotGiven Quiets other = Unit {0}
IsNotGiven (AsksMore key word) other = Unit {0}
IsNotGiven (GivesMore key word) other = bytes_eq key other ≡ false

-- what is said, one that logs in says under this key
abbrev pub AsksUnder : {told next : Told} → Moved told next → List ℕ → Type 0
AsksUnder Quiets key = Unit {0}
AsksUnder (AsksMore under word) key = under ≡ key
AsksUnder (GivesMore under word) key = ⊥

-- or the monitor says it there
abbrev pub GivesUnder : {told next : Told} → Moved told next → List ℕ → Type 0
GivesUnder Quiets key = Unit {0}
GivesUnder (AsksMore under word) key = ⊥
GivesUnder (GivesMore under word) key = under ≡ key

-- so no word is said under another key, and none by the other end
pub asks-apart : (told next : Told) (m : Moved told next) (key other : List ℕ) → AsksUnder m key → bytes_eq key other ≡ false → IsNotAsked m other
asks-apart told _ Quiets key other h apart = tt
asks-apart told _ (AsksMore under word) key other h apart = subst (λ (k : List ℕ). bytes_eq k other ≡ false) (sym h) apart
asks-apart told _ (GivesMore under word) key other h apart = absurd h

pub asks-alone : (told next : Told) (m : Moved told next) (key other : List ℕ) → AsksUnder m key → IsNotGiven m other
asks-alone told _ Quiets key other h = tt
asks-alone told _ (AsksMore under word) key other h = tt
asks-alone told _ (GivesMore under word) key other h = absurd h

pub gives-apart : (told next : Told) (m : Moved told next) (key other : List ℕ) → GivesUnder m key → bytes_eq key other ≡ false → IsNotGiven m other
gives-apart told _ Quiets key other h apart = tt
gives-apart told _ (AsksMore under word) key other h apart = absurd h
gives-apart told _ (GivesMore under word) key other h apart = subst (λ (k : List ℕ). bytes_eq k other ≡ false) (sym h) apart

pub gives-alone : (told next : Told) (m : Moved told next) (key other : List ℕ) → GivesUnder m key → IsNotAsked m other
gives-alone told _ Quiets key other h = tt
gives-alone told _ (AsksMore under word) key other h = absurd h
gives-alone told _ (GivesMore under word) key other h = tt

module _ (told : Told) where
  same-asked : (next : Told) (m : Moved told next) (other : List ℕ) → IsNotAsked m other → said_under other next.asked ≡ said_under other told.asked
  same-asked _ Quiets other none = refl
  same-asked _ (AsksMore key word) other none = said-elsewhere told.asked key other word none
  same-asked _ (GivesMore key word) other none = refl

  same-given : (next : Told) (m : Moved told next) (other : List ℕ) → IsNotGiven m other → said_under other next.given ≡ said_under other told.given
  same-given _ Quiets other none = refl
  same-given _ (AsksMore key word) other none = refl
  same-given _ (GivesMore key word) other none = said-elsewhere told.given key other word none

  more-given : (next : Told) → Moved told next → (other : List ℕ) (counter : ℕ) → HasTaken given_frame (said_under other told.given) counter → HasTaken given_frame (said_under other next.given) counter
  more-given _ Quiets other counter h = h
  more-given _ (AsksMore key word) other counter h = h
  more-given _ (GivesMore key word) other counter h = taken-more given_frame told.given key other word counter h

  more-asked : (next : Told) → Moved told next → (other : List ℕ) (counter : ℕ) → HasTaken asked_frame (said_under other told.asked) counter → HasTaken asked_frame (said_under other next.asked) counter
  more-asked _ Quiets other counter h = h
  more-asked _ (AsksMore key word) other counter h = taken-more asked_frame told.asked key other word counter h
  more-asked _ (GivesMore key word) other counter h = h

  module _ (next : Told) (m : Moved told next) (run : WholeRun) (E F : Events) (more : MoreEvents E F) (us vs : Uses) (f : Grows us vs) (log : List Logged) (n : NodeName) (line : ℕ) (es : List SealEntry) where
    -- another link of one that logs in, under whose key it says nothing
    pub mon_client-stays : (name : Name) (link : ℕ) (s : Secured) → IsNotAsked m s.keys.key → contents_by s.keys.key of_connector es ≡ [] → IsMonClient E us told log name link s
        → IsMonClient F vs next (behind n line es log) name link s
    mon_client-stays name link s apart none h = record {
      challenge = h.challenge;
      is = login-grows us vs s.keys.key name h.challenge f h.is;
      drew = more.drew name link h.challenge h.drew;
      parts = subst (λ (l : List Asked). HasLater of_connector s.keys (parts_of asked_frame l) (behind n line es log)) (sym (same-asked next m s.keys.key apart))
          (later-stays of_connector s.keys (parts_of asked_frame (said_under s.keys.key told.asked)) n line es log none h.parts);
      out = h.out;
      into = h.into;
      fits = h.fits;
      taken = more-given next m s.keys.key s.keys.into.counter h.taken;
    }

    -- another link of the monitor, under whose key it says nothing
    pub bearing-stays : (number : ℕ) (s : Secured) (name : Name) → IsNotGiven m s.keys.key → contents_by s.keys.key of_acceptor es ≡ [] → IsBearing run us told log number s name
        → IsBearing run vs next (behind n line es log) number s name
    bearing-stays number s name apart none h = record {
      challenge = h.challenge;
      means = f.means s.keys.key (Connected node.Monitor number name (AtMonitor h.challenge)) h.means;
      parts = subst (λ (l : List Given). HasLater of_acceptor s.keys (parts_of given_frame l) (behind n line es log)) (sym (same-given next m s.keys.key apart))
          (later-stays of_acceptor s.keys (parts_of given_frame (said_under s.keys.key told.given)) n line es log none h.parts);
      out = h.out;
      into = h.into;
      fits = h.fits;
      taken = λ free. more-asked next m s.keys.key s.keys.into.counter (h.taken free);
    }

    pub first-stays : (number : ℕ) (s : Secured) (name : Name) → IsNotGiven m s.keys.key → contents_by s.keys.key of_acceptor es ≡ [] → IsBearingFirst us told log number s name
        → IsBearingFirst vs next (behind n line es log) number s name
    first-stays number s name apart none h = record {
      challenge = h.challenge;
      means = f.means s.keys.key (Connected node.Monitor number name (AtMonitor h.challenge)) h.means;
      parts = subst (λ (l : List Given). HasLater of_acceptor s.keys (parts_of given_frame l) (behind n line es log)) (sym (same-given next m s.keys.key apart))
          (later-stays of_acceptor s.keys (parts_of given_frame (said_under s.keys.key told.given)) n line es log none h.parts);
      out = h.out;
      into = h.into;
      fits = h.fits;
      untaken = h.untaken;
    }
