-- A turn of an open link of the monitor: the reply that it says is to a request that its entity, where that didn't leak, said under the link's key, at a reading
-- of an earlier event of it.
use Rattle.std.proofs.Common.{◌≡◌, ◌<◌, ◌^◌, ℕ, Bool, true, false, List, [], ◌∷◌, ◌++◌, Some, Ok, inl, inr, refl, ap, ◌∙◌, subst}
use Rattle.std.proofs.lemmas.Slice.Eq.{bytes_eq-Decides}
use Rattle.std.specs.Prelude.{Contains}
use Rattle.std.specs.Str.{bytes_eq}
use Rattle.cx_base.specs.Names.{Name}
use Rattle.cx_base.specs.declared.nodes.NodeName.{NodeName}
use Rattle.cx_frame.specs.declared.frame.Frame.{Frame}
use Rattle.cx_journal.specs.declared.entries.Entry.{Entry}
use Rattle.cx_laws_tickets.specs.cx_laws_keys.proofs.keys.Known.{Inv}
use Rattle.cx_laws_tickets.specs.cx_laws_keys.proofs.keys.Premises.{AreGranted, behind}
use Rattle.cx_laws_tickets.specs.cx_laws_keys.proofs.keys.Uses.{Grows, Means, Use, Uses, WholeRun}
use Rattle.cx_laws_keys.specs.cx_rules.specs.Acceptor.{Open}
use Rattle.cx_laws_keys.specs.cx_rules.specs.Fronts.{keys_behind, opened_parts, sealed_ahead, taking}
use Rattle.cx_laws_keys.specs.cx_rules.specs.Links.{Link}
use Rattle.cx_laws_keys.specs.cx_rules.specs.Monitor.{MonitorArrival, MonitorRow, MonitorStage}
use Rattle.cx_laws_keys.specs.cx_rules.specs.MonitorRequests.{heard, on_open, request_occasion}
use Rattle.cx_laws_keys.specs.cx_rules.specs.Replies.{answers}
use Rattle.cx_laws_keys.specs.cx_rules.specs.Rows.{at, with_opened}
use Rattle.cx_laws_keys.specs.cx_rules.specs.Secured.{Secured, sealed_under, secure_frame, under}
use Rattle.cx_laws_keys.specs.cx_rules.specs.declared.responses.Bearer.{Bearer}
use Rattle.cx_laws_keys.specs.cx_rules.specs.declared.responses.Demand.{Demand}
use Rattle.cx_laws_keys.specs.cx_rules.specs.declared.responses.ReplyMade.{ReplyMade}
use Rattle.cx_laws_keys.specs.cx_rules.specs.declared.responses.Response.TheVariants as response
use Rattle.cx_steps.specs.declared.seals.Logged.{Logged}
use Rattle.cx_steps.specs.declared.seals.SealEntry.{SealEntry}
use Rattle.cx_laws_keys.specs.cx_stream.specs.SecureStreams.{secure_frame_at}
use Rattle.cx_wire.specs.declared.bodies.Reply.{Reply}
use Rattle.cx_wire.specs.declared.bodies.Request.{Request}
use Rattle.cx_laws_tickets.proofs.fetch.AskedHeard.{hears-request, made-at, numbered-low}
use Rattle.cx_laws_tickets.proofs.fetch.AskedKnown.{Answers, AreAnswers, AreTold, Events, IsBearing, IsLoginKey, IsSaid, IsTrueAsked, MoreEvents, Told}
use Rattle.cx_laws_tickets.proofs.fetch.AskedLifting.{login-one}
use Rattle.cx_laws_tickets.proofs.fetch.AskedTaking.{TakesWord}
use Rattle.cx_laws_tickets.proofs.fetch.AskedWords.{Asked, Asks, Confirms, Given, Greets, Lacks, Replies, Resets, asked-shaped, asked_frame, given_frame}
use Rattle.cx_laws_tickets.proofs.fetch.Later.{of_connector}
use Rattle.cx_laws_tickets.proofs.fetch.MonitorGives.{IsReplyTo, StaysOpen, TellsBy, open-says}
use Rattle.cx_laws_tickets.proofs.fetch.MonitorMoves.{IsAnyLogin, MonitorMoves, bearer-moves, bearer-takes}
use Rattle.cx_laws_tickets.proofs.fetch.RowWords.{AreStill, opened-quiet, opened-says}
use Rattle.cx_laws_tickets.proofs.fetch.Words.{IsIn, if_under, said_under}

-- what is among the words under a key was said under it
pub said-within : {W : Type 0} (key : List ℕ) (all : List (List ℕ × W)) (x : W) → IsIn x (said_under key all) → IsIn (key, x) all
said-within key [] x has = absurd has
said-within {W} key (p ∷ all) x has = by_test (bytes_eq p.0 key) refl has (λ there. said-within key all x there)
  where
    by_test : (here : Bool) → bytes_eq p.0 key ≡ here → IsIn x (if_under here p.1 (said_under key all)) → (IsIn x (said_under key all) → IsIn (key, x) all) → IsIn (key, x) (p ∷ all)
    by_test true e (inl word) rest =
        let same : p.0 ≡ key = (bytes_eq-Decides p.0 key).0 e in
        inl (ap (λ (k : List ℕ). (k, p.1)) same ∙ ap (λ (w : W). (key, w)) word)
    by_test true e (inr later) rest = inr (rest later)
    by_test false e later rest = inr (rest later)

module _ (run : WholeRun) (whole : List Logged) (us vs : Uses) (log : List Logged) (J : List Entry) (n : NodeName) (line : ℕ)
    (one : (k : List ℕ) (u v : Use) → Means vs k u → Means vs k v → u ≡ v) (f : Grows us vs) (i : Inv run whole us log J) (E F : Events) (more : MoreEvents E F) (told : Told)
    (t : AreTold run E us told log) (number : ℕ) (name : Name) (s : Secured) (b : IsBearing run us told log number s name) where
  abbrev login : IsLoginKey us s.keys.key name b.challenge
  login = record { number = number; means = b.means }

  abbrev Takes : Frame → Type 0
  Takes g = TakesWord asked_frame asked-shaped of_connector (IsTrueAsked E) us told.asked log t.asked s.keys.key name b.challenge login g (keys_behind s.keys g).into.counter

  -- the word is sealed under the keys behind that frame
  abbrev pub IsSealed : Frame → Given → Type 0
  IsSealed g word = secure_frame (keys_behind s.keys g) (given_frame word) ≡ Ok (sealed_under (keys_behind s.keys g) (given_frame word))

  -- what was said there is true of this entity
  true-words : (x : Asked) → IsIn x (said_under s.keys.key told.asked) → IsTrueAsked E s.keys.key name b.challenge (said_under s.keys.key told.asked)
  true-words x has =
      let h : IsSaid asked_frame of_connector (IsTrueAsked E) us told.asked log s.keys.key = t.asked.spoken s.keys.key x (said-within s.keys.key told.asked x has) in
      let same = login-one us i.one s.keys.key h.name name h.challenge b.challenge h.is login in
      subst (λ (c : ℕ). IsTrueAsked E s.keys.key name c (said_under s.keys.key told.asked)) same.1
      (subst (λ (m : Name). IsTrueAsked E s.keys.key m h.challenge (said_under s.keys.key told.asked)) same.0 h.holds)

  module _ (a : MonitorArrival) (bearer : Bearer) (g : Frame)
      (replied : (reading tid : ℕ) (reply : Reply) → E.was_asked name reading → IsReplyTo a bearer g tid reply → IsSealed g (Replies tid reply) → F.replied name reading reply) where
    reply-answers : Takes g → (tid : ℕ) (reply : Reply) → IsReplyTo a bearer g tid reply → IsSealed g (Replies tid reply) → Answers F name (said_under s.keys.key told.asked) tid reply
    reply-answers w tid reply h made =
        let truth : IsTrueAsked E s.keys.key name b.challenge (said_under s.keys.key told.asked) = true-words w.word w.said_so in
        let low : (number reading : ℕ) (request : Request) → w.word ≡ Asks number reading request → number < 2 ^ 64 =
        λ k reading request same. numbered-low 0 k reading request (said_under s.keys.key told.asked) truth.numbered
        (subst (λ (x : Asked). IsIn x (said_under s.keys.key told.asked)) same w.said_so) in
        let heard_it = hears-request w.word bearer g h.demand w.frame low h.heard_as in
        let is : w.word ≡ Asks tid heard_it.0 heard_it.1 = heard_it.2 ∙ ap (λ (k : ℕ). Asks k heard_it.0 heard_it.1) h.number in
        let asks : IsIn (Asks tid heard_it.0 heard_it.1) (said_under s.keys.key told.asked) = subst (λ (x : Asked). IsIn x (said_under s.keys.key told.asked)) is w.said_so in
        record {
          reading = heard_it.0;
          request = heard_it.1;
          asks = asks;
          replied = replied heard_it.0 tid reply (made-at E name tid heard_it.0 heard_it.1 (said_under s.keys.key told.asked) truth.made asks) h made;
        }

    open-answers : Takes g → (word : Given) → TellsBy a bearer g word → IsSealed g word → AreAnswers F name (said_under s.keys.key told.asked) (word ∷ [])
    open-answers w (Replies tid reply) h made = (reply-answers w tid reply h made, tt)
    open-answers w (Greets address) h made = tt
    open-answers w Resets h made = tt
    open-answers w (Lacks features) h made = tt
    open-answers w (Confirms ack) h made = tt

  -- so a turn, where the reply is told under no key of a login, keeps all that is known
  pub open-moves : (a : MonitorArrival) (bearer : Bearer) (l : Link MonitorStage) (g : Frame) (m : ℕ) → bearer.name ≡ name
      → ((reading tid : ℕ) (reply : Reply) → E.was_asked name reading → IsReplyTo (at a (taking l m)) bearer g tid reply → IsSealed g (Replies tid reply) → F.replied name reading reply)
      → ((demand : Demand) → heard bearer g ≡ Ok demand → (made : ReplyMade) → (answers (request_occasion a) a.own.server bearer demand.request).response ≡ response.Replies made
      → AreStill (IsAnyLogin vs) (made.seals ++ made.sealed))
      → AreGranted run.leaked whole n line log (opened_parts (sealed_ahead s.keys l)) → secure_frame_at (sealed_ahead s.keys l) ≡ Ok (Some (g, m))
      → (let k : Secured = under s (keys_behind s.keys g) in
      let row : MonitorRow = with_opened (opened_parts (sealed_ahead s.keys l)) (on_open Open (at a (taking l m)) k bearer g) in
      MonitorMoves (λ word u x. StaysOpen l.number bearer.name u x) run F vs told (behind n line row.seals log) number name s.keys.key row)
  open-moves a bearer l g m named replied still granted read =
      let k : Secured = under s (keys_behind s.keys g) in
      let b_at : MonitorArrival = at a (taking l m) in
      let opened : List SealEntry = opened_parts (sealed_ahead s.keys l) in
      let row : MonitorRow = with_opened opened (on_open Open b_at k bearer g) in
      let takes : (Contains run.leaked name → ⊥) → Takes g =
      λ free. bearer-takes run whole us vs log J n line one f i E F more told t number name s b free l g m granted read in
      bearer-moves run whole us vs log J n line one f i E F more told t number name s b g (λ word u x. StaysOpen l.number bearer.name u x) (TellsBy b_at bearer g) row
      (λ free. (takes free).behind) (λ free word tells made. open-answers b_at bearer g replied (takes free) word tells made)
      (opened-says given_frame (IsAnyLogin vs) (λ word u x. StaysOpen l.number bearer.name u x) (TellsBy b_at bearer g) opened k (on_open Open b_at k bearer g)
      (opened-quiet (sealed_ahead s.keys l)) (open-says (IsAnyLogin vs) b_at k bearer g still))
