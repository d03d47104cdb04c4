-- Generations that one takes on its open link to the monitor, where it didn't leak, are those of a reply that the monitor said to it behind the reading at which
-- it asked: it answers the very request that waits.
use Rattle.std.proofs.Common.{◌≡◌, ◌≤◌, ◌<◌, ◌^◌, ℕ, Bool, List, [], ◌∷◌, Some, inl, inr, ap, ◌∙◌, subst}
use Rattle.std.specs.Prelude.{Contains}
use Rattle.std.specs.List.{AllByRecursion}
use Rattle.cx_base.specs.Names.{Name}
use Rattle.cx_frame.specs.Frames.{total}
use Rattle.cx_frame.specs.declared.frame.Frame.{Frame}
use Rattle.cx_journal.specs.declared.premises.KeyKind.TheVariants as kind
use Rattle.cx_laws_tickets.specs.cx_laws_keys.proofs.keys.Lists.{some-of}
use Rattle.cx_laws_tickets.specs.cx_laws_keys.proofs.keys.Uses.{Means, Use, Uses, WholeRun}
use Rattle.cx_laws_tickets.specs.cx_login.specs.Unlocking.{unlocked}
use Rattle.cx_rotate.specs.declared.generations.Generation.{Generation}
use Rattle.cx_laws_keys.specs.cx_rules.specs.Requests.{Requests, taken}
use Rattle.cx_laws_keys.specs.cx_rules.specs.declared.requests.Taken.TheVariants as reply
use Rattle.cx_laws_keys.specs.cx_rules.specs.declared.requests.Waiting.{Waiting}
use Rattle.cx_laws_keys.specs.cx_rules.specs.declared.requests.Want.{Want}
use Rattle.cx_laws_tickets.specs.cx_sealed.specs.Records.{rotating_reply_layout}
use Rattle.cx_laws_tickets.specs.cx_sealed.specs.declared.rotating_reply.RotatingReply.{RotatingReply}
use Rattle.cx_steps.specs.declared.seals.Logged.{Logged}
use Rattle.cx_steps.specs.declared.seals.SealEntry.{SealEntry}
use Rattle.cx_wire.specs.declared.bodies.Reply.{Reply}
use Rattle.cx_wire.specs.declared.bodies.Reply.TheVariants as given
use Rattle.cx_wire.specs.declared.bodies.Request.TheVariants as asked
use Rattle.cx_laws_tickets.proofs.fetch.AskedHeard.{numbered-low}
use Rattle.cx_laws_tickets.proofs.fetch.AskedKnown.{Answers, AreAnswers, AreSaid, AreTold, Events, IsAwaited, IsAwaitedAs, IsLoginKey, IsSaid, IsTrueAsked, IsTrueGiven, Told, Truth}
use Rattle.cx_laws_tickets.proofs.fetch.AskedLifting.{login-one}
use Rattle.cx_laws_tickets.proofs.fetch.AskedWords.{Asked, Asks, Confirms, Given, Greets, Lacks, Replies, Resets, asked_frame, asks-once, given_frame}
use Rattle.cx_laws_tickets.proofs.fetch.Later.{of_acceptor, of_connector}
use Rattle.cx_laws_tickets.proofs.fetch.MonitorOpen.{said-within}
use Rattle.cx_laws_tickets.proofs.fetch.ReplyRead.{TakenFrom, reply-said, taken-from}
use Rattle.cx_laws_tickets.proofs.fetch.Words.{IsIn, said_under}

answers-in : (E : Events) (name : Name) (requests : List Asked) (number : ℕ) (x : Reply) (xs : List Given) → AreAnswers E name requests xs → IsIn (Replies number x) xs
    → Answers E name requests number x
answers-in E name requests number x [] h there = absurd there
answers-in E name requests number x (Replies other y ∷ xs) h (inl here) =
    subst (λ (k : ℕ). Answers E name requests k x) (ap number_in here) (subst (λ (z : Reply). Answers E name requests other z) (ap reply_in here) h.0)
  where
    number_in : Given → ℕ
    number_in (Replies k z) = k
    number_in _ = number

    reply_in : Given → Reply
    reply_in (Replies k z) = z
    reply_in _ = x
answers-in E name requests number x (Replies other y ∷ xs) h (inr later) = answers-in E name requests number x xs h.1 later
answers-in E name requests number x (Greets address ∷ xs) h (inl here) = absurd cc
answers-in E name requests number x (Greets address ∷ xs) h (inr later) = answers-in E name requests number x xs h later
answers-in E name requests number x (Resets ∷ xs) h (inl here) = absurd cc
answers-in E name requests number x (Resets ∷ xs) h (inr later) = answers-in E name requests number x xs h later
answers-in E name requests number x (Lacks features ∷ xs) h (inl here) = absurd cc
answers-in E name requests number x (Lacks features ∷ xs) h (inr later) = answers-in E name requests number x xs h later
answers-in E name requests number x (Confirms ack ∷ xs) h (inl here) = absurd cc
answers-in E name requests number x (Confirms ack ∷ xs) h (inr later) = answers-in E name requests number x xs h later

-- what is true of the words of a key, where there are some, by the login whose key it is
holds-in : {W : Type 0} (frame_of : W → Frame) (test : List ℕ → Bool) (T : Truth W) (us : Uses) (said : List (List ℕ × W)) (log : List Logged) → AreSaid frame_of test T us said log
    → ((k : List ℕ) (u v : Use) → Means us k u → Means us k v → u ≡ v) → (key : List ℕ) (name : Name) (challenge : ℕ) → IsLoginKey us key name challenge → (x : W)
    → IsIn x (said_under key said) → T key name challenge (said_under key said) × (total (frame_of x) ≤ 1048576)
holds-in {W} frame_of test T us said log t one key name challenge is x has =
    let h : IsSaid frame_of test T us said log key = t.spoken key x (said-within key said x has) in
    let same = login-one us one key h.name name h.challenge challenge h.is is in (
      subst (λ (c : ℕ). T key name c (said_under key said)) same.1 (subst (λ (m : Name). T key m h.challenge (said_under key said)) same.0 h.holds),
      some-of (λ (y : W). y ≡ x) (λ (y : W). total (frame_of y) ≤ 1048576) (total (frame_of x) ≤ 1048576) (λ y same fits. subst (λ (z : W). total (frame_of z) ≤ 1048576) same fits)
          (said_under key said) has h.frames,
    )

-- the monitor replied so to it behind this reading, with a blob that opens under its secret as these
pub record WereReplied (E : Events) (name : Name) (secret : List ℕ) (reading : ℕ) (generations : List Generation) : Type 0 where
  pub blob : List ℕ
  pub replied : E.replied name reading (given.Rotating blob)
  pub told : RotatingReply
  pub opens : (unlocked rotating_reply_layout.form kind.Principal secret blob).value ≡ Some told
  pub told_is : told.generations ≡ generations

-- what is taken of a word that the monitor said under the link's key
pub views-replied : (run : WholeRun) (E : Events) (us : Uses) (told : Told) (log : List Logged) → AreTold run E us told log → ((k : List ℕ) (u v : Use) → Means us k u → Means us k v → u ≡ v)
    → (key : List ℕ) (name : Name) (challenge : ℕ) → IsLoginKey us key name challenge → (Contains run.leaked name → ⊥) → (word : Given) (f : Frame) → f ≡ given_frame word
    → IsIn word (said_under key told.given) → (r : Requests) → AllByRecursion (IsAwaited (said_under key told.asked)) r.waiting → (secret : List ℕ) (reading : ℕ) (generations : List Generation)
    (opened : List SealEntry) → taken secret r f ≡ reply.Views reading generations opened → WereReplied E name secret reading generations
views-replied run E us told log t one key name challenge is free word f frame has r awaited secret reading generations opened takes =
    let requests : List Asked = said_under key told.asked in
    let from : TakenFrom secret r f reading generations = taken-from secret reading generations opened r f takes in
    let truth = holds-in given_frame of_acceptor (IsTrueGiven run E told.asked) us told.given log t.given one key name challenge is word has in
    let answers : AreAnswers E name requests (said_under key told.given) = truth.0 free in
    let asked_so : (n at : ℕ) (x : Asked) → IsIn x requests → IsTrueAsked E key name challenge requests =
    λ n at x there. (holds-in asked_frame of_connector (IsTrueAsked E) us told.asked log t.asked one key name challenge is x there).0 in
    let answer_of : (tid : ℕ) (x : Reply) → word ≡ Replies tid x → Answers E name requests tid x =
    λ tid x same. answers-in E name requests tid x (said_under key told.given) answers (subst (λ (w : Given). IsIn w (said_under key told.given)) same has) in
    let low : (tid : ℕ) (x : Reply) → word ≡ Replies tid x → tid < 2 ^ 64 =
    λ tid x same. let h : Answers E name requests tid x = answer_of tid x same in
    numbered-low 0 tid h.reading h.request requests (asked_so tid h.reading (Asks tid h.reading h.request) h.asks).numbered h.asks in
    let said : word ≡ Replies from.m.header.tid (given.Rotating from.blob) = reply-said word f from.m from.blob frame truth.1 low from.read from.body in
    let here : word ≡ Replies from.first.tid (given.Rotating from.blob) = said ∙ ap (λ (k : ℕ). Replies k (given.Rotating from.blob)) from.number in
    let h : Answers E name requests from.first.tid (given.Rotating from.blob) = answer_of from.first.tid (given.Rotating from.blob) here in
    let first : IsAwaited requests from.first = (subst (λ (ws : List Waiting). AllByRecursion (IsAwaited requests) ws) from.waits awaited).0 in
    let waits : IsIn (Asks from.first.tid reading asked.Rotating) requests = subst (λ (w : Want). IsAwaitedAs requests from.first.tid w) from.want first in
    let numbered = (asked_so from.first.tid reading (Asks from.first.tid reading asked.Rotating) waits).numbered in
    let same : h.reading ≡ reading = asks-once 0 from.first.tid h.reading reading h.request asked.Rotating requests numbered h.asks waits in
    record {
      blob = from.blob;
      replied = subst (λ (at : ℕ). E.replied name at (given.Rotating from.blob)) same h.replied;
      told = from.told;
      opens = from.opens;
      told_is = from.told_is;
    }
