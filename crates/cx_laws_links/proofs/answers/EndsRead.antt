-- Where the answers stand that clients entered: each was read under the key of its link at a number, which no link reads again. So no two that a client enters
-- have one cookie and one tid.
use Rattle.std.proofs.Common.{◌≡◌, ℕ, ◌+◌, ◌<◌, List, [], ◌∷◌, ◌++◌, length, inl, inr, ◌⊎◌, refl, sym, ap, ◌∙◌, subst, arith, append_assoc, take, Option}
use Rattle.std.proofs.lemmas.List.Elements.{Contains-append_left, Contains-push_cases}
use Rattle.std.specs.Prelude.{Contains}
use Rattle.cx_laws_links.specs.cx_authorize.specs.Verdict.{raised}
use Rattle.cx_base.specs.Names.{Name}
use Rattle.cx_frame.specs.declared.frame.Frame.{Frame}
use Rattle.cx_journal.specs.declared.entries.Answered.{Answered}
use Rattle.cx_journal.specs.declared.entries.Entry.{Entry}
use Rattle.cx_journal.specs.declared.entries.Entry.TheVariants as journal
use Rattle.cx_journal.specs.declared.outcomes.Outcome.{Outcome}
use Rattle.cx_laws_links.specs.cx_laws_keys.proofs.keys.Known.{HasReply}
use Rattle.cx_laws_links.specs.cx_laws_keys.proofs.keys.Uses.{Grows, Means, Use, Uses, WholeRun}
use Rattle.cx_laws_links.specs.cx_laws_keys.proofs.series.Series.{IsAt, at-behind}
use Rattle.cx_laws_links.specs.cx_rules.specs.Fronts.{keys_behind}
use Rattle.cx_laws_links.specs.cx_rules.specs.Secured.{Secured, Way}
use Rattle.cx_laws_links.specs.cx_rules_session.specs.Hosting.{Instruction}
use Rattle.cx_secure.specs.Plains.{parts_of, plains, plains_of}
use Rattle.cx_laws_links.specs.cx_sealed.specs.declared.authorize_reply.AuthorizeReply.{AuthorizeReply}
use Rattle.cx_steps.specs.declared.seals.Logged.{Logged}
use Rattle.cx_laws_links.proofs.links.Binding.{shown-bound}
use Rattle.cx_laws_links.proofs.links.Known.{Bound, IsBound, IsKeyed, IsShown, Told}
use Rattle.cx_laws_links.proofs.links.Lifting.{link-grows}
use Rattle.cx_laws_links.proofs.links.Others.{link-one, raised-one}
use Rattle.cx_laws_links.proofs.links.Written.{IsLinkKey}
use Rattle.cx_laws_links.proofs.answers.Given.{Acks, Admits, Answers, Given, KeepsUp, Misses, Replies, Resets, Resumes, Retries, RetriesGlobal, Signs, given_frame, given_parts, given_under}
use Rattle.cx_laws_links.proofs.answers.Keyed.{under-append}
use Rattle.cx_laws_links.proofs.answers.Once.{AnswersAt, AreOnce}

-- an answer was read under this key, where so many parts had been taken: it stands in what was given there
pub record ReadsAt (us : Uses) (given : List (List ℕ × Given)) (key : List ℕ) (number : ℕ) (x : Answered) : Type 0 where
  pub tie : ℕ
  pub is : IsLinkKey us key x.client tie
  pub front : List Given
  pub rest : List Given
  pub instruction : Instruction
  pub outcome : Outcome
  pub stands : given_under key given ≡ front ++ (Answers x.cookie instruction outcome ∷ rest)
  pub tid_is : instruction.tid ≡ x.tid
  pub number_is : number ≡ length (given_parts front)

pub record IsRead (us : Uses) (given : List (List ℕ × Given)) (reads : List (List ℕ × ℕ)) (x : Answered) : Type 0 where
  pub key : List ℕ
  pub number : ℕ
  pub at : ReadsAt us given key number x
  pub read : Contains reads (key, number)

-- each that a client entered which didn't leak
abbrev pub AreRead : WholeRun → Uses → List (List ℕ × Given) → List (List ℕ × ℕ) → List Entry → Type 0
AreRead run us given reads J = (x : Answered) → Contains J (journal.Answered x) → (Contains run.leaked x.client → ⊥) → IsRead us given reads x

-- a link reads on behind all that was read under its key
abbrev pub ReadsOn : List (List ℕ × ℕ) → Secured → Type 0
ReadsOn reads s = (number : ℕ) → Contains reads (s.keys.key, number) → number < s.keys.into.counter

-- ---- one answer is read at one number

same-front : {X : Type 0} (xs ys fs bs : List X) → length xs ≡ length ys → xs ++ fs ≡ ys ++ bs → xs ≡ ys
same-front {X} [] [] fs bs size e = refl
same-front {X} [] (y ∷ ys) fs bs size e = absurd (omega (arith, size))
same-front {X} (x ∷ xs) [] fs bs size e = absurd (omega (arith, size))
same-front {X} (x ∷ xs) (y ∷ ys) fs bs size e =
    let head : x ≡ y = cc in
    let tail : xs ++ fs ≡ ys ++ bs = cc in
    let shorter : length xs ≡ length ys = omega (arith, size) in
    ap (λ (z : X). z ∷ xs) head ∙ ap (λ (l : List X). y ∷ l) (same-front xs ys fs bs shorter tail)

answers-at : (us : Uses) (given : List (List ℕ × Given)) (key : List ℕ) (number : ℕ) (x : Answered) → (r : ReadsAt us given key number x) → AnswersAt given key (length r.front) x.cookie x.tid
answers-at us given key number x r =
    let word : Given = Answers x.cookie r.instruction r.outcome in
    let there : IsAt (r.front ++ (word ∷ r.rest)) (length r.front + 0) word = at-behind r.front (word ∷ r.rest) 0 word refl in
    let same : length r.front + 0 ≡ length r.front = omega arith in
    record {
      instruction = r.instruction;
      outcome = r.outcome;
      stands = subst (λ (l : List Given). IsAt l (length r.front) word) (sym r.stands) (subst (λ (m : ℕ). IsAt (r.front ++ (word ∷ r.rest)) m word) same there);
      tid_is = r.tid_is;
    }

pub one-read : (run : WholeRun) (us : Uses) (given : List (List ℕ × Given)) (key other : List ℕ) (number second : ℕ) (x y : Answered) → AreOnce run us given → (Contains run.leaked x.client → ⊥)
    → ReadsAt us given key number x → ReadsAt us given other second y → x.client ≡ y.client → x.cookie ≡ y.cookie → x.tid ≡ y.tid → (key ≡ other) × (number ≡ second)
one-read run us given key other number second x y once free a b client cookie tid =
    let first = answers-at us given key number x a in
    let last = answers-at us given other second y b in
    let last_so : AnswersAt given other (length b.front) x.cookie x.tid =
    subst (λ (t : ℕ). AnswersAt given other (length b.front) x.cookie t) (sym tid) (subst (λ (c : ℕ). AnswersAt given other (length b.front) c y.tid) (sym cookie) last) in
    let there : IsLinkKey us other x.client b.tie = subst (λ (m : Name). IsLinkKey us other m b.tie) (sym client) b.is in
    let same = once key other x.client a.tie b.tie (length a.front) (length b.front) x.cookie x.tid a.is there free first last_so in
    let stands : given_under key given ≡ b.front ++ (Answers y.cookie b.instruction b.outcome ∷ b.rest) = ap (λ (k : List ℕ). given_under k given) same.0 ∙ b.stands in
    let fronts : a.front ≡ b.front =
    same-front a.front b.front (Answers x.cookie a.instruction a.outcome ∷ a.rest) (Answers y.cookie b.instruction b.outcome ∷ b.rest) same.1 (sym a.stands ∙ stands) in
    (same.0, a.number_is ∙ ap (λ (l : List Given). length (given_parts l)) fronts ∙ sym b.number_is)

-- so one that a link reads now wasn't entered before
pub not-before : (run : WholeRun) (us : Uses) (given : List (List ℕ × Given)) (reads : List (List ℕ × ℕ)) (s : Secured) (x y : Answered) → AreOnce run us given → (Contains run.leaked x.client → ⊥)
    → ReadsOn reads s → ReadsAt us given s.keys.key s.keys.into.counter x → IsRead us given reads y → x.client ≡ y.client → x.cookie ≡ y.cookie → x.tid ≡ y.tid → ⊥
not-before run us given reads s x y once free on a b client cookie tid =
    let same = one-read run us given s.keys.key b.key s.keys.into.counter b.number x y once free a b.at client cookie tid in
    let read : Contains reads (s.keys.key, b.number) = subst (λ (k : List ℕ). Contains reads (k, b.number)) (sym same.0) b.read in
    let low = on b.number read in
    let number = same.1 in
    omega (arith, low, number)

-- ---- what grows

pub read-grows : (us vs : Uses) (given more : List (List ℕ × Given)) (reads others : List (List ℕ × ℕ)) (x : Answered) → Grows us vs → IsRead us given reads x → IsRead vs (given ++ more) (reads ++ others) x
read-grows us vs given more reads others x f r = record {
  key = r.key;
  number = r.number;
  at = record {
    tie = r.at.tie;
    is = link-grows us vs r.key x.client r.at.tie f r.at.is;
    front = r.at.front;
    rest = r.at.rest ++ given_under r.key more;
    instruction = r.at.instruction;
    outcome = r.at.outcome;
    stands = under-append r.key given more ∙ ap (λ (l : List Given). l ++ given_under r.key more) r.at.stands
        ∙ append_assoc r.at.front (Answers x.cookie r.at.instruction r.at.outcome ∷ r.at.rest) (given_under r.key more);
    tid_is = r.at.tid_is;
    number_is = r.at.number_is;
  };
  read = Contains-append_left reads others (r.key, r.number) r.read;
}

-- a frame that is given has parts
some-parts : (x : Given) → 0 < length (plains (given_frame x))
unfolding plains plains_of parts_of
some-parts (Signs code) = omega arith
some-parts (Replies cookie (Admits address flags own)) = omega arith
some-parts (Replies cookie (Resumes last)) = omega arith
some-parts (Replies cookie Resets) = omega arith
some-parts (Replies cookie (Retries kept)) = omega arith
some-parts (Replies cookie (RetriesGlobal kept)) = omega arith
some-parts (Misses features) = omega arith
some-parts (Answers cookie i outcome) = omega arith
some-parts (Acks seq) = omega arith
some-parts (KeepsUp ack) = omega arith

-- a link that has read such a frame reads on behind it
pub reads-on : (reads : List (List ℕ × ℕ)) (s t : Secured) (frame : Frame) (x : Given) → frame ≡ given_frame x → t.keys.key ≡ s.keys.key → t.keys.into ≡ (keys_behind s.keys frame).into → ReadsOn reads s
    → ReadsOn (reads ++ (s.keys.key, s.keys.into.counter) ∷ []) t
reads-on reads s t frame x is key into on number has =
    by_place (Contains-push_cases reads (s.keys.key, s.keys.into.counter) (s.keys.key, number)
    (subst (λ (k : List ℕ). Contains (reads ++ (s.keys.key, s.keys.into.counter) ∷ []) (k, number)) key has))
  where
    counter : t.keys.into.counter ≡ s.keys.into.counter + length (plains frame)
    counter = ap (λ (w : Way). w.counter) into

    some : 0 < length (plains frame)
    some = subst (λ (f : Frame). 0 < length (plains f)) (sym is) (some-parts x)

    by_place : Contains reads (s.keys.key, number) ⊎ (let p : List ℕ × ℕ = (s.keys.key, s.keys.into.counter) in let q : List ℕ × ℕ = (s.keys.key, number) in p ≡ q) → number < t.keys.into.counter
    by_place (inl was) = let low = on number was in let now = counter in omega (arith, low, now)
    by_place (inr same) =
        let here : s.keys.into.counter ≡ number = ap (λ (p : List ℕ × ℕ). p.1) same in
        let now = counter in
        let more = some in
        omega (arith, here, now, more)

-- ---- keys under which something was read

-- a reply gave such a key its link
pub record IsReadBound (us : Uses) (told : Told) (key : List ℕ) : Type 0 where
  pub name : Name
  pub tie : ℕ
  pub is : IsLinkKey us key name tie
  pub bound : IsBound told key name tie

abbrev pub AreReadBound : Uses → Told → List (List ℕ × ℕ) → Type 0
AreReadBound us told reads = (key : List ℕ) (number : ℕ) → Contains reads (key, number) → IsReadBound us told key

-- they stay bound, and so is that of a link that reads now
pub bound-reads : (us vs : Uses) (told next : Told) (log : List Logged) (reads : List (List ℕ × ℕ)) (name : Name) (number : ℕ) (s : Secured) (before : Option ℕ) (read : ℕ) → Grows us vs
    → ((nonce : ℕ) (whose : Name) (second : ℕ) (key : List ℕ) → told.nonces nonce ≡ Bound whose second key → next.nonces nonce ≡ Bound whose second key)
    → IsKeyed us told log name number s before → AreReadBound us told reads → AreReadBound vs next (reads ++ (s.keys.key, read) ∷ [])
bound-reads us vs told next log reads name number s before read f keeps k all key second has = by_place (Contains-push_cases reads (s.keys.key, read) (key, second) has)
  where
    later : (other : List ℕ) → IsReadBound us told other → IsReadBound vs next other
    later other b = record {
      name = b.name;
      tie = b.tie;
      is = link-grows us vs other b.name b.tie f b.is;
      bound = record { nonce = b.bound.nonce; number = b.bound.number; low = b.bound.low; tied = b.bound.tied; stands = keeps b.bound.nonce b.name b.bound.number other b.bound.stands };
    }

    own : IsReadBound us told s.keys.key
    own = record { name = name; tie = raised k.nonce; is = k.is; bound = record { nonce = k.nonce; number = number; low = k.low; tied = refl; stands = k.stands } }

    by_place : Contains reads (key, second) ⊎ (let p : List ℕ × ℕ = (s.keys.key, read) in let q : List ℕ × ℕ = (key, second) in p ≡ q) → IsReadBound vs next key
    by_place (inl was) = later key (all key second was)
    by_place (inr same) = later key (subst (λ (l : List ℕ). IsReadBound us told l) (ap (λ (p : List ℕ × ℕ). p.0) same) own)

-- under the key that a reply gives a link nothing was read yet
pub unread : (us : Uses) (one : (k : List ℕ) (u v : Use) → Means us k u → Means us k v → u ≡ v) (told : Told) (reads : List (List ℕ × ℕ)) (name : Name) (number nonce : ℕ) (x : AuthorizeReply)
    → AreReadBound us told reads → IsShown told name number nonce → HasReply us name x → x.nonce_plus_one ≡ raised nonce → (second : ℕ) → Contains reads (take 16 x.secret, second) → ⊥
unread us one told reads name number nonce x all shown h answers second has =
    let b = all (take 16 x.secret) second has in
    let link : IsLinkKey us (take 16 x.secret) name x.nonce_plus_one = record { acceptor = h.acceptor; number = h.number; service = h.service; means = h.means } in
    let both = link-one us one (take 16 x.secret) b.name name b.tie x.nonce_plus_one b.is link in
    let same : b.bound.nonce ≡ nonce = raised-one b.bound.nonce nonce b.bound.low shown.low (b.bound.tied ∙ both.1 ∙ answers) in
    shown-bound name b.name number b.bound.number (take 16 x.secret) (sym shown.stands ∙ ap (λ (m : ℕ). told.nonces m) (sym same) ∙ b.bound.stands)
