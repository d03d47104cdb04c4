-- What a link to the monitor, at either end, takes next of the other end: where nothing that opens under its key is excepted, the next word that was said under
-- it.
use Rattle.std.proofs.Common.{◌≡◌, ℕ, Bool, List, [], ◌∷◌, ◌++◌, Option, Some, Ok, inl, refl, sym, ap, ◌∙◌, subst, append_assoc}
use Rattle.std.specs.Prelude.{Contains}
use Rattle.cx_base.specs.Names.{Name}
use Rattle.cx_base.specs.declared.nodes.NodeName.{NodeName}
use Rattle.cx_frame.specs.declared.frame.Frame.{Frame}
use Rattle.cx_journal.specs.declared.entries.Entry.{Entry}
use Rattle.cx_laws_tickets.specs.cx_laws_keys.proofs.keys.Known.{Inv}
use Rattle.cx_laws_tickets.specs.cx_laws_keys.proofs.keys.Premises.{AreGranted}
use Rattle.cx_laws_tickets.specs.cx_laws_keys.proofs.keys.Uses.{Connected, Means, Tie, Uses, WholeRun}
use Rattle.cx_laws_keys.specs.cx_rules.specs.Fronts.{keys_behind, opened_parts, sealed_ahead}
use Rattle.cx_laws_keys.specs.cx_rules.specs.Links.{Link}
use Rattle.cx_laws_keys.specs.cx_rules.specs.Secured.{Keys}
use Rattle.cx_steps.specs.Premises.{IsExcepted}
use Rattle.cx_steps.specs.declared.seals.Logged.{Logged}
use Rattle.cx_laws_keys.specs.cx_stream.specs.Openings.{front_contents}
use Rattle.cx_laws_keys.specs.cx_stream.specs.SecureStreams.{secure_frame_at}
use Rattle.cx_laws_tickets.proofs.fetch.AskedKnown.{AreSaid, HasTaken, IsLoginKey, Truth}
use Rattle.cx_laws_tickets.proofs.fetch.Later.{IsEnd, IsLaterSeries}
use Rattle.cx_laws_tickets.proofs.fetch.NextWord.{IsShaped, NextWord, next-word, opened-sealed, taken-counter}
use Rattle.cx_laws_tickets.proofs.fetch.Words.{AreFrames, IsIn, in-right, parts_of, said-has, said_under}

some_name : (x y : Name) → (let o : Option Name = Some x in let p : Option Name = Some y in o ≡ p) → x ≡ y
some_name x y e = cc

-- what opens under the key of a link to an entity that didn't leak is excepted nowhere
pub none-excepted : (run : WholeRun) (whole : List Logged) (us : Uses) (log : List Logged) (J : List Entry) (n at : NodeName) (key : List ℕ) (number : ℕ) (name : Name) (tie : Tie)
    → Inv run whole us log J → Means us key (Connected n number name tie) → (Contains run.leaked name → ⊥) → IsExcepted run.leaked whole at key → ⊥
none-excepted run whole us log J n at key number name tie i means free excepted =
    let l = i.leaks key (Connected n number name tie) means excepted.leak in
    free (subst (λ (m : Name). Contains run.leaked m) (some_name l.0 name (sym l.1)) l.2)

frames-behind : {W : Type 0} (frame_of : W → Frame) (xs ys : List W) → AreFrames frame_of (xs ++ ys) → AreFrames frame_of ys
frames-behind frame_of [] ys h = h
frames-behind frame_of (x ∷ xs) ys h = frames-behind frame_of xs ys h.1

module _ {W : Type 0} (frame_of : W → Frame) (shaped : (word : W) → IsShaped (frame_of word)) (test : List ℕ → Bool) (T : Truth W) (us : Uses) (said : List (List ℕ × W)) (log : List Logged)
    (t : AreSaid frame_of test T us said log) (key : List ℕ) (name : Name) (challenge : ℕ) (is : IsLoginKey us key name challenge) where
  -- what the log has of that end is what was said
  series-there : IsLaterSeries test log key (parts_of frame_of (said_under key said))
  series-there = by_said (said_under key said) refl
    where
      by_said : (xs : List W) → said_under key said ≡ xs → IsLaterSeries test log key (parts_of frame_of (said_under key said))
      by_said [] e =
          subst (λ (ps : List (List ℕ)). IsLaterSeries test log key ps) (sym (ap (λ (l : List W). parts_of frame_of l) e)) (t.silent key name challenge is e)
      by_said (x ∷ xs) e = (t.spoken key x (said-has key said x xs e)).series

  frames-there : AreFrames frame_of (said_under key said)
  frames-there = by_said (said_under key said) refl
    where
      by_said : (xs : List W) → said_under key said ≡ xs → AreFrames frame_of xs
      by_said [] e = tt
      by_said (x ∷ xs) e = subst (AreFrames frame_of) e (t.spoken key x (said-has key said x xs e)).frames

  -- the word that was taken, and what was taken behind it
  pub record TakesWord (f : Frame) (counter : ℕ) : Type 0 where
    pub word : W
    pub frame : f ≡ frame_of word
    pub said_so : IsIn word (said_under key said)
    pub behind : HasTaken frame_of (said_under key said) counter

  -- a frame that is read under these keys, behind what was taken, is the next word
  pub takes-word : {Stage : Type 0} (run : WholeRun) (whole : List Logged) (n : NodeName) (line : ℕ) → (IsExcepted run.leaked whole n key → ⊥) → (keys : Keys) → keys.key ≡ key
      → IsEnd test keys.into.fixed → HasTaken frame_of (said_under key said) keys.into.counter → (link : Link Stage) (f : Frame) (m : ℕ)
      → AreGranted run.leaked whole n line log (opened_parts (sealed_ahead keys link)) → secure_frame_at (sealed_ahead keys link) ≡ Ok (Some (f, m))
      → TakesWord f (keys_behind keys f).into.counter
  takes-word run whole n line held keys same end h link f m g read =
      let ahead = sealed_ahead keys link in
      let not_excepted : IsExcepted run.leaked whole n keys.key → ⊥ = λ excepted. held (subst (λ (k : List ℕ). IsExcepted run.leaked whole n k) same excepted) in
      let sealed = opened-sealed run.leaked whole n line keys.key not_excepted (front_contents ahead) log log (λ mark was. was) g in
      let series : IsLaterSeries test log keys.key (parts_of frame_of (said_under key said)) =
      subst (λ (k : List ℕ). IsLaterSeries test log k (parts_of frame_of (said_under key said))) (sym same) series-there in
      let fit : AreFrames frame_of h.rest = frames-behind frame_of h.taken h.rest (subst (AreFrames frame_of) h.front frames-there) in
      let next : NextWord frame_of shaped f h.rest =
      next-word frame_of shaped test log keys.key (said_under key said) h.taken h.rest series h.front ahead end h.counter_is sealed f m fit read in
      let split : said_under key said ≡ h.taken ++ next.word ∷ next.later = h.front ∙ ap (λ (l : List W). h.taken ++ l) next.is in
      record {
        word = next.word;
        frame = next.frame;
        said_so = subst (λ (l : List W). IsIn next.word l) (sym split) (in-right next.word h.taken (next.word ∷ next.later) (inl refl));
        behind = record {
          taken = h.taken ++ next.word ∷ [];
          rest = next.later;
          front = split ∙ sym (append_assoc h.taken (next.word ∷ []) next.later);
          counter_is = taken-counter frame_of shaped keys.into.counter h.taken next.word f h.counter_is next.frame;
        };
      }
