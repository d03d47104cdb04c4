-- A turn that handles what stands next on a link, and the link behind it.
use Rattle.std.proofs.Common.{◌≡◌, ℕ, ◌==◌, Bool, true, false, cond, List, [], ◌∷◌, ◌++◌, Option, Some, None, Result, Ok, Err, refl, ap, subst, ◌∙◌, arith, eqb-true}
use Rattle.std.specs.Prelude.{filter, nat_lt}
use Rattle.std.proofs.lemmas.Bool.{eq-eqb, ltb-true, ne_eqb}
use Rattle.cx_base.specs.declared.nodes.NodeName.TheVariants as node
use Rattle.cx_stream.specs.cx_frame.specs.declared.frame.Frame.{Frame}
use Rattle.cx_stream.specs.cx_frame.specs.declared.refusals.FrameRefusal.{FrameRefusal}
use Rattle.cx_stream.specs.cx_secure.specs.declared.refusals.SecureRefusal.{SecureRefusal}
use Rattle.cx_login.specs.cx_steps.specs.declared.seals.SealEntry.{SealEntry}
use Rattle.cx_stream.specs.PlainStreams.{plain_frame_at}
use Rattle.cx_stream.specs.SecureStreams.{secure_frame_at}
use Rattle.cx_rules.specs.Fronts.{Front, Next, ahead_of, opened_parts, plain_next, plain_read, sealed_ahead, secure_next, secure_read}
use Rattle.cx_rules.specs.Inputs.{Turn}
use Rattle.cx_rules.specs.Links.{Link, link_of, put_link}
use Rattle.cx_rules.specs.Monitor.{MonitorNode, MonitorRow, MonitorStage}
use Rattle.cx_rules.specs.MonitorRule.{monitor_rule, noted, turn, turned_at}
use Rattle.cx_rules.specs.Rows.{Handles, arrival, carried_out, turns}
use Rattle.cx_rules.specs.Secured.{Keys}

module _ {Stage : Type 0} where
  -- ---- a link in its place

  below-none : (n : ℕ) (links rest : List (Link Stage)) → link_of n (filter (λ (l : Link Stage). nat_lt l.number n) links ++ rest) ≡ link_of n rest
  below-none n [] rest = refl
  below-none n (l ∷ links) rest = by_test (nat_lt l.number n) refl (below-none n links rest)
    where
      by_test : (t : Bool) → nat_lt l.number n ≡ t → link_of n (filter (λ (k : Link Stage). nat_lt k.number n) links ++ rest) ≡ link_of n rest
          → link_of n (cond t (l ∷ filter (λ (k : Link Stage). nat_lt k.number n) links) (filter (λ (k : Link Stage). nat_lt k.number n) links) ++ rest) ≡ link_of n rest
      by_test true lt later =
          let other : (l.number == n) ≡ false = ne_eqb l.number n (λ e. omega (arith, ltb-true l.number n lt)) in
          rw other later
      by_test false lt later = later

  -- a link that is put in its place is found there
  pub put-found : (n : ℕ) (link : Link Stage) (links : List (Link Stage)) → link.number ≡ n → link_of n (put_link link links) ≡ Some link
  put-found n link links e = subst (λ k. link_of k (put_link link links) ≡ Some link) e here
    where
      here : link_of link.number (put_link link links) ≡ Some link
      here =
          let same : (link.number == link.number) ≡ true = eq-eqb link.number link.number refl in
          below-none link.number links (link ∷ filter (λ (l : Link Stage). nat_lt link.number l.number) links) ∙ rw same refl

  -- a link that is found has that number
  pub found-number : (n : ℕ) (links : List (Link Stage)) (link : Link Stage) → link_of n links ≡ Some link → link.number ≡ n
  found-number n [] link e = absurd cc
  found-number n (l ∷ links) link e = by_test (l.number == n) refl (found-number n links link) e
    where
      by_test : (t : Bool) → (l.number == n) ≡ t → (link_of n links ≡ Some link → link.number ≡ n) → cond t (Some l) (link_of n links) ≡ Some link → link.number ≡ n
      by_test true same later is = let one : l ≡ link = cc in subst (λ (k : Link Stage). k.number ≡ n) one (eqb-true l.number n same)
      by_test false same later is = later is

  -- ---- what stands next leaves the number of the link as it is

  abbrev PlainStays : ℕ → Front (Link Stage × Frame) → Type 0
  PlainStays n (Next (link, f) opened) = link.number ≡ n
  PlainStays n _ = Unit {0}

  abbrev SecureStays : ℕ → Front (Link Stage × Frame × Keys) → Type 0
  SecureStays n (Next (link, f, keys) opened) = link.number ≡ n
  SecureStays n _ = Unit {0}

  plain-stays : (link : Link Stage) (r : Result (Option (Frame × ℕ)) FrameRefusal) → PlainStays link.number (plain_read link r)
  plain-stays link (Ok None) = tt
  plain-stays link (Ok (Some (f, n))) = refl
  plain-stays link (Err e) = tt

  secure-stays : (keys : Keys) (link : Link Stage) (opened : List SealEntry) (r : Result (Option (Frame × ℕ)) SecureRefusal) → SecureStays link.number (secure_read keys link opened r)
  secure-stays keys link opened (Ok None) = tt
  secure-stays keys link opened (Ok (Some (f, n))) = refl
  secure-stays keys link opened (Err e) = tt

  pub plain-number : (link behind : Link Stage) (f : Frame) → plain_next link ≡ Next (behind, f) [] → behind.number ≡ link.number
  plain-number link behind f e = subst (PlainStays link.number) e (plain-stays link (plain_frame_at (ahead_of link)))

  pub secure-number : (keys keys_behind : Keys) (link behind : Link Stage) (f : Frame) (opened : List SealEntry) → secure_next keys link ≡ Next (behind, f, keys_behind) opened → behind.number ≡ link.number
  secure-number keys keys_behind link behind f opened e =
      subst (SecureStays link.number) e (secure-stays keys link (opened_parts (sealed_ahead keys link)) (secure_frame_at (sealed_ahead keys link)))

-- ---- a turn

-- a turn that handles what stands next is the row that is carried out
pub turn-handles : (m : MonitorNode) (number reading : ℕ) (draw : List ℕ) (link : Link MonitorStage) (row : MonitorRow) → link_of number m.links ≡ Some link
    → turned_at (arrival node.Monitor (noted m).own link reading draw) link.stage ≡ Handles row
    → monitor_rule m (Turn number) reading draw ≡ carried_out (noted m) number true row
turn-handles m number reading draw link row found handled =
    ap (turn (noted m) reading draw) found
    ∙ ap (turns (noted m) (arrival node.Monitor (noted m).own link reading draw)) handled
    ∙ ap (λ n. carried_out (noted m) n true row) (found-number number m.links link found)
