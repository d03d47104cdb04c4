-- Sends, opens and shuts grow one by one.
use Rattle.std.proofs.Common.{ℕ, ◌≡◌, ◌<◌, ◌+◌, Bool, List, [], ◌∷◌, ◌++◌, map, take, length, get_or, Option, refl, sym, ap, ◌∙◌, subst, append_assoc, append-nil}
use Rattle.std.proofs.lemmas.List.{take_more}
use Rattle.cx_drive.specs.Steps.{Opening, Sending, address_of, carried_dues, gone_behind, gone_dues, is_gone, lost_acts, open_act, open_acts, open_due, open_dues, opening, regard_act, regard_acts, saved_acts, send_act, send_acts, sending, shut_acts, with_send}
use Rattle.cx_drive.specs.Stops.{Carried, HandedOut, Opens, Sends}
use Rattle.cx_drive.specs.declared.dues.Due.{Due}
use Rattle.cx_drive.specs.declared.peers.Peers.{Peers}
use Rattle.cx_outside.specs.declared.regard.Regard.{Regard}
use Rattle.cx_outside.specs.site.Acts.{Act}
use Rattle.cx_steps.specs.declared.effects.Effects.{Effects}
use Rattle.cx_steps.specs.declared.effects.Piece.{Piece}
use Rattle.cx_steps.specs.declared.events.Peer.{Peer}

map_push : {X Y : Type 0} → (f : X → Y) (xs : List X) (x : X) → map f (xs ++ x ∷ []) ≡ map f xs ++ f x ∷ []
map_push f [] x = refl
map_push f (y ∷ xs) x = ap (λ k. f y ∷ k) (map_push f xs x)

gone_push : (gone : List ℕ) (ss : List Sending) (s : Sending)
    → gone_behind gone (ss ++ s ∷ []) ≡ with_send (is_gone (gone_behind gone ss) s.piece.link) (gone_behind gone ss) s
gone_push gone [] s = refl
gone_push gone (x ∷ ss) s = gone_push (with_send (is_gone gone x.piece.link) gone x) ss s

sends_push : (gone : List ℕ) (ss : List Sending) (s : Sending)
    → send_acts gone (ss ++ s ∷ []) ≡ send_acts gone ss ++ send_act (is_gone (gone_behind gone ss) s.piece.link) s
sends_push gone [] s = append-nil (send_act (is_gone gone s.piece.link) s)
sends_push gone (x ∷ ss) s =
    let next : List ℕ = with_send (is_gone gone x.piece.link) gone x in
    ap (λ k. send_act (is_gone gone x.piece.link) x ++ k) (sends_push next ss s)
    ∙ sym (append_assoc (send_act (is_gone gone x.piece.link) x) (send_acts next ss) (send_act (is_gone (gone_behind next ss) s.piece.link) s))

opens_push : (peers : Peers) (os : List Opening) (o : Opening) → open_acts peers (os ++ o ∷ []) ≡ open_acts peers os ++ open_act (address_of peers o.peer) o
opens_push peers [] o = append-nil (open_act (address_of peers o.peer) o)
opens_push peers (x ∷ os) o =
    ap (λ k. open_act (address_of peers x.peer) x ++ k) (opens_push peers os o)
    ∙ sym (append_assoc (open_act (address_of peers x.peer) x) (open_acts peers os) (open_act (address_of peers o.peer) o))

open_dues_push : (peers : Peers) (os : List Opening) (o : Opening) → open_dues peers (os ++ o ∷ []) ≡ open_dues peers os ++ open_due (address_of peers o.peer) o ∷ []
open_dues_push peers [] o = refl
open_dues_push peers (x ∷ os) o = ap (λ k. open_due (address_of peers x.peer) x ∷ k) (open_dues_push peers os o)

regards_push : (regards : ℕ → Option Regard) (links : List ℕ) (link : ℕ)
    → regard_acts regards (links ++ link ∷ []) ≡ regard_acts regards links ++ regard_act link (regards link)
regards_push regards [] link = append-nil (regard_act link (regards link))
regards_push regards (x ∷ links) link =
    ap (λ k. regard_act x (regards x) ++ k) (regards_push regards links link)
    ∙ sym (append_assoc (regard_act x (regards x)) (regard_acts regards links) (regard_act link (regards link)))

-- the links of one piece more
more_links : (pieces : List Piece) (i : ℕ) (p : Piece) → i < length pieces → p ≡ get_or pieces i p
    → map (λ (q : Piece). q.link) (take (i + 1) pieces) ≡ map (λ (q : Piece). q.link) (take i pieces) ++ p.link ∷ []
more_links pieces i p lt is =
    ap (λ (ps : List Piece). map (λ (q : Piece). q.link) ps) (take_more pieces i p lt ∙ ap (λ (q : Piece). take i pieces ++ q ∷ []) (sym is))
    ∙ map_push (λ (q : Piece). q.link) (take i pieces) p

module _ {D : Type 0} (follows : D → D → List Act → Type 0)
    (goes_on : (a b c : D) (xs ys : List Act) → follows a b xs → follows b c ys → follows a c (xs ++ ys)) where
  pub sends_on : (pieces : List Piece) (i : ℕ) (p : Piece) (ok : Bool) (from mid to : D) (gone gone' : List ℕ) → i < length pieces → p ≡ get_or pieces i p
      → Sends follows (take i pieces) from mid gone → follows mid to (send_act (is_gone gone p.link) (sending p ok))
      → gone' ≡ with_send (is_gone gone p.link) gone (sending p ok) → Sends follows (take (i + 1) pieces) from to gone'
  sends_on pieces i p ok from mid to gone gone' lt is so acts more = record {
    sends = so.sends ++ sending p ok ∷ [];
    sent = map_push (λ s. s.piece) so.sends (sending p ok) ∙ ap (λ ps. ps ++ p ∷ []) so.sent ∙ ap (λ q. take i pieces ++ q ∷ []) is ∙ sym (take_more pieces i p lt);
    acts = subst (follows from to) (sym (sends_push [] so.sends (sending p ok)))
        (goes_on from mid to _ _ so.acts (subst (λ g. follows mid to (send_act (is_gone g p.link) (sending p ok))) so.behind acts));
    behind = more ∙ ap (λ g. with_send (is_gone g p.link) g (sending p ok)) so.behind ∙ sym (gone_push [] so.sends (sending p ok));
  }

  pub opens_on : (peers : Peers) (done : List Peer) (p : Peer) (number : Option ℕ) (from mid to : D) (old dues dues' : List Due)
      → Opens follows peers done from mid old dues → follows mid to (open_act (address_of peers p) (opening p number))
      → dues' ≡ dues ++ open_due (address_of peers p) (opening p number) ∷ [] → Opens follows peers (done ++ p ∷ []) from to old dues'
  opens_on peers done p number from mid to old dues dues' so acts more = record {
    opens = so.opens ++ opening p number ∷ [];
    tried = map_push (λ o. o.peer) so.opens (opening p number) ∙ ap (λ ps. ps ++ p ∷ []) so.tried;
    acts = subst (follows from to) (sym (opens_push peers so.opens (opening p number))) (goes_on from mid to _ _ so.acts acts);
    behind = more ∙ ap (λ ds. ds ++ open_due (address_of peers p) (opening p number) ∷ []) so.behind
        ∙ append_assoc old (open_dues peers so.opens) (open_due (address_of peers p) (opening p number) ∷ [])
        ∙ ap (λ ds. old ++ ds) (sym (open_dues_push peers so.opens (opening p number)));
  }

  pub regards_on : (regards : ℕ → Option Regard) (pieces : List Piece) (i : ℕ) (p : Piece) (from mid to : D) → i < length pieces → p ≡ get_or pieces i p
      → follows from mid (regard_acts regards (map (λ q. q.link) (take i pieces))) → follows mid to (regard_act p.link (regards p.link))
      → follows from to (regard_acts regards (map (λ q. q.link) (take (i + 1) pieces)))
  regards_on regards pieces i p from mid to lt is so told =
      subst (λ (links : List ℕ). follows from to (regard_acts regards links)) (sym (more_links pieces i p lt is))
      (subst (follows from to) (sym (regards_push regards (map (λ q. q.link) (take i pieces)) p.link)) (goes_on from mid to _ _ so told))

  -- what was handed out: sends, opens, shuts, and the link that is lost
  pub handed : (peers : Peers) (out : Effects) (a b c d e : D) (gone : List ℕ) (old mid new : List Due) → Sends follows out.sends a b gone → mid ≡ old ++ gone_dues gone
      → Opens follows peers out.opens b c mid new → follows c d (shut_acts out.shuts) → follows d e (lost_acts out.lost) → HandedOut follows peers out a e old new
  handed peers out a b c d e gone old mid new sends noted opens shuts lost = record {
    sends = sends.sends;
    opens = opens.opens;
    carried = record { sent = sends.sent; asked = opens.tried };
    acts = goes_on a b e _ _ sends.acts (goes_on b c e _ _ opens.acts (goes_on c d e _ _ shuts lost));
    behind = opens.behind ∙ ap (λ ds. ds ++ open_dues peers opens.opens) noted
        ∙ append_assoc old (gone_dues gone) (open_dues peers opens.opens)
        ∙ ap (λ g. old ++ (gone_dues g ++ open_dues peers opens.opens)) sends.behind;
  }

  -- saved, and then handed out
  pub carried : (peers : Peers) (out : Effects) (a b c : D) (old mid new : List Due) → mid ≡ old → follows a b (saved_acts out.save)
      → HandedOut follows peers out b c mid new → Carried follows peers out a c old new
  carried peers out a b c old mid new same saved handed = record {
    sends = handed.sends;
    opens = handed.opens;
    carried = handed.carried;
    acts = goes_on a b c _ _ saved handed.acts;
    behind = handed.behind ∙ ap (λ ds. ds ++ carried_dues peers handed.sends handed.opens) same;
  }
