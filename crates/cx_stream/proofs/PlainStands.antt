-- What a stream of plain frames stands for behind a turn.
use Rattle.std.proofs.Common.{◌≡◌, ℕ, ◌+◌, List, [], ◌∷◌, ◌++◌, take, drop, Option, Some, None, Result, Ok, Err, sym, ap, subst, ◌∙◌, append_assoc, append-nil}
use Rattle.std.specs.List.{flat_map}
use Rattle.std.proofs.Math.Seq.{take-add}
use Rattle.std.proofs.lemmas.Grind.{flat_map-append}
use Rattle.std.proofs.lemmas.List.{take-append-drop, drop-drop}
use Rattle.std.proofs.lemmas.List.Elements.{All-append, All-cons, All-nil}
use Rattle.cx_frame.specs.Banners.{banner_text}
use Rattle.cx_frame.specs.Frames.{frame_text}
use Rattle.cx_frame.specs.declared.frame.Frame.{Frame}
use Rattle.cx_stream.specs.Received.{Received}
use Rattle.cx_stream.specs.Fronts.{frame_in, given_by}
use Rattle.cx_stream.specs.PlainStreams.{AgreesPlain, BeginsNoPlain, IsPlain, IsPlainAt, Stands, Takes, TakesGiven, plain_frame_at}
use Rattle.cx_stream.specs.declared.faults.StreamFault.{StreamFault}
use Rattle.cx_stream.proofs.PlainFronts.{plain_again}

abbrev Answer : Type 0
Answer = Result (Option Frame) StreamFault

-- so many bytes more are taken
pub takes_more : (old : Received) (items rest : List ℕ) (k n : ℕ) (f : Frame)
    → (let seen : Received = record { taken = take k items; rest = drop k items } in seen ≡ old) → rest ≡ drop k items → IsPlainAt rest f n
    → (let new : Received = record { taken = take (k + n) items; rest = drop (k + n) items } in Takes old new f)
takes_more old items rest k n f seen rest_is front =
    let new : Received = record { taken = take (k + n) items; rest = drop (k + n) items } in
    subst (λ (o : Received). Takes o new f) seen (record {
      len = n;
      front = subst (λ (b : List ℕ). IsPlainAt b f n) rest_is front;
      taken = take-add k n items;
      rest = sym (drop-drop n k items);
    })

given_one : (new old : Received) (f : Frame) (fed : List ℕ) (given : List Frame) → Takes old new f → Stands old fed given → Stands new fed (given ++ f ∷ [])
given_one new old f fed given takes s =
    let front : List ℕ = take takes.len old.rest in
    let behind : List ℕ = drop takes.len old.rest in
    let banner : List ℕ = banner_text s.banner s.skipped in
    let one : front ≡ flat_map frame_text (f ∷ []) = takes.front.text ∙ sym (append-nil (frame_text f)) in
    record {
      banner = s.banner;
      skipped = s.skipped;
      few = s.few;
      plain = All-append IsPlain given (f ∷ []) s.plain (All-cons IsPlain f [] takes.front.plain (All-nil IsPlain));
      taken =
          takes.taken ∙ ap (λ t. t ++ front) s.taken ∙ append_assoc banner (flat_map frame_text given) front
          ∙ ap (λ t. banner ++ (flat_map frame_text given ++ t)) one ∙ ap (λ t. banner ++ t) (sym (flat_map-append frame_text given (f ∷ [])));
      whole =
          s.whole ∙ ap (λ r. old.taken ++ r) (sym (take-append-drop takes.len old.rest)) ∙ sym (append_assoc old.taken front behind)
          ∙ ap (λ t. t ++ behind) (sym takes.taken) ∙ ap (λ r. new.taken ++ r) (sym takes.rest);
    }

as_before : (new old : Received) (fed : List ℕ) (given : List Frame) → new ≡ old → Stands old fed given → Stands new fed (given ++ [])
as_before new old fed given same s = subst (λ gs. Stands new fed gs) (sym (append-nil given)) (subst (λ (o : Received). Stands o fed given) (sym same) s)

pub turned_stands : (old new : Received) (r : Answer) → TakesGiven old new r → (fed : List ℕ) (given : List Frame) → Stands old fed given → Stands new fed (given ++ given_by r)
turned_stands old new (Ok (Some f)) takes fed given s = given_one new old f fed given takes s
turned_stands old new (Ok None) same fed given s = as_before new old fed given same s
turned_stands old new (Err e) same fed given s = as_before new old fed given same s

no_frame : (r : Result (Option Frame) Rattle.cx_frame.specs.declared.refusals.FrameRefusal.FrameRefusal) (f : Frame) → r ≡ Ok None → r ≡ Ok (Some f) → ⊥
no_frame r f none some = cc

-- where nothing is given, no frame is there
pub none_there : (rest : List ℕ) (r : Answer) → AgreesPlain r (frame_in (plain_frame_at rest)) → r ≡ Ok None → BeginsNoPlain rest
none_there rest r agrees is = λ f more fine text.
    no_frame (frame_in (plain_frame_at rest)) f
    (subst (λ (x : Answer). AgreesPlain x (frame_in (plain_frame_at rest))) is agrees)
    (ap (λ b. frame_in (plain_frame_at b)) text ∙ ap frame_in (plain_again f more fine))
