-- What a sink took into the bytes that its writer holds.
use Rattle.std.proofs.Common.{◌≡◌, ℕ, ◌-◌, List, ◌++◌, length, take, drop, Option, Some, None, Ok, Err, refl, sym, ap, ◌∙◌, append_assoc, length-drop}
use Rattle.std.specs.Prelude.{OnErr, Result}
use Rattle.std.proofs.lemmas.List.{take-append-drop}
use Rattle.std.proofs.Math.Seq.{take-append_seam, take-length}
use Rattle.std.specs.Io.KnownBytes.{Appends, Keeps}
use Rattle.cx_base.specs.Streams.{TakesFront}

-- the writer has taken all of the bytes but the rest
pub record Wrote (old now : Option (List ℕ)) (bytes rest : List ℕ) : Type 0 where
  pub done : List ℕ
  pub whole : bytes ≡ done ++ rest
  pub took : Appends old now done

appends_again : (old now new : Option (List ℕ)) (done more : List ℕ) → Appends old now done → Appends now new more → Appends old new (done ++ more)
appends_again None now new done more took took' = tt
appends_again (Some xs) None new done more took took' = absurd took
appends_again (Some xs) (Some ys) None done more took took' = absurd took'
appends_again (Some xs) (Some ys) (Some zs) done more took took' = took' ∙ ap (λ k. k ++ more) took ∙ append_assoc xs done more

appends_kept : (old now new : Option (List ℕ)) (done : List ℕ) → Appends old now done → Keeps now new → Appends old new done
appends_kept None now new done took kept = tt
appends_kept (Some xs) None new done took kept = absurd took
appends_kept (Some xs) (Some ys) None done took kept = absurd kept
appends_kept (Some xs) (Some ys) (Some zs) done took kept = kept ∙ took

-- what is left behind the bytes that were taken
pub rest_is : (n : ℕ) (xs : List ℕ) → take (length xs - n) (drop n xs) ≡ drop n xs
rest_is n xs = ap (λ k. take k (drop n xs)) (sym (length-drop n xs)) ∙ take-length (drop n xs)

pub wrote_more : (old now new : Option (List ℕ)) (bytes rest after : List ℕ) (n : ℕ) → Wrote old now bytes rest → Appends now new (take n rest) → after ≡ drop n rest → Wrote old new bytes after
wrote_more old now new bytes rest after n w took is = record {
  done = w.done ++ take n rest;
  whole = rw (is, append_assoc, take-append-drop n rest) w.whole;
  took = appends_again old now new w.done (take n rest) w.took took;
}

pub wrote_kept : (old now new : Option (List ℕ)) (bytes rest : List ℕ) → Wrote old now bytes rest → Keeps now new → Wrote old new bytes rest
wrote_kept old now new bytes rest w kept = record { done = w.done; whole = w.whole; took = appends_kept old now new w.done w.took kept }

-- what is written is a front
pub takes_front : (old now : Option (List ℕ)) (bytes rest : List ℕ) → Wrote old now bytes rest → TakesFront old now bytes
takes_front None now bytes rest w = tt
takes_front (Some xs) None bytes rest w = absurd w.took
takes_front (Some xs) (Some ys) bytes rest w =
    let front : take (length w.done) bytes ≡ w.done = ap (take (length w.done)) w.whole ∙ take-append_seam w.done rest in
    (length w.done, ap Some (w.took ∙ ap (λ k. xs ++ k) (sym front)))

pub front_kept : (old now new : Option (List ℕ)) (bytes rest : List ℕ) → Wrote old now bytes rest → Keeps now new → TakesFront old new bytes
front_kept old now new bytes rest w kept = takes_front old new bytes rest (wrote_kept old now new bytes rest w kept)

pub front_more : (old now new : Option (List ℕ)) (bytes rest : List ℕ) (n : ℕ) → Wrote old now bytes rest → Appends now new (take n rest) → TakesFront old new bytes
front_more old now new bytes rest n w took = takes_front old new bytes (drop n rest) (wrote_more old now new bytes rest (drop n rest) n w took refl)

pub on_err : {X E : Type 0} (r : Result X E) (P : Type 0) → P → OnErr r P
on_err (Ok x) P h = tt
on_err (Err e) P h = h
