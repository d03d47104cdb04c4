-- The keys that a link is secured with.
use Rattle.std.proofs.Common.{◌≡◌, ℕ, Bool, true, false, List, length, None, refl, sym, ap, ◌∙◌}
use Rattle.std.proofs.lemmas.List.{drop_at}
use Rattle.cx_rules.specs.Secured.{Way as KeyWay, way_at}
use Rattle.cx_rules.specs.cx_secure.specs.Sealings.{IsWayAt, Starts, connection_key}
use Rattle.cx_rules.specs.cx_secure.specs.declared.sealing.Sealing.{Sealing}
use Rattle.cx_rules.specs.cx_secure.specs.declared.sealing.Way.{Way}
use Rattle.cx_rules.specs.cx_stream.specs.Held.{Held}
use Rattle.cx_rules.specs.cx_stream.specs.Received.{Received}
use Rattle.cx_link.specs.Wires.{SecureWire, ahead_in, keys_of_side, plain_wire, secure_wire}

abbrev seen : Way → KeyWay
seen way = record { fixed = way.fixed; counter = way.counter }

way_is : (secret : List ℕ) (i : ℕ) (way : Way) → IsWayAt secret i way → seen way ≡ way_at secret i
way_is secret i way is =
    let at : List ℕ → ℕ → KeyWay = λ fixed counter. record { fixed = fixed; counter = counter } in
    ap (λ f. at f way.counter) is.fixed ∙ ap (at _) is.counter

wire : List ℕ → KeyWay → KeyWay → List ℕ → SecureWire
wire key out into bytes = record { keys = record { key = key; out = out; into = into }; ahead = bytes }

joined : (key same : List ℕ) (out sends into opens : KeyWay) (bytes rest : List ℕ) → key ≡ same → out ≡ sends → into ≡ opens → bytes ≡ rest → wire key out into bytes ≡ wire same sends opens rest
joined key same out sends into opens bytes rest a b c d =
    ap (λ k. wire k out into bytes) a ∙ ap (λ (w : KeyWay). wire same w into bytes) b ∙ ap (λ (w : KeyWay). wire same sends w bytes) c ∙ ap (wire same sends opens) d

pub secures : (s : Received) (sent secret : List ℕ) (connector : Bool) (sealing : Sealing) → Starts secret connector sealing
    → (let held : Held = record { sealing = sealing; head = None; rest = s.rest } in secure_wire held) ≡ record { keys = keys_of_side connector secret; ahead = ahead_in (plain_wire s sent) }
unfolding wire
secures s sent secret true sealing is =
    joined (connection_key sealing) _ (seen sealing.out) _ (seen sealing.into) _ s.rest _ is.key (way_is secret 28 sealing.out is.out) (way_is secret 16 sealing.into is.into)
    (sym (drop_at s.taken s.rest (length s.taken) refl))
secures s sent secret false sealing is =
    joined (connection_key sealing) _ (seen sealing.out) _ (seen sealing.into) _ s.rest _ is.key (way_is secret 16 sealing.out is.out) (way_is secret 28 sealing.into is.into)
    (sym (drop_at s.taken s.rest (length s.taken) refl))
