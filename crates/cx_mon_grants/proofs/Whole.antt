-- A ticket that a key server issued is whole.
use Rattle.std.proofs.Common.{◌≡◌, ℕ, ◌/◌, ◌^◌, ◌<◌, Bool, true, false, cond, Some, None, refl, arith}
use Rattle.cx_base.specs.Texts.{is_caps}
use Rattle.cx_enc.specs.Forms.{passed}
use Rattle.cx_enc.specs.Moments.{IsReading}
use Rattle.cx_enc.specs.Values.{reading_form, time_form}
use Rattle.cx_keyserver.specs.Issuing.{Asked, IsOpenable, service_ticket_of, ticket_info_of}
use Rattle.cx_keyserver.specs.Servers.{Server}
use Rattle.cx_keyserver.specs.declared.tickets.Ticket.{Ticket}
use Rattle.cx_sealed.specs.Records.{service_ticket_layout, ticket_info_layout}
use Rattle.cx_mon_grants.specs.Handing.{IsWhole}
use Rattle.cx_mon_grants.proofs.Envelopes.{length-opens}

is_reading : (reading : ℕ) → reading_form.Fits reading → IsReading reading
unfolding reading_form time_form
is_reading reading fits = let below : reading / 1000000000 < 2 ^ 32 = fits.0.0 in omega arith

passed_good : {A : Type 0} (good : A → Bool) (a x : A) → passed good a ≡ Some x → good a ≡ true
passed_good {A} good a x e = by_test (good a) refl e
  where
    by_test : (t : Bool) → good a ≡ t → cond t (Some a) None ≡ Some x → good a ≡ true
    by_test true is made = is
    by_test false is made = absurd cc

pub openable_whole : (server : Server) (asked : Asked) (ticket : Ticket) → IsOpenable server asked ticket → IsWhole ticket
openable_whole server asked ticket is =
    let blob = is.opens.blob in
    let info = is.opens.info in
    let fits = blob.2.0 in
    record {
      created = is_reading ticket.created fits.1.1.1.1.0;
      expires = is_reading ticket.expires fits.1.1.1.1.1.0;
      caps = passed_good is_caps ticket.caps ticket.caps fits.1.1.1.1.1.1.1;
      info = length-opens ticket_info_layout.form _ ticket.info (ticket_info_of ticket) info;
      blob = length-opens service_ticket_layout.form _ ticket.blob (service_ticket_of ticket) blob;
    }
