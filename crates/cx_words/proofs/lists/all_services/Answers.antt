use Rattle.std.proofs.Common.{sym, ◌∙◌, length}
use Rattle.cx_words.proofs.ListWords.{after_comma, refused_comma, last_piece, refused_last, shorter_rest}
use Rattle.cx_words.proofs.lists.all_services.Goals as goal

pub returns-in_default-ticket_service : goal.returns-in_default-ticket_service
returns-in_default-ticket_service c =
    refused_comma c.loop-place.kinds c.loop-place.rest.now c.in-Some.place _ c.loop-place.invariant.read (sym c.comma.ensures.place ∙ c.in-Some.is)
    (sym c.in_default-ticket_service.is ∙ c.ticket_service.ensures.read)

pub loop-place-preserved : goal.loop-place-preserved
loop-place-preserved c = record {
  read = after_comma c.loop-place.kinds c.push.new.self c.in-Some-ticket_service.kind c.loop-place.rest.now c.in-Some.place _ c.loop-place.invariant.read
      (sym c.comma.ensures.place ∙ c.in-Some.is) (sym c.in-Some-ticket_service.is ∙ c.ticket_service.ensures.read) c.in_ok-push.ensures.ok;
  short = shorter_rest c.loop-place.rest.now c.in-Some.place (length c.args.word.now) c.loop-place.invariant.short;
}

pub returns-in_default-ticket_service-2 : goal.returns-in_default-ticket_service-2
returns-in_default-ticket_service-2 c =
    refused_last c.loop-place.kinds c.loop-place.rest.now _ c.loop-place.invariant.read (sym c.comma.ensures.place ∙ c.in_default.is)
    (sym c.in_default-ticket_service-2.is ∙ c.ticket_service-2.ensures.read)

pub returns : goal.returns
returns c =
    last_piece c.loop-place.kinds c.push-2.new.self c.in-Some-ticket_service-2.kind c.loop-place.rest.now _ c.loop-place.invariant.read (sym c.comma.ensures.place ∙ c.in_default.is)
    (sym c.in-Some-ticket_service-2.is ∙ c.ticket_service-2.ensures.read) c.in_ok-push-2.ensures.ok
