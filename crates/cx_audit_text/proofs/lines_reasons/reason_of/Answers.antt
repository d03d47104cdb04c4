use Rattle.cx_audit_text.proofs.lines_reasons.reason_of.Goals as goal

pub returns-in-Plain : goal.returns-in-Plain
returns-in-Plain c = rw c.in-Plain.is (c.plain_of.ensures c.args.counted)

pub returns-in-Numbered : goal.returns-in-Numbered
returns-in-Numbered c = rw c.in-Numbered.is (c.numbered_of.ensures c.args.counted)

pub returns-in-Full : goal.returns-in-Full
returns-in-Full c = rw c.in-Full.is (c.full_of.ensures c.args.counted)

pub returns-in-Unexpected : goal.returns-in-Unexpected
returns-in-Unexpected c = rw c.in-Unexpected.is (c.unexpected_of.ensures c.args.counted)

pub returns-in-Denied : goal.returns-in-Denied
returns-in-Denied c = rw c.in-Denied.is (c.denied_of.ensures c.args.counted)

pub returns-in-NonceWrong : goal.returns-in-NonceWrong
returns-in-NonceWrong c = rw c.in-NonceWrong.is (c.nonce_wrong_of.ensures c.args.counted)

pub returns-in-NoTicket : goal.returns-in-NoTicket
returns-in-NoTicket c = rw c.in-NoTicket.is (c.no_ticket_of.ensures c.args.counted)

pub returns-in-WrongService : goal.returns-in-WrongService
returns-in-WrongService c = rw c.in-WrongService.is (c.wrong_service_of.ensures c.args.counted)

pub returns-in-OwnerDiffers : goal.returns-in-OwnerDiffers
returns-in-OwnerDiffers c = rw c.in-OwnerDiffers.is (c.owner_differs_of.ensures c.args.counted)
