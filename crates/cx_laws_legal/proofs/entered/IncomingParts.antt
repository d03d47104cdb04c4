-- What is handled on an incoming link has an address, whatever the daemon's book replies: it was read as an operation.
use Rattle.std.proofs.Common.{Result, Ok, Err, ◌≡◌, subst}
use Rattle.cx_desk.specs.Handlers.{Handlers}
use Rattle.cx_journal.specs.declared.entries.Entry.{Entry}
use Rattle.cx_journal.specs.declared.faults.BytesFault.{BytesFault}
use Rattle.cx_laws_run.specs.cx_rules.specs.Messages.{message_in}
use Rattle.cx_laws_run.specs.cx_rules_session.specs.IncomingLinks.{IncomingArrival, IncomingStage, IncomingRow}
use Rattle.cx_laws_run.specs.cx_rules_session.specs.Hosting.{Hosted, Instruction, incoming_turned, instruction_of}
use Rattle.cx_laws_run.specs.cx_run.proofs.Always.{Always}
use Rattle.cx_laws_run.specs.cx_run.proofs.IncomingWalk.{ClosesIncoming, Enters, EntersAdmitted, EntersHandled, EntersLook, EntersResumed, EntersWhy, incoming-rows}
use Rattle.cx_laws_run.specs.cx_run.proofs.Taking.{EachRow}
use Rattle.cx_laws_legal.proofs.entered.ReadParts.{IsReadWithParts, instruction-parts}
use Rattle.cx_laws_legal.proofs.entered.Shown.{AreParts, RowHasParts, HasParts}

abbrev Parts_ : IncomingArrival → IncomingRow → Type 0
Parts_ a row = RowHasParts row

handled-parts : (i : Instruction) (read : Result Instruction BytesFault) → IsReadWithParts read → read ≡ Ok i → AreParts i.operation
handled-parts i (Ok j) parts is = let same : j ≡ i = cc in subst (λ (x : Instruction). AreParts x.operation) same parts
handled-parts i (Err why) parts is = absurd cc

closes-parts : ClosesIncoming Parts_
closes-parts = record {
  shut = λ a why seals. (tt, tt);
  sent = λ a row bytes h. h;
  went = λ a stage bytes seals. tt;
  wrote = λ a e row enters h. (by_entry a e enters, h);
  opened = λ a parts row h. h;
}
  where
    by_entry : (a : IncomingArrival) (e : Entry) → Enters a e → HasParts e
    by_entry a _ EntersLook = tt
    by_entry a _ (EntersWhy why) = tt
    by_entry a _ (EntersAdmitted owner number epoch cookie) = tt
    by_entry a _ (EntersResumed owner number epoch cookie) = tt
    by_entry a _ (EntersHandled f served i outcome is) = handled-parts i (instruction_of (message_in f)) (instruction-parts (message_in f)) is

pub incoming-parts : (handlers : Handlers) (a : IncomingArrival) (stage : IncomingStage) → Always (λ (h : Hosted). EachRow RowHasParts h.turned) (incoming_turned handlers a stage)
incoming-parts handlers a stage = incoming-rows Parts_ closes-parts handlers a RowHasParts (λ n ahead row h. h) stage
