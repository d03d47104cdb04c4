-- A reader and what was told may be seen by several threads: what they own says the same to each.
use denote.RattleType.{RattleType}
use denote.Param.Send.{IsSend, IsSync, sendable, part_keyless, struct_sync, recorded_sync}
use denote.Struct.Declared.{shape}
use Rattle.std.proofs.Crossing.{frees}
use Rattle.std.proofs.alloc.Global.TheSendSync as alloc
use Rattle.std.specs.contracts.alloc.Global as heap
use Rattle.std.specs.contracts.collections.LinkedList as list
use Rattle.std.specs.contracts.impls.GlobalAllocator.TheImpl.{ghosts}
use Rattle.std.specs.contracts.option.Option as option
use Rattle.atomic_table.proofs.shared.Seat.TheSendSync as seat
use Rattle.atomic_table.specs.contracts.shared.Seat.{the_row}
use Rattle.left_right.proofs.part.Part.TheSendSync as part
use Rattle.left_right.proofs.reader.Factory.TheSendSync as factory
use Rattle.left_right.specs.contracts.part.Part as parts
use Rattle.left_right.specs.contracts.reader.Reader as reader
use Rattle.cx_rotate.specs.contracts.views.View as view
use Rattle.cx_shared.proofs.looks.Look.TheSendSync as looks
use Rattle.cx_shared.specs.contracts.looks.Look as look
use Rattle.cx_shared.specs.contracts.reader.SecretsReader as secrets
use Rattle.cx_shared.specs.contracts.reader.SecretsReader.TheInside as secrets_inside
use Rattle.cx_shared.specs.contracts.rule.Renewed as renewed
use Rattle.cx_shared.specs.contracts.rule.RenewedProtocolLookViews.TheImpl as rule
use Rattle.cx_shared.specs.contracts.writer.Told as told
use Rattle.cx_shared.specs.contracts.writer.Told.TheInside as told_inside

-- a seat of the table that writer and readers share may be seen, where what a slot holds may go to another thread
seat_sync : (S V : RattleType) → IsSend S → IsSync (the_row S V)
seat_sync S V s = record { shared = λ d b o κ q. part_keyless (the_row S V) (seat.the_send S V s) q d b o }

look_sync : IsSync look.the_row
look_sync = looks.the_sync

-- a slot of the table holds a part of a look, if one
held_send : IsSend (option.the_row (parts.the_row look.the_row))
held_send = search (sendable, part.the_send, look_sync) depth 20

abbrev views : RattleType
views = list.the_row view.the_row heap.the_row ghosts

reader_sync : IsSync (reader.the_field look.the_row views renewed.the_row heap.the_row rule.ghosts ghosts).row
reader_sync =
    let board = factory.the_field_sync look.the_row views renewed.the_row heap.the_row rule.ghosts ghosts alloc.the_send look_sync alloc.the_sync frees in
    struct_sync (shape (reader.the_type look.the_row views renewed.the_row heap.the_row rule.ghosts ghosts)) (board, (seat_sync _ _ held_send, (search sendable, tt)))

secrets_inside_sync : IsSync secrets_inside.the_row
secrets_inside_sync = recorded_sync secrets_inside.the_field.row _ _ secrets_inside.the_type.to_one (struct_sync (shape secrets_inside.the_type) (search (sendable, reader_sync) depth 20, (looks.the_field_sync, tt)))

told_inside_sync : IsSync told_inside.the_row
told_inside_sync = recorded_sync told_inside.the_field.row _ _ told_inside.the_type.to_one (struct_sync (shape told_inside.the_type) (reader_sync, (looks.the_field_sync, tt)))

pub secrets_sync : IsSync secrets.the_row
secrets_sync = search (sendable, secrets_inside_sync)

pub told_sync : IsSync told.the_row
told_sync = search (sendable, told_inside_sync)
