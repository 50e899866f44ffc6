-- Carried by the test of the room: the frame goes after what is stored.
use Rattle.std.proofs.Common.{◌≡◌, ◌+◌, ◌-◌, sym, ◌∙◌, arith}
use lib.Seq.{drop-drop}
use Rattle.device_rules.proofs.Buffers.{frame_of_buffer}
use Rattle.device_rules.proofs.Works.{stored_gives}
use Rattle.device_work.proofs.work.Goals as goal

pub returns-clause-store_after : goal.returns-clause-store_after
returns-clause-store_after c =
    let transfer = c.args.device.transfer in
    let part : transfer.stored + c.buffered_length-length.result - transfer.stored ≡ c.buffered_length-length.result = omega arith in
    let gives = stored_gives c.args.device c.args.store.now c.if-not-transfer.false (sym c.has_room.ensures ∙ c.if-not-has_room.false) in
    rw (part, drop-drop, c.copy_from_slice.ensures.after, c.buffered_length-length.ensures.length_value, frame_of_buffer transfer) gives.1
