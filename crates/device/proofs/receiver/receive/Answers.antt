-- Carried by what the reader answers: a payload always fits the 256 bytes, so a refusal is one of the bytes themselves.
use mathlib.Core.Path.{sym}
use lib.ListN.{length}
use lib.Seq.{length-take-le}
use Rattle.link_rules.proofs.Reading.{unreadable, readable}
use Rattle.device_rules.proofs.Receive.{unreadable_silent, message-replied}
use Rattle.device.proofs.Replies.{silence_gives}
use Rattle.device.proofs.receiver.receive.Goals as goal

pub returns-in_default : goal.returns-in_default
returns-in_default c =
    let e = c.read.ensures in
    let gives = silence_gives _ _ _ _ _ c.silence.ensures (unreadable_silent _ _ _ _ (unreadable _ _ _ _ e.result_value e.out_after _ c.in_default.is)) in
    record { device_value = gives.told; device_value_2 = gives.unit; out_after = gives.output }

pub slice_bounds-payload-end : goal.slice_bounds-payload-end
slice_bounds-payload-end c =
    let e = c.read.ensures in
    (readable _ _ _ _ e.result_value e.out_after _ _ c.in-Ok.is).1

pub slice_bounds-message_reply-end : goal.slice_bounds-message_reply-end
slice_bounds-message_reply-end c =
    let e = c.read.ensures in
    sym (length-take-le _ _ (readable _ _ _ _ e.result_value e.out_after _ _ c.in-Ok.is).1)

pub returns : goal.returns
returns c =
    let e = c.read.ensures in
    let m = readable _ _ _ _ e.result_value e.out_after _ _ c.in-Ok.is in
    let gives = c.message_reply.ensures in
    rw (message-replied c.args.device (length c.args.store.now) _ _ _ m.0) (record { device_value = gives.told; device_value_2 = gives.unit; out_after = gives.output })
