-- Carried by the law of the data: where its checks pass, what tells the error lies within it.
use Prim.Native.Nat.{◌-◌, ◌≤◌}
use mathlib.Core.Path.{◌≡◌, ap}
use native.Mathlib.Omega.{arith}
use Rattle.message_rules.specs.Kinds.{error_length}
use Rattle.message_rules.specs.declared.Message.{Message}
use Rattle.message_rules.proofs.Data.{data-room}
use Rattle.serial_reader.proofs.reader.read_data.Goals as goal

pub read_payload-requires : goal.read_payload-requires
read_payload-requires c =
    let m = c.error_fields_carried-message in
    let same : error_length m.result.kind ≡ error_length c.args.kind = ap (λ (x : Message). error_length x.kind) m.ensures in
    let room : error_length m.result.kind ≤ c.args.frame.now.count - c.front_length-front.result = data-room _ _ _ c.check_data.ensures c.in_ok-check_data.was in
    omega (arith, room, same, c.error_length.ensures)
