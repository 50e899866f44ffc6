-- Carried by the law of the data: where its checks pass, what tells the error lies within it.
use mathlib.Core.Path.{◌≡◌}
use Rattle.message_rules.specs.Kinds.{error_length}
use Rattle.message_rules.proofs.Data.{data-room}
use Rattle.csp_reader.proofs.read_data.Goals as goal

pub slice_bounds-payload-count : goal.slice_bounds-payload-count
slice_bounds-payload-count c =
    let m = c.error_fields_carried-message in
    let same : error_length m.result.kind ≡ error_length c.args.kind = rw m.ensures in
    rw (c.error_length.ensures, ← same) (data-room _ _ _ c.check_data.ensures c.in_ok-check_data.was)

pub slice_bounds-payload-start : goal.slice_bounds-payload-start
slice_bounds-payload-start c = slice_bounds-payload-count c
