-- Carried by the unit's address, which is not 0.
use Rattle.std.proofs.Common.{◌≡◌, ℕ, arith, rules}
use Rattle.std.specs.Prelude.{Result, Ok, Err, IsOk}
use Rattle.message_rules.specs.Answer.{value_result, after, require}
use Rattle.message_rules.specs.declared.Refusal.{Refusal}
use Rattle.link_rules.specs.declared.Link.{Link}
use Rattle.device_rules.specs.Device.{make}
use Rattle.device_rules.specs.declared.Device.{Device}
use Rattle.rehearse.proofs.rehearsal.Rehearsal.first_run.Goals as goal

made : (l : Link) (r : Result Device Refusal) → value_result r ≡ make l 31 → IsOk r
unfolding value_result make after require
made l (Ok d) says = search rules
made l (Err f) says = absurd (let z : ◌≡◌ {A = ℕ} 0 1 = cc in omega arith)

pub unwrap-unit-requires : goal.unwrap-unit-requires
unwrap-unit-requires g c = made _ c.make.result c.make.ensures
