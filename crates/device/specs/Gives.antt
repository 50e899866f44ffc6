-- What a call owes of the reply that its definition says (document 01, "The unit").
use Rattle.std.specs.Prelude.{ℕ, List, ◌≡◌}
use Rattle.message_rules.specs.Answer.{Answer, within, counted, output_after}
use Rattle.device_rules.specs.declared.Device.{Device}
use Rattle.device_rules.specs.declared.Received.{Received}
use Rattle.device_rules.specs.Answers.{receive_result, after_receive}
use Rattle.device_rules.specs.Receive.{Reply}

-- What it tells, and unit and output afterwards.
abbrev pub Gives : Device → List ℕ → Answer Reply (List ℕ) → Received → List ℕ → Type 0
Gives d out x r out' =
    record {
      told : receive_result r.outcome r.device ≡ counted (within out x);
      unit : r.device ≡ after_receive d (within out x);
      output : out' ≡ output_after (within out x) out;
    }
