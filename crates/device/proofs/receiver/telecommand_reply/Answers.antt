-- Carried by what the writer says of the answer: written, the unit is as the command leaves it; refused, as it came.
use Rattle.device_rules.specs.Receive.{command_reply}
use Rattle.device.proofs.Replies.{answer_gives, refusal_gives}
use Rattle.device.proofs.receiver.telecommand_reply.Goals as goal

pub returns-in-Ok : goal.returns-in-Ok
unfolding command_reply
returns-in-Ok c =
    let says = c.in-Ok.ensures in
    rw (← c.after_command.ensures, ← c.command_fault-fault.ensures, ← c.command_answer-answer.ensures) (answer_gives _ _ _ _ _ says.out_after _ says.result_value)

pub returns-in-Err : goal.returns-in-Err
unfolding command_reply
returns-in-Err c =
    let says = c.in-Err.ensures in
    rw (← c.command_fault-fault.ensures, ← c.command_answer-answer.ensures) (refusal_gives _ _ _ _ _ says.out_after _ says.result_value)
