-- Carried by the law of each link's fields.
use Rattle.serial_writer.proofs.Framed.{uart-fields, rs485-fields}
use Rattle.serial_writer.proofs.writer.fields.Goals as goal

pub returns-in-Uart : goal.returns-in-Uart
returns-in-Uart c = rw (c.in-Uart.is, c.error_number-error.ensures) (uart-fields c.args.message)

pub returns-in-Rs485 : goal.returns-in-Rs485
returns-in-Rs485 c = rw (c.in-Rs485.is, c.error_number-error.ensures) (rs485-fields c.args.message)
