-- The marked cases hold: the definitions compute to what document 01 says.
use mathlib.Core.Path.{refl}
use Rattle.little_endian_rules.specs.LittleEndian as LittleEndianRules
use Rattle.message_rules.specs.Answer as MessageAnswer
use Rattle.message_rules.specs.Kinds as MessageKinds
use Rattle.message_rules.specs.Checks as MessageChecks
use Rattle.message_rules.specs.Data as MessageData
use Rattle.csp_rules.specs.Csp as CspRules
use Rattle.serial_rules.specs.Stuffing as SerialStuffing
use Rattle.serial_rules.specs.Frames as SerialFrames
use Rattle.can_rules.specs.Can as CanRules
use Rattle.link_rules.specs.Link as LinkRules
use Rattle.file_rules.specs.File as FileRules
use Rattle.file_rules.specs.Checksum as FileChecksum
use Rattle.file_rules.specs.Setup as FileSetup
use Rattle.device_rules.specs.Device as DeviceRules
use Rattle.device_rules.specs.Faults as DeviceFaults
use Rattle.device_rules.specs.Commands as DeviceCommands
use Rattle.device_rules.specs.Work as DeviceWork
use Rattle.device_rules.specs.Receive as DeviceReceive
use Rattle.device_rules.specs.Answers as DeviceAnswers
use Rattle.sender_rules.specs.Sender as SenderRules
use Rattle.sender_rules.specs.Hearing as SenderHearing
use Rattle.round_rules.specs.Requester as RoundRequester
use Rattle.round_rules.specs.World as RoundWorld
use Rattle.round_rules.specs.Schedule as RoundSchedule
use Rattle.link_rules.specs.declared.Link.{Link}
use Rattle.link_rules.specs.declared.Link.TheVariants.{Uart, Rs485, Can, Csp}
use Rattle.marked_rules.proofs.Setups.{Accepts, AcceptsBroadcast, Finishes, Starts}
use Rattle.marked_rules.specs.Cases.{setup_on, opened, after_rounds, all_delivered, asked_again, NothingLost, AnswerLost, cases, AllHold}

on_every : (P : Link → Type 0) → P Uart → P Rs485 → P Can → P Csp → (l : Link) → P l
on_every P uart rs485 can csp Uart = uart
on_every P uart rs485 can csp Rs485 = rs485
on_every P uart rs485 can csp Can = can
on_every P uart rs485 can csp Csp = csp

-- All is computed under one list of definitions: the cases, and the worlds that demand 3 begins with, which `Starts` cites.
computed : AllHold cases × ((l : Link) → Accepts l) × AcceptsBroadcast × ((l : Link) → Finishes l) × ((l : Link) → Starts l)
unfolding setup_on opened after_rounds all_delivered asked_again
    LittleEndianRules.from_bytes LittleEndianRules.to_bytes
    MessageAnswer.require MessageAnswer.after MessageAnswer.within MessageAnswer.about
    MessageKinds.inside MessageKinds.type_kind MessageKinds.error_carried MessageKinds.index_carried MessageKinds.carried_on
    MessageChecks.id_legal MessageChecks.payload_legal MessageChecks.error_legal MessageChecks.field_checks MessageChecks.error_told
    MessageChecks.writable MessageChecks.write_checks MessageChecks.data_fits MessageChecks.data_checks
    MessageData.error_bytes MessageData.data_bytes MessageData.data_message MessageData.data_read
    CspRules.csp_typed CspRules.csp_read CspRules.csp_head CspRules.csp_write
    SerialStuffing.doubled SerialStuffing.escaped SerialStuffing.scan
    SerialFrames.start_row SerialFrames.by_id SerialFrames.kind_of SerialFrames.id_field SerialFrames.address_field SerialFrames.id_bytes
    SerialFrames.address_bytes SerialFrames.source_legal SerialFrames.source_checked SerialFrames.kind_read SerialFrames.identified
    SerialFrames.frame_body SerialFrames.closed SerialFrames.row_read SerialFrames.started SerialFrames.frame_read SerialFrames.front_fields
    SerialFrames.frame_bytes SerialFrames.checked_frame SerialFrames.frame_write
    CanRules.series_type CanRules.series_kind CanRules.kind_or CanRules.kind_of_type CanRules.identifier CanRules.can_frame CanRules.in_series CanRules.series CanRules.frames_after CanRules.can_bytes CanRules.can_write
    CanRules.type_legal CanRules.zeros CanRules.first_fits CanRules.first_checks CanRules.later_fits CanRules.same_bytes CanRules.later_checks CanRules.prepend
    CanRules.later_frames CanRules.all_frames CanRules.can_error CanRules.can_message CanRules.can_id_legal CanRules.can_fits CanRules.message_checks CanRules.complete CanRules.can_read
    LinkRules.link_read LinkRules.link_write LinkRules.link_carried
    FileRules.size_legal FileRules.frame_count FileRules.file_frame
    FileChecksum.bit_step FileChecksum.bit_steps FileChecksum.high_first FileChecksum.byte_step FileChecksum.byte_steps FileChecksum.checksum
    FileSetup.setup_bytes FileSetup.setup_read
    DeviceRules.buffered_frame DeviceRules.no_transfer DeviceRules.new_device
    DeviceFaults.fault DeviceFaults.is_repeat DeviceFaults.setup_fault DeviceFaults.is_last_stored DeviceFaults.is_out_of_sequence DeviceFaults.take_fault DeviceFaults.frame_fault
    DeviceFaults.command_fault
    DeviceCommands.new_transfer DeviceCommands.setup_done DeviceCommands.take_done DeviceCommands.frame_done DeviceCommands.transfer_done DeviceCommands.command_done
    DeviceCommands.after_command
    DeviceReceive.addressing DeviceReceive.answer_source DeviceReceive.answer_to DeviceReceive.info_bytes DeviceReceive.command_answer
    DeviceReceive.command_reply DeviceReceive.telemetry_reply DeviceReceive.kind_reply
    DeviceReceive.after_broadcast DeviceReceive.addressed_reply DeviceReceive.message_reply DeviceReceive.receive DeviceAnswers.after_receive
    DeviceWork.is_last_frame DeviceWork.frame_stored DeviceWork.finished_job DeviceWork.unit_stored DeviceWork.has_room DeviceWork.work DeviceWork.store_after DeviceWork.after_work
    SenderRules.new_sender SenderRules.addresses_legal SenderRules.start SenderRules.request_payload SenderRules.request_message
    SenderRules.same_file SenderRules.request SenderRules.frames_known
    SenderHearing.fits SenderHearing.taken_error SenderHearing.compared SenderHearing.confirmed SenderHearing.informed SenderHearing.ack_meaning
    SenderHearing.nack_meaning SenderHearing.info_meaning SenderHearing.kind_meaning SenderHearing.meaning SenderHearing.waited
    SenderHearing.has_next SenderHearing.advanced SenderHearing.round_over SenderHearing.hear
    RoundRequester.lent RoundRequester.kept
    RoundWorld.bytes_or RoundWorld.requester_or RoundWorld.does RoundWorld.run
    RoundSchedule.exchange RoundSchedule.requested RoundSchedule.round_calls RoundSchedule.scheduled
computed =
    let p11 : (l : Link) → NothingLost l = on_every NothingLost (refl, refl, refl, refl) (refl, refl, refl, refl) (refl, refl, refl, refl) (refl, refl, refl, refl) in
    let p12 : (l : Link) → AnswerLost l = on_every AnswerLost (refl, refl, refl) (refl, refl, refl) (refl, refl, refl) (refl, refl, refl) in
    let setup : (l : Link) → Accepts l = on_every Accepts (refl, refl, refl, refl, refl, refl) (refl, refl, refl, refl, refl, refl) (refl, refl, refl, refl, refl, refl) (refl, refl, refl, refl, refl, refl) in
    let broadcast : AcceptsBroadcast = (refl, refl, refl, refl, refl, refl) in
    let next : (l : Link) → Finishes l = on_every Finishes (refl, refl, refl, refl, refl, refl, refl) (refl, refl, refl, refl, refl, refl, refl) (refl, refl, refl, refl, refl, refl, refl) (refl, refl, refl, refl, refl, refl, refl) in
    let starts : (l : Link) → Starts l = on_every Starts (λ n. refl) (λ n. refl) (λ n. refl) (λ n. refl) in
    ((refl, (refl, (refl, (refl, (refl, (refl, (refl, ((refl, refl), ((refl, refl), ((refl, refl), ((refl, refl), (refl, (refl, (refl, (p11, (p12, tt)))))))))))))))), setup, broadcast, next, starts)

pub marked : AllHold cases
marked = computed.0

pub setup-accepted : (l : Link) → Accepts l
setup-accepted = computed.1

pub broadcast_accepted : AcceptsBroadcast
broadcast_accepted = computed.2

pub job-finished : (l : Link) → Finishes l
job-finished = computed.3

pub job-starts : (l : Link) → Starts l
job-starts = computed.4
