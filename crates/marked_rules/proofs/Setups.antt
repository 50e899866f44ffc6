-- The setup of P11 and P12, on every link: a new unit with own address 31 takes it; and on RS485 the same setup as a broadcast. And what P11 leaves.
use Rattle.std.specs.Prelude.{None, Some}
use Prim.Native.Nat.{ℕ}
use mathlib.Core.Bool.{false}
use mathlib.Core.List.{List, []}
use mathlib.Core.Path.{◌≡◌}
use lib.ListN.{length}
use Rattle.message_rules.specs.Answer.{given, within}
use Rattle.message_rules.specs.declared.Kind.TheVariants.{Telecommand}
use Rattle.file_rules.specs.Setup.{setup_bytes}
use Rattle.link_rules.specs.Link.{link_carried, link_read}
use Rattle.link_rules.specs.declared.Link.{Link}
use Rattle.link_rules.specs.declared.Link.TheVariants.{Rs485}
use Rattle.device_rules.specs.Answers.{after_receive}
use Rattle.device_rules.specs.Device.{is_open, new_device}
use Rattle.device_rules.specs.Faults.{command_fault}
use Rattle.device_rules.specs.Receive.{Reply, answers, silent, addressing, receive}
use Rattle.device_rules.specs.declared.Addressing.{Addressing}
use Rattle.device_rules.specs.declared.Addressing.TheVariants.{Own, Broadcast}
use Rattle.device_rules.specs.declared.Device.{Device}
use Rattle.round_rules.specs.Schedule.{output}
use Rattle.round_rules.specs.World.{bytes_or}
use Rattle.sender_rules.specs.Sender.{new_sender, start}
use Rattle.marked_rules.specs.Cases.{plain, setup_on, opened, all_delivered}

-- Written for a destination, it reads as telecommand 20, the call is not refused and leaves the unit opened, answered or not, and a sender starts.
abbrev pub Accepted : Link → ℕ → Addressing → List ℕ → (Device → Reply) → Type 0
Accepted l destination a out reply =
    let unit = new_device l 31 in
    let room = length (opened l).store in
    let message = link_carried l (plain Telecommand 20 255 destination) in
    let answer = bytes_or [] (receive unit room (setup_on l destination)) in
    (link_read l (setup_on l destination) ≡ given message (setup_bytes 300 7))
    × (addressing l 31 message ≡ a)
    × (command_fault unit room 20 (setup_bytes 300 7) ≡ None)
    × (within out (receive unit room (setup_on l destination)) ≡ given (reply (opened l).device) answer)
    × (after_receive unit (given (reply (opened l).device) answer) ≡ (opened l).device)
    × (start l 255 31 300 None ≡ given (opened l).requester tt)

-- For the unit, acked,
abbrev pub Accepts : Link → Type 0
Accepts l = Accepted l 31 Own output answers

-- and as a broadcast, in silence and without an output.
abbrev pub AcceptsBroadcast : Type 0
AcceptsBroadcast = Accepted Rs485 0 Broadcast [] silent

-- A unit that has finished job 7 can take another: nothing is pending, no job is open, and the store is as long as before. A sender starts with one.
abbrev pub Finishes : Link → Type 0
Finishes l =
    let unit = (all_delivered l).device in
    (unit.link ≡ l)
    × (unit.own ≡ 31)
    × (is_open unit.transfer.phase ≡ false)
    × (unit.transfer.pending ≡ false)
    × (unit.transfer.job ≡ None)
    × (unit.finished ≡ Some 7)
    × (length (all_delivered l).store ≡ 303)

abbrev pub Starts : Link → Type 0
Starts l = (number : ℕ) → start l 255 31 300 (Some number) ≡ given (new_sender l 255 31 300 (Some number)) tt
