-- The papers' sentences on the stages, each a law of the definitions: carried by computing them from what the sentence supposes.
use Rattle.std.specs.Prelude.{None, Some}
use Prim.Native.Nat.{ℕ, ◌+◌, ◌<◌}
use mathlib.Core.Bool.{true, false}
use mathlib.Core.List.{List, []}
use mathlib.Core.Path.{◌≡◌, refl, sym, ap, ◌∙◌}
use native.Mathlib.Omega.{arith}
use borrow.Author.Tests.{eq-eqb, ne_eqb, lt-ltb, le-ltb}
use lib.ListN.{length}
use Rattle.message_rules.specs.Answer.{given}
use Rattle.message_rules.specs.Kinds.{error_carried}
use Rattle.message_rules.specs.declared.Kind.TheVariants.{TelecommandAck, TelecommandNack, TelemetryResponse}
use Rattle.message_rules.specs.declared.Message.{Message}
use Rattle.file_rules.specs.Checksum.{checksum}
use Rattle.file_rules.specs.Detection.{with_two}
use Rattle.file_rules.specs.File.{frame_count, file_frame}
use Rattle.file_rules.proofs.Frames.{frame-most}
use Rattle.file_rules.proofs.Exchanged.{exchanged_detected}
use Rattle.link_rules.specs.Link.{link_read, carries_error}
use Rattle.link_rules.specs.declared.Link.{Link}
use Rattle.link_rules.specs.declared.Link.TheVariants.{Uart, Rs485, Can, Csp}
use Rattle.link_rules.proofs.Laws.{no_bytes}
use Rattle.round_rules.specs.Requester.{is_running}
use Rattle.round_rules.specs.declared.State.TheVariants.{Running, Finished, GivenUp}
use Rattle.sender_rules.specs.Hearing.{fits, taken_error, info_number, info_size, info_checksum, info_error, compared, confirmed, informed, ack_meaning, nack_meaning, info_meaning, kind_meaning, meaning, one_more, waited, has_next, advanced, round_over, hear}
use Rattle.sender_rules.specs.Sender.{new_sender}
use Rattle.sender_rules.specs.declared.Meaning.TheVariants.{Stay, Flagged}
use Rattle.sender_rules.specs.declared.Sender.{Sender}
use Rattle.sender_rules.specs.declared.Stage.{Stage}
use Rattle.sender_rules.specs.declared.Stage.TheVariants.{Setup, Frame, Back, Compare, Take, Confirm}

-- "A sender started with a job number has one stage before frame 0's A" (document 02, ticket 5), and one without begins there.
module _ (l : Link) (source destination n : ℕ) where
  pub job-begins : (number : ℕ) → (new_sender l source destination n (Some number)).stage ≡ Setup
  unfolding new_sender
  job-begins number = refl

  pub plain-begins : (new_sender l source destination n None).stage ≡ Frame
  unfolding new_sender
  plain-begins = refl

-- A sender, and an answer that fits.
module _ (s : Sender) (file : List ℕ) (m : Message) (p : List ℕ) (fit : fits s m ≡ true) where
  abbrev next : Sender
  next = round_over s (meaning s file (given m p))

  -- Document 02, ticket 5: "sends setup; ack: A", of the same frame, and no nack leads there.
  pub acked_a : s.stage ≡ Setup → m.kind ≡ TelecommandAck → (next.stage ≡ Frame) × (next.frame ≡ s.frame) × (next.since ≡ 0)
  unfolding meaning kind_meaning ack_meaning round_over advanced waited
  acked_a at kind = rw (fit, kind, at) (refl, refl, refl)

  pub nacked-setup : s.stage ≡ Setup → m.kind ≡ TelecommandNack → next.stage ≡ Setup
  unfolding meaning kind_meaning nack_meaning round_over waited
  nacked-setup at kind = rw (fit, kind, at)

  -- A: "Ack: B."
  pub acked_b : s.stage ≡ Frame → m.kind ≡ TelecommandAck → next.stage ≡ Compare
  unfolding meaning kind_meaning ack_meaning round_over advanced
  acked_b at kind = rw (fit, kind, at)

  pub acked_again : s.stage ≡ Back → m.kind ≡ TelecommandAck → next.stage ≡ Compare
  unfolding meaning kind_meaning ack_meaning round_over waited
  acked_again at kind = rw (fit, kind, at)

  -- C: "Ack, nack 3, nack 6 or "not told" nack: D."
  pub acked_d : s.stage ≡ Take → m.kind ≡ TelecommandAck → next.stage ≡ Confirm
  unfolding meaning kind_meaning ack_meaning round_over advanced
  acked_d at kind = rw (fit, kind, at)

  pub nacked_three : s.stage ≡ Take → m.kind ≡ TelecommandNack → m.error ≡ Some 3 → next.stage ≡ Confirm
  unfolding meaning kind_meaning nack_meaning taken_error round_over advanced
  nacked_three at kind error = rw (fit, kind, at, error)

  pub nacked_six : s.stage ≡ Take → m.kind ≡ TelecommandNack → m.error ≡ Some 6 → next.stage ≡ Confirm
  unfolding meaning kind_meaning nack_meaning taken_error round_over advanced
  nacked_six at kind error = rw (fit, kind, at, error)

  pub nacked-not-told : s.stage ≡ Take → m.kind ≡ TelecommandNack → m.error ≡ None → next.stage ≡ Confirm
  unfolding meaning kind_meaning nack_meaning taken_error round_over advanced
  nacked-not-told at kind error = rw (fit, kind, at, error)

  -- And no other nack: "any other answer [..]: stays".
  pub nacked-other : (e : ℕ) → s.stage ≡ Take → m.kind ≡ TelecommandNack → m.error ≡ Some e → (e ≡ 3 → ⊥) → (e ≡ 6 → ⊥) → next.stage ≡ Take
  unfolding meaning kind_meaning nack_meaning taken_error round_over waited
  nacked-other e at kind error three six = rw (fit, kind, at, error, ne_eqb e 3 three, ne_eqb e 6 six)

  module _ (info : m.kind ≡ TelemetryResponse) (seven : length p ≡ 7) where
    -- B: "Size and checksum equal: C. Differing: back to A."
    pub equal_c : s.stage ≡ Compare → info_error p ≡ false → info_size p ≡ length (file_frame file s.frame) → info_checksum p ≡ checksum (file_frame file s.frame) → next.stage ≡ Take
    unfolding meaning kind_meaning info_meaning informed compared round_over advanced
    equal_c at clear size check = rw (fit, info, at, eq-eqb (length p) 7 seven, clear, eq-eqb _ _ size, eq-eqb _ _ check)

    pub differing_a : s.stage ≡ Compare → info_error p ≡ false → (info_size p ≡ length (file_frame file s.frame) → ⊥) → next.stage ≡ Back
    unfolding meaning kind_meaning info_meaning informed compared round_over waited
    differing_a at clear size = rw (fit, info, at, eq-eqb (length p) 7 seven, clear, ne_eqb _ _ size)

    pub differing_checksum : s.stage ≡ Compare → info_error p ≡ false → info_size p ≡ length (file_frame file s.frame) → (info_checksum p ≡ checksum (file_frame file s.frame) → ⊥) → next.stage ≡ Back
    unfolding meaning kind_meaning info_meaning informed compared round_over waited
    differing_checksum at clear size check = rw (fit, info, at, eq-eqb (length p) 7 seven, clear, eq-eqb _ _ size, ne_eqb _ _ check)

    -- So two exchanged bytes lead back to A (document 02, ticket 6: "A byte sum misses two exchanged bytes.").
    pub exchanged_a : (front between back : List ℕ) (a b : ℕ) → a < 256 → b < 256 → (a ≡ b → ⊥) → file_frame file s.frame ≡ with_two front a between b back
        → s.stage ≡ Compare → info_error p ≡ false → info_size p ≡ length (file_frame file s.frame) → info_checksum p ≡ checksum (with_two front b between a back)
        → next.stage ≡ Back
    exchanged_a front between back a b ha hb differ is at clear size check =
        let few = rw is at (frame-most file s.frame) in
        differing_checksum at clear size (λ e. exchanged_detected front between back a b ha hb few differ (sym (ap checksum is) ∙ sym e ∙ check))

    -- D: "Number i: A for the next frame,
    pub number-next : s.stage ≡ Confirm → info_error p ≡ false → info_number p ≡ s.frame → s.frame + 1 < frame_count s.size → (next.stage ≡ Frame) × (next.frame ≡ s.frame + 1)
    unfolding meaning kind_meaning info_meaning informed confirmed round_over advanced has_next
    number-next at clear number more = rw (fit, info, at, eq-eqb (length p) 7 seven, clear, eq-eqb _ _ number, lt-ltb _ _ more) (refl, refl)

    -- or finished after the last."
    pub number-last : s.stage ≡ Confirm → info_error p ≡ false → info_number p ≡ s.frame → s.frame + 1 ≡ frame_count s.size → next.state ≡ Finished
    unfolding meaning kind_meaning info_meaning informed confirmed round_over advanced has_next
    number-last at clear number last = rw (fit, info, at, eq-eqb (length p) 7 seven, clear, eq-eqb _ _ number, le-ltb (s.frame + 1) (frame_count s.size) (omega (arith, last)))

    -- Any other number: "stays".
    pub number-other : s.stage ≡ Confirm → info_error p ≡ false → (info_number p ≡ s.frame → ⊥) → (next.stage ≡ Confirm) × (next.frame ≡ s.frame)
    unfolding meaning kind_meaning info_meaning informed confirmed round_over waited
    number-other at clear number = rw (fit, info, at, eq-eqb (length p) 7 seven, clear, ne_eqb _ _ number) (refl, refl)

    -- "The error flag at B or D: given up at once."
    pub flagged_b : s.stage ≡ Compare → info_error p ≡ true → next.state ≡ GivenUp
    unfolding meaning kind_meaning info_meaning informed round_over
    flagged_b at set = rw (fit, info, at, eq-eqb (length p) 7 seven, set)

    pub flagged_d : s.stage ≡ Confirm → info_error p ≡ true → next.state ≡ GivenUp
    unfolding meaning kind_meaning info_meaning informed round_over
    flagged_d at set = rw (fit, info, at, eq-eqb (length p) 7 seven, set)

-- "Any other answer, or none: stays." No bytes are no answer, on every link.
pub nothing-heard : (l : Link) (s : Sender) (file : List ℕ) → meaning s file (link_read l []) ≡ Stay
unfolding meaning
nothing-heard l s file = rw (no_bytes l)

-- A nack 3 or 6 tells the sender on every link that its frame was taken: CAN's tells no number.
pub taken_on : (l : Link) (e : ℕ) → taken_error (Some e) ≡ true → taken_error (error_carried (carries_error l) TelecommandNack (Some e)) ≡ true
unfolding error_carried taken_error
taken_on Uart e h = h
taken_on Rs485 e h = h
taken_on Can e h = refl
taken_on Csp e h = h

-- A round without a step forward.
module _ (s : Sender) (stage : Stage) where
  -- "The fiftieth round in a row without a step forward: given up."
  pub fiftieth_ends : s.since ≡ 49 → ((waited s stage).state ≡ GivenUp) × ((waited s stage).since ≡ 50)
  unfolding waited one_more
  fiftieth_ends h = rw h (refl, refl)

  -- None before it is the last.
  pub earlier_goes_on : s.since < 49 → ((waited s stage).state ≡ Running) × ((waited s stage).since ≡ s.since + 1)
  unfolding waited one_more
  earlier_goes_on h = rw (lt-ltb (s.since + 1) 50 (omega (arith, h))) (refl, omega (arith, h))

-- The round in which the error flag ends it counts with the others.
pub flagged-counts : (s : Sender) → s.since < 50 → (round_over s Flagged).since ≡ s.since + 1
unfolding round_over one_more
flagged-counts s h = omega (arith, h)

-- "Its rounds are over": a sender that has ended stays as it is.
pub ended_hears_lem : (s : Sender) (file b : List ℕ) → is_running s.state ≡ false → hear s file b ≡ given s tt
unfolding hear
ended_hears_lem s file b e = rw e
