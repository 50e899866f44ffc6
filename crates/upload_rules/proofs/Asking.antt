-- The sender's request call: what it writes at each stage is legal on every link, so it is under way as the unit will read it.
use Rattle.std.specs.Prelude.{None, Option, Some, ℕ}
use Prim.Native.Nat.{ℕ, ◌≤◌, zero-le}
use mathlib.Core.Bool.{Bool, true, false}
use mathlib.Core.List.{List}
use mathlib.Core.Path.{◌≡◌, refl}
use native.Mathlib.Omega.{arith}
use borrow.Author.Tests.{eq-eqb, le-leb}
use lib.Dec.{leb}
use lib.ListN.{length}
use Rattle.message_rules.specs.Answer.{Answer, given, require, after, within, about}
use Rattle.message_rules.specs.Checks.{id_legal, payload_legal, error_legal, field_checks, error_told}
use Rattle.message_rules.specs.Kinds.{inside}
use Rattle.little_endian_rules.proofs.Laws.{to-length}
use Rattle.file_rules.specs.Setup.{setup_payload}
use Rattle.file_rules.proofs.Frames.{frame-most}
use Rattle.file_rules.proofs.Setup.{written-length}
use Rattle.link_rules.proofs.RoundTrip.{Underway, Arrives}
use Rattle.sender_rules.specs.Sender.{request_kind, request_id, request_payload, request_message, same_file, request}
use Rattle.round_rules.specs.Requester.{sent, shared, lent}
use Rattle.sender_rules.specs.Sending.{sending}
use Rattle.sender_rules.specs.declared.Sender.{Sender}
use Rattle.sender_rules.specs.declared.Stage.{Stage}
use Rattle.sender_rules.specs.declared.Stage.TheVariants.{Setup, Frame, Back, Compare, Take, Confirm}
use Rattle.round_rules.specs.declared.State.TheVariants.{Running}
use Rattle.round_rules.specs.World.{World, asks, bytes_or, does, is_refused, answer_check, is_failed, call_check}
use Rattle.upload_rules.proofs.Exchange.{request_of, request_at, Plain, request_arrives_lem}
use Rattle.upload_rules.proofs.Table.{Upload, sender, Asked}

-- An answer that is not refused for want of room is the answer.
pub unrefused : {A : Type 0} (out : List ℕ) (x : Answer A (List ℕ)) (a : A) (b : List ℕ) → x ≡ given a b → is_failed (answer_check (within out x)) ≡ false → within out x ≡ given a b
unfolding within after require is_failed answer_check
unrefused out x a b e h = rw e (by (leb (length b) (length out)) refl (rw e at h))
  where
    by : (t : Bool) → leb (length b) (length out) ≡ t → is_failed (answer_check (within out (given a b))) ≡ false → within out (given a b) ≡ given a b
    by true q h = rw q
    by false q h = absurd (let z : ◌≡◌ {A = ℕ} 0 1 = cc (rw q at h) in omega arith)

-- Every request is legal for its kind: a setup has few bytes.
setup-most : (n : ℕ) (job : Option ℕ) → length (setup_payload n job) ≤ 256
unfolding setup_payload
setup-most n None = omega arith
setup-most n (Some number) = omega (arith, written-length n number)

request-plain : (stage : Stage) (s t : ℕ) (job : Option ℕ) (file : List ℕ) (f : ℕ) → Plain (request_of (request_kind stage) (request_id stage) s t) (request_payload stage job file f)
unfolding error_told field_checks id_legal payload_legal error_legal inside require request_payload
request-plain Setup s t job file f = record { plain = refl; tells = refl; fields = rw (le-leb 0 _ zero-le, le-leb _ 256 (setup-most (length file) job)) }
request-plain Frame s t job file f = record { plain = refl; tells = refl; fields = rw (le-leb 0 _ zero-le, le-leb _ 256 (frame-most file f)) }
request-plain Back s t job file f = record { plain = refl; tells = refl; fields = rw (le-leb 0 _ zero-le, le-leb _ 256 (frame-most file f)) }
request-plain Compare s t job file f = record { plain = refl; tells = refl; fields = refl }
request-plain Take s t job file f = record { plain = refl; tells = refl; fields = rw (to-length 2 f) }
request-plain Confirm s t job file f = record { plain = refl; tells = refl; fields = refl }

request-sent : (u : Upload) (stage : Stage) (f : ℕ) → Arrives u.unit.link (request_at u.source u.destination stage) (request_payload stage u.job u.file f)
request-sent u stage f =
    request_arrives_lem u.unit.link u.source u.destination u.unit.own (request_id stage) (request_kind stage) (request_payload stage u.job u.file f) u.addressed (request-plain stage u.source u.destination u.job u.file f)

-- The request of a running sender.
pub asks-bytes : (u : Upload) (s : Sender) (stage : Stage) (f since rounds : ℕ) → s ≡ sender u f stage since rounds Running
    → (b : List ℕ) × (request s u.file ≡ given sent b) × Underway u.unit.link (request_at u.source u.destination stage) (request_payload stage u.job u.file f) b
unfolding request request_message same_file about after require
asks-bytes u s stage f since rounds e =
    let sent = request-sent u stage f in
    (sent.0, rw (e, eq-eqb (length u.file) (length u.file) refl, sent.1.wrote), sent.1)

pub asks-request : (u : Upload) (w : World Sender) (stage : Stage) (f since rounds : ℕ) (out : List ℕ) → w.requester ≡ sender u f stage since rounds Running
    → is_refused (sending u.file) w (asks shared out) ≡ false → Asked u (does (sending u.file) w (asks shared out)) stage f
unfolding is_refused call_check does lent bytes_or
asks-request u w stage f since rounds out e h =
    let written = asks-bytes u w.requester stage f since rounds e in
    rw (unrefused out (request w.requester u.file) sent written.0 written.1 h) written.2
