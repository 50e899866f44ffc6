-- What a round counts: each case of it, by the steps of its stages. So a sender has had at most the rounds since its last step and fifty for each
-- step, by arithmetic.
use Rattle.std.specs.Prelude.{None, Option, Some, ℕ}
use Prim.Native.Nat.{ℕ, ◌+◌, ◌*◌, ◌%◌, ◌≤◌, ◌<◌}
use mathlib.Core.Bool.{Bool, true, false, cond, ◌&&◌}
use mathlib.Core.List.{List}
use mathlib.Core.Path.{◌≡◌, refl}
use native.Mathlib.Omega.{arith}
use borrow.Author.Tests.{ltb-true}
use lib.Dec.{ltb, eqb}
use lib.ListN.{length}
use Rattle.message_rules.proofs.Answers.{after-given}
use Rattle.message_rules.specs.Answer.{Answer, refused, given}
use Rattle.message_rules.specs.declared.Kind.{Kind}
use Rattle.message_rules.specs.declared.Kind.TheVariants as KindOf
use Rattle.message_rules.specs.declared.Message.{Message}
use Rattle.file_rules.specs.Checksum.{checksum}
use Rattle.file_rules.specs.File.{file_frame}
use Rattle.link_rules.specs.Link.{link_read}
use Rattle.link_rules.specs.declared.Link.{Link}
use Rattle.round_rules.specs.Requester.{is_running}
use Rattle.round_rules.specs.declared.State.{State}
use Rattle.round_rules.specs.declared.State.TheVariants.{Running, Finished, GivenUp}
use Rattle.sender_rules.specs.Hearing.{fits, taken_error, info_number, info_size, info_checksum, info_error, compared, confirmed, informed, ack_meaning, nack_meaning, info_meaning, kind_meaning, meaning, stage_steps, steps, most_waits, one_more, waited, has_next, advanced, round_over, hear}
use Rattle.sender_rules.specs.Sender.{new_sender}
use Rattle.sender_rules.specs.declared.Meaning.{Meaning}
use Rattle.sender_rules.specs.declared.Meaning.TheVariants.{Stay, Forward, Differs, Flagged}
use Rattle.sender_rules.specs.declared.Sender.{Sender}
use Rattle.sender_rules.specs.declared.Stage.{Stage}
use Rattle.sender_rules.specs.declared.Stage.TheVariants.{Setup, Frame, Back, Compare, Take, Confirm}
use Rattle.sender_rules.proofs.Situations.{sender_at}

-- A round makes a step forward, and none is since it; or it makes none, and is one more since the last. Below fifty the sender runs on.
pub data Counts (s s' : Sender) : Type 0 where
  step : s'.rounds ≡ (s.rounds + 1) % 4294967296 → s'.since ≡ 0 → steps s' ≡ steps s + 1 → Counts s s'
  none : s'.rounds ≡ (s.rounds + 1) % 4294967296 → s'.since ≡ one_more s → steps s' ≡ steps s → (is_running s'.state ≡ true → s.since + 1 < 50) → Counts s s'

-- Only at B can an answer differ.
abbrev Possible : Meaning → Stage → Type 0
Possible Stay stage = Unit
Possible Forward stage = Unit
Possible Differs stage = stage ≡ Compare
Possible Flagged stage = Unit

either : (b : Bool) (m n : Meaning) (stage : Stage) → Possible m stage → Possible n stage → Possible (cond b m n) stage
either true m n stage h k = h
either false m n stage h k = k

informs : (p : List ℕ) (m : Meaning) (stage : Stage) → Possible m stage → Possible (informed p m) stage
unfolding informed
informs p m stage h = either (eqb (length p) 7) (cond (info_error p) Flagged m) Stay stage (either (info_error p) Flagged m stage tt h) tt

info_possible : (stage : Stage) (file : List ℕ) (i : ℕ) (p : List ℕ) → Possible (info_meaning stage file i p) stage
unfolding info_meaning compared confirmed
info_possible Setup file i p = tt
info_possible Frame file i p = tt
info_possible Back file i p = tt
info_possible Compare file i p =
    let frame = file_frame file i in
    informs p (compared frame p) Compare (either (eqb (info_size p) (length frame) && eqb (info_checksum p) (checksum frame)) Forward Differs Compare tt refl)
info_possible Take file i p = tt
info_possible Confirm file i p = informs p (confirmed i p) Confirm (either (eqb (info_number p) i) Forward Stay Confirm tt tt)

ack_possible : (stage : Stage) → Possible (ack_meaning stage) stage
unfolding ack_meaning
ack_possible Setup = tt
ack_possible Frame = tt
ack_possible Back = tt
ack_possible Compare = tt
ack_possible Take = tt
ack_possible Confirm = tt

nack_possible : (stage : Stage) (e : Option ℕ) → Possible (nack_meaning stage e) stage
unfolding nack_meaning
nack_possible Setup e = tt
nack_possible Frame e = tt
nack_possible Back e = tt
nack_possible Compare e = tt
nack_possible Take e = either (taken_error e) Forward Stay Take tt tt
nack_possible Confirm e = tt

kind_possible : (k : Kind) (s : Sender) (file : List ℕ) (m : Message) (p : List ℕ) → Possible (kind_meaning k s file m p) s.stage
unfolding kind_meaning
kind_possible KindOf.Telecommand s file m p = tt
kind_possible KindOf.TelecommandAck s file m p = ack_possible s.stage
kind_possible KindOf.TelecommandNack s file m p = nack_possible s.stage m.error
kind_possible KindOf.TelemetryRequest s file m p = tt
kind_possible KindOf.TelemetryResponse s file m p = info_possible s.stage file s.frame p
kind_possible KindOf.TelemetryNack s file m p = tt
kind_possible KindOf.Event s file m p = tt

possible : (s : Sender) (file : List ℕ) (x : Answer Message (List ℕ)) → Possible (meaning s file x) s.stage
unfolding meaning
possible s file (refused n) = tt
possible s file (given m p) = either (fits s m) (kind_meaning m.kind s file m p) Stay s.stage (kind_possible m.kind s file m p) tt

ended_clash : {P : Type 0} → false ≡ true → P
ended_clash e = absurd (let z : ◌≡◌ {A = ℕ} 0 1 = cc in omega arith)

-- A sender at the stage before A has a job. That holds of every sender that was started, whatever it heard.
abbrev pub JobAt : Stage → Option ℕ → Type 0
JobAt Setup None = ⊥
JobAt Setup (Some n) = Unit
JobAt Frame job = Unit
JobAt Back job = Unit
JobAt Compare job = Unit
JobAt Take job = Unit
JobAt Confirm job = Unit

module _ (l : Link) (source destination n : ℕ) (job : Option ℕ) (f since rounds : ℕ) (x : State) (on : x ≡ Running) where
  abbrev at_stage : Stage → Sender
  at_stage stage = sender_at l source destination n job f stage since rounds x

  -- A round without a step,
  waits : (stage next : Stage) → stage_steps job stage ≡ stage_steps job next → Counts (at_stage stage) (waited (at_stage stage) next)
  unfolding waited steps
  waits stage next same = by (ltb (since + 1) most_waits) refl
    where
      by : (t : Bool) → ltb (since + 1) most_waits ≡ t → Counts (at_stage stage) (waited (at_stage stage) next)
      by true e = rw (e, on) (none refl refl (omega (arith, same)) (λ r. ltb-true (since + 1) most_waits e))
      by false e = rw (e, on) (none refl refl (omega (arith, same)) (λ r. ended_clash r))

  -- and with the answer that the stage waits for: first the setup's ack, of a sender with a job.
  first : (j : Option ℕ) → job ≡ j → JobAt Setup j → Counts (at_stage Setup) (round_over (at_stage Setup) Forward)
  unfolding round_over advanced steps
  first None e j = elim j [ ]
  first (Some n) e j = rw (on, e) (step refl refl (omega arith))

  forward : (stage : Stage) → JobAt stage job → Counts (at_stage stage) (round_over (at_stage stage) Forward)
  unfolding round_over advanced steps
  forward Setup j = first job refl j
  forward Frame j = rw on (step refl refl (omega arith))
  forward Back j = waits Back Compare refl
  forward Compare j = rw on (step refl refl (omega arith))
  forward Take j = rw on (step refl refl (omega arith))
  forward Confirm j = by (has_next (at_stage Confirm)) refl
    where
      by : (t : Bool) → has_next (at_stage Confirm) ≡ t → Counts (at_stage Confirm) (round_over (at_stage Confirm) Forward)
      by true q = rw (q, on) (step refl refl (omega arith))
      by false q = rw (q, on) (step refl refl (omega arith))

  over : (m : Meaning) (stage : Stage) → JobAt stage job → Possible m stage → Counts (at_stage stage) (round_over (at_stage stage) m)
  unfolding round_over steps
  over Stay stage j p = waits stage stage refl
  over Forward stage j p = forward stage j
  over Differs stage j p = waits stage Back (rw p refl)
  over Flagged stage j p = rw on (none refl refl (omega arith) (λ r. ended_clash r))

-- No answer leads to the stage before A.
onward : (s : Sender) (stage : Stage) → s.stage ≡ stage → JobAt (round_over s Forward).stage (round_over s Forward).job
unfolding round_over advanced waited has_next
onward s Setup e = rw e tt
onward s Frame e = rw e tt
onward s Back e = rw e tt
onward s Compare e = rw e tt
onward s Take e = rw e tt
onward s Confirm e = by (has_next s) refl
  where
    by : (t : Bool) → has_next s ≡ t → JobAt (round_over s Forward).stage (round_over s Forward).job
    by true q = rw (e, q) tt
    by false q = rw (e, q) tt

job-stays : (s : Sender) (m : Meaning) → JobAt s.stage s.job → JobAt (round_over s m).stage (round_over s m).job
unfolding round_over waited
job-stays s Stay j = j
job-stays s Forward j = onward s s.stage refl
job-stays s Differs j = tt
job-stays s Flagged j = j

still : (x : State) → is_running x ≡ true → x ≡ Running
still Running e = refl
still Finished e = ended_clash e
still GivenUp e = ended_clash e

-- So does every answer call of a sender that runs and has a job where its stage wants one, whatever the answer.
pub hear-counts : (s : Sender) (file b : List ℕ) (s' : Sender) → is_running s.state ≡ true → JobAt s.stage s.job → hear s file b ≡ given s' tt
    → Counts s s' × JobAt s'.stage s'.job
unfolding hear
hear-counts s file b s' on j e =
    let m = meaning s file (link_read s.link b) in
    let next : round_over s m ≡ s' = (after-given _ _ s' tt tt (rw on at e)).1 in
    rw (← next) (over s.link s.source s.destination s.size s.job s.frame s.since s.rounds s.state (still s.state on) m s.stage j (possible s file _), job-stays s m j)

-- All rounds of a sender are at most those since its last step and fifty for each step; while it runs, fewer than fifty are since. At the stage
-- before A it has a job.
pub record RoundsWithin (s : Sender) : Type 0 where
  pub most : s.rounds ≤ s.since + 50 * steps s
  pub few : is_running s.state ≡ true → s.since < 50
  pub job : JobAt s.stage s.job

pub start-within : (l : Link) (source destination n : ℕ) (job : Option ℕ) → RoundsWithin (new_sender l source destination n job)
unfolding new_sender steps
start-within l source destination n None = record { most = omega arith; few = λ e. omega arith; job = tt }
start-within l source destination n (Some j) = record { most = omega arith; few = λ e. omega arith; job = tt }

counts-within : (s s' : Sender) → s.since < 50 → s.rounds ≤ s.since + 50 * steps s → JobAt s'.stage s'.job → Counts s s' → RoundsWithin s'
unfolding one_more
counts-within s s' few had j (step r i k) = record { most = omega (arith, r, i, k, few, had); few = λ e. omega (arith, i); job = j }
counts-within s s' few had j (none r i k w) = record { most = omega (arith, r, i, k, few, had); few = λ e. omega (arith, i, w e); job = j }

pub hear-within : (s : Sender) (file b : List ℕ) (s' : Sender) → RoundsWithin s → hear s file b ≡ given s' tt → RoundsWithin s'
unfolding hear
hear-within s file b s' h e = by (is_running s.state) refl
  where
    by : (t : Bool) → is_running s.state ≡ t → RoundsWithin s'
    by true on = let g = hear-counts s file b s' on h.job e in counts-within s s' (h.few on) h.most g.1 g.0
    by false over = let same : s ≡ s' = cc (rw over at e) in rw (← same) h
