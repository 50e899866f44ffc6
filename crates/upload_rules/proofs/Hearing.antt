-- What the sender's answer call does to the table: a step forward, a round more without one, or the end.
use Rattle.std.specs.Prelude.{None, Option, Some, ℕ}
use Prim.Native.Nat.{ℕ, ◌+◌, ◌*◌, ◌%◌, ◌<◌}
use mathlib.Core.Bool.{Bool, true, false}
use mathlib.Core.List.{List, [], ◌∷◌, ◌++◌}
use mathlib.Core.Path.{◌≡◌, refl, ap}
use native.Mathlib.Omega.{arith}
use borrow.Author.Tests.{ltb-true, ltb-false}
use lib.Dec.{ltb}
use lib.ListN.{length}
use Rattle.sender_rules.specs.Hearing.{stage_steps, most_waits, one_more, waited, has_next, advanced, round_over}
use Rattle.sender_rules.specs.declared.Meaning.TheVariants.{Stay, Forward}
use Rattle.sender_rules.specs.declared.Sender.{Sender}
use Rattle.sender_rules.specs.declared.Stage.{Stage}
use Rattle.sender_rules.specs.declared.Stage.TheVariants.{Setup, Frame, Back, Compare, Take, Confirm}
use Rattle.round_rules.specs.declared.State.TheVariants.{Running, Finished, GivenUp}
use Rattle.round_rules.specs.Legal.{Place}
use Rattle.round_rules.specs.World.{World}
use Rattle.round_rules.proofs.Counting.{length-round, tally_waits, tally-over, tally-steps}
use Rattle.sender_rules.proofs.Sizes.{count-legal}
use Rattle.sender_rules.proofs.Steps.{JobAt}
use Rattle.round_rules.proofs.Steady.{runs, ended}
use Rattle.upload_rules.proofs.Table.{Upload, Situation, closed, free, loaded, pending, Stands, Goes, Told, frames, sender, RunningState, gave_up, done, RunsOrEnded, few_steps, job-most}

-- Whether no frame comes after frame f, or one does.
last_frame : (u : Upload) (f since rounds : ℕ) → has_next (sender u f Confirm since rounds Running) ≡ false → f < frames u → f + 1 ≡ frames u
unfolding has_next
last_frame u f since rounds e h = omega (arith, ltb-false (f + 1) (frames u) e)

next-frame : (u : Upload) (f since rounds : ℕ) → has_next (sender u f Confirm since rounds Running) ≡ true → f + 1 < frames u
unfolding has_next
next-frame u f since rounds e = ltb-true (f + 1) (frames u) e

-- Setup's ack is a step: a sender at that stage has a job.
set_up_lem : (job : Option ℕ) → JobAt Setup job → (f : ℕ) → 4 * f + stage_steps job Setup + 1 ≡ 4 * f + stage_steps job Frame
set_up_lem (Some n) j f = omega arith
set_up_lem None j f = elim j [ ]

module _ (u : Upload) (w : World Sender) (past : List Bool) (told : Told) where
  abbrev pub handed : Sender → World Sender
  handed s = record { device = w.device; store = w.store; requester = s; request = w.request; answer = w.answer }

  -- A round more: far below what the counter holds.
  counts : (p : Place) (r : Bool) (h : RunningState u w past told p) → (length past + 1) % 4294967296 ≡ length (past ++ (r ∷ []))
  counts p r h = rw (length-round past r) (omega (arith, h.below, h.tally.few, h.tally.rounds, few_steps u.job h.row.stage, job-most u.job, (count-legal (length u.file) u.legal).1))

  -- A round without a step forward.
  pub stays : (p : Place) (h : RunningState u w past told p) → RunsOrEnded u (handed (round_over (sender u h.row.frame h.row.stage h.since (length past) Running) Stay)) (past ++ (false ∷ [])) told
  unfolding round_over waited one_more
  stays p h = by (ltb (h.since + 1) most_waits) refl
    where
      by : (t : Bool) → ltb (h.since + 1) most_waits ≡ t → RunsOrEnded u (handed (round_over (sender u h.row.frame h.row.stage h.since (length past) Running) Stay)) (past ++ (false ∷ [])) told
      by true e =
          let more : one_more (sender u h.row.frame h.row.stage h.since (length past) Running) ≡ h.since + 1 = omega (arith, ltb-true (h.since + 1) most_waits e) in
          rw (e, more) (runs (record {
            row = h.row;
            since = h.since + 1;
            sends = ap (λ (n : ℕ). sender u h.row.frame h.row.stage (h.since + 1) n Running) (counts p false h);
            place = tt;
            below = h.below;
            tally = tally_waits h.tally (omega (arith, ltb-true (h.since + 1) most_waits e));
          }))
      by false e =
          let most = one_more (sender u h.row.frame h.row.stage h.since (length past) Running) in
          rw e (ended (gave_up (record {
            row = h.row;
            since = most;
            sends = ap (λ (n : ℕ). sender u h.row.frame h.row.stage most n GivenUp) (counts p false h);
            none_good = tally-over h.tally (omega (arith, ltb-false (h.since + 1) most_waits e));
          })))

  -- The first arrival at a stage,
  onward : (p : Place) (r : Bool) (h : RunningState u w past told p) (f : ℕ) (stage : Stage) → Stands stage h.row.situation f h.row.stored → JobAt stage u.job → f < frames u
      → 4 * h.row.frame + stage_steps u.job h.row.stage + 1 ≡ 4 * f + stage_steps u.job stage → RunsOrEnded u (handed (sender u f stage 0 ((length past + 1) % 4294967296) Running)) (past ++ (r ∷ [])) told
  onward p r h f stage stands job below step =
      runs (record {
        row = record { stage = stage; frame = f; stored = h.row.stored; situation = h.row.situation; unit = h.row.unit; stands = stands; job = job };
        since = 0;
        sends = ap (λ (n : ℕ). sender u f stage 0 n Running) (counts p r h);
        place = tt;
        below = below;
        tally = rw (← step) (tally-steps h.tally r);
      })

  -- or past D the next frame, or the finish.
  past_last : (p : Place) (r : Bool) (h : RunningState u w past told p) → h.row.stage ≡ Confirm → h.row.situation ≡ free → h.row.stored ≡ h.row.frame + 1
      → RunsOrEnded u (handed (round_over (sender u h.row.frame Confirm h.since (length past) Running) Forward)) (past ++ (r ∷ [])) told
  unfolding round_over advanced
  past_last p r h e c i = by (has_next (sender u h.row.frame Confirm h.since (length past) Running)) refl
    where
      by : (t : Bool) → has_next (sender u h.row.frame Confirm h.since (length past) Running) ≡ t → RunsOrEnded u (handed (round_over (sender u h.row.frame Confirm h.since (length past) Running) Forward)) (past ++ (r ∷ [])) told
      by true q = rw q (onward p r h (h.row.frame + 1) Frame (rw c i) tt (next-frame u h.row.frame h.since (length past) q) (rw e (omega arith)))
      by false q =
          let last : h.row.frame + 1 ≡ frames u = last_frame u h.row.frame h.since (length past) q h.below in
          rw q (ended (done (record {
            frame = h.row.frame;
            since = 0;
            unit = rw (← last, ← i, ← c) h.row.unit;
            sends = ap (λ (n : ℕ). sender u h.row.frame Confirm 0 n Finished) (counts p r h);
            last = last;
          })))

  -- A round with a step forward.
  pub goes : (p : Place) (r : Bool) (h : RunningState u w past told p) → Goes h.row.stage h.row.situation
      → RunsOrEnded u (handed (round_over (sender u h.row.frame h.row.stage h.since (length past) Running) Forward)) (past ++ (r ∷ [])) told
  unfolding round_over advanced
  goes p r h g = by h.row.stage refl h.row.situation refl h.row.stands g
    where
      by : (stage : Stage) → h.row.stage ≡ stage → (b : Situation) → h.row.situation ≡ b → Stands stage b h.row.frame h.row.stored → Goes stage b
          → RunsOrEnded u (handed (round_over (sender u h.row.frame h.row.stage h.since (length past) Running) Forward)) (past ++ (r ∷ [])) told
      by Setup e free c s g = rw e (onward p r h h.row.frame Frame (rw c (omega (arith, s.0, s.1))) tt h.below (rw e (set_up_lem u.job (rw e at h.row.job) h.row.frame)))
      by Frame e loaded c s g = rw e (onward p r h h.row.frame Compare (rw c s) tt h.below (rw e (omega arith)))
      by Compare e loaded c s g = rw e (onward p r h h.row.frame Take (rw c s) tt h.below (rw e (omega arith)))
      by Take e free c s g = rw e (onward p r h h.row.frame Confirm (rw c s) tt h.below (rw e (omega arith)))
      by Take e pending c s g = rw e (onward p r h h.row.frame Confirm (rw c s) tt h.below (rw e (omega arith)))
      by Confirm e free c s g = rw e (past_last p r h e c s)
      by Setup e closed c s g = elim g [ ]
      by Setup e loaded c s g = elim s [ ]
      by Setup e pending c s g = elim s [ ]
      by Frame e closed c s g = elim s [ ]
      by Frame e free c s g = elim g [ ]
      by Frame e pending c s g = elim s [ ]
      by Back e b c s g = elim s [ ]
      by Compare e closed c s g = elim s [ ]
      by Compare e free c s g = elim s [ ]
      by Compare e pending c s g = elim s [ ]
      by Take e closed c s g = elim s [ ]
      by Take e loaded c s g = elim g [ ]
      by Confirm e closed c s g = elim s [ ]
      by Confirm e loaded c s g = elim s [ ]
      by Confirm e pending c s g = elim g [ ]
