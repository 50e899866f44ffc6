-- Every sequence of rounds gives a legal list, whoever asks: where no call of a round is refused, its calls lead from one round to the next.
use Prim.Native.Nat.{suc}
use mathlib.Core.Bool.{Bool, true, false, ◌&&◌}
use mathlib.Core.List.{List, [], ◌∷◌, ◌++◌}
use mathlib.Core.Path.{◌≡◌, refl, ap}
use lib.ListN.{length}
use Rattle.message_rules.specs.Answer.{within, after, require}
use Rattle.round_rules.specs.Requester.{shared, Requester}
use Rattle.round_rules.specs.Legal.{Place, begun, asked, arrived, repeated, between, Legal, stops, work_done, request_made, request_arrives, request_repeats, delivered, request_lost, answer_lost, twice, ended_works, ended_asks}
use Rattle.round_rules.specs.Schedule.{comes_back, is_good, goods, output, exchange, requested, round_calls, scheduled, Realised}
use Rattle.round_rules.specs.declared.Fate.{Fate}
use Rattle.round_rules.specs.declared.Fate.TheVariants.{Delivered, RequestLost, AnswerLost, Twice}
use Rattle.round_rules.specs.declared.Round.{Round}
use Rattle.round_rules.specs.World.{World, Call, works, asks, arrives, runs_on, does, run, is_refused, answer_check, is_failed, call_check}
use Rattle.round_rules.proofs.Lists.{run-append}
use Rattle.round_rules.proofs.Steady.{runs, ended, Shape, Steady, Free, HasEnded, Invariant, clash}

-- No call of a list is refused.
unfoldable pub Unrefused : {S : Type 0} → Requester S → World S → List Call → Type 0
Unrefused a w [] = Unit
Unrefused a w (c ∷ h) = (is_refused a w c ≡ false) × Unrefused a (does a w c) h

pub goods-length : (rs : List Round) → length (goods rs) ≡ length rs
unfolding goods
goods-length [] = refl
goods-length (r ∷ rs) = ap suc (goods-length rs)

both_ways : (d : Bool) → (d && true ≡ d) × (d && false ≡ false)
both_ways true = (refl, refl)
both_ways false = (refl, refl)

-- A requester that runs writes a request, and the exchange follows; one that has ended writes none.
module _ {S : Type 0} (a : Requester S) (w : World S) (f : Fate) where
  requested-runs : runs_on a w ≡ true → requested a w f ≡ asks shared output ∷ exchange a (does a w (asks shared output)) f
  unfolding requested
  requested-runs e = rw e

  requested-ended : runs_on a w ≡ false → requested a w f ≡ asks shared output ∷ []
  unfolding requested
  requested-ended e = rw e

module _ {S : Type 0} (a : Requester S) (k : Shape S) where
  abbrev Between : World S → List Bool → k.Note → Type 0
  Between w past n = Invariant k w past n between

  -- Calls that lead to such a situation between two rounds, none refused, and are legal with these rounds in front of a legal list.
  pub record Plays (Q : World S → List Bool → k.Note → Type 0) (w : World S) (p : Place) (h : List Call) (rounds : List Bool) : Type 0 where
    pub free : Unrefused a w h
    pub past : List Bool
    pub note : k.Note
    pub kept : Q (run a w h) past note
    pub legal : (rest : List Call) (rs : List Bool) → Legal a (run a w h) between rest rs → Legal a w p (h ++ rest) (rounds ++ rs)

  module _ (Q : World S → List Bool → k.Note → Type 0) where
    none : (w : World S) (past : List Bool) (n : k.Note) → Q w past n → Plays Q w between [] []
    unfolding run Unrefused
    none w past n q = record { free = tt; past = past; note = n; kept = q; legal = λ rest rs r. r }

    -- One call in front,
    first : (w : World S) (p p' : Place) (c : Call) (h : List Call) (rounds : List Bool) → is_refused a w c ≡ false
        → ((rest : List Call) (rs : List Bool) → Legal a (does a w c) p' rest rs → Legal a w p (c ∷ rest) rs)
        → Plays Q (does a w c) p' h rounds → Plays Q w p (c ∷ h) rounds
    unfolding run Unrefused
    first w p p' c h rounds e step g = record { free = (e, g.free); past = g.past; note = g.note; kept = g.kept; legal = λ rest rs r. step _ _ (g.legal rest rs r) }

    -- and the call that ends a round.
    last : (w : World S) (p : Place) (c : Call) (r : Bool) (past : List Bool) (n : k.Note) → is_refused a w c ≡ false
        → ((rest : List Call) (rs : List Bool) → Legal a (does a w c) between rest rs → Legal a w p (c ∷ rest) (r ∷ rs))
        → Q (does a w c) past n → Plays Q w p (c ∷ []) (r ∷ [])
    unfolding run Unrefused
    last w p c r past n e step q = record { free = (e, tt); past = past; note = n; kept = q; legal = step }

module _ {S : Type 0} {a : Requester S} {k : Shape S} (st : Steady a k) (f : Free a k) where
  -- An exchange, from the written request on,
  exchange_plays : (fate : Fate) (d : Bool) (w : World S) (past : List Bool) (n : k.Note) → k.Running w past n (asked d)
      → Plays a k (Between a k) w (asked d) (exchange a w fate) ((d && comes_back fate) ∷ [])
  unfolding exchange does
  exchange_plays Delivered d w past n h =
      let free = f.once_free w past n d h in
      let g = st.arrives_once w past n d output free h in
      let hears = f.hears_free _ past _ (arrived d) _ g in
      rw (both_ways d).0
      (first a k (Between a k) w (asked d) (arrived d) (arrives w.request shared output) _ _ free (λ rest rs. request_arrives free)
      (last a k (Between a k) _ (arrived d) _ d _ _ hears (λ rest rs. delivered hears) (st.hears_once _ past _ d hears g)))
  exchange_plays RequestLost d w past n h =
      let hears = f.hears_free w past n (asked d) [] h in
      rw (both_ways d).1 (last a k (Between a k) w (asked d) _ false _ _ hears (λ rest rs. request_lost hears) (st.hears_nothing w past n (asked d) hears h))
  exchange_plays AnswerLost d w past n h =
      let free = f.once_free w past n d h in
      let g = st.arrives_once w past n d output free h in
      let hears = f.hears_free _ past _ (arrived d) [] g in
      rw (both_ways d).1
      (first a k (Between a k) w (asked d) (arrived d) (arrives w.request shared output) _ _ free (λ rest rs. request_arrives free)
      (last a k (Between a k) _ (arrived d) _ false _ _ hears (λ rest rs. answer_lost hears) (st.hears_nothing _ past _ (arrived d) hears g)))
  exchange_plays Twice d w past n h =
      let free = f.once_free w past n d h in
      let g = st.arrives_once w past n d output free h in
      let free' = f.again_free _ past _ d g in
      let g' = st.arrives_again _ past _ d output free' g in
      let hears = f.hears_free _ past _ (repeated d) _ g' in
      rw (both_ways d).0
      (first a k (Between a k) w (asked d) (arrived d) (arrives w.request shared output) _ _ free (λ rest rs. request_arrives free)
      (first a k (Between a k) _ (arrived d) (repeated d) _ _ _ free' (λ rest rs. request_repeats free')
      (last a k (Between a k) _ (repeated d) _ d _ _ hears (λ rest rs. twice hears) (st.hears_second _ past _ d hears g'))))

  -- the request in front of it,
  requested_plays : (fate : Fate) (d : Bool) (w : World S) (past : List Bool) (n : k.Note) → k.Running w past n (begun d)
      → Plays a k (Between a k) w (begun d) (requested a w fate) ((d && comes_back fate) ∷ [])
  requested_plays fate d w past n h =
      let on = st.goes_on w past n (begun d) h in
      let free = f.asks_free w past n (begun d) h in
      rw (requested-runs a w fate on)
      (first a k (Between a k) w (begun d) (asked d) _ _ _ free (λ rest rs. request_made on free)
      (exchange_plays fate d _ past n (st.asks_one w past n d output free h)))

  -- and the work step, done or not.
  pub round_plays : (r : Round) (w : World S) (past : List Bool) (n : k.Note) → k.Running w past n between → Plays a k (Between a k) w between (round_calls a w r) (is_good r ∷ [])
  unfolding round_calls is_good
  round_plays r w past n h = by r.worked refl
    where
      by : (d : Bool) → r.worked ≡ d → Plays a k (Between a k) w between (round_calls a w r) (is_good r ∷ [])
      by true e =
          let on = st.goes_on w past n between h in
          let free = f.works_free w past n between h in
          rw e (first a k (Between a k) w between (begun true) _ _ _ free (λ rest rs. work_done on free) (requested_plays r.fate true _ past _ (st.works_one w past n free h)))
      by false e = rw e (requested_plays r.fate false w past n h)

  -- After the end the calls of a round are no round.
  asks_plays : (fate : Fate) (w : World S) (past : List Bool) (n : k.Note) → HasEnded k w past n → Plays a k (HasEnded k) w between (requested a w fate) []
  unfolding is_refused call_check answer_check is_failed within after require does
  asks_plays fate w past n h =
      let over = st.is_over w past n h in
      rw (requested-ended a w fate over)
      (first a k (HasEnded k) w between between (asks shared output) [] [] (rw (st.asks_no_more w.requester shared over)) (λ rest rs. ended_asks over) (none a k (HasEnded k) _ past n h))

  ended_plays : (r : Round) (w : World S) (past : List Bool) (n : k.Note) → HasEnded k w past n → Plays a k (HasEnded k) w between (round_calls a w r) []
  unfolding round_calls does
  ended_plays r w past n h = by r.worked refl
    where
      by : (d : Bool) → r.worked ≡ d → Plays a k (HasEnded k) w between (round_calls a w r) []
      by true e =
          let over = st.is_over w past n h in
          let free = f.works_on_free w past n h in
          rw e (first a k (HasEnded k) w between between (works shared) _ [] free (λ rest rs. ended_works over free) (asks_plays r.fate _ past _ (st.works_on w past n free h)))
      by false e = rw e (asks_plays r.fate w past n h)

  -- From a round to the next nothing is refused, and the invariant holds.
  pub next-round : (r : Round) (w : World S) (past : List Bool) (n : k.Note) → Invariant k w past n between
      → Unrefused a w (round_calls a w r) × ((past' : List Bool) × ((n' : k.Note) × Invariant k (run a w (round_calls a w r)) past' n' between))
  next-round r w past n (runs h) = let g = round_plays r w past n h in (g.free, (g.past, (g.note, g.kept)))
  next-round r w past n (ended h) = let g = ended_plays r w past n h in (g.free, (g.past, (g.note, ended g.kept)))

  ended_schedule : (rs : List Round) (w : World S) (past : List Bool) (n : k.Note) → HasEnded k w past n
      → Legal a w between (scheduled a w rs) [] × (runs_on a (run a w (scheduled a w rs)) ≡ false)
  unfolding scheduled run
  ended_schedule [] w past n h = (stops, st.is_over w past n h)
  ended_schedule (r ∷ rs) w past n h =
      let one = ended_plays r w past n h in
      let more = ended_schedule rs _ one.past one.note one.kept in
      (one.legal _ [] more.0, rw (run-append a w (round_calls a w r) (scheduled a (run a w (round_calls a w r)) rs)) more.1)

  pub schedules : (rs : List Round) (w : World S) (past : List Bool) (n : k.Note) → Invariant k w past n between → Realised a w rs
  unfolding scheduled goods
  schedules [] w past n h = record { rounds = []; later = []; legal = stops; same = refl; over = λ e. refl }
  schedules (r ∷ rs) w past n (runs h) =
      let one = round_plays r w past n h in
      let more = schedules rs _ one.past one.note one.kept in
      record {
        rounds = is_good r ∷ more.rounds;
        later = more.later;
        legal = one.legal _ _ more.legal;
        same = ap (λ (x : List Bool). is_good r ∷ x) more.same;
        over = λ e. more.over (rw (run-append a w (round_calls a w r) _) at e);
      }
  schedules (r ∷ rs) w past n (ended h) =
      let idle = ended_schedule (r ∷ rs) w past n h in
      record { rounds = []; later = goods (r ∷ rs); legal = idle.0; same = refl; over = λ e. clash (runs_on a (run a w (scheduled a w (r ∷ rs)))) e idle.1 }
